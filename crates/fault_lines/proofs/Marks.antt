-- The set of hit parts tells what is admissible, and what flips and turns leave.
use Rattle.std.proofs.Common.{◌≡◌, ℕ, zero, suc, if◌then◌else◌, nat_lt, List, [], ◌∷◌, Bool, true, false, not, ◌&&◌, ◌||◌, Option, Some, None, refl, ap, sym, ◌∙◌}
use Rattle.std.specs.List.{list_any}
use Rattle.agxx_base.specs.declared.ids.ClassId.{ClassId}
use Rattle.cxx_arith.specs.Kinds.{width}
use Rattle.flip_plan.specs.declared.flip.PlannedFlip.{PlannedFlip}
use Rattle.step_machine.specs.Setting.{Setting}
use Rattle.step_machine.specs.Turn.{Thread, Threads, thread_at}
use Rattle.step_machine.specs.Machine.{Machine, next}
use Rattle.step_machine.specs.Total.{Total, NextOf, reading, next_of, same}
use Rattle.step_machine.specs.Flips.{FlippedOf, flipped_of, flipped_of_by, with_bits_of, inverted, is_bit}
use Rattle.step_machine.proofs.Same.{same-eq}
use Rattle.step_machine.proofs.Turns.{agree}
use Rattle.fault_model.specs.Parts.{PartWord}
use Rattle.fault_model.specs.Inside.{is_inside, are_inside, is_thread_inside}
use Rattle.fault_model.specs.Admissible.{Hits, Hit, hit_of, hits_by, hits_after, while_out, goes_with, is_admissible_at, part_word_of}
use Rattle.fault_model.specs.Progress.{Progress, with_flip, with_turn}
use Rattle.fault_model.specs.Stays.{is_top_on}
use Rattle.fault_model.proofs.Insides.{inside-is-emptied}
use Rattle.fault_model.proofs.Stays.{stays-change}
use Rattle.fault_lines.specs.Marks.{Marks, Tells, SetsTellHits, is_hit, is_part, with_mark, marked, marked_by, is_open_by, cleared_by}

-- ---- what is admissible

goes-with-none : (hits : List Hit) (bit : ℕ) → goes_with true hits bit ≡ not (is_hit hits)
goes-with-none [] bit = refl
goes-with-none (hit ∷ hits) bit = refl

abbrev AreTold : Marks → Hits → Type 0
AreTold marks hits = (o : ℕ) (class : ClassId) → marks o class ≡ is_hit (hits o class)

abbrev IsClear : Total → Hits → Type 0
IsClear m hits = (o : ℕ) (class : ClassId) → is_inside m o class ≡ true → hits o class ≡ []

admits-by : (m : Total) (f : PlannedFlip) (marks : Marks) (hits : Hits) → AreTold marks hits → (found : Option PartWord)
    → is_admissible_at m hits f.object.0 f.bit found ≡ is_open_by m f found marks
admits-by m f marks hits h None = refl
admits-by m f marks hits h (Some w) =
    ap (λ b. nat_lt f.bit (width w.word.kind) && (not (is_inside m f.object.0 w.class) && b))
    (goes-with-none (hits f.object.0 w.class) f.bit ∙ ap not (sym (h f.object.0 w.class)))

-- ---- which part it is

both : (a b : Bool) → (a && b) ≡ true → (a ≡ true) × (b ≡ true)
both true b e = (refl, e)
both false b e = cc

same-class : (a b : ClassId) → same a.0 b.0 ≡ true → a ≡ b
same-class a b e = λ i. record { 0 = same-eq a.0 b.0 e i }

same-inside : (m : Total) (o p : ℕ) (class k : ClassId) → is_part o class p k ≡ true → is_inside m p k ≡ is_inside m o class
same-inside m o p class k e =
    let h = both (same p o) (same k.0 class.0) e in λ i. is_inside m (same-eq p o h.0 i) (same-class k class h.1 i)

-- ---- flips

inside-by : (found : Option ℕ) (o w bit : ℕ) (m : Total) (p : ℕ) (class : ClassId)
    → is_inside (flipped_of_by found o w bit m).0 p class ≡ is_inside m p class
inside-by None o w bit m p class = refl
inside-by (Some bits) o w bit m p class = go (is_bit m.setting (m.class o) w bit)
  where
    go : (b : Bool) → is_inside (if◌then◌else◌ {A = FlippedOf} b (with_bits_of o w (inverted bits bit) m, true) (m, false)).0 p class ≡ is_inside m p class
    go true = refl
    go false = refl

inside-flipped : (o w bit : ℕ) (m : Total) (p : ℕ) (class : ClassId) → is_inside (flipped_of o w bit m).0 p class ≡ is_inside m p class
unfolding flipped_of
inside-flipped o w bit m p class = inside-by (m.word o w) o w bit m p class

clear-after : (b : Bool) (m : Total) (f : PlannedFlip) (hits : Hits) → IsClear m hits → IsClear m (hits_after b m f hits)
clear-after false m f hits h = h
clear-after true m f hits h = λ o class e. ap (λ b. if b then [] else hits_by f (part_word_of m f) hits o class) e

-- a part that somebody is inside of isn't hit before
hit-out : (b : Bool) (hits : List Hit) → (b ≡ true → hits ≡ []) → is_hit hits ≡ is_hit (if b then [] else hits)
hit-out true hits h = ap is_hit (h refl)
hit-out false hits h = refl

module _ (m : Total) (f : PlannedFlip) (marks : Marks) (hits : Hits) (told : AreTold marks hits) (clear : IsClear m hits) where
  stays : (p : ℕ) (k : ClassId) → marks p k ≡ is_hit (if is_inside m p k then [] else hits p k)
  stays p k = told p k ∙ hit-out (is_inside m p k) (hits p k) (clear p k)

  -- by whether somebody is inside the part that is flipped, and whether this one is that part
  by-word : (w : PartWord) (p : ℕ) (k : ClassId) (b part : Bool) → is_inside m f.object.0 w.class ≡ b → is_part f.object.0 w.class p k ≡ part
      → (if b then marks else with_mark f.object.0 w.class marks) p k
      ≡ is_hit (if is_inside m p k then [] else (if part then hit_of f ∷ hits p k else hits p k))
  by-word w p k true false i e = stays p k
  by-word w p k false false i e = ap (λ x. x || marks p k) e ∙ stays p k
  by-word w p k true true i e =
      let j = same-inside m f.object.0 p w.class k e ∙ i in
      told p k ∙ ap is_hit (clear p k j) ∙ sym (ap (λ x. is_hit (if x then [] else hit_of f ∷ hits p k)) j)
  by-word w p k false true i e =
      let j = same-inside m f.object.0 p w.class k e ∙ i in
      ap (λ x. x || marks p k) e ∙ sym (ap (λ x. is_hit (if x then [] else hit_of f ∷ hits p k)) j)

  marked-by-is : (found : Option PartWord) (p : ℕ) (k : ClassId) → marked_by m f found marks p k ≡ is_hit (while_out m (hits_by f found hits) p k)
  marked-by-is None p k = stays p k
  marked-by-is (Some w) p k = by-word w p k (is_inside m f.object.0 w.class) (is_part f.object.0 w.class p k) refl refl

  marked-is : (b : Bool) (p : ℕ) (k : ClassId) → marked b m f marks p k ≡ is_hit (hits_after b m f hits p k)
  marked-is false p k = told p k
  marked-is true p k = marked-by-is (part_word_of m f) p k

tells-flip : (marks : Marks) (p : Progress) (f : PlannedFlip) → Tells marks p
    → Tells (marked (flipped_of f.object.0 f.word f.bit p.total).1 p.total f marks) (with_flip f p)
tells-flip marks p f h = record {
  hits = marked-is p.total f marks p.hits h.hits h.out (flipped_of f.object.0 f.word f.bit p.total).1;
  out = λ o class e. clear-after (flipped_of f.object.0 f.word f.bit p.total).1 p.total f p.hits h.out o class
      (sym (inside-flipped f.object.0 f.word f.bit p.total o class) ∙ e);
}

-- ---- turns

turn-reads : (p : Progress) (m : Machine) (t : ℕ) → p.total ≡ reading m → (with_turn t p).total ≡ reading (next m t).0
turn-reads p m t e = ap (λ x. (next_of x t).0) e ∙ sym (ap (λ (x : NextOf). x.0) (agree.of_next m t))

-- ---- the frame that runs is inside what it is on

or-true : (a b : Bool) → b ≡ true → (a || b) ≡ true
or-true true b e = refl
or-true false b e = e

any-at : (P : Thread → Bool) (ths : Threads) (t : ℕ) → P [] ≡ false → P (thread_at ths t) ≡ true → list_any P ths ≡ true
any-at P [] t n h = cc
any-at P (fs ∷ ths) zero n h = ap (λ b. b || list_any P ths) h
any-at P (fs ∷ ths) (suc t) n h = or-true (P fs) (list_any P ths) (any-at P ths t n h)

top-inside : (s : Setting) (o : ℕ) (class : ClassId) (fs : Thread) → is_top_on s o class fs ≡ true → is_thread_inside s o class fs ≡ true
top-inside s o class [] h = h
top-inside s o class (f ∷ fs) h = ap (λ b. b || are_inside s o class (f ∷ []) fs) h

top-is-inside : (m : Machine) (t o : ℕ) (class : ClassId) → is_top_on m.setting o class (thread_at m.threads t) ≡ true
    → is_inside (reading m) o class ≡ true
top-is-inside m t o class h =
    inside-is-emptied.of_lists m o class
    ∙ any-at (is_thread_inside m.setting o class) m.threads t refl (top-inside m.setting o class (thread_at m.threads t) h)

-- ---- what is left of the set

cleared-is : (s : Setting) (fs : Thread) (marks : Marks) (o : ℕ) (class : ClassId)
    → cleared_by s fs marks o class ≡ (if is_top_on s o class fs then false else marks o class)
cleared-is s [] marks o class = refl
cleared-is s (f ∷ fs) marks o class = refl

-- by whether the top frame is on it, and whether somebody was inside and is now
left-hit : (on was now mark : Bool) (hits : List Hit) → (was ≡ false → now ≡ true → on ≡ true) → (on ≡ true → now ≡ true)
    → mark ≡ is_hit hits → (was ≡ true → hits ≡ []) → (if on then false else mark) ≡ is_hit (if now then [] else hits)
left-hit true was true mark hits comes stands told clear = refl
left-hit true was false mark hits comes stands told clear = cc (stands refl)
left-hit false was false mark hits comes stands told clear = told
left-hit false true true mark hits comes stands told clear = told ∙ ap is_hit (clear refl)
left-hit false false true mark hits comes stands told clear = cc (comes refl refl)

tells-turn : (marks : Marks) (p : Progress) (m : Machine) (t : ℕ) → p.total ≡ reading m → Tells marks p
    → Tells (cleared_by m.setting (thread_at (next m t).0.threads t) marks) (with_turn t p)
tells-turn marks p m t e h = record {
  hits = λ o class.
      cleared-is m.setting (thread_at (next m t).0.threads t) marks o class
      ∙ left-hit (is_top_on m.setting o class (thread_at (next m t).0.threads t)) (is_inside (reading m) o class)
      (is_inside (reading (next m t).0) o class) (marks o class) (p.hits o class)
      (stays-change.comes m t o class)
      (λ q. top-is-inside (next m t).0 t o class (ap (λ s. is_top_on s o class (thread_at (next m t).0.threads t)) (stays-change.setting m t) ∙ q))
      (h.hits o class)
      (λ q. h.out o class (ap (λ x. is_inside x o class) e ∙ q))
      ∙ sym (ap (λ x. is_hit (while_out x p.hits o class)) (turn-reads p m t e));
  out = λ o class q. ap (λ b. if b then [] else p.hits o class) q;
}

pub sets-tell-hits : SetsTellHits
sets-tell-hits = record {
  admissible = λ marks p f h. admits-by p.total f marks p.hits h.hits (part_word_of p.total f);
  flip = tells-flip;
  turn = tells-turn;
}
