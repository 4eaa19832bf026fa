-- Hits that were admissible go together.
use Rattle.std.proofs.Common.{◌≡◌, ℕ, zero, suc, ◌≤◌, min, nat_lt, nat_eq, if◌then◌else◌, List, [], ◌∷◌, length, Bool, true, false, not, ◌&&◌, Option, Some, None, refl, ap, sym, subst, ◌∙◌, arith, true≢false}
use Rattle.std.specs.List.{list_any}
use Rattle.agxx_base.specs.declared.ids.ClassId.{ClassId}
use Rattle.cxx_arith.specs.Kinds.{width}
use Rattle.flip_plan.specs.declared.flip.PlannedFlip.{PlannedFlip}
use Rattle.step_machine.specs.declared.outcome.State.{State}
use Rattle.step_machine.specs.declared.outcome.State.TheVariants as state
use Rattle.step_machine.specs.Setting.{Setting}
use Rattle.step_machine.specs.Effects as on
use Rattle.step_machine.specs.Effects.{Change, Turn}
use Rattle.step_machine.specs.Total.{Total, OffThread, off_thread, same, change_of, after_of, turn_of, next_if, next_of}
use Rattle.step_machine.specs.Flips.{FlippedOf, flipped_of, flipped_of_by, with_bits_of, inverted, is_bit}
use Rattle.step_machine.proofs.Same.{same-eq}
use Rattle.fault_model.specs.declared.verdict.Verdict.{Verdict}
use Rattle.fault_model.specs.declared.verdict.Verdict.TheVariants.{Admissible, First}
use Rattle.fault_model.specs.Parts.{PartWord, is_single}
use Rattle.fault_model.specs.Inside.{is_inside}
use Rattle.fault_model.specs.PlanLines.{PlanLine, flip_of, FaultPlan}
use Rattle.fault_model.specs.Admissible.{Hit, Hits, with_hit, while_out, goes_with, is_admissible_at, is_admissible, part_word_of, hit_of, hits_by, hits_after}
use Rattle.fault_model.specs.Progress.{Progress, judged, with_flip, falls, with_line, still_ahead, after_lines, after_flips, with_turn, at_moment, is_running, passed, after_turns, before_first, planned_of}
use Rattle.fault_model.specs.Laws.{GoTogether, AdmissibleHits}

-- ---- the setting stays

setting-flipped-by : (found : Option ℕ) (o w bit : ℕ) (m : Total) → (flipped_of_by found o w bit m).0.setting ≡ m.setting
setting-flipped-by None o w bit m = refl
setting-flipped-by (Some bits) o w bit m = go (is_bit m.setting (m.class o) w bit)
  where
    go : (b : Bool) → (if◌then◌else◌ {A = FlippedOf} b (with_bits_of o w (inverted bits bit) m, true) (m, false)).0.setting ≡ m.setting
    go true = refl
    go false = refl

setting-flipped : (o w bit : ℕ) (m : Total) → (flipped_of o w bit m).0.setting ≡ m.setting
unfolding flipped_of
setting-flipped o w bit m = setting-flipped-by (m.word o w) o w bit m

setting-changed : (t : ℕ) (c : Change) (m : Total) → (change_of t c m).setting ≡ m.setting
setting-changed t (on.store o w bits) m = refl
setting-changed t (on.assign name v) m = refl
setting-changed t (on.print text) m = refl
setting-changed t (on.create class words) m = refl
setting-changed t (on.kill o) m = refl
setting-changed t (on.take l) m = refl
setting-changed t (on.free l) m = refl

setting-after : (t : ℕ) (r : Turn) (m : Total) → (after_of t r m).setting ≡ m.setting
setting-after t on.went m = refl
setting-after t (on.changed c) m = setting-changed t c m
setting-after t (on.started f) m = refl
setting-after t on.blocked m = refl
setting-after t on.idle m = refl
setting-after t (on.ended z) m = refl
setting-after t (on.halted o class) m = refl
setting-after t (on.stopped cause at) m = refl

setting-turn : (m : Total) (t : ℕ) (x : Option OffThread) → (turn_of m t x).0.setting ≡ m.setting
setting-turn m t None = refl
setting-turn m t (Some x) = setting-after t _ _

setting-if : (s : State) (m : Total) (t : ℕ) → (next_if s m t).0.setting ≡ m.setting
setting-if state.Running m t = setting-turn m t (off_thread (m.frames t))
setting-if (state.Ended z) m t = refl
setting-if (state.Stopped cause at) m t = refl
setting-if (state.Halted o class) m t = refl
setting-if state.Lost m t = refl

pub setting-next : (m : Total) (t : ℕ) → (next_of m t).0.setting ≡ m.setting
setting-next m t = setting-if m.state m t

-- ---- hits

abbrev Together : Setting → Hits → Type 0
Together s hits = (o : ℕ) (class : ClassId) → GoTogether (is_single s class) (hits o class)

together-while : (s : Setting) (m : Total) (hits : Hits) → Together s hits → Together s (while_out m hits)
together-while s m hits h = λ o class. go (is_inside m o class) o class
  where
    go : (b : Bool) (o : ℕ) (class : ClassId) → GoTogether (is_single s class) (if b then [] else hits o class)
    go true o class = tt
    go false o class = h o class

pub and-left : (a b : Bool) → (a && b) ≡ true → a ≡ true
and-left true b e = refl
and-left false b e = e

and-right : (a b : Bool) → (a && b) ≡ true → b ≡ true
and-right true b e = e
and-right false b e = absurd (true≢false (sym e))

class-eq : (k class : ClassId) → same k.0 class.0 ≡ true → class ≡ k
class-eq k class e = sym (ap (λ (n : ℕ). record { 0 = n }) (same-eq k.0 class.0 e))

together-hit : (s : Setting) (o : ℕ) (class : ClassId) (hit : Hit) (hits : Hits) → Together s hits → goes_with (is_single s class) (hits o class) hit.bit ≡ true → Together s (with_hit o class hit hits)
together-hit s o class hit hits h e = λ p k. go p k (same p o && same k.0 class.0) refl
  where
    go : (p : ℕ) (k : ClassId) (b : Bool) → (same p o && same k.0 class.0) ≡ b → GoTogether (is_single s k) (if b then hit ∷ hits p k else hits p k)
    go p k true q =
        let at : o ≡ p = sym (same-eq p o (and-left (same p o) (same k.0 class.0) q)) in
        let of : class ≡ k = class-eq k class (and-right (same p o) (same k.0 class.0) q) in
        (subst (λ x. goes_with (is_single s x) (hits p x) hit.bit ≡ true) of (subst (λ x. goes_with (is_single s class) (hits x class) hit.bit ≡ true) at e), h p k)
    go p k false q = h p k

-- an admissible flip goes with the hits of its part
goes : (m : Total) (hits : Hits) (o bit : ℕ) (p : PartWord) → is_admissible_at m hits o bit (Some p) ≡ true → goes_with (is_single m.setting p.class) (hits o p.class) bit ≡ true
goes m hits o bit p e =
    and-right (not (is_inside m o p.class)) (goes_with (is_single m.setting p.class) (hits o p.class) bit)
    (and-right (nat_lt bit (width p.word.kind)) (not (is_inside m o p.class) && goes_with (is_single m.setting p.class) (hits o p.class) bit) e)

together-by : (s : Setting) (m : Total) (f : PlannedFlip) (hits : Hits) (found : Option PartWord) → m.setting ≡ s → Together s hits
    → is_admissible_at m hits f.object.0 f.bit found ≡ true → Together s (hits_by f found hits)
together-by s m f hits None q h e = h
together-by s m f hits (Some p) q h e =
    together-hit s f.object.0 p.class (hit_of f) hits h
    (subst (λ x. goes_with (is_single x p.class) (hits f.object.0 p.class) f.bit ≡ true) q (goes m hits f.object.0 f.bit p e))

together-after : (b : Bool) (s : Setting) (m : Total) (f : PlannedFlip) (hits : Hits) → m.setting ≡ s → Together s hits → is_admissible m hits f ≡ true → Together s (hits_after b m f hits)
together-after false s m f hits q h e = h
together-after true s m f hits q h e = together-while s m (hits_by f (part_word_of m f) hits) (together-by s m f hits (part_word_of m f) q h e)

-- ---- a run

abbrev is-admissible : Verdict → Bool
is-admissible Admissible = true
is-admissible (First k) = false

judged-so : (b : Bool) (k : ℕ) (v : Verdict) → judged b k v ≡ Admissible → (b ≡ true) × (v ≡ Admissible)
judged-so true k v e = (refl, e)
judged-so false k Admissible e = absurd (true≢false (sym (ap is-admissible e)))
judged-so false k (First j) e = absurd (true≢false (sym (ap is-admissible e)))

abbrev Fine : Setting → Progress → Type 0
Fine s p = (p.total.setting ≡ s) × (p.verdict ≡ Admissible → Together s p.hits)

fine-flip : (s : Setting) (f : PlannedFlip) (p : Progress) → Fine s p → Fine s (with_flip f p)
fine-flip s f p h = (
  setting-flipped f.object.0 f.word f.bit p.total ∙ h.0,
  λ e. let x = judged-so (is_admissible p.total p.hits f) f.number p.verdict e in
      together-after (flipped_of f.object.0 f.word f.bit p.total).1 s p.total f p.hits h.0 (h.1 x.1) x.0,
)

fine-line : (s : Setting) (b : Bool) (line : PlanLine) (p : Progress) → Fine s p → Fine s (with_line b line p)
fine-line s true line p h = fine-flip s (flip_of line) p h
fine-line s false line p h = h

fine-still : (s : Setting) (b : Bool) (line : PlanLine) (p : Progress) → Fine s p → Fine s (still_ahead b line p)
fine-still s true line p h = h
fine-still s false line p h = h

fine-lines : (s : Setting) (i : ℕ) (lines : List PlanLine) (p : Progress) → Fine s p → Fine s (after_lines i lines p)
fine-lines s i [] p h = h
fine-lines s i (line ∷ lines) p h =
    fine-still s (falls i p line) line (after_lines i lines (with_line (falls i p line) line p))
    (fine-lines s i lines (with_line (falls i p line) line p) (fine-line s (falls i p line) line p h))

fine-turn : (s : Setting) (t : ℕ) (p : Progress) → Fine s p → Fine s (with_turn t p)
fine-turn s t p h =
    (setting-if p.total.state p.total t ∙ h.0, λ e. together-while s (next_of p.total t).0 p.hits (h.1 e))

fine-passed : (s : Setting) (plan : FaultPlan) (i : ℕ) (p : Progress) → Fine s p → Fine s (passed plan i p)
fine-passed s plan i p h = go (is_running p.total.state)
  where
    go : (b : Bool) → Fine s (if b then at_moment plan i p else p)
    go true = fine-turn s (plan.turn i) (after_flips i p) (fine-lines s i p.ahead p h)
    go false = h

fine-turns : (plan : FaultPlan) (m : Total) (n : ℕ) → Fine m.setting (after_turns plan (before_first plan m) n)
fine-turns plan m zero = (refl, λ e o class. tt)
fine-turns plan m (suc n) = fine-passed m.setting plan n (after_turns plan (before_first plan m) n) (fine-turns plan m n)

pub setting-planned : (plan : FaultPlan) (m : Total) (n : ℕ) → (planned_of plan m n).total.setting ≡ m.setting
setting-planned plan m n = (fine-turns plan m (min n plan.limit)).0

-- ---- what it comes to

single : (hits : List Hit) → GoTogether true hits → length hits ≤ 1
single [] h = omega arith
single (hit ∷ []) h = omega arith
single (hit ∷ next ∷ hits) h = absurd (true≢false (sym h.0))

not-true : (b : Bool) → not b ≡ true → b ≡ false
not-true true e = sym e
not-true false e = refl

pub admissible-hits : AdmissibleHits
admissible-hits = record {
  of_run = λ plan m n o class e. (fine-turns plan m (min n plan.limit)).1 e o class;
  of_single = single;
  of_others = λ hit hits h. not-true (list_any (λ (x : Hit). nat_eq x.bit hit.bit) hits) h.0;
}
