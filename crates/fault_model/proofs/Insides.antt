-- While somebody is inside a part, it has no hits.
use Rattle.std.proofs.Common.{◌≡◌, ℕ, zero, suc, min, if◌then◌else◌, List, [], ◌∷◌, Bool, true, false, ◌||◌, length, Option, Some, None, refl, ap, sym, ◌∙◌}
use Rattle.std.specs.List.{list_any}
use Rattle.agxx_base.specs.declared.ids.ClassId.{ClassId}
use Rattle.flip_plan.specs.declared.flip.PlannedFlip.{PlannedFlip}
use Rattle.step_machine.specs.Setting.{Setting}
use Rattle.step_machine.specs.Turn.{Thread, Threads, thread_at}
use Rattle.step_machine.specs.Machine.{Machine}
use Rattle.step_machine.specs.Total.{Total, reading, next_of}
use Rattle.step_machine.specs.Flips.{FlippedOf, flipped_of, flipped_of_by, with_bits_of, inverted, is_bit}
use Rattle.fault_model.specs.Inside.{is_inside, is_inside_among, is_thread_inside}
use Rattle.fault_model.specs.PlanLines.{PlanLine, flip_of, FaultPlan}
use Rattle.fault_model.specs.Admissible.{Hits, while_out, hits_by, hits_after, part_word_of}
use Rattle.fault_model.specs.Progress.{Progress, with_flip, falls, with_line, still_ahead, after_lines, after_flips, at_moment, is_running, passed, after_turns, before_first}
use Rattle.fault_model.specs.Laws.{InsideIsEmptied}

-- ---- flips move nobody

inside-by : (found : Option ℕ) (o w bit : ℕ) (m : Total) (p : ℕ) (class : ClassId) → is_inside (flipped_of_by found o w bit m).0 p class ≡ is_inside m p class
inside-by None o w bit m p class = refl
inside-by (Some bits) o w bit m p class = go (is_bit m.setting (m.class o) w bit)
  where
    go : (b : Bool) → is_inside (if◌then◌else◌ {A = FlippedOf} b (with_bits_of o w (inverted bits bit) m, true) (m, false)).0 p class ≡ is_inside m p class
    go true = refl
    go false = refl

inside-flipped : (o w bit : ℕ) (m : Total) (p : ℕ) (class : ClassId) → is_inside (flipped_of o w bit m).0 p class ≡ is_inside m p class
unfolding flipped_of
inside-flipped o w bit m p class = inside-by (m.word o w) o w bit m p class

-- ---- no hits while somebody is inside

abbrev IsClear : Total → Hits → Type 0
IsClear m hits = (o : ℕ) (class : ClassId) → is_inside m o class ≡ true → hits o class ≡ []

clear-while-out : (m : Total) (hits : Hits) → IsClear m (while_out m hits)
clear-while-out m hits = λ o class h. ap (λ b. if b then [] else hits o class) h

clear-after : (b : Bool) (m : Total) (f : PlannedFlip) (hits : Hits) → IsClear m hits → IsClear m (hits_after b m f hits)
clear-after false m f hits h = h
clear-after true m f hits h = clear-while-out m (hits_by f (part_word_of m f) hits)

clear-flip : (f : PlannedFlip) (p : Progress) → IsClear p.total p.hits → IsClear (with_flip f p).total (with_flip f p).hits
clear-flip f p h = λ o class e.
    clear-after (flipped_of f.object.0 f.word f.bit p.total).1 p.total f p.hits h o class
    (sym (inside-flipped f.object.0 f.word f.bit p.total o class) ∙ e)

clear-line : (b : Bool) (line : PlanLine) (p : Progress) → IsClear p.total p.hits → IsClear (with_line b line p).total (with_line b line p).hits
clear-line true line p h = clear-flip (flip_of line) p h
clear-line false line p h = h

clear-still : (b : Bool) (line : PlanLine) (p : Progress) → IsClear p.total p.hits → IsClear (still_ahead b line p).total (still_ahead b line p).hits
clear-still true line p h = h
clear-still false line p h = h

clear-lines : (i : ℕ) (lines : List PlanLine) (p : Progress) → IsClear p.total p.hits → IsClear (after_lines i lines p).total (after_lines i lines p).hits
clear-lines i [] p h = h
clear-lines i (line ∷ lines) p h =
    clear-still (falls i p line) line (after_lines i lines (with_line (falls i p line) line p))
    (clear-lines i lines (with_line (falls i p line) line p) (clear-line (falls i p line) line p h))

clear-turns : (plan : FaultPlan) (m : Total) (n : ℕ) → IsClear (after_turns plan (before_first plan m) n).total (after_turns plan (before_first plan m) n).hits
clear-turns plan m zero = λ o class h. refl
clear-turns plan m (suc n) = go (after_turns plan (before_first plan m) n) (clear-turns plan m n)
  where
    go : (p : Progress) → IsClear p.total p.hits → IsClear (passed plan n p).total (passed plan n p).hits
    go p h = by (is_running p.total.state)
      where
        by : (b : Bool) → IsClear (if b then at_moment plan n p else p).total (if b then at_moment plan n p else p).hits
        by true = clear-while-out (next_of (after_flips n p).total (plan.turn n)).0 (after_flips n p).hits
        by false = h

-- ---- on lists

module _ (P : Thread → Bool) where
  abbrev any_among : (ℕ → Thread) → ℕ → Bool
  any_among frames zero = false
  any_among frames (suc n) = P (frames n) || any_among frames n

  swap : (a b c : Bool) → (a || (b || c)) ≡ (b || (a || c))
  swap true true c = refl
  swap true false c = refl
  swap false true c = refl
  swap false false c = refl

  any-shift : (frames : ℕ → Thread) (n : ℕ) → any_among frames (suc n) ≡ (P (frames 0) || any_among (λ t. frames (suc t)) n)
  any-shift frames zero = refl
  any-shift frames (suc n) =
      ap (λ b. P (frames (suc n)) || b) (any-shift frames n)
      ∙ swap (P (frames (suc n))) (P (frames 0)) (any_among (λ t. frames (suc t)) n)

  any-lists : (ths : Threads) → any_among (thread_at ths) (length ths) ≡ list_any P ths
  any-lists [] = refl
  any-lists (fs ∷ ths) = any-shift (thread_at (fs ∷ ths)) (length ths) ∙ ap (λ b. P fs || b) (any-lists ths)

among-is : (s : Setting) (o : ℕ) (class : ClassId) (frames : ℕ → Thread) (n : ℕ) → is_inside_among s o class frames n ≡ any_among (is_thread_inside s o class) frames n
among-is s o class frames zero = refl
among-is s o class frames (suc n) = ap (λ b. is_thread_inside s o class (frames n) || b) (among-is s o class frames n)

inside-lists : (m : Machine) (o : ℕ) (class : ClassId) → is_inside (reading m) o class ≡ list_any (is_thread_inside m.setting o class) m.threads
inside-lists m o class =
    among-is m.setting o class (thread_at m.threads) (length m.threads) ∙ any-lists (is_thread_inside m.setting o class) m.threads

pub inside-is-emptied : InsideIsEmptied
inside-is-emptied = record {
  of_run = λ plan m n. clear-turns plan m (min n plan.limit);
  of_lists = inside-lists;
}
