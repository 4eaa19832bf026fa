-- Lines that are filed one after the other.
use Rattle.std.proofs.Common.{◌≡◌, ◌<◌, ◌+◌, ℕ, zero, suc, List, [], ◌∷◌, ◌++◌, length, take, get_or, refl, ap, sym, subst, ◌∙◌, arith}
use Rattle.flip_plan.specs.declared.flip.PlannedFlip.{PlannedFlip}
use Rattle.step_machine.specs.Total.{Total}
use Rattle.fault_lines.specs.Waiting.{Waiter}
use Rattle.fault_lines.specs.Keeping.{Files, FilesEach}
use Rattle.plan_runs.specs.Watches.{Watched, with_waiting, FilesLine, FilesLines}

files-more : (m : Total) (fs : List PlannedFlip) (f : PlannedFlip) (ws mid more : List Waiter) → FilesEach m fs ws mid → Files m f mid more
    → FilesEach m (fs ++ f ∷ []) ws more
files-more m [] f ws mid more e h = (more, (subst (λ x. Files m f x more) e h, refl))
files-more m (g ∷ gs) f ws mid more e h = (e.0, (e.1.0, files-more m gs f e.0 mid more e.1.1 h))

pub files-none : (m : Total) (w : Watched) → FilesLines m [] w w
files-none m w = record { files = refl; all_else = refl }

pub files-next : (m : Total) (fs : List PlannedFlip) (f : PlannedFlip) (w mid after : Watched) → FilesLines m fs w mid → FilesLine m f mid after
    → FilesLines m (fs ++ f ∷ []) w after
files-next m fs f w mid after e h = record {
  files = files-more m fs f w.queues.waiting mid.queues.waiting after.queues.waiting e.files h.files;
  all_else = h.all_else ∙ ap (with_waiting after.queues.waiting) e.all_else;
}

-- ---- by numbers

take-more : (d : PlannedFlip) (fs : List PlannedFlip) (i : ℕ) → i < length fs → take (suc i) fs ≡ take i fs ++ get_or fs i d ∷ []
take-more d [] i h = absurd (omega (arith, h))
take-more d (f ∷ fs) zero h = refl
take-more d (f ∷ fs) (suc i) h = ap (λ x. f ∷ x) (take-more d fs i (omega (arith, h)))

pub files-at : (m : Total) (fs : List PlannedFlip) (i : ℕ) (d : PlannedFlip) (w mid after : Watched) → i < length fs
    → FilesLines m (take i fs) w mid → FilesLine m (get_or fs i d) mid after → FilesLines m (take (i + 1) fs) w after
files-at m fs i d w mid after l e h =
    let n : i + 1 ≡ suc i = omega arith in
    subst (λ x. FilesLines m x w after) (sym (ap (λ k. take k fs) n ∙ take-more d fs i l))
    (files-next m (take i fs) (get_or fs i d) w mid after e h)
