-- Where nobody is moved, what a line waits for stays, and that it never falls.
use Rattle.std.proofs.Common.{◌≡◌, ◌<◌, ◌≤◌, ◌⊎◌, inl, inr, ℕ, Option, Some, None, ap, sym, subst, ◌∙◌}
use Rattle.agxx_base.specs.declared.ids.ClassId.{ClassId}
use Rattle.flip_plan.specs.declared.flip.PlannedFlip.{PlannedFlip}
use Rattle.fault_model.specs.Parts.{part_word_at}
use Rattle.fault_model.specs.Admissible.{part_word_of}
use Rattle.fault_model.specs.Progress.{Progress}
use Rattle.fault_lines.specs.Lines.{IsOn, MovesNobody}
use Rattle.fault_lines.specs.Wakes.{IsFor, IsDead}

module _ (p q : Progress) (h : MovesNobody p q) (f : PlannedFlip) where
  word-still : part_word_of q.total f ≡ part_word_of p.total f
  word-still =
      ap (λ s. part_word_at s (q.total.class f.object.0) f.word) h.setting
      ∙ ap (λ (k : ℕ → Option ClassId). part_word_at p.total.setting (k f.object.0) f.word) h.class

  on-still : (class : ClassId) → IsOn p.total class f → IsOn q.total class f
  on-still class k = record { word = k.word; is_word = word-still ∙ k.is_word; of_class = k.of_class; is_bit = k.is_bit }

  on-before : (class : ClassId) → IsOn q.total class f → IsOn p.total class f
  on-before class k = record { word = k.word; is_word = sym word-still ∙ k.is_word; of_class = k.of_class; is_bit = k.is_bit }

  none-still : p.total.class f.object.0 ≡ None → q.total.class f.object.0 ≡ None
  none-still e = ap (λ (k : ℕ → Option ClassId). k f.object.0) h.class ∙ e

  made-still : f.object.0 < p.total.made → f.object.0 < q.total.made
  made-still l = subst (λ n. f.object.0 < n) (sym h.made) l

  part-still : (class : ClassId) → (p.total.class f.object.0 ≡ None) ⊎ IsOn p.total class f → (q.total.class f.object.0 ≡ None) ⊎ IsOn q.total class f
  part-still class (inl e) = inl (none-still e)
  part-still class (inr k) = inr (on-still class k)

  off-still : (p.total.class f.object.0 ≡ None) ⊎ ((class : ClassId) → IsOn p.total class f → ⊥)
      → (q.total.class f.object.0 ≡ None) ⊎ ((class : ClassId) → IsOn q.total class f → ⊥)
  off-still (inl e) = inl (none-still e)
  off-still (inr off) = inr (λ class k. off class (on-before class k))

  pub for-still : (c : Option ClassId) → IsFor p.total f c → IsFor q.total f c
  for-still None l = subst (λ n. n ≤ f.object.0) (sym h.made) l
  for-still (Some class) k = (made-still k.0, part-still class k.1)

  pub dead-still : IsDead p.total f → IsDead q.total f
  dead-still k = (made-still k.0, off-still k.1)
