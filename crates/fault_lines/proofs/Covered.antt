-- Where a line waits for a flip in a part, and one before it has been gone through that does, it isn't admissible.
use Rattle.std.proofs.Common.{◌≡◌, ◌≤◌, ℕ, nat_le, if◌then◌else◌, [], ◌∷◌, Bool, true, false, not, ◌&&◌, refl, ap, sym, subst, ◌∙◌, arith}
use Rattle.std.proofs.lemmas.Bool.Decides.{nat_tests}
use Rattle.agxx_base.specs.declared.ids.ClassId.{ClassId}
use Rattle.flip_plan.specs.declared.flip.PlannedFlip.{PlannedFlip}
use Rattle.step_machine.specs.Total.{Total, same}
use Rattle.step_machine.specs.Flips.{flipped_of}
use Rattle.step_machine.proofs.Same.{same-self}
use Rattle.fault_model.specs.Inside.{is_inside}
use Rattle.fault_model.specs.PlanLines.{line_of, line_by}
use Rattle.fault_model.specs.Admissible.{Hit, Hits, with_hit, while_out, is_admissible, is_admissible_at, hit_of, hits_by, hits_after}
use Rattle.fault_model.specs.Progress.{Progress, with_flip, falls, with_line}
use Rattle.fault_lines.specs.Lines.{IsOn, Inverts}
use Rattle.fault_lines.proofs.Flips.{rest-flip, is-none, is-free, admissible-free}
use Rattle.fault_lines.proofs.Ways.{flip-line}

-- ---- by the part alone

on-free : (m : Total) (hits : Hits) (class : ClassId) (f : PlannedFlip) → IsOn m class f → is_admissible m hits f ≡ is-free m hits f.object.0 class
on-free m hits class f h =
    ap (is_admissible_at m hits f.object.0 f.bit) h.is_word
    ∙ admissible-free m hits f.object.0 f.bit h.word
    ∙ ap (λ b. b && is-free m hits f.object.0 h.word.class) h.is_bit
    ∙ ap (is-free m hits f.object.0) h.of_class

same-part : (m : Total) (hits : Hits) (class : ClassId) (f g : PlannedFlip) → f.object.0 ≡ g.object.0 → IsOn m class f → IsOn m class g
    → is_admissible m hits g ≡ is_admissible m hits f
same-part m hits class f g e h k =
    on-free m hits class g k ∙ ap (λ o. is-free m hits o class) (sym e) ∙ sym (on-free m hits class f h)

-- ---- where the first falls

taken-at : (m : Total) (o : ℕ) (class : ClassId) (hit : Hit) (hits : Hits) → is-free m (while_out m (with_hit o class hit hits)) o class ≡ false
taken-at m o class hit hits = go (is_inside m o class)
  where
    go : (b : Bool) → (not b && is-none (if b then [] else with_hit o class hit hits o class)) ≡ false
    go true = refl
    go false =
        ap (λ b. is-none (if b && same class.0 class.0 then hit ∷ hits o class else hits o class)) (same-self o)
        ∙ ap (λ b. is-none (if b then hit ∷ hits o class else hits o class)) (same-self class.0)

hits-are : (p : Progress) (class : ClassId) (f : PlannedFlip) → IsOn p.total class f → (flipped_of f.object.0 f.word f.bit p.total).1 ≡ true
    → (with_flip f p).hits ≡ while_out p.total (with_hit f.object.0 class (hit_of f) p.hits)
hits-are p class f h e =
    ap (λ b. hits_after b p.total f p.hits) e
    ∙ ap (λ x. while_out p.total (hits_by f x p.hits)) h.is_word
    ∙ ap (λ k. while_out p.total (with_hit f.object.0 k (hit_of f) p.hits)) h.of_class

taken-flip : (p : Progress) (class : ClassId) (f g : PlannedFlip) → f.object.0 ≡ g.object.0 → IsOn p.total class f → IsOn p.total class g
    → (flipped_of f.object.0 f.word f.bit p.total).1 ≡ true → is_admissible (with_flip f p).total (with_flip f p).hits g ≡ false
taken-flip p class f g e h k t =
    ap (λ (n : Total). is_admissible n (with_flip f p).hits g) (rest-flip f p)
    ∙ ap (λ x. is_admissible p.total x g) (hits-are p class f h t)
    ∙ on-free p.total (while_out p.total (with_hit f.object.0 class (hit_of f) p.hits)) class g k
    ∙ ap (λ o. is-free p.total (while_out p.total (with_hit f.object.0 class (hit_of f) p.hits)) o class) (sym e)
    ∙ taken-at p.total f.object.0 class (hit_of f) p.hits

-- ---- whether a line falls

pub falls-waiting : (i : ℕ) (p : Progress) (f : PlannedFlip) → f.waits ≡ true
    → falls i p (line_of f) ≡ (nat_le f.moment i && is_admissible p.total p.hits f)
falls-waiting i p f e = ap (λ b. falls i p (line_by b f)) e

in-time : (m i : ℕ) → m ≤ i → nat_le m i ≡ true
in-time m i h = grind (arith, nat_tests)

pub falls-in-force : (i : ℕ) (p : Progress) (f : PlannedFlip) → f.waits ≡ true → f.moment ≤ i
    → falls i p (line_of f) ≡ is_admissible p.total p.hits f
falls-in-force i p f e h =
    falls-waiting i p f e ∙ ap (λ b. b && is_admissible p.total p.hits f) (in-time f.moment i h)

-- once the first has been gone through, the other isn't admissible
pub covered : (i : ℕ) (p : Progress) (class : ClassId) (f g : PlannedFlip) → f.waits ≡ true → f.moment ≤ i → f.object.0 ≡ g.object.0
    → IsOn p.total class f → IsOn p.total class g → Inverts p.total f → (b : Bool) → falls i p (line_of f) ≡ b
    → is_admissible (with_line b (line_of f) p).total (with_line b (line_of f) p).hits g ≡ false
covered i p class f g w t e h k v true q =
    subst (λ x. is_admissible (with_flip x p).total (with_flip x p).hits g ≡ false) (sym (flip-line f))
    (taken-flip p class f g e h k (v p.hits (sym (falls-in-force i p f w t) ∙ q)))
covered i p class f g w t e h k v false q =
    same-part p.total p.hits class f g e h k ∙ sym (falls-in-force i p f w t) ∙ q
