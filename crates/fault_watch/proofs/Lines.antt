-- The numbers of a class and of those above it.
use Rattle.std.proofs.Common.{◌≡◌, ℕ, zero, suc, ◌-◌, ◌<◌, List, [], ◌∷◌, Option, Some, None, slice_get, refl, ap, arith}
use Rattle.agxx_base.specs.declared.ids.ClassId.{ClassId}
use Rattle.cxx_core.specs.CoreProgram.{CoreClass}
use Rattle.step_machine.specs.Setting.{line_in, linked_ids}

-- from one on, by that one
pub more-ids : (classes : List CoreClass) (n : ℕ) (next : Option ClassId) (number : ClassId) (c : CoreClass) → 0 < n → next ≡ Some number
    → slice_get classes number.0 ≡ Some c → line_in classes n next ≡ number ∷ line_in classes (n - 1) c.base
more-ids classes zero next number c h e f = absurd (omega arith)
more-ids classes (suc n) next number c h e f =
    let k : suc n - 1 ≡ n = omega arith in rw (e, k) (ap (linked_ids (λ b. line_in classes n b) number) f)

-- from none
pub no-ids : (classes : List CoreClass) (n : ℕ) → line_in classes n None ≡ []
no-ids classes zero = refl
no-ids classes (suc n) = refl

-- from one that isn't there
pub gone-ids : (classes : List CoreClass) (n : ℕ) (number : ClassId) → slice_get classes number.0 ≡ None → line_in classes n (Some number) ≡ []
gone-ids classes zero number f = refl
gone-ids classes (suc n) number f = ap (linked_ids (λ b. line_in classes n b) number) f
