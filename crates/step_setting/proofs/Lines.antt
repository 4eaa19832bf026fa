-- The numbers of a class and of those above it.
use Rattle.std.proofs.Common.{◌≡◌, ℕ, zero, suc, ◌-◌, ◌<◌, List, [], ◌∷◌, Bool, true, false, nat_eq, Option, Some, slice_get, if◌then◌else◌, refl, sym, ◌∙◌, ap, arith}
use Rattle.agxx_base.specs.declared.ids.ClassId.{ClassId}
use Rattle.cxx_core.specs.CoreProgram.{CoreClass}
use Rattle.step_machine.specs.Setting.{line_in, linked_ids, stands_in}

-- the numbers from one on, by that one
more_ids : (classes : List CoreClass) (n : ℕ) (next : Option ClassId) (number : ClassId) (c : CoreClass) → 0 < n → next ≡ Some number → slice_get classes number.0 ≡ Some c
    → line_in classes n next ≡ number ∷ line_in classes (n - 1) c.base
more_ids classes zero next number c h e f = absurd (omega arith)
more_ids classes (suc n) next number c h e f =
    let k : suc n - 1 ≡ n = omega arith in rw (e, k) (ap (linked_ids (λ b. line_in classes n b) number) f)

passed_on : (class number : ClassId) (ids : List ClassId) → nat_eq class.0 number.0 ≡ false
    → stands_in (Some class) (number ∷ ids) ≡ stands_in (Some class) ids
passed_on class number ids e = rw e refl

-- a class stands above one that it is not exactly where it stands above that one's base
pub stands_above : (classes : List CoreClass) (n : ℕ) (next : Option ClassId) (number class : ClassId) (c : CoreClass) → 0 < n → next ≡ Some number → slice_get classes number.0 ≡ Some c
    → nat_eq class.0 number.0 ≡ false
    → stands_in (Some class) (line_in classes (n - 1) c.base) ≡ stands_in (Some class) (line_in classes n next)
stands_above classes n next number class c h e f g =
    sym (ap (stands_in (Some class)) (more_ids classes n next number c h e f) ∙ passed_on class number (line_in classes (n - 1) c.base) g)
