-- A global object whose constructor has arguments.
use Rattle.std.proofs.Common.{◌≡◌, ℕ, ◌≤◌, List, [], ◌∷◌, length, Option, Some, refl, sym, ap, ◌∙◌, arith}
use Rattle.agxx_base.specs.declared.ids.ClassId.{ClassId}
use Rattle.agxx_base.specs.declared.place.Place.{Place}
use Rattle.cxx_core.specs.declared.expr.Expr.{Expr}
use Rattle.cxx_core.specs.ExprView.{exprs_core}
use Rattle.step_machine.specs.Setting.{Setting}
use Rattle.step_machine.specs.Item as it
use Rattle.step_machine.specs.Item.{exprs_on}
use Rattle.step_machine.specs.Frame.{Frame}
use Rattle.step_machine.specs.Effects.{Effect, Did, did}
use Rattle.step_machine.specs.ActObjects.{make_by}
use Rattle.step_machine.specs.ActValues.{has}

with_arguments : (es : List Expr) → 1 ≤ length es → (s : Setting) (depth : ℕ) (class_of : ℕ → Option ClassId) (at : Place) (o : ℕ) (class live : ClassId) (f : Frame)
    → make_by s depth class_of at o class (exprs_core es) (Some live) f ≡ has (exprs_on (exprs_core es) (it.build at o class ∷ f.items)) f
with_arguments [] p s depth class_of at o class live f = absurd (omega arith)
with_arguments (e ∷ es) p s depth class_of at o class live f = refl

same_frame : (f : Frame) (e d : Effect) → e ≡ d → ◌≡◌ {A = Did} (f, e) (f, d)
same_frame f e d i = λ k. (f, i k)

-- the arguments are evaluated where the object is live
pub made : (es : List Expr) → 1 ≤ length es → (s : Setting) (depth : ℕ) (class_of : ℕ → Option ClassId) (at : Place) (o : ℕ) (class live : ClassId) (f : Frame)
    → (found : Option ClassId) → found ≡ Some live → (g : Frame) (e d : Effect) → e ≡ d
    → ◌≡◌ {A = Did} (g, d) (did f (has (exprs_on (exprs_core es) (it.build at o class ∷ f.items)) f))
    → ◌≡◌ {A = Did} (g, e) (did f (make_by s depth class_of at o class (exprs_core es) found f))
made es p s depth class_of at o class live f found h g e d i j =
    same_frame g e d i ∙ j
    ∙ sym (ap (did f) (ap (λ x. make_by s depth class_of at o class (exprs_core es) x f) h ∙ with_arguments es p s depth class_of at o class live f))
