-- What holds of a result, whichever it is.
use Rattle.std.proofs.Common.{◌≡◌, Result, Ok, Err, ◌∙◌}
use Rattle.std.specs.Prelude.{IfOk, OnOk}

pub always : {T E P : Type 0} (r : Result T E) → P → OnOk r P
always (Ok a) p = p
always (Err e) p = tt

pub told-also : {T E : Type 0} (r : Result T E) (a b : T) → a ≡ b → IfOk r (λ x. x ≡ a) → IfOk r (λ x. x ≡ b)
told-also (Ok x) a b e h = h ∙ e
told-also (Err x) a b e h = tt
