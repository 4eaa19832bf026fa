-- A scope stands unchanged before what is declared later.
use Rattle.std.proofs.Common.{◌≡◌, ℕ, ◌≤◌, ◌∙◌, ap, arith, Bool, true, false, [], ◌∷◌, ◌++◌, take, length, is_some, if◌then◌else◌}
use Rattle.std.proofs.lemmas.List.{take-append-le, length-take}
use Rattle.cxx_tree.specs.StmtTree as s
use Rattle.cxx_names.specs.declared.types.Thing.{Thing}
use Rattle.cxx_names.specs.Tables.{named, with_name}
use Rattle.cxx_core.specs.Meanings.{Scope, Within}
use Rattle.cxx_core.specs.ElaboratedStmt.{scope_after}

-- the first scope stands before what the second one has more
pub record Stands (before after : Scope) : Type 0 where
  pub is : take (length before) after ≡ before

stands-name-by : (a b : Scope) (name : ℕ) (t : Thing) (known : Bool) → Stands a b → Stands a (if known then b else b ++ (name, t) ∷ [])
stands-name-by a b name t true stands = stands
stands-name-by a b name t false stands =
    let inside : length a ≤ length b = omega (arith, length-take (length a) b, ap length stands.is) in
    record { is = take-append-le _ _ _ inside ∙ stands.is }

stands-name : (a b : Scope) (name : ℕ) (t : Thing) → Stands a b → Stands a (with_name b name t)
stands-name a b name t = stands-name-by a b name t (is_some (named b name))

pub stands-after : (w : Within) (a b : Scope) (stmt : s.StmtTree) → Stands a b → Stands a (scope_after w b stmt)
stands-after w a b (s.local l) = stands-name a b _ _
stands-after w a b (s.thread x) = stands-name a b _ _
stands-after w a b _ = λ stands. stands
