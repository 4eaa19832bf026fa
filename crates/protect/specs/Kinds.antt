-- Guards by the names of classes, of which a class has the first.
use Rattle.std.specs.Prelude.{ℕ, List, [], ◌∷◌}
use Rattle.cxx_names.specs.Tables.{with_name}
use Rattle.guards.specs.declared.guard.Guard.{Guard}
use Rattle.guards.specs.declared.guard.GuardKind.{GuardKind}

-- behind others
abbrev pub kinds_after : List (ℕ × GuardKind) → List Guard → List (ℕ × GuardKind)
kinds_after kinds [] = kinds
kinds_after kinds (guard ∷ guards) = kinds_after (with_name kinds guard.class.0 guard.kind) guards

abbrev pub kinds : List Guard → List (ℕ × GuardKind)
kinds guards = kinds_after [] guards
