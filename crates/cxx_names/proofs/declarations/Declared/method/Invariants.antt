use Rattle.std.proofs.Common.{◌≡◌, length, option_map}
use Rattle.std.specs.List.{list_any}
use Rattle.cxx_names.specs.Declarations.{class_at}
use Rattle.cxx_names.specs.LookUp as spec
use Rattle.cxx_names.proofs.declarations.Declared.method.Given as goal

abbrev pub invariant-loop-next : goal.invariant-loop-next
invariant-loop-next l = spec.topmost (λ c. spec.method_by l.name.0 (class_at l.self c)) (option_map spec.lent l.found) l.lineage ≡ spec.method_named l.self l.fn.class l.name.0

abbrev pub decreases-loop-next : goal.decreases-loop-next
decreases-loop-next l = length l.lineage
