use Rattle.std.proofs.Common.{◌≡◌, length, option_map}
use Rattle.std.specs.List.{list_any}
use Rattle.cxx_names.specs.Declarations.{class_at}
use Rattle.cxx_names.specs.LookUp as spec
use Rattle.cxx_names.proofs.declarations.Declared.derives.Given as goal

abbrev pub invariant-loop-next : goal.invariant-loop-next
invariant-loop-next l = list_any (spec.same_class l.from) l.lineage ≡ spec.derives l.self l.fn.class l.from

abbrev pub decreases-loop-next : goal.decreases-loop-next
decreases-loop-next l = length l.lineage
