use Rattle.std.proofs.Common.{◌≡◌, drop, map, []}
use Rattle.cxx_tree.specs.ProgramTree.{init_tree}
use Rattle.cxx_types.specs.Classes.{inits}
use Rattle.cxx_types.proofs.checker.Checker.inits.Given as goal

abbrev pub invariant-loop-init : goal.invariant-loop-init
invariant-loop-init l =
    inits l.context l.base l.class l.before (map init_tree (drop l.init-index l.inits)) l.self ≡ inits l.context l.base l.class [] (map init_tree l.inits) l.fn.self
