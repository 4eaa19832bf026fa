use Rattle.std.proofs.Common.{◌≡◌, drop, map}
use Rattle.cxx_tree.specs.ProgramTree.{init_tree}
use Rattle.cxx_core.specs.ElaboratedProgram.{base_arguments}
use Rattle.cxx_elaborate.proofs.elaborator.Elaborator.base_arguments.Given as goal

abbrev pub invariant-loop-init : goal.invariant-loop-init
invariant-loop-init l =
    base_arguments l.self l.scope l.base (map init_tree (drop l.init-index l.inits)) ≡ base_arguments l.self l.scope l.base (map init_tree l.inits)
