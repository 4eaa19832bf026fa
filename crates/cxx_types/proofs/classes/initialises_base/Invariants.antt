use Rattle.std.proofs.Common.{◌≡◌, drop, map}
use Rattle.cxx_tree.specs.ProgramTree.{init_tree}
use Rattle.cxx_types.specs.Classes.{initialises_base}
use Rattle.cxx_types.proofs.classes.initialises_base.Given as goal

abbrev pub invariant-loop-init : goal.invariant-loop-init
invariant-loop-init l =
    initialises_base l.base l.class (map init_tree (drop l.init-index l.inits)) ≡ initialises_base l.base l.class (map init_tree l.inits)
