use Rattle.std.proofs.Common.{◌≡◌, ◌&&◌, drop, map}
use Rattle.std.specs.BTreeSet.{contains}
use Rattle.std.specs.Ordering.{nat_cmp}
use Rattle.cxx_tree.specs.ProgramTree.{init_tree}
use Rattle.cxx_normal.specs.Initialisers.{are_meant}
use Rattle.cxx_normal.proofs.Places.{all_new}
use Rattle.cxx_normal.proofs.names.are_meant.Given as goal

abbrev pub invariant-loop-init : goal.invariant-loop-init
invariant-loop-init l =
    are_meant l.base l.members (map init_tree l.inits) ≡ all_new (contains nat_cmp l.named) (map init_tree (drop l.init-index l.inits)) && are_meant l.base l.members (map init_tree (drop l.init-index l.inits))
