use Rattle.std.proofs.Common.{◌≡◌, ◌++◌, drop, map}
use Rattle.std.specs.List.{flat_map}
use Rattle.cxx_tree.specs.ProgramTree.{item_tree}
use Rattle.cxx_normal.specs.Initialisers.{members_in}
use Rattle.cxx_normal.proofs.members.ids_of.Given as goal

abbrev pub invariant-loop-item : goal.invariant-loop-item
invariant-loop-item l = l.ids ++ flat_map members_in (map item_tree (drop l.item-index l.items)) ≡ flat_map members_in (map item_tree l.items)
