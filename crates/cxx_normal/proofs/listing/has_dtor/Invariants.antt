use Rattle.std.proofs.Common.{◌≡◌, drop, map}
use Rattle.std.specs.List.{list_any}
use Rattle.cxx_tree.specs.ProgramTree.{item_tree}
use Rattle.cxx_normal.specs.Completion.{is_dtor}
use Rattle.cxx_normal.proofs.listing.has_dtor.Given as goal

abbrev pub invariant-loop-item : goal.invariant-loop-item
invariant-loop-item l = list_any is_dtor (map item_tree (drop l.item-index l.items)) ≡ list_any is_dtor (map item_tree l.items)
