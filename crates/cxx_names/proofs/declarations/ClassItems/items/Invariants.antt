use Rattle.std.proofs.Common.{◌≡◌, drop, map}
use Rattle.cxx_tree.specs.ProgramTree.{item_tree}
use Rattle.cxx_names.specs.Declarations.{with_items}
use Rattle.cxx_names.proofs.declarations.ClassItems.items.Given as goal

abbrev pub invariant-loop-item : goal.invariant-loop-item
invariant-loop-item l = with_items l.self (map item_tree (drop l.item-index l.items)) ≡ with_items l.fn.self (map item_tree l.items)
