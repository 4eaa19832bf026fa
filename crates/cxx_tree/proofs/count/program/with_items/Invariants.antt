use Rattle.std.proofs.Common.{◌≡◌, ◌+◌, drop, map}
use Rattle.std.specs.Prelude.{sum_by}
use Rattle.cxx_tree.specs.ProgramTree.{item_tree}
use Rattle.cxx_tree.specs.Nodes.{capped, nodes_in_item}
use Rattle.cxx_tree.proofs.count.program.with_items.Given as goal

-- what was counted fits, and with what is left it is the whole
abbrev pub invariant-loop-item : goal.invariant-loop-item
invariant-loop-item l =
    (l.total ≡ capped l.total) × (capped (l.total + sum_by nodes_in_item (map item_tree (drop l.item-index l.items))) ≡ capped (l.fn.count + sum_by nodes_in_item (map item_tree l.items)))
