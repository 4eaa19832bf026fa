use Rattle.std.proofs.Common.{◌≡◌, drop, map}
use Rattle.cxx_tree.specs.ProgramTree.{item_tree}
use Rattle.guard_rules.specs.Nearest.{through_each}
use Rattle.guard_rules.specs.ThroughDeletes.{through_item}
use Rattle.guard_rules.proofs.deleted.in_items.Given as goal

abbrev pub invariant-loop-item : goal.invariant-loop-item
invariant-loop-item l =
    through_each through_item (map item_tree (drop l.item-index l.items)) l.first ≡ through_each through_item (map item_tree l.items) l.fn.found
