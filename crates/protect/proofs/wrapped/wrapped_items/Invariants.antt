use Rattle.std.proofs.Common.{◌≡◌, ◌++◌, drop, map}
use Rattle.cxx_tree.specs.ProgramTree.{item_tree}
use Rattle.protect.specs.Protected.{wrapped_item}
use Rattle.protect.proofs.wrapped.wrapped_items.Given as goal

-- the items so far, and then those that are left, are all
abbrev pub invariant-loop-item : goal.invariant-loop-item
invariant-loop-item l =
    map item_tree l.wrapped ++ map (wrapped_item l.names l.parts) (map item_tree (drop l.item-index l.items))
    ≡ map (wrapped_item l.names l.parts) (map item_tree l.items)
