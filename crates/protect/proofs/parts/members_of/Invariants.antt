use Rattle.std.proofs.Common.{◌≡◌, ◌++◌, drop, map}
use Rattle.std.specs.List.{flat_map}
use Rattle.cxx_tree.specs.ProgramTree.{item_tree}
use Rattle.protect.specs.GuardedParts.{members_in}
use Rattle.protect.proofs.parts.members_of.Given as goal

-- the members so far, and then those of the items that are left, are all
abbrev pub invariant-loop-item : goal.invariant-loop-item
invariant-loop-item l =
    l.members ++ flat_map members_in (map item_tree (drop l.item-index l.items)) ≡ flat_map members_in (map item_tree l.items)
