use Rattle.std.proofs.Common.{◌≡◌, drop, map}
use Rattle.cxx_tree.specs.ProgramTree.{item_tree}
use Rattle.guard_rules.specs.TooManyMembers.{member_behind}
use Rattle.guard_rules.proofs.members.member_behind.Given as goal

abbrev pub invariant-loop-item : goal.invariant-loop-item
invariant-loop-item l =
    member_behind l.left (map item_tree (drop l.item-index l.items)) ≡ member_behind l.fn.count (map item_tree l.items)
