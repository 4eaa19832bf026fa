use Rattle.std.proofs.Common.{◌≡◌, ◌++◌, drop, map}
use Rattle.cxx_tree.specs.ProgramTree.{item_tree, member}
use Rattle.protect.proofs.added.add_members.Given as goal

-- the items so far, and then the members that are left, are all
abbrev pub invariant-loop-member : goal.invariant-loop-member
invariant-loop-member l = map item_tree l.items ++ map member (drop l.member-index l.members) ≡ map item_tree l.fn.items ++ map member l.members
