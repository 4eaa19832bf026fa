use Rattle.std.proofs.Common.{◌≡◌, drop, map}
use Rattle.cxx_tree.specs.ProgramTree.{item_tree}
use Rattle.protect.specs.Protected.{last_access}
use Rattle.protect.proofs.added.last_access.Given as goal

-- behind the items that are left, the access at hand becomes that behind all
abbrev pub invariant-loop-item : goal.invariant-loop-item
invariant-loop-item l = last_access l.access (map item_tree (drop l.item-index l.items)) ≡ last_access l.fn.before (map item_tree l.items)
