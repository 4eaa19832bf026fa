use Rattle.std.proofs.Common.{◌≡◌, ◌++◌, drop, map}
use Rattle.cxx_tree.specs.ProgramTree.{item_tree}
use Rattle.cxx_copy.proofs.copier.Copier.items.Given as goal

-- what was copied, and then what is left, is the whole
abbrev pub invariant-loop-item : goal.invariant-loop-item
invariant-loop-item l = map item_tree l.copies ++ map item_tree (drop l.item-index l.items) ≡ map item_tree l.items
