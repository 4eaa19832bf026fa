use Rattle.std.proofs.Common.{◌≡◌, drop, map}
use Rattle.cxx_tree.specs.ProgramTree.{item_tree}
use Rattle.cxx_distinct.specs.NamesIn.{names_in_each, names_in_item}
use Rattle.cxx_distinct.specs.Sights.{seen}
use Rattle.cxx_distinct.proofs.sights.Sights.items.Given as goal

-- the names that were gone through, and then those of what is left, are all
abbrev pub invariant-loop-item : goal.invariant-loop-item
invariant-loop-item l = seen l.self (names_in_each names_in_item (map item_tree (drop l.item-index l.items))) ≡ seen l.fn.self (names_in_each names_in_item (map item_tree l.items))
