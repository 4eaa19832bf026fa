use Rattle.std.proofs.Common.{◌≡◌, drop, map}
use Rattle.cxx_tree.specs.ProgramTree.{item_tree}
use Rattle.cxx_normal.specs.Initialisers.{assigning_item}
use Rattle.cxx_normal.specs.Listing.{listing_tree, put_each}
use Rattle.cxx_normal.proofs.numbering.Numbering.put_each.Given as goal

-- what was put, and then what is left, is the whole
abbrev pub invariant-loop-item : goal.invariant-loop-item
invariant-loop-item l =
    put_each (listing_tree l.listing, l.self.next) (map (assigning_item l.base l.members) (map item_tree (drop l.item-index l.items))) ≡ put_each (listing_tree l.fn.listing, l.fn.self.next) (map (assigning_item l.base l.members) (map item_tree l.items))
