use Rattle.cxx_tree.specs.ProgramTree.{class_tree}
use Rattle.cxx_normal.specs.Listing.{listing_tree}
use Rattle.cxx_normal.proofs.Listings.{class-put}
use Rattle.cxx_normal.proofs.numbering.Numbering.items.Goals as goal

pub returns : goal.returns
returns c =
    class-put (class_tree c.args.class.now) c.args.self.now.next (listing_tree c.put_each.new.listing) (listing_tree c.complete.new.self) c.put_each.new.self.next
    (rw (c.new-listing.ensures, c.first_access.ensures, c.in_ok-members.ensures, c.as_slice-items.ensures) at c.in_ok-put_each.ensures)
    (rw c.as_slice-items.ensures at c.in_ok-complete.ensures)
