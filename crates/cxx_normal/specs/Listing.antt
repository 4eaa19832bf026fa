-- A class's items as they are put behind each other, each with a label where one has to stand. This is what the code
-- does; `Labels` says what comes of it.
use Rattle.std.specs.Prelude.{ℕ, List, [], ◌∷◌, ◌++◌, map}
use Rattle.agxx_base.specs.declared.place.Place.{Place}
use Rattle.cxx_tree.specs.declared.program.Access.{Access}
use Rattle.cxx_tree.specs.ProgramTree.{ItemTree, label, member, function, ctor, dtor, item_tree}
use Rattle.cxx_normal.specs.declared.listing.Listing.{Listing}
use Rattle.cxx_normal.specs.Labels.{labelled_item}
use Rattle.cxx_normal.specs.Numbers.{number_item}

pub record ListingTree : Type 0 where
  -- the place of labels
  pub at : Place
  -- the access in force behind the items
  pub shown : Access
  -- the access that the next item is to have
  pub access : Access
  pub items : List ItemTree

abbrev pub listing_tree : Listing → ListingTree
listing_tree l = record { at = l.at; shown = l.shown; access = l.access; items = map item_tree l.items }

-- no items yet, where this access is in force
abbrev pub empty_listing : Place → Access → ListingTree
empty_listing at access = record { at = at; shown = access; access = access; items = [] }

abbrev pub with_item : ListingTree → ItemTree → ListingTree
with_item l item =
    record { at = l.at; shown = l.access; access = l.access; items = l.items ++ labelled_item l.at l.shown l.access item [] }

abbrev pub put : ListingTree → ItemTree → ListingTree
put l (label at access) = record l { access = access }
put l (member m) = with_item l (member m)
put l (function f) = with_item l (function f)
put l (ctor c) = with_item l (ctor c)
put l (dtor d) = with_item l (dtor d)

-- an item that is numbered and put
abbrev pub put_numbered : ListingTree × ℕ → ItemTree → ListingTree × ℕ
put_numbered w item = let x = number_item item w.1 in (put w.0 x.0, x.1)

abbrev pub put_each : ListingTree × ℕ → List ItemTree → ListingTree × ℕ
put_each w [] = w
put_each w (first ∷ rest) = put_each (put_numbered w first) rest

-- items without nodes
abbrev pub put_all : ListingTree → List ItemTree → ListingTree
put_all l [] = l
put_all l (first ∷ rest) = put_all (put l first) rest
