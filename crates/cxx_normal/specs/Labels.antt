-- The labels of a class: an item has the access of the last label before it, and a normal class has a label exactly
-- before an item whose access differs from that of what stands before it.
use Rattle.std.specs.Prelude.{Bool, true, false, if◌then◌else◌, List, [], ◌∷◌}
use Rattle.agxx_base.specs.declared.place.Place.{Place}
use Rattle.cxx_tree.specs.declared.program.Access.{Access}
use Rattle.cxx_tree.specs.declared.program.Access.TheVariants as access_of
use Rattle.cxx_tree.specs.declared.program.ClassWord.{ClassWord}
use Rattle.cxx_tree.specs.declared.program.ClassWord.TheVariants as word_of
use Rattle.cxx_tree.specs.ProgramTree.{ItemTree, label, member, function, ctor, dtor, ClassTree}

abbrev pub same_access : Access → Access → Bool
same_access access_of.Public access_of.Public = true
same_access access_of.Public access_of.Protected = false
same_access access_of.Public access_of.Private = false
same_access access_of.Protected access_of.Public = false
same_access access_of.Protected access_of.Protected = true
same_access access_of.Protected access_of.Private = false
same_access access_of.Private access_of.Public = false
same_access access_of.Private access_of.Protected = false
same_access access_of.Private access_of.Private = true

-- the access of what stands before the first label
abbrev pub first_access : ClassWord → Access
first_access word_of.Class = access_of.Private
first_access word_of.Struct = access_of.Public

-- the items that are no labels, each with its access; the access in force comes first
abbrev pub accesses : Access → List ItemTree → List (Access × ItemTree)
accesses access [] = []
accesses access (label at next ∷ rest) = accesses next rest
accesses access (member m ∷ rest) = (access, member m) ∷ accesses access rest
accesses access (function f ∷ rest) = (access, function f) ∷ accesses access rest
accesses access (ctor c ∷ rest) = (access, ctor c) ∷ accesses access rest
accesses access (dtor d ∷ rest) = (access, dtor d) ∷ accesses access rest

-- an item behind a label, if its access isn't the one in force
abbrev pub labelled_item : Place → Access → Access → ItemTree → List ItemTree → List ItemTree
labelled_item at shown access item rest = if same_access shown access then item ∷ rest else label at access ∷ item ∷ rest

-- items with labels at this place where the access changes; the access in force comes first
abbrev pub labelled : Place → Access → List (Access × ItemTree) → List ItemTree
labelled at shown [] = []
labelled at shown ((access, item) ∷ rest) = labelled_item at shown access item (labelled at access rest)

-- the labels made anew, with the place of the class
abbrev pub relabelled : ClassTree → ClassTree
relabelled c = record c { items = labelled c.at (first_access c.word) (accesses (first_access c.word) c.items) }
