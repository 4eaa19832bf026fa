-- The places of members and of their initialisers, by which the code finds them.
use Rattle.std.specs.Prelude.{ℕ, suc, Bool, not, ◌&&◌, if◌then◌else◌, nat_eq, List, [], ◌∷◌, Option, Some, None, slice_get, option_and_then, option_to_list, Vec}
use Rattle.std.specs.BTreeMap.{BTreeMap, get}
use Rattle.std.specs.List.{flat_map}
use Rattle.std.specs.Ordering.{nat_cmp}
use Rattle.agxx_base.specs.declared.ids.NameId.{NameId}
use Rattle.cxx_tree.specs.declared.node.Placed.{Placed}
use Rattle.cxx_tree.specs.StmtTree.{StmtTree}
use Rattle.cxx_tree.specs.ProgramTree.{InitTree}
use Rattle.cxx_normal.specs.Initialisers.{names, names_base, assignments_of}

-- ---- places of names

-- the places of the names with a number, counted on from one
abbrev pub places_from : ℕ → ℕ → List NameId → List ℕ
places_from number at [] = []
places_from number at (first ∷ rest) =
    if nat_eq first.0 number then at ∷ places_from number (suc at) rest else places_from number (suc at) rest

abbrev pub places_of : ℕ → List NameId → List ℕ
places_of number ids = places_from number 0 ids

abbrev pub items_of : {A : Type 0} → Option (Vec ℕ A) → List ℕ
items_of None = []
items_of (Some places) = places.items

-- what a table has for the names with a number
abbrev pub ids_at : {A : Type 0} → BTreeMap ℕ (Vec ℕ A) → ℕ → List ℕ
ids_at table number = items_of (get nat_cmp table number)

-- ---- places of initialisers

-- whether an initialiser is that of a member
abbrev pub is_for : Option (Placed NameId) → NameId → InitTree → Bool
is_for base id i = names id i.name && not (names_base base i)

-- the place of a member's initialiser, counted on from one; the last of several, or else what was found before
abbrev pub init_from : Option (Placed NameId) → NameId → ℕ → List InitTree → Option ℕ → Option ℕ
init_from base id at [] found = found
init_from base id at (first ∷ rest) found = init_from base id (suc at) rest (if is_for base id first then Some at else found)

abbrev pub init_of : Option (Placed NameId) → List InitTree → NameId → Option ℕ
init_of base inits id = init_from base id 0 inits None

-- the place of the initialiser of the member at a place
abbrev pub init_at : Option (Placed NameId) → List NameId → List InitTree → ℕ → Option ℕ
init_at base members inits place = option_and_then (init_of base inits) (slice_get members place)

-- the places of the initialisers of members, in the order of the members
abbrev pub order_of : Option (Placed NameId) → List NameId → List InitTree → List ℕ
order_of base members inits = flat_map (λ id. option_to_list (init_of base inits id)) members

abbrev pub assignment_of_any : Option InitTree → List StmtTree
assignment_of_any None = []
assignment_of_any (Some i) = assignments_of i.name i.arguments

-- the assignment of the initialiser at a place
abbrev pub assignment_at : List InitTree → ℕ → List StmtTree
assignment_at inits place = assignment_of_any (slice_get inits place)
