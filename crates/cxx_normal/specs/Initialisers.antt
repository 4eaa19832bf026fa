-- A member initialiser becomes an assignment at the beginning of the constructor's body. These stand in the order in
-- which the members are declared; the initialisers of the base stay. A list stays as it is where one of it names neither
-- the base nor a member, names one a second time, or gives a member other than one argument. A name that is both the
-- base's and a member's is the base's.
use Rattle.std.specs.Prelude.{ℕ, Bool, true, false, not, ◌&&◌, ◌||◌, if◌then◌else◌, nat_eq, List, [], ◌∷◌, map, Option, Some, None}
use Rattle.std.specs.List.{list_any, filter, flat_map}
use Rattle.agxx_base.specs.declared.ids.NameId.{NameId}
use Rattle.cxx_tree.specs.declared.node.Placed.{Placed}
use Rattle.cxx_tree.specs.declared.expr.Base.TheVariants as base_of
use Rattle.cxx_tree.specs.declared.expr.Left.{Left}
use Rattle.cxx_tree.specs.declared.expr.Left.TheVariants as left_of
use Rattle.cxx_tree.specs.ExprTree.{ExprTree, ExprTrees, no_exprs, more_exprs}
use Rattle.cxx_tree.specs.StmtTree.{assign, StmtTree, simple, StmtTrees, more_stmts, BlockTree, braces}
use Rattle.cxx_tree.specs.ProgramTree.{InitTree, CtorTree, ItemTree, label, member, function, ctor, dtor, ClassTree}

abbrev pub names : NameId → Placed NameId → Bool
names id name = nat_eq id.0 name.item.0

-- the members of a class, in order of declaration
abbrev pub members_in : ItemTree → List NameId
members_in (label at access) = []
members_in (member m) = m.name.item ∷ []
members_in (function f) = []
members_in (ctor c) = []
members_in (dtor d) = []

abbrev pub names_base : Option (Placed NameId) → InitTree → Bool
names_base None i = false
names_base (Some base) i = names base.item i.name

abbrev pub names_member : List NameId → InitTree → Bool
names_member members i = list_any (λ id. names id i.name) members

abbrev pub is_one : ExprTrees → Bool
is_one no_exprs = false
is_one (more_exprs first no_exprs) = true
is_one (more_exprs first (more_exprs second rest)) = false

-- whether an initialiser names the base, or a member to which it gives one argument
abbrev pub is_meant : Option (Placed NameId) → List NameId → InitTree → Bool
is_meant base members i = names_base base i || (names_member members i && is_one i.arguments)

abbrev pub same_name : InitTree → InitTree → Bool
same_name i other = names i.name.item other.name

-- whether each initialiser is meant so, and none names what an earlier one names
abbrev pub are_meant : Option (Placed NameId) → List NameId → List InitTree → Bool
are_meant base members [] = true
are_meant base members (first ∷ rest) =
    is_meant base members first && (not (list_any (same_name first) rest) && are_meant base members rest)

-- `this->m` for the initialiser of m
abbrev pub own_member : Placed NameId → Left
own_member name = left_of.Member (record { at = name.at; id = record { 0 = 0 } }) (record { base = base_of.This; name = name })

-- `this->m = value;`
abbrev pub assignment : Placed NameId → ExprTree → StmtTree
assignment name value = simple (assign (record { left = own_member name; sign = record { at = name.at; item = None }; value = value }))

-- the assignment of an initialiser's value; without one argument there is none
abbrev pub assignments_of : Placed NameId → ExprTrees → List StmtTree
assignments_of name no_exprs = []
assignments_of name (more_exprs value rest) = assignment name value ∷ []

-- the assignment of an initialiser of this member, unless it is the base's
abbrev pub assignment_if : Option (Placed NameId) → NameId → InitTree → List StmtTree
assignment_if base id i = if names id i.name && not (names_base base i) then assignments_of i.name i.arguments else []

-- the assignment for a member
abbrev pub assignments_for : Option (Placed NameId) → List InitTree → NameId → List StmtTree
assignments_for base inits id = flat_map (assignment_if base id) inits

abbrev pub before : List StmtTree → StmtTrees → StmtTrees
before [] rest = rest
before (first ∷ more) rest = more_stmts first (before more rest)

abbrev pub block_after : List StmtTree → BlockTree → BlockTree
block_after front (braces at stmts) = braces at (before front stmts)

-- the same of what was numbered
abbrev pub before_numbered : List StmtTree → StmtTrees × ℕ → StmtTrees × ℕ
before_numbered front w = (before front w.0, w.1)

abbrev pub block_after_numbered : List StmtTree → BlockTree × ℕ → BlockTree × ℕ
block_after_numbered front w = (block_after front w.0, w.1)

-- an initialiser that stays, alone
abbrev pub if_base : Option (Placed NameId) → InitTree → List InitTree
if_base base i = if names_base base i then i ∷ [] else []

abbrev pub ctor_assigning : Option (Placed NameId) → List NameId → CtorTree → CtorTree
ctor_assigning base members c =
    record c { inits = filter (names_base base) c.inits; body = block_after (flat_map (assignments_for base c.inits) members) c.body }

abbrev pub assigning_ctor : Option (Placed NameId) → List NameId → CtorTree → CtorTree
assigning_ctor base members c = if are_meant base members c.inits then ctor_assigning base members c else c

abbrev pub assigning_item : Option (Placed NameId) → List NameId → ItemTree → ItemTree
assigning_item base members (label at access) = label at access
assigning_item base members (member m) = member m
assigning_item base members (function f) = function f
assigning_item base members (ctor c) = ctor (assigning_ctor base members c)
assigning_item base members (dtor d) = dtor d

-- member initialisers made assignments
abbrev pub assigning : ClassTree → ClassTree
assigning c = record c { items = map (assigning_item c.base (flat_map members_in c.items)) c.items }
