-- Each rule of the normal form does the same to a tree with its places and numbers of nodes as to one without.
use Rattle.std.proofs.Common.{◌≡◌, ℕ, refl, ap, sym, ◌∙◌, Bool, true, false, not, ◌&&◌, cond, if◌then◌else◌, List, [], ◌∷◌, ◌++◌, map, Option, Some, None, option_map}
use Rattle.std.specs.List.{list_any, filter, flat_map}
use Rattle.std.proofs.lemmas.List.{map-append}
use Rattle.std.proofs.lemmas.List.Folds.{flat_map-map}
use Rattle.agxx_base.specs.declared.ids.NameId.{NameId}
use Rattle.agxx_base.specs.declared.place.Place.{Place}
use Rattle.cxx_tree.specs.declared.node.Placed.{Placed}
use Rattle.cxx_tree.specs.declared.program.Access.{Access}
use Rattle.cxx_tree.specs.ExprTree as e
use Rattle.cxx_tree.specs.StmtTree as s
use Rattle.cxx_tree.specs.ProgramTree as p
use Rattle.cxx_tree.specs.Blank as no
use Rattle.cxx_normal.specs.Labels.{same_access, accesses, labelled_item, labelled, relabelled}
use Rattle.cxx_normal.specs.Completion.{is_ctor, is_dtor, made_ctor, made_dtor, made, completed}
use Rattle.cxx_normal.specs.Initialisers as i
use Rattle.cxx_normal.specs.Entry.{is_return, ends_with_return, return_zero, followed_by, returning_stmts, returning_block, is_main, returning}
use Rattle.cxx_normal.specs.Declarations.{forward, prototype, prototype_of, kept, ordered}
use Rattle.cxx_normal.specs.Normal.{rebuilt_class, rebuilt_decl, rebuilt}

-- ---- lists

map-flat_map : {A B C : Type 0} (f : B → C) (g : A → List B) (h : A → List C) → ((x : A) → map f (g x) ≡ h x) → (xs : List A) → map f (flat_map g xs) ≡ flat_map h xs
map-flat_map f g h each [] = refl
map-flat_map f g h each (x ∷ xs) = map-append f (g x) (flat_map g xs) ∙ rw (each x, map-flat_map f g h each xs)

-- a pass over parts that are blanked before or afterwards
map-pass : {A B : Type 0} (f : B → B) (g h : A → List B) (k : A → A) → ((x : A) → map f (g x) ≡ h (k x)) → (xs : List A) → map f (flat_map g xs) ≡ flat_map h (map k xs)
map-pass f g h k each xs = map-flat_map f g (λ x. h (k x)) each xs ∙ sym (flat_map-map h k xs)

any-mapped : {A : Type 0} (test other : A → Bool) (f : A → A) → ((x : A) → other (f x) ≡ test x) → (xs : List A) → list_any other (map f xs) ≡ list_any test xs
any-mapped test other f same [] = refl
any-mapped test other f same (x ∷ xs) = rw (same x, any-mapped test other f same xs)

filter-mapped : {A : Type 0} (test other : A → Bool) (f : A → A) → ((x : A) → other (f x) ≡ test x) → (xs : List A) → map f (filter test xs) ≡ filter other (map f xs)
filter-mapped test other f same [] = refl
filter-mapped test other f same (x ∷ xs) = rw (same x, ← filter-mapped test other f same xs) (by (test x))
  where
    by : (b : Bool) → map f (cond b (x ∷ filter test xs) (filter test xs)) ≡ cond b (f x ∷ map f (filter test xs)) (map f (filter test xs))
    by true = refl
    by false = refl

-- ---- labels

item-labelled : (at : Place) (shown access : Access) (item : p.ItemTree) (rest : List p.ItemTree)
    → map no.blank_item (labelled_item at shown access item rest) ≡ labelled_item no.no_place shown access (no.blank_item item) (map no.blank_item rest)
item-labelled at shown access item rest = by (same_access shown access)
  where
    by : (b : Bool) → map no.blank_item (if b then item ∷ rest else p.label at access ∷ item ∷ rest) ≡ (if b then no.blank_item item ∷ map no.blank_item rest else p.label no.no_place access ∷ no.blank_item item ∷ map no.blank_item rest)
    by true = refl
    by false = refl

items-labelled : (at : Place) (shown current : Access) (items : List p.ItemTree)
    → map no.blank_item (labelled at shown (accesses current items)) ≡ labelled no.no_place shown (accesses current (map no.blank_item items))
items-labelled at shown current [] = refl
items-labelled at shown current (p.label place next ∷ rest) = items-labelled at shown next rest
items-labelled at shown current (p.member m ∷ rest) =
    item-labelled at shown current (p.member m) _ ∙ ap (labelled_item no.no_place shown current (no.blank_item (p.member m))) (items-labelled at current current rest)
items-labelled at shown current (p.function f ∷ rest) =
    item-labelled at shown current (p.function f) _ ∙ ap (labelled_item no.no_place shown current (no.blank_item (p.function f))) (items-labelled at current current rest)
items-labelled at shown current (p.ctor c ∷ rest) =
    item-labelled at shown current (p.ctor c) _ ∙ ap (labelled_item no.no_place shown current (no.blank_item (p.ctor c))) (items-labelled at current current rest)
items-labelled at shown current (p.dtor d ∷ rest) =
    item-labelled at shown current (p.dtor d) _ ∙ ap (labelled_item no.no_place shown current (no.blank_item (p.dtor d))) (items-labelled at current current rest)

relabelled-blank : (c : p.ClassTree) → no.blank_class (relabelled c) ≡ relabelled (no.blank_class c)
relabelled-blank c = ap (λ items. record (no.blank_class c) { items = items }) (items-labelled c.at _ _ c.items)

-- ---- completion

ctor-blank : (item : p.ItemTree) → is_ctor (no.blank_item item) ≡ is_ctor item
ctor-blank (p.label at access) = refl
ctor-blank (p.member m) = refl
ctor-blank (p.function f) = refl
ctor-blank (p.ctor c) = refl
ctor-blank (p.dtor d) = refl

dtor-blank : (item : p.ItemTree) → is_dtor (no.blank_item item) ≡ is_dtor item
dtor-blank (p.label at access) = refl
dtor-blank (p.member m) = refl
dtor-blank (p.function f) = refl
dtor-blank (p.ctor c) = refl
dtor-blank (p.dtor d) = refl

made_ctor-blank : (name : Placed NameId) (has : Bool) → map no.blank_item (made_ctor name has) ≡ made_ctor (no.blank_placed name) has
made_ctor-blank name true = refl
made_ctor-blank name false = refl

made_dtor-blank : (name : Placed NameId) (has : Bool) → map no.blank_item (made_dtor name has) ≡ made_dtor (no.blank_placed name) has
made_dtor-blank name true = refl
made_dtor-blank name false = refl

made-blank : (name : Placed NameId) (items : List p.ItemTree) → map no.blank_item (made name items) ≡ made (no.blank_placed name) (map no.blank_item items)
made-blank name items =
    map-append no.blank_item (made_ctor name (list_any is_ctor items)) (made_dtor name (list_any is_dtor items)) ∙ rw (any-mapped is_ctor is_ctor no.blank_item ctor-blank items, any-mapped is_dtor is_dtor no.blank_item dtor-blank items, made_ctor-blank name (list_any is_ctor items), made_dtor-blank name (list_any is_dtor items))

completed-blank : (c : p.ClassTree) → no.blank_class (completed c) ≡ completed (no.blank_class c)
completed-blank c =
    ap (λ items. record (no.blank_class c) { items = items }) (map-append no.blank_item c.items (made c.name c.items) ∙ ap (λ more. map no.blank_item c.items ++ more) (made-blank c.name c.items))

-- ---- member initialisers

abbrev blank_base : Option (Placed NameId) → Option (Placed NameId)
blank_base = option_map no.blank_placed

members-blank : (item : p.ItemTree) → i.members_in (no.blank_item item) ≡ i.members_in item
members-blank (p.label at access) = refl
members-blank (p.member m) = refl
members-blank (p.function f) = refl
members-blank (p.ctor c) = refl
members-blank (p.dtor d) = refl

all_members-blank : (items : List p.ItemTree) → flat_map i.members_in (map no.blank_item items) ≡ flat_map i.members_in items
all_members-blank [] = refl
all_members-blank (item ∷ items) = rw (members-blank item, all_members-blank items)

base-blank : (base : Option (Placed NameId)) (x : p.InitTree) → i.names_base (blank_base base) (no.blank_init x) ≡ i.names_base base x
base-blank None x = refl
base-blank (Some name) x = refl

one-blank : (ts : e.ExprTrees) → i.is_one (no.blank_exprs ts) ≡ i.is_one ts
one-blank e.no_exprs = refl
one-blank (e.more_exprs first e.no_exprs) = refl
one-blank (e.more_exprs first (e.more_exprs second rest)) = refl

meant-blank : (base : Option (Placed NameId)) (members : List NameId) (inits : List p.InitTree) → i.are_meant (blank_base base) members (map no.blank_init inits) ≡ i.are_meant base members inits
meant-blank base members [] = refl
meant-blank base members (x ∷ xs) =
    rw (base-blank base x, one-blank x.arguments, any-mapped (i.same_name x) (i.same_name (no.blank_init x)) no.blank_init (λ y. refl) xs, meant-blank base members xs)

assignments-blank : (name : Placed NameId) (ts : e.ExprTrees) → map no.blank_stmt (i.assignments_of name ts) ≡ i.assignments_of (no.blank_placed name) (no.blank_exprs ts)
assignments-blank name e.no_exprs = refl
assignments-blank name (e.more_exprs value rest) = refl

assignment-blank : (base : Option (Placed NameId)) (id : NameId) (x : p.InitTree) → map no.blank_stmt (i.assignment_if base id x) ≡ i.assignment_if (blank_base base) id (no.blank_init x)
assignment-blank base id x = rw (base-blank base x) (by (i.names id x.name && not (i.names_base base x)))
  where
    by : (b : Bool) → map no.blank_stmt (if b then i.assignments_of x.name x.arguments else []) ≡ (if b then i.assignments_of (no.blank_placed x.name) (no.blank_exprs x.arguments) else [])
    by true = assignments-blank x.name x.arguments
    by false = refl

all_assignments-blank : (base : Option (Placed NameId)) (inits : List p.InitTree) (members : List NameId)
    → map no.blank_stmt (flat_map (i.assignments_for base inits) members) ≡ flat_map (i.assignments_for (blank_base base) (map no.blank_init inits)) members
all_assignments-blank base inits members =
    map-flat_map no.blank_stmt (i.assignments_for base inits) (i.assignments_for (blank_base base) (map no.blank_init inits)) (λ id. map-pass no.blank_stmt (i.assignment_if base id) (i.assignment_if (blank_base base) id) no.blank_init (assignment-blank base id) inits) members

before-blank : (front : List s.StmtTree) (rest : s.StmtTrees) → no.blank_stmts (i.before front rest) ≡ i.before (map no.blank_stmt front) (no.blank_stmts rest)
before-blank [] rest = refl
before-blank (t ∷ ts) rest = ap (s.more_stmts (no.blank_stmt t)) (before-blank ts rest)

block-blank : (front : List s.StmtTree) (b : s.BlockTree) → no.blank_block (i.block_after front b) ≡ i.block_after (map no.blank_stmt front) (no.blank_block b)
block-blank front (s.braces at stmts) = ap (s.braces no.no_place) (before-blank front stmts)

assigning_ctor-blank : (base : Option (Placed NameId)) (members : List NameId) (c : p.CtorTree)
    → no.blank_ctor (i.assigning_ctor base members c) ≡ i.assigning_ctor (blank_base base) members (no.blank_ctor c)
assigning_ctor-blank base members c = rw (meant-blank base members c.inits) (by (i.are_meant base members c.inits))
  where
    by : (b : Bool) → no.blank_ctor (if b then i.ctor_assigning base members c else c) ≡ (if b then i.ctor_assigning (blank_base base) members (no.blank_ctor c) else no.blank_ctor c)
    by true =
        ap (λ (w : List p.InitTree × s.BlockTree). record (no.blank_ctor c) { inits = w.0; body = w.1 }) (rw (filter-mapped (i.names_base base) (i.names_base (blank_base base)) no.blank_init (base-blank base) c.inits, block-blank (flat_map (i.assignments_for base c.inits) members) c.body, all_assignments-blank base c.inits members))
    by false = refl

assigning_item-blank : (base : Option (Placed NameId)) (members : List NameId) (item : p.ItemTree)
    → no.blank_item (i.assigning_item base members item) ≡ i.assigning_item (blank_base base) members (no.blank_item item)
assigning_item-blank base members (p.label at access) = refl
assigning_item-blank base members (p.member m) = refl
assigning_item-blank base members (p.function f) = refl
assigning_item-blank base members (p.ctor c) = ap p.ctor (assigning_ctor-blank base members c)
assigning_item-blank base members (p.dtor d) = refl

items-assigning : (base : Option (Placed NameId)) (members : List NameId) (items : List p.ItemTree)
    → map no.blank_item (map (i.assigning_item base members) items) ≡ map (i.assigning_item (blank_base base) members) (map no.blank_item items)
items-assigning base members [] = refl
items-assigning base members (item ∷ items) = rw (assigning_item-blank base members item, items-assigning base members items)

assigning-blank : (c : p.ClassTree) → no.blank_class (i.assigning c) ≡ i.assigning (no.blank_class c)
assigning-blank c =
    ap (λ items. record (no.blank_class c) { items = items }) (items-assigning c.base (flat_map i.members_in c.items) c.items ∙ ap (λ members. map (i.assigning_item (blank_base c.base) members) (map no.blank_item c.items)) (sym (all_members-blank c.items)))

class-blank : (c : p.ClassTree) → no.blank_class (rebuilt_class c) ≡ rebuilt_class (no.blank_class c)
class-blank c =
    relabelled-blank (completed (i.assigning c)) ∙ ap relabelled (completed-blank (i.assigning c) ∙ ap completed (assigning-blank c))

-- ---- the end of `main`

return-blank : (t : s.StmtTree) → is_return (no.blank_stmt t) ≡ is_return t
return-blank (s.block b) = refl
return-blank (s.local l) = refl
return-blank (s.simple i) = refl
return-blank (s.branch i) = refl
return-blank (s.while at condition body) = refl
return-blank (s.for at start condition step body) = refl
return-blank (s.return at value) = refl
return-blank (s.delete at pointer) = refl
return-blank (s.print q) = refl
return-blank (s.thread t) = refl
return-blank (s.abort at) = refl

ends-blank : (known : Bool) (ts : s.StmtTrees) → ends_with_return known (no.blank_stmts ts) ≡ ends_with_return known ts
ends-blank known s.no_stmts = refl
ends-blank known (s.more_stmts first rest) =
    ap (λ b. ends_with_return b (no.blank_stmts rest)) (return-blank first) ∙ ends-blank (is_return first) rest

followed-blank : (ts : s.StmtTrees) (last : s.StmtTree) → no.blank_stmts (followed_by ts last) ≡ followed_by (no.blank_stmts ts) (no.blank_stmt last)
followed-blank s.no_stmts last = refl
followed-blank (s.more_stmts first rest) last = ap (s.more_stmts (no.blank_stmt first)) (followed-blank rest last)

returning_stmts-blank : (name : Place) (ts : s.StmtTrees) → no.blank_stmts (returning_stmts name ts) ≡ returning_stmts no.no_place (no.blank_stmts ts)
returning_stmts-blank name ts = rw (ends-blank false ts) (by (ends_with_return false ts))
  where
    by : (b : Bool) → no.blank_stmts (if b then ts else followed_by ts (return_zero name)) ≡ (if b then no.blank_stmts ts else followed_by (no.blank_stmts ts) (return_zero no.no_place))
    by true = refl
    by false = followed-blank ts (return_zero name)

returning_block-blank : (name : Place) (b : s.BlockTree) → no.blank_block (returning_block name b) ≡ returning_block no.no_place (no.blank_block b)
returning_block-blank name (s.braces at stmts) = ap (s.braces no.no_place) (returning_stmts-blank name stmts)

function-blank : (main : ℕ) (f : p.FunctionTree) → no.blank_function (returning main f) ≡ returning main (no.blank_function f)
function-blank main f = by (is_main main f)
  where
    by : (b : Bool) → no.blank_function (if b then record f { body = returning_block f.name.at f.body } else f) ≡ (if b then record (no.blank_function f) { body = returning_block no.no_place (no.blank_block f.body) } else no.blank_function f)
    by true = ap (λ body. record (no.blank_function f) { body = body }) (returning_block-blank f.name.at f.body)
    by false = refl

-- ---- declarations

forward-blank : (d : p.DeclTree) → map no.blank_decl (forward d) ≡ forward (no.blank_decl d)
forward-blank (p.class c) = refl
forward-blank (p.class_name c) = refl
forward-blank (p.free_function f) = refl
forward-blank (p.proto f) = refl
forward-blank (p.global g) = refl

kept-blank : (d : p.DeclTree) → map no.blank_decl (kept d) ≡ kept (no.blank_decl d)
kept-blank (p.class c) = refl
kept-blank (p.class_name c) = refl
kept-blank (p.free_function f) = refl
kept-blank (p.proto f) = refl
kept-blank (p.global g) = refl

module _ (main : ℕ) where
  prototype-blank : (d : p.DeclTree) → map no.blank_decl (prototype main d) ≡ prototype main (no.blank_decl d)
  prototype-blank (p.class c) = refl
  prototype-blank (p.class_name c) = refl
  prototype-blank (p.free_function f) = by (is_main main f)
    where
      by : (b : Bool) → map no.blank_decl (if b then [] else p.proto (prototype_of f) ∷ []) ≡ (if b then [] else p.proto (prototype_of (no.blank_function f)) ∷ [])
      by true = refl
      by false = refl
  prototype-blank (p.proto f) = refl
  prototype-blank (p.global g) = refl

  ordered-blank : (ds : List p.DeclTree) → map no.blank_decl (ordered main ds) ≡ ordered main (map no.blank_decl ds)
  ordered-blank ds =
      map-append no.blank_decl (flat_map forward ds) (flat_map (prototype main) ds ++ flat_map kept ds) ∙ rw (map-append no.blank_decl (flat_map (prototype main) ds) (flat_map kept ds), map-pass no.blank_decl forward forward no.blank_decl forward-blank ds, map-pass no.blank_decl (prototype main) (prototype main) no.blank_decl prototype-blank ds, map-pass no.blank_decl kept kept no.blank_decl kept-blank ds)

  decl-blank : (d : p.DeclTree) → no.blank_decl (rebuilt_decl main d) ≡ rebuilt_decl main (no.blank_decl d)
  decl-blank (p.class c) = ap p.class (class-blank c)
  decl-blank (p.class_name c) = refl
  decl-blank (p.free_function f) = ap p.free_function (function-blank main f)
  decl-blank (p.proto f) = refl
  decl-blank (p.global g) = refl

  decls-blank : (ds : List p.DeclTree) → map no.blank_decl (map (rebuilt_decl main) ds) ≡ map (rebuilt_decl main) (map no.blank_decl ds)
  decls-blank [] = refl
  decls-blank (d ∷ ds) = rw (decl-blank d, decls-blank ds)

  -- a program rebuilt, without places and numbers of nodes
  pub rebuilt-blank : (q : p.ProgramTree) → no.blank_program (rebuilt main q) ≡ rebuilt main (no.blank_program q)
  rebuilt-blank q =
      ap (λ decls. record (rebuilt main (no.blank_program q)) { decls = decls }) (ordered-blank (map (rebuilt_decl main) q.decls) ∙ ap (ordered main) (decls-blank q.decls))
