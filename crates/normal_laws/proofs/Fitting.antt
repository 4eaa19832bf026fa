-- Each rule of the normal form keeps the limits, where these let braces stand in the braces of a class.
use Rattle.std.proofs.Common.{◌≡◌, ℕ, suc, subst, arith, Bool, true, false, not, ◌&&◌, if◌then◌else◌, List, [], ◌∷◌, ◌++◌, map, Option}
use Rattle.std.specs.List.{list_any, flat_map}
use Rattle.agxx_base.specs.declared.ids.NameId.{NameId}
use Rattle.agxx_base.specs.declared.place.Place.{Place}
use Rattle.cxx_tree.specs.declared.node.Placed.{Placed}
use Rattle.cxx_tree.specs.Limits.{Grammar, Limits, Every}
use Rattle.cxx_tree.specs.Fits as f
use Rattle.cxx_tree.specs.ExprTree as e
use Rattle.cxx_tree.specs.StmtTree as s
use Rattle.cxx_tree.specs.ProgramTree as p
use Rattle.cxx_normal.specs.Labels.{first_access}
use Rattle.cxx_normal.specs.Completion.{is_ctor, made_ctor, made_dtor, made}
use Rattle.cxx_normal.specs.Initialisers as i
use Rattle.cxx_normal.specs.Entry.{ends_with_return, return_zero, followed_by, returning_stmts, returning_block, is_main, returning}
use Rattle.cxx_normal.specs.Declarations.{prototype_of, forward, prototype, kept, ordered}
use Rattle.cxx_normal.specs.Normal.{rebuilt_class, rebuilt_decl, rebuilt}
use Rattle.cxx_normal.proofs.Lists.{every-append}
use Rattle.cxx_normal.proofs.Relabelled.{every-relabelled}
use Rattle.normal_laws.proofs.Every.{each-filtered, each-mapped, each-made}

module _ (g : Grammar) (most : ℕ) where
  -- ---- statements

  before-fits : (d : ℕ) (front : List s.StmtTree) (rest : s.StmtTrees) → Every (f.FitsStmt g most d) front → f.FitsStmts g most d rest → f.FitsStmts g most d (i.before front rest)
  before-fits d [] rest each others = others
  before-fits d (t ∷ ts) rest each others = (each.0, before-fits d ts rest each.1 others)

  followed-fits : (d : ℕ) (ts : s.StmtTrees) (last : s.StmtTree) → f.FitsStmts g most d ts → f.FitsStmt g most d last → f.FitsStmts g most d (followed_by ts last)
  followed-fits d s.no_stmts last fits one = (one, tt)
  followed-fits d (s.more_stmts first rest) last fits one = (fits.0, followed-fits d rest last fits.1 one)

  returning-fits : (d : ℕ) (name : Place) (ts : s.StmtTrees) → f.FitsStmts g most d ts → f.FitsStmts g most d (returning_stmts name ts)
  returning-fits d name ts fits = by (ends_with_return false ts)
    where
      by : (b : Bool) → f.FitsStmts g most d (if b then ts else followed_by ts (return_zero name))
      by true = fits
      by false = followed-fits d ts (return_zero name) fits (tt, omega arith)

  block-fits : (d : ℕ) (name : Place) (b : s.BlockTree) → f.FitsBlock g most d b → f.FitsBlock g most d (returning_block name b)
  block-fits d name (s.braces at ts) (below, is, fits) = (below, is, returning-fits below name ts fits)

  -- ---- member initialisers

  assignments-fit : (d : ℕ) (name : Placed NameId) (ts : e.ExprTrees) → f.FitsEach g most d ts → Every (f.FitsStmt g most d) (i.assignments_of name ts)
  assignments-fit d name e.no_exprs fits = tt
  assignments-fit d name (e.more_exprs value rest) fits = ((tt, tt, fits.0), tt)

  -- the arguments of an initialiser, one parenthesis deeper
  abbrev FitsInit : ℕ → p.InitTree → Type 0
  FitsInit d x = f.FitsEach g most d x.arguments

  assignment-fits : (d : ℕ) (base : Option (Placed NameId)) (id : NameId) (x : p.InitTree) → FitsInit d x → Every (f.FitsStmt g most d) (i.assignment_if base id x)
  assignment-fits d base id x fits = by (i.names id x.name && not (i.names_base base x))
    where
      by : (b : Bool) → Every (f.FitsStmt g most d) (if b then i.assignments_of x.name x.arguments else [])
      by true = assignments-fit d x.name x.arguments fits
      by false = tt

  front-fits : (d : ℕ) (base : Option (Placed NameId)) (inits : List p.InitTree) (members : List NameId) → Every (FitsInit d) inits → Every (f.FitsStmt g most d) (flat_map (i.assignments_for base inits) members)
  front-fits d base inits [] each = tt
  front-fits d base inits (id ∷ ids) each =
      every-append (f.FitsStmt g most d) (i.assignments_for base inits id) _ (each-made (FitsInit d) (f.FitsStmt g most d) (i.assignment_if base id) (assignment-fits d base id) inits each) (front-fits d base inits ids each)

  -- the arguments of initialisers may stand in the braces beside them
  inits-below : (d below : ℕ) → d ≡ suc below → (inits : List p.InitTree) → Every (λ (x : p.InitTree). f.FitsArguments g most d x.arguments) inits → Every (FitsInit below) inits
  inits-below d below is [] each = tt
  inits-below d below is (x ∷ xs) ((b, at, fits), others) =
      let same : b ≡ below = omega arith in
      (subst (λ n. f.FitsEach g most n x.arguments) same fits, inits-below d below is xs others)

  block_after-fits : (d : ℕ) (base : Option (Placed NameId)) (inits : List p.InitTree) (members : List NameId) (b : s.BlockTree)
      → Every (λ (x : p.InitTree). f.FitsArguments g most d x.arguments) inits → f.FitsBlock g most d b → f.FitsBlock g most d (i.block_after (flat_map (i.assignments_for base inits) members) b)
  block_after-fits d base inits members (s.braces at ts) each (below, is, fits) =
      (below, is, before-fits below (flat_map (i.assignments_for base inits) members) ts (front-fits below base inits members (inits-below d below is inits each)) fits)

  ctor-fits : (d : ℕ) (base : Option (Placed NameId)) (members : List NameId) (c : p.CtorTree) → f.FitsCtor g most d c → f.FitsCtor g most d (i.assigning_ctor base members c)
  ctor-fits d base members c (params, inits, body) = by (i.are_meant base members c.inits)
    where
      by : (b : Bool) → f.FitsCtor g most d (if b then i.ctor_assigning base members c else c)
      by true =
          (params, each-filtered (λ (x : p.InitTree). f.FitsArguments g most d x.arguments) (i.names_base base) c.inits inits, block_after-fits d base c.inits members c.body inits body)
      by false = (params, inits, body)

  item-fits : (d : ℕ) (base : Option (Placed NameId)) (members : List NameId) (item : p.ItemTree) → f.FitsItem g most d item → f.FitsItem g most d (i.assigning_item base members item)
  item-fits d base members (p.label at access) fits = tt
  item-fits d base members (p.member m) fits = fits
  item-fits d base members (p.function q) fits = fits
  item-fits d base members (p.ctor c) fits = ctor-fits d base members c fits
  item-fits d base members (p.dtor q) fits = fits

  -- ---- classes

  module _ (d n : ℕ) (is : d ≡ suc n) (name : Placed NameId) where
    made_ctor-fits : (has : Bool) → Every (f.FitsItem g most d) (made_ctor name has)
    made_ctor-fits true = tt
    made_ctor-fits false = (tt, (((n, is, tt), tt, (n, is, tt)), tt))

    made_dtor-fits : (has : Bool) → Every (f.FitsItem g most d) (made_dtor name has)
    made_dtor-fits true = tt
    made_dtor-fits false = (tt, (((n, is, tt), (n, is, tt)), tt))

    made-fits : (items : List p.ItemTree) → Every (f.FitsItem g most d) (made name items)
    made-fits items =
        every-append (f.FitsItem g most d) (made_ctor name (list_any is_ctor items)) _ (made_ctor-fits _) (made_dtor-fits _)

  class-fits : (d n : ℕ) → d ≡ suc (suc n) → (c : p.ClassTree) → f.FitsDecl g most d (p.class c) → f.FitsDecl g most d (p.class (rebuilt_class c))
  class-fits d n is c (below, at, fits) =
      let members = flat_map i.members_in c.items in
      let assigned = map (i.assigning_item c.base members) c.items in
      let Fits = f.FitsItem g most below in
      let items : Every Fits assigned = each-mapped Fits Fits (i.assigning_item c.base members) (item-fits below c.base members) c.items fits in
      let deep : below ≡ suc n = omega arith in
      let complete : Every Fits (assigned ++ made c.name assigned) = every-append Fits assigned _ items (made-fits below n deep c.name assigned) in
      (below, at, every-relabelled Fits c.at (λ a place. tt) (first_access c.word) (first_access c.word) (assigned ++ made c.name assigned) complete)

  -- ---- declarations

  module _ (main d n : ℕ) (is : d ≡ suc (suc n)) where
    function-fits : (q : p.FunctionTree) → f.FitsFunction g most d q → f.FitsFunction g most d (returning main q)
    function-fits q (plain, params, body) = by (is_main main q)
      where
        by : (b : Bool) → f.FitsFunction g most d (if b then record q { body = returning_block q.name.at q.body } else q)
        by true = (plain, params, block-fits d q.name.at q.body body)
        by false = (plain, params, body)

    abbrev Fits : p.DeclTree → Type 0
    Fits = f.FitsDecl g most d

    forward-fits : (q : p.DeclTree) → Fits q → Every Fits (forward q)
    forward-fits (p.class c) fits = (tt, tt)
    forward-fits (p.class_name c) fits = tt
    forward-fits (p.free_function q) fits = tt
    forward-fits (p.proto q) fits = tt
    forward-fits (p.global q) fits = tt

    prototype-fits : (q : p.DeclTree) → Fits q → Every Fits (prototype main q)
    prototype-fits (p.class c) fits = tt
    prototype-fits (p.class_name c) fits = tt
    prototype-fits (p.free_function q) (plain, params, body) = by (is_main main q)
      where
        by : (b : Bool) → Every Fits (if b then [] else p.proto (prototype_of q) ∷ [])
        by true = tt
        by false = ((plain, params), tt)
    prototype-fits (p.proto q) fits = tt
    prototype-fits (p.global q) fits = tt

    kept-fits : (q : p.DeclTree) → Fits q → Every Fits (kept q)
    kept-fits (p.class c) fits = (fits, tt)
    kept-fits (p.class_name c) fits = tt
    kept-fits (p.free_function q) fits = (fits, tt)
    kept-fits (p.proto q) fits = tt
    kept-fits (p.global q) fits = (fits, tt)

    decl-fits : (q : p.DeclTree) → Fits q → Fits (rebuilt_decl main q)
    decl-fits (p.class c) fits = class-fits d n is c fits
    decl-fits (p.class_name c) fits = tt
    decl-fits (p.free_function q) fits = function-fits q fits
    decl-fits (p.proto q) fits = fits
    decl-fits (p.global q) fits = fits

    ordered-fits : (ds : List p.DeclTree) → Every Fits ds → Every Fits (ordered main ds)
    ordered-fits ds each =
        every-append Fits (flat_map forward ds) _ (each-made Fits Fits forward forward-fits ds each) (every-append Fits (flat_map (prototype main) ds) _ (each-made Fits Fits (prototype main) prototype-fits ds each) (each-made Fits Fits kept kept-fits ds each))

-- a program rebuilt
pub rebuilt-fits : (g : Grammar) (limits : Limits) (n : ℕ) → limits.nesting ≡ suc (suc n) → (main : ℕ) (q : p.ProgramTree) → f.FitsProgram g limits q → f.FitsProgram g limits (rebuilt main q)
rebuilt-fits g limits n is main q fits =
    let Fits = f.FitsDecl g limits.operators limits.nesting in
    ordered-fits g limits.operators main limits.nesting n is (map (rebuilt_decl main) q.decls) (each-mapped Fits Fits (rebuilt_decl main) (decl-fits g limits.operators main limits.nesting n is) q.decls fits)
