-- Each rule of the normal form keeps what holds of each word of a spelling, where it holds of the words that are added.
use Rattle.std.proofs.Common.{ℕ, Bool, true, false, not, ◌&&◌, if◌then◌else◌, List, [], ◌∷◌, ◌++◌, map, Option}
use Rattle.std.specs.List.{list_any, filter, flat_map}
use Rattle.agxx_base.specs.declared.ids.NameId.{NameId}
use Rattle.agxx_base.specs.declared.kind.NumKind.TheVariants as kind
use Rattle.agxx_base.specs.declared.place.Place.{Place}
use Rattle.agxx_base.specs.declared.vocabulary.Header.{Header}
use Rattle.agxx_base.specs.declared.vocabulary.Keyword.{Keyword}
use Rattle.agxx_base.specs.declared.vocabulary.Sign.{Sign}
use Rattle.agxx_base.specs.declared.vocabulary.Sign.TheVariants as sg
use Rattle.agxx_base.specs.declared.vocabulary.SpecialName.{SpecialName}
use Rattle.cxx_tree.specs.declared.node.Placed.{Placed}
use Rattle.cxx_tree.specs.declared.program.Access.{Access}
use Rattle.cxx_tree.specs.declared.program.Access.TheVariants as access_of
use Rattle.cxx_tree.specs.declared.program.ClassWord.{ClassWord}
use Rattle.cxx_tree.specs.declared.program.ClassWord.TheVariants as class_word_of
use Rattle.cxx_tree.specs.Limits.{Every}
use Rattle.cxx_tree.specs.Words as w
use Rattle.cxx_tree.specs.Words.{Word}
use Rattle.cxx_tree.specs.Spelling as to
use Rattle.cxx_tree.specs.ExprTree as e
use Rattle.cxx_tree.specs.StmtTree as s
use Rattle.cxx_tree.specs.ProgramTree as p
use Rattle.cxx_normal.specs.Labels.{first_access}
use Rattle.cxx_normal.specs.Completion.{is_ctor, made_ctor, made_dtor, made}
use Rattle.cxx_normal.specs.Initialisers as i
use Rattle.cxx_normal.specs.Entry.{ends_with_return, return_zero, followed_by, returning_stmts, returning_block, is_main, returning}
use Rattle.cxx_normal.specs.Declarations.{name_of_class, prototype_of, forward, prototype, kept, ordered}
use Rattle.cxx_normal.specs.Normal.{rebuilt_class, rebuilt_decl, rebuilt}
use Rattle.cxx_normal.proofs.Lists.{every-append}
use Rattle.cxx_normal.proofs.Relabelled.{every-relabelled}
use Rattle.normal_laws.proofs.Every.{front-of, back-of, each-part, all-parts, each-filtered, each-mapped, each-made}

module _ (Holds : Word → Type 0) (special : SpecialName → ℕ) (of_keyword : (k : Keyword) → Holds (w.keyword k)) (of_sign : (x : Sign) → Holds (w.sign x)) where
  abbrev HoldsIn : List Word → Type 0
  HoldsIn words = Every Holds words

  -- ---- parts between commas

  module _ {A : Type 0} (f : A → List Word) where
    after_comma-parts : (xs : List A) → HoldsIn (w.each_after_comma (map f xs)) → Every (λ x. HoldsIn (f x)) xs
    after_comma-parts [] all = tt
    after_comma-parts (x ∷ xs) all =
        (front-of Holds (f x) (w.each_after_comma (map f xs)) all.1, after_comma-parts xs (back-of Holds (f x) (w.each_after_comma (map f xs)) all.1))

    after_comma-all : (xs : List A) → Every (λ x. HoldsIn (f x)) xs → HoldsIn (w.each_after_comma (map f xs))
    after_comma-all [] each = tt
    after_comma-all (x ∷ xs) each =
        (of_sign sg.Comma, every-append Holds (f x) (w.each_after_comma (map f xs)) each.0 (after_comma-all xs each.1))

  inits-parts : (xs : List p.InitTree) → HoldsIn (to.spell_inits special xs) → Every (λ x. HoldsIn (to.spell_init special x)) xs
  inits-parts [] all = tt
  inits-parts (x ∷ xs) all = (
    front-of Holds (to.spell_init special x) (w.each_after_comma (map (to.spell_init special) xs)) all.1,
    after_comma-parts (to.spell_init special) xs (back-of Holds (to.spell_init special x) (w.each_after_comma (map (to.spell_init special) xs)) all.1),
  )

  inits-all : (xs : List p.InitTree) → Every (λ x. HoldsIn (to.spell_init special x)) xs → HoldsIn (to.spell_inits special xs)
  inits-all [] each = tt
  inits-all (x ∷ xs) each = (
    of_sign sg.Colon,
    every-append Holds (to.spell_init special x) (w.each_after_comma (map (to.spell_init special) xs)) each.0 (after_comma-all (to.spell_init special) xs each.1),
  )

  -- ---- statements

  block-inner : (at : Place) (ts : s.StmtTrees) → HoldsIn (to.spell_block special (s.braces at ts)) → HoldsIn (to.spell_stmts special ts)
  block-inner at ts all = front-of Holds (to.spell_stmts special ts) _ all.1

  block-outer : (at : Place) (ts : s.StmtTrees) → HoldsIn (to.spell_stmts special ts) → HoldsIn (to.spell_block special (s.braces at ts))
  block-outer at ts all = (of_sign sg.OpenBrace, every-append Holds (to.spell_stmts special ts) _ all (of_sign sg.CloseBrace, tt))

  before-all : (front : List s.StmtTree) (rest : s.StmtTrees) → Every (λ t. HoldsIn (to.spell_stmt special t)) front → HoldsIn (to.spell_stmts special rest) → HoldsIn (to.spell_stmts special (i.before front rest))
  before-all [] rest each others = others
  before-all (t ∷ ts) rest each others = every-append Holds (to.spell_stmt special t) _ each.0 (before-all ts rest each.1 others)

  block_after-all : (front : List s.StmtTree) (b : s.BlockTree) → Every (λ t. HoldsIn (to.spell_stmt special t)) front → HoldsIn (to.spell_block special b) → HoldsIn (to.spell_block special (i.block_after front b))
  block_after-all front (s.braces at ts) each all = block-outer at (i.before front ts) (before-all front ts each (block-inner at ts all))

  -- ---- member initialisers

  assignments-all : (name : Placed NameId) (ts : e.ExprTrees) → HoldsIn (to.spell_name name) → HoldsIn (to.spell_arguments special ts) → Every (λ t. HoldsIn (to.spell_stmt special t)) (i.assignments_of name ts)
  assignments-all name e.no_exprs one all = tt
  assignments-all name (e.more_exprs value rest) one all =
      let arguments : HoldsIn (w.separated (to.spell_each special (e.more_exprs value rest))) = front-of Holds (w.separated (to.spell_each special (e.more_exprs value rest))) _ all.1 in
      let spelled : HoldsIn (to.spell_expr special value) = front-of Holds (to.spell_expr special value) _ arguments in
      ((of_keyword _, (of_sign _, (one.0, (of_sign _, every-append Holds (to.spell_expr special value) _ spelled (of_sign _, tt))))), tt)

  assignment-all : (base : Option (Placed NameId)) (id : NameId) (x : p.InitTree) → HoldsIn (to.spell_init special x) → Every (λ t. HoldsIn (to.spell_stmt special t)) (i.assignment_if base id x)
  assignment-all base id x all = by (i.names id x.name && not (i.names_base base x))
    where
      by : (b : Bool) → Every (λ t. HoldsIn (to.spell_stmt special t)) (if b then i.assignments_of x.name x.arguments else [])
      by true = assignments-all x.name x.arguments (all.0, tt) all.1
      by false = tt

  front-all : (base : Option (Placed NameId)) (inits : List p.InitTree) (members : List NameId) → Every (λ x. HoldsIn (to.spell_init special x)) inits
      → Every (λ t. HoldsIn (to.spell_stmt special t)) (flat_map (i.assignments_for base inits) members)
  front-all base inits [] each = tt
  front-all base inits (id ∷ ids) each =
      every-append (λ t. HoldsIn (to.spell_stmt special t)) (i.assignments_for base inits id) _ (each-made (λ x. HoldsIn (to.spell_init special x)) (λ t. HoldsIn (to.spell_stmt special t)) (i.assignment_if base id) (assignment-all base id) inits each) (front-all base inits ids each)

  ctor-all : (base : Option (Placed NameId)) (members : List NameId) (c : p.CtorTree) → HoldsIn (to.spell_ctor special c) → HoldsIn (to.spell_ctor special (i.assigning_ctor base members c))
  ctor-all base members c all = by (i.are_meant base members c.inits)
    where
      params : HoldsIn (to.spell_params special c.params)
      params = front-of Holds (to.spell_params special c.params) _ all.1

      others : HoldsIn (to.spell_inits special c.inits ++ to.spell_block special c.body)
      others = back-of Holds (to.spell_params special c.params) _ all.1

      inits : Every (λ x. HoldsIn (to.spell_init special x)) c.inits
      inits = inits-parts c.inits (front-of Holds (to.spell_inits special c.inits) _ others)

      body : HoldsIn (to.spell_block special c.body)
      body = back-of Holds (to.spell_inits special c.inits) _ others

      by : (b : Bool) → HoldsIn (to.spell_ctor special (if b then i.ctor_assigning base members c else c))
      by true = (
        all.0,
        every-append Holds (to.spell_params special c.params) _ params (every-append Holds (to.spell_inits special (filter (i.names_base base) c.inits)) _ (inits-all (filter (i.names_base base) c.inits) (each-filtered (λ x. HoldsIn (to.spell_init special x)) (i.names_base base) c.inits inits)) (block_after-all (flat_map (i.assignments_for base c.inits) members) c.body (front-all base c.inits members inits) body)),
      )
      by false = all

  item-all : (base : Option (Placed NameId)) (members : List NameId) (item : p.ItemTree) → HoldsIn (to.spell_item special item) → HoldsIn (to.spell_item special (i.assigning_item base members item))
  item-all base members (p.label at access) all = all
  item-all base members (p.member m) all = all
  item-all base members (p.function f) all = all
  item-all base members (p.ctor c) all = ctor-all base members c all
  item-all base members (p.dtor d) all = all

  -- ---- classes

  label-all : (access : Access) (place : Place) → HoldsIn (to.spell_item special (p.label place access))
  label-all access_of.Public place = (of_keyword _, (of_sign _, tt))
  label-all access_of.Protected place = (of_keyword _, (of_sign _, tt))
  label-all access_of.Private place = (of_keyword _, (of_sign _, tt))

  class_word-all : (word : ClassWord) → HoldsIn (to.spell_class_word word)
  class_word-all class_word_of.Class = (of_keyword _, tt)
  class_word-all class_word_of.Struct = (of_keyword _, tt)

  -- each word of an item, and of each of some items
  abbrev HoldsInItem : p.ItemTree → Type 0
  HoldsInItem item = HoldsIn (to.spell_item special item)

  abbrev HoldsInItems : List p.ItemTree → Type 0
  HoldsInItems items = Every HoldsInItem items

  made_ctor-all : (name : Placed NameId) (has : Bool) → HoldsIn (to.spell_name name) → HoldsInItems (made_ctor name has)
  made_ctor-all name true one = tt
  made_ctor-all name false one = (label-all access_of.Public name.at, ((one.0, (of_sign _, (of_sign _, (of_sign _, (of_sign _, tt))))), tt))

  made_dtor-all : (name : Placed NameId) (has : Bool) → HoldsIn (to.spell_name name) → HoldsInItems (made_dtor name has)
  made_dtor-all name true one = tt
  made_dtor-all name false one = (label-all access_of.Public name.at, ((of_sign _, (one.0, (of_sign _, (of_sign _, (of_sign _, (of_sign _, tt)))))), tt))

  made-all : (name : Placed NameId) (items : List p.ItemTree) → HoldsIn (to.spell_name name) → HoldsInItems (made name items)
  made-all name items one =
      every-append HoldsInItem (made_ctor name (list_any is_ctor items)) _ (made_ctor-all name _ one) (made_dtor-all name _ one)

  abbrev after_name : p.ClassTree → List Word
  after_name c = w.optional to.spell_public_base c.base ++ w.in_braces (flat_map (to.spell_item special) c.items)

  class-behind_word : (c : p.ClassTree) → HoldsIn (to.spell_class special c) → HoldsIn (to.spell_name c.name ++ after_name c)
  class-behind_word c all =
      back-of Holds (to.spell_class_word c.word) (to.spell_name c.name ++ after_name c) (front-of Holds (to.spell_class_word c.word ++ (to.spell_name c.name ++ after_name c)) _ all)

  class-name : (c : p.ClassTree) → HoldsIn (to.spell_class special c) → HoldsIn (to.spell_name c.name)
  class-name c all = front-of Holds (to.spell_name c.name) (after_name c) (class-behind_word c all)

  class-base : (c : p.ClassTree) → HoldsIn (to.spell_class special c) → HoldsIn (w.optional to.spell_public_base c.base)
  class-base c all = front-of Holds (w.optional to.spell_public_base c.base) _ (class-behind_word c all).1

  class-items : (c : p.ClassTree) → HoldsIn (to.spell_class special c) → HoldsInItems c.items
  class-items c all =
      let braced : HoldsIn (w.in_braces (flat_map (to.spell_item special) c.items)) = back-of Holds (w.optional to.spell_public_base c.base) _ (class-behind_word c all).1 in
      each-part Holds (to.spell_item special) c.items (front-of Holds (flat_map (to.spell_item special) c.items) _ braced.1)

  class-of : (c : p.ClassTree) → HoldsIn (to.spell_name c.name) → HoldsIn (w.optional to.spell_public_base c.base) → HoldsInItems c.items → HoldsIn (to.spell_class special c)
  class-of c name base items =
      let inner : HoldsIn (flat_map (to.spell_item special) c.items ++ w.sign sg.CloseBrace ∷ []) = every-append Holds (flat_map (to.spell_item special) c.items) _ (all-parts Holds (to.spell_item special) c.items items) (of_sign _, tt) in
      let others : HoldsIn (after_name c) = every-append Holds (w.optional to.spell_public_base c.base) _ base (of_sign _, inner) in
      every-append Holds (to.spell_class_word c.word ++ (to.spell_name c.name ++ after_name c)) _ (every-append Holds (to.spell_class_word c.word) _ (class_word-all c.word) (name.0, others)) (of_sign _, tt)

  class_name-all : (c : p.ClassTree) → HoldsIn (to.spell_class special c) → HoldsIn (to.spell_class_name special (name_of_class c))
  class_name-all c all =
      every-append Holds (to.spell_class_word c.word ++ to.spell_name c.name) _ (every-append Holds (to.spell_class_word c.word) _ (class_word-all c.word) (class-name c all)) (of_sign _, tt)

  class-all : (c : p.ClassTree) → HoldsIn (to.spell_class special c) → HoldsIn (to.spell_class special (rebuilt_class c))
  class-all c all =
      let members = flat_map i.members_in c.items in
      let assigned = map (i.assigning_item c.base members) c.items in
      let items : HoldsInItems assigned = each-mapped HoldsInItem HoldsInItem (i.assigning_item c.base members) (item-all c.base members) c.items (class-items c all) in
      let complete : HoldsInItems (assigned ++ made c.name assigned) = every-append HoldsInItem assigned _ items (made-all c.name assigned (class-name c all)) in
      class-of (rebuilt_class c) (class-name c all) (class-base c all) (every-relabelled HoldsInItem c.at label-all (first_access c.word) (first_access c.word) (assigned ++ made c.name assigned) complete)

  -- ---- declarations

  module _ (zero : Holds (w.number 0 kind.I32)) (main : ℕ) where
    followed-all : (ts : s.StmtTrees) (last : s.StmtTree) → HoldsIn (to.spell_stmts special ts) → HoldsIn (to.spell_stmt special last) → HoldsIn (to.spell_stmts special (followed_by ts last))
    followed-all s.no_stmts last all one = every-append Holds (to.spell_stmt special last) [] one tt
    followed-all (s.more_stmts first rest) last all one =
        every-append Holds (to.spell_stmt special first) _ (front-of Holds (to.spell_stmt special first) _ all) (followed-all rest last (back-of Holds (to.spell_stmt special first) _ all) one)

    returning-all : (name : Place) (ts : s.StmtTrees) → HoldsIn (to.spell_stmts special ts) → HoldsIn (to.spell_stmts special (returning_stmts name ts))
    returning-all name ts all = by (ends_with_return false ts)
      where
        by : (b : Bool) → HoldsIn (to.spell_stmts special (if b then ts else followed_by ts (return_zero name)))
        by true = all
        by false = followed-all ts (return_zero name) all (of_keyword _, (zero, (of_sign _, tt)))

    block-all : (name : Place) (b : s.BlockTree) → HoldsIn (to.spell_block special b) → HoldsIn (to.spell_block special (returning_block name b))
    block-all name (s.braces at ts) all = block-outer at (returning_stmts name ts) (returning-all name ts (block-inner at ts all))

    function-all : (f : p.FunctionTree) → HoldsIn (to.spell_function special f) → HoldsIn (to.spell_function special (returning main f))
    function-all f all = by (is_main main f)
      where
        head : HoldsIn (to.spell_typed special f.result f.name)
        head = front-of Holds (to.spell_typed special f.result f.name) _ all

        others : HoldsIn (to.spell_params special f.params ++ to.spell_block special f.body)
        others = back-of Holds (to.spell_typed special f.result f.name) _ all

        params : HoldsIn (to.spell_params special f.params)
        params = front-of Holds (to.spell_params special f.params) _ others

        body : HoldsIn (to.spell_block special f.body)
        body = back-of Holds (to.spell_params special f.params) _ others

        by : (b : Bool) → HoldsIn (to.spell_function special (if b then record f { body = returning_block f.name.at f.body } else f))
        by true =
            every-append Holds (to.spell_typed special f.result f.name) _ head (every-append Holds (to.spell_params special f.params) _ params (block-all f.name.at f.body body))
        by false = all

    proto-all : (f : p.FunctionTree) → HoldsIn (to.spell_function special f) → HoldsIn (to.spell_proto special (prototype_of f))
    proto-all f all =
        let typed = to.spell_typed special f.result f.name in
        let params = to.spell_params special f.params in
        every-append Holds (typed ++ params) _ (every-append Holds typed params (front-of Holds typed _ all) (front-of Holds params _ (back-of Holds typed _ all))) (of_sign _, tt)

    -- each word of a declaration
    abbrev HoldsInDecl : p.DeclTree → Type 0
    HoldsInDecl d = HoldsIn (to.spell_decl special d)

    forward-all : (d : p.DeclTree) → HoldsInDecl d → Every HoldsInDecl (forward d)
    forward-all (p.class c) all = (class_name-all c all, tt)
    forward-all (p.class_name c) all = tt
    forward-all (p.free_function f) all = tt
    forward-all (p.proto f) all = tt
    forward-all (p.global g) all = tt

    prototype-all : (d : p.DeclTree) → HoldsInDecl d → Every HoldsInDecl (prototype main d)
    prototype-all (p.class c) all = tt
    prototype-all (p.class_name c) all = tt
    prototype-all (p.free_function f) all = by (is_main main f)
      where
        by : (b : Bool) → Every HoldsInDecl (if b then [] else p.proto (prototype_of f) ∷ [])
        by true = tt
        by false = (proto-all f all, tt)
    prototype-all (p.proto f) all = tt
    prototype-all (p.global g) all = tt

    kept-all : (d : p.DeclTree) → HoldsInDecl d → Every HoldsInDecl (kept d)
    kept-all (p.class c) all = (all, tt)
    kept-all (p.class_name c) all = tt
    kept-all (p.free_function f) all = (all, tt)
    kept-all (p.proto f) all = tt
    kept-all (p.global g) all = (all, tt)

    decl-all : (d : p.DeclTree) → HoldsInDecl d → HoldsInDecl (rebuilt_decl main d)
    decl-all (p.class c) all = class-all c all
    decl-all (p.class_name c) all = all
    decl-all (p.free_function f) all = function-all f all
    decl-all (p.proto f) all = all
    decl-all (p.global g) all = all

    ordered-all : (ds : List p.DeclTree) → Every HoldsInDecl ds → Every HoldsInDecl (ordered main ds)
    ordered-all ds each =
        every-append HoldsInDecl (flat_map forward ds) _ (each-made HoldsInDecl HoldsInDecl forward forward-all ds each) (every-append HoldsInDecl (flat_map (prototype main) ds) _ (each-made HoldsInDecl HoldsInDecl (prototype main) prototype-all ds each) (each-made HoldsInDecl HoldsInDecl kept kept-all ds each))

    -- a program rebuilt
    pub rebuilt-all : (of_include : (h : Header) → Holds (w.include h)) (q : p.ProgramTree) → HoldsIn (to.spell_program special q) → HoldsIn (to.spell_program special (rebuilt main q))
    rebuilt-all of_include q all =
        let each : Every HoldsInDecl q.decls = each-part Holds (to.spell_decl special) q.decls (back-of Holds (flat_map to.spell_directive q.directives) _ all) in
        let rest : HoldsIn (flat_map (to.spell_decl special) (ordered main (map (rebuilt_decl main) q.decls))) = all-parts Holds (to.spell_decl special) (ordered main (map (rebuilt_decl main) q.decls)) (ordered-all (map (rebuilt_decl main) q.decls) (each-mapped HoldsInDecl HoldsInDecl (rebuilt_decl main) decl-all q.decls each)) in
        (of_include _, (of_include _, (of_include _, (of_include _, (of_include _, rest)))))
