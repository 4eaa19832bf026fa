-- The names in the spelling of statements, declarations and programs.
use Rattle.std.proofs.Common.{◌≡◌, ℕ, Bool, true, false, List, [], ◌∷◌, ◌++◌, map, Option, Some, None, refl, ap, ◌∙◌, append_assoc}
use Rattle.std.specs.List.{flat_map}
use Rattle.agxx_base.specs.declared.ids.NameId.{NameId}
use Rattle.agxx_base.specs.declared.vocabulary.Sign.{Sign}
use Rattle.agxx_base.specs.declared.vocabulary.SpecialName.{SpecialName}
use Rattle.agxx_base.specs.declared.vocabulary.SpecialName.TheVariants as sn
use Rattle.cxx_tree.specs.declared.node.Placed.{Placed}
use Rattle.cxx_tree.specs.declared.program.Access.{Access}
use Rattle.cxx_tree.specs.declared.program.Access.TheVariants as access_of
use Rattle.cxx_tree.specs.declared.program.ClassWord.{ClassWord}
use Rattle.cxx_tree.specs.declared.program.ClassWord.TheVariants as class_word_of
use Rattle.cxx_tree.specs.declared.program.Const.{Const}
use Rattle.cxx_tree.specs.declared.program.Const.TheVariants as const_of
use Rattle.cxx_tree.specs.declared.program.TypeName.{TypeName}
use Rattle.cxx_tree.specs.declared.program.Directive.{Directive}
use Rattle.cxx_tree.specs.declared.program.Directive.TheVariants as directive_of
use Rattle.cxx_tree.specs.Words.{Word, sign, separated, in_parentheses, in_braces, ended, optional}
use Rattle.cxx_tree.specs.Limits.{Grammar, Every}
use Rattle.cxx_tree.specs.Fits as fits
use Rattle.cxx_tree.specs.Spelling as w
use Rattle.cxx_tree.specs.ExprTree as e
use Rattle.cxx_tree.specs.StmtTree as s
use Rattle.cxx_tree.specs.ProgramTree as p
use Rattle.cxx_distinct.specs.NamesIn as n
use Rattle.names_laws.specs.SpelledNames.{whole, NamesAreSpelled}
use Rattle.names_laws.proofs.SpelledParts.{Counted, Has, both, behind-none, before-none, closed, one-row, ref-part, callee-part, flag-part, std-part, special-part, left-part, typed-part, each-part, arguments-part, full-part, params-part}

module _ (left_out : ℕ → Bool) (special : SpecialName → ℕ) (leaves : (what : SpecialName) → left_out (special what) ≡ true) (grammar : Grammar) (most : ℕ) where
  abbrev HasIt : List Word → List (Placed NameId) → Type 0
  HasIt = Has left_out

  -- ---- parts of statements

  full : (depth level : ℕ) (x : e.ExprTree) → fits.FitsFull grammar most depth level x → HasIt (w.spell_expr special x) (n.names_in_expr x)
  full = full-part left_out special leaves grammar most

  arguments : (depth : ℕ) (es : e.ExprTrees) → fits.FitsArguments grammar most depth es → HasIt (w.spell_arguments special es) (n.names_in_exprs es)
  arguments = arguments-part left_out special leaves grammar most

  initial : (depth : ℕ) (o : Option s.InitialTree) → fits.Optionally (λ (i : s.InitialTree). fits.FitsFull grammar most depth fits.expr_level i.value) o
      → HasIt (optional (w.spell_initial special) o) (n.names_in_optional n.names_in_initial o)
  initial depth None h = refl
  initial depth (Some i) h = full depth fits.expr_level i.value h

  -- the type and the name of a declaration, and what follows them
  typed-then : (t : Placed TypeName) (x : Placed NameId) (b : List Word) (m : List (Placed NameId)) → HasIt b m → HasIt (w.spell_typed special t x ++ b) (n.names_in_type t ++ (x ∷ m))
  typed-then t x b m f = both left_out (w.spell_typed special t x) b (n.names_in_type t ++ x ∷ []) m (typed-part left_out special leaves t x) f ∙ ap (Counted left_out) (again (n.names_in_type t))
    where
      again : (ns : List (Placed NameId)) → (ns ++ x ∷ []) ++ m ≡ ns ++ (x ∷ m)
      again [] = refl
      again (y ∷ ns) = ap (λ l. y ∷ l) (again ns)

  local : (depth : ℕ) (l : s.LocalTree) → fits.FitsLocal grammar most depth l → HasIt (w.spell_local special l) (n.names_in_local l)
  local depth l h = typed-then l.type_name l.name (optional (w.spell_initial special) l.initial) (n.names_in_optional n.names_in_initial l.initial) (initial depth l.initial h.1)

  call : (depth : ℕ) (c : e.CallTree) → fits.FitsSimple grammar most depth (s.call_stmt c) → HasIt (w.spell_call special c) (n.names_in_call c)
  call depth (e.calls k callee es) h =
      both left_out (w.spell_callee callee) (w.spell_arguments special es) (n.names_in_callee callee) (n.names_in_exprs es) (callee-part left_out callee) (arguments depth es h)

  bump : (b : Bool) (it : Sign) (part : List Word) (m : List (Placed NameId)) → HasIt part m → HasIt (w.beside b it part) m
  bump true it part m f = f
  bump false it part m f = closed left_out part it m f

  simple : (depth : ℕ) (i : s.SimpleTree) → fits.FitsSimple grammar most depth i → HasIt (w.spell_simple special i) (n.names_in_simple i)
  simple depth (s.assign a) h =
      both left_out (w.spell_left special a.left) (sign (w.assign_sign a.sign.item) ∷ w.spell_expr special a.value) (n.names_in_left a.left) (n.names_in_expr a.value)
      (left-part left_out special leaves a.left) (full depth fits.expr_level a.value h.2)
  simple depth (s.bump b) h = bump b.in_front (w.bump_sign b.adds) (w.spell_left special b.left) (n.names_in_left b.left) (left-part left_out special leaves b.left)
  simple depth (s.call_stmt c) h = call depth c h
  simple depth (s.proceed at) h = special-part left_out special leaves sn.Proceed (in_parentheses []) [] refl

  printed : (depth : ℕ) (qs : List s.PrintedTree) → Every (fits.FitsPrinted grammar most depth) qs → HasIt (flat_map (w.spell_printed special) qs) (n.names_in_each n.names_in_printed qs)
  printed depth [] h = refl
  printed depth (s.text q ∷ qs) h = printed depth qs h.1
  printed depth (s.endl at ∷ qs) h =
      behind-none left_out (w.spell_std special sn.Endl) (flat_map (w.spell_printed special) qs) (n.names_in_each n.names_in_printed qs)
      (std-part left_out special leaves sn.Endl) (printed depth qs h.1)
  printed depth (s.value v ∷ qs) h =
      both left_out (w.spell_expr special v) (flat_map (w.spell_printed special) qs) (n.names_in_expr v) (n.names_in_each n.names_in_printed qs)
      (full depth fits.sum_level v h.0) (printed depth qs h.1)

  -- what is ended by a semicolon
  end-it : (part : List Word) (m : List (Placed NameId)) → HasIt part m → HasIt (ended part) m
  end-it part m f = closed left_out part _ m f

  thread : (depth : ℕ) (t : s.ThreadTree) → fits.FitsArguments grammar most depth t.arguments → HasIt (w.spell_thread special t) (n.names_in_thread t)
  thread depth t h =
      behind-none left_out (w.spell_std special sn.Thread) (w.spell_name t.name ++ in_parentheses (separated (w.spell_ref t.function ∷ w.spell_each special t.arguments)))
      (t.name ∷ (t.function.name ∷ n.names_in_exprs t.arguments)) (std-part left_out special leaves sn.Thread)
      (both left_out (w.spell_name t.name) (in_parentheses (separated (w.spell_ref t.function ∷ w.spell_each special t.arguments))) (t.name ∷ []) (t.function.name ∷ n.names_in_exprs t.arguments)
      refl
      (closed left_out (separated (w.spell_ref t.function ∷ w.spell_each special t.arguments)) _ (t.function.name ∷ n.names_in_exprs t.arguments)
      (one-row left_out (w.spell_ref t.function) (w.spell_each special t.arguments) (t.function.name ∷ []) (n.names_in_exprs t.arguments)
      (ref-part left_out t.function) (each-part left_out special leaves grammar most h.0 t.arguments h.2))))

  start : (depth : ℕ) (o : Option s.StartTree) → fits.Optionally (fits.FitsStart grammar most depth) o → HasIt (optional (w.spell_start special) o) (n.names_in_optional n.names_in_start o)
  start depth None h = refl
  start depth (Some (s.start_local l)) h = local depth l h
  start depth (Some (s.start_simple i)) h = simple depth i h

  condition : (depth : ℕ) (o : Option e.ExprTree) → fits.Optionally (fits.FitsFull grammar most depth fits.expr_level) o → HasIt (optional (w.spell_expr special) o) (n.names_in_optional n.names_in_expr o)
  condition depth None h = refl
  condition depth (Some x) h = full depth fits.expr_level x h

  step : (depth : ℕ) (o : Option s.SimpleTree) → fits.Optionally (fits.FitsSimple grammar most depth) o → HasIt (optional (w.spell_simple special) o) (n.names_in_optional n.names_in_simple o)
  step depth None h = refl
  step depth (Some i) h = simple depth i h

  -- ---- statements

  mutual
    stmt : (depth : ℕ) (x : s.StmtTree) → fits.FitsStmt grammar most depth x → HasIt (w.spell_stmt special x) (n.names_in_stmt x)
    stmt depth (s.block b) h = block depth b h
    stmt depth (s.local l) h = end-it (w.spell_local special l) (n.names_in_local l) (local depth l h)
    stmt depth (s.simple i) h = end-it (w.spell_simple special i) (n.names_in_simple i) (simple depth i h)
    stmt depth (s.branch i) h = branch depth i h
    stmt depth (s.while at test body) h =
        both left_out (in_parentheses (w.spell_expr special test)) (w.spell_block special body) (n.names_in_expr test) (n.names_in_block body)
        (closed left_out (w.spell_expr special test) _ (n.names_in_expr test) (full h.0.0 fits.expr_level test h.0.2)) (block depth body h.1)
    stmt depth (s.for at first test after body) h =
        let F = optional (w.spell_start special) first in
        let T = optional (w.spell_expr special) test in
        let A = optional (w.spell_simple special) after in
        let f = n.names_in_optional n.names_in_start first in
        let t = n.names_in_optional n.names_in_expr test in
        let a = n.names_in_optional n.names_in_simple after in
        both left_out (in_parentheses (ended F ++ (ended T ++ A))) (w.spell_block special body) (f ++ (t ++ a)) (n.names_in_block body)
        (closed left_out (ended F ++ (ended T ++ A)) _ (f ++ (t ++ a))
        (both left_out (ended F) (ended T ++ A) f (t ++ a) (end-it F f (start h.0.0 first h.0.2.0))
        (both left_out (ended T) A t a (end-it T t (condition h.0.0 test h.0.2.1)) (step h.0.0 after h.0.2.2))))
        (block depth body h.1)
        ∙ ap (Counted left_out) (again f t a (n.names_in_block body))
      where
        again : {X : Type 0} (a b c d : List X) → (a ++ (b ++ c)) ++ d ≡ a ++ (b ++ (c ++ d))
        again a b c d = append_assoc a (b ++ c) d ∙ ap (λ l. a ++ l) (append_assoc b c d)
    stmt depth (s.return at value) h = end-it (optional (w.spell_expr special) value) (n.names_in_optional n.names_in_expr value) (condition depth value h)
    stmt depth (s.delete at pointer) h = end-it (w.spell_expr special pointer) (n.names_in_expr pointer) (full depth fits.expr_level pointer h)
    stmt depth (s.print q) h =
        end-it (w.spell_print special q) (n.names_in_each n.names_in_printed q.operands)
        (behind-none left_out (w.spell_std special sn.Cout) (flat_map (w.spell_printed special) q.operands) (n.names_in_each n.names_in_printed q.operands)
        (std-part left_out special leaves sn.Cout) (printed depth q.operands h.1))
    stmt depth (s.thread t) h = end-it (w.spell_thread special t) (n.names_in_thread t) (thread depth t h)
    stmt depth (s.abort at) h =
        end-it (w.spell_std special sn.Abort ++ in_parentheses []) []
        (before-none left_out (w.spell_std special sn.Abort) (in_parentheses []) [] (std-part left_out special leaves sn.Abort) refl)

    stmts : (depth : ℕ) (xs : s.StmtTrees) → fits.FitsStmts grammar most depth xs → HasIt (w.spell_stmts special xs) (n.names_in_stmts xs)
    stmts depth s.no_stmts h = refl
    stmts depth (s.more_stmts first rest) h =
        both left_out (w.spell_stmt special first) (w.spell_stmts special rest) (n.names_in_stmt first) (n.names_in_stmts rest) (stmt depth first h.0) (stmts depth rest h.1)

    block : (depth : ℕ) (b : s.BlockTree) → fits.FitsBlock grammar most depth b → HasIt (w.spell_block special b) (n.names_in_block b)
    block depth (s.braces at xs) h = closed left_out (w.spell_stmts special xs) _ (n.names_in_stmts xs) (stmts h.0 xs h.2)

    branch : (depth : ℕ) (i : s.IfTree) → fits.FitsIf grammar most depth i → HasIt (w.spell_if special i) (n.names_in_if i)
    branch depth (s.chooses at test body otherwise) h =
        both left_out (in_parentheses (w.spell_expr special test)) (w.spell_block special body ++ w.spell_else special otherwise) (n.names_in_expr test) (n.names_in_block body ++ n.names_in_else otherwise)
        (closed left_out (w.spell_expr special test) _ (n.names_in_expr test) (full h.0.0 fits.expr_level test h.0.2))
        (both left_out (w.spell_block special body) (w.spell_else special otherwise) (n.names_in_block body) (n.names_in_else otherwise) (block depth body h.1) (other depth otherwise h.2))

    other : (depth : ℕ) (x : s.ElseTree) → fits.FitsElse grammar most depth x → HasIt (w.spell_else special x) (n.names_in_else x)
    other depth s.no_else h = refl
    other depth (s.else_if i) h = branch h.0 i h.2
    other depth (s.else_block b) h = block depth b h

  -- ---- functions

  function : (depth : ℕ) (f : p.FunctionTree) → fits.FitsFunction grammar most depth f → HasIt (w.spell_function special f) (n.names_in_function f)
  function depth f h =
      typed-then f.result f.name (w.spell_params special f.params ++ w.spell_block special f.body) (n.names_in_params f.params ++ n.names_in_block f.body)
      (both left_out (w.spell_params special f.params) (w.spell_block special f.body) (n.names_in_params f.params) (n.names_in_block f.body)
      (params-part left_out special leaves f.params) (block depth f.body h.2))

  one-init : (depth : ℕ) (i : p.InitTree) → fits.FitsArguments grammar most depth i.arguments → HasIt (w.spell_init special i) (n.names_in_init i)
  one-init depth i h = both left_out (w.spell_name i.name) (w.spell_arguments special i.arguments) (i.name ∷ []) (n.names_in_exprs i.arguments) refl (arguments depth i.arguments h)

  init-rows : (depth : ℕ) (is : List p.InitTree) → Every (λ (i : p.InitTree). fits.FitsArguments grammar most depth i.arguments) is
      → HasIt (separated (map (w.spell_init special) is)) (n.names_in_each n.names_in_init is)
  init-rows depth [] h = refl
  init-rows depth (i ∷ is) h =
      one-row left_out (w.spell_init special i) (map (w.spell_init special) is) (n.names_in_init i) (n.names_in_each n.names_in_init is) (one-init depth i h.0) (init-rows depth is h.1)

  inits : (depth : ℕ) (is : List p.InitTree) → Every (λ (i : p.InitTree). fits.FitsArguments grammar most depth i.arguments) is → HasIt (w.spell_inits special is) (n.names_in_each n.names_in_init is)
  inits depth [] h = refl
  inits depth (i ∷ is) h = init-rows depth (i ∷ is) h

  ctor : (depth : ℕ) (c : p.CtorTree) → fits.FitsCtor grammar most depth c → HasIt (w.spell_ctor special c) (n.names_in_ctor c)
  ctor depth c h =
      both left_out (w.spell_name c.name) (w.spell_params special c.params ++ (w.spell_inits special c.inits ++ w.spell_block special c.body)) (c.name ∷ [])
      (n.names_in_params c.params ++ (n.names_in_each n.names_in_init c.inits ++ n.names_in_block c.body)) refl
      (both left_out (w.spell_params special c.params) (w.spell_inits special c.inits ++ w.spell_block special c.body) (n.names_in_params c.params)
      (n.names_in_each n.names_in_init c.inits ++ n.names_in_block c.body) (params-part left_out special leaves c.params)
      (both left_out (w.spell_inits special c.inits) (w.spell_block special c.body) (n.names_in_each n.names_in_init c.inits) (n.names_in_block c.body)
      (inits depth c.inits h.1) (block depth c.body h.2)))

  dtor : (depth : ℕ) (d : p.DtorTree) → fits.FitsDtor grammar most depth d → HasIt (w.spell_dtor special d) (d.name ∷ n.names_in_block d.body)
  dtor depth d h =
      both left_out (w.spell_name d.name) (in_parentheses [] ++ w.spell_block special d.body) (d.name ∷ []) (n.names_in_block d.body) refl
      (behind-none left_out (in_parentheses []) (w.spell_block special d.body) (n.names_in_block d.body) refl (block depth d.body h.1))

  -- ---- classes

  label : (access : Access) → HasIt (w.spell_label access) []
  label access_of.Public = refl
  label access_of.Protected = refl
  label access_of.Private = refl

  item : (depth : ℕ) (i : p.ItemTree) → fits.FitsItem grammar most depth i → HasIt (w.spell_item special i) (n.names_in_item i)
  item depth (p.label at access) h = label access
  item depth (p.member m) h = end-it (w.spell_typed special m.type_name m.name) (n.names_in_type m.type_name ++ m.name ∷ []) (typed-part left_out special leaves m.type_name m.name)
  item depth (p.function f) h = function depth f h
  item depth (p.ctor c) h = ctor depth c h
  item depth (p.dtor d) h = dtor depth d h

  items : (depth : ℕ) (is : List p.ItemTree) → Every (fits.FitsItem grammar most depth) is → HasIt (flat_map (w.spell_item special) is) (n.names_in_each n.names_in_item is)
  items depth [] h = refl
  items depth (i ∷ is) h =
      both left_out (w.spell_item special i) (flat_map (w.spell_item special) is) (n.names_in_item i) (n.names_in_each n.names_in_item is) (item depth i h.0) (items depth is h.1)

  class-word : (x : ClassWord) → HasIt (w.spell_class_word x) []
  class-word class_word_of.Class = refl
  class-word class_word_of.Struct = refl

  base : (o : Option (Placed NameId)) → HasIt (optional w.spell_public_base o) (n.names_in_base_of o)
  base None = refl
  base (Some x) = refl

  class : (depth : ℕ) (c : p.ClassTree) → fits.FitsDecl grammar most depth (p.class c) → HasIt (w.spell_class special c) (n.names_in_class c)
  class depth c h =
      let I = in_braces (flat_map (w.spell_item special) c.items) in
      let i = n.names_in_each n.names_in_item c.items in
      let B = optional w.spell_public_base c.base in
      end-it (w.spell_class_word c.word ++ (w.spell_name c.name ++ (B ++ I))) (c.name ∷ (n.names_in_base_of c.base ++ i))
      (behind-none left_out (w.spell_class_word c.word) (w.spell_name c.name ++ (B ++ I)) (c.name ∷ (n.names_in_base_of c.base ++ i)) (class-word c.word)
      (both left_out (w.spell_name c.name) (B ++ I) (c.name ∷ []) (n.names_in_base_of c.base ++ i) refl
      (both left_out B I (n.names_in_base_of c.base) i (base c.base) (closed left_out (flat_map (w.spell_item special) c.items) _ i (items h.0 c.items h.2)))))

  -- ---- globals

  const : (x : Const) → HasIt (w.spell_const x) []
  const (const_of.Number true k) = refl
  const (const_of.Number false k) = refl
  const (const_of.Flag is_set) = flag-part left_out is_set
  const const_of.Null = refl

  constant : (o : Option (Placed Const)) → HasIt (optional (w.spell_constant special) o) []
  constant None = refl
  constant (Some x) = const x.item

  object-arguments : (depth : ℕ) (es : e.ExprTrees) → fits.FitsObjectArguments grammar most depth es → HasIt (w.spell_object_arguments special es) (n.names_in_exprs es)
  object-arguments depth e.no_exprs h = refl
  object-arguments depth (e.more_exprs first rest) h = arguments depth (e.more_exprs first rest) h

  global : (depth : ℕ) (g : p.GlobalTree) → fits.FitsGlobal grammar most depth g → HasIt (w.spell_global special g) (n.names_in_global g)
  global depth (p.variable v) h =
      end-it (w.spell_typed special v.type_name v.name ++ optional (w.spell_constant special) v.initial) (n.names_in_type v.type_name ++ v.name ∷ [])
      (typed-then v.type_name v.name (optional (w.spell_constant special) v.initial) [] (constant v.initial))
  global depth (p.object o) h =
      end-it (w.spell_name o.class ++ (w.spell_name o.name ++ w.spell_object_arguments special o.arguments)) (o.class ∷ (o.name ∷ n.names_in_exprs o.arguments))
      (both left_out (w.spell_name o.class) (w.spell_name o.name ++ w.spell_object_arguments special o.arguments) (o.class ∷ []) (o.name ∷ n.names_in_exprs o.arguments) refl
      (both left_out (w.spell_name o.name) (w.spell_object_arguments special o.arguments) (o.name ∷ []) (n.names_in_exprs o.arguments) refl (object-arguments depth o.arguments h)))
  global depth (p.mutex at x) h =
      end-it (w.spell_std special sn.Mutex ++ w.spell_name x) (x ∷ [])
      (behind-none left_out (w.spell_std special sn.Mutex) (w.spell_name x) (x ∷ []) (std-part left_out special leaves sn.Mutex) refl)

  -- ---- programs

  decls : (depth : ℕ) (xs : List p.DeclTree) → Every (fits.FitsDecl grammar most depth) xs → HasIt (flat_map (w.spell_decl special) (flat_map whole xs)) (n.names_in_each n.names_in_decl xs)
  decls depth [] h = refl
  decls depth (p.class_name c ∷ xs) h = decls depth xs h.1
  decls depth (p.proto f ∷ xs) h = decls depth xs h.1
  decls depth (p.class c ∷ xs) h =
      both left_out (w.spell_class special c) (flat_map (w.spell_decl special) (flat_map whole xs)) (n.names_in_class c) (n.names_in_each n.names_in_decl xs) (class depth c h.0) (decls depth xs h.1)
  decls depth (p.free_function f ∷ xs) h =
      both left_out (w.spell_function special f) (flat_map (w.spell_decl special) (flat_map whole xs)) (n.names_in_function f) (n.names_in_each n.names_in_decl xs) (function depth f h.0) (decls depth xs h.1)
  decls depth (p.global g ∷ xs) h =
      both left_out (w.spell_global special g) (flat_map (w.spell_decl special) (flat_map whole xs)) (n.names_in_global g) (n.names_in_each n.names_in_decl xs) (global depth g h.0) (decls depth xs h.1)

  directives : (ds : List Directive) → HasIt (flat_map w.spell_directive ds) []
  directives [] = refl
  directives (directive_of.Include header ∷ ds) = directives ds
  directives (directive_of.Pragma ∷ ds) = directives ds

pub names-are-spelled : NamesAreSpelled
names-are-spelled grammar q fit special left_out leaves =
    behind-none left_out (flat_map w.spell_directive q.directives) (flat_map (w.spell_decl special) (flat_map whole q.decls)) (n.names_in_program q)
    (directives left_out special leaves grammar fit.0.operators q.directives) (decls left_out special leaves grammar fit.0.operators fit.0.nesting q.decls fit.1)
