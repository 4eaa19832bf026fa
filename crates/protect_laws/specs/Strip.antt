-- A protected program read back: functions, members and calls of generated names are dropped, and a value that waits in
-- a local of a generated name until parts are left is returned at once.
use Rattle.std.specs.Prelude.{◌≡◌, ◌<◌, ℕ, Bool, true, false, if◌then◌else◌, nat_eq, List, [], ◌∷◌, ◌++◌, length, Option, Some, None, codes}
use Rattle.std.specs.List.{starts_with, flat_map}
use Rattle.agxx_base.specs.declared.ids.NameId.{NameId}
use Rattle.agxx_base.specs.declared.place.Place.{Place}
use Rattle.agxx_base.specs.Names.{is_known}
use Rattle.cxx_tree.specs.declared.expr.Left.{Left}
use Rattle.cxx_tree.specs.declared.expr.Left.TheVariants as left_of
use Rattle.cxx_tree.specs.Limits.{Every}
use Rattle.cxx_tree.specs.ExprTree as e
use Rattle.cxx_tree.specs.ExprTree.{ExprTree}
use Rattle.cxx_tree.specs.StmtTree as s
use Rattle.cxx_tree.specs.StmtTree.{InitialTree, LocalTree, SimpleTree, StmtTree, StmtTrees, BlockTree, IfTree, ElseTree, listed_stmts}
use Rattle.cxx_tree.specs.ProgramTree as p
use Rattle.cxx_tree.specs.ProgramTree.{FunctionTree, CtorTree, DtorTree, ItemTree, ClassTree, DeclTree, ProgramTree}
use Rattle.cxx_tree.specs.Same.{IsSame}
use Rattle.cxx_distinct.specs.NamesIn.{names_in_program}
use Rattle.cxx_normal.specs.Normal.{normal_tree}
use Rattle.cxx_make.specs.Generated.{text_of}
use Rattle.guards.specs.declared.guard.Guard.{Guard}
use Rattle.protect.specs.Protected.{protected}
use Rattle.protect.specs.GeneratedNames.{generated_texts, with_generated}
use Rattle.protect_laws.specs.Exits.{callee_name}

abbrev pub begins_generated : List ℕ → Bool
begins_generated text = starts_with nat_eq text (codes "__gop_")

-- whether a name's text begins as those of generated names do
abbrev pub is_generated : List (List ℕ) → NameId → Bool
is_generated names name = begins_generated (text_of names name)

-- whether it begins as those of the locals do in which returned values wait
abbrev pub is_value : List (List ℕ) → NameId → Bool
is_value names name = starts_with nat_eq (text_of names name) (codes "__gop_r_")

-- ---- values that wait in a local

-- the local and the value that it takes
abbrev pub Waiting : Type 0
Waiting = Option (LocalTree × ExprTree)

abbrev pub waits : LocalTree → Option InitialTree → Waiting
waits l None = None
waits l (Some i) = Some (l, i.value)

abbrev pub is_left : NameId → Left → Bool
is_left name (left_of.Name r) = nat_eq r.name.item.0 name.0
is_left name (left_of.Member n q) = false
is_left name (left_of.Result n) = false

-- whether an expression is the variable of this name
abbrev pub is_variable : NameId → ExprTree → Bool
is_variable name (e.lit n value) = false
is_variable name (e.flag n is_set) = false
is_variable name (e.null n) = false
is_variable name (e.this n) = false
is_variable name (e.left l) = is_left name l
is_variable name (e.unary n o operand) = false
is_variable name (e.binary n o a b) = false
is_variable name (e.paren n inner) = false
is_variable name (e.cast n type_name operand) = false
is_variable name (e.call c) = false
is_variable name (e.new n class) = false
is_variable name (e.new_with n class arguments) = false

-- a local that waits stays where what follows doesn't return it
abbrev pub put_back : Waiting → List StmtTree
put_back None = []
put_back (Some (l, value)) = s.local l ∷ []

-- the `return` of a value that the local has returns what it waits with
abbrev pub returned : Waiting → Place → ExprTree → List StmtTree
returned None at value = s.return at (Some value) ∷ []
returned (Some (l, waiting)) at value =
    if is_variable l.name.item value then s.return at (Some waiting) ∷ [] else s.local l ∷ s.return at (Some value) ∷ []

-- a local that doesn't wait
abbrev pub unless_waiting : Waiting → LocalTree → List StmtTree
unless_waiting None l = s.local l ∷ []
unless_waiting (Some waiting) l = []

-- ---- statements

module _ (names : List (List ℕ)) where
  -- whether a function of a generated name is called
  abbrev pub is_generated_call : SimpleTree → Bool
  is_generated_call (s.assign a) = false
  is_generated_call (s.bump b) = false
  is_generated_call (s.call_stmt (e.calls n callee arguments)) = is_generated names (callee_name callee)
  is_generated_call (s.proceed at) = false

  -- a local for a returned value waits
  abbrev pub waiting_local : LocalTree → Waiting
  waiting_local l = if is_value names l.name.item then waits l l.initial else None

  -- what waits behind a statement, behind which a call of a generated name doesn't count
  abbrev pub waiting_after : Waiting → StmtTree → Waiting
  waiting_after waiting (s.block b) = None
  waiting_after waiting (s.local l) = waiting_local l
  waiting_after waiting (s.simple i) = if is_generated_call i then waiting else None
  waiting_after waiting (s.branch i) = None
  waiting_after waiting (s.while at condition body) = None
  waiting_after waiting (s.for at start condition step body) = None
  waiting_after waiting (s.return at value) = None
  waiting_after waiting (s.delete at pointer) = None
  waiting_after waiting (s.print q) = None
  waiting_after waiting (s.thread t) = None
  waiting_after waiting (s.abort at) = None

  abbrev mutual
    -- what waits before a statement, and the statement
    pub stripped_stmt : Waiting → StmtTree → List StmtTree
    stripped_stmt waiting (s.block b) = put_back waiting ++ s.block (stripped_block b) ∷ []
    stripped_stmt waiting (s.local l) = put_back waiting ++ unless_waiting (waiting_local l) l
    stripped_stmt waiting (s.simple i) = if is_generated_call i then [] else put_back waiting ++ s.simple i ∷ []
    stripped_stmt waiting (s.branch i) = put_back waiting ++ s.branch (stripped_if i) ∷ []
    stripped_stmt waiting (s.while at condition body) =
        put_back waiting ++ s.while at condition (stripped_block body) ∷ []
    stripped_stmt waiting (s.for at start condition step body) =
        put_back waiting ++ s.for at start condition step (stripped_block body) ∷ []
    stripped_stmt waiting (s.return at None) = put_back waiting ++ s.return at None ∷ []
    stripped_stmt waiting (s.return at (Some value)) = returned waiting at value
    stripped_stmt waiting (s.delete at pointer) = put_back waiting ++ s.delete at pointer ∷ []
    stripped_stmt waiting (s.print q) = put_back waiting ++ s.print q ∷ []
    stripped_stmt waiting (s.thread t) = put_back waiting ++ s.thread t ∷ []
    stripped_stmt waiting (s.abort at) = put_back waiting ++ s.abort at ∷ []

    pub stripped_stmts : Waiting → StmtTrees → List StmtTree
    stripped_stmts waiting s.no_stmts = put_back waiting
    stripped_stmts waiting (s.more_stmts first rest) =
        stripped_stmt waiting first ++ stripped_stmts (waiting_after waiting first) rest

    pub stripped_block : BlockTree → BlockTree
    stripped_block (s.braces at stmts) = s.braces at (listed_stmts (stripped_stmts None stmts))

    pub stripped_if : IfTree → IfTree
    stripped_if (s.chooses at condition body otherwise) =
        s.chooses at condition (stripped_block body) (stripped_else otherwise)

    pub stripped_else : ElseTree → ElseTree
    stripped_else s.no_else = s.no_else
    stripped_else (s.else_if i) = s.else_if (stripped_if i)
    stripped_else (s.else_block b) = s.else_block (stripped_block b)

  -- ---- declarations

  abbrev pub stripped_function : FunctionTree → FunctionTree
  stripped_function f = record f { body = stripped_block f.body }

  abbrev pub stripped_ctor : CtorTree → CtorTree
  stripped_ctor c = record c { body = stripped_block c.body }

  abbrev pub stripped_dtor : DtorTree → DtorTree
  stripped_dtor d = record d { body = stripped_block d.body }

  abbrev pub stripped_item : ItemTree → List ItemTree
  stripped_item (p.label at access) = p.label at access ∷ []
  stripped_item (p.member m) = if is_generated names m.name.item then [] else p.member m ∷ []
  stripped_item (p.function f) = if is_generated names f.name.item then [] else p.function (stripped_function f) ∷ []
  stripped_item (p.ctor c) = p.ctor (stripped_ctor c) ∷ []
  stripped_item (p.dtor d) = p.dtor (stripped_dtor d) ∷ []

  abbrev pub stripped_class : ClassTree → ClassTree
  stripped_class c = record c { items = flat_map stripped_item c.items }

  abbrev pub stripped_decl : DeclTree → List DeclTree
  stripped_decl (p.class c) = p.class (stripped_class c) ∷ []
  stripped_decl (p.class_name c) = p.class_name c ∷ []
  stripped_decl (p.free_function f) =
      if is_generated names f.name.item then [] else p.free_function (stripped_function f) ∷ []
  stripped_decl (p.proto f) = p.proto f ∷ []
  stripped_decl (p.global g) = p.global g ∷ []

-- the program without what was generated, in normal form
abbrev pub stripped : ℕ → List (List ℕ) → ProgramTree → ProgramTree
stripped main names q = normal_tree main (record q { decls = flat_map (stripped_decl names) q.decls })

-- ---- what it gives

-- no name that stands in the program is a generated one
abbrev pub HasNoneGenerated : List (List ℕ) → ProgramTree → Type 0
HasNoneGenerated names q = Every (λ n. is_generated names n.item ≡ false) (names_in_program q)

-- each text is that of a name
abbrev pub AreKnown : List (List ℕ) → List (List ℕ) → Type 0
AreKnown names texts = Every (λ text. is_known names text ≡ true) texts

-- each name that stands in the program has a text
abbrev pub HasTexts : List (List ℕ) → ProgramTree → Type 0
HasTexts names q = Every (λ n. n.item.0 < length names) (names_in_program q)

-- what these laws ask for: by the table with all generated names, they are known and no name of the program is one of
-- them, where none of its texts begins as they do
abbrev pub GeneratedAreKnown : Type 0
GeneratedAreKnown =
    (names : List (List ℕ)) (guards : List Guard) (q : ProgramTree)
    → HasTexts names q → HasNoneGenerated names q
    → let all = with_generated names guards q in HasTexts all q × HasNoneGenerated all q
    × AreKnown all (generated_texts all guards q)

-- weaving adds what is dropped, and changes nothing else: by any table that has the generated names, what is left of
-- a protected program is its source in normal form
abbrev pub StrippedIsNormal : Type 0
StrippedIsNormal =
    (main : ℕ) (names : List (List ℕ)) (guards : List Guard) (q : ProgramTree)
    → HasNoneGenerated names q → AreKnown names (generated_texts names guards q)
    → stripped main names (protected names guards q) ≡ normal_tree main q

-- a program in normal form, woven with the names that weaving adds to its own, is left as it was
abbrev pub StrippedIsSource : Type 0
StrippedIsSource =
    (main : ℕ) (names : List (List ℕ)) (guards : List Guard) (q : ProgramTree)
    → HasTexts names q → HasNoneGenerated names q → IsSame (normal_tree main q) q
    → let all = with_generated names guards q in IsSame (stripped main all (protected all guards q)) q
