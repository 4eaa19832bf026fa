-- How a body enters parts and leaves them, told by its statements alone. At each point of a body there are leaves that
-- have to come before it may be left: all of them where none of them has come yet.
use Rattle.std.specs.Prelude.{◌≡◌, ◌≢◌, ◌⊎◌, ℕ, true, false, List, [], ◌∷◌, ◌++◌, map, reverse}
use Rattle.agxx_base.specs.declared.ids.NameId.{NameId}
use Rattle.agxx_base.specs.declared.place.Place.{Place}
use Rattle.cxx_tree.specs.declared.expr.Callee.{Callee}
use Rattle.cxx_tree.specs.declared.expr.Callee.TheVariants as callee_of
use Rattle.cxx_tree.specs.declared.program.TypeName.{TypeName}
use Rattle.cxx_tree.specs.Limits.{Every}
use Rattle.cxx_tree.specs.ExprTree as e
use Rattle.cxx_tree.specs.ExprTree.{ExprTree, ExprTrees, CallTree}
use Rattle.cxx_tree.specs.Fits.{Optionally}
use Rattle.cxx_tree.specs.StmtTree as s
use Rattle.cxx_tree.specs.StmtTree.{InitialTree, LocalTree, SimpleTree, PrintedTree, ThreadTree, StartTree, StmtTree, StmtTrees, BlockTree, IfTree, ElseTree}
use Rattle.cxx_distinct.specs.NamesIn.{names_in_block}
use Rattle.cxx_normal.specs.Entry.{ends_with_return}
use Rattle.cxx_make.specs.Made as made
use Rattle.entry_count.specs.PartCode.{enter, leave}
use Rattle.entry_count.specs.Wrapping.{wrapped_body}

-- `name();`
abbrev pub IsCallOf : NameId → StmtTree → Type 0
IsCallOf name stmt = (at : Place) × (stmt ≡ made.call at name)

-- statements that are calls of these names in turn, and then others
abbrev pub Begins : List NameId → StmtTrees → StmtTrees → Type 0
Begins [] stmts rest = stmts ≡ rest
Begins (name ∷ names) s.no_stmts rest = ⊥
Begins (name ∷ names) (s.more_stmts first others) rest = IsCallOf name first × Begins names others rest

-- a name is none of these
abbrev pub IsApart : List NameId → NameId → Type 0
IsApart others name = Every (λ (other : NameId). name ≢ other) others

abbrev pub callee_name : Callee → NameId
callee_name (callee_of.Bare r) = r.name.item
callee_name (callee_of.Member q) = q.name.item

-- ---- what calls none of these functions

module _ (special : List NameId) where
  abbrev mutual
    pub ExprIsApart : ExprTree → Type 0
    ExprIsApart (e.lit n value) = Unit {0}
    ExprIsApart (e.flag n is_set) = Unit {0}
    ExprIsApart (e.null n) = Unit {0}
    ExprIsApart (e.this n) = Unit {0}
    ExprIsApart (e.left l) = Unit {0}
    ExprIsApart (e.unary n o operand) = ExprIsApart operand
    ExprIsApart (e.binary n o a b) = ExprIsApart a × ExprIsApart b
    ExprIsApart (e.paren n inner) = ExprIsApart inner
    ExprIsApart (e.cast n type_name operand) = ExprIsApart operand
    ExprIsApart (e.call c) = CallIsApart c
    ExprIsApart (e.new n class) = Unit {0}
    ExprIsApart (e.new_with n class arguments) = ExprsAreApart arguments

    pub ExprsAreApart : ExprTrees → Type 0
    ExprsAreApart e.no_exprs = Unit {0}
    ExprsAreApart (e.more_exprs first rest) = ExprIsApart first × ExprsAreApart rest

    pub CallIsApart : CallTree → Type 0
    CallIsApart (e.calls n callee arguments) = IsApart special (callee_name callee) × ExprsAreApart arguments

  abbrev pub LocalIsApart : LocalTree → Type 0
  LocalIsApart l = Optionally (λ (i : InitialTree). ExprIsApart i.value) l.initial

  abbrev pub SimpleIsApart : SimpleTree → Type 0
  SimpleIsApart (s.assign a) = ExprIsApart a.value
  SimpleIsApart (s.bump b) = Unit {0}
  SimpleIsApart (s.call_stmt c) = CallIsApart c
  SimpleIsApart (s.proceed at) = Unit {0}

  abbrev pub StartIsApart : StartTree → Type 0
  StartIsApart (s.start_local l) = LocalIsApart l
  StartIsApart (s.start_simple i) = SimpleIsApart i

  abbrev pub PrintedIsApart : PrintedTree → Type 0
  PrintedIsApart (s.text q) = Unit {0}
  PrintedIsApart (s.endl at) = Unit {0}
  PrintedIsApart (s.value v) = ExprIsApart v

  -- no thread begins with one of them either
  abbrev pub ThreadIsApart : ThreadTree → Type 0
  ThreadIsApart t = IsApart special t.function.name.item × ExprsAreApart t.arguments

-- ---- what comes before what

-- the names of all functions that enter or leave, and of those that leave, in the order in which they are called
module _ (special leaves : List NameId) where
  -- no leave has come yet, before and behind a statement
  abbrev pub StaysInside : List NameId → List NameId → Type 0
  StaysInside owed next = (owed ≡ leaves) × (next ≡ leaves)

  -- what doesn't enter or leave stands inside, and a leave where it is the next that has to come
  abbrev pub PassesSimple : List NameId → SimpleTree → List NameId → Type 0
  PassesSimple owed i next =
      (StaysInside owed next × SimpleIsApart special i)
      ⊎ ((name : NameId) × (owed ≡ name ∷ next) × IsCallOf name (s.simple i))

  abbrev mutual
    -- a statement before which these leaves have to come, and those that have to come behind it
    pub Passes : List NameId → StmtTree → List NameId → Type 0
    Passes owed (s.block b) next = StaysInside owed next × PassesBlock b
    Passes owed (s.local l) next = StaysInside owed next × LocalIsApart special l
    Passes owed (s.simple i) next = PassesSimple owed i next
    Passes owed (s.branch i) next = StaysInside owed next × PassesIf i
    Passes owed (s.while at condition body) next =
        StaysInside owed next × ExprIsApart special condition × PassesBlock body
    Passes owed (s.for at start condition step body) next =
        StaysInside owed next × Optionally (StartIsApart special) start × Optionally (ExprIsApart special) condition
        × Optionally (SimpleIsApart special) step × PassesBlock body
    Passes owed (s.return at value) next = (owed ≡ []) × (next ≡ leaves) × Optionally (ExprIsApart special) value
    Passes owed (s.delete at pointer) next = StaysInside owed next × ExprIsApart special pointer
    Passes owed (s.print q) next = StaysInside owed next × Every (PrintedIsApart special) q.operands
    Passes owed (s.thread t) next = StaysInside owed next × ThreadIsApart special t
    Passes owed (s.abort at) next = StaysInside owed next

    pub PassesEach : List NameId → StmtTrees → List NameId → Type 0
    PassesEach owed s.no_stmts next = owed ≡ next
    PassesEach owed (s.more_stmts first rest) next =
        (between : List NameId) × Passes owed first between × PassesEach between rest next

    -- a block within a body begins and ends inside
    pub PassesBlock : BlockTree → Type 0
    PassesBlock (s.braces at stmts) = PassesEach leaves stmts leaves

    pub PassesIf : IfTree → Type 0
    PassesIf (s.chooses at condition body otherwise) =
        ExprIsApart special condition × PassesBlock body × PassesElse otherwise

    pub PassesElse : ElseTree → Type 0
    PassesElse s.no_else = Unit {0}
    PassesElse (s.else_if i) = PassesIf i
    PassesElse (s.else_block b) = PassesBlock b

  -- the end of a body comes behind all leaves, or behind a `return`
  abbrev pub Ends : StmtTrees → Type 0
  Ends stmts =
      (PassesEach leaves stmts [] × (ends_with_return false stmts ≡ false))
      ⊎ (PassesEach leaves stmts leaves × (ends_with_return false stmts ≡ true))

-- a body that begins with these enters and then goes so
abbrev pub EntersAndLeaves : List NameId → List NameId → BlockTree → Type 0
EntersAndLeaves enters leaves (s.braces at stmts) =
    (rest : StmtTrees) × Begins enters stmts rest × Ends (enters ++ leaves) leaves rest

-- a wrapped body enters all parts, and leaves them in reverse order before each of its exits and nowhere else, if no
-- name that stands in the body is that of one of the functions
abbrev pub ExitsComeAfterLeaves : Type 0
ExitsComeAfterLeaves =
    (names : List (List ℕ)) (result : TypeName) (class : NameId) (classes : List NameId) (body : BlockTree)
    → let enters = map (enter names) (class ∷ classes) in
    let leaves = map (leave names) (reverse (class ∷ classes)) in
    Every (λ n. IsApart (enters ++ leaves) n.item) (names_in_block body)
    → EntersAndLeaves enters leaves (wrapped_body names result (class ∷ classes) body)
