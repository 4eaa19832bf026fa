-- Bodies of functions that enter parts at their beginning and leave them before each of their exits. A value that is
-- returned is put in a local first, then the parts are left, and then it is returned.
use Rattle.std.specs.Prelude.{ℕ, zero, suc, ◌+◌, false, if◌then◌else◌, List, [], ◌∷◌, ◌++◌, map, reverse, Some, None, codes}
use Rattle.std.specs.Fmt.{decimal}
use Rattle.agxx_base.specs.declared.ids.NameId.{NameId}
use Rattle.agxx_base.specs.declared.place.Place.{Place}
use Rattle.cxx_tree.specs.declared.program.TypeName.{TypeName}
use Rattle.cxx_tree.specs.ExprTree.{ExprTree}
use Rattle.cxx_tree.specs.StmtTree as s
use Rattle.cxx_tree.specs.StmtTree.{StmtTree, StmtTrees, BlockTree, IfTree, ElseTree, listed_stmts}
use Rattle.cxx_normal.specs.Entry.{ends_with_return}
use Rattle.cxx_make.specs.Generated.{numbered}
use Rattle.cxx_make.specs.Made as made
use Rattle.entry_count.specs.PartCode.{enter, leave}

-- how many statements return a value
abbrev mutual
  pub returns_in : StmtTree → ℕ
  returns_in (s.block b) = returns_in_block b
  returns_in (s.local l) = 0
  returns_in (s.simple i) = 0
  returns_in (s.branch i) = returns_in_if i
  returns_in (s.while at condition body) = returns_in_block body
  returns_in (s.for at start condition step body) = returns_in_block body
  returns_in (s.return at None) = 0
  returns_in (s.return at (Some value)) = 1
  returns_in (s.delete at pointer) = 0
  returns_in (s.print q) = 0
  returns_in (s.thread t) = 0
  returns_in (s.abort at) = 0

  pub returns_in_stmts : StmtTrees → ℕ
  returns_in_stmts s.no_stmts = 0
  returns_in_stmts (s.more_stmts first rest) = returns_in first + returns_in_stmts rest

  pub returns_in_block : BlockTree → ℕ
  returns_in_block (s.braces at stmts) = returns_in_stmts stmts

  pub returns_in_if : IfTree → ℕ
  returns_in_if (s.chooses at condition body otherwise) = returns_in_block body + returns_in_else otherwise

  pub returns_in_else : ElseTree → ℕ
  returns_in_else s.no_else = 0
  returns_in_else (s.else_if i) = returns_in_if i
  returns_in_else (s.else_block b) = returns_in_block b

-- the local takes the value
unfoldable pub taken : TypeName → Place → NameId → ExprTree → StmtTree
taken result at name value = made.local at result name value

-- what the local has is returned
unfoldable pub given : Place → NameId → StmtTree
given at name = s.return at (Some (made.variable at name))

module _ (names : List (List ℕ)) where
  -- the local for the value of the `return` with this number, from 1
  unfoldable pub value_name : ℕ → NameId
  value_name i = numbered names (codes "__gop_r_") i

  unfoldable pub entering_one : Place → NameId → StmtTree
  entering_one at class = made.call at (enter names class)

  unfoldable pub leaving_one : Place → NameId → StmtTree
  leaving_one at class = made.call at (leave names class)

  -- the parts of these classes are entered
  unfoldable pub entering : List NameId → Place → List StmtTree
  entering parts at = map (entering_one at) parts

  -- the part that was entered last is left first
  unfoldable pub leaving : List NameId → Place → List StmtTree
  leaving parts at = map (leaving_one at) (reverse parts)

-- the parts of these classes, the topmost first, in a function of this result type
module _ (names : List (List ℕ)) (result : TypeName) (parts : List NameId) where
  -- a value is returned by the `return` with this number, from 1
  unfoldable pub returning : Place → ℕ → ExprTree → List StmtTree
  returning at i value =
      taken result at (value_name names i) value ∷ (leaving names parts at ++ given at (value_name names i) ∷ [])

  abbrev mutual
    -- a statement that so many returned values stand before
    pub wrapped : ℕ → StmtTree → List StmtTree
    wrapped n (s.block b) = s.block (wrapped_block n b) ∷ []
    wrapped n (s.local l) = s.local l ∷ []
    wrapped n (s.simple i) = s.simple i ∷ []
    wrapped n (s.branch i) = s.branch (wrapped_if n i) ∷ []
    wrapped n (s.while at condition body) = s.while at condition (wrapped_block n body) ∷ []
    wrapped n (s.for at start condition step body) = s.for at start condition step (wrapped_block n body) ∷ []
    wrapped n (s.return at None) = leaving names parts at ++ s.return at None ∷ []
    wrapped n (s.return at (Some value)) = returning at (suc n) value
    wrapped n (s.delete at pointer) = s.delete at pointer ∷ []
    wrapped n (s.print q) = s.print q ∷ []
    wrapped n (s.thread t) = s.thread t ∷ []
    wrapped n (s.abort at) = s.abort at ∷ []

    pub wrapped_stmts : ℕ → StmtTrees → List StmtTree
    wrapped_stmts n s.no_stmts = []
    wrapped_stmts n (s.more_stmts first rest) = wrapped n first ++ wrapped_stmts (n + returns_in first) rest

    pub wrapped_block : ℕ → BlockTree → BlockTree
    wrapped_block n (s.braces at stmts) = s.braces at (listed_stmts (wrapped_stmts n stmts))

    pub wrapped_if : ℕ → IfTree → IfTree
    wrapped_if n (s.chooses at condition body otherwise) =
        s.chooses at condition (wrapped_block n body) (wrapped_else (n + returns_in_block body) otherwise)

    pub wrapped_else : ℕ → ElseTree → ElseTree
    wrapped_else n s.no_else = s.no_else
    wrapped_else n (s.else_if i) = s.else_if (wrapped_if n i)
    wrapped_else n (s.else_block b) = s.else_block (wrapped_block n b)

  -- the parts are left at the end, unless the last statement is a `return`
  unfoldable pub at_end : Place → StmtTrees → List StmtTree
  at_end at stmts = if ends_with_return false stmts then [] else leaving names parts at

  abbrev pub entered : BlockTree → BlockTree
  entered (s.braces at stmts) = s.braces at (listed_stmts (entering names parts at ++ (wrapped_stmts 0 stmts ++ at_end at stmts)))

-- a body of a function of this result type, in which these parts are entered; without parts it stays as it is
abbrev pub wrapped_body : List (List ℕ) → TypeName → List NameId → BlockTree → BlockTree
wrapped_body names result [] body = body
wrapped_body names result (class ∷ classes) body = entered names result (class ∷ classes) body

-- the texts of the locals for so many returned values, from this number on
abbrev pub value_texts : ℕ → ℕ → List (List ℕ)
value_texts i zero = []
value_texts i (suc n) = (codes "__gop_r_" ++ decimal i) ∷ value_texts (suc i) n
