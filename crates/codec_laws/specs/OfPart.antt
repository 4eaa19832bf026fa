-- What stands in blocks: they name nothing but the words of their part, their own locals and numbers, and they have no
-- call, loop, `new`, `delete` or thread.
use Rattle.std.specs.Prelude.{◌≡◌, ℕ, List, [], ◌∷◌, Some, slice_get}
use Rattle.agxx_base.specs.declared.ids.ClassId.{ClassId}
use Rattle.cxx_core.specs.CoreExpr as c
use Rattle.cxx_core.specs.CoreExpr.{CoreLeft, CoreExpr}
use Rattle.cxx_core.specs.CoreStmt as cs
use Rattle.cxx_core.specs.CoreStmt.{CoreStmt, CoreStmts}
use Rattle.cxx_core.specs.CoreProgram.{CoreWord}
use Rattle.step_machine.specs.Item as it
use Rattle.step_machine.specs.Item.{Item}

abbrev pub Nothing : Type 0
Nothing = Unit {0}

-- `Names class name` says that a member is a word of the part
module _ (Names : ClassId → ℕ → Type 0) where
  abbrev pub PartLeft : CoreLeft → Type 0
  PartLeft (c.variable (c.local name t)) = Nothing
  PartLeft (c.member at c.own class name k) = Names class name
  PartLeft l = ⊥

  abbrev pub PartExpr : CoreExpr → Type 0
  PartExpr (c.number v) = Nothing
  PartExpr (c.read l) = PartLeft l
  PartExpr (c.unary at o t x) = PartExpr x
  PartExpr (c.binary at o t u x y) = PartExpr x × PartExpr y
  PartExpr (c.cast k t x) = PartExpr x
  PartExpr e = ⊥

  abbrev mutual
    pub PartStmt : CoreStmt → Type 0
    PartStmt (cs.declare name t (Some (cs.value e))) = PartExpr e
    PartStmt (cs.assign l e) = PartLeft l × PartExpr e
    PartStmt (cs.branch e x y) = PartExpr e × PartStmts x × PartStmts y
    PartStmt cs.abort = Nothing
    PartStmt s = ⊥

    pub PartStmts : CoreStmts → Type 0
    PartStmts cs.no_stmts = Nothing
    PartStmts (cs.more_stmts first rest) = PartStmt first × PartStmts rest

  -- what is left of them to do
  abbrev pub PartItem : Item → Type 0
  PartItem (it.stmt s) = PartStmt s
  PartItem (it.expr e) = PartExpr e
  PartItem (it.op_one at o) = Nothing
  PartItem (it.op_two at o) = Nothing
  PartItem (it.cast k) = Nothing
  PartItem (it.bind name t) = Nothing
  PartItem (it.put l) = PartLeft l
  PartItem (it.branch x y) = PartStmts x × PartStmts y
  PartItem i = ⊥

  abbrev pub PartItems : List Item → Type 0
  PartItems [] = Nothing
  PartItems (i ∷ is) = PartItem i × PartItems is

-- the members that are words of the list
pub record IsWord (owner : ClassId) (words : List CoreWord) (class : ClassId) (name : ℕ) : Type 0 where
  pub owner_is : class ≡ owner
  pub place : ℕ
  pub word : CoreWord
  pub word_is : slice_get words place ≡ Some word
  pub name_is : word.name ≡ name
