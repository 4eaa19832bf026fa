-- Something holds of each member that is named: in an expression, in a statement, in what is left to do in a frame, in a
-- program. It is said of a member's class, its name and the kind with which it is named.
use Rattle.std.specs.Prelude.{◌≡◌, ℕ, List, [], ◌∷◌, Option, Some, None, slice_get}
use Rattle.agxx_base.specs.declared.ids.ClassId.{ClassId}
use Rattle.agxx_base.specs.declared.kind.NumKind.{NumKind}
use Rattle.cxx_core.specs.CoreExpr as c
use Rattle.cxx_core.specs.CoreExpr.{CoreLeft, CoreExpr, CoreExprs}
use Rattle.cxx_core.specs.CoreStmt as cs
use Rattle.cxx_core.specs.CoreStmt.{CoreSource, CorePrinted, CoreStmt, CoreStmts}
use Rattle.cxx_core.specs.CoreProgram as cp
use Rattle.cxx_core.specs.CoreProgram.{CoreFunction, CoreGlobal, CoreProgram}
use Rattle.step_machine.specs.Item as it
use Rattle.step_machine.specs.Item.{Item}
use Rattle.step_machine.specs.Frame.{Frame}

abbrev pub Nothing : Type 0
Nothing = Unit {0}

module _ (Holds : ClassId → ℕ → NumKind → Type 0) where
  -- ---- trees

  abbrev pub OfLeft : CoreLeft → Type 0
  OfLeft (c.variable v) = Nothing
  OfLeft (c.member at o class name k) = Holds class name k

  abbrev mutual
    pub OfExpr : CoreExpr → Type 0
    OfExpr (c.number v) = Nothing
    OfExpr c.null = Nothing
    OfExpr (c.this class) = Nothing
    OfExpr (c.read l) = OfLeft l
    OfExpr (c.address name class) = Nothing
    OfExpr (c.unary at o t a) = OfExpr a
    OfExpr (c.binary at o s t a b) = OfExpr a × OfExpr b
    OfExpr (c.and s t a b) = OfExpr a × OfExpr b
    OfExpr (c.or s t a b) = OfExpr a × OfExpr b
    OfExpr (c.cast k t a) = OfExpr a
    OfExpr (c.call callee es) = OfExprs es
    OfExpr (c.new at class es) = OfExprs es
    OfExpr (c.wrong at) = Nothing

    pub OfExprs : CoreExprs → Type 0
    OfExprs c.no_exprs = Nothing
    OfExprs (c.more_exprs e es) = OfExpr e × OfExprs es

  abbrev pub OfSource : CoreSource → Type 0
  OfSource (cs.copy name t) = Nothing
  OfSource (cs.value e) = OfExpr e

  abbrev pub OfInitial : Option CoreSource → Type 0
  OfInitial None = Nothing
  OfInitial (Some source) = OfSource source

  abbrev pub OfPrinted : List CorePrinted → Type 0
  OfPrinted [] = Nothing
  OfPrinted (cs.text at bytes ∷ qs) = OfPrinted qs
  OfPrinted (cs.endl at ∷ qs) = OfPrinted qs
  OfPrinted (cs.operand at k e ∷ qs) = OfExpr e × OfPrinted qs
  OfPrinted (cs.unprintable at ∷ qs) = OfPrinted qs

  abbrev mutual
    pub OfStmt : CoreStmt → Type 0
    OfStmt (cs.block body) = OfStmts body
    OfStmt (cs.declare name t initial) = OfInitial initial
    OfStmt (cs.assign l e) = OfLeft l × OfExpr e
    OfStmt (cs.update at o s t l e) = OfLeft l × OfExpr e
    OfStmt (cs.run e) = OfExpr e
    OfStmt (cs.join at name) = Nothing
    OfStmt (cs.lock at m) = Nothing
    OfStmt (cs.unlock at m) = Nothing
    OfStmt (cs.branch e a b) = OfExpr e × OfStmts a × OfStmts b
    OfStmt (cs.while e body) = OfExpr e × OfStmts body
    OfStmt (cs.for start e step body) = OfStmts start × OfExpr e × OfStmts step × OfStmts body
    OfStmt (cs.return at) = Nothing
    OfStmt (cs.return_value at t source) = OfSource source
    OfStmt (cs.delete at class e) = OfExpr e
    OfStmt (cs.print qs) = OfPrinted qs
    OfStmt (cs.thread at name g called es) = OfExprs es
    OfStmt cs.abort = Nothing
    OfStmt (cs.wrong at) = Nothing

    pub OfStmts : CoreStmts → Type 0
    OfStmts cs.no_stmts = Nothing
    OfStmts (cs.more_stmts first rest) = OfStmt first × OfStmts rest

  -- ---- programs

  pub record OfFunction (f : CoreFunction) : Type 0 where
    pub base_arguments : OfExprs f.base_arguments
    pub body : OfStmts f.body

  abbrev pub OfGlobals : List CoreGlobal → Type 0
  OfGlobals [] = Nothing
  OfGlobals (cp.object at name class es ∷ gs) = OfExprs es × OfGlobals gs
  OfGlobals (_ ∷ gs) = OfGlobals gs

  pub record OfProgram (program : CoreProgram) : Type 0 where
    pub functions : (i : ℕ) (f : CoreFunction) → slice_get program.functions i ≡ Some f → OfFunction f
    pub globals : OfGlobals program.globals

  -- ---- what is left to do

  abbrev pub OfItem : Item → Type 0
  OfItem (it.make at o class es) = OfExprs es
  OfItem (it.stmt s) = OfStmt s
  OfItem (it.expr e) = OfExpr e
  OfItem (it.short is_and e) = OfExpr e
  OfItem (it.put l) = OfLeft l
  OfItem (it.branch a b) = OfStmts a × OfStmts b
  OfItem (it.loop e body) = OfExpr e × OfStmts body
  OfItem (it.for_test e step body) = OfExpr e × OfStmts step × OfStmts body
  OfItem (it.for_loop e step body) = OfExpr e × OfStmts step × OfStmts body
  OfItem _ = Nothing

  abbrev pub OfItems : List Item → Type 0
  OfItems [] = Nothing
  OfItems (i ∷ is) = OfItem i × OfItems is

  -- in a thread
  abbrev pub OfFrames : List Frame → Type 0
  OfFrames [] = Nothing
  OfFrames (f ∷ fs) = OfItems f.items × OfFrames fs
