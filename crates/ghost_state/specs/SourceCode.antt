-- Source code: nothing of it is generated, and it names members of parts through `this` alone.
use Rattle.std.specs.Prelude.{◌≡◌, ◌<◌, ℕ, false, List, [], ◌∷◌, length, Option, Some, None, codes}
use Rattle.std.specs.List.{Contains}
use Rattle.agxx_base.specs.declared.ids.ClassId.{ClassId}
use Rattle.agxx_base.specs.declared.kind.NumKind.{NumKind}
use Rattle.cxx_core.specs.CoreExpr as c
use Rattle.cxx_core.specs.CoreExpr.{CoreExpr, CoreExprs, CoreLeft, CoreObject}
use Rattle.cxx_core.specs.CoreStmt as cs
use Rattle.cxx_core.specs.CoreStmt.{CoreStmt, CoreStmts, CoreSource, CorePrinted}
use Rattle.cxx_core.specs.CoreProgram.{CoreProgram}
use Rattle.step_machine.specs.Setting.{begins}
use Rattle.step_machine.specs.Item as it
use Rattle.step_machine.specs.Item.{Item}
use Rattle.ghost_state.specs.CoreCodes.{CoreCode, Codes}
use Rattle.ghost_state.specs.Names.{Naming}
use Rattle.ghost_state.specs.GhostFrames.{GhostItem, same, stmt, branch, loop, for_test, for_loop, returning}
use Rattle.ghost_state.specs.Roles.{members_of_class}

module _ (texts : List (List ℕ)) (names : Naming) (g : Codes) (p : CoreProgram) where
  -- of a guarded class
  abbrev pub IsThroughThis : Option CoreCode → CoreObject → Type 0
  IsThroughThis (Some code) (c.by_object name class) = ⊥
  IsThroughThis (Some code) (c.by_pointer v) = ⊥
  IsThroughThis code o = Unit {0}

  -- a member that the class declares
  abbrev pub IsMember : ClassId → ℕ → NumKind → Type 0
  IsMember class name k = Contains (members_of_class texts names g p class) (record { name = name; kind = k })

  abbrev pub IsPlain : ℕ → Type 0
  IsPlain name = begins texts name (codes "__gop_") ≡ false

  abbrev pub IsFunction : ℕ → Type 0
  IsFunction f = f < length p.functions

  abbrev pub SourceLeft : CoreLeft → Type 0
  SourceLeft (c.member at o class name k) = IsThroughThis (g class) o × IsMember class name k
  SourceLeft (c.variable (c.local name t)) = IsPlain name
  SourceLeft (c.variable v) = Unit {0}

  abbrev mutual
    pub SourceExpr : CoreExpr → Type 0
    SourceExpr (c.read l) = SourceLeft l
    SourceExpr (c.unary at o t a) = SourceExpr a
    SourceExpr (c.binary at o t u a b) = SourceExpr a × SourceExpr b
    SourceExpr (c.and t u a b) = SourceExpr a × SourceExpr b
    SourceExpr (c.or t u a b) = SourceExpr a × SourceExpr b
    SourceExpr (c.cast k t a) = SourceExpr a
    SourceExpr (c.call f es) = IsPlain f.name × IsFunction f.function × SourceExprs es
    SourceExpr (c.new at class es) = SourceExprs es
    SourceExpr e = Unit {0}

    pub SourceExprs : CoreExprs → Type 0
    SourceExprs c.no_exprs = Unit {0}
    SourceExprs (c.more_exprs e es) = SourceExpr e × SourceExprs es

  abbrev pub SourceFrom : CoreSource → Type 0
  SourceFrom (cs.copy name t) = IsPlain name
  SourceFrom (cs.value e) = SourceExpr e

  abbrev pub SourceMay : Option CoreSource → Type 0
  SourceMay None = Unit {0}
  SourceMay (Some x) = SourceFrom x

  abbrev pub SourcePrinted : List CorePrinted → Type 0
  SourcePrinted [] = Unit {0}
  SourcePrinted (cs.operand at k e ∷ qs) = SourceExpr e × SourcePrinted qs
  SourcePrinted (q ∷ qs) = SourcePrinted qs

  abbrev mutual
    pub SourceStmt : CoreStmt → Type 0
    SourceStmt (cs.block body) = SourceStmts body
    SourceStmt (cs.declare name t x) = IsPlain name × SourceMay x
    SourceStmt (cs.assign l e) = SourceLeft l × SourceExpr e
    SourceStmt (cs.update at o t u l e) = SourceLeft l × SourceExpr e
    SourceStmt (cs.run e) = SourceExpr e
    SourceStmt (cs.branch e a b) = SourceExpr e × SourceStmts a × SourceStmts b
    SourceStmt (cs.while e body) = SourceExpr e × SourceStmts body
    SourceStmt (cs.for start e step body) = SourceStmts start × SourceExpr e × SourceStmts step × SourceStmts body
    SourceStmt (cs.return_value at t x) = SourceFrom x
    SourceStmt (cs.delete at class e) = SourceExpr e
    SourceStmt (cs.print qs) = SourcePrinted qs
    SourceStmt (cs.thread at name f called es) = IsFunction f × SourceExprs es
    SourceStmt cs.abort = ⊥
    SourceStmt s = Unit {0}

    pub SourceStmts : CoreStmts → Type 0
    SourceStmts cs.no_stmts = Unit {0}
    SourceStmts (cs.more_stmts s ss) = SourceStmt s × SourceStmts ss

  -- ---- what is left of it to do

  abbrev pub SourceItem : Item → Type 0
  SourceItem (it.make at o class es) = SourceExprs es
  SourceItem (it.stmt s) = ⊥
  SourceItem (it.expr e) = SourceExpr e
  SourceItem (it.short b e) = SourceExpr e
  SourceItem (it.bind name t) = IsPlain name
  SourceItem (it.put l) = SourceLeft l
  SourceItem (it.branch a b) = ⊥
  SourceItem (it.loop e body) = ⊥
  SourceItem (it.for_test e step body) = ⊥
  SourceItem (it.for_loop e step body) = ⊥
  SourceItem (it.call f) = IsPlain f.name × IsFunction f.function
  SourceItem (it.spawn at name f) = IsFunction f
  SourceItem (it.up at f) = IsFunction f
  SourceItem (it.keep t) = ⊥
  SourceItem (it.leave at) = ⊥
  SourceItem (it.end at ending) = ⊥
  SourceItem i = Unit {0}

  -- statements stand with how many returns are before them, and are woven then
  abbrev pub SourceGhostItem : GhostItem → Type 0
  SourceGhostItem (same i) = SourceItem i
  SourceGhostItem (stmt n s) = SourceStmt s
  SourceGhostItem (branch n a b) = SourceStmts a × SourceStmts b
  SourceGhostItem (loop n e body) = SourceExpr e × SourceStmts body
  SourceGhostItem (for_test n e step body) = SourceExpr e × SourceStmts step × SourceStmts body
  SourceGhostItem (for_loop n e step body) = SourceExpr e × SourceStmts step × SourceStmts body
  SourceGhostItem (returning n at t) = Unit {0}

  -- ---- before a body nothing names a member of this

  abbrev pub BeforeLeft : CoreLeft → Type 0
  BeforeLeft (c.member at c.own class name k) = ⊥
  BeforeLeft (c.member at c.by_this class name k) = ⊥
  BeforeLeft l = SourceLeft l

  abbrev mutual
    pub BeforeExpr : CoreExpr → Type 0
    BeforeExpr (c.read l) = BeforeLeft l
    BeforeExpr (c.unary at o t a) = BeforeExpr a
    BeforeExpr (c.binary at o t u a b) = BeforeExpr a × BeforeExpr b
    BeforeExpr (c.and t u a b) = BeforeExpr a × BeforeExpr b
    BeforeExpr (c.or t u a b) = BeforeExpr a × BeforeExpr b
    BeforeExpr (c.cast k t a) = BeforeExpr a
    BeforeExpr (c.call f es) = IsPlain f.name × IsFunction f.function × BeforeExprs es
    BeforeExpr (c.new at class es) = BeforeExprs es
    BeforeExpr e = Unit {0}

    pub BeforeExprs : CoreExprs → Type 0
    BeforeExprs c.no_exprs = Unit {0}
    BeforeExprs (c.more_exprs e es) = BeforeExpr e × BeforeExprs es

  abbrev pub BeforeItem : Item → Type 0
  BeforeItem (it.make at o class es) = BeforeExprs es
  BeforeItem (it.expr e) = BeforeExpr e
  BeforeItem (it.short b e) = BeforeExpr e
  BeforeItem (it.put l) = ⊥
  BeforeItem i = SourceItem i

  -- what follows a body
  abbrev pub IsTail : List Item → Type 0
  IsTail [] = Unit {0}
  IsTail (it.end at ending ∷ []) = Unit {0}
  IsTail (it.down at f ∷ it.end at' ending ∷ []) = IsFunction f
  IsTail is = ⊥
