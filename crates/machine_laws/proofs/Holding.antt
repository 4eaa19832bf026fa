-- What is said of an item's doing, where something holds of each member that is named: of the frame after it, of the frames that
-- are made, and of what is stored.
use Rattle.std.proofs.Common.{ℕ, Bool, true, false, if◌then◌else◌, List, [], ◌∷◌, Option, Some, None}
use Rattle.agxx_base.specs.declared.ids.ClassId.{ClassId}
use Rattle.agxx_base.specs.declared.kind.NumKind.{NumKind}
use Rattle.cxx_core.specs.CoreExpr as c
use Rattle.cxx_core.specs.CoreExpr.{CoreExprs}
use Rattle.cxx_core.specs.CoreStmt as cs
use Rattle.cxx_core.specs.CoreStmt.{CorePrinted, CoreStmts}
use Rattle.cxx_core.specs.CoreProgram as cp
use Rattle.cxx_core.specs.CoreProgram.{FunctionKind, CoreFunction}
use Rattle.step_machine.specs.Item as it
use Rattle.step_machine.specs.Item.{Item, Ending, stmts_on, exprs_on, printed_on, body_on, function_items}
use Rattle.step_machine.specs.Effects as on
use Rattle.step_machine.specs.Effects.{Change, Deed, Act, goes, stops, waits}
use Rattle.machine_laws.specs.Members.{Nothing, OfExprs, OfPrinted, OfStmts, OfFunction, OfItems}

module _ (Holds : ClassId → ℕ → NumKind → Type 0) (FitsIn : ℕ → ℕ → ℕ → Type 0) where
  abbrev pub OfChange : Change → Type 0
  OfChange (on.store o w bits) = FitsIn o w bits
  OfChange _ = Nothing

  abbrev pub OfDeed : Deed → Type 0
  OfDeed (on.change x) = OfChange x
  OfDeed (on.enter g) = OfItems Holds g.items
  OfDeed (on.create_entering class words g) = OfItems Holds g.items
  OfDeed (on.start g) = OfItems Holds g.items
  OfDeed _ = Nothing

  abbrev pub OfAct : Act → Type 0
  OfAct (goes g d) = OfItems Holds g.items × OfDeed d
  OfAct (stops cause at) = Nothing
  OfAct waits = Nothing

  pub if-act : (b : Bool) (x y : Act) → OfAct x → OfAct y → OfAct (if b then x else y)
  if-act true x y p q = p
  if-act false x y p q = q

module _ (Holds : ClassId → ℕ → NumKind → Type 0) where
  pub stmts-on : (ss : CoreStmts) (is : List Item) → OfStmts Holds ss → OfItems Holds is → OfItems Holds (stmts_on ss is)
  stmts-on cs.no_stmts is h r = r
  stmts-on (cs.more_stmts s ss) is h r = (h.0, stmts-on ss is h.1 r)

  pub exprs-on : (es : CoreExprs) (is : List Item) → OfExprs Holds es → OfItems Holds is → OfItems Holds (exprs_on es is)
  exprs-on c.no_exprs is h r = r
  exprs-on (c.more_exprs e es) is h r = (h.0, exprs-on es is h.1 r)

  pub printed-on : (qs : List CorePrinted) (is : List Item) → OfPrinted Holds qs → OfItems Holds is → OfItems Holds (printed_on qs is)
  printed-on [] is h r = r
  printed-on (cs.text at bytes ∷ qs) is h r = (tt, printed-on qs is h r)
  printed-on (cs.endl at ∷ qs) is h r = (tt, printed-on qs is h r)
  printed-on (cs.operand at k e ∷ qs) is h r = (h.0, (tt, printed-on qs is h.1 r))
  printed-on (cs.unprintable at ∷ qs) is h r = printed-on qs is h r

  body-on : (kind : FunctionKind) (base : Option ℕ) (f : CoreFunction) (is : List Item) → OfFunction Holds f → OfItems Holds is → OfItems Holds (body_on kind base f is)
  body-on cp.plain None f is h r = stmts-on f.body is h.body r
  body-on cp.plain (Some base) f is h r = stmts-on f.body is h.body r
  body-on cp.constructor None f is h r = stmts-on f.body is h.body r
  body-on cp.constructor (Some base) f is h r =
      exprs-on f.base_arguments (it.up f.name.at base ∷ stmts_on f.body is) h.base_arguments (tt, stmts-on f.body is h.body r)
  body-on cp.destructor None f is h r = stmts-on f.body is h.body r
  body-on cp.destructor (Some base) f is h r = stmts-on f.body (it.down f.name.at base ∷ is) h.body (tt, r)

  pub function-items : (f : CoreFunction) (ending : Ending) → OfFunction Holds f → OfItems Holds (function_items f ending)
  function-items f ending h = body-on f.kind f.base f (it.end f.name.at ending ∷ []) h (tt, tt)
