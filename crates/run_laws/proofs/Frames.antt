-- Frames without `std::abort();` in what is left to do, and what comes of an item of one.
use Rattle.std.proofs.Common.{ℕ, Bool, true, false, if◌then◌else◌, List, [], ◌∷◌, Option, Some, None}
use Rattle.cxx_core.specs.CoreExpr as c
use Rattle.cxx_core.specs.CoreExpr.{CoreExprs}
use Rattle.cxx_core.specs.CoreStmt as cs
use Rattle.cxx_core.specs.CoreStmt.{CorePrinted, CoreStmts}
use Rattle.cxx_core.specs.CoreProgram as cp
use Rattle.cxx_core.specs.CoreProgram.{FunctionKind, CoreFunction}
use Rattle.step_machine.specs.declared.datum.Datum.{Datum}
use Rattle.step_machine.specs.Item as it
use Rattle.step_machine.specs.Item.{Item, Ending, stmts_on, exprs_on, printed_on, body_on, function_items}
use Rattle.step_machine.specs.Frame.{Frame}
use Rattle.step_machine.specs.Effects as on
use Rattle.step_machine.specs.Effects.{Deed, Turn, Act, goes, stops, waits, did}
use Rattle.step_machine.specs.Turn.{Thread, Settled, handed, done, settled}
use Rattle.run_laws.specs.HaltFree.{Nothing, IsHaltFree, AreHaltFree}

-- ---- what is left to do

abbrev pub IsFree : Item → Type 0
IsFree (it.stmt x) = IsHaltFree x
IsFree (it.branch a b) = AreHaltFree a × AreHaltFree b
IsFree (it.loop e body) = AreHaltFree body
IsFree (it.for_test e step body) = AreHaltFree step × AreHaltFree body
IsFree (it.for_loop e step body) = AreHaltFree step × AreHaltFree body
IsFree _ = Nothing

abbrev pub AreFree : List Item → Type 0
AreFree [] = Nothing
AreFree (i ∷ is) = IsFree i × AreFree is

-- in a thread
abbrev pub FreeFrames : Thread → Type 0
FreeFrames [] = Nothing
FreeFrames (f ∷ fs) = AreFree f.items × FreeFrames fs

-- ---- what comes of an item

abbrev pub FreeDeed : Deed → Type 0
FreeDeed (on.enter g) = AreFree g.items
FreeDeed (on.create_entering class words g) = AreFree g.items
FreeDeed (on.start g) = AreFree g.items
FreeDeed (on.halt o class) = ⊥
FreeDeed _ = Nothing

abbrev pub FreeAct : Act → Type 0
FreeAct (goes g d) = AreFree g.items × FreeDeed d
FreeAct (stops cause at) = Nothing
FreeAct waits = Nothing

abbrev pub FreeTurn : Turn → Type 0
FreeTurn (on.started g) = AreFree g.items
FreeTurn (on.halted o class) = ⊥
FreeTurn _ = Nothing

abbrev pub FreeSettled : Settled → Type 0
FreeSettled r = FreeFrames r.0 × FreeTurn r.1

pub if-act : (b : Bool) (x y : Act) → FreeAct x → FreeAct y → FreeAct (if b then x else y)
if-act true x y p q = p
if-act false x y p q = q

-- ---- items that stand on others

pub stmts-on : (ss : CoreStmts) (is : List Item) → AreHaltFree ss → AreFree is → AreFree (stmts_on ss is)
stmts-on cs.no_stmts is h r = r
stmts-on (cs.more_stmts x xs) is h r = (h.0, stmts-on xs is h.1 r)

pub exprs-on : (es : CoreExprs) (is : List Item) → AreFree is → AreFree (exprs_on es is)
exprs-on c.no_exprs is r = r
exprs-on (c.more_exprs e es) is r = (tt, exprs-on es is r)

pub printed-on : (qs : List CorePrinted) (is : List Item) → AreFree is → AreFree (printed_on qs is)
printed-on [] is r = r
printed-on (cs.text at bytes ∷ qs) is r = (tt, printed-on qs is r)
printed-on (cs.endl at ∷ qs) is r = (tt, printed-on qs is r)
printed-on (cs.operand at k e ∷ qs) is r = (tt, (tt, printed-on qs is r))
printed-on (cs.unprintable at ∷ qs) is r = printed-on qs is r

body-on : (kind : FunctionKind) (base : Option ℕ) (f : CoreFunction) (is : List Item) → AreHaltFree f.body → AreFree is → AreFree (body_on kind base f is)
body-on cp.plain None f is h r = stmts-on f.body is h r
body-on cp.plain (Some base) f is h r = stmts-on f.body is h r
body-on cp.constructor None f is h r = stmts-on f.body is h r
body-on cp.constructor (Some base) f is h r = exprs-on f.base_arguments (it.up f.name.at base ∷ stmts_on f.body is) (tt, stmts-on f.body is h r)
body-on cp.destructor None f is h r = stmts-on f.body is h r
body-on cp.destructor (Some base) f is h r = stmts-on f.body (it.down f.name.at base ∷ is) h (tt, r)

pub function-items : (f : CoreFunction) (ending : Ending) → AreHaltFree f.body → AreFree (function_items f ending)
function-items f ending h = body-on f.kind f.base f (it.end f.name.at ending ∷ []) h (tt, tt)

-- ---- a thread after an item

handed-free : (v : Option Datum) (fs : Thread) → FreeFrames fs → FreeFrames (handed v fs)
handed-free None fs r = r
handed-free (Some v) [] r = r
handed-free (Some v) (f ∷ fs) r = r

done-free : (fs : Thread) (f : Frame) (d : Deed) → FreeFrames fs → AreFree f.items → FreeDeed d → FreeSettled (done fs f d)
done-free fs f on.stay r h k = ((h, r), tt)
done-free fs f (on.change x) r h k = ((h, r), tt)
done-free fs f (on.enter g) r h k = ((k, (h, r)), tt)
done-free fs f (on.create_entering class words g) r h k = ((k, (h, r)), tt)
done-free fs f (on.back v) r h k = (handed-free v fs r, tt)
done-free fs f (on.back_killing o) r h k = (r, tt)
done-free fs f (on.start g) r h k = ((h, r), k)
done-free fs f (on.end z) r h k = ((h, r), tt)
done-free fs f (on.halt o class) r h k = absurd k

pub settled-free : (a : Act) (i : Item) (f : Frame) (fs : Thread) → FreeAct a → IsFree i → AreFree f.items → FreeFrames fs
    → FreeSettled (let d = did f a in settled i fs d.0 d.1)
settled-free (goes g d) i f fs k q h r = done-free fs g d r k.0 k.1
settled-free (stops cause at) i f fs k q h r = (((q, h), r), tt)
settled-free waits i f fs k q h r = (((q, h), r), tt)
