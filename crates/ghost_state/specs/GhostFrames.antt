-- The frames of a ghost state: those of the source, with how far each is in its enters and leaves; and both machines' frames,
-- which are read from them.
use Rattle.std.specs.Prelude.{ℕ, ◌+◌, Bool, true, false, List, [], ◌∷◌, ◌++◌, map, reverse, Option, Some, None}
use Rattle.agxx_base.specs.declared.ids.ClassId.{ClassId}
use Rattle.agxx_base.specs.declared.place.Place.{Place}
use Rattle.cxx_names.specs.declared.types.ValueType.{ValueType}
use Rattle.cxx_core.specs.CoreExpr.{CoreExpr}
use Rattle.cxx_core.specs.CoreStmt as cs
use Rattle.cxx_core.specs.CoreStmt.{CoreStmt, CoreStmts}
use Rattle.cxx_core.specs.CoreProgram.{CoreProgram}
use Rattle.step_machine.specs.declared.datum.Datum.{Datum}
use Rattle.step_machine.specs.Item as it
use Rattle.step_machine.specs.Item.{Item, stmts_on}
use Rattle.step_machine.specs.Frame.{Frame}
use Rattle.step_machine.specs.Turn.{Thread}
use Rattle.part_protocol.specs.Part.{EnterStep, LeaveStep}
use Rattle.ghost_state.specs.CoreCodes.{nowhere, Codes}
use Rattle.ghost_state.specs.Names.{Naming}
use Rattle.ghost_state.specs.ProtectedCore.{enter_callee, leave_callee, wrapped_stmts, wrapped_stmt, returns_in}
use Rattle.ghost_state.specs.EntryFrames.{Unfolding, as_stmt, call_on, enter_frames, leave_frames}

-- ---- what is left of a body; with how many `return`s of a value stand before it in the function

pub data GhostItem : Type 0 where
  -- the same in both
  same : Item → GhostItem
  stmt : ℕ → CoreStmt → GhostItem
  branch : ℕ → CoreStmts → CoreStmts → GhostItem
  loop : ℕ → CoreExpr → CoreStmts → GhostItem
  for_test : ℕ → CoreExpr → CoreStmts → CoreStmts → GhostItem
  for_loop : ℕ → CoreExpr → CoreStmts → CoreStmts → GhostItem
  -- a value on its way: the source keeps it and leaves the frame, protection binds it first
  returning : ℕ → Place → ValueType → GhostItem

-- how a body is left
pub data Exit : Type 0 where
  by_value : ℕ → Place → ValueType → Exit
  -- the source still stands at the statement
  by_return : Place → Exit
  by_end : Exit

pub data Stage : Type 0 where
  -- what precedes the body: base arguments, and the base's constructor
  before : List Item → Stage
  -- at the call that enters the part of the first class, with those that are entered behind it
  entering : Unfolding → ClassId → List ClassId → Stage
  in_enter : ClassId → List ClassId → EnterStep → Stage
  inside : Stage
  -- at the call that leaves the part at the head of those held, or at the exit where none is
  leaving : Unfolding → Exit → Stage
  in_leave : Exit → ClassId → LeaveStep → Stage
  -- the next item leaves the frame
  left : Exit → Stage
  -- past the body: the base's destructor, and the end
  after : Stage

pub record GhostFrame : Type 0 where
  pub function : Option ℕ
  pub this : Option ℕ
  -- the parts that it enters, the topmost class's first
  pub parts : List ClassId
  -- those that it is engaged in, the last entered first
  pub held : List ClassId
  pub locals : List (ℕ × Datum)
  pub threads : List (ℕ × ℕ)
  pub values : List Datum
  pub kept : Option Datum
  -- what is left of the body, and what follows it
  pub items : List GhostItem
  pub tail : List Item
  -- whether the body ends in a `return`, so that no leaves follow
  pub closed : Bool
  pub stage : Stage
  -- whether it called out of its object, so that it isn't inside; none does so far
  pub is_out : Bool

-- ---- the source's frames

abbrev pub source_item : GhostItem → List Item → List Item
source_item (same i) is = i ∷ is
source_item (stmt n s) is = it.stmt s ∷ is
source_item (branch n a b) is = it.branch a b ∷ is
source_item (loop n e body) is = it.loop e body ∷ is
source_item (for_test n e step body) is = it.for_test e step body ∷ is
source_item (for_loop n e step body) is = it.for_loop e step body ∷ is
source_item (returning n at t) is = it.keep t ∷ it.leave at ∷ is

abbrev pub source_body : List GhostItem → List Item → List Item
source_body [] tail = tail
source_body (i ∷ is) tail = source_item i (source_body is tail)

abbrev pub exit_place : Exit → Place
exit_place (by_value n at t) = at
exit_place (by_return at) = at
exit_place by_end = nowhere

abbrev pub source_exit : Exit → List GhostItem → List Item → List Item
source_exit (by_value n at t) is tail = it.leave at ∷ source_body is tail
source_exit (by_return at) is tail = it.stmt (cs.return at) ∷ source_body is tail
source_exit by_end is tail = tail

abbrev pub source_items : List GhostItem → List Item → Stage → List Item
source_items is tail (before first) = first ++ source_body is tail
source_items is tail (entering u class todo) = source_body is tail
source_items is tail (in_enter class todo s) = source_body is tail
source_items is tail inside = source_body is tail
source_items is tail (leaving u x) = source_exit x is tail
source_items is tail (in_leave x class s) = source_exit x is tail
source_items is tail (left x) = it.leave (exit_place x) ∷ source_body is tail
source_items is tail after = tail

abbrev pub source_frame : GhostFrame → Frame
source_frame f = record {
  function = f.function;
  is_generated = false;
  this = f.this;
  locals = f.locals;
  threads = f.threads;
  values = f.values;
  kept = f.kept;
  items = source_items f.items f.tail f.stage;
}

abbrev pub source_thread : List GhostFrame → Thread
source_thread fs = map source_frame fs

-- ---- the protected program's frames

module _ (names : Naming) (g : Codes) (p : CoreProgram) where
  abbrev pub enters_on : List ClassId → List Item → List Item
  enters_on [] is = is
  enters_on (class ∷ classes) is = call_on as_stmt (enter_callee names g p class) (enters_on classes is)

  abbrev pub leaves_on : List ClassId → List Item → List Item
  leaves_on [] is = is
  leaves_on (class ∷ classes) is = call_on as_stmt (leave_callee names g p class) (leaves_on classes is)

  -- with how far the first is unfolded
  abbrev pub leaves_from : Unfolding → List ClassId → List Item → List Item
  leaves_from u [] is = is
  leaves_from u (class ∷ classes) is = call_on u (leave_callee names g p class) (leaves_on classes is)

  -- `return __gop_r_N;`
  abbrev pub given_back : ℕ → Place → ValueType → Item
  given_back n at t = it.stmt (cs.return_value at t (cs.copy (names.result n) t))

  -- by the parts that are left, the last entered first
  abbrev pub returns_on : List ClassId → ℕ → Place → ValueType → List Item → List Item
  returns_on [] n at t is = it.keep t ∷ it.leave at ∷ is
  returns_on (class ∷ classes) n at t is =
      it.bind (names.result n) t ∷ leaves_on (class ∷ classes) (given_back n at t ∷ is)

  module _ (out : List ClassId) where
    abbrev pub woven_stmts : ℕ → CoreStmts → CoreStmts
    woven_stmts n ss = wrapped_stmts names g p out n cs.no_stmts ss

    abbrev pub woven_item : GhostItem → List Item → List Item
    woven_item (same i) is = i ∷ is
    woven_item (stmt n s) is = stmts_on (wrapped_stmt names g p out n cs.no_stmts s) is
    woven_item (branch n a b) is = it.branch (woven_stmts n a) (woven_stmts (n + returns_in a) b) ∷ is
    woven_item (loop n e body) is = it.loop e (woven_stmts n body) ∷ is
    woven_item (for_test n e step body) is = it.for_test e step (woven_stmts n body) ∷ is
    woven_item (for_loop n e step body) is = it.for_loop e step (woven_stmts n body) ∷ is
    woven_item (returning n at t) is = returns_on out n at t is

    abbrev pub woven_body : List GhostItem → List Item → List Item
    woven_body [] tail = tail
    woven_body (i ∷ is) tail = woven_item i (woven_body is tail)

    abbrev pub closing : Bool → List Item → List Item
    closing true tail = tail
    closing false tail = leaves_on out tail

    -- what is left of a body, the leaves at its end, and what follows it
    abbrev pub woven_rest : List GhostItem → Bool → List Item → List Item
    woven_rest is closed tail = woven_body is (closing closed tail)

    abbrev pub woven_exit : Exit → List GhostItem → Bool → List Item → List Item
    woven_exit (by_value n at t) is closed tail = given_back n at t ∷ woven_rest is closed tail
    woven_exit (by_return at) is closed tail = it.stmt (cs.return at) ∷ woven_rest is closed tail
    woven_exit by_end is closed tail = tail

  abbrev pub woven_items : List ClassId → List ClassId → List GhostItem → Bool → List Item → Stage → List Item
  woven_items parts held is closed tail (before first) =
      first ++ enters_on parts (woven_rest (reverse parts) is closed tail)
  woven_items parts held is closed tail (entering u class todo) =
      call_on u (enter_callee names g p class) (enters_on todo (woven_rest (reverse parts) is closed tail))
  woven_items parts held is closed tail (in_enter class todo s) =
      enters_on todo (woven_rest (reverse parts) is closed tail)
  woven_items parts held is closed tail inside = woven_rest (reverse parts) is closed tail
  woven_items parts held is closed tail (leaving u x) =
      leaves_from u held (woven_exit (reverse parts) x is closed tail)
  woven_items parts held is closed tail (in_leave x class s) =
      leaves_on held (woven_exit (reverse parts) x is closed tail)
  woven_items parts held is closed tail (left x) =
      it.leave (exit_place x) ∷ woven_rest (reverse parts) is closed tail
  woven_items parts held is closed tail after = tail

  -- a value on its way stands last
  abbrev pub with_result : Exit → Option Datum → List (ℕ × Datum) → List (ℕ × Datum)
  with_result (by_value n at t) (Some v) locals = locals ++ (names.result n, v) ∷ []
  with_result x kept locals = locals

  abbrev pub woven_locals : Stage → Option Datum → List (ℕ × Datum) → List (ℕ × Datum)
  woven_locals (leaving u x) kept locals = with_result x kept locals
  woven_locals (in_leave x class s) kept locals = with_result x kept locals
  woven_locals (left x) kept locals = with_result x kept locals
  woven_locals s kept locals = locals

  abbrev pub woven_kept : Stage → Option Datum → Option Datum
  woven_kept (leaving u x) kept = None
  woven_kept (in_leave x class s) kept = None
  woven_kept s kept = kept

  abbrev pub woven_frame : GhostFrame → Frame
  woven_frame f = record {
    function = f.function;
    is_generated = false;
    this = f.this;
    locals = woven_locals f.stage f.kept f.locals;
    threads = f.threads;
    values = f.values;
    kept = woven_kept f.stage f.kept;
    items = woven_items f.parts f.held f.items f.closed f.tail f.stage;
  }

  abbrev pub entering_on : Option ℕ → ClassId → EnterStep → List Frame
  entering_on None class s = []
  entering_on (Some o) class s = enter_frames names g p o class s

  abbrev pub leaving_on : Option ℕ → ClassId → LeaveStep → List Frame
  leaving_on None class s = []
  leaving_on (Some o) class s = leave_frames names g p o class s

  -- the frames of its enter or leave, which stand on it
  abbrev pub entry_frames : Stage → Option ℕ → List Frame
  entry_frames (in_enter class todo s) this = entering_on this class s
  entry_frames (in_leave x class s) this = leaving_on this class s
  entry_frames s this = []

  abbrev pub woven_thread : List GhostFrame → Thread
  woven_thread [] = []
  woven_thread (f ∷ fs) = entry_frames f.stage f.this ++ (woven_frame f ∷ woven_thread fs)
