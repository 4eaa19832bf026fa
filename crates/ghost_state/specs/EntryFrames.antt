-- The frames of the functions that enter and leave a part, by how far they are.
use Rattle.std.specs.Prelude.{ℕ, ◌+◌, ◌-◌, ◌%◌, ◌^◌, true, List, [], ◌∷◌, Some, None}
use Rattle.agxx_base.specs.declared.ids.ClassId.{ClassId}
use Rattle.cxx_core.specs.CoreExpr as c
use Rattle.cxx_core.specs.CoreExpr.{CoreCallee}
use Rattle.cxx_core.specs.CoreProgram.{CoreProgram}
use Rattle.step_machine.specs.declared.datum.Datum.{Datum}
use Rattle.step_machine.specs.declared.datum.Datum.TheVariants as datum
use Rattle.agxx_base.specs.declared.kind.NumKind.TheVariants as kind
use Rattle.step_machine.specs.Item as it
use Rattle.step_machine.specs.Item.{Item, stmts_on}
use Rattle.step_machine.specs.Frame.{Frame}
use Rattle.steady_laws.specs.EntryBlocks.{count, free_lock, enter_block, enter_held, leave_block, leave_held, leave_counted}
use Rattle.part_protocol.specs.Part.{EnterStep, enter_waits, enter_runs, enter_unlocks, enter_ends, LeaveStep, leave_waits, leave_counts, leave_runs, leave_ends}
use Rattle.ghost_state.specs.CoreCodes.{nowhere, Codes}
use Rattle.ghost_state.specs.Names.{Naming}
use Rattle.ghost_state.specs.ProtectedCore.{enter_number, leave_number, repair_callee, renew_callee, calls}

-- ---- a call in the program's own frame, by how far the statement is unfolded

pub data Unfolding : Type 0 where
  as_stmt : Unfolding
  as_expr : Unfolding
  as_call : Unfolding

abbrev pub call_on : Unfolding → CoreCallee → List Item → List Item
call_on as_stmt f is = it.stmt (calls f) ∷ is
call_on as_expr f is = it.expr (c.call f c.no_exprs) ∷ is
call_on as_call f is = it.call f ∷ is

-- ---- the frames

-- of a function that has neither parameters nor, so far, locals
abbrev pub part_frame : ℕ → ℕ → List Datum → List Item → Frame
part_frame f o values items = record {
  function = Some f;
  is_generated = true;
  this = Some o;
  locals = [];
  threads = [];
  values = values;
  kept = None;
  items = items;
}

abbrev pub ends : List Item
ends = it.end nowhere it.returns ∷ []

abbrev pub a_count : ℕ → Datum
a_count n = datum.Number (record { kind = kind.U32; bits = n })

-- of a class's part of an object
module _ (names : Naming) (g : Codes) (p : CoreProgram) (o : ℕ) (class : ClassId) where
  abbrev pub entering : List Datum → List Item → List Frame
  entering values items = part_frame (enter_number g p class) o values items ∷ []

  abbrev pub leaving : List Datum → List Item → List Frame
  leaving values items = part_frame (leave_number g p class) o values items ∷ []

  -- the release of the lock, and the store of the counter
  abbrev pub frees : List Item
  frees = stmts_on (free_lock nowhere class (names.count class) (names.lock class)) ends

  abbrev pub stores_count : List Item → List Item
  stores_count is = it.put (count nowhere class (names.count class) (names.lock class)) ∷ is

  abbrev pub enter_locked : List Frame
  enter_locked = entering [] (stmts_on (enter_held nowhere class (names.count class) (names.lock class) (repair_callee names g p class)) ends)

  abbrev pub enter_puts : ℕ → List Frame
  enter_puts n = entering (a_count ((n + 1) % 2 ^ 32) ∷ []) (stores_count frees)

  abbrev pub leave_locked : List Frame
  leave_locked = leaving [] (stmts_on (leave_held nowhere class (names.count class) (names.lock class) (renew_callee names g p class)) ends)

  abbrev pub after_taken : List Item
  after_taken = stmts_on (leave_counted nowhere class (names.count class) (names.lock class) (renew_callee names g p class)) ends

  abbrev pub leave_puts : ℕ → List Frame
  leave_puts n = leaving (a_count (n - 1) ∷ []) (stores_count after_taken)

  abbrev pub leave_taken : List Frame
  leave_taken = leaving [] after_taken

  abbrev pub leave_frees : List Frame
  leave_frees = leaving [] frees

  abbrev pub enter_frames : EnterStep → List Frame
  enter_frames enter_waits = entering [] (stmts_on (enter_block nowhere class (names.count class) (names.lock class) (repair_callee names g p class)) ends)
  enter_frames (enter_runs done frames) = frames
  enter_frames enter_unlocks = entering [] frees
  enter_frames enter_ends = entering [] ends

  abbrev pub leave_frames : LeaveStep → List Frame
  leave_frames leave_waits = leaving [] (stmts_on (leave_block nowhere class (names.count class) (names.lock class) (renew_callee names g p class)) ends)
  leave_frames (leave_counts done frames) = frames
  leave_frames (leave_runs done frames) = frames
  leave_frames leave_ends = leaving [] ends
