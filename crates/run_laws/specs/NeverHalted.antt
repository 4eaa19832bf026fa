-- A source is never halted: the grammar of sources has no `std::abort();`, nor has its core form, and no run of such code
-- comes to a halt.
use Rattle.std.specs.Prelude.{◌≢◌, ℕ, List, Option}
use Rattle.agxx_base.specs.declared.ids.ClassId.{ClassId}
use Rattle.agxx_base.specs.declared.ids.ObjectId.{ObjectId}
use Rattle.cxx_tree.specs.ProgramTree.{ProgramTree}
use Rattle.cxx_tree.specs.Limits.{Limits, written}
use Rattle.cxx_tree.specs.Fits.{FitsProgram}
use Rattle.cxx_normal.specs.Normal.{normal_tree}
use Rattle.cxx_core.specs.ElaboratedProgram.{core_program}
use Rattle.step_machine.specs.declared.outcome.State.TheVariants as state
use Rattle.step_machine.specs.Setting.{Setting}
use Rattle.step_machine.specs.Start.{start}
use Rattle.step_machine.specs.Runs.{run}
use Rattle.step_machine.specs.Total.{reading}
use Rattle.fault_model.specs.PlanLines.{FaultPlan}
use Rattle.fault_model.specs.Progress.{planned_of}
use Rattle.run_laws.specs.HaltFree.{HasNoAbort}

pub record SourcesNeverHalt : Type 0 where
  -- of sources, as they are written and in normal form
  pub of_sources : (names : List (List ℕ)) (limits : Limits) (q : ProgramTree) → FitsProgram written limits q → HasNoAbort (core_program names q)
  pub of_normal : (names : List (List ℕ)) (main : ℕ) (limits : Limits) (q : ProgramTree) → FitsProgram written limits q → HasNoAbort (core_program names (normal_tree main q))
  -- by whichever turns,
  pub of_turns : (s : Setting) → HasNoAbort s.program → (turns : List ℕ) (o : Option ObjectId) (class : Option ClassId) → (run s turns).0.state ≢ state.Halted o class
  -- and by each plan, its flips too
  pub of_plans : (s : Setting) → HasNoAbort s.program → (plan : FaultPlan) (n : ℕ) (o : Option ObjectId) (class : Option ClassId)
      → (planned_of plan (reading (start s)) n).total.state ≢ state.Halted o class
