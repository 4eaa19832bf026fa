-- Words fit in their widths from the start of a run on.
use Rattle.std.proofs.Common.{◌≡◌, ℕ, zero, suc, ◌^◌, ◌<◌, List, [], ◌∷◌, Some, slice_get, sym, ap, subst}
use Rattle.std.proofs.lemmas.Option.{none-some}
use Rattle.agxx_base.specs.declared.ids.ClassId.{ClassId}
use Rattle.agxx_base.specs.declared.kind.NumKind.{NumKind}
use Rattle.cxx_core.specs.CoreProgram as cp
use Rattle.cxx_core.specs.CoreProgram.{CoreGlobal}
use Rattle.step_machine.specs.Setting.{Setting}
use Rattle.step_machine.specs.Item as it
use Rattle.step_machine.specs.Item.{Item}
use Rattle.step_machine.specs.World.{word_by}
use Rattle.step_machine.specs.Turn.{thread_at}
use Rattle.step_machine.specs.Start.{makes_on, unmakes_on, start_frame, objects_of, start}
use Rattle.step_machine.specs.Machine.{Machine}
use Rattle.step_machine.specs.Total.{reading}
use Rattle.step_machine.specs.Flips.{width_of}
use Rattle.step_machine.proofs.Turns.{agree}
use Rattle.machine_laws.specs.Locates.{HasBasesBefore}
use Rattle.machine_laws.specs.Members.{OfGlobals, OfItems, OfFrames}
use Rattle.machine_laws.specs.Widths.{IsDeclared, HasDeclaredKinds, HasWidths, IsFit, Event, turn, flip, after_event, after_events, WidthsAreKept}
use Rattle.machine_laws.specs.Layouts.{setting_of}
use Rattle.machine_laws.proofs.Bases.{has-bases}
use Rattle.machine_laws.proofs.ElaboratedPrograms.{declared-kinds}
use Rattle.machine_laws.proofs.Fits.{zero-fits, next-fit, flip-fit}

-- ---- the start

module _ (Holds : ClassId → ℕ → NumKind → Type 0) where
  makes-on : (gs : List CoreGlobal) (o : ℕ) (is : List Item) → OfGlobals Holds gs → OfItems Holds is → OfItems Holds (makes_on o gs is)
  makes-on [] o is h r = r
  makes-on (cp.number name v ∷ gs) o is h r = makes-on gs o is h r
  makes-on (cp.pointer name class ∷ gs) o is h r = makes-on gs o is h r
  makes-on (cp.object at name class es ∷ gs) o is h r = (h.0, makes-on gs (suc o) is h.1 r)
  makes-on (cp.mutex name ∷ gs) o is h r = makes-on gs o is h r
  makes-on (cp.wrong at ∷ gs) o is h r = makes-on gs o is h r

  unmakes-on : (gs : List CoreGlobal) (o : ℕ) (is : List Item) → OfItems Holds is → OfItems Holds (unmakes_on o gs is)
  unmakes-on [] o is r = r
  unmakes-on (cp.number name v ∷ gs) o is r = unmakes-on gs o is r
  unmakes-on (cp.pointer name class ∷ gs) o is r = unmakes-on gs o is r
  unmakes-on (cp.object at name class es ∷ gs) o is r = unmakes-on gs (suc o) (it.unmake at o class ∷ is) (tt, r)
  unmakes-on (cp.mutex name ∷ gs) o is r = unmakes-on gs o is r
  unmakes-on (cp.wrong at ∷ gs) o is r = unmakes-on gs o is r

  start-frames : (gs : List CoreGlobal) → OfGlobals Holds gs → (t : ℕ) → OfFrames Holds (thread_at ((start_frame gs ∷ []) ∷ []) t)
  start-frames gs h zero =
      (makes-on gs 0 (it.run ∷ unmakes_on 0 gs (it.finish ∷ [])) h (tt, unmakes-on gs 0 (it.finish ∷ []) (tt, tt)), tt)
  start-frames gs h (suc t) = tt

module _ (s : Setting) where
  start-words : (gs : List CoreGlobal) (o w bits : ℕ) (class : ClassId) → word_by (slice_get (objects_of s gs) o) w ≡ Some bits → bits < 2 ^ width_of s class w
  start-words [] o w bits class z = absurd (none-some bits z)
  start-words (cp.number name v ∷ gs) o w bits class z = start-words gs o w bits class z
  start-words (cp.pointer name c ∷ gs) o w bits class z = start-words gs o w bits class z
  start-words (cp.object at name c es ∷ gs) zero w bits class z = zero-fits _ w bits (width_of s class w) z
  start-words (cp.object at name c es ∷ gs) (suc o) w bits class z = start-words gs o w bits class z
  start-words (cp.mutex name ∷ gs) o w bits class z = start-words gs o w bits class z
  start-words (cp.wrong at ∷ gs) o w bits class z = start-words gs o w bits class z

  start-fit : HasBasesBefore s.program → HasDeclaredKinds s.program → IsFit (reading (start s))
  start-fit bases kinds = record {
    bases = bases;
    kinds = kinds;
    frames = start-frames (IsDeclared s.program) s.program.globals kinds.globals;
    words = λ o w bits class e z. start-words s.program.globals o w bits class z;
  }

-- ---- runs

event-fit : (m : Machine) (e : Event) → IsFit (reading m) → IsFit (reading (after_event m e))
event-fit m (turn t) fit = subst IsFit (sym (ap (λ x. x.0) (agree.of_next m t))) (next-fit (reading m) t fit)
event-fit m (flip o w bit) fit = subst IsFit (sym (ap (λ x. x.0) (agree.of_flip m o w bit))) (flip-fit (reading m) o w bit fit)

events-fit : (es : List Event) (m : Machine) → IsFit (reading m) → IsFit (reading (after_events m es))
events-fit [] m fit = fit
events-fit (e ∷ es) m fit = events-fit es (after_event m e) (event-fit m e fit)

runs-fit : (s : Setting) → HasBasesBefore s.program → HasDeclaredKinds s.program → (events : List Event) → HasWidths (after_events (start s) events)
runs-fit s bases kinds events = (events-fit events (start s) (start-fit s bases kinds)).words

pub widths-are-kept : WidthsAreKept
widths-are-kept = record {
  of_programs = declared-kinds;
  of_start = start-fit;
  of_next = next-fit;
  of_flip = flip-fit;
  of_runs = runs-fit;
  of_program_runs = λ names q. runs-fit (setting_of names q) (has-bases names q) (declared-kinds names q);
}
