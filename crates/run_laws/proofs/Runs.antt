-- No run of code without `std::abort();` comes to a halt.
use Rattle.std.proofs.Common.{◌≢◌, ℕ, zero, suc, min, Bool, true, false, if◌then◌else◌, List, [], ◌∷◌, Option, Some, None, sym, ap, subst}
use Rattle.agxx_base.specs.declared.ids.ClassId.{ClassId}
use Rattle.agxx_base.specs.declared.ids.ObjectId.{ObjectId}
use Rattle.cxx_core.specs.CoreProgram as cp
use Rattle.cxx_core.specs.CoreProgram.{CoreGlobal}
use Rattle.step_machine.specs.declared.outcome.State.{State}
use Rattle.step_machine.specs.declared.outcome.State.TheVariants as state
use Rattle.step_machine.specs.Setting.{Setting}
use Rattle.step_machine.specs.Item as it
use Rattle.step_machine.specs.Item.{Item}
use Rattle.step_machine.specs.Frame.{Frame}
use Rattle.step_machine.specs.Effects as on
use Rattle.step_machine.specs.Effects.{Change, Turn, did}
use Rattle.step_machine.specs.Reads.{Reads}
use Rattle.step_machine.specs.Act.{act}
use Rattle.step_machine.specs.Turn.{Thread, Settled, settled}
use Rattle.step_machine.specs.Machine.{Machine, state_after, next}
use Rattle.step_machine.specs.Start.{makes_on, unmakes_on, start}
use Rattle.step_machine.specs.Runs.{Counts, counted, nothing_counted, run_on}
use Rattle.step_machine.specs.Total.{Total, NextOf, reading, same, upd, reads, change_of, with_state, after_of, off_item, off_thread, turn_of, next_if, next_of}
use Rattle.step_machine.specs.Flips.{FlippedOf, is_bit, inverted, with_bits_of, flipped_of_by, flipped_of}
use Rattle.step_machine.proofs.Turns.{agree}
use Rattle.fault_model.specs.PlanLines.{PlanLine, flip_of, FaultPlan}
use Rattle.fault_model.specs.Progress.{Progress, falls, with_line, still_ahead, after_lines, after_flips, at_moment, is_running, passed, after_turns, before_first}
use Rattle.run_laws.specs.HaltFree.{HasNoAbort}
use Rattle.run_laws.specs.NeverHalted.{SourcesNeverHalt}
use Rattle.run_laws.proofs.Frames.{IsFree, AreFree, FreeFrames, FreeTurn, FreeSettled, settled-free}
use Rattle.run_laws.proofs.Acts.{act-free}
use Rattle.run_laws.proofs.Elaborated.{sources-are-free}
use Rattle.run_laws.proofs.Normal.{normal-is-free}

abbrev IsNoHalt : State → Type 0
IsNoHalt now = (o : Option ObjectId) (class : Option ClassId) → now ≢ state.Halted o class

record NeverHalts (m : Total) : Type 0 where
  program : HasNoAbort m.setting.program
  frames : (t : ℕ) → FreeFrames (m.frames t)
  goes_on : IsNoHalt m.state

-- ---- states

running-goes-on : IsNoHalt state.Running
running-goes-on o class e = cc

after-goes-on : (x : Turn) → FreeTurn x → IsNoHalt (state_after x)
after-goes-on on.went k = running-goes-on
after-goes-on (on.changed c) k = running-goes-on
after-goes-on (on.started g) k = running-goes-on
after-goes-on on.blocked k = running-goes-on
after-goes-on on.idle k = running-goes-on
after-goes-on (on.ended z) k = λ o class e. cc
after-goes-on (on.halted p kind) k = absurd k
after-goes-on (on.stopped cause at) k = λ o class e. cc

-- ---- a turn

frames-with : (m : Total) → NeverHalts m → (t : ℕ) (fs : Thread) → FreeFrames fs → (u : ℕ) → FreeFrames (upd m.frames t fs u)
frames-with m free t fs h u = by (same u t)
  where
    by : (x : Bool) → FreeFrames (if x then fs else m.frames u)
    by true = h
    by false = free.frames u

change-free : (t : ℕ) (c : Change) (m : Total) → NeverHalts m → (now : State) → IsNoHalt now → NeverHalts (with_state now (change_of t c m))
change-free t (on.store o w bits) m free now h = record { program = free.program; frames = free.frames; goes_on = h }
change-free t (on.assign name v) m free now h = record { program = free.program; frames = free.frames; goes_on = h }
change-free t (on.print text) m free now h = record { program = free.program; frames = free.frames; goes_on = h }
change-free t (on.create class n) m free now h = record { program = free.program; frames = free.frames; goes_on = h }
change-free t (on.kill o) m free now h = record { program = free.program; frames = free.frames; goes_on = h }
change-free t (on.take l) m free now h = record { program = free.program; frames = free.frames; goes_on = h }
change-free t (on.free l) m free now h = record { program = free.program; frames = free.frames; goes_on = h }

after-free : (t : ℕ) (x : Turn) (m : Total) → NeverHalts m → FreeTurn x → IsNoHalt (state_after x) → NeverHalts (after_of t x m)
after-free t on.went m free k h = record { program = free.program; frames = free.frames; goes_on = h }
after-free t (on.changed c) m free k h = change-free t c m free state.Running h
after-free t (on.started g) m free k h = record { program = free.program; frames = frames-with m free m.started (g ∷ []) (k, tt); goes_on = h }
after-free t on.blocked m free k h = record { program = free.program; frames = free.frames; goes_on = h }
after-free t on.idle m free k h = record { program = free.program; frames = free.frames; goes_on = h }
after-free t (on.ended z) m free k h = record { program = free.program; frames = free.frames; goes_on = h }
after-free t (on.halted o class) m free k h = absurd k
after-free t (on.stopped cause at) m free k h = record { program = free.program; frames = free.frames; goes_on = h }

module _ (m : Total) (free : NeverHalts m) (t : ℕ) where
  abbrev off : Thread → Reads
  off fs = reads (record m { frames = upd m.frames t fs }) t

  abbrev went : Frame → Item → Thread → Settled
  went f i fs = let d = did f (act m.setting (off fs) t i f) in settled i fs d.0 d.1

  turn-free : (f : Frame) (i : Item) (fs : Thread) → IsFree i → AreFree f.items → FreeFrames fs → NeverHalts (turn_of m t (Some (f, i, fs))).0
  turn-free f i fs q h r =
      let kept : FreeSettled (went f i fs) =
      settled-free (act m.setting (off fs) t i f) i f fs (act-free m.setting (off fs) free.program t i f q h) q h r in
      after-free t (went f i fs).1 (record m { frames = upd m.frames t (went f i fs).0 })
      (record { program = free.program; frames = frames-with m free t (went f i fs).0 kept.0; goes_on = free.goes_on })
      kept.1 (after-goes-on (went f i fs).1 kept.1)

  idle-free : NeverHalts (after_of t on.idle m)
  idle-free = after-free t on.idle m free tt running-goes-on

  item-free : (f : Frame) (fs : Thread) (is : List Item) → AreFree is → FreeFrames fs → NeverHalts (turn_of m t (off_item f fs is)).0
  item-free f fs [] h r = idle-free
  item-free f fs (i ∷ is) h r = turn-free (record f { items = is }) i fs h.0 h.1 r

  thread-free : (th : Thread) → FreeFrames th → NeverHalts (turn_of m t (off_thread th)).0
  thread-free [] h = idle-free
  thread-free (f ∷ fs) h = item-free f fs f.items h.0 h.1

  next-if-free : (now : State) → NeverHalts (next_if now m t).0
  next-if-free state.Running = thread-free (m.frames t) (free.frames t)
  next-if-free (state.Ended z) = free
  next-if-free (state.Stopped cause at) = free
  next-if-free (state.Halted o class) = free
  next-if-free state.Lost = free

next-free : (m : Total) (t : ℕ) → NeverHalts m → NeverHalts (next_of m t).0
next-free m t free = next-if-free m free t m.state

-- ---- a flip

module _ (m : Total) (o w bit : ℕ) (free : NeverHalts m) where
  flip-if : (bits : ℕ) (b : Bool) → NeverHalts (if◌then◌else◌ {A = FlippedOf} b (with_bits_of o w (inverted bits bit) m, true) (m, false)).0
  flip-if bits true = record { program = free.program; frames = free.frames; goes_on = free.goes_on }
  flip-if bits false = free

  flip-by : (x : Option ℕ) → NeverHalts (flipped_of_by x o w bit m).0
  flip-by None = free
  flip-by (Some bits) = flip-if bits (is_bit m.setting (m.class o) w bit)

flip-free : (m : Total) (o w bit : ℕ) → NeverHalts m → NeverHalts (flipped_of o w bit m).0
unfolding flipped_of
flip-free m o w bit free = flip-by m o w bit free (m.word o w)

-- ---- the start

makes-free : (o : ℕ) (gs : List CoreGlobal) (is : List Item) → AreFree is → AreFree (makes_on o gs is)
makes-free o [] is h = h
makes-free o (cp.object at name class es ∷ gs) is h = (tt, makes-free (suc o) gs is h)
makes-free o (cp.number name v ∷ gs) is h = makes-free o gs is h
makes-free o (cp.pointer name class ∷ gs) is h = makes-free o gs is h
makes-free o (cp.mutex name ∷ gs) is h = makes-free o gs is h
makes-free o (cp.wrong at ∷ gs) is h = makes-free o gs is h

unmakes-free : (o : ℕ) (gs : List CoreGlobal) (is : List Item) → AreFree is → AreFree (unmakes_on o gs is)
unmakes-free o [] is h = h
unmakes-free o (cp.object at name class es ∷ gs) is h = unmakes-free (suc o) gs (it.unmake at o class ∷ is) (tt, h)
unmakes-free o (cp.number name v ∷ gs) is h = unmakes-free o gs is h
unmakes-free o (cp.pointer name class ∷ gs) is h = unmakes-free o gs is h
unmakes-free o (cp.mutex name ∷ gs) is h = unmakes-free o gs is h
unmakes-free o (cp.wrong at ∷ gs) is h = unmakes-free o gs is h

start-free : (s : Setting) → HasNoAbort s.program → NeverHalts (reading (start s))
start-free s program = record { program = program; frames = frames-free; goes_on = running-goes-on }
  where
    frames-free : (t : ℕ) → FreeFrames ((reading (start s)).frames t)
    frames-free zero =
        let gs = s.program.globals in
        (makes-free 0 gs (it.run ∷ unmakes_on 0 gs (it.finish ∷ [])) (tt, unmakes-free 0 gs (it.finish ∷ []) (tt, tt)), tt)
    frames-free (suc t) = tt

-- ---- runs

turns-free : (m : Machine) (n : Counts) (turns : List ℕ) → NeverHalts (reading m) → NeverHalts (reading (run_on (m, n) turns).0)
turns-free m n [] free = free
turns-free m n (t ∷ turns) free =
    turns-free (next m t).0 (counted (next m t).1 n) turns
    (subst NeverHalts (sym (ap (λ (x : NextOf). x.0) (agree.of_next m t))) (next-free (reading m) t free))

-- of a plan
abbrev Free : Progress → Type 0
Free p = NeverHalts p.total

line-free : (b : Bool) (line : PlanLine) (p : Progress) → Free p → Free (with_line b line p)
line-free true line p free = flip-free p.total (flip_of line).object.0 (flip_of line).word (flip_of line).bit free
line-free false line p free = free

still-free : (b : Bool) (line : PlanLine) (p : Progress) → Free p → Free (still_ahead b line p)
still-free true line p free = free
still-free false line p free = free

lines-free : (i : ℕ) (lines : List PlanLine) (p : Progress) → Free p → Free (after_lines i lines p)
lines-free i [] p free = free
lines-free i (line ∷ lines) p free =
    still-free (falls i p line) line (after_lines i lines (with_line (falls i p line) line p))
    (lines-free i lines (with_line (falls i p line) line p) (line-free (falls i p line) line p free))

moments-free : (plan : FaultPlan) (m : Total) (n : ℕ) → NeverHalts m → Free (after_turns plan (before_first plan m) n)
moments-free plan m zero free = free
moments-free plan m (suc n) free = by (after_turns plan (before_first plan m) n) (moments-free plan m n free)
  where
    by : (p : Progress) → Free p → Free (passed plan n p)
    by p h = go (is_running p.total.state)
      where
        go : (b : Bool) → Free (if b then at_moment plan n p else p)
        go true = next-free (after_flips n p).total (plan.turn n) (lines-free n p.ahead p h)
        go false = h

pub sources-never-halt : SourcesNeverHalt
sources-never-halt = record {
  of_sources = sources-are-free;
  of_normal = normal-is-free;
  of_turns = λ s program turns o class. (turns-free (start s) nothing_counted turns (start-free s program)).goes_on o class;
  of_plans = λ s program plan n o class. (moments-free plan (reading (start s)) (min n plan.limit) (start-free s program)).goes_on o class;
}
