-- What watches a run, and where a run by a plan stands when it has seen so much.
use Rattle.std.specs.Prelude.{◌≡◌, ◌<◌, ◌⊎◌, ℕ, suc, Bool, true, false, not, ◌&&◌, List, [], ◌∷◌, ◌++◌, map, Option, Some, None, option_map, nat_lt, if◌then◌else◌}
use Rattle.agxx_base.specs.declared.ids.ClassId.{ClassId}
use Rattle.cxx_arith.specs.Kinds.{width}
use Rattle.flip_plan.specs.declared.flip.PlannedFlip.{PlannedFlip}
use Rattle.step_machine.specs.Machine.{Machine}
use Rattle.step_machine.specs.Total.{Total, reading}
use Rattle.step_machine.specs.Flips.{flipped}
use Rattle.step_machine.specs.declared.outcome.StepKind.{StepKind}
use Rattle.step_machine.specs.Setting.{Setting}
use Rattle.step_machine.specs.Runs.{counted}
use Rattle.step_engine.specs.TurnRuns.{counts_of}
use Rattle.step_engine.specs.declared.runs.Counts.{Counts}
use Rattle.fault_model.specs.declared.verdict.Verdict.{Verdict}
use Rattle.fault_model.specs.PlanLines.{line_of}
use Rattle.fault_model.specs.Inside.{is_inside}
use Rattle.fault_model.specs.Admissible.{part_word_of}
use Rattle.fault_model.specs.Progress.{Progress, judged, one_more, erased_by}
use Rattle.fault_lines.specs.Moments.{first_of, rest_of}
use Rattle.fault_lines.specs.Due.{with_all}
use Rattle.fault_lines.specs.Marks.{Marks, Tells, with_mark, cleared}
use Rattle.fault_lines.specs.Waiting.{Waiter, IsAdded, TakesFirst}
use Rattle.fault_lines.specs.Keeping.{Queues, with_due, Files, FilesEach, GoesThrough}
use Rattle.fault_lines.specs.Lines.{none_ahead}
use Rattle.fault_watch.specs.MarkSets.{MarkSet, has}
use Rattle.fault_watch.specs.PartWords.{shown}
use Rattle.fault_watch.specs.declared.part_words.PartWord.{PartWord}
use Rattle.plan_runs.specs.declared.target.Target.{Target}

pub record Watched : Type 0 where
  -- the lines that haven't fallen
  pub queues : Queues
  -- the parts that were hit since somebody was last inside
  pub marks : MarkSet
  pub verdict : Verdict
  -- how many flips changed a bit
  pub flips : ℕ
  -- how many turns of each kind were taken
  pub counts : Counts
  -- the threads of the steps of the program as it was written, in order
  pub erased : List ℕ

-- A run by a plan has come to this, the lines that haven't fallen aside.
pub record StandsAt (p : Progress) (m : Machine) (w : Watched) : Type 0 where
  pub total : p.total ≡ reading m
  pub marks : Tells (has w.marks) p
  pub verdict : p.verdict ≡ w.verdict
  pub flips : p.flips ≡ w.flips
  pub counts : p.counts ≡ counts_of w.counts
  pub erased : p.erased ≡ w.erased

-- ---- lines

abbrev pub with_queues : Queues → Watched → Watched
with_queues q w = record w { queues = q }

abbrev pub with_left : List PlannedFlip → Watched → Watched
with_left left w = with_queues (record (w.queues) { left = left }) w

abbrev pub with_due_lines : List PlannedFlip → Watched → Watched
with_due_lines due w = with_queues (record (w.queues) { due = due }) w

abbrev pub with_waiting : List Waiter → Watched → Watched
with_waiting waiting w = with_queues (record (w.queues) { waiting = waiting }) w

-- the next line is not one of a turn, and stays
abbrev pub PassesNone : ℕ → Watched → Watched → Type 0
PassesNone turn before after =
    (after ≡ before) × (first_of turn before.queues.left ≡ []) × (rest_of turn before.queues.left ≡ before.queues.left)

-- the next line is one of a turn, and is passed
abbrev pub Passes : ℕ → Watched → Watched → PlannedFlip → Type 0
Passes turn before after flip =
    (first_of turn before.queues.left ≡ flip ∷ first_of turn after.queues.left) ×
    (rest_of turn before.queues.left ≡ rest_of turn after.queues.left) ×
    (after ≡ with_left after.queues.left before)

-- the lines of a moment are due
abbrev pub gathered_queues : ℕ → Queues → Queues
gathered_queues turn q = record q { left = rest_of turn q.left; due = with_all (first_of turn q.left) q.due }

abbrev pub gathered : ℕ → Watched → Watched
gathered turn w = with_queues (gathered_queues turn w.queues) w

-- ---- what a flip hits

abbrev pub no_target : Target
no_target = record { part = None; is_admissible = false }

abbrev pub target_on : Total → PlannedFlip → Marks → PartWord → Target
target_on m f marks w =
    if is_inside m f.object.0 w.class then no_target
    else record { part = Some w.class; is_admissible = nat_lt f.bit (width w.kind) && not (marks f.object.0 w.class) }

abbrev pub target_by : Total → PlannedFlip → Marks → Option PartWord → Target
target_by m f marks None = no_target
target_by m f marks (Some w) = target_on m f marks w

abbrev pub target_of : Total → PlannedFlip → Marks → Target
target_of m f marks = target_by m f marks (option_map shown (part_word_of m f))

abbrev pub with_part : ℕ → Option ClassId → Marks → Marks
with_part o None marks = marks
with_part o (Some class) marks = with_mark o class marks

-- where a bit changed
abbrev pub with_target : Bool → ℕ → Option ClassId → Marks → Marks
with_target false o part marks = marks
with_target true o part marks = with_part o part marks

-- ---- a flip falls

pub record FallsOn (f : PlannedFlip) (target : Target) (m : Machine) (w : Watched) (now : Machine) (after : Watched) : Type 0 where
  pub machine : now ≡ (flipped f.object.0 f.word f.bit m).0
  pub queues : after.queues ≡ w.queues
  pub marks : has after.marks ≡ with_target (flipped f.object.0 f.word f.bit m).1 f.object.0 target.part (has w.marks)
  pub verdict : after.verdict ≡ judged target.is_admissible f.number w.verdict
  pub flips : after.flips ≡ one_more (flipped f.object.0 f.word f.bit m).1 w.flips
  pub counts : after.counts ≡ w.counts
  pub erased : after.erased ≡ w.erased

-- from here the lines that are due lead there: some are gone through, some are kept, and the rest is due
abbrev pub LeadsTo : Machine → Watched → Machine → Watched → List PlannedFlip → Type 0
LeadsTo m w now after kept =
    (p : Progress) → StandsAt p m w → p.ahead ≡ []
    → (q : Progress) × ((with_due w.queues.due p ≡ with_due after.queues.due q) × (StandsAt q now after × (q.ahead ≡ map line_of kept)))

-- a line that is due, where it falls or is kept
abbrev pub IsKept : PlannedFlip → Machine → Watched → List PlannedFlip → Machine → Watched → List PlannedFlip → Type 0
IsKept f m w kept now after more = (now ≡ m) × ((after ≡ w) × (more ≡ kept ++ f ∷ []))

abbrev pub Falls : PlannedFlip → Machine → Watched → List PlannedFlip → Machine → Watched → List PlannedFlip → Type 0
Falls f m w kept now after more =
    FallsOn f (target_of (reading m) f (has w.marks)) m w now after × (more ≡ kept)

abbrev pub GoesBy : Bool → PlannedFlip → Machine → Watched → List PlannedFlip → Machine → Watched → List PlannedFlip → Type 0
GoesBy true f m w kept now after more = IsKept f m w kept now after more
GoesBy false f m w kept now after more = Falls f m w kept now after more

abbrev pub Goes : PlannedFlip → Machine → Watched → List PlannedFlip → Machine → Watched → List PlannedFlip → Type 0
Goes f m w kept now after more =
    GoesBy (f.waits && not (target_of (reading m) f (has w.marks)).is_admissible) f m w kept now after more

-- ---- what changes alone

pub record IsChanged (o : ℕ) (part : Option ClassId) (w after : Watched) : Type 0 where
  pub marks : has after.marks ≡ with_part o part (has w.marks)
  pub all_else : after ≡ record w { marks = after.marks; flips = suc w.flips }

pub record Adds (c : Option ClassId) (f : PlannedFlip) (w after : Watched) : Type 0 where
  pub added : IsAdded c f w.queues.waiting after.queues.waiting
  pub all_else : after ≡ with_waiting after.queues.waiting w

-- the first line that waits there is taken out
pub record TakesOut (o : ℕ) (c : Option ClassId) (f : PlannedFlip) (w after : Watched) : Type 0 where
  pub first : TakesFirst o c f w.queues.waiting after.queues.waiting
  pub all_else : after ≡ with_waiting after.queues.waiting w

pub record IsCounted (t : ℕ) (kind : StepKind) (w after : Watched) : Type 0 where
  pub counts : counts_of after.counts ≡ counted kind (counts_of w.counts)
  pub all_else : after ≡ record w { counts = after.counts; erased = w.erased ++ erased_by kind t }

pub record IsCleared (s : Setting) (o : Option ℕ) (own : Option ClassId) (w after : Watched) : Type 0 where
  pub marks : has after.marks ≡ cleared s o own (has w.marks)
  pub all_else : after ≡ record w { marks = after.marks }

abbrev pub without_due : Queues → Queues
without_due q = record q { due = [] }

-- ---- lines that stay are filed

pub record FilesLine (m : Total) (f : PlannedFlip) (w after : Watched) : Type 0 where
  pub files : Files m f w.queues.waiting after.queues.waiting
  pub all_else : after ≡ with_waiting after.queues.waiting w

pub record FilesLines (m : Total) (fs : List PlannedFlip) (w after : Watched) : Type 0 where
  pub files : FilesEach m fs w.queues.waiting after.queues.waiting
  pub all_else : after ≡ with_waiting after.queues.waiting w

-- ---- the flips before a turn

abbrev pub TakesFlips : ℕ → Machine → Watched → Machine → Watched → Type 0
TakesFlips turn m w now after =
    (p : Progress) → StandsAt p m w
    → StandsAt (with_due (with_all (first_of turn w.queues.left) w.queues.due) (none_ahead p)) now after
    × GoesThrough turn p w.queues after.queues
