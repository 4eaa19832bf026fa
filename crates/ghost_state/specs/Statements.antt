-- What is to be proved of runs: planned runs of the protected program follow the source, and what is promised of them.
use Rattle.std.specs.Prelude.{◌≡◌, ◌≢◌, ◌≤◌, ◌⊎◌, ℕ, zero, suc, ◌+◌, Bool, true, false, List, [], ◌∷◌, length, Option, Some, None, option_map, slice_get, codes}
use Rattle.std.specs.List.{Contains}
use Rattle.agxx_base.specs.declared.ids.ClassId.{ClassId}
use Rattle.agxx_base.specs.declared.ids.ObjectId.{ObjectId}
use Rattle.flip_plan.specs.declared.flip.PlannedFlip.{PlannedFlip}
use Rattle.cxx_core.specs.CoreProgram.{CoreProgram}
use Rattle.step_machine.specs.declared.outcome.State.TheVariants as state
use Rattle.step_machine.specs.declared.outcome.StepKind.TheVariants as kind
use Rattle.step_machine.specs.Setting.{begins, is_of}
use Rattle.step_machine.specs.Frame.{Frame}
use Rattle.step_machine.specs.Total.{Total, next_of}
use Rattle.fault_model.specs.declared.verdict.Verdict.TheVariants.{Admissible}
use Rattle.fault_model.specs.PlanLines.{FaultPlan, flip_of, PlanLine}
use Rattle.fault_model.specs.Inside.{is_inside, is_thread_inside}
use Rattle.fault_model.specs.Engaged.{is_engaged}
use Rattle.fault_model.specs.Admissible.{is_admissible, hit_of}
use Rattle.fault_model.specs.Progress.{Progress, with_flip, with_turn, planned_of}
use Rattle.fault_model.specs.Exact.{TouchesPart, IsExact}
use Rattle.fault_model.specs.Cost.{Code, Guards, cost}
use Rattle.part_protocol.specs.Rules.{hit_word, hurt, IsBitOf, Together}
use Rattle.ghost_state.specs.CoreCodes.{CoreCode, Codes}
use Rattle.ghost_state.specs.Names.{Naming}
use Rattle.ghost_state.specs.ProtectedCore.{repair_number, renew_number, part_words}
use Rattle.ghost_state.specs.Ghost.{Ghost, source_state, woven_state}
use Rattle.ghost_state.specs.Deeds.{Answer, answer, S, W, base_words, part_lock}
use Rattle.ghost_state.specs.Roles.{members_of_class, rules}
use Rattle.ghost_state.specs.Outcomes.{left_in, bound_in}
use Rattle.ghost_state.specs.Invariant.{Inv}
use Rattle.ghost_state.specs.Located.{IsOf}
use Rattle.ghost_state.specs.Lemmas.{IsProtectable, source_start, woven_start, rules_in}

-- a run by the turns of these threads, without flips
abbrev pub run_by : Total → List ℕ → Total
run_by m [] = m
run_by m (t ∷ ts) = run_by (next_of m t).0 ts

-- each of these turns is a step of the source
abbrev pub AllSteps : Total → List ℕ → Type 0
AllSteps m [] = Unit {0}
AllSteps m (t ∷ ts) = ((next_of m t).1 ≡ kind.Source) × AllSteps (next_of m t).0 ts

-- so many words from a number on, of those that are there
abbrev pub with_some : Option ℕ → List ℕ → List ℕ
with_some None ws = ws
with_some (Some w) ws = w ∷ ws

abbrev pub words_from : (ℕ → Option ℕ) → ℕ → ℕ → List ℕ
words_from word from zero = []
words_from word from (suc n) = with_some (word from) (words_from word (suc from) n)

abbrev pub is_inserted_by : Answer → Bool
is_inserted_by None = false
is_inserted_by (Some a) = a.inserted

abbrev pub adds_of : CoreCode → Code
adds_of code = code.adds

module _ (texts : List (List ℕ)) (names : Naming) (g : Codes) (p : CoreProgram) where
  -- what advice makes has names of its own, and none is there so far
  abbrev pub HasNoAdvice : Type 0
  HasNoAdvice = (name : ℕ) → begins texts name (codes "__ag_") ≡ false

  -- ---- runs

  -- Of the protected program's run and the source's run by its source steps, both states are read from a ghost state.
  pub record Follows (a : Progress) (x : Ghost) : Type 0 where
    pub woven : a.total ≡ woven_state texts names g p x
    pub source : run_by (source_start texts names g p) a.erased ≡ source_state texts names g p x
    pub hits : (o : ℕ) (class : ClassId) → a.hits o class ≡ x.hits o class
    pub cheap : (t : ℕ) → a.in_a_row t + left_in texts names g p (x.frames t) ≤ bound_in texts names g p (x.frames t)
    pub steps : AllSteps (source_start texts names g p) a.erased
    pub inv : Inv texts names g p x

  abbrev pub TurnsFollow : Type 0
  TurnsFollow =
      IsProtectable texts names g p → HasNoAdvice → (a : Progress) (x : Ghost) (t : ℕ) → Follows a x
      → (y : Ghost) × Follows (with_turn t a) y

  abbrev pub FlipsFollow : Type 0
  FlipsFollow =
      IsProtectable texts names g p → HasNoAdvice → (a : Progress) (x : Ghost) (f : PlannedFlip) → Follows a x → x.broken ≡ None
      → is_admissible a.total a.hits f ≡ true → (y : Ghost) × Follows (with_flip f a) y × (y.broken ≡ None)

  -- a flip after which the words of a part of an object can't be repaired, while nobody is inside
  abbrev pub BreakingFlipsFollow : Type 0
  BreakingFlipsFollow =
      IsProtectable texts names g p → HasNoAdvice → (a : Progress) (x : Ghost) (f : PlannedFlip) (class : ClassId) (code : CoreCode)
      → Follows a x → x.broken ≡ None → g class ≡ Some code → IsOf texts names g p x f.object.0 class
      → is_inside a.total f.object.0 class ≡ false
      → IsBitOf (rules_in texts names g p x code f.object.0 class) (hit_of f)
      → (rules_in texts names g p x code f.object.0 class).beyond
      (hit_word (base_words (W texts names g p) class) (hit_of f) (x.part f.object.0 class).words) ≡ true
      → (y : Ghost) × Follows (with_flip f a) y × (y.broken ≡ Some (f.object.0, class))

  -- whatever the plan and however many turns
  abbrev pub RunsFollow : Type 0
  RunsFollow =
      IsProtectable texts names g p → HasNoAdvice → (plan : FaultPlan) (n : ℕ)
      → (planned_of plan (woven_start texts names g p) n).verdict ≡ Admissible
      → (x : Ghost) × Follows (planned_of plan (woven_start texts names g p) n) x

  -- ---- what is promised

  abbrev pub size_of_class : ClassId → ℕ
  size_of_class class = length (members_of_class texts names g p class)

  abbrev pub source_values : Total → ℕ → ClassId → List ℕ
  source_values s o class = words_from (s.word o) (base_words (S texts names g p) class) (size_of_class class)

  abbrev pub part_size : CoreCode → ClassId → ℕ
  part_size code class = length (part_words names g p code class (members_of_class texts names g p class))

  abbrev pub words_of_part : CoreCode → Total → ℕ → ClassId → List ℕ
  words_of_part code m o class = words_from (m.word o) (base_words (W texts names g p) class) (part_size code class)

  abbrev pub counter_of : CoreCode → Total → ℕ → ClassId → Option ℕ
  counter_of code m o class = m.word o (base_words (W texts names g p) class + part_size code class)

  abbrev pub cost_guards : Guards
  cost_guards class = option_map adds_of (g class)

  -- the frame of a thread at this place mends the part of a class of an object
  pub record MendsAt (m : Total) (t place o : ℕ) (class : ClassId) : Type 0 where
    pub frame : Frame
    pub there : slice_get (m.frames t) place ≡ Some frame
    pub this : frame.this ≡ Some o
    pub function : (frame.function ≡ Some (repair_number g p class)) ⊎ (frame.function ≡ Some (renew_number g p class))

  -- while a thread holds the lock of a part, what it does next is inserted
  abbrev pub LockedIsInserted : Total → Type 0
  LockedIsInserted m =
      (t o : ℕ) (class : ClassId) (code : CoreCode) → g class ≡ Some code
      → m.holder (part_lock texts names g p o class) ≡ Some t → is_inserted_by (answer m t) ≡ true

  pub record IsAloneWith (m : Total) (t place o : ℕ) (class : ClassId) (code : CoreCode) : Type 0 where
    pub has_lock : m.holder (part_lock texts names g p o class) ≡ Some t
    pub none_counted : counter_of code m o class ≡ Some 0
    pub none_engaged : is_engaged m o class ≡ false
    pub no_other : (u other : ℕ) → MendsAt m u other o class → (u ≡ t) × (other ≡ place)

  abbrev pub MendersAreAlone : Total → Type 0
  MendersAreAlone m =
      (t place o : ℕ) (class : ClassId) (code : CoreCode) → g class ≡ Some code → MendsAt m t place o class
      → IsAloneWith m t place o class code

  pub record Kept (a : Progress) (s : Total) : Type 0 where
    -- output, and each turn of the source is a step there
    pub output : a.total.output ≡ s.output
    pub steps : AllSteps (source_start texts names g p) a.erased
    -- end and stop
    pub outcome : a.total.state ≡ s.state
    pub never_halted : (o : Option ObjectId) (class : Option ClassId) → a.total.state ≢ state.Halted o class
    -- exact before a source step that touches a member of a part
    pub exact : (t o : ℕ) (class : ClassId) → (next_of a.total t).1 ≡ kind.Source → TouchesPart a.total t o class
        → IsExact a.total s o class
    -- repaired while nobody is inside: encoded but for the flips since somebody was
    pub repaired : (o : ℕ) (class own : ClassId) (code : CoreCode) → g class ≡ Some code → a.total.class o ≡ Some own
        → is_inside a.total o class ≡ false
        → words_of_part code a.total o class
        ≡ hurt (base_words (W texts names g p) class) (a.hits o class)
        ((rules texts names g p code o own class).encoded (source_values s o class))
    -- at most one flip of a single part, and at most one at each bit place of another
    pub together : (o : ℕ) (class own : ClassId) (code : CoreCode) → g class ≡ Some code → a.total.class o ≡ Some own
        → is_inside a.total o class ≡ false → Together (rules texts names g p code o own class) (a.hits o class)
    -- cost
    pub cheap : (t : ℕ) → a.in_a_row t ≤ cost (S texts names g p) cost_guards []
    pub locked : LockedIsInserted a.total
    pub alone : MendersAreAlone a.total
    -- inside means the same in both
    pub inside : (t o : ℕ) (class : ClassId)
        → is_thread_inside (W texts names g p) o class (a.total.frames t) ≡ is_thread_inside (S texts names g p) o class (s.frames t)

  -- for every plan and every number of turns in which all flips that came are admissible
  abbrev pub Transparency : Type 0
  Transparency =
      IsProtectable texts names g p → HasNoAdvice → (plan : FaultPlan) (n : ℕ)
      → (planned_of plan (woven_start texts names g p) n).verdict ≡ Admissible
      → Kept (planned_of plan (woven_start texts names g p) n)
      (run_by (source_start texts names g p) (planned_of plan (woven_start texts names g p) n).erased)

  -- whatever the plan, admissible or not
  abbrev pub LocksAreInserted : Type 0
  LocksAreInserted =
      IsProtectable texts names g p → (plan : FaultPlan) (n : ℕ) → LockedIsInserted (planned_of plan (woven_start texts names g p) n).total

  -- no line of a plan is of a counter of an object that lives at one of the first moments of its run
  abbrev pub SparesCounters : FaultPlan → ℕ → Type 0
  SparesCounters plan n =
      (i : ℕ) → i ≤ n → (line : PlanLine) → Contains plan.lines line → (own class : ClassId) (code : CoreCode)
      → g class ≡ Some code
      → (planned_of plan (woven_start texts names g p) i).total.class (flip_of line).object.0 ≡ Some own
      → is_of (W texts names g p) (Some own) (Some class) ≡ true
      → (flip_of line).word ≢ base_words (W texts names g p) class + part_size code class

  abbrev pub MendersStayAlone : Type 0
  MendersStayAlone =
      IsProtectable texts names g p → (plan : FaultPlan) (n : ℕ) → SparesCounters plan n
      → MendersAreAlone (planned_of plan (woven_start texts names g p) n).total
