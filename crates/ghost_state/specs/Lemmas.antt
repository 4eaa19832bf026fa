-- What is to be proved of turns: premises, and the groups of lemmas as types.
use Rattle.std.specs.Prelude.{◌≡◌, ◌≢◌, ◌<◌, ℕ, ◌+◌, ◌||◌, Bool, true, false, List, [], ◌∷◌, ◌++◌, length, map, Option, Some, None, slice_get, slice_set, codes}
use Rattle.std.specs.List.{All}
use Rattle.agxx_base.specs.declared.place.Place.{Place}
use Rattle.cxx_names.specs.declared.types.ValueType.{ValueType}
use Rattle.agxx_base.specs.declared.ids.ClassId.{ClassId}
use Rattle.cxx_core.specs.CoreProgram as cp
use Rattle.cxx_core.specs.CoreProgram.{CoreProgram, CoreFunction, CoreClass, CoreGlobal, CoreWord}
use Rattle.step_machine.specs.declared.outcome.State.TheVariants as state
use Rattle.step_machine.specs.declared.outcome.StepKind.TheVariants as step_kind
use Rattle.step_machine.specs.Setting.{begins}
use Rattle.step_machine.specs.Item.{Item}
use Rattle.step_machine.specs.Frame.{Frame}
use Rattle.step_machine.specs.Effects as on
use Rattle.step_machine.specs.Turn.{Thread}
use Rattle.step_machine.specs.Start.{start}
use Rattle.step_machine.specs.Total.{Total, reading, NextOf, next_of, after_of, off_thread}
use Rattle.step_machine.specs.Machine.{kind_of}
use Rattle.codec_laws.specs.Solo.{goes}
use Rattle.part_protocol.specs.Part.{EnterStep, LeaveStep}
use Rattle.part_protocol.specs.Rules.{Rules, WordsFit}
use Rattle.part_protocol.specs.BlockLaws.{BlockLaws}
use Rattle.ghost_state.specs.CoreCodes.{CoreCode, Codes}
use Rattle.ghost_state.specs.Names.{Naming}
use Rattle.ghost_state.specs.EntryFrames.{Unfolding}
use Rattle.ghost_state.specs.GhostFrames.{GhostItem, Exit, by_value, by_return, by_end, Stage, before, entering, in_enter, inside, leaving, in_leave, left, after, GhostFrame, source_items, source_thread, woven_thread}
use Rattle.ghost_state.specs.Ghost.{Ghost, source_state, woven_state}
use Rattle.ghost_state.specs.Deeds.{Answer, answer, answer_of, reads_over, applied, own, Deed, stores, creates, kills, takes, frees, writes, counts, locks, unlocks, S, W, base_words, source_turn, woven_turn, after_deed}
use Rattle.ghost_state.specs.Roles.{members_of_class, rules}
use Rattle.ghost_state.specs.Outcomes.{live_by, Outcome}
use Rattle.ghost_state.specs.SourceCode.{SourceStmts, BeforeExprs, IsPlain}
use Rattle.ghost_state.specs.Invariant.{FrameOk, Inv}
use Rattle.ghost_state.specs.Located.{IsOf, AreLocated}
use Rattle.ghost_state.specs.ItemKinds.{ItemKind, frame_only, unfolds, member, global, printing, calling, making, deleting, spawning, joining, locking, returning, leaving_frame, finishing, item_kind}

-- no two have the same name
pub record AreApart (words : List ℕ) : Type 0 where
  pub apart : (i j name : ℕ) → slice_get words i ≡ Some name → slice_get words j ≡ Some name → i ≡ j

module _ (texts : List (List ℕ)) (names : Naming) (g : Codes) (p : CoreProgram) where
  -- ---- premises: what an accepted program and the names that protection gives have

  abbrev pub IsFree : Option CoreFunction → Type 0
  IsFree None = ⊥
  IsFree (Some f) = f.class ≡ None

  -- whether a function is of this kind, if there is one
  abbrev pub IsKind : cp.FunctionKind → ClassId → Option CoreFunction → Type 0
  IsKind kind class None = ⊥
  IsKind kind class (Some f) = (f.kind ≡ kind) × (f.class ≡ Some class)

  abbrev pub MayBeKind : cp.FunctionKind → ClassId → Option ℕ → Type 0
  MayBeKind kind class None = Unit {0}
  MayBeKind kind class (Some f) = IsKind kind class (slice_get p.functions f)

  pub record SourceFunction (f : CoreFunction) : Type 0 where
    pub arguments : BeforeExprs texts names g p f.base_arguments
    pub body : SourceStmts texts names g p f.body
    pub name : IsPlain texts names g p f.name.item.0
    pub params : All (λ (q : cp.CoreParam). IsPlain texts names g p q.name) f.params

  pub record SourceClass (k : ℕ) (class : CoreClass) : Type 0 where
    pub base : (base : ClassId) → class.base ≡ Some base → base.0 < k
    pub words : AreApart (map (λ (w : CoreWord). w.name) class.words)
    pub mutexes : AreApart class.mutexes
    pub plain : All (λ (w : CoreWord). IsPlain texts names g p w.name) class.words
    pub plain_mutexes : All (λ m. IsPlain texts names g p m) class.mutexes
    pub constructor : MayBeKind cp.constructor (record { 0 = k }) class.constructor
    pub destructor : MayBeKind cp.destructor (record { 0 = k }) class.destructor

  abbrev pub SourceGlobal : CoreGlobal → Type 0
  SourceGlobal (cp.object at name class arguments) = BeforeExprs texts names g p arguments × (class.0 < length p.classes)
  SourceGlobal other = Unit {0}

  -- names that protection gives, which differ from each other where they meet
  pub record IsNaming : Type 0 where
    pub count : (k : ClassId) → begins texts (names.count k) (codes "__gop_") ≡ true
    pub lock : (k : ClassId) → begins texts (names.lock k) (codes "__gop_") ≡ true
    pub repair : (k : ClassId) → begins texts (names.repair k) (codes "__gop_") ≡ true
    pub renew : (k : ClassId) → begins texts (names.renew k) (codes "__gop_") ≡ true
    pub enter : (k : ClassId) → begins texts (names.enter k) (codes "__gop_") ≡ true
    pub leave : (k : ClassId) → begins texts (names.leave k) (codes "__gop_") ≡ true
    pub added : (k : ClassId) (i : ℕ) → begins texts (names.added k i) (codes "__gop_") ≡ true
    pub local : (k : ClassId) (i : ℕ) → begins texts (names.local k i) (codes "__gop_") ≡ true
    pub result : (n : ℕ) → begins texts (names.result n) (codes "__gop_r_") ≡ true
    pub results_apart : (n m : ℕ) → names.result n ≡ names.result m → n ≡ m
    pub added_apart : (k : ClassId) (i j : ℕ) → names.added k i ≡ names.added k j → i ≡ j
    pub not_counter : (k : ClassId) (i : ℕ) → names.added k i ≢ names.count k

  pub record IsProtectable : Type 0 where
    pub functions : All SourceFunction p.functions
    pub numbered : (i : ℕ) (f : CoreFunction) → slice_get p.functions i ≡ Some f → f.number ≡ i
    pub classes : (k : ℕ) (class : CoreClass) → slice_get p.classes k ≡ Some class → SourceClass k class
    pub globals : All SourceGlobal p.globals
    pub main : (f : ℕ) → p.main ≡ Some f → IsFree (slice_get p.functions f)
    -- a guarded class declares a member, and none is a truth value
    pub guarded : (class : ClassId) (code : CoreCode) → g class ≡ Some code
        → (class.0 < length p.classes) × (0 < length (members_of_class texts names g p class))
    pub named : IsNaming
    pub laws : (o : ℕ) (live class : ClassId) (code : CoreCode) → g class ≡ Some code
        → BlockLaws (rules texts names g p code o live class)

  -- ---- the start

  abbrev pub source_start : Total
  source_start = reading (start (S texts names g p))

  abbrev pub woven_start : Total
  woven_start = reading (start (W texts names g p))

  pub record Begins : Type 0 where
    pub ghost : Ghost
    pub woven : woven_state texts names g p ghost ≡ woven_start
    pub source : source_state texts names g p ghost ≡ source_start
    pub inv : Inv texts names g p ghost

  abbrev pub StartIsGhost : Type 0
  StartIsGhost = IsProtectable → Begins

  -- ---- deeds: what a turn does to both machines' states is what it does to the ghost state

  -- what a deed names is there
  abbrev pub IsSound : Ghost → Deed → Type 0
  IsSound x (stores o class i bits) = IsOf texts names g p x o class × (i < length (x.values o class))
  IsSound x (writes o class i bits) = IsOf texts names g p x o class × (i < length (x.part o class).words)
  IsSound x (counts o class n) = IsOf texts names g p x o class
  IsSound x (locks o class) = IsOf texts names g p x o class
  IsSound x (unlocks o class) = IsOf texts names g p x o class
  IsSound x (takes (own o class i)) = IsOf texts names g p x o class × (i < length (x.mutexes o class))
  IsSound x (frees (own o class i)) = IsOf texts names g p x o class × (i < length (x.mutexes o class))
  IsSound x (creates class) = class.0 < length p.classes
  IsSound x (kills o) = (class : ClassId) × (x.class o ≡ Some class)
  IsSound x d = Unit {0}

  pub record FollowDeed (x : Ghost) (t : ℕ) (fs : List GhostFrame) (d : Deed) : Type 0 where
    pub woven : applied (woven_state texts names g p x) t (woven_thread names g p fs, woven_turn texts names g p x.part d)
        ≡ woven_state texts names g p (after_deed g texts names p t fs d x)
    pub source : applied (source_state texts names g p x) t (source_thread fs, source_turn texts names g p d)
        ≡ source_state texts names g p (after_deed g texts names p t fs d x)

  abbrev pub StatesFollowDeeds : Type 0
  StatesFollowDeeds =
      IsProtectable → (x : Ghost) (t : ℕ) (fs : List GhostFrame) (d : Deed) → Inv texts names g p x → IsSound x d
      → FollowDeed x t fs d

  -- ---- blocks: what a step does by itself it does among the others

  -- nothing that others see, or one word of the part; never the counter
  pub data BlockStep (x : Ghost) (t o : ℕ) (class : ClassId) (fs next : List Frame) (rest : Thread) (ws : List ℕ) : Type 0 where
    reads_only : (advised : Bool)
        → answer_of (W texts names g p) (reads_over (woven_state texts names g p x) t) t (off_thread (fs ++ rest))
        ≡ Some (record { inserted = true; advised = advised; settled = (next ++ rest, on.went) })
        → ws ≡ (x.part o class).words → BlockStep x t o class fs next rest ws
    writes_one : (advised : Bool) (i bits : ℕ) → i < length (x.part o class).words
        → answer_of (W texts names g p) (reads_over (woven_state texts names g p x) t) t (off_thread (fs ++ rest))
        ≡ Some (record { inserted = true; advised = advised; settled = (next ++ rest, on.changed (on.store o (base_words (W texts names g p) class + i) bits)) })
        → ws ≡ slice_set (x.part o class).words i bits → BlockStep x t o class fs next rest ws

  -- a part's rules, by the object's class
  abbrev pub rules_in : Ghost → CoreCode → ℕ → ClassId → Rules
  rules_in x code o class = rules texts names g p code o (live_by (x.class o) class) class

  abbrev pub BlocksAreLocal : Type 0
  BlocksAreLocal =
      IsProtectable → (x : Ghost) (t o : ℕ) (class : ClassId) (code : CoreCode) (fs next : List Frame) (rest : Thread) (ws : List ℕ)
      → g class ≡ Some code → IsOf texts names g p x o class → AreLocated texts names g p x
      → WordsFit (rules_in x code o class) (x.part o class).words
      → All (λ (f : Frame). (f.is_generated ≡ true) × (f.this ≡ Some o)) fs
      → (rules_in x code o class).step (x.part o class).count fs (x.part o class).words ≡ goes next ws → (next ≢ [])
      → WordsFit (rules_in x code o class) ws × BlockStep x t o class fs next rest ws

  -- ---- turns

  -- the source's next item, where the next step is the source's
  abbrev pub head_of : List Item → Option Item
  head_of [] = None
  head_of (i ∷ is) = Some i

  abbrev pub next_at : List ClassId → List GhostItem → List Item → Stage → Option Item
  next_at held is tail (before first) = head_of first
  next_at held [] tail inside = None
  next_at held (i ∷ is) tail inside = head_of (source_items (i ∷ is) tail inside)
  next_at [] is tail (leaving u (by_return at)) = head_of (source_items is tail (leaving u (by_return at)))
  next_at held is tail (left x) = head_of (source_items is tail (left x))
  next_at held is tail after = head_of tail
  next_at held is tail stage = None

  abbrev pub source_next : GhostFrame → Option Item
  source_next f = next_at f.held f.items f.tail f.stage

  abbrev pub TurnOf : (GhostFrame → Type 0) → Type 0
  TurnOf IsSo =
      IsProtectable → (x : Ghost) (t : ℕ) (f : GhostFrame) (fs : List GhostFrame) → Inv texts names g p x → x.state ≡ state.Running
      → x.frames t ≡ f ∷ fs → IsSo f → Outcome texts names g p x t

  abbrev pub SourceTurn : ItemKind → Type 0
  SourceTurn kind = TurnOf (λ f. (i : Item) × (source_next f ≡ Some i) × (item_kind i ≡ kind))

  abbrev pub AtStage : Stage → Type 0
  AtStage stage = TurnOf (λ f. f.stage ≡ stage)

  -- one lemma for each kind of turn
  pub record TurnsGo : Type 0 where
    pub of_frame_only : SourceTurn frame_only
    pub of_unfolding : SourceTurn unfolds
    pub of_member : SourceTurn member
    pub of_global : SourceTurn global
    pub of_printing : SourceTurn printing
    pub of_calling : SourceTurn calling
    pub of_making : SourceTurn making
    pub of_deleting : SourceTurn deleting
    pub of_spawning : SourceTurn spawning
    pub of_joining : SourceTurn joining
    pub of_locking : SourceTurn locking
    pub of_returning : SourceTurn returning
    pub of_leaving_frame : SourceTurn leaving_frame
    pub of_finishing : SourceTurn finishing
    -- inserted
    pub call_enter : (u : Unfolding) (class : ClassId) (todo : List ClassId) → AtStage (entering u class todo)
    pub enter : (class : ClassId) (todo : List ClassId) (s : EnterStep) → AtStage (in_enter class todo s)
    pub call_leave : (u : Unfolding) (x : Exit) → TurnOf (λ f. (f.stage ≡ leaving u x) × (f.held ≢ []))
    pub leave : (x : Exit) (class : ClassId) (s : LeaveStep) → AtStage (in_leave x class s)
    pub of_result : (u : Unfolding) (n : ℕ) (at : Place) (y : ValueType) → TurnOf (λ f. (f.stage ≡ leaving u (by_value n at y)) × (f.held ≡ []))

  -- a ghost frame may be read in another way: at the end of what precedes its body, and of the body
  pub record IsSameRead (x : Ghost) (f h : GhostFrame) : Type 0 where
    pub woven : woven_thread names g p (h ∷ []) ≡ woven_thread names g p (f ∷ [])
    pub source : source_thread (h ∷ []) ≡ source_thread (f ∷ [])
    pub ok : FrameOk texts names g p x h

  pub record FramesReadAgain : Type 0 where
    pub entered : IsProtectable → (x : Ghost) (f : GhostFrame) (class : ClassId) (parts : List ClassId) → FrameOk texts names g p x f
        → f.stage ≡ before [] → f.parts ≡ class ∷ parts → IsSameRead x f (record f { stage = entering Unfolding.as_stmt class parts })
    pub bare : IsProtectable → (x : Ghost) (f : GhostFrame) → FrameOk texts names g p x f → f.stage ≡ before [] → f.parts ≡ []
        → f.kept ≡ None → IsSameRead x f (record f { stage = inside })
    pub ended : IsProtectable → (x : Ghost) (f : GhostFrame) → FrameOk texts names g p x f → f.stage ≡ inside → f.items ≡ []
        → f.closed ≡ false → f.parts ≢ [] → IsSameRead x f (record f { stage = leaving Unfolding.as_stmt by_end })
    pub over : IsProtectable → (x : Ghost) (f : GhostFrame) → FrameOk texts names g p x f → f.stage ≡ inside → f.items ≡ [] → f.parts ≡ []
        → IsSameRead x f (record f { stage = after })

-- the turn that a machine's state takes is what it answers
abbrev pub after_answer : Total → ℕ → Answer → NextOf
after_answer m t None = (after_of t on.idle m, step_kind.Idle)
after_answer m t (Some a) = (applied m t a.settled, kind_of a.settled.1 (a.inserted || a.advised))

abbrev pub AnswersAreTurns : Type 0
AnswersAreTurns = (m : Total) (t : ℕ) → m.state ≡ state.Running → next_of m t ≡ after_answer m t (answer m t)
