-- What holds of a ghost state at each moment.
use Rattle.std.specs.Prelude.{◌≡◌, ◌≢◌, ◌≤◌, ◌<◌, ◌⊎◌, ℕ, Bool, true, false, ◌&&◌, List, [], ◌∷◌, ◌++◌, length, reverse, replicate, map, Option, Some, None}
use Rattle.std.specs.List.{All, Contains}
use Rattle.agxx_base.specs.declared.ids.ClassId.{ClassId}
use Rattle.agxx_base.specs.declared.ids.ObjectId.{ObjectId}
use Rattle.cxx_core.specs.CoreStmt as cs
use Rattle.cxx_core.specs.CoreProgram.{CoreProgram}
use Rattle.step_machine.specs.declared.datum.Datum.{Datum}
use Rattle.step_machine.specs.declared.outcome.State.TheVariants as state
use Rattle.step_machine.specs.Data.{converted}
use Rattle.step_machine.specs.Setting.{class_at, class_of_function}
use Rattle.step_machine.specs.Total.{same}
use Rattle.part_protocol.specs.Part.{Part}
use Rattle.part_protocol.specs.Invariant.{Condition}
use Rattle.ghost_state.specs.CoreCodes.{CoreCode, Codes}
use Rattle.ghost_state.specs.Names.{Naming}
use Rattle.ghost_state.specs.ProtectedCore.{line_of, parts_of, part_words}
use Rattle.ghost_state.specs.GhostFrames as ghost
use Rattle.ghost_state.specs.GhostFrames.{GhostItem, Exit, by_value, by_return, by_end, Stage, before, entering, in_enter, inside, leaving, in_leave, left, after, GhostFrame}
use Rattle.ghost_state.specs.Ghost.{Ghost}
use Rattle.ghost_state.specs.Deeds.{S, mutexes_by}
use Rattle.ghost_state.specs.Roles.{members_of_class, role, rules}
use Rattle.ghost_state.specs.Outcomes.{live_by}
use Rattle.ghost_state.specs.SourceCode.{SourceGhostItem, BeforeItem, IsTail, IsPlain}

-- ---- frames

abbrev pub is_return_item : GhostItem → Bool
is_return_item (ghost.stmt n (cs.return at)) = true
is_return_item (ghost.stmt n (cs.return_value at t x)) = true
is_return_item (ghost.returning n at t) = true
is_return_item i = false

abbrev pub ends_items : Bool → List GhostItem → Bool
ends_items last [] = last
ends_items last (i ∷ is) = ends_items (is_return_item i) is

-- until a body is left, it still ends as it did
abbrev pub ClosedOk : Bool → Stage → List GhostItem → Type 0
ClosedOk true (before first) is = ends_items false is ≡ true
ClosedOk true (entering u class todo) is = ends_items false is ≡ true
ClosedOk true (in_enter class todo s) is = ends_items false is ≡ true
ClosedOk true inside is = ends_items false is ≡ true
ClosedOk closed s is = Unit {0}

abbrev pub ExitOk : Exit → Option Datum → Type 0
ExitOk (by_value n at t) kept = (v : Datum) × (kept ≡ Some v) × (converted t v ≡ v)
ExitOk x kept = Unit {0}

-- a value on its way is kept, in its type
abbrev pub ResultOk : Stage → Option Datum → Type 0
ResultOk inside kept = kept ≡ None
ResultOk (leaving u x) kept = ExitOk x kept
ResultOk (in_leave x class s) kept = ExitOk x kept
ResultOk (left x) kept = ExitOk x kept
ResultOk s kept = Unit {0}

-- in no enter or leave, as the frames below the running one are
abbrev pub IsCalm : Stage → Type 0
IsCalm (in_enter class todo s) = ⊥
IsCalm (in_leave x class s) = ⊥
IsCalm s = Unit {0}

module _ (texts : List (List ℕ)) (names : Naming) (g : Codes) (p : CoreProgram) where
  -- parts are entered in order, and left in the opposite one
  abbrev pub StageOk : List ClassId → List ClassId → Stage → Type 0
  StageOk parts held (before first) = (held ≡ []) × All (BeforeItem texts names g p) first
  StageOk parts held (entering u class todo) = reverse held ++ class ∷ todo ≡ parts
  StageOk parts held (in_enter class todo s) = reverse held ++ class ∷ todo ≡ parts
  StageOk parts held inside = reverse held ≡ parts
  StageOk parts held (leaving u x) = (gone : List ClassId) × (reverse held ++ gone ≡ parts) × (parts ≢ [])
  StageOk parts held (in_leave x class s) = (gone : List ClassId) × (reverse held ++ class ∷ gone ≡ parts)
  StageOk parts held (left x) = held ≡ []
  StageOk parts held after = held ≡ []

  -- parts are those of the class of the frame's function, from which the object's class is or derives
  abbrev pub OnObject : Ghost → GhostFrame → Type 0
  OnObject x f =
      (f.parts ≡ []) ⊎ ((o : ℕ) × (class own : ClassId) × (f.this ≡ Some o) × (x.class o ≡ Some class)
      × (class_of_function (S texts names g p) f.function ≡ Some own) × Contains (line_of p (Some class)) own)

  pub record FrameOk (x : Ghost) (f : GhostFrame) : Type 0 where
    pub parts : f.parts ≡ parts_of g p (class_of_function (S texts names g p) f.function)
    pub object : OnObject x f
    pub stage : StageOk f.parts f.held f.stage
    pub items : All (SourceGhostItem texts names g p) f.items
    pub tail : IsTail texts names g p f.tail
    pub closed : ClosedOk f.closed f.stage f.items
    pub result : ResultOk f.stage f.kept
    pub locals : All (λ l. IsPlain texts names g p l.0) f.locals
    -- none is out so far
    pub is_in : f.is_out ≡ false

  abbrev pub Below : Ghost → List GhostFrame → Type 0
  Below x fs = All (λ (f : GhostFrame). IsCalm f.stage × FrameOk x f) fs

  abbrev pub ThreadOk : Ghost → List GhostFrame → Type 0
  ThreadOk x [] = Unit {0}
  ThreadOk x (f ∷ fs) = FrameOk x f × Below x fs

  -- ---- parts

  abbrev pub is_broken : Option (ℕ × ClassId) → ℕ → ClassId → Bool
  is_broken None o class = false
  is_broken (Some b) o class = same o b.0 && same class.0 b.1.0

  abbrev pub zeros : ClassId → List ℕ
  zeros class = replicate (length (members_of_class texts names g p class)) 0

  abbrev pub PartOk : Ghost → ℕ → ClassId → Option CoreCode → Type 0
  PartOk x o class None = Unit {0}
  PartOk x o class (Some code) =
      Condition (rules texts names g p code o (live_by (x.class o) class) class) (is_broken x.broken o class) 64 (x.values o class)
      (x.hits o class) (x.part o class) (λ t. role o class (x.frames t))

  -- a part of an object that isn't made yet
  abbrev pub fresh_part : CoreCode → ClassId → Part
  fresh_part code class = record {
    words = replicate (length (part_words names g p code class (members_of_class texts names g p class))) 0;
    count = 0;
    lock = None;
  }

  -- ---- the whole

  pub record Inv (x : Ghost) : Type 0 where
    pub threads : (t : ℕ) → ThreadOk x (x.frames t)
    pub missing : (t : ℕ) → x.started ≤ t → x.frames t ≡ []
    -- so the counters stay small: each frame counts toward the depth
    pub few_threads : x.started ≤ 64
    pub few_frames : (t : ℕ) → length (x.frames t) ≤ 200
    -- objects that aren't made
    pub unmade : (o : ℕ) → x.made ≤ o → x.class o ≡ None
    pub fresh : (o : ℕ) (class : ClassId) → x.made ≤ o → x.values o class ≡ zeros class
    pub fresh_parts : (o : ℕ) (class : ClassId) (code : CoreCode) → x.made ≤ o → g class ≡ Some code
        → x.part o class ≡ fresh_part code class
    pub fresh_mutexes : (o : ℕ) (class : ClassId) → x.made ≤ o
        → x.mutexes o class ≡ map (λ m. None) (mutexes_by (class_at (S texts names g p) class))
    -- objects have what their classes declare
    pub known : (o : ℕ) (class : ClassId) → x.class o ≡ Some class → class.0 < length p.classes
    pub sized : (o : ℕ) (class : ClassId) → length (x.values o class) ≡ length (members_of_class texts names g p class)
    pub mutexes_sized : (o : ℕ) (class : ClassId)
        → length (x.mutexes o class) ≡ length (mutexes_by (class_at (S texts names g p) class))
    pub parts : (o : ℕ) (class : ClassId) → class.0 < length p.classes → PartOk x o class (g class)
    pub goes_on : x.broken ≡ None → (o : Option ObjectId) (class : Option ClassId) → x.state ≢ state.Halted o class
