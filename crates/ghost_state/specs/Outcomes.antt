-- What a turn of a thread comes to, in both machines and for each part.
use Rattle.std.specs.Prelude.{◌≡◌, ◌≤◌, ℕ, suc, ◌+◌, ◌-◌, ◌*◌, Bool, true, false, List, [], ◌∷◌, length, Option, Some, None}
use Rattle.agxx_base.specs.declared.ids.ClassId.{ClassId}
use Rattle.cxx_core.specs.CoreProgram.{CoreProgram}
use Rattle.step_machine.specs.Item.{Item}
use Rattle.step_machine.specs.Effects as on
use Rattle.step_machine.specs.Turn.{Thread}
use Rattle.part_protocol.specs.Part.{EnterStep, enter_waits, enter_runs, enter_unlocks, enter_ends, LeaveStep, leave_waits, leave_counts, leave_runs, leave_ends}
use Rattle.part_protocol.specs.Moves.{Move}
use Rattle.ghost_state.specs.CoreCodes.{CoreCode, size_of, Codes}
use Rattle.ghost_state.specs.Names.{Naming}
use Rattle.ghost_state.specs.EntryFrames.{Unfolding, as_stmt, as_expr, as_call}
use Rattle.ghost_state.specs.GhostFrames.{GhostItem, Exit, by_value, Stage, before, entering, in_enter, inside, leaving, in_leave, GhostFrame, source_thread, woven_thread}
use Rattle.ghost_state.specs.Ghost.{Ghost, source_state, woven_state}
use Rattle.ghost_state.specs.Deeds.{answer, Deed, went, writes, counts, locks, unlocks, source_turn, woven_turn, after_deed}
use Rattle.ghost_state.specs.Roles.{members_of_class, role, rules}

-- the class of an object, for the steps of a part by itself; where it isn't live, the part's own
abbrev pub live_by : Option ClassId → ClassId → ClassId
live_by None class = class
live_by (Some live) class = live

module _ (texts : List (List ℕ)) (names : Naming) (g : Codes) (p : CoreProgram) where
  -- ---- how many inserted steps a thread has before its next source step, at most

  abbrev pub most_by : Option CoreCode → ClassId → ℕ
  most_by None class = 0
  most_by (Some code) class = 28 * size_of code (length (members_of_class texts names g p class)) + 16

  abbrev pub most : ClassId → ℕ
  most class = most_by (g class) class

  -- of a whole enter or leave: the call's three steps, the lock, of a leave 8 up to its store of the counter, the store, what
  -- runs, the unlock, the end
  abbrev pub one_cost : ClassId → ℕ
  one_cost class = most class + 15

  abbrev pub costs : List ClassId → ℕ
  costs [] = 0
  costs (class ∷ classes) = one_cost class + costs classes

  abbrev pub unfolded : Unfolding → ℕ
  unfolded as_stmt = 0
  unfolded as_expr = 1
  unfolded as_call = 2

  -- how much of it is done
  abbrev pub enter_done : ClassId → EnterStep → ℕ
  enter_done class enter_waits = 3
  enter_done class (enter_runs done frames) = 4 + done
  enter_done class enter_unlocks = 5 + most class
  enter_done class enter_ends = 6 + most class

  abbrev pub leave_done : ClassId → LeaveStep → ℕ
  leave_done class leave_waits = 3
  leave_done class (leave_counts done frames) = 4 + done
  leave_done class (leave_runs done frames) = 13 + done
  leave_done class leave_ends = 14 + most class

  abbrev pub exit_left : Exit → ℕ
  exit_left (by_value n at t) = 1
  exit_left x = 0

  -- a body that is over and ends in no `return` has its leaves to come
  abbrev pub end_left : List GhostItem → Bool → ℕ → ℕ
  end_left [] false n = n
  end_left is closed n = 0

  abbrev pub before_left : List Item → ℕ → ℕ
  before_left [] n = n
  before_left (i ∷ is) n = 0

  abbrev pub left_at : List ClassId → List ClassId → List GhostItem → Bool → Stage → ℕ
  left_at parts held is closed (before first) = before_left first (costs parts + end_left is closed (costs parts))
  left_at parts held is closed (entering u class todo) =
      (costs (class ∷ todo) - unfolded u) + end_left is closed (costs parts)
  left_at parts held is closed (in_enter class todo s) =
      (one_cost class - enter_done class s) + costs todo + end_left is closed (costs parts)
  left_at parts held is closed inside = end_left is closed (costs parts)
  left_at parts held is closed (leaving u x) = (costs held - unfolded u) + exit_left x
  left_at parts held is closed (in_leave x class s) = (one_cost class - leave_done class s) + costs held + exit_left x
  left_at parts held is closed stage = 0

  abbrev pub left_in : List GhostFrame → ℕ
  left_in [] = 0
  left_in (f ∷ fs) = left_at f.parts f.held f.items f.closed f.stage

  -- of the parts of the frame that runs, once in and once out, and the `return` of a result
  abbrev pub bound_in : List GhostFrame → ℕ
  bound_in [] = 0
  bound_in (f ∷ fs) = costs f.parts + costs f.parts + 1

  -- ---- a turn

  -- what the source doesn't see
  abbrev pub IsHidden : Deed → Type 0
  IsHidden went = Unit {0}
  IsHidden (writes o class i bits) = Unit {0}
  IsHidden (counts o class n) = Unit {0}
  IsHidden (locks o class) = Unit {0}
  IsHidden (unlocks o class) = Unit {0}
  IsHidden d = ⊥

  -- the source does the same, or nothing where the step is inserted
  abbrev pub InSource : Bool → Bool → Ghost → ℕ → List GhostFrame → Deed → Type 0
  InSource false advised x t fs d =
      answer (source_state texts names g p x) t
      ≡ Some (record { inserted = false; advised = advised; settled = (source_thread fs, source_turn texts names g p d) })
  InSource true advised x t fs d = (source_thread fs ≡ source_thread (x.frames t)) × IsHidden d

  -- what it does to the part of a class of an object
  abbrev pub MoveBy : Option CoreCode → ℕ → ClassId → ℕ → List GhostFrame → List GhostFrame → Ghost → Ghost → Type 0
  MoveBy None o class t fs fs' x y = Unit {0}
  MoveBy (Some code) o class t fs fs' x y =
      Move (rules texts names g p code o (live_by (x.class o) class) class) t (role o class fs) (role o class fs')
      (x.part o class) (y.part o class) (x.values o class) (y.values o class)

  pub record Moved (x : Ghost) (t : ℕ) : Type 0 where
    pub inserted : Bool
    pub advised : Bool
    pub frames : List GhostFrame
    pub deed : Deed
    pub woven : answer (woven_state texts names g p x) t
        ≡ Some (record { inserted = inserted; advised = advised; settled = (woven_thread names g p frames, woven_turn texts names g p x.part deed) })
    pub source : InSource inserted advised x t frames deed
    -- so it never grows while inserted steps are taken
    pub drops : inserted ≡ true → (suc (left_in frames) ≤ left_in (x.frames t)) × (bound_in frames ≡ bound_in (x.frames t))
    pub moves : (o : ℕ) (class : ClassId)
        → MoveBy (g class) o class t (x.frames t) frames x (after_deed g texts names p t frames deed x)

  pub data Outcome (x : Ghost) (t : ℕ) : Type 0 where
    moves_on : Moved x t → Outcome x t
    -- a blocked turn is no step of either
    waits : (inserted advised : Bool)
        → answer (woven_state texts names g p x) t ≡ Some (record { inserted = inserted; advised = advised; settled = (woven_thread names g p (x.frames t), on.blocked) })
        → Outcome x t
    rests : x.frames t ≡ [] → Outcome x t
    -- in a repair of the part that can't be repaired
    halts : (o : ℕ) (class : ClassId) (fs : Thread) (advised : Bool) → x.broken ≡ Some (o, class)
        → answer (woven_state texts names g p x) t ≡ Some (record { inserted = true; advised = advised; settled = (fs, on.halted (Some o) (Some class)) })
        → Outcome x t
