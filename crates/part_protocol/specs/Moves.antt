-- What a turn of a thread does to a part.
use Rattle.std.specs.Prelude.{◌≡◌, ◌<◌, ◌+◌, ℕ, suc, pred, Bool, false, List, slice_set, Some, None}
use Rattle.step_machine.specs.Frame.{Frame}
use Rattle.codec_laws.specs.Solo.{goes}
use Rattle.part_protocol.specs.Gate.{holds, engaged}
use Rattle.part_protocol.specs.Part.{Part, enter_waits, enter_runs, enter_unlocks, enter_ends, leave_waits, leave_counts, leave_runs, leave_ends, Position, outside, entry, exit, Role, phase_of, standing_of}
use Rattle.part_protocol.specs.Rules.{Rules, WordsFit, ValuesFit}

-- how the numbers of frames inside, and past their enter, change without the lock; frames that go away were past it
pub data Shift (r r' : Role) : Type 0 where
  up : (k : ℕ) → r'.inside ≡ r.inside + k → r'.passed ≡ r.passed → Shift r r'
  down : (k : ℕ) → r.inside ≡ r'.inside + k → r.passed ≡ r'.passed + k → Shift r r'

module _ (R : Rules) where
  abbrev pub is_holding : Position → Bool
  is_holding position = holds (phase_of R.mending position)

  pub data Quiets : Position → Position → Type 0 where
    stays : (x : Position) → is_holding x ≡ false → Quiets x x
    calls_enter : Quiets outside (entry enter_waits)
    ends_enter : Quiets (entry enter_ends) outside
    calls_leave : Quiets outside (exit leave_waits)
    ends_leave : Quiets (exit leave_ends) outside

  pub data Grabs : Position → Position → Type 0 where
    grabs_enter : Grabs (entry enter_waits) (entry (enter_runs 0 R.enter_locked))
    grabs_leave : Grabs (exit leave_waits) (exit (leave_counts 0 R.leave_locked))

  -- a step of frames over the words alone
  pub record Runs (a a' : Part) (frames next : List Frame) : Type 0 where
    pub words : List ℕ
    pub step : R.step a.count frames a.words ≡ goes next words
    pub fit : WordsFit R words
    pub then : a' ≡ record a { words = words }

  -- between lock and unlock
  pub data Works (a a' : Part) : Position → Position → Type 0 where
    enter_goes : (d : ℕ) (fs next : List Frame) → Runs a a' fs next → Works a a' (entry (enter_runs d fs)) (entry (enter_runs (suc d) next))
    enter_adds : (d : ℕ) (fs : List Frame) → fs ≡ R.enter_puts a.count → a' ≡ record a { count = suc a.count }
        → Works a a' (entry (enter_runs d fs)) (entry enter_unlocks)
    leave_goes : (d : ℕ) (fs next : List Frame) → Runs a a' fs next → Works a a' (exit (leave_counts d fs)) (exit (leave_counts (suc d) next))
    leave_takes : (d : ℕ) (fs : List Frame) → fs ≡ R.leave_puts a.count → a' ≡ record a { count = pred a.count }
        → Works a a' (exit (leave_counts d fs)) (exit (leave_runs 0 R.leave_taken))
    rest_goes : (d : ℕ) (fs next : List Frame) → Runs a a' fs next → Works a a' (exit (leave_runs d fs)) (exit (leave_runs (suc d) next))

  pub data Frees (r r' : Role) : Type 0 where
    frees_enter : r.position ≡ entry enter_unlocks → r'.position ≡ entry enter_ends → Frees r r'
    frees_leave : (d : ℕ) → 0 < r.inside → r'.passed ≡ r.passed → r.position ≡ exit (leave_runs d R.leave_frees)
        → r'.position ≡ exit leave_ends → Frees r r'

  pub data Move (t : ℕ) (r r' : Role) (a a' : Part) (v v' : List ℕ) : Type 0 where
    quiet : Quiets r.position r'.position → engaged (standing_of R.mending r') ≡ engaged (standing_of R.mending r) → Shift r r'
        → a' ≡ a → v' ≡ v → Move t r r' a a' v v'
    grab : Grabs r.position r'.position → r'.held ≡ r.held → r'.passed ≡ r.passed → r'.inside ≡ r.inside → a.lock ≡ None
        → a' ≡ record a { lock = Some t } → v' ≡ v → Move t r r' a a' v v'
    work : Works a a' r.position r'.position → r'.held ≡ r.held → r'.passed ≡ r.passed → r'.inside ≡ r.inside → v' ≡ v
        → Move t r r' a a' v v'
    free : Frees r r' → r'.held ≡ r.held → r'.inside ≡ r.inside → a' ≡ record a { lock = None } → v' ≡ v → Move t r r' a a' v v'
    -- a member takes a value, in a frame that is engaged
    stores : (i bits : ℕ) → r' ≡ r → is_holding r.position ≡ false → 0 < r.held → a' ≡ record a { words = slice_set a.words i bits }
        → v' ≡ slice_set v i bits → WordsFit R a'.words → ValuesFit R v' → Move t r r' a a' v v'
