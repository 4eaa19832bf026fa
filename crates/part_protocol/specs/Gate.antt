-- The counter and the lock of a part, and where each thread is to them. What the part's words hold is left out.
use Rattle.std.specs.Prelude.{◌≡◌, ◌≢◌, ℕ, zero, suc, pred, ◌+◌, ◌<◌, Bool, true, false, List, [], ◌∷◌, Option, Some, None}
use Rattle.step_machine.specs.Total.{same, upd}

pub record Gate : Type 0 where
  pub count : ℕ
  -- who holds the lock
  pub lock : Option ℕ

abbrev pub open_gate : Gate
open_gate = record { count = 0; lock = None }

-- where a thread is in an enter or a leave of the part
pub data Phase : Type 0 where
  -- in neither
  away : Phase
  -- before it has the lock
  wants_in : Phase
  -- with the lock, before it stores the counter; and whether the words are being mended
  comes_in : Bool → Phase
  -- with the lock, behind the store
  came_in : Phase
  -- behind the unlock
  is_in : Phase
  wants_out : Phase
  goes_out : Phase
  went_out : Bool → Phase
  is_out : Phase

abbrev pub holds : Phase → Bool
holds away = false
holds wants_in = false
holds (comes_in mending) = true
holds came_in = true
holds is_in = false
holds wants_out = false
holds goes_out = true
holds (went_out mending) = true
holds is_out = false

abbrev pub mends : Phase → Bool
mends (comes_in mending) = mending
mends (went_out mending) = mending
mends phase = false

-- what an enter or a leave adds to the counter
abbrev pub owed : Phase → ℕ
owed came_in = 1
owed is_in = 1
owed wants_out = 1
owed goes_out = 1
owed phase = 0

-- a thread, as the gate sees it
pub record Standing : Type 0 where
  -- how many of its frames are engaged: behind their enter, and before their leave
  pub held : ℕ
  pub phase : Phase

abbrev pub nobody : Standing
nobody = record { held = 0; phase = away }

abbrev pub engaged : Standing → ℕ
engaged r = owed r.phase + r.held

abbrev pub is_held_by : Option ℕ → ℕ → Bool
is_held_by None t = false
is_held_by (Some u) t = same t u

-- f 0 + .. + f (n - 1)
abbrev pub total : (ℕ → ℕ) → ℕ → ℕ
total f zero = 0
total f (suc n) = f n + total f n

-- ---- what holds at each moment, of n threads

pub record InOrder (n : ℕ) (g : Gate) (roles : ℕ → Standing) : Type 0 where
  -- the counter is the number of frames that are engaged
  pub counted : g.count ≡ total (λ t. engaged (roles t)) n
  -- whoever is between lock and unlock holds the lock, and nobody else
  pub holder : (t : ℕ) → holds (roles t).phase ≡ is_held_by g.lock t
  -- words are mended while nobody is engaged
  pub alone : (t : ℕ) → mends (roles t).phase ≡ true → g.count ≡ 0

-- ---- what a step of thread t does

pub data Quiet : Phase → Phase → Type 0 where
  stays : (p : Phase) → holds p ≡ false → Quiet p p
  calls_in : Quiet away wants_in
  ends_in : Quiet is_in away
  calls_out : Quiet away wants_out
  ends_out : Quiet is_out away

pub data Grab : Phase → Phase → Type 0 where
  grabs_in : Grab wants_in (comes_in false)
  grabs_out : Grab wants_out goes_out

-- between lock and unlock
pub data Work (g g' : Gate) : Phase → Phase → Type 0 where
  -- the words are mended only where the counter is 0
  enters : (b c : Bool) → (c ≡ true → g.count ≡ 0) → g' ≡ g → Work g g' (comes_in b) (comes_in c)
  adds : (b : Bool) → g' ≡ record g { count = suc g.count } → Work g g' (comes_in b) came_in
  leaves : g' ≡ g → Work g g' goes_out goes_out
  takes : g' ≡ record g { count = pred g.count } → Work g g' goes_out (went_out false)
  renews : (b c : Bool) → (c ≡ true → g.count ≡ 0) → g' ≡ g → Work g g' (went_out b) (went_out c)

pub data Free : Phase → Phase → Type 0 where
  frees_in : Free came_in is_in
  frees_out : (b : Bool) → Free (went_out b) is_out

pub data Step (t : ℕ) (r r' : Standing) (g g' : Gate) : Type 0 where
  quiet : Quiet r.phase r'.phase → engaged r' ≡ engaged r → g' ≡ g → Step t r r' g g'
  grab : Grab r.phase r'.phase → r'.held ≡ r.held → g.lock ≡ None → g' ≡ record g { lock = Some t } → Step t r r' g g'
  work : Work g g' r.phase r'.phase → r'.held ≡ r.held → Step t r r' g g'
  free : Free r.phase r'.phase → r'.held ≡ r.held → g' ≡ record g { lock = None } → Step t r r' g g'

-- ---- runs

-- a thread's step: what it and the gate are then
pub record Event : Type 0 where
  pub thread : ℕ
  pub then : Standing
  pub gate : Gate

abbrev pub gate_after : Gate → List Event → Gate
gate_after g [] = g
gate_after g (e ∷ es) = gate_after e.gate es

abbrev pub roles_after : (ℕ → Standing) → List Event → ℕ → Standing
roles_after roles [] = roles
roles_after roles (e ∷ es) = roles_after (upd roles e.thread e.then) es

-- each event is a step of one of n threads
abbrev pub AreSteps : ℕ → Gate → (ℕ → Standing) → List Event → Type 0
AreSteps n g roles [] = Unit {0}
AreSteps n g roles (e ∷ es) =
    (e.thread < n) × Step e.thread (roles e.thread) e.then g e.gate × AreSteps n e.gate (upd roles e.thread e.then) es

-- ---- laws

-- thread t is alone with the part
pub record IsAlone (n t : ℕ) (g : Gate) (roles : ℕ → Standing) : Type 0 where
  pub has_lock : g.lock ≡ Some t
  pub none_counted : g.count ≡ 0
  pub none_engaged : (u : ℕ) → u < n → engaged (roles u) ≡ 0
  pub no_other : (u : ℕ) → mends (roles u).phase ≡ true → u ≡ t

pub record GatesAreInOrder : Type 0 where
  pub begins : (n : ℕ) → InOrder n open_gate (λ t. nobody)
  pub keeps : (n t : ℕ) (g g' : Gate) (roles roles' : ℕ → Standing) → t < n → ((u : ℕ) → u ≢ t → roles' u ≡ roles u)
      → InOrder n g roles → Step t (roles t) (roles' t) g g' → InOrder n g' roles'
  -- so it holds after any steps of any threads
  pub of_runs : (n : ℕ) (es : List Event) → AreSteps n open_gate (λ t. nobody) es
      → InOrder n (gate_after open_gate es) (roles_after (λ t. nobody) es)

pub record MendingIsAlone : Type 0 where
  -- whoever mends the words has the lock, nobody is engaged, and no other mends
  pub of_order : (n t : ℕ) (g : Gate) (roles : ℕ → Standing) → InOrder n g roles → mends (roles t).phase ≡ true
      → IsAlone n t g roles
  pub of_runs : (n t : ℕ) (es : List Event) → AreSteps n open_gate (λ t. nobody) es
      → mends (roles_after (λ t. nobody) es t).phase ≡ true
      → IsAlone n t (gate_after open_gate es) (roles_after (λ t. nobody) es)
