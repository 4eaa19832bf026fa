-- The protocol: what turns and flips do to a part, whatever the program, with any number of threads.
use Rattle.std.specs.Prelude.{◌≡◌, ◌≢◌, ◌≤◌, ◌<◌, ◌*◌, ◌^◌, ◌⊎◌, ℕ, zero, suc, true, Bool, List, [], ◌∷◌, None}
use Rattle.step_machine.specs.Frame.{Frame}
use Rattle.codec_laws.specs.Solo.{goes, dies}
use Rattle.fault_model.specs.Admissible.{Hit, goes_with}
use Rattle.part_protocol.specs.Gate.{engaged, total, mends, IsAlone, Step}
use Rattle.part_protocol.specs.Part.{Part, gate_of, enter_runs, leave_counts, leave_runs, outside, entry, exit, Role, phase_of, standing_of}
use Rattle.part_protocol.specs.Rules.{Rules, hit_word, hurt, IsBitOf, Together, WordsFit, ValuesFit, members_of}
use Rattle.part_protocol.specs.BlockLaws.{BlockLaws}
use Rattle.part_protocol.specs.Invariant.{all_inside, PartInv, BrokenInv, Condition}
use Rattle.part_protocol.specs.Moves.{Move}

-- flips are forgotten once somebody is inside
abbrev pub hits_after : ℕ → List Hit → List Hit
hits_after zero hits = hits
hits_after (suc inside) hits = []

-- a thread that isn't inside is nothing to the part
pub record IsOut (r : Role) : Type 0 where
  pub held : r.held ≡ 0
  pub passed : r.passed ≡ 0
  pub position : r.position ≡ outside

-- of n threads nobody is
pub record NobodyInside (n : ℕ) (roles : ℕ → Role) : Type 0 where
  pub none : all_inside n roles ≡ 0
  pub each : (t : ℕ) → IsOut (roles t)

module _ (R : Rules) where
  abbrev pub all_engaged : ℕ → (ℕ → Role) → ℕ
  all_engaged n roles = total (λ t. engaged (standing_of R.mending (roles t))) n

  -- ---- turns

  -- the counter is a word of 32 bits
  abbrev pub TurnsKeep : Bool → Type 0
  TurnsKeep broken =
      (n t : ℕ) (v v' : List ℕ) (hits : List Hit) (a a' : Part) (roles roles' : ℕ → Role) → t < n
      → ((u : ℕ) → u ≢ t → roles' u ≡ roles u) → all_engaged n roles' < 2 ^ 32
      → Condition R broken n v hits a roles → Move R t (roles t) (roles' t) a a' v v'
      → Condition R broken n v' (hits_after (all_inside n roles') hits) a' roles'

  -- a turn that isn't to the part
  abbrev pub OthersKeep : Bool → Type 0
  OthersKeep broken =
      (n t : ℕ) (v : List ℕ) (hits : List Hit) (a : Part) (roles roles' : ℕ → Role) → ((u : ℕ) → roles' u ≡ roles u)
      → Condition R broken n v hits a roles → Condition R broken n v (hits_after (all_inside n roles') hits) a roles'

  -- one turn is a step at the gate
  abbrev pub TurnsAreSteps : Type 0
  TurnsAreSteps =
      (n t : ℕ) (v v' : List ℕ) (hits : List Hit) (a a' : Part) (roles roles' : ℕ → Role) → PartInv R n v hits a roles
      → Move R t (roles t) (roles' t) a a' v v'
      → Step t (standing_of R.mending (roles t)) (standing_of R.mending (roles' t)) (gate_of a) (gate_of a')

  -- ---- flips, which fall while nobody is inside

  abbrev pub FlipsKeep : Type 0
  FlipsKeep =
      (n : ℕ) (v : List ℕ) (hits : List Hit) (a : Part) (roles : ℕ → Role) (hit : Hit) → NobodyInside n roles
      → PartInv R n v hits a roles → IsBitOf R hit → goes_with R.single hits hit.bit ≡ true
      → PartInv R n v (hit ∷ hits) (record a { words = hit_word R.from hit a.words }) roles

  -- one that leaves words which can't be repaired
  abbrev pub FlipsBreak : Type 0
  FlipsBreak =
      (n : ℕ) (v : List ℕ) (hits : List Hit) (a : Part) (roles : ℕ → Role) (hit : Hit) → NobodyInside n roles
      → PartInv R n v hits a roles → IsBitOf R hit → R.beyond (hit_word R.from hit a.words) ≡ true
      → BrokenInv R n (record a { words = hit_word R.from hit a.words }) roles

  -- ---- what holds of a part at each moment

  -- while nobody is inside, its words are encoded but for the flips since somebody was
  pub record AtRest (v : List ℕ) (hits : List Hit) (a : Part) : Type 0 where
    pub words : a.words ≡ hurt R.from hits (R.encoded v)
    pub together : Together R hits
    pub count : a.count ≡ 0
    pub lock : a.lock ≡ None

  -- so a part begins, and while nobody is inside its rules may become others that mean the same
  abbrev pub RestIsKept : Type 0
  RestIsKept =
      (n : ℕ) (v : List ℕ) (hits : List Hit) (a : Part) (roles : ℕ → Role) → NobodyInside n roles → WordsFit R a.words
      → ValuesFit R v → AtRest v hits a → PartInv R n v hits a roles

  -- what runs between lock and unlock is there, or has a step to go, and doesn't halt
  pub record GoesOn (most done count : ℕ) (frames : List Frame) (ws : List ℕ) : Type 0 where
    pub few : done < most
    pub next : List Frame
    pub words : List ℕ
    pub step : R.step count frames ws ≡ goes next words

  pub record PartsHold : Type 0 where
    pub at_rest : (n : ℕ) (v : List ℕ) (hits : List Hit) (a : Part) (roles : ℕ → Role) → NobodyInside n roles
        → PartInv R n v hits a roles → AtRest v hits a
    -- where a frame of some thread is engaged, the members are the source's
    pub exact : (n t : ℕ) (v : List ℕ) (hits : List Hit) (a : Part) (roles : ℕ → Role) → t < n → 0 < (roles t).held
        → PartInv R n v hits a roles → members_of R a.words ≡ v
    pub alone : (n t : ℕ) (v : List ℕ) (hits : List Hit) (a : Part) (roles : ℕ → Role) → PartInv R n v hits a roles
        → mends (phase_of R.mending (roles t).position) ≡ true
        → IsAlone n t (gate_of a) (λ u. standing_of R.mending (roles u))
    pub enter_goes_on : (n t d : ℕ) (v : List ℕ) (hits : List Hit) (a : Part) (roles : ℕ → Role) (frames : List Frame)
        → PartInv R n v hits a roles → (roles t).position ≡ entry (enter_runs d frames)
        → (frames ≡ R.enter_puts a.count) ⊎ GoesOn R.most d a.count frames a.words
    pub leave_goes_on : (n t d : ℕ) (v : List ℕ) (hits : List Hit) (a : Part) (roles : ℕ → Role) (frames : List Frame)
        → PartInv R n v hits a roles → (roles t).position ≡ exit (leave_counts d frames)
        → (frames ≡ R.leave_puts a.count) ⊎ GoesOn R.few d a.count frames a.words
    pub rest_goes_on : (n t d : ℕ) (v : List ℕ) (hits : List Hit) (a : Part) (roles : ℕ → Role) (frames : List Frame)
        → PartInv R n v hits a roles → (roles t).position ≡ exit (leave_runs d frames)
        → (frames ≡ R.leave_frees) ⊎ GoesOn R.most d a.count frames a.words

  -- of one that can't be repaired: no frame is engaged in it or past its repair, and a repair halts or goes on
  pub record BrokenPartsHold : Type 0 where
    pub none : (n t : ℕ) (a : Part) (roles : ℕ → Role) → t < n → BrokenInv R n a roles
        → engaged (standing_of R.mending (roles t)) ≡ 0
    pub repair_goes_on : (n t d : ℕ) (a : Part) (roles : ℕ → Role) (frames : List Frame) → BrokenInv R n a roles
        → (roles t).position ≡ entry (enter_runs d frames)
        → (R.step a.count frames a.words ≡ dies) ⊎ GoesOn R.most d a.count frames a.words

pub record PartsAreKept : Type 0 where
  pub turns : (R : Rules) → BlockLaws R → (broken : Bool) → TurnsKeep R broken
  pub others : (R : Rules) → (broken : Bool) → OthersKeep R broken
  pub steps : (R : Rules) → BlockLaws R → TurnsAreSteps R
  pub flips : (R : Rules) → BlockLaws R → FlipsKeep R
  pub breaks : (R : Rules) → BlockLaws R → FlipsBreak R
  pub rest : (R : Rules) → RestIsKept R

pub record PartsAreRight : Type 0 where
  pub hold : (R : Rules) → BlockLaws R → PartsHold R
  pub broken : (R : Rules) → BlockLaws R → BrokenPartsHold R
  -- the counter stays below what it can hold
  pub counts : (R : Rules) (n k : ℕ) (roles : ℕ → Role) → ((t : ℕ) → engaged (standing_of R.mending (roles t)) ≤ k)
      → all_engaged R n roles ≤ n * k
