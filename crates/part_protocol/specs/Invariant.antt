-- What holds of a part at each moment.
use Rattle.std.specs.Prelude.{◌≡◌, ◌<◌, ◌≤◌, ◌+◌, ◌⊎◌, ℕ, true, false, Bool, List, [], None}
use Rattle.step_machine.specs.Frame.{Frame}
use Rattle.codec_laws.specs.Solo.{goes, dies, solo}
use Rattle.fault_model.specs.Admissible.{Hit}
use Rattle.part_protocol.specs.Gate.{total, InOrder}
use Rattle.part_protocol.specs.Part.{Part, gate_of, enter_waits, enter_runs, enter_unlocks, leave_counts, leave_runs, Position, outside, entry, exit, Role, standing_of}
use Rattle.part_protocol.specs.Rules.{Rules, hurt, Together, WordsFit, ValuesFit, members_of, Steady}

-- the frames of n threads that have passed their enter, and that are inside
abbrev pub all_passed : ℕ → (ℕ → Role) → ℕ
all_passed n roles = total (λ t. (roles t).passed) n

abbrev pub all_inside : ℕ → (ℕ → Role) → ℕ
all_inside n roles = total (λ t. (roles t).inside) n

module _ (R : Rules) where
  -- With nobody engaged the words are encoded, or hurt while nobody has passed an enter. Those hits are the flips since
  -- somebody was inside, while nobody is; once somebody comes in these are forgotten, though the words are still hurt.
  pub record Rest (v : List ℕ) (hits : List Hit) (ws : List ℕ) (passed inside : ℕ) : Type 0 where
    pub flips : List Hit
    pub together : Together R flips
    pub words : ws ≡ hurt R.from flips (R.encoded v)
    pub why : (flips ≡ []) ⊎ (passed ≡ 0)
    pub told : inside ≡ 0 → hits ≡ flips

  pub record Open (v : List ℕ) (hits : List Hit) (a : Part) (passed inside : ℕ) : Type 0 where
    pub above : 0 < a.count → members_of R a.words ≡ v
    pub zeroed : a.count ≡ 0 → Rest v hits a.words passed inside

  -- run by themselves, after so many steps, the frames come to these; with nobody engaged the words are then encoded
  pub record Surely (most : ℕ) (v : List ℕ) (a : Part) (done : ℕ) (frames target : List Frame) : Type 0 where
    pub steps : ℕ
    pub few : done + steps ≤ most
    pub alone : a.count ≡ 0 → solo (R.step 0) steps frames a.words ≡ goes target (R.encoded v)
    pub others : 0 < a.count → Steady R steps a.count frames target

  -- what the part is for whoever holds its lock
  abbrev pub Busy : List ℕ → Part → Position → Type 0
  Busy v a (entry (enter_runs done frames)) =
      (0 < a.count → members_of R a.words ≡ v) × Surely R.most v a done frames (R.enter_puts a.count)
  Busy v a (entry enter_unlocks) = (0 < a.count) × (members_of R a.words ≡ v)
  Busy v a (exit (leave_counts done frames)) =
      (0 < a.count) × (members_of R a.words ≡ v) × Surely R.few v a done frames (R.leave_puts a.count)
  Busy v a (exit (leave_runs done frames)) =
      (0 < a.count → members_of R a.words ≡ v) × Surely R.most v a done frames R.leave_frees
  Busy v a position = Unit {0}

  -- Of n threads, where the source's members have these values, and these are the hits since somebody was inside.
  pub record PartInv (n : ℕ) (v : List ℕ) (hits : List Hit) (a : Part) (roles : ℕ → Role) : Type 0 where
    pub clear : 0 < all_inside n roles → hits ≡ []
    pub order : InOrder n (gate_of a) (λ t. standing_of R.mending (roles t))
    pub unlocked : a.lock ≡ None → Open v hits a (all_passed n roles) (all_inside n roles)
    pub busy : (t : ℕ) → Busy v a (roles t).position
    pub fit : WordsFit R a.words
    pub values_fit : ValuesFit R v

  -- ---- a part that can't be repaired any more

  pub record Dies (a : Part) (done : ℕ) (frames : List Frame) : Type 0 where
    pub steps : ℕ
    pub few : done + steps ≤ R.most
    pub comes : solo (R.step 0) steps frames a.words ≡ dies

  abbrev pub BrokenAt : Part → Position → Type 0
  BrokenAt a outside = Unit {0}
  BrokenAt a (entry enter_waits) = Unit {0}
  BrokenAt a (entry (enter_runs done frames)) = Dies a done frames
  BrokenAt a position = ⊥

  pub record BrokenInv (n : ℕ) (a : Part) (roles : ℕ → Role) : Type 0 where
    pub none : (t : ℕ) → (roles t).held ≡ 0
    pub order : InOrder n (gate_of a) (λ t. standing_of R.mending (roles t))
    pub count : a.count ≡ 0
    pub unlocked : a.lock ≡ None → R.beyond a.words ≡ true
    pub busy : (t : ℕ) → BrokenAt a (roles t).position
    pub fit : WordsFit R a.words

  abbrev pub Condition : Bool → ℕ → List ℕ → List Hit → Part → (ℕ → Role) → Type 0
  Condition false n v hits a roles = PartInv n v hits a roles
  Condition true n v hits a roles = BrokenInv n a roles
