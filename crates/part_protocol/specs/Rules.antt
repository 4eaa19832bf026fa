-- What a part's words mean by its code, and what runs between its lock and unlock.
use Rattle.std.specs.Prelude.{◌≡◌, ◌<◌, ℕ, zero, suc, ◌-◌, true, false, Bool, List, [], ◌∷◌, take, get_or, slice_get, slice_set, Some}
use Rattle.agxx_base.specs.declared.kind.NumKind.{NumKind}
use Rattle.cxx_arith.specs.Kinds.{width}
use Rattle.step_machine.specs.Flips.{inverted}
use Rattle.step_machine.specs.Frame.{Frame}
use Rattle.codec_laws.specs.Values.{Fit}
use Rattle.codec_laws.specs.Solo.{SoloNext, goes}
use Rattle.fault_model.specs.Admissible.{Hit, goes_with}

pub record Rules : Type 0 where
  -- ---- what the words mean

  -- whether it may be hit once in all, and not at each bit place once
  pub single : Bool
  -- the number of its first word in the object
  pub from : ℕ
  -- how many words are the members'
  pub members : ℕ
  -- of all words, the members' first
  pub kinds : List NumKind
  pub encoded : List ℕ → List ℕ
  -- the words that repair leaves, and whether words can't be repaired
  pub repaired : List ℕ → List ℕ
  pub beyond : List ℕ → Bool
  -- ---- what runs between lock and unlock, by itself

  -- a step, by the counter, of frames over the words
  pub step : ℕ → List Frame → List ℕ → SoloNext
  -- whether frames repair or renew the words
  pub mending : List Frame → Bool
  -- behind the lock of an enter, and where it stores the counter, which was this
  pub enter_locked : List Frame
  pub enter_puts : ℕ → List Frame
  -- of a leave behind the lock, where it stores the counter, behind that, and before the unlock
  pub leave_locked : List Frame
  pub leave_puts : ℕ → List Frame
  pub leave_taken : List Frame
  pub leave_frees : List Frame
  -- how many steps these take at most: a leave up to where it stores the counter, and each of the others
  pub few : ℕ
  pub most : ℕ

-- ---- hits

-- a word of a part, the first of which has this number in its object, once a bit of it is inverted
abbrev pub hit_word : ℕ → Hit → List ℕ → List ℕ
hit_word from hit ws = slice_set ws (hit.word - from) (inverted (get_or ws (hit.word - from) 0) hit.bit)

-- words with these hits, the last first
abbrev pub hurt : ℕ → List Hit → List ℕ → List ℕ
hurt from [] ws = ws
hurt from (hit ∷ hits) ws = hit_word from hit (hurt from hits ws)

module _ (R : Rules) where
  -- a hit is on a bit of the part
  pub record IsBitOf (hit : Hit) : Type 0 where
    pub kind : NumKind
    pub word_is : slice_get R.kinds (hit.word - R.from) ≡ Some kind
    pub within : hit.bit < width kind

  -- hits of the part that go together, the last first
  abbrev pub Together : List Hit → Type 0
  Together [] = Unit {0}
  Together (hit ∷ hits) = IsBitOf hit × (goes_with R.single hits hit.bit ≡ true) × Together hits

  abbrev pub WordsFit : List ℕ → Type 0
  WordsFit ws = Fit R.kinds ws

  abbrev pub ValuesFit : List ℕ → Type 0
  ValuesFit v = Fit (take R.members R.kinds) v

  abbrev pub members_of : List ℕ → List ℕ
  members_of ws = take R.members ws

  -- Frames come to others in so many steps, each the same whatever the words are, which it leaves as they are, and none of
  -- which mends. This goes on to hold while others store: that the whole comes to the same for all words would not.
  abbrev pub Steady : ℕ → ℕ → List Frame → List Frame → Type 0
  Steady zero count frames target = frames ≡ target
  Steady (suc k) count frames target =
      (R.mending frames ≡ false) × (next : List Frame)
      × ((ws : List ℕ) → WordsFit ws → R.step count frames ws ≡ goes next ws)
      × Steady k count next target
