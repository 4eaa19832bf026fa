-- What a code and the blocks of a part have to keep, so that the protocol goes right.
use Rattle.std.specs.Prelude.{◌≡◌, ◌≤◌, ◌<◌, ◌^◌, ℕ, true, false, List}
use Rattle.codec_laws.specs.Solo.{goes, dies, strays, solo}
use Rattle.fault_model.specs.Admissible.{Hit}
use Rattle.part_protocol.specs.Rules.{Rules, hurt, Together, WordsFit, ValuesFit, members_of, Steady}

pub record BlockLaws (R : Rules) : Type 0 where
  -- ---- the code

  pub members_first : (v : List ℕ) → ValuesFit R v → members_of R (R.encoded v) ≡ v
  pub fits : (v : List ℕ) → ValuesFit R v → WordsFit R (R.encoded v)
  -- words with hits that go together can be repaired
  pub within : (v : List ℕ) (hits : List Hit) → ValuesFit R v → Together R hits
      → R.beyond (hurt R.from hits (R.encoded v)) ≡ false
  pub mended : (v : List ℕ) (hits : List Hit) → ValuesFit R v → Together R hits
      → R.repaired (hurt R.from hits (R.encoded v)) ≡ R.encoded v
  -- ---- what runs by itself where nobody is engaged

  pub enter_alone : (ws : List ℕ) → WordsFit R ws → R.beyond ws ≡ false → WordsFit R (R.repaired ws)
      → (k : ℕ) × (k ≤ R.most) × (solo (R.step 0) k R.enter_locked ws ≡ goes (R.enter_puts 0) (R.repaired ws))
  pub enter_dies : (ws : List ℕ) → WordsFit R ws → R.beyond ws ≡ true
      → (k : ℕ) × (k ≤ R.most) × (solo (R.step 0) k R.enter_locked ws ≡ dies)
  pub renew_alone : (ws : List ℕ) → WordsFit R ws
      → (k : ℕ) × (k ≤ R.most) × (solo (R.step 0) k R.leave_taken ws ≡ goes R.leave_frees (R.encoded (members_of R ws)))
  -- ---- and where somebody is

  pub enter_others : (n : ℕ) → 0 < n → n < 2 ^ 32 → (k : ℕ) × (k ≤ R.most) × Steady R k n R.enter_locked (R.enter_puts n)
  pub leave_others : (n : ℕ) → 0 < n → n < 2 ^ 32 → (k : ℕ) × (k ≤ R.few) × Steady R k n R.leave_locked (R.leave_puts n)
  pub renew_others : (n : ℕ) → 0 < n → n < 2 ^ 32 → (k : ℕ) × (k ≤ R.most) × Steady R k n R.leave_taken R.leave_frees
  -- ---- nothing of this kind goes on from where the counter is stored, or the lock released

  pub enter_stuck : (n : ℕ) (ws : List ℕ) → WordsFit R ws → R.step n (R.enter_puts n) ws ≡ strays
  pub leave_stuck : (n : ℕ) (ws : List ℕ) → WordsFit R ws → R.step n (R.leave_puts n) ws ≡ strays
  pub free_stuck : (n : ℕ) (ws : List ℕ) → WordsFit R ws → R.step n R.leave_frees ws ≡ strays
  -- ---- and there nothing is mended, nor at first

  pub enter_idle : R.mending R.enter_locked ≡ false
  pub puts_idle : (n : ℕ) → R.mending (R.enter_puts n) ≡ false
  pub taken_idle : R.mending R.leave_taken ≡ false
  pub free_idle : R.mending R.leave_frees ≡ false
