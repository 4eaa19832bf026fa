-- What runs between lock and unlock goes on to where it will come.
use Rattle.std.proofs.Common.{◌≡◌, ℕ, zero, suc, ◌<◌, ◌⊎◌, inl, inr, List, refl, sym, ap, subst, ◌∙◌, arith}
use Rattle.std.specs.Prelude.{Bool, true, false}
use Rattle.step_machine.specs.Frame.{Frame}
use Rattle.codec_laws.specs.Solo.{SoloNext, goes, dies, strays, solo, solo_on}
use Rattle.part_protocol.specs.Part.{Part}
use Rattle.part_protocol.specs.Rules.{Rules, WordsFit, Steady}
use Rattle.part_protocol.specs.Invariant.{Surely, Dies}
use Rattle.part_protocol.specs.Laws.{GoesOn}

frames-of : List Frame → SoloNext → List Frame
frames-of other (goes fs ws) = fs
frames-of other next = other

words-of : List ℕ → SoloNext → List ℕ
words-of other (goes fs ws) = ws
words-of other next = other

is-going : SoloNext → Bool
is-going (goes fs ws) = true
is-going next = false

is-dead : SoloNext → Bool
is-dead dies = true
is-dead next = false

pub same-frames : (fs gs : List Frame) (ws us : List ℕ) → goes fs ws ≡ goes gs us → fs ≡ gs
unfolding frames-of
same-frames fs gs ws us e = ap (frames-of fs) e

pub same-words : (fs gs : List Frame) (ws us : List ℕ) → goes fs ws ≡ goes gs us → ws ≡ us
unfolding words-of
same-words fs gs ws us e = ap (words-of ws) e

pub goes-not-strays : (fs : List Frame) (ws : List ℕ) → goes fs ws ≡ strays → ⊥
unfolding is-going
goes-not-strays fs ws e = (let b : true ≡ false = ap is-going e in cc)

goes-not-dies : (fs : List Frame) (ws : List ℕ) → goes fs ws ≡ dies → ⊥
unfolding is-going
goes-not-dies fs ws e = (let b : true ≡ false = ap is-going e in cc)

strays-not-dies : strays ≡ dies → ⊥
unfolding is-dead
strays-not-dies e = (let b : false ≡ true = ap is-dead e in cc)

-- a step on, with these words
pub record Nearer (R : Rules) (most : ℕ) (v : List ℕ) (a : Part) (d : ℕ) (target next : List Frame) (ws : List ℕ) : Type 0 where
  pub surely : Surely R most v (record a { words = ws }) (suc d) next target
  pub unchanged : 0 < a.count → ws ≡ a.words
  pub idle : R.mending target ≡ false → 0 < a.count → R.mending next ≡ false

module _ (R : Rules) (most : ℕ) (v : List ℕ) (a : Part) (d : ℕ) (fs target : List Frame) (fit : WordsFit R a.words)
    (sure : Surely R most v a d fs target) (stuck : R.step a.count target a.words ≡ strays) where
  -- where no step is left, the frames are there
  there : (n : ℕ) → n ≡ a.count → sure.steps ≡ 0 → fs ≡ target
  there zero c k = same-frames fs target a.words (R.encoded v) (subst (λ j. solo (R.step 0) j fs a.words ≡ goes target (R.encoded v)) k (sure.alone (sym c)))
  there (suc n) c k = subst (λ j. Steady R j a.count fs target) k (sure.others (subst (λ m. 0 < m) c (omega arith)))

  steady-by : (k : ℕ) → sure.steps ≡ k → 0 < a.count → Steady R k a.count fs target
  steady-by k e h = subst (λ j. Steady R j a.count fs target) e (sure.others h)

  alone-by : (k : ℕ) → sure.steps ≡ k → a.count ≡ 0 → solo (R.step 0) k fs a.words ≡ goes target (R.encoded v)
  alone-by k e z = subst (λ j. solo (R.step 0) j fs a.words ≡ goes target (R.encoded v)) e (sure.alone z)

  module _ (next : List Frame) (ws : List ℕ) (step : R.step a.count fs a.words ≡ goes next ws) where
    not-there : fs ≡ target → ⊥
    not-there e = goes-not-strays next ws (sym step ∙ ap (λ q. R.step a.count q a.words) e ∙ stuck)

    first-idle : (j : ℕ) (gs : List Frame) → Steady R j a.count gs target → R.mending target ≡ false → R.mending gs ≡ false
    first-idle zero gs st i = ap R.mending st ∙ i
    first-idle (suc j) gs st i = st.0

    by-steps : (k : ℕ) → sure.steps ≡ k → Nearer R most v a d target next ws
    by-steps zero e = absurd (not-there (there a.count refl e))
    by-steps (suc j) e = record {
      surely = record {
        steps = j;
        few = (let few = sure.few in omega arith);
        alone = λ z. sym (ap (solo_on (solo (R.step 0) j)) (subst (λ m. R.step m fs a.words ≡ goes next ws) z step)) ∙ alone-by (suc j) e z;
        others = λ h. (let st = steady-by (suc j) e h in subst (λ q. Steady R j a.count q target) (goes-to st h) st.3);
      };
      unchanged = λ h. (let st = steady-by (suc j) e h in same-words next st.1 ws a.words (sym step ∙ st.2 a.words fit));
      idle = λ i h. (let st = steady-by (suc j) e h in first-idle j next (subst (λ q. Steady R j a.count q target) (goes-to st h) st.3) i);
    }
      where
        goes-to : (st : Steady R (suc j) a.count fs target) → 0 < a.count → st.1 ≡ next
        goes-to st h = same-frames st.1 next a.words ws (sym (st.2 a.words fit) ∙ step)

    pub nearer : Nearer R most v a d target next ws
    nearer = by-steps sure.steps refl

  -- frames that are there have nothing left to do
  arrived-by : fs ≡ target → a.count ≡ 0 → (k : ℕ) → sure.steps ≡ k → a.words ≡ R.encoded v
  arrived-by e z zero k = same-words fs target a.words (R.encoded v) (alone-by zero k z)
  arrived-by e z (suc j) k = absurd (goes-not-strays target (R.encoded v)
      (sym (alone-by (suc j) k z) ∙ ap (solo_on (solo (R.step 0) j)) (ap (λ q. R.step 0 q a.words) e ∙ subst (λ m. R.step m target a.words ≡ strays) z stuck)))

  pub arrived : fs ≡ target → a.count ≡ 0 → a.words ≡ R.encoded v
  arrived e z = arrived-by e z sure.steps refl

  on-by : (j : ℕ) → sure.steps ≡ suc j → (n : ℕ) → n ≡ a.count → GoesOn R most d a.count fs a.words
  on-by j e (suc n) c = (let st = steady-by (suc j) e (subst (λ m. 0 < m) c (omega arith)) in record {
    few = (let few = sure.few in omega arith);
    next = st.1;
    words = a.words;
    step = st.2 a.words fit;
  })
  on-by j e zero c = by-next (R.step a.count fs a.words) refl
    where
      by-next : (x : SoloNext) → R.step a.count fs a.words ≡ x → GoesOn R most d a.count fs a.words
      by-next (goes next ws) h = record { few = (let few = sure.few in omega arith); next = next; words = ws; step = h }
      by-next dies h = absurd (goes-not-dies target (R.encoded v) (sym (alone-by (suc j) e (sym c)) ∙ ap (solo_on (solo (R.step 0) j)) (subst (λ m. R.step m fs a.words ≡ dies) (sym c) h)))
      by-next strays h = absurd (goes-not-strays target (R.encoded v) (sym (alone-by (suc j) e (sym c)) ∙ ap (solo_on (solo (R.step 0) j)) (subst (λ m. R.step m fs a.words ≡ strays) (sym c) h)))

  pub goes-on : (fs ≡ target) ⊎ GoesOn R most d a.count fs a.words
  goes-on = by-left sure.steps refl
    where
      by-left : (k : ℕ) → sure.steps ≡ k → (fs ≡ target) ⊎ GoesOn R most d a.count fs a.words
      by-left zero e = inl (there a.count refl e)
      by-left (suc j) e = inr (on-by j e a.count refl)

-- ---- frames that halt

module _ (R : Rules) (a : Part) (d : ℕ) (fs : List Frame) (zeroed : a.count ≡ 0) (will : Dies R a d fs) where
  left-by : (k : ℕ) → will.steps ≡ k → solo (R.step 0) k fs a.words ≡ dies
  left-by k e = subst (λ j. solo (R.step 0) j fs a.words ≡ dies) e will.comes

  pub halts-or-goes : (R.step a.count fs a.words ≡ dies) ⊎ GoesOn R R.most d a.count fs a.words
  halts-or-goes = by-left will.steps refl
    where
      by-next : (j : ℕ) → will.steps ≡ suc j → (x : SoloNext) → R.step a.count fs a.words ≡ x → (R.step a.count fs a.words ≡ dies) ⊎ GoesOn R R.most d a.count fs a.words
      by-next j e (goes next ws) h = inr (record { few = (let few = will.few in omega arith); next = next; words = ws; step = h })
      by-next j e dies h = inl h
      by-next j e strays h = absurd (strays-not-dies (ap (solo_on (solo (R.step 0) j)) (sym (subst (λ m. R.step m fs a.words ≡ strays) zeroed h)) ∙ left-by (suc j) e))

      by-left : (k : ℕ) → will.steps ≡ k → (R.step a.count fs a.words ≡ dies) ⊎ GoesOn R R.most d a.count fs a.words
      by-left zero e = absurd (goes-not-dies fs a.words (left-by zero e))
      by-left (suc j) e = by-next j e (R.step a.count fs a.words) refl

  pub halts-later : (next : List Frame) (ws : List ℕ) → R.step a.count fs a.words ≡ goes next ws → Dies R (record a { words = ws }) (suc d) next
  halts-later next ws h = by-left will.steps refl
    where
      by-left : (k : ℕ) → will.steps ≡ k → Dies R (record a { words = ws }) (suc d) next
      by-left zero e = absurd (goes-not-dies fs a.words (left-by zero e))
      by-left (suc j) e = record {
        steps = j;
        few = (let few = will.few in omega arith);
        comes = sym (ap (solo_on (solo (R.step 0) j)) (subst (λ m. R.step m fs a.words ≡ goes next ws) zeroed h)) ∙ left-by (suc j) e;
      }

  -- they never come to where nothing goes on
  pub never-there : R.step a.count fs a.words ≡ strays → ⊥
  never-there h = by-left will.steps refl
    where
      by-left : (k : ℕ) → will.steps ≡ k → ⊥
      by-left zero e = goes-not-dies fs a.words (left-by zero e)
      by-left (suc j) e = strays-not-dies (ap (solo_on (solo (R.step 0) j)) (sym (subst (λ m. R.step m fs a.words ≡ strays) zeroed h)) ∙ left-by (suc j) e)
