-- Flips while nobody is inside a part.
use Rattle.std.proofs.Common.{◌≡◌, ℕ, zero, suc, ◌<◌, inr, List, [], ◌∷◌, Option, Some, None, refl, sym, ap, subst, ◌∙◌, arith}
use Rattle.std.specs.Prelude.{true, ◌^◌, ◌-◌, bit_xor, get_or, slice_get, slice_set}
use Rattle.std.proofs.Math.Pow.{pow-lt}
use Rattle.std.proofs.lemmas.Nat.{xor_lt}
use Rattle.std.proofs.lemmas.Option.{same_Some}
use Rattle.agxx_base.specs.declared.kind.NumKind.{NumKind}
use Rattle.cxx_arith.specs.Kinds.{width}
use Rattle.step_machine.proofs.Same.{same-self}
use Rattle.codec_laws.specs.Values.{Fit}
use Rattle.fault_model.specs.Admissible.{Hit, goes_with}
use Rattle.part_protocol.specs.Gate.{holds, owed, engaged, is_held_by}
use Rattle.part_protocol.specs.Part.{Part, Role, phase_of, standing_of}
use Rattle.part_protocol.specs.Rules.{Rules, hit_word, hurt, IsBitOf, WordsFit, ValuesFit}
use Rattle.part_protocol.specs.Invariant.{all_passed, all_inside, Rest, Busy, PartInv, BrokenAt, BrokenInv}
use Rattle.part_protocol.specs.Laws.{NobodyInside, AtRest}
use Rattle.part_protocol.proofs.Sums.{total-zero}

-- a bit below the width of its word is inverted
pub hit-fits : (kinds : List NumKind) (ws : List ℕ) (i bit : ℕ) (kind : NumKind) → Fit kinds ws → slice_get kinds i ≡ Some kind → bit < width kind
    → Fit kinds (slice_set ws i (bit_xor (get_or ws i 0) (2 ^ bit)))
hit-fits [] [] i bit kind fit e h = fit
hit-fits [] (w ∷ ws) i bit kind fit e h = absurd fit
hit-fits (k ∷ kinds) [] i bit kind fit e h = absurd fit
hit-fits (k ∷ kinds) (w ∷ ws) zero bit kind fit e h =
    let same : k ≡ kind = same_Some k kind e in
    (xor_lt (width k) w (2 ^ bit) fit.0 (pow-lt {i = bit} {j = width k} (subst (λ q. bit < width q) (sym same) h)), fit.1)
hit-fits (k ∷ kinds) (w ∷ ws) (suc i) bit kind fit e h = (fit.0, hit-fits kinds ws i bit kind fit.1 e h)

module _ (R : Rules) (n : ℕ) (v : List ℕ) (hits : List Hit) (a : Part) (roles : ℕ → Role) (nobody : NobodyInside n roles) (inv : PartInv R n v hits a roles) where
  free-lock : a.lock ≡ None
  free-lock = by-holder a.lock inv.order.holder
    where
      by-holder : (o : Option ℕ) → ((t : ℕ) → holds (phase_of R.mending (roles t).position) ≡ is_held_by o t) → o ≡ None
      by-holder None h = refl
      by-holder (Some t) h = absurd (let e = sym (ap (λ x. holds (phase_of R.mending x)) (nobody.each t).position) ∙ h t ∙ same-self t in cc)

  none-engaged : (t : ℕ) → engaged (standing_of R.mending (roles t)) ≡ 0
  none-engaged t = let e = ap (λ x. owed (phase_of R.mending x)) (nobody.each t).position in let h = (nobody.each t).held in omega arith

  no-count : a.count ≡ 0
  no-count = inv.order.counted ∙ total-zero (λ t. engaged (standing_of R.mending (roles t))) n none-engaged

  rest : Rest R v hits a.words (all_passed n roles) (all_inside n roles)
  rest = (inv.unlocked free-lock).zeroed no-count

  pub at-rest : AtRest R v hits a
  at-rest = record {
    words = rest.words ∙ ap (λ h. hurt R.from h (R.encoded v)) (sym (rest.told nobody.none));
    together = subst (Rattle.part_protocol.specs.Rules.Together R) (sym (rest.told nobody.none)) rest.together;
    count = no-count;
    lock = free-lock;
  }

  module _ (hit : Hit) (bit : IsBitOf R hit) where
    abbrev hurt-part : Part
    hurt-part = record a { words = hit_word R.from hit a.words }

    fits-on : WordsFit R hurt-part.words
    fits-on = hit-fits R.kinds a.words (hit.word - R.from) hit.bit bit.kind inv.fit bit.word_is bit.within

    pub flip-keeps : goes_with R.single hits hit.bit ≡ true → PartInv R n v (hit ∷ hits) hurt-part roles
    flip-keeps goes = record {
      clear = λ h. absurd (let z = nobody.none in omega arith);
      order = inv.order;
      unlocked = λ f. record {
        above = λ h. absurd (let z = no-count in omega arith);
        zeroed = λ z. record {
          flips = hit ∷ rest.flips;
          together = (bit, ap (λ h. goes_with R.single h hit.bit) (sym (rest.told nobody.none)) ∙ goes, rest.together);
          words = ap (hit_word R.from hit) rest.words;
          why = inr (total-zero (λ t. (roles t).passed) n (λ t. (nobody.each t).passed));
          told = λ y. ap (λ h. hit ∷ h) (rest.told nobody.none);
        };
      };
      busy = λ t. subst (Busy R v hurt-part) (sym (nobody.each t).position) tt;
      fit = fits-on;
      values_fit = inv.values_fit;
    }

    pub flip-breaks : R.beyond hurt-part.words ≡ true → BrokenInv R n hurt-part roles
    flip-breaks beyond = record {
      none = λ t. (nobody.each t).held;
      order = inv.order;
      count = no-count;
      unlocked = λ f. beyond;
      busy = λ t. subst (BrokenAt R hurt-part) (sym (nobody.each t).position) tt;
      fit = fits-on;
    }

-- at rest a part is as it should be
module _ (R : Rules) (n : ℕ) (v : List ℕ) (hits : List Hit) (a : Part) (roles : ℕ → Role) (nobody : NobodyInside n roles) (fit : WordsFit R a.words)
    (values : ValuesFit R v) (rest : AtRest R v hits a) where
  owes-none : (t : ℕ) → engaged (standing_of R.mending (roles t)) ≡ 0
  owes-none t = let e = ap (λ x. owed (phase_of R.mending x)) (nobody.each t).position in let h = (nobody.each t).held in omega arith

  pub rest-is-kept : PartInv R n v hits a roles
  rest-is-kept = record {
    clear = λ h. absurd (let z = nobody.none in omega arith);
    order = record {
      counted = rest.count ∙ sym (total-zero (λ t. engaged (standing_of R.mending (roles t))) n owes-none);
      holder = λ t. ap (λ x. holds (phase_of R.mending x)) (nobody.each t).position ∙ ap (λ o. is_held_by o t) (sym rest.lock);
      alone = λ t m. rest.count;
    };
    unlocked = λ f. record {
      above = λ h. absurd (let z = rest.count in omega arith);
      zeroed = λ z. record {
        flips = hits;
        together = rest.together;
        words = rest.words;
        why = inr (total-zero (λ t. (roles t).passed) n (λ t. (nobody.each t).passed));
        told = λ y. refl;
      };
    };
    busy = λ t. subst (Busy R v a) (sym (nobody.each t).position) tt;
    fit = fit;
    values_fit = values;
  }
