-- Generated names are told by their texts, which have numbers.
use Rattle.std.proofs.Common.{◌≡◌, ℕ, zero, suc, ◌+◌, ◌<◌, sym, ap, subst, ◌∙◌, arith, true, nat_eq, List, [], ◌∷◌, ◌++◌, map, reverse, codes, decimal}
use Rattle.std.specs.List.{starts_with}
use Rattle.std.specs.Option.{unwrap_or}
use Rattle.std.proofs.lemmas.Grind.{reverse_onto}
use Rattle.agxx_base.specs.Names.{is_known}
use Rattle.agxx_base.proofs.Interning.{at-number}
use Rattle.cxx_tree.specs.Limits.{Every}
use Rattle.cxx_normal.proofs.Lists.{every-append}
use Rattle.cxx_make.specs.Generated.{text_of, named, numbered}
use Rattle.entry_count.specs.Wrapping.{value_texts}
use Rattle.protect_laws.specs.Strip.{begins_generated, is_generated, is_value, AreKnown}

module _ {A : Type 0} (Holds : A → Type 0) where
  pub every-reverse : (xs : List A) → Every Holds xs → Every Holds (reverse xs)
  every-reverse [] all = tt
  every-reverse (x ∷ xs) all =
      subst (Every Holds) (sym (reverse_onto xs x [])) (every-append Holds (reverse xs) (x ∷ [])
      (every-reverse xs all.1) (all.0, tt))

  pub every-mapped : {B : Type 0} (of : B → A) (xs : List B) → Every (λ x. Holds (of x)) xs → Every Holds (map of xs)
  every-mapped of [] all = tt
  every-mapped of (x ∷ xs) all = (all.0, every-mapped of xs all.1)

  pub every-unmapped : {B : Type 0} (of : B → A) (xs : List B) → Every Holds (map of xs) → Every (λ x. Holds (of x)) xs
  every-unmapped of [] all = tt
  every-unmapped of (x ∷ xs) all = (all.0, every-unmapped of xs all.1)

pub every-by : {A : Type 0} (P Q : A → Type 0) → ((x : A) → P x → Q x) → (xs : List A) → Every P xs → Every Q xs
every-by P Q one [] all = tt
every-by P Q one (x ∷ xs) all = (one x all.0, every-by P Q one xs all.1)

module _ (names : List (List ℕ)) where
  pub named-text : (text : List ℕ) → is_known names text ≡ true → text_of names (named names text) ≡ text
  named-text text known = ap (λ x. unwrap_or x []) (at-number names text known)

  -- the name of a text that begins so
  pub generated-named : (text : List ℕ) → begins_generated text ≡ true → is_known names text ≡ true
      → is_generated names (named names text) ≡ true
  generated-named text begins known = ap begins_generated (named-text text known) ∙ begins

  -- ---- the names of values

  one-on : (i k : ℕ) → suc i + k ≡ i + suc k
  one-on i k = omega arith

  pub value-known : (i n : ℕ) → AreKnown names (value_texts i n) → (k : ℕ) → k < n
      → is_known names (codes "__gop_r_" ++ decimal (i + k)) ≡ true
  value-known i zero all k below = absurd (omega arith)
  value-known i (suc n) all zero below =
      subst (λ j. is_known names (codes "__gop_r_" ++ decimal j) ≡ true) (omega arith) all.0
  value-known i (suc n) all (suc k) below =
      subst (λ j. is_known names (codes "__gop_r_" ++ decimal j) ≡ true) (one-on i k)
      (value-known (suc i) n all.1 k (omega arith))

  pub values-told : (most : ℕ) → AreKnown names (value_texts 1 most) → (k : ℕ) → k < most
      → is_value names (numbered names (codes "__gop_r_") (suc k)) ≡ true
  values-told most all k below =
      ap (λ text. starts_with nat_eq text (codes "__gop_r_"))
      (named-text (codes "__gop_r_" ++ decimal (suc k))
      (subst (λ j. is_known names (codes "__gop_r_" ++ decimal j) ≡ true) (omega arith)
      (value-known 1 most all k below)))
