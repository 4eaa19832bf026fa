-- Generated names are told by their texts, and are none of a program's own.
use Rattle.std.proofs.Common.{◌≡◌, ◌≢◌, refl, sym, ap, ◌∙◌, ℕ, suc, ◌+◌, ◌<◌, ◌^◌, arith, subst, true, false, true≢false, List, ◌++◌, get_or, drop, slice_get, codes, decimal}
use Rattle.std.proofs.lemmas.Fmt.{decimal_injective}
use Rattle.agxx_base.specs.Names.{is_known}
use Rattle.cxx_make.specs.Generated.{text_of, named, numbered}
use Rattle.entry_count.specs.Wrapping.{value_texts}
use Rattle.protect_laws.proofs.Known.{named-text, generated-named, value-known}
use Rattle.protect_laws.specs.Strip.{begins_generated, is_generated, AreKnown}

-- texts differ where they have other bytes at some place
pub other : (i : ℕ) (a b : List ℕ) → get_or a i 0 ≢ get_or b i 0 → a ≢ b
other i a b h e = h (ap (λ l. get_or l i 0) e)

-- a name of a program, where `names` has its texts and those that are generated, and `before` its own
abbrev pub IsOwn : List (List ℕ) → List (List ℕ) → ℕ → Type 0
IsOwn before names k = (is_generated names (record { 0 = k }) ≡ false) × (slice_get names k ≡ slice_get before k)

module _ (names : List (List ℕ)) where
  -- a name of a program isn't generated
  pub named-foreign : (before : List (List ℕ)) (text : List ℕ) → begins_generated text ≡ true
      → is_known names text ≡ true → (j : ℕ) → IsOwn before names j → j ≢ (named names text).0
  named-foreign before text begins known j own e =
      true≢false (sym (generated-named names text begins known)
      ∙ (ap (λ k. is_generated names (record { 0 = k })) (sym e) ∙ own.0))

  -- other texts are those of other names
  pub named-differ : (text more : List ℕ) → is_known names text ≡ true → is_known names more ≡ true → text ≢ more
      → (named names text).0 ≢ (named names more).0
  named-differ text more known also differ e =
      differ (sym (named-text names text known) ∙ (ap (λ k. text_of names (record { 0 = k })) e ∙ named-text names more also))

  -- ---- the locals for returned values

  module _ (most : ℕ) (known : AreKnown names (value_texts 1 most)) where
    pub value-text-known : (i : ℕ) → i < most → is_known names (codes "__gop_r_" ++ decimal (suc i)) ≡ true
    value-text-known i below =
        subst (λ j. is_known names (codes "__gop_r_" ++ decimal j) ≡ true) (omega arith)
        (value-known names 1 most known i below)

    pub value-foreign : (before : List (List ℕ)) (i j : ℕ) → i < most → IsOwn before names j
        → (numbered names (codes "__gop_r_") (suc i)).0 ≢ j
    value-foreign before i j below own e =
        named-foreign before (codes "__gop_r_" ++ decimal (suc i)) refl (value-text-known i below) j own (sym e)

    pub value-differ : most < 2 ^ 32 → (i j : ℕ) → i < most → j < most → i ≢ j
        → (numbered names (codes "__gop_r_") (suc i)).0 ≢ (numbered names (codes "__gop_r_") (suc j)).0
    value-differ few i j below also differ =
        named-differ (codes "__gop_r_" ++ decimal (suc i)) (codes "__gop_r_" ++ decimal (suc j))
        (value-text-known i below) (value-text-known j also)
        (λ e. let same : suc i ≡ suc j = decimal_injective (suc i) (suc j) (omega arith) (omega arith) (ap (drop 8) e)
        in differ (omega arith))
