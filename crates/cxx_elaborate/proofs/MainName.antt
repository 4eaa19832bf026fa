-- The number of a text is the first place where it stands.
use Rattle.std.proofs.Common.{◌≡◌, ℕ, ◌+◌, ◌<◌, ap, ◌∙◌, sym, arith, true, false, List, [], get_or, length}
use Rattle.std.specs.Prelude.{Some, slice_get}
use Rattle.std.specs.Str.{bytes_eq}
use Rattle.std.proofs.lemmas.Option.{slice_get_within, get_or_from_slice_get}
use Rattle.std.proofs.lemmas.List.Sums.{position_or_len_is}
use Rattle.agxx_base.specs.Names.{number_of}
use borrow.Author.Count.{below_more}

module _ (names : List (List ℕ)) (text : List ℕ) where
  -- it does not stand before this place
  abbrev pub IsAfter : ℕ → Type 0
  IsAfter i = (k : ℕ) → k < i → bytes_eq text (get_or names k []) ≡ false

  tested : (i : ℕ) (x : List ℕ) → slice_get names i ≡ Some x → bytes_eq text (get_or names i []) ≡ bytes_eq text x
  tested i x there = ap (bytes_eq text) (get_or_from_slice_get names i x [] there)

  pub number-here : (i : ℕ) (x : List ℕ) → IsAfter i → slice_get names i ≡ Some x → bytes_eq text x ≡ true → i ≡ number_of names text
  number-here i x after there same =
      let inside : i < length names = slice_get_within names i x there in
      sym (position_or_len_is (bytes_eq text) names i [] (omega arith) after (λ _. tested i x there ∙ same))

  pub number-later : (i : ℕ) (x : List ℕ) → IsAfter i → slice_get names i ≡ Some x → bytes_eq text x ≡ false → IsAfter (i + 1)
  number-later i x after there other = below_more (λ k. bytes_eq text (get_or names k []) ≡ false) i after (tested i x there ∙ other)

  pub number-none : (i n : ℕ) → IsAfter i → i ≡ length names → n ≡ length names → n ≡ number_of names text
  number-none i n after end same =
      same ∙ (sym end ∙ sym (position_or_len_is (bytes_eq text) names i [] (omega arith) after (λ inside. absurd (omega arith))))
