-- What was read of a file, as far as it is told, and where files stand in a list.
use Rattle.std.proofs.Common.{◌≡◌, ℕ, ◌+◌, ◌-◌, ◌<◌, min, Bool, List, [], ◌++◌, length, take, drop, get_or, Option, None, Some, Ok, option_map, slice_get, position, find, nat_lt, cond, IfSome, MatchOption, length-append, refl, sym, ap, subst, ◌∙◌, inl, inr, arith}
use Rattle.std.specs.List.{position_or_len}
use Rattle.std.proofs.lemmas.List.{drop-drop, drop_min, take-append-drop, nil_from_length, length-take}
use Rattle.std.proofs.lemmas.List.Folds.{find_at}
use Rattle.std.proofs.lemmas.Bool.{lt-ltb, le-ltb}
use Rattle.std.proofs.lemmas.Option.{slice_get_cases, slice_get_read, get_or_from_slice_get}
use Rattle.std.specs.Str.{bytes_eq}
use Rattle.agxx_base.proofs.Pieces.{behind}
use Rattle.agxx_base.specs.Cursor.{bytes_at}
use Rattle.agxx_base.specs.Files.{Listing, Reads, file_named}
use Rattle.agxx_base.specs.Pieces.{bytes_of}
use Rattle.agxx_base.specs.declared.piece.Piece.{Piece}

-- bytes, a piece and a rest are more than a limit where the bytes and the piece are
pub larger : {L : Type 0} (P : L → Type 0) (listed : Option L) (whole had left rest piece : List ℕ) (limit : ℕ) → IfSome listed (λ _. whole ≡ had ++ left) → IfSome listed (λ files. (left ≡ piece ++ rest) × P files) → limit < length had + length piece → IfSome listed (λ _. limit < length whole)
larger P None whole had left rest piece limit told next more = tt
larger P (Some files) whole had left rest piece limit told next more =
    omega (arith, ap length told, ap length next.0, length-append had left, length-append piece rest)

-- the bytes of a file that was lent
pub shown-at : (files : Listing) (place : ℕ) (file : List ℕ × List ℕ) → place < length files → file ≡ get_or files place file → file.1 ≡ bytes_at files place
shown-at files place file inside is =
    ap (λ f. f.1) (sym (get_or_from_slice_get files place file ([], []) (slice_get_read files (length files) place file refl inside is)))

-- reading on behind `read` bytes
pub read-on : (read n : ℕ) (bytes shown : List ℕ) → shown ≡ bytes → n ≡ min 4096 (length (take (length shown - read) (drop read shown))) → drop (read + n) bytes ≡ drop 4096 (drop read bytes)
read-on read n bytes shown same is =
    sym (drop-drop n read bytes) ∙ ap (λ k. drop k (drop read bytes)) (is ∙ ap (λ rest. min 4096 (length rest)) (behind read shown ∙ ap (drop read) same)) ∙ drop_min 4096 (drop read bytes)

-- a piece that has the next bytes, or all that are left, is what a read answers where the list is told
pub reads-told : (files : Listing) (left old after : List ℕ) (piece : Piece) → old ≡ left → bytes_of piece ≡ take 4096 old → piece.len ≡ min 4096 (length old) → after ≡ drop 4096 old → Reads (Some files) left after piece (Ok piece.len)
reads-told files left old after piece same bytes len rest = record {
  count = (omega (arith, len), refl, ap length bytes ∙ length-take 4096 old ∙ sym len);
  next = (sym same ∙ sym (take-append-drop 4096 old) ∙ ap (λ xs. xs ++ drop 4096 old) (sym bytes) ∙ ap (λ xs. bytes_of piece ++ xs) (sym rest), (λ none. nil_from_length left (omega (arith, none, len, ap length same)), λ none. len ∙ omega (arith, ap length same, ap length none)));
  failed = tt;
}

module _ (test : List ℕ × List ℕ → Bool) (files : Listing) where
  found : (n : ℕ) → MatchOption (cond (nat_lt n (length files)) (Some n) None) (option_map (λ file. file.1) (slice_get files n) ≡ None) (λ place. (place < length files) × (option_map (λ file. file.1) (slice_get files n) ≡ Some (bytes_at files place)))
  found n = elim (slice_get_cases files n).1 [
    | inl w ↦ rw (lt-ltb n (length files) w.1, w.2) (w.1, ap (λ file. Some file.1) (sym (get_or_from_slice_get files n w.0 ([], []) w.2)))
    | inr w ↦ rw (le-ltb n (length files) w.0, w.1) refl
  ]

  -- the place of the first file that passes a test, and the bytes of this file
  pub placed : MatchOption (position test files) (option_map (λ file. file.1) (find test files) ≡ None) (λ place. (place < length files) × (option_map (λ file. file.1) (find test files) ≡ Some (bytes_at files place)))
  placed = rw (find_at test files) (found (position_or_len test files))

-- so for a cursor at its start
module _ (name : List ℕ) (files : Listing) where
  abbrev test : List ℕ × List ℕ → Bool
  test file = bytes_eq name file.0

  pub start-some : (place : ℕ) → Some place ≡ position test files → (place < length files) × (file_named name files ≡ Some (bytes_at files place))
  start-some place is = subst (λ o. MatchOption o (file_named name files ≡ None) (λ place. (place < length files) × (file_named name files ≡ Some (bytes_at files place)))) (sym is) (placed test files)

  pub start-none : None ≡ position test files → file_named name files ≡ None
  start-none is = subst (λ o. MatchOption o (file_named name files ≡ None) (λ place. (place < length files) × (file_named name files ≡ Some (bytes_at files place)))) (sym is) (placed test files)
