-- The names of a text have their numbers already.
use Rattle.std.proofs.Common.{◌≡◌, ℕ, zero, suc, ◌<◌, Bool, true, false, ◌||◌, List, [], ◌∷◌, length, Some, slice_get, codes, refl, sym, ap, ◌∙◌, arith}
use Rattle.std.specs.Str.{bytes_eq}
use Rattle.std.specs.Prelude.{slice_index_or}
use Rattle.std.proofs.lemmas.Slice.Eq.{bytes_eq-Decides}
use Rattle.agxx_base.specs.declared.kind.Mode.{Mode}
use Rattle.agxx_base.specs.declared.place.Place.{Place}
use Rattle.agxx_base.specs.declared.vocabulary.SpecialName.{SpecialName}
use Rattle.agxx_base.specs.declared.vocabulary.SpecialName.TheVariants as special_name
use Rattle.agxx_base.specs.Names.{IsDistinct, number_of, is_known, interned}
use Rattle.agxx_base.specs.Vocabulary.{special_text}
use Rattle.agxx_base.proofs.Interning.{interned-known, text-interned, interned-keeps}
use Rattle.cxx_lex.specs.Place.{place_after}
use Rattle.cxx_lex.proofs.StringCut.{reads_quoted}
use Rattle.cxx_tree.specs.Limits.{Every}
use Rattle.cxx_tree.specs.Words as w
use Rattle.cxx_tree.specs.Words.{Word}
use Rattle.cxx_expr.specs.Tokens as grammar
use Rattle.cxx_stmt.specs.Dialect.{special_of}
use Rattle.cxx_parse.specs.Numbering.{with_name, with_names, with_special, dialect_in, word_in, words_in}
use Rattle.cxx_print.specs.Document.{Part, word, special, blank, margin, newline}
use Rattle.cxx_print.specs.Texts.{quoted, word_text}
use Rattle.cxx_written.specs.Written.{IsWrittenWord}
use Rattle.print_laws.specs.Spelled.{words_of}
use Rattle.print_laws.proofs.Shapes.{is_in_programs, AreApart}
use Rattle.print_laws.proofs.LexingParts.{name-text-is, kind_of, IsWrittenPart, tokens_of}
use Rattle.print_laws.proofs.LexingStrings.{quoted-string}

-- ---- numbers and texts

same-text : (text name : List ℕ) → name ≡ text → bytes_eq text name ≡ true
same-text text name same = (bytes_eq-Decides text name).1 (sym same)

-- what stands at a place
at-place : (names : List (List ℕ)) (id : ℕ) (text default : List ℕ) → slice_get names id ≡ Some text → (id < length names) × (slice_index_or names id default ≡ text)
at-place [] id text default at = absurd (cc at)
at-place (name ∷ names) zero text default at = (omega arith, cc)
at-place (name ∷ names) (suc id) text default at = let p = at-place names id text default at in (omega (arith, p.0), p.1)

known-at : (names : List (List ℕ)) (id : ℕ) (text : List ℕ) → slice_get names id ≡ Some text → is_known names text ≡ true
known-at [] id text at = absurd (cc at)
known-at (name ∷ names) zero text at = let same : name ≡ text = cc in rw (same-text text name same) refl
known-at (name ∷ names) (suc id) text at = ap (λ z. bytes_eq text name || z) (known-at names id text at) ∙ or-true (bytes_eq text name)
  where
    or-true : (x : Bool) → (x || true) ≡ true
    or-true true = refl
    or-true false = refl

-- a text that stands in one place has that number
number-at : (names : List (List ℕ)) (id : ℕ) (text : List ℕ) → IsDistinct names → slice_get names id ≡ Some text → number_of names text ≡ id
number-at [] id text distinct at = absurd (cc at)
number-at (name ∷ names) zero text distinct at = let same : name ≡ text = cc in rw (same-text text name same) refl
number-at (name ∷ names) (suc id) text distinct at = by (bytes_eq text name) refl (number-at names id text (λ i j d l m. distinct (suc i) (suc j) d (omega (arith, l)) (omega (arith, m))) at)
  where
    by : (same : Bool) → bytes_eq text name ≡ same → number_of names text ≡ id → number_of (name ∷ names) text ≡ suc id
    by true e rest =
        let p = at-place names id text [] at in
        absurd (distinct 0 (suc id) [] (omega arith) (omega (arith, p.0)) (sym ((bytes_eq-Decides text name).0 e) ∙ sym p.1))
    by false e rest = rw e (omega (arith, rest))

-- ---- names with a meaning

special-known : (names : List (List ℕ)) (given : SpecialName) → is_in_programs given ≡ true → is_known (with_special names) (special_text given) ≡ true
special-known names given e =
    let n1 : List (List ℕ) = interned names (codes "std") in
    let n2 : List (List ℕ) = interned n1 (codes "mutex") in
    let n3 : List (List ℕ) = interned n2 (codes "thread") in
    let n4 : List (List ℕ) = interned n3 (codes "cout") in
    let n5 : List (List ℕ) = interned n4 (codes "endl") in
    let n6 : List (List ℕ) = interned n5 (codes "abort") in
    let last : (text : List ℕ) (id : ℕ) → slice_get n5 id ≡ Some text → is_known n6 text ≡ true = λ text id at. known-at n6 id text (interned-keeps n5 (codes "abort") text id at) in
    let fourth : (text : List ℕ) (id : ℕ) → slice_get n4 id ≡ Some text → is_known n6 text ≡ true = λ text id at. last text id (interned-keeps n4 (codes "endl") text id at) in
    let third : (text : List ℕ) (id : ℕ) → slice_get n3 id ≡ Some text → is_known n6 text ≡ true = λ text id at. fourth text id (interned-keeps n3 (codes "cout") text id at) in
    let second : (text : List ℕ) (id : ℕ) → slice_get n2 id ≡ Some text → is_known n6 text ≡ true = λ text id at. third text id (interned-keeps n2 (codes "thread") text id at) in
    let first : (text : List ℕ) (id : ℕ) → slice_get n1 id ≡ Some text → is_known n6 text ≡ true = λ text id at. second text id (interned-keeps n1 (codes "mutex") text id at) in
    by given e (first (codes "std") _ (text-interned names (codes "std"))) (second (codes "mutex") _ (text-interned n1 (codes "mutex"))) (third (codes "thread") _ (text-interned n2 (codes "thread")))
    (fourth (codes "cout") _ (text-interned n3 (codes "cout"))) (last (codes "endl") _ (text-interned n4 (codes "endl"))) (known-at n6 _ (codes "abort") (text-interned n5 (codes "abort")))
  where
    Known : List ℕ → Type 0
    Known text = is_known (with_special names) text ≡ true

    by : (given : SpecialName) → is_in_programs given ≡ true → Known (codes "std") → Known (codes "mutex") → Known (codes "thread") → Known (codes "cout") → Known (codes "endl") → Known (codes "abort") → Known (special_text given)
    by special_name.Std e a b c d f g = a
    by special_name.Mutex e a b c d f g = b
    by special_name.Thread e a b c d f g = c
    by special_name.Cout e a b c d f g = d
    by special_name.Endl e a b c d f g = f
    by special_name.Abort e a b c d f g = g
    by _ e a b c d f g = cc

special-number : (mode : Mode) (names : List (List ℕ)) (given : SpecialName) → is_in_programs given ≡ true → number_of names (special_text given) ≡ special_of (dialect_in mode names) given
special-number mode names special_name.Std e = refl
special-number mode names special_name.Mutex e = refl
special-number mode names special_name.Thread e = refl
special-number mode names special_name.Cout e = refl
special-number mode names special_name.Endl e = refl
special-number mode names special_name.Abort e = refl
special-number mode names _ e = cc

-- ---- the words of a text's tokens

module _ (mode : Mode) (names : List (List ℕ)) (distinct : IsDistinct names) where
  word-is : (it : Word) → IsWrittenWord mode names it → word_in names (kind_of mode names it) (word_text names it) ≡ it
  word-is (w.name id) is = ap (λ z. w.name (number_of names z)) (name-text-is mode names id is) ∙ ap w.name (number-at names id is.0 distinct is.1)
  word-is (w.number value number) is = refl
  word-is (w.text bytes) is = ap w.text (reads_quoted bytes (quoted bytes) (quoted-string bytes is))
  word-is (w.keyword keyword) is = refl
  word-is (w.sign s) is = refl
  word-is (w.include header) is = refl
  word-is w.pragma is = refl

  pub tokens-words : (at : Place) (parts : List Part) → Every (IsWrittenPart mode names) parts → AreApart parts
      → grammar.words_of (words_in names (tokens_of mode names at parts)) ≡ words_of (special_of (dialect_in mode names)) parts
  tokens-words at [] is apart = refl
  tokens-words at (word it ∷ rest) is apart = λ i. word-is it is.0 i ∷ tokens-words (place_after at (word_text names it)) rest is.1 apart.2 i
  tokens-words at (special given ∷ rest) is apart = λ i. w.name (special-number mode names given apart.0 i) ∷ tokens-words (place_after at (special_text given)) rest is.1 apart.2 i
  tokens-words at (blank ∷ rest) is apart = tokens-words (place_after at (codes " ")) rest is.1 apart.2
  tokens-words at (margin ∷ rest) is apart = tokens-words (place_after at (codes "    ")) rest is.1 apart.2
  tokens-words at (newline ∷ rest) is apart = tokens-words (place_after at (10 ∷ [])) rest is.1 apart.2

-- ---- no new name

module _ (mode : Mode) (names : List (List ℕ)) (have : with_special names ≡ names) where
  -- a name that is known already leaves the names as they are
  word-known : (it : Word) → IsWrittenWord mode names it → with_name names (kind_of mode names it) (word_text names it) ≡ names
  word-known (w.name id) is = ap (interned names) (name-text-is mode names id is) ∙ interned-known names is.0 (known-at names id is.0 is.1)
  word-known (w.number value number) is = refl
  word-known (w.text bytes) is = refl
  word-known (w.keyword keyword) is = refl
  word-known (w.sign s) is = refl
  word-known (w.include header) is = refl
  word-known w.pragma is = refl

  pub tokens-known : (at : Place) (parts : List Part) → Every (IsWrittenPart mode names) parts → AreApart parts → with_names names (tokens_of mode names at parts) ≡ names
  tokens-known at [] is apart = refl
  tokens-known at (word it ∷ rest) is apart =
      let behind = place_after at (word_text names it) in
      ap (λ z. with_names z (tokens_of mode names behind rest)) (word-known it is.0) ∙ tokens-known behind rest is.1 apart.2
  tokens-known at (special given ∷ rest) is apart =
      let behind = place_after at (special_text given) in
      let known : is_known names (special_text given) ≡ true = ap (λ z. is_known z (special_text given)) (sym have) ∙ special-known names given apart.0 in
      ap (λ z. with_names z (tokens_of mode names behind rest)) (interned-known names (special_text given) known) ∙ tokens-known behind rest is.1 apart.2
  tokens-known at (blank ∷ rest) is apart = tokens-known (place_after at (codes " ")) rest is.1 apart.2
  tokens-known at (margin ∷ rest) is apart = tokens-known (place_after at (codes "    ")) rest is.1 apart.2
  tokens-known at (newline ∷ rest) is apart = tokens-known (place_after at (10 ∷ [])) rest is.1 apart.2
