-- The parts of a text are its tokens.
use Rattle.std.proofs.Common.{◌≡◌, ℕ, true, false, List, [], ◌∷◌, ◌++◌, unwrap_or, codes, refl, sym, ap, ◌∙◌, subst, arith}
use Rattle.std.specs.Prelude.{decimal}
use Rattle.std.proofs.lemmas.Bool.Decides.{nat_tests}
use Rattle.agxx_base.specs.declared.kind.Mode.{Mode}
use Rattle.agxx_base.specs.declared.place.Place.{Place}
use Rattle.agxx_base.specs.declared.vocabulary.Sign.{Sign}
use Rattle.agxx_base.specs.Vocabulary.{keyword_text, sign_text, special_text}
use Rattle.cxx_lex.specs.declared.tok.TokKind.{TokKind}
use Rattle.cxx_lex.specs.declared.tok.TokKind.TheVariants as kind
use Rattle.cxx_lex.specs.Bytes.{is_blank, is_letter, is_digit, is_part}
use Rattle.cxx_lex.specs.Place.{place_after}
use Rattle.cxx_lex.specs.Tokens.{Token, IsTokenAt, Reads, arrives, past_gap, past_token, blank as blank_gap}
use Rattle.cxx_lex.specs.Words.{IsWord}
use Rattle.cxx_lex.proofs.Runs.{Stops, not-false}
use Rattle.cxx_lex.proofs.SignCut.{no-sign, sign-first}
use Rattle.cxx_tree.specs.Limits.{Every}
use Rattle.cxx_tree.specs.Words as w
use Rattle.cxx_tree.specs.Words.{Word}
use Rattle.cxx_print.specs.Document.{Part, word, special, blank, margin, newline}
use Rattle.cxx_print.specs.Texts.{suffix, name_text, word_text, part_text, text_of_parts}
use Rattle.cxx_written.specs.Written.{IsName, IsWrittenWord}
use Rattle.print_laws.proofs.Shapes.{Shape, letters, quotes, sign, directive, space, word_shape, shape, is_longer_by, may_touch, is_spelled_word, is_spelled, Touches, AreApart}
use Rattle.print_laws.proofs.LexingDirectives.{include-token, pragma-token}
use Rattle.print_laws.proofs.LexingNumbers.{digit-part, number-token, BeginsWithDigit, number-begins}
use Rattle.print_laws.proofs.LexingSigns.{IsWhole, sign-token, is_outside, outside-whole}
use Rattle.print_laws.proofs.LexingStrings.{text-token}
use Rattle.print_laws.proofs.LexingWords.{name-token, keyword-word, keyword-token, special-is-name}

-- ---- what parts begin with, and what may stand behind them

-- what a part of a shape begins with
abbrev Begins : Shape → List ℕ → Type 0
Begins form [] = ⊥
Begins letters (b ∷ bs) = is_part b ≡ true
Begins quotes (b ∷ bs) = b ≡ 34
Begins (sign s) (b ∷ bs) = b ∷ bs ≡ sign_text s
Begins directive (b ∷ bs) = b ≡ 35
Begins space (b ∷ bs) = is_blank b ≡ true

-- what may stand behind a part of a shape
abbrev Allows : Shape → List ℕ → Type 0
Allows letters rest = Stops is_part rest
Allows quotes rest = Unit {0}
Allows (sign s) rest = IsWhole (sign_text s) rest
Allows directive rest = Unit {0}
Allows space rest = Unit {0}

blank-part : (b : ℕ) → is_blank b ≡ true → is_part b ≡ false
blank-part b e = grind (arith, nat_tests, e)

sign-part : (b : ℕ) → is_letter b ≡ false → is_digit b ≡ false → is_part b ≡ false
sign-part b l d = rw (l, d) refl

part-outside : (b : ℕ) → is_part b ≡ true → is_outside b ≡ true
part-outside b e = rw e refl

blank-outside : (b : ℕ) → is_blank b ≡ true → is_outside b ≡ true
blank-outside b e = rw (blank-part b e, e) refl

allows-nothing : (form : Shape) → Allows form []
allows-nothing letters = tt
allows-nothing quotes = tt
allows-nothing (sign s) = tt
allows-nothing directive = tt
allows-nothing space = tt

allows : (form next : Shape) (text rest : List ℕ) → Begins next text → may_touch form next ≡ true → Allows form (text ++ rest)
allows form next [] rest begins touch = absurd begins
allows letters letters (b ∷ bs) rest begins touch = cc
allows letters quotes (b ∷ bs) rest begins touch = ap is_part begins
allows letters (sign s) (b ∷ bs) rest begins touch = let f = sign-first s b bs begins in sign-part b f.letter f.digit
allows letters directive (b ∷ bs) rest begins touch = cc
allows letters space (b ∷ bs) rest begins touch = blank-part b begins
allows quotes next (b ∷ bs) rest begins touch = tt
allows (sign s) letters (b ∷ bs) rest begins touch = outside-whole b (sign_text s) (part-outside b begins)
allows (sign s) quotes (b ∷ bs) rest begins touch = outside-whole b (sign_text s) (ap is_outside begins)
allows (sign s) (sign next) (b ∷ bs) rest begins touch = ap (λ z. is_longer_by (sign_text s) z) begins ∙ not-false (is_longer_by (sign_text s) (sign_text next)) touch
allows (sign s) directive (b ∷ bs) rest begins touch = cc
allows (sign s) space (b ∷ bs) rest begins touch = outside-whole b (sign_text s) (blank-outside b begins)
allows directive next (b ∷ bs) rest begins touch = tt
allows space next (b ∷ bs) rest begins touch = tt

-- ---- words and parts that are written

module _ (mode : Mode) (names : List (List ℕ)) where
  pub name-text-is : (id : ℕ) (is : IsName mode names id) → name_text names id ≡ is.0
  name-text-is id is = ap (λ z. unwrap_or z []) is.1

  -- the kind of a word's token
  abbrev pub kind_of : Word → TokKind
  kind_of (w.name id) = kind.Name
  kind_of (w.number value number) = kind.Number value number
  kind_of (w.text bytes) = kind.Text
  kind_of (w.keyword keyword) = kind.Keyword keyword
  kind_of (w.sign s) = kind.Sign s
  kind_of (w.include header) = kind.Include header
  kind_of w.pragma = kind.PragmaOnce

  word-token : (it : Word) (rest : List ℕ) → IsWrittenWord mode names it → is_spelled_word it ≡ true → Allows (word_shape it) rest → IsTokenAt mode (kind_of it) (word_text names it) rest
  word-token (w.name id) rest is spelled allowed = subst (λ z. IsTokenAt mode kind.Name z rest) (sym (name-text-is id is)) (name-token mode is.0 rest is.2 allowed)
  word-token (w.number value number) rest is spelled allowed = number-token mode value number rest is allowed
  word-token (w.text bytes) rest is spelled allowed = text-token mode bytes rest is
  word-token (w.keyword keyword) rest is spelled allowed = keyword-token mode keyword rest spelled allowed
  word-token (w.sign s) rest is spelled allowed = sign-token mode s rest allowed
  word-token (w.include header) rest is spelled allowed = include-token mode header rest
  word-token w.pragma rest is spelled allowed = pragma-token mode rest

  -- a word begins with a letter
  word-begins : (text : List ℕ) → IsWord text → Begins letters text
  word-begins [] is = absurd is
  word-begins (b ∷ bs) is = rw is.0 refl

  sign-begins : (s : Sign) (text : List ℕ) → text ≡ sign_text s → Begins (sign s) text
  sign-begins s [] e = no-sign s e
  sign-begins s (b ∷ bs) e = e

  digit-begins : (text rest : List ℕ) → BeginsWithDigit text → Begins letters (text ++ rest)
  digit-begins [] rest is = absurd is
  digit-begins (b ∷ bs) rest is = digit-part b is

  begins-word : (it : Word) → IsWrittenWord mode names it → is_spelled_word it ≡ true → Begins (word_shape it) (word_text names it)
  begins-word (w.name id) is spelled = subst (Begins letters) (sym (name-text-is id is)) (word-begins is.0 is.2.0)
  begins-word (w.number value number) is spelled = digit-begins (decimal value) (suffix number) (number-begins value number is)
  begins-word (w.text bytes) is spelled = refl
  begins-word (w.keyword keyword) is spelled = word-begins (keyword_text keyword) (keyword-word keyword spelled)
  begins-word (w.sign s) is spelled = sign-begins s (sign_text s) refl
  begins-word (w.include header) is spelled = refl
  begins-word w.pragma is spelled = refl

  -- what is asked of the names and literals of a part
  abbrev pub IsWrittenPart : Part → Type 0
  IsWrittenPart (word it) = IsWrittenWord mode names it
  IsWrittenPart other = Unit {0}

  begins-part : (part : Part) → IsWrittenPart part → is_spelled part ≡ true → Begins (shape part) (part_text names part)
  begins-part (word it) is spelled = begins-word it is spelled
  begins-part (special given) is spelled = word-begins (special_text given) (special-is-name mode given spelled).0
  begins-part blank is spelled = refl
  begins-part margin is spelled = refl
  begins-part newline is spelled = refl

  behind : (part : Part) (rest : List Part) → Every IsWrittenPart rest → Touches part rest → AreApart rest → Allows (shape part) (text_of_parts names rest)
  behind part [] is touches apart = allows-nothing (shape part)
  behind part (next ∷ rest) is touches apart = allows (shape part) (shape next) (part_text names next) (text_of_parts names rest) (begins-part next is.0 apart.0) touches

  -- ---- the tokens of parts

  abbrev pub tokens_of : Place → List Part → List Token
  tokens_of at [] = []
  tokens_of at (word it ∷ rest) = record { kind = kind_of it; text = word_text names it; at = at } ∷ tokens_of (place_after at (word_text names it)) rest
  tokens_of at (special given ∷ rest) = record { kind = kind.Name; text = special_text given; at = at } ∷ tokens_of (place_after at (special_text given)) rest
  tokens_of at (blank ∷ rest) = tokens_of (place_after at (codes " ")) rest
  tokens_of at (margin ∷ rest) = tokens_of (place_after at (codes "    ")) rest
  tokens_of at (newline ∷ rest) = tokens_of (place_after at (10 ∷ [])) rest

  abbrev pub end_of : Place → List Part → Place
  end_of at [] = at
  end_of at (part ∷ rest) = end_of (place_after at (part_text names part)) rest

  past-blank : (at : Place) (b : ℕ) (rest : List ℕ) (ts : List Token) (end : Place) → is_blank b ≡ true → Reads mode (place_after at (b ∷ [])) rest ts end [] → Reads mode at (b ∷ rest) ts end []
  past-blank at b rest ts end e reads = past_gap at (b ∷ rest) (b ∷ []) rest ts end [] refl (blank_gap b refl e) reads

  pub parts-read : (at : Place) (parts : List Part) → Every IsWrittenPart parts → AreApart parts → Reads mode at (text_of_parts names parts) (tokens_of at parts) (end_of at parts) []
  parts-read at [] is apart = arrives at []
  parts-read at (word it ∷ rest) is apart =
      past_token at _ (text_of_parts names rest) (record { kind = kind_of it; text = word_text names it; at = at }) (tokens_of (place_after at (word_text names it)) rest) (end_of at (word it ∷ rest)) [] refl refl
      (word-token it (text_of_parts names rest) is.0 apart.0 (behind (word it) rest is.1 apart.1 apart.2))
      (parts-read (place_after at (word_text names it)) rest is.1 apart.2)
  parts-read at (special given ∷ rest) is apart =
      past_token at _ (text_of_parts names rest) (record { kind = kind.Name; text = special_text given; at = at }) (tokens_of (place_after at (special_text given)) rest) (end_of at (special given ∷ rest)) [] refl refl
      (name-token mode (special_text given) (text_of_parts names rest) (special-is-name mode given apart.0) (behind (special given) rest is.1 apart.1 apart.2))
      (parts-read (place_after at (special_text given)) rest is.1 apart.2)
  parts-read at (blank ∷ rest) is apart = past-blank at 32 (text_of_parts names rest) _ _ refl (parts-read (place_after at (codes " ")) rest is.1 apart.2)
  parts-read at (newline ∷ rest) is apart = past-blank at 10 (text_of_parts names rest) _ _ refl (parts-read (place_after at (10 ∷ [])) rest is.1 apart.2)
  parts-read at (margin ∷ rest) is apart =
      past-blank at 32 _ _ _ refl (past-blank (place_after at (codes " ")) 32 _ _ _ refl (past-blank (place_after at (codes "  ")) 32 _ _ _ refl (past-blank (place_after at (codes "   ")) 32 (text_of_parts names rest) _ _ refl
      (parts-read (place_after at (codes "    ")) rest is.1 apart.2))))
