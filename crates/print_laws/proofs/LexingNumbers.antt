-- Numbers at the front of a text.
use Rattle.std.proofs.Common.{◌≡◌, ℕ, zero, suc, ◌≤◌, ◌<◌, ◌+◌, ◌-◌, ◌*◌, ◌/◌, ◌%◌, ◌^◌, Bool, true, false, cond, List, [], ◌∷◌, ◌++◌, length, codes, Some, None, Result, Ok, refl, sym, ap, ◌∙◌, subst, arith}
use Rattle.std.specs.Prelude.{◌==◌, ◌&&◌, nat_lt, decimal as written}
use Rattle.std.specs.List.{list_all}
use Rattle.std.proofs.lemmas.Bool.Decides.{nat_tests}
use Rattle.std.proofs.lemmas.Fmt.{decimal_by_steps}
use Rattle.std.proofs.lemmas.List.Folds.{list_all-append}
use Rattle.std.proofs.lemmas.List.Sums.{fold-append}
use Rattle.agxx_base.specs.declared.kind.Mode.{Mode}
use Rattle.agxx_base.specs.declared.kind.NumKind.{NumKind}
use Rattle.agxx_base.specs.declared.kind.NumKind.TheVariants as num
use Rattle.agxx_base.specs.declared.rule.Rule.{Rule}
use Rattle.cxx_lex.specs.declared.numbers.Base.{Base}
use Rattle.cxx_lex.specs.declared.numbers.Base.TheVariants.{Decimal}
use Rattle.cxx_lex.specs.declared.numbers.Suffix.{Suffix}
use Rattle.cxx_lex.specs.declared.numbers.Suffix.TheVariants as ending_of
use Rattle.cxx_lex.specs.declared.tok.TokKind.{TokKind}
use Rattle.cxx_lex.specs.declared.tok.TokKind.TheVariants as kind
use Rattle.cxx_lex.specs.Bytes.{is_digit, is_hexadecimal, is_x, is_part}
use Rattle.cxx_lex.specs.Lexemes.{IsLexeme, number}
use Rattle.cxx_lex.specs.Numbers.{digit_value, IsNumeral, nought, decimal, hexadecimal, suffixes, IsNumber, kind_for, by_kind, number_verdict}
use Rattle.cxx_lex.specs.Runs.{run}
use Rattle.cxx_lex.specs.Tokens.{clashes, IsTokenAt}
use Rattle.cxx_lex.specs.Words.{entry_of}
use Rattle.cxx_lex.proofs.Members.{only-number}
use Rattle.cxx_lex.proofs.NumberCut.{numeral-first, number-first, no-number}
use Rattle.cxx_lex.proofs.Runs.{both, Stops, run-most, run-front}
use Rattle.cxx_lex.proofs.Tables.{entry-pass}
use Rattle.cxx_print.specs.Texts.{suffix}
use Rattle.cxx_written.specs.Written.{literal_bound}
use Rattle.print_laws.proofs.LexingTokens.{no-slash}

-- ---- bytes of numbers

all-both : (p : ℕ → Bool) (xs ys : List ℕ) → list_all p xs ≡ true → list_all p ys ≡ true → list_all p (xs ++ ys) ≡ true
all-both p xs ys a b = list_all-append p xs ys ∙ (λ i. a i && b i)

all-too : (p q : ℕ → Bool) → ((b : ℕ) → p b ≡ true → q b ≡ true) → (xs : List ℕ) → list_all p xs ≡ true → list_all q xs ≡ true
all-too p q too [] a = refl
all-too p q too (x ∷ xs) a = let c = both (p x) (list_all p xs) a in rw (too x c.0) (all-too p q too xs c.1)

pub digit-part : (b : ℕ) → is_digit b ≡ true → is_part b ≡ true
digit-part b d = grind (arith, nat_tests, d)

hexadecimal-part : (b : ℕ) → is_hexadecimal b ≡ true → is_part b ≡ true
hexadecimal-part b d = grind (arith, nat_tests, d)

x-part : (b : ℕ) → is_x b ≡ true → is_part b ≡ true
x-part b d = grind (arith, nat_tests, d)

digit-slash : (b : ℕ) → is_digit b ≡ true → (b == 47) ≡ false
digit-slash b d = grind (arith, nat_tests, d)

abbrev AreParts : List ℕ → Type 0
AreParts text = list_all is_part text ≡ true

numeral-parts : (base : Base) (value : ℕ) (digits : List ℕ) → IsNumeral base value digits → AreParts digits
numeral-parts base value digits (nought e v t) = subst AreParts (sym t) refl
numeral-parts base value digits (decimal first more e t d n a v) = subst AreParts (sym t) (rw (digit-part first d) (all-too is_digit is_part digit-part more a))
numeral-parts base value digits (hexadecimal x first more e t k d a v) =
    subst AreParts (sym t) (rw (x-part x k, hexadecimal-part first d) (all-too is_hexadecimal is_part hexadecimal-part more a))

-- each byte of a number goes on with a word
number-parts : (base : Base) (value : ℕ) (ending : Suffix) (text : List ℕ) → IsNumber base value ending text → AreParts text
number-parts base value ending text n =
    subst AreParts (sym n.parts) (all-both is_part n.digits n.rest (numeral-parts base value n.digits n.numeral) (entry-pass (λ q. list_all is_part q.0) suffixes refl n.rest ending n.suffix))

-- ---- numbers before what goes on with no word

number-longest : (mode : Mode) (base : Base) (value : ℕ) (ending : Suffix) (b : ℕ) (bs rest : List ℕ) → IsNumber base value ending (b ∷ bs) → Stops is_part rest
    → (other : Result TokKind Rule) (front behind : List ℕ) → IsLexeme mode other front → (b ∷ bs) ++ rest ≡ front ++ behind → length front ≤ length (b ∷ bs)
number-longest mode base value ending b bs rest n stops other [] behind member e = omega arith
number-longest mode base value ending b bs rest n stops other (c ∷ cs) behind member e =
    let same : b ≡ c = cc in
    let found = only-number mode other c cs (ap is_digit (sym same) ∙ number-first base value ending b bs n) member in
    let most : length (c ∷ cs) ≤ run is_part ((c ∷ cs) ++ behind) = run-most is_part (c ∷ cs) behind (number-parts found.base found.value found.ending (c ∷ cs) found.number) in
    let whole : run is_part ((b ∷ bs) ++ rest) ≡ length (b ∷ bs) = run-front is_part (b ∷ bs) rest (number-parts base value ending (b ∷ bs) n) stops in
    subst (λ z. length (c ∷ cs) ≤ z) (ap (run is_part) (sym e) ∙ whole) most

no-clash : (value : ℕ) (k : NumKind) (rest : List ℕ) → Stops is_part rest → clashes (kind.Number value k) rest ≡ false
no-clash value k [] stops = refl
no-clash value k (c ∷ cs) stops = stops

token-of : (mode : Mode) (base : Base) (value : ℕ) (ending : Suffix) (k : NumKind) (text rest : List ℕ) → IsNumber base value ending text → number_verdict base value ending ≡ Ok (kind.Number value k) → Stops is_part rest
    → IsTokenAt mode (kind.Number value k) text rest
token-of mode base value ending k [] rest n verdict stops = absurd (no-number base value ending n)
token-of mode base value ending k (b ∷ bs) rest n verdict stops = record {
  longest = record {
    no_comment = no-slash b (bs ++ rest) (digit-slash b (number-first base value ending b bs n));
    lexeme = number base value ending n (sym verdict);
    longest = number-longest mode base value ending b bs rest n stops;
  };
  apart = no-clash value k rest stops;
}

-- ---- the digits of a number

digit-is : (c : ℕ) → is_digit c ≡ true → digit_value c ≡ c - 48
digit-is c d = rw d refl

last-digit : (n : ℕ) → n < 10 → is_digit (48 + n) ≡ true
last-digit n l = grind (arith, nat_tests, l)

one-digit : (m : ℕ) → m < 10 → IsNumeral Decimal m ((48 + m) ∷ [])
one-digit zero l = nought refl refl refl
one-digit (suc n) l =
    let d = last-digit (suc n) l in
    decimal (48 + suc n) [] refl refl d (grind (arith, nat_tests)) refl (omega (arith, digit-is (48 + suc n) d))

more-digits : (m : ℕ) (ds : List ℕ) → 10 ≤ m → IsNumeral Decimal (m / 10) ds → IsNumeral Decimal m (ds ++ (48 + m % 10) ∷ [])
more-digits m ds l (nought e v t) = absurd (omega (arith, v))
more-digits m ds l (decimal first more e t d n a v) =
    let c = last-digit (m % 10) (omega arith) in
    decimal first (more ++ (48 + m % 10) ∷ []) refl (ap (λ z. z ++ (48 + m % 10) ∷ []) t) d n (all-both is_digit more ((48 + m % 10) ∷ []) a (rw c refl))
    (omega (arith, v, digit-is (48 + m % 10) c, fold-append (λ n b. n * 10 + digit_value b) 0 ds ((48 + m % 10) ∷ [])))
more-digits m ds l (hexadecimal x first more e t k d a v) = absurd (cc)

numeral-is : (n : ℕ) → n < 2 ^ 64 → IsNumeral Decimal n (written n)
numeral-is = decimal_by_steps (λ m ds. IsNumeral Decimal m ds) one-digit more-digits

-- ---- what is written of a number

small : (value : ℕ) (k : NumKind) → value < literal_bound k → value < 2 ^ 64
small value num.Bool h = omega (arith, h)
small value num.I8 h = omega (arith, h)
small value num.U8 h = omega (arith, h)
small value num.I16 h = omega (arith, h)
small value num.U16 h = omega (arith, h)
small value num.I32 h = omega (arith, h)
small value num.U32 h = omega (arith, h)
small value num.I64 h = omega (arith, h)
small value num.U64 h = omega (arith, h)

-- digits and a suffix
number-is : (value : ℕ) (k : NumKind) (rest : List ℕ) (ending : Suffix) → value < literal_bound k → entry_of suffixes rest ≡ Some ending → IsNumber Decimal value ending (written value ++ rest)
number-is value k rest ending h is = record { digits = written value; rest = rest; parts = refl; numeral = numeral-is value (small value k h); suffix = is }

below : (value bound : ℕ) → value < bound → nat_lt value bound ≡ true
below value bound h = grind (arith, nat_tests, h)

pub number-token : (mode : Mode) (value : ℕ) (k : NumKind) (rest : List ℕ) → value < literal_bound k → Stops is_part rest → IsTokenAt mode (kind.Number value k) (written value ++ suffix k) rest
number-token mode value num.Bool rest h stops = absurd (omega (arith, h))
number-token mode value num.I8 rest h stops = absurd (omega (arith, h))
number-token mode value num.U8 rest h stops = absurd (omega (arith, h))
number-token mode value num.I16 rest h stops = absurd (omega (arith, h))
number-token mode value num.U16 rest h stops = absurd (omega (arith, h))
number-token mode value num.I32 rest h stops =
    token-of mode Decimal value ending_of.Plain num.I32 _ rest (number-is value num.I32 [] ending_of.Plain h refl)
    (ap (λ x. by_kind value (cond x (Some num.I32) (kind_for value (num.I64 ∷ [])))) (below value (2 ^ 31) h)) stops
number-token mode value num.U32 rest h stops =
    token-of mode Decimal value ending_of.U num.U32 _ rest (number-is value num.U32 (codes "u") ending_of.U h refl)
    (ap (λ x. by_kind value (cond x (Some num.U32) (kind_for value (num.U64 ∷ [])))) (below value (2 ^ 32) h)) stops
number-token mode value num.I64 rest h stops =
    token-of mode Decimal value ending_of.Ll num.I64 _ rest (number-is value num.I64 (codes "ll") ending_of.Ll h refl) (ap (λ x. by_kind value (cond x (Some num.I64) None)) (below value (2 ^ 63) h)) stops
number-token mode value num.U64 rest h stops =
    token-of mode Decimal value ending_of.Ull num.U64 _ rest (number-is value num.U64 (codes "ull") ending_of.Ull h refl) (ap (λ x. by_kind value (cond x (Some num.U64) None)) (below value (2 ^ 64) h)) stops

abbrev pub BeginsWithDigit : List ℕ → Type 0
BeginsWithDigit [] = ⊥
BeginsWithDigit (b ∷ bs) = is_digit b ≡ true

numeral-begins : (base : Base) (value : ℕ) (digits : List ℕ) → IsNumeral base value digits → BeginsWithDigit digits
numeral-begins base value [] (nought e v t) = cc
numeral-begins base value [] (decimal first more e t d n a v) = cc
numeral-begins base value [] (hexadecimal x first more e t k d a v) = cc
numeral-begins base value (b ∷ bs) n = numeral-first base value b bs n

pub number-begins : (value : ℕ) (k : NumKind) → value < literal_bound k → BeginsWithDigit (written value)
number-begins value k h = numeral-begins Decimal value (written value) (numeral-is value (small value k h))
