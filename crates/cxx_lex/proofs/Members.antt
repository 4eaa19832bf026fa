-- The sets of texts, told apart by their first byte.
use Rattle.std.proofs.Common.{◌≡◌, ℕ, true, false, List, [], ◌∷◌, length, append-nil, Option, Some, None, Result, Ok, sym, ap, ◌∙◌, subst, arith}
use Rattle.std.specs.Prelude.{◌==◌}
use Rattle.std.proofs.lemmas.Bool.Decides.{nat_tests}
use Rattle.agxx_base.specs.declared.kind.Mode.{Mode}
use Rattle.agxx_base.specs.declared.rule.Rule.{Rule}
use Rattle.agxx_base.specs.declared.vocabulary.Sign.{Sign}
use Rattle.agxx_base.specs.Vocabulary.{sign_text}
use Rattle.cxx_lex.specs.declared.numbers.Base.{Base}
use Rattle.cxx_lex.specs.declared.numbers.Suffix.{Suffix}
use Rattle.cxx_lex.specs.declared.tok.Lexeme.{Lexeme}
use Rattle.cxx_lex.specs.declared.tok.TokKind.{TokKind}
use Rattle.cxx_lex.specs.declared.tok.TokKind.TheVariants as kind
use Rattle.cxx_lex.specs.Bytes.{is_blank, is_letter, is_digit}
use Rattle.cxx_lex.specs.Words.{IsWord, word_verdict}
use Rattle.cxx_lex.specs.Numbers.{IsNumber, number_verdict}
use Rattle.cxx_lex.specs.Strings.{IsString}
use Rattle.cxx_lex.specs.Directives.{IsDirective}
use Rattle.cxx_lex.specs.Lexemes.{IsLexeme, word, number, literal, directive, sign}
use Rattle.cxx_lex.proofs.Runs.{not-true}
use Rattle.cxx_lex.proofs.SignCut.{sign-first, no-sign, sign-unique}
use Rattle.cxx_lex.proofs.NumberCut.{number-first, no-number, number-unique}
use Rattle.cxx_lex.proofs.DirectiveCut.{directive-first, no-directive, directive-exact}

letter-digit : (b : ℕ) → is_letter b ≡ true → is_digit b ≡ true → ⊥
letter-digit b l d = grind (arith, nat_tests)

letter-blank : (b : ℕ) → is_letter b ≡ true → is_blank b ≡ true → ⊥
letter-blank b l d = grind (arith, nat_tests)

digit-blank : (b : ℕ) → is_digit b ≡ true → is_blank b ≡ true → ⊥
digit-blank b l d = grind (arith, nat_tests)

string-first : (value : List ℕ) (b : ℕ) (bs : List ℕ) → IsString value (b ∷ bs) → b ≡ 34
string-first value b bs s = let e = s.1 in cc

pub no-member : (mode : Mode) (v : Result TokKind Rule) → IsLexeme mode v [] → ⊥
no-member mode v (word w e) = w
no-member mode v (number base value ending n e) = no-number base value ending n
no-member mode v (literal value s e) = let f = s.1 in cc
no-member mode v (directive token d e) = no-directive token d
no-member mode v (sign s p e) = no-sign s p

pub member-blank : (mode : Mode) (v : Result TokKind Rule) (b : ℕ) (bs : List ℕ) → IsLexeme mode v (b ∷ bs) → is_blank b ≡ false
member-blank mode v b bs (word w e) = not-true _ (letter-blank b w.0)
member-blank mode v b bs (number base value ending n e) = not-true _ (digit-blank b (number-first base value ending b bs n))
member-blank mode v b bs (literal value s e) = ap is_blank (string-first value b bs s)
member-blank mode v b bs (directive token d e) = ap is_blank (directive-first token b bs d)
member-blank mode v b bs (sign s p e) = (sign-first s b bs p).blank

-- what begins with a letter is a word, and so on
pub only-word : (mode : Mode) (v : Result TokKind Rule) (b : ℕ) (bs : List ℕ) → is_letter b ≡ true → IsLexeme mode v (b ∷ bs) → IsWord (b ∷ bs) × (v ≡ word_verdict mode (b ∷ bs))
only-word mode v b bs l (word w e) = (w, e)
only-word mode v b bs l (number base value ending n e) = absurd (letter-digit b l (number-first base value ending b bs n))
only-word mode v b bs l (literal value s e) = let z : true ≡ false = sym l ∙ ap is_letter (string-first value b bs s) in cc
only-word mode v b bs l (directive token d e) = let z : true ≡ false = sym l ∙ ap is_letter (directive-first token b bs d) in cc
only-word mode v b bs l (sign s p e) = let z : true ≡ false = sym l ∙ (sign-first s b bs p).letter in cc

pub record IsNumberMember (v : Result TokKind Rule) (text : List ℕ) : Type 0 where
  pub base : Base
  pub value : ℕ
  pub ending : Suffix
  pub number : IsNumber base value ending text
  pub verdict : v ≡ number_verdict base value ending

pub only-number : (mode : Mode) (v : Result TokKind Rule) (b : ℕ) (bs : List ℕ) → is_digit b ≡ true → IsLexeme mode v (b ∷ bs) → IsNumberMember v (b ∷ bs)
only-number mode v b bs d (word w e) = absurd (letter-digit b w.0 d)
only-number mode v b bs d (number base value ending n e) = record { base = base; value = value; ending = ending; number = n; verdict = e }
only-number mode v b bs d (literal value s e) = let z : true ≡ false = sym d ∙ ap is_digit (string-first value b bs s) in cc
only-number mode v b bs d (directive token i e) = let z : true ≡ false = sym d ∙ ap is_digit (directive-first token b bs i) in cc
only-number mode v b bs d (sign s p e) = let z : true ≡ false = sym d ∙ (sign-first s b bs p).digit in cc

pub only-string : (mode : Mode) (v : Result TokKind Rule) (bs : List ℕ) → IsLexeme mode v (34 ∷ bs) → (value : List ℕ) × IsString value (34 ∷ bs) × (v ≡ Ok kind.Text)
only-string mode v bs (word w e) = let z : false ≡ true = w.0 in cc
only-string mode v bs (number base value ending n e) = let z : false ≡ true = number-first base value ending 34 bs n in cc
only-string mode v bs (literal value s e) = (value, s, e)
only-string mode v bs (directive token i e) = let z : true ≡ false = ap (λ q. q == 34) (directive-first token 34 bs i) in cc
only-string mode v bs (sign s p e) = let z : true ≡ false = (sign-first s 34 bs p).quote in cc

pub only-directive : (mode : Mode) (v : Result TokKind Rule) (bs : List ℕ) → IsLexeme mode v (35 ∷ bs) → (token : TokKind) × IsDirective token (35 ∷ bs) × (v ≡ Ok token)
only-directive mode v bs (word w e) = let z : false ≡ true = w.0 in cc
only-directive mode v bs (number base value ending n e) = let z : false ≡ true = number-first base value ending 35 bs n in cc
only-directive mode v bs (literal value s e) = let z : false ≡ true = ap (λ q. q == 34) (string-first value 35 bs s) in cc
only-directive mode v bs (directive token i e) = (token, i, e)
only-directive mode v bs (sign s p e) = let z : true ≡ false = (sign-first s 35 bs p).hash in cc

pub only-sign : (mode : Mode) (v : Result TokKind Rule) (b : ℕ) (bs : List ℕ) → is_letter b ≡ false → is_digit b ≡ false → (b == 34) ≡ false → (b == 35) ≡ false → IsLexeme mode v (b ∷ bs)
    → (s : Sign) × (b ∷ bs ≡ sign_text s) × (v ≡ Ok (kind.Sign s))
only-sign mode v b bs l d q h (word w e) = let z : true ≡ false = sym w.0 ∙ l in cc
only-sign mode v b bs l d q h (number base value ending n e) = let z : true ≡ false = sym (number-first base value ending b bs n) ∙ d in cc
only-sign mode v b bs l d q h (literal value s e) = let z : true ≡ false = sym (ap (λ c. c == 34) (string-first value b bs s)) ∙ q in cc
only-sign mode v b bs l d q h (directive token i e) = let z : true ≡ false = sym (ap (λ c. c == 35) (directive-first token b bs i)) ∙ h in cc
only-sign mode v b bs l d q h (sign s p e) = (s, p, e)

abbrev verdict_of : Result TokKind Rule → Option Lexeme → Result TokKind Rule
verdict_of v None = v
verdict_of v (Some l) = l.kind

-- a text has one verdict
pub verdict-unique : (mode : Mode) (v u : Result TokKind Rule) (text : List ℕ) → IsLexeme mode v text → IsLexeme mode u text → v ≡ u
verdict-unique mode v u [] i j = absurd (no-member mode v i)
verdict-unique mode v u (b ∷ bs) (word w e) j = e ∙ sym (only-word mode u b bs w.0 j).1
verdict-unique mode v u (b ∷ bs) (number base value ending n e) j =
    let m = only-number mode u b bs (number-first base value ending b bs n) j in
    e ∙ number-unique base m.base value m.value ending m.ending (b ∷ bs) n m.number ∙ sym m.verdict
verdict-unique mode v u (b ∷ bs) (literal value s e) j =
    let m = only-string mode u bs (subst (λ q. IsLexeme mode u (q ∷ bs)) (string-first value b bs s) j) in e ∙ sym m.2
verdict-unique mode v u (b ∷ bs) (directive token d e) j =
    let f = directive-first token b bs d in
    let m = only-directive mode u bs (subst (λ q. IsLexeme mode u (q ∷ bs)) f j) in
    let x = directive-exact token (35 ∷ bs) [] bs (subst (λ q. IsDirective token (q ∷ bs)) f d) (sym (append-nil (35 ∷ bs))) in
    let y = directive-exact m.0 (35 ∷ bs) [] bs m.1 (sym (append-nil (35 ∷ bs))) in
    let z : Some (record { kind = Ok token; len = length (35 ∷ bs) }) ≡ Some (record { kind = Ok m.0; len = length (35 ∷ bs) }) = sym x ∙ y in
    e ∙ ap (verdict_of v) z ∙ sym m.2
verdict-unique mode v u (b ∷ bs) (sign s p e) j =
    let f = sign-first s b bs p in
    let m = only-sign mode u b bs f.letter f.digit f.quote f.hash j in
    e ∙ ap (λ q. Ok (kind.Sign q)) (sign-unique s m.0 (sym p ∙ m.1)) ∙ sym m.2
