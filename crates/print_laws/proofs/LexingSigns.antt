-- Signs at the front of a text.
use Rattle.std.proofs.Common.{◌≡◌, ℕ, ◌≤◌, ◌<◌, Bool, true, false, List, [], ◌∷◌, ◌++◌, map, length, Result, refl, sym, ap, ◌∙◌, subst, arith, eq-eqb}
use Rattle.std.specs.Prelude.{◌==◌, ◌&&◌, ◌||◌, not}
use Rattle.std.specs.List.{list_all, list_any}
use Rattle.std.proofs.lemmas.Bool.{false≢true, eqb-true}
use Rattle.agxx_base.specs.declared.kind.Mode.{Mode}
use Rattle.agxx_base.specs.declared.rule.Rule.{Rule}
use Rattle.agxx_base.specs.declared.vocabulary.Sign.{Sign}
use Rattle.agxx_base.specs.declared.vocabulary.Sign.TheVariants as sign_of
use Rattle.agxx_base.specs.Vocabulary.{sign_text}
use Rattle.cxx_lex.specs.declared.tok.TokKind.{TokKind}
use Rattle.cxx_lex.specs.declared.tok.TokKind.TheVariants as kind
use Rattle.cxx_lex.specs.Bytes.{is_blank, is_part, opens_comment, begins_comment}
use Rattle.cxx_lex.specs.Lexemes.{IsLexeme, sign}
use Rattle.cxx_lex.specs.SignScan.{signs}
use Rattle.cxx_lex.specs.Tokens.{IsTokenAt}
use Rattle.cxx_lex.proofs.Members.{only-sign}
use Rattle.cxx_lex.proofs.Runs.{both, not-false}
use Rattle.cxx_lex.proofs.SignCut.{sign-entry, sign-first, no-sign}
use Rattle.cxx_lex.proofs.Tables.{entry-pass}
use Rattle.print_laws.proofs.LexingTokens.{no-slash}
use Rattle.print_laws.proofs.Shapes.{all_signs, goes_on, is_longer}

-- ---- booleans and lists

neither : (x y : Bool) → (x || y) ≡ false → (x ≡ false) × (y ≡ false)
neither true y e = cc
neither false y e = (refl, e)

-- what holds of no element holds of none that is made of one
none-made : {A B : Type 0} (make : A → B) (p : B → Bool) (xs : List A) → list_any (λ x. p (make x)) xs ≡ false → list_all (λ y. not (p y)) (map make xs) ≡ true
none-made make p [] e = refl
none-made make p (x ∷ xs) e = let n = neither (p (make x)) (list_any (λ x. p (make x)) xs) e in rw n.0 (none-made make p xs n.1)

-- ---- longer signs

-- no sign and no comment goes on with the byte that comes next
abbrev pub IsWhole : List ℕ → List ℕ → Type 0
IsWhole text [] = Unit {0}
IsWhole text (b ∷ bs) = is_longer text b ≡ false

-- a longer front of a text goes on where a shorter one ends
goes-on : (text rest front behind : List ℕ) → text ++ rest ≡ front ++ behind → length text < length front → (b : ℕ) × (bs : List ℕ) × (rest ≡ b ∷ bs) × (goes_on text b front ≡ true)
goes-on [] rest [] behind e l = absurd (omega (arith, l))
goes-on [] rest (c ∷ cs) behind e l = (c, cs ++ behind, e, eq-eqb c c refl)
goes-on (a ∷ more) rest [] behind e l = absurd (omega (arith, l))
goes-on (a ∷ more) rest (c ∷ cs) behind e l =
    let same : a ≡ c = cc in
    let next : more ++ rest ≡ cs ++ behind = cc in
    let found = goes-on more rest cs behind next (omega (arith, l)) in
    (found.0, found.1, found.2, rw (eq-eqb a c same) found.3)

-- of the parts of `is_longer`
no-sign-goes-on : (text : List ℕ) (b : ℕ) → is_longer text b ≡ false → (s : Sign) → goes_on text b (sign_text s) ≡ false
no-sign-goes-on text b e s =
    let n = neither (list_any (λ s. goes_on text b (sign_text s)) all_signs) _ e in
    not-false _ (entry-pass (λ p. not (goes_on text b p.0)) signs (none-made (λ s. (sign_text s, s)) (λ (p : List ℕ × Sign). goes_on text b p.0) all_signs n.0) (sign_text s) s (sign-entry s))

no-comment-goes-on : (text : List ℕ) (b : ℕ) → is_longer text b ≡ false → (goes_on text b (47 ∷ 47 ∷ []) ≡ false) × (goes_on text b (47 ∷ 42 ∷ []) ≡ false)
no-comment-goes-on text b e =
    neither (goes_on text b (47 ∷ 47 ∷ [])) (goes_on text b (47 ∷ 42 ∷ [])) (neither (list_any (λ s. goes_on text b (sign_text s)) all_signs) _ e).1

no-longer : (text rest : List ℕ) (r : Sign) (behind : List ℕ) → IsWhole text rest → text ++ rest ≡ sign_text r ++ behind → length text < length (sign_text r) → ⊥
no-longer text rest r behind whole e l = go (goes-on text rest (sign_text r) behind e l)
  where
    go : (b : ℕ) × (bs : List ℕ) × (rest ≡ b ∷ bs) × (goes_on text b (sign_text r) ≡ true) → ⊥
    go (b, bs, f, g) =
        let longer : is_longer text b ≡ false = subst (IsWhole text) f whole in
        false≢true (sym (no-sign-goes-on text b longer r) ∙ g)

-- a sign is no comment where none goes on with it
slash-comment : (rest : List ℕ) → IsWhole (47 ∷ []) rest → begins_comment (47 ∷ rest) ≡ false
slash-comment [] whole = refl
slash-comment (b ∷ bs) whole = let n = no-comment-goes-on (47 ∷ []) b whole in rw (n.0, n.1) refl

-- whether a text begins no comment, whatever stands behind it
abbrev is_no_comment : List ℕ → Bool
is_no_comment [] = false
is_no_comment (b ∷ []) = not (b == 47)
is_no_comment (b ∷ c ∷ cs) = not (opens_comment b c)

none-begins : (text rest : List ℕ) → is_no_comment text ≡ true → begins_comment (text ++ rest) ≡ false
none-begins [] rest e = cc
none-begins (b ∷ []) rest e = no-slash b rest (not-false (b == 47) e)
none-begins (b ∷ c ∷ cs) rest e = not-false (opens_comment b c) e

sign-comment : (s : Sign) (rest : List ℕ) → IsWhole (sign_text s) rest → begins_comment (sign_text s ++ rest) ≡ false
sign-comment sign_of.Slash rest whole = slash-comment rest whole
sign-comment s rest whole = none-begins (sign_text s) rest refl

at-most : (n m : ℕ) → (n < m → ⊥) → m ≤ n
at-most n m f = grind (arith, f)

sign-longest : (mode : Mode) (s : Sign) (text rest : List ℕ) → text ≡ sign_text s → IsWhole text rest → (other : Result TokKind Rule) (front behind : List ℕ) → IsLexeme mode other front → text ++ rest ≡ front ++ behind → length front ≤ length text
sign-longest mode s [] rest is whole other front behind member e = absurd (no-sign s is)
sign-longest mode s (b ∷ bs) rest is whole other [] behind member e = omega arith
sign-longest mode s (b ∷ bs) rest is whole other (c ∷ cs) behind member e =
    let same : b ≡ c = cc in
    let first = sign-first s b bs is in
    let r = only-sign mode other b cs first.letter first.digit first.quote first.hash (subst (λ z. IsLexeme mode other (z ∷ cs)) (sym same) member) in
    let f : c ∷ cs ≡ sign_text r.0 = ap (λ z. z ∷ cs) (sym same) ∙ r.1 in
    subst (λ z. length z ≤ length (b ∷ bs)) (sym f) (at-most _ _ (no-longer (b ∷ bs) rest r.0 behind whole (e ∙ ap (λ z. z ++ behind) f)))

pub sign-token : (mode : Mode) (s : Sign) (rest : List ℕ) → IsWhole (sign_text s) rest → IsTokenAt mode (kind.Sign s) (sign_text s) rest
sign-token mode s rest whole = record {
  longest = record {
    no_comment = sign-comment s rest whole;
    lexeme = sign s refl refl;
    longest = sign-longest mode s (sign_text s) rest refl whole;
  };
  apart = refl;
}

-- ---- what goes on with no sign

-- letters, digits, blanks and quotes
abbrev pub is_outside : ℕ → Bool
is_outside b = is_part b || (is_blank b || b == 34)

differs : (b c : ℕ) → is_outside b ≡ true → not (is_outside c) ≡ true → (b == c) ≡ false
differs b c out within = go (b == c) refl
  where
    go : (x : Bool) → (b == c) ≡ x → x ≡ false
    go true e = absurd (false≢true (sym (not-false (is_outside c) within) ∙ ap is_outside (sym (eqb-true b c e)) ∙ out))
    go false e = refl

and-none : (x : Bool) → (x && false) ≡ false
and-none true = refl
and-none false = refl

goes-nowhere : (b : ℕ) (text front : List ℕ) → is_outside b ≡ true → list_all (λ c. not (is_outside c)) front ≡ true → goes_on text b front ≡ false
goes-nowhere b [] [] out all = refl
goes-nowhere b [] (c ∷ cs) out all = differs b c out (both (not (is_outside c)) (list_all (λ c. not (is_outside c)) cs) all).0
goes-nowhere b (a ∷ more) [] out all = refl
goes-nowhere b (a ∷ more) (c ∷ cs) out all =
    ap (λ z. a == c && z) (goes-nowhere b more cs out (both (not (is_outside c)) (list_all (λ c. not (is_outside c)) cs) all).1) ∙ and-none (a == c)

none-goes-on : (b : ℕ) (text : List ℕ) (ss : List Sign) → is_outside b ≡ true → list_all (λ s. list_all (λ c. not (is_outside c)) (sign_text s)) ss ≡ true → list_any (λ s. goes_on text b (sign_text s)) ss ≡ false
none-goes-on b text [] out all = refl
none-goes-on b text (s ∷ ss) out all =
    let p = both (list_all (λ c. not (is_outside c)) (sign_text s)) (list_all (λ s. list_all (λ c. not (is_outside c)) (sign_text s)) ss) all in
    rw (goes-nowhere b text (sign_text s) out p.0) (none-goes-on b text ss out p.1)

pub outside-whole : (b : ℕ) (text : List ℕ) → is_outside b ≡ true → is_longer text b ≡ false
outside-whole b text out =
    (λ i. none-goes-on b text all_signs out refl i || (goes-nowhere b text (47 ∷ 47 ∷ []) out refl i || goes-nowhere b text (47 ∷ 42 ∷ []) out refl i))
