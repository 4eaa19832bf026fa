-- Signs at the front of a text.
use Rattle.std.proofs.Common.{◌≡◌, ℕ, suc, ◌≤◌, Bool, true, false, List, [], ◌∷◌, ◌++◌, take, length, Option, Some, None, Ok, refl, sym, ap, ◌∙◌, subst, arith}
use Rattle.std.specs.Prelude.{◌==◌, ◌&&◌, not, nat_le}
use Rattle.std.specs.Str.{bytes_eq}
use Rattle.std.proofs.lemmas.Bool.Decides.{nat_tests}
use Rattle.std.proofs.lemmas.Slice.Eq.{bytes_eq-Decides}
use Rattle.agxx_base.specs.declared.vocabulary.Sign.{Sign}
use Rattle.agxx_base.specs.declared.vocabulary.Sign.TheVariants as sign
use Rattle.agxx_base.specs.Vocabulary.{sign_text}
use Rattle.cxx_lex.specs.declared.tok.Lexeme.{Lexeme}
use Rattle.cxx_lex.specs.declared.tok.TokKind.TheVariants as kind
use Rattle.cxx_lex.specs.Bytes.{is_blank, is_letter, is_digit}
use Rattle.cxx_lex.specs.Words.{entry_of}
use Rattle.cxx_lex.specs.SignScan.{signs, one, two, three, sign_or, sign_lexeme}
use Rattle.cxx_lex.proofs.Runs.{both, not-false}
use Rattle.cxx_lex.proofs.Tables.{entry-pass}

pub sign-entry : (s : Sign) → entry_of signs (sign_text s) ≡ Some s
sign-entry sign.OpenBrace = refl
sign-entry _ = refl

pub entry-sign : (text : List ℕ) (s : Sign) → entry_of signs text ≡ Some s → text ≡ sign_text s
entry-sign text s e = sym ((bytes_eq-Decides (sign_text s) text).0 (entry-pass (λ p. bytes_eq (sign_text p.1) p.0) signs refl text s e))

-- what a sign's first byte is not
abbrev is_sign_front : List ℕ → Bool
is_sign_front [] = false
is_sign_front (b ∷ bs) = not (is_letter b) && (not (is_digit b) && (not (b == 34) && (not (b == 35) && not (is_blank b))))

pub record IsSignByte (b : ℕ) : Type 0 where
  pub letter : is_letter b ≡ false
  pub digit : is_digit b ≡ false
  pub quote : (b == 34) ≡ false
  pub hash : (b == 35) ≡ false
  pub blank : is_blank b ≡ false

pub sign-first : (s : Sign) (b : ℕ) (bs : List ℕ) → b ∷ bs ≡ sign_text s → IsSignByte b
sign-first s b bs e =
    let p : is_sign_front (b ∷ bs) ≡ true = entry-pass (λ p. is_sign_front p.0) signs refl (b ∷ bs) s (ap (entry_of signs) e ∙ sign-entry s) in
    let l = both (not (is_letter b)) (not (is_digit b) && (not (b == 34) && (not (b == 35) && not (is_blank b)))) p in
    let d = both (not (is_digit b)) (not (b == 34) && (not (b == 35) && not (is_blank b))) l.1 in
    let q = both (not (b == 34)) (not (b == 35) && not (is_blank b)) d.1 in
    let h = both (not (b == 35)) (not (is_blank b)) q.1 in
    record { letter = not-false _ l.0; digit = not-false _ d.0; quote = not-false _ q.0; hash = not-false _ h.0; blank = not-false _ h.1 }

pub no-sign : (s : Sign) → [] ≡ sign_text s → ⊥
no-sign s e = let z : None ≡ Some s = ap (entry_of signs) e ∙ sign-entry s in cc

pub sign-unique : (s r : Sign) → sign_text s ≡ sign_text r → s ≡ r
sign-unique s r e = let z : Some s ≡ Some r = sym (sign-entry s) ∙ ap (entry_of signs) e ∙ sign-entry r in cc

-- the sign that is found stands here, and no longer one does
pub record IsSignCut (text : List ℕ) (l : Lexeme) : Type 0 where
  pub sign : Sign
  pub spells : take l.len text ≡ sign_text sign
  pub kind : l.kind ≡ Ok (kind.Sign sign)
  pub some : (m : ℕ) × (l.len ≡ suc m)
  pub within : l.len ≤ length text
  pub longest : (r : Sign) (behind : List ℕ) → text ≡ sign_text r ++ behind → length (sign_text r) ≤ l.len

abbrev FitsLength : List ℕ → Option Lexeme → Type 0
FitsLength text None = (r : Sign) (behind : List ℕ) → text ≡ sign_text r ++ behind → ⊥
FitsLength text (Some l) = IsSignCut text l

-- the text of a sign has up to three bytes
short : (s : Sign) → length (sign_text s) ≤ 3
short s = grind (arith, nat_tests, entry-pass (λ p. nat_le (length p.0) 3) signs refl (sign_text s) s (sign-entry s))

-- a sign at the front has one, two or three bytes
shapes : (text : List ℕ) (r : Sign) (behind front : List ℕ) → front ≡ sign_text r → text ≡ front ++ behind → (P : ℕ → Type 0)
    → ((b : ℕ) (bs : List ℕ) → text ≡ b ∷ bs → one b ≡ Some r → P 1)
    → ((b c : ℕ) (bs : List ℕ) → text ≡ b ∷ c ∷ bs → two b c ≡ Some r → P 2)
    → ((b c d : ℕ) (bs : List ℕ) → text ≡ b ∷ c ∷ d ∷ bs → three b c d ≡ Some r → P 3) → P (length front)
unfolding one two three
shapes text r behind [] f e P x y z = absurd (no-sign r f)
shapes text r behind (b ∷ []) f e P x y z = x b behind e (ap (entry_of signs) f ∙ sign-entry r)
shapes text r behind (b ∷ c ∷ []) f e P x y z = y b c behind e (ap (entry_of signs) f ∙ sign-entry r)
shapes text r behind (b ∷ c ∷ d ∷ []) f e P x y z = z b c d behind e (ap (entry_of signs) f ∙ sign-entry r)
shapes text r behind (b ∷ c ∷ d ∷ g ∷ gs) f e P x y z = absurd (omega (arith, short r, ap length f))

at-one : (b : ℕ) (bs : List ℕ) (r : Sign) → one b ≡ Some r → ((s : Sign) (behind : List ℕ) → b ∷ bs ≡ sign_text s ++ behind → length (sign_text s) ≤ 1)
    → IsSignCut (b ∷ bs) (record { kind = Ok (kind.Sign r); len = 1 })
unfolding one
at-one b bs r e m = record { sign = r; spells = entry-sign (b ∷ []) r e; kind = refl; some = (0, refl); within = omega arith; longest = m }

at-two : (b c : ℕ) (bs : List ℕ) (r : Sign) → two b c ≡ Some r → ((s : Sign) (behind : List ℕ) → b ∷ c ∷ bs ≡ sign_text s ++ behind → length (sign_text s) ≤ 2)
    → IsSignCut (b ∷ c ∷ bs) (record { kind = Ok (kind.Sign r); len = 2 })
unfolding two
at-two b c bs r e m = record { sign = r; spells = entry-sign (b ∷ c ∷ []) r e; kind = refl; some = (1, refl); within = omega arith; longest = m }

at-three : (b c d : ℕ) (bs : List ℕ) (r : Sign) → three b c d ≡ Some r → IsSignCut (b ∷ c ∷ d ∷ bs) (record { kind = Ok (kind.Sign r); len = 3 })
unfolding three
at-three b c d bs r e = record { sign = r; spells = entry-sign (b ∷ c ∷ d ∷ []) r e; kind = refl; some = (2, refl); within = omega arith; longest = λ s behind q. short s }

fits : (text : List ℕ) → FitsLength text (sign_lexeme text)
unfolding sign_lexeme
fits [] = λ r behind e. shapes [] r behind (sign_text r) refl e (λ n. ⊥) (λ b bs q o. cc) (λ b c bs q o. cc) (λ b c d bs q o. cc)
fits (b ∷ []) = go (one b) refl
  where
    go : (o : Option Sign) → one b ≡ o → FitsLength (b ∷ []) (sign_or 1 o None)
    go (Some r) e = at-one b [] r e (λ s behind q. shapes (b ∷ []) s behind (sign_text s) refl q (λ n. n ≤ 1) (λ x xs p o. omega arith) (λ x y xs p o. cc) (λ x y z xs p o. cc))
    go None e = λ r behind q. shapes (b ∷ []) r behind (sign_text r) refl q (λ n. ⊥) (λ x xs p o. let k : None ≡ Some r = sym e ∙ ap one (let h : b ≡ x = cc in h) ∙ o in cc) (λ x y xs p o. cc) (λ x y z xs p o. cc)
fits (b ∷ c ∷ []) = go (two b c) refl (one b) refl
  where
    go : (t : Option Sign) → two b c ≡ t → (o : Option Sign) → one b ≡ o → FitsLength (b ∷ c ∷ []) (sign_or 2 t (sign_or 1 o None))
    go (Some r) f o e = at-two b c [] r f (λ s behind q. shapes (b ∷ c ∷ []) s behind (sign_text s) refl q (λ n. n ≤ 2) (λ x xs p o. omega arith) (λ x y xs p o. omega arith) (λ x y z xs p o. cc))
    go None f (Some r) e = at-one b (c ∷ []) r e (λ s behind q. shapes (b ∷ c ∷ []) s behind (sign_text s) refl q (λ n. n ≤ 1) (λ x xs p o. omega arith)
        (λ x y xs p o. let k : None ≡ Some s = sym f ∙ ap (λ z. two z c) (let h : b ≡ x = cc in h) ∙ ap (two x) (let h : c ≡ y = cc in h) ∙ o in cc) (λ x y z xs p o. cc))
    go None f None e = λ r behind q. shapes (b ∷ c ∷ []) r behind (sign_text r) refl q (λ n. ⊥) (λ x xs p o. let k : None ≡ Some r = sym e ∙ ap one (let h : b ≡ x = cc in h) ∙ o in cc)
        (λ x y xs p o. let k : None ≡ Some r = sym f ∙ ap (λ z. two z c) (let h : b ≡ x = cc in h) ∙ ap (two x) (let h : c ≡ y = cc in h) ∙ o in cc) (λ x y z xs p o. cc)
fits (b ∷ c ∷ d ∷ ds) = go (three b c d) refl (two b c) refl (one b) refl
  where
    firsts : (s : Sign) → three b c d ≡ None → (x y z : ℕ) (xs : List ℕ) → b ∷ c ∷ d ∷ ds ≡ x ∷ y ∷ z ∷ xs → three x y z ≡ Some s → ⊥
    firsts s g x y z xs p o =
        let k : None ≡ Some s = sym g ∙ ap (λ q. three q c d) (let h : b ≡ x = cc in h) ∙ ap (λ q. three x q d) (let h : c ≡ y = cc in h) ∙ ap (three x y) (let h : d ≡ z = cc in h) ∙ o in cc

    pairs : (s : Sign) → two b c ≡ None → (x y : ℕ) (xs : List ℕ) → b ∷ c ∷ d ∷ ds ≡ x ∷ y ∷ xs → two x y ≡ Some s → ⊥
    pairs s f x y xs p o = let k : None ≡ Some s = sym f ∙ ap (λ z. two z c) (let h : b ≡ x = cc in h) ∙ ap (two x) (let h : c ≡ y = cc in h) ∙ o in cc

    go : (u : Option Sign) → three b c d ≡ u → (t : Option Sign) → two b c ≡ t → (o : Option Sign) → one b ≡ o → FitsLength (b ∷ c ∷ d ∷ ds) (sign_or 3 u (sign_or 2 t (sign_or 1 o None)))
    go (Some r) g t f o e = at-three b c d ds r g
    go None g (Some r) f o e = at-two b c (d ∷ ds) r f (λ s behind q. shapes (b ∷ c ∷ d ∷ ds) s behind (sign_text s) refl q (λ n. n ≤ 2) (λ x xs p o. omega arith) (λ x y xs p o. omega arith) (λ x y z xs p o. absurd (firsts s g x y z xs p o)))
    go None g None f (Some r) e = at-one b (c ∷ d ∷ ds) r e (λ s behind q. shapes (b ∷ c ∷ d ∷ ds) s behind (sign_text s) refl q (λ n. n ≤ 1) (λ x xs p o. omega arith)
        (λ x y xs p o. absurd (pairs s f x y xs p o)) (λ x y z xs p o. absurd (firsts s g x y z xs p o)))
    go None g None f None e = λ r behind q. shapes (b ∷ c ∷ d ∷ ds) r behind (sign_text r) refl q (λ n. ⊥) (λ x xs p o. let k : None ≡ Some r = sym e ∙ ap one (let h : b ≡ x = cc in h) ∙ o in cc) (pairs r f) (firsts r g)

pub sign-cut : (text : List ℕ) (l : Lexeme) → sign_lexeme text ≡ Some l → IsSignCut text l
sign-cut text l e = subst (FitsLength text) e (fits text)

pub sign-none : (text : List ℕ) → sign_lexeme text ≡ None → (r : Sign) (behind : List ℕ) → text ≡ sign_text r ++ behind → ⊥
sign-none text e = subst (FitsLength text) e (fits text)
