-- The member that is found is the longest, and where none is found none stands.
use Rattle.std.proofs.Common.{◌≡◌, ℕ, ◌≤◌, Bool, true, false, cond, List, [], ◌∷◌, ◌++◌, take, drop, length, length-append, Option, Some, None, Result, Ok, refl, sym, ap, ◌∙◌, subst, arith}
use Rattle.std.specs.Prelude.{◌==◌}
use Rattle.std.proofs.lemmas.Bool.{eqb-true}
use Rattle.std.proofs.lemmas.List.{take-append-drop, length-take-le}
use Rattle.std.proofs.Math.Seq.{take-append_seam}
use Rattle.agxx_base.specs.declared.kind.Mode.{Mode}
use Rattle.agxx_base.specs.declared.rule.Rule.{Rule}
use Rattle.cxx_lex.specs.declared.tok.Lexeme.{Lexeme}
use Rattle.cxx_lex.specs.declared.tok.TokKind.{TokKind}
use Rattle.cxx_lex.specs.declared.tok.TokKind.TheVariants as kind
use Rattle.cxx_lex.specs.Bytes.{is_letter, is_digit, is_part}
use Rattle.cxx_lex.specs.Directives.{IsDirective}
use Rattle.cxx_lex.specs.Lexemes.{IsLexeme, word, number, literal, directive, sign, IsLongest}
use Rattle.cxx_lex.specs.Runs.{run}
use Rattle.cxx_lex.specs.WordScan.{word_lexeme}
use Rattle.cxx_lex.specs.NumberScan.{number_lexeme}
use Rattle.cxx_lex.specs.StringScan.{string_lexeme}
use Rattle.cxx_lex.specs.DirectiveScan.{directive_lexeme}
use Rattle.cxx_lex.specs.SignScan.{sign_lexeme}
use Rattle.cxx_lex.specs.Scan.{lexeme}
use Rattle.cxx_lex.proofs.Runs.{run-le, run-all, run-most}
use Rattle.cxx_lex.proofs.StringCut.{string-cut, string-exact}
use Rattle.cxx_lex.proofs.SignCut.{sign-cut, sign-none}
use Rattle.cxx_lex.proofs.NumberCut.{number-cut}
use Rattle.cxx_lex.proofs.DirectiveCut.{directive-cut, directive-exact}
use Rattle.cxx_lex.proofs.Members.{no-member, only-word, only-number, only-string, only-directive, only-sign, verdict-unique}

pub record IsCut (mode : Mode) (text : List ℕ) (l : Lexeme) : Type 0 where
  pub member : IsLexeme mode l.kind (take l.len text)
  pub within : l.len ≤ length text
  pub longest : (other : Result TokKind Rule) (front behind : List ℕ) → IsLexeme mode other front → text ≡ front ++ behind → length front ≤ l.len

abbrev len_of : ℕ → Option Lexeme → ℕ
len_of n None = n
len_of n (Some l) = l.len

-- no member of the sets begins here
abbrev pub IsNoFront : Mode → List ℕ → Type 0
IsNoFront mode text = (other : Result TokKind Rule) (front behind : List ℕ) → IsLexeme mode other front → text ≡ front ++ behind → ⊥

abbrev pub IsFound : Mode → List ℕ → Option Lexeme → Type 0
IsFound mode text None = IsNoFront mode text
IsFound mode text (Some l) = IsCut mode text l

-- what is shown of members that begin with the text's byte holds of all that begin it
by-first : (mode : Mode) (b : ℕ) (bs : List ℕ) (P : ℕ → Type 0)
    → ((other : Result TokKind Rule) (more behind : List ℕ) → IsLexeme mode other (b ∷ more) → b ∷ bs ≡ (b ∷ more) ++ behind → P (length (b ∷ more)))
    → (other : Result TokKind Rule) (front behind : List ℕ) → IsLexeme mode other front → b ∷ bs ≡ front ++ behind → P (length front)
by-first mode b bs P f other [] behind i e = absurd (no-member mode other i)
by-first mode b bs P f other (c ∷ cs) behind i e =
    let s : c ≡ b = cc in
    f other cs behind (subst (λ q. IsLexeme mode other (q ∷ cs)) s i) (e ∙ ap (λ q. q ∷ (cs ++ behind)) s)

word-cut : (mode : Mode) (b : ℕ) (bs : List ℕ) → is_letter b ≡ true → IsCut mode (b ∷ bs) (word_lexeme mode (b ∷ bs))
unfolding word_lexeme
word-cut mode b bs l = record {
  member = word (rw part (l, run-all is_part bs)) refl;
  within = run-le is_part (b ∷ bs);
  longest = by-first mode b bs (λ n. n ≤ run is_part (b ∷ bs)) (λ other more behind i e.
      let w = (only-word mode other b more l i).0 in
      subst (λ q. length (b ∷ more) ≤ run is_part q) (sym e) (run-most is_part (b ∷ more) behind (rw part w.1)));
}
  where
    part : is_part b ≡ true
    part = rw l refl

number-found : (mode : Mode) (b : ℕ) (bs : List ℕ) → is_digit b ≡ true → IsCut mode (b ∷ bs) (number_lexeme (b ∷ bs))
number-found mode b bs d =
    let n = number-cut b bs d in record {
      member = number n.base n.value n.ending n.number n.kind;
      within = n.within;
      longest = by-first mode b bs (λ k. k ≤ (number_lexeme (b ∷ bs)).len) (λ other more behind i e.
          let m = only-number mode other b more d i in n.longest m.base m.value m.ending (b ∷ more) behind m.number e);
    }

string-found : (mode : Mode) (bs : List ℕ) (o : Option Lexeme) → string_lexeme bs ≡ o → IsFound mode (34 ∷ bs) o
string-found mode bs None e = λ other front behind i q. by-first mode 34 bs (λ k. ⊥) (λ other more behind i q.
    let s = only-string mode other more i in
    let z : None ≡ Some (record { kind = Ok kind.Text; len = length (34 ∷ more) }) = sym e ∙ string-exact s.0 (34 ∷ more) behind bs s.1 q in cc) other front behind i q
string-found mode bs (Some l) e =
    let c = string-cut bs l e in record {
      member = literal c.value c.string c.kind;
      within = c.within;
      longest = by-first mode 34 bs (λ k. k ≤ l.len) (λ other more behind i q.
          let s = only-string mode other more i in
          let z : Some l ≡ Some (record { kind = Ok kind.Text; len = length (34 ∷ more) }) = sym e ∙ string-exact s.0 (34 ∷ more) behind bs s.1 q in
          omega (arith, ap (len_of 0) z));
    }

directive-found : (mode : Mode) (bs : List ℕ) (o : Option Lexeme) → directive_lexeme bs ≡ o → IsFound mode (35 ∷ bs) o
directive-found mode bs None e = λ other front behind i q. by-first mode 35 bs (λ k. ⊥) (λ other more behind i q.
    let s = only-directive mode other more i in
    let z : None ≡ Some (record { kind = Ok s.0; len = length (35 ∷ more) }) = sym e ∙ directive-exact s.0 (35 ∷ more) behind bs s.1 q in cc) other front behind i q
directive-found mode bs (Some l) e =
    let c = directive-cut bs l e in
    let t : take l.len (35 ∷ bs) ≡ c.front = ap (λ k. take k (35 ∷ bs)) c.len ∙ ap (take (length c.front)) c.parts ∙ take-append_seam c.front c.behind in
    record {
      member = directive c.token (subst (IsDirective c.token) (sym t) c.directive) c.kind;
      within = omega (arith, c.len, ap length c.parts, length-append c.front c.behind);
      longest = by-first mode 35 bs (λ k. k ≤ l.len) (λ other more behind i q.
          let s = only-directive mode other more i in
          let z : Some l ≡ Some (record { kind = Ok s.0; len = length (35 ∷ more) }) = sym e ∙ directive-exact s.0 (35 ∷ more) behind bs s.1 q in
          omega (arith, ap (len_of 0) z));
    }

sign-found : (mode : Mode) (b : ℕ) (bs : List ℕ) → is_letter b ≡ false → is_digit b ≡ false → (b == 34) ≡ false → (b == 35) ≡ false → (o : Option Lexeme) → sign_lexeme (b ∷ bs) ≡ o → IsFound mode (b ∷ bs) o
sign-found mode b bs l d q h None e = λ other front behind i p. by-first mode b bs (λ k. ⊥) (λ other more behind i p.
    let s = only-sign mode other b more l d q h i in sign-none (b ∷ bs) e s.0 behind (p ∙ ap (λ z. z ++ behind) s.1)) other front behind i p
sign-found mode b bs l d q h (Some k) e =
    let c = sign-cut (b ∷ bs) k e in record {
      member = sign c.sign c.spells c.kind;
      within = c.within;
      longest = by-first mode b bs (λ n. n ≤ k.len) (λ other more behind i p.
          let s = only-sign mode other b more l d q h i in
          subst (λ z. length z ≤ k.len) (sym s.1) (c.longest s.0 behind (p ∙ ap (λ z. z ++ behind) s.1)));
    }

pub lexeme-found : (mode : Mode) (text : List ℕ) → IsFound mode text (lexeme mode text)
lexeme-found mode [] = nothing
  where
    nothing : IsNoFront mode []
    nothing other [] behind i e = no-member mode other i
    nothing other (c ∷ cs) behind i e = cc
lexeme-found mode (b ∷ bs) = go (is_letter b) refl (is_digit b) refl (b == 34) refl (b == 35) refl
  where
    go : (l : Bool) → is_letter b ≡ l → (d : Bool) → is_digit b ≡ d → (q : Bool) → (b == 34) ≡ q → (h : Bool) → (b == 35) ≡ h
        → IsFound mode (b ∷ bs) (cond l (Some (word_lexeme mode (b ∷ bs))) (cond d (Some (number_lexeme (b ∷ bs))) (cond q (string_lexeme bs) (cond h (directive_lexeme bs) (sign_lexeme (b ∷ bs))))))
    go true e d f q g h i = word-cut mode b bs e
    go false e true f q g h i = number-found mode b bs f
    go false e false f true g h i = subst (λ z. IsFound mode (z ∷ bs) (string_lexeme bs)) (sym (eqb-true b 34 g)) (string-found mode bs (string_lexeme bs) refl)
    go false e false f false g true i = subst (λ z. IsFound mode (z ∷ bs) (directive_lexeme bs)) (sym (eqb-true b 35 i)) (directive-found mode bs (directive_lexeme bs) refl)
    go false e false f false g false i = sign-found mode b bs e f g i (sign_lexeme (b ∷ bs)) refl

-- the longest member is the one that is found
pub longest-found : (mode : Mode) (v : Result TokKind Rule) (text rest : List ℕ) → IsLongest mode v text rest → lexeme mode (text ++ rest) ≡ Some (record { kind = v; len = length text })
longest-found mode v text rest i = go (lexeme mode (text ++ rest)) (lexeme-found mode (text ++ rest))
  where
    go : (o : Option Lexeme) → IsFound mode (text ++ rest) o → o ≡ Some (record { kind = v; len = length text })
    go None f = absurd (f v text rest i.lexeme refl)
    go (Some l) f =
        let n : l.len ≡ length text =
        omega (arith, f.longest v text rest i.lexeme refl, i.longest l.kind (take l.len (text ++ rest)) (drop l.len (text ++ rest)) f.member (sym (take-append-drop l.len (text ++ rest))), length-take-le l.len (text ++ rest) f.within) in
        let t : take l.len (text ++ rest) ≡ text = ap (λ k. take k (text ++ rest)) n ∙ take-append_seam text rest in
        let k : l.kind ≡ v = verdict-unique mode l.kind v text (subst (IsLexeme mode l.kind) t f.member) i.lexeme in
        ap (λ q. Some (record { kind = q; len = l.len })) k ∙ ap (λ q. Some (record { kind = v; len = q })) n

pub none-found : (mode : Mode) (text : List ℕ) → IsNoFront mode text → lexeme mode text ≡ None
none-found mode text f = go (lexeme mode text) (lexeme-found mode text)
  where
    go : (o : Option Lexeme) → IsFound mode text o → o ≡ None
    go None g = refl
    go (Some l) g = absurd (f l.kind (take l.len text) (drop l.len text) g.member (sym (take-append-drop l.len text)))
