-- Directives at the front of a text.
use Rattle.std.proofs.Common.{◌≡◌, ◌≢◌, ℕ, suc, ◌+◌, Bool, true, false, cond, List, [], ◌∷◌, ◌++◌, take, drop, length, length-append, append_assoc, codes, Option, Some, None, Ok, refl, sym, ap, ◌∙◌, subst, eq-eqb, arith}
use Rattle.std.specs.Prelude.{◌==◌, ◌&&◌, not, nat_eq}
use Rattle.std.specs.List.{list_all}
use Rattle.std.proofs.lemmas.Bool.{false≢true}
use Rattle.std.proofs.lemmas.Bool.Decides.{Decides-eqb, nat_tests}
use Rattle.std.proofs.lemmas.Slice.Eq.{starts_is}
use Rattle.std.proofs.lemmas.List.{take-append-drop, length-take-le}
use Rattle.std.proofs.Math.Seq.{drop-append_seam}
use Rattle.agxx_base.specs.declared.vocabulary.Header.{Header}
use Rattle.agxx_base.specs.declared.vocabulary.Header.TheVariants as header
use Rattle.cxx_lex.specs.declared.tok.Lexeme.{Lexeme}
use Rattle.cxx_lex.specs.declared.tok.TokKind.{TokKind}
use Rattle.cxx_lex.specs.declared.tok.TokKind.TheVariants as kind
use Rattle.cxx_lex.specs.Bytes.{is_space}
use Rattle.cxx_lex.specs.Directives.{bracketed, IsDirective, include, pragma}
use Rattle.cxx_lex.specs.DirectiveScan.{stands, headers, first_header, header_at, header_lexeme, include_lexeme, pragma_lexeme, worded_lexeme, directive_lexeme}
use Rattle.cxx_lex.specs.Runs.{run}
use Rattle.cxx_lex.proofs.Runs.{Stops, run-le, run-all, run-front}

-- blanks are passed
pub passed : (gap rest : List ℕ) → list_all is_space gap ≡ true → Stops is_space rest → (run is_space (gap ++ rest) ≡ length gap) × (drop (run is_space (gap ++ rest)) (gap ++ rest) ≡ rest)
passed gap rest a s = let n = run-front is_space gap rest a s in (n, ap (λ k. drop k (gap ++ rest)) n ∙ drop-append_seam gap rest)

stands-is : (word text : List ℕ) → stands word text ≡ true → text ≡ word ++ drop (length word) text
stands-is word text e = (starts_is {E = nat_eq} Decides-eqb text word (stands word text) refl).0 e

-- ---- a directive that stands here is found

header-found : (h : Header) (behind : List ℕ) → header_at (bracketed h ++ behind) ≡ Some h
header-found header.Cstdint behind = refl
header-found _ behind = refl

after-hash : (gap rest : List ℕ) → list_all is_space gap ≡ true → Stops is_space rest → directive_lexeme (gap ++ rest) ≡ worded_lexeme (length gap) rest
unfolding directive_lexeme
after-hash gap rest a s = let p = passed gap rest a s in ap (λ n. worded_lexeme n (drop (run is_space (gap ++ rest)) (gap ++ rest))) p.0 ∙ ap (worded_lexeme (length gap)) p.1

include-found : (n : ℕ) (other behind : List ℕ) (h : Header) → list_all is_space other ≡ true
    → include_lexeme n (other ++ (bracketed h ++ behind)) ≡ Some (record { kind = Ok (kind.Include h); len = n + length other + length (bracketed h) })
include-found n other behind h a =
    let p = passed other (bracketed h ++ behind) a refl in
    ap (λ k. header_lexeme (n + k) (header_at (drop (run is_space (other ++ (bracketed h ++ behind))) (other ++ (bracketed h ++ behind))))) p.0
    ∙ ap (λ t. header_lexeme (n + length other) (header_at t)) p.1 ∙ ap (header_lexeme (n + length other)) (header-found h behind)

pragma-found : (n : ℕ) (other behind : List ℕ) → list_all is_space other ≡ true → other ≢ []
    → pragma_lexeme n (other ++ (codes "once" ++ behind)) ≡ Some (record { kind = Ok kind.PragmaOnce; len = n + length other + 4 })
pragma-found n [] behind a s = absurd (s refl)
pragma-found n (x ∷ xs) behind a s =
    let p = passed (x ∷ xs) (codes "once" ++ behind) a refl in
    let z : (suc (length xs) == 0) ≡ false = grind (arith, nat_tests) in
    rw (p.1, p.0, z) refl

pub directive-exact : (token : TokKind) (front behind text : List ℕ) → IsDirective token front → 35 ∷ text ≡ front ++ behind → directive_lexeme text ≡ Some (record { kind = Ok token; len = length front })
directive-exact token front behind text (include gap other h a b f k) e =
    let whole : 35 ∷ text ≡ 35 ∷ ((gap ++ (codes "include" ++ (other ++ bracketed h))) ++ behind) = e ∙ ap (λ z. z ++ behind) f in
    let inner : text ≡ (gap ++ (codes "include" ++ (other ++ bracketed h))) ++ behind = cc in
    let rest : text ≡ gap ++ (codes "include" ++ (other ++ (bracketed h ++ behind))) =
    inner ∙ append_assoc gap (codes "include" ++ (other ++ bracketed h)) behind ∙ ap (λ z. gap ++ (codes "include" ++ z)) (append_assoc other (bracketed h) behind) in
    let m : length gap + 8 + length other + length (bracketed h) ≡ length front =
    omega (arith, ap length f, length-append gap (codes "include" ++ (other ++ bracketed h)), length-append other (bracketed h)) in
    ap directive_lexeme rest ∙ after-hash gap (codes "include" ++ (other ++ (bracketed h ++ behind))) a refl ∙ include-found (length gap + 8) other behind h b
    ∙ ap (λ n. Some (record { kind = Ok (kind.Include h); len = n })) m ∙ ap (λ t. Some (record { kind = Ok t; len = length front })) (sym k)
directive-exact token front behind text (pragma gap other a b n f k) e =
    let whole : 35 ∷ text ≡ 35 ∷ ((gap ++ (codes "pragma" ++ (other ++ codes "once"))) ++ behind) = e ∙ ap (λ z. z ++ behind) f in
    let inner : text ≡ (gap ++ (codes "pragma" ++ (other ++ codes "once"))) ++ behind = cc in
    let rest : text ≡ gap ++ (codes "pragma" ++ (other ++ (codes "once" ++ behind))) =
    inner ∙ append_assoc gap (codes "pragma" ++ (other ++ codes "once")) behind ∙ ap (λ z. gap ++ (codes "pragma" ++ z)) (append_assoc other (codes "once") behind) in
    let m : length gap + 7 + length other + 4 ≡ length front =
    omega (arith, ap length f, length-append gap (codes "pragma" ++ (other ++ codes "once")), length-append other (codes "once")) in
    ap directive_lexeme rest ∙ after-hash gap (codes "pragma" ++ (other ++ (codes "once" ++ behind))) a refl ∙ pragma-found (length gap + 7) other behind b n
    ∙ ap (λ z. Some (record { kind = Ok kind.PragmaOnce; len = z })) m ∙ ap (λ t. Some (record { kind = Ok t; len = length front })) (sym k)

pub directive-first : (token : TokKind) (b : ℕ) (bs : List ℕ) → IsDirective token (b ∷ bs) → b ≡ 35
directive-first token b bs (include gap other h a c f k) = cc
directive-first token b bs (pragma gap other a c n f k) = cc

pub no-directive : (token : TokKind) → IsDirective token [] → ⊥
no-directive token (include gap other h a c f k) = cc
no-directive token (pragma gap other a c n f k) = cc

-- ---- what is found is a directive

pub record IsDirectiveCut (text : List ℕ) (l : Lexeme) : Type 0 where
  pub token : TokKind
  pub front : List ℕ
  pub behind : List ℕ
  pub parts : 35 ∷ text ≡ front ++ behind
  pub directive : IsDirective token front
  pub kind : l.kind ≡ Ok token
  pub len : l.len ≡ length front

header-is : (hs : List Header) (text : List ℕ) (h : Header) → first_header hs text ≡ Some h → stands (bracketed h) text ≡ true
header-is [] text h e = cc
header-is (x ∷ hs) text h e = go (stands (bracketed x) text) refl e (header-is hs text h)
  where
    go : (y : Bool) → stands (bracketed x) text ≡ y → cond y (Some x) (first_header hs text) ≡ Some h → (first_header hs text ≡ Some h → stands (bracketed h) text ≡ true) → stands (bracketed h) text ≡ true
    go true s f next = let q : x ≡ h = cc in subst (λ z. stands (bracketed z) text ≡ true) q s
    go false s f next = next f

-- the parts of a text that begins with blanks and a word
split : (text word : List ℕ) → stands word (drop (run is_space text) text) ≡ true
    → text ≡ take (run is_space text) text ++ (word ++ drop (length word) (drop (run is_space text) text))
split text word e = sym (take-append-drop (run is_space text) text) ∙ ap (λ z. take (run is_space text) text ++ z) (stands-is word (drop (run is_space text) text) e)

run-len : (text : List ℕ) → length (take (run is_space text) text) ≡ run is_space text
run-len text = length-take-le (run is_space text) text (run-le is_space text)

include-cut : (text rest : List ℕ) (l : Lexeme) → text ≡ take (run is_space text) text ++ (codes "include" ++ rest) → include_lexeme (run is_space text + 8) rest ≡ Some l → IsDirectiveCut text l
include-cut text rest l p e = go (header_at (drop (run is_space rest) rest)) refl e
  where
    go : (o : Option Header) → header_at (drop (run is_space rest) rest) ≡ o → header_lexeme (run is_space text + 8 + run is_space rest) o ≡ Some l → IsDirectiveCut text l
    go None h f = cc
    go (Some h) q f =
        let gap = take (run is_space text) text in
        let other = take (run is_space rest) rest in
        let behind = drop (length (bracketed h)) (drop (run is_space rest) rest) in
        let inner : rest ≡ other ++ (bracketed h ++ behind) = split rest (bracketed h) (header-is headers (drop (run is_space rest) rest) h q) in
        let whole : 35 ∷ text ≡ (35 ∷ (gap ++ (codes "include" ++ (other ++ bracketed h)))) ++ behind =
        ap (λ z. 35 ∷ z) (p ∙ ap (λ z. gap ++ (codes "include" ++ z)) (inner ∙ sym (append_assoc other (bracketed h) behind)) ∙ sym (append_assoc gap (codes "include" ++ (other ++ bracketed h)) behind)) in
        let m : run is_space text + 8 + run is_space rest + length (bracketed h) ≡ length (35 ∷ (gap ++ (codes "include" ++ (other ++ bracketed h)))) =
        omega (arith, run-len text, run-len rest, length-append gap (codes "include" ++ (other ++ bracketed h)), length-append other (bracketed h)) in
        let s : record { kind = Ok (kind.Include h); len = run is_space text + 8 + run is_space rest + length (bracketed h) } ≡ l = cc in
        subst (IsDirectiveCut text) s (record {
          token = kind.Include h;
          front = 35 ∷ (gap ++ (codes "include" ++ (other ++ bracketed h)));
          behind = behind;
          parts = whole;
          directive = include gap other h (run-all is_space text) (run-all is_space rest) refl refl;
          kind = refl;
          len = m;
        })

pragma-cut : (text rest : List ℕ) (l : Lexeme) → text ≡ take (run is_space text) text ++ (codes "pragma" ++ rest) → pragma_lexeme (run is_space text + 7) rest ≡ Some l → IsDirectiveCut text l
pragma-cut text rest l p e = go (run is_space rest == 0) refl (stands (codes "once") (drop (run is_space rest) rest)) refl e
  where
    go : (x : Bool) → (run is_space rest == 0) ≡ x → (y : Bool) → stands (codes "once") (drop (run is_space rest) rest) ≡ y
        → cond (not x && y) (Some (record { kind = Ok kind.PragmaOnce; len = run is_space text + 7 + run is_space rest + 4 })) None ≡ Some l → IsDirectiveCut text l
    go true u y q f = cc
    go false u false q f = cc
    go false u true q f =
        let gap = take (run is_space text) text in
        let other = take (run is_space rest) rest in
        let behind = drop 4 (drop (run is_space rest) rest) in
        let inner : rest ≡ other ++ (codes "once" ++ behind) = split rest (codes "once") q in
        let whole : 35 ∷ text ≡ (35 ∷ (gap ++ (codes "pragma" ++ (other ++ codes "once")))) ++ behind =
        ap (λ z. 35 ∷ z) (p ∙ ap (λ z. gap ++ (codes "pragma" ++ z)) (inner ∙ sym (append_assoc other (codes "once") behind)) ∙ sym (append_assoc gap (codes "pragma" ++ (other ++ codes "once")) behind)) in
        let m : run is_space text + 7 + run is_space rest + 4 ≡ length (35 ∷ (gap ++ (codes "pragma" ++ (other ++ codes "once")))) =
        omega (arith, run-len text, run-len rest, length-append gap (codes "pragma" ++ (other ++ codes "once")), length-append other (codes "once")) in
        let s : record { kind = Ok kind.PragmaOnce; len = run is_space text + 7 + run is_space rest + 4 } ≡ l = cc in
        let n : other ≢ [] = λ h. absurd (false≢true (sym u ∙ eq-eqb (run is_space rest) 0 (sym (run-len rest) ∙ ap length h))) in
        subst (IsDirectiveCut text) s (record {
          token = kind.PragmaOnce;
          front = 35 ∷ (gap ++ (codes "pragma" ++ (other ++ codes "once")));
          behind = behind;
          parts = whole;
          directive = pragma gap other (run-all is_space text) (run-all is_space rest) n refl refl;
          kind = refl;
          len = m;
        })

pub directive-cut : (text : List ℕ) (l : Lexeme) → directive_lexeme text ≡ Some l → IsDirectiveCut text l
unfolding directive_lexeme
directive-cut text l e = go (stands (codes "include") (drop (run is_space text) text)) refl (stands (codes "pragma") (drop (run is_space text) text)) refl e
  where
    go : (x : Bool) → stands (codes "include") (drop (run is_space text) text) ≡ x → (y : Bool) → stands (codes "pragma") (drop (run is_space text) text) ≡ y
        → cond x (include_lexeme (run is_space text + 8) (drop 7 (drop (run is_space text) text))) (cond y (pragma_lexeme (run is_space text + 7) (drop 6 (drop (run is_space text) text))) None) ≡ Some l → IsDirectiveCut text l
    go true s y t f = include-cut text (drop 7 (drop (run is_space text) text)) l (split text (codes "include") s) f
    go false s true t f = pragma-cut text (drop 6 (drop (run is_space text) text)) l (split text (codes "pragma") t) f
    go false s false t f = cc
