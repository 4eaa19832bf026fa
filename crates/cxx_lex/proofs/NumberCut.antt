-- Numbers at the front of a text.
use Rattle.std.proofs.Common.{◌≡◌, ℕ, suc, ◌≤◌, ◌+◌, Bool, true, false, cond, List, [], ◌∷◌, ◌++◌, take, drop, length, length-append, length-drop, append_assoc, append-nil, Some, ◌⊎◌, inl, inr, refl, sym, ap, ◌∙◌, subst, arith}
use Rattle.std.specs.Prelude.{◌==◌, ◌&&◌, ◌||◌, not}
use Rattle.std.proofs.lemmas.Bool.{eqb-true}
use Rattle.std.proofs.lemmas.Bool.Decides.{nat_tests}
use Rattle.std.proofs.Math.Seq.{take-add, take-append_seam, drop-append_seam}
use Rattle.cxx_lex.specs.declared.numbers.Base.{Base}
use Rattle.cxx_lex.specs.declared.numbers.Suffix.{Suffix}
use Rattle.cxx_lex.specs.declared.numbers.Suffix.TheVariants as suffix
use Rattle.cxx_lex.specs.declared.tok.Lexeme.{Lexeme}
use Rattle.cxx_lex.specs.Bytes.{is_digit, is_hexadecimal, is_x}
use Rattle.cxx_lex.specs.Words.{entry_of}
use Rattle.cxx_lex.specs.Numbers.{in_base, IsNumeral, nought, decimal, hexadecimal, suffixes, IsNumber, number_verdict}
use Rattle.cxx_lex.specs.NumberScan.{is_prefixed, base_at, digits_len, digits_value, begins_twice, suffix_at, suffix_len, number_lexeme}
use Rattle.cxx_lex.specs.Runs.{run}
use Rattle.cxx_lex.proofs.Runs.{both, not-false, Stops, run-le, run-all, run-most, run-front}
use Rattle.cxx_lex.proofs.Tables.{entry-pass}

-- ---- suffixes

-- behind a numeral stands nothing that it could go on with
abbrev Apart : List ℕ → Type 0
Apart rest = Stops is_hexadecimal rest × Stops is_x rest

abbrev is_apart : List ℕ → Bool
is_apart [] = true
is_apart (b ∷ bs) = not (is_hexadecimal b) && not (is_x b)

suffix-apart : (rest : List ℕ) (s : Suffix) → entry_of suffixes rest ≡ Some s → (behind : List ℕ) → (rest ≡ [] → ⊥) → Apart (rest ++ behind)
suffix-apart [] s e behind n = absurd (n refl)
suffix-apart (b ∷ bs) s e behind n =
    let p : is_apart (b ∷ bs) ≡ true = entry-pass (λ q. is_apart q.0) suffixes refl (b ∷ bs) s e in
    let q = both (not (is_hexadecimal b)) (not (is_x b)) p in
    (not-false _ q.0, not-false _ q.1)

suffix-alone : (rest : List ℕ) (s : Suffix) → entry_of suffixes rest ≡ Some s → Apart rest
suffix-alone [] s e = (tt, tt)
suffix-alone (b ∷ bs) s e = subst Apart (append-nil (b ∷ bs)) (suffix-apart (b ∷ bs) s e [] (λ h. cc))

twice : (a : ℕ) (text : List ℕ) → begins_twice a text ≡ true → (more : List ℕ) × (text ≡ a ∷ a ∷ more)
twice a [] e = cc
twice a (b ∷ []) e = let z : false ≡ true = (both (b == a) false e).1 in cc
twice a (b ∷ c ∷ cs) e = let q = both (b == a) (c == a) e in (cs, ap (λ z. z ∷ c ∷ cs) (eqb-true b a q.0) ∙ ap (λ z. a ∷ z ∷ cs) (eqb-true c a q.1))

abbrev IsSuffixCut : List ℕ → Suffix → Type 0
IsSuffixCut text s = (entry_of suffixes (take (suffix_len s) text) ≡ Some s) × (suffix_len s ≤ length text)

suffix-cut : (text : List ℕ) → IsSuffixCut text (suffix_at text)
suffix-cut [] = (refl, omega arith)
suffix-cut (b ∷ bs) = go (b == 117) refl (b == 85) refl (begins_twice 108 bs) refl (begins_twice 76 bs) refl (begins_twice 108 (b ∷ bs)) refl (begins_twice 76 (b ∷ bs)) refl
  where
    go : (w : Bool) → (b == 117) ≡ w → (x : Bool) → (b == 85) ≡ x → (p : Bool) → begins_twice 108 bs ≡ p → (q : Bool) → begins_twice 76 bs ≡ q → (l : Bool) → begins_twice 108 (b ∷ bs) ≡ l → (m : Bool) → begins_twice 76 (b ∷ bs) ≡ m
        → IsSuffixCut (b ∷ bs) (cond w (cond p suffix.Ull suffix.U) (cond x (cond q suffix.Ull suffix.U) (cond l suffix.Ll (cond m suffix.Ll suffix.Plain))))
    go true e x f true g q h l i m j = subst (λ z. IsSuffixCut (z ∷ bs) suffix.Ull) (sym (eqb-true b 117 e)) (let t = twice 108 bs g in subst (λ z. IsSuffixCut (117 ∷ z) suffix.Ull) (sym t.1) (refl, omega arith))
    go true e x f false g q h l i m j = subst (λ z. IsSuffixCut (z ∷ bs) suffix.U) (sym (eqb-true b 117 e)) (refl, omega arith)
    go false e true f p g true h l i m j = subst (λ z. IsSuffixCut (z ∷ bs) suffix.Ull) (sym (eqb-true b 85 f)) (let t = twice 76 bs h in subst (λ z. IsSuffixCut (85 ∷ z) suffix.Ull) (sym t.1) (refl, omega arith))
    go false e true f p g false h l i m j = subst (λ z. IsSuffixCut (z ∷ bs) suffix.U) (sym (eqb-true b 85 f)) (refl, omega arith)
    go false e false f p g q h true i m j = let t = twice 108 (b ∷ bs) i in subst (λ z. IsSuffixCut z suffix.Ll) (sym t.1) (refl, omega arith)
    go false e false f p g q h false i true j = let t = twice 76 (b ∷ bs) j in subst (λ z. IsSuffixCut z suffix.Ll) (sym t.1) (refl, omega arith)
    go false e false f p g q h false i false j = (refl, omega arith)

-- the texts of the suffixes
abbrev is_suffix : List ℕ → Bool
is_suffix [] = true
is_suffix (b ∷ []) = b == 117 || b == 85
is_suffix (b ∷ c ∷ []) = (b == 108 && c == 108) || (b == 76 && c == 76)
is_suffix (b ∷ c ∷ d ∷ []) = (b == 117 && (c == 108 && d == 108)) || (b == 85 && (c == 76 && d == 76))
is_suffix (b ∷ c ∷ d ∷ e ∷ es) = false

either : (x y : Bool) → (x || y) ≡ true → (x ≡ true) ⊎ (y ≡ true)
either true y e = inl refl
either false y e = inr e

at-least-one : (p : Bool) → 1 ≤ suffix_len (cond p suffix.Ull suffix.U)
at-least-one true = omega arith
at-least-one false = omega arith

suffix-most-by : (ending behind : List ℕ) → is_suffix ending ≡ true → length ending ≤ suffix_len (suffix_at (ending ++ behind))
suffix-most-by [] behind e = omega arith
suffix-most-by (b ∷ []) behind e = go (either (b == 117) (b == 85) e)
  where
    go : ((b == 117) ≡ true) ⊎ ((b == 85) ≡ true) → 1 ≤ suffix_len (suffix_at (b ∷ behind))
    go (inl f) = subst (λ z. 1 ≤ suffix_len (suffix_at (z ∷ behind))) (sym (eqb-true b 117 f)) (at-least-one (begins_twice 108 behind))
    go (inr f) = subst (λ z. 1 ≤ suffix_len (suffix_at (z ∷ behind))) (sym (eqb-true b 85 f)) (at-least-one (begins_twice 76 behind))
suffix-most-by (b ∷ c ∷ []) behind e = go (either (b == 108 && c == 108) (b == 76 && c == 76) e)
  where
    go : ((b == 108 && c == 108) ≡ true) ⊎ ((b == 76 && c == 76) ≡ true) → 2 ≤ suffix_len (suffix_at (b ∷ c ∷ behind))
    go (inl f) = let q = both (b == 108) (c == 108) f in
        subst (λ z. 2 ≤ suffix_len (suffix_at (z ∷ c ∷ behind))) (sym (eqb-true b 108 q.0)) (subst (λ z. 2 ≤ suffix_len (suffix_at (108 ∷ z ∷ behind))) (sym (eqb-true c 108 q.1)) (omega arith))
    go (inr f) = let q = both (b == 76) (c == 76) f in
        subst (λ z. 2 ≤ suffix_len (suffix_at (z ∷ c ∷ behind))) (sym (eqb-true b 76 q.0)) (subst (λ z. 2 ≤ suffix_len (suffix_at (76 ∷ z ∷ behind))) (sym (eqb-true c 76 q.1)) (omega arith))
suffix-most-by (b ∷ c ∷ d ∷ []) behind e = go (either (b == 117 && (c == 108 && d == 108)) (b == 85 && (c == 76 && d == 76)) e)
  where
    go : ((b == 117 && (c == 108 && d == 108)) ≡ true) ⊎ ((b == 85 && (c == 76 && d == 76)) ≡ true) → 3 ≤ suffix_len (suffix_at (b ∷ c ∷ d ∷ behind))
    go (inl f) = let p = both (b == 117) (c == 108 && d == 108) f in let q = both (c == 108) (d == 108) p.1 in
        subst (λ z. 3 ≤ suffix_len (suffix_at (z ∷ c ∷ d ∷ behind))) (sym (eqb-true b 117 p.0))
        (subst (λ z. 3 ≤ suffix_len (suffix_at (117 ∷ z ∷ d ∷ behind))) (sym (eqb-true c 108 q.0)) (subst (λ z. 3 ≤ suffix_len (suffix_at (117 ∷ 108 ∷ z ∷ behind))) (sym (eqb-true d 108 q.1)) (omega arith)))
    go (inr f) = let p = both (b == 85) (c == 76 && d == 76) f in let q = both (c == 76) (d == 76) p.1 in
        subst (λ z. 3 ≤ suffix_len (suffix_at (z ∷ c ∷ d ∷ behind))) (sym (eqb-true b 85 p.0))
        (subst (λ z. 3 ≤ suffix_len (suffix_at (85 ∷ z ∷ d ∷ behind))) (sym (eqb-true c 76 q.0)) (subst (λ z. 3 ≤ suffix_len (suffix_at (85 ∷ 76 ∷ z ∷ behind))) (sym (eqb-true d 76 q.1)) (omega arith)))
suffix-most-by (b ∷ c ∷ d ∷ f ∷ fs) behind e = cc

suffix-most : (ending behind : List ℕ) (s : Suffix) → entry_of suffixes ending ≡ Some s → length ending ≤ suffix_len (suffix_at (ending ++ behind))
suffix-most ending behind s e = suffix-most-by ending behind (entry-pass (λ q. is_suffix q.0) suffixes refl ending s e)

-- ---- numerals

unprefixed : (b : ℕ) (bs : List ℕ) → (b == 48) ≡ false → is_prefixed (b ∷ bs) ≡ false
unprefixed b [] e = refl
unprefixed b (x ∷ []) e = refl
unprefixed b (x ∷ h ∷ hs) e = rw e refl

no-prefix : (rest : List ℕ) → Stops is_x rest → is_prefixed (48 ∷ rest) ≡ false
no-prefix [] s = refl
no-prefix (x ∷ []) s = refl
no-prefix (x ∷ h ∷ hs) s = rw s refl

stops-digit : (rest : List ℕ) → Stops is_hexadecimal rest → Stops is_digit rest
stops-digit [] s = tt
stops-digit (b ∷ bs) s = grind (arith, nat_tests, s)

pub numeral-first : (base : Base) (value : ℕ) (b : ℕ) (bs : List ℕ) → IsNumeral base value (b ∷ bs) → is_digit b ≡ true
numeral-first base value b bs (nought e v t) = let s : b ≡ 48 = cc in ap is_digit s
numeral-first base value b bs (decimal first more e t d n a v) = let s : b ≡ first = cc in ap is_digit s ∙ d
numeral-first base value b bs (hexadecimal x first more e t k d a v) = let s : b ≡ 48 = cc in ap is_digit s

no-numeral : (base : Base) (value : ℕ) → IsNumeral base value [] → ⊥
no-numeral base value (nought e v t) = cc
no-numeral base value (decimal first more e t d n a v) = cc
no-numeral base value (hexadecimal x first more e t k d a v) = cc

abbrev Most : List ℕ → List ℕ → Type 0
Most rest digits = length digits ≤ digits_len (digits ++ rest)

at-least : (x : Bool) (n : ℕ) → 1 ≤ cond x (suc (suc n)) 1
at-least true n = omega arith
at-least false n = omega arith

numeral-most : (base : Base) (value : ℕ) (digits rest : List ℕ) → IsNumeral base value digits → Most rest digits
numeral-most base value digits rest (nought e v t) = subst (Most rest) (sym t) (at-least (is_prefixed (48 ∷ rest)) _)
numeral-most base value digits rest (decimal first more e t d n a v) =
    let m : length (first ∷ more) ≤ run is_digit ((first ∷ more) ++ rest) = run-most is_digit (first ∷ more) rest (rw d a) in
    subst (Most rest) (sym t) (rw (unprefixed first (more ++ rest) n, n) m)
numeral-most base value digits rest (hexadecimal x first more e t k d a v) =
    let m : length (first ∷ more) ≤ run is_hexadecimal ((first ∷ more) ++ rest) = run-most is_hexadecimal (first ∷ more) rest (rw d a) in
    let p : is_prefixed (48 ∷ x ∷ first ∷ (more ++ rest)) ≡ true = rw (k, d) refl in
    subst (Most rest) (sym t) (rw p (omega (arith, m)))

abbrev Exact : Base → ℕ → List ℕ → List ℕ → Type 0
Exact base value rest digits = (digits_len (digits ++ rest) ≡ length digits) × (base_at (digits ++ rest) ≡ base) × (digits_value base digits ≡ value)

numeral-exact : (base : Base) (value : ℕ) (digits rest : List ℕ) → IsNumeral base value digits → Apart rest → Exact base value rest digits
numeral-exact base value digits rest (nought e v t) s =
    subst (Exact base value rest) (sym t) (rw (no-prefix rest s.1) refl, rw (no-prefix rest s.1) (sym e), ap (λ z. digits_value z (48 ∷ [])) e ∙ sym v)
numeral-exact base value digits rest (decimal first more e t d n a v) s =
    let m : run is_digit ((first ∷ more) ++ rest) ≡ length (first ∷ more) = run-front is_digit (first ∷ more) rest (rw d a) (stops-digit rest s.0) in
    subst (Exact base value rest) (sym t) (rw (unprefixed first (more ++ rest) n, n) m, rw (unprefixed first (more ++ rest) n) (sym e), ap (λ z. digits_value z (first ∷ more)) e ∙ ap (in_base 10) (sym t) ∙ sym v)
numeral-exact base value digits rest (hexadecimal x first more e t k d a v) s =
    let m : run is_hexadecimal ((first ∷ more) ++ rest) ≡ length (first ∷ more) = run-front is_hexadecimal (first ∷ more) rest (rw d a) s.0 in
    let p : is_prefixed (48 ∷ x ∷ first ∷ (more ++ rest)) ≡ true = rw (k, d) refl in
    subst (Exact base value rest) (sym t) (rw p (ap (λ z. suc (suc z)) m), rw p (sym e), ap (λ z. digits_value z (48 ∷ x ∷ first ∷ more)) e ∙ sym v)

prefixed-shape : (text : List ℕ) → is_prefixed text ≡ true → (x h : ℕ) × (hs : List ℕ) × (text ≡ 48 ∷ x ∷ h ∷ hs) × (is_x x ≡ true) × (is_hexadecimal h ≡ true)
prefixed-shape [] e = cc
prefixed-shape (a ∷ []) e = cc
prefixed-shape (a ∷ x ∷ []) e = cc
prefixed-shape (a ∷ x ∷ h ∷ hs) e =
    let p = both (a == 48) (is_x x && is_hexadecimal h) e in let q = both (is_x x) (is_hexadecimal h) p.1 in
    (x, h, hs, ap (λ z. z ∷ x ∷ h ∷ hs) (eqb-true a 48 p.0), q.0, q.1)

abbrev IsNumeralCut : List ℕ → Type 0
IsNumeralCut text = IsNumeral (base_at text) (digits_value (base_at text) (take (digits_len text) text)) (take (digits_len text) text) × ((m : ℕ) × (digits_len text ≡ suc m)) × (digits_len text ≤ length text)

hexadecimal-cut : (x h : ℕ) (hs : List ℕ) → is_x x ≡ true → is_hexadecimal h ≡ true → IsNumeralCut (48 ∷ x ∷ h ∷ hs)
hexadecimal-cut x h hs e f =
    rw (e, f) (hexadecimal x h (take (run is_hexadecimal hs) hs) refl refl e f (run-all is_hexadecimal hs) refl, (suc (suc (run is_hexadecimal hs)), refl), omega (arith, run-le is_hexadecimal hs))

decimal-cut : (b : ℕ) (bs : List ℕ) → is_digit b ≡ true → (z : Bool) → (b == 48) ≡ z → is_prefixed (b ∷ bs) ≡ false → IsNumeralCut (b ∷ bs)
decimal-cut b bs d true e p = rw (p, e) (nought refl (ap (λ q. in_base 10 (q ∷ [])) (eqb-true b 48 e)) (ap (λ q. q ∷ []) (eqb-true b 48 e)), (0, refl), omega arith)
decimal-cut b bs d false e p = rw (p, e, d) (decimal b (take (run is_digit bs) bs) refl refl d e (run-all is_digit bs) refl, (run is_digit bs, refl), omega (arith, run-le is_digit bs))

numeral-cut : (b : ℕ) (bs : List ℕ) → is_digit b ≡ true → IsNumeralCut (b ∷ bs)
numeral-cut b bs d = go (is_prefixed (b ∷ bs)) refl
  where
    go : (x : Bool) → is_prefixed (b ∷ bs) ≡ x → IsNumeralCut (b ∷ bs)
    go true e = let s = prefixed-shape (b ∷ bs) e in subst IsNumeralCut (sym s.3) (hexadecimal-cut s.0 s.1 s.2 s.4 s.5)
    go false e = decimal-cut b bs d (b == 48) refl e

-- ---- whole numbers

pub number-first : (base : Base) (value : ℕ) (ending : Suffix) (b : ℕ) (bs : List ℕ) → IsNumber base value ending (b ∷ bs) → is_digit b ≡ true
number-first base value ending b bs n = go n.digits n.numeral n.parts
  where
    go : (digits : List ℕ) → IsNumeral base value digits → b ∷ bs ≡ digits ++ n.rest → is_digit b ≡ true
    go [] i e = absurd (no-numeral base value i)
    go (d ∷ ds) i e = let s : b ≡ d = cc in ap is_digit s ∙ numeral-first base value d ds i

pub no-number : (base : Base) (value : ℕ) (ending : Suffix) → IsNumber base value ending [] → ⊥
no-number base value ending n = go n.digits n.numeral n.parts
  where
    go : (digits : List ℕ) → IsNumeral base value digits → [] ≡ digits ++ n.rest → ⊥
    go [] i e = no-numeral base value i
    go (d ∷ ds) i e = cc

pub number-most : (base : Base) (value : ℕ) (ending : Suffix) (front behind text : List ℕ) → IsNumber base value ending front → text ≡ front ++ behind
    → length front ≤ digits_len text + suffix_len (suffix_at (drop (digits_len text) text))
number-most base value ending front behind text n e = go n.rest n.parts n.suffix
  where
    go : (rest : List ℕ) → front ≡ n.digits ++ rest → entry_of suffixes rest ≡ Some ending → length front ≤ digits_len text + suffix_len (suffix_at (drop (digits_len text) text))
    go [] p s =
        let whole : text ≡ n.digits ++ behind = e ∙ ap (λ z. z ++ behind) (p ∙ append-nil n.digits) in
        let m : length n.digits ≤ digits_len text = subst (λ z. length n.digits ≤ digits_len z) (sym whole) (numeral-most base value n.digits behind n.numeral) in
        omega (arith, m, ap length (p ∙ append-nil n.digits))
    go (c ∷ cs) p s =
        let whole : text ≡ n.digits ++ ((c ∷ cs) ++ behind) = e ∙ ap (λ z. z ++ behind) p ∙ append_assoc n.digits (c ∷ cs) behind in
        let x : digits_len text ≡ length n.digits = ap digits_len whole ∙ (numeral-exact base value n.digits ((c ∷ cs) ++ behind) n.numeral (suffix-apart (c ∷ cs) ending s behind (λ h. cc))).0 in
        let d : drop (digits_len text) text ≡ (c ∷ cs) ++ behind = ap (λ k. drop k text) x ∙ ap (drop (length n.digits)) whole ∙ drop-append_seam n.digits ((c ∷ cs) ++ behind) in
        let m : length (c ∷ cs) ≤ suffix_len (suffix_at (drop (digits_len text) text)) = subst (λ z. length (c ∷ cs) ≤ suffix_len (suffix_at z)) (sym d) (suffix-most (c ∷ cs) behind ending s) in
        omega (arith, m, x, ap length p, length-append n.digits (c ∷ cs))

-- base, value and suffix are those that the text itself has
abbrev IsNumberOf : List ℕ → Base → ℕ → Suffix → Type 0
IsNumberOf text base value ending = (base_at text ≡ base) × (digits_value (base_at text) (take (digits_len text) text) ≡ value) × (entry_of suffixes (drop (digits_len text) text) ≡ Some ending)

number-of : (base : Base) (value : ℕ) (ending : Suffix) (text : List ℕ) → IsNumber base value ending text → IsNumberOf text base value ending
number-of base value ending text n =
    let x = numeral-exact base value n.digits n.rest n.numeral (suffix-alone n.rest ending n.suffix) in
    let b : base_at text ≡ base = ap base_at n.parts ∙ x.1 in
    let l : digits_len text ≡ length n.digits = ap digits_len n.parts ∙ x.0 in
    let t : take (digits_len text) text ≡ n.digits = ap (λ k. take k text) l ∙ ap (take (length n.digits)) n.parts ∙ take-append_seam n.digits n.rest in
    let d : drop (digits_len text) text ≡ n.rest = ap (λ k. drop k text) l ∙ ap (drop (length n.digits)) n.parts ∙ drop-append_seam n.digits n.rest in
    (b, ap (λ z. digits_value z (take (digits_len text) text)) b ∙ ap (digits_value base) t ∙ x.2, ap (entry_of suffixes) d ∙ n.suffix)

pub number-unique : (base radix : Base) (value other : ℕ) (ending last : Suffix) (text : List ℕ) → IsNumber base value ending text → IsNumber radix other last text → number_verdict base value ending ≡ number_verdict radix other last
number-unique base radix value other ending last text n m =
    let x = number-of base value ending text n in let y = number-of radix other last text m in
    let e : Some ending ≡ Some last = sym x.2 ∙ y.2 in
    let s : ending ≡ last = cc in
    ap (λ z. number_verdict z value ending) (sym x.0 ∙ y.0) ∙ ap (λ z. number_verdict radix z ending) (sym x.1 ∙ y.1) ∙ ap (number_verdict radix other) s

-- the number that is found stands here
pub record IsNumberCut (text : List ℕ) (l : Lexeme) : Type 0 where
  pub base : Base
  pub value : ℕ
  pub ending : Suffix
  pub number : IsNumber base value ending (take l.len text)
  pub kind : l.kind ≡ number_verdict base value ending
  pub some : (m : ℕ) × (l.len ≡ suc m)
  pub within : l.len ≤ length text
  pub longest : (radix : Base) (other : ℕ) (last : Suffix) (front behind : List ℕ) → IsNumber radix other last front → text ≡ front ++ behind → length front ≤ l.len

pub number-cut : (b : ℕ) (bs : List ℕ) → is_digit b ≡ true → IsNumberCut (b ∷ bs) (number_lexeme (b ∷ bs))
unfolding number_lexeme
number-cut b bs d =
    let n = numeral-cut b bs d in
    let s = suffix-cut (drop (digits_len (b ∷ bs)) (b ∷ bs)) in
    record {
      base = base_at (b ∷ bs);
      value = digits_value (base_at (b ∷ bs)) (take (digits_len (b ∷ bs)) (b ∷ bs));
      ending = suffix_at (drop (digits_len (b ∷ bs)) (b ∷ bs));
      number = record {
        digits = take (digits_len (b ∷ bs)) (b ∷ bs);
        rest = take (suffix_len (suffix_at (drop (digits_len (b ∷ bs)) (b ∷ bs)))) (drop (digits_len (b ∷ bs)) (b ∷ bs));
        parts = take-add (digits_len (b ∷ bs)) (suffix_len (suffix_at (drop (digits_len (b ∷ bs)) (b ∷ bs)))) (b ∷ bs);
        numeral = n.0;
        suffix = s.0;
      };
      kind = refl;
      some = (n.1.0 + suffix_len (suffix_at (drop (digits_len (b ∷ bs)) (b ∷ bs))), omega (arith, n.1.1));
      within = omega (arith, s.1, n.2, length-drop (digits_len (b ∷ bs)) (b ∷ bs));
      longest = λ radix other last front behind m e. number-most radix other last front behind (b ∷ bs) m e;
    }
