-- How the spelling of a part is read again: tokens of given words, parts behind each other, and lists.
use Rattle.std.proofs.Common.{◌≡◌, ℕ, zero, suc, ◌+◌, ◌≤◌, ◌<◌, Bool, true, false, List, [], ◌∷◌, ◌++◌, length, length-append, map, Option, Some, None, refl, sym, ap, ◌∙◌, subst, append_assoc, arith}
use Rattle.std.specs.Prelude.{option_map}
use Rattle.std.specs.List.{flat_map}
use Rattle.agxx_base.specs.declared.place.Place.{Place}
use Rattle.agxx_base.specs.declared.vocabulary.Sign.{Sign}
use Rattle.agxx_base.specs.declared.vocabulary.Sign.TheVariants as sg
use Rattle.cxx_tree.specs.Words as w
use Rattle.cxx_tree.specs.Words.{Word, separated, each_after_comma, in_parentheses, optional}
use Rattle.cxx_tree.specs.Limits.{Opens, Every}
use Rattle.cxx_tree.specs.Fits.{Optionally}
use Rattle.cxx_expr.specs.Tokens.{Tokens, words_of, is_sign, sees}
use Rattle.cxx_expr.specs.Outcome.{done, Parse, and_then}
use Rattle.cxx_expr.specs.Descent.{front_of}
use Rattle.cxx_expr.proofs.Signs.{same_sign-self}
use Rattle.cxx_expr.proofs.Fronts.{token}
use Rattle.cxx_stmt.specs.Parts.{ended_by, in_parens, unless, others, some_from, some, any, braced_from, braced}

-- ---- tokens of given words

-- a place for each word
abbrev pub PlacesOf : List Word → Type 0
PlacesOf [] = Unit {0}
PlacesOf (word ∷ words) = Place × PlacesOf words

-- these words at these places, and what follows
abbrev pub laid : (words : List Word) → PlacesOf words → Tokens → Tokens
laid [] places rest = rest
laid (word ∷ words) places rest = token places.0 word ∷ laid words places.1 rest

pub laid-append : (a b : List Word) (places : PlacesOf (a ++ b)) (rest : Tokens) → (x : PlacesOf a) × (y : PlacesOf b) × (laid (a ++ b) places rest ≡ laid a x (laid b y rest))
laid-append [] b places rest = (tt, places, refl)
laid-append (word ∷ a) b places rest =
    let s = laid-append a b places.1 rest in
    ((places.0, s.0), s.1, ap (λ q. token places.0 word ∷ q) s.2)

-- tokens are their words at their places
pub laid-front : (front rest : Tokens) → (places : PlacesOf (words_of front)) × (front ++ rest ≡ laid (words_of front) places rest)
laid-front [] rest = (tt, refl)
laid-front (t ∷ front) rest =
    let h = laid-front front rest in
    ((t.at, h.0), ap (λ q. t ∷ q) h.1)

pub laid-rest : (words : List Word) (places : PlacesOf words) (rest : Tokens) → laid words places rest ≡ laid words places [] ++ rest
laid-rest [] places rest = refl
laid-rest (word ∷ words) places rest = ap (λ q. token places.0 word ∷ q) (laid-rest words places.1 rest)

pub laid-words : (words : List Word) (places : PlacesOf words) → words_of (laid words places []) ≡ words
laid-words [] places = refl
laid-words (word ∷ words) places = ap (λ q. word ∷ q) (laid-words words places.1)

pub words-laid : (words : List Word) (places : PlacesOf words) (rest : Tokens) → words_of (laid words places rest) ≡ words ++ words_of rest
words-laid [] places rest = refl
words-laid (word ∷ words) places rest = ap (λ q. word ∷ q) (words-laid words places.1 rest)

pub laid-length : (words : List Word) (places : PlacesOf words) (rest : Tokens) → length (laid words places rest) ≡ length words + length rest
laid-length [] places rest = omega arith
laid-length (word ∷ words) places rest = omega (arith, laid-length words places.1 rest)

-- ---- how words begin

-- whether words begin with one that is so
abbrev pub begins : (Word → Bool) → List Word → Bool
begins is [] = false
begins is (word ∷ words) = is word

-- no word is both
abbrev pub Excludes : (Word → Bool) → (Word → Bool) → Type 0
Excludes is other = (word : Word) → is word ≡ true → other word ≡ false

pub begins-append : (is : Word → Bool) (a b : List Word) → begins is a ≡ true → begins is (a ++ b) ≡ true
begins-append is [] b h = cc
begins-append is (word ∷ a) b h = h

pub begins-length : (is : Word → Bool) (words : List Word) → begins is words ≡ true → 0 < length words
begins-length is [] h = cc
begins-length is (word ∷ words) h = omega arith

pub begins-laid : (is : Word → Bool) (words : List Word) → begins is words ≡ true → (places : PlacesOf words) (rest : Tokens) → begins is (words_of (laid words places rest)) ≡ true
begins-laid is [] h places rest = cc
begins-laid is (word ∷ words) h places rest = h

pub begins-sees : (is : Word → Bool) (s : Sign) → Excludes is (is_sign s) → (words : List Word) → begins is words ≡ true → (places : PlacesOf words) (rest : Tokens) → sees s (laid words places rest) ≡ false
begins-sees is s other [] h places rest = cc
begins-sees is s other (word ∷ words) h places rest = other word h

-- ---- reading

-- Wherever these words stand, the parser reads from them what b is made of, and stops behind them.
abbrev pub IsRead : {A B : Type 0} → (A → B) → Parse Tokens A → List Word → B → Tokens → Type 0
IsRead {A} same parse words b rest = (places : PlacesOf words) → (found : A) × (same found ≡ b) × (parse (laid words places rest) ≡ done found rest)

pub read-front : {A B : Type 0} (same : A → B) (parse : Parse Tokens A) (words : List Word) (b : B) (rest : Tokens) → IsRead same parse words b rest
    → (front : Tokens) → words_of front ≡ words → (found : A) × (same found ≡ b) × (parse (front ++ rest) ≡ done found rest)
read-front same parse words b rest h front e =
    let l = laid-front front rest in
    let r = subst (λ q. IsRead same parse q b rest) (sym e) h l.0 in
    (r.0, r.1, ap parse l.1 ∙ r.2)

-- the same part in the sight of another function
pub read-as : {A B D : Type 0} (same : A → B) (other : A → D) (parse : Parse Tokens A) (words : List Word) (x : B) (y : D) (rest : Tokens)
    → IsRead same parse words x rest → ((found : A) → same found ≡ x → other found ≡ y) → IsRead other parse words y rest
read-as same other parse words x y rest F S places = let f = F places in (f.0, S f.0 f.1, f.2)

-- a part and what stands behind it
pub read-then : {A B C D : Type 0} (same : A → B) (other : C → D) (first : Parse Tokens A) (second : A → Parse Tokens C) (a b : List Word) (x : B) (y : D) (rest : Tokens)
    → ((places : PlacesOf b) → IsRead same first a x (laid b places rest)) → ((found : A) → same found ≡ x → IsRead other (second found) b y rest)
    → IsRead other (λ ts. and_then (first ts) second) (a ++ b) y rest
read-then same other first second a b x y rest F S places =
    let s = laid-append a b places rest in
    let f = F s.1 s.0 in
    let r = S f.0 f.1 s.1 in
    (r.0, r.1, ap (λ ts. and_then (first ts) second) s.2 ∙ ap (λ o. and_then o second) f.2 ∙ r.2)

-- what is made of a part
pub read-made : {A B C D : Type 0} (same : A → B) (other : C → D) (first : Parse Tokens A) (made : A → C) (a : List Word) (x : B) (y : D) (rest : Tokens)
    → IsRead same first a x rest → ((found : A) → same found ≡ x → other (made found) ≡ y) → IsRead other (λ ts. and_then (first ts) (λ q. done (made q))) a y rest
read-made same other first made a x y rest F S places =
    let f = F places in
    (made f.0, S f.0 f.1, ap (λ o. and_then o (λ q. done (made q))) f.2)

pub read-ended_by : {A B : Type 0} (same : A → B) (s : Sign) (part : A) (b : B) (rest : Tokens) → same part ≡ b → IsRead same (ended_by s part) (w.sign s ∷ []) b rest
read-ended_by same s part b rest h places = (part, h, rw (same_sign-self s) refl)

-- a part with a sign behind it
pub read-ended : {A B C D : Type 0} (same : A → B) (other : C → D) (first : Parse Tokens A) (s : Sign) (made : A → C) (a : List Word) (x : B) (y : D) (rest : Tokens)
    → ((at : Place) → IsRead same first a x (token at (w.sign s) ∷ rest)) → ((found : A) → same found ≡ x → other (made found) ≡ y)
    → IsRead other (λ ts. and_then (first ts) (λ q. ended_by s (made q))) (a ++ w.sign s ∷ []) y rest
read-ended same other first s made a x y rest F S =
    read-then same other first (λ q. ended_by s (made q)) a (w.sign s ∷ []) x y rest (λ places. F places.0) (λ found e. read-ended_by other s (made found) y rest (S found e))

-- a part, a sign and what stands behind it
pub read-ended-then : {A B C D : Type 0} (same : A → B) (other : C → D) (first : Parse Tokens A) (s : Sign) (second : A → Parse Tokens C) (a b : List Word) (x : B) (y : D) (rest : Tokens)
    → ((at : Place) (ts : Tokens) → IsRead same first a x (token at (w.sign s) ∷ ts)) → ((found : A) → same found ≡ x → IsRead other (second found) b y rest)
    → IsRead other (λ ts. and_then (first ts) (λ q ts. and_then (ended_by s q ts) second)) ((a ++ w.sign s ∷ []) ++ b) y rest
read-ended-then {A} {B} {C} same other first s second a b x y rest F S =
    let whole : A → Parse Tokens C = λ q ts. and_then (ended_by s q ts) second in
    let behind : (at : Place) (ts : Tokens) (q : A) → whole q (token at (w.sign s) ∷ ts) ≡ second q ts = λ at ts q. rw (same_sign-self s) refl in
    subst (λ words. IsRead other (λ ts. and_then (first ts) whole) words y rest) (sym (append_assoc a (w.sign s ∷ []) b))
    (read-then same other first whole a (w.sign s ∷ b) x y rest (λ places. F places.0 (laid b places.1 rest))
    (λ found e places. let r = S found e places.1 in (r.0, r.1, behind places.0 (laid b places.1 rest) found ∙ r.2)))

pub opens-none : (Holds : ℕ → Type 0) → Opens zero Holds → ⊥
opens-none Holds h = absurd (omega (arith, h.1))

pub opens-below : (n : ℕ) (Holds : ℕ → Type 0) → Opens (suc n) Holds → Holds n
opens-below n Holds h = let s : h.0 ≡ n = omega (arith, h.1) in subst Holds s h.2

-- a part in parentheses
pub read-in_parens : {A B : Type 0} (same : A → B) (depth : ℕ) (inner : ℕ → Parse Tokens A) (Holds : ℕ → Type 0) (a : List Word) (b : B) (rest : Tokens) → Opens depth Holds
    → ((below : ℕ) → Holds below → (at : Place) → IsRead same (inner below) a b (token at (w.sign sg.CloseParen) ∷ rest))
    → IsRead same (in_parens depth inner) (in_parentheses a) b rest
read-in_parens same zero inner Holds a b rest h F places = absurd (opens-none Holds h)
read-in_parens same (suc n) inner Holds a b rest h F places =
    read-ended same same (inner n) sg.CloseParen (λ q. q) a b b rest (F n (opens-below n Holds h)) (λ found e. e) places.1

unless-some : {A : Type 0} (s : Sign) (parse : Parse Tokens A) (ts : Tokens) (x : A) (rest : Tokens) → sees s ts ≡ false → parse ts ≡ done x rest → unless s parse ts ≡ done (Some x) rest
unless-some s parse ts x rest e f = rw (e, f) refl

-- a part that may be missing, before a sign that it never begins with
pub read-unless : {A B C : Type 0} (same : A → B) (s : Sign) (parse : Parse Tokens A) (spelled : C → List Word) (made : C → B) (Holds : C → Type 0) (x : Option C) (at : Place) (rest : Tokens)
    → ((c : C) → Holds c → IsRead same parse (spelled c) (made c) (token at (w.sign s) ∷ rest))
    → ((c : C) → Holds c → (places : PlacesOf (spelled c)) → sees s (laid (spelled c) places (token at (w.sign s) ∷ rest)) ≡ false)
    → Optionally Holds x → IsRead (option_map same) (unless s parse) (optional spelled x) (option_map made x) (token at (w.sign s) ∷ rest)
read-unless same s parse spelled made Holds None at rest F N h places = (None, refl, rw (same_sign-self s) refl)
read-unless same s parse spelled made Holds (Some c) at rest F N h places =
    let f = F c h places in
    (Some f.0, ap Some f.1, unless-some s parse (laid (spelled c) places (token at (w.sign s) ∷ rest)) f.0 (token at (w.sign s) ∷ rest) (N c h places) f.2)

-- ---- lists

separated-length : {A : Type 0} (spelled : A → List Word) (xs : List A) → length xs ≤ length (each_after_comma (map spelled xs))
separated-length spelled [] = omega arith
separated-length spelled (x ∷ xs) = omega (arith, separated-length spelled xs, length-append (spelled x) (each_after_comma (map spelled xs)))

-- Parts of a kind: how each is spelled, which are meant, what is read again, and what may follow one.
module _ {A B : Type 0} (spelled : A → List Word) (IsOne : A → Type 0) (same : A → B) (parse : Parse Tokens A) (Follows : Tokens → Type 0)
    (F : (a : A) (rest : Tokens) → IsOne a → Follows rest → IsRead same parse (spelled a) (same a) rest) where
  abbrev pub AreRead : Parse Tokens (List A) → List Word → List A → Tokens → Type 0
  AreRead next words xs rest = IsRead (map same) next words (map same xs) rest

  -- a part and more of them
  pub read-front_of : (x : A) (xs : List A) (words : List Word) (next : Parse Tokens (List A)) (rest : Tokens) → IsOne x → ((places : PlacesOf words) → Follows (laid words places rest))
      → AreRead next words xs rest → AreRead (λ ts. and_then (parse ts) (λ x ts. front_of (x ∷ []) (next ts))) (spelled x ++ words) (x ∷ xs) rest
  read-front_of x xs words next rest v follows N =
      read-then same (map same) parse (λ x ts. front_of (x ∷ []) (next ts)) (spelled x) words (same x) (map same (x ∷ xs)) rest
      (λ places. F x (laid words places rest) v (follows places))
      (λ found e places. let r = N places in (found ∷ r.0, ap (λ q. q ∷ map same r.0) e ∙ ap (λ q. same x ∷ q) r.1, ap (front_of (found ∷ [])) r.2))

  -- ---- with commas between

  module _ (at_comma : (at : Place) (ts : Tokens) → Follows (token at (w.sign sg.Comma) ∷ ts)) (rest : Tokens) (at_end : Follows rest) (last : sees sg.Comma rest ≡ false) where
    follows_others : (xs : List A) (places : PlacesOf (each_after_comma (map spelled xs))) → Follows (laid (each_after_comma (map spelled xs)) places rest)
    follows_others [] places = at_end
    follows_others (x ∷ xs) places = at_comma places.0 (laid (spelled x ++ each_after_comma (map spelled xs)) places.1 rest)

    -- these parts, if there are any
    abbrev MoreRead : Parse Tokens (List A) → List A → Type 0
    MoreRead next [] = Unit {0}
    MoreRead next (x ∷ xs) = AreRead next (separated (map spelled (x ∷ xs))) (x ∷ xs) rest

    others-by : (next : Parse Tokens (List A)) (xs : List A) → MoreRead next xs → AreRead (others next) (each_after_comma (map spelled xs)) xs rest
    others-by next [] N places = ([], refl, rw last refl)
    others-by next (x ∷ xs) N places = N places.1

    some-turn : (n : ℕ) (x : A) (xs : List A) → IsOne x → AreRead (others (λ ts. some_from parse n ts)) (each_after_comma (map spelled xs)) xs rest → AreRead (some_from parse (suc n)) (separated (map spelled (x ∷ xs))) (x ∷ xs) rest
    unfolding some_from
    some-turn n x xs v N = read-front_of x xs (each_after_comma (map spelled xs)) (others (λ ts. some_from parse n ts)) rest v (follows_others xs) N

    others_from : (xs : List A) (n : ℕ) → Every IsOne xs → length xs ≤ n → AreRead (others (λ ts. some_from parse n ts)) (each_after_comma (map spelled xs)) xs rest
    others_from [] n v h = others-by (λ ts. some_from parse n ts) [] tt
    others_from (x ∷ xs) zero v h = absurd (omega (arith, h))
    others_from (x ∷ xs) (suc n) v h = others-by (λ ts. some_from parse (suc n) ts) (x ∷ xs) (some-turn n x xs v.0 (others_from xs n v.1 (omega (arith, h))))

    -- one part or more
    pub read-some : (x : A) (xs : List A) → IsOne x → Every IsOne xs → AreRead (some parse) (separated (map spelled (x ∷ xs))) (x ∷ xs) rest
    read-some x xs u v places =
        let words : List Word = separated (map spelled (x ∷ xs)) in
        let n : ℕ = length (laid words places rest) in
        some-turn n x xs u (others_from xs n v (omega (arith, laid-length words places rest, separated-length spelled xs, length-append (spelled x) (each_after_comma (map spelled xs))))) places

    -- more parts behind one
    pub read-others : (xs : List A) → Every IsOne xs → AreRead (others (some parse)) (each_after_comma (map spelled xs)) xs rest
    read-others [] v = others-by (some parse) [] tt
    read-others (x ∷ xs) v = others-by (some parse) (x ∷ xs) (read-some x xs v.0 v.1)

  any-some : (ts : Tokens) → sees sg.CloseParen ts ≡ false → any parse ts ≡ some parse ts
  any-some ts e = rw e refl

  -- none or more, before a closing parenthesis, with which no part begins
  pub read-any : ((at : Place) (ts : Tokens) → Follows (token at (w.sign sg.Comma) ∷ ts)) → ((at : Place) (ts : Tokens) → Follows (token at (w.sign sg.CloseParen) ∷ ts))
      → (is : Word → Bool) → Excludes is (is_sign sg.CloseParen) → ((a : A) → IsOne a → begins is (spelled a) ≡ true)
      → (xs : List A) (at : Place) (rest : Tokens) → Every IsOne xs → AreRead (any parse) (separated (map spelled xs)) xs (token at (w.sign sg.CloseParen) ∷ rest)
  read-any at_comma at_end is other first [] at rest v places = ([], refl, refl)
  read-any at_comma at_end is other first (x ∷ xs) at rest v places =
      let end : Tokens = token at (w.sign sg.CloseParen) ∷ rest in
      let words : List Word = separated (map spelled (x ∷ xs)) in
      let r = read-some at_comma end (at_end at rest) refl x xs v.0 v.1 places in
      let b : begins is words ≡ true = begins-append is (spelled x) (each_after_comma (map spelled xs)) (first x v.0) in
      (r.0, r.1, any-some (laid words places end) (begins-sees is sg.CloseParen other words b places end) ∙ r.2)

  -- ---- in braces

  braced-turn : (n : ℕ) (ts : Tokens) → sees sg.CloseBrace ts ≡ false → braced_from parse (suc n) ts ≡ and_then (parse ts) (λ x ts. front_of (x ∷ []) (braced_from parse n ts))
  unfolding braced_from
  braced-turn n ts e = rw e refl

  braced-none : (n : ℕ) (at : Place) (rest : Tokens) → braced_from parse (suc n) (token at (w.sign sg.CloseBrace) ∷ rest) ≡ done [] rest
  unfolding braced_from
  braced-none n at rest = refl

  module _ (at_end : (at : Place) (ts : Tokens) → Follows (token at (w.sign sg.CloseBrace) ∷ ts)) (before_one : (a : A) → IsOne a → (places : PlacesOf (spelled a)) (ts : Tokens) → Follows (laid (spelled a) places ts))
      (is : Word → Bool) (other : Excludes is (is_sign sg.CloseBrace)) (first : (a : A) → IsOne a → begins is (spelled a) ≡ true) where
    abbrev close : List Word
    close = w.sign sg.CloseBrace ∷ []

    follows_braced : (xs : List A) → Every IsOne xs → (rest : Tokens) (places : PlacesOf (flat_map spelled xs ++ close)) → Follows (laid (flat_map spelled xs ++ close) places rest)
    follows_braced [] v rest places = at_end places.0 rest
    follows_braced (x ∷ xs) v rest places =
        let more : List Word = flat_map spelled xs ++ close in
        let behind : (places : PlacesOf (spelled x ++ more)) → Follows (laid (spelled x ++ more) places rest) =
        λ places. let s = laid-append (spelled x) more places rest in subst Follows (sym s.2) (before_one x v.0 s.0 (laid more s.1 rest)) in
        subst (λ words. (places : PlacesOf words) → Follows (laid words places rest)) (sym (append_assoc (spelled x) (flat_map spelled xs) close)) behind places

    braced_from-more : (x : A) (words : List Word) (xs : List A) (n : ℕ) (rest : Tokens) → IsOne x → ((places : PlacesOf words) → Follows (laid words places rest)) → AreRead (braced_from parse n) words xs rest
        → AreRead (braced_from parse (suc n)) (spelled x ++ words) (x ∷ xs) rest
    braced_from-more x words xs n rest v follows N places =
        let whole : List Word = spelled x ++ words in
        let r = read-front_of x xs words (braced_from parse n) rest v follows N places in
        (r.0, r.1, braced-turn n (laid whole places rest) (begins-sees is sg.CloseBrace other whole (begins-append is (spelled x) words (first x v)) places rest) ∙ r.2)

    read-braced_from : (xs : List A) (n : ℕ) (rest : Tokens) → Every IsOne xs → length xs < n → AreRead (braced_from parse n) (flat_map spelled xs ++ close) xs rest
    read-braced_from [] zero rest v h places = absurd (omega (arith, h))
    read-braced_from [] (suc n) rest v h places = ([], refl, braced-none n places.0 rest)
    read-braced_from (x ∷ xs) zero rest v h places = absurd (omega (arith, h))
    read-braced_from (x ∷ xs) (suc n) rest v h places =
        let more : List Word = flat_map spelled xs ++ close in
        let whole : AreRead (braced_from parse (suc n)) (spelled x ++ more) (x ∷ xs) rest =
        braced_from-more x more xs n rest v.0 (follows_braced xs v.1 rest) (read-braced_from xs n rest v.1 (omega (arith, h))) in
        subst (λ words. AreRead (braced_from parse (suc n)) words (x ∷ xs) rest) (sym (append_assoc (spelled x) (flat_map spelled xs) close)) whole places

    braced-length : (xs : List A) → Every IsOne xs → length xs ≤ length (flat_map spelled xs)
    braced-length [] v = omega arith
    braced-length (x ∷ xs) v = omega (arith, braced-length xs v.1, begins-length is (spelled x) (first x v.0), length-append (spelled x) (flat_map spelled xs))

    -- parts up to a closing brace, with which no part begins
    pub read-braced : (xs : List A) (rest : Tokens) → Every IsOne xs → AreRead (braced parse) (flat_map spelled xs ++ w.sign sg.CloseBrace ∷ []) xs rest
    read-braced xs rest v places =
        let words : List Word = flat_map spelled xs ++ close in
        let n : ℕ = length (laid words places rest) in
        read-braced_from xs (suc n) rest v (omega (arith, laid-length words places rest, braced-length xs v, length-append (flat_map spelled xs) close)) places
