-- How the two kinds of states are read: tokens alone, and tokens with the operators that a full expression may still
-- have, of which each operator among the tokens takes one.
use Rattle.std.proofs.Common.{◌≡◌, ℕ, suc, Bool, true, false, cond, List, [], ◌∷◌, ◌++◌, Option, Some, None, inl, inr, refl, sym, ap, ◌∙◌, subst, append_assoc}
use Rattle.agxx_base.specs.declared.place.Place.{Place}
use Rattle.agxx_base.specs.declared.vocabulary.Sign.{Sign}
use Rattle.cxx_tree.specs.declared.operator.BinOp.{BinOp}
use Rattle.cxx_tree.specs.declared.operator.UnOp.{UnOp}
use Rattle.cxx_tree.specs.Words as w
use Rattle.cxx_tree.specs.Words.{Word}
use Rattle.cxx_expr.specs.declared.stop.Stop.TheVariants.{Syntax, Deep, Memory}
use Rattle.cxx_expr.specs.Operators.{binary_of, unary_of}
use Rattle.cxx_expr.specs.Tokens.{Tokens, words_of, is_sign, sees, after}
use Rattle.cxx_expr.specs.Outcome.{Outcome, done, failed, Parse, expect}
use Rattle.cxx_expr.specs.Within.{Within, with_operators, on_words, advanced}
use Rattle.cxx_expr.proofs.Signs.{same_sign-true, same_sign-self}
use Rattle.cxx_expr.proofs.Good.{Reading, Sort, Good, Goods, words-append, sees-head, good_fail}

abbrev pub tokens : Reading Tokens
tokens = record {
  before = λ front ts. front ++ ts;
  words = λ ts. ts;
  before-nil = λ ts. refl;
  before-append = λ a b ts. append_assoc a b ts;
  words-before = λ a ts. refl;
}

-- how many operators a state had before this word, if it has n behind it
abbrev pub charge_by : Option BinOp → Option UnOp → ℕ → ℕ
charge_by (Some o) u n = suc n
charge_by None (Some o) n = suc n
charge_by None None n = n

abbrev pub charge : Word → ℕ → ℕ
charge (w.sign s) n = charge_by (binary_of s) (unary_of s) n
charge _ n = n

abbrev pub charged : List Word → ℕ → ℕ
charged [] n = n
charged (word ∷ words) n = charge word (charged words n)

pub charged-append : (a b : List Word) (n : ℕ) → charged (a ++ b) n ≡ charged a (charged b n)
charged-append [] b n = refl
charged-append (word ∷ a) b n = ap (charge word) (charged-append a b n)

abbrev pub before : Tokens → Within → Within
before front s = record { words = front ++ s.words; operators = charged (words_of front) s.operators }

abbrev pub joins : Tokens → ℕ → Within
joins ts n = record { words = ts; operators = n }

pub before-append : (a b : Tokens) (s : Within) → before (a ++ b) s ≡ before a (before b s)
before-append a b s =
    ap (λ ts. joins ts (charged (words_of (a ++ b)) s.operators)) (append_assoc a b s.words)
    ∙ ap (joins (a ++ (b ++ s.words))) (ap (λ q. charged q s.operators) (words-append a b) ∙ charged-append (words_of a) (words_of b) s.operators)

abbrev pub within : Reading Within
within = record {
  before = before;
  words = λ s. s.words;
  before-nil = λ s. refl;
  before-append = before-append;
  words-before = λ a s. refl;
}

-- ---- signs

pub sees-sign : (j : Sign) (ts : Tokens) → sees j ts ≡ true → (at : Place) × (ts ≡ record { at = at; item = w.sign j } ∷ after ts)
sees-sign j [] e = cc
sees-sign j (t ∷ ts) e = by_word t.at t.item e
  where
    by_word : (at : Place) (word : Word) → is_sign j word ≡ true → (at' : Place) × (record { at = at; item = word } ∷ ts ≡ record { at = at'; item = w.sign j } ∷ ts)
    by_word at (w.sign i) e = (at, ap (λ q. record { at = at; item = w.sign q } ∷ ts) (same_sign-true i j e))
    by_word at _ e = cc

pub sees-before : (j : Sign) → ((n : ℕ) → charge (w.sign j) n ≡ n) → (s : Within) → sees j s.words ≡ true
    → (at : Place) × (s ≡ before (record { at = at; item = w.sign j } ∷ []) (advanced s))
sees-before j free s e =
    let g = sees-sign j s.words e in
    (g.0, ap (λ ts. joins ts s.operators) g.1 ∙ ap (joins (record { at = g.0; item = w.sign j } ∷ after s.words)) (sym (free s.operators)))

pub expect-sign : (j : Sign) (at : Place) (ts : Tokens) → expect j (record { at = at; item = w.sign j } ∷ ts) ≡ done tt ts
expect-sign j at ts = rw (same_sign-self j) refl

pub expect-other : (j : Sign) (ts : Tokens) → sees j ts ≡ false → expect j ts ≡ failed Syntax ts
expect-other j ts e = rw e refl

-- values of which each is within all limits
abbrev pub each : {A : Type 0} → (A → List Word) → Sort A
each spelled = record { spelled = spelled; IsOne = λ a. Unit {0}; IsSome = λ a. Unit {0}; is_some = λ a v. tt }

abbrev pub signs : Sign → Sort (Unit {0})
signs j = each (λ u. w.sign j ∷ [])

pub good_expect : (j : Sign) → Goods tokens (signs j) (expect j) (expect j)
good_expect j ts = go (sees j ts) refl
  where
    go : (b : Bool) → sees j ts ≡ b → Good tokens [] (signs j) (λ q r. expect j q ≡ r) ts (cond b (done tt (after ts)) (failed Syntax ts))
    go true e =
        let g = sees-sign j ts e in
        record { front = record { at = g.0; item = w.sign j } ∷ []; whole = g.1; valid = tt; text = refl; again = λ other h. expect-sign j g.0 other }
    go false e = good_fail tokens [] (signs j) (λ q r. expect j q ≡ r) ts (inl refl) (λ other h. expect-other j other (sees-head j other ts h ∙ e))

-- ---- rules without operators, within a full expression

-- no operator is among these words
abbrev pub IsFree : List Word → Type 0
IsFree [] = Unit {0}
IsFree (word ∷ words) = ((n : ℕ) → charge word n ≡ n) × IsFree words

pub free-charged : (words : List Word) (n : ℕ) → IsFree words → charged words n ≡ n
free-charged [] n f = refl
free-charged (word ∷ words) n f = ap (charge word) (free-charged words n f.1) ∙ f.0 n

pub free-front : (a b : List Word) → IsFree (a ++ b) → IsFree a
free-front [] b f = tt
free-front (word ∷ a) b f = (f.0, free-front a b f.1)

pub free-back : (a b : List Word) → IsFree (a ++ b) → IsFree b
free-back [] b f = f
free-back (word ∷ a) b f = free-back a b f.1

pub good_lifted : {A : Type 0} (pre : List Word) (K : Sort A) (p' : Parse Tokens A) → ((a : A) → IsFree (K.spelled a)) → (n : ℕ) (ts : Tokens) (o : Outcome Tokens A)
    → Good tokens pre K (λ q r. p' q ≡ r) ts o → Good within pre K (λ q r. on_words p' q ≡ r) (joins ts n) (with_operators n o)
good_lifted pre K p' free n ts (done a rest) g =
    let f : IsFree (words_of g.front) = free-back pre (words_of g.front) (subst IsFree g.text (free a)) in
    record {
      front = g.front;
      whole = ap (λ q. joins q n) g.whole ∙ ap (joins (g.front ++ rest)) (sym (free-charged (words_of g.front) n f));
      valid = g.valid;
      text = g.text;
      again = λ other e. ap (with_operators (charged (words_of g.front) other.operators)) (g.again other.words e) ∙ ap (λ m. done a (joins other.words m)) (free-charged (words_of g.front) other.operators f);
    }
good_lifted pre K p' free n ts (failed Syntax rest) g =
    let f : IsFree (words_of g.front) = free-back pre (words_of g.front) (elim g.viable [ inl e ↦ subst IsFree (sym e) tt | inr v ↦ free-front (pre ++ words_of g.front) v.1 (subst IsFree v.3 (free v.0)) ]) in
    record {
      front = g.front;
      whole = ap (λ q. joins q n) g.whole ∙ ap (joins (g.front ++ rest)) (sym (free-charged (words_of g.front) n f));
      viable = g.viable;
      again = λ other e. ap (with_operators (charged (words_of g.front) other.operators)) (g.again other.words e) ∙ ap (λ m. failed Syntax (joins other.words m)) (free-charged (words_of g.front) other.operators f);
    }
good_lifted pre K p' free n ts (failed Deep rest) g = tt
good_lifted pre K p' free n ts (failed Memory rest) g = g

pub good_on_words : {A : Type 0} (K : Sort A) (p p' : Parse Tokens A) → ((a : A) → IsFree (K.spelled a)) → Goods tokens K p p' → Goods within K (on_words p) (on_words p')
good_on_words K p p' free G s = good_lifted [] K p' free s.operators s.words (p s.words) (G s.words)
