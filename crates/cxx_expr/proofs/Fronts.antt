-- Tokens by the words that they spell, and what may follow an expression.
use Rattle.std.proofs.Common.{◌≡◌, ℕ, suc, ◌≤◌, Bool, false, List, [], ◌∷◌, ◌++◌, None, refl, ap, ◌∙◌, arith}
use Rattle.agxx_base.specs.declared.place.Place.{Place}
use Rattle.agxx_base.specs.declared.vocabulary.Sign.{Sign}
use Rattle.agxx_base.specs.declared.vocabulary.Sign.TheVariants as sg
use Rattle.cxx_tree.specs.declared.node.Placed.{Placed}
use Rattle.cxx_tree.specs.Words as w
use Rattle.cxx_tree.specs.Words.{Word, in_parentheses}
use Rattle.cxx_expr.specs.Tokens.{Tokens, words_of, is_sign, sees}
use Rattle.cxx_expr.specs.Within.{Within}
use Rattle.cxx_expr.specs.Descent.{operator}
use Rattle.cxx_expr.proofs.States.{before, before-append}

abbrev pub token : Place → Word → Placed Word
token at word = record { at = at; item = word }

-- ---- tokens by their words

pub front_nil : (front : Tokens) → words_of front ≡ [] → front ≡ []
front_nil [] e = refl
front_nil (t ∷ ts) e = cc

pub front_cons : (word : Word) (words : List Word) (front : Tokens) → words_of front ≡ word ∷ words → (at : Place) × (ts : Tokens) × (front ≡ token at word ∷ ts) × (words_of ts ≡ words)
front_cons word words [] e = cc
front_cons word words (t ∷ ts) e =
    let i : t.item ≡ word = cc in
    (t.at, ts, ap (λ q. token t.at q ∷ ts) i, cc)

pub front_append : (a b : List Word) (front : Tokens) → words_of front ≡ a ++ b → (x : Tokens) × (y : Tokens) × (front ≡ x ++ y) × (words_of x ≡ a) × (words_of y ≡ b)
front_append [] b front e = ([], front, refl, refl, e)
front_append (word ∷ a) b front e =
    let h = front_cons word (a ++ b) front e in
    let r = front_append a b h.1 h.3 in
    (token h.0 word ∷ r.0, r.1, h.2 ∙ ap (λ q. token h.0 word ∷ q) r.2, ap (λ q. word ∷ q) r.3, r.4)

pub front_one : (word : Word) (front : Tokens) → words_of front ≡ word ∷ [] → (at : Place) × (front ≡ token at word ∷ [])
front_one word front e =
    let h = front_cons word [] front e in
    (h.0, h.2 ∙ ap (λ q. token h.0 word ∷ q) (front_nil h.1 h.3))

pub front_two : (a b : Word) (front : Tokens) → words_of front ≡ a ∷ b ∷ [] → (p : Place) × (q : Place) × (front ≡ token p a ∷ token q b ∷ [])
front_two a b front e =
    let h = front_cons a (b ∷ []) front e in
    let r = front_one b h.1 h.3 in
    (h.0, r.0, h.2 ∙ ap (λ q. token h.0 a ∷ q) r.1)

pub record InParens (words : List Word) (front : Tokens) : Type 0 where
  pub opening : Place
  pub inner : Tokens
  pub closing : Place
  pub spelled : words_of inner ≡ words
  pub parts : (rest : Within) → before front rest ≡ before (token opening (w.sign sg.OpenParen) ∷ []) (before inner (before (token closing (w.sign sg.CloseParen) ∷ []) rest))

pub in_parens : (words : List Word) (front : Tokens) → words_of front ≡ in_parentheses words → InParens words front
in_parens words front e =
    let h = front_cons (w.sign sg.OpenParen) (words ++ w.sign sg.CloseParen ∷ []) front e in
    let r = front_append words (w.sign sg.CloseParen ∷ []) h.1 h.3 in
    let c = front_one (w.sign sg.CloseParen) r.1 r.4 in
    record {
      opening = h.0;
      inner = r.0;
      closing = c.0;
      spelled = r.3;
      parts = λ rest. ap (λ q. before q rest) h.2
          ∙ ap (before (token h.0 (w.sign sg.OpenParen) ∷ [])) (ap (λ q. before q rest) (r.2 ∙ ap (λ q. r.0 ++ q) c.1) ∙ before-append r.0 (token c.0 (w.sign sg.CloseParen) ∷ []) rest);
    }

-- ---- what may follow

-- nothing here goes on with a tree of operators up to this level
pub record Ends (l : ℕ) (ts : Tokens) : Type 0 where
  pub closed : sees sg.OpenParen ts ≡ false
  pub dot : sees sg.Dot ts ≡ false
  pub arrow : sees sg.Arrow ts ≡ false
  pub none : (n : ℕ) → n ≤ l → operator n ts ≡ None

pub Ends-nil : (l : ℕ) → Ends l []
Ends-nil l = record { closed = refl; dot = refl; arrow = refl; none = λ n h. refl }

pub Ends-close : (l : ℕ) (at : Place) (ts : Tokens) → Ends l (token at (w.sign sg.CloseParen) ∷ ts)
Ends-close l at ts = record { closed = refl; dot = refl; arrow = refl; none = λ n h. refl }

pub Ends-comma : (l : ℕ) (at : Place) (ts : Tokens) → Ends l (token at (w.sign sg.Comma) ∷ ts)
Ends-comma l at ts = record { closed = refl; dot = refl; arrow = refl; none = λ n h. refl }

pub Ends-below : (l : ℕ) (ts : Tokens) → Ends (suc l) ts → Ends l ts
Ends-below l ts e = record { closed = e.closed; dot = e.dot; arrow = e.arrow; none = λ n h. e.none n (omega (arith, h)) }

-- whether words begin with a sign
abbrev pub sees_in : Sign → List Word → Bool
sees_in s [] = false
sees_in s (word ∷ words) = is_sign s word

pub sees-words : (s : Sign) (ts : Tokens) → sees s ts ≡ sees_in s (words_of ts)
sees-words s [] = refl
sees-words s (t ∷ ts) = refl
