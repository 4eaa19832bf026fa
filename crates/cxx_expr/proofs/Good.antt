-- What a parser answers is right so far: what it read is a spelling, where it stopped no longer front goes on,
-- and it looked at one word past what it read.
use Rattle.std.proofs.Common.{◌≡◌, Bool, true, false, cond, List, [], ◌∷◌, ◌++◌, Option, Some, None, ◌⊎◌, inl, inr, refl, sym, ap, ◌∙◌, subst, append_assoc, append-nil}
use Rattle.agxx_base.specs.declared.vocabulary.Sign.{Sign}
use Rattle.cxx_tree.specs.declared.node.Placed.{Placed}
use Rattle.cxx_tree.specs.Words.{Word}
use Rattle.cxx_expr.specs.declared.stop.Stop.TheVariants.{Syntax, Deep, Memory}
use Rattle.cxx_expr.specs.Tokens.{Tokens, words_of, is_sign, sees}
use Rattle.cxx_expr.specs.Outcome.{Outcome, done, failed, Parse, and_then}

abbrev pub head : Tokens → Option (Placed Word)
head [] = None
head (t ∷ ts) = Some t

pub head-append : (front a b : Tokens) → head a ≡ head b → head (front ++ a) ≡ head (front ++ b)
head-append [] a b e = e
head-append (t ∷ front) a b e = refl

pub sees-head : (s : Sign) (a b : Tokens) → head a ≡ head b → sees s a ≡ sees s b
sees-head s [] [] e = refl
sees-head s [] (y ∷ b) e = cc
sees-head s (x ∷ a) [] e = cc
sees-head s (x ∷ a) (y ∷ b) e = let i : x ≡ y = cc in ap (λ t. is_sign s t.item) i

pub words-append : (a b : Tokens) → words_of (a ++ b) ≡ words_of a ++ words_of b
words-append [] b = refl
words-append (t ∷ a) b = ap (λ q. t.item ∷ q) (words-append a b)

-- How states are read: `before front s` has these tokens before what s has.
pub record Reading (S : Type 0) : Type 0 where
  pub before : Tokens → S → S
  pub words : S → Tokens
  pub before-nil : (s : S) → before [] s ≡ s
  pub before-append : (a b : Tokens) (s : S) → before (a ++ b) s ≡ before a (before b s)
  pub words-before : (a : Tokens) (s : S) → words (before a s) ≡ a ++ words s

abbrev pub next : {S : Type 0} → Reading S → S → Option (Placed Word)
next R s = head (R.words s)

pub next-before : {S : Type 0} (R : Reading S) (front : Tokens) (a b : S) → next R a ≡ next R b → next R (R.before front a) ≡ next R (R.before front b)
next-before R front a b e = ap head (R.words-before front a) ∙ head-append front (R.words a) (R.words b) e ∙ ap head (sym (R.words-before front b))

-- Values that a rule reads: how they are spelled, which are within the limits, and which are within any.
pub record Sort (B : Type 0) : Type 1 where
  pub spelled : B → List Word
  pub IsOne : B → Type 0
  pub IsSome : B → Type 0
  pub is_some : (b : B) → IsOne b → IsSome b

-- It read a value, whose spelling goes on with the front, and it would again before anything that begins as the rest does.
pub record IsRead {S B : Type 0} (R : Reading S) (pre : List Word) (K : Sort B) (Again : S → Outcome S B → Type 0) (s : S) (b : B) (rest : S) : Type 0 where
  pub front : Tokens
  pub whole : s ≡ R.before front rest
  pub valid : K.IsOne b
  pub text : K.spelled b ≡ pre ++ words_of front
  pub again : (other : S) → next R other ≡ next R rest → Again (R.before front other) (done b other)

-- some spelling begins so
abbrev pub IsViable : {B : Type 0} → Sort B → List Word → Type 0
IsViable K front = (b : _) × (more : List Word) × K.IsSome b × (K.spelled b ≡ front ++ more)

pub record IsRefused {S B : Type 0} (R : Reading S) (pre : List Word) (K : Sort B) (Again : S → Outcome S B → Type 0) (s rest : S) : Type 0 where
  pub front : Tokens
  pub whole : s ≡ R.before front rest
  pub viable : (pre ++ words_of front ≡ []) ⊎ IsViable K (pre ++ words_of front)
  pub again : (other : S) → next R other ≡ next R rest → Again (R.before front other) (failed Syntax other)

abbrev pub Good : {S B : Type 0} → Reading S → List Word → Sort B → (S → Outcome S B → Type 0) → S → Outcome S B → Type 0
Good R pre K Again s (done b rest) = IsRead R pre K Again s b rest
Good R pre K Again s (failed Syntax rest) = IsRefused R pre K Again s rest
Good R pre K Again s (failed Deep rest) = Unit {0}
Good R pre K Again s (failed Memory rest) = ⊥

-- nothing more is to be read
pub good_done : {S B : Type 0} (R : Reading S) (pre : List Word) (K : Sort B) (Again : S → Outcome S B → Type 0) (rest : S) (b : B)
    → K.IsOne b → K.spelled b ≡ pre → ((other : S) → next R other ≡ next R rest → Again other (done b other))
    → Good R pre K Again rest (done b rest)
good_done R pre K Again rest b v t a = record {
  front = [];
  whole = sym (R.before-nil rest);
  valid = v;
  text = t ∙ sym (append-nil pre);
  again = λ other e. subst (λ q. Again q (done b other)) (sym (R.before-nil other)) (a other e);
}

-- the next word can't stand here
pub good_fail : {S B : Type 0} (R : Reading S) (pre : List Word) (K : Sort B) (Again : S → Outcome S B → Type 0) (rest : S)
    → (pre ≡ []) ⊎ IsViable K pre → ((other : S) → next R other ≡ next R rest → Again other (failed Syntax other))
    → Good R pre K Again rest (failed Syntax rest)
good_fail R pre K Again rest v a = record {
  front = [];
  whole = sym (R.before-nil rest);
  viable = subst (λ p. (p ≡ []) ⊎ IsViable K p) (sym (append-nil pre)) v;
  again = λ other e. subst (λ q. Again q (failed Syntax other)) (sym (R.before-nil other)) (a other e);
}

-- The front of a whole token, which the parser has passed.
pub good_shift : {S B : Type 0} (R : Reading S) (pre : List Word) (K : Sort B) (Again Whole : S → Outcome S B → Type 0) (t : Placed Word) (s : S) (o : Outcome S B)
    → ((q : S) (r : Outcome S B) → Again q r → Whole (R.before (t ∷ []) q) r)
    → Good R (pre ++ t.item ∷ []) K Again s o → Good R pre K Whole (R.before (t ∷ []) s) o
good_shift R pre K Again Whole t s (done b rest) step g = record {
  front = t ∷ g.front;
  whole = ap (R.before (t ∷ [])) g.whole ∙ sym (R.before-append (t ∷ []) g.front rest);
  valid = g.valid;
  text = g.text ∙ append_assoc pre (t.item ∷ []) (words_of g.front);
  again = λ other e. subst (λ q. Whole q (done b other)) (sym (R.before-append (t ∷ []) g.front other)) (step _ _ (g.again other e));
}
good_shift R pre K Again Whole t s (failed Syntax rest) step g = record {
  front = t ∷ g.front;
  whole = ap (R.before (t ∷ [])) g.whole ∙ sym (R.before-append (t ∷ []) g.front rest);
  viable = subst (λ p. (p ≡ []) ⊎ IsViable K p) (append_assoc pre (t.item ∷ []) (words_of g.front)) g.viable;
  again = λ other e. subst (λ q. Whole q (failed Syntax other)) (sym (R.before-append (t ∷ []) g.front other)) (step _ _ (g.again other e));
}
good_shift R pre K Again Whole t s (failed Deep rest) step g = tt
good_shift R pre K Again Whole t s (failed Memory rest) step g = g

module _ {S A B : Type 0} (R : Reading S) (pre : List Word) (KA : Sort A) (KB : Sort B)
    (AgA : S → Outcome S A → Type 0) (AgF : A → S → Outcome S B → Type 0) (AgB : S → Outcome S B → Type 0)
    (step : (a : A) (front : Tokens) (other : S) (r : Outcome S B) → AgA (R.before front other) (done a other) → AgF a other r → AgB (R.before front other) r)
    (stop : (s rest : S) → AgA s (failed Syntax rest) → AgB s (failed Syntax rest))
    -- how a first part is completed
    (first : A) (is_first : KA.IsSome first)
    (lift : (a : A) → KA.IsSome a → IsViable KB (pre ++ KA.spelled a)) where
  spelled_on : (a : A) (x y : Tokens) → KA.spelled a ≡ words_of x → (pre ++ KA.spelled a) ++ words_of y ≡ pre ++ words_of (x ++ y)
  spelled_on a x y e = ap (λ q. (pre ++ q) ++ words_of y) e ∙ append_assoc pre (words_of x) (words_of y) ∙ ap (λ q. pre ++ q) (sym (words-append x y))

  whole_on : (s mid rest : S) (x y : Tokens) → s ≡ R.before x mid → mid ≡ R.before y rest → s ≡ R.before (x ++ y) rest
  whole_on s mid rest x y e f = e ∙ ap (R.before x) f ∙ sym (R.before-append x y rest)

  again_on : (a : A) (s mid rest other : S) (r : Outcome S B) (g : IsRead R [] KA AgA s a mid) (y : Tokens) → mid ≡ R.before y rest → next R other ≡ next R rest → AgF a (R.before y other) r
      → AgB (R.before (g.front ++ y) other) r
  again_on a s mid rest other r g y f e h =
      subst (λ q. AgB q r) (sym (R.before-append g.front y other))
      (step a g.front (R.before y other) r (g.again (R.before y other) (next-before R y other rest e ∙ ap (next R) (sym f))) h)

  join : (a : A) (s mid : S) → IsRead R [] KA AgA s a mid → (r : Outcome S B) → Good R (pre ++ KA.spelled a) KB (AgF a) mid r → Good R pre KB AgB s r
  join a s mid g (done b rest) h = record {
    front = g.front ++ h.front;
    whole = whole_on s mid rest g.front h.front g.whole h.whole;
    valid = h.valid;
    text = h.text ∙ spelled_on a g.front h.front g.text;
    again = λ other e. again_on a s mid rest other (done b other) g h.front h.whole e (h.again other e);
  }
  join a s mid g (failed Syntax rest) h = record {
    front = g.front ++ h.front;
    whole = whole_on s mid rest g.front h.front g.whole h.whole;
    viable = subst (λ p. (p ≡ []) ⊎ IsViable KB p) (spelled_on a g.front h.front g.text) h.viable;
    again = λ other e. again_on a s mid rest other (failed Syntax other) g h.front h.whole e (h.again other e);
  }
  join a s mid g (failed Deep rest) h = tt
  join a s mid g (failed Memory rest) h = h

  further : (front : List Word) → (front ≡ []) ⊎ IsViable KA front → IsViable KB (pre ++ front)
  further front (inl e) =
      let l = lift first is_first in
      (l.0, KA.spelled first ++ l.1, l.2, l.3 ∙ append_assoc pre (KA.spelled first) l.1 ∙ ap (λ q. pre ++ q) (ap (λ q. q ++ (KA.spelled first ++ l.1)) (sym e)) ∙ sym (append_assoc pre front (KA.spelled first ++ l.1)))
  further front (inr v) =
      let l = lift v.0 v.2 in
      (l.0, v.1 ++ l.1, l.2, l.3 ∙ ap (λ q. (pre ++ q) ++ l.1) v.3 ∙ ap (λ q. q ++ l.1) (sym (append_assoc pre front v.1)) ∙ append_assoc (pre ++ front) v.1 l.1)

  -- one parser and then another
  pub good_then : (f : A → Parse S B) (s : S) (o : Outcome S A) → Good R [] KA AgA s o
      → ((a : A) (rest : S) (front : Tokens) → KA.IsOne a → KA.spelled a ≡ words_of front → s ≡ R.before front rest → Good R (pre ++ KA.spelled a) KB (AgF a) rest (f a rest))
      → Good R pre KB AgB s (and_then o f)
  good_then f s (done a mid) g go = join a s mid g (f a mid) (go a mid g.front g.valid g.text g.whole)
  good_then f s (failed Syntax rest) g go = record {
    front = g.front;
    whole = g.whole;
    viable = inr (further (words_of g.front) g.viable);
    again = λ other e. stop _ _ (g.again other e);
  }
  good_then f s (failed Deep rest) g go = tt
  good_then f s (failed Memory rest) g go = absurd g

-- one parser and then another, whose values are spelled as the first one's and more
module _ {S A B : Type 0} (R : Reading S) (pre : List Word) (KA : Sort A) (KB : Sort B) (p' : Parse S A) (f' : A → Parse S B)
    (lift : (a : A) → KA.IsSome a → IsViable KB (KA.spelled a)) where
  longer : (a : A) (x y : Tokens) → KA.spelled a ≡ pre ++ words_of x → KA.spelled a ++ words_of y ≡ pre ++ words_of (x ++ y)
  longer a x y e = ap (λ q. q ++ words_of y) e ∙ append_assoc pre (words_of x) (words_of y) ∙ ap (λ q. pre ++ q) (sym (words-append x y))

  again_through : (a : A) (s mid rest other : S) (r : Outcome S B) (g : IsRead R pre KA (λ q r. p' q ≡ r) s a mid) (y : Tokens) → mid ≡ R.before y rest → next R other ≡ next R rest
      → f' a (R.before y other) ≡ r → and_then (p' (R.before (g.front ++ y) other)) f' ≡ r
  again_through a s mid rest other r g y f e h =
      ap (λ q. and_then (p' q) f') (R.before-append g.front y other)
      ∙ ap (λ o. and_then o f') (g.again (R.before y other) (next-before R y other rest e ∙ ap (next R) (sym f))) ∙ h

  through : (a : A) (s mid : S) → IsRead R pre KA (λ q r. p' q ≡ r) s a mid → (r : Outcome S B) → Good R (KA.spelled a) KB (λ q r. f' a q ≡ r) mid r → Good R pre KB (λ q r. and_then (p' q) f' ≡ r) s r
  through a s mid g (done b rest) h = record {
    front = g.front ++ h.front;
    whole = g.whole ∙ ap (R.before g.front) h.whole ∙ sym (R.before-append g.front h.front rest);
    valid = h.valid;
    text = h.text ∙ longer a g.front h.front g.text;
    again = λ other e. again_through a s mid rest other (done b other) g h.front h.whole e (h.again other e);
  }
  through a s mid g (failed Syntax rest) h = record {
    front = g.front ++ h.front;
    whole = g.whole ∙ ap (R.before g.front) h.whole ∙ sym (R.before-append g.front h.front rest);
    viable = subst (λ p. (p ≡ []) ⊎ IsViable KB p) (longer a g.front h.front g.text) h.viable;
    again = λ other e. again_through a s mid rest other (failed Syntax other) g h.front h.whole e (h.again other e);
  }
  through a s mid g (failed Deep rest) h = tt
  through a s mid g (failed Memory rest) h = h

  further_on : (front : List Word) → (front ≡ []) ⊎ IsViable KA front → (front ≡ []) ⊎ IsViable KB front
  further_on front (inl e) = inl e
  further_on front (inr v) =
      let l = lift v.0 v.2 in
      inr (l.0, v.1 ++ l.1, l.2, l.3 ∙ ap (λ q. q ++ l.1) v.3 ∙ append_assoc front v.1 l.1)

  pub good_through : (f : A → Parse S B) (s : S) (o : Outcome S A) → Good R pre KA (λ q r. p' q ≡ r) s o
      → ((a : A) (rest : S) → KA.IsOne a → Good R (KA.spelled a) KB (λ q r. f' a q ≡ r) rest (f a rest))
      → Good R pre KB (λ q r. and_then (p' q) f' ≡ r) s (and_then o f)
  good_through f s (done a mid) g go = through a s mid g (f a mid) (go a mid g.valid)
  good_through f s (failed Syntax rest) g go = record {
    front = g.front;
    whole = g.whole;
    viable = further_on (pre ++ words_of g.front) g.viable;
    again = λ other e. ap (λ o. and_then o f') (g.again other e);
  }
  good_through f s (failed Deep rest) g go = tt
  good_through f s (failed Memory rest) g go = absurd g

-- a parser is only asked about states that begin as this one does
pub good_again : {S B : Type 0} (R : Reading S) (pre : List Word) (K : Sort B) (Again Also : S → Outcome S B → Type 0) (s : S) (o : Outcome S B)
    → ((q : S) (r : Outcome S B) → next R q ≡ next R s → Again q r → Also q r)
    → Good R pre K Again s o → Good R pre K Also s o
good_again R pre K Again Also s (done b rest) step g = record {
  front = g.front;
  whole = g.whole;
  valid = g.valid;
  text = g.text;
  again = λ other e. step _ _ (next-before R g.front other rest e ∙ ap (next R) (sym g.whole)) (g.again other e);
}
good_again R pre K Again Also s (failed Syntax rest) step g = record {
  front = g.front;
  whole = g.whole;
  viable = g.viable;
  again = λ other e. step _ _ (next-before R g.front other rest e ∙ ap (next R) (sym g.whole)) (g.again other e);
}
good_again R pre K Again Also s (failed Deep rest) step g = tt
good_again R pre K Again Also s (failed Memory rest) step g = g

-- two ways, by the next sign
pub good_if : {S B : Type 0} (R : Reading S) (k : Sign) (pre : List Word) (K : Sort B) (AgX AgY Again : S → Outcome S B → Type 0) (s : S) (x y : Outcome S B)
    → ((q : S) (r : Outcome S B) → sees k (R.words q) ≡ true → AgX q r → Again q r)
    → ((q : S) (r : Outcome S B) → sees k (R.words q) ≡ false → AgY q r → Again q r)
    → (sees k (R.words s) ≡ true → Good R pre K AgX s x)
    → (sees k (R.words s) ≡ false → Good R pre K AgY s y)
    → Good R pre K Again s (cond (sees k (R.words s)) x y)
good_if {S} {B} R k pre K AgX AgY Again s x y here there g h = go (sees k (R.words s)) refl
  where
    go : (b : Bool) → sees k (R.words s) ≡ b → Good R pre K Again s (cond b x y)
    go true e = good_again R pre K AgX Again s x (λ q r i. here q r (sees-head k (R.words q) (R.words s) i ∙ e)) (g e)
    go false e = good_again R pre K AgY Again s y (λ q r i. there q r (sees-head k (R.words q) (R.words s) i ∙ e)) (h e)

-- Each answer of p is right, and p' gives it again.
abbrev pub Goods : {S A : Type 0} → Reading S → Sort A → Parse S A → Parse S A → Type 0
Goods R K p p' = (s : _) → Good R [] K (λ q r. p' q ≡ r) s (p s)

module _ {S A B : Type 0} (R : Reading S) (pre : List Word) (KA : Sort A) (KB : Sort B)
    (p' : Parse S A) (f' : A → Parse S B) (first : A) (is_first : KA.IsSome first)
    (lift : (a : A) → KA.IsSome a → IsViable KB (pre ++ KA.spelled a)) where
  pub good_bind : (f : A → Parse S B) (s : S) (o : Outcome S A) → Good R [] KA (λ q r. p' q ≡ r) s o
      → ((a : A) (rest : S) → KA.IsOne a → Good R (pre ++ KA.spelled a) KB (λ q r. f' a q ≡ r) rest (f a rest))
      → Good R pre KB (λ q r. and_then (p' q) f' ≡ r) s (and_then o f)
  good_bind f s o g go = good_then R pre KA KB (λ q r. p' q ≡ r) (λ a q r. f' a q ≡ r) (λ q r. and_then (p' q) f' ≡ r)
      (λ a front other r e h. ap (λ o. and_then o f') e ∙ h) (λ q rest e. ap (λ o. and_then o f') e) first is_first lift f s o g (λ a rest front v t e. go a rest v)

-- the same values as another sort, behind what was read before
pub good_as : {S A : Type 0} (R : Reading S) (pre : List Word) (KA : Sort A) (KB : Sort A) (Again : S → Outcome S A → Type 0)
    → (first : A) → KA.IsSome first → ((a : A) → KA.IsOne a → KB.IsOne a) → ((a : A) → KA.IsSome a → KB.IsSome a) → ((a : A) → KA.IsSome a → KB.spelled a ≡ pre ++ KA.spelled a)
    → (s : S) (o : Outcome S A) → Good R [] KA Again s o → Good R pre KB Again s o
good_as R pre KA KB Again first is_first one some text s (done a rest) g =
    record { front = g.front; whole = g.whole; valid = one a g.valid; text = text a (KA.is_some a g.valid) ∙ ap (λ q. pre ++ q) g.text; again = g.again }
good_as R pre KA KB Again first is_first one some text s (failed Syntax rest) g =
    record { front = g.front; whole = g.whole; viable = inr (as_viable (words_of g.front) g.viable); again = g.again }
  where
    as_viable : (front : List Word) → (front ≡ []) ⊎ IsViable KA front → IsViable KB (pre ++ front)
    as_viable front (inl e) = (first, KA.spelled first, some first is_first, text first is_first ∙ ap (λ q. q ++ KA.spelled first) (sym (append-nil pre) ∙ ap (λ q. pre ++ q) (sym e)))
    as_viable front (inr v) = (v.0, v.1, some v.0 v.2, text v.0 v.2 ∙ ap (λ q. pre ++ q) v.3 ∙ sym (append_assoc pre front v.1))
good_as R pre KA KB Again first is_first one some text s (failed Deep rest) g = tt
good_as R pre KA KB Again first is_first one some text s (failed Memory rest) g = g
