-- Rules that are put together of right ones are right.
use Rattle.std.proofs.Common.{◌≡◌, ℕ, zero, suc, ◌+◌, ◌≤◌, Bool, true, false, cond, if◌then◌else◌, List, [], ◌∷◌, ◌++◌, Option, Some, None, ◌⊎◌, inl, inr, refl, sym, ap, ◌∙◌, subst, append_assoc, append-nil, arith}
use Rattle.std.proofs.lemmas.Bool.{eqb-true}
use Rattle.agxx_base.specs.declared.place.Place.{Place}
use Rattle.agxx_base.specs.declared.vocabulary.Sign.{Sign}
use Rattle.agxx_base.specs.declared.vocabulary.Sign.TheVariants as sg
use Rattle.cxx_tree.specs.declared.node.Placed.{Placed}
use Rattle.cxx_tree.specs.Words as w
use Rattle.cxx_tree.specs.Words.{Word, in_parentheses}
use Rattle.cxx_expr.specs.declared.stop.Stop.TheVariants.{Syntax, Deep, Memory}
use Rattle.cxx_expr.specs.Tokens.{Tokens, next, sees, after}
use Rattle.cxx_expr.specs.Outcome.{Outcome, done, failed, Parse, and_then, expect}
use Rattle.cxx_expr.proofs.Good.{Sort, Good, Goods, head, sees-head, good_done, good_fail, good_shift, good_again, good_bind, good_through}
use Rattle.cxx_expr.proofs.Signs.{same_sign-self}
use Rattle.cxx_expr.proofs.States.{tokens, each, sees-sign, good_expect}
use Rattle.cxx_stmt.specs.Parts.{is_name, sees_name, sign_place, sign_at, ended_by, opens, in_parens, no_parts, unless}
use Rattle.cxx_stmt.proofs.Sorts.{Kind, sort, Begins, always, signs, nothing, parens, maybe}

-- Behind what was read before, the answer of p is right here, and p' gives it again.
pub record Here {A : Type 0} (pre : List Word) (K : Kind A) (most depth : ℕ) (p p' : Parse Tokens A) (ts : Tokens) : Type 0 where
  pub good : Good tokens pre (sort K most depth) (λ q r. p' q ≡ r) ts (p ts)

abbrev pub Behind : {A : Type 0} → List Word → Kind A → ℕ → ℕ → Parse Tokens A → Parse Tokens A → Type 0
Behind pre K most depth p p' = (ts : Tokens) → Here pre K most depth p p' ts

pub of_goods : {A : Type 0} {K : Kind A} {most depth : ℕ} {p p' : Parse Tokens A} → Goods tokens (sort K most depth) p p' → Behind [] K most depth p p'
of_goods G ts = record { good = G ts }

pub goods : {A : Type 0} {K : Kind A} {most depth : ℕ} {p p' : Parse Tokens A} → Behind [] K most depth p p' → Goods tokens (sort K most depth) p p'
goods G ts = (G ts).good

-- ---- answers

pub behind_done : {A : Type 0} {pre : List Word} {K : Kind A} {most depth : ℕ} (a : A) → K.Fits most depth a → K.spelled a ≡ pre → Behind pre K most depth (done a) (done a)
behind_done {pre = pre} {K = K} {most = most} {depth = depth} a v t ts = record { good = good_done tokens pre (sort K most depth) (λ q r. done a q ≡ r) ts a v t (λ other h. refl) }

pub behind_fail : {A : Type 0} {pre : List Word} {K : Kind A} {most depth : ℕ} → (pre ≡ []) ⊎ Begins K pre → Behind pre K most depth (failed Syntax) (failed Syntax)
behind_fail {pre = pre} {K = K} {most = most} {depth = depth} v ts = record { good = good_fail tokens pre (sort K most depth) (λ q r. failed Syntax q ≡ r) ts v (λ other h. refl) }

-- the same values with other limits
good_sort : {A : Type 0} (pre : List Word) (KA KB : Sort A) (Again : Tokens → Outcome Tokens A → Type 0) → ((a : A) → KA.IsOne a → KB.IsOne a) → ((a : A) → KA.IsSome a → KB.IsSome a) → ((a : A) → KA.IsSome a → KB.spelled a ≡ KA.spelled a)
    → (ts : Tokens) (o : Outcome Tokens A) → Good tokens pre KA Again ts o → Good tokens pre KB Again ts o
good_sort pre KA KB Again one some text ts (done a rest) g =
    record { front = g.front; whole = g.whole; valid = one a g.valid; text = text a (KA.is_some a g.valid) ∙ g.text; again = g.again }
good_sort pre KA KB Again one some text ts (failed Syntax rest) g =
    record { front = g.front; whole = g.whole; viable = elim g.viable [ inl e ↦ inl e | inr v ↦ inr (v.0, v.1, some v.0 v.2, text v.0 v.2 ∙ v.3) ]; again = g.again }
good_sort pre KA KB Again one some text ts (failed Deep rest) g = tt
good_sort pre KA KB Again one some text ts (failed Memory rest) g = g

pub here_sort : {A : Type 0} {pre : List Word} (KA : Sort A) {KB : Kind A} {most depth : ℕ} {p p' : Parse Tokens A} {ts : Tokens} → ((a : A) → KA.IsOne a → KB.Fits most depth a)
    → ((a : A) → KA.IsSome a → (sort KB most depth).IsSome a) → ((a : A) → KA.IsSome a → KB.spelled a ≡ KA.spelled a) → Good tokens pre KA (λ q r. p' q ≡ r) ts (p ts) → Here pre KB most depth p p' ts
here_sort {pre = pre} KA {KB = KB} {most = most} {depth = depth} {p = p} {p' = p'} {ts = ts} one some text g =
    record { good = good_sort pre KA (sort KB most depth) (λ q r. p' q ≡ r) one some text ts (p ts) g }

pub here_kind : {A : Type 0} {pre : List Word} {KA KB : Kind A} {m n most depth : ℕ} {p p' : Parse Tokens A} {ts : Tokens} → ((a : A) → KA.Fits m n a → KB.Fits most depth a)
    → ((a : A) → (sort KA m n).IsSome a → (sort KB most depth).IsSome a) → ((a : A) → KB.spelled a ≡ KA.spelled a) → Here pre KA m n p p' ts → Here pre KB most depth p p' ts
here_kind {KA = KA} {m = m} {n = n} one some text G = here_sort (sort KA m n) one some (λ a v. text a) G.good

-- parts that are within all limits
pub here_each : {A : Type 0} {pre : List Word} {spelled : A → List Word} {least : A} {most depth : ℕ} {p p' : Parse Tokens A} {ts : Tokens} → Good tokens pre (each spelled) (λ q r. p' q ≡ r) ts (p ts)
    → Here pre (always spelled least) most depth p p' ts
here_each {spelled = spelled} g = here_sort (each spelled) (λ a v. tt) (λ a v. (0, 0, tt)) (λ a v. refl) g

-- rules that answer the same
pub here_same : {A : Type 0} {pre : List Word} {K : Kind A} {most depth : ℕ} {p p' q q' : Parse Tokens A} {ts : Tokens} → q ts ≡ p ts → ((other : Tokens) → head other ≡ head ts → q' other ≡ p' other)
    → Here pre K most depth p p' ts → Here pre K most depth q q' ts
here_same {pre = pre} {K = K} {most = most} {depth = depth} {p = p} {p' = p'} {q = q} {q' = q'} {ts = ts} e e' G = record {
  good = subst (λ o. Good tokens pre (sort K most depth) (λ t r. q' t ≡ r) ts o) (sym e) (good_again tokens pre (sort K most depth) (λ t r. p' t ≡ r) (λ t r. q' t ≡ r) ts (p ts) (λ t r h a. e' t h ∙ a) G.good);
}

-- ---- one part and then another

-- how a part is read here, and how it is completed
pub here_part : {A B : Type 0} (KA : Kind A) {pre : List Word} {KB : Kind B} {most depth : ℕ} {p p' : Parse Tokens A} {f f' : A → Parse Tokens B} {ts : Tokens}
    → ((m n : ℕ) → most ≤ m → depth ≤ n → (a : A) → KA.Fits m n a → Begins KB (pre ++ KA.spelled a))
    → Here [] KA most depth p p' ts → ((a : A) → KA.Fits most depth a → Behind (pre ++ KA.spelled a) KB most depth (f a) (f' a))
    → Here pre KB most depth (λ ts. and_then (p ts) f) (λ ts. and_then (p' ts) f') ts
here_part KA {pre = pre} {KB = KB} {most = most} {depth = depth} {p = p} {p' = p'} {f = f} {f' = f'} {ts = ts} lift G go = record {
  good = good_bind tokens pre (sort KA most depth) (sort KB most depth) p' f' KA.least KA.is_least
      (λ a v. lift (most + v.0) (depth + v.1) (omega arith) (omega arith) a (KA.grows v.0 (most + v.0) v.1 (depth + v.1) (omega arith) (omega arith) a v.2))
      f ts (p ts) G.good (λ a rest v. (go a v rest).good);
}

pub behind_part : {A B : Type 0} (KA : Kind A) {pre : List Word} {KB : Kind B} {most depth : ℕ} {p p' : Parse Tokens A} {f f' : A → Parse Tokens B}
    → ((m n : ℕ) → most ≤ m → depth ≤ n → (a : A) → KA.Fits m n a → Begins KB (pre ++ KA.spelled a))
    → Behind [] KA most depth p p' → ((a : A) → KA.Fits most depth a → Behind (pre ++ KA.spelled a) KB most depth (f a) (f' a))
    → Behind pre KB most depth (λ ts. and_then (p ts) f) (λ ts. and_then (p' ts) f')
behind_part KA lift G go ts = here_part KA lift (G ts) go

-- the second part goes on with the spelling of the first
pub behind_through : {A B : Type 0} (KA : Kind A) {pre : List Word} {KB : Kind B} {most depth : ℕ} {p p' : Parse Tokens A} {f f' : A → Parse Tokens B}
    → ((m n : ℕ) → most ≤ m → depth ≤ n → (a : A) → KA.Fits m n a → Begins KB (KA.spelled a))
    → Behind pre KA most depth p p' → ((a : A) → KA.Fits most depth a → Behind (KA.spelled a) KB most depth (f a) (f' a))
    → Behind pre KB most depth (λ ts. and_then (p ts) f) (λ ts. and_then (p' ts) f')
behind_through KA {pre = pre} {KB = KB} {most = most} {depth = depth} {p = p} {p' = p'} {f = f} {f' = f'} lift G go ts = record {
  good = good_through tokens pre (sort KA most depth) (sort KB most depth) p' f'
      (λ a v. lift (most + v.0) (depth + v.1) (omega arith) (omega arith) a (KA.grows v.0 (most + v.0) v.1 (depth + v.1) (omega arith) (omega arith) a v.2))
      f ts (p ts) (G ts).good (λ a rest v. (go a v rest).good);
}

-- the value of a part, made one of another kind that is spelled the same
pub behind_made : {A B : Type 0} (KA : Kind A) {pre : List Word} {KB : Kind B} {most depth : ℕ} {p p' : Parse Tokens A} (h : A → B)
    → ((m n : ℕ) → most ≤ m → depth ≤ n → (a : A) → KA.Fits m n a → KB.Fits m n (h a)) → ((a : A) → KB.spelled (h a) ≡ KA.spelled a)
    → Behind pre KA most depth p p' → Behind pre KB most depth (λ ts. and_then (p ts) (λ a. done (h a))) (λ ts. and_then (p' ts) (λ a. done (h a)))
behind_made KA {most = most} {depth = depth} h fits text G =
    behind_through KA (λ m n le le' a v. (h a, [], (m, n, fits m n le le' a v), text a ∙ sym (append-nil (KA.spelled a)))) G
    (λ a v. behind_done (h a) (fits most depth (omega arith) (omega arith) a v) (text a))

-- the value of a part, made one of another kind that has what was read before in its spelling
pub here_map : {A B : Type 0} (KA : Kind A) {pre : List Word} {KB : Kind B} {most depth : ℕ} {p p' : Parse Tokens A} {ts : Tokens} (h : A → B)
    → ((m n : ℕ) → most ≤ m → depth ≤ n → (a : A) → KA.Fits m n a → KB.Fits m n (h a)) → ((a : A) → KB.spelled (h a) ≡ pre ++ KA.spelled a)
    → Here [] KA most depth p p' ts → Here pre KB most depth (λ ts. and_then (p ts) (λ a. done (h a))) (λ ts. and_then (p' ts) (λ a. done (h a))) ts
here_map KA {pre = pre} {most = most} {depth = depth} h fits text G =
    here_part KA (λ m n le le' a v. (h a, [], (m, n, fits m n le le' a v), text a ∙ sym (append-nil (pre ++ KA.spelled a)))) G
    (λ a v. behind_done (h a) (fits most depth (omega arith) (omega arith) a v) (text a))

pub behind_map : {A B : Type 0} (KA : Kind A) {pre : List Word} {KB : Kind B} {most depth : ℕ} {p p' : Parse Tokens A} (h : A → B)
    → ((m n : ℕ) → most ≤ m → depth ≤ n → (a : A) → KA.Fits m n a → KB.Fits m n (h a)) → ((a : A) → KB.spelled (h a) ≡ pre ++ KA.spelled a)
    → Behind [] KA most depth p p' → Behind pre KB most depth (λ ts. and_then (p ts) (λ a. done (h a))) (λ ts. and_then (p' ts) (λ a. done (h a)))
behind_map KA h fits text G ts = here_map KA h fits text (G ts)

pub behind_two : {A B C : Type 0} (KA : Kind A) (KB : Kind B) {pre : List Word} {K : Kind C} {most depth : ℕ} {p p' : Parse Tokens A} {q q' : Parse Tokens B} (h : A → B → C)
    → ((m n : ℕ) → most ≤ m → depth ≤ n → (a : A) (b : B) → KA.Fits m n a → KB.Fits m n b → K.Fits m n (h a b))
    → ((a : A) (b : B) → K.spelled (h a b) ≡ pre ++ (KA.spelled a ++ KB.spelled b))
    → Behind [] KA most depth p p' → Behind [] KB most depth q q'
    → Behind pre K most depth (λ ts. and_then (p ts) (λ a ts. and_then (q ts) (λ b. done (h a b)))) (λ ts. and_then (p' ts) (λ a ts. and_then (q' ts) (λ b. done (h a b))))
behind_two KA KB {pre = pre} {K = K} {most = most} {depth = depth} h fits text G H =
    let x = KB.is_least in
    let split : (a : _) (b : _) → K.spelled (h a b) ≡ (pre ++ KA.spelled a) ++ KB.spelled b = λ a b. text a b ∙ sym (append_assoc pre (KA.spelled a) (KB.spelled b)) in
    behind_part KA
    (λ m n le le' a v. (
      h a KB.least,
      KB.spelled KB.least,
      (m + x.0, n + x.1, fits (m + x.0) (n + x.1) (omega arith) (omega arith) a KB.least (KA.grows m (m + x.0) n (n + x.1) (omega arith) (omega arith) a v) (KB.grows x.0 (m + x.0) x.1 (n + x.1) (omega arith) (omega arith) KB.least x.2)),
      split a KB.least,
    ))
    G (λ a v. behind_map KB (h a) (λ m n le le' b u. fits m n le le' a b (KA.grows most m depth n le le' a v) u) (split a) H)

pub behind_three : {A B C D : Type 0} (KA : Kind A) (KB : Kind B) (KC : Kind C) {pre : List Word} {K : Kind D} {most depth : ℕ} {p p' : Parse Tokens A} {q q' : Parse Tokens B} {r r' : Parse Tokens C} (h : A → B → C → D)
    → ((m n : ℕ) → most ≤ m → depth ≤ n → (a : A) (b : B) (c : C) → KA.Fits m n a → KB.Fits m n b → KC.Fits m n c → K.Fits m n (h a b c))
    → ((a : A) (b : B) (c : C) → K.spelled (h a b c) ≡ pre ++ (KA.spelled a ++ (KB.spelled b ++ KC.spelled c)))
    → Behind [] KA most depth p p' → Behind [] KB most depth q q' → Behind [] KC most depth r r'
    → Behind pre K most depth (λ ts. and_then (p ts) (λ a ts. and_then (q ts) (λ b ts. and_then (r ts) (λ c. done (h a b c)))))
    (λ ts. and_then (p' ts) (λ a ts. and_then (q' ts) (λ b ts. and_then (r' ts) (λ c. done (h a b c)))))
behind_three KA KB KC {pre = pre} {K = K} {most = most} {depth = depth} h fits text G H I =
    let x = KB.is_least in
    let y = KC.is_least in
    let split : (a : _) (b : _) (c : _) → K.spelled (h a b c) ≡ (pre ++ KA.spelled a) ++ (KB.spelled b ++ KC.spelled c) =
    λ a b c. text a b c ∙ sym (append_assoc pre (KA.spelled a) (KB.spelled b ++ KC.spelled c)) in
    behind_part KA
    (λ m n le le' a v. (
      h a KB.least KC.least,
      KB.spelled KB.least ++ KC.spelled KC.least,
      (
        m + (x.0 + y.0),
        n + (x.1 + y.1),
        fits (m + (x.0 + y.0)) (n + (x.1 + y.1)) (omega arith) (omega arith) a KB.least KC.least (KA.grows m (m + (x.0 + y.0)) n (n + (x.1 + y.1)) (omega arith) (omega arith) a v)
            (KB.grows x.0 (m + (x.0 + y.0)) x.1 (n + (x.1 + y.1)) (omega arith) (omega arith) KB.least x.2) (KC.grows y.0 (m + (x.0 + y.0)) y.1 (n + (x.1 + y.1)) (omega arith) (omega arith) KC.least y.2),
      ),
      split a KB.least KC.least,
    ))
    G (λ a v. behind_two KB KC (h a) (λ m n le le' b c u w. fits m n le le' a b c (KA.grows most m depth n le le' a v) u w) (split a) H I)

-- ---- by what comes next

pub head-is : (ts : Tokens) → next ts ≡ head ts
head-is [] = refl
head-is (t ∷ ts) = refl

-- a rule that goes by what one word shows
pub here_look : {A X : Type 0} {pre : List Word} {K : Kind A} {most depth : ℕ} {ts : Tokens} (look : Tokens → X) → ((a b : Tokens) → head a ≡ head b → look a ≡ look b) → (rule rule' : X → Parse Tokens A) (x : X) → look ts ≡ x
    → Here pre K most depth (rule x) (rule' x) ts → Here pre K most depth (λ ts. rule (look ts) ts) (λ ts. rule' (look ts) ts) ts
here_look {ts = ts} look same rule rule' x e = here_same (ap (λ y. rule y ts) e) (λ other h. ap (λ y. rule' y other) (same other ts h ∙ e))

pub here_if : {A : Type 0} {pre : List Word} {K : Kind A} {most depth : ℕ} {p p' q q' : Parse Tokens A} {ts : Tokens} (test : Tokens → Bool) → ((a b : Tokens) → head a ≡ head b → test a ≡ test b)
    → (test ts ≡ true → Here pre K most depth p p' ts) → (test ts ≡ false → Here pre K most depth q q' ts)
    → Here pre K most depth (λ ts. if test ts then p ts else q ts) (λ ts. if test ts then p' ts else q' ts) ts
here_if {A} {pre = pre} {K = K} {most = most} {depth = depth} {p = p} {p' = p'} {q = q} {q' = q'} {ts = ts} test same G H = go (test ts) refl
  where
    go : (b : Bool) → test ts ≡ b → Here pre K most depth (λ ts. if test ts then p ts else q ts) (λ ts. if test ts then p' ts else q' ts) ts
    go true e = here_look test same (λ b ts. if b then p ts else q ts) (λ b ts. if b then p' ts else q' ts) true e (G e)
    go false e = here_look test same (λ b ts. if b then p ts else q ts) (λ b ts. if b then p' ts else q' ts) false e (H e)

-- a rule that goes by the next word
pub behind_next : {A : Type 0} {pre : List Word} {K : Kind A} {most depth : ℕ} (rule rule' : Option (Placed Word) → Parse Tokens A) → Here pre K most depth (rule None) (rule' None) []
    → ((t : Placed Word) (ts : Tokens) → Here pre K most depth (rule (Some t)) (rule' (Some t)) (t ∷ ts))
    → Behind pre K most depth (λ ts. rule (next ts) ts) (λ ts. rule' (next ts) ts)
behind_next rule rule' none some [] = here_same refl (λ other h. ap (λ o. rule' o other) (head-is other ∙ h)) none
behind_next rule rule' none some (t ∷ ts) = here_same refl (λ other h. ap (λ o. rule' o other) (head-is other ∙ h)) (some t ts)

-- behind the next word
pub here_past : {A : Type 0} {pre : List Word} {K : Kind A} {most depth : ℕ} {p p' : Parse Tokens A} {ts : Tokens} (t : Placed Word) → Here (pre ++ t.item ∷ []) K most depth p p' ts
    → Here pre K most depth (λ ts. p (after ts)) (λ ts. p' (after ts)) (t ∷ ts)
here_past {pre = pre} {K = K} {most = most} {depth = depth} {p = p} {p' = p'} {ts = ts} t G =
    record { good = good_shift tokens pre (sort K most depth) (λ q r. p' q ≡ r) (λ q r. p' (after q) ≡ r) t ts (p ts) (λ q r a. a) G.good }

-- behind a sign, or a name, that comes next
pub here_sign : {A : Type 0} {pre : List Word} {K : Kind A} {most depth : ℕ} {p p' : Parse Tokens A} {ts : Tokens} (s : Sign) → sees s ts ≡ true → Here (pre ++ w.sign s ∷ []) K most depth p p' (after ts)
    → Here pre K most depth (λ ts. p (after ts)) (λ ts. p' (after ts)) ts
here_sign {pre = pre} {K = K} {most = most} {depth = depth} {p = p} {p' = p'} {ts = ts} s e G =
    let i = sees-sign s ts e in
    subst (λ q. Here pre K most depth (λ ts. p (after ts)) (λ ts. p' (after ts)) q) (sym i.1) (here_past (record { at = i.0; item = w.sign s }) G)

pub name-is : (n : ℕ) (ts : Tokens) → sees_name n ts ≡ true → (at : Place) × (ts ≡ record { at = at; item = w.name n } ∷ after ts)
name-is n [] e = cc
name-is n (t ∷ ts) e = by_word t.at t.item e
  where
    by_word : (at : Place) (word : Word) → is_name n word ≡ true → (at' : Place) × (record { at = at; item = word } ∷ ts ≡ record { at = at'; item = w.name n } ∷ ts)
    by_word at (w.name found) e = (at, ap (λ q. record { at = at; item = w.name q } ∷ ts) (eqb-true found n e))
    by_word at _ e = cc

pub here_name : {A : Type 0} {pre : List Word} {K : Kind A} {most depth : ℕ} {p p' : Parse Tokens A} {ts : Tokens} (n : ℕ) → sees_name n ts ≡ true → Here (pre ++ w.name n ∷ []) K most depth p p' (after ts)
    → Here pre K most depth (λ ts. p (after ts)) (λ ts. p' (after ts)) ts
here_name {pre = pre} {K = K} {most = most} {depth = depth} {p = p} {p' = p'} {ts = ts} n e G =
    let i = name-is n ts e in
    subst (λ q. Here pre K most depth (λ ts. p (after ts)) (λ ts. p' (after ts)) q) (sym i.1) (here_past (record { at = i.0; item = w.name n }) G)

pub name-head : (n : ℕ) (a b : Tokens) → head a ≡ head b → sees_name n a ≡ sees_name n b
name-head n [] [] e = refl
name-head n [] (y ∷ b) e = cc
name-head n (x ∷ a) [] e = cc
name-head n (x ∷ a) (y ∷ b) e = let i : x ≡ y = cc in ap (λ t. is_name n t.item) i

pub behind_if_sign : {A : Type 0} {pre : List Word} {K : Kind A} {most depth : ℕ} {p p' q q' : Parse Tokens A} (s : Sign) → Behind (pre ++ w.sign s ∷ []) K most depth p p' → Behind pre K most depth q q'
    → Behind pre K most depth (λ ts. if sees s ts then p (after ts) else q ts) (λ ts. if sees s ts then p' (after ts) else q' ts)
behind_if_sign s G H ts = here_if (sees s) (sees-head s) (λ e. here_sign s e (G (after ts))) (λ e. H ts)

pub behind_if_name : {A : Type 0} {pre : List Word} {K : Kind A} {most depth : ℕ} {p p' q q' : Parse Tokens A} (n : ℕ) → Behind (pre ++ w.name n ∷ []) K most depth p p' → Behind pre K most depth q q'
    → Behind pre K most depth (λ ts. if sees_name n ts then p (after ts) else q ts) (λ ts. if sees_name n ts then p' (after ts) else q' ts)
behind_if_name n G H ts = here_if (sees_name n) (name-head n) (λ e. here_name n e (G (after ts))) (λ e. H ts)

place-head : (s : Sign) (a b : Tokens) → head a ≡ head b → sign_at s a ≡ sign_at s b
place-head s a b e = ap (sign_place s) (head-is a ∙ e ∙ sym (head-is b))

at-sees : (s : Sign) (ts : Tokens) → sees s ts ≡ false → sign_at s ts ≡ None
at-sees s [] e = refl
at-sees s (t ∷ ts) e = rw e refl

at-sign : (s : Sign) (at : Place) (ts : Tokens) → sign_at s (record { at = at; item = w.sign s } ∷ ts) ≡ Some at
at-sign s at ts = rw (same_sign-self s) refl

-- a rule that goes by where a sign stands
pub behind_at : {A : Type 0} {pre : List Word} {K : Kind A} {most depth : ℕ} (s : Sign) (rule rule' : Option Place → Parse Tokens A)
    → ((at : Place) (ts : Tokens) → Here pre K most depth (rule (Some at)) (rule' (Some at)) (record { at = at; item = w.sign s } ∷ ts)) → Behind pre K most depth (rule None) (rule' None)
    → Behind pre K most depth (λ ts. rule (sign_at s ts) ts) (λ ts. rule' (sign_at s ts) ts)
behind_at {pre = pre} {K = K} {most = most} {depth = depth} s rule rule' some none ts = go (sees s ts) refl
  where
    go : (b : Bool) → sees s ts ≡ b → Here pre K most depth (λ ts. rule (sign_at s ts) ts) (λ ts. rule' (sign_at s ts) ts) ts
    go true e =
        let i = sees-sign s ts e in
        subst (Here pre K most depth (λ ts. rule (sign_at s ts) ts) (λ ts. rule' (sign_at s ts) ts)) (sym i.1)
        (here_look (sign_at s) (place-head s) rule rule' (Some i.0) (at-sign s i.0 (after ts)) (some i.0 (after ts)))
    go false e = here_look (sign_at s) (place-head s) rule rule' None (at-sees s ts e) (none ts)

pub behind_sign : {most depth : ℕ} (s : Sign) → Behind [] (signs s) most depth (expect s) (expect s)
behind_sign s ts = here_each (good_expect s ts)

-- a value that was read, and a sign
pub behind_ended : {A : Type 0} {pre : List Word} {K : Kind A} {most depth : ℕ} (s : Sign) (a : A) → K.Fits most depth a → K.spelled a ≡ pre ++ w.sign s ∷ [] → Behind pre K most depth (ended_by s a) (ended_by s a)
behind_ended {K = K} {most = most} {depth = depth} s a v t = behind_map (signs s) (λ u. a) (λ m n le le' u i. K.grows most m depth n le le' a v) (λ u. t) (behind_sign s)

ended-is : {A B : Type 0} (s : Sign) (a : A) (f : A → Parse Tokens B) (ts : Tokens) → and_then (ended_by s a ts) f ≡ if sees s ts then f a (after ts) else failed Syntax ts
ended-is {A} {B} s a f ts = go (sees s ts)
  where
    go : (b : Bool) → and_then (and_then (cond b (done tt (after ts)) (failed Syntax ts)) (λ (u : Unit {0}). done a)) f ≡ cond b (f a (after ts)) (failed Syntax ts)
    go true = refl
    go false = refl

begins-before : {A : Type 0} (K : Kind A) (pre : List Word) (s : Sign) → Begins K (pre ++ w.sign s ∷ []) → Begins K pre
begins-before K pre s b = (b.0, w.sign s ∷ b.1, b.2, b.3 ∙ append_assoc pre (w.sign s ∷ []) b.1)

-- a value that was read, a sign, and what follows
pub behind_ended_then : {A B : Type 0} {pre : List Word} {K : Kind B} {most depth : ℕ} {f f' : A → Parse Tokens B} (s : Sign) (a : A) → Begins K (pre ++ w.sign s ∷ [])
    → Behind (pre ++ w.sign s ∷ []) K most depth (f a) (f' a) → Behind pre K most depth (λ ts. and_then (ended_by s a ts) f) (λ ts. and_then (ended_by s a ts) f')
behind_ended_then {pre = pre} {K = K} {f = f} {f' = f'} s a b G ts =
    here_same (ended-is s a f ts) (λ other h. ended-is s a f' other) (behind_if_sign s G (behind_fail (inr (begins-before K pre s b))) ts)

-- a part that stands there unless a sign comes next
pub behind_unless : {A : Type 0} {K : Kind A} {most depth : ℕ} {p p' : Parse Tokens A} (s : Sign) → Behind [] K most depth p p' → Behind [] (maybe K) most depth (unless s p) (unless s p')
behind_unless {K = K} s G ts =
    here_if (sees s) (sees-head s) (λ e. behind_done None tt refl ts) (λ e. behind_map K Some (λ m n le le' a v. v) (λ a. refl) G ts)

-- ---- in parentheses

-- with both signs, at the depth of what stands between them
abbrev within_parens : {A : Type 0} → Kind A → Kind A
within_parens K = record { spelled = λ a. in_parentheses (K.spelled a); Fits = K.Fits; grows = K.grows; least = K.least; is_least = K.is_least }

module _ {A : Type 0} {K : Kind A} {most : ℕ} where
  behind_close : {below : ℕ} {p p' : Parse Tokens A} → Behind [] K most below p p'
      → Behind (w.sign sg.OpenParen ∷ []) (parens K) most (suc below) (λ ts. and_then (p ts) (ended_by sg.CloseParen)) (λ ts. and_then (p' ts) (ended_by sg.CloseParen))
  behind_close {below = below} {p = p} {p' = p'} G ts =
      here_kind (λ a v. (below, refl, v)) (λ a v. (v.0, suc v.1, (v.1, refl, v.2))) (λ a. refl)
      (behind_two K (signs sg.CloseParen) {pre = w.sign sg.OpenParen ∷ []} {K = within_parens K} (λ a u. a) (λ m n le le' a u v i. v) (λ a u. refl) G (behind_sign sg.CloseParen) ts)

  pub behind_parens : {depth deeper : ℕ} (inner inner' : ℕ → Parse Tokens A) → depth ≤ deeper
      → ((below under : ℕ) → depth ≡ suc below → deeper ≡ suc under → below ≤ under → Behind [] K most below (inner below) (inner' under))
      → Behind [] (parens K) most depth (in_parens depth inner) (in_parens deeper inner')
  behind_parens {depth = depth} {deeper = deeper} inner inner' le G ts =
      here_if (sees sg.OpenParen) (sees-head sg.OpenParen) (λ e. by_depth depth deeper le G e) (λ e. behind_fail (inl refl) ts)
    where
      by_depth : (depth deeper : ℕ) → depth ≤ deeper → ((below under : ℕ) → depth ≡ suc below → deeper ≡ suc under → below ≤ under → Behind [] K most below (inner below) (inner' under)) → sees sg.OpenParen ts ≡ true
          → Here [] (parens K) most depth (opens depth (λ below ts. and_then (inner below ts) (ended_by sg.CloseParen))) (opens deeper (λ below ts. and_then (inner' below ts) (ended_by sg.CloseParen))) ts
      by_depth zero deeper le G e = record { good = tt }
      by_depth (suc below) zero le G e = absurd (omega arith)
      by_depth (suc below) (suc under) le G e = here_sign sg.OpenParen e (behind_close (G below under refl refl (omega arith)) (after ts))

pub good_no_parts : (most depth deeper : ℕ) → depth ≤ deeper → Behind [] (parens nothing) most depth (no_parts depth) (no_parts deeper)
unfolding no_parts
good_no_parts most depth deeper le = behind_parens {K = nothing} (λ below. done tt) (λ below. done tt) le (λ below under e e' le'. behind_done tt tt refl)
