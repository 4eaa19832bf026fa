-- Lists by numbers as functions: an element changed, one more at the end, an entry changed.
use Rattle.std.proofs.Common.{◌≡◌, ℕ, zero, suc, if◌then◌else◌, cond, nat_eq, List, [], ◌∷◌, ◌++◌, length, Bool, true, false, Option, Some, None, slice_get, slice_set, refl, ap, sym, ◌∙◌, eq-eqb, ne_eqb, eqb-true}
use Rattle.step_machine.specs.Entries.{entry, with_entry}
use Rattle.step_machine.specs.Total.{same}

pub same-eq : (a b : ℕ) → same a b ≡ true → a ≡ b
unfolding same
same-eq zero zero e = refl
same-eq zero (suc b) e = cc
same-eq (suc a) zero e = cc
same-eq (suc a) (suc b) e = ap suc (same-eq a b e)

pub same-self : (a : ℕ) → same a a ≡ true
unfolding same
same-self zero = refl
same-self (suc a) = same-self a

pub nat-same : (a b : ℕ) → nat_eq a b ≡ same a b
nat-same a b = go (same a b) refl
  where
    go : (x : Bool) → same a b ≡ x → nat_eq a b ≡ x
    go true e = eq-eqb a b (same-eq a b e)
    go false e = ne_eqb a b (λ q. cc (ap (same a) q, e, same-self a))

pub get-set : {A : Type 0} (xs : List A) (p q : ℕ) (x y : A) → slice_get xs p ≡ Some y → slice_get (slice_set xs p x) q ≡ (if same q p then Some x else slice_get xs q)
unfolding same
get-set [] p q x y e = cc
get-set (a ∷ xs) zero zero x y e = refl
get-set (a ∷ xs) zero (suc q) x y e = refl
get-set (a ∷ xs) (suc p) zero x y e = refl
get-set (a ∷ xs) (suc p) (suc q) x y e = get-set xs p q x y e

pub get-snoc : {A : Type 0} (xs : List A) (q : ℕ) (x : A) → slice_get (xs ++ x ∷ []) q ≡ (if same q (length xs) then Some x else slice_get xs q)
unfolding same
get-snoc [] zero x = refl
get-snoc [] (suc q) x = refl
get-snoc (a ∷ xs) zero x = refl
get-snoc (a ∷ xs) (suc q) x = get-snoc xs q x

pub get-end : {A : Type 0} (xs : List A) → slice_get xs (length xs) ≡ None
get-end [] = refl
get-end (a ∷ xs) = get-end xs

pub length-snoc : {A : Type 0} (xs : List A) (x : A) → length (xs ++ x ∷ []) ≡ suc (length xs)
length-snoc [] x = refl
length-snoc (a ∷ xs) x = ap suc (length-snoc xs x)

module _ {A : Type 0} where
  -- the first entry's key is the one that is changed, or another
  by-first : (key first k : ℕ) (old x : A) (more : Option A) (b c : Bool) → same k key ≡ b → same k first ≡ c → key ≡ first
      → cond c (Some x) more ≡ (if b then Some x else cond c (Some old) more)
  by-first key first k old x more true true e f q = refl
  by-first key first k old x more false false e f q = refl
  by-first key first k old x more true false e f q = cc (e, f, ap (same k) q)
  by-first key first k old x more false true e f q = cc (e, f, ap (same k) q)

  by-other : (key first k : ℕ) (old x : A) (more : Option A) (b c : Bool) → same k key ≡ b → same k first ≡ c → same key first ≡ false
      → cond c (Some old) (if b then Some x else more) ≡ (if b then Some x else cond c (Some old) more)
  by-other key first k old x more false c e f q = refl
  by-other key first k old x more true false e f q = refl
  by-other key first k old x more true true e f q = cc (f, q, ap (λ z. same z first) (same-eq k key e))

  pub entry-with : (es : List (ℕ × A)) (key : ℕ) (x : A) (k : ℕ) → entry (with_entry es key x) k ≡ (if same k key then Some x else entry es k)
  entry-with [] key x k = ap (λ b. cond b (Some x) None) (nat-same k key)
  entry-with (e ∷ es) key x k = go (nat_eq key e.0) refl (entry-with es key x k)
    where
      go : (b : Bool) → nat_eq key e.0 ≡ b → entry (with_entry es key x) k ≡ (if same k key then Some x else entry es k)
          → entry (if b then (e.0, x) ∷ es else e ∷ with_entry es key x) k ≡ (if same k key then Some x else cond (nat_eq k e.0) (Some e.1) (entry es k))
      go true q more = rw (nat-same k e.0) (by-first key e.0 k e.1 x (entry es k) (same k key) (same k e.0) refl refl (eqb-true key e.0 q))
      go false q more = rw (nat-same k e.0, more) (by-other key e.0 k e.1 x (entry es k) (same k key) (same k e.0) refl refl (sym (nat-same key e.0) ∙ q))
