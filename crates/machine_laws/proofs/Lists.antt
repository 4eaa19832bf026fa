-- Lists, of any elements: the first that passes a test, one more at the end, a name that is new.
use Rattle.std.proofs.Common.{◌≡◌, ℕ, zero, suc, ◌<◌, ◌⊎◌, inl, inr, Bool, true, false, not, cond, if◌then◌else◌, nat_eq, List, [], ◌∷◌, ◌++◌, length, Option, Some, None, is_some, slice_get, refl, ap, ◌∙◌, arith}
use Rattle.std.specs.List.{position_or_len}
use Rattle.std.proofs.lemmas.Option.{none-some, same_Some}
use Rattle.std.proofs.lemmas.Bool.{cond-true, cond-false, not_from_true, not_from_false}
use Rattle.cxx_names.specs.Tables.{named, with_name}

-- the first that passes stands where none before it does
pub position-of : {X : Type 0} (test : X → Bool) (xs : List X) (i : ℕ) (x : X) → slice_get xs i ≡ Some x → test x ≡ true
    → ((k : ℕ) (y : X) → k < i → slice_get xs k ≡ Some y → test y ≡ false) → position_or_len test xs ≡ i
position-of test [] i x e t f = absurd (none-some x e)
position-of test (y ∷ ys) zero x e t f = cond-false (not (test y)) _ _ (not_from_true (test y) (ap test (same_Some y x e) ∙ t))
position-of test (y ∷ ys) (suc i) x e t f =
    let later = position-of test ys i x e t (λ k z h g. f (suc k) z (omega arith) g) in
    let first : test y ≡ false = f zero y (omega arith) refl in
    cond-true (not (test y)) _ _ (not_from_false (test y) first) ∙ omega arith

pub at-one-more : {A : Type 0} (xs : List A) (y : A) (i : ℕ) (z : A) → slice_get (xs ++ y ∷ []) i ≡ Some z → (slice_get xs i ≡ Some z) ⊎ ((length xs ≡ i) × (y ≡ z))
at-one-more [] y zero z e = inr (refl, same_Some y z e)
at-one-more [] y (suc i) z e = absurd (none-some z e)
at-one-more (x ∷ xs) y zero z e = inl e
at-one-more (x ∷ xs) y (suc i) z e = next (at-one-more xs y i z e)
  where
    next : (slice_get xs i ≡ Some z) ⊎ ((length xs ≡ i) × (y ≡ z)) → (slice_get xs i ≡ Some z) ⊎ ((suc (length xs) ≡ suc i) × (y ≡ z))
    next (inl at) = inl at
    next (inr last) = inr (ap suc last.0, last.1)

module _ {V : Type 0} where
  abbrev IsOldOrNew : Option V → V → V → Type 0
  IsOldOrNew old t v = (old ≡ Some v) ⊎ (t ≡ v)

  one-new : (b : Bool) (t v : V) → cond b (Some t) None ≡ Some v → IsOldOrNew None t v
  one-new true t v f = inr (same_Some t v f)
  one-new false t v f = inl f

  one-old : (b : Bool) (first t v : V) (before after : Option V) → (after ≡ Some v → IsOldOrNew before t v) → cond b (Some first) after ≡ Some v → IsOldOrNew (cond b (Some first) before) t v
  one-old true first t v before after later f = inl f
  one-old false first t v before after later f = later f

  named-one-more : (es : List (ℕ × V)) (n : ℕ) (t : V) (name : ℕ) (v : V) → named (es ++ (n, t) ∷ []) name ≡ Some v → IsOldOrNew (named es name) t v
  named-one-more [] n t name v e = one-new (nat_eq name n) t v e
  named-one-more (x ∷ es) n t name v e =
      one-old (nat_eq name x.0) x.1 t v (named es name) (named (es ++ (n, t) ∷ []) name) (named-one-more es n t name v) e

  -- what a name stands for is what it stood for, or what was added
  pub named-with : (es : List (ℕ × V)) (n : ℕ) (t : V) (name : ℕ) (v : V) → named (with_name es n t) name ≡ Some v → IsOldOrNew (named es name) t v
  named-with es n t name v e = by (is_some (named es n)) e
    where
      by : (b : Bool) → named (if b then es else es ++ (n, t) ∷ []) name ≡ Some v → IsOldOrNew (named es name) t v
      by true f = inl f
      by false f = named-one-more es n t name v f

  none-old : (b : Bool) (first : V) (before after : Option V) → (before ≡ None → after ≡ None) → cond b (Some first) before ≡ None → cond b (Some first) after ≡ None
  none-old true first before after later e = e
  none-old false first before after later e = later e

  -- a name that stands for nothing, where another is added
  pub none-one-more : (es : List (ℕ × V)) (n : ℕ) (t : V) (name : ℕ) → named es name ≡ None → nat_eq name n ≡ false → named (es ++ (n, t) ∷ []) name ≡ None
  none-one-more [] n t name e other = cond-false (nat_eq name n) _ _ other
  none-one-more (x ∷ es) n t name e other = none-old (nat_eq name x.0) x.1 (named es name) (named (es ++ (n, t) ∷ []) name) (λ f. none-one-more es n t name f other) e
