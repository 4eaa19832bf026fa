-- Lists and tables, of any things: one more at the end, and what a name stands for then.
use Rattle.std.proofs.Common.{◌≡◌, ℕ, zero, suc, ◌<◌, ◌⊎◌, inl, inr, Bool, true, false, cond, if◌then◌else◌, nat_eq, List, [], ◌∷◌, ◌++◌, length, Option, Some, None, is_some, slice_get, refl, sym, ap, ◌∙◌, arith}
use Rattle.std.proofs.lemmas.Option.{none-some, same_Some}
use Rattle.std.proofs.lemmas.Bool.Decides.{nat_tests}
use Rattle.cxx_names.specs.Tables.{named, with_name}

pub same-number : (a b : ℕ) → nat_eq a b ≡ true → a ≡ b
same-number a b e = grind (arith, nat_tests)

pub number-itself : (a : ℕ) → nat_eq a a ≡ true
number-itself a = grind (arith, nat_tests)

pub get-low : {X : Type 0} (xs ys : List X) (i : ℕ) → i < length xs → slice_get (xs ++ ys) i ≡ slice_get xs i
get-low [] ys i h = absurd (omega arith)
get-low (x ∷ xs) ys zero h = refl
get-low (x ∷ xs) ys (suc i) h = get-low xs ys i (omega arith)

-- one more at the end
pub at-one-more : {X : Type 0} (xs : List X) (y : X) (i : ℕ) (z : X) → slice_get (xs ++ y ∷ []) i ≡ Some z → (slice_get xs i ≡ Some z) ⊎ ((length xs ≡ i) × (y ≡ z))
at-one-more [] y zero z e = inr (refl, same_Some y z e)
at-one-more [] y (suc i) z e = absurd (none-some z e)
at-one-more (x ∷ xs) y zero z e = inl e
at-one-more (x ∷ xs) y (suc i) z e = next (at-one-more xs y i z e)
  where
    next : (slice_get xs i ≡ Some z) ⊎ ((length xs ≡ i) × (y ≡ z)) → (slice_get xs i ≡ Some z) ⊎ ((suc (length xs) ≡ suc i) × (y ≡ z))
    next (inl at) = inl at
    next (inr last) = inr (ap suc last.0, last.1)

module _ {V : Type 0} where
  abbrev pub or_else : Option V → Option V → Option V
  or_else None next = next
  or_else (Some v) next = Some v

  -- what a name stands for among entries with one more
  pub named-one-more : (es : List (ℕ × V)) (n : ℕ) (t : V) (name : ℕ) → named (es ++ (n, t) ∷ []) name ≡ or_else (named es name) (cond (nat_eq name n) (Some t) None)
  named-one-more [] n t name = refl
  named-one-more (x ∷ es) n t name = by (nat_eq name x.0) (named-one-more es n t name)
    where
      by : (b : Bool) → named (es ++ (n, t) ∷ []) name ≡ or_else (named es name) (cond (nat_eq name n) (Some t) None)
          → cond b (Some x.1) (named (es ++ (n, t) ∷ []) name) ≡ or_else (cond b (Some x.1) (named es name)) (cond (nat_eq name n) (Some t) None)
      by true e = refl
      by false e = e

  abbrev IsOldOrNew : Option V → V → V → Type 0
  IsOldOrNew old t v = (old ≡ Some v) ⊎ (t ≡ v)

  old-or-new : (old : Option V) (b : Bool) (t v : V) → or_else old (cond b (Some t) None) ≡ Some v → IsOldOrNew old t v
  old-or-new (Some x) b t v e = inl e
  old-or-new None true t v e = inr (same_Some t v e)
  old-or-new None false t v e = absurd (none-some v e)

  -- what a name stands for is what it stood for, or what was added
  pub named-with : (es : List (ℕ × V)) (n : ℕ) (t : V) (name : ℕ) (v : V) → named (with_name es n t) name ≡ Some v → IsOldOrNew (named es name) t v
  named-with es n t name v e = by (is_some (named es n)) e
    where
      by : (b : Bool) → named (if b then es else es ++ (n, t) ∷ []) name ≡ Some v → IsOldOrNew (named es name) t v
      by true f = inl f
      by false f = old-or-new (named es name) (nat_eq name n) t v (sym (named-one-more es n t name) ∙ f)
