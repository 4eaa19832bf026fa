-- Tables of names to which names are added.
use Rattle.std.proofs.Common.{◌≡◌, ◌≢◌, refl, sym, ap, ◌∙◌, ℕ, Bool, true, false, cond, List, [], ◌∷◌, ◌++◌, Option, Some, None, nat_eq, if◌then◌else◌}
use Rattle.std.proofs.lemmas.Bool.{eqb-true, eq-eqb}
use Rattle.std.specs.Option.{is_some}
use Rattle.cxx_names.specs.LookUp.{or_next}
use Rattle.cxx_names.specs.Tables.{named, with_name}

pub same-number : (k : ℕ) → nat_eq k k ≡ true
same-number k = eq-eqb k k refl

pub other-number : (j k : ℕ) → j ≢ k → nat_eq j k ≡ false
other-number j k other = by (nat_eq j k) refl
  where
    by : (b : Bool) → nat_eq j k ≡ b → b ≡ false
    by true e = absurd (other (eqb-true j k e))
    by false e = refl

module _ {V : Type 0} where
  or-none : (o : Option V) → o ≡ or_next o None
  or-none None = refl
  or-none (Some x) = refl

  named-behind : (es : List (ℕ × V)) (n : ℕ) (v : V) (m : ℕ)
      → named (es ++ (n, v) ∷ []) m ≡ or_next (named es m) (if nat_eq m n then Some v else None)
  named-behind [] n v m = refl
  named-behind (e ∷ es) n v m = by (nat_eq m e.0) (named-behind es n v m)
    where
      by : (b : Bool) → named (es ++ (n, v) ∷ []) m ≡ or_next (named es m) (if nat_eq m n then Some v else None)
          → cond b (Some e.1) (named (es ++ (n, v) ∷ []) m) ≡ or_next (cond b (Some e.1) (named es m))
          (if nat_eq m n then Some v else None)
      by true later = refl
      by false later = later

  -- a name that stands for a thing stands for no other one
  kept : (es : List (ℕ × V)) (n : ℕ) (v : V) (m : ℕ) → is_some (named es n) ≡ true
      → named es m ≡ or_next (named es m) (if nat_eq m n then Some v else None)
  kept es n v m there = by (nat_eq m n) refl
    where
      is-first : (o : Option V) → is_some o ≡ true → o ≡ or_next o (Some v)
      is-first None h = absurd cc
      is-first (Some x) h = refl

      by : (b : Bool) → nat_eq m n ≡ b → named es m ≡ or_next (named es m) (if b then Some v else None)
      by true e = is-first (named es m) (ap (λ k. is_some (named es k)) (eqb-true m n e) ∙ there)
      by false e = or-none (named es m)

  -- what a name stands for once a name is added
  pub named-with : (es : List (ℕ × V)) (n : ℕ) (v : V) (m : ℕ)
      → named (with_name es n v) m ≡ or_next (named es m) (if nat_eq m n then Some v else None)
  named-with es n v m = by (is_some (named es n)) refl
    where
      by : (b : Bool) → is_some (named es n) ≡ b
          → named (if b then es else es ++ (n, v) ∷ []) m ≡ or_next (named es m) (if nat_eq m n then Some v else None)
      by true e = kept es n v m e
      by false e = named-behind es n v m

  pub named-other : (es : List (ℕ × V)) (n : ℕ) (v : V) (m : ℕ) → m ≢ n → named (with_name es n v) m ≡ named es m
  named-other es n v m other =
      named-with es n v m ∙ ap (λ b. or_next (named es m) (if b then Some v else None)) (other-number m n other)
      ∙ sym (or-none (named es m))

  pub named-new : (es : List (ℕ × V)) (n : ℕ) (v : V) → named es n ≡ None → named (with_name es n v) n ≡ Some v
  named-new es n v none =
      named-with es n v n ∙ ap (λ o. or_next o (if nat_eq n n then Some v else None)) none
      ∙ ap (λ b. if b then Some v else None) (same-number n)

  -- what stands for something goes on doing so
  pub named-still : (es : List (ℕ × V)) (n : ℕ) (v : V) (m : ℕ) (w : V) → named es m ≡ Some w
      → named (with_name es n v) m ≡ Some w
  named-still es n v m w e = named-with es n v m ∙ ap (λ o. or_next o (if nat_eq m n then Some v else None)) e

  -- the same name added to two tables
  pub same-with : (es fs : List (ℕ × V)) (n : ℕ) (v : V) (m : ℕ) → named fs m ≡ named es m
      → named (with_name fs n v) m ≡ named (with_name es n v) m
  same-with es fs n v m e =
      named-with fs n v m ∙ ap (λ o. or_next o (if nat_eq m n then Some v else None)) e ∙ sym (named-with es n v m)
