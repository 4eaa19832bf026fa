-- Each guarded class stands in the table with the place of its first guard.
use Rattle.std.proofs.Common.{◌≡◌, refl, sym, ap, ◌∙◌, ℕ, Bool, true, false, cond, List, [], ◌∷◌, ◌++◌, Option, Some, None, nat_eq, option_map, if◌then◌else◌}
use Rattle.std.proofs.lemmas.Bool.{eqb-true, eq-eqb}
use Rattle.std.specs.Option.{is_some}
use Rattle.agxx_base.specs.declared.ids.NameId.{NameId}
use Rattle.agxx_base.specs.declared.place.Place.{Place}
use Rattle.cxx_names.specs.LookUp.{or_next}
use Rattle.cxx_names.specs.Tables.{named, with_name}
use Rattle.guards.specs.declared.guard.Guard.{Guard}
use Rattle.guards.specs.Guarding.{guard_of}
use Rattle.guard_rules.specs.Parts.{place_of, first_places}

swapped : (a b : ℕ) → nat_eq a b ≡ nat_eq b a
swapped a b = by (nat_eq a b) (nat_eq b a) refl refl
  where
    by : (s t : Bool) → nat_eq a b ≡ s → nat_eq b a ≡ t → s ≡ t
    by true t e f = let same : nat_eq b a ≡ true = eq-eqb b a (sym (eqb-true a b e)) in sym same ∙ f
    by false true e f = let same : nat_eq a b ≡ true = eq-eqb a b (sym (eqb-true b a f)) in sym e ∙ same
    by false false e f = refl

or-none : {A : Type 0} (o : Option A) → o ≡ or_next o None
or-none None = refl
or-none (Some x) = refl

named-behind : (es : List (ℕ × Place)) (n : ℕ) (at : Place) (m : ℕ) → named (es ++ (n, at) ∷ []) m ≡ or_next (named es m) (if nat_eq m n then Some at else None)
named-behind [] n at m = refl
named-behind (e ∷ es) n at m = by (nat_eq m e.0) (named-behind es n at m)
  where
    by : (b : Bool) → named (es ++ (n, at) ∷ []) m ≡ or_next (named es m) (if nat_eq m n then Some at else None)
        → cond b (Some e.1) (named (es ++ (n, at) ∷ []) m) ≡ or_next (cond b (Some e.1) (named es m)) (if nat_eq m n then Some at else None)
    by true later = refl
    by false later = later

-- a name that stands for a thing stands for no other one
kept : (es : List (ℕ × Place)) (n : ℕ) (at : Place) (m : ℕ) → is_some (named es n) ≡ true → named es m ≡ or_next (named es m) (if nat_eq m n then Some at else None)
kept es n at m there = by (nat_eq m n) refl
  where
    is-first : (o : Option Place) → is_some o ≡ true → o ≡ or_next o (Some at)
    is-first None h = absurd cc
    is-first (Some x) h = refl

    by : (b : Bool) → nat_eq m n ≡ b → named es m ≡ or_next (named es m) (if b then Some at else None)
    by true e = is-first (named es m) (ap (λ k. is_some (named es k)) (eqb-true m n e) ∙ there)
    by false e = or-none (named es m)

named-with : (es : List (ℕ × Place)) (n : ℕ) (at : Place) (m : ℕ) → named (with_name es n at) m ≡ or_next (named es m) (if nat_eq m n then Some at else None)
named-with es n at m = by (is_some (named es n)) refl
  where
    by : (b : Bool) → is_some (named es n) ≡ b → named (if b then es else es ++ (n, at) ∷ []) m ≡ or_next (named es m) (if nat_eq m n then Some at else None)
    by true e = kept es n at m e
    by false e = named-behind es n at m

next-of : (o : Option Place) (b : Bool) (g : Guard) (rest : Option Guard)
    → or_next (or_next o (if b then Some g.at else None)) (option_map place_of rest) ≡ or_next o (option_map place_of (cond b (Some g) rest))
next-of None true g rest = refl
next-of None false g rest = refl
next-of (Some at) b g rest = refl

behind : (es : List (ℕ × Place)) (gs : List Guard) (class : NameId) → named (first_places es gs) class.0 ≡ or_next (named es class.0) (option_map place_of (guard_of gs class))
behind es [] class = or-none (named es class.0)
behind es (g ∷ gs) class =
    behind (with_name es g.class.0 g.at) gs class
    ∙ (ap (λ o. or_next o (option_map place_of (guard_of gs class))) (named-with es g.class.0 g.at class.0)
    ∙ (ap (λ b. or_next (or_next (named es class.0) (if b then Some g.at else None)) (option_map place_of (guard_of gs class))) (swapped class.0 g.class.0)
    ∙ next-of (named es class.0) (nat_eq g.class.0 class.0) g (guard_of gs class)))

pub first_named : (gs : List Guard) (class : NameId) → named (first_places [] gs) class.0 ≡ option_map place_of (guard_of gs class)
first_named gs class = behind [] gs class
