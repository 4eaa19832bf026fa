-- What the table of guards answers.
use Rattle.std.proofs.Common.{◌≡◌, ℕ, refl, ap, ◌∙◌, arith, Bool, true, false, cond, List, [], ◌∷◌, ◌++◌, Option, Some, None, nat_eq, option_map, is_some, if◌then◌else◌}
use Rattle.std.proofs.lemmas.Bool.Decides.{nat_tests}
use Rattle.std.proofs.lemmas.Bool.{eqb-true, false≢true}
use Rattle.agxx_base.specs.declared.ids.NameId.{NameId}
use Rattle.cxx_names.specs.Tables.{named, with_name}
use Rattle.cxx_names.specs.LookUp.{or_next}
use Rattle.guards.specs.declared.guard.Guard.{Guard}
use Rattle.guards.specs.declared.guard.GuardKind.{GuardKind}
use Rattle.guards.specs.Guarding.{guard_of, kind_of}
use Rattle.protect.specs.Kinds.{kinds_after, kinds}

flipped : (a b : ℕ) → nat_eq a b ≡ nat_eq b a
flipped a b = grind (arith, nat_tests)

one_more : (es : List (ℕ × GuardKind)) (n : ℕ) (k : GuardKind) (name : ℕ) → named (es ++ (n, k) ∷ []) name ≡ or_next (named es name) (if nat_eq name n then Some k else None)
one_more [] n k name = refl
one_more (e ∷ es) n k name = by (nat_eq name e.0) (one_more es n k name)
  where
    by : (b : Bool) → named (es ++ (n, k) ∷ []) name ≡ or_next (named es name) (if nat_eq name n then Some k else None)
        → cond b (Some e.1) (named (es ++ (n, k) ∷ []) name) ≡ or_next (cond b (Some e.1) (named es name)) (if nat_eq name n then Some k else None)
    by true later = refl
    by false later = later

or_none : (o : Option GuardKind) → o ≡ or_next o None
or_none None = refl
or_none (Some k) = refl

-- a thing that counts already still counts
known : (o next : Option GuardKind) → is_some o ≡ true → o ≡ or_next o next
known (Some k) next is = refl
known None next is = absurd (false≢true is)

-- a name that is given a guard has the one that it had, or else this one
with_one : (es : List (ℕ × GuardKind)) (n : ℕ) (k : GuardKind) (name : ℕ) → named (with_name es n k) name ≡ or_next (named es name) (if nat_eq name n then Some k else None)
with_one es n k name = by (is_some (named es n)) refl
  where
    still : is_some (named es n) ≡ true → (same : Bool) → nat_eq name n ≡ same → named es name ≡ or_next (named es name) (if same then Some k else None)
    still old true e = known (named es name) (Some k) (ap (λ m. is_some (named es m)) (eqb-true name n e) ∙ old)
    still old false e = or_none (named es name)

    by : (b : Bool) → is_some (named es n) ≡ b → named (if b then es else es ++ (n, k) ∷ []) name ≡ or_next (named es name) (if nat_eq name n then Some k else None)
    by false new = one_more es n k name
    by true old = still old (nat_eq name n) refl

-- the guard at hand, and then those behind it
joined : (o : Option GuardKind) (b : Bool) (g : Guard) (found : Option Guard)
    → or_next (or_next o (if b then Some g.kind else None)) (option_map (λ (h : Guard). h.kind) found) ≡ or_next o (option_map (λ (h : Guard). h.kind) (cond b (Some g) found))
joined (Some k) b g found = refl
joined None true g found = refl
joined None false g found = refl

after : (es : List (ℕ × GuardKind)) (guards : List Guard) (class : NameId) → named (kinds_after es guards) class.0 ≡ or_next (named es class.0) (kind_of guards class)
after es [] class = or_none (named es class.0)
after es (g ∷ guards) class =
    after (with_name es g.class.0 g.kind) guards class
    ∙ (ap (λ o. or_next o (kind_of guards class)) (with_one es g.class.0 g.kind class.0)
    ∙ (ap (λ (b : Bool). or_next (or_next (named es class.0) (if b then Some g.kind else None)) (kind_of guards class)) (flipped class.0 g.class.0)
    ∙ joined (named es class.0) (nat_eq g.class.0 class.0) g (guard_of guards class)))

-- the table answers as the guards do
pub kind_found : (guards : List Guard) (class : NameId) → named (kinds guards) class.0 ≡ kind_of guards class
kind_found guards class = after [] guards class
