-- Numbers that are too large.
use Rattle.std.proofs.Common.{◌≡◌, ℕ, ◌≤◌, ◌^◌, Bool, true, false, cond, List, [], ◌∷◌, Option, Some, None, Err, refl, ap, subst, arith}
use Rattle.std.specs.Prelude.{◌↔◌, nat_lt, nat_le}
use Rattle.std.specs.List.{list_all}
use Rattle.std.proofs.lemmas.Bool.Decides.{nat_tests}
use Rattle.agxx_base.specs.declared.kind.NumKind.{NumKind}
use Rattle.agxx_base.specs.declared.kind.NumKind.TheVariants as num
use Rattle.agxx_base.specs.declared.rule.Rule.TheVariants.{L3}
use Rattle.cxx_lex.specs.declared.numbers.Base.TheVariants.{Decimal, Hexadecimal}
use Rattle.cxx_lex.specs.declared.numbers.Suffix.TheVariants as suffix
use Rattle.cxx_lex.specs.Numbers.{bound_of, kind_for, by_kind}
use Rattle.cxx_lex.specs.Laws.{RefusesLargeNumbers}
use Rattle.cxx_lex.proofs.Runs.{both}

below : (value bound limit : ℕ) → nat_lt value bound ≡ true → nat_le bound limit ≡ true → limit ≤ value → ⊥
below value bound limit l b h = grind (arith, nat_tests, l, b, h)

above : (value bound : ℕ) → nat_lt value bound ≡ false → bound ≤ value
above value bound l = grind (arith, nat_tests, l)

-- no kind holds what the largest doesn't
none-holds : (value limit : ℕ) (ks : List NumKind) → list_all (λ k. nat_le (bound_of k) limit) ks ≡ true → limit ≤ value → kind_for value ks ≡ None
none-holds value limit [] a h = refl
none-holds value limit (k ∷ ks) a h =
    let p = both (nat_le (bound_of k) limit) (list_all (λ k. nat_le (bound_of k) limit) ks) a in
    go (nat_lt value (bound_of k)) refl p.0 (none-holds value limit ks p.1 h)
  where
    go : (x : Bool) → nat_lt value (bound_of k) ≡ x → nat_le (bound_of k) limit ≡ true → kind_for value ks ≡ None → cond x (Some k) (kind_for value ks) ≡ None
    go true l b n = absurd (below value (bound_of k) limit l b h)
    go false l b n = n

abbrev last_of : NumKind → List NumKind → NumKind
last_of k [] = k
last_of k (j ∷ ks) = last_of j ks

-- what no kind holds the last doesn't
unheld : (value : ℕ) (k : NumKind) (ks : List NumKind) → kind_for value (k ∷ ks) ≡ None → bound_of (last_of k ks) ≤ value
unheld value k [] e = go (nat_lt value (bound_of k)) refl e
  where
    go : (x : Bool) → nat_lt value (bound_of k) ≡ x → cond x (Some k) None ≡ None → bound_of k ≤ value
    go true l f = cc
    go false l f = above value (bound_of k) l
unheld value k (j ∷ ks) e = go (nat_lt value (bound_of k)) e (unheld value j ks)
  where
    go : (x : Bool) → cond x (Some k) (kind_for value (j ∷ ks)) ≡ None → (kind_for value (j ∷ ks) ≡ None → bound_of (last_of j ks) ≤ value) → bound_of (last_of j ks) ≤ value
    go true f next = cc
    go false f next = next f

refused-none : (value : ℕ) (o : Option NumKind) → by_kind value o ≡ Err L3 → o ≡ None
refused-none value None e = refl
refused-none value (Some k) e = cc

by-kinds : (value limit : ℕ) (k : NumKind) (ks : List NumKind) → list_all (λ j. nat_le (bound_of j) limit) (k ∷ ks) ≡ true → bound_of (last_of k ks) ≡ limit → (by_kind value (kind_for value (k ∷ ks)) ≡ Err L3) ↔ (limit ≤ value)
by-kinds value limit k ks a l =
    (λ e. subst (λ z. z ≤ value) l (unheld value k ks (refused-none value (kind_for value (k ∷ ks)) e)), λ h. ap (by_kind value) (none-holds value limit (k ∷ ks) a h))

pub large_numbers : RefusesLargeNumbers
large_numbers Decimal value suffix.Plain = by-kinds value (2 ^ 63) num.I32 (num.I64 ∷ []) refl refl
large_numbers Decimal value suffix.U = by-kinds value (2 ^ 64) num.U32 (num.U64 ∷ []) refl refl
large_numbers Decimal value suffix.Ll = by-kinds value (2 ^ 63) num.I64 [] refl refl
large_numbers Decimal value suffix.Ull = by-kinds value (2 ^ 64) num.U64 [] refl refl
large_numbers Hexadecimal value suffix.Plain = by-kinds value (2 ^ 64) num.I32 (num.U32 ∷ num.I64 ∷ num.U64 ∷ []) refl refl
large_numbers Hexadecimal value suffix.U = by-kinds value (2 ^ 64) num.U32 (num.U64 ∷ []) refl refl
large_numbers Hexadecimal value suffix.Ll = by-kinds value (2 ^ 64) num.I64 (num.U64 ∷ []) refl refl
large_numbers Hexadecimal value suffix.Ull = by-kinds value (2 ^ 64) num.U64 [] refl refl
