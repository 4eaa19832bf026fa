-- The number of check words is the least that is large enough.
use Rattle.std.proofs.Common.{◌≡◌, ◌≤◌, ◌<◌, ◌⊎◌, inl, inr, ◌+◌, ◌^◌, ℕ, zero, suc, if◌then◌else◌, Bool, true, false, refl, subst, arith}
use Rattle.std.specs.Prelude.{nat_le}
use Rattle.std.proofs.lemmas.Bool.Decides.{nat_tests, leb_tells}
use native.Mathlib.Nat.{pow-suc}
use Rattle.fault_model.specs.Cost.{check_words_from}
use Rattle.fault_model.specs.Laws.{IsCheckCount, CheckWordsAreLeast}

le-tells : (a b : ℕ) → nat_le a b ≡ true → a ≤ b
le-tells a b e = grind (arith, nat_tests)

more-tells : (a b : ℕ) → nat_le a b ≡ false → b < a
more-tells a b e = grind (arith, nat_tests)

-- k + 1 check words are enough
enough-at : (k : ℕ) → k + suc k + 1 ≤ 2 ^ suc k
enough-at zero = omega (arith, pow-suc 2 0)
enough-at (suc k) = omega (arith, enough-at k, pow-suc 2 (suc k))

Enough : ℕ → ℕ → Type 0
Enough k r = k + r + 1 ≤ 2 ^ r

least-next : (k r j : ℕ) → 2 ^ r < k + r + 1 → r ≤ j → Enough k j → suc r ≤ j
unfolding Enough
least-next k r j few h e = go (leb_tells (suc r) j)
  where
    go : ((nat_le (suc r) j ≡ true) × (suc r ≤ j)) ⊎ ((nat_le (suc r) j ≡ false) × (j < suc r)) → suc r ≤ j
    go (inl x) = x.1
    go (inr x) =
        let is : j ≡ r = omega (arith, h, x.1) in
        let f : Enough k r = subst (Enough k) is e in
        omega (arith, few, f)

from : (k n r : ℕ) → n + r ≡ suc k → ((j : ℕ) → Enough k j → r ≤ j) → IsCheckCount k (check_words_from k n r)
unfolding Enough
from k zero r e least = record {
  enough = let is : suc k ≡ r = omega (arith, e) in subst (Enough k) is (enough-at k);
  least = least;
}
from k (suc n) r e least =
    go (nat_le (k + r + 1) (2 ^ r)) refl
    (λ q. from k n (suc r) (omega (arith, e)) (λ j h. least-next k r j (more-tells (k + r + 1) (2 ^ r) q) (least j h) h))
  where
    go : (b : Bool) → nat_le (k + r + 1) (2 ^ r) ≡ b
        → (nat_le (k + r + 1) (2 ^ r) ≡ false → IsCheckCount k (check_words_from k n (suc r)))
        → IsCheckCount k (if b then r else check_words_from k n (suc r))
    go true q more = record { enough = le-tells (k + r + 1) (2 ^ r) q; least = least }
    go false q more = more q

pub check-words-are-least : CheckWordsAreLeast
unfolding Enough
check-words-are-least k = from k (suc k) 0 (omega arith) (λ j h. omega arith)
