-- Check words that are counted up: what is enough, and that they are few.
use Rattle.std.proofs.Common.{◌≡◌, ℕ, suc, ◌+◌, ◌-◌, ◌*◌, ◌^◌, ◌<◌, ◌≤◌, false, sym, ap, ◌∙◌, if◌then◌else◌, arith}
use Rattle.std.proofs.Math.Nat.{pow-suc}
use Rattle.std.proofs.Math.Pow.{pow-lt}
use Rattle.std.proofs.lemmas.Bool.Decides.{nat_tests}
use Rattle.hamming_gen.specs.Positions.{is_enough, enough_from, check_words}

-- all numbers are left at first
pub all_left : (k : ℕ) → enough_from k 0 (k + 1 - 0) ≡ check_words k
unfolding check_words
all_left k = ap (enough_from k 0) (omega arith)

-- where a number isn't enough, the next one is tried
not_enough : (k r power : ℕ) → power ≡ 2 ^ r → power < k + r + 1 → is_enough k r ≡ false
not_enough k r power is less = grind (arith, nat_tests)

one_less : (k r : ℕ) → r < k + 1 → k + 1 - r ≡ suc (k + 1 - (r + 1))
one_less k r inside = omega arith

one_up : (r : ℕ) → r + 1 ≡ suc r
one_up r = omega arith

pub next_left :
    (k r power whole : ℕ) → power ≡ 2 ^ r → power < k + r + 1 → r < k + 1 → enough_from k r (k + 1 - r) ≡ whole
    → enough_from k (r + 1) (k + 1 - (r + 1)) ≡ whole
next_left k r power whole is less inside all =
    let more = k + 1 - (r + 1) in
    let tried : enough_from k r (suc more) ≡ enough_from k (suc r) more
    = ap (λ yes. if yes then r else enough_from k (suc r) more) (not_enough k r power is less) in
    ap (λ n. enough_from k n more) (one_up r) ∙ (sym tried ∙ (ap (enough_from k r) (sym (one_less k r inside)) ∙ all))

pub next_power : (r power : ℕ) → power ≡ 2 ^ r → power * 2 ≡ 2 ^ (r + 1)
next_power r power is = ap (λ n. n * 2) is ∙ (sym (pow-suc 2 r) ∙ ap (λ n. 2 ^ n) (sym (one_up r)))

-- numbers whose power is so small are few
pub few : (k r power : ℕ) → k < 2 ^ 61 → r ≤ k + 1 → power ≡ 2 ^ r → power ≤ 2 * (k + r) + 1 → r ≤ 63
few k r power small inside is near =
    let larger : 63 < r → 2 ^ 63 < 2 ^ r = λ above. pow-lt above in
    grind (arith, larger)
