-- Sums over the first threads, and functions of which one value is changed.
use Rattle.std.proofs.Common.{◌≡◌, ℕ, zero, suc, ◌+◌, ◌*◌, ◌<◌, ◌≤◌, ◌⊎◌, inl, inr, refl, sym, ap, subst, arith}
use Rattle.std.specs.Prelude.{Bool, true, false, ◌≢◌}
use Rattle.step_machine.specs.Total.{same, upd}
use Rattle.step_machine.proofs.Same.{same-eq, same-self}
use Rattle.part_protocol.specs.Gate.{total}

pub bool-of : (b : Bool) → (b ≡ true) ⊎ (b ≡ false)
bool-of true = inl refl
bool-of false = inr refl

pub same-not : (a b : ℕ) → a ≢ b → same a b ≡ false
same-not a b other = elim (bool-of (same a b)) [ inl e ↦ absurd (other (same-eq a b e)) | inr e ↦ e ]

pub same-or-not : (a b : ℕ) → (a ≡ b) ⊎ (a ≢ b)
same-or-not a b = elim (bool-of (same a b)) [
  | inl e ↦ inl (same-eq a b e)
  | inr e ↦ inr (λ q. cc (same-self b, e, q))
]

pub upd-here : {A : Type 0} (f : ℕ → A) (p : ℕ) (x : A) → upd f p x p ≡ x
upd-here f p x = rw (same-self p) refl

pub upd-there : {A : Type 0} (f : ℕ → A) (p : ℕ) (x : A) (q : ℕ) → q ≢ p → upd f p x q ≡ f q
upd-there f p x q other = rw (same-not q p other) refl

total-off : (f g : ℕ → ℕ) (t n : ℕ) → n ≤ t → ((u : ℕ) → u ≢ t → g u ≡ f u) → total g n ≡ total f n
total-off f g t zero past others = refl
total-off f g t (suc n) past others =
    let here : g n ≡ f n = others n (omega arith) in
    let below = total-off f g t n (omega arith) others in
    omega arith

-- where one value is changed
pub total-changed : (f g : ℕ → ℕ) (t n : ℕ) → t < n → ((u : ℕ) → u ≢ t → g u ≡ f u) → total g n + f t ≡ total f n + g t
total-changed f g t zero few others = absurd (omega arith)
total-changed f g t (suc n) few others = elim (same-or-not n t) [
  | inl e ↦ (let below = total-off f g t n (omega arith) others in let eg = ap g e in let ef = ap f e in omega arith)
  | inr q ↦ (let below = total-changed f g t n (omega arith) others in let here = others n q in omega arith)
]

-- one is at most the sum
pub total-above : (f : ℕ → ℕ) (t n : ℕ) → t < n → f t ≤ total f n
total-above f t zero few = absurd (omega arith)
total-above f t (suc n) few = elim (same-or-not t n) [
  | inl e ↦ subst (λ m. f m ≤ total f (suc n)) (sym e) (omega arith)
  | inr q ↦ (let below = total-above f t n (omega arith) in omega arith)
]

pub total-zero : (f : ℕ → ℕ) (n : ℕ) → ((t : ℕ) → f t ≡ 0) → total f n ≡ 0
total-zero f zero zeros = refl
total-zero f (suc n) zeros = let below = total-zero f n zeros in let here = zeros n in omega arith

pub total-same : (f g : ℕ → ℕ) (n : ℕ) → ((t : ℕ) → f t ≡ g t) → total f n ≡ total g n
total-same f g zero each = refl
total-same f g (suc n) each = let below = total-same f g n each in let here = each n in omega arith

-- so each is 0 where the sum is
pub each-zero : (f : ℕ → ℕ) (n : ℕ) → total f n ≡ 0 → (t : ℕ) → t < n → f t ≡ 0
each-zero f n zeros t few = let le = total-above f t n few in omega arith

pub total-few : (f : ℕ → ℕ) (n k : ℕ) → ((t : ℕ) → f t ≤ k) → total f n ≤ n * k
total-few f zero k few = grind arith
total-few f (suc n) k few = let below = total-few f n k few in let here = few n in grind arith
