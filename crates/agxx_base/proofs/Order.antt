-- The order of refusals, number by number.
use Rattle.std.proofs.Common.{◌≡◌, ℕ, ◌<◌, ◌≤◌, Bool, true, false, refl, sym, ◌∙◌, arith}
use Rattle.std.specs.Prelude.{nat_lt}
use Rattle.std.proofs.lemmas.Bool.Decides.{nat_tests}
use Rattle.agxx_base.specs.Refusals.{then_by}

not-lt : (a b : ℕ) → nat_lt a b ≡ false → b ≤ a
not-lt a b e = grind (arith, nat_tests)

is-lt : (a b : ℕ) → nat_lt a b ≡ true → a < b
is-lt a b e = grind (arith, nat_tests)

lt-test : (a b : ℕ) → a < b → nat_lt a b ≡ true
lt-test a b e = grind (arith, nat_tests)

le-test : (a b : ℕ) → b ≤ a → nat_lt a b ≡ false
le-test a b e = grind (arith, nat_tests)

-- the cases of one number
pub then-less : (a b : ℕ) (o : Bool) → nat_lt a b ≡ true → then_by a b o ≡ true
then-less a b o e = rw e refl

pub then-more : (a b : ℕ) (o : Bool) → nat_lt b a ≡ true → then_by a b o ≡ false
then-more a b o e = rw (le-test a b (omega (arith, is-lt b a e)), e) refl

pub then-equal : (a b : ℕ) (o : Bool) → nat_lt a b ≡ false → nat_lt b a ≡ false → then_by a b o ≡ o
then-equal a b o e f = rw (e, f) refl

pub then-irreflexive : (a : ℕ) (o : Bool) → o ≡ false → then_by a a o ≡ false
then-irreflexive a o e = then-equal a a o (le-test a a (omega arith)) (le-test a a (omega arith)) ∙ e

true-or-false : {A : Type 0} → false ≡ true → A
true-or-false e = absurd (cc)

pub then-asymmetric : (a b : ℕ) (o p : Bool) → (o ≡ true → p ≡ false) → then_by a b o ≡ true → then_by b a p ≡ false
then-asymmetric a b o p f e = by (nat_lt a b) (nat_lt b a) refl refl
  where
    by : (x y : Bool) → nat_lt a b ≡ x → nat_lt b a ≡ y → then_by b a p ≡ false
    by true y ex ey = then-more b a p ex
    by false true ex ey = true-or-false (sym (then-more a b o ey) ∙ e)
    by false false ex ey = then-equal b a p ey ex ∙ f (sym (then-equal a b o ex ey) ∙ e)

pub then-passes : (a b c : ℕ) (o p q : Bool) → (o ≡ false → p ≡ false → q ≡ false) → then_by a b o ≡ false → then_by b c p ≡ false → then_by a c q ≡ false
then-passes a b c o p q f e g = by (nat_lt a b) (nat_lt b a) (nat_lt b c) (nat_lt c b) refl refl refl refl
  where
    by : (x y z w : Bool) → nat_lt a b ≡ x → nat_lt b a ≡ y → nat_lt b c ≡ z → nat_lt c b ≡ w → then_by a c q ≡ false
    by true y z w ex ey ez ew = true-or-false (sym e ∙ then-less a b o ex)
    by false y true w ex ey ez ew = true-or-false (sym g ∙ then-less b c p ez)
    by false true false w ex ey ez ew = then-more a c q (lt-test c a (omega (arith, not-lt b c ez, is-lt b a ey)))
    by false false false true ex ey ez ew = then-more a c q (lt-test c a (omega (arith, is-lt c b ew, not-lt a b ex)))
    by false false false false ex ey ez ew =
        then-equal a c q (le-test a c (omega (arith, not-lt a b ex, not-lt b c ez))) (le-test c a (omega (arith, not-lt b a ey, not-lt c b ew)))
        ∙ f (sym (then-equal a b o ex ey) ∙ e) (sym (then-equal b c p ez ew) ∙ g)

-- ---- the last number

pub lt-irreflexive : (a : ℕ) → nat_lt a a ≡ false
lt-irreflexive a = le-test a a (omega arith)

pub lt-asymmetric : (a b : ℕ) → nat_lt a b ≡ true → nat_lt b a ≡ false
lt-asymmetric a b e = le-test b a (omega (arith, is-lt a b e))

pub lt-passes : (a b c : ℕ) → nat_lt a b ≡ false → nat_lt b c ≡ false → nat_lt a c ≡ false
lt-passes a b c e f = le-test a c (omega (arith, not-lt a b e, not-lt b c f))
