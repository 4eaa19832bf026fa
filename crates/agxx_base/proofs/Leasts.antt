-- The least of a list of refusals.
use Rattle.std.proofs.Common.{◌≡◌, refl, sym, subst, ◌⊎◌, inl, inr, Bool, true, false, List, [], ◌∷◌, ◌++◌, Option, Some, None, if◌then◌else◌}
use Rattle.std.specs.Option.{is_some}
use Rattle.agxx_base.specs.declared.fault.Refusal.{Refusal}
use Rattle.agxx_base.specs.Refusals.{rank, is_before, nearer, least, least_from, IsAmong, IsLeast, LeastIsLeast}
use Rattle.agxx_base.proofs.Order.{then-irreflexive, then-asymmetric, then-passes, lt-irreflexive, lt-asymmetric, lt-passes}

-- ---- one list behind another

pub least_append : (found : Option Refusal) (rs more : List Refusal) → least_from found (rs ++ more) ≡ least_from (least_from found rs) more
least_append found [] more = refl
least_append found (r ∷ rs) more = least_append (nearer found r) rs more

-- ---- nothing is told only where there is none

stays-by : (r one : Refusal) (rs : List Refusal) (b : Bool) → is_some (least_from (Some r) rs) ≡ true → is_some (least_from (Some one) rs) ≡ true → is_some (least_from (if b then Some r else Some one) rs) ≡ true
stays-by r one rs true p q = p
stays-by r one rs false p q = q

some-stays : (one : Refusal) (rs : List Refusal) → is_some (least_from (Some one) rs) ≡ true
some-stays one [] = refl
some-stays one (r ∷ rs) = stays-by r one rs (is_before r one) (some-stays r rs) (some-stays one rs)

-- where none is the least there is none
pub none_is_least : (rs : List Refusal) → least rs ≡ None → rs ≡ []
none_is_least [] none = refl
none_is_least (r ∷ rs) none = let there : is_some (least_from (Some r) rs) ≡ true = some-stays r rs in cc

-- ---- the order of refusals

before-irreflexive : (a : Refusal) → is_before a a ≡ false
before-irreflexive a =
    then-irreflexive a.place.file _ (then-irreflexive a.place.line _ (then-irreflexive a.place.column _ (lt-irreflexive (rank a.rule))))

before-asymmetric : (a b : Refusal) → is_before a b ≡ true → is_before b a ≡ false
before-asymmetric a b =
    then-asymmetric a.place.file b.place.file _ _
    (then-asymmetric a.place.line b.place.line _ _ (then-asymmetric a.place.column b.place.column _ _ (lt-asymmetric (rank a.rule) (rank b.rule))))

-- what isn't before one that isn't before another isn't before that
before-passes : (a b c : Refusal) → is_before a b ≡ false → is_before b c ≡ false → is_before a c ≡ false
before-passes a b c =
    then-passes a.place.file b.place.file c.place.file _ _ _
    (then-passes a.place.line b.place.line c.place.line _ _ _
    (then-passes a.place.column b.place.column c.place.column _ _ _ (lt-passes (rank a.rule) (rank b.rule) (rank c.rule))))

-- ---- the least

-- of one and those behind it, l is one, and none of them is before it
record IsFirst (one : Refusal) (rs : List Refusal) (l : Refusal) : Type 0 where
  among : (l ≡ one) ⊎ IsAmong l rs
  own : is_before one l ≡ false
  rest : (x : Refusal) → IsAmong x rs → is_before x l ≡ false

first-behind : (one r : Refusal) (rs : List Refusal) (l : Refusal) → is_before r one ≡ true → IsFirst r rs l → IsFirst one (r ∷ rs) l
first-behind one r rs l before f = record {
  among = inr f.among;
  own = before-passes one r l (before-asymmetric r one before) f.own;
  rest = either;
}
  where
    either : (x : Refusal) → IsAmong x (r ∷ rs) → is_before x l ≡ false
    either x (inl e) = subst (λ y. is_before y l ≡ false) (sym e) f.own
    either x (inr i) = f.rest x i

further : (one r : Refusal) (rs : List Refusal) (l : Refusal) → (l ≡ one) ⊎ IsAmong l rs → (l ≡ one) ⊎ IsAmong l (r ∷ rs)
further one r rs l (inl e) = inl e
further one r rs l (inr i) = inr (inr i)

first-kept : (one r : Refusal) (rs : List Refusal) (l : Refusal) → is_before r one ≡ false → IsFirst one rs l → IsFirst one (r ∷ rs) l
first-kept one r rs l after f = record {
  among = further one r rs l f.among;
  own = f.own;
  rest = either;
}
  where
    either : (x : Refusal) → IsAmong x (r ∷ rs) → is_before x l ≡ false
    either x (inl e) = subst (λ y. is_before y l ≡ false) (sym e) (before-passes r one l after f.own)
    either x (inr i) = f.rest x i

first-by : (one r : Refusal) (rs : List Refusal) (l : Refusal) (b : Bool) → is_before r one ≡ b
    → (least_from (Some r) rs ≡ Some l → IsFirst r rs l) → (least_from (Some one) rs ≡ Some l → IsFirst one rs l)
    → least_from (if b then Some r else Some one) rs ≡ Some l → IsFirst one (r ∷ rs) l
first-by one r rs l true e new old h = first-behind one r rs l e (new h)
first-by one r rs l false e new old h = first-kept one r rs l e (old h)

some-same : (a b : Refusal) → ◌≡◌ {A = Option Refusal} (Some a) (Some b) → a ≡ b
some-same a b e = cc

is-first : (one : Refusal) (rs : List Refusal) (l : Refusal) → least_from (Some one) rs ≡ Some l → IsFirst one rs l
is-first one [] l e =
    let same : one ≡ l = some-same one l e in
    record { among = inl (sym same); own = subst (λ y. is_before one y ≡ false) same (before-irreflexive one); rest = λ x i. absurd i }
is-first one (r ∷ rs) l e = first-by one r rs l (is_before r one) refl (is-first r rs l) (is-first one rs l) e

least-some : (rs : List Refusal) (l : Refusal) → least rs ≡ Some l → IsLeast rs l
least-some [] l e = absurd cc
least-some (r ∷ rs) l e =
    let f : IsFirst r rs l = is-first r rs l e in
    record { one = f.among; first = λ x i. first-of-all r rs l f x i }
  where
    first-of-all : (r : Refusal) (rs : List Refusal) (l : Refusal) → IsFirst r rs l → (x : Refusal) → IsAmong x (r ∷ rs) → is_before x l ≡ false
    first-of-all r rs l f x (inl e) = subst (λ y. is_before y l ≡ false) (sym e) f.own
    first-of-all r rs l f x (inr i) = f.rest x i

pub least_is_least : LeastIsLeast
least_is_least = record { some = least-some; none = none_is_least }
