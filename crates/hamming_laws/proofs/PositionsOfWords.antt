-- The number of check words, and where words stand.
use Rattle.std.proofs.Common.{◌≡◌, ◌≢◌, ◌⊎◌, inl, inr, ℕ, zero, suc, ◌+◌, ◌-◌, ◌*◌, ◌^◌, ◌<◌, ◌≤◌, Bool, true, false, if◌then◌else◌, List, [], ◌∷◌, ◌++◌, length, map, replicate, Some, slice_get, count_ones, refl, sym, ap, ap₂, ◌∙◌, arith, eq-eqb, subst, pow-suc, pow_mono, length-append}
use Rattle.std.specs.Int.{is_power_of_two, IsPowerOfTwo}
use Rattle.std.specs.Int.Count.{ones, ones_cat}
use Rattle.std.proofs.lemmas.Option.{none-some, same_Some}
use Rattle.std.proofs.lemmas.Nat.{pow_pos, pow_below, zero_from_ones}
use Rattle.std.proofs.lemmas.Bool.{false≢true, cases_lt, cases_eq, eqb-true, leb-true, leb-false}
use Rattle.agxx_base.specs.declared.kind.NumKind.{NumKind}
use Rattle.agxx_base.specs.declared.kind.NumKind.TheVariants as num
use Rattle.cxx_arith.specs.Kinds.{width}
use Rattle.hamming_gen.specs.Positions.{is_enough, enough_from, check_words, next_position}
use Rattle.hamming_gen.specs.HammingWords.{Slot, slots, member_slots, check_slot, parity_slot, all_kinds, extra_words}
use Rattle.hamming_laws.specs.PositionsOfWords.{HasPosition, IsNextOther, PositionsAreAll}
use Rattle.hamming_laws.proofs.Sums.{Apart, AllApart, AllBelow, all-apart-at, from_number}

-- ---- how many check words there are

lt_pow : (n : ℕ) → n < 2 ^ n
lt_pow zero = omega arith
lt_pow (suc n) = omega (arith, lt_pow n, pow-suc 2 n)

enough-more : (k r : ℕ) → k + r + 1 ≤ 2 ^ r → k + suc r + 1 ≤ 2 ^ suc r
enough-more k r h = omega (arith, pow-suc 2 r)

enough-from : (k r d : ℕ) → k + r + 1 ≤ 2 ^ r → k + (d + r) + 1 ≤ 2 ^ (d + r)
enough-from k r zero h = let e : 0 + r ≡ r = omega arith in subst (λ n. k + n + 1 ≤ 2 ^ n) (sym e) h
enough-from k r (suc d) h =
    let e : suc d + r ≡ suc (d + r) = omega arith in
    subst (λ n. k + n + 1 ≤ 2 ^ n) (sym e) (enough-more k (d + r) (enough-from k r d h))

pub enough-above : (k r n : ℕ) → k + r + 1 ≤ 2 ^ r → r ≤ n → k + n + 1 ≤ 2 ^ n
enough-above k r n h l =
    let e : n - r + r ≡ n = omega arith in subst (λ m. k + m + 1 ≤ 2 ^ m) e (enough-from k r (n - r) h)

-- the search gives one that is enough where it may go that far, and none before it is
search-enough : (k r more : ℕ) → k + (r + more) + 1 ≤ 2 ^ (r + more)
    → k + enough_from k r more + 1 ≤ 2 ^ enough_from k r more
search-enough k r zero h = let e : r + 0 ≡ r = omega arith in subst (λ n. k + n + 1 ≤ 2 ^ n) e h
search-enough k r (suc more) h =
    by (is_enough k r) refl (search-enough k (suc r) more (let e : r + suc more ≡ suc r + more = omega arith in
    subst (λ n. k + n + 1 ≤ 2 ^ n) e h))
  where
    by : (b : Bool) → is_enough k r ≡ b → k + enough_from k (suc r) more + 1 ≤ 2 ^ enough_from k (suc r) more
        → k + (if b then r else enough_from k (suc r) more) + 1 ≤ 2 ^ (if b then r else enough_from k (suc r) more)
    by true e rest = leb-true (k + r + 1) (2 ^ r) e
    by false e rest = rest

search-least : (k r more n : ℕ) → r ≤ n → k + n + 1 ≤ 2 ^ n → enough_from k r more ≤ n
search-least k r zero n l h = l
search-least k r (suc more) n l h = by (is_enough k r) refl (λ m. search-least k (suc r) more n m h)
  where
    by : (b : Bool) → is_enough k r ≡ b → (suc r ≤ n → enough_from k (suc r) more ≤ n)
        → (if b then r else enough_from k (suc r) more) ≤ n
    by true e rest = l
    by false e rest = rest (at (cases_eq r n))
      where
        at : (r ≡ n) ⊎ (r ≡ n → ⊥) → suc r ≤ n
        at (inl same) =
            let under : 2 ^ r < k + r + 1 = leb-false (k + r + 1) (2 ^ r) e in
            absurd (omega (arith, under, subst (λ m. k + m + 1 ≤ 2 ^ m) (sym same) h))
        at (inr other) = omega (arith, l, other)

pub check-enough : (k : ℕ) → k + check_words k + 1 ≤ 2 ^ check_words k
unfolding check_words
check-enough k = search-enough k 0 (k + 1) (far k)
  where
    far : (k : ℕ) → k + (0 + (k + 1)) + 1 ≤ 2 ^ (0 + (k + 1))
    far k =
        let e : 0 + (k + 1) ≡ suc k = omega arith in
        subst (λ n. k + n + 1 ≤ 2 ^ n) (sym e) (omega (arith, lt_pow k, pow-suc 2 k))

pub check-least : (k r : ℕ) → k + r + 1 ≤ 2 ^ r → check_words k ≤ r
unfolding check_words
check-least k r h = search-least k 0 (k + 1) r (omega arith) h

-- ---- powers of two

-- a number between two powers of two, with the digits below the first
ones-of : (l r : ℕ) → r < 2 ^ l → count_ones (2 ^ l + r) ≡ 1 + count_ones r
unfolding ones
ones-of l r h =
    let e : 2 ^ l + r ≡ 1 * 2 ^ l + r = omega arith in ap count_ones e ∙ ones_cat l 1 r h

pub power-is : (l : ℕ) → is_power_of_two (2 ^ l) ≡ true
unfolding ones
power-is l =
    let e : 2 ^ l ≡ 2 ^ l + 0 = omega arith in
    eq-eqb (count_ones (2 ^ l)) 1 (ap count_ones e ∙ ones-of l 0 (pow_pos l))

-- below the next power of two, one that has a single digit is the power itself
pub power-only : (l n : ℕ) → 2 ^ l ≤ n → n < 2 ^ suc l → is_power_of_two n ≡ true → n ≡ 2 ^ l
power-only l n low high h =
    let rest : n ≡ 2 ^ l + (n - 2 ^ l) = omega arith in
    let within : n - 2 ^ l < 2 ^ l = omega (arith, pow-suc 2 l) in
    let one : count_ones n ≡ 1 = eqb-true (count_ones n) 1 h in
    let none : count_ones (n - 2 ^ l) ≡ 0 = omega (arith, one, ap count_ones rest, ones-of l (n - 2 ^ l) within) in
    omega (arith, zero_from_ones (n - 2 ^ l) none)

pub pow-under : (i j : ℕ) → 2 ^ i < 2 ^ j → i < j
pow-under i j h = by (cases_lt i j)
  where
    by : (i < j) ⊎ (j ≤ i) → i < j
    by (inl l) = l
    by (inr l) = let up : 2 ^ j ≤ 2 ^ i = pow_mono l in absurd (omega (arith, up))

pub no-power : (l n : ℕ) → 2 ^ l < n → n < 2 ^ suc l → IsPowerOfTwo n → ⊥
no-power l n low high h =
    let e : n ≡ 2 ^ h.0 = h.1 in
    let below : h.0 < suc l = pow-under h.0 (suc l) (omega (arith, e)) in
    let above : l < h.0 = pow-under l h.0 (omega (arith, e)) in
    omega (arith, below, above)

-- each number above 0 stands between two powers of two
pub log-of : (n : ℕ) → 0 < n → (l : ℕ) × (2 ^ l ≤ n) × (n < 2 ^ suc l)
log-of zero h = absurd (omega arith)
log-of (suc zero) h = (0, omega arith, omega arith)
log-of (suc (suc n)) h = by (log-of (suc n) (omega arith))
  where
    by : (l : ℕ) × (2 ^ l ≤ suc n) × (suc n < 2 ^ suc l) → (l : ℕ) × (2 ^ l ≤ suc (suc n)) × (suc (suc n) < 2 ^ suc l)
    by (l, low, high) = at (cases_lt (suc (suc n)) (2 ^ suc l))
      where
        at : (suc (suc n) < 2 ^ suc l) ⊎ (2 ^ suc l ≤ suc (suc n))
            → (m : ℕ) × (2 ^ m ≤ suc (suc n)) × (suc (suc n) < 2 ^ suc m)
        at (inl under) = (l, omega arith, under)
        at (inr up) = (suc l, up, omega (arith, high, pow-suc 2 (suc l), pow_pos l, pow-suc 2 l))

pub power-of : (n : ℕ) → 0 < n → is_power_of_two n ≡ true → IsPowerOfTwo n
power-of n h e = let l = log-of n h in (l.0, power-only l.0 n l.1 l.2 e)

-- ---- the positions of members

-- the member of this number, counted from 0, at this position, with the greatest power of two below it
pub record IsMember (i p l : ℕ) : Type 0 where
  pub position : p ≡ i + 2 + l
  pub above : 2 ^ l < p
  pub below : p < 2 ^ suc l

pub first-member : IsMember 0 3 1
first-member = record { position = refl; above = omega arith; below = omega arith }

pub next-member : (i p l : ℕ) → IsMember i p l → (m : ℕ) × IsMember (suc i) (next_position p) m
next-member i p l h = by (is_power_of_two (p + 1)) refl
  where
    power-after : is_power_of_two (p + 1) ≡ true → p + 1 ≡ 2 ^ suc l
    power-after e = over (cases_lt (p + 1) (2 ^ suc l))
      where
        over : (p + 1 < 2 ^ suc l) ⊎ (2 ^ suc l ≤ p + 1) → p + 1 ≡ 2 ^ suc l
        over (inl under) =
            let same : p + 1 ≡ 2 ^ l = power-only l (p + 1) (omega (arith, h.above)) under e in
            absurd (omega (arith, same, h.above))
        over (inr up) = omega (arith, h.below)

    other-after : is_power_of_two (p + 1) ≡ false → p + 1 < 2 ^ suc l
    other-after e = over (cases_eq (p + 1) (2 ^ suc l))
      where
        over : (p + 1 ≡ 2 ^ suc l) ⊎ (p + 1 ≡ 2 ^ suc l → ⊥) → p + 1 < 2 ^ suc l
        over (inl same) = absurd (false≢true (sym e ∙ ap is_power_of_two same ∙ power-is (suc l)))
        over (inr other) = omega (arith, h.below, other)

    by : (b : Bool) → is_power_of_two (p + 1) ≡ b
        → (m : ℕ) × IsMember (suc i) (if b then p + 2 else p + 1) m
    by true e =
        let same : p + 1 ≡ 2 ^ suc l = power-after e in (
          suc l,
          record {
            position = omega (arith, h.position);
            above = omega (arith, same);
            below = omega (arith, same, pow-suc 2 (suc l), h.above);
          },
        )
    by false e = (
      l,
      record {
        position = omega (arith, h.position);
        above = omega (arith, h.above);
        below = other-after e;
      },
    )

next-above : (p : ℕ) → p < next_position p
next-above p = by (is_power_of_two (p + 1))
  where
    by : (b : Bool) → p < (if b then p + 2 else p + 1)
    by true = omega arith
    by false = omega arith

below-apart : (q p : ℕ) → q < p → q ≢ p
below-apart q p h = λ e. omega (arith, h, e)

pub next-between : (p n : ℕ) → p < n → n < next_position p → IsPowerOfTwo n
next-between p n low high = by (is_power_of_two (p + 1)) refl high
  where
    by : (b : Bool) → is_power_of_two (p + 1) ≡ b → n < (if b then p + 2 else p + 1) → IsPowerOfTwo n
    by true e h = let same : p + 1 ≡ n = omega (arith, h, low) in
        subst IsPowerOfTwo same (power-of (p + 1) (omega arith) e)
    by false e h = absurd (omega (arith, h, low))

next-no-power : (p : ℕ) → 2 < p → IsPowerOfTwo (next_position p) → ⊥
next-no-power p h = by (is_power_of_two (p + 1)) refl
  where
    by : (b : Bool) → is_power_of_two (p + 1) ≡ b → IsPowerOfTwo (if b then p + 2 else p + 1) → ⊥
    by true e g =
        let power = power-of (p + 1) (omega arith) e in
        let same : p + 1 ≡ 2 ^ power.0 = power.1 in
        no-power power.0 (p + 2) (omega (arith, same)) (omega (arith, same, pow-suc 2 power.0, h)) g
    by false e g =
        let same : p + 1 ≡ 2 ^ g.0 = g.1 in absurd (false≢true (sym e ∙ ap is_power_of_two same ∙ power-is g.0))

pub next-other : (p : ℕ) → 2 < p → IsNextOther p (next_position p)
next-other p h = record { above = next-above p; other = next-no-power p h; between = next-between p }

-- ---- positions differ

-- members that come later stand higher
later-apart : (q p : ℕ) (kinds : List NumKind) → q < p → Apart q (member_slots p kinds)
later-apart q p [] h = tt
later-apart q p (k ∷ kinds) h =
    (below-apart q p h, later-apart q (next_position p) kinds (omega (arith, h, next-above p)))

members-apart : (p : ℕ) (kinds : List NumKind) → AllApart (member_slots p kinds)
members-apart p [] = tt
members-apart p (k ∷ kinds) = (later-apart p (next_position p) kinds (next-above p), members-apart (next_position p) kinds)

-- check words from number j on, so many, and the parity word
abbrev pub added : ℕ → ℕ → List Slot
added j n = from_number j n ++ parity_slot ∷ []

later-powers : (i j n : ℕ) → i < j → Apart (2 ^ i) (added j n)
later-powers i j zero h = (λ e. omega (arith, e, pow_pos i), tt)
later-powers i j (suc n) h =
    (below-apart (2 ^ i) (2 ^ j) (pow_below i j h), later-powers i (j + 1) n (omega arith))

added-apart : (j n : ℕ) → AllApart (added j n)
added-apart j zero = (tt, tt)
added-apart j (suc n) = (later-powers j (j + 1) n (omega arith), added-apart (j + 1) n)

member-apart : (i p l : ℕ) (j n : ℕ) → IsMember i p l → Apart p (added j n)
member-apart i p l j zero h = (λ e. omega (arith, e, h.above), tt)
member-apart i p l j (suc n) h =
    (λ e. no-power l p h.above h.below (j, e), member-apart i p l (j + 1) n h)

apart-append : (p : ℕ) (a b : List Slot) → Apart p a → Apart p b → Apart p (a ++ b)
apart-append p [] b h g = g
apart-append p (s ∷ a) b h g = (h.0, apart-append p a b h.1 g)

all-apart-from : (i p l : ℕ) (kinds : List NumKind) (j n : ℕ) → IsMember i p l
    → AllApart (member_slots p kinds ++ added j n)
all-apart-from i p l [] j n h = added-apart j n
all-apart-from i p l (k ∷ kinds) j n h = (
  apart-append p (member_slots (next_position p) kinds) (added j n)
      (later-apart p (next_position p) kinds (next-above p)) (member-apart i p l j n h),
  (let m = next-member i p l h in all-apart-from (suc i) (next_position p) m.0 kinds j n m.1),
)

pub all-apart : (kinds : List NumKind) → AllApart (slots kinds)
all-apart kinds = all-apart-from 0 3 1 kinds 0 (check_words (length kinds)) first-member

-- ---- positions are below 2 to the number of check words

-- the greatest power of two below a member's position is that of a check word
member-power : (k i p l : ℕ) → IsMember i p l → i < k → l < check_words k
member-power k i p l h lt = by (cases_lt l (check_words k))
  where
    by : (l < check_words k) ⊎ (check_words k ≤ l) → l < check_words k
    by (inl under) = under
    by (inr up) =
        let far : k + l + 1 ≤ 2 ^ l = enough-above k (check_words k) l (check-enough k) up in
        absurd (omega (arith, far, h.position, h.above))

member-below : (k i p l : ℕ) → IsMember i p l → i < k → p < 2 ^ check_words k
member-below k i p l h lt =
    let up : 2 ^ suc l ≤ 2 ^ check_words k = pow_mono (member-power k i p l h lt) in omega (arith, up, h.below)

members-below : (k i p l : ℕ) (kinds : List NumKind) → IsMember i p l → i + length kinds ≤ k
    → AllBelow (2 ^ check_words k) (member_slots p kinds)
members-below k i p l [] h lt = tt
members-below k i p l (x ∷ kinds) h lt = (
  member-below k i p l h (omega arith),
  (let m = next-member i p l h in members-below k (suc i) (next_position p) m.0 kinds m.1 (omega arith)),
)

pub all-below : (kinds : List NumKind) → AllBelow (2 ^ check_words (length kinds)) (member_slots 3 kinds)
all-below kinds = members-below (length kinds) 0 3 1 kinds first-member (omega arith)

-- ---- each position has its word

pub length-members : (p : ℕ) (kinds : List NumKind) → length (member_slots p kinds) ≡ length kinds
length-members p [] = refl
length-members p (k ∷ kinds) = ap (λ n. suc n) (length-members (next_position p) kinds)

pub length-added : (j n : ℕ) → length (added j n) ≡ n + 1
length-added j zero = refl
length-added j (suc n) = ap (λ m. suc m) (length-added (j + 1) n) ∙ omega arith

pub length-slots : (kinds : List NumKind) → length (slots kinds) ≡ length kinds + extra_words (length kinds)
length-slots kinds =
    length-append (member_slots 3 kinds) (added 0 (check_words (length kinds)))
    ∙ ap₂ (λ a b. a + b) (length-members 3 kinds) (length-added 0 (check_words (length kinds)))

-- positions of which none is above
abbrev AllWithin : ℕ → List Slot → Type 0
AllWithin n [] = Unit {0}
AllWithin n (s ∷ rest) = (s.position ≤ n) × AllWithin n rest

within-at : (n : ℕ) (part : List Slot) (i : ℕ) (s : Slot) → AllWithin n part → slice_get part i ≡ Some s
    → s.position ≤ n
within-at n [] i s h g = absurd (none-some s g)
within-at n (x ∷ part) zero s h g = subst (λ y. y.position ≤ n) (same_Some x s g) h.0
within-at n (x ∷ part) (suc i) s h g = within-at n part i s h.1 g

within-append : (n : ℕ) (a b : List Slot) → AllWithin n a → AllWithin n b → AllWithin n (a ++ b)
within-append n [] b h g = g
within-append n (s ∷ a) b h g = (h.0, within-append n a b h.1 g)

added-within : (m j n : ℕ) → ((i : ℕ) → i < j + n → 2 ^ i ≤ m) → AllWithin m (added j n)
added-within m j zero h = (omega arith, tt)
added-within m j (suc n) h = (h j (omega arith), added-within m (j + 1) n (λ i l. h i (omega (arith, l))))

-- the last position is the number of all words but the parity
members-within : (k i p l : ℕ) (kinds : List NumKind) → IsMember i p l → i + length kinds ≤ k
    → AllWithin (k + check_words k) (member_slots p kinds)
members-within k i p l [] h lt = tt
members-within k i p l (x ∷ kinds) h lt = (
  omega (arith, h.position, member-power k i p l h (omega arith)),
  (let m = next-member i p l h in members-within k (suc i) (next_position p) m.0 kinds m.1 (omega arith)),
)

-- a check word's position is at most the number of words, since one check word less isn't enough
power-within : (k i : ℕ) → i < check_words k → 2 ^ i ≤ k + check_words k
power-within k i h = by (cases_lt (2 ^ i) (k + i + 1))
  where
    by : (2 ^ i < k + i + 1) ⊎ (k + i + 1 ≤ 2 ^ i) → 2 ^ i ≤ k + check_words k
    by (inl under) = omega (arith, under, h)
    by (inr up) = let few : check_words k ≤ i = check-least k i up in absurd (omega (arith, few, h))

pub slots-within : (kinds : List NumKind) → AllWithin (length kinds + check_words (length kinds)) (slots kinds)
slots-within kinds =
    within-append (length kinds + check_words (length kinds)) (member_slots 3 kinds) (added 0 (check_words (length kinds)))
    (members-within (length kinds) 0 3 1 kinds first-member (omega arith))
    (added-within (length kinds + check_words (length kinds)) 0 (check_words (length kinds))
    (λ i l. power-within (length kinds) i (omega (arith, l))))

abbrev has-later : (s : Slot) (part : List Slot) (p : ℕ) → HasPosition part p → HasPosition (s ∷ part) p
has-later s part p h = record { number = suc h.number; slot = h.slot; slot_is = h.slot_is; position = h.position }

has-front : (p : ℕ) (a b : List Slot) → HasPosition b p → HasPosition (a ++ b) p
has-front p [] b h = h
has-front p (s ∷ a) b h = has-later s (a ++ b) p (has-front p a b h)

has-added : (j n i : ℕ) → j ≤ i → i < j + n → HasPosition (added j n) (2 ^ i)
has-added j zero i h g = absurd (omega arith)
has-added j (suc n) i h g =
    by (cases_eq j i) (λ o. has-later (check_slot j) (added (j + 1) n) (2 ^ i)
    (has-added (j + 1) n i (omega (arith, o)) (omega arith)))
  where
    by : (j ≡ i) ⊎ (j ≡ i → ⊥) → ((j ≡ i → ⊥) → HasPosition (added j (suc n)) (2 ^ i))
        → HasPosition (added j (suc n)) (2 ^ i)
    by (inl e) rest = record { number = 0; slot = check_slot j; slot_is = refl; position = ap (λ x. 2 ^ x) e }
    by (inr o) rest = rest o

has-parity : (j n : ℕ) → HasPosition (added j n) 0
has-parity j zero = record { number = 0; slot = parity_slot; slot_is = refl; position = refl }
has-parity j (suc n) = has-later (check_slot j) (added (j + 1) n) 0 (has-parity (j + 1) n)

-- the last member's position is the last of all
last-member : (k i p l : ℕ) → IsMember i p l → i + 1 ≡ k → p ≡ k + check_words k
last-member k i p l h e =
    let up : l < check_words k = member-power k i p l h (omega (arith, e)) in
    let few : check_words k ≤ suc l = check-least k (suc l) (omega (arith, h.position, h.below, e)) in
    omega (arith, h.position, up, few, e)

-- from a member's position on
has-member : (k i p l n : ℕ) (kinds : List NumKind) (b : List Slot) → IsMember i p l → i + length kinds ≡ k → p ≤ n
    → n ≤ k + check_words k → 0 < length kinds
    → HasPosition (member_slots p kinds ++ b) n ⊎ IsPowerOfTwo n
has-member k i p l n [] b h e low high some = absurd (omega arith)
has-member k i p l n (x ∷ kinds) b h e low high some =
    by (cases_eq p n) (cases_lt n (next_position p))
    (λ up full. let m = next-member i p l h in
    has-member k (suc i) (next_position p) m.0 n kinds b m.1 (omega (arith, e)) up high full)
  where
    slot : Slot
    slot = record { position = p; width = width x }

    later : HasPosition (member_slots (next_position p) kinds ++ b) n ⊎ IsPowerOfTwo n
        → HasPosition (member_slots p (x ∷ kinds) ++ b) n ⊎ IsPowerOfTwo n
    later (inl g) = inl (record { number = suc g.number; slot = g.slot; slot_is = g.slot_is; position = g.position })
    later (inr g) = inr g

    by : (p ≡ n) ⊎ (p ≡ n → ⊥) → (n < next_position p) ⊎ (next_position p ≤ n)
        → (next_position p ≤ n → 0 < length kinds
        → HasPosition (member_slots (next_position p) kinds ++ b) n ⊎ IsPowerOfTwo n)
        → HasPosition (member_slots p (x ∷ kinds) ++ b) n ⊎ IsPowerOfTwo n
    by (inl same) c rest =
        inl (record { number = 0; slot = record { position = p; width = width x }; slot_is = refl; position = same })
    by (inr other) (inl under) rest =
        inr (next-between p n (omega (arith, low, other)) under)
    by (inr other) (inr up) rest = later (rest up (more kinds e))
      where
        more : (kinds : List NumKind) → i + suc (length kinds) ≡ k → 0 < length kinds
        more [] e = absurd (omega (arith, last-member k i p l h e, low, high, other))
        more (y ∷ kinds) e = omega arith

pub each-position : (kinds : List NumKind) (p : ℕ) → p ≤ length kinds + check_words (length kinds)
    → HasPosition (slots kinds) p
each-position kinds p high = by kinds p high (cases_lt p 3)
  where
    front : (kinds : List NumKind) (p : ℕ) → HasPosition (added 0 (check_words (length kinds))) p
        → HasPosition (slots kinds) p
    front kinds p h = has-front p (member_slots 3 kinds) (added 0 (check_words (length kinds))) h

    power : (kinds : List NumKind) (p : ℕ) → p ≤ length kinds + check_words (length kinds) → IsPowerOfTwo p
        → HasPosition (slots kinds) p
    power kinds p high h =
        let e : p ≡ 2 ^ h.0 = h.1 in
        let enough : length kinds + check_words (length kinds) + 1 ≤ 2 ^ check_words (length kinds) =
        check-enough (length kinds) in
        let under : h.0 < check_words (length kinds) =
        pow-under h.0 (check_words (length kinds)) (omega (arith, e, enough, high)) in
        front kinds p (subst (HasPosition (added 0 (check_words (length kinds)))) (sym e)
        (has-added 0 (check_words (length kinds)) h.0 (omega arith) (omega (arith, under))))

    some : (kinds : List NumKind) (p : ℕ) → p ≤ length kinds + check_words (length kinds) → 2 < p → 0 < length kinds
    some [] p high low = absurd (omega (arith, check-least 0 0 (omega arith), high, low))
    some (k ∷ kinds) p high low = omega arith

    joined : (kinds : List NumKind) (p : ℕ) → p ≤ length kinds + check_words (length kinds)
        → HasPosition (slots kinds) p ⊎ IsPowerOfTwo p → HasPosition (slots kinds) p
    joined kinds p high (inl h) = h
    joined kinds p high (inr h) = power kinds p high h

    by : (kinds : List NumKind) (p : ℕ) → p ≤ length kinds + check_words (length kinds) → (p < 3) ⊎ (3 ≤ p)
        → HasPosition (slots kinds) p
    by kinds zero high c = front kinds 0 (has-parity 0 (check_words (length kinds)))
    by kinds (suc zero) high c = power kinds 1 high (0, refl)
    by kinds (suc (suc zero)) high c = power kinds 2 high (1, refl)
    by kinds (suc (suc (suc p))) high c =
        joined kinds (suc (suc (suc p))) high (has-member (length kinds) 0 3 1 (suc (suc (suc p))) kinds
        (added 0 (check_words (length kinds))) first-member (omega arith) (omega arith) high
        (some kinds (suc (suc (suc p))) high (omega arith)))

-- ---- widths

widths-members : (p : ℕ) (kinds : List NumKind) (b : List Slot) (ks : List NumKind)
    → map (λ (s : Slot). s.width) b ≡ map width ks
    → map (λ (s : Slot). s.width) (member_slots p kinds ++ b) ≡ map width (kinds ++ ks)
widths-members p [] b ks e = e
widths-members p (k ∷ kinds) b ks e = ap (λ l. width k ∷ l) (widths-members (next_position p) kinds b ks e)

widths-added : (j n : ℕ) → map (λ (s : Slot). s.width) (added j n) ≡ map width (replicate (suc n) num.U64)
widths-added j zero = refl
widths-added j (suc n) = ap (λ l. 64 ∷ l) (widths-added (j + 1) n)

pub widths-of : (kinds : List NumKind) → map (λ (s : Slot). s.width) (slots kinds) ≡ map width (all_kinds kinds)
widths-of kinds =
    widths-members 3 kinds (added 0 (check_words (length kinds))) (replicate (extra_words (length kinds)) num.U64)
    (widths-added 0 (check_words (length kinds))
    ∙ ap (λ n. map width (replicate n num.U64)) (let e : suc (check_words (length kinds)) ≡ extra_words (length kinds) = omega arith in e))

-- ---- the law

pub positions-are-all : PositionsAreAll
positions-are-all = record {
  enough = check-enough;
  least = check-least;
  next = next-other;
  widths = widths-of;
  differ = λ kinds i j s t g k n e. n (all-apart-at (slots kinds) i j s t (all-apart kinds) g k e);
  within = λ kinds i s g. within-at (length kinds + check_words (length kinds)) (slots kinds) i s (slots-within kinds) g;
  each = each-position;
}
