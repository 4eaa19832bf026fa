-- Lines in order: what one more leaves, and how they stand under their numbers.
use Rattle.std.proofs.Common.{◌≡◌, ◌<◌, ◌⊎◌, ◌↔◌, inl, inr, ℕ, suc, nat_eq, nat_lt, Bool, true, false, refl, ap, sym, ◌∙◌, List, [], ◌∷◌, if◌then◌else◌, cond, arith, subst}
use Rattle.std.specs.BTreeMap.{insert_entry}
use Rattle.std.specs.BTreeMap.Range.{IsLtBy}
use Rattle.std.specs.List.{All, AllByRecursion}
use Rattle.std.specs.List.Sorted.{IsStrictlySortedBy}
use Rattle.std.specs.Map.{keys_of, values_of}
use Rattle.std.specs.declared.cmp.Ordering.TheVariants.{Less, Equal, Greater}
use Rattle.std.specs.Ordering.{nat_cmp, match_ordering}
use Rattle.std.proofs.lemmas.Bool.{ltb-true, eqb-true}
use Rattle.std.proofs.lemmas.Bool.Decides.{nat_tests}
use Rattle.std.proofs.lemmas.Map.Keys.{sorted_head, sorted_tail}
use Rattle.flip_plan.specs.declared.flip.PlannedFlip.{PlannedFlip}
use Rattle.fault_lines.specs.Lists.{IsIn, AreBehind, AreInOrder}
use Rattle.fault_lines.specs.Due.{insert_in_order}
use Rattle.fault_watch.specs.Numbered.{AreNumbered}

-- ---- one more line

-- It and the others are in, where none of them is another line of its number.
pub inserted-in : (f : PlannedFlip) (fs : List PlannedFlip) → ((g : PlannedFlip) → IsIn fs g → g.number ≡ f.number → g ≡ f)
    → (g : PlannedFlip) → IsIn (insert_in_order f fs) g ↔ ((f ≡ g) ⊎ IsIn fs g)
inserted-in f [] one g = (λ h. h, λ h. h)
inserted-in f (h ∷ hs) one g =
    go (nat_lt f.number h.number) (nat_eq f.number h.number) refl (inserted-in f hs (λ k i e. one k (inr i) e) g)
  where
    same : nat_eq f.number h.number ≡ true → h ≡ g → f ≡ g
    same e i = sym (one h (inl refl) (sym (eqb-true f.number h.number e))) ∙ i

    go : (lt eq : Bool) → nat_eq f.number h.number ≡ eq → IsIn (insert_in_order f hs) g ↔ ((f ≡ g) ⊎ IsIn hs g)
        → IsIn (if lt then f ∷ h ∷ hs else if eq then f ∷ hs else h ∷ insert_in_order f hs) g ↔ ((f ≡ g) ⊎ ((h ≡ g) ⊎ IsIn hs g))
    go true eq e next = (λ i. i, λ i. i)
    go false true e next = (to, from)
      where
        to : (f ≡ g) ⊎ IsIn hs g → (f ≡ g) ⊎ ((h ≡ g) ⊎ IsIn hs g)
        to (inl i) = inl i
        to (inr i) = inr (inr i)

        from : (f ≡ g) ⊎ ((h ≡ g) ⊎ IsIn hs g) → (f ≡ g) ⊎ IsIn hs g
        from (inl i) = inl i
        from (inr (inl i)) = inl (same e i)
        from (inr (inr i)) = inr i
    go false false e next = (to, from)
      where
        past : (f ≡ g) ⊎ IsIn hs g → (f ≡ g) ⊎ ((h ≡ g) ⊎ IsIn hs g)
        past (inl i) = inl i
        past (inr i) = inr (inr i)

        to : (h ≡ g) ⊎ IsIn (insert_in_order f hs) g → (f ≡ g) ⊎ ((h ≡ g) ⊎ IsIn hs g)
        to (inl i) = inr (inl i)
        to (inr i) = past (next.0 i)

        from : (f ≡ g) ⊎ ((h ≡ g) ⊎ IsIn hs g) → (h ≡ g) ⊎ IsIn (insert_in_order f hs) g
        from (inl i) = inr (next.1 (inl i))
        from (inr (inl i)) = inl i
        from (inr (inr i)) = inr (next.1 (inr i))

pub behind-all : (m n : ℕ) (fs : List PlannedFlip) → m < n → AreBehind n fs → AreBehind m fs
behind-all m n [] l b = tt
behind-all m n (f ∷ fs) l b = (omega (arith, l, b.0), behind-all m n fs l b.1)

behind-inserted : (n : ℕ) (f : PlannedFlip) (fs : List PlannedFlip) → n < f.number → AreBehind n fs → AreBehind n (insert_in_order f fs)
behind-inserted n f [] l b = (l, tt)
behind-inserted n f (h ∷ hs) l b = go (nat_lt f.number h.number) (nat_eq f.number h.number) (behind-inserted n f hs l b.1)
  where
    go : (lt eq : Bool) → AreBehind n (insert_in_order f hs) → AreBehind n (if lt then f ∷ h ∷ hs else if eq then f ∷ hs else h ∷ insert_in_order f hs)
    go true eq next = (l, b)
    go false true next = (l, b.1)
    go false false next = (b.0, next)

pub inserted-order : (f : PlannedFlip) (fs : List PlannedFlip) → AreInOrder fs → AreInOrder (insert_in_order f fs)
inserted-order f [] o = (tt, tt)
inserted-order f (h ∷ hs) o =
    go (nat_lt f.number h.number) (nat_eq f.number h.number) refl refl (inserted-order f hs o.1)
  where
    go : (lt eq : Bool) → nat_lt f.number h.number ≡ lt → nat_eq f.number h.number ≡ eq → AreInOrder (insert_in_order f hs)
        → AreInOrder (if lt then f ∷ h ∷ hs else if eq then f ∷ hs else h ∷ insert_in_order f hs)
    go true eq t e next = let l = ltb-true f.number h.number t in ((l, behind-all f.number h.number hs l o.0), o)
    go false true t e next = (let P : ℕ → Type 0 = λ n. AreBehind n hs in subst P (sym (eqb-true f.number h.number e)) o.0, o.1)
    go false false t e next = (behind-inserted h.number f hs (grind (arith, nat_tests, t, e)) o.0, next)

-- ---- lines under their numbers

pub entry-inserted : (f : PlannedFlip) (es : List (ℕ × PlannedFlip)) → AreNumbered es
    → values_of (insert_entry nat_cmp es f.number f) ≡ insert_in_order f (values_of es)
entry-inserted f [] own = refl
entry-inserted f (e ∷ es) own =
    go (nat_lt f.number e.0) (nat_eq f.number e.0) (entry-inserted f es own.1)
    ∙ ap (λ n. if nat_lt f.number n then f ∷ e.1 ∷ values_of es else if nat_eq f.number n then f ∷ values_of es else e.1 ∷ insert_in_order f (values_of es)) own.0
  where
    go : (lt eq : Bool) → values_of (insert_entry nat_cmp es f.number f) ≡ insert_in_order f (values_of es)
        → values_of (match_ordering (cond lt Less (cond eq Equal Greater)) ((f.number, f) ∷ e ∷ es) ((e.0, f) ∷ es) (e ∷ insert_entry nat_cmp es f.number f))
        ≡ (if lt then f ∷ e.1 ∷ values_of es else if eq then f ∷ values_of es else e.1 ∷ insert_in_order f (values_of es))
    go true eq next = refl
    go false true next = refl
    go false false next = ap (λ fs. e.1 ∷ fs) next

pub still-numbered : (f : PlannedFlip) (es : List (ℕ × PlannedFlip)) → AreNumbered es → AreNumbered (insert_entry nat_cmp es f.number f)
still-numbered f [] own = (refl, tt)
still-numbered f (e ∷ es) own = go (nat_lt f.number e.0) (nat_eq f.number e.0) refl (still-numbered f es own.1)
  where
    go : (lt eq : Bool) → nat_eq f.number e.0 ≡ eq → AreNumbered (insert_entry nat_cmp es f.number f)
        → AreNumbered (match_ordering (cond lt Less (cond eq Equal Greater)) ((f.number, f) ∷ e ∷ es) ((e.0, f) ∷ es) (e ∷ insert_entry nat_cmp es f.number f))
    go true eq t next = (refl, own)
    go false true t next = (sym (eqb-true f.number e.0 t), own.1)
    go false false t next = (own.0, next)

less-is : (m n : ℕ) → nat_cmp m n ≡ Less → m < n
less-is m n h = grind (arith, nat_tests, h)

values-behind : (n : ℕ) (es : List (ℕ × PlannedFlip)) → AllByRecursion (λ m. nat_cmp n m ≡ Less) (keys_of es) → AreNumbered es → AreBehind n (values_of es)
values-behind n [] all own = tt
values-behind n (e ∷ es) all own = (let P : ℕ → Type 0 = λ m. n < m in subst P own.0 (less-is n e.0 all.0), values-behind n es all.1 own.1)

pub values-order : (es : List (ℕ × PlannedFlip)) → IsStrictlySortedBy nat_cmp (keys_of es) → AreNumbered es → AreInOrder (values_of es)
values-order [] s own = tt
values-order (e ∷ es) s own =
    (let P : ℕ → Type 0 = λ m. AreBehind m (values_of es) in subst P own.0 (values-behind e.0 es (sorted_head nat_cmp e.0 (keys_of es) s) own.1), values-order es (sorted_tail nat_cmp e.0 (keys_of es) s) own.1)

by-recursion : (n : ℕ) (ms : List ℕ) → All (IsLtBy nat_cmp n) ms → AllByRecursion (λ m. nat_cmp n m ≡ Less) ms
by-recursion n [] all = tt
by-recursion n (m ∷ ms) all = (all 0 m (omega arith), by-recursion n ms (λ k d l. all (suc k) d (omega (arith, l))))

-- with the first, which is taken
pub popped-order : (es fs : List (ℕ × PlannedFlip)) (e : ℕ × PlannedFlip) → es ≡ e ∷ fs → AreNumbered es → All (IsLtBy nat_cmp e.0) (keys_of fs)
    → IsStrictlySortedBy nat_cmp (keys_of fs) → AreInOrder (values_of es)
unfolding IsStrictlySortedBy
popped-order es fs e is own all sorted =
    let P : List (ℕ × PlannedFlip) → Type 0 = λ xs. AreNumbered xs in
    let Q : List (ℕ × PlannedFlip) → Type 0 = λ xs. AreInOrder (values_of xs) in
    subst Q (sym is) (values-order (e ∷ fs) (by-recursion e.0 (keys_of fs) all, sorted) (subst P is own))

-- with none that is taken
pub order-back : (es fs : List (ℕ × PlannedFlip)) → fs ≡ es → AreNumbered es → IsStrictlySortedBy nat_cmp (keys_of fs) → AreInOrder (values_of es)
order-back es fs is own sorted =
    let P : List (ℕ × PlannedFlip) → Type 0 = λ xs. IsStrictlySortedBy nat_cmp (keys_of xs) in values-order es (subst P is sorted) own
