-- Lines put in the order of their numbers: those put in and those that stood there, each once.
use Rattle.std.proofs.Common.{◌≡◌, ◌<◌, ◌⊎◌, inl, inr, ℕ, nat_eq, nat_lt, Bool, true, false, List, [], ◌∷◌, if◌then◌else◌, refl, ap, sym, subst, ◌∙◌, arith}
use Rattle.std.proofs.lemmas.Bool.Decides.{nat_tests}
use Rattle.flip_plan.specs.declared.flip.PlannedFlip.{PlannedFlip}
use Rattle.fault_lines.specs.Lists.{IsIn, AreBehind, AreInOrder}
use Rattle.fault_lines.specs.Due.{insert_in_order, with_all}

-- ---- lists in order

number-is : (f g : PlannedFlip) → f ≡ g → f.number ≡ g.number
number-is f g e = ap (λ (x : PlannedFlip). x.number) e

behind-in : (n : ℕ) (fs : List PlannedFlip) (f : PlannedFlip) → AreBehind n fs → IsIn fs f → n < f.number
behind-in n [] f h e = absurd e
behind-in n (g ∷ gs) f h (inl e) = subst (λ (x : PlannedFlip). n < x.number) e h.0
behind-in n (g ∷ gs) f h (inr e) = behind-in n gs f h.1 e

behind-less : (n k : ℕ) (fs : List PlannedFlip) → n < k → AreBehind k fs → AreBehind n fs
behind-less n k [] l h = tt
behind-less n k (f ∷ fs) l h = (omega (arith, l, h.0), behind-less n k fs l h.1)

less-apart : {P : Type 0} (a b : ℕ) → a < b → a ≡ b → P
less-apart a b l e = absurd (omega (arith, l, e))

-- no two have one number
pub one-number : (fs : List PlannedFlip) (f g : PlannedFlip) → AreInOrder fs → IsIn fs f → IsIn fs g → f.number ≡ g.number → f ≡ g
one-number [] f g h i k e = absurd i
one-number (x ∷ xs) f g h (inl i) (inl k) e = sym i ∙ k
one-number (x ∷ xs) f g h (inl i) (inr k) e =
    less-apart x.number g.number (behind-in x.number xs g h.0 k) (number-is x f i ∙ e)
one-number (x ∷ xs) f g h (inr i) (inl k) e =
    less-apart x.number f.number (behind-in x.number xs f h.0 i) (number-is x g k ∙ sym e)
one-number (x ∷ xs) f g h (inr i) (inr k) e = one-number xs f g h.1 i k e

-- ---- one line put in

insert-behind : (n : ℕ) (f : PlannedFlip) (due : List PlannedFlip) → n < f.number → AreBehind n due → AreBehind n (insert_in_order f due)
insert-behind n f [] l h = (l, tt)
insert-behind n f (g ∷ gs) l h = go (nat_lt f.number g.number) (nat_eq f.number g.number) (insert-behind n f gs l h.1)
  where
    go : (b c : Bool) → AreBehind n (insert_in_order f gs)
        → AreBehind n (if b then f ∷ g ∷ gs else (if c then f ∷ gs else g ∷ insert_in_order f gs))
    go true c more = (l, h)
    go false true more = (l, h.1)
    go false false more = (h.0, more)

insert-order : (f : PlannedFlip) (due : List PlannedFlip) → AreInOrder due → AreInOrder (insert_in_order f due)
insert-order f [] h = (tt, tt)
insert-order f (g ∷ gs) h = go (nat_lt f.number g.number) (nat_eq f.number g.number) refl refl (insert-order f gs h.1)
  where
    go : (b c : Bool) → nat_lt f.number g.number ≡ b → nat_eq f.number g.number ≡ c → AreInOrder (insert_in_order f gs)
        → AreInOrder (if b then f ∷ g ∷ gs else (if c then f ∷ gs else g ∷ insert_in_order f gs))
    go true c p q more =
        let l : f.number < g.number = grind (arith, nat_tests) in
        ((l, behind-less f.number g.number gs l h.0), h)
    go false true p q more =
        let e : g.number ≡ f.number = grind (arith, nat_tests) in
        (subst (λ n. AreBehind n gs) e h.0, h.1)
    go false false p q more =
        let l : g.number < f.number = grind (arith, nat_tests) in
        (insert-behind g.number f gs l h.0, more)

insert-from : (f g : PlannedFlip) (due : List PlannedFlip) → IsIn (insert_in_order f due) g → (f ≡ g) ⊎ IsIn due g
insert-from f g [] i = i
insert-from f g (x ∷ xs) i = go (nat_lt f.number x.number) (nat_eq f.number x.number) (insert-from f g xs) i
  where
    older : (f ≡ g) ⊎ IsIn xs g → (f ≡ g) ⊎ ((x ≡ g) ⊎ IsIn xs g)
    older (inl e) = inl e
    older (inr e) = inr (inr e)

    behind : (IsIn (insert_in_order f xs) g → (f ≡ g) ⊎ IsIn xs g) → (x ≡ g) ⊎ IsIn (insert_in_order f xs) g
        → (f ≡ g) ⊎ ((x ≡ g) ⊎ IsIn xs g)
    behind more (inl e) = inr (inl e)
    behind more (inr e) = older (more e)

    go : (b c : Bool) → (IsIn (insert_in_order f xs) g → (f ≡ g) ⊎ IsIn xs g)
        → IsIn (if b then f ∷ x ∷ xs else (if c then f ∷ xs else x ∷ insert_in_order f xs)) g
        → (f ≡ g) ⊎ ((x ≡ g) ⊎ IsIn xs g)
    go true c more e = e
    go false true more e = older e
    go false false more e = behind more e

insert-puts : (f : PlannedFlip) (due : List PlannedFlip) → IsIn (insert_in_order f due) f
insert-puts f [] = inl refl
insert-puts f (x ∷ xs) = go (nat_lt f.number x.number) (nat_eq f.number x.number) (insert-puts f xs)
  where
    go : (b c : Bool) → IsIn (insert_in_order f xs) f
        → IsIn (if b then f ∷ x ∷ xs else (if c then f ∷ xs else x ∷ insert_in_order f xs)) f
    go true c more = inl refl
    go false true more = inl refl
    go false false more = inr more

-- what stood there stays, where the line put in has the number of no other
insert-keeps : (f g : PlannedFlip) (due : List PlannedFlip) → (f.number ≡ g.number → f ≡ g) → IsIn due g → IsIn (insert_in_order f due) g
insert-keeps f g [] one i = absurd i
insert-keeps f g (x ∷ xs) one i = go (nat_lt f.number x.number) (nat_eq f.number x.number) refl (insert-keeps f g xs one) i
  where
    go : (b c : Bool) → nat_eq f.number x.number ≡ c → (IsIn xs g → IsIn (insert_in_order f xs) g) → (x ≡ g) ⊎ IsIn xs g
        → IsIn (if b then f ∷ x ∷ xs else (if c then f ∷ xs else x ∷ insert_in_order f xs)) g
    go true c q more e = inr e
    go false true q more (inl e) =
        let same : f.number ≡ x.number = grind (arith, nat_tests) in inl (one (same ∙ number-is x g e))
    go false true q more (inr e) = inr e
    go false false q more (inl e) = inl e
    go false false q more (inr e) = inr (more e)

-- ---- several

pub with-all-order : (fs due : List PlannedFlip) → AreInOrder due → AreInOrder (with_all fs due)
with-all-order [] due h = h
with-all-order (f ∷ fs) due h = with-all-order fs (insert_in_order f due) (insert-order f due h)

pub with-all-from : (g : PlannedFlip) (fs due : List PlannedFlip) → IsIn (with_all fs due) g → IsIn fs g ⊎ IsIn due g
with-all-from g [] due i = inr i
with-all-from g (f ∷ fs) due i = go (with-all-from g fs (insert_in_order f due) i)
  where
    by : (f ≡ g) ⊎ IsIn due g → ((f ≡ g) ⊎ IsIn fs g) ⊎ IsIn due g
    by (inl e) = inl (inl e)
    by (inr e) = inr e

    go : IsIn fs g ⊎ IsIn (insert_in_order f due) g → ((f ≡ g) ⊎ IsIn fs g) ⊎ IsIn due g
    go (inl e) = inl (inr e)
    go (inr e) = by (insert-from f g due e)

-- where all are of one list in order
pub with-all-has : (ahead : List PlannedFlip) (g : PlannedFlip) (fs due : List PlannedFlip) → AreInOrder ahead
    → ((f : PlannedFlip) → IsIn fs f → IsIn ahead f) → ((f : PlannedFlip) → IsIn due f → IsIn ahead f)
    → IsIn fs g ⊎ IsIn due g → IsIn (with_all fs due) g
with-all-has ahead g [] due order h k (inl i) = absurd i
with-all-has ahead g [] due order h k (inr i) = i
with-all-has ahead g (f ∷ fs) due order h k i =
    with-all-has ahead g fs (insert_in_order f due) order (λ x e. h x (inr e)) (λ x e. of-ahead x (insert-from f x due e)) (go i)
  where
    of-ahead : (x : PlannedFlip) → (f ≡ x) ⊎ IsIn due x → IsIn ahead x
    of-ahead x (inl e) = h x (inl e)
    of-ahead x (inr e) = k x e

    go : ((f ≡ g) ⊎ IsIn fs g) ⊎ IsIn due g → IsIn fs g ⊎ IsIn (insert_in_order f due) g
    go (inl (inl e)) = inr (subst (λ (x : PlannedFlip). IsIn (insert_in_order f due) x) e (insert-puts f due))
    go (inl (inr e)) = inl e
    go (inr e) = inr (insert-keeps f g due (λ q. one-number ahead f g order (h f (inl refl)) (k g e) q) e)
