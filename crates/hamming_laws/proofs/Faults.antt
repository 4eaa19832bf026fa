-- What is inverted at one bit place, bit by bit.
use Rattle.std.proofs.Common.{◌≡◌, ◌≢◌, ◌⊎◌, inl, inr, ℕ, ◌<◌, Bool, true, false, not, ◌&&◌, ◌||◌, nat_eq, nat_lt, if◌then◌else◌, List, [], ◌∷◌, ◌++◌, length, map, Option, Some, None, option_map, unwrap_or, refl, sym, ap, ap₂, ◌∙◌, arith, ne_eqb, eq-eqb, lt-ltb, subst}
use Rattle.std.proofs.lemmas.List.{map-append}
use Rattle.std.proofs.lemmas.Bool.{eqb-true, cases_eq, true≢false}
use Rattle.hamming_gen.specs.HammingWords.{Slot, is_odd, sums, inverted_at, mended_place, parity_slot}
use Rattle.hamming_laws.specs.Masks.{is_fault}
use Rattle.hamming_laws.proofs.Bits.{differ, differ-false}
use Rattle.hamming_laws.proofs.Sums.{Apart, AllApart, even-mended, odd-mended}
use Rattle.hamming_laws.proofs.Operations.{any, any-append, or-false, and-true}

-- whether the bits of words are to be inverted, by whether the bits are odd and by their sums
abbrev pub faults : Bool → ℕ → ℕ → List Slot → List Bool
faults odd sum place part = map (is_fault odd sum place) part

-- bits, each inverted or not
abbrev pub differing : List Bool → List Bool → List Bool
differing [] fs = []
differing (b ∷ bits) [] = b ∷ bits
differing (b ∷ bits) (f ∷ fs) = differ b f ∷ differing bits fs

pub differing-append : (a b f g : List Bool) → length a ≡ length f → differing (a ++ b) (f ++ g)
    ≡ differing a f ++ differing b g
differing-append [] b [] g e = refl
differing-append [] b (x ∷ f) g e = absurd (omega arith)
differing-append (x ∷ a) b [] g e = absurd (omega arith)
differing-append (x ∷ a) b (y ∷ f) g e = ap (λ l. differ x y ∷ l) (differing-append a b f g (omega arith))

-- ---- nothing is inverted

pub even-none : (sum place : ℕ) (part : List Slot) → any (faults false sum place part) ≡ false
even-none sum place [] = refl
even-none sum place (s ∷ part) = even-none sum place part

pub even-stays : (sum place : ℕ) (part : List Slot) (bits : List Bool) → differing bits (faults false sum place part) ≡ bits
even-stays sum place part [] = refl
even-stays sum place [] (b ∷ bits) = refl
even-stays sum place (s ∷ part) (b ∷ bits) = ap₂ (λ x l. x ∷ l) (differ-false b) (even-stays sum place part bits)

other-fault : (sum place : ℕ) (s : Slot) → sum ≢ s.position → is_fault true sum place s ≡ false
other-fault sum place s h =
    ap (λ b. b && nat_lt place s.width) (ne_eqb s.position sum (λ e. h (sym e)))

apart-none : (sum place : ℕ) (part : List Slot) → Apart sum part → any (faults true sum place part) ≡ false
apart-none sum place [] h = refl
apart-none sum place (s ∷ part) h =
    ap (λ b. b || any (faults true sum place part)) (other-fault sum place s h.0) ∙ apart-none sum place part h.1

apart-stays : (sum place : ℕ) (part : List Slot) (bits : List Bool) → Apart sum part
    → differing bits (faults true sum place part) ≡ bits
apart-stays sum place part [] h = refl
apart-stays sum place [] (b ∷ bits) h = refl
apart-stays sum place (s ∷ part) (b ∷ bits) h =
    ap₂ (λ x l. x ∷ l) (ap (differ b) (other-fault sum place s h.0) ∙ differ-false b)
    (apart-stays sum place part bits h.1)

-- ---- one bit is inverted

-- what is left where some bit is to be inverted
abbrev pub left_if : Bool → List Bool → Option (List Bool)
left_if some bits = if some then Some bits else None

left-more : (some : Bool) (b : Bool) (bits : List Bool) → option_map (λ more. b ∷ more) (left_if some bits)
    ≡ left_if some (b ∷ bits)
left-more true b bits = refl
left-more false b bits = refl

differ-true : (b : Bool) → differ b true ≡ not b
differ-true true = refl
differ-true false = refl

inverted-faults : (sum place : ℕ) (part : List Slot) (bits : List Bool) → AllApart part → length bits ≡ length part
    → inverted_at place sum part bits
    ≡ left_if (any (faults true sum place part)) (differing bits (faults true sum place part))
inverted-faults sum place [] [] h e = refl
inverted-faults sum place [] (b ∷ bits) h e = refl
inverted-faults sum place (s ∷ part) [] h e = absurd (omega arith)
inverted-faults sum place (s ∷ part) (b ∷ bits) h e =
    by (nat_eq s.position sum) refl (nat_lt place s.width) refl (inverted-faults sum place part bits h.1 (omega arith))
  where
    others : nat_eq s.position sum ≡ true → Apart sum part
    others f = subst (λ p. Apart p part) (eqb-true s.position sum f) h.0

    by : (t : Bool) → nat_eq s.position sum ≡ t → (w : Bool) → nat_lt place s.width ≡ w
        → inverted_at place sum part bits
        ≡ left_if (any (faults true sum place part)) (differing bits (faults true sum place part))
        → (if t then (if w then Some (not b ∷ bits) else None)
        else option_map (λ more. b ∷ more) (inverted_at place sum part bits))
        ≡ left_if ((t && w) || any (faults true sum place part))
        (differ b (t && w) ∷ differing bits (faults true sum place part))
    by true f true g rest =
        ap₂ (λ x l. Some (x ∷ l)) (sym (differ-true b)) (sym (apart-stays sum place part bits (others f)))
    by true f false g rest =
        sym (ap (λ t. left_if t (differ b false ∷ differing bits (faults true sum place part)))
        (apart-none sum place part (others f)))
    by false f w g rest =
        ap (option_map (λ more. b ∷ more)) rest
        ∙ left-more (any (faults true sum place part)) b (differing bits (faults true sum place part))
        ∙ ap (λ x. left_if (any (faults true sum place part)) (x ∷ differing bits (faults true sum place part)))
        (sym (differ-false b))

-- ---- repair

-- whether the bits can't be repaired, where these words stand before the parity word
abbrev pub hopeless : Bool → ℕ → ℕ → List Slot → Bool
hopeless odd sum place front = not (nat_eq sum 0) && not (any (faults odd sum place front))

-- what is left where there is hope
abbrev pub left_unless : Bool → List Bool → Option (List Bool)
left_unless none bits = if none then None else Some bits

turned-eq : (a b : ℕ) → nat_eq a b ≡ nat_eq b a
turned-eq a b = by (cases_eq a b)
  where
    by : (a ≡ b) ⊎ (a ≡ b → ⊥) → nat_eq a b ≡ nat_eq b a
    by (inl e) = eq-eqb a b e ∙ sym (eq-eqb b a (sym e))
    by (inr o) = ne_eqb a b o ∙ sym (ne_eqb b a (λ e. o (sym e)))

pub parity-fault : (odd : Bool) (sum place : ℕ) → place < 64 → is_fault odd sum place parity_slot ≡ (odd && nat_eq sum 0)
parity-fault odd sum place l =
    ap₂ (λ a b. odd && (a && b)) (turned-eq 0 sum) (lt-ltb place 64 l) ∙ ap (λ a. odd && a) (and-true (nat_eq sum 0))

pub mended-faults : (front : List Slot) (place : ℕ) (bits : List Bool) → AllApart (front ++ parity_slot ∷ [])
    → length bits ≡ length (front ++ parity_slot ∷ []) → place < 64
    → mended_place (front ++ parity_slot ∷ []) place bits
    ≡ left_unless (hopeless (is_odd bits) (sums (front ++ parity_slot ∷ []) bits) place front)
    (differing bits (faults (is_odd bits) (sums (front ++ parity_slot ∷ []) bits) place (front ++ parity_slot ∷ [])))
mended-faults front place bits apart e l = by (is_odd bits) refl
  where
    even : (z : Bool) → (if z then Some bits else None) ≡ left_unless (not z && true) bits
    even true = refl
    even false = refl

    odd : (a z : Bool) (left : List Bool) → left_if (a || z) left ≡ left_unless (not z && not a) left
    odd true true left = refl
    odd true false left = refl
    odd false true left = refl
    odd false false left = refl

    by : (q : Bool) → is_odd bits ≡ q
        → mended_place (front ++ parity_slot ∷ []) place bits
        ≡ left_unless (hopeless q (sums (front ++ parity_slot ∷ []) bits) place front)
        (differing bits (faults q (sums (front ++ parity_slot ∷ []) bits) place (front ++ parity_slot ∷ [])))
    by false p =
        let sum = sums (front ++ parity_slot ∷ []) bits in
        even-mended (front ++ parity_slot ∷ []) place bits p
        ∙ even (nat_eq sum 0)
        ∙ ap₂ (λ a b. left_unless (not (nat_eq sum 0) && not a) b) (sym (even-none sum place front))
        (sym (even-stays sum place (front ++ parity_slot ∷ []) bits))
    by true p =
        let sum = sums (front ++ parity_slot ∷ []) bits in
        let all = faults true sum place (front ++ parity_slot ∷ []) in
        let some : any all ≡ (any (faults true sum place front) || nat_eq sum 0) =
        ap any (map-append (is_fault true sum place) front (parity_slot ∷ []))
        ∙ any-append (faults true sum place front) (is_fault true sum place parity_slot ∷ [])
        ∙ ap (λ b. any (faults true sum place front) || b) (or-false (is_fault true sum place parity_slot)
        ∙ parity-fault true sum place l) in
        odd-mended (front ++ parity_slot ∷ []) place bits p
        ∙ inverted-faults sum place (front ++ parity_slot ∷ []) bits apart e
        ∙ ap (λ a. left_if a (differing bits all)) some
        ∙ odd (any (faults true sum place front)) (nat_eq sum 0) (differing bits all)

-- where no bit is to be inverted, all stay
none-stays : (bits fs : List Bool) → any fs ≡ false → differing bits fs ≡ bits
none-stays [] fs h = refl
none-stays (b ∷ bits) [] h = refl
none-stays (b ∷ bits) (true ∷ fs) h = absurd (true≢false h)
none-stays (b ∷ bits) (false ∷ fs) h = ap₂ (λ x l. x ∷ l) (differ-false b) (none-stays bits fs h)

-- whether or not there is hope, what repair leaves is the bits with those inverted
pub left-faults : (odd : Bool) (sum place : ℕ) (front : List Slot) (bits : List Bool) → place < 64
    → unwrap_or (left_unless (hopeless odd sum place front)
    (differing bits (faults odd sum place (front ++ parity_slot ∷ [])))) bits
    ≡ differing bits (faults odd sum place (front ++ parity_slot ∷ []))
left-faults odd sum place front bits l = by (nat_eq sum 0) refl (any (faults odd sum place front)) refl
  where
    all : any (faults odd sum place (front ++ parity_slot ∷ [])) ≡ (any (faults odd sum place front) || (odd && nat_eq sum 0))
    all =
        ap any (map-append (is_fault odd sum place) front (parity_slot ∷ []))
        ∙ any-append (faults odd sum place front) (is_fault odd sum place parity_slot ∷ [])
        ∙ ap (λ b. any (faults odd sum place front) || b) (or-false (is_fault odd sum place parity_slot)
        ∙ parity-fault odd sum place l)

    and-none : (b : Bool) → (b && false) ≡ false
    and-none true = refl
    and-none false = refl

    by : (z : Bool) → nat_eq sum 0 ≡ z → (a : Bool) → any (faults odd sum place front) ≡ a
        → unwrap_or (left_unless (not z && not a) (differing bits (faults odd sum place (front ++ parity_slot ∷ [])))) bits
        ≡ differing bits (faults odd sum place (front ++ parity_slot ∷ []))
    by true p a q = refl
    by false p true q = refl
    by false p false q =
        sym (none-stays bits (faults odd sum place (front ++ parity_slot ∷ []))
        (all ∙ ap₂ (λ x y. x || (odd && y)) q p ∙ and-none odd))
