-- Lists that stand one behind another: what is set, taken and dropped.
use Rattle.std.proofs.Common.{◌≡◌, ℕ, zero, suc, ◌+◌, ◌-◌, ◌<◌, ◌≤◌, List, [], ◌∷◌, ◌++◌, length, take, drop, slice_get, slice_set, Some, refl, ap, ◌∙◌, arith, length-append}
use Rattle.std.proofs.lemmas.Option.{none-some}

module _ {A : Type 0} where
  pub set-before : (a b : List A) (i : ℕ) (x : A) → i < length a → slice_set (a ++ b) i x ≡ slice_set a i x ++ b
  set-before [] b i x h = absurd (omega arith)
  set-before (y ∷ a) b zero x h = refl
  set-before (y ∷ a) b (suc i) x h = ap (λ l. y ∷ l) (set-before a b i x (omega arith))

  pub set-behind : (a b : List A) (i : ℕ) (x : A) → length a ≤ i → slice_set (a ++ b) i x
      ≡ a ++ slice_set b (i - length a) x
  set-behind [] b i x h = ap (λ j. slice_set b j x) (omega arith)
  set-behind (y ∷ a) b zero x h = absurd (omega arith)
  set-behind (y ∷ a) b (suc i) x h =
      ap (λ l. y ∷ l) (set-behind a b i x (omega arith)
      ∙ ap (λ j. a ++ slice_set b j x) (let e : i - length a ≡ suc i - suc (length a) = omega arith in e))

  pub take-first : (a b : List A) (k : ℕ) → length a ≡ k → take k (a ++ b) ≡ a
  take-first [] b zero h = refl
  take-first [] b (suc k) h = absurd (omega arith)
  take-first (x ∷ a) b zero h = absurd (omega arith)
  take-first (x ∷ a) b (suc k) h = ap (λ l. x ∷ l) (take-first a b k (omega arith))

  pub drop-first : (a b : List A) (k : ℕ) → length a ≡ k → drop k (a ++ b) ≡ b
  drop-first [] b zero h = refl
  drop-first [] b (suc k) h = absurd (omega arith)
  drop-first (x ∷ a) b zero h = absurd (omega arith)
  drop-first (x ∷ a) b (suc k) h = drop-first a b k (omega arith)

  pub nothing-set : (a : List A) (i : ℕ) (x : A) → length a ≤ i → slice_set a i x ≡ a
  nothing-set [] i x h = refl
  nothing-set (y ∷ a) zero x h = absurd (omega arith)
  nothing-set (y ∷ a) (suc i) x h = ap (λ l. y ∷ l) (nothing-set a i x (omega arith))

  -- ---- an element behind others

  pub get-seam : (r xs : List A) (x : A) (n : ℕ) → length r ≡ n → slice_get (r ++ x ∷ xs) n ≡ Some x
  get-seam [] xs x zero h = refl
  get-seam [] xs x (suc n) h = absurd (omega arith)
  get-seam (y ∷ r) xs x zero h = absurd (omega arith)
  get-seam (y ∷ r) xs x (suc n) h = get-seam r xs x n (omega arith)

  pub set-seam : (r xs : List A) (x v : A) (n : ℕ) → length r ≡ n → slice_set (r ++ x ∷ xs) n v ≡ r ++ v ∷ xs
  set-seam [] xs x v zero h = refl
  set-seam [] xs x v (suc n) h = absurd (omega arith)
  set-seam (y ∷ r) xs x v zero h = absurd (omega arith)
  set-seam (y ∷ r) xs x v (suc n) h = ap (λ l. y ∷ l) (set-seam r xs x v n (omega arith))

  pub get-front : (a b : List A) (i : ℕ) (x : A) → slice_get a i ≡ Some x → slice_get (a ++ b) i ≡ Some x
  get-front [] b i x e = absurd (none-some x e)
  get-front (y ∷ a) b zero x e = e
  get-front (y ∷ a) b (suc i) x e = get-front a b i x e

  pub get-back : (a b : List A) (k i : ℕ) → length a ≡ k → slice_get (a ++ b) (k + i) ≡ slice_get b i
  get-back [] b k i h = ap (slice_get b) (omega arith)
  get-back (y ∷ a) b zero i h = absurd (omega arith)
  get-back (y ∷ a) b (suc k) i h = ap (slice_get (y ∷ (a ++ b)))
      (let e : suc k + i ≡ suc (k + i) = omega arith in e) ∙ get-back a b k i (omega arith)

  pub set-back : (a b : List A) (k i : ℕ) (x : A) → length a ≡ k → slice_set (a ++ b) (k + i) x ≡ a ++ slice_set b i x
  set-back a b k i x h = set-behind a b (k + i) x (omega arith) ∙ ap (λ j. a ++ slice_set b j x) (omega arith)

  pub more-seam : (r xs : List A) (x : A) → (r ++ x ∷ []) ++ xs ≡ r ++ x ∷ xs
  more-seam [] xs x = refl
  more-seam (y ∷ r) xs x = ap (λ l. y ∷ l) (more-seam r xs x)

  pub length-more : (r : List A) (x : A) (n : ℕ) → length r ≡ n → length (r ++ x ∷ []) ≡ suc n
  length-more r x n h = length-append r (x ∷ []) ∙ omega arith

  -- ---- three lists of one length, of which what stands at one place in each is changed

  abbrev pub three : List A → List A → List A → List A
  three a b c = a ++ (b ++ c)

  module _ (a b c : List A) (k n : ℕ) (length-a : length a ≡ k) (length-b : length b ≡ k) where
    pub get-first : (x : A) → slice_get a n ≡ Some x → slice_get (three a b c) n ≡ Some x
    get-first x e = get-front a (b ++ c) n x e

    pub get-second : (x : A) → slice_get b n ≡ Some x → slice_get (three a b c) (k + n) ≡ Some x
    get-second x e = get-back a (b ++ c) k n length-a ∙ get-front b c n x e

    pub get-third : (x : A) → slice_get c n ≡ Some x → slice_get (three a b c) (k + (k + n)) ≡ Some x
    get-third x e = get-back a (b ++ c) k (k + n) length-a ∙ get-back b c k n length-b ∙ e

    pub set-first : (x : A) → n < k → slice_set (three a b c) n x ≡ three (slice_set a n x) b c
    set-first x h = set-before a (b ++ c) n x (omega arith)

    pub set-second : (x : A) → n < k → slice_set (three a b c) (k + n) x ≡ three a (slice_set b n x) c
    set-second x h = set-back a (b ++ c) k n x length-a ∙ ap (λ l. a ++ l) (set-before b c n x (omega arith))

    pub set-third : (x : A) → slice_set (three a b c) (k + (k + n)) x ≡ three a b (slice_set c n x)
    set-third x = set-back a (b ++ c) k (k + n) x length-a ∙ ap (λ l. a ++ l) (set-back b c k n x length-b)
