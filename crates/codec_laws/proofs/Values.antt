-- Two copies keep the values of the members.
use Rattle.std.proofs.Common.{◌≡◌, ℕ, zero, suc, ◌+◌, ◌-◌, ◌*◌, ◌<◌, ◌≤◌, ◌⊎◌, inl, inr, List, [], ◌∷◌, ◌++◌, map, length, drop, slice_set, replicate, refl, sym, ap, ◌∙◌, arith, append_assoc, length-append, length-set}
use Rattle.agxx_base.specs.declared.kind.NumKind.{NumKind}
use Rattle.cxx_arith.specs.Kinds.{width}
use Rattle.codec.specs.Copies.{majorities, thrice, voted, IsSingle}
use Rattle.codec_laws.specs.Values.{Fit, CopiesKeepValues}
use Rattle.codec_laws.proofs.Lists.{set-before, set-behind, take-first, drop-first}
use Rattle.codec_laws.proofs.Majority.{first-two, outer-two, last-two, none-set, first-set, second-set, third-set}

-- ---- words that stand thrice

pub voted-of : (k : ℕ) (a b c : List ℕ) → length a ≡ k → length b ≡ k → voted k (a ++ (b ++ c)) ≡ majorities a b c
voted-of k a b c p q = rw (take-first a (b ++ c) k p, drop-first a (b ++ c) k p, take-first b c k q, twice) refl
  where
    twice : drop (k + k) (a ++ (b ++ c)) ≡ c
    twice = ap (λ l. drop (k + k) l) (sym (append_assoc a b c))
        ∙ drop-first (a ++ b) c (k + k) (length-append a b ∙ omega arith)

voted-set : (k : ℕ) (v : List ℕ) (i x : ℕ) → length v ≡ k → voted k (slice_set (thrice v) i x) ≡ v
voted-set k v i x e = by (lt-or-le i (length v))
  where
    lt-or-le : (a b : ℕ) → (a < b) ⊎ (b ≤ a)
    lt-or-le a zero = inr (omega arith)
    lt-or-le zero (suc b) = inl (omega arith)
    lt-or-le (suc a) (suc b) = next (lt-or-le a b)
      where
        next : (a < b) ⊎ (b ≤ a) → (suc a < suc b) ⊎ (suc b ≤ suc a)
        next (inl h) = inl (omega arith)
        next (inr h) = inr (omega arith)

    within : (j : ℕ) → (j < length v) ⊎ (length v ≤ j) → voted k (v ++ slice_set (v ++ v) j x) ≡ v
    within j (inl h) =
        ap (λ l. voted k (v ++ l)) (set-before v v j x h)
        ∙ voted-of k v (slice_set v j x) v e (length-set v j x ∙ e) ∙ second-set v j x
    within j (inr h) =
        ap (λ l. voted k (v ++ l)) (set-behind v v j x h) ∙ voted-of k v v (slice_set v (j - length v) x) e e
        ∙ third-set v (j - length v) x

    by : (i < length v) ⊎ (length v ≤ i) → voted k (slice_set (thrice v) i x) ≡ v
    by (inl h) =
        ap (voted k) (set-before v (v ++ v) i x h) ∙ voted-of k (slice_set v i x) v v (length-set v i x ∙ e) e
        ∙ first-set v i x
    by (inr h) = ap (voted k) (set-behind v (v ++ v) i x h) ∙ within (i - length v) (lt-or-le (i - length v) (length v))

-- ---- words and kinds

pub fit-length : (kinds : List NumKind) (v : List ℕ) → Fit kinds v → length v ≡ length kinds
fit-length [] [] h = refl
fit-length [] (w ∷ v) h = absurd h
fit-length (k ∷ kinds) [] h = absurd h
fit-length (k ∷ kinds) (w ∷ v) h = ap (λ n. suc n) (fit-length kinds v h.1)

fit-both : (a b : List NumKind) (v w : List ℕ) → Fit a v → Fit b w → Fit (a ++ b) (v ++ w)
fit-both [] b [] w h g = g
fit-both [] b (x ∷ v) w h g = absurd h
fit-both (k ∷ a) b [] w h g = absurd h
fit-both (k ∷ a) b (x ∷ v) w h g = (h.0, fit-both a b v w h.1 g)

length-thrice : {A : Type 0} (a : List A) → length (a ++ (a ++ a)) ≡ length a + 2 * length a
length-thrice a = length-append a (a ++ a) ∙ ap (λ n. length a + n) (length-append a a) ∙ omega arith

replicate-both : (m n x : ℕ) → replicate m x ++ replicate n x ≡ replicate (m + n) x
replicate-both zero n x = ap (λ k. replicate k x) (omega arith)
replicate-both (suc m) n x = ap (λ l. x ∷ l) (replicate-both m n x)
    ∙ ap (λ k. replicate k x) (let e : suc (m + n) ≡ suc m + n = omega arith in e)

zeros-thrice : (k n : ℕ) → n ≡ k + 2 * k → thrice (replicate k 0) ≡ replicate n 0
zeros-thrice k n e =
    ap (λ l. replicate k 0 ++ l) (replicate-both k k 0) ∙ replicate-both k (k + k) 0
    ∙ ap (λ m. replicate m 0) (let d : k + (k + k) ≡ n = omega arith in d)

any-word : (kinds : List NumKind) (v : List ℕ) (i bits : ℕ) → length v ≡ length kinds
    → thrice (voted (length kinds) (slice_set (thrice v) i bits)) ≡ thrice v
any-word kinds v i bits e = ap thrice (voted-set (length kinds) v i bits e)

repaired : (kinds : List NumKind) (v words : List ℕ) → length v ≡ length kinds
    → IsSingle (map width (kinds ++ (kinds ++ kinds))) (thrice v) words
    → thrice (voted (length kinds) words) ≡ thrice v
repaired kinds v words e (inl same) =
    ap (λ w. thrice (voted (length kinds) w)) same ∙ ap thrice (voted-of (length kinds) v v v e e ∙ none-set v)
repaired kinds v words e (inr flip) =
    ap (λ w. thrice (voted (length kinds) w)) flip.after_is ∙ any-word kinds v flip.word _ e

pub copies-keep-values : CopiesKeepValues
copies-keep-values = record {
  keeps = record {
    kinds_length = λ kinds. length-thrice kinds;
    kinds_first = λ kinds. take-first kinds (kinds ++ kinds) (length kinds) refl;
    words_fit = λ kinds v h. fit-both kinds (kinds ++ kinds) v (v ++ v) h (fit-both kinds kinds v v h h);
    members_first = λ kinds v h. take-first v (v ++ v) (length kinds) (fit-length kinds v h);
    zeros = λ kinds. zeros-thrice (length kinds) _ (length-thrice kinds);
    none = λ kinds words. inl refl;
    single = λ kinds words after h. inr h;
    repairs = λ kinds v words h d. (refl, repaired kinds v words (fit-length kinds v h) d);
  };
  majority = record { first_two = first-two; outer_two = outer-two; last_two = last-two };
  any_word = any-word;
}
