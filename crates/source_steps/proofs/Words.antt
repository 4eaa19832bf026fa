-- What the list of an object's words has, at first and when a word was stored.
use Rattle.std.proofs.Common.{◌≡◌, ◌∙◌, ℕ, zero, suc, ◌<◌, Bool, true, false, if◌then◌else◌, List, [], ◌∷◌, length, replicate, slice_get, slice_set, Option, Some, refl, ap, arith}
use Rattle.std.proofs.Math.Path.{fun_ext}
use Rattle.step_machine.specs.Entries.{entry, with_entry}
use Rattle.step_machine.specs.Total.{same}
use Rattle.step_machine.proofs.Same.{entry-with}
use Rattle.source_steps.specs.Words.{below, bits_or_zero, words_of}

length-below : (n : ℕ) (f : ℕ → ℕ) → length (below n f) ≡ n
length-below zero f = refl
length-below (suc n) f = ap suc (length-below n (λ i. f (suc i)))

get-below : (n i : ℕ) (f : ℕ → ℕ) → i < n → slice_get (below n f) i ≡ Some (f i)
get-below zero i f within = absurd (omega arith)
get-below (suc n) zero f within = refl
get-below (suc n) (suc i) f within = get-below n i (λ k. f (suc k)) (omega arith)

zeros-below : (n : ℕ) → below n (λ i. 0) ≡ replicate n 0
zeros-below zero = refl
zeros-below (suc n) = ap (λ rest. 0 ∷ rest) (zeros-below n)

set-below : (n i v : ℕ) (f : ℕ → ℕ) → below n (λ k. if same k i then v else f k) ≡ slice_set (below n f) i v
unfolding same
set-below zero i v f = refl
set-below (suc n) zero v f = refl
set-below (suc n) (suc i) v f = ap (λ rest. f 0 ∷ rest) (set-below n i v (λ k. f (suc k)))

chosen : (b : Bool) (v : ℕ) (old : Option ℕ) → bits_or_zero (if b then Some v else old) ≡ (if b then v else bits_or_zero old)
chosen true v old = refl
chosen false v old = refl

-- all are 0 at first
pub new_words : (n : ℕ) → words_of n [] ≡ replicate n 0
new_words = zeros-below

pub length_words : (n : ℕ) (entries : List (ℕ × ℕ)) → length (words_of n entries) ≡ n
length_words n entries = length-below n (λ i. bits_or_zero (entry entries i))

pub word_is : (n : ℕ) (entries : List (ℕ × ℕ)) (i : ℕ) → i < n → slice_get (words_of n entries) i ≡ Some (bits_or_zero (entry entries i))
word_is n entries i within = get-below n i (λ k. bits_or_zero (entry entries k)) within

-- an entry that is set is a word that is set
pub word_set : (n : ℕ) (entries : List (ℕ × ℕ)) (i v : ℕ) → words_of n (with_entry entries i v) ≡ slice_set (words_of n entries) i v
word_set n entries i v =
    ap (below n) (fun_ext (λ k. ap bits_or_zero (entry-with entries i v k) ∙ chosen (same k i) v (entry entries k)))
    ∙ set-below n i v (λ k. bits_or_zero (entry entries k))
