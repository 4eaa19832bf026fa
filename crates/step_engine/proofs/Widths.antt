-- The words of a class and of those above it.
use Rattle.std.proofs.Common.{◌≡◌, ℕ, zero, suc, ◌+◌, ◌-◌, ◌<◌, ◌≤◌, List, [], ◌∷◌, ◌++◌, length, Option, Some, slice_get, refl, sym, ◌∙◌, ap, arith, length-append}
use Rattle.std.proofs.lemmas.List.Sums.{sum_by-cons}
use Rattle.agxx_base.specs.declared.ids.ClassId.{ClassId}
use Rattle.cxx_core.specs.CoreProgram.{CoreClass}
use Rattle.step_machine.specs.Setting.{chain, linked}
use Rattle.step_machine.specs.Flips.{words_in, word_count}

get_low : {X : Type 0} (xs ys : List X) (w : ℕ) → w < length xs → slice_get (xs ++ ys) w ≡ slice_get xs w
get_low [] ys w h = absurd (omega arith)
get_low (x ∷ xs) ys zero h = refl
get_low (x ∷ xs) ys (suc w) h = get_low xs ys w (omega arith)

get_high : {X : Type 0} (xs ys : List X) (w : ℕ) → length xs ≤ w → slice_get (xs ++ ys) w ≡ slice_get ys (w - length xs)
get_high [] ys w h = let e : w - 0 ≡ w = omega arith in ap (slice_get ys) (sym e)
get_high (x ∷ xs) ys zero h = absurd (omega arith)
get_high (x ∷ xs) ys (suc w) h =
    let e : suc w - suc (length xs) ≡ w - length xs = omega arith in get_high xs ys w (omega arith) ∙ ap (slice_get ys) (sym e)

count_more : (c : CoreClass) (cs : List CoreClass) → word_count (c ∷ cs) ≡ length c.words + word_count cs
count_more c cs = sum_by-cons (λ (c : CoreClass). length c.words) c cs

count_words : (cs : List CoreClass) → length (words_in cs) ≡ word_count cs
count_words [] = refl
count_words (c ∷ cs) = rw (length-append, count_words cs, count_more c cs) (omega arith)

-- the classes from one on, by that class
more_classes : (classes : List CoreClass) (n : ℕ) (next : Option ClassId) (number : ClassId) (c : CoreClass) → 0 < n → next ≡ Some number → slice_get classes number.0 ≡ Some c
    → chain classes n next ≡ c ∷ chain classes (n - 1) c.base
more_classes classes zero next number c h e f = absurd (omega arith)
more_classes classes (suc n) next number c h e f = let k : suc n - 1 ≡ n = omega arith in rw (e, k) (ap (linked (λ b. chain classes n b)) f)

-- the words of some classes, by the first of them
pub record ByFirst (all : List CoreClass) (c : CoreClass) (cs : List CoreClass) (own w : ℕ) : Type 0 where
  pub count : word_count all ≡ own + word_count cs
  pub above : w < word_count all - own → slice_get (words_in all) w ≡ slice_get (words_in cs) w
  pub here : word_count all - own ≤ w → slice_get (words_in all) w ≡ slice_get c.words (w - (word_count all - own))

by_first : (all : List CoreClass) (c : CoreClass) (cs : List CoreClass) (own w : ℕ) → all ≡ c ∷ cs → own ≡ length c.words → ByFirst all c cs own w
by_first all c cs own w e k =
    let count : word_count all ≡ own + word_count cs = ap word_count e ∙ (count_more c cs ∙ ap (λ m. m + word_count cs) (sym k)) in
    let rest : word_count all - own ≡ length (words_in cs) = omega (arith, count_words cs) in
    record {
      count = count;
      above = λ p. ap (λ l. slice_get (words_in l) w) e ∙ get_low (words_in cs) c.words w (omega arith);
      here = λ p. ap (λ l. slice_get (words_in l) w) e ∙ (get_high (words_in cs) c.words w (omega arith) ∙ ap (λ m. slice_get c.words (w - m)) (sym rest));
    }

pub words_from : (classes : List CoreClass) (n : ℕ) (next : Option ClassId) (number : ClassId) (c : CoreClass) (own w : ℕ) → 0 < n → next ≡ Some number → slice_get classes number.0 ≡ Some c
    → own ≡ length c.words → ByFirst (chain classes n next) c (chain classes (n - 1) c.base) own w
words_from classes n next number c own w h e f k =
    by_first (chain classes n next) c (chain classes (n - 1) c.base) own w (more_classes classes n next number c h e f) k
