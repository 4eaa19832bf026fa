-- The words along a line of classes: how many they are, and which stands at a number.
use Rattle.std.proofs.Common.{◌≡◌, ℕ, zero, suc, ◌+◌, ◌-◌, ◌<◌, ◌≤◌, inl, inr, List, [], ◌∷◌, ◌++◌, length, map, Option, Some, None, slice_get, sum_by, refl, sym, ap, ◌∙◌, arith, length-append}
use Rattle.std.proofs.lemmas.List.{length-map, map-append}
use Rattle.std.proofs.lemmas.List.Sums.{sum_by-cons}
use Rattle.std.proofs.lemmas.Option.{slice_get-map, slice_get_past}
use Rattle.agxx_base.specs.declared.ids.ClassId.{ClassId}
use Rattle.cxx_layout.specs.declared.layouts.WordInfo.{WordInfo}
use Rattle.cxx_core.specs.CoreProgram.{CoreWord, CoreClass}
use Rattle.step_machine.specs.Setting.{Setting, class_at, chain, linked, line_in, linked_ids, line}
use Rattle.step_machine.specs.Flips as flips
use Rattle.step_machine.specs.Flips.{words_of}
use Rattle.machine_laws.specs.Locate.{Located, own_words, own_by, own_count, count, located_on, locate}
use Rattle.machine_laws.specs.Locates.{HasBasesBefore}
use Rattle.machine_laws.specs.Layouts.{along, word_of, words_by, words_in, words_along, core_word, located_word}
use Rattle.machine_laws.proofs.Lines.{count-line, none-line, missing-line, line-of, by-bases}
use Rattle.machine_laws.proofs.Locates.{Where, somewhere, low, here, high, locate-is, locate-none}

-- ---- lists

pub get-low : {X : Type 0} (xs ys : List X) (w : ℕ) → w < length xs → slice_get (xs ++ ys) w ≡ slice_get xs w
get-low [] ys w h = absurd (omega arith)
get-low (x ∷ xs) ys zero h = refl
get-low (x ∷ xs) ys (suc w) h = get-low xs ys w (omega arith)

pub get-high : {X : Type 0} (xs ys : List X) (w : ℕ) → length xs ≤ w → slice_get (xs ++ ys) w ≡ slice_get ys (w - length xs)
get-high [] ys w h = let e : w - 0 ≡ w = omega arith in ap (slice_get ys) (sym e)
get-high (x ∷ xs) ys zero h = absurd (omega arith)
get-high (x ∷ xs) ys (suc w) h =
    let e : suc w - suc (length xs) ≡ w - length xs = omega arith in get-high xs ys w (omega arith) ∙ ap (slice_get ys) (sym e)

-- ---- how many

length-along : {A : Type 0} (own : ClassId → List A) (cs : List ClassId) → length (along own cs) ≡ sum_by (λ c. length (own c)) cs
length-along own [] = refl
length-along own (c ∷ cs) =
    length-append (along own cs) (own c) ∙ ap (λ m. m + length (own c)) (length-along own cs)
    ∙ (let e : sum_by (λ c. length (own c)) cs + length (own c) ≡ length (own c) + sum_by (λ c. length (own c)) cs = omega arith in e)
    ∙ sym (sum_by-cons (λ c. length (own c)) c cs)

same-sum : {A : Type 0} (f g : A → ℕ) (xs : List A) → ((x : A) → f x ≡ g x) → sum_by f xs ≡ sum_by g xs
same-sum f g [] e = refl
same-sum f g (x ∷ xs) e = sum_by-cons f x xs ∙ ap (λ m. m + sum_by f xs) (e x) ∙ ap (λ m. g x + m) (same-sum f g xs e) ∙ sym (sum_by-cons g x xs)

module _ (s : Setting) where
  own-length : (c : ClassId) → length (words_in s c) ≡ own_count own_words s c
  own-length c = length-map (words_by (class_at s c)) (word_of c) ∙ by (class_at s c)
    where
      by : (o : Option CoreClass) → length (words_by o) ≡ own_by own_words o
      by None = refl
      by (Some x) = refl

  pub count-along : (class : Option ClassId) → length (words_along s class) ≡ count own_words s class
  count-along class =
      length-along (words_in s) (line s class)
      ∙ same-sum (λ c. length (words_in s c)) (own_count own_words s) (line s class) own-length
      ∙ sym (count-line own_words s class)

-- ---- they are those of the machine

back-word : (c : ClassId) (ws : List CoreWord) → map core_word (map (word_of c) ws) ≡ ws
back-word c [] = refl
back-word c (w ∷ ws) = ap (λ l. w ∷ l) (back-word c ws)

module _ (classes : List CoreClass) where
  abbrev own : ClassId → List WordInfo
  own c = map (word_of c) (words_by (slice_get classes c.0))

  told-linked : (n : ℕ) (c : ClassId) (x : Option CoreClass) → slice_get classes c.0 ≡ x
      → ((b : Option ClassId) → map core_word (along own (line_in classes n b)) ≡ flips.words_in (chain classes n b))
      → map core_word (along own (linked_ids (λ b. line_in classes n b) c x)) ≡ flips.words_in (linked (λ b. chain classes n b) x)
  told-linked n c None e ih = refl
  told-linked n c (Some x) e ih =
      map-append core_word (along own (line_in classes n x.base)) (own c)
      ∙ ap (λ l. l ++ map core_word (own c)) (ih x.base)
      ∙ ap (λ o. flips.words_in (chain classes n x.base) ++ map core_word (map (word_of c) (words_by o))) e
      ∙ ap (λ l. flips.words_in (chain classes n x.base) ++ l) (back-word c x.words)

  told-words : (n : ℕ) (c : Option ClassId) → map core_word (along own (line_in classes n c)) ≡ flips.words_in (chain classes n c)
  told-words zero c = refl
  told-words (suc n) None = refl
  told-words (suc n) (Some c) = told-linked n c (slice_get classes c.0) refl (λ b. told-words n b)

pub machine-words : (s : Setting) (class : ClassId) → map core_word (words_along s (Some class)) ≡ words_of s class
machine-words s class = told-words s.program.classes (length s.program.classes) (Some class)

-- ---- which stands at a number

module _ (s : Setting) (bases : HasBasesBefore s.program) where
  abbrev StandsAt : Option ClassId → Type 0
  StandsAt class = (n : ℕ) → slice_get (words_along s class) n ≡ located_word s (locate own_words s class n)

  no-words : (class : Option ClassId) → line s class ≡ [] → StandsAt class
  no-words class z n = ap (λ l. slice_get (along (words_in s) l) n) z ∙ sym (ap (located_word s) (locate-none own_words s class z n))

  module _ (c : ClassId) (x : CoreClass) (e : class_at s c ≡ Some x) (ih : StandsAt x.base) (n : ℕ) where
    abbrev above : List WordInfo
    above = words_along s x.base

    abbrev placed : Option Located
    placed = located_on (count own_words s x.base) (length x.words) c n (locate own_words s x.base n)

    above-count : length above ≡ count own_words s x.base
    above-count = count-along s x.base

    words-here : (k : ℕ) → slice_get (words_in s c) k ≡ located_word s (Some (c, k))
    words-here k = slice_get-map (word_of c) (words_by (class_at s c)) k

    own-count : length (words_in s c) ≡ length x.words
    own-count = own-length s c ∙ ap (own_by own_words) e

    placed-at : Where (count own_words s x.base) (length x.words) c n (locate own_words s x.base n) → slice_get (above ++ words_in s c) n ≡ located_word s placed
    placed-at (inl h) =
        let all = above-count in
        get-low above (words_in s c) n (omega arith) ∙ ih n
        ∙ sym (ap (located_word s) (low (count own_words s x.base) (length x.words) c n (locate own_words s x.base n) h))
    placed-at (inr (inl h)) =
        let all = above-count in
        let from = h.0 in
        let at : n - length above ≡ n - count own_words s x.base = ap (λ m. n - m) all in
        get-high above (words_in s c) n (omega arith) ∙ ap (slice_get (words_in s c)) at ∙ words-here (n - count own_words s x.base)
        ∙ sym (ap (located_word s) (here (count own_words s x.base) (length x.words) c n (locate own_words s x.base n) h.0 h.1))
    placed-at (inr (inr h)) =
        let all = above-count in
        let mine = own-count in
        get-high above (words_in s c) n (omega arith) ∙ slice_get_past (words_in s c) (n - length above) (omega arith)
        ∙ sym (ap (located_word s) (high (count own_words s x.base) (length x.words) c n (locate own_words s x.base n) h))

    more-words : slice_get (words_along s (Some c)) n ≡ located_word s (locate own_words s (Some c) n)
    more-words =
        ap (λ l. slice_get (along (words_in s) l) n) (line-of s bases c x e)
        ∙ placed-at (somewhere (count own_words s x.base) (length x.words) c n (locate own_words s x.base n))
        ∙ sym (ap (located_word s) (locate-is own_words s bases c x e n))

pub stands-at : (s : Setting) → HasBasesBefore s.program → (class : Option ClassId) (n : ℕ) → slice_get (words_along s class) n ≡ located_word s (locate own_words s class n)
stands-at s bases =
    by-bases s bases (StandsAt s bases) (no-words s bases None (none-line s.program.classes (length s.program.classes)))
    (λ c e. no-words s bases (Some c) (missing-line s.program.classes (length s.program.classes) c e))
    (λ c x e ih. more-words s bases c x e ih)
