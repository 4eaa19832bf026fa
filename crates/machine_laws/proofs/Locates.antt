-- Numbers of words and mutexes, and what is located by them, are each other's inverse.
use Rattle.std.proofs.Common.{◌≡◌, ℕ, ◌+◌, ◌-◌, ◌<◌, ◌≤◌, ◌⊎◌, inl, inr, Bool, true, false, ◌||◌, nat_eq, nat_lt, List, [], length, map, Option, Some, None, option_map, is_some, slice_get, sum_by, refl, sym, ap, subst, ◌∙◌, arith}
use Rattle.std.specs.List.{position_or_len}
use Rattle.std.proofs.lemmas.List.Sums.{sum_by-cons}
use Rattle.std.proofs.lemmas.Option.{none-some, same_Some, slice_get-map, slice_get_within}
use Rattle.std.proofs.lemmas.Bool.{cond-true, cond-false, lt-ltb, le-ltb, eq-eqb, eqb-true, cases_lt, or_left, or_right, or_cases, false_from_ne_true}
use Rattle.agxx_base.specs.declared.ids.ClassId.{ClassId}
use Rattle.cxx_core.specs.CoreProgram.{CoreWord, CoreClass}
use Rattle.step_machine.specs.Setting.{Setting, class_at, line, stands_in, is_of, word_count, mutex_count, word_in, mutex_in, word_number, mutex_number}
use Rattle.machine_laws.specs.Locate.{Located, own_words, own_mutexes, own_by, own_count, count, above_by, above_count, number_at, located_on, located_in, locate}
use Rattle.machine_laws.specs.Locates.{HasBasesBefore, IsDistinct, IsAt, AreLocated, WordsAreLocated}
use Rattle.machine_laws.proofs.Lists.{position-of}
use Rattle.machine_laws.proofs.Lines.{count-line, none-line, missing-line, line-of, by-bases}
use Rattle.machine_laws.proofs.Bases.{has-bases}

-- ---- one class below those that have a number

module _ (a o : ℕ) (c : ClassId) (n : ℕ) (higher : Option Located) where
  pub low : n < a → located_on a o c n higher ≡ higher
  low h = cond-true (nat_lt n a) _ _ (lt-ltb n a h)

  pub here : a ≤ n → n < a + o → located_on a o c n higher ≡ Some (c, n - a)
  here h k = cond-false (nat_lt n a) _ _ (le-ltb n a h) ∙ cond-true (nat_lt n (a + o)) _ _ (lt-ltb n (a + o) k)

  pub high : a + o ≤ n → located_on a o c n higher ≡ None
  high h = cond-false (nat_lt n a) _ _ (le-ltb n a (omega arith)) ∙ cond-false (nat_lt n (a + o)) _ _ (le-ltb n (a + o) h)

  abbrev pub Where : Type 0
  Where = (n < a) ⊎ (((a ≤ n) × (n < a + o)) ⊎ (a + o ≤ n))

  pub somewhere : Where
  somewhere = elim (cases_lt n a) [ inl h ↦ inl h | inr h ↦ inr (elim (cases_lt n (a + o)) [ inl k ↦ inl (h, k) | inr k ↦ inr k ]) ]

-- ---- each class

pub record AtClass (of : CoreClass → ℕ) (s : Setting) (class : Option ClassId) : Type 0 where
  pub found : (n : ℕ) (p : Located) → locate of s class n ≡ Some p → IsAt of s class p × (number_at of s p ≡ n)
  pub back : (p : Located) → IsAt of s class p → locate of s class (number_at of s p) ≡ Some p
  pub each : (n : ℕ) → n < count of s class → is_some (locate of s class n) ≡ true
  pub no_other : (n : ℕ) → count of s class ≤ n → locate of s class n ≡ None

module _ (of : CoreClass → ℕ) (s : Setting) where
  abbrev own : ClassId → ℕ
  own = own_count of s

  pub locate-none : (class : Option ClassId) → line s class ≡ [] → (n : ℕ) → locate of s class n ≡ None
  locate-none class z n = ap (λ l. located_in own l n) z

  without : (class : Option ClassId) → line s class ≡ [] → AtClass of s class
  without class z = record {
    found = λ n p e. absurd (none-some p (sym (locate-none class z n) ∙ e));
    back = λ p at. let none : is_of s class (Some p.0) ≡ false = ap (stands_in (Some p.0)) z in let is = at.is_of in cc;
    each = λ n h. let zero_count : count of s class ≡ 0 = count-line of s class ∙ ap (sum_by own) z in absurd (omega arith);
    no_other = λ n h. locate-none class z n;
  }

  module _ (bases : HasBasesBefore s.program) (c : ClassId) (x : CoreClass) (e : class_at s c ≡ Some x) where
    abbrev a : ℕ
    a = count of s x.base

    own-is : own c ≡ of x
    own-is = ap (own_by of) e

    above-is : above_count of s c ≡ a
    above-is = ap (above_by of s) e

    pub locate-is : (n : ℕ) → locate of s (Some c) n ≡ located_on a (of x) c n (locate of s x.base n)
    locate-is n =
        ap (λ l. located_in own l n) (line-of s bases c x e)
        ∙ ap (λ m. located_on m (own c) c n (locate of s x.base n)) (sym (count-line of s x.base))
        ∙ ap (λ m. located_on a m c n (locate of s x.base n)) own-is

    count-is : count of s (Some c) ≡ a + of x
    count-is =
        let whole = count-line of s (Some c) ∙ ap (sum_by own) (line-of s bases c x e) ∙ sum_by-cons own c (line s x.base) in
        let above = count-line of s x.base in
        let mine = own-is in
        omega arith

    is-of-is : (b : ClassId) → is_of s (Some c) (Some b) ≡ (nat_eq b.0 c.0 || is_of s x.base (Some b))
    is-of-is b = ap (stands_in (Some b)) (line-of s bases c x e)

    module _ (ih : AtClass of s x.base) where
      found-in : (n : ℕ) (p : Located) → locate of s (Some c) n ≡ Some p → IsAt of s (Some c) p × (number_at of s p ≡ n)
      found-in n p q = by (somewhere a (of x) c n (locate of s x.base n))
        where
          told : located_on a (of x) c n (locate of s x.base n) ≡ Some p
          told = sym (locate-is n) ∙ q

          higher : (n < a) → IsAt of s (Some c) p × (number_at of s p ≡ n)
          higher h =
              let f = ih.found n p (sym (low a (of x) c n (locate of s x.base n) h) ∙ told) in
              (record { is_of = is-of-is p.0 ∙ or_right (nat_eq p.0.0 c.0) (is_of s x.base (Some p.0)) f.0.is_of; within = f.0.within }, f.1)

          mine : (h : a ≤ n) → (k : n < a + of x) → IsAt of s (Some c) p × (number_at of s p ≡ n)
          mine h k =
              let z : (c, n - a) ≡ p = same_Some (c, n - a) p (sym (here a (of x) c n (locate of s x.base n) h k) ∙ told) in
              let o = own-is in
              let u = above-is in
              let within : n - a < own c = omega arith in
              let sum : above_count of s c + (n - a) ≡ n = omega arith in
              let is : is_of s (Some c) (Some c) ≡ true = is-of-is c ∙ or_left (nat_eq c.0 c.0) (is_of s x.base (Some c)) (eq-eqb c.0 c.0 refl) in
              subst (λ (r : Located). IsAt of s (Some c) r × (number_at of s r ≡ n)) z (record { is_of = is; within = within }, sum)

          by : Where a (of x) c n (locate of s x.base n) → IsAt of s (Some c) p × (number_at of s p ≡ n)
          by (inl h) = higher h
          by (inr (inl h)) = mine h.0 h.1
          by (inr (inr h)) = absurd (none-some p (sym (high a (of x) c n (locate of s x.base n) h) ∙ told))

      -- one's own
      back-own : (p : Located) → IsAt of s (Some c) p → nat_eq p.0.0 c.0 ≡ true → locate of s (Some c) (number_at of s p) ≡ Some p
      back-own p at t =
          let same : p.0.0 ≡ c.0 = eqb-true p.0.0 c.0 t in
          let class : p.0 ≡ c = λ i. record { 0 = same i } in
          let above : above_count of s p.0 ≡ a = ap (above_count of s) class ∙ above-is in
          let own_p : own p.0 ≡ of x = ap own class ∙ own-is in
          let within : p.1 < own p.0 = at.within in
          let sum : number_at of s p ≡ a + p.1 = omega arith in
          let minus : a + p.1 - a ≡ p.1 = omega arith in
          ap (locate of s (Some c)) sum ∙ locate-is (a + p.1)
          ∙ here a (of x) c (a + p.1) (locate of s x.base (a + p.1)) (omega arith) (omega arith)
          ∙ (λ i. Some (sym class i, minus i))

      -- of a class above
      back-above : (p : Located) → IsAt of s x.base p → locate of s (Some c) (number_at of s p) ≡ Some p
      back-above p at = by (cases_lt (number_at of s p) a)
        where
          by : (number_at of s p < a) ⊎ (a ≤ number_at of s p) → locate of s (Some c) (number_at of s p) ≡ Some p
          by (inl h) = locate-is (number_at of s p) ∙ low a (of x) c (number_at of s p) (locate of s x.base (number_at of s p)) h ∙ ih.back p at
          by (inr h) = absurd (none-some p (sym (ih.no_other (number_at of s p) h) ∙ ih.back p at))

      back-in : (p : Located) → IsAt of s (Some c) p → locate of s (Some c) (number_at of s p) ≡ Some p
      back-in p at =
          elim (or_cases (nat_eq p.0.0 c.0) (is_of s x.base (Some p.0)) (sym (is-of-is p.0) ∙ at.is_of)) [
            | inl t ↦ back-own p at t
            | inr t ↦ back-above p (record { is_of = t; within = at.within })
          ]

      each-in : (n : ℕ) → n < count of s (Some c) → is_some (locate of s (Some c) n) ≡ true
      each-in n h = by (somewhere a (of x) c n (locate of s x.base n))
        where
          by : Where a (of x) c n (locate of s x.base n) → is_some (locate of s (Some c) n) ≡ true
          by (inl k) = ap is_some (locate-is n ∙ low a (of x) c n (locate of s x.base n) k) ∙ ih.each n k
          by (inr (inl k)) = ap is_some (locate-is n ∙ here a (of x) c n (locate of s x.base n) k.0 k.1)
          by (inr (inr k)) = let all = count-is in absurd (omega arith)

      no-other-in : (n : ℕ) → count of s (Some c) ≤ n → locate of s (Some c) n ≡ None
      no-other-in n h = let all = count-is in locate-is n ∙ high a (of x) c n (locate of s x.base n) (omega arith)

      at-more : AtClass of s (Some c)
      at-more = record { found = found-in; back = back-in; each = each-in; no_other = no-other-in }

  module _ (bases : HasBasesBefore s.program) where
    pub at-class : (class : Option ClassId) → AtClass of s class
    at-class =
        by-bases s bases (AtClass of s) (without None (none-line s.program.classes (length s.program.classes)))
        (λ c e. without (Some c) (missing-line s.program.classes (length s.program.classes) c e))
        (λ c x e ih. at-more bases c x e ih)

    pub are-located : AreLocated of s
    are-located = record {
      found = λ class. (at-class class).found;
      back = λ class. (at-class class).back;
      each = λ class. (at-class class).each;
      no_other = λ class. (at-class class).no_other;
      apart = λ class p q here there e.
          same_Some p q (sym ((at-class class).back p here) ∙ ap (locate of s class) e ∙ (at-class class).back q there);
    }

-- ---- by names

module _ {X : Type 0} (name : X → ℕ) (test : X → Bool) (xs : List X) (i : ℕ) (x : X) (apart : (j k n : ℕ) → slice_get (map name xs) j ≡ Some n → slice_get (map name xs) k ≡ Some n → j ≡ k)
    (e : slice_get xs i ≡ Some x) where
  named : (k : ℕ) (y : X) → slice_get xs k ≡ Some y → slice_get (map name xs) k ≡ Some (name y)
  named k y f = slice_get-map name xs k ∙ ap (option_map name) f

  other : (k : ℕ) (y : X) → k < i → slice_get xs k ≡ Some y → name y ≡ name x → ⊥
  other k y h f same = let one = apart k i (name x) (named k y f ∙ ap (λ n. Some n) same) (named i x e) in omega arith

  named-at : test x ≡ true → ((y : X) → test y ≡ true → name y ≡ name x) → position_or_len test xs ≡ i
  named-at t tells = position-of test xs i x e t (λ k y h f. false_from_ne_true (test y) (λ u. other k y h f (tells y u)))

module _ (s : Setting) (bases : HasBasesBefore s.program) where
  within-own : (of : CoreClass → ℕ) (own : ClassId) (found : CoreClass) (i : ℕ) → class_at s own ≡ Some found → i < of found → i < own_count of s own
  within-own of own found i e h = let same : own_count of s own ≡ of found = ap (own_by of) e in omega arith

  located-word : (class : Option ClassId) (own : ClassId) (found : CoreClass) (i : ℕ) (word : CoreWord) → is_of s class (Some own) ≡ true → class_at s own ≡ Some found
      → IsDistinct (map (λ (w : CoreWord). w.name) found.words) → slice_get found.words i ≡ Some word
      → locate own_words s class (word_number s own word.name) ≡ Some (own, i)
  located-word class own found i word is e distinct f =
      let at : position_or_len (λ (w : CoreWord). nat_eq w.name word.name) found.words ≡ i =
      named-at (λ (w : CoreWord). w.name) (λ (w : CoreWord). nat_eq w.name word.name) found.words i word distinct.apart f
      (eq-eqb word.name word.name refl) (λ w t. eqb-true w.name word.name t) in
      let sum : word_number s own word.name ≡ number_at own_words s (own, i) =
      ap (word_in s word.name) e ∙ ap (λ m. word_count s found.base + m) at ∙ sym (ap (λ o. above_by own_words s o + i) e) in
      let within : i < own_count own_words s own = within-own own_words own found i e (slice_get_within found.words i word f) in
      ap (locate own_words s class) sum ∙ (at-class own_words s bases class).back (own, i) (record { is_of = is; within = within })

  located-mutex : (class : Option ClassId) (own : ClassId) (found : CoreClass) (i name : ℕ) → is_of s class (Some own) ≡ true → class_at s own ≡ Some found
      → IsDistinct found.mutexes → slice_get found.mutexes i ≡ Some name
      → locate own_mutexes s class (mutex_number s own name) ≡ Some (own, i)
  located-mutex class own found i name is e distinct f =
      let at : position_or_len (nat_eq name) found.mutexes ≡ i =
      position-of (nat_eq name) found.mutexes i name f (eq-eqb name name refl)
      (λ k y h g. false_from_ne_true (nat_eq name y) (λ t. other k y h g (eqb-true name y t))) in
      let sum : mutex_number s own name ≡ number_at own_mutexes s (own, i) =
      ap (mutex_in s name) e ∙ ap (λ m. mutex_count s found.base + m) at ∙ sym (ap (λ o. above_by own_mutexes s o + i) e) in
      let within : i < own_count own_mutexes s own = within-own own_mutexes own found i e (slice_get_within found.mutexes i name f) in
      ap (locate own_mutexes s class) sum ∙ (at-class own_mutexes s bases class).back (own, i) (record { is_of = is; within = within })
    where
      other : (k y : ℕ) → k < i → slice_get found.mutexes k ≡ Some y → name ≡ y → ⊥
      other k y h g same = let e2 = distinct.apart k i name (g ∙ ap (λ n. Some n) (sym same)) f in omega arith

pub words-are-located : WordsAreLocated
words-are-located = record {
  of_words = λ s bases. are-located own_words s bases;
  of_mutexes = λ s bases. are-located own_mutexes s bases;
  of_names = λ s bases. record { of_word = located-word s bases; of_mutex = located-mutex s bases };
  of_programs = has-bases;
}
