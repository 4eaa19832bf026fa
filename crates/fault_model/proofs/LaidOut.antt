-- The words of parts are words of objects.
use Rattle.std.proofs.Common.{◌≡◌, ℕ, zero, suc, ◌⊎◌, inl, inr, nat_lt, nat_eq, if◌then◌else◌, cond, not, ◌||◌, List, [], ◌∷◌, ◌++◌, map, length, Bool, true, false, Option, Some, None, option_map, slice_get, find, refl, ap, sym, subst, ◌∙◌, true≢false}
use Rattle.std.specs.Prelude.{filter, flat_map}
use Rattle.std.specs.List.{list_any}
use Rattle.agxx_base.specs.declared.ids.ClassId.{ClassId}
use Rattle.cxx_arith.specs.Kinds.{width}
use Rattle.flip_plan.specs.declared.flip.PlannedFlip.{PlannedFlip}
use Rattle.cxx_core.specs.CoreProgram.{CoreWord, CoreClass}
use Rattle.step_machine.specs.Setting.{Setting, class_at, line, is_of, word_number}
use Rattle.step_machine.specs.Flips.{words_of, width_by, is_bit, FlippedOf, flipped_of, with_bits_of, inverted}
use Rattle.step_machine.specs.Total.{Total}
use Rattle.step_machine.proofs.Same.{same-eq, same-self, nat-same}
use Rattle.machine_laws.specs.Locate.{own_words, locate}
use Rattle.machine_laws.specs.Layouts.{word_of, words_by, words_along, core_word, located_word}
use Rattle.machine_laws.proofs.Lines.{none-line}
use Rattle.machine_laws.proofs.Locates.{words-are-located}
use Rattle.machine_laws.proofs.Agree.{layouts-agree}
use Rattle.fault_model.specs.Parts.{PartWord, is_counter, declares_part, part_words, part_words_by, number_of, words_with_class, words_in_parts, part_word_at}
use Rattle.fault_model.specs.Admissible.{Hits, is_admissible, is_admissible_at}
use Rattle.fault_model.specs.LaidOut.{IsLaidOut, PartsAreLaidOut}
use Rattle.fault_model.proofs.Together.{and-left}

-- ---- elements of lists

abbrev or-else : {A : Type 0} → A → Option A → A
or-else a None = a
or-else a (Some b) = b

abbrev is-there : {A : Type 0} → Option A → Bool
is-there None = false
is-there (Some a) = true

module _ {A : Type 0} where
  some-eq : (a b : A) → Some a ≡ Some b → a ≡ b
  some-eq a b e = ap (or-else a) e

  none-some : {P : Type 0} (a : A) → None ≡ Some a → P
  none-some a e = absurd (true≢false (sym (ap is-there e)))

  abbrev IsIn : List A → A → Type 0
  IsIn xs x = (i : ℕ) × (slice_get xs i ≡ Some x)

  in-none : {P : Type 0} (x : A) → IsIn [] x → P
  in-none x h = none-some x h.1

  further : (y x : A) (xs : List A) → IsIn xs x → IsIn (y ∷ xs) x
  further y x xs h = (suc h.0, h.1)

  found-in : (test : A → Bool) (xs : List A) (x : A) → find test xs ≡ Some x → (test x ≡ true) × IsIn xs x
  found-in test [] x e = none-some x e
  found-in test (y ∷ ys) x e = go (found-in test ys x) (test y) refl e
    where
      go : (find test ys ≡ Some x → (test x ≡ true) × IsIn ys x) → (b : Bool) → test y ≡ b → cond b (Some y) (find test ys) ≡ Some x
          → (test x ≡ true) × IsIn (y ∷ ys) x
      go more true t q = (sym (ap test (some-eq y x q)) ∙ t, (0, q))
      go more false t q = let h = more q in (h.0, further y x ys h.1)

  in-append : (xs ys : List A) (i : ℕ) (x : A) → slice_get (xs ++ ys) i ≡ Some x → IsIn xs x ⊎ IsIn ys x
  in-append [] ys i x e = inr (i, e)
  in-append (a ∷ xs) ys zero x e = inl (0, e)
  in-append (a ∷ xs) ys (suc i) x e = go (in-append xs ys i x e)
    where
      go : IsIn xs x ⊎ IsIn ys x → IsIn (a ∷ xs) x ⊎ IsIn ys x
      go (inl h) = inl (further a x xs h)
      go (inr h) = inr h

  in-filter : (test : A → Bool) (xs : List A) (i : ℕ) (x : A) → slice_get (filter test xs) i ≡ Some x → IsIn xs x
  in-filter test [] i x e = none-some x e
  in-filter test (y ∷ ys) i x e = go (λ j. in-filter test ys j x) (test y) i e
    where
      go : ((j : ℕ) → slice_get (filter test ys) j ≡ Some x → IsIn ys x) → (b : Bool) (j : ℕ) → slice_get (cond b (y ∷ filter test ys) (filter test ys)) j ≡ Some x → IsIn (y ∷ ys) x
      go more true zero q = (0, q)
      go more true (suc j) q = further y x ys (more j q)
      go more false j q = further y x ys (more j q)

  any-in : (test : A → Bool) (xs : List A) (i : ℕ) (x : A) → slice_get xs i ≡ Some x → test x ≡ true → list_any test xs ≡ true
  any-in test [] i x e t = none-some x e
  any-in test (y ∷ ys) zero x e t = ap (λ b. b || list_any test ys) (ap test (some-eq y x e) ∙ t)
  any-in test (y ∷ ys) (suc i) x e t = go (test y) (any-in test ys i x e t)
    where
      go : (b : Bool) → list_any test ys ≡ true → (b || list_any test ys) ≡ true
      go true q = refl
      go false q = q

module _ {A B : Type 0} where
  in-flat : (f : A → List B) (xs : List A) (i : ℕ) (y : B) → slice_get (flat_map f xs) i ≡ Some y → (x : A) × IsIn xs x × IsIn (f x) y
  in-flat f [] i y e = none-some y e
  in-flat f (x ∷ xs) i y e = go (λ j. in-flat f xs j y) (in-append (f x) (flat_map f xs) i y e)
    where
      go : ((j : ℕ) → slice_get (flat_map f xs) j ≡ Some y → (a : A) × IsIn xs a × IsIn (f a) y) → IsIn (f x) y ⊎ IsIn (flat_map f xs) y
          → (a : A) × IsIn (x ∷ xs) a × IsIn (f a) y
      go more (inl h) = (x, (0, refl), h)
      go more (inr h) = let r = more h.0 h.1 in (r.0, further x r.0 xs r.1, r.2)

  get-map : (f : A → B) (xs : List A) (i : ℕ) → slice_get (map f xs) i ≡ option_map f (slice_get xs i)
  get-map f [] i = refl
  get-map f (x ∷ xs) zero = refl
  get-map f (x ∷ xs) (suc i) = get-map f xs i

  in-map : (f : A → B) (xs : List A) (i : ℕ) (y : B) → slice_get (map f xs) i ≡ Some y → (x : A) × IsIn xs x × (f x ≡ y)
  in-map f [] i y e = none-some y e
  in-map f (x ∷ xs) zero y e = (x, (0, refl), some-eq (f x) y e)
  in-map f (x ∷ xs) (suc i) y e = let h = in-map f xs i y e in (h.0, further x h.0 xs h.1, h.2)

-- ---- words of parts

in-part-by : (s : Setting) (found : Option CoreClass) (i : ℕ) (w : CoreWord) → slice_get (part_words_by s found) i ≡ Some w
    → (class : CoreClass) × (found ≡ Some class) × IsIn class.words w
in-part-by s None i w e = none-some w e
in-part-by s (Some class) i w e = go (declares_part s class) e
  where
    go : (b : Bool) → slice_get (if b then filter (λ (v : CoreWord). not (is_counter s class v.name)) class.words else []) i ≡ Some w
        → (c : CoreClass) × (Some class ≡ Some c) × IsIn c.words w
    go true q = (class, refl, in-filter (λ (v : CoreWord). not (is_counter s class v.name)) class.words i w q)
    go false q = none-some w q

eq-tells : (a b : ℕ) → nat_eq a b ≡ true → a ≡ b
eq-tells a b e = same-eq a b (sym (nat-same a b) ∙ e)

-- a word that a class declares is the one of its number in objects of classes below
word-at : (s : Setting) → IsLaidOut s → (class own : ClassId) (n i : ℕ) (found : CoreClass) (w : CoreWord) → is_of s (Some class) (Some own) ≡ true
    → class_at s own ≡ Some found → slice_get found.words i ≡ Some w → word_number s own w.name ≡ n → slice_get (words_of s class) n ≡ Some w
word-at s h class own n i found w of is at number =
    let l : locate own_words s (Some class) (word_number s own w.name) ≡ Some (own, i) =
    (words-are-located.of_names s h.bases).of_word (Some class) own found i w of is (h.words own found is) at in
    let a : slice_get (words_along s (Some class)) n ≡ Some (word_of own w) =
    layouts-agree.of_located s h.bases (Some class) n
    ∙ ap (located_word s) (subst (λ k. locate own_words s (Some class) k ≡ Some (own, i)) number l)
    ∙ ap (λ c. option_map (word_of own) (slice_get (words_by c) i)) is
    ∙ ap (option_map (word_of own)) at in
    ap (λ ws. slice_get ws n) (sym (layouts-agree.of_machine s class))
    ∙ get-map core_word (words_along s (Some class)) n
    ∙ ap (option_map core_word) a

-- a word of a part of an object, by the class that declares it and its position there
record PartWordIn (s : Setting) (class : ClassId) (n : ℕ) (p : PartWord) : Type 0 where
  found : CoreClass
  position : ℕ
  of : is_of s (Some class) (Some p.class) ≡ true
  is : class_at s p.class ≡ Some found
  at : slice_get found.words position ≡ Some p.word
  number : number_of s p ≡ n

of-class : (s : Setting) (class own : ClassId) (n i j : ℕ) (p : PartWord) → slice_get (line s (Some class)) i ≡ Some own → slice_get (words_with_class s own) j ≡ Some p
    → number_of s p ≡ n → PartWordIn s class n p
of-class s class own n i j p e f number =
    let z = in-map (λ (v : CoreWord). record { class = own; word = v }) (part_words s own) j p f in
    let u = in-part-by s (class_at s own) z.1.0 z.0 z.1.1 in
    subst (λ (q : PartWord). number_of s q ≡ n → PartWordIn s class n q) z.2
    (λ k. record {
      found = u.0;
      position = u.2.0;
      of = any-in (λ (c : ClassId). nat_eq own.0 c.0) (line s (Some class)) i own e (nat-same own.0 own.0 ∙ same-self own.0);
      is = u.1;
      at = u.2.1;
      number = k;
    }) number

part-word-in : (s : Setting) (class : ClassId) (n : ℕ) (p : PartWord) → part_word_at s (Some class) n ≡ Some p → PartWordIn s class n p
part-word-in s class n p e =
    let x = found-in (λ q. nat_eq (number_of s q) n) (words_in_parts s (Some class)) p e in
    let y = in-flat (words_with_class s) (line s (Some class)) x.1.0 p x.1.1 in
    of-class s class y.0 n y.1.0 y.2.0 p y.1.1 y.2.1 (eq-tells (number_of s p) n x.0)

laid-out : (s : Setting) → IsLaidOut s → (class : ClassId) (n : ℕ) (p : PartWord) → part_word_at s (Some class) n ≡ Some p → slice_get (words_of s class) n ≡ Some p.word
laid-out s h class n p e =
    let x = part-word-in s class n p e in
    word-at s h class p.class n x.position x.found p.word x.of x.is x.at x.number

-- ---- flips

nothing-there : (s : Setting) (n : ℕ) → part_word_at s None n ≡ None
nothing-there s n = ap (λ l. find (λ p. nat_eq (number_of s p) n) (flat_map (words_with_class s) l)) (none-line s.program.classes (length s.program.classes))

bit-there : (m : Total) → IsLaidOut m.setting → (hits : Hits) (f : PlannedFlip) (own : Option ClassId) (found : Option PartWord) → part_word_at m.setting own f.word ≡ found
    → is_admissible_at m hits f.object.0 f.bit found ≡ true → is_bit m.setting own f.word f.bit ≡ true
bit-there m h hits f own None e a = absurd (true≢false (sym a))
bit-there m h hits f None (Some p) e a = none-some p (sym (nothing-there m.setting f.word) ∙ e)
bit-there m h hits f (Some class) (Some p) e a =
    ap (λ w. nat_lt f.bit (width_by w)) (laid-out m.setting h class f.word p e) ∙ and-left (nat_lt f.bit (width p.word.kind)) _ a

flips-there : (m : Total) → IsLaidOut m.setting → (hits : Hits) (f : PlannedFlip) (bits : ℕ) → m.word f.object.0 f.word ≡ Some bits
    → is_admissible m hits f ≡ true → (flipped_of f.object.0 f.word f.bit m).1 ≡ true
unfolding flipped_of
flips-there m h hits f bits e a =
    rw e (ap (λ b. (if◌then◌else◌ {A = FlippedOf} b (with_bits_of f.object.0 f.word (inverted bits f.bit) m, true) (m, false)).1)
    (bit-there m h hits f (m.class f.object.0) (part_word_at m.setting (m.class f.object.0) f.word) refl a))

pub parts-are-laid-out : PartsAreLaidOut
parts-are-laid-out = record { of_word = laid-out; of_flip = flips-there }
