-- The names of the locals with which check words are repaired and renewed, by their texts.
use Rattle.std.proofs.Common.{◌≡◌, refl, ap, ◌∙◌, ℕ, suc, ◌+◌, arith, List, [], ◌∷◌, ◌++◌, map, length, codes}
use Rattle.std.specs.List.{range_with_len}
use Rattle.agxx_base.specs.declared.ids.NameId.{NameId}
use Rattle.cxx_tree.specs.declared.program.Member.{Member}
use Rattle.cxx_make.specs.Generated.{named, numbered}
use Rattle.codec.specs.declared.part.Part.{Part}
use Rattle.hamming_gen.specs.Positions.{check_words, next_position}
use Rattle.hamming_gen.specs.HammingNames as hamming
use Rattle.hamming_gen.specs.declared.words.MemberWord.{MemberWord}
use Rattle.hamming_gen.specs.declared.words.CheckWord.{CheckWord}
use Rattle.woven_rules.proofs.HammingBodies.{locals_of}

one-up : (i : ℕ) → suc i ≡ i + 1
one-up i = omega arith

module _ (names : List (List ℕ)) where
  -- a beginning with so many numbers from this one on
  abbrev pub group : List ℕ → ℕ → ℕ → List NameId
  group begins i n = map (λ k. numbered names begins k) (range_with_len i n)

  abbrev pub faults : ℕ → ℕ → List NameId
  faults k r = group (codes "__gop_e_") 1 k ++ (group (codes "__gop_f_") 0 r ++ named names (codes "__gop_b") ∷ [])

  -- for so many members and check words
  abbrev pub locals : ℕ → ℕ → List NameId
  locals k r =
      group (codes "__gop_x_") 1 k ++
      (group (codes "__gop_s_") 0 r ++ (named names (codes "__gop_q") ∷ named names (codes "__gop_y") ∷ faults k r))

  words-are : (i p : ℕ) (xs : List Member)
      → map (λ (w : MemberWord). w.word) (hamming.member_words names i p xs) ≡ group (codes "__gop_x_") i (length xs)
  words-are i p [] = refl
  words-are i p (m ∷ xs) =
      ap (λ l. numbered names (codes "__gop_x_") i ∷ l)
      (words-are (suc i) (next_position p) xs ∙ ap (λ j. group (codes "__gop_x_") j (length xs)) (one-up i))

  faults-are : (i p : ℕ) (xs : List Member)
      → map (λ (w : MemberWord). w.fault) (hamming.member_words names i p xs) ≡ group (codes "__gop_e_") i (length xs)
  faults-are i p [] = refl
  faults-are i p (m ∷ xs) =
      ap (λ l. numbered names (codes "__gop_e_") i ∷ l)
      (faults-are (suc i) (next_position p) xs ∙ ap (λ j. group (codes "__gop_e_") j (length xs)) (one-up i))

  sums-are : (class : NameId) (js : List ℕ)
      → map (λ (w : CheckWord). w.sum) (map (hamming.check_word names class) js) ≡ map
      (λ j. numbered names (codes "__gop_s_") j) js
  sums-are class [] = refl
  sums-are class (j ∷ js) = ap (λ l. numbered names (codes "__gop_s_") j ∷ l) (sums-are class js)

  check-faults-are : (class : NameId) (js : List ℕ)
      → map (λ (w : CheckWord). w.fault) (map (hamming.check_word names class) js) ≡ map
      (λ j. numbered names (codes "__gop_f_") j) js
  check-faults-are class [] = refl
  check-faults-are class (j ∷ js) = ap (λ l. numbered names (codes "__gop_f_") j ∷ l) (check-faults-are class js)

  same-list : (a1 a2 b1 b2 c1 c2 d1 d2 : List NameId) (q y x : NameId) → a1 ≡ a2 → b1 ≡ b2 → c1 ≡ c2 → d1 ≡ d2
      → a1 ++ (b1 ++ (q ∷ y ∷ (c1 ++ (d1 ++ x ∷ [])))) ≡ a2 ++ (b2 ++ (q ∷ y ∷ (c2 ++ (d2 ++ x ∷ []))))
  same-list a1 a2 b1 b2 c1 c2 d1 d2 q y x one two three four =
      ap (λ l. l ++ (b1 ++ (q ∷ y ∷ (c1 ++ (d1 ++ x ∷ []))))) one
      ∙ (ap (λ l. a2 ++ (l ++ (q ∷ y ∷ (c1 ++ (d1 ++ x ∷ []))))) two
      ∙ (ap (λ l. a2 ++ (b2 ++ (q ∷ y ∷ (l ++ (d1 ++ x ∷ []))))) three
      ∙ ap (λ l. a2 ++ (b2 ++ (q ∷ y ∷ (c2 ++ (l ++ x ∷ []))))) four))

  pub locals-are : (p : Part) → locals_of (hamming.part_words names p) ≡ locals (length p.members)
      (check_words (length p.members))
  locals-are p =
      let words = hamming.part_words names p in
      let js = range_with_len 0 (check_words (length p.members)) in
      same-list (map (λ (w : MemberWord). w.word) words.members) (group (codes "__gop_x_") 1 (length p.members))
      (map (λ (w : CheckWord). w.sum) words.checks) (group (codes "__gop_s_") 0 (check_words (length p.members)))
      (map (λ (w : MemberWord). w.fault) words.members) (group (codes "__gop_e_") 1 (length p.members))
      (map (λ (w : CheckWord). w.fault) words.checks)
      (group (codes "__gop_f_") 0 (check_words (length p.members)))
      words.total words.uneven words.beyond (words-are 1 3 p.members) (sums-are p.class.item js)
      (faults-are 1 3 p.members) (check-faults-are p.class.item js)
