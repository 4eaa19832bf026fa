-- The first word of a part that has a number.
use Rattle.std.proofs.Common.{◌≡◌, ℕ, ◌-◌, ◌<◌, Bool, true, false, not, cond, ◌&&◌, ◌||◌, nat_eq, List, [], ◌∷◌, ◌++◌, length, map, drop, get_or, ◌+◌, add-one, drop-cons, Option, Some, None, option_map, slice_get, refl, ap, sym, ◌∙◌}
use Rattle.std.specs.List.{list_any, find, filter, flat_map}
use Rattle.std.specs.Option.{option_or}
use Rattle.std.proofs.lemmas.List.Folds.{find-append, list_any-append}
use Rattle.agxx_base.specs.declared.ids.ClassId.{ClassId}
use Rattle.agxx_base.specs.declared.kind.NumKind.TheVariants as kind
use Rattle.cxx_core.specs.declared.program.Word.{Word}
use Rattle.cxx_core.specs.CoreProgram.{CoreWord, CoreClass}
use Rattle.cxx_core.specs.ProgramView.{word_core}
use Rattle.step_machine.specs.Setting.{Setting, line_in, word_number}
use Rattle.fault_model.specs.Parts as parts
use Rattle.fault_model.specs.Parts.{is_counter, number_of, words_with_class, part_words_by}
use Rattle.fault_watch.specs.declared.part_words.PartWord.{PartWord}
use Rattle.fault_watch.specs.PartWords.{shown, in_class, first_of, is_numbered}
use Rattle.fault_watch.proofs.Lines.{more-ids}

-- ---- names

module _ (p : ℕ → Bool) (words : List CoreWord) (names : List ℕ) where
  any-mapped : (ws : List CoreWord) → list_any p (map (λ (w : CoreWord). w.name) ws) ≡ list_any (λ (w : CoreWord). p w.name) ws
  any-mapped [] = refl
  any-mapped (w ∷ ws) = ap (λ b. p w.name || b) (any-mapped ws)

  any-names : list_any p (map (λ (w : CoreWord). w.name) words ++ names) ≡ (list_any (λ (w : CoreWord). p w.name) words || list_any p names)
  any-names =
      list_any-append p (map (λ (w : CoreWord). w.name) words) names
      ∙ ap (λ b. b || list_any p names) (any-mapped words)

  pub words-have : (r : Bool) → r ≡ list_any (λ (w : CoreWord). p w.name) words → r ≡ true
      → r ≡ list_any p (map (λ (w : CoreWord). w.name) words ++ names)
  words-have r e h = h ∙ sym (any-names ∙ ap (λ b. b || list_any p names) (sym e ∙ h))

  pub names-have : (r q : Bool) → r ≡ list_any (λ (w : CoreWord). p w.name) words → r ≡ false → q ≡ list_any p names
      → q ≡ list_any p (map (λ (w : CoreWord). w.name) words ++ names)
  names-have r q e h f = f ∙ sym (any-names ∙ ap (λ b. b || list_any p names) (sym e ∙ h))

-- ---- words of one class

abbrev pub nothing : Word
nothing = record { name = record { 0 = 0 }; kind = kind.Bool }

pub next-word : (words : List Word) (i : ℕ) → i < length words
    → map word_core (drop i words) ≡ word_core (get_or words i nothing) ∷ map word_core (drop (i + 1) words)
next-word words i h = rw (add-one, drop-cons words i nothing) refl

module _ (s : Setting) (number : ClassId) (class : CoreClass) (n : ℕ) where
  abbrev pub kept : List CoreWord → List CoreWord
  kept words = filter (λ (w : CoreWord). not (is_counter s class w.name)) words

  pub is-first : (w : CoreWord) (words : List CoreWord) → is_numbered s number class n w ≡ true
      → first_of s number n (kept (w ∷ words)) ≡ Some (in_class number w)
  is-first w words h = go (nat_eq (word_number s number w.name) n) (is_counter s class w.name) refl refl
    where
      go : (a b : Bool) → nat_eq (word_number s number w.name) n ≡ a → is_counter s class w.name ≡ b
          → first_of s number n (kept (w ∷ words)) ≡ Some (in_class number w)
      go true true e f = cc (h, ap (λ x. x && not (is_counter s class w.name)) e, ap (λ x. true && not x) f)
      go true false e f =
          ap (λ x. first_of s number n (cond (not x) (w ∷ kept words) (kept words))) f
          ∙ ap (λ x. cond x (Some (in_class number w)) (first_of s number n (kept words))) e
      go false b e f = cc (h, ap (λ x. x && not (is_counter s class w.name)) e)

  pub isnt-first : (w : CoreWord) (words : List CoreWord) → is_numbered s number class n w ≡ false
      → first_of s number n (kept words) ≡ first_of s number n (kept (w ∷ words))
  isnt-first w words h = go (nat_eq (word_number s number w.name) n) (is_counter s class w.name) refl refl
    where
      go : (a b : Bool) → nat_eq (word_number s number w.name) n ≡ a → is_counter s class w.name ≡ b
          → first_of s number n (kept words) ≡ first_of s number n (kept (w ∷ words))
      go a true e f = sym (ap (λ x. first_of s number n (cond (not x) (w ∷ kept words) (kept words))) f)
      go true false e f = cc (h, ap (λ x. x && not (is_counter s class w.name)) e, ap (λ x. true && not x) f)
      go false false e f =
          sym (ap (λ x. first_of s number n (cond (not x) (w ∷ kept words) (kept words))) f
          ∙ ap (λ x. cond x (Some (in_class number w)) (first_of s number n (kept words))) e)

-- ---- classes upwards

module _ (s : Setting) (n : ℕ) where
  -- the word that is found from a class on, so many classes at most
  abbrev pub found_from : ℕ → Option ClassId → Option parts.PartWord
  found_from steps next = find (λ p. nat_eq (number_of s p) n) (flat_map (words_with_class s) (line_in s.program.classes steps next))

  found-more : (steps : ℕ) (next : Option ClassId) (number : ClassId) (c : CoreClass) → 0 < steps → next ≡ Some number
      → slice_get s.program.classes number.0 ≡ Some c
      → found_from steps next ≡ option_or (first_of s number n (part_words_by s (Some c))) (found_from (steps - 1) c.base)
  found-more steps next number c h e f =
      ap (λ ids. find (λ p. nat_eq (number_of s p) n) (flat_map (words_with_class s) ids)) (more-ids s.program.classes steps next number c h e f)
      ∙ find-append (λ p. nat_eq (number_of s p) n) (words_with_class s number) (flat_map (words_with_class s) (line_in s.program.classes (steps - 1) c.base))
      ∙ ap (λ k. option_or (first_of s number n (part_words_by s k)) (found_from (steps - 1) c.base)) f

  pub found-here : (steps : ℕ) (next : Option ClassId) (number : ClassId) (c : CoreClass) (word : PartWord) → 0 < steps → next ≡ Some number
      → slice_get s.program.classes number.0 ≡ Some c → Some word ≡ option_map shown (first_of s number n (part_words_by s (Some c)))
      → Some word ≡ option_map shown (found_from steps next)
  found-here steps next number c word h e f g =
      g ∙ go (first_of s number n (part_words_by s (Some c))) refl ∙ ap (option_map shown) (sym (found-more steps next number c h e f))
    where
      go : (x : Option parts.PartWord) → first_of s number n (part_words_by s (Some c)) ≡ x
          → option_map shown (first_of s number n (part_words_by s (Some c))) ≡ option_map shown (option_or (first_of s number n (part_words_by s (Some c))) (found_from (steps - 1) c.base))
      go None x = cc (g, ap (option_map shown) x)
      go (Some p) x = ap (option_map shown) (x ∙ ap (λ y. option_or y (found_from (steps - 1) c.base)) (sym x))

  pub found-above : (steps : ℕ) (next : Option ClassId) (number : ClassId) (c : CoreClass) → 0 < steps → next ≡ Some number
      → slice_get s.program.classes number.0 ≡ Some c → None ≡ option_map shown (first_of s number n (part_words_by s (Some c)))
      → found_from (steps - 1) c.base ≡ found_from steps next
  found-above steps next number c h e f g =
      go (first_of s number n (part_words_by s (Some c))) refl ∙ sym (found-more steps next number c h e f)
    where
      go : (x : Option parts.PartWord) → first_of s number n (part_words_by s (Some c)) ≡ x
          → found_from (steps - 1) c.base ≡ option_or (first_of s number n (part_words_by s (Some c))) (found_from (steps - 1) c.base)
      go None x = sym (ap (λ y. option_or y (found_from (steps - 1) c.base)) x)
      go (Some p) x = cc (g, ap (option_map shown) x)
