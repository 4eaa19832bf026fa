-- What is known of each code's names and members: their texts begin as generated ones do, and none is a counter's.
use Rattle.std.proofs.Common.{◌≡◌, ℕ, refl, sym, ap, subst, ◌∙◌, true, false, ◌&&◌, not, List, [], ◌∷◌, ◌++◌, map, length, codes}
use Rattle.std.proofs.lemmas.List.{length-map}
use Rattle.std.specs.List.{range_with_len}
use Rattle.std.specs.Str.{bytes_eq}
use Rattle.agxx_base.specs.Names.{is_known, number_of}
use Rattle.agxx_base.proofs.Interning.{at-number}
use Rattle.agxx_base.specs.declared.ids.NameId.{NameId}
use Rattle.agxx_base.specs.declared.place.Place.{Place}
use Rattle.cxx_tree.specs.declared.program.Member.{Member}
use Rattle.cxx_tree.specs.Limits.{Every}
use Rattle.cxx_names.specs.Declarations as d
use Rattle.cxx_layout.specs.Parts.{part_name}
use Rattle.cxx_normal.proofs.Lists.{every-append}
use Rattle.cxx_make.specs.Generated.{text_of, named}
use Rattle.guards.specs.declared.guard.GuardKind.{GuardKind}
use Rattle.guards.specs.declared.guard.GuardKind.TheVariants as guard
use Rattle.codec.specs.declared.part.Part.{Part}
use Rattle.codec.specs.Part.{member_texts, place_of}
use Rattle.codec.specs.Codes.{code_texts}
use Rattle.codec.specs.Copies.{first_member, second_member}
use Rattle.hamming_gen.specs.Positions.{check_words}
use Rattle.hamming_gen.specs.HammingNames.{check_text, parity_text, check_name}
use Rattle.hamming_gen.specs.HammingTrees.{word_member}
use Rattle.protect.specs.Protected as z
use Rattle.protect_laws.specs.Strip.{begins_generated, is_generated, AreKnown}
use Rattle.protect_laws.specs.Guarded.{is_word, is_part_word}
use Rattle.protect_laws.proofs.Exits.{front-of}
use Rattle.protect_laws.proofs.Known.{generated-named}

-- ---- texts

-- a text that a code adds to a class of this name
pub record IsCodeText (class text : List ℕ) : Type 0 where
  pub generated : begins_generated text ≡ true
  pub no_counter : bytes_eq text (part_name class) ≡ false

abbrev AreCodeTexts : List ℕ → List (List ℕ) → Type 0
AreCodeTexts class texts = Every (IsCodeText class) texts

firsts : (class : List ℕ) (members : List (List ℕ))
    → AreCodeTexts class (map (λ m. codes "__gop_c1_" ++ m) members)
firsts class [] = tt
firsts class (m ∷ ms) = (record { generated = refl; no_counter = refl }, firsts class ms)

seconds : (class : List ℕ) (members : List (List ℕ))
    → AreCodeTexts class (map (λ m. codes "__gop_c2_" ++ m) members)
seconds class [] = tt
seconds class (m ∷ ms) = (record { generated = refl; no_counter = refl }, seconds class ms)

checks : (class : List ℕ) (js : List ℕ) → AreCodeTexts class (map (check_text class) js)
checks class [] = tt
checks class (j ∷ js) = (record { generated = refl; no_counter = refl }, checks class js)

pub code-texts : (kind : GuardKind) (class : List ℕ) (members : List (List ℕ))
    → AreCodeTexts class ((z.code_of kind).extra_texts class members)
code-texts guard.Copies class members =
    every-append (IsCodeText class) (map (λ m. codes "__gop_c1_" ++ m) members)
    (map (λ m. codes "__gop_c2_" ++ m) members) (firsts class members) (seconds class members)
code-texts guard.Hamming class members =
    every-append (IsCodeText class) (map (check_text class) (range_with_len 0 (check_words (length members))))
    (parity_text class ∷ []) (checks class (range_with_len 0 (check_words (length members))))
    (record { generated = refl; no_counter = refl }, tt)

-- ---- members

module _ (names : List (List ℕ)) where
  -- a member that is a word, and has the name of this text
  abbrev IsWordOf : List ℕ → Member → Type 0
  IsWordOf text m = (m.name.item ≡ named names text) × (is_word m ≡ true)

  -- members that are words, with the names of these texts one by one
  abbrev AreWordsOf : List (List ℕ) → List Member → Type 0
  AreWordsOf [] [] = Unit {0}
  AreWordsOf [] (m ∷ ms) = ⊥
  AreWordsOf (text ∷ texts) [] = ⊥
  AreWordsOf (text ∷ texts) (m ∷ ms) = IsWordOf text m × AreWordsOf texts ms

  both : (texts others : List (List ℕ)) (ms more : List Member) → AreWordsOf texts ms → AreWordsOf others more
      → AreWordsOf (texts ++ others) (ms ++ more)
  both [] others [] more one other = other
  both [] others (m ∷ ms) more one other = absurd one
  both (text ∷ texts) others [] more one other = absurd one
  both (text ∷ texts) others (m ∷ ms) more one other = (one.0, both texts others ms more one.1 other)

  first-words : (at : Place) (ms : List Member)
      → AreWordsOf (map (λ m. codes "__gop_c1_" ++ m) (map (text_of names) (map (λ (m : Member). m.name.item) ms)))
      (map (first_member names at) ms)
  first-words at [] = tt
  first-words at (m ∷ ms) = ((refl, refl), first-words at ms)

  second-words : (at : Place) (ms : List Member)
      → AreWordsOf (map (λ m. codes "__gop_c2_" ++ m) (map (text_of names) (map (λ (m : Member). m.name.item) ms)))
      (map (second_member names at) ms)
  second-words at [] = tt
  second-words at (m ∷ ms) = ((refl, refl), second-words at ms)

  check-words : (at : Place) (class : NameId) (js : List ℕ)
      → AreWordsOf (map (check_text (text_of names class)) js)
      (map (λ j. word_member at (check_name names class j)) js)
  check-words at class [] = tt
  check-words at class (j ∷ js) = ((refl, refl), check-words at class js)

  length-texts : (part : Part) → length (member_texts names part) ≡ length part.members
  length-texts part =
      length-map (map (λ (m : Member). m.name.item) part.members) (text_of names)
      ∙ length-map part.members (λ (m : Member). m.name.item)

  -- the members that a code adds are words, and have the names of its texts
  pub code-members : (kind : GuardKind) (part : Part)
      → AreWordsOf ((z.code_of kind).extra_texts (text_of names part.class.item) (member_texts names part))
      ((z.code_of kind).members names part)
  code-members guard.Copies part =
      let texts = member_texts names part in
      both (map (λ m. codes "__gop_c1_" ++ m) texts) (map (λ m. codes "__gop_c2_" ++ m) texts)
      (map (first_member names (place_of part)) part.members) (map (second_member names (place_of part)) part.members)
      (first-words (place_of part) part.members) (second-words (place_of part) part.members)
  code-members guard.Hamming part =
      let class = text_of names part.class.item in
      let js = range_with_len 0 (check_words (length part.members)) in
      subst (λ k. AreWordsOf (map (check_text class) (range_with_len 0 (check_words k)) ++ parity_text class ∷ [])
      ((z.code_of guard.Hamming).members names part)) (sym (length-texts part))
      (both (map (check_text class) js) (parity_text class ∷ [])
      (map (λ j. word_member (place_of part) (check_name names part.class.item j)) js) _
      (check-words (place_of part) part.class.item js) ((refl, refl), tt))

  -- ---- all members that a code adds

  each-generated : (class : List ℕ) (texts : List (List ℕ)) (ms : List Member) → AreWordsOf texts ms
      → AreCodeTexts class texts → AreKnown names texts
      → Every (λ (m : Member). is_generated names m.name.item ≡ true) ms
  each-generated class [] [] are code known = tt
  each-generated class [] (m ∷ ms) are code known = absurd are
  each-generated class (text ∷ texts) [] are code known = absurd are
  each-generated class (text ∷ texts) (m ∷ ms) are code known = (
    ap (is_generated names) are.0.0 ∙ generated-named names text code.0.generated known.0,
    each-generated class texts ms are.1 code.1 known.1,
  )

  other-name : (class : NameId) (text : List ℕ) → bytes_eq text (part_name (text_of names class)) ≡ false
      → is_known names text ≡ true → d.is_text names (number_of names text) (part_name (text_of names class)) ≡ false
  other-name class text differ known = rw (at-number names text known) differ

  each-part-word : (class : NameId) (texts : List (List ℕ)) (ms : List Member) → AreWordsOf texts ms
      → AreCodeTexts (text_of names class) texts → AreKnown names texts
      → Every (λ (m : Member). is_part_word names class m ≡ true) ms
  each-part-word class [] [] are code known = tt
  each-part-word class [] (m ∷ ms) are code known = absurd are
  each-part-word class (text ∷ texts) [] are code known = absurd are
  each-part-word class (text ∷ texts) (m ∷ ms) are code known =
      let name = part_name (text_of names class) in (
        ap (λ b. b && not (d.is_text names m.name.item.0 name)) are.0.1
            ∙ ap (λ (id : NameId). not (d.is_text names id.0 name)) are.0.0
            ∙ ap not (other-name class text code.0.no_counter known.0),
        each-part-word class texts ms are.1 code.1 known.1,
      )

  module _ (kind : GuardKind) (part : Part) (known : AreKnown names (code_texts (z.code_of kind) names part)) where
    extra-known : AreKnown names ((z.code_of kind).extra_texts (text_of names part.class.item) (member_texts names part))
    extra-known =
        front-of (λ text. is_known names text ≡ true)
        ((z.code_of kind).extra_texts (text_of names part.class.item) (member_texts names part))
        ((z.code_of kind).local_texts (length part.members)) known

    pub members-are-generated : Every (λ (m : Member). is_generated names m.name.item ≡ true)
        ((z.code_of kind).members names part)
    members-are-generated =
        let class = text_of names part.class.item in
        each-generated class ((z.code_of kind).extra_texts class (member_texts names part))
        ((z.code_of kind).members names part) (code-members kind part)
        (code-texts kind class (member_texts names part)) extra-known

    pub members-are-part-words : Every (λ (m : Member). is_part_word names part.class.item m ≡ true)
        ((z.code_of kind).members names part)
    members-are-part-words =
        let class = text_of names part.class.item in
        each-part-word part.class.item ((z.code_of kind).extra_texts class (member_texts names part))
        ((z.code_of kind).members names part) (code-members kind part)
        (code-texts kind class (member_texts names part)) extra-known
