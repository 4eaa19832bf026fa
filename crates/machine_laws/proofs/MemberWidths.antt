-- The width of the word that a member is, by the kind that its class declares.
use Rattle.std.proofs.Common.{◌≡◌, ℕ, ◌+◌, ◌^◌, ◌<◌, Bool, true, nat_eq, length, Option, Some, None, option_map, slice_get, refl, sym, ap, subst, ◌∙◌, arith}
use Rattle.std.specs.List.{position_or_len, find}
use Rattle.std.proofs.lemmas.List.Folds.{find_at}
use Rattle.std.proofs.lemmas.Option.{none-some, same_Some, slice_get-map, slice_get_within}
use Rattle.agxx_base.specs.declared.ids.ClassId.{ClassId}
use Rattle.agxx_base.specs.declared.kind.NumKind.{NumKind}
use Rattle.agxx_base.specs.declared.kind.NumKind.TheVariants as num
use Rattle.cxx_arith.specs.declared.value.Value.{Value}
use Rattle.cxx_arith.specs.Kinds.{width}
use Rattle.cxx_arith.specs.Numbers.{convert_of}
use Rattle.cxx_arith.proofs.Range.{convert_in_range}
use Rattle.cxx_core.specs.CoreProgram.{CoreWord, CoreClass}
use Rattle.step_machine.specs.declared.datum.Datum.{Datum}
use Rattle.step_machine.specs.Data.{as_number, bits_of}
use Rattle.step_machine.specs.Setting.{Setting, class_at, is_of, word_in, word_number}
use Rattle.step_machine.specs.Flips.{words_of, width_by, width_of}
use Rattle.machine_laws.specs.Locate.{own_words, own_by, own_count, above_by, number_at, locate}
use Rattle.machine_laws.specs.Locates.{HasBasesBefore}
use Rattle.machine_laws.specs.Layouts.{word_of, words_by, words_along, core_word, located_word}
use Rattle.machine_laws.specs.Widths.{kind_in, declared_kind}
use Rattle.machine_laws.proofs.Locates.{at-class}
use Rattle.machine_laws.proofs.Along.{machine-words, stands-at}

-- ---- what is stored

convert-kind : (k : NumKind) (v : Value) → (convert_of k v).kind ≡ k
convert-kind num.Bool v = refl
convert-kind num.I8 v = refl
convert-kind num.U8 v = refl
convert-kind num.I16 v = refl
convert-kind num.U16 v = refl
convert-kind num.I32 v = refl
convert-kind num.U32 v = refl
convert-kind num.I64 v = refl
convert-kind num.U64 v = refl

pub bits-fit : (k : NumKind) (v : Datum) → bits_of k v < 2 ^ width k
bits-fit k v = subst (λ j. bits_of k v < 2 ^ width j) (convert-kind k (as_number v)) (convert_in_range k (as_number v))

-- ---- the word of a member

module _ (s : Setting) (bases : HasBasesBefore s.program) (live class : ClassId) (name : ℕ) (k : NumKind) (is : is_of s (Some live) (Some class) ≡ true) where
  abbrev IsNamed : CoreWord → Bool
  IsNamed w = nat_eq w.name name

  abbrev HasWidth : Type 0
  HasWidth = width_of s live (word_number s class name) ≡ width k

  of-word : (x : CoreClass) (word : CoreWord) → class_at s class ≡ Some x → find IsNamed x.words ≡ Some word → word.kind ≡ k → HasWidth
  of-word x word e f kind =
      let i : ℕ = position_or_len IsNamed x.words in
      let n : ℕ = number_at own_words s (class, i) in
      let at : slice_get x.words i ≡ Some word = sym (find_at IsNamed x.words) ∙ f in
      let sum : word_number s class name ≡ n = ap (word_in s name) e ∙ sym (ap (λ o. above_by own_words s o + i) e) in
      let mine : own_count own_words s class ≡ length x.words = ap (own_by own_words) e in
      let short : i < length x.words = slice_get_within x.words i word at in
      let within : i < own_count own_words s class = omega arith in
      let found : locate own_words s (Some live) n ≡ Some (class, i) = (at-class own_words s bases (Some live)).back (class, i) (record { is_of = is; within = within }) in
      let told : slice_get (words_along s (Some live)) n ≡ Some (word_of class word) =
      stands-at s bases (Some live) n ∙ ap (located_word s) found
      ∙ ap (λ o. option_map (word_of class) (slice_get (words_by o) i)) e ∙ ap (option_map (word_of class)) at in
      let machine : slice_get (words_of s live) n ≡ Some (core_word (word_of class word)) =
      ap (λ l. slice_get l n) (sym (machine-words s live)) ∙ slice_get-map core_word (words_along s (Some live)) n ∙ ap (option_map core_word) told in
      ap (width_of s live) sum ∙ ap width_by machine ∙ ap width kind

  of-found : (x : CoreClass) → class_at s class ≡ Some x → (o : Option CoreWord) → find IsNamed x.words ≡ o → option_map (λ (w : CoreWord). w.kind) o ≡ Some k → HasWidth
  of-found x e None f q = absurd (none-some k q)
  of-found x e (Some word) f q = of-word x word e f (same_Some word.kind k q)

  of-class : (o : Option CoreClass) → class_at s class ≡ o → kind_in name o ≡ Some k → HasWidth
  of-class None e q = absurd (none-some k q)
  of-class (Some x) e q = of-found x e (find IsNamed x.words) refl q

  pub member-width : declared_kind s.program class name ≡ Some k → HasWidth
  member-width q = of-class (class_at s class) refl q
