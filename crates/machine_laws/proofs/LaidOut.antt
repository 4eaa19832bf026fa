-- What is laid out class by class, each behind what its base has, stands along the line of classes.
use Rattle.std.proofs.Common.{◌≡◌, ℕ, zero, suc, ◌+◌, ◌<◌, ◌≤◌, ◌⊎◌, inl, inr, List, [], ◌∷◌, ◌++◌, length, Option, Some, None, option_map, slice_get, refl, sym, ap, subst, ◌∙◌, arith, length-append}
use Rattle.std.proofs.lemmas.Option.{none-some, slice_get_past}
use Rattle.std.proofs.lemmas.Bool.{cases_lt}
use Rattle.agxx_base.specs.declared.ids.ClassId.{ClassId}
use Rattle.cxx_names.specs.declared.declarations.ClassInfo.{ClassInfo}
use Rattle.cxx_layout.specs.declared.layouts.WordInfo.{WordInfo}
use Rattle.cxx_layout.specs.Layouts as lay
use Rattle.cxx_layout.specs.Layouts.{list_by, inherited, next_class, with_layout, layouts_after}
use Rattle.cxx_layout.specs.Parts.{own_part, with_parts, parts_after}
use Rattle.cxx_core.specs.CoreProgram.{CoreClass}
use Rattle.step_machine.specs.Setting.{Setting, class_at, line}
use Rattle.machine_laws.specs.Locates.{HasBasesBefore}
use Rattle.machine_laws.specs.Layouts.{along}
use Rattle.machine_laws.proofs.Lists.{at-one-more}
use Rattle.machine_laws.proofs.Lines.{none-line, line-of}

there : {A : Type 0} (xs : List A) (k : ℕ) → k < length xs → (x : A) × (slice_get xs k ≡ Some x)
there [] k h = absurd (omega arith)
there (x ∷ xs) zero h = (x, refl)
there (x ∷ xs) (suc k) h = there xs k (omega arith)

-- ---- both layouts are of one form

module _ {A : Type 0} (own : ClassId → ClassInfo → List A) where
  abbrev pub with_own : List (List A) → ClassInfo → List (List A)
  with_own done class = done ++ (inherited done class.base ++ own (next_class done) class) ∷ []

  abbrev pub all_after : List (List A) → List ClassInfo → List (List A)
  all_after done [] = done
  all_after done (class ∷ classes) = all_after (with_own done class) classes

  longer : (done : List (List A)) (l : List A) → length (done ++ l ∷ []) ≡ suc (length done)
  longer done l = length-append done (l ∷ []) ∙ omega arith

  length-after : (done : List (List A)) (classes : List ClassInfo) → length (all_after done classes) ≡ length done + length classes
  length-after done [] = omega arith
  length-after done (class ∷ classes) =
      let rest = length-after (with_own done class) classes in
      let more = longer done (inherited done class.base ++ own (next_class done) class) in
      omega arith

abbrev pub declared_words : ClassId → ClassInfo → List WordInfo
declared_words k class = lay.own_words k class.members

pub layouts-are : (done : List (List WordInfo)) (classes : List ClassInfo) → layouts_after done classes ≡ all_after declared_words done classes
layouts-are done [] = refl
layouts-are done (class ∷ classes) = layouts-are (with_layout done class) classes

pub parts-are : (names : List (List ℕ)) (done : List (List ClassId)) (classes : List ClassInfo) → parts_after names done classes ≡ all_after (own_part names) done classes
parts-are names done [] = refl
parts-are names done (class ∷ classes) = parts-are names (with_parts names done class) classes

-- ---- where classes of both forms go together

abbrev pub id : ℕ → ClassId
id i = record { 0 = i }

module _ {A : Type 0} (own : ClassId → ClassInfo → List A) (own_at : ClassId → List A) (s : Setting) (bases : HasBasesBefore s.program) where
  abbrev pub Aligned : ℕ → ClassInfo → Type 0
  Aligned i info = (x : CoreClass) × (class_at s (id i) ≡ Some x) × (x.base ≡ info.base) × (own_at (id i) ≡ own (id i) info)

  abbrev IsRight : List (List A) → Type 0
  IsRight done = (i : ℕ) (l : List A) → slice_get done i ≡ Some l → l ≡ along own_at (line s (Some (id i)))

  module _ (done : List (List A)) (right : IsRight done) where
    base-found : (b : ClassId) → b.0 < length done → list_by (slice_get done b.0) ≡ along own_at (line s (Some b))
    base-found b h = let l = there done b.0 h in ap list_by l.1 ∙ right b.0 l.0 l.1

    base-is : (x : CoreClass) → class_at s (id (length done)) ≡ Some x → (b : Option ClassId) → x.base ≡ b → inherited done b ≡ along own_at (line s b)
    base-is x e None f = sym (ap (along own_at) (none-line s.program.classes (length s.program.classes)))
    base-is x e (Some b) f = base-found b (bases.before (id (length done)) b x e f)

    right-with : (info : ClassInfo) → Aligned (length done) info → IsRight (with_own own done info)
    right-with info at i l e = by (at-one-more done (inherited done info.base ++ own (next_class done) info) i l e)
      where
        by : (slice_get done i ≡ Some l) ⊎ ((length done ≡ i) × (inherited done info.base ++ own (next_class done) info ≡ l)) → l ≡ along own_at (line s (Some (id i)))
        by (inl old) = right i l old
        by (inr last) =
            sym last.1
            ∙ ap (λ b. inherited done b ++ own (id (length done)) info) (sym at.2)
            ∙ ap (λ m. m ++ own (id (length done)) info) (base-is at.0 at.1 at.0.base refl)
            ∙ ap (λ m. along own_at (line s at.0.base) ++ m) (sym at.3)
            ∙ sym (ap (along own_at) (line-of s bases (id (length done)) at.0 at.1))
            ∙ ap (λ k. along own_at (line s (Some (id k)))) last.0

  right-after : (rest : List ClassInfo) (done : List (List A)) → IsRight done → ((j : ℕ) (info : ClassInfo) → slice_get rest j ≡ Some info → Aligned (length done + j) info)
      → IsRight (all_after own done rest)
  right-after [] done right at = right
  right-after (info ∷ rest) done right at =
      let here : length done + 0 ≡ length done = omega arith in
      let more = longer own done (inherited done info.base ++ own (next_class done) info) in
      right-after rest (with_own own done info) (right-with done right info (subst (λ n. Aligned n info) here (at 0 info refl)))
      (λ j x e. subst (λ n. Aligned n x) (let k : length done + suc j ≡ length (with_own own done info) + j = omega arith in k) (at (suc j) x e))

  module _ (infos : List ClassInfo) (at : (i : ℕ) (info : ClassInfo) → slice_get infos i ≡ Some info → Aligned i info)
      (no_more : (i : ℕ) (x : CoreClass) → class_at s (id i) ≡ Some x → i < length infos) where
    abbrev laid : List (List A)
    laid = all_after own [] infos

    right : IsRight laid
    right = right-after infos [] (λ i l e. absurd (none-some l e)) (λ j info e. subst (λ n. Aligned n info) (let k : j ≡ 0 + j = omega arith in k) (at j info e))

    inside : (i : ℕ) → i < length infos → slice_get laid i ≡ option_map (λ x. along own_at (line s (Some (id i)))) (class_at s (id i))
    inside i h =
        let all = length-after own [] infos in
        let info = there infos i h in
        let l = there laid i (omega arith) in
        let x = at i info.0 info.1 in
        l.1 ∙ ap (λ m. Some m) (right i l.0 l.1) ∙ sym (ap (option_map (λ y. along own_at (line s (Some (id i))))) x.1)

    outside : (i : ℕ) → length infos ≤ i → (o : Option CoreClass) → class_at s (id i) ≡ o → slice_get laid i ≡ option_map (λ x. along own_at (line s (Some (id i)))) o
    outside i h None e = let all = length-after own [] infos in slice_get_past laid i (omega arith)
    outside i h (Some x) e = let k = no_more i x e in absurd (omega arith)

    pub laid-out : (class : ClassId) → slice_get laid class.0 ≡ option_map (λ x. along own_at (line s (Some class))) (class_at s class)
    laid-out class =
        elim (cases_lt class.0 (length infos)) [ inl h ↦ inside class.0 h | inr h ↦ outside class.0 h (class_at s class) refl ]
