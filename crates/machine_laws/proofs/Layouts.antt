-- The layouts by declarations are those along the lines of the core form's classes.
use Rattle.std.proofs.Common.{◌≡◌, ℕ, zero, suc, ◌+◌, ◌<◌, false, if◌then◌else◌, nat_eq, List, [], ◌∷◌, ◌++◌, length, map, Option, Some, None, is_some, slice_get, refl, sym, ap, ◌∙◌, arith, append_assoc}
use Rattle.std.proofs.lemmas.List.{append-nil}
use Rattle.std.proofs.lemmas.Grind.{flat_map-append}
use Rattle.std.proofs.lemmas.Option.{none-some, same_Some, slice_get_within}
use Rattle.std.proofs.lemmas.Bool.{ne_eqb}
use Rattle.agxx_base.specs.declared.ids.ClassId.{ClassId}
use Rattle.agxx_base.specs.declared.kind.NumKind.{NumKind}
use Rattle.cxx_tree.specs.declared.program.Access.{Access}
use Rattle.cxx_tree.specs.declared.program.TypeName.{TypeName}
use Rattle.cxx_tree.specs.declared.program.TypeName.TheVariants as type_name
use Rattle.cxx_tree.specs.ProgramTree as p
use Rattle.cxx_names.specs.declared.declarations.MemberInfo.{MemberInfo}
use Rattle.cxx_names.specs.declared.declarations.ClassInfo.{ClassInfo}
use Rattle.cxx_names.specs.declared.declarations.Declared.{Declared}
use Rattle.cxx_names.specs.Tables.{named, with_name}
use Rattle.cxx_names.specs.LookUp.{pointer_by, base_by}
use Rattle.cxx_names.specs.Declarations.{with_items, with_member, with_method, with_ctor, with_dtor, default_access, class_begun, class_items, class_named, with_class, with_decl, with_decls, empty, declared}
use Rattle.cxx_layout.specs.Layouts as lay
use Rattle.cxx_layout.specs.Layouts.{layout, kind_of}
use Rattle.cxx_layout.specs.Parts.{own_part}
use Rattle.cxx_core.specs.CoreProgram.{CoreWord, CoreClass}
use Rattle.cxx_core.specs.Meanings.{value_type, number_kind, kind_named}
use Rattle.cxx_core.specs.ElaboratedProgram as k
use Rattle.cxx_core.specs.ElaboratedProgram.{core_class, decls_classes, core_program}
use Rattle.step_machine.specs.Setting.{Setting, class_at}
use Rattle.machine_laws.specs.Locates.{IsDistinct}
use Rattle.machine_laws.specs.Layouts.{HasDistinctMembers, member_names, word_of, words_by, words_in, part_by, part_in, setting_of}
use Rattle.machine_laws.proofs.Lists.{none-one-more}
use Rattle.machine_laws.proofs.Bases.{base-at, has-bases}
use Rattle.machine_laws.proofs.LaidOut.{declared_words, id, Aligned}

-- ---- the words of a class

pointer-kind : (o : Option ClassId) → number_kind (value_type (pointer_by o)) ≡ None
pointer-kind None = refl
pointer-kind (Some class) = refl

pub same-kind : (known : Declared) (t : TypeName) → kind_of t ≡ kind_named known t
same-kind known (type_name.Num kind) = refl
same-kind known type_name.Int = refl
same-kind known type_name.Unsigned = refl
same-kind known type_name.Void = refl
same-kind known (type_name.Pointer class) = sym (pointer-kind (class_named known class.0))
same-kind known type_name.Mutex = refl

one-word : (class : ClassId) (name : ℕ) (o : Option NumKind) (rest : List CoreWord)
    → (lay.word_by class name o ++ []) ++ map (word_of class) rest ≡ map (word_of class) (k.word_by name o rest)
one-word class name None rest = refl
one-word class name (Some kind) rest = refl

more-members : (es : List (ℕ × MemberInfo)) (name : ℕ) (m : MemberInfo) → named es name ≡ None → with_name es name m ≡ es ++ (name, m) ∷ []
more-members es name m e = ap (λ (o : Option MemberInfo). if is_some o then es else es ++ (name, m) ∷ []) e

abbrev AreNew : List p.ItemTree → List (ℕ × MemberInfo) → Type 0
AreNew is members = (j n : ℕ) → slice_get (member_names is) j ≡ Some n → named members n ≡ None

later-distinct : (name : ℕ) (ns : List ℕ) → IsDistinct (name ∷ ns) → IsDistinct ns
later-distinct name ns distinct = record { apart = λ i j n e f. let same = distinct.apart (suc i) (suc j) n e f in omega arith }

later-other : (name : ℕ) (ns : List ℕ) → IsDistinct (name ∷ ns) → (j n : ℕ) → slice_get ns j ≡ Some n → nat_eq n name ≡ false
later-other name ns distinct j n e =
    ne_eqb n name (λ same. let one = distinct.apart 0 (suc j) n (ap (λ m. Some m) (sym same)) e in omega arith)

module _ (known : Declared) (class : ClassId) where
  abbrev Words : ClassInfo → Access → ℕ → ℕ → List p.ItemTree → Type 0
  Words info shown count n is =
      lay.own_words class (with_items (record { info = info; shown = shown; count = count; numbered = n }) is).info.members
      ≡ lay.own_words class info.members ++ map (word_of class) (k.words known is)

  items-words : (is : List p.ItemTree) (info : ClassInfo) (shown : Access) (count n : ℕ) → AreNew is info.members → IsDistinct (member_names is) → Words info shown count n is
  items-words [] info shown count n new distinct = sym (append-nil (lay.own_words class info.members))
  items-words (p.label at access ∷ is) info shown count n new distinct = items-words is info access (suc count) n new distinct
  items-words (p.function f ∷ is) info shown count n new distinct =
      items-words is (with_method (record { info = info; shown = shown; count = count; numbered = n }) f).info shown (suc count) (suc n) new distinct
  items-words (p.ctor f ∷ is) info shown count n new distinct =
      items-words is (with_ctor (record { info = info; shown = shown; count = count; numbered = n }) f.params).info shown (suc count) (suc n) new distinct
  items-words (p.dtor f ∷ is) info shown count n new distinct =
      items-words is (with_dtor (record { info = info; shown = shown; count = count; numbered = n })).info shown (suc count) (suc n) new distinct
  items-words (p.member m ∷ is) info shown count n new distinct =
      let name = m.name.item.0 in
      let entry : MemberInfo = record { type_name = m.type_name.item; access = shown } in
      let more : with_name info.members name entry ≡ info.members ++ (name, entry) ∷ [] = more-members info.members name entry (new 0 name refl) in
      let later : AreNew is (with_name info.members name entry) =
      λ j x e. ap (λ es. named es x) more ∙ none-one-more info.members name entry x (new (suc j) x e) (later-other name (member_names is) distinct j x e) in
      items-words is (with_member (record { info = info; shown = shown; count = count; numbered = n }) m).info shown (suc count) n later (later-distinct name (member_names is) distinct)
      ∙ ap (λ es. lay.own_words class es ++ map (word_of class) (k.words known is)) more
      ∙ ap (λ l. l ++ map (word_of class) (k.words known is)) (flat_map-append (lay.word_of class) info.members ((name, entry) ∷ []))
      ∙ append_assoc (lay.own_words class info.members) (lay.word_by class name (kind_of m.type_name.item) ++ []) (map (word_of class) (k.words known is))
      ∙ ap (λ l. lay.own_words class info.members ++ l)
      (ap (λ o. (lay.word_by class name o ++ []) ++ map (word_of class) (k.words known is)) (same-kind known m.type_name.item)
      ∙ one-word class name (kind_named known m.type_name.item) (k.words known is))

  class-words : (found : Declared) (c : p.ClassTree) → IsDistinct (member_names c.items)
      → lay.own_words class (class_items found c).info.members ≡ map (word_of class) (k.words known c.items)
  class-words found c distinct = items-words c.items (class_begun found c) (default_access c.word) 0 found.numbered (λ j n e. refl) distinct

-- ---- the classes of a program, both ways

module _ (names : List (List ℕ)) where
  abbrev pub infos : Declared → List p.DeclTree → List ClassInfo
  infos found [] = []
  infos found (p.class c ∷ xs) = (class_items found c).info ∷ infos (with_class found c) xs
  infos found (p.class_name c ∷ xs) = infos (with_decl names found (p.class_name c)) xs
  infos found (p.free_function f ∷ xs) = infos (with_decl names found (p.free_function f)) xs
  infos found (p.proto f ∷ xs) = infos (with_decl names found (p.proto f)) xs
  infos found (p.global g ∷ xs) = infos (with_decl names found (p.global g)) xs

  pub classes-are : (xs : List p.DeclTree) (found : Declared) → (with_decls names found xs).classes ≡ found.classes ++ infos found xs
  classes-are [] found = sym (append-nil found.classes)
  classes-are (p.class c ∷ xs) found = classes-are xs (with_class found c) ∙ append_assoc found.classes ((class_items found c).info ∷ []) (infos (with_class found c) xs)
  classes-are (p.class_name c ∷ xs) found = classes-are xs (with_decl names found (p.class_name c))
  classes-are (p.free_function f ∷ xs) found = classes-are xs (with_decl names found (p.free_function f))
  classes-are (p.proto f ∷ xs) found = classes-are xs (with_decl names found (p.proto f))
  classes-are (p.global g ∷ xs) found = classes-are xs (with_decl names found (p.global g))

  module _ (known : Declared) where
    as-many : (xs : List p.DeclTree) (found : Declared) (n : ℕ) → length (decls_classes known n xs) ≡ length (infos found xs)
    as-many [] found n = refl
    as-many (p.class c ∷ xs) found n = ap suc (as-many xs (with_class found c) (suc n))
    as-many (p.class_name c ∷ xs) found n = as-many xs (with_decl names found (p.class_name c)) n
    as-many (p.free_function f ∷ xs) found n = as-many xs (with_decl names found (p.free_function f)) n
    as-many (p.proto f ∷ xs) found n = as-many xs (with_decl names found (p.proto f)) n
    as-many (p.global g ∷ xs) found n = as-many xs (with_decl names found (p.global g)) n

    -- one class in the text, among what is declared, and in the core form
    abbrev pub Pair : List p.DeclTree → ℕ → ℕ → ClassInfo → Type 0
    Pair xs n j info =
        (c : p.ClassTree) × (found : Declared) × (i : ℕ) × (slice_get xs i ≡ Some (p.class c)) × (info ≡ (class_items found c).info)
        × (slice_get (decls_classes known n xs) j ≡ Some (core_class known (id (n + j)) c))

    paired : (xs : List p.DeclTree) (found : Declared) (n j : ℕ) (info : ClassInfo) → slice_get (infos found xs) j ≡ Some info → Pair xs n j info
    paired [] found n j info e = absurd (none-some info e)
    paired (p.class c ∷ xs) found n zero info e =
        let at : n ≡ n + 0 = omega arith in
        (c, found, 0, refl, sym (same_Some (class_items found c).info info e), ap (λ i. Some (core_class known (id i) c)) at)
    paired (p.class c ∷ xs) found n (suc j) info e =
        let r = paired xs (with_class found c) (suc n) j info e in
        let at : suc n + j ≡ n + suc j = omega arith in
        (r.0, r.1, suc r.2, r.3, r.4, r.5 ∙ ap (λ i. Some (core_class known (id i) r.0)) at)
    paired (p.class_name c ∷ xs) found n j info e =
        let r = paired xs (with_decl names found (p.class_name c)) n j info e in (r.0, r.1, suc r.2, r.3, r.4, r.5)
    paired (p.free_function f ∷ xs) found n j info e =
        let r = paired xs (with_decl names found (p.free_function f)) n j info e in (r.0, r.1, suc r.2, r.3, r.4, r.5)
    paired (p.proto f ∷ xs) found n j info e =
        let r = paired xs (with_decl names found (p.proto f)) n j info e in (r.0, r.1, suc r.2, r.3, r.4, r.5)
    paired (p.global g ∷ xs) found n j info e =
        let r = paired xs (with_decl names found (p.global g)) n j info e in (r.0, r.1, suc r.2, r.3, r.4, r.5)

-- ---- the laws

module _ (names : List (List ℕ)) (q : p.ProgramTree) where
  abbrev s : Setting
  s = setting_of names q

  abbrev known : Declared
  known = declared names q

  abbrev found : List ClassInfo
  found = infos names empty q.decls

  known-is : known.classes ≡ found
  known-is = classes-are names q.decls empty

  pub pair : (i : ℕ) (info : ClassInfo) → slice_get known.classes i ≡ Some info → Pair names known q.decls 0 i info
  pair i info e = paired names known q.decls empty 0 i info (sym (ap (λ l. slice_get l i) known-is) ∙ e)

  pub at-class : (i : ℕ) (info : ClassInfo) (e : slice_get known.classes i ≡ Some info) → class_at s (id i) ≡ Some (core_class known (id i) (pair i info e).0)
  at-class i info e = let r = pair i info e in let z : 0 + i ≡ i = omega arith in r.5 ∙ ap (λ n. Some (core_class known (id n) r.0)) z

  base-is : (i : ℕ) (info : ClassInfo) (x : CoreClass) → slice_get known.classes i ≡ Some info → class_at s (id i) ≡ Some x → x.base ≡ info.base
  base-is i info x e at =
      let z : 0 + i ≡ i = omega arith in
      base-at known q.decls 0 i x at ∙ ap (λ n. base_by (slice_get known.classes n)) z ∙ ap base_by e

  pub no-more : (i : ℕ) (x : CoreClass) → class_at s (id i) ≡ Some x → i < length known.classes
  no-more i x e =
      let h = slice_get_within s.program.classes i x e in
      let all = as-many names known q.decls empty 0 in
      let whole = ap length known-is in
      omega arith

  pub words-at : HasDistinctMembers q → (i : ℕ) (info : ClassInfo) → slice_get known.classes i ≡ Some info → Aligned declared_words (words_in s) s (has-bases names q) i info
  words-at distinct i info e =
      let r = pair i info e in
      let x = core_class known (id i) r.0 in
      let at : class_at s (id i) ≡ Some x = at-class i info e in (
        x,
        at,
        base-is i info x e at,
        ap (λ o. map (word_of (id i)) (words_by o)) at
            ∙ sym (class-words known (id i) r.1 r.0 (distinct.of_class r.2 r.0 r.3))
            ∙ ap (λ (y : ClassInfo). lay.own_words (id i) y.members) (sym r.4),
      )

  pub parts-at : (i : ℕ) (info : ClassInfo) → slice_get known.classes i ≡ Some info → Aligned (own_part names) (part_in names known) s (has-bases names q) i info
  parts-at i info e =
      let r = pair i info e in
      let x = core_class known (id i) r.0 in
      let at : class_at s (id i) ≡ Some x = at-class i info e in
      (x, at, base-is i info x e at, ap (part_by names (id i)) e)
