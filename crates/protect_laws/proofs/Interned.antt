-- A table to which generated names are added keeps the texts of a program's own names.
use Rattle.std.proofs.Common.{◌≡◌, ◌<◌, ℕ, zero, suc, refl, sym, ap, subst, ◌∙◌, arith, Bool, true, false, ◌||◌, List, [], ◌∷◌, ◌++◌, map, length, Option, Some, None, slice_get}
use Rattle.std.specs.List.{list_any, flat_map}
use Rattle.std.specs.Option.{unwrap_or}
use Rattle.std.specs.Str.{bytes_eq}
use Rattle.std.proofs.lemmas.List.Folds.{list_any-append}
use Rattle.std.proofs.lemmas.Option.{slice_get_within}
use Rattle.std.proofs.lemmas.Slice.Eq.{bytes_eq-Decides}
use Rattle.agxx_base.specs.Names.{is_known, interned}
use Rattle.agxx_base.proofs.Interning.{interned-keeps, interned-known, interned-new}
use Rattle.agxx_base.specs.declared.ids.NameId.{NameId}
use Rattle.cxx_tree.specs.declared.node.Placed.{Placed}
use Rattle.cxx_tree.specs.declared.program.Member.{Member}
use Rattle.cxx_tree.specs.Limits.{Every}
use Rattle.cxx_tree.specs.ProgramTree as p
use Rattle.cxx_tree.specs.ProgramTree.{ItemTree, ClassTree, DeclTree, ProgramTree}
use Rattle.cxx_distinct.specs.NamesIn as n
use Rattle.cxx_make.specs.Generated.{text_of, all_interned}
use Rattle.guards.specs.declared.guard.Guard.{Guard}
use Rattle.guards.specs.declared.guard.GuardKind.{GuardKind}
use Rattle.guards.specs.Guarding.{kind_of}
use Rattle.codec.specs.declared.part.Part.{Part}
use Rattle.entry_count.specs.PartCode.{mutex_texts}
use Rattle.protect_laws.proofs.Shapes.{six_texts, texts-are}
use Rattle.entry_count.specs.Wrapping.{value_texts}
use Rattle.protect.specs.GuardedParts as g
use Rattle.protect.specs.Protected.{code_of}
use Rattle.protect.specs.GeneratedNames.{texts_of_part, texts_of_decl, most_in_decls, generated_texts, with_generated}
use Rattle.protect_laws.specs.Strip.{begins_generated, is_generated, AreKnown, HasTexts, HasNoneGenerated, GeneratedAreKnown}
use Rattle.protect_laws.proofs.Exits.{front-of, back-of}
use Rattle.protect_laws.proofs.Known.{every-by}

-- ---- texts that are added have numbers

or-true : (b : Bool) → (b || true) ≡ true
or-true true = refl
or-true false = refl

any-last : {A : Type 0} (test : A → Bool) (xs : List A) (x : A) → test x ≡ true → list_any test (xs ++ x ∷ []) ≡ true
any-last test [] x one = rw one refl
any-last test (y ∷ ys) x one = ap (λ b. test y || b) (any-last test ys x one) ∙ or-true (test y)

any-front : {A : Type 0} (test : A → Bool) (xs ys : List A) → list_any test xs ≡ true → list_any test (xs ++ ys) ≡ true
any-front test xs ys one = list_any-append test xs ys ∙ ap (λ b. b || list_any test ys) one

known-new : (names : List (List ℕ)) (text : List ℕ) → is_known (interned names text) text ≡ true
known-new names text = by (is_known names text) refl
  where
    by : (b : Bool) → is_known names text ≡ b → is_known (interned names text) text ≡ true
    by true e = rw (interned-known names text e) e
    by false e =
        rw (interned-new names text e) (any-last (bytes_eq text) names text ((bytes_eq-Decides text text).1 refl))

known-still : (names : List (List ℕ)) (more text : List ℕ) → is_known names text ≡ true
    → is_known (interned names more) text ≡ true
known-still names more text known = by (is_known names more) refl
  where
    by : (b : Bool) → is_known names more ≡ b → is_known (interned names more) text ≡ true
    by true e = rw (interned-known names more e) known
    by false e = rw (interned-new names more e) (any-front (bytes_eq text) names (more ∷ []) known)

known-through : (names : List (List ℕ)) (texts : List (List ℕ)) (text : List ℕ) → is_known names text ≡ true
    → is_known (all_interned names texts) text ≡ true
known-through names [] text known = known
known-through names (more ∷ texts) text known =
    known-through (interned names more) texts text (known-still names more text known)

pub all-known : (names : List (List ℕ)) (texts : List (List ℕ)) → AreKnown (all_interned names texts) texts
all-known names [] = tt
all-known names (text ∷ texts) =
    (known-through (interned names text) texts text (known-new names text), all-known (interned names text) texts)

-- ---- texts stay

pub kept-through : (names : List (List ℕ)) (texts : List (List ℕ)) (id : ℕ) (old : List ℕ) → slice_get names id ≡ Some old
    → slice_get (all_interned names texts) id ≡ Some old
kept-through names [] id old at = at
kept-through names (text ∷ texts) id old at =
    kept-through (interned names text) texts id old (interned-keeps names text old id at)

pub there : (xs : List (List ℕ)) (k : ℕ) → k < length xs → (x : List ℕ) × (slice_get xs k ≡ Some x)
there [] k below = absurd (omega arith)
there (x ∷ xs) zero below = (x, refl)
there (x ∷ xs) (suc k) below = there xs k (omega arith)

still-below : (names : List (List ℕ)) (texts : List (List ℕ)) (name : NameId) → name.0 < length names
    → name.0 < length (all_interned names texts)
still-below names texts name below =
    let found = there names name.0 below in
    slice_get_within (all_interned names texts) name.0 found.0 (kept-through names texts name.0 found.0 found.1)

text-kept : (names : List (List ℕ)) (texts : List (List ℕ)) (name : NameId) → name.0 < length names
    → text_of (all_interned names texts) name ≡ text_of names name
text-kept names texts name below =
    let found = there names name.0 below in
    ap (λ x. unwrap_or x []) (kept-through names texts name.0 found.0 found.1) ∙ sym (ap (λ x. unwrap_or x []) found.1)

-- ---- generated texts of names that have the same texts in two tables

module _ (all names : List (List ℕ)) (guards : List Guard) where
  abbrev Same : Placed NameId → Type 0
  Same x = text_of all x.item ≡ text_of names x.item

  members-same : (items : List ItemTree) → Every Same (n.names_in_each n.names_in_item items)
      → Every (λ (m : Member). text_of all m.name.item ≡ text_of names m.name.item) (flat_map g.members_in items)
  members-same [] same = tt
  members-same (p.label at access ∷ items) same = members-same items same
  members-same (p.member m ∷ items) same = (
    (back-of Same (n.names_in_type m.type_name) _ (front-of Same (n.names_in_item (p.member m)) _ same)).0,
    members-same items (back-of Same (n.names_in_item (p.member m)) _ same),
  )
  members-same (p.function f ∷ items) same = members-same items (back-of Same (n.names_in_item (p.function f)) _ same)
  members-same (p.ctor c ∷ items) same = members-same items (back-of Same (n.names_in_item (p.ctor c)) _ same)
  members-same (p.dtor x ∷ items) same = members-same items (back-of Same (n.names_in_item (p.dtor x)) _ same)

  texts-same : (ms : List Member) → Every (λ (m : Member). text_of all m.name.item ≡ text_of names m.name.item) ms
      → map (text_of all) (map (λ (m : Member). m.name.item) ms)
      ≡ map (text_of names) (map (λ (m : Member). m.name.item) ms)
  texts-same [] same = refl
  texts-same (m ∷ ms) same = rw (same.0) (ap (λ x. text_of names m.name.item ∷ x) (texts-same ms same.1))

  abbrev texts_by : GuardKind → ℕ → List ℕ → List (List ℕ) → List (List ℕ)
  texts_by kind k class members =
      six_texts names class ((code_of kind).extra_texts class members ++ (code_of kind).local_texts k)

  part-same : (class : Placed NameId) (kind : Option GuardKind) (members : List Member) → Same class
      → Every (λ (m : Member). text_of all m.name.item ≡ text_of names m.name.item) members
      → texts_of_part all (g.part_with class kind members) ≡ texts_of_part names (g.part_with class kind members)
  part-same class None members one same = refl
  part-same class (Some kind) [] one same = refl
  part-same class (Some kind) (m ∷ ms) one same =
      let ids = map (λ (m : Member). m.name.item) (m ∷ ms) in
      let part : Part = record { class = class; members = m ∷ ms } in
      texts-are all kind part ∙ ap (λ x. texts_by kind (length (m ∷ ms)) x (map (text_of all) ids)) one
      ∙ ap (texts_by kind (length (m ∷ ms)) (text_of names class.item)) (texts-same (m ∷ ms) same)
      ∙ sym (texts-are names kind part)

  class-same : (c : ClassTree) → Every Same (n.names_in_class c) → texts_of_part all (g.part_of guards c)
      ≡ texts_of_part names (g.part_of guards c)
  class-same c same =
      part-same c.name (kind_of guards c.name.item) (g.members_of c) same.0
      (members-same c.items (back-of Same (n.names_in_base_of c.base) _ same.1))

  decls-same : (ds : List DeclTree) → Every Same (n.names_in_each n.names_in_decl ds)
      → flat_map (texts_of_decl all guards) ds ≡ flat_map (texts_of_decl names guards) ds
  decls-same [] same = refl
  decls-same (p.class c ∷ ds) same =
      let one = class-same c (front-of Same (n.names_in_class c) _ same) in
      let rest = decls-same ds (back-of Same (n.names_in_class c) _ same) in
      ap (λ x. x ++ flat_map (texts_of_decl all guards) ds) one
      ∙ ap (λ x. texts_of_part names (g.part_of guards c) ++ x) rest
  decls-same (p.class_name c ∷ ds) same = decls-same ds same
  decls-same (p.free_function f ∷ ds) same = decls-same ds (back-of Same (n.names_in_function f) _ same)
  decls-same (p.proto f ∷ ds) same = decls-same ds same
  decls-same (p.global x ∷ ds) same = decls-same ds (back-of Same (n.names_in_global x) _ same)

module _ (names : List (List ℕ)) (guards : List Guard) (q : ProgramTree) (texts : HasTexts names q) where
  abbrev all : List (List ℕ)
  all = with_generated names guards q

  same-texts : Every (Same all names guards) (n.names_in_program q)
  same-texts =
      every-by (λ (x : Placed NameId). x.item.0 < length names) (Same all names guards)
      (λ x below. text-kept names (generated_texts names guards q) x.item below) (n.names_in_program q) texts

  pub generated-known : AreKnown all (generated_texts all guards q)
  generated-known =
      let rest = mutex_texts ++ value_texts 1 (most_in_decls 0 q.decls) in
      let same : generated_texts all guards q ≡ generated_texts names guards q =
      ap (λ x. x ++ rest) (decls-same all names guards q.decls same-texts) in
      subst (AreKnown all) (sym same) (all-known names (generated_texts names guards q))

  both-by : (ns : List (Placed NameId)) → Every (Same all names guards) ns
      → Every (λ (x : Placed NameId). is_generated names x.item ≡ false) ns
      → Every (λ (x : Placed NameId). is_generated all x.item ≡ false) ns
  both-by [] same own = tt
  both-by (x ∷ xs) same own = (ap begins_generated same.0 ∙ own.0, both-by xs same.1 own.1)

  pub still-none : HasNoneGenerated names q → HasNoneGenerated all q
  still-none own = both-by (n.names_in_program q) same-texts own

  still-texts : HasTexts all q
  still-texts =
      every-by (λ (x : Placed NameId). x.item.0 < length names) (λ (x : Placed NameId). x.item.0 < length all)
      (λ x below. still-below names (generated_texts names guards q) x.item below) (n.names_in_program q) texts

pub generated-are-known : GeneratedAreKnown
generated-are-known names guards q texts own =
    (still-texts names guards q texts, still-none names guards q texts own, generated-known names guards q texts)
