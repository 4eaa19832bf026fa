-- A class in normal form is protected into one in normal form.
use Rattle.std.proofs.Common.{◌≡◌, inr, ℕ, refl, sym, ap, subst, ◌∙◌, Bool, true, false, ◌||◌, if◌then◌else◌, List, [], ◌∷◌, ◌++◌, map, Option, Some, None}
use Rattle.std.specs.List.{list_any, flat_map}
use Rattle.std.proofs.lemmas.List.{append-nil, map-append}
use Rattle.std.proofs.lemmas.List.Folds.{list_any-append}
use Rattle.agxx_base.specs.declared.ids.NameId.{NameId}
use Rattle.agxx_base.specs.declared.place.Place.{Place}
use Rattle.cxx_tree.specs.declared.node.Placed.{Placed}
use Rattle.cxx_tree.specs.declared.program.Access.{Access}
use Rattle.cxx_tree.specs.declared.program.Access.TheVariants as access_of
use Rattle.cxx_tree.specs.declared.program.ClassWord.{ClassWord}
use Rattle.cxx_tree.specs.declared.program.ClassWord.TheVariants as word_of
use Rattle.cxx_tree.specs.declared.program.Member.{Member}
use Rattle.cxx_tree.specs.Limits.{Every}
use Rattle.cxx_tree.specs.ProgramTree as p
use Rattle.cxx_tree.specs.ProgramTree.{FunctionTree, ItemTree, ClassTree}
use Rattle.cxx_names.specs.declared.declarations.Declared.{Declared}
use Rattle.cxx_names.specs.Declarations.{default_access}
use Rattle.cxx_distinct.specs.NamesIn as n
use Rattle.cxx_normal.specs.Labels.{same_access, first_access, accesses, labelled}
use Rattle.cxx_normal.specs.Completion.{is_ctor, is_dtor, made_ctor, made_dtor, made}
use Rattle.cxx_normal.specs.Initialisers as i
use Rattle.cxx_normal.specs.Initialisers.{assigning_item}
use Rattle.cxx_normal.specs.Normal.{rebuilt_class}
use Rattle.cxx_normal.proofs.Lists.{every-append, every-map}
use Rattle.cxx_normal.proofs.Relabelled.{any-relabelled, every-relabelled}
use Rattle.guards.specs.declared.guard.Guard.{Guard}
use Rattle.guards.specs.declared.guard.GuardKind.{GuardKind}
use Rattle.codec.specs.declared.part.Part.{Part}
use Rattle.entry_count.specs.PartCode.{counter_member, lock_member, part_members, part_functions}
use Rattle.codec.specs.Part.{place_of}
use Rattle.protect.specs.GuardedParts as g
use Rattle.protect.specs.Protected as z
use Rattle.protect.specs.GeneratedNames.{texts_of_part}
use Rattle.protect_laws.specs.Strip.{is_generated, AreKnown}
use Rattle.protect_laws.specs.Guarded.{extra_members}
use Rattle.protect_laws.proofs.StripStmts.{NotGenerated, back}
use Rattle.protect_laws.proofs.StripClasses.{members-generated}
use Rattle.protect_laws.proofs.Known.{every-mapped}
use Rattle.protect_laws.proofs.Shapes.{items-are}
use Rattle.protect_laws.proofs.Members.{members-added}
use Rattle.protect_laws.proofs.Labelled.{IsLabelled, all-labelled, opened-labelled}
use Rattle.protect_laws.proofs.Initialised.{IsDone, assigned-done, items-stay, all-done}

-- ---- tests of items

any-map : (test : ItemTree → Bool) (change : ItemTree → ItemTree) → ((item : ItemTree) → test (change item) ≡ test item)
    → (items : List ItemTree)
    → list_any test (map change items) ≡ list_any test items
any-map test change same [] = refl
any-map test change same (item ∷ items) = rw (same item, any-map test change same items) refl

has-ctor : (name : Placed NameId) (has has_dtor : Bool)
    → (has || list_any is_ctor (made_ctor name has ++ made_dtor name has_dtor)) ≡ true
has-ctor name true has_dtor = refl
has-ctor name false has_dtor = refl

has-dtor : (name : Placed NameId) (has_ctor has : Bool)
    → (has || list_any is_dtor (made_ctor name has_ctor ++ made_dtor name has)) ≡ true
has-dtor name has_ctor true = refl
has-dtor name true false = refl
has-dtor name false false = refl

made-done : (base : Option (Placed NameId)) (members : List NameId) (name : Placed NameId) (has_ctor has_dtor : Bool)
    → Every (IsDone base members) (made_ctor name has_ctor ++ made_dtor name has_dtor)
made-done base members name true true = tt
made-done base members name true false = (tt, (tt, tt))
made-done base members name false true = (tt, (inr tt, tt))
made-done base members name false false = (tt, (inr tt, (tt, (tt, tt))))

both-made : (name : Placed NameId) (items : List ItemTree) → list_any is_ctor items ≡ true → list_any is_dtor items
    ≡ true → made name items ≡ []
both-made name items ctor_there dtor_there = rw (ctor_there, dtor_there) refl

any-front : (test : ItemTree → Bool) (items others : List ItemTree) → list_any test items ≡ true
    → list_any test (items ++ others) ≡ true
any-front test items others there = list_any-append test items others ∙ ap (λ b. b || list_any test others) there

first-is : (word : ClassWord) → default_access word ≡ first_access word
first-is word_of.Class = refl
first-is word_of.Struct = refl

names-of : (items : List ItemTree) → flat_map i.members_in items
    ≡ map (λ (m : Member). m.name.item) (flat_map g.members_in items)
names-of [] = refl
names-of (p.label at access ∷ items) = names-of items
names-of (p.member m ∷ items) = ap (λ x. m.name.item ∷ x) (names-of items)
names-of (p.function f ∷ items) = names-of items
names-of (p.ctor c ∷ items) = names-of items
names-of (p.dtor d ∷ items) = names-of items

-- ---- what is added

module _ (base : Option (Placed NameId)) (members : List NameId) where
  functions-done : (fs : List FunctionTree) → Every (IsDone base members) (map p.function fs)
  functions-done [] = tt
  functions-done (f ∷ fs) = (tt, functions-done fs)

  members-done : (ms : List Member) → Every (IsDone base members) (map p.member ms)
  members-done [] = tt
  members-done (m ∷ ms) = (tt, members-done ms)

  opening-done : (at : Place) (shown : Access) → Every (IsDone base members) (z.opening at shown)
  opening-done at shown = by (same_access shown access_of.Public)
    where
      by : (b : Bool) → Every (IsDone base members) (if b then [] else p.label at access_of.Public ∷ [])
      by true = tt
      by false = (tt, tt)

  added-done : (names : List (List ℕ)) (c : ClassTree) (part : Option (GuardKind × Part))
      → Every (IsDone base members) (z.added names c part)
  added-done names c None = tt
  added-done names c (Some (kind, part)) =
      let code = z.code_of kind in
      let shown = z.last_access (default_access c.word) c.items in
      let ms = part_members code names part in
      let fs = part_functions code names part in
      let items = every-append (IsDone base members) (map p.member ms) (map p.function fs) (members-done ms)
      (functions-done fs) in
      every-append (IsDone base members) (z.opening c.at shown) (z.part_items code names part) (opening-done c.at shown)
      (subst (Every (IsDone base members)) (sym (items-are names code part)) items)

added-labelled : (names : List (List ℕ)) (c : ClassTree) (part : Option (GuardKind × Part))
    → IsLabelled c.at (z.last_access (default_access c.word) c.items) (z.added names c part)
added-labelled names c None = refl
added-labelled names c (Some (kind, part)) =
    let code = z.code_of kind in
    let shown = z.last_access (default_access c.word) c.items in
    let id = part.class.item in
    let all = opened-labelled c.at shown (code.members names part) (lock_member names (place_of part) id ∷ [])
    (counter_member names (place_of part) id) (part_functions code names part) in
    subst (λ items. IsLabelled c.at shown (z.opening c.at shown ++ items)) (sym (items-are names code part)) all

extra-generated : (names : List (List ℕ)) (part : Option (GuardKind × Part)) → AreKnown names (texts_of_part names part)
    → Every (λ (m : Member). is_generated names m.name.item ≡ true) (extra_members names part)
extra-generated names None known = tt
extra-generated names (Some (kind, part)) known = members-generated names kind part known

-- ---- a class

module _ (names : List (List ℕ)) (guards : List Guard) (x : Declared) (lists : List (List NameId)) (c : ClassTree)
    (normal : rebuilt_class c ≡ c) (own : NotGenerated names (n.names_in_class c))
    (known : AreKnown names (texts_of_part names (g.part_of guards c))) where
  abbrev first : Access
  first = first_access c.word

  abbrev Labels : List ItemTree → List ItemTree
  Labels items = labelled c.at first (accesses first items)

  -- ---- the class itself

  abbrev members : List NameId
  members = flat_map i.members_in c.items

  abbrev assigned : List ItemTree
  assigned = map (assigning_item c.base members) c.items

  items-rebuilt : Labels (assigned ++ made c.name assigned) ≡ c.items
  items-rebuilt = ap (λ (k : ClassTree). k.items) normal

  ctor-there : list_any is_ctor c.items ≡ true
  ctor-there =
      ap (list_any is_ctor) (sym items-rebuilt) ∙ any-relabelled is_ctor c.at (λ a place. refl) first first
      (assigned ++ made c.name assigned) ∙ list_any-append is_ctor assigned (made c.name assigned)
      ∙ has-ctor c.name (list_any is_ctor assigned) (list_any is_dtor assigned)

  dtor-there : list_any is_dtor c.items ≡ true
  dtor-there =
      ap (list_any is_dtor) (sym items-rebuilt) ∙ any-relabelled is_dtor c.at (λ a place. refl) first first
      (assigned ++ made c.name assigned) ∙ list_any-append is_dtor assigned (made c.name assigned)
      ∙ has-dtor c.name (list_any is_ctor assigned) (list_any is_dtor assigned)

  done : Every (IsDone c.base members) c.items
  done =
      let Holds = IsDone c.base members in
      let of_made = made-done c.base members c.name (list_any is_ctor assigned) (list_any is_dtor assigned) in
      let of_all = every-append Holds assigned (made c.name assigned)
      (every-map Holds (assigning_item c.base members) (assigned-done c.base members) c.items) of_made in
      subst (Every Holds) items-rebuilt (every-relabelled Holds c.at (λ a place. tt) first first
      (assigned ++ made c.name assigned) of_all)

  labels : Labels c.items ≡ c.items
  labels =
      let still = items-stay c.base members c.items done in
      let none = both-made c.name c.items ctor-there dtor-there in
      ap Labels (sym (ap (λ xs. xs ++ made c.name xs) still ∙ ap (λ xs. c.items ++ xs) none ∙ append-nil c.items))
      ∙ items-rebuilt

  -- ---- the protected class

  abbrev parts : List NameId
  parts = g.parts_named x lists c.name.item

  abbrev other : List ItemTree
  other = z.added names c (g.part_of guards c)

  abbrev woven : List ItemTree
  woven = map (z.wrapped_item names parts) c.items ++ other

  abbrev more : List NameId
  more = map (λ (m : Member). m.name.item) (extra_members names (g.part_of guards c))

  members-are : flat_map i.members_in woven ≡ members ++ more
  members-are =
      names-of woven ∙ ap (map (λ (m : Member). m.name.item)) (members-added names guards x lists c)
      ∙ map-append (λ (m : Member). m.name.item) (g.members_of c) (extra_members names (g.part_of guards c))
      ∙ ap (λ xs. xs ++ more) (sym (names-of c.items))

  more-generated : Every (λ id. is_generated names id ≡ true) more
  more-generated =
      every-mapped (λ id. is_generated names id ≡ true) (λ (m : Member). m.name.item)
      (extra_members names (g.part_of guards c)) (extra-generated names (g.part_of guards c) known)

  woven-done : Every (IsDone c.base (members ++ more)) woven
  woven-done =
      every-append (IsDone c.base (members ++ more)) (map (z.wrapped_item names parts) c.items) other
      (all-done names more more-generated c.base members parts c.items (back names (n.names_in_base_of c.base) _ own.1)
      done) (added-done c.base (members ++ more) names c (g.part_of guards c))

  woven-stays : map (assigning_item c.base (flat_map i.members_in woven)) woven ≡ woven
  woven-stays =
      ap (λ ids. map (assigning_item c.base ids) woven) members-are
      ∙ items-stay c.base (members ++ more) woven woven-done

  ctor-wrapped : (item : ItemTree) → is_ctor (z.wrapped_item names parts item) ≡ is_ctor item
  ctor-wrapped (p.label at access) = refl
  ctor-wrapped (p.member m) = refl
  ctor-wrapped (p.function f) = refl
  ctor-wrapped (p.ctor k) = refl
  ctor-wrapped (p.dtor d) = refl

  dtor-wrapped : (item : ItemTree) → is_dtor (z.wrapped_item names parts item) ≡ is_dtor item
  dtor-wrapped (p.label at access) = refl
  dtor-wrapped (p.member m) = refl
  dtor-wrapped (p.function f) = refl
  dtor-wrapped (p.ctor k) = refl
  dtor-wrapped (p.dtor d) = refl

  woven-complete : made c.name woven ≡ []
  woven-complete =
      let wrapped = map (z.wrapped_item names parts) c.items in
      both-made c.name woven (any-front is_ctor wrapped other
      (any-map is_ctor (z.wrapped_item names parts) ctor-wrapped c.items ∙ ctor-there))
      (any-front is_dtor wrapped other (any-map is_dtor (z.wrapped_item names parts) dtor-wrapped c.items ∙ dtor-there))

  woven-labels : Labels woven ≡ woven
  woven-labels =
      all-labelled c.at names parts other first c.items labels
      (subst (λ a. IsLabelled c.at (z.last_access a c.items) other) (first-is c.word)
      (added-labelled names c (g.part_of guards c)))

  pub class-normal : rebuilt_class (z.protected_class names guards x lists c) ≡ z.protected_class names guards x lists c
  class-normal =
      ap (λ items. record c { items = items }) (ap Labels
      (ap (λ xs. xs ++ made c.name xs) woven-stays ∙ ap (λ xs. woven ++ xs) woven-complete ∙ append-nil woven)
      ∙ woven-labels)
