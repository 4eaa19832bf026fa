-- What a program declares once items are added at the ends of its classes: the same, and what is added.
use Rattle.std.proofs.Common.{◌≡◌, ◌≢◌, refl, sym, ap, ◌∙◌, ℕ, zero, suc, Bool, true, false, if◌then◌else◌, List, [], ◌∷◌, ◌++◌, map, length, Option, Some, None, option_map, slice_get, nat_eq, codes}
use Rattle.agxx_base.specs.declared.ids.ClassId.{ClassId}
use Rattle.agxx_base.specs.declared.ids.NameId.{NameId}
use Rattle.cxx_tree.specs.declared.node.Placed.{Placed}
use Rattle.cxx_tree.specs.declared.program.Access.{Access}
use Rattle.cxx_tree.specs.declared.program.Member.{Member}
use Rattle.cxx_tree.specs.declared.program.Param.{Param}
use Rattle.cxx_tree.specs.declared.program.TypeName.{TypeName}
use Rattle.cxx_tree.specs.declared.program.TypeName.TheVariants as type_name
use Rattle.cxx_tree.specs.declared.program.Access.TheVariants as access
use Rattle.cxx_tree.specs.Limits.{Every}
use Rattle.cxx_tree.specs.ProgramTree as tree
use Rattle.cxx_tree.specs.ProgramTree.{FunctionTree, ItemTree, ClassTree, DeclTree}
use Rattle.cxx_names.specs.declared.declarations.ClassInfo.{ClassInfo}
use Rattle.cxx_names.specs.declared.declarations.Signature.{Signature}
use Rattle.cxx_names.specs.declared.declarations.Declared.{Declared}
use Rattle.cxx_names.specs.Declarations as d
use Rattle.cxx_names.specs.LookUp.{or_next}
use Rattle.cxx_names.specs.Tables.{named, with_name}
use Rattle.cxx_distinct.specs.NamesIn as n
use Rattle.protect.specs.Protected as z
use Rattle.protect_laws.specs.Guarded.{Pairwise}
use Rattle.woven_rules.proofs.Tables.{named-with, named-other, same-with}
use Rattle.woven_rules.proofs.Wider.{plain, IsWiderClass, IsWiderAt, IsWider}
use Rattle.woven_rules.proofs.Seen.{OwnNames, own-front, own-back}

-- ---- tables of functions

next-plain : (a b : Option Signature)
    → option_map plain (or_next a b) ≡ or_next (option_map plain a) (option_map plain b)
next-plain None b = refl
next-plain (Some f) b = refl

if-plain : (b : Bool) (f : Signature)
    → option_map plain (if b then Some f else None) ≡ (if b then Some (plain f) else None)
if-plain true f = refl
if-plain false f = refl

with-plain : (es : List (ℕ × Signature)) (k : ℕ) (f : Signature) (j : ℕ)
    → option_map plain (named (with_name es k f) j) ≡ or_next (option_map plain (named es j))
    (if nat_eq j k then Some (plain f) else None)
with-plain es k f j =
    ap (option_map plain) (named-with es k f j)
    ∙ (next-plain (named es j) (if nat_eq j k then Some f else None)
    ∙ ap (or_next (option_map plain (named es j))) (if-plain (nat_eq j k) f))

-- the same function but for its number added to two tables
pub same-with-plain : (es fs : List (ℕ × Signature)) (k : ℕ) (f g : Signature) (j : ℕ) → plain g ≡ plain f
    → option_map plain (named fs j) ≡ option_map plain (named es j)
    → option_map plain (named (with_name fs k g) j) ≡ option_map plain (named (with_name es k f) j)
same-with-plain es fs k f g j same e =
    with-plain fs k g j
    ∙ (ap (λ o. or_next o (if nat_eq j k then Some (plain g) else None)) e
    ∙ (ap (λ (x : Signature). or_next (option_map plain (named es j)) (if nat_eq j k then Some x else None)) same
    ∙ sym (with-plain es k f j)))

first-plain : (a b : Option Signature) (f g : Signature) → plain g ≡ plain f → option_map plain b ≡ option_map plain a
    → option_map plain (d.or_first b g) ≡ option_map plain (d.or_first a f)
first-plain None None f g same e = ap Some same
first-plain None (Some y) f g same e = absurd (cc e)
first-plain (Some x) None f g same e = absurd (cc e)
first-plain (Some x) (Some y) f g same e = e

-- ---- items

module _ (Own : ℕ → Type 0) where
  -- an item that is added to a class: a label, or a member or function that has no name of the program
  abbrev pub IsForeign : ItemTree → Type 0
  IsForeign (tree.label at a) = Unit {0}
  IsForeign (tree.member m) = (j : ℕ) → Own j → j ≢ m.name.item.0
  IsForeign (tree.function f) = (j : ℕ) → Own j → j ≢ f.name.item.0
  IsForeign (tree.ctor k) = ⊥
  IsForeign (tree.dtor k) = ⊥

  module _ (x y : ClassInfo) (w : IsWiderClass Own x y) (shown : Access) (count j k : ℕ) where
    abbrev before_member : Member → ClassInfo
    before_member m = (d.with_member (record { info = x; shown = shown; count = count; numbered = j }) m).info

    member-wider : (m : Member) → IsWiderClass Own (before_member m)
        (d.with_member (record { info = y; shown = shown; count = count; numbered = k }) m).info
    member-wider m = record {
      name = w.name;
      index = w.index;
      base = w.base;
      ancestors = w.ancestors;
      members =
          λ i own. same-with x.members y.members m.name.item.0
          (record { type_name = m.type_name.item; access = shown }) i (w.members i own);
      methods = w.methods;
      items = λ i own. same-with x.items y.items m.name.item.0 count i (w.items i own);
      ctor = w.ctor;
      dtor = w.dtor;
    }

    method-wider : (f g : FunctionTree) → g.name ≡ f.name → g.result ≡ f.result → g.params ≡ f.params
        → IsWiderClass Own (d.with_method (record { info = x; shown = shown; count = count; numbered = j }) f).info
        (d.with_method (record { info = y; shown = shown; count = count; numbered = k }) g).info
    method-wider f g name result params = record {
      name = w.name;
      index = w.index;
      base = w.base;
      ancestors = w.ancestors;
      members = w.members;
      methods = λ i own.
          ap (λ (q : Placed NameId). option_map plain
          (named (with_name y.methods q.item.0 (d.signature k g.result.item g.params shown false)) i)) name
          ∙ same-with-plain x.methods y.methods f.name.item.0 (d.signature j f.result.item f.params shown false)
          (d.signature k g.result.item g.params shown false) i
          (ap (λ (q : Placed TypeName). plain (d.signature k q.item g.params shown false)) result
          ∙ ap (λ ps. plain (d.signature k f.result.item ps shown false)) params) (w.methods i own);
      items =
          λ i own. ap (λ (q : Placed NameId). named (with_name y.items q.item.0 count) i) name
          ∙ same-with x.items y.items f.name.item.0 count i (w.items i own);
      ctor = w.ctor;
      dtor = w.dtor;
    }

    ctor-wider : (ps : List Param)
        → IsWiderClass Own (d.with_ctor (record { info = x; shown = shown; count = count; numbered = j }) ps).info
        (d.with_ctor (record { info = y; shown = shown; count = count; numbered = k }) ps).info
    ctor-wider ps = record {
      name = w.name;
      index = w.index;
      base = w.base;
      ancestors = w.ancestors;
      members = w.members;
      methods = w.methods;
      items = w.items;
      ctor =
          first-plain x.ctor y.ctor (d.signature j type_name.Void ps shown false)
          (d.signature k type_name.Void ps shown false) refl w.ctor;
      dtor = w.dtor;
    }

    dtor-wider : IsWiderClass Own (d.with_dtor (record { info = x; shown = shown; count = count; numbered = j })).info
        (d.with_dtor (record { info = y; shown = shown; count = count; numbered = k })).info
    dtor-wider = record {
      name = w.name;
      index = w.index;
      base = w.base;
      ancestors = w.ancestors;
      members = w.members;
      methods = w.methods;
      items = w.items;
      ctor = w.ctor;
      dtor =
          first-plain x.dtor y.dtor (d.signature j type_name.Void [] shown false)
          (d.signature k type_name.Void [] shown false) refl w.dtor;
    }

    new-member-wider : (m : Member) → IsForeign (tree.member m)
        → IsWiderClass Own x (d.with_member (record { info = y; shown = shown; count = count; numbered = k }) m).info
    new-member-wider m foreign = record {
      name = w.name;
      index = w.index;
      base = w.base;
      ancestors = w.ancestors;
      members =
          λ i own. named-other y.members m.name.item.0 (record { type_name = m.type_name.item; access = shown }) i
          (foreign i own) ∙ w.members i own;
      methods = w.methods;
      items = λ i own. named-other y.items m.name.item.0 count i (foreign i own) ∙ w.items i own;
      ctor = w.ctor;
      dtor = w.dtor;
    }

    new-method-wider : (f : FunctionTree) → IsForeign (tree.function f)
        → IsWiderClass Own x (d.with_method (record { info = y; shown = shown; count = count; numbered = k }) f).info
    new-method-wider f foreign = record {
      name = w.name;
      index = w.index;
      base = w.base;
      ancestors = w.ancestors;
      members = w.members;
      methods =
          λ i own. ap (option_map plain)
          (named-other y.methods f.name.item.0 (d.signature k f.result.item f.params shown false) i (foreign i own))
          ∙ w.methods i own;
      items = λ i own. named-other y.items f.name.item.0 count i (foreign i own) ∙ w.items i own;
      ctor = w.ctor;
      dtor = w.dtor;
    }

  -- items that are added
  added-wider : (x y : ClassInfo) → IsWiderClass Own x y → (shown : Access) (count k : ℕ) (is : List ItemTree)
      → Every IsForeign is
      → IsWiderClass Own x (d.with_items (record { info = y; shown = shown; count = count; numbered = k }) is).info
  added-wider x y w shown count k [] foreign = w
  added-wider x y w shown count k (tree.label at a ∷ is) foreign = added-wider x y w a (suc count) k is foreign.1
  added-wider x y w shown count k (tree.member m ∷ is) foreign =
      added-wider x (d.with_member (record { info = y; shown = shown; count = count; numbered = k }) m).info
      (new-member-wider x y w shown count k k m foreign.0) shown (suc count) k is foreign.1
  added-wider x y w shown count k (tree.function f ∷ is) foreign =
      added-wider x (d.with_method (record { info = y; shown = shown; count = count; numbered = k }) f).info
      (new-method-wider x y w shown count k k f foreign.0) shown (suc count) (suc k) is foreign.1
  added-wider x y w shown count k (tree.ctor q ∷ is) foreign = absurd foreign.0
  added-wider x y w shown count k (tree.dtor q ∷ is) foreign = absurd foreign.0

  -- the items of a class, with wrapped bodies, and then others
  items-wider : (names : List (List ℕ)) (parts : List NameId) (x y : ClassInfo) → IsWiderClass Own x y
      → (shown : Access) (count j k : ℕ) (is others : List ItemTree) → Every IsForeign others
      → IsWiderClass Own (d.with_items (record { info = x; shown = shown; count = count; numbered = j }) is).info
      (d.with_items (record { info = y; shown = shown; count = count; numbered = k })
      (map (z.wrapped_item names parts) is ++ others)).info
  items-wider names parts x y w shown count j k [] others foreign = added-wider x y w shown count k others foreign
  items-wider names parts x y w shown count j k (tree.label at a ∷ is) others foreign =
      items-wider names parts x y w a (suc count) j k is others foreign
  items-wider names parts x y w shown count j k (tree.member m ∷ is) others foreign =
      items-wider names parts (d.with_member (record { info = x; shown = shown; count = count; numbered = j }) m).info
      (d.with_member (record { info = y; shown = shown; count = count; numbered = k }) m).info
      (member-wider x y w shown count j k m) shown (suc count) j k is others foreign
  items-wider names parts x y w shown count j k (tree.function f ∷ is) others foreign =
      items-wider names parts (d.with_method (record { info = x; shown = shown; count = count; numbered = j }) f).info
      (d.with_method (record { info = y; shown = shown; count = count; numbered = k })
      (z.wrapped_function names parts f)).info
      (method-wider x y w shown count j k f (z.wrapped_function names parts f) refl refl refl) shown (suc count)
      (suc j) (suc k) is others foreign
  items-wider names parts x y w shown count j k (tree.ctor q ∷ is) others foreign =
      items-wider names parts (d.with_ctor (record { info = x; shown = shown; count = count; numbered = j })
      q.params).info (d.with_ctor (record { info = y; shown = shown; count = count; numbered = k }) q.params).info
      (ctor-wider x y w shown count j k q.params) shown (suc count) (suc j) (suc k) is others foreign
  items-wider names parts x y w shown count j k (tree.dtor q ∷ is) others foreign =
      items-wider names parts (d.with_dtor (record { info = x; shown = shown; count = count; numbered = j })).info
      (d.with_dtor (record { info = y; shown = shown; count = count; numbered = k })).info
      (dtor-wider x y w shown count j k) shown (suc count) (suc j) (suc k) is others foreign

  -- ---- declarations

  pub record IsWiderSoFar (a b : Declared) : Type 0 where
    pub class_names : b.class_names ≡ a.class_names
    pub first : b.first ≡ a.first
    pub globals : b.globals ≡ a.globals
    pub count : b.count ≡ a.count
    pub functions : (k : ℕ) → option_map plain (named b.functions k) ≡ option_map plain (named a.functions k)
    pub classes : Pairwise (IsWiderClass Own) a.classes b.classes

  pub pair-length : (xs ys : List ClassInfo) → Pairwise (IsWiderClass Own) xs ys → length ys ≡ length xs
  pair-length [] [] p = refl
  pair-length [] (y ∷ ys) p = absurd p
  pair-length (x ∷ xs) [] p = absurd p
  pair-length (x ∷ xs) (y ∷ ys) p = ap suc (pair-length xs ys p.1)

  pair-at : (xs ys : List ClassInfo) → Pairwise (IsWiderClass Own) xs ys → (i : ℕ)
      → IsWiderAt Own (slice_get xs i) (slice_get ys i)
  pair-at [] [] p i = tt
  pair-at [] (y ∷ ys) p i = absurd p
  pair-at (x ∷ xs) [] p i = absurd p
  pair-at (x ∷ xs) (y ∷ ys) p zero = p.0
  pair-at (x ∷ xs) (y ∷ ys) p (suc i) = pair-at xs ys p.1 i

  pair-more : (xs ys : List ClassInfo) → Pairwise (IsWiderClass Own) xs ys → (x y : ClassInfo) → IsWiderClass Own x y
      → Pairwise (IsWiderClass Own) (xs ++ x ∷ []) (ys ++ y ∷ [])
  pair-more [] [] p x y w = (w, tt)
  pair-more [] (y' ∷ ys) p x y w = absurd p
  pair-more (x' ∷ xs) [] p x y w = absurd p
  pair-more (x' ∷ xs) (y' ∷ ys) p x y w = (p.0, pair-more xs ys p.1 x y w)

  pub is-wider : (a b : Declared) → IsWiderSoFar a b → IsWider Own a b
  is-wider a b w = record {
    class_names = w.class_names;
    first = w.first;
    globals = w.globals;
    functions = w.functions;
    classes = λ c. pair-at a.classes b.classes w.classes c.0;
  }

  module _ (a b : Declared) (w : IsWiderSoFar a b) where
    base-same : (o : Option (Placed NameId)) → d.base_named b o ≡ d.base_named a o
    base-same None = refl
    base-same (Some name) = ap (λ t. named t name.item.0) w.class_names

    one-above-by : (x y : Option ClassInfo) → IsWiderAt Own x y → d.one_above y ≡ d.one_above x
    one-above-by None None p = refl
    one-above-by None (Some y) p = absurd p
    one-above-by (Some x) None p = absurd p
    one-above-by (Some x) (Some y) p = ap suc p.ancestors

    below-same : (o : Option ClassId) → d.ancestors_below b o ≡ d.ancestors_below a o
    below-same None = refl
    below-same (Some c) = one-above-by (d.class_at a c) (d.class_at b c) (pair-at a.classes b.classes w.classes c.0)

    begun-wider : (k : ClassTree) (is : List ItemTree)
        → IsWiderClass Own (d.class_begun a k) (d.class_begun b (record k { items = is }))
    begun-wider k is = record {
      name = refl;
      index = w.count;
      base = base-same k.base;
      ancestors = ap (d.ancestors_below b) (base-same k.base) ∙ below-same (d.base_named a k.base);
      members = λ i own. refl;
      methods = λ i own. refl;
      items = λ i own. refl;
      ctor = refl;
      dtor = refl;
    }

    class-wider : (names : List (List ℕ)) (parts : List NameId) (k : ClassTree) (others : List ItemTree)
        → Every IsForeign others
        → IsWiderSoFar (d.with_class a k)
        (d.with_class b (record k { items = map (z.wrapped_item names parts) k.items ++ others }))
    class-wider names parts k others foreign = record {
      class_names = ap (λ t. with_name t k.name.item.0 (d.next_class b)) w.class_names
          ∙ ap (λ c. with_name a.class_names k.name.item.0 (record { 0 = c }))
          (pair-length a.classes b.classes w.classes);
      first = ap (λ t. with_name t k.name.item.0 b.count) w.first ∙ ap (with_name a.first k.name.item.0) w.count;
      globals = w.globals;
      count = ap suc w.count;
      functions = w.functions;
      classes = pair-more a.classes b.classes w.classes _ _
          (items-wider names parts (d.class_begun a k)
          (d.class_begun b (record k { items = map (z.wrapped_item names parts) k.items ++ others }))
          (begun-wider k (map (z.wrapped_item names parts) k.items ++ others))
          (d.default_access k.word) 0 a.numbered b.numbered k.items others foreign);
    }

    function-wider : (before after : List (List ℕ)) (f : FunctionTree)
        → d.is_text after f.name.item.0 (codes "main") ≡ d.is_text before f.name.item.0 (codes "main")
        → IsWiderSoFar (d.with_function before a f) (d.with_function after b f)
    function-wider before after f same = record {
      class_names = w.class_names;
      first = ap (λ t. with_name t f.name.item.0 b.count) w.first ∙ ap (with_name a.first f.name.item.0) w.count;
      globals = w.globals;
      count = ap suc w.count;
      functions =
          λ k. same-with-plain a.functions b.functions f.name.item.0 _ _ k
          (ap (λ x. plain (d.signature 0 f.result.item f.params access.Public x)) same) (w.functions k);
      classes = w.classes;
    }

    global-wider : (g : tree.GlobalTree) → IsWiderSoFar (d.with_global a g) (d.with_global b g)
    global-wider g = record {
      class_names = w.class_names;
      first =
          ap (λ t. with_name t (d.global_name g).0 b.count) w.first
          ∙ ap (with_name a.first (d.global_name g).0) w.count;
      globals = ap (λ t. with_name t (d.global_name g).0 (d.global_info g)) w.globals;
      count = ap suc w.count;
      functions = w.functions;
      classes = w.classes;
    }

    passed-wider : IsWiderSoFar (d.passed_over a) (d.passed_over b)
    passed-wider =
        record {
          class_names = w.class_names;
          first = w.first;
          globals = w.globals;
          count = ap suc w.count;
          functions = w.functions;
          classes = w.classes;
        }

  -- ---- programs

  module _ (names before : List (List ℕ)) (texts : (k : ℕ) → Own k → slice_get names k ≡ slice_get before k)
      (parts : ClassTree → List NameId) (added : ClassTree → List ItemTree) where
    abbrev woven : DeclTree → DeclTree
    woven (tree.class k) = tree.class (record k { items = map (z.wrapped_item names (parts k)) k.items ++ added k })
    woven (tree.class_name k) = tree.class_name k
    woven (tree.free_function g) = tree.free_function g
    woven (tree.proto g) = tree.proto g
    woven (tree.global g) = tree.global g

    -- what is added to each class
    abbrev pub AddsForeign : List DeclTree → Type 0
    AddsForeign [] = Unit {0}
    AddsForeign (tree.class k ∷ ds) = Every IsForeign (added k) × AddsForeign ds
    AddsForeign (tree.class_name k ∷ ds) = AddsForeign ds
    AddsForeign (tree.free_function g ∷ ds) = AddsForeign ds
    AddsForeign (tree.proto g ∷ ds) = AddsForeign ds
    AddsForeign (tree.global g ∷ ds) = AddsForeign ds

    pub decls-wider : (a b : Declared) → IsWiderSoFar a b → (ds : List DeclTree) → AddsForeign ds
        → OwnNames Own (n.names_in_each n.names_in_decl ds)
        → IsWiderSoFar (d.with_decls before a ds) (d.with_decls names b (map woven ds))
    decls-wider a b w [] foreign own = w
    decls-wider a b w (tree.class k ∷ ds) foreign own =
        decls-wider (d.with_class a k)
        (d.with_class b (record k { items = map (z.wrapped_item names (parts k)) k.items ++ added k }))
        (class-wider a b w names (parts k) k (added k) foreign.0) ds foreign.1
        (own-back Own (n.names_in_class k) _ own)
    decls-wider a b w (tree.class_name k ∷ ds) foreign own =
        decls-wider (d.passed_over a) (d.passed_over b) (passed-wider a b w) ds foreign own
    decls-wider a b w (tree.free_function f ∷ ds) foreign own =
        let name = own-back Own (n.names_in_type f.result) _ (own-front Own (n.names_in_function f) _ own) in
        decls-wider (d.with_function before a f) (d.with_function names b f)
        (function-wider a b w before names f (ap (λ o. d.is_text_by o (codes "main")) (texts f.name.item.0 name.0)))
        ds foreign (own-back Own (n.names_in_function f) _ own)
    decls-wider a b w (tree.proto f ∷ ds) foreign own =
        decls-wider (d.passed_over a) (d.passed_over b) (passed-wider a b w) ds foreign own
    decls-wider a b w (tree.global g ∷ ds) foreign own =
        decls-wider (d.with_global a g) (d.with_global b g) (global-wider a b w g) ds foreign
        (own-back Own (n.names_in_global g) _ own)

    pub empty-wider : IsWiderSoFar d.empty d.empty
    empty-wider =
        record { class_names = refl; first = refl; globals = refl; count = refl; functions = λ k. refl; classes = tt }
