-- The classes of a program that violates no rule, as they are declared in it and in its protected program.
use Rattle.std.proofs.Common.{◌≡◌, ◌≢◌, refl, sym, ap, ◌∙◌, subst, ℕ, zero, suc, ◌+◌, ◌<◌, arith, Bool, true, false, not, List, [], ◌∷◌, ◌++◌, map, length, Option, Some, None, slice_get, nat_eq, if◌then◌else◌, length-append}
use Rattle.std.proofs.lemmas.Option.{none-some, same_Some}
use Rattle.std.proofs.lemmas.Bool.{lt-ltb}
use Rattle.std.proofs.lemmas.List.{append-nil, append_assoc}
use Rattle.agxx_base.specs.declared.ids.ClassId.{ClassId}
use Rattle.agxx_base.specs.declared.ids.NameId.{NameId}
use Rattle.cxx_tree.specs.declared.node.Placed.{Placed}
use Rattle.cxx_tree.specs.ProgramTree as tree
use Rattle.cxx_tree.specs.ProgramTree.{ClassTree, DeclTree}
use Rattle.cxx_names.specs.declared.declarations.ClassInfo.{ClassInfo}
use Rattle.cxx_names.specs.declared.declarations.Declared.{Declared}
use Rattle.cxx_names.specs.Declarations as d
use Rattle.cxx_names.specs.LookUp as look
use Rattle.cxx_names.specs.Tables.{named, with_name}
use Rattle.cxx_distinct.specs.NamesIn as n
use Rattle.cxx_types.specs.declared.programs.DeclsSeen.{DeclsSeen}
use Rattle.cxx_types.specs.Classes as c
use Rattle.cxx_types.specs.Programs as programs
use Rattle.cxx_rules.specs.Sites.{Site}
use Rattle.cxx_rules.specs.Forms as form
use Rattle.cxx_rules.specs.ProgramForms as p
use Rattle.cxx_rules.specs.Unless.{unless}
use Rattle.woven_rules.proofs.Tables.{named-with, named-new, named-other, named-still}
use Rattle.woven_rules.proofs.Right.{Right, Rights, front, back}
use Rattle.woven_rules.proofs.Seen.{OwnNames, own-back}
use Rattle.woven_rules.proofs.Lineages.{at-seam}
use Rattle.cxx_types.specs.declared.context.Context.{Context}
use Rattle.cxx_types.specs.declared.context.Owner.TheVariants as owner

-- ---- the classes that declarations add

abbrev infos : List (List ℕ) → Declared → List DeclTree → List ClassInfo
infos names x [] = []
infos names x (tree.class k ∷ ds) = (d.class_items x k).info ∷ infos names (d.with_class x k) ds
infos names x (tree.class_name k ∷ ds) = infos names (d.passed_over x) ds
infos names x (tree.free_function f ∷ ds) = infos names (d.with_function names x f) ds
infos names x (tree.proto f ∷ ds) = infos names (d.passed_over x) ds
infos names x (tree.global g ∷ ds) = infos names (d.with_global x g) ds

classes-are : (names : List (List ℕ)) (x : Declared) (ds : List DeclTree)
    → (d.with_decls names x ds).classes ≡ x.classes ++ infos names x ds
classes-are names x [] = sym (append-nil x.classes)
classes-are names x (tree.class k ∷ ds) =
    classes-are names (d.with_class x k) ds
    ∙ append_assoc x.classes ((d.class_items x k).info ∷ []) (infos names (d.with_class x k) ds)
classes-are names x (tree.class_name k ∷ ds) = classes-are names (d.passed_over x) ds
classes-are names x (tree.free_function f ∷ ds) = classes-are names (d.with_function names x f) ds
classes-are names x (tree.proto f ∷ ds) = classes-are names (d.passed_over x) ds
classes-are names x (tree.global g ∷ ds) = classes-are names (d.with_global x g) ds

-- ---- what goes on standing for something

first-still : (names : List (List ℕ)) (x : Declared) (ds : List DeclTree) (k j : ℕ) → named x.first k ≡ Some j
    → named (d.with_decls names x ds).first k ≡ Some j
first-still names x [] k j e = e
first-still names x (tree.class q ∷ ds) k j e =
    first-still names (d.with_class x q) ds k j (named-still x.first q.name.item.0 x.count k j e)
first-still names x (tree.class_name q ∷ ds) k j e = first-still names (d.passed_over x) ds k j e
first-still names x (tree.free_function f ∷ ds) k j e =
    first-still names (d.with_function names x f) ds k j (named-still x.first f.name.item.0 x.count k j e)
first-still names x (tree.proto f ∷ ds) k j e = first-still names (d.passed_over x) ds k j e
first-still names x (tree.global g ∷ ds) k j e =
    first-still names (d.with_global x g) ds k j (named-still x.first (d.global_name g).0 x.count k j e)

class-still : (names : List (List ℕ)) (x : Declared) (ds : List DeclTree) (k : ℕ) (j : ClassId)
    → named x.class_names k ≡ Some j → named (d.with_decls names x ds).class_names k ≡ Some j
class-still names x [] k j e = e
class-still names x (tree.class q ∷ ds) k j e =
    class-still names (d.with_class x q) ds k j (named-still x.class_names q.name.item.0 (d.next_class x) k j e)
class-still names x (tree.class_name q ∷ ds) k j e = class-still names (d.passed_over x) ds k j e
class-still names x (tree.free_function f ∷ ds) k j e = class-still names (d.with_function names x f) ds k j e
class-still names x (tree.proto f ∷ ds) k j e = class-still names (d.passed_over x) ds k j e
class-still names x (tree.global g ∷ ds) k j e = class-still names (d.with_global x g) ds k j e

-- a name that is none of the program's is no class's
pub no-class : (Own : ℕ → Type 0) (names : List (List ℕ)) (g : ℕ) → ((j : ℕ) → Own j → j ≢ g) → (x : Declared)
    → named x.class_names g ≡ None → (ds : List DeclTree) → OwnNames Own (n.names_in_each n.names_in_decl ds)
    → d.class_named (d.with_decls names x ds) g ≡ None
no-class Own names g foreign x none [] own = none
no-class Own names g foreign x none (tree.class k ∷ ds) own =
    no-class Own names g foreign (d.with_class x k)
    (named-other x.class_names k.name.item.0 (d.next_class x) g (λ e. foreign k.name.item.0 own.0 (sym e)) ∙ none)
    ds (own-back Own (n.names_in_class k) _ own)
no-class Own names g foreign x none (tree.class_name k ∷ ds) own =
    no-class Own names g foreign (d.passed_over x) none ds own
no-class Own names g foreign x none (tree.free_function f ∷ ds) own =
    no-class Own names g foreign (d.with_function names x f) none ds (own-back Own (n.names_in_function f) _ own)
no-class Own names g foreign x none (tree.proto f ∷ ds) own =
    no-class Own names g foreign (d.passed_over x) none ds own
no-class Own names g foreign x none (tree.global q ∷ ds) own =
    no-class Own names g foreign (d.with_global x q) none ds (own-back Own (n.names_in_global q) _ own)

-- ---- first places

pub record FitsFirst (x : Declared) : Type 0 where
  pub below : (k j : ℕ) → named x.first k ≡ Some j → j < x.count
  pub classes : (k : ℕ) → named x.first k ≡ None → named x.class_names k ≡ None

module _ (x : Declared) (fits : FitsFirst x) where
  below-with : (name k j : ℕ) → named (with_name x.first name x.count) k ≡ Some j → j < suc x.count
  below-with name k j e = by (nat_eq k name) (named x.first k) refl (sym (named-with x.first name x.count k) ∙ e)
    where
      by : (t : Bool) (o : Option ℕ) → named x.first k ≡ o
          → look.or_next o (if t then Some x.count else None) ≡ Some j → j < suc x.count
      by t (Some y) is f = let old = fits.below k j (is ∙ f) in omega arith
      by true None is f = let same : x.count ≡ j = same_Some x.count j f in omega arith
      by false None is f = absurd (none-some j f)

  none-with : (name k : ℕ) → named (with_name x.first name x.count) k ≡ None
      → (named x.first k ≡ None) × (nat_eq k name ≡ false)
  none-with name k e = by (nat_eq k name) refl (named x.first k) refl (sym (named-with x.first name x.count k) ∙ e)
    where
      by : (t : Bool) → nat_eq k name ≡ t → (o : Option ℕ) → named x.first k ≡ o
          → look.or_next o (if t then Some x.count else None) ≡ None
          → (named x.first k ≡ None) × (nat_eq k name ≡ false)
      by t is (Some y) at f = absurd (none-some y (sym f))
      by true is None at f = absurd (none-some x.count (sym f))
      by false is None at f = (at, is)

  later-below : (k j : ℕ) → named x.first k ≡ Some j → j < suc x.count
  later-below k j e = let old = fits.below k j e in omega arith

  class-fits : (k : ClassTree) → FitsFirst (d.with_class x k)
  class-fits k = record {
    below = below-with k.name.item.0;
    classes = λ j e.
        let both = none-with k.name.item.0 j e in
        named-with x.class_names k.name.item.0 (d.next_class x) j
        ∙ (ap (λ o. look.or_next o (if nat_eq j k.name.item.0 then Some (d.next_class x) else None))
        (fits.classes j both.0) ∙ ap (λ b. if b then Some (d.next_class x) else None) both.1);
  }

  other-fits : (name : ℕ) → (y : Declared) → y.first ≡ with_name x.first name x.count → y.class_names ≡ x.class_names
      → y.count ≡ suc x.count → FitsFirst y
  other-fits name y first classes count = record {
    below = λ k j e. subst (λ m. j < m) (sym count) (below-with name k j (sym (ap (λ t. named t k) first) ∙ e));
    classes =
        λ k e. ap (λ t. named t k) classes
        ∙ fits.classes k (none-with name k (sym (ap (λ t. named t k) first) ∙ e)).0;
  }

  passed-fits : FitsFirst (d.passed_over x)
  passed-fits = record { below = later-below; classes = fits.classes }

pub empty-first : FitsFirst d.empty
empty-first = record { below = λ k j e. absurd (none-some j e); classes = λ k e. refl }

-- ---- each class

-- in the class of this number, in a declaration of this place
abbrev pub inside_class : ℕ → ℕ → Context
inside_class class index = record { class = Some (record { 0 = class }); owner = owner.Lifecycle; index = index }

module _ (before names : List (List ℕ)) (weave : ClassTree → ClassTree) (Also : ClassTree → Type 0) where
  abbrev pub woven_decl : DeclTree → DeclTree
  woven_decl (tree.class k) = tree.class (weave k)
  woven_decl (tree.class_name k) = tree.class_name k
  woven_decl (tree.free_function g) = tree.free_function g
  woven_decl (tree.proto g) = tree.proto g
  woven_decl (tree.global g) = tree.global g

  -- a class with this number, as it is declared in a program and in what becomes of it, and that it violates no rule
  pub record IsFound (w : Site) (z : Declared) (class : ℕ) (k : ClassTree) : Type 0 where
    pub x : Declared
    pub y : Declared
    pub source_is : d.class_at w.declared (record { 0 = class }) ≡ Some (d.class_items x k).info
    pub woven_is : d.class_at z (record { 0 = class }) ≡ Some (d.class_items y (weave k)).info
    pub named_is : d.class_named w.declared k.name.item.0 ≡ Some (record { 0 = class })
    pub index : ℕ
    pub right : Rights (p.forms_of_items (record w { context = inside_class class index }) k.base
        (d.class_items x k).info c.none_seen k.items)
    pub also : Also k

  abbrev pub AllFound : Site → Declared → ℕ → List DeclTree → Type 0
  AllFound w z class [] = Unit {0}
  AllFound w z class (tree.class k ∷ ds) = IsFound w z class k × AllFound w z (suc class) ds
  AllFound w z class (tree.class_name k ∷ ds) = AllFound w z class ds
  AllFound w z class (tree.free_function g ∷ ds) = AllFound w z class ds
  AllFound w z class (tree.proto g ∷ ds) = AllFound w z class ds
  AllFound w z class (tree.global g ∷ ds) = AllFound w z class ds

  -- something holds of each class
  abbrev pub OfEach : List DeclTree → Type 0
  OfEach [] = Unit {0}
  OfEach (tree.class k ∷ ds) = Also k × OfEach ds
  OfEach (tree.class_name k ∷ ds) = OfEach ds
  OfEach (tree.free_function g ∷ ds) = OfEach ds
  OfEach (tree.proto g ∷ ds) = OfEach ds
  OfEach (tree.global g ∷ ds) = OfEach ds

  one-longer : (x : Declared) (k : ClassTree) (class : ℕ) → length x.classes ≡ class
      → length (d.with_class x k).classes ≡ suc class
  one-longer x k class e = length-append x.classes ((d.class_items x k).info ∷ []) ∙ omega arith

  module _ (w : Site) (z : Declared) where
    new-first : (x : Declared) → FitsFirst x → (ds : List DeclTree) → w.declared ≡ d.with_decls before x ds
        → (name : Placed NameId) → Right (form.decl_name w x.count name) → named x.first name.item.0 ≡ None
    new-first x fits ds all name right = by (named x.first name.item.0) refl
      where
        by : (o : Option ℕ) → named x.first name.item.0 ≡ o → o ≡ None
        by None e = refl
        by (Some j) e =
            let still : named w.declared.first name.item.0 ≡ Some j =
            ap (λ (u : Declared). named u.first name.item.0) all ∙ first-still before x ds name.item.0 j e in
            let clear : unless (not (look.stands_before (Some j) x.count)) name.at ≡ None =
            ap (λ o. unless (not (look.stands_before o x.count)) name.at) (sym still) ∙ right.1 in
            let less : look.stands_before (Some j) x.count ≡ true = lt-ltb j x.count (fits.below name.item.0 j e) in
            absurd (none-some name.at (sym (ap (λ b. unless (not b) name.at) (sym less) ∙ clear)))

    class-found : (x y : Declared) (k : ClassTree) (ds : List DeclTree) (seen : DeclsSeen) → FitsFirst x
        → length x.classes ≡ seen.classes → length y.classes ≡ seen.classes → x.count ≡ seen.index
        → w.declared ≡ d.with_decls before x (tree.class k ∷ ds)
        → z ≡ d.with_decls names y (tree.class (weave k) ∷ map woven_decl ds)
        → Rights (p.forms_of_decl w seen (tree.class k)) → Also k → IsFound w z seen.classes k
    class-found x y k ds seen fits many also count all whole h more =
        let at : d.class_at w.declared (record { 0 = seen.classes }) ≡ Some (d.class_items x k).info =
        ap (λ (u : Declared). slice_get u.classes seen.classes) all
        ∙ (ap (λ l. slice_get l seen.classes) (classes-are before x (tree.class k ∷ ds))
        ∙ (ap (slice_get (x.classes ++ infos before x (tree.class k ∷ ds))) (sym many)
        ∙ at-seam x.classes (d.class_items x k).info (infos before (d.with_class x k) ds))) in
        let new : named x.first k.name.item.0 ≡ None =
        new-first x fits (tree.class k ∷ ds) all k.name
        (subst (λ i. Right (form.decl_name w i k.name)) (sym count) h.1.0) in
        let next : d.next_class x ≡ record { 0 = seen.classes } = ap (λ i. record { 0 = i }) many in
        let inner = subst (λ o. Rights (p.forms_of_class (p.in_class w seen) k o)) at h.1.1 in
        record {
          x = x;
          y = y;
          source_is = at;
          woven_is =
              ap (λ (u : Declared). slice_get u.classes seen.classes) whole
              ∙ (ap (λ l. slice_get l seen.classes) (classes-are names y (tree.class (weave k) ∷ map woven_decl ds))
              ∙ (ap (slice_get (y.classes ++ infos names y (tree.class (weave k) ∷ map woven_decl ds))) (sym also)
              ∙ at-seam y.classes (d.class_items y (weave k)).info
              (infos names (d.with_class y (weave k)) (map woven_decl ds))));
          named_is =
              ap (λ (u : Declared). named u.class_names k.name.item.0) all
              ∙ (class-still before (d.with_class x k) ds k.name.item.0 (d.next_class x)
              (named-new x.class_names k.name.item.0 (d.next_class x) (fits.classes k.name.item.0 new))
              ∙ ap Some next);
          index = seen.index;
          right = inner.1.1;
          also = more;
        }

    pub all-found : (x y : Declared) (ds : List DeclTree) (seen : DeclsSeen) → FitsFirst x
        → length x.classes ≡ seen.classes → length y.classes ≡ seen.classes → x.count ≡ seen.index
        → w.declared ≡ d.with_decls before x ds → z ≡ d.with_decls names y (map woven_decl ds)
        → Rights (p.forms_of_decls w seen ds) → OfEach ds → AllFound w z seen.classes ds
    all-found x y [] seen fits many also count all whole h each = tt
    all-found x y (tree.class k ∷ ds) seen fits many also count all whole h each = (
      class-found x y k ds seen fits many also count all whole (front (p.forms_of_decl w seen (tree.class k)) _ h)
          each.0,
      all-found (d.with_class x k) (d.with_class y (weave k)) ds (programs.next_seen (tree.class k) seen)
          (class-fits x fits k) (one-longer x k seen.classes many) (one-longer y (weave k) seen.classes also)
          (ap suc count) all whole
          (back (p.forms_of_decl w seen (tree.class k)) _ h) each.1,
    )
    all-found x y (tree.class_name k ∷ ds) seen fits many also count all whole h each =
        all-found (d.passed_over x) (d.passed_over y) ds (programs.next_seen (tree.class_name k) seen)
        (passed-fits x fits) many also (ap suc count) all whole h each
    all-found x y (tree.free_function f ∷ ds) seen fits many also count all whole h each =
        all-found (d.with_function before x f) (d.with_function names y f) ds
        (programs.next_seen (tree.free_function f) seen)
        (other-fits x fits f.name.item.0 (d.with_function before x f) refl refl refl) many also (ap suc count) all
        whole
        (back (p.forms_of_decl w seen (tree.free_function f)) _ h) each
    all-found x y (tree.proto f ∷ ds) seen fits many also count all whole h each =
        all-found (d.passed_over x) (d.passed_over y) ds (programs.next_seen (tree.proto f) seen) (passed-fits x fits)
        many also (ap suc count) all whole h each
    all-found x y (tree.global g ∷ ds) seen fits many also count all whole h each =
        all-found (d.with_global x g) (d.with_global y g) ds (programs.next_seen (tree.global g) seen)
        (other-fits x fits (d.global_name g).0 (d.with_global x g) refl refl refl) many also (ap suc count) all whole
        (back (p.forms_of_decl w seen (tree.global g)) _ h) each

    -- the class with a number
    found-at : (x : Declared) (ds : List DeclTree) (class : ℕ) → AllFound w z class ds → (i : ℕ) (info : ClassInfo)
        → slice_get (infos before x ds) i ≡ Some info → (k : ClassTree) × IsFound w z (class + i) k
    found-at x [] class all i info e = absurd (none-some info e)
    found-at x (tree.class k ∷ ds) class all zero info e = (k, subst (λ j. IsFound w z j k) (omega arith) all.0)
    found-at x (tree.class k ∷ ds) class all (suc i) info e =
        let rest = found-at (d.with_class x k) ds (suc class) all.1 i info e in
        (rest.0, subst (λ j. IsFound w z j rest.0) (omega arith) rest.1)
    found-at x (tree.class_name k ∷ ds) class all i info e = found-at (d.passed_over x) ds class all i info e
    found-at x (tree.free_function f ∷ ds) class all i info e =
        found-at (d.with_function before x f) ds class all i info e
    found-at x (tree.proto f ∷ ds) class all i info e = found-at (d.passed_over x) ds class all i info e
    found-at x (tree.global g ∷ ds) class all i info e = found-at (d.with_global x g) ds class all i info e

    pub class-of : (ds : List DeclTree) → AllFound w z 0 ds → w.declared ≡ d.with_decls before d.empty ds
        → (b : ClassId) (info : ClassInfo) → d.class_at w.declared b ≡ Some info → (k : ClassTree) × IsFound w z b.0 k
    class-of ds all is b info e =
        let at : slice_get (infos before d.empty ds) b.0 ≡ Some info =
        sym (ap (λ (u : Declared). slice_get u.classes b.0) is
        ∙ ap (λ l. slice_get l b.0) (classes-are before d.empty ds)) ∙ e in
        let found = found-at d.empty ds 0 all b.0 info at in
        (found.0, subst (λ j. IsFound w z j found.0) (omega arith) found.1)
