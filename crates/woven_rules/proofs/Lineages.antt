-- Chains of bases: the bases of a class stand before it, and its lineage is its base's behind itself.
use Rattle.std.proofs.Common.{◌≡◌, ◌⊎◌, inl, inr, refl, sym, ap, ◌∙◌, subst, ℕ, zero, suc, ◌<◌, arith, Bool, true, false, List, [], ◌∷◌, ◌++◌, length, Option, Some, None, slice_get, nat_eq, if◌then◌else◌, length-append}
use Rattle.std.proofs.lemmas.Option.{none-some, same_Some}
use Rattle.agxx_base.specs.declared.ids.ClassId.{ClassId}
use Rattle.agxx_base.specs.declared.ids.NameId.{NameId}
use Rattle.cxx_tree.specs.declared.node.Placed.{Placed}
use Rattle.cxx_tree.specs.declared.program.Access.{Access}
use Rattle.cxx_tree.specs.Limits.{Every}
use Rattle.cxx_tree.specs.ProgramTree as tree
use Rattle.cxx_tree.specs.ProgramTree.{ItemTree, ClassTree, DeclTree}
use Rattle.cxx_names.specs.declared.declarations.ClassInfo.{ClassInfo}
use Rattle.cxx_names.specs.declared.declarations.Declared.{Declared}
use Rattle.cxx_names.specs.Declarations as d
use Rattle.cxx_names.specs.LookUp as look
use Rattle.cxx_names.specs.Tables.{named}
use Rattle.woven_rules.proofs.Tables.{named-with}
use Rattle.woven_rules.proofs.Standing.{behind, member_behind, function_behind, ctor_behind, dtor_behind}
use Rattle.protect_laws.proofs.Known.{every-by}

-- ---- lists

-- one more at the end
pub at-one-more : {A : Type 0} (xs : List A) (y : A) (i : ℕ) (z : A) → slice_get (xs ++ y ∷ []) i ≡ Some z
    → (slice_get xs i ≡ Some z) ⊎ ((length xs ≡ i) × (y ≡ z))
at-one-more [] y zero z e = inr (refl, same_Some y z e)
at-one-more [] y (suc i) z e = absurd (none-some z e)
at-one-more (x ∷ xs) y zero z e = inl e
at-one-more (x ∷ xs) y (suc i) z e = next (at-one-more xs y i z e)
  where
    next : (slice_get xs i ≡ Some z) ⊎ ((length xs ≡ i) × (y ≡ z))
        → (slice_get xs i ≡ Some z) ⊎ ((suc (length xs) ≡ suc i) × (y ≡ z))
    next (inl at) = inl at
    next (inr last) = inr (ap suc last.0, last.1)

pub at-front : {A : Type 0} (xs ys : List A) (i : ℕ) → i < length xs → slice_get (xs ++ ys) i ≡ slice_get xs i
at-front [] ys i below = absurd (omega arith)
at-front (x ∷ xs) ys zero below = refl
at-front (x ∷ xs) ys (suc i) below = at-front xs ys i (omega arith)

pub at-seam : {A : Type 0} (xs : List A) (y : A) (ys : List A) → slice_get (xs ++ y ∷ ys) (length xs) ≡ Some y
at-seam [] y ys = refl
at-seam (x ∷ xs) y ys = at-seam xs y ys

-- ---- what a class keeps behind its items

pub head-kept : (is : List ItemTree) (y : ClassInfo) (shown : Access) (count n : ℕ)
    → let z =
    behind y shown count n is in (z.name ≡ y.name) × (z.index ≡ y.index) × (z.base ≡ y.base)
    × (z.ancestors ≡ y.ancestors)
head-kept [] y shown count n = (refl, refl, refl, refl)
head-kept (tree.label at a ∷ is) y shown count n = head-kept is y a (suc count) n
head-kept (tree.member m ∷ is) y shown count n = head-kept is (member_behind y shown count n m) shown (suc count) n
head-kept (tree.function f ∷ is) y shown count n =
    head-kept is (function_behind y shown count n f) shown (suc count) (suc n)
head-kept (tree.ctor k ∷ is) y shown count n = head-kept is (ctor_behind y shown count n k) shown (suc count) (suc n)
head-kept (tree.dtor k ∷ is) y shown count n = head-kept is (dtor_behind y shown count n) shown (suc count) (suc n)

-- ---- bases stand before

pub record IsBuilt (x : Declared) : Type 0 where
  pub named_below : (k : ℕ) (c : ClassId) → named x.class_names k ≡ Some c → c.0 < length x.classes
  pub base_below : (i : ℕ) (info : ClassInfo) (b : ClassId) → slice_get x.classes i ≡ Some info → info.base ≡ Some b
      → b.0 < i
  pub fits : (i : ℕ) (info : ClassInfo) → slice_get x.classes i ≡ Some info
      → info.ancestors ≡ d.ancestors_below x info.base
  pub below : (i : ℕ) (info : ClassInfo) → slice_get x.classes i ≡ Some info → i < length x.classes

within : {A : Type 0} (xs : List A) (i : ℕ) (y : A) → slice_get xs i ≡ Some y → i < length xs
within [] i y e = absurd (none-some y e)
within (x ∷ xs) zero y e = omega arith
within (x ∷ xs) (suc i) y e = let rest = within xs i y e in omega arith

module _ (x : Declared) (built : IsBuilt x) (k : ClassTree) where
  abbrev info : ClassInfo
  info = (d.class_items x k).info

  abbrev more : Declared
  more = d.with_class x k

  head : (info.name ≡ k.name) × (info.index ≡ x.count) × (info.base ≡ d.base_named x k.base)
      × (info.ancestors ≡ d.ancestors_below x (d.base_named x k.base))
  head = head-kept k.items (d.class_begun x k) (d.default_access k.word) 0 x.numbered

  longer : length more.classes ≡ suc (length x.classes)
  longer = length-append x.classes (info ∷ []) ∙ omega arith

  base-within : (o : Option (Placed NameId)) (b : ClassId) → d.base_named x o ≡ Some b → b.0 < length x.classes
  base-within None b e = absurd (none-some b e)
  base-within (Some name) b e = built.named_below name.item.0 b e

  below-by : (o : Option ClassId) → ((b : ClassId) → o ≡ Some b → b.0 < length x.classes)
      → d.ancestors_below more o ≡ d.ancestors_below x o
  below-by None known = refl
  below-by (Some b) known = ap d.one_above (at-front x.classes (info ∷ []) b.0 (known b refl))

  new-name : (j : ℕ) (c : ClassId) → named more.class_names j ≡ Some c → c.0 < length more.classes
  new-name j c e =
      by (nat_eq j k.name.item.0) (named x.class_names j) refl
      (sym (named-with x.class_names k.name.item.0 (d.next_class x) j) ∙ e)
    where
      by : (t : Bool) (o : Option ClassId) → named x.class_names j ≡ o
          → look.or_next o (if t then Some (d.next_class x) else None) ≡ Some c → c.0 < length more.classes
      by t (Some y) is f = let old = built.named_below j c (is ∙ f) in let l = longer in omega arith
      by true None is f = let same : d.next_class x ≡ c = same_Some (d.next_class x) c f in let l =
          longer in let s : length x.classes ≡ c.0 = ap (λ (y : ClassId). y.0) same in omega arith
      by false None is f = absurd (none-some c f)

  base-of : (i : ℕ) (y : ClassInfo) (b : ClassId) → slice_get more.classes i ≡ Some y → y.base ≡ Some b → b.0 < i
  base-of i y b e is = by (at-one-more x.classes info i y e)
    where
      by : (slice_get x.classes i ≡ Some y) ⊎ ((length x.classes ≡ i) × (info ≡ y)) → b.0 < i
      by (inl old) = built.base_below i y b old is
      by (inr new) =
          let at : b.0 < length x.classes =
          base-within k.base b (sym head.2 ∙ (ap (λ (u : ClassInfo). u.base) new.1 ∙ is)) in
          let l = new.0 in omega arith

  fits-of : (i : ℕ) (y : ClassInfo) → slice_get more.classes i ≡ Some y → y.ancestors ≡ d.ancestors_below more y.base
  fits-of i y e = by (at-one-more x.classes info i y e)
    where
      by : (slice_get x.classes i ≡ Some y) ⊎ ((length x.classes ≡ i) × (info ≡ y))
          → y.ancestors ≡ d.ancestors_below more y.base
      by (inl old) =
          built.fits i y old ∙ sym (below-by y.base
          (λ b is. let low = built.base_below i y b old is in let high = built.below i y old in omega arith))
      by (inr new) =
          subst (λ (u : ClassInfo). u.ancestors ≡ d.ancestors_below more u.base) new.1
          (head.3 ∙ (ap (d.ancestors_below x) (sym head.2)
          ∙ sym (below-by info.base (λ b is. base-within k.base b (sym head.2 ∙ is)))))

  pub class-built : IsBuilt more
  class-built =
      record {
        named_below = new-name;
        base_below = base-of;
        fits = fits-of;
        below = λ i y e. within more.classes i y
            e;
      }

pub decls-built : (names : List (List ℕ)) (x : Declared) → IsBuilt x → (ds : List DeclTree)
    → IsBuilt (d.with_decls names x ds)
decls-built names x built [] = built
decls-built names x built (tree.class k ∷ ds) = decls-built names (d.with_class x k) (class-built x built k) ds
decls-built names x built (tree.class_name k ∷ ds) =
    decls-built names (d.passed_over x)
    (record {
      named_below = built.named_below;
      base_below = built.base_below;
      fits = built.fits;
      below =
          built.below;
    }) ds
decls-built names x built (tree.free_function f ∷ ds) =
    decls-built names (d.with_function names x f)
    (record {
      named_below = built.named_below;
      base_below = built.base_below;
      fits = built.fits;
      below =
          built.below;
    }) ds
decls-built names x built (tree.proto f ∷ ds) =
    decls-built names (d.passed_over x)
    (record {
      named_below = built.named_below;
      base_below = built.base_below;
      fits = built.fits;
      below =
          built.below;
    }) ds
decls-built names x built (tree.global g ∷ ds) =
    decls-built names (d.with_global x g)
    (record {
      named_below = built.named_below;
      base_below = built.base_below;
      fits = built.fits;
      below =
          built.below;
    }) ds

pub empty-built : IsBuilt d.empty
empty-built = record {
  named_below = λ k c e. absurd (none-some c e);
  base_below = λ i y b e is. absurd (none-some y e);
  fits = λ i y e. absurd (none-some y e);
  below = λ i y e. absurd (none-some y e);
}

-- ---- lineages

module _ (x : Declared) (built : IsBuilt x) where
  -- the lineage of a base, if there is one
  abbrev pub base_lineage : Option ClassId → List ClassId
  base_lineage None = []
  base_lineage (Some b) = look.lineage x b

  module _ (c : ClassId) (info : ClassInfo) (is : d.class_at x c ≡ Some info) where
    above-is : look.above x.classes info.ancestors c ≡ base_lineage info.base
    above-is = ap (λ n. look.above x.classes n c) (built.fits c.0 info is) ∙ by info.base refl
      where
        step : (o : Option ClassId) → info.base ≡ o → (n : ℕ)
            → look.above x.classes (suc n) c ≡ look.upwards (λ b. look.above x.classes n b) o
        step o same n =
            ap (λ u. look.upwards (λ b. look.above x.classes n b) (look.base_by u)) is
            ∙ ap (look.upwards (λ b. look.above x.classes n b)) same

        one : (b : ClassId) (o : Option ClassInfo) → info.base ≡ Some b → d.class_at x b ≡ o
            → look.above x.classes (d.one_above o) c ≡ look.lineage x b
        one b None same at =
            step (Some b) same 0 ∙ ap (λ n. b ∷ look.above x.classes n b) (sym (ap look.ancestors_by at))
        one b (Some y) same at =
            step (Some b) same y.ancestors ∙ ap (λ n. b ∷ look.above x.classes n b) (sym (ap look.ancestors_by at))

        by : (o : Option ClassId) → info.base ≡ o → look.above x.classes (d.ancestors_below x o) c ≡ base_lineage o
        by None same = refl
        by (Some b) same = one b (d.class_at x b) same refl

    pub lineage-is : look.lineage x c ≡ c ∷ base_lineage info.base
    lineage-is = ap (λ o. c ∷ look.above x.classes (look.ancestors_by o) c) is ∙ ap (λ cs. c ∷ cs) above-is

  above-below : (n : ℕ) (c : ClassId) → Every (λ (b : ClassId). b.0 < c.0) (look.above x.classes n c)
  above-below zero c = tt
  above-below (suc n) c = by (λ b. above-below n b) (d.class_at x c) refl
    where
      up : (o : Option ClassId) → ((b : ClassId) → o ≡ Some b → b.0 < c.0)
          → ((b : ClassId) → Every (λ (a : ClassId). a.0 < b.0) (look.above x.classes n b))
          → Every (λ (b : ClassId). b.0 < c.0) (look.upwards (λ b. look.above x.classes n b) o)
      up None low rest = tt
      up (Some b) low rest =
          let first = low b refl in (
            first,
            every-by (λ (a : ClassId). a.0 < b.0) (λ (a : ClassId). a.0 < c.0) (λ a less. omega arith)
                (look.above x.classes n b) (rest b),
          )

      by : ((b : ClassId) → Every (λ (a : ClassId). a.0 < b.0) (look.above x.classes n b)) → (o : Option ClassInfo)
          → d.class_at x c ≡ o → Every (λ (b : ClassId). b.0 < c.0)
          (look.upwards (λ b. look.above x.classes n b) (look.base_by (d.class_at x c)))
      by rest None at =
          subst (λ o. Every (λ (b : ClassId). b.0 < c.0)
          (look.upwards (λ b. look.above x.classes n b) (look.base_by o))) (sym at) tt
      by rest (Some y) at =
          subst (λ o. Every (λ (b : ClassId). b.0 < c.0)
          (look.upwards (λ b. look.above x.classes n b) (look.base_by o))) (sym at)
          (up y.base (λ b is. built.base_below c.0 y b at is) rest)

  -- the classes above one stand before it
  pub base-lineage-below : (c : ClassId) (info : ClassInfo) → d.class_at x c ≡ Some info
      → Every (λ (b : ClassId). b.0 < c.0) (base_lineage info.base)
  base-lineage-below c info is =
      subst (Every (λ (b : ClassId). b.0 < c.0)) (above-is c info is) (above-below info.ancestors c)
