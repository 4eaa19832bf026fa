-- The declarations of a program, once bodies are wrapped and items are added at the ends of classes.
use Rattle.std.proofs.Common.{◌≡◌, ◌≢◌, refl, sym, ap, ◌∙◌, subst, ℕ, suc, ◌≤◌, ◌<◌, not, List, [], ◌∷◌, ◌++◌, map, Option, Some, None, is_some}
use Rattle.agxx_base.specs.declared.ids.ClassId.{ClassId}
use Rattle.agxx_base.specs.declared.ids.NameId.{NameId}
use Rattle.cxx_tree.specs.declared.node.Placed.{Placed}
use Rattle.cxx_tree.specs.declared.program.Const.{Const}
use Rattle.cxx_tree.specs.declared.program.TypeName.{TypeName}
use Rattle.cxx_tree.specs.Limits.{Every}
use Rattle.cxx_tree.specs.ProgramTree as tree
use Rattle.cxx_tree.specs.ProgramTree.{ItemTree, ClassTree, ObjectTree, GlobalTree, DeclTree}
use Rattle.cxx_names.specs.declared.declarations.ClassInfo.{ClassInfo}
use Rattle.cxx_names.specs.Declarations.{class_at}
use Rattle.cxx_names.specs.LookUp.{thing_of, stands_before}
use Rattle.cxx_names.specs.Tables.{named}
use Rattle.cxx_distinct.specs.NamesIn as n
use Rattle.cxx_types.specs.declared.context.Context.{Context}
use Rattle.cxx_types.specs.declared.context.Owner.TheVariants as owner
use Rattle.cxx_types.specs.declared.programs.DeclsSeen.{DeclsSeen}
use Rattle.cxx_types.specs.Callable.{Callable}
use Rattle.cxx_types.specs.Conversion.{may_convert}
use Rattle.cxx_types.specs.Selections.{value_of}
use Rattle.cxx_types.specs.Expressions.{count}
use Rattle.cxx_types.specs.Classes as c
use Rattle.cxx_types.specs.Programs as d
use Rattle.cxx_types.specs.Programs.{outside, global_place, const_type}
use Rattle.cxx_rules.specs.Sites as at
use Rattle.cxx_rules.specs.Sites.{Site}
use Rattle.cxx_rules.specs.Types as typed
use Rattle.cxx_rules.specs.Forms as form
use Rattle.cxx_rules.specs.StmtForms as f
use Rattle.cxx_rules.specs.ProgramForms as p
use Rattle.cxx_rules.specs.Unless.{unless}
use Rattle.cxx_rules.specs.NotAccessible as n6
use Rattle.protect.specs.Protected as z
use Rattle.protect.specs.GeneratedNames.{returns_of}
use Rattle.woven_rules.specs.WovenRules.{HasPlainType}
use Rattle.woven_rules.proofs.Right.{Right, Rights, front, back, joined}
use Rattle.woven_rules.proofs.Wider.{IsWiderAt, IsWiderClass, class-same, thing-same}
use Rattle.woven_rules.proofs.Seen.{OwnNames, own-front, own-back, Both, source, woven, may-convert-same, dtor-same}
use Rattle.woven_rules.proofs.Typed.{creatable-same}
use Rattle.woven_rules.proofs.MovedExpressions.{arguments-right, n4-creation, n6-creation, usable-by}
use Rattle.woven_rules.proofs.MovedStatements.{variable-type-right, counted-right}
use Rattle.woven_rules.proofs.MappedRight.{IsFresh}
use Rattle.woven_rules.proofs.WrappedRight.{value_at}
use Rattle.woven_rules.proofs.MovedClasses.{head-right}
use Rattle.woven_rules.proofs.WrappedClasses.{seen_after, same-function-right, IsInside, items-right}

module _ (Own : ℕ → Type 0) (b : Both Own) where
  abbrev w : Site
  w = source Own b

  abbrev v : Site
  v = woven Own b

  decl-name-right : (index : ℕ) (name : Placed NameId) → Right (form.decl_name w index name)
      → Right (form.decl_name v index name)
  decl-name-right index name h = (
    refl,
    ap (λ t. unless (not (stands_before (named t name.item.0) index)) name.at) b.wide.first
        ∙ h.1,
    refl,
    refl,
    refl,
    refl,
    refl,
    refl,
    refl,
  )

  constant-right : (t : TypeName) (o : Option (Placed Const))
      → Rights (f.forms_of_optional (p.forms_of_constant w t) o)
      → Rights (f.forms_of_optional (p.forms_of_constant v t) o)
  constant-right t None h = tt
  constant-right t (Some k) h = (
    (
      refl,
      refl,
      ap (λ u. unless (may_convert b.z (Some (const_type k.item)) (value_of u)) k.at)
          (thing-same Own b.d b.z b.wide t)
          ∙ (ap (λ u. unless u k.at) (may-convert-same Own b.d b.z b.wide (Some (const_type k.item))
          (value_of (thing_of b.d t))) ∙ h.0.2),
      refl,
      refl,
      refl,
      refl,
      refl,
      refl,
    ),
    tt,
  )

  destroyed-by : (o : ObjectTree) (k : Option ClassId)
      → n6.destructor_not_accessible v o.name.at k ≡ n6.destructor_not_accessible w o.name.at k
  destroyed-by o None = refl
  destroyed-by o (Some class) =
      ap (λ u. unless u o.name.at) (usable-by Own b class (at.dtor_meant w class) (at.dtor_meant v class)
      (dtor-same Own b.d b.z b.wide class))

  object-right : (o : ObjectTree) → OwnNames Own (n.names_in_global (tree.object o))
      → Rights (p.forms_of_global w (tree.object o)) → Rights (p.forms_of_global v (tree.object o))
  object-right o own h = (
    (
      ap (λ u. unless (is_some u) o.class.at) (class-same Own b.d b.z b.wide o.class.item.0) ∙ h.0.0,
      refl,
      refl,
      n4-creation Own b o.name.at o.class (count o.arguments) ∙ h.0.3,
      refl,
      n6-creation Own b o.name.at o.class ∙ h.0.5,
      refl,
      refl,
      refl,
    ),
    (
      (
        refl,
        refl,
        refl,
        refl,
        refl,
        ap (n6.destructor_not_accessible v o.name.at) (class-same Own b.d b.z b.wide o.class.item.0)
            ∙ (destroyed-by o (at.class_meant w o.class) ∙ h.1.0.5),
        refl,
        refl,
        refl,
      ),
      subst (λ (k : Callable). Rights (form.forms_of_arguments v k.params o.arguments))
          (sym (creatable-same Own b o.class (count o.arguments)))
          (arguments-right Own b (typed.creatable w o.class (count o.arguments)).params o.arguments own.1.1 h.1.1),
    ),
  )

  global-right : (g : GlobalTree) → OwnNames Own (n.names_in_global g) → Rights (p.forms_of_global w g)
      → Rights (p.forms_of_global v g)
  global-right (tree.variable x) own h =
      (variable-type-right Own b x.type_name h.0, constant-right x.type_name.item x.initial h.1)
  global-right (tree.object o) own h = object-right o own h
  global-right (tree.mutex place name) own h = tt

module _ (Own : ℕ → Type 0) (most : ℕ) (names : List (List ℕ))
    (foreign : (i j : ℕ) → i < most → Own j → (value_at names i).0 ≢ j)
    (differ : (i j : ℕ) → i < most → j < most → i ≢ j → (value_at names i).0 ≢ (value_at names j).0)
    (parts : ClassTree → List NameId) (added : ClassTree → List ItemTree) where
  -- a class with the items that are added to it
  abbrev pub protected_class : ClassTree → ClassTree
  protected_class k = record k { items = map (z.wrapped_item names (parts k)) k.items ++ added k }

  abbrev pub protected_decl : DeclTree → DeclTree
  protected_decl (tree.class k) = tree.class (protected_class k)
  protected_decl (tree.class_name k) = tree.class_name k
  protected_decl (tree.free_function g) = tree.free_function g
  protected_decl (tree.proto g) = tree.proto g
  protected_decl (tree.global g) = tree.global g

  -- in a function of the class of this number, in a declaration of this place
  abbrev pub inside_class : ℕ → ℕ → Context
  inside_class class index = record { class = Some (record { 0 = class }); owner = owner.Lifecycle; index = index }

  -- what is known of a class with this number: what becomes of it, that its functions may enter and leave, and that the
  -- items that are added violate no rule
  pub record IsMade (b : Both Own) (class : ℕ) (k : ClassTree) : Type 0 where
    pub info : ClassInfo
    pub is : class_at b.z (record { 0 = class }) ≡ Some info
    pub inside : (index : ℕ) → IsInside Own most names foreign differ (parts k) b.z (inside_class class index)
    pub right : (index : ℕ) → Rights
        (p.forms_of_items (woven Own (record b { context = inside_class class index })) k.base info
        (seen_after c.none_seen k.items) (added k))
    pub plain : Every HasPlainType k.items
    pub few : Every (λ i. returns_of i ≤ most) k.items

  -- the same of each class, where so many stand before
  abbrev pub AreMade : Both Own → ℕ → List DeclTree → Type 0
  AreMade b class [] = Unit {0}
  AreMade b class (tree.class k ∷ ds) = IsMade b class k × AreMade b (suc class) ds
  AreMade b class (tree.class_name k ∷ ds) = AreMade b class ds
  AreMade b class (tree.free_function g ∷ ds) = AreMade b class ds
  AreMade b class (tree.proto g ∷ ds) = AreMade b class ds
  AreMade b class (tree.global g ∷ ds) = AreMade b class ds

  module _ (b : Both Own) (fresh : IsFresh Own most (value_at names) 0 b.t) where
    class-right : (seen : DeclsSeen) (k : ClassTree) → IsMade b seen.classes k → OwnNames Own (n.names_in_class k)
        → Rights (p.forms_of_class (p.in_class (source Own b) seen) k (class_at b.d (record { 0 = seen.classes })))
        → Rights (p.forms_of_class (p.in_class (woven Own b) seen) (protected_class k)
        (class_at b.z (record { 0 = seen.classes })))
    class-right seen k made own h =
        subst (λ o. Rights (p.forms_of_class (p.in_class (woven Own b) seen) (protected_class k) o)) (sym made.is)
        (by (class_at b.d class) refl (subst (λ o. IsWiderAt Own (class_at b.d class) o) made.is
        (b.wide.classes class)) h)
      where
        class : ClassId
        class = record { 0 = seen.classes }

        inner : Both Own
        inner = record b { context = inside_class seen.classes seen.index }

        by : (o : Option ClassInfo) → class_at b.d class ≡ o → IsWiderAt Own (class_at b.d class) (Some made.info)
            → Rights (p.forms_of_class (p.in_class (source Own b) seen) k (class_at b.d class))
            → Rights (p.forms_of_class (p.in_class (woven Own b) seen) (protected_class k) (Some made.info))
        by None e wide right = absurd (subst (λ o. IsWiderAt Own o (Some made.info)) e wide)
        by (Some x) e wide right =
            let wider : IsWiderClass Own x made.info = subst (λ o. IsWiderAt Own o (Some made.info)) e wide in
            let h' = subst (λ o. Rights (p.forms_of_class (p.in_class (source Own b) seen) k o)) e right in (
              head-right Own inner x made.info wider k.base h'.0,
              (
                counted-right Own inner form.ancestors made.info.ancestors made.info.name.at,
                items-right Own most names foreign differ (parts k) x made.info wider k.base inner
                    (made.inside seen.index) fresh c.none_seen k.items made.plain made.few
                    (own-back Own (n.names_in_base_of k.base) _ own.1) h'.1.1 (added k) (made.right seen.index),
              ),
            )

    decl-right : (seen : DeclsSeen) (x : DeclTree) → AreMade b seen.classes (x ∷ [])
        → OwnNames Own (n.names_in_decl x) → Rights (p.forms_of_decl (source Own b) seen x)
        → Rights (p.forms_of_decl (woven Own b) seen (protected_decl x))
    decl-right seen (tree.class k) made own h = (
      counted-right Own b form.classes seen.classes k.name.at,
      (decl-name-right Own b seen.index k.name h.1.0, class-right seen k made.0 own h.1.1),
    )
    decl-right seen (tree.class_name k) made own h = tt
    decl-right seen (tree.free_function g) made own h =
        let inner : Both Own =
        record b { context = record { class = None; owner = owner.Function g.result.item; index = seen.index } }
        in (
          counted-right Own b form.functions seen.functions g.name.at,
          (
            decl-name-right Own b seen.index g.name h.1.0,
            same-function-right Own most names foreign differ inner g
                own h.1.1,
          ),
        )
    decl-right seen (tree.proto g) made own h = tt
    decl-right seen (tree.global g) made own h =
        let inner : Both Own = record b { context = outside seen.index } in (
          counted-right Own b form.globals seen.globals (global_place g).at,
          (decl-name-right Own b seen.index (global_place g) h.1.0, global-right Own inner g own h.1.1),
        )

    first-made : (class : ℕ) (x : DeclTree) (xs : List DeclTree) → AreMade b class (x ∷ xs) → AreMade b class (x ∷ [])
    first-made class (tree.class k) xs made = (made.0, tt)
    first-made class (tree.class_name k) xs made = tt
    first-made class (tree.free_function g) xs made = tt
    first-made class (tree.proto g) xs made = tt
    first-made class (tree.global g) xs made = tt

    later-made : (seen : DeclsSeen) (x : DeclTree) (xs : List DeclTree) → AreMade b seen.classes (x ∷ xs)
        → AreMade b (d.next_seen x seen).classes xs
    later-made seen (tree.class k) xs made = made.1
    later-made seen (tree.class_name k) xs made = made
    later-made seen (tree.free_function g) xs made = made
    later-made seen (tree.proto g) xs made = made
    later-made seen (tree.global g) xs made = made

    next-same : (x : DeclTree) (seen : DeclsSeen) → d.next_seen (protected_decl x) seen ≡ d.next_seen x seen
    next-same (tree.class k) seen = refl
    next-same (tree.class_name k) seen = refl
    next-same (tree.free_function g) seen = refl
    next-same (tree.proto g) seen = refl
    next-same (tree.global g) seen = refl

    pub decls-right : (seen : DeclsSeen) (xs : List DeclTree) → AreMade b seen.classes xs
        → OwnNames Own (n.names_in_each n.names_in_decl xs) → Rights (p.forms_of_decls (source Own b) seen xs)
        → Rights (p.forms_of_decls (woven Own b) seen (map protected_decl xs))
    decls-right seen [] made own h = tt
    decls-right seen (x ∷ xs) made own h =
        joined (p.forms_of_decl (woven Own b) seen (protected_decl x)) _
        (decl-right seen x (first-made seen.classes x xs made) (own-front Own (n.names_in_decl x) _ own)
        (front (p.forms_of_decl (source Own b) seen x) _ h))
        (subst (λ u. Rights (p.forms_of_decls (woven Own b) u (map protected_decl xs))) (sym (next-same x seen))
        (decls-right (d.next_seen x seen) xs (later-made seen x xs made) (own-back Own (n.names_in_decl x) _ own)
        (back (p.forms_of_decl (source Own b) seen x) _ h)))
