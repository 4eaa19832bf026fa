-- What stands in classes, bodies aside, and violates no rule violates none where others are added.
use Rattle.std.proofs.Common.{◌≡◌, refl, sym, ap, ◌∙◌, subst, ℕ, suc, Bool, true, false, not, List, [], ◌∷◌, ◌++◌, Option, Some, None, option_map, is_some}
use Rattle.agxx_base.specs.declared.ids.ClassId.{ClassId}
use Rattle.agxx_base.specs.declared.ids.NameId.{NameId}
use Rattle.agxx_base.specs.declared.place.Place.{Place}
use Rattle.cxx_tree.specs.declared.node.Placed.{Placed}
use Rattle.cxx_tree.specs.declared.expr.Left.{Left}
use Rattle.cxx_tree.specs.declared.expr.Left.TheVariants as left_of
use Rattle.cxx_tree.specs.declared.program.Member.{Member}
use Rattle.cxx_tree.specs.declared.program.Param.{Param}
use Rattle.cxx_tree.specs.ExprTree as e
use Rattle.cxx_tree.specs.ExprTree.{ExprTree, ExprTrees}
use Rattle.cxx_tree.specs.Places.{expr_node}
use Rattle.cxx_tree.specs.ProgramTree as tree
use Rattle.cxx_tree.specs.ProgramTree.{InitTree}
use Rattle.cxx_names.specs.declared.declarations.ClassInfo.{ClassInfo}
use Rattle.cxx_names.specs.declared.declarations.MemberInfo.{MemberInfo}
use Rattle.cxx_names.specs.declared.declarations.Signature.{Signature}
use Rattle.cxx_names.specs.declared.types.Thing.{Thing}
use Rattle.cxx_names.specs.LookUp.{thing_of, stands_before}
use Rattle.cxx_names.specs.Tables.{named, with_name}
use Rattle.cxx_distinct.specs.NamesIn as n
use Rattle.cxx_types.specs.Selections.{is_value}
use Rattle.cxx_types.specs.Calls.{counts, ctor_of}
use Rattle.cxx_types.specs.Statements.{dtor_of}
use Rattle.cxx_types.specs.Expressions.{count, both}
use Rattle.cxx_types.specs.declared.classes.ItemsSeen.{ItemsSeen}
use Rattle.cxx_types.specs.Classes as c
use Rattle.cxx_rules.specs.Sites.{Site}
use Rattle.cxx_rules.specs.Forms as form
use Rattle.cxx_rules.specs.ProgramForms as p
use Rattle.cxx_rules.specs.Unless.{unless}
use Rattle.cxx_rules.specs.BaseNotDeclaredBefore.{base_not_declared_before_at}
use Rattle.cxx_rules.specs.DeclaredTwice as n2
use Rattle.cxx_rules.specs.TypesDisagree as n3
use Rattle.cxx_rules.specs.WrongNumberOfArguments as n4
use Rattle.cxx_rules.specs.NotAllowedHere as n8
use Rattle.woven_rules.proofs.Tables.{same-with}
use Rattle.woven_rules.proofs.Right.{Right, Rights, front, back, joined}
use Rattle.woven_rules.proofs.Wider.{plain, IsWiderClass, thing-same, item-same}
use Rattle.woven_rules.proofs.Seen.{OwnNames, own-front, own-back, Both, source, woven, meant-same, ctor-same, dtor-same}
use Rattle.woven_rules.proofs.Typed.{by-plain}
use Rattle.woven_rules.proofs.MovedExpressions.{expr-right, arguments-right}
use Rattle.woven_rules.proofs.MovedStatements.{variable-type-right, local-name-right, apart-right, counted-right, converts-to}

-- ---- parameters

module _ (Own : ℕ → Type 0) where
  abbrev pub IsAlike : List (ℕ × Thing) → List (ℕ × Thing) → Type 0
  IsAlike s t = (j : ℕ) → Own j → named t j ≡ named s j

  pub same-param : (b : Both Own) (q : Param)
      → IsAlike (with_name b.s q.name.item.0 (thing_of b.d q.type_name.item))
      (with_name b.t q.name.item.0 (thing_of b.z q.type_name.item))
  same-param b q i other =
      ap (λ (u : Thing). named (with_name b.t q.name.item.0 u) i) (thing-same Own b.d b.z b.wide q.type_name.item)
      ∙ same-with b.s b.t q.name.item.0 (thing_of b.d q.type_name.item) i (b.same i other)

  -- where a parameter is in scope
  abbrev pub with_param : Both Own → Param → Both Own
  with_param b q = record b {
    s = with_name b.s q.name.item.0 (thing_of b.d q.type_name.item);
    t = with_name b.t q.name.item.0 (thing_of b.z q.type_name.item);
    same = same-param b q;
  }

  pub same-params : (b : Both Own) (qs : List Param) → IsAlike (p.scope_with b.d b.s qs) (p.scope_with b.z b.t qs)
  same-params b [] = b.same
  same-params b (q ∷ qs) = same-params (with_param b q) qs

  -- where these parameters are in scope
  abbrev pub with_params : Both Own → List Param → Both Own
  with_params b qs = record b { s = p.scope_with b.d b.s qs; t = p.scope_with b.z b.t qs; same = same-params b qs }

  pub params-right : (b : Both Own) (index : ℕ) (qs : List Param) → OwnNames Own (n.names_in_params qs)
      → Rights (p.forms_of_params (source Own b) index qs) → Rights (p.forms_of_params (woven Own b) index qs)
  params-right b index [] own h = tt
  params-right b index (q ∷ qs) own h =
      let here =
      own-back Own (n.names_in_type q.type_name) _
      (own-front Own (n.names_in_type q.type_name ++ q.name ∷ []) _ own) in (
        variable-type-right Own b q.type_name h.0,
        (
          counted-right Own b form.params index q.name.at,
          (
            local-name-right Own b q.name here.0 h.1.1.0,
            (
              apart-right Own b q.name h.1.1.1.0,
              params-right (with_param b q) (suc index) qs
                  (own-back Own (n.names_in_type q.type_name ++ q.name ∷ []) _ own) h.1.1.1.1,
            ),
          ),
        ),
      )

module _ (Own : ℕ → Type 0) (b : Both Own) where
  abbrev w : Site
  w = source Own b

  abbrev v : Site
  v = woven Own b

  -- ---- whether an expression names a member or calls

  left-members-same : (x : Left) → OwnNames Own (n.names_in_left x)
      → n8.left_names_member v x ≡ n8.left_names_member w x
  left-members-same (left_of.Name r) own = ap c.of_member (meant-same Own b r own.0)
  left-members-same (left_of.Member node q) own = refl
  left-members-same (left_of.Result node) own = refl

  mutual
    members-same : (x : ExprTree) → OwnNames Own (n.names_in_expr x) → n8.uses_members v x ≡ n8.uses_members w x
    members-same (e.lit node number) own = refl
    members-same (e.flag node is_set) own = refl
    members-same (e.null node) own = refl
    members-same (e.this node) own = refl
    members-same (e.left x) own = left-members-same x own
    members-same (e.unary node o x) own = members-same x own
    members-same (e.binary node o x y) own =
        ap (λ u. c.either u (n8.uses_members v y)) (members-same x (own-front Own (n.names_in_expr x) _ own))
        ∙ ap (c.either (n8.uses_members w x)) (members-same y (own-back Own (n.names_in_expr x) _ own))
    members-same (e.paren node x) own = members-same x own
    members-same (e.cast node t x) own = members-same x own
    members-same (e.call k) own = refl
    members-same (e.new node class) own = refl
    members-same (e.new_with node class arguments) own = any-members-same arguments own.1

    any-members-same : (xs : ExprTrees) → OwnNames Own (n.names_in_exprs xs)
        → n8.any_uses_members v xs ≡ n8.any_uses_members w xs
    any-members-same e.no_exprs own = refl
    any-members-same (e.more_exprs first rest) own =
        ap (λ u. c.either u (n8.any_uses_members v rest))
        (members-same first (own-front Own (n.names_in_expr first) _ own))
        ∙ ap (c.either (n8.uses_members w first)) (any-members-same rest (own-back Own (n.names_in_expr first) _ own))

  base-arguments-right : (xs : ExprTrees) → OwnNames Own (n.names_in_exprs xs)
      → Rights (p.forms_of_base_arguments w xs) → Rights (p.forms_of_base_arguments v xs)
  base-arguments-right e.no_exprs own h = tt
  base-arguments-right (e.more_exprs first rest) own h = (
    (
      refl,
      refl,
      refl,
      refl,
      refl,
      refl,
      refl,
      ap (λ y. unless (not y) (expr_node first).at)
          (members-same first (own-front Own (n.names_in_expr first) _ own)) ∙ h.0.7,
      refl,
    ),
    base-arguments-right rest (own-back Own (n.names_in_expr first) _ own) h.1,
  )

  -- ---- a class, and what becomes of it

  module _ (x y : ClassInfo) (wide : IsWiderClass Own x y) where
    base-ctor-by : (o : Option ClassId)
        → option_map plain (ctor_of (c.base_info b.z o)) ≡ option_map plain (ctor_of (c.base_info b.d o))
    base-ctor-by None = refl
    base-ctor-by (Some class) = ctor-same Own b.d b.z b.wide class

    base-dtor-by : (o : Option ClassId)
        → option_map plain (dtor_of (c.base_info b.z o)) ≡ option_map plain (dtor_of (c.base_info b.d o))
    base-dtor-by None = refl
    base-dtor-by (Some class) = dtor-same Own b.d b.z b.wide class

    base-ctor-same : option_map plain (c.base_ctor_in b.z y) ≡ option_map plain (c.base_ctor_in b.d x)
    base-ctor-same = ap (λ o. option_map plain (ctor_of (c.base_info b.z o))) wide.base ∙ base-ctor-by x.base

    base-dtor-same : option_map plain (c.base_dtor_in b.z y) ≡ option_map plain (c.base_dtor_in b.d x)
    base-dtor-same = ap (λ o. option_map plain (dtor_of (c.base_info b.z o))) wide.base ∙ base-dtor-by x.base

    params-plain : (o : Option Signature) → c.base_params o ≡ c.base_params (option_map plain o)
    params-plain None = refl
    params-plain (Some f) = refl

    derivable-plain : (o : Option Signature) → c.is_derivable o ≡ c.is_derivable (option_map plain o)
    derivable-plain None = refl
    derivable-plain (Some f) = refl

    pub base-params-same : c.base_params (c.base_ctor_in b.z y) ≡ c.base_params (c.base_ctor_in b.d x)
    base-params-same =
        by-plain c.base_params (option_map plain) params-plain (c.base_ctor_in b.d x) (c.base_ctor_in b.z y)
        base-ctor-same

    pub head-right : (base : Option (Placed NameId)) → Right (form.head w base x) → Right (form.head v base y)
    head-right base h = (refl, refl, refl, refl, before base h.4, derivable, refl, refl, refl)
      where
        before : (o : Option (Placed NameId)) → base_not_declared_before_at (form.head w o x) ≡ None
            → base_not_declared_before_at (form.head v o y) ≡ None
        before None right = refl
        before (Some name) right = ap (λ u. unless (is_some u) name.at) wide.base ∙ right

        derivable : unless (both (c.is_derivable (c.base_ctor_in b.z y)) (c.is_derivable (c.base_dtor_in b.z y)))
            y.name.at ≡ None
        derivable =
            ap (λ u. unless (both u (c.is_derivable (c.base_dtor_in b.z y))) y.name.at)
            (by-plain c.is_derivable (option_map plain) derivable-plain (c.base_ctor_in b.d x)
            (c.base_ctor_in b.z y) base-ctor-same)
            ∙ (ap (λ u. unless (both (c.is_derivable (c.base_ctor_in b.d x)) u) y.name.at)
            (by-plain c.is_derivable (option_map plain) derivable-plain (c.base_dtor_in b.d x)
            (c.base_dtor_in b.z y) base-dtor-same)
            ∙ (ap (λ (u : Placed NameId). unless
            (both (c.is_derivable (c.base_ctor_in b.d x)) (c.is_derivable (c.base_dtor_in b.d x))) u.at) wide.name
            ∙ h.5))

    pub lifecycle-right : (name : Placed NameId) → Right (form.lifecycle x name) → Right (form.lifecycle y name)
    lifecycle-right name h = (
      ap (λ (u : Placed NameId). unless (c.same_name u.item name) name.at) wide.name
          ∙ h.0,
      refl,
      refl,
      refl,
      refl,
      refl,
      refl,
      refl,
      refl,
    )

    inherited-by : (o : Option ClassId) (name : Placed NameId) → Own name.item.0
        → n2.is_inherited v o name ≡ n2.is_inherited w o name
    inherited-by None name own = refl
    inherited-by (Some base) name own = item-same Own b.d b.z b.wide name.item.0 own base

    pub item-name-right : (index : ℕ) (name : Placed NameId) → Own name.item.0 → Right (form.item_name w x index name)
        → Right (form.item_name v y index name)
    item-name-right index name own h = (
      refl,
      ap (λ o. unless (not (c.either (stands_before o index) (n2.is_inherited v y.base name))) name.at)
          (wide.items name.item.0 own)
          ∙ (ap (λ o. unless (not (c.either (stands_before (named x.items name.item.0) index)
          (n2.is_inherited v o name))) name.at) wide.base
          ∙ (ap (λ u. unless (not (c.either (stands_before (named x.items name.item.0) index) u)) name.at)
          (inherited-by x.base name own) ∙ h.1)),
      refl,
      refl,
      refl,
      refl,
      refl,
      refl,
      refl,
    )

    pub without-right : (name : Placed NameId) (is : Bool) → Rights (p.forms_without w x name is)
        → Rights (p.forms_without v y name is)
    without-right name true h = tt
    without-right name false h = (
      (
        refl,
        refl,
        refl,
        ap (λ ps. unless (counts 0 ps) name.at) base-params-same
            ∙ h.0.3,
        refl,
        refl,
        refl,
        refl,
        refl,
      ),
      tt,
    )

    -- ---- initialisers

    base-init-right : (i : InitTree) → OwnNames Own (n.names_in_init i) → Rights (p.forms_of_base_init w x i)
        → Rights (p.forms_of_base_init v y i)
    base-init-right i own h = (
      (
        refl,
        refl,
        refl,
        ap (λ ps. unless (counts (count i.arguments) ps) i.name.at) base-params-same
            ∙ h.0.3,
        refl,
        refl,
        refl,
        refl,
        refl,
      ),
      joined (p.forms_of_base_arguments v i.arguments) _
          (base-arguments-right i.arguments own.1 (front (p.forms_of_base_arguments w i.arguments) _ h.1))
          (subst (λ ps. Rights (form.forms_of_arguments v ps i.arguments)) (sym base-params-same)
          (arguments-right Own b (c.base_params (c.base_ctor_in b.d x)) i.arguments own.1
          (back (p.forms_of_base_arguments w i.arguments) _ h.1))),
    )

    mutex-same : (place : Place) (o : Option MemberInfo)
        → n3.mutex_initialised v place o ≡ n3.mutex_initialised w place o
    mutex-same place None = refl
    mutex-same place (Some m) = ap (λ t. unless (is_value t) place) (thing-same Own b.d b.z b.wide m.type_name)

    values-right : (name : Placed NameId) (o : Option MemberInfo) (xs : ExprTrees)
        → OwnNames Own (n.names_in_exprs xs) → Rights (p.forms_of_values w name o xs)
        → Rights (p.forms_of_values v name o xs)
    values-right name None xs own h = arguments-right Own b [] xs own h
    values-right name (Some m) e.no_exprs own h = tt
    values-right name (Some m) (e.more_exprs first rest) own h =
        let here = own-front Own (n.names_in_expr first) _ own in
        let later = back (form.forms_of w first) _ h in
        joined (form.forms_of v first) _ (expr-right Own b first here (front (form.forms_of w first) _ h)) (
          (
            refl,
            refl,
            ap (λ u. unless u name.at) (converts-to Own b first m.type_name here)
                ∙ later.0.2,
            refl,
            refl,
            refl,
            refl,
            refl,
            refl,
          ),
          arguments-right Own b [] rest
              (own-back Own (n.names_in_expr first) _ own) later.1,
        )

    member-init-right : (i : InitTree) → OwnNames Own (n.names_in_init i) → Rights (p.forms_of_member_init w x i)
        → Rights (p.forms_of_member_init v y i)
    member-init-right i own h =
        let same = wide.members i.name.item.0 own.0 in (
          (
            ap (λ o. unless (is_some o) i.name.at) same ∙ h.0.0,
            refl,
            ap (n3.mutex_initialised v i.name.at) same
                ∙ (mutex-same i.name.at (named x.members i.name.item.0) ∙ h.0.2),
            ap (n4.member_wrong_number i.name.at (count i.arguments)) same ∙ h.0.3,
            refl,
            refl,
            refl,
            refl,
            refl,
          ),
          subst (λ o. Rights (p.forms_of_values v i.name o i.arguments)) (sym same)
              (values-right i.name (named x.members i.name.item.0) i.arguments own.1 h.1),
        )

    init-right : (i : InitTree) (is : Bool) → OwnNames Own (n.names_in_init i) → Rights (p.forms_of_init w x i is)
        → Rights (p.forms_of_init v y i is)
    init-right i true own h = base-init-right i own h
    init-right i false own h = member-init-right i own h

    names-base-same : (base : Option (Placed NameId)) (name : Placed NameId)
        → c.names_base base y name ≡ c.names_base base x name
    names-base-same base name = ap (λ o. both (is_some o) (c.names_by base name)) wide.base

    pub inits-right : (base : Option (Placed NameId)) (before : List (ℕ × ℕ)) (is : List InitTree)
        → OwnNames Own (n.names_in_each n.names_in_init is) → Rights (p.forms_of_inits w base x before is)
        → Rights (p.forms_of_inits v base y before is)
    inits-right base before [] own h = tt
    inits-right base before (i ∷ is) own h =
        let here = own-front Own (n.names_in_init i) _ own in
        let first = p.forms_of_init w x i (c.names_base base x i.name) in (
          h.0,
          joined (p.forms_of_init v y i (c.names_base base y i.name)) _
              (subst (λ u. Rights (p.forms_of_init v y i u)) (sym (names-base-same base i.name))
              (init-right i (c.names_base base x i.name) here (front first _ h.1)))
              (inits-right base (with_name before i.name.item.0 0) is (own-back Own (n.names_in_init i) _ own)
              (back first _ h.1)),
        )

    pub initialises-same : (base : Option (Placed NameId)) (is : List InitTree)
        → c.initialises_base base y is ≡ c.initialises_base base x is
    initialises-same base [] = refl
    initialises-same base (i ∷ is) =
        ap (λ u. c.either u (c.initialises_base base y is)) (names-base-same base i.name)
        ∙ ap (c.either (c.names_base base x i.name)) (initialises-same base is)

    -- ---- members

    pub member-right : (seen : ItemsSeen) (m : Member) → OwnNames Own (n.names_in_item (tree.member m))
        → Rights (p.forms_of_member w x seen m) → Rights (p.forms_of_member v y seen m)
    member-right seen m own h =
        let name = own-back Own (n.names_in_type m.type_name) _ own in (
          counted-right Own b form.members seen.members m.name.at,
          (
            variable-type-right Own b m.type_name h.1.0,
            (
              h.1.1.0,
              (
                item-name-right seen.index m.name name.0 h.1.1.1.0,
                (apart-right Own b m.name h.1.1.1.1.0, tt),
              ),
            ),
          ),
        )
