-- Expressions that violate no rule violate none where others are added to what is declared and in scope.
use Rattle.std.proofs.Common.{◌≡◌, refl, sym, ap, ◌∙◌, subst, ℕ, Bool, true, not, if◌then◌else◌, List, [], ◌∷◌, Option, Some, None, option_map, is_some, codes}
use Rattle.agxx_base.specs.declared.ids.ClassId.{ClassId}
use Rattle.agxx_base.specs.declared.ids.NameId.{NameId}
use Rattle.agxx_base.specs.declared.place.Place.{Place}
use Rattle.cxx_tree.specs.declared.node.Node.{Node}
use Rattle.cxx_tree.specs.declared.node.Placed.{Placed}
use Rattle.cxx_tree.specs.declared.operator.BinOp.{BinOp}
use Rattle.cxx_tree.specs.declared.operator.UnOp.{UnOp}
use Rattle.cxx_tree.specs.declared.operator.UnOp.TheVariants as un
use Rattle.cxx_tree.specs.declared.expr.Base.{Base}
use Rattle.cxx_tree.specs.declared.expr.Base.TheVariants as base_of
use Rattle.cxx_tree.specs.declared.expr.Callee.{Callee}
use Rattle.cxx_tree.specs.declared.expr.Callee.TheVariants as callee_of
use Rattle.cxx_tree.specs.declared.expr.Left.{Left}
use Rattle.cxx_tree.specs.declared.expr.Left.TheVariants as left_of
use Rattle.cxx_tree.specs.declared.expr.Ref.{Ref}
use Rattle.cxx_tree.specs.declared.expr.Selector.{Selector}
use Rattle.cxx_tree.specs.declared.program.Param.{Param}
use Rattle.cxx_tree.specs.declared.program.TypeName.{TypeName}
use Rattle.cxx_tree.specs.ExprTree as e
use Rattle.cxx_tree.specs.ExprTree.{ExprTree, ExprTrees, CallTree}
use Rattle.cxx_tree.specs.Places.{expr_node}
use Rattle.cxx_names.specs.declared.declarations.MemberInfo.{MemberInfo}
use Rattle.cxx_names.specs.declared.declarations.Signature.{Signature}
use Rattle.cxx_names.specs.Declarations.{is_text}
use Rattle.cxx_distinct.specs.NamesIn as n
use Rattle.cxx_types.specs.declared.context.Holder.{Holder}
use Rattle.cxx_types.specs.declared.context.Holder.TheVariants as holder
use Rattle.cxx_types.specs.Callable.{Callable}
use Rattle.cxx_types.specs.Conversion.{takes, takes_one, casts, may_convert}
use Rattle.cxx_types.specs.Selections.{is_value, has_dot, has_arrow}
use Rattle.cxx_types.specs.Expressions.{count, kind_of}
use Rattle.cxx_rules.specs.Sites as at
use Rattle.cxx_rules.specs.Types as typed
use Rattle.cxx_rules.specs.Forms as form
use Rattle.cxx_rules.specs.Forms.{Form, unless_object}
use Rattle.cxx_rules.specs.Unless.{unless}
use Rattle.cxx_rules.specs.UnknownName as n1
use Rattle.cxx_rules.specs.TypesDisagree as n3
use Rattle.cxx_rules.specs.WrongNumberOfArguments as n4
use Rattle.cxx_rules.specs.NotAccessible as n6
use Rattle.cxx_rules.specs.NotAllowedHere as n8
use Rattle.woven_rules.proofs.Right.{Right, Rights, front, back, joined}
use Rattle.woven_rules.proofs.Wider.{plain, plain_found, class-same, member-same, method-same, function-same}
use Rattle.woven_rules.proofs.Seen.{OwnNames, own-front, own-back, Both, source, woven, text-same, meant-same, usable-same, held-at-same, holder-same, object-same, member-usable-same, member-held-same, method-usable-same, is-usable-same, access-of-same, ctor-same, may-convert-same, takes-same}
use Rattle.woven_rules.proofs.Typed.{by-plain, callable-same, creatable-same, param-same, type-same}

module _ (Own : ℕ → Type 0) (b : Both Own) where
  abbrev w : at.Site
  w = source Own b

  abbrev v : at.Site
  v = woven Own b

  -- ---- variables

  unknown-same : (x : Ref) → Own x.name.item.0 → n1.unknown_variable v x ≡ n1.unknown_variable w x
  unknown-same x own = ap (λ o. unless (is_some o) x.name.at) (meant-same Own b x own)

  accessible-same : (x : Ref) → Own x.name.item.0 → n6.variable_not_accessible v x ≡ n6.variable_not_accessible w x
  accessible-same x own = ap (λ y. unless y x.name.at) (usable-same Own b x own)

  pub variable-right : (x : Ref) → Own x.name.item.0 → Right (form.variable w x) → Right (form.variable v x)
  variable-right x own h = (
    unknown-same x own ∙ h.0,
    refl,
    ap (λ t. unless (is_value t) x.node.at) (held-at-same Own b x own)
        ∙ h.2,
    refl,
    refl,
    accessible-same x own ∙ h.5,
    refl,
    refl,
    refl,
  )

  pub base-right : (place : Place) (x : Base) → OwnNames Own (n.names_in_base x) → Right (form.base w place x)
      → Right (form.base v place x)
  base-right place base_of.This own h = (refl, refl, refl, refl, refl, refl, refl, h.7, refl)
  base-right place (base_of.Dot x) own h = (
    unknown-same x own.0 ∙ h.0,
    refl,
    ap (λ t. unless (has_dot t) place) (held-at-same Own b x own.0)
        ∙ h.2,
    refl,
    refl,
    accessible-same x own.0 ∙ h.5,
    refl,
    refl,
    refl,
  )
  base-right place (base_of.Arrow x) own h = (
    unknown-same x own.0 ∙ h.0,
    refl,
    ap (λ t. unless (has_arrow t) place) (held-at-same Own b x own.0)
        ∙ h.2,
    refl,
    refl,
    accessible-same x own.0 ∙ h.5,
    refl,
    refl,
    refl,
  )

  -- ---- members

  threads-same : (name : Placed NameId) → Own name.item.0 → at.is_of_threads v name ≡ at.is_of_threads w name
  threads-same name own = text-same Own b name.item.0 own (codes "join")

  mutexes-same : (name : Placed NameId) → Own name.item.0 → at.is_of_mutexes v name ≡ at.is_of_mutexes w name
  mutexes-same name own =
      ap (λ y. if y then true else is_text b.after name.item.0 (codes "unlock"))
      (text-same Own b name.item.0 own (codes "lock"))
      ∙ ap (λ y. if is_text b.before name.item.0 (codes "lock") then true else y)
      (text-same Own b name.item.0 own (codes "unlock"))

  module _ (name : Placed NameId) (own : Own name.item.0) where
    n1-member : (h : Holder) → n1.unknown_member v name h ≡ n1.unknown_member w name h
    n1-member (holder.Class class) =
        ap (λ o. unless (is_some o) name.at) (member-same Own b.d b.z b.wide name.item.0 own class)
    n1-member holder.Thread = ap (λ y. unless y name.at) (threads-same name own)
    n1-member holder.Mutex = ap (λ y. unless y name.at) (mutexes-same name own)
    n1-member holder.Unknown = refl

    n3-by : (place : Place) (class : ClassId) (o : Option (ClassId × MemberInfo))
        → n3.member_is_no_value v place class o ≡ n3.member_is_no_value w place class o
    n3-by place class None = refl
    n3-by place class (Some m) = ap (λ t. unless (is_value t) place) (member-held-same Own b class m)

    n3-member : (place : Place) (h : Holder)
        → n3.behind_is_no_value v place name h ≡ n3.behind_is_no_value w place name h
    n3-member place (holder.Class class) =
        ap (n3.member_is_no_value v place class) (member-same Own b.d b.z b.wide name.item.0 own class)
        ∙ n3-by place class (at.member_meant w class name)
    n3-member place holder.Thread = refl
    n3-member place holder.Mutex = refl
    n3-member place holder.Unknown = refl

    n6-by : (class : ClassId) (o : Option (ClassId × MemberInfo))
        → n6.member_not_accessible_by v name.at class o ≡ n6.member_not_accessible_by w name.at class o
    n6-by class None = refl
    n6-by class (Some m) = ap (λ y. unless y name.at) (member-usable-same Own b class m)

    n6-member : (h : Holder) → n6.member_not_accessible v name h ≡ n6.member_not_accessible w name h
    n6-member (holder.Class class) =
        ap (n6.member_not_accessible_by v name.at class) (member-same Own b.d b.z b.wide name.item.0 own class)
        ∙ n6-by class (at.member_meant w class name)
    n6-member holder.Thread = refl
    n6-member holder.Mutex = refl
    n6-member holder.Unknown = refl

    n8-member : (place : Place) (h : Holder) → n8.no_member_value v place name h ≡ n8.no_member_value w place name h
    n8-member place (holder.Class class) = refl
    n8-member place holder.Thread = ap (λ y. unless (not y) place) (threads-same name own)
    n8-member place holder.Mutex = ap (λ y. unless (not y) place) (mutexes-same name own)
    n8-member place holder.Unknown = refl

    -- ---- functions behind what has them

    n1-method : (h : Holder) → n1.unknown_method v name h ≡ n1.unknown_method w name h
    n1-method (holder.Class class) =
        by-plain (λ (o : Option (ClassId × Signature)). unless (is_some o) name.at) (option_map plain_found) is-plain
        (at.method_meant w class name) (at.method_meant v class name)
        (method-same Own b.d b.z b.wide name.item.0 own class)
      where
        is-plain : (o : Option (ClassId × Signature))
            → unless (is_some o) name.at ≡ unless (is_some (option_map plain_found o)) name.at
        is-plain None = refl
        is-plain (Some f) = refl
    n1-method holder.Thread = ap (λ y. unless y name.at) (threads-same name own)
    n1-method holder.Mutex = ap (λ y. unless y name.at) (mutexes-same name own)
    n1-method holder.Unknown = refl

    n3-method : (node : Node) (as_value : Bool) (h : Holder)
        → n3.behind_no_result v node name as_value h ≡ n3.behind_no_result w node name as_value h
    n3-method node as_value (holder.Class class) =
        by-plain (n3.method_no_result node as_value) (option_map plain_found) is-plain (at.method_meant w class name)
        (at.method_meant v class name) (method-same Own b.d b.z b.wide name.item.0 own class)
      where
        is-plain : (o : Option (ClassId × Signature))
            → n3.method_no_result node as_value o ≡ n3.method_no_result node as_value (option_map plain_found o)
        is-plain None = refl
        is-plain (Some f) = refl
    n3-method node as_value holder.Thread = refl
    n3-method node as_value holder.Mutex = refl
    n3-method node as_value holder.Unknown = refl

    n4-method : (k : ℕ) (h : Holder) → n4.behind_wrong_number v name k h ≡ n4.behind_wrong_number w name k h
    n4-method k (holder.Class class) =
        by-plain (n4.method_wrong_number name.at k) (option_map plain_found) is-plain (at.method_meant w class name)
        (at.method_meant v class name) (method-same Own b.d b.z b.wide name.item.0 own class)
      where
        is-plain : (o : Option (ClassId × Signature))
            → n4.method_wrong_number name.at k o ≡ n4.method_wrong_number name.at k (option_map plain_found o)
        is-plain None = refl
        is-plain (Some f) = refl
    n4-method k holder.Thread = ap (n4.taking_none name k) (threads-same name own)
    n4-method k holder.Mutex = ap (n4.taking_none name k) (mutexes-same name own)
    n4-method k holder.Unknown = refl

    n6-found : (class : ClassId) (o : Option (ClassId × Signature))
        → n6.method_not_accessible_by v name.at class o ≡ n6.method_not_accessible_by w name.at class o
    n6-found class None = refl
    n6-found class (Some f) = ap (λ y. unless y name.at) (method-usable-same Own b class f)

    n6-method : (h : Holder) → n6.method_not_accessible v name h ≡ n6.method_not_accessible w name h
    n6-method (holder.Class class) =
        by-plain (n6.method_not_accessible_by v name.at class) (option_map plain_found) is-plain
        (at.method_meant w class name) (at.method_meant v class name)
        (method-same Own b.d b.z b.wide name.item.0 own class)
        ∙ n6-found class (at.method_meant w class name)
      where
        is-plain : (o : Option (ClassId × Signature))
            → n6.method_not_accessible_by v name.at class o ≡ n6.method_not_accessible_by v name.at class
            (option_map plain_found o)
        is-plain None = refl
        is-plain (Some f) = refl
    n6-method holder.Thread = refl
    n6-method holder.Mutex = refl
    n6-method holder.Unknown = refl

    n8-method : (node : Node) (as_value : Bool) (h : Holder)
        → n8.no_call_value v node name as_value h ≡ n8.no_call_value w node name as_value h
    n8-method node as_value (holder.Class class) = refl
    n8-method node as_value holder.Thread = ap (n8.statement_alone node as_value) (threads-same name own)
    n8-method node as_value holder.Mutex = ap (n8.statement_alone node as_value) (mutexes-same name own)
    n8-method node as_value holder.Unknown = refl

  pub member-right : (place : Place) (q : Selector) → OwnNames Own (n.names_in_selector q)
      → Right (form.member w place q) → Right (form.member v place q)
  member-right place q own h =
      let name = (own-back Own (n.names_in_base q.base) _ own).0 in
      let base = holder-same Own b q.base (own-front Own (n.names_in_base q.base) _ own) in (
        ap (n1.unknown_member v q.name) base ∙ (n1-member q.name name (at.holder_of w q.base) ∙ h.0),
        refl,
        ap (n3.behind_is_no_value v place q.name) base ∙ (n3-member q.name name place (at.holder_of w q.base) ∙ h.2),
        refl,
        refl,
        ap (n6.member_not_accessible v q.name) base ∙ (n6-member q.name name (at.holder_of w q.base) ∙ h.5),
        refl,
        ap (n8.no_member_value v place q.name) base ∙ (n8-member q.name name place (at.holder_of w q.base) ∙ h.7),
        refl,
      )

  -- ---- calls

  module _ (r : Ref) (own : Own r.name.item.0) where
    module _ {R : Type 0} (of : Option (Option ClassId × Signature) → R)
        (bare : (o : Option (Option ClassId × Signature)) → of o ≡ of (option_map plain_found o)) where
      function-by : of (at.function_meant v r) ≡ of (at.function_meant w r)
      function-by =
          by-plain of (option_map plain_found) bare (at.function_meant w r) (at.function_meant v r)
          (function-same Own b.d b.z b.wide b.context.class r own)

    n1-function : unless (is_some (at.function_meant v r)) r.name.at ≡ unless (is_some (at.function_meant w r))
        r.name.at
    n1-function = function-by (λ o. unless (is_some o) r.name.at) bare
      where
        bare : (o : Option (Option ClassId × Signature))
            → unless (is_some o) r.name.at ≡ unless (is_some (option_map plain_found o)) r.name.at
        bare None = refl
        bare (Some f) = refl

    n3-function : (node : Node) (as_value : Bool)
        → n3.function_no_result node as_value (at.function_meant v r) ≡ n3.function_no_result node as_value
        (at.function_meant w r)
    n3-function node as_value = function-by (n3.function_no_result node as_value) bare
      where
        bare : (o : Option (Option ClassId × Signature))
            → n3.function_no_result node as_value o ≡ n3.function_no_result node as_value (option_map plain_found o)
        bare None = refl
        bare (Some f) = refl

    n4-function : (k : ℕ) → n4.function_wrong_number r.name.at k (at.function_meant v r) ≡ n4.function_wrong_number
        r.name.at k (at.function_meant w r)
    n4-function k = function-by (n4.function_wrong_number r.name.at k) bare
      where
        bare : (o : Option (Option ClassId × Signature))
            → n4.function_wrong_number r.name.at k o ≡ n4.function_wrong_number r.name.at k (option_map plain_found o)
        bare None = refl
        bare (Some f) = refl

    n6-access : (o : Option (Option ClassId × Signature))
        → n6.function_not_accessible v r.name.at o ≡ n6.function_not_accessible w r.name.at o
    n6-access None = refl
    n6-access (Some f) = ap (λ y. unless y r.name.at) (access-of-same Own b.d b.z b.wide b.context.class f)

    n6-function : n6.function_not_accessible v r.name.at (at.function_meant v r) ≡ n6.function_not_accessible w
        r.name.at (at.function_meant w r)
    n6-function = function-by (n6.function_not_accessible v r.name.at) bare ∙ n6-access (at.function_meant w r)
      where
        bare : (o : Option (Option ClassId × Signature))
            → n6.function_not_accessible v r.name.at o ≡ n6.function_not_accessible v r.name.at
            (option_map plain_found o)
        bare None = refl
        bare (Some (None, f)) = refl
        bare (Some (Some owner, f)) = refl

    n8-function : (place : Place) → n8.main_called place (at.function_meant v r) ≡ n8.main_called place
        (at.function_meant w r)
    n8-function place = function-by (n8.main_called place) bare
      where
        bare : (o : Option (Option ClassId × Signature))
            → n8.main_called place o ≡ n8.main_called place (option_map plain_found o)
        bare None = refl
        bare (Some f) = refl

  pub call-form-right : (node : Node) (x : Callee) (k : ℕ) (as_value : Bool) → OwnNames Own (n.names_in_callee x)
      → Right (form.call w node x k as_value) → Right (form.call v node x k as_value)
  call-form-right node (callee_of.Bare r) k as_value own h = (
    n1-function r own.0 ∙ h.0,
    refl,
    n3-function r own.0 node as_value ∙ h.2,
    n4-function r own.0 k ∙ h.3,
    refl,
    n6-function r own.0 ∙ h.5,
    refl,
    n8-function r own.0 node.at ∙ h.7,
    refl,
  )
  call-form-right node (callee_of.Member q) k as_value own h =
      let name = (own-back Own (n.names_in_base q.base) _ own).0 in
      let base = holder-same Own b q.base (own-front Own (n.names_in_base q.base) _ own) in
      let here = at.holder_of w q.base in (
        ap (n1.unknown_method v q.name) base ∙ (n1-method q.name name here ∙ h.0),
        refl,
        ap (n3.behind_no_result v node q.name as_value) base ∙ (n3-method q.name name node as_value here ∙ h.2),
        ap (n4.behind_wrong_number v q.name k) base ∙ (n4-method q.name name k here ∙ h.3),
        refl,
        ap (n6.method_not_accessible v q.name) base ∙ (n6-method q.name name here ∙ h.5),
        refl,
        ap (n8.no_call_value v node q.name as_value) base ∙ (n8-method q.name name node as_value here ∙ h.7),
        refl,
      )

  -- ---- creation

  n4-class : (place : Place) (k : ℕ) (o : Option ClassId)
      → n4.creation_wrong_number v place k o ≡ n4.creation_wrong_number w place k o
  n4-class place k None = refl
  n4-class place k (Some class) =
      by-plain (n4.wrong_number_by place k) (option_map plain) bare (at.ctor_meant w class) (at.ctor_meant v class)
      (ctor-same Own b.d b.z b.wide class)
    where
      bare : (o : Option Signature) → n4.wrong_number_by place k o ≡ n4.wrong_number_by place k (option_map plain o)
      bare None = refl
      bare (Some f) = refl

  pub n4-creation : (place : Place) (name : Placed NameId) (k : ℕ)
      → n4.creation_wrong_number v place k (at.class_meant v name) ≡ n4.creation_wrong_number w place k
      (at.class_meant w name)
  n4-creation place name k =
      ap (n4.creation_wrong_number v place k) (class-same Own b.d b.z b.wide name.item.0)
      ∙ n4-class place k (at.class_meant w name)

  usable-plain : (class : ClassId) (o : Option Signature)
      → at.is_usable v class o ≡ at.is_usable v class (option_map plain o)
  usable-plain class None = refl
  usable-plain class (Some f) = refl

  pub usable-by : (class : ClassId) (x y : Option Signature) → option_map plain y ≡ option_map plain x
      → at.is_usable v class y ≡ at.is_usable w class x
  usable-by class x y same =
      by-plain (at.is_usable v class) (option_map plain) (usable-plain class) x y same ∙ is-usable-same Own b class x

  n6-class : (place : Place) (o : Option ClassId)
      → n6.constructor_not_accessible v place o ≡ n6.constructor_not_accessible w place o
  n6-class place None = refl
  n6-class place (Some class) =
      ap (λ y. unless y place) (usable-by class (at.ctor_meant w class) (at.ctor_meant v class)
      (ctor-same Own b.d b.z b.wide class))

  pub n6-creation : (place : Place) (name : Placed NameId)
      → n6.constructor_not_accessible v place (at.class_meant v name) ≡ n6.constructor_not_accessible w place
      (at.class_meant w name)
  n6-creation place name =
      ap (n6.constructor_not_accessible v place) (class-same Own b.d b.z b.wide name.item.0)
      ∙ n6-class place (at.class_meant w name)

  pub creation-right : (name : Placed NameId) (k : ℕ) → Right (form.creation w name k)
      → Right (form.creation v name k)
  creation-right name k h = (
    ap (λ o. unless (is_some o) name.at) (class-same Own b.d b.z b.wide name.item.0)
        ∙ h.0,
    refl,
    refl,
    n4-creation name.at name k ∙ h.3,
    refl,
    n6-creation name.at name ∙ h.5,
    refl,
    refl,
    refl,
  )

  -- ---- operators

  pub argument-right : (p : Param) (x : ExprTree) → OwnNames Own (n.names_in_expr x) → Right (form.argument w p x)
      → Right (form.argument v p x)
  argument-right p x own h =
      (refl, refl, ap (λ y. unless y (expr_node x).at) (converted-same own) ∙ h.2, refl, refl, refl, refl, refl, refl)
    where
      converted-same : OwnNames Own (n.names_in_expr x)
          → may_convert b.z (typed.type_of_expr v x) (typed.type_of_param b.z p) ≡ may_convert b.d
          (typed.type_of_expr w x) (typed.type_of_param b.d p)
      converted-same own =
          ap (λ t. may_convert b.z t (typed.type_of_param b.z p)) (type-same Own b x own)
          ∙ (ap (may_convert b.z (typed.type_of_expr w x)) (param-same Own b p)
          ∙ may-convert-same Own b.d b.z b.wide (typed.type_of_expr w x) (typed.type_of_param b.d p))

  operand-right : (node : Node) (o : UnOp) (x : ExprTree) → OwnNames Own (n.names_in_expr x)
      → Right (form.operand w node o x) → Right (form.operand v node o x)
  operand-right node o x own h = (
    refl,
    refl,
    ap (λ t. unless (takes_one o t) node.at) (type-same Own b x own)
        ∙ h.2,
    refl,
    refl,
    refl,
    refl,
    refl,
    refl,
  )

  operands-right : (o : Placed BinOp) (x y : ExprTree) → OwnNames Own (n.names_in_expr x)
      → OwnNames Own (n.names_in_expr y) → Right (form.operands w o x y) → Right (form.operands v o x y)
  operands-right o x y own other h = (
    refl,
    refl,
    ap (λ t. unless (takes b.z o.item t (typed.type_of_expr v y)) o.at) (type-same Own b x own)
        ∙ (ap (λ t. unless (takes b.z o.item (typed.type_of_expr w x) t) o.at) (type-same Own b y other)
        ∙ (ap (λ z. unless z o.at) (takes-same Own b.d b.z b.wide o.item (typed.type_of_expr w x)
        (typed.type_of_expr w y)) ∙ h.2)),
    refl,
    refl,
    refl,
    refl,
    refl,
    refl,
  )

  cast-right : (t : TypeName) (x : ExprTree) → OwnNames Own (n.names_in_expr x) → Right (form.cast w t x)
      → Right (form.cast v t x)
  cast-right t x own h = (
    refl,
    refl,
    ap (λ y. unless (casts (kind_of t) y) (expr_node x).at) (type-same Own b x own)
        ∙ h.2,
    refl,
    refl,
    refl,
    refl,
    refl,
    refl,
  )

  address-right : (node : Node) (x : ExprTree) → OwnNames Own (n.names_in_expr x) → Right (form.address w node x)
      → Right (form.address v node x)
  address-right node x own h = (
    refl,
    refl,
    refl,
    refl,
    refl,
    refl,
    ap (λ o. unless (is_some o) node.at) (object-same Own b x own)
        ∙ h.6,
    refl,
    refl,
  )

  -- ---- all expressions

  pub selector-right : (node : Node) (q : Selector) → OwnNames Own (n.names_in_selector q)
      → Rights (form.forms_of_selector w node q) → Rights (form.forms_of_selector v node q)
  selector-right node q own h = (
    base-right node.at q.base (own-front Own (n.names_in_base q.base) _ own) h.0,
    (member-right node.at q own h.1.0, tt),
  )

  pub left-right : (x : Left) → OwnNames Own (n.names_in_left x) → Rights (form.forms_of_left w x)
      → Rights (form.forms_of_left v x)
  left-right (left_of.Name r) own h = (variable-right r own.0 h.0, tt)
  left-right (left_of.Member node q) own h = selector-right node q own h
  left-right (left_of.Result node) own h = tt

  callee-right : (node : Node) (x : Callee) (k : ℕ) (as_value : Bool) → OwnNames Own (n.names_in_callee x)
      → Rights (form.forms_of_callee w node x k as_value) → Rights (form.forms_of_callee v node x k as_value)
  callee-right node (callee_of.Bare r) k as_value own h =
      (call-form-right node (callee_of.Bare r) k as_value own h.0, tt)
  callee-right node (callee_of.Member q) k as_value own h = (
    base-right node.at q.base (own-front Own (n.names_in_base q.base) _ own) h.0,
    (call-form-right node (callee_of.Member q) k as_value own h.1.0, tt),
  )

  unless-right : (o : Option (Option ClassId)) (fs gs : List Form) → (Rights fs → Rights gs)
      → Rights (unless_object o fs) → Rights (unless_object o gs)
  unless-right None fs gs inner h = inner h
  unless-right (Some class) fs gs inner h = tt

  unary-right : (node : Node) (o : UnOp) (x : ExprTree) → OwnNames Own (n.names_in_expr x)
      → (Rights (form.forms_of w x) → Rights (form.forms_of v x)) → Rights (form.forms_of w (e.unary node o x))
      → Rights (form.forms_of v (e.unary node o x))
  unary-right node un.AddressOf x own inner h = (
    address-right node x own h.0,
    subst (λ o. Rights (unless_object o (form.forms_of v x))) (sym (object-same Own b x own))
        (unless-right (at.object_of w x) (form.forms_of w x) (form.forms_of v x) inner h.1),
  )
  unary-right node un.Negate x own inner h =
      joined (form.forms_of v x) _ (inner (front (form.forms_of w x) _ h))
      (operand-right node un.Negate x own (back (form.forms_of w x) _ h).0, tt)
  unary-right node un.Not x own inner h =
      joined (form.forms_of v x) _ (inner (front (form.forms_of w x) _ h))
      (operand-right node un.Not x own (back (form.forms_of w x) _ h).0, tt)
  unary-right node un.Complement x own inner h =
      joined (form.forms_of v x) _ (inner (front (form.forms_of w x) _ h))
      (operand-right node un.Complement x own (back (form.forms_of w x) _ h).0, tt)

  mutual
    pub expr-right : (x : ExprTree) → OwnNames Own (n.names_in_expr x) → Rights (form.forms_of w x)
        → Rights (form.forms_of v x)
    expr-right (e.lit node number) own h = tt
    expr-right (e.flag node is_set) own h = tt
    expr-right (e.null node) own h = tt
    expr-right (e.this node) own h = h
    expr-right (e.left x) own h = left-right x own h
    expr-right (e.unary node o x) own h = unary-right node o x own (expr-right x own) h
    expr-right (e.binary node o x y) own h =
        let first = own-front Own (n.names_in_expr x) _ own in
        let second = own-back Own (n.names_in_expr x) _ own in
        let later = back (form.forms_of w x) _ h in
        joined (form.forms_of v x) _ (expr-right x first (front (form.forms_of w x) _ h))
        (joined (form.forms_of v y) _ (expr-right y second (front (form.forms_of w y) _ later))
        (operands-right o x y first second (back (form.forms_of w y) _ later).0, tt))
    expr-right (e.paren node x) own h = expr-right x own h
    expr-right (e.cast node t x) own h =
        joined (form.forms_of v x) _ (expr-right x own (front (form.forms_of w x) _ h))
        (cast-right t x own (back (form.forms_of w x) _ h).0, tt)
    expr-right (e.call x) own h = call-right true x own h
    expr-right (e.new node class) own h = (creation-right class 0 h.0, tt)
    expr-right (e.new_with node class arguments) own h = (
      creation-right class (count arguments) h.0,
      subst (λ (k : Callable). Rights (form.forms_of_arguments v k.params arguments))
          (sym (creatable-same Own b class (count arguments)))
          (arguments-right (typed.creatable w class (count arguments)).params arguments own.1 h.1),
    )

    pub arguments-right : (ps : List Param) (xs : ExprTrees) → OwnNames Own (n.names_in_exprs xs)
        → Rights (form.forms_of_arguments w ps xs) → Rights (form.forms_of_arguments v ps xs)
    arguments-right ps e.no_exprs own h = tt
    arguments-right [] (e.more_exprs first rest) own h =
        joined (form.forms_of v first) _
        (expr-right first (own-front Own (n.names_in_expr first) _ own) (front (form.forms_of w first) _ h))
        (arguments-right [] rest (own-back Own (n.names_in_expr first) _ own) (back (form.forms_of w first) _ h))
    arguments-right (p ∷ ps) (e.more_exprs first rest) own h =
        let here = own-front Own (n.names_in_expr first) _ own in
        let later = back (form.forms_of w first) _ h in
        joined (form.forms_of v first) _ (expr-right first here (front (form.forms_of w first) _ h)) (
          argument-right p first here later.0,
          arguments-right ps rest (own-back Own (n.names_in_expr first) _ own)
              later.1,
        )

    pub call-right : (as_value : Bool) (x : CallTree) → OwnNames Own (n.names_in_call x)
        → Rights (form.forms_of_call w as_value x) → Rights (form.forms_of_call v as_value x)
    call-right as_value (e.calls node callee arguments) own h =
        let k = count arguments in
        let here = own-front Own (n.names_in_callee callee) _ own in
        joined (form.forms_of_callee v node callee k as_value) _
        (callee-right node callee k as_value here (front (form.forms_of_callee w node callee k as_value) _ h))
        (subst (λ (c : Callable). Rights (form.forms_of_arguments v c.params arguments))
        (sym (callable-same Own b callee here k))
        (arguments-right (typed.callable w callee k).params arguments (own-back Own (n.names_in_callee callee) _ own)
        (back (form.forms_of_callee w node callee k as_value) _ h)))
