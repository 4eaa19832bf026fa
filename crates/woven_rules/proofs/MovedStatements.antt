-- Statements without statements in them that violate no rule violate none where others are added.
use Rattle.std.proofs.Common.{◌≡◌, refl, sym, ap, ◌∙◌, subst, ℕ, Bool, false, not, if◌then◌else◌, List, [], ◌∷◌, ◌++◌, Option, Some, None, option_map, is_some}
use Rattle.std.specs.Prelude.{nat_lt}
use Rattle.agxx_base.specs.declared.ids.ClassId.{ClassId}
use Rattle.agxx_base.specs.declared.ids.NameId.{NameId}
use Rattle.agxx_base.specs.declared.place.Place.{Place}
use Rattle.cxx_tree.specs.declared.node.Placed.{Placed}
use Rattle.cxx_tree.specs.declared.operator.BinOp.{BinOp}
use Rattle.cxx_tree.specs.declared.expr.Ref.{Ref}
use Rattle.cxx_tree.specs.declared.program.Param.{Param}
use Rattle.cxx_tree.specs.declared.program.TypeName.{TypeName}
use Rattle.cxx_tree.specs.declared.program.TypeName.TheVariants as type_name
use Rattle.cxx_tree.specs.declared.stmt.Bump.{Bump}
use Rattle.cxx_tree.specs.ExprTree.{ExprTree}
use Rattle.cxx_tree.specs.StmtTree as s
use Rattle.cxx_tree.specs.StmtTree.{InitialTree, LocalTree, AssignTree, SimpleTree, PrintedTree, ThreadTree, StartTree}
use Rattle.cxx_tree.specs.Places.{expr_node}
use Rattle.cxx_names.specs.declared.declarations.ClassInfo.{ClassInfo}
use Rattle.cxx_names.specs.declared.declarations.Signature.{Signature}
use Rattle.cxx_names.specs.declared.types.ValueType.{ValueType}
use Rattle.cxx_names.specs.declared.types.ValueType.TheVariants as value
use Rattle.cxx_names.specs.Declarations.{class_at}
use Rattle.cxx_names.specs.LookUp.{thing_of, free_signature}
use Rattle.cxx_distinct.specs.NamesIn as n
use Rattle.cxx_types.specs.Conversion.{may_convert, may_be_bumped, may_be_printed}
use Rattle.cxx_types.specs.Selections.{value_of}
use Rattle.cxx_types.specs.Calls.{is_void}
use Rattle.cxx_types.specs.Expressions.{count}
use Rattle.cxx_types.specs.declared.context.Owner.{Owner}
use Rattle.cxx_types.specs.declared.context.Owner.TheVariants as owner
use Rattle.cxx_rules.specs.Sites as at
use Rattle.cxx_rules.specs.Types as typed
use Rattle.cxx_rules.specs.Forms as form
use Rattle.cxx_rules.specs.StmtForms as f
use Rattle.cxx_rules.specs.Unless.{unless}
use Rattle.cxx_rules.specs.UnknownName as n1
use Rattle.cxx_rules.specs.DeclaredTwice as n2
use Rattle.cxx_rules.specs.TypesDisagree as n3
use Rattle.cxx_rules.specs.WrongNumberOfArguments as n4
use Rattle.cxx_rules.specs.NotAccessible as n6
use Rattle.cxx_rules.specs.NotAllowedHere as n8
use Rattle.woven_rules.proofs.Right.{Right, Rights, front, back, joined}
use Rattle.woven_rules.proofs.Wider.{plain, IsWiderAt, class-same, thing-same, free-signature-same}
use Rattle.woven_rules.proofs.Seen.{OwnNames, own-front, own-back, Both, source, woven, may-convert-same, dtor-same}
use Rattle.woven_rules.proofs.Typed.{by-plain, left-type-same, type-same}
use Rattle.woven_rules.proofs.MovedExpressions.{left-right, expr-right, arguments-right, call-right, usable-by}

module _ (Own : ℕ → Type 0) (b : Both Own) where
  abbrev w : at.Site
  w = source Own b

  abbrev v : at.Site
  v = woven Own b

  -- ---- declarations

  pointed-same : (t : Placed TypeName) (type : TypeName) → n1.unknown_pointed v t type ≡ n1.unknown_pointed w t type
  pointed-same t (type_name.Num kind) = refl
  pointed-same t type_name.Int = refl
  pointed-same t type_name.Unsigned = refl
  pointed-same t type_name.Void = refl
  pointed-same t (type_name.Pointer class) = ap (λ o. unless (is_some o) t.at) (class-same Own b.d b.z b.wide class.0)
  pointed-same t type_name.Mutex = refl

  pub variable-type-right : (t : Placed TypeName) → Right (form.variable_type w t) → Right (form.variable_type v t)
  variable-type-right t h = (pointed-same t t.item ∙ h.0, refl, refl, refl, refl, refl, refl, h.7, refl)

  pub result-type-right : (t : Placed TypeName) → Right (form.result_type w t) → Right (form.result_type v t)
  result-type-right t h = (pointed-same t t.item ∙ h.0, refl, refl, refl, refl, refl, refl, refl, refl)

  pub local-name-right : (name : Placed NameId) → Own name.item.0 → Right (form.local_name w name)
      → Right (form.local_name v name)
  local-name-right name own h = (
    refl,
    ap (λ o. unless (not (is_some o)) name.at) (b.same name.item.0 own)
        ∙ h.1,
    refl,
    refl,
    refl,
    refl,
    refl,
    refl,
    refl,
  )

  later-by : (index : ℕ) (name : Placed NameId) (x y : Option ClassInfo) → IsWiderAt Own x y
      → n2.later_of index name y ≡ n2.later_of index name x
  later-by index name None None h = refl
  later-by index name None (Some after) h = absurd h
  later-by index name (Some before) None h = absurd h
  later-by index name (Some before) (Some after) h =
      ap (λ k. Some (if nat_lt index k then after.name.at else name.at)) h.index
      ∙ ap (λ (c : Placed NameId). Some (if nat_lt index before.index then c.at else name.at)) h.name

  later-same : (index : ℕ) (name : Placed NameId) (o : Option ClassId)
      → n2.later_of index name (n2.info_of v o) ≡ n2.later_of index name (n2.info_of w o)
  later-same index name None = refl
  later-same index name (Some class) =
      later-by index name (class_at b.d class) (class_at b.z class) (b.wide.classes class)

  pub apart-right : (name : Placed NameId) → Right (form.apart w name) → Right (form.apart v name)
  apart-right name h = (
    refl,
    ap (λ o. n2.later_of b.context.index name (n2.info_of v o)) (class-same Own b.d b.z b.wide name.item.0)
        ∙ (later-same b.context.index name (at.class_meant w name) ∙ h.1),
    refl,
    refl,
    refl,
    refl,
    refl,
    refl,
    refl,
  )

  pub counted-right : (kind : form.Kind) (k : ℕ) (place : Place) → Right (form.counted kind k place)
  counted-right kind k place = (refl, refl, refl, refl, refl, refl, refl, refl, refl)

  -- a value converts to a type as before
  pub converts-to : (x : ExprTree) (t : TypeName) → OwnNames Own (n.names_in_expr x)
      → may_convert b.z (typed.type_of_expr v x) (value_of (thing_of b.z t)) ≡ may_convert b.d
      (typed.type_of_expr w x) (value_of (thing_of b.d t))
  converts-to x t own =
      ap (λ y. may_convert b.z y (value_of (thing_of b.z t))) (type-same Own b x own)
      ∙ (ap (λ y. may_convert b.z (typed.type_of_expr w x) (value_of y)) (thing-same Own b.d b.z b.wide t)
      ∙ may-convert-same Own b.d b.z b.wide (typed.type_of_expr w x) (value_of (thing_of b.d t)))

  pub initial-form-right : (t : TypeName) (i : InitialTree) → OwnNames Own (n.names_in_expr i.value)
      → Right (form.initial w t i) → Right (form.initial v t i)
  initial-form-right t i own h =
      (refl, refl, ap (λ y. unless y i.sign) (converts-to i.value t own) ∙ h.2, refl, refl, refl, refl, refl, refl)

  initial-right : (t : TypeName) (o : Option InitialTree) → OwnNames Own (n.names_in_optional n.names_in_initial o)
      → Rights (f.forms_of_optional (f.forms_of_initial w t) o)
      → Rights (f.forms_of_optional (f.forms_of_initial v t) o)
  initial-right t None own h = tt
  initial-right t (Some i) own h =
      joined (form.forms_of v i.value) _ (expr-right Own b i.value own (front (form.forms_of w i.value) _ h))
      (initial-form-right t i own (back (form.forms_of w i.value) _ h).0, tt)

  pub local-right : (l : LocalTree) → OwnNames Own (n.names_in_local l) → Rights (f.forms_of_local w l)
      → Rights (f.forms_of_local v l)
  local-right l own h =
      let names = own-back Own (n.names_in_type l.type_name) _ own in
      let later = back (f.forms_of_optional (f.forms_of_initial w l.type_name.item) l.initial) _ h.1 in (
        variable-type-right l.type_name h.0,
        joined (f.forms_of_optional (f.forms_of_initial v l.type_name.item) l.initial) _
            (initial-right l.type_name.item l.initial names.1
            (front (f.forms_of_optional (f.forms_of_initial w l.type_name.item) l.initial) _ h.1)) (
              local-name-right l.name names.0 later.0,
              (apart-right l.name later.1.0, (counted-right form.locals b.m l.name.at, tt)),
            ),
      )

  -- ---- simple statements

  assigns-same : (o : Option BinOp) (x y : Option ValueType) → n3.assigns b.z o x y ≡ n3.assigns b.d o x y
  assigns-same None x y = may-convert-same Own b.d b.z b.wide y x
  assigns-same (Some o) x y = refl

  assigned-right : (a : AssignTree) → OwnNames Own (n.names_in_left a.left) → OwnNames Own (n.names_in_expr a.value)
      → Right (form.assigned w a) → Right (form.assigned v a)
  assigned-right a own other h = (
    refl,
    refl,
    ap (λ t. unless (n3.assigns b.z a.sign.item t (typed.type_of_expr v a.value)) a.sign.at)
        (left-type-same Own b a.left own)
        ∙ (ap (λ t. unless (n3.assigns b.z a.sign.item (typed.type_of_left w a.left) t) a.sign.at)
        (type-same Own b a.value other)
        ∙ (ap (λ y. unless y a.sign.at)
        (assigns-same a.sign.item (typed.type_of_left w a.left) (typed.type_of_expr w a.value)) ∙ h.2)),
    refl,
    refl,
    refl,
    refl,
    refl,
    refl,
  )

  bumped-right : (x : Bump) → OwnNames Own (n.names_in_left x.left) → Right (form.bumped w x)
      → Right (form.bumped v x)
  bumped-right x own h = (
    refl,
    refl,
    ap (λ t. unless (may_be_bumped t) x.sign) (left-type-same Own b x.left own)
        ∙ h.2,
    refl,
    refl,
    refl,
    refl,
    refl,
    refl,
  )

  pub simple-right : (i : SimpleTree) → OwnNames Own (n.names_in_simple i) → Rights (f.forms_of_simple w i)
      → Rights (f.forms_of_simple v i)
  simple-right (s.assign a) own h =
      let first = own-front Own (n.names_in_left a.left) _ own in
      let second = own-back Own (n.names_in_left a.left) _ own in
      let later = back (form.forms_of_left w a.left) _ h in
      joined (form.forms_of_left v a.left) _ (left-right Own b a.left first (front (form.forms_of_left w a.left) _ h))
      (joined (form.forms_of v a.value) _ (expr-right Own b a.value second (front (form.forms_of w a.value) _ later))
      (assigned-right a first second (back (form.forms_of w a.value) _ later).0, tt))
  simple-right (s.bump x) own h =
      joined (form.forms_of_left v x.left) _ (left-right Own b x.left own (front (form.forms_of_left w x.left) _ h))
      (bumped-right x own (back (form.forms_of_left w x.left) _ h).0, tt)
  simple-right (s.call_stmt k) own h = call-right Own b false k own h
  simple-right (s.proceed place) own h = tt

  -- ---- values that are returned, deleted and printed

  deleted-by : (place : Place) (o : Option ValueType)
      → n6.deleted_not_accessible v place o ≡ n6.deleted_not_accessible w place o
  deleted-by place None = refl
  deleted-by place (Some (value.Number kind)) = refl
  deleted-by place (Some (value.Pointer class)) =
      ap (λ y. unless y place) (usable-by Own b class (at.dtor_meant w class) (at.dtor_meant v class)
      (dtor-same Own b.d b.z b.wide class))
  deleted-by place (Some value.Null) = refl

  pub deleted-right : (place : Place) (x : ExprTree) → OwnNames Own (n.names_in_expr x)
      → Right (form.deleted w place x) → Right (form.deleted v place x)
  deleted-right place x own h = (
    refl,
    refl,
    ap (n3.wrongly_deleted place) (type-same Own b x own) ∙ h.2,
    refl,
    refl,
    ap (n6.deleted_not_accessible v place) (type-same Own b x own)
        ∙ (deleted-by place (typed.type_of_expr w x) ∙ h.5),
    refl,
    refl,
    refl,
  )

  returns-same : (t : TypeName) (o : Option ExprTree) → OwnNames Own (n.names_in_optional n.names_in_expr o)
      → n3.returns v t o ≡ n3.returns w t o
  returns-same t None own = refl
  returns-same t (Some x) own = ap (λ y. if is_void t then false else y) (converts-to x t own)

  returned-by : (o : Owner) (place : Place) (x : Option ExprTree)
      → OwnNames Own (n.names_in_optional n.names_in_expr x)
      → n3.wrongly_returned v o place x ≡ n3.wrongly_returned w o place x
  returned-by (owner.Function t) place x own = ap (λ y. unless y place) (returns-same t x own)
  returned-by owner.Lifecycle place x own = refl
  returned-by owner.Global place x own = refl

  pub returned-right : (place : Place) (x : Option ExprTree) → OwnNames Own (n.names_in_optional n.names_in_expr x)
      → Right (form.returned w place x) → Right (form.returned v place x)
  returned-right place x own h =
      (refl, refl, returned-by b.context.owner place x own ∙ h.2, refl, refl, refl, refl, h.7, refl)

  pub optional-right : (o : Option ExprTree) → OwnNames Own (n.names_in_optional n.names_in_expr o)
      → Rights (f.forms_of_optional (form.forms_of w) o) → Rights (f.forms_of_optional (form.forms_of v) o)
  optional-right None own h = tt
  optional-right (Some x) own h = expr-right Own b x own h

  pub return-right : (place : Place) (x : Option ExprTree) → OwnNames Own (n.names_in_optional n.names_in_expr x)
      → Rights (f.forms_of_return w place x) → Rights (f.forms_of_return v place x)
  return-right place x own h =
      joined (f.forms_of_optional (form.forms_of v) x) _
      (optional-right x own (front (f.forms_of_optional (form.forms_of w) x) _ h)) (
        returned-right place x own (back (f.forms_of_optional (form.forms_of w) x) _ h).0,
        (counted-right form.returns b.n place, tt),
      )

  printed-right : (x : PrintedTree) → OwnNames Own (n.names_in_printed x) → Rights (f.forms_of_printed w x)
      → Rights (f.forms_of_printed v x)
  printed-right (s.text q) own h = h
  printed-right (s.endl place) own h = tt
  printed-right (s.value x) own h =
      joined (form.forms_of v x) _ (expr-right Own b x own (front (form.forms_of w x) _ h)) (
        (
          refl,
          refl,
          ap (λ t. unless (may_be_printed t) (expr_node x).at) (type-same Own b x own)
              ∙ (back (form.forms_of w x) _ h).0.2,
          refl,
          refl,
          refl,
          refl,
          refl,
          refl,
        ),
        tt,
      )

  pub print-right : (xs : List PrintedTree) → OwnNames Own (n.names_in_each n.names_in_printed xs)
      → Rights (f.forms_of_print w xs) → Rights (f.forms_of_print v xs)
  print-right [] own h = tt
  print-right (x ∷ xs) own h =
      joined (f.forms_of_printed v x) _
      (printed-right x (own-front Own (n.names_in_printed x) _ own) (front (f.forms_of_printed w x) _ h))
      (print-right xs (own-back Own (n.names_in_printed x) _ own) (back (f.forms_of_printed w x) _ h))

  -- ---- threads

  module _ (k : ℕ) where
    started-same : {R : Type 0} (of : Option Signature → R)
        → ((o : Option Signature) → of o ≡ of (option_map plain o))
        → of (free_signature b.z k) ≡ of (free_signature b.d k)
    started-same of bare =
        by-plain of (option_map plain) bare (free_signature b.d k) (free_signature b.z k)
        (free-signature-same Own b.d b.z b.wide k)

  known-plain : (place : Place) (o : Option Signature)
      → unless (is_some o) place ≡ unless (is_some (option_map plain o)) place
  known-plain place None = refl
  known-plain place (Some f) = refl

  result-plain : (place : Place) (o : Option Signature)
      → n3.has_result place o ≡ n3.has_result place (option_map plain o)
  result-plain place None = refl
  result-plain place (Some f) = refl

  main-plain : (place : Place) (o : Option Signature)
      → n8.main_started place o ≡ n8.main_started place (option_map plain o)
  main-plain place None = refl
  main-plain place (Some f) = refl

  number-plain : (place : Place) (k : ℕ) (o : Option Signature)
      → n4.wrong_number_by place k o ≡ n4.wrong_number_by place k (option_map plain o)
  number-plain place k None = refl
  number-plain place k (Some f) = refl

  params-plain : (o : Option Signature) → f.params_of o ≡ f.params_of (option_map plain o)
  params-plain None = refl
  params-plain (Some f) = refl

  started-right : (place : Place) (r : Ref) → Right (form.started w place r) → Right (form.started v place r)
  started-right place r h =
      let k = r.name.item.0 in (
        started-same k (λ o. unless (is_some o) r.name.at) (known-plain r.name.at)
            ∙ h.0,
        refl,
        started-same k (n3.has_result r.node.at) (result-plain r.node.at)
            ∙ h.2,
        refl,
        refl,
        refl,
        refl,
        started-same k (n8.main_started place) (main-plain place) ∙ h.7,
        refl,
      )

  started-with-right : (r : Ref) (k : ℕ) → Right (form.started_with w r k) → Right (form.started_with v r k)
  started-with-right r k h = (
    refl,
    refl,
    refl,
    started-same r.name.item.0 (n4.wrong_number_by r.name.at k) (number-plain r.name.at k)
        ∙ h.3,
    refl,
    refl,
    refl,
    refl,
    refl,
  )

  pub thread-right : (outermost : Bool) (k : ThreadTree) → OwnNames Own (n.names_in_thread k)
      → Rights (f.forms_of_thread w outermost k) → Rights (f.forms_of_thread v outermost k)
  thread-right outermost k own h =
      let ps = f.params_of (free_signature b.d k.function.name.item.0) in
      let later = back (form.forms_of_arguments w ps k.arguments) _ h.1.1.1 in
      let last : Rights (form.local_name v k.name ∷ form.apart v k.name ∷ form.counted form.locals b.m k.name.at ∷ [])
      = (
        local-name-right k.name own.0 later.0,
        (apart-right k.name later.1.0, (counted-right form.locals b.m k.name.at, tt)),
      ) in
      let arguments =
      arguments-right Own b ps k.arguments own.1.1 (front (form.forms_of_arguments w ps k.arguments) _ h.1.1.1) in (
        (refl, refl, refl, refl, refl, refl, refl, h.0.7, refl),
        (
          started-right k.at k.function h.1.0,
          (
            started-with-right k.function (count k.arguments) h.1.1.0,
            subst (λ (x : List Param). Rights
                (form.forms_of_arguments v x k.arguments
                ++ (form.local_name v k.name ∷ form.apart v k.name ∷ form.counted form.locals b.m k.name.at ∷ [])))
                (sym (started-same k.function.name.item.0 f.params_of params-plain))
                (joined (form.forms_of_arguments v ps k.arguments) _ arguments last),
          ),
        ),
      )

  -- ---- what begins and steps a `for`

  pub start-right : (o : Option StartTree) → OwnNames Own (n.names_in_optional n.names_in_start o)
      → Rights (f.forms_of_optional (f.forms_of_start w) o) → Rights (f.forms_of_optional (f.forms_of_start v) o)
  start-right None own h = tt
  start-right (Some (s.start_local l)) own h = local-right l own h
  start-right (Some (s.start_simple i)) own h = simple-right i own h

  pub step-right : (o : Option SimpleTree) → OwnNames Own (n.names_in_optional n.names_in_simple o)
      → Rights (f.forms_of_optional (f.forms_of_simple w) o) → Rights (f.forms_of_optional (f.forms_of_simple v) o)
  step-right None own h = tt
  step-right (Some i) own h = simple-right i own h
