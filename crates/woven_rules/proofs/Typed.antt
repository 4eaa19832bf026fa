-- Types of expressions stay where others are added to what is declared and in scope.
use Rattle.std.proofs.Common.{◌≡◌, refl, sym, ap, ◌∙◌, ℕ, true, false, if◌then◌else◌, List, [], ◌∷◌, Option, Some, None, option_map}
use Rattle.agxx_base.specs.declared.ids.ClassId.{ClassId}
use Rattle.agxx_base.specs.declared.ids.NameId.{NameId}
use Rattle.cxx_tree.specs.declared.node.Placed.{Placed}
use Rattle.cxx_tree.specs.declared.operator.UnOp.{UnOp}
use Rattle.cxx_tree.specs.declared.operator.UnOp.TheVariants as un
use Rattle.cxx_tree.specs.declared.expr.Callee.{Callee}
use Rattle.cxx_tree.specs.declared.expr.Callee.TheVariants as callee_of
use Rattle.cxx_tree.specs.declared.expr.Left.{Left}
use Rattle.cxx_tree.specs.declared.expr.Left.TheVariants as left_of
use Rattle.cxx_tree.specs.declared.program.Param.{Param}
use Rattle.cxx_tree.specs.ExprTree as e
use Rattle.cxx_tree.specs.ExprTree.{ExprTree, ExprTrees, CallTree}
use Rattle.cxx_names.specs.declared.declarations.MemberInfo.{MemberInfo}
use Rattle.cxx_names.specs.declared.declarations.Signature.{Signature}
use Rattle.cxx_names.specs.declared.types.ValueType.{ValueType}
use Rattle.cxx_names.specs.declared.types.ValueType.TheVariants as value
use Rattle.cxx_distinct.specs.NamesIn as n
use Rattle.cxx_types.specs.declared.context.Holder.{Holder}
use Rattle.cxx_types.specs.declared.context.Holder.TheVariants as holder
use Rattle.cxx_types.specs.Callable.{Callable}
use Rattle.cxx_types.specs.Conversion.{binary_type, unary_type, cast_type}
use Rattle.cxx_types.specs.Selections.{value_of}
use Rattle.cxx_types.specs.Calls.{counts, access_of, result_type}
use Rattle.cxx_types.specs.Expressions.{called_type, count, both, kind_of}
use Rattle.cxx_rules.specs.Sites as at
use Rattle.cxx_rules.specs.Types as typed
use Rattle.woven_rules.proofs.Wider.{plain, plain_found, class-same, thing-same, member-same, method-same, function-same}
use Rattle.woven_rules.proofs.Seen.{OwnNames, own-front, own-back, Both, source, woven, held-at-same, holder-same, object-same, member-held-same, method-usable-same, is-usable-same, access-of-same, result-same, ctor-same, may-convert-same, binary-same}

-- what is made of a thing but for a number is made alike of what is the same but for a number
pub by-plain : {A B : Type 0} (of : A → B) (bare : A → A) → ((x : A) → of x ≡ of (bare x)) → (x y : A)
    → bare y ≡ bare x → of y ≡ of x
by-plain of bare but x y same = but y ∙ (ap of same ∙ sym (but x))

module _ (Own : ℕ → Type 0) (b : Both Own) where
  abbrev w : at.Site
  w = source Own b

  abbrev v : at.Site
  v = woven Own b

  -- ---- members

  pub member-type-same : (name : Placed NameId) → Own name.item.0 → (h : Holder)
      → typed.member_type v name h ≡ typed.member_type w name h
  member-type-same name own (holder.Class class) =
      ap (typed.member_type_by v class) (member-same Own b.d b.z b.wide name.item.0 own class)
      ∙ by (at.member_meant w class name)
    where
      by : (o : Option (ClassId × MemberInfo)) → typed.member_type_by v class o ≡ typed.member_type_by w class o
      by None = refl
      by (Some m) = ap value_of (member-held-same Own b class m)
  member-type-same name own holder.Thread = refl
  member-type-same name own holder.Mutex = refl
  member-type-same name own holder.Unknown = refl

  pub left-type-same : (x : Left) → OwnNames Own (n.names_in_left x) → typed.type_of_left v x ≡ typed.type_of_left w x
  left-type-same (left_of.Name r) own = ap value_of (held-at-same Own b r own.0)
  left-type-same (left_of.Member node q) own =
      let name = own-back Own (n.names_in_base q.base) _ own in
      ap (typed.member_type v q.name) (holder-same Own b q.base (own-front Own (n.names_in_base q.base) _ own))
      ∙ member-type-same q.name name.0 (at.holder_of w q.base)
  left-type-same (left_of.Result node) own = refl

  -- ---- what is called

  bare-plain : (s : at.Site) (k : ℕ) (o : Option (Option ClassId × Signature))
      → typed.bare_function s k o ≡ typed.bare_function s k (option_map plain_found o)
  bare-plain s k None = refl
  bare-plain s k (Some (None, f)) = refl
  bare-plain s k (Some (Some owner, f)) = refl

  bare-seen : (k : ℕ) (o : Option (Option ClassId × Signature))
      → typed.bare_function v k o ≡ typed.bare_function w k o
  bare-seen k None = refl
  bare-seen k (Some f) =
      ap (λ t. let c : Callable = record {
        params = f.1.params;
        result = t;
        is_right = if access_of b.z b.context.class f then
            (if f.1.is_main then false else counts k f.1.params) else false;
      } in c)
      (result-same Own b.d b.z b.wide f.1.result)
      ∙ ap (λ x. let c : Callable = record {
        params = f.1.params;
        result = result_type b.d f.1.result;
        is_right = if x then
            (if f.1.is_main then false else counts k f.1.params) else false;
      } in c)
      (access-of-same Own b.d b.z b.wide b.context.class f)

  method-plain : (s : at.Site) (class : ClassId) (k : ℕ) (o : Option (ClassId × Signature))
      → typed.method s class k o ≡ typed.method s class k (option_map plain_found o)
  method-plain s class k None = refl
  method-plain s class k (Some f) = refl

  method-seen : (class : ClassId) (k : ℕ) (o : Option (ClassId × Signature))
      → typed.method v class k o ≡ typed.method w class k o
  method-seen class k None = refl
  method-seen class k (Some f) =
      ap (λ t. let c : Callable = record {
        params = f.1.params;
        result = t;
        is_right = if at.method_is_usable v class f then counts k f.1.params else
            false;
      } in c) (result-same Own b.d b.z b.wide f.1.result)
      ∙ ap (λ x. let c : Callable = record {
        params = f.1.params;
        result = result_type b.d f.1.result;
        is_right = if x then counts k f.1.params else
            false;
      } in c) (method-usable-same Own b class f)

  behind-same : (name : Placed NameId) → Own name.item.0 → (k : ℕ) (h : Holder)
      → typed.function_behind v name k h ≡ typed.function_behind w name k h
  behind-same name own k (holder.Class class) =
      by-plain (typed.method v class k) (option_map plain_found) (method-plain v class k)
      (at.method_meant w class name) (at.method_meant v class name)
      (method-same Own b.d b.z b.wide name.item.0 own class)
      ∙ method-seen class k (at.method_meant w class name)
  behind-same name own k holder.Thread = refl
  behind-same name own k holder.Mutex = refl
  behind-same name own k holder.Unknown = refl

  pub callable-same : (x : Callee) → OwnNames Own (n.names_in_callee x) → (k : ℕ)
      → typed.callable v x k ≡ typed.callable w x k
  callable-same (callee_of.Bare r) own k =
      by-plain (typed.bare_function v k) (option_map plain_found) (bare-plain v k) (at.function_meant w r)
      (at.function_meant v r) (function-same Own b.d b.z b.wide b.context.class r own.0)
      ∙ bare-seen k (at.function_meant w r)
  callable-same (callee_of.Member q) own k =
      let name = own-back Own (n.names_in_base q.base) _ own in
      ap (typed.function_behind v q.name k) (holder-same Own b q.base (own-front Own (n.names_in_base q.base) _ own))
      ∙ behind-same q.name name.0 k (at.holder_of w q.base)

  ctor-plain : (s : at.Site) (class : ClassId) (k : ℕ) (o : Option Signature)
      → typed.constructor s class k o ≡ typed.constructor s class k (option_map plain o)
  ctor-plain s class k None = refl
  ctor-plain s class k (Some f) = refl

  ctor-seen : (class : ClassId) (k : ℕ) (o : Option Signature)
      → typed.constructor v class k o ≡ typed.constructor w class k o
  ctor-seen class k None = refl
  ctor-seen class k (Some f) =
      ap (λ x. let c : Callable = record {
        params = f.params;
        result = Some (value.Pointer class);
        is_right = if x then counts k f.params else false;
      } in c) (is-usable-same Own b class (Some f))

  creatable-by : (k : ℕ) (o : Option ClassId) → typed.creatable_by v k o ≡ typed.creatable_by w k o
  creatable-by k None = refl
  creatable-by k (Some class) =
      by-plain (typed.constructor v class k) (option_map plain) (ctor-plain v class k) (at.ctor_meant w class)
      (at.ctor_meant v class) (ctor-same Own b.d b.z b.wide class)
      ∙ ctor-seen class k (at.ctor_meant w class)

  pub creatable-same : (name : Placed NameId) (k : ℕ) → typed.creatable v name k ≡ typed.creatable w name k
  creatable-same name k =
      ap (typed.creatable_by v k) (class-same Own b.d b.z b.wide name.item.0) ∙ creatable-by k (at.class_meant w name)

  pub param-same : (p : Param) → typed.type_of_param b.z p ≡ typed.type_of_param b.d p
  param-same p = ap value_of (thing-same Own b.d b.z b.wide p.type_name.item)

  passes-same : (x y : Option ValueType) → typed.passes b.z x y ≡ typed.passes b.d x y
  passes-same None y = refl
  passes-same (Some x) None = refl
  passes-same (Some x) (Some y) = may-convert-same Own b.d b.z b.wide (Some x) (Some y)

  -- ---- all expressions

  unary-same : (node : _) (o : UnOp) (x : ExprTree) → OwnNames Own (n.names_in_expr x)
      → typed.type_of_expr v x ≡ typed.type_of_expr w x
      → typed.type_of_expr v (e.unary node o x) ≡ typed.type_of_expr w (e.unary node o x)
  unary-same node un.AddressOf x own same = ap typed.address_type (object-same Own b x own)
  unary-same node un.Negate x own same = ap (unary_type un.Negate) same
  unary-same node un.Not x own same = ap (unary_type un.Not) same
  unary-same node un.Complement x own same = ap (unary_type un.Complement) same

  mutual
    pub type-same : (x : ExprTree) → OwnNames Own (n.names_in_expr x)
        → typed.type_of_expr v x ≡ typed.type_of_expr w x
    type-same (e.lit node number) own = refl
    type-same (e.flag node is_set) own = refl
    type-same (e.null node) own = refl
    type-same (e.this node) own = refl
    type-same (e.left x) own = left-type-same x own
    type-same (e.unary node o x) own = unary-same node o x own (type-same x own)
    type-same (e.binary node o x y) own =
        ap (λ t. binary_type b.z o.item t (typed.type_of_expr v y))
        (type-same x (own-front Own (n.names_in_expr x) _ own))
        ∙ (ap (binary_type b.z o.item (typed.type_of_expr w x)) (type-same y (own-back Own (n.names_in_expr x) _ own))
        ∙ binary-same Own b.d b.z b.wide o.item (typed.type_of_expr w x) (typed.type_of_expr w y))
    type-same (e.paren node x) own = type-same x own
    type-same (e.cast node t x) own = ap (cast_type (kind_of t)) (type-same x own)
    type-same (e.call x) own = call-same x own
    type-same (e.new node class) own = ap (λ k. called_type k true) (creatable-same class 0)
    type-same (e.new_with node class arguments) own =
        ap (λ k. called_type k (typed.fit v k.params arguments)) (creatable-same class (count arguments))
        ∙ ap (called_type (typed.creatable w class (count arguments)))
        (fit-same (typed.creatable w class (count arguments)).params arguments own.1)

    pub fit-same : (ps : List Param) (xs : ExprTrees) → OwnNames Own (n.names_in_exprs xs)
        → typed.fit v ps xs ≡ typed.fit w ps xs
    fit-same ps e.no_exprs own = refl
    fit-same [] (e.more_exprs first rest) own = refl
    fit-same (p ∷ ps) (e.more_exprs first rest) own =
        ap (λ t. both (typed.passes b.z t (typed.type_of_param b.z p)) (typed.fit v ps rest))
        (type-same first (own-front Own (n.names_in_expr first) _ own))
        ∙ (ap (λ t. both (typed.passes b.z (typed.type_of_expr w first) t) (typed.fit v ps rest)) (param-same p)
        ∙ (ap (λ x. both x (typed.fit v ps rest))
        (passes-same (typed.type_of_expr w first) (typed.type_of_param b.d p))
        ∙ ap (both (typed.passes b.d (typed.type_of_expr w first) (typed.type_of_param b.d p)))
        (fit-same ps rest (own-back Own (n.names_in_expr first) _ own))))

    pub call-same : (x : CallTree) → OwnNames Own (n.names_in_call x)
        → typed.type_of_call v x ≡ typed.type_of_call w x
    call-same (e.calls node callee arguments) own =
        ap (λ k. called_type k (typed.fit v k.params arguments))
        (callable-same callee (own-front Own (n.names_in_callee callee) _ own) (count arguments))
        ∙ ap (called_type (typed.callable w callee (count arguments)))
        (fit-same (typed.callable w callee (count arguments)).params arguments
        (own-back Own (n.names_in_callee callee) _ own))
