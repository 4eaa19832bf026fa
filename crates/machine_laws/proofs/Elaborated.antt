-- What holds of each member that names can mean holds of each that the core form of a tree names.
use Rattle.std.proofs.Common.{◌≡◌, ℕ, Bool, true, false, if◌then◌else◌, List, [], ◌∷◌, map, Option, Some, None, option_map, is_some, codes, refl, ap, subst}
use Rattle.std.proofs.lemmas.Option.{none-some, same_Some}
use Rattle.agxx_base.specs.declared.ids.ClassId.{ClassId}
use Rattle.agxx_base.specs.declared.kind.NumKind.{NumKind}
use Rattle.agxx_base.specs.declared.kind.NumKind.TheVariants as kind
use Rattle.agxx_base.specs.declared.place.Place.{Place}
use Rattle.cxx_tree.specs.declared.operator.BinOp.{BinOp}
use Rattle.cxx_tree.specs.declared.operator.BinOp.TheVariants as op
use Rattle.cxx_tree.specs.declared.operator.UnOp.{UnOp}
use Rattle.cxx_tree.specs.declared.operator.UnOp.TheVariants as un
use Rattle.cxx_tree.specs.declared.expr.Base.{Base}
use Rattle.cxx_tree.specs.declared.expr.Base.TheVariants as base_of
use Rattle.cxx_tree.specs.declared.expr.Callee.{Callee}
use Rattle.cxx_tree.specs.declared.expr.Callee.TheVariants as callee_of
use Rattle.cxx_tree.specs.declared.expr.Left.{Left}
use Rattle.cxx_tree.specs.declared.expr.Left.TheVariants as left_of
use Rattle.cxx_tree.specs.declared.expr.Ref.{Ref}
use Rattle.cxx_tree.specs.declared.program.Access.{Access}
use Rattle.cxx_tree.specs.Places.{left_node, call_node, expr_node}
use Rattle.cxx_tree.specs.ExprTree as e
use Rattle.cxx_tree.specs.StmtTree as s
use Rattle.cxx_names.specs.declared.declarations.MemberInfo.{MemberInfo}
use Rattle.cxx_names.specs.declared.declarations.GlobalInfo.{GlobalInfo}
use Rattle.cxx_names.specs.declared.declarations.Declared.{Declared}
use Rattle.cxx_names.specs.declared.declarations.Signature.{Signature}
use Rattle.cxx_names.specs.declared.types.ValueType.{ValueType}
use Rattle.cxx_names.specs.declared.types.ValueType.TheVariants as type
use Rattle.cxx_names.specs.declared.types.Thing.{Thing}
use Rattle.cxx_names.specs.declared.types.Thing.TheVariants as thing
use Rattle.cxx_names.specs.declared.types.Variable.{Variable}
use Rattle.cxx_names.specs.declared.types.Variable.TheVariants as variable_of
use Rattle.cxx_names.specs.Tables.{named}
use Rattle.cxx_names.specs.Declarations.{class_named, is_text}
use Rattle.cxx_names.specs.LookUp.{or_next, member_named, member_as, member_variable, local_variable, global_variable, global_thing, free_signature, thing_of}
use Rattle.cxx_core.specs.CoreExpr as c
use Rattle.cxx_core.specs.CoreExpr.{CoreObject, CoreLeft, CoreCallee, CoreExpr, CoreExprs, unary_type, binary_type, type_of, left_type}
use Rattle.cxx_core.specs.CoreStmt as cs
use Rattle.cxx_core.specs.CoreStmt.{CoreSource, CorePrinted, CoreStmt, CoreStmts, CoreMutex}
use Rattle.cxx_core.specs.Meanings.{Scope, Within, value_type, number_kind, kind_named, variable_at, left_by, left_at, object_at, member_in, member_found, member_of, addressed, callee_at, thread_stmt, mutex_stmt, on_variable, on_base, on_callee}
use Rattle.cxx_core.specs.ElaboratedExpr as x
use Rattle.cxx_core.specs.ElaboratedStmt as k
use Rattle.machine_laws.specs.Members.{Nothing, OfLeft, OfExpr, OfExprs, OfSource, OfInitial, OfPrinted, OfStmt, OfStmts}

-- each member that is found, if it is a word, is one of which it holds
abbrev pub HoldsOfFound : (ClassId → ℕ → NumKind → Type 0) → Declared → Type 0
HoldsOfFound Holds known =
    (class : ClassId) (name : ℕ) (found : ClassId × MemberInfo) (kind : NumKind) → member_named known class name ≡ Some found → kind_named known found.1.type_name ≡ Some kind
    → Holds found.0 name kind

module _ (Holds : ClassId → ℕ → NumKind → Type 0) where
  abbrev OfLeftIf : Option CoreLeft → Type 0
  OfLeftIf None = Nothing
  OfLeftIf (Some l) = OfLeft Holds l

  -- ---- parts of expressions

  if-expr : (b : Bool) (a z : CoreExpr) → OfExpr Holds a → OfExpr Holds z → OfExpr Holds (if b then a else z)
  if-expr true a z p q = p
  if-expr false a z p q = q

  this-as : (at : Place) (o : Option ClassId) → OfExpr Holds (x.this_as at o)
  this-as at None = tt
  this-as at (Some class) = tt

  read-as : (at : Place) (o : Option CoreLeft) → OfLeftIf o → OfExpr Holds (x.read_as at o)
  read-as at None h = tt
  read-as at (Some l) h = h

  address-as : (at : Place) (o : Option (CoreObject × ClassId)) → OfExpr Holds (x.address_as at o)
  address-as at None = tt
  address-as at (Some (c.own, class)) = tt
  address-as at (Some (c.by_this, class)) = tt
  address-as at (Some (c.by_object name class, other)) = tt
  address-as at (Some (c.by_pointer v, class)) = tt

  unary-by : (at : Place) (o : UnOp) (t : Option ValueType) (a : CoreExpr) → OfExpr Holds a → OfExpr Holds (x.unary_by at o t a)
  unary-by at o None a h = tt
  unary-by at o (Some t) a h = if-expr (is_some (unary_type o t)) (c.unary at o t a) (c.wrong at) h tt

  unary-as : (at : Place) (u : UnOp) (o : Option (CoreObject × ClassId)) (a : CoreExpr) → OfExpr Holds a → OfExpr Holds (x.unary_as at u o a)
  unary-as at un.AddressOf o a h = address-as at o
  unary-as at un.Negate o a h = unary-by at un.Negate (type_of a) a h
  unary-as at un.Not o a h = unary-by at un.Not (type_of a) a h
  unary-as at un.Complement o a h = unary-by at un.Complement (type_of a) a h

  joined : (at : Place) (o : BinOp) (u t : ValueType) (a b : CoreExpr) → OfExpr Holds a → OfExpr Holds b → OfExpr Holds (x.joined at o u t a b)
  joined at op.Or u t a b p q = (p, q)
  joined at op.And u t a b p q = (p, q)
  joined at o u t a b p q = if-expr (is_some (binary_type o u t)) (c.binary at o u t a b) (c.wrong at) (p, q) tt

  binary-by : (at : Place) (o : BinOp) (u t : Option ValueType) (a b : CoreExpr) → OfExpr Holds a → OfExpr Holds b → OfExpr Holds (x.binary_by at o u t a b)
  binary-by at o None t a b p q = tt
  binary-by at o (Some u) None a b p q = tt
  binary-by at o (Some u) (Some t) a b p q = joined at o u t a b p q

  cast-by : (at : Place) (k : Option NumKind) (t : Option ValueType) (a : CoreExpr) → OfExpr Holds a → OfExpr Holds (x.cast_by at k t a)
  cast-by at (Some k) (Some (type.Number from)) a h = h
  cast-by at (Some kind.Bool) (Some t) a h = h
  cast-by at _ _ a h = tt

  call-as : (at : Place) (o : Option CoreCallee) (es : CoreExprs) → OfExprs Holds es → OfExpr Holds (x.call_as at o es)
  call-as at None es h = tt
  call-as at (Some callee) es h = h

  value-by : (at : Place) (t : Option ValueType) (a : CoreExpr) → OfExpr Holds a → OfExpr Holds (x.value_by at t a)
  value-by at None a h = tt
  value-by at (Some t) a h = h

  new-as : (at : Place) (o : Option ClassId) (es : CoreExprs) → OfExprs Holds es → OfExpr Holds (x.new_as at o es)
  new-as at None es h = tt
  new-as at (Some class) es h = h

  -- ---- parts of statements

  if-stmt : (b : Bool) (a z : CoreStmt) → OfStmt Holds a → OfStmt Holds z → OfStmt Holds (if b then a else z)
  if-stmt true a z p q = p
  if-stmt false a z p q = q

  source-as : (b : Bool) (a : CoreExpr) → OfExpr Holds a → OfSource Holds (k.source_as b a)
  source-as true (c.read (c.variable (c.local name t))) h = tt
  source-as _ a h = h

  declare-as : (at : Place) (name : ℕ) (t : Thing) (source : Option CoreSource) → OfInitial Holds source → OfStmt Holds (k.declare_as at name t source)
  declare-as at name (thing.Value t) source h = h
  declare-as at name _ source h = tt

  assign-as : (at : Place) (l : Option CoreLeft) (a : CoreExpr) → OfLeftIf l → OfExpr Holds a → OfStmt Holds (k.assign_as at l a)
  assign-as at None a h q = tt
  assign-as at (Some l) a h q = (h, q)

  update-by : (at : Place) (o : BinOp) (u : ValueType) (t : Option ValueType) (l : CoreLeft) (a : CoreExpr) → OfLeft Holds l → OfExpr Holds a → OfStmt Holds (k.update_by at o u t l a)
  update-by at o u None l a h q = tt
  update-by at o u (Some t) l a h q = if-stmt (is_some (binary_type o u t)) (cs.update at o u t l a) (cs.wrong at) (h, q) tt

  update-as : (at : Place) (o : BinOp) (l : Option CoreLeft) (a : CoreExpr) → OfLeftIf l → OfExpr Holds a → OfStmt Holds (k.update_as at o l a)
  update-as at o None a h q = tt
  update-as at o (Some l) a h q = update-by at o (left_type l) (type_of a) l a h q

  delete-by : (at : Place) (t : Option ValueType) (a : CoreExpr) → OfExpr Holds a → OfStmt Holds (k.delete_by at t a)
  delete-by at (Some (type.Pointer class)) a h = h
  delete-by at _ a h = tt

  printed-by : (at : Place) (t : Option ValueType) (a : CoreExpr) (qs : List CorePrinted) → OfExpr Holds a → OfPrinted Holds qs → OfPrinted Holds (k.printed_by at t a ∷ qs)
  printed-by at (Some (type.Number n)) a qs h r = (h, r)
  printed-by at _ a qs h r = r

  return-as : (at : Place) (t : Option ValueType) (source : CoreSource) → OfSource Holds source → OfStmt Holds (k.return_as at t source)
  return-as at None source h = tt
  return-as at (Some t) source h = h

  thread-as : (at : Place) (name function : ℕ) (f : Option Signature) (es : CoreExprs) → OfExprs Holds es → OfStmt Holds (k.thread_as at name function f es)
  thread-as at name function None es h = tt
  thread-as at name function (Some f) es h = h

  -- ---- names

  module _ (w : Within) (found : HoldsOfFound Holds w.declared) where
    member-of : (at : Place) (o : CoreObject) (class : ClassId) (name : ℕ) (kind : Option NumKind) → ((j : NumKind) → kind ≡ Some j → Holds class name j) → OfLeftIf (member_of at o class name kind)
    member-of at o class name None h = tt
    member-of at o class name (Some j) h = h j refl

    member-found : (at : Place) (o : CoreObject) (class : ClassId) (name : ℕ) (m : Option (ClassId × MemberInfo)) → member_named w.declared class name ≡ m
        → OfLeftIf (member_found w.declared at o name m)
    member-found at o class name None z = tt
    member-found at o class name (Some m) z =
        member-of at o m.0 name (kind_named w.declared m.1.type_name) (λ j y. found class name m j z y)

    member-in : (at : Place) (name : ℕ) (o : Option (CoreObject × ClassId)) → OfLeftIf (member_in w.declared at name o)
    member-in at name None = tt
    member-in at name (Some o) = member-found at o.0 o.1 name (member_named w.declared o.1 name) refl

    abbrev IsMember : Option Variable → ClassId → Access → NumKind → Type 0
    IsMember v class access j = v ≡ Some (variable_of.Member class access (thing.Value (type.Number j)))

    no-local : (o : Option Thing) (class : ClassId) (access : Access) (j : NumKind) → IsMember (option_map variable_of.Local o) class access j → ⊥
    no-local None class access j z = none-some _ z
    no-local (Some t) class access j z = cc

    no-global : (o : Option GlobalInfo) (class : ClassId) (access : Access) (j : NumKind)
        → IsMember (option_map (λ g. variable_of.Global (global_thing w.declared g)) o) class access j → ⊥
    no-global None class access j z = none-some _ z
    no-global (Some g) class access j z = cc

    a-member : (own : ClassId) (name : ℕ) (m : Option (ClassId × MemberInfo)) (next : Option Variable) (class : ClassId) (access : Access) (j : NumKind)
        → member_named w.declared own name ≡ m → (IsMember next class access j → ⊥) → IsMember (or_next (option_map (member_as w.declared) m) next) class access j → Holds class name j
    a-member own name None next class access j z never f = absurd (never f)
    a-member own name (Some m) next class access j z never f =
        let same : member_as w.declared m ≡ variable_of.Member class access (thing.Value (type.Number j)) = same_Some _ _ f in
        let this : m.0 ≡ class = cc in
        let holds : thing_of w.declared m.1.type_name ≡ thing.Value (type.Number j) = cc in
        subst (λ n. Holds n name j) this (found own name m j z (ap (λ t. number_kind (value_type t)) holds))

    of-class : (own : Option ClassId) (name : ℕ) (class : ClassId) (access : Access) (j : NumKind)
        → IsMember (or_next (member_variable w.declared own name) (global_variable w.declared name)) class access j → Holds class name j
    of-class None name class access j f = absurd (no-global (named w.declared.globals name) class access j f)
    of-class (Some own) name class access j f =
        a-member own name (member_named w.declared own name) (global_variable w.declared name) class access j refl
        (no-global (named w.declared.globals name) class access j) f

    of-scope : (o : Option Thing) (own : Option ClassId) (name : ℕ) (class : ClassId) (access : Access) (j : NumKind)
        → IsMember (or_next (option_map variable_of.Local o) (or_next (member_variable w.declared own name) (global_variable w.declared name))) class access j → Holds class name j
    of-scope None own name class access j f = of-class own name class access j f
    of-scope (Some t) own name class access j f = absurd (no-local (Some t) class access j f)

    of-variable : (scope : Scope) (r : Ref) (class : ClassId) (access : Access) (j : NumKind) → IsMember (variable_at w scope r) class access j → Holds class r.name.item.0 j
    of-variable scope r class access j f = by r.global f
      where
        by : (b : Bool)
            → IsMember (if b then global_variable w.declared r.name.item.0
            else or_next (local_variable scope r.name.item.0) (or_next (member_variable w.declared w.class r.name.item.0) (global_variable w.declared r.name.item.0))) class access j
            → Holds class r.name.item.0 j
        by true z = absurd (no-global (named w.declared.globals r.name.item.0) class access j z)
        by false z = of-scope (named scope r.name.item.0) w.class r.name.item.0 class access j z

    left-by : (r : Ref) (v : Option Variable) → ((class : ClassId) (access : Access) (j : NumKind) → IsMember v class access j → Holds class r.name.item.0 j) → OfLeftIf (left_by r v)
    left-by r (Some (variable_of.Local (thing.Value t))) h = tt
    left-by r (Some (variable_of.Member class access (thing.Value (type.Number j)))) h = h class access j refl
    left-by r (Some (variable_of.Global (thing.Value t))) h = tt
    left-by r _ h = tt

    pub left-at : (scope : Scope) (l : Left) → OfLeftIf (left_at w scope l)
    left-at scope (left_of.Name r) = left-by r (variable_at w scope r) (of-variable scope r)
    left-at scope (left_of.Member n q) = member-in n.at q.name.item.0 (object_at w scope q.base)
    left-at scope (left_of.Result n) = tt

    -- ---- expressions

    mutual
      pub expr : (scope : Scope) (t : e.ExprTree) → OfExpr Holds (x.core_expr w scope t)
      expr scope (e.lit n value) = tt
      expr scope (e.flag n is_set) = tt
      expr scope (e.null n) = tt
      expr scope (e.this n) = this-as n.at w.class
      expr scope (e.left l) = read-as (left_node l).at (left_at w scope l) (left-at scope l)
      expr scope (e.unary n o operand) = unary-as n.at o (addressed w scope operand) (x.core_expr w scope operand) (expr scope operand)
      expr scope (e.binary n o a b) =
          binary-by o.at o.item (type_of (x.core_expr w scope a)) (type_of (x.core_expr w scope b)) (x.core_expr w scope a) (x.core_expr w scope b) (expr scope a) (expr scope b)
      expr scope (e.paren n inner) = expr scope inner
      expr scope (e.cast n type_name operand) =
          cast-by n.at (kind_named w.declared type_name) (type_of (x.core_expr w scope operand)) (x.core_expr w scope operand) (expr scope operand)
      expr scope (e.call y) = value-by (call_node y).at (type_of (x.core_call w scope y)) (x.core_call w scope y) (call scope y)
      expr scope (e.new n class) = new-as n.at (class_named w.declared class.item.0) c.no_exprs tt
      expr scope (e.new_with n class arguments) = new-as n.at (class_named w.declared class.item.0) (x.core_exprs w scope arguments) (exprs scope arguments)

      pub exprs : (scope : Scope) (ts : e.ExprTrees) → OfExprs Holds (x.core_exprs w scope ts)
      exprs scope e.no_exprs = tt
      exprs scope (e.more_exprs first rest) = (expr scope first, exprs scope rest)

      pub call : (scope : Scope) (y : e.CallTree) → OfExpr Holds (x.core_call w scope y)
      call scope (e.calls n callee arguments) = call-as n.at (callee_at w scope n.at callee) (x.core_exprs w scope arguments) (exprs scope arguments)

    -- ---- statements without statements in them

    source : (scope : Scope) (value : e.ExprTree) → OfSource Holds (k.core_source w scope value)
    source scope value = source-as (k.is_name value) (x.core_expr w scope value) (expr scope value)

    initial : (scope : Scope) (i : Option s.InitialTree) → OfInitial Holds (k.core_initial w scope i)
    initial scope None = tt
    initial scope (Some i) = source scope i.value

    local : (scope : Scope) (l : s.LocalTree) → OfStmt Holds (k.core_local w scope l)
    local scope l = declare-as l.type_name.at l.name.item.0 (thing_of w.declared l.type_name.item) (k.core_initial w scope l.initial) (initial scope l.initial)

    assigned : (scope : Scope) (l : Left) (at : Place) (o : Option BinOp) (a : CoreExpr) → OfExpr Holds a → OfStmt Holds (k.assigned w scope l at o a)
    assigned scope l at None a q = assign-as (left_node l).at (left_at w scope l) a (left-at scope l) q
    assigned scope l at (Some o) a q = update-as at o (left_at w scope l) a (left-at scope l) q

    thread-stmt : (at : Place) (name word : ℕ) → OfStmt Holds (thread_stmt w at name word)
    thread-stmt at name word = if-stmt (is_text w.names word (codes "join")) (cs.join at name) (cs.wrong at) tt tt

    mutex-stmt : (at : Place) (m : CoreMutex) (word : ℕ) → OfStmt Holds (mutex_stmt w at m word)
    mutex-stmt at m word =
        if-stmt (is_text w.names word (codes "lock")) (cs.lock at m) (if is_text w.names word (codes "unlock") then cs.unlock at m else cs.wrong at)
        tt (if-stmt (is_text w.names word (codes "unlock")) (cs.unlock at m) (cs.wrong at) tt tt)

    on-variable : (at : Place) (r : Ref) (word : ℕ) (v : Option Variable) (y : CoreStmt) → OfStmt Holds y → OfStmt Holds (on_variable w at r word v y)
    on-variable at r word (Some (variable_of.Local thing.Thread)) y h = thread-stmt at r.name.item.0 word
    on-variable at r word (Some (variable_of.Member class access thing.Mutex)) y h = mutex-stmt at (cs.member_mutex class r.name.item.0) word
    on-variable at r word (Some (variable_of.Global thing.Mutex)) y h = mutex-stmt at (cs.global_mutex r.name.item.0) word
    on-variable at r word _ y h = h

    on-base : (scope : Scope) (at : Place) (b : Base) (word : ℕ) (y : CoreStmt) → OfStmt Holds y → OfStmt Holds (on_base w scope at b word y)
    on-base scope at base_of.This word y h = h
    on-base scope at (base_of.Dot r) word y h = on-variable at r word (variable_at w scope r) y h
    on-base scope at (base_of.Arrow r) word y h = h

    on-callee : (scope : Scope) (at : Place) (callee : Callee) (y : CoreStmt) → OfStmt Holds y → OfStmt Holds (on_callee w scope at callee y)
    on-callee scope at (callee_of.Bare r) y h = h
    on-callee scope at (callee_of.Member q) y h = on-base scope at q.base q.name.item.0 y h

    call-stmt : (scope : Scope) (y : e.CallTree) → OfStmt Holds (k.core_call_stmt w scope y)
    call-stmt scope (e.calls n callee arguments) =
        on-callee scope n.at callee (cs.run (x.core_call w scope (e.calls n callee arguments))) (call scope (e.calls n callee arguments))

    simple : (scope : Scope) (i : s.SimpleTree) → OfStmt Holds (k.core_simple w scope i)
    simple scope (s.assign a) = assigned scope a.left a.sign.at a.sign.item (x.core_expr w scope a.value) (expr scope a.value)
    simple scope (s.bump b) = update-as b.sign (k.bump_operator b.adds) (left_at w scope b.left) k.one (left-at scope b.left) tt
    simple scope (s.call_stmt y) = call-stmt scope y
    simple scope (s.proceed at) = tt

    start : (scope : Scope) (i : Option s.StartTree) → OfStmts Holds (k.core_start w scope i)
    start scope None = tt
    start scope (Some (s.start_local l)) = (local scope l, tt)
    start scope (Some (s.start_simple i)) = (simple scope i, tt)

    condition : (scope : Scope) (t : Option e.ExprTree) → OfExpr Holds (k.core_condition w scope t)
    condition scope None = tt
    condition scope (Some t) = expr scope t

    step : (scope : Scope) (i : Option s.SimpleTree) → OfStmts Holds (k.core_step w scope i)
    step scope None = tt
    step scope (Some i) = (simple scope i, tt)

    printed : (scope : Scope) (ts : List s.PrintedTree) → OfPrinted Holds (map (k.core_printed w scope) ts)
    printed scope [] = tt
    printed scope (s.text q ∷ ts) = printed scope ts
    printed scope (s.endl at ∷ ts) = printed scope ts
    printed scope (s.value v ∷ ts) =
        printed-by (expr_node v).at (type_of (x.core_expr w scope v)) (x.core_expr w scope v) (map (k.core_printed w scope) ts) (expr scope v) (printed scope ts)

    return : (scope : Scope) (at : Place) (value : Option e.ExprTree) → OfStmt Holds (k.core_return w scope at value)
    return scope at None = tt
    return scope at (Some value) = return-as at w.result (k.core_source w scope value) (source scope value)

    thread-of : (scope : Scope) (y : s.ThreadTree) → OfStmt Holds (k.core_thread w scope y)
    thread-of scope y =
        thread-as y.at y.name.item.0 y.function.name.item.0 (free_signature w.declared y.function.name.item.0) (x.core_exprs w scope y.arguments) (exprs scope y.arguments)

    -- ---- statements

    mutual
      stmt : (scope : Scope) (t : s.StmtTree) → OfStmt Holds (k.core_stmt w scope t)
      stmt scope (s.block b) = block scope b
      stmt scope (s.local l) = local scope l
      stmt scope (s.simple i) = simple scope i
      stmt scope (s.branch i) = branch scope i
      stmt scope (s.while at test body) = (expr scope test, block scope body)
      stmt scope (s.for at first test after body) =
          (start scope first, condition (k.scope_in_for w scope first) test, step (k.scope_in_for w scope first) after, block (k.scope_in_for w scope first) body)
      stmt scope (s.return at value) = return scope at value
      stmt scope (s.delete at pointer) = delete-by at (type_of (x.core_expr w scope pointer)) (x.core_expr w scope pointer) (expr scope pointer)
      stmt scope (s.print q) = printed scope q.operands
      stmt scope (s.thread y) = thread-of scope y
      stmt scope (s.abort at) = tt

      stmts : (scope : Scope) (ts : s.StmtTrees) → OfStmts Holds (k.core_stmts w scope ts)
      stmts scope s.no_stmts = tt
      stmts scope (s.more_stmts first rest) = (stmt scope first, stmts (k.scope_after w scope first) rest)

      pub block : (scope : Scope) (b : s.BlockTree) → OfStmts Holds (k.core_block w scope b)
      block scope (s.braces at ts) = stmts scope ts

      branch : (scope : Scope) (i : s.IfTree) → OfStmt Holds (k.core_if w scope i)
      branch scope (s.chooses at test body otherwise) = (expr scope test, block scope body, other scope otherwise)

      other : (scope : Scope) (i : s.ElseTree) → OfStmts Holds (k.core_else w scope i)
      other scope s.no_else = tt
      other scope (s.else_if i) = (branch scope i, tt)
      other scope (s.else_block b) = block scope b
