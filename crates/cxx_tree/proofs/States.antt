-- The last state of a walk is the fold of what it met.
use Rattle.std.proofs.Common.{◌≡◌, sym, ap, ◌∙◌, List, [], ◌∷◌, Option, Some, None}
use Rattle.agxx_base.specs.declared.ids.NameId.{NameId}
use Rattle.cxx_tree.specs.declared.node.Node.{Node}
use Rattle.cxx_tree.specs.declared.node.Placed.{Placed}
use Rattle.cxx_tree.specs.declared.program.TypeName.{TypeName}
use Rattle.cxx_tree.specs.declared.expr.Ref.{Ref}
use Rattle.cxx_tree.specs.declared.expr.Base.{Base}
use Rattle.cxx_tree.specs.declared.expr.Base.TheVariants as base_of
use Rattle.cxx_tree.specs.declared.expr.Selector.{Selector}
use Rattle.cxx_tree.specs.declared.expr.Left.{Left}
use Rattle.cxx_tree.specs.declared.expr.Left.TheVariants as left_of
use Rattle.cxx_tree.specs.declared.expr.Callee.{Callee}
use Rattle.cxx_tree.specs.declared.expr.Callee.TheVariants as callee_of
use Rattle.cxx_tree.specs.declared.program.Param.{Param}
use Rattle.cxx_tree.specs.ExprTree as e
use Rattle.cxx_tree.specs.StmtTree as s
use Rattle.cxx_tree.specs.ProgramTree as p
use Rattle.cxx_tree.specs.Fold as of
use Rattle.cxx_tree.specs.Fold.{Fold}
use Rattle.cxx_tree.specs.Walk as to
use Rattle.cxx_tree.specs.Walk.{Walk, IsFolded}

module _ {S R : Type 0} (node : Walk S Node) (f : Fold R) (next : S → R → S) (is : IsFolded node f next) where
  -- the state behind a part is what its fold makes of the state before it
  abbrev IsMet : {A : Type 0} → Walk S A → (A → R) → A → Type 0
  IsMet walk fold x = (k : S) → (walk x k).1 ≡ next k (fold x)

  nothing : (k : S) → k ≡ next k f.none
  nothing k = sym (is.of_none k)

  met : (n : Node) (k : S) → (node n k).1 ≡ next k (f.node n)
  met n k = sym (is.of_node k n)

  named : (n : Placed NameId) (k : S) → k ≡ next k (f.name n)
  named n k = sym (is.of_name k n)

  typed : (t : Placed TypeName) (k : S) → k ≡ next k (f.type_name t)
  typed t k = sym (is.of_type_name k t)

  -- parts one after another
  both : {last : S} {a b : R} (k between : S) → between ≡ next k a → last ≡ next between b → last ≡ next k (f.join a b)
  both {b = b} k between here there = there ∙ (ap (λ t. next t b) here ∙ sym (is.of_join k _ b))

  optional-met : {A : Type 0} (walk : Walk S A) (fold : A → R) → ((x : A) → IsMet walk fold x) → (o : Option A) → IsMet (to.walk_optional walk) (of.fold_optional f fold) o
  optional-met walk fold each None k = nothing k
  optional-met walk fold each (Some x) k = each x k

  each-met : {A : Type 0} (walk : Walk S A) (fold : A → R) → ((x : A) → IsMet walk fold x) → (xs : List A) → IsMet (to.walk_each walk) (of.fold_each f fold) xs
  each-met walk fold each [] k = nothing k
  each-met walk fold each (x ∷ xs) k = both k (walk x k).1 (each x k) (each-met walk fold each xs (walk x k).1)

  params-met : (xs : List Param) (k : S) → k ≡ next k (of.fold_params f xs)
  params-met [] k = nothing k
  params-met (x ∷ xs) k = both k k (both k k (typed x.type_name k) (named x.name k)) (params-met xs k)

  class_base-met : (o : Option (Placed NameId)) (k : S) → k ≡ next k (of.fold_optional f f.name o)
  class_base-met None k = nothing k
  class_base-met (Some n) k = named n k

  ref-met : (x : Ref) → IsMet (to.walk_ref node) (of.fold_ref f) x
  ref-met r k = both k (node r.node k).1 (met r.node k) (named r.name (node r.node k).1)

  base-met : (x : Base) → IsMet (to.walk_base node) (of.fold_base f) x
  base-met base_of.This k = nothing k
  base-met (base_of.Dot r) k = ref-met r k
  base-met (base_of.Arrow r) k = ref-met r k

  selector-met : (x : Selector) → IsMet (to.walk_selector node) (of.fold_selector f) x
  selector-met q k = both k (to.walk_base node q.base k).1 (base-met q.base k) (named q.name (to.walk_base node q.base k).1)

  left-met : (x : Left) → IsMet (to.walk_left node) (of.fold_left f) x
  left-met (left_of.Name r) k = ref-met r k
  left-met (left_of.Member n q) k =
      let k1 = (node n k).1 in
      both k k1 (met n k) (selector-met q k1)
  left-met (left_of.Result n) k = met n k

  callee-met : (x : Callee) → IsMet (to.walk_callee node) (of.fold_callee f) x
  callee-met (callee_of.Bare r) k = ref-met r k
  callee-met (callee_of.Member q) k = selector-met q k

  mutual
    expr-met : (x : e.ExprTree) → IsMet (to.walk_expr node) (of.fold_expr f) x
    expr-met (e.lit n value) k = met n k
    expr-met (e.flag n is_set) k = met n k
    expr-met (e.null n) k = met n k
    expr-met (e.this n) k = met n k
    expr-met (e.left l) k = left-met l k
    expr-met (e.unary n o operand) k =
        let k1 = (node n k).1 in
        both k k1 (met n k) (expr-met operand k1)
    expr-met (e.binary n o a b) k =
        let k1 = (node n k).1 in
        let k2 = (to.walk_expr node a k1).1 in
        both k k1 (met n k) (both k1 k2 (expr-met a k1) (expr-met b k2))
    expr-met (e.paren n inner) k =
        let k1 = (node n k).1 in
        both k k1 (met n k) (expr-met inner k1)
    expr-met (e.cast n type_name operand) k =
        let k1 = (node n k).1 in
        both k k1 (met n k) (expr-met operand k1)
    expr-met (e.call c) k = call-met c k
    expr-met (e.new n class) k = both k (node n k).1 (met n k) (named class (node n k).1)
    expr-met (e.new_with n class arguments) k =
        let k1 = (node n k).1 in
        both k k1 (met n k) (both k1 k1 (named class k1) (exprs-met arguments k1))

    exprs-met : (x : e.ExprTrees) → IsMet (to.walk_exprs node) (of.fold_exprs f) x
    exprs-met e.no_exprs k = nothing k
    exprs-met (e.more_exprs first rest) k =
        let k1 = (to.walk_expr node first k).1 in
        both k k1 (expr-met first k) (exprs-met rest k1)

    call-met : (x : e.CallTree) → IsMet (to.walk_call node) (of.fold_call f) x
    call-met (e.calls n callee arguments) k =
        let k1 = (node n k).1 in
        let k2 = (to.walk_callee node callee k1).1 in
        both k k1 (met n k) (both k1 k2 (callee-met callee k1) (exprs-met arguments k2))

  initial-met : (x : s.InitialTree) → IsMet (to.walk_initial node) (of.fold_initial f) x
  initial-met i k = expr-met i.value k

  local-met : (x : s.LocalTree) → IsMet (to.walk_local node) (of.fold_local f) x
  local-met l k = both k k (typed l.type_name k) (both k k (named l.name k) (optional-met (to.walk_initial node) (of.fold_initial f) initial-met l.initial k))

  simple-met : (x : s.SimpleTree) → IsMet (to.walk_simple node) (of.fold_simple f) x
  simple-met (s.assign a) k =
      let k1 = (to.walk_left node a.left k).1 in
      both k k1 (left-met a.left k) (expr-met a.value k1)
  simple-met (s.bump b) k = left-met b.left k
  simple-met (s.call_stmt c) k = call-met c k
  simple-met (s.proceed at) k = nothing k

  printed-met : (x : s.PrintedTree) → IsMet (to.walk_printed node) (of.fold_printed f) x
  printed-met (s.text q) k = nothing k
  printed-met (s.endl at) k = nothing k
  printed-met (s.value v) k = expr-met v k

  print-met : (x : s.PrintTree) → IsMet (to.walk_print node) (of.fold_print f) x
  print-met q k = each-met (to.walk_printed node) (of.fold_printed f) printed-met q.operands k

  thread-met : (x : s.ThreadTree) → IsMet (to.walk_thread node) (of.fold_thread f) x
  thread-met t k =
      let k1 = (to.walk_ref node t.function k).1 in
      both k k (named t.name k) (both k k1 (ref-met t.function k) (exprs-met t.arguments k1))

  start-met : (x : s.StartTree) → IsMet (to.walk_start node) (of.fold_start f) x
  start-met (s.start_local l) k = local-met l k
  start-met (s.start_simple i) k = simple-met i k

  mutual
    stmt-met : (x : s.StmtTree) → IsMet (to.walk_stmt node) (of.fold_stmt f) x
    stmt-met (s.block b) k = block-met b k
    stmt-met (s.local l) k = local-met l k
    stmt-met (s.simple i) k = simple-met i k
    stmt-met (s.branch i) k = if-met i k
    stmt-met (s.while at condition body) k =
        let k1 = (to.walk_expr node condition k).1 in
        both k k1 (expr-met condition k) (block-met body k1)
    stmt-met (s.for at start condition step body) k =
        let k1 = (to.walk_optional (to.walk_start node) start k).1 in
        let k2 = (to.walk_optional (to.walk_expr node) condition k1).1 in
        let k3 = (to.walk_optional (to.walk_simple node) step k2).1 in
        both k k1 (optional-met (to.walk_start node) (of.fold_start f) start-met start k) (both k1 k2 (optional-met (to.walk_expr node) (of.fold_expr f) expr-met condition k1) (both k2 k3 (optional-met (to.walk_simple node) (of.fold_simple f) simple-met step k2) (block-met body k3)))
    stmt-met (s.return at value) k = optional-met (to.walk_expr node) (of.fold_expr f) expr-met value k
    stmt-met (s.delete at pointer) k = expr-met pointer k
    stmt-met (s.print q) k = print-met q k
    stmt-met (s.thread t) k = thread-met t k
    stmt-met (s.abort at) k = nothing k

    stmts-met : (x : s.StmtTrees) → IsMet (to.walk_stmts node) (of.fold_stmts f) x
    stmts-met s.no_stmts k = nothing k
    stmts-met (s.more_stmts first rest) k =
        let k1 = (to.walk_stmt node first k).1 in
        both k k1 (stmt-met first k) (stmts-met rest k1)

    block-met : (x : s.BlockTree) → IsMet (to.walk_block node) (of.fold_block f) x
    block-met (s.braces at stmts) k = stmts-met stmts k

    if-met : (x : s.IfTree) → IsMet (to.walk_if node) (of.fold_if f) x
    if-met (s.chooses at condition body otherwise) k =
        let k1 = (to.walk_expr node condition k).1 in
        let k2 = (to.walk_block node body k1).1 in
        both k k1 (expr-met condition k) (both k1 k2 (block-met body k1) (else-met otherwise k2))

    else-met : (x : s.ElseTree) → IsMet (to.walk_else node) (of.fold_else f) x
    else-met s.no_else k = nothing k
    else-met (s.else_if i) k = if-met i k
    else-met (s.else_block b) k = block-met b k

  function-met : (x : p.FunctionTree) → IsMet (to.walk_function node) (of.fold_function f) x
  function-met g k = both k k (typed g.result k) (both k k (named g.name k) (both k k (params-met g.params k) (block-met g.body k)))

  init-met : (x : p.InitTree) → IsMet (to.walk_init node) (of.fold_init f) x
  init-met i k = both k k (named i.name k) (exprs-met i.arguments k)

  ctor-met : (x : p.CtorTree) → IsMet (to.walk_ctor node) (of.fold_ctor f) x
  ctor-met c k =
      let k1 = (to.walk_each (to.walk_init node) c.inits k).1 in
      both k k (named c.name k) (both k k (params-met c.params k) (both k k1 (each-met (to.walk_init node) (of.fold_init f) init-met c.inits k) (block-met c.body k1)))

  dtor-met : (x : p.DtorTree) → IsMet (to.walk_dtor node) (of.fold_dtor f) x
  dtor-met d k = both k k (named d.name k) (block-met d.body k)

  item-met : (x : p.ItemTree) → IsMet (to.walk_item node) (of.fold_item f) x
  item-met (p.label at access) k = nothing k
  item-met (p.member x) k = both k k (typed x.type_name k) (named x.name k)
  item-met (p.function g) k = function-met g k
  item-met (p.ctor c) k = ctor-met c k
  item-met (p.dtor d) k = dtor-met d k

  class-met : (x : p.ClassTree) → IsMet (to.walk_class node) (of.fold_class f) x
  class-met c k = both k k (named c.name k) (both k k (class_base-met c.base k) (each-met (to.walk_item node) (of.fold_item f) item-met c.items k))

  object-met : (x : p.ObjectTree) → IsMet (to.walk_object node) (of.fold_object f) x
  object-met o k = both k k (named o.class k) (both k k (named o.name k) (exprs-met o.arguments k))

  global-met : (x : p.GlobalTree) → IsMet (to.walk_global node) (of.fold_global f) x
  global-met (p.variable v) k = both k k (typed v.type_name k) (named v.name k)
  global-met (p.object o) k = object-met o k
  global-met (p.mutex at name) k = named name k

  decl-met : (x : p.DeclTree) → IsMet (to.walk_decl node) (of.fold_decl f) x
  decl-met (p.class c) k = class-met c k
  decl-met (p.class_name c) k = named c.name k
  decl-met (p.free_function g) k = function-met g k
  decl-met (p.proto g) k = both k k (typed g.result k) (both k k (named g.name k) (params-met g.params k))
  decl-met (p.global g) k = global-met g k

  pub program-met : (q : p.ProgramTree) → IsMet (to.walk_program node) (of.fold_program f) q
  program-met q k = each-met (to.walk_decl node) (of.fold_decl f) decl-met q.decls k
