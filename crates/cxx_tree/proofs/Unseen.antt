-- A walk changes only what it makes of nodes.
use Rattle.std.proofs.Common.{◌≡◌, refl, List, [], ◌∷◌, map, Option, Some, None, option_map}
use Rattle.cxx_tree.specs.declared.node.Node.{Node}
use Rattle.cxx_tree.specs.declared.expr.Base.{Base}
use Rattle.cxx_tree.specs.declared.expr.Base.TheVariants as base_of
use Rattle.cxx_tree.specs.declared.expr.Selector.{Selector}
use Rattle.cxx_tree.specs.declared.expr.Left.{Left}
use Rattle.cxx_tree.specs.declared.expr.Left.TheVariants as left_of
use Rattle.cxx_tree.specs.declared.expr.Callee.{Callee}
use Rattle.cxx_tree.specs.declared.expr.Callee.TheVariants as callee_of
use Rattle.cxx_tree.specs.declared.stmt.Bump.{Bump}
use Rattle.cxx_tree.specs.ExprTree as e
use Rattle.cxx_tree.specs.StmtTree as s
use Rattle.cxx_tree.specs.ProgramTree as p
use Rattle.cxx_tree.specs.Map as on
use Rattle.cxx_tree.specs.Map.{Map}
use Rattle.cxx_tree.specs.Walk as to
use Rattle.cxx_tree.specs.Walk.{Walk, IsUnseen}

module _ {S : Type 0} where
  -- a part is mapped to the same once it was walked through
  abbrev IsAlike : {A : Type 0} → (A → A) → Walk S A → A → Type 0
  IsAlike map walk x = (k : S) → map (walk x k).0 ≡ map x

  optional-unseen : {A : Type 0} (f : A → A) (walk : Walk S A) → ((x : A) → IsAlike f walk x) → (o : Option A) → IsAlike (option_map f) (to.walk_optional walk) o
  optional-unseen f walk alike None k = refl
  optional-unseen f walk alike (Some x) k = rw (alike x k)

  each-unseen : {A : Type 0} (f : A → A) (walk : Walk S A) → ((x : A) → IsAlike f walk x) → (xs : List A) → IsAlike (map f) (to.walk_each walk) xs
  each-unseen f walk alike [] k = refl
  each-unseen f walk alike (x ∷ xs) k = rw (alike x k, each-unseen f walk alike xs (walk x k).1)

  module _ (node : Walk S Node) (m : Map) (unseen : IsUnseen node m) where
    base-unseen : (x : Base) → IsAlike (on.map_base m) (to.walk_base node) x
    base-unseen base_of.This k = refl
    base-unseen (base_of.Dot r) k = rw (unseen r.node k)
    base-unseen (base_of.Arrow r) k = rw (unseen r.node k)

    selector-unseen : (x : Selector) → IsAlike (on.map_selector m) (to.walk_selector node) x
    selector-unseen q k = rw (base-unseen q.base k)

    left-unseen : (x : Left) → IsAlike (on.map_left m) (to.walk_left node) x
    left-unseen (left_of.Name r) k = rw (unseen r.node k)
    left-unseen (left_of.Member n q) k =
        let k1 = (node n k).1 in
        rw (unseen n k, selector-unseen q k1)
    left-unseen (left_of.Result n) k = rw (unseen n k)

    callee-unseen : (x : Callee) → IsAlike (on.map_callee m) (to.walk_callee node) x
    callee-unseen (callee_of.Bare r) k = rw (unseen r.node k)
    callee-unseen (callee_of.Member q) k = rw (selector-unseen q k)

    mutual
      expr-unseen : (x : e.ExprTree) → IsAlike (on.map_expr m) (to.walk_expr node) x
      expr-unseen (e.lit n value) k = rw (unseen n k)
      expr-unseen (e.flag n is_set) k = rw (unseen n k)
      expr-unseen (e.null n) k = rw (unseen n k)
      expr-unseen (e.this n) k = rw (unseen n k)
      expr-unseen (e.left l) k = rw (left-unseen l k)
      expr-unseen (e.unary n o operand) k =
          let k1 = (node n k).1 in
          rw (unseen n k, expr-unseen operand k1)
      expr-unseen (e.binary n o a b) k =
          let k1 = (node n k).1 in
          let k2 = (to.walk_expr node a k1).1 in
          rw (unseen n k, expr-unseen a k1, expr-unseen b k2)
      expr-unseen (e.paren n inner) k =
          let k1 = (node n k).1 in
          rw (unseen n k, expr-unseen inner k1)
      expr-unseen (e.cast n type_name operand) k =
          let k1 = (node n k).1 in
          rw (unseen n k, expr-unseen operand k1)
      expr-unseen (e.call c) k = rw (call-unseen c k)
      expr-unseen (e.new n class) k = rw (unseen n k)
      expr-unseen (e.new_with n class arguments) k =
          let k1 = (node n k).1 in
          rw (unseen n k, exprs-unseen arguments k1)

      exprs-unseen : (x : e.ExprTrees) → IsAlike (on.map_exprs m) (to.walk_exprs node) x
      exprs-unseen e.no_exprs k = refl
      exprs-unseen (e.more_exprs first rest) k =
          let k1 = (to.walk_expr node first k).1 in
          rw (expr-unseen first k, exprs-unseen rest k1)

      call-unseen : (x : e.CallTree) → IsAlike (on.map_call m) (to.walk_call node) x
      call-unseen (e.calls n callee arguments) k =
          let k1 = (node n k).1 in
          let k2 = (to.walk_callee node callee k1).1 in
          rw (unseen n k, callee-unseen callee k1, exprs-unseen arguments k2)

    initial-unseen : (x : s.InitialTree) → IsAlike (on.map_initial m) (to.walk_initial node) x
    initial-unseen i k = rw (expr-unseen i.value k)

    local-unseen : (x : s.LocalTree) → IsAlike (on.map_local m) (to.walk_local node) x
    local-unseen l k = rw (optional-unseen (on.map_initial m) (to.walk_initial node) initial-unseen l.initial k)

    assign-unseen : (x : s.AssignTree) → IsAlike (on.map_assign m) (to.walk_assign node) x
    assign-unseen a k =
        let k1 = (to.walk_left node a.left k).1 in
        rw (left-unseen a.left k, expr-unseen a.value k1)

    bump-unseen : (x : Bump) → IsAlike (on.map_bump m) (to.walk_bump node) x
    bump-unseen b k = rw (left-unseen b.left k)

    simple-unseen : (x : s.SimpleTree) → IsAlike (on.map_simple m) (to.walk_simple node) x
    simple-unseen (s.assign a) k = rw (assign-unseen a k)
    simple-unseen (s.bump b) k = rw (bump-unseen b k)
    simple-unseen (s.call_stmt c) k = rw (call-unseen c k)
    simple-unseen (s.proceed at) k = refl

    printed-unseen : (x : s.PrintedTree) → IsAlike (on.map_printed m) (to.walk_printed node) x
    printed-unseen (s.text q) k = refl
    printed-unseen (s.endl at) k = refl
    printed-unseen (s.value v) k = rw (expr-unseen v k)

    print-unseen : (x : s.PrintTree) → IsAlike (on.map_print m) (to.walk_print node) x
    print-unseen q k = rw (each-unseen (on.map_printed m) (to.walk_printed node) printed-unseen q.operands k)

    thread-unseen : (x : s.ThreadTree) → IsAlike (on.map_thread m) (to.walk_thread node) x
    thread-unseen t k =
        let k1 = (to.walk_ref node t.function k).1 in
        rw (unseen t.function.node k, exprs-unseen t.arguments k1)

    start-unseen : (x : s.StartTree) → IsAlike (on.map_start m) (to.walk_start node) x
    start-unseen (s.start_local l) k = rw (local-unseen l k)
    start-unseen (s.start_simple i) k = rw (simple-unseen i k)

    mutual
      stmt-unseen : (x : s.StmtTree) → IsAlike (on.map_stmt m) (to.walk_stmt node) x
      stmt-unseen (s.block b) k = rw (block-unseen b k)
      stmt-unseen (s.local l) k = rw (local-unseen l k)
      stmt-unseen (s.simple i) k = rw (simple-unseen i k)
      stmt-unseen (s.branch i) k = rw (if-unseen i k)
      stmt-unseen (s.while at condition body) k =
          let k1 = (to.walk_expr node condition k).1 in
          rw (expr-unseen condition k, block-unseen body k1)
      stmt-unseen (s.for at start condition step body) k =
          let k1 = (to.walk_optional (to.walk_start node) start k).1 in
          let k2 = (to.walk_optional (to.walk_expr node) condition k1).1 in
          let k3 = (to.walk_optional (to.walk_simple node) step k2).1 in
          rw (optional-unseen (on.map_start m) (to.walk_start node) start-unseen start k, optional-unseen (on.map_expr m) (to.walk_expr node) expr-unseen condition k1, optional-unseen (on.map_simple m) (to.walk_simple node) simple-unseen step k2, block-unseen body k3)
      stmt-unseen (s.return at value) k = rw (optional-unseen (on.map_expr m) (to.walk_expr node) expr-unseen value k)
      stmt-unseen (s.delete at pointer) k = rw (expr-unseen pointer k)
      stmt-unseen (s.print q) k = rw (print-unseen q k)
      stmt-unseen (s.thread t) k = rw (thread-unseen t k)
      stmt-unseen (s.abort at) k = refl

      stmts-unseen : (x : s.StmtTrees) → IsAlike (on.map_stmts m) (to.walk_stmts node) x
      stmts-unseen s.no_stmts k = refl
      stmts-unseen (s.more_stmts first rest) k =
          let k1 = (to.walk_stmt node first k).1 in
          rw (stmt-unseen first k, stmts-unseen rest k1)

      block-unseen : (x : s.BlockTree) → IsAlike (on.map_block m) (to.walk_block node) x
      block-unseen (s.braces at stmts) k = rw (stmts-unseen stmts k)

      if-unseen : (x : s.IfTree) → IsAlike (on.map_if m) (to.walk_if node) x
      if-unseen (s.chooses at condition body otherwise) k =
          let k1 = (to.walk_expr node condition k).1 in
          let k2 = (to.walk_block node body k1).1 in
          rw (expr-unseen condition k, block-unseen body k1, else-unseen otherwise k2)

      else-unseen : (x : s.ElseTree) → IsAlike (on.map_else m) (to.walk_else node) x
      else-unseen s.no_else k = refl
      else-unseen (s.else_if i) k = rw (if-unseen i k)
      else-unseen (s.else_block b) k = rw (block-unseen b k)

    function-unseen : (x : p.FunctionTree) → IsAlike (on.map_function m) (to.walk_function node) x
    function-unseen g k = rw (block-unseen g.body k)

    init-unseen : (x : p.InitTree) → IsAlike (on.map_init m) (to.walk_init node) x
    init-unseen i k = rw (exprs-unseen i.arguments k)

    ctor-unseen : (x : p.CtorTree) → IsAlike (on.map_ctor m) (to.walk_ctor node) x
    ctor-unseen c k =
        let k1 = (to.walk_each (to.walk_init node) c.inits k).1 in
        rw (each-unseen (on.map_init m) (to.walk_init node) init-unseen c.inits k, block-unseen c.body k1)

    dtor-unseen : (x : p.DtorTree) → IsAlike (on.map_dtor m) (to.walk_dtor node) x
    dtor-unseen d k = rw (block-unseen d.body k)

    item-unseen : (x : p.ItemTree) → IsAlike (on.map_item m) (to.walk_item node) x
    item-unseen (p.label at access) k = refl
    item-unseen (p.member x) k = refl
    item-unseen (p.function g) k = rw (function-unseen g k)
    item-unseen (p.ctor c) k = rw (ctor-unseen c k)
    item-unseen (p.dtor d) k = rw (dtor-unseen d k)

    class-unseen : (x : p.ClassTree) → IsAlike (on.map_class m) (to.walk_class node) x
    class-unseen c k = rw (each-unseen (on.map_item m) (to.walk_item node) item-unseen c.items k)

    object-unseen : (x : p.ObjectTree) → IsAlike (on.map_object m) (to.walk_object node) x
    object-unseen o k = rw (exprs-unseen o.arguments k)

    global-unseen : (x : p.GlobalTree) → IsAlike (on.map_global m) (to.walk_global node) x
    global-unseen (p.variable v) k = refl
    global-unseen (p.object o) k = rw (object-unseen o k)
    global-unseen (p.mutex at name) k = refl

    decl-unseen : (x : p.DeclTree) → IsAlike (on.map_decl m) (to.walk_decl node) x
    decl-unseen (p.class c) k = rw (class-unseen c k)
    decl-unseen (p.class_name c) k = refl
    decl-unseen (p.free_function g) k = rw (function-unseen g k)
    decl-unseen (p.proto g) k = refl
    decl-unseen (p.global g) k = rw (global-unseen g k)

    pub program-unseen : (q : p.ProgramTree) → IsAlike (on.map_program m) (to.walk_program node) q
    program-unseen q k = rw (each-unseen (on.map_decl m) (to.walk_decl node) decl-unseen q.decls k)
