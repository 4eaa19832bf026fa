-- The fold of a mapped tree, and of parts that follow each other.
use Rattle.std.proofs.Common.{◌≡◌, refl, sym, ap, ◌∙◌, List, [], ◌∷◌, ◌++◌, map, Option, Some, None, option_map}
use Rattle.cxx_tree.specs.declared.expr.Base.{Base}
use Rattle.cxx_tree.specs.declared.expr.Base.TheVariants as base_of
use Rattle.cxx_tree.specs.declared.expr.Selector.{Selector}
use Rattle.cxx_tree.specs.declared.expr.Left.{Left}
use Rattle.cxx_tree.specs.declared.expr.Left.TheVariants as left_of
use Rattle.cxx_tree.specs.declared.expr.Callee.{Callee}
use Rattle.cxx_tree.specs.declared.expr.Callee.TheVariants as callee_of
use Rattle.cxx_tree.specs.declared.program.Proto.{Proto}
use Rattle.cxx_tree.specs.declared.program.Variable.{Variable}
use Rattle.cxx_tree.specs.ExprTree as e
use Rattle.cxx_tree.specs.StmtTree as s
use Rattle.cxx_tree.specs.ProgramTree as p
use Rattle.cxx_tree.specs.Map as to
use Rattle.cxx_tree.specs.Map.{Map}
use Rattle.cxx_tree.specs.Fold as of
use Rattle.cxx_tree.specs.Fold.{Fold, IsMonoid, mapped_first}

module _ {R : Type 0} (f : Fold R) where
  module _ (m : Map) where
    each-folded : {A : Type 0} (g : A → A) (v w : A → R) → ((x : A) → v (g x) ≡ w x) → (xs : List A) → of.fold_each f v (map g xs) ≡ of.fold_each (mapped_first f m) w xs
    each-folded g v w folded [] = refl
    each-folded g v w folded (x ∷ xs) = rw (folded x, each-folded g v w folded xs)

    optional-folded : {A : Type 0} (g : A → A) (v w : A → R) → ((x : A) → v (g x) ≡ w x) → (o : Option A) → of.fold_optional f v (option_map g o) ≡ of.fold_optional (mapped_first f m) w o
    optional-folded g v w folded None = refl
    optional-folded g v w folded (Some x) = folded x

    base-folded : (x : Base) → of.fold_base f (to.map_base m x) ≡ of.fold_base (mapped_first f m) x
    base-folded base_of.This = refl
    base-folded (base_of.Dot r) = refl
    base-folded (base_of.Arrow r) = refl

    selector-folded : (x : Selector) → of.fold_selector f (to.map_selector m x) ≡ of.fold_selector (mapped_first f m) x
    selector-folded q = cc (base-folded q.base)

    left-folded : (x : Left) → of.fold_left f (to.map_left m x) ≡ of.fold_left (mapped_first f m) x
    left-folded (left_of.Name r) = refl
    left-folded (left_of.Member n q) = cc (selector-folded q)
    left-folded (left_of.Result n) = refl

    callee-folded : (x : Callee) → of.fold_callee f (to.map_callee m x) ≡ of.fold_callee (mapped_first f m) x
    callee-folded (callee_of.Bare r) = refl
    callee-folded (callee_of.Member q) = cc (selector-folded q)

    mutual
      expr-folded : (x : e.ExprTree) → of.fold_expr f (to.map_expr m x) ≡ of.fold_expr (mapped_first f m) x
      expr-folded (e.lit n value) = refl
      expr-folded (e.flag n is_set) = refl
      expr-folded (e.null n) = refl
      expr-folded (e.this n) = refl
      expr-folded (e.left l) = cc (left-folded l)
      expr-folded (e.unary n o operand) = cc (expr-folded operand)
      expr-folded (e.binary n o a b) = cc (expr-folded a, expr-folded b)
      expr-folded (e.paren n inner) = cc (expr-folded inner)
      expr-folded (e.cast n type_name operand) = cc (expr-folded operand)
      expr-folded (e.call c) = cc (call-folded c)
      expr-folded (e.new n class) = refl
      expr-folded (e.new_with n class arguments) = cc (exprs-folded arguments)

      exprs-folded : (x : e.ExprTrees) → of.fold_exprs f (to.map_exprs m x) ≡ of.fold_exprs (mapped_first f m) x
      exprs-folded e.no_exprs = refl
      exprs-folded (e.more_exprs first rest) = cc (expr-folded first, exprs-folded rest)

      call-folded : (x : e.CallTree) → of.fold_call f (to.map_call m x) ≡ of.fold_call (mapped_first f m) x
      call-folded (e.calls n callee arguments) = cc (callee-folded callee, exprs-folded arguments)

    initial-folded : (x : s.InitialTree) → of.fold_initial f (to.map_initial m x) ≡ of.fold_initial (mapped_first f m) x
    initial-folded i = cc (expr-folded i.value)

    local-folded : (x : s.LocalTree) → of.fold_local f (to.map_local m x) ≡ of.fold_local (mapped_first f m) x
    local-folded l = cc (optional-folded (to.map_initial m) (of.fold_initial f) (of.fold_initial (mapped_first f m)) initial-folded l.initial)

    simple-folded : (x : s.SimpleTree) → of.fold_simple f (to.map_simple m x) ≡ of.fold_simple (mapped_first f m) x
    simple-folded (s.assign a) = cc (left-folded a.left, expr-folded a.value)
    simple-folded (s.bump b) = cc (left-folded b.left)
    simple-folded (s.call_stmt c) = cc (call-folded c)
    simple-folded (s.proceed at) = refl

    printed-folded : (x : s.PrintedTree) → of.fold_printed f (to.map_printed m x) ≡ of.fold_printed (mapped_first f m) x
    printed-folded (s.text q) = refl
    printed-folded (s.endl at) = refl
    printed-folded (s.value v) = cc (expr-folded v)

    print-folded : (x : s.PrintTree) → of.fold_print f (to.map_print m x) ≡ of.fold_print (mapped_first f m) x
    print-folded q = cc (each-folded (to.map_printed m) (of.fold_printed f) (of.fold_printed (mapped_first f m)) printed-folded q.operands)

    thread-folded : (x : s.ThreadTree) → of.fold_thread f (to.map_thread m x) ≡ of.fold_thread (mapped_first f m) x
    thread-folded t = cc (exprs-folded t.arguments)

    start-folded : (x : s.StartTree) → of.fold_start f (to.map_start m x) ≡ of.fold_start (mapped_first f m) x
    start-folded (s.start_local l) = cc (local-folded l)
    start-folded (s.start_simple i) = cc (simple-folded i)

    mutual
      stmt-folded : (x : s.StmtTree) → of.fold_stmt f (to.map_stmt m x) ≡ of.fold_stmt (mapped_first f m) x
      stmt-folded (s.block b) = cc (block-folded b)
      stmt-folded (s.local l) = cc (local-folded l)
      stmt-folded (s.simple i) = cc (simple-folded i)
      stmt-folded (s.branch i) = cc (if-folded i)
      stmt-folded (s.while at condition body) = cc (expr-folded condition, block-folded body)
      stmt-folded (s.for at start condition step body) = cc (optional-folded (to.map_start m) (of.fold_start f) (of.fold_start (mapped_first f m)) start-folded start, optional-folded (to.map_expr m) (of.fold_expr f) (of.fold_expr (mapped_first f m)) expr-folded condition, optional-folded (to.map_simple m) (of.fold_simple f) (of.fold_simple (mapped_first f m)) simple-folded step, block-folded body)
      stmt-folded (s.return at value) = cc (optional-folded (to.map_expr m) (of.fold_expr f) (of.fold_expr (mapped_first f m)) expr-folded value)
      stmt-folded (s.delete at pointer) = cc (expr-folded pointer)
      stmt-folded (s.print q) = cc (print-folded q)
      stmt-folded (s.thread t) = cc (thread-folded t)
      stmt-folded (s.abort at) = refl

      stmts-folded : (x : s.StmtTrees) → of.fold_stmts f (to.map_stmts m x) ≡ of.fold_stmts (mapped_first f m) x
      stmts-folded s.no_stmts = refl
      stmts-folded (s.more_stmts first rest) = cc (stmt-folded first, stmts-folded rest)

      block-folded : (x : s.BlockTree) → of.fold_block f (to.map_block m x) ≡ of.fold_block (mapped_first f m) x
      block-folded (s.braces at stmts) = cc (stmts-folded stmts)

      if-folded : (x : s.IfTree) → of.fold_if f (to.map_if m x) ≡ of.fold_if (mapped_first f m) x
      if-folded (s.chooses at condition body otherwise) = cc (expr-folded condition, block-folded body, else-folded otherwise)

      else-folded : (x : s.ElseTree) → of.fold_else f (to.map_else m x) ≡ of.fold_else (mapped_first f m) x
      else-folded s.no_else = refl
      else-folded (s.else_if i) = cc (if-folded i)
      else-folded (s.else_block b) = cc (block-folded b)

    function-folded : (x : p.FunctionTree) → of.fold_function f (to.map_function m x) ≡ of.fold_function (mapped_first f m) x
    function-folded g = cc (each-folded (to.map_param m) (of.fold_param f) (of.fold_param (mapped_first f m)) (λ x. refl) g.params, block-folded g.body)

    proto-folded : (x : Proto) → of.fold_proto f (to.map_proto m x) ≡ of.fold_proto (mapped_first f m) x
    proto-folded g = cc (each-folded (to.map_param m) (of.fold_param f) (of.fold_param (mapped_first f m)) (λ x. refl) g.params)

    init-folded : (x : p.InitTree) → of.fold_init f (to.map_init m x) ≡ of.fold_init (mapped_first f m) x
    init-folded i = cc (exprs-folded i.arguments)

    ctor-folded : (x : p.CtorTree) → of.fold_ctor f (to.map_ctor m x) ≡ of.fold_ctor (mapped_first f m) x
    ctor-folded c = cc (each-folded (to.map_param m) (of.fold_param f) (of.fold_param (mapped_first f m)) (λ x. refl) c.params, each-folded (to.map_init m) (of.fold_init f) (of.fold_init (mapped_first f m)) init-folded c.inits, block-folded c.body)

    dtor-folded : (x : p.DtorTree) → of.fold_dtor f (to.map_dtor m x) ≡ of.fold_dtor (mapped_first f m) x
    dtor-folded d = cc (block-folded d.body)

    item-folded : (x : p.ItemTree) → of.fold_item f (to.map_item m x) ≡ of.fold_item (mapped_first f m) x
    item-folded (p.label at access) = refl
    item-folded (p.member x) = refl
    item-folded (p.function g) = cc (function-folded g)
    item-folded (p.ctor c) = cc (ctor-folded c)
    item-folded (p.dtor d) = cc (dtor-folded d)

    class-folded : (x : p.ClassTree) → of.fold_class f (to.map_class m x) ≡ of.fold_class (mapped_first f m) x
    class-folded c = cc (optional-folded (to.map_placed m) f.name (mapped_first f m).name (λ x. refl) c.base, each-folded (to.map_item m) (of.fold_item f) (of.fold_item (mapped_first f m)) item-folded c.items)

    variable-folded : (x : Variable) → of.fold_variable f (to.map_variable m x) ≡ of.fold_variable (mapped_first f m) x
    variable-folded v = refl

    object-folded : (x : p.ObjectTree) → of.fold_object f (to.map_object m x) ≡ of.fold_object (mapped_first f m) x
    object-folded o = cc (exprs-folded o.arguments)

    global-folded : (x : p.GlobalTree) → of.fold_global f (to.map_global m x) ≡ of.fold_global (mapped_first f m) x
    global-folded (p.variable v) = cc (variable-folded v)
    global-folded (p.object o) = cc (object-folded o)
    global-folded (p.mutex at name) = refl

    decl-folded : (x : p.DeclTree) → of.fold_decl f (to.map_decl m x) ≡ of.fold_decl (mapped_first f m) x
    decl-folded (p.class c) = cc (class-folded c)
    decl-folded (p.class_name c) = refl
    decl-folded (p.free_function g) = cc (function-folded g)
    decl-folded (p.proto g) = cc (proto-folded g)
    decl-folded (p.global g) = cc (global-folded g)

    pub program-folded : (q : p.ProgramTree) → of.fold_program f (to.map_program m q) ≡ of.fold_program (mapped_first f m) q
    program-folded q = each-folded (to.map_decl m) (of.fold_decl f) (of.fold_decl (mapped_first f m)) decl-folded q.decls

  pub each-parts : {A : Type 0} (v : A → R) → IsMonoid f → (xs ys : List A) → of.fold_each f v (xs ++ ys) ≡ f.join (of.fold_each f v xs) (of.fold_each f v ys)
  each-parts v monoid [] ys = sym (monoid.none_left (of.fold_each f v ys))
  each-parts v monoid (x ∷ xs) ys =
      ap (f.join (v x)) (each-parts v monoid xs ys) ∙ sym (monoid.associative (v x) (of.fold_each f v xs) (of.fold_each f v ys))
