-- The core form of statements keeps where their nodes are numbered anew.
use Rattle.std.proofs.Common.{◌≡◌, ◌∙◌, ℕ, suc, refl, List, [], ◌∷◌, map, Option, Some, None}
use Rattle.agxx_base.specs.declared.place.Place.{Place}
use Rattle.cxx_tree.specs.declared.expr.Base.{Base}
use Rattle.cxx_tree.specs.declared.expr.Base.TheVariants as base_of
use Rattle.cxx_tree.specs.declared.expr.Left.{Left}
use Rattle.cxx_tree.specs.declared.expr.Callee.{Callee}
use Rattle.cxx_tree.specs.declared.expr.Callee.TheVariants as callee_of
use Rattle.cxx_tree.specs.declared.operator.BinOp.{BinOp}
use Rattle.cxx_tree.specs.ExprTree as e
use Rattle.cxx_tree.specs.StmtTree as s
use Rattle.cxx_normal.specs.Numbers as n
use Rattle.cxx_names.specs.LookUp.{free_signature, thing_of}
use Rattle.cxx_core.specs.CoreExpr.{CoreExpr}
use Rattle.cxx_core.specs.CoreStmt as cs
use Rattle.cxx_core.specs.CoreStmt.{CoreStmt}
use Rattle.cxx_core.specs.Meanings.{Scope, Within, on_base, on_callee}
use Rattle.cxx_core.specs.ElaboratedExpr.{core_expr, core_call}
use Rattle.cxx_core.specs.ElaboratedStmt as k
use Rattle.core_laws.proofs.RenumberedExprs.{left-place, expr-place, name-kept, left-kept, expr-kept, exprs-kept, call-kept}

module _ (w : Within) where
  source-kept : (scope : Scope) (x : e.ExprTree) (m : ℕ) → k.core_source w scope (n.number_expr x m).0 ≡ k.core_source w scope x
  source-kept scope x m = λ i. k.source_as (name-kept x m i) (expr-kept w scope x m i)

  initial-kept : (scope : Scope) (x : Option s.InitialTree) (m : ℕ) → k.core_initial w scope (n.number_optional n.number_initial x m).0 ≡ k.core_initial w scope x
  initial-kept scope None m = refl
  initial-kept scope (Some x) m = λ i. Some (source-kept scope x.value m i)

  local-kept : (scope : Scope) (l : s.LocalTree) (m : ℕ) → k.core_local w scope (n.number_local l m).0 ≡ k.core_local w scope l
  local-kept scope l m =
      λ i. k.declare_as l.type_name.at l.name.item.0 (thing_of w.declared l.type_name.item) (initial-kept scope l.initial m i)

  assigned-kept : (scope : Scope) (l : Left) (m : ℕ) (at : Place) (o : Option BinOp) (a : CoreExpr) → k.assigned w scope (n.number_left l m).0 at o a ≡ k.assigned w scope l at o a
  assigned-kept scope l m at None a = λ i. k.assign_as (left-place l m i) (left-kept w scope l m i) a
  assigned-kept scope l m at (Some o) a = λ i. k.update_as at o (left-kept w scope l m i) a

  on-base-kept : (scope : Scope) (at : Place) (b : Base) (m : ℕ) (word : ℕ) (x : CoreStmt) → on_base w scope at (n.number_base b m).0 word x ≡ on_base w scope at b word x
  on-base-kept scope at base_of.This m word x = refl
  on-base-kept scope at (base_of.Dot r) m word x = refl
  on-base-kept scope at (base_of.Arrow r) m word x = refl

  on-callee-kept : (scope : Scope) (at : Place) (f : Callee) (m : ℕ) (x : CoreStmt) → on_callee w scope at (n.number_callee f m).0 x ≡ on_callee w scope at f x
  on-callee-kept scope at (callee_of.Bare r) m x = refl
  on-callee-kept scope at (callee_of.Member q) m x = on-base-kept scope at q.base m q.name.item.0 x

  call-stmt-kept : (scope : Scope) (x : e.CallTree) (m : ℕ) → k.core_call_stmt w scope (n.number_call x m).0 ≡ k.core_call_stmt w scope x
  call-stmt-kept scope (e.calls node callee arguments) m =
      on-callee-kept scope node.at callee (suc m) (cs.run (core_call w scope (n.number_call (e.calls node callee arguments) m).0))
      ∙ (λ i. on_callee w scope node.at callee (cs.run (call-kept w scope (e.calls node callee arguments) m i)))

  simple-kept : (scope : Scope) (x : s.SimpleTree) (m : ℕ) → k.core_simple w scope (n.number_simple x m).0 ≡ k.core_simple w scope x
  simple-kept scope (s.assign a) m =
      assigned-kept scope a.left m a.sign.at a.sign.item (core_expr w scope (n.number_expr a.value (n.number_left a.left m).1).0)
      ∙ (λ i. k.assigned w scope a.left a.sign.at a.sign.item (expr-kept w scope a.value (n.number_left a.left m).1 i))
  simple-kept scope (s.bump b) m = λ i. k.update_as b.sign (k.bump_operator b.adds) (left-kept w scope b.left m i) k.one
  simple-kept scope (s.call_stmt x) m = call-stmt-kept scope x m
  simple-kept scope (s.proceed at) m = refl

  condition-kept : (scope : Scope) (x : Option e.ExprTree) (m : ℕ) → k.core_condition w scope (n.number_optional n.number_expr x m).0 ≡ k.core_condition w scope x
  condition-kept scope None m = refl
  condition-kept scope (Some x) m = expr-kept w scope x m

  step-kept : (scope : Scope) (x : Option s.SimpleTree) (m : ℕ) → k.core_step w scope (n.number_optional n.number_simple x m).0 ≡ k.core_step w scope x
  step-kept scope None m = refl
  step-kept scope (Some x) m = λ i. k.one_stmt (simple-kept scope x m i)

  start-kept : (scope : Scope) (x : Option s.StartTree) (m : ℕ) → k.core_start w scope (n.number_optional n.number_start x m).0 ≡ k.core_start w scope x
  start-kept scope None m = refl
  start-kept scope (Some (s.start_local l)) m = λ i. k.one_stmt (local-kept scope l m i)
  start-kept scope (Some (s.start_simple x)) m = λ i. k.one_stmt (simple-kept scope x m i)

  in-for-kept : (scope : Scope) (x : Option s.StartTree) (m : ℕ) → k.scope_in_for w scope (n.number_optional n.number_start x m).0 ≡ k.scope_in_for w scope x
  in-for-kept scope None m = refl
  in-for-kept scope (Some (s.start_local l)) m = refl
  in-for-kept scope (Some (s.start_simple x)) m = refl

  after-kept : (scope : Scope) (x : s.StmtTree) (m : ℕ) → k.scope_after w scope (n.number_stmt x m).0 ≡ k.scope_after w scope x
  after-kept scope (s.block b) m = refl
  after-kept scope (s.local l) m = refl
  after-kept scope (s.simple x) m = refl
  after-kept scope (s.branch x) m = refl
  after-kept scope (s.while at condition body) m = refl
  after-kept scope (s.for at start condition step body) m = refl
  after-kept scope (s.return at value) m = refl
  after-kept scope (s.delete at pointer) m = refl
  after-kept scope (s.print q) m = refl
  after-kept scope (s.thread x) m = refl
  after-kept scope (s.abort at) m = refl

  printed-kept : (scope : Scope) (x : s.PrintedTree) (m : ℕ) → k.core_printed w scope (n.number_printed x m).0 ≡ k.core_printed w scope x
  printed-kept scope (s.text q) m = refl
  printed-kept scope (s.endl at) m = refl
  printed-kept scope (s.value x) m = λ i. k.printed_as (expr-place x m i) (expr-kept w scope x m i)

  operands-kept : (scope : Scope) (xs : List s.PrintedTree) (m : ℕ) → map (k.core_printed w scope) (n.number_each n.number_printed xs m).0 ≡ map (k.core_printed w scope) xs
  operands-kept scope [] m = refl
  operands-kept scope (x ∷ xs) m = λ i. printed-kept scope x m i ∷ operands-kept scope xs (n.number_printed x m).1 i

  return-kept : (scope : Scope) (at : Place) (x : Option e.ExprTree) (m : ℕ) → k.core_return w scope at (n.number_optional n.number_expr x m).0 ≡ k.core_return w scope at x
  return-kept scope at None m = refl
  return-kept scope at (Some x) m = λ i. k.return_as at w.result (source-kept scope x m i)

  thread-kept : (scope : Scope) (x : s.ThreadTree) (m : ℕ) → k.core_thread w scope (n.number_thread x m).0 ≡ k.core_thread w scope x
  thread-kept scope x m =
      λ i. k.thread_as x.at x.name.item.0 x.function.name.item.0 (free_signature w.declared x.function.name.item.0) (exprs-kept w scope x.arguments (suc m) i)

  mutual
    pub stmt-kept : (scope : Scope) (x : s.StmtTree) (m : ℕ) → k.core_stmt w scope (n.number_stmt x m).0 ≡ k.core_stmt w scope x
    stmt-kept scope (s.block b) m = λ i. cs.block (block-kept scope b m i)
    stmt-kept scope (s.local l) m = local-kept scope l m
    stmt-kept scope (s.simple x) m = simple-kept scope x m
    stmt-kept scope (s.branch x) m = if-kept scope x m
    stmt-kept scope (s.while at condition body) m =
        λ i. cs.while (expr-kept w scope condition m i) (block-kept scope body (n.number_expr condition m).1 i)
    stmt-kept scope (s.for at start condition step body) m =
        let inner = k.scope_in_for w scope start in
        let a = n.number_optional n.number_start start m in
        let b = n.number_optional n.number_expr condition a.1 in
        let c = n.number_optional n.number_simple step b.1 in
        (λ i. cs.for (start-kept scope start m i) (k.core_condition w (in-for-kept scope start m i) b.0)
        (k.core_step w (in-for-kept scope start m i) c.0) (k.core_block w (in-for-kept scope start m i) (n.number_block body c.1).0))
        ∙ (λ i. cs.for (k.core_start w scope start) (condition-kept inner condition a.1 i) (step-kept inner step b.1 i) (block-kept inner body c.1 i))
    stmt-kept scope (s.return at value) m = return-kept scope at value m
    stmt-kept scope (s.delete at pointer) m = λ i. k.delete_as at (expr-kept w scope pointer m i)
    stmt-kept scope (s.print q) m = λ i. cs.print (operands-kept scope q.operands m i)
    stmt-kept scope (s.thread x) m = thread-kept scope x m
    stmt-kept scope (s.abort at) m = refl

    pub stmts-kept : (scope : Scope) (xs : s.StmtTrees) (m : ℕ) → k.core_stmts w scope (n.number_stmts xs m).0 ≡ k.core_stmts w scope xs
    stmts-kept scope s.no_stmts m = refl
    stmts-kept scope (s.more_stmts first rest) m =
        (λ i. cs.more_stmts (stmt-kept scope first m i) (k.core_stmts w (after-kept scope first m i) (n.number_stmts rest (n.number_stmt first m).1).0))
        ∙ (λ i. cs.more_stmts (k.core_stmt w scope first) (stmts-kept (k.scope_after w scope first) rest (n.number_stmt first m).1 i))

    pub block-kept : (scope : Scope) (b : s.BlockTree) (m : ℕ) → k.core_block w scope (n.number_block b m).0 ≡ k.core_block w scope b
    block-kept scope (s.braces at stmts) m = stmts-kept scope stmts m

    if-kept : (scope : Scope) (x : s.IfTree) (m : ℕ) → k.core_if w scope (n.number_if x m).0 ≡ k.core_if w scope x
    if-kept scope (s.chooses at condition body otherwise) m =
        let a = n.number_expr condition m in
        let b = n.number_block body a.1 in
        λ i. cs.branch (expr-kept w scope condition m i) (block-kept scope body a.1 i) (else-kept scope otherwise b.1 i)

    else-kept : (scope : Scope) (x : s.ElseTree) (m : ℕ) → k.core_else w scope (n.number_else x m).0 ≡ k.core_else w scope x
    else-kept scope s.no_else m = refl
    else-kept scope (s.else_if x) m = λ i. k.one_stmt (if-kept scope x m i)
    else-kept scope (s.else_block b) m = block-kept scope b m
