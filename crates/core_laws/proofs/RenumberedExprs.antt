-- The core form of expressions keeps where their nodes are numbered anew.
use Rattle.std.proofs.Common.{◌≡◌, ℕ, suc, refl}
use Rattle.agxx_base.specs.declared.place.Place.{Place}
use Rattle.cxx_tree.specs.declared.expr.Base.{Base}
use Rattle.cxx_tree.specs.declared.expr.Base.TheVariants as base_of
use Rattle.cxx_tree.specs.declared.expr.Left.{Left}
use Rattle.cxx_tree.specs.declared.expr.Left.TheVariants as left_of
use Rattle.cxx_tree.specs.declared.expr.Callee.{Callee}
use Rattle.cxx_tree.specs.declared.expr.Callee.TheVariants as callee_of
use Rattle.cxx_tree.specs.ExprTree as e
use Rattle.cxx_tree.specs.Places.{left_node, call_node, expr_node}
use Rattle.cxx_normal.specs.Numbers as n
use Rattle.cxx_core.specs.CoreExpr as c
use Rattle.cxx_core.specs.Meanings.{Scope, Within, kind_named, object_at, addressed, left_at, callee_at, member_in, method_in}
use Rattle.cxx_core.specs.ElaboratedExpr.{read_as, unary_as, binary_as, cast_as, call_as, value_as, new_as, core_expr, core_exprs, core_call}
use Rattle.cxx_core.specs.ElaboratedStmt.{is_name}
use Rattle.cxx_names.specs.Declarations.{class_named}

pub left-place : (l : Left) (k : ℕ) → (left_node (n.number_left l k).0).at ≡ (left_node l).at
left-place (left_of.Name r) k = refl
left-place (left_of.Member node q) k = refl
left-place (left_of.Result node) k = refl

call-place : (x : e.CallTree) (k : ℕ) → (call_node (n.number_call x k).0).at ≡ (call_node x).at
call-place (e.calls node callee arguments) k = refl

pub expr-place : (x : e.ExprTree) (k : ℕ) → (expr_node (n.number_expr x k).0).at ≡ (expr_node x).at
expr-place (e.lit node value) k = refl
expr-place (e.flag node is_set) k = refl
expr-place (e.null node) k = refl
expr-place (e.this node) k = refl
expr-place (e.left l) k = left-place l k
expr-place (e.unary node o operand) k = refl
expr-place (e.binary node o a b) k = refl
expr-place (e.paren node inner) k = refl
expr-place (e.cast node type_name operand) k = refl
expr-place (e.call x) k = call-place x k
expr-place (e.new node class) k = refl
expr-place (e.new_with node class arguments) k = refl

left-is-name : (l : Left) (k : ℕ) → is_name (e.left (n.number_left l k).0) ≡ is_name (e.left l)
left-is-name (left_of.Name r) k = refl
left-is-name (left_of.Member node q) k = refl
left-is-name (left_of.Result node) k = refl

pub name-kept : (x : e.ExprTree) (k : ℕ) → is_name (n.number_expr x k).0 ≡ is_name x
name-kept (e.lit node value) k = refl
name-kept (e.flag node is_set) k = refl
name-kept (e.null node) k = refl
name-kept (e.this node) k = refl
name-kept (e.left l) k = left-is-name l k
name-kept (e.unary node o operand) k = refl
name-kept (e.binary node o a b) k = refl
name-kept (e.paren node inner) k = refl
name-kept (e.cast node type_name operand) k = refl
name-kept (e.call x) k = refl
name-kept (e.new node class) k = refl
name-kept (e.new_with node class arguments) k = refl

module _ (w : Within) (scope : Scope) where
  object-kept : (b : Base) (k : ℕ) → object_at w scope (n.number_base b k).0 ≡ object_at w scope b
  object-kept base_of.This k = refl
  object-kept (base_of.Dot r) k = refl
  object-kept (base_of.Arrow r) k = refl

  pub left-kept : (l : Left) (k : ℕ) → left_at w scope (n.number_left l k).0 ≡ left_at w scope l
  left-kept (left_of.Name r) k = refl
  left-kept (left_of.Member node q) k = λ i. member_in w.declared node.at q.name.item.0 (object-kept q.base (suc k) i)
  left-kept (left_of.Result node) k = refl

  callee-kept : (at : Place) (x : Callee) (k : ℕ) → callee_at w scope at (n.number_callee x k).0 ≡ callee_at w scope at x
  callee-kept at (callee_of.Bare r) k = refl
  callee-kept at (callee_of.Member q) k = λ i. method_in w.declared at q.name.at q.name.item.0 (object-kept q.base k i)

  addressed-left : (l : Left) (k : ℕ) → addressed w scope (e.left (n.number_left l k).0) ≡ addressed w scope (e.left l)
  addressed-left (left_of.Name r) k = refl
  addressed-left (left_of.Member node q) k = refl
  addressed-left (left_of.Result node) k = refl

  addressed-kept : (x : e.ExprTree) (k : ℕ) → addressed w scope (n.number_expr x k).0 ≡ addressed w scope x
  addressed-kept (e.lit node value) k = refl
  addressed-kept (e.flag node is_set) k = refl
  addressed-kept (e.null node) k = refl
  addressed-kept (e.this node) k = refl
  addressed-kept (e.left l) k = addressed-left l k
  addressed-kept (e.unary node o operand) k = refl
  addressed-kept (e.binary node o a b) k = refl
  addressed-kept (e.paren node inner) k = refl
  addressed-kept (e.cast node type_name operand) k = refl
  addressed-kept (e.call x) k = refl
  addressed-kept (e.new node class) k = refl
  addressed-kept (e.new_with node class arguments) k = refl

  mutual
    pub expr-kept : (x : e.ExprTree) (k : ℕ) → core_expr w scope (n.number_expr x k).0 ≡ core_expr w scope x
    expr-kept (e.lit node value) k = refl
    expr-kept (e.flag node is_set) k = refl
    expr-kept (e.null node) k = refl
    expr-kept (e.this node) k = refl
    expr-kept (e.left l) k = λ i. read_as (left-place l k i) (left-kept l k i)
    expr-kept (e.unary node o operand) k = λ i. unary_as node.at o (addressed-kept operand (suc k) i) (expr-kept operand (suc k) i)
    expr-kept (e.binary node o a b) k = λ i. binary_as o.at o.item (expr-kept a (suc k) i) (expr-kept b (n.number_expr a (suc k)).1 i)
    expr-kept (e.paren node inner) k = expr-kept inner (suc k)
    expr-kept (e.cast node type_name operand) k = λ i. cast_as node.at (kind_named w.declared type_name) (expr-kept operand (suc k) i)
    expr-kept (e.call x) k = λ i. value_as (call-place x k i) (call-kept x k i)
    expr-kept (e.new node class) k = refl
    expr-kept (e.new_with node class arguments) k =
        λ i. new_as node.at (class_named w.declared class.item.0) (exprs-kept arguments (suc k) i)

    pub exprs-kept : (xs : e.ExprTrees) (k : ℕ) → core_exprs w scope (n.number_exprs xs k).0 ≡ core_exprs w scope xs
    exprs-kept e.no_exprs k = refl
    exprs-kept (e.more_exprs first rest) k = λ i. c.more_exprs (expr-kept first k i) (exprs-kept rest (n.number_expr first k).1 i)

    pub call-kept : (x : e.CallTree) (k : ℕ) → core_call w scope (n.number_call x k).0 ≡ core_call w scope x
    call-kept (e.calls node callee arguments) k =
        λ i. call_as node.at (callee-kept node.at callee (suc k) i) (exprs-kept arguments (n.number_callee callee (suc k)).1 i)
