use Rattle.std.proofs.Common.{◌≡◌, ℕ, suc, refl, List, map}
use Rattle.agxx_base.specs.declared.ids.NameId.{NameId}
use Rattle.cxx_tree.specs.declared.node.Node.{Node}
use Rattle.cxx_tree.specs.declared.node.Placed.{Placed}
use Rattle.cxx_tree.specs.declared.expr.Expr.{Expr}
use Rattle.cxx_tree.specs.ExprTree.{ExprTrees, new_with, expr_tree, exprs_tree}
use Rattle.cxx_normal.specs.Numbers.{numbered, number_expr, number_exprs}
use Rattle.cxx_normal.proofs.Loops.{each-turn, each-done, listed-exprs, parts}
use Rattle.cxx_normal.proofs.Views.{new_with-is}
use Rattle.cxx_normal.proofs.numbering.Numbering.+expr.Goals as goal

new-numbered : (node new : Node) (class : Placed NameId) (arguments : List Expr) (given : ExprTrees) (k between next : ℕ) → new ≡ numbered node k → between ≡ suc k → (exprs_tree arguments ≡ (number_exprs given between).0) × (next ≡ (number_exprs given between).1) → (new_with new class (exprs_tree arguments) ≡ (number_expr (new_with node class given) k).0) × (next ≡ (number_expr (new_with node class given) k).1)
new-numbered node new class arguments given k between next is after copied = rw (is, ← after, copied.0, copied.1) (refl, refl)

pub created-returns : goal.created-returns
created-returns t c =
    rw (new_with-is c.in_ok-node.node c.args.class c.in_ok-arguments.arguments) (new-numbered c.args.node c.in_ok-node.node c.args.class c.in_ok-arguments.arguments (exprs_tree c.args.arguments.now) c.args.self.now.next c.node.new.self.next c.exprs.new.self.next c.in_ok-node.ensures.node c.in_ok-node.ensures.next c.in_ok-arguments.ensures)

pub exprs-loop-expr-preserved : goal.exprs-loop-expr-preserved
exprs-loop-expr-preserved t c =
    each-turn expr_tree number_expr _ c.args.exprs.now c.loop-expr.expr-index c.expr-item.result c.in_ok-expr.field-0 c.loop-expr.copies c.push.new.self c.loop-expr.self.next c.expr.new.self.next c.loop-expr.invariant c.loop-expr-test.true c.expr-item.is c.in_ok-push.ensures.ok c.in_ok-expr.ensures

pub exprs-returns : goal.exprs-returns
exprs-returns t c =
    let whole = parts expr_tree number_expr c.args.exprs.now c.args.self.now.next in
    let done = each-done expr_tree number_expr whole c.args.exprs.now c.loop-expr.expr-index c.loop-expr.copies c.loop-expr.self.next c.loop-expr.invariant c.loop-expr-test.false in
    rw (listed-exprs (map expr_tree c.args.exprs.now) c.args.self.now.next, ← done) (refl, refl)
