-- How a new object with arguments is seen.
use Rattle.std.proofs.Common.{◌≡◌, List, Some, sym, ap, ◌∙◌}
use Rattle.agxx_base.specs.declared.ids.NameId.{NameId}
use Rattle.cxx_tree.specs.declared.node.Node.{Node}
use Rattle.cxx_tree.specs.declared.node.Placed.{Placed}
use Rattle.cxx_tree.specs.declared.expr.Expr.{Expr}
use Rattle.cxx_tree.specs.declared.expr.Expr.TheVariants as variant
use Rattle.cxx_tree.specs.declared.expr.Expr.TheVariants.{rolls-New}
use Rattle.cxx_tree.specs.declared.expr.Expr.TheOpen.{Expr-F}
use Rattle.cxx_tree.specs.declared.expr.Expr.TheFolds.{fold-Expr, fold-roll-Expr}
use Rattle.cxx_tree.specs.ExprTree.{ExprTree, CallTree, new_with, expr_step, call_step, expr_tree, exprs_tree}

pub new_with-is : (n : Node) (class : Placed NameId) (xs : List Expr) → expr_tree (variant.New n class (Some xs)) ≡ new_with n class (exprs_tree xs)
new_with-is n class xs =
    ap (fold-Expr ExprTree CallTree expr_step call_step) (sym (rolls-New n class (Some xs))) ∙ fold-roll-Expr ExprTree CallTree expr_step call_step (Expr-F.New n class (Some xs))
