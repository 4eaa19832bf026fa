-- How an expression with a list of arguments is seen.
use Rattle.std.proofs.Common.{◌≡◌, List, Some, sym, ap, ◌∙◌}
use Rattle.agxx_base.specs.declared.ids.NameId.{NameId}
use Rattle.cxx_tree.specs.declared.node.Node.{Node}
use Rattle.cxx_tree.specs.declared.node.Placed.{Placed}
use Rattle.cxx_tree.specs.declared.expr.Call.{Call, roll-Call}
use Rattle.cxx_tree.specs.declared.expr.Expr.{Expr}
use Rattle.cxx_tree.specs.declared.expr.Expr.TheVariants as variant
use Rattle.cxx_tree.specs.declared.expr.Expr.TheVariants.{rolls-Call, rolls-New}
use Rattle.cxx_tree.specs.declared.expr.Expr.TheOpen.{Expr-F, Call-F}
use Rattle.cxx_tree.specs.declared.expr.Expr.TheFolds.{fold-Expr, fold-Call, fold-roll-Expr, fold-roll-Call}
use Rattle.cxx_tree.specs.ExprTree.{ExprTree, CallTree, call, calls, new_with, expr_step, call_step, expr_tree, exprs_tree}

call-step : (c : Call) → expr_tree (variant.Call c) ≡ call (fold-Call ExprTree CallTree expr_step call_step c)
call-step c = ap (fold-Expr ExprTree CallTree expr_step call_step) (sym (rolls-Call c)) ∙ fold-roll-Expr ExprTree CallTree expr_step call_step (Expr-F.Call c)

pub call-is : (r : Call-F Expr Call) → expr_tree (variant.Call (roll-Call r)) ≡ call (calls r.node r.callee (exprs_tree r.arguments))
call-is r = call-step (roll-Call r) ∙ ap call (fold-roll-Call ExprTree CallTree expr_step call_step r)

pub new_with-is : (n : Node) (class : Placed NameId) (xs : List Expr) → expr_tree (variant.New n class (Some xs)) ≡ new_with n class (exprs_tree xs)
new_with-is n class xs =
    ap (fold-Expr ExprTree CallTree expr_step call_step) (sym (rolls-New n class (Some xs))) ∙ fold-roll-Expr ExprTree CallTree expr_step call_step (Expr-F.New n class (Some xs))
