-- How trees of several parts are seen.
use Rattle.std.proofs.Common.{◌≡◌, sym, ap, ◌∙◌, Option, Some, None, option_map}
use Rattle.agxx_base.specs.declared.place.Place.{Place}
use Rattle.cxx_tree.specs.declared.node.Node.{Node}
use Rattle.cxx_tree.specs.declared.node.Placed.{Placed}
use Rattle.cxx_tree.specs.declared.operator.BinOp.{BinOp}
use Rattle.cxx_tree.specs.declared.expr.Expr.{Expr}
use Rattle.cxx_tree.specs.declared.expr.Expr.TheVariants as expr_of
use Rattle.cxx_tree.specs.declared.expr.Expr.TheVariants.{rolls-Binary}
use Rattle.cxx_tree.specs.declared.expr.Expr.TheOpen.{Expr-F}
use Rattle.cxx_tree.specs.declared.expr.Expr.TheFolds.{fold-Expr, fold-roll-Expr}
use Rattle.cxx_tree.specs.declared.stmt.Else.TheFolds.{fold-roll-If, fold-roll-While, fold-roll-For}
use Rattle.cxx_tree.specs.declared.stmt.Block.{Block}
use Rattle.cxx_tree.specs.declared.stmt.Else.{Else}
use Rattle.cxx_tree.specs.declared.stmt.While.{While}
use Rattle.cxx_tree.specs.declared.stmt.For.{For}
use Rattle.cxx_tree.specs.ExprTree.{ExprTree, CallTree, binary, expr_step, call_step, expr_tree}
use Rattle.cxx_tree.specs.StmtTree as s
use Rattle.cxx_tree.specs.StmtTree.{StmtTree, BlockTree, IfTree, ElseTree, else_step, stmt_step, block_step, for_step, if_step, while_step, else_or_none, block_tree, if_tree, else_tree, while_tree, for_tree, start_tree, simple_tree}

pub binary_is : (n : Node) (op : Placed BinOp) (a b : Expr) → expr_tree (expr_of.Binary n op a b) ≡ binary n op (expr_tree a) (expr_tree b)
binary_is n op a b = ap (fold-Expr ExprTree CallTree expr_step call_step) (sym (rolls-Binary n op a b)) ∙ fold-roll-Expr ExprTree CallTree expr_step call_step (Expr-F.Binary n op a b)

pub if_is : (at : Place) (condition : Expr) (body : Block) (otherwise : Option Else)
    → if_tree (record { at = at; condition = condition; body = body; otherwise = otherwise }) ≡ s.chooses at (expr_tree condition) (block_tree body) (else_or_none (option_map else_tree otherwise))
if_is at condition body None = fold-roll-If ElseTree StmtTree BlockTree StmtTree IfTree StmtTree else_step stmt_step block_step for_step if_step while_step (record { at = at; condition = condition; body = body; otherwise = None })
if_is at condition body (Some otherwise) = fold-roll-If ElseTree StmtTree BlockTree StmtTree IfTree StmtTree else_step stmt_step block_step for_step if_step while_step (record { at = at; condition = condition; body = body; otherwise = Some otherwise })

pub while_is : (w : While) → while_tree w ≡ s.while w.at (expr_tree w.condition) (block_tree w.body)
while_is w = fold-roll-While ElseTree StmtTree BlockTree StmtTree IfTree StmtTree else_step stmt_step block_step for_step if_step while_step (record { at = w.at; condition = w.condition; body = w.body })

pub for_is : (f : For) → for_tree f ≡ s.for f.at (option_map start_tree f.start) (option_map expr_tree f.condition) (option_map simple_tree f.step) (block_tree f.body)
for_is f = fold-roll-For ElseTree StmtTree BlockTree StmtTree IfTree StmtTree else_step stmt_step block_step for_step if_step while_step (record { at = f.at; start = f.start; condition = f.condition; step = f.step; body = f.body })
