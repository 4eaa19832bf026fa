-- How trees of several parts are seen.
use Rattle.std.proofs.Common.{◌≡◌, Bool, true, false, List, [], ◌∷◌, refl, option_map, sym, ap, ◌∙◌, rules}
use Rattle.cxx_tree.specs.declared.node.Node.{Node}
use Rattle.cxx_tree.specs.declared.node.Placed.{Placed}
use Rattle.cxx_tree.specs.declared.operator.BinOp.{BinOp}
use Rattle.cxx_tree.specs.declared.expr.Call.{Call}
use Rattle.cxx_tree.specs.declared.expr.Expr.{Expr}
use Rattle.cxx_tree.specs.declared.expr.Expr.TheVariants as variant
use Rattle.cxx_tree.specs.declared.expr.Expr.TheVariants.{rolls-Binary}
use Rattle.cxx_tree.specs.declared.expr.Expr.TheOpen.{Expr-F}
use Rattle.cxx_tree.specs.declared.expr.Expr.TheFolds.{fold-Expr, fold-roll-Expr, fold_out-Call}
use Rattle.cxx_tree.specs.declared.stmt.Block.{Block}
use Rattle.cxx_tree.specs.declared.stmt.If.{If}
use Rattle.cxx_tree.specs.declared.stmt.While.{While}
use Rattle.cxx_tree.specs.declared.stmt.For.{For}
use Rattle.cxx_tree.specs.declared.stmt.Else.TheFolds.{fold_out-Block, fold_out-If, fold_out-While, fold_out-For}
use Rattle.cxx_tree.specs.ExprTree.{ExprTree, CallTree, calls, binary, expr_step, call_step, expr_tree, exprs_tree, call_tree}
use Rattle.cxx_tree.specs.StmtTree.{braces, chooses, while, for, else_or_none, block_tree, stmts_tree, if_tree, else_tree, while_tree, for_tree, start_tree, simple_tree}
use Rattle.cxx_print.specs.Document.{nothing, ◌⨾◌}
use Rattle.cxx_print.specs.Expressions as form
use Rattle.cxx_print.specs.Listed.{listed, listed_part}

pub binary-view : (n : Node) (o : Placed BinOp) (a b : Expr) → expr_tree (variant.Binary n o a b) ≡ binary n o (expr_tree a) (expr_tree b)
binary-view n o a b =
    ap (fold-Expr ExprTree CallTree expr_step call_step) (sym (rolls-Binary n o a b)) ∙ fold-roll-Expr ExprTree CallTree expr_step call_step (Expr-F.Binary n o a b)

pub call-view : (c : Call) → call_tree c ≡ calls c.node c.callee (exprs_tree c.arguments)
call-view c = search (rules, fold_out-Call)

pub block-view : (b : Block) → block_tree b ≡ braces b.at (stmts_tree b.stmts)
block-view b = search (rules, fold_out-Block)

pub if-view : (i : If) → if_tree i ≡ chooses i.at (expr_tree i.condition) (block_tree i.body) (else_or_none (option_map else_tree i.otherwise))
if-view i = search (rules, fold_out-If)

pub while-view : (w : While) → while_tree w ≡ while w.at (expr_tree w.condition) (block_tree w.body)
while-view w = search (rules, fold_out-While)

pub for-view : (f : For) → for_tree f ≡ for f.at (option_map start_tree f.start) (option_map expr_tree f.condition) (option_map simple_tree f.step) (block_tree f.body)
for-view f = search (rules, fold_out-For)

pub listed-more : (is_first : Bool) (x : Expr) (xs : List Expr) → listed is_first (exprs_tree (x ∷ xs)) ≡ listed_part is_first (form.expr (expr_tree x)) ⨾ listed false (exprs_tree xs)
listed-more true x xs = refl
listed-more false x xs = refl

pub listed-none : (is_first : Bool) → listed is_first (exprs_tree []) ≡ nothing
listed-none true = refl
listed-none false = refl
