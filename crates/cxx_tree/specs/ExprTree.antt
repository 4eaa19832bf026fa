-- Expressions as plain data, on which definitions recurse: an expression without where its parts lie in memory.
use Rattle.std.specs.Prelude.{Bool, List, [], ◌∷◌, map, Some, None}
use Rattle.agxx_base.specs.declared.ids.NameId.{NameId}
use Rattle.cxx_tree.specs.declared.node.Node.{Node}
use Rattle.cxx_tree.specs.declared.node.Placed.{Placed}
use Rattle.cxx_tree.specs.declared.node.Number.{Number}
use Rattle.cxx_tree.specs.declared.operator.BinOp.{BinOp}
use Rattle.cxx_tree.specs.declared.operator.UnOp.{UnOp}
use Rattle.cxx_tree.specs.declared.program.TypeName.{TypeName}
use Rattle.cxx_tree.specs.declared.expr.Left.{Left}
use Rattle.cxx_tree.specs.declared.expr.Callee.{Callee}
use Rattle.cxx_tree.specs.declared.expr.Call.{Call}
use Rattle.cxx_tree.specs.declared.expr.Expr.{Expr}
use Rattle.cxx_tree.specs.declared.expr.Expr.TheOpen.{Expr-F, Call-F}
use Rattle.cxx_tree.specs.declared.expr.Expr.TheFolds.{fold-Expr, fold-Call}

mutual
  pub data ExprTree : Type 0 where
    lit : Node → Number → ExprTree
    flag : Node → Bool → ExprTree
    null : Node → ExprTree
    this : Node → ExprTree
    left : Left → ExprTree
    unary : Node → UnOp → ExprTree → ExprTree
    binary : Node → Placed BinOp → ExprTree → ExprTree → ExprTree
    paren : Node → ExprTree → ExprTree
    cast : Node → TypeName → ExprTree → ExprTree
    call : CallTree → ExprTree
    new : Node → Placed NameId → ExprTree
    new_with : Node → Placed NameId → ExprTrees → ExprTree

  pub data ExprTrees : Type 0 where
    no_exprs : ExprTrees
    more_exprs : ExprTree → ExprTrees → ExprTrees

  pub data CallTree : Type 0 where
    calls : Node → Callee → ExprTrees → CallTree

abbrev pub listed_exprs : List ExprTree → ExprTrees
listed_exprs [] = no_exprs
listed_exprs (first ∷ rest) = more_exprs first (listed_exprs rest)

abbrev pub expr_step : Expr-F ExprTree CallTree → ExprTree
expr_step (Expr-F.Lit n number) = lit n number
expr_step (Expr-F.Flag n is_true) = flag n is_true
expr_step (Expr-F.Null n) = null n
expr_step (Expr-F.This n) = this n
expr_step (Expr-F.Left l) = left l
expr_step (Expr-F.Unary n op operand) = unary n op operand
expr_step (Expr-F.Binary n op a b) = binary n op a b
expr_step (Expr-F.Paren n inner) = paren n inner
expr_step (Expr-F.Cast n type_name operand) = cast n type_name operand
expr_step (Expr-F.Call c) = call c
expr_step (Expr-F.New n class None) = new n class
expr_step (Expr-F.New n class (Some arguments)) = new_with n class (listed_exprs arguments)

abbrev pub call_step : Call-F ExprTree CallTree → CallTree
call_step c = calls c.node c.callee (listed_exprs c.arguments)

abbrev pub expr_tree : Expr → ExprTree
expr_tree = fold-Expr ExprTree CallTree expr_step call_step

abbrev pub call_tree : Call → CallTree
call_tree = fold-Call ExprTree CallTree expr_step call_step

abbrev pub exprs_tree : List Expr → ExprTrees
exprs_tree es = listed_exprs (map expr_tree es)
