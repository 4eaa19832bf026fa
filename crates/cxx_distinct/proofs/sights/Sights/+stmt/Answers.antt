use Rattle.std.proofs.Common.{refl, List, [], ◌++◌, option_map}
use Rattle.cxx_tree.specs.declared.stmt.Stmt.{Stmt}
use Rattle.cxx_tree.specs.ExprTree.{expr_tree}
use Rattle.cxx_tree.specs.StmtTree.{stmt_tree, stmts_tree, block_tree, else_tree, start_tree, simple_tree}
use Rattle.cxx_distinct.specs.NamesIn.{names_in_optional, names_in_expr, names_in_simple, names_in_start, names_in_stmt, names_in_stmts, names_in_block, names_in_else}
use Rattle.cxx_distinct.proofs.Runs.{seen_then, ok_then, seen_more}
use Rattle.cxx_distinct.proofs.Views.{if_is, while_is, for_is}
use Rattle.cxx_distinct.proofs.sights.Sights.+stmt.Goals as goal

pub branch-returns-in-None : goal.branch-returns-in-None
branch-returns-in-None t c =
    let condition = names_in_expr (expr_tree c.args.branch.now.condition) in
    let body = names_in_block (block_tree c.args.branch.now.body) in
    let rest = seen_then c.expr.new.self c.block.new.self c.block.new.self body [] c.in_ok-block.ensures refl in
    rw (c.in-None.is, if_is) (seen_then c.args.self.now c.expr.new.self c.block.new.self condition (body ++ []) c.in_ok-expr.ensures rest)

pub branch-returns-in-Some : goal.branch-returns-in-Some
branch-returns-in-Some t c =
    let condition = names_in_expr (expr_tree c.args.branch.now.condition) in
    let body = names_in_block (block_tree c.args.branch.now.body) in
    let otherwise = names_in_else (else_tree c.in-Some.otherwise) in
    let rest = ok_then c.otherwise.result c.expr.new.self c.block.new.self c.otherwise.new.self body otherwise c.in_ok-block.ensures c.otherwise.ensures in
    rw (c.in-Some.is, if_is) (ok_then c.otherwise.result c.args.self.now c.expr.new.self c.otherwise.new.self condition (body ++ otherwise) c.in_ok-expr.ensures rest)

pub repeat_for-returns : goal.repeat_for-returns
repeat_for-returns t c =
    let start = names_in_optional names_in_start (option_map start_tree c.args.repeat.now.start) in
    let condition = names_in_optional names_in_expr (option_map expr_tree c.args.repeat.now.condition) in
    let step = names_in_optional names_in_simple (option_map simple_tree c.args.repeat.now.step) in
    let body = names_in_block (block_tree c.args.repeat.now.body) in
    let behind_step = ok_then c.block.result c.optional.new.self c.step.new.self c.block.new.self step body c.in_ok-step.ensures c.block.ensures in
    let behind_condition = ok_then c.block.result c.start.new.self c.optional.new.self c.block.new.self condition (step ++ body) c.in_ok-optional.ensures behind_step in
    rw for_is (ok_then c.block.result c.args.self.now c.start.new.self c.block.new.self start (condition ++ (step ++ body)) c.in_ok-start.ensures behind_condition)

pub repeat_while-returns : goal.repeat_while-returns
repeat_while-returns t c =
    let condition = names_in_expr (expr_tree c.args.repeat.now.condition) in
    let body = names_in_block (block_tree c.args.repeat.now.body) in
    rw while_is (ok_then c.block.result c.args.self.now c.expr.new.self c.block.new.self condition body c.in_ok-expr.ensures c.block.ensures)

pub stmts-loop-stmt-preserved : goal.stmts-loop-stmt-preserved
stmts-loop-stmt-preserved t c = seen_more (λ (xs : List Stmt). names_in_stmts (stmts_tree xs)) c.args.stmts.now c.loop-stmt.stmt-index c.stmt-item.result (names_in_stmt (stmt_tree c.stmt-item.result)) c.loop-stmt.self c.stmt.new.self _ c.loop-stmt-test.true c.stmt-item.is refl c.in_ok-stmt.ensures c.loop-stmt.invariant
