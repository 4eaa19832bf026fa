use Rattle.std.proofs.Common.{◌≡◌, map, option_map, arith, true, false, sym, ap, ◌∙◌}
use Rattle.std.proofs.lemmas.Result.{err_from_is_err_and}
use Rattle.agxx_base.specs.declared.vocabulary.Sign.TheVariants as sg
use Rattle.cxx_tree.specs.ExprTree.{expr_tree}
use Rattle.cxx_tree.specs.StmtTree.{stmt_tree, block_tree, if_tree, else_tree, else_or_none}
use Rattle.cxx_expr.specs.Tokens.{sees}
use Rattle.cxx_expr.specs.Outcome.{done}
use Rattle.cxx_expr.specs.Full.{most_operators}
use Rattle.cxx_expr.proofs.Turns.{map-push}
use Rattle.cxx_stmt.specs.Parts.{braced}
use Rattle.cxx_stmt.specs.Statements.{stmt}
use Rattle.cxx_stmt.proofs.Turns.{braced-fail, braced-more, braced-last, block-failed, block-done, branch-done, if-failed, if-done, block-is, if-is, if_stmt-is}
use Rattle.cxx_stmt.proofs.dialect.Dialect.+stmt.Goals as goal

pub block-returns-in_err-stmts-clause-reads : goal.block-returns-in_err-stmts-clause-reads
block-returns-in_err-stmts-clause-reads t c =
    let p = err_from_is_err_and c.from_residual.result c.from_residual.ensures.1 in
    rw (p.1, p.2) (λ ne. block-failed most_operators c.args.self.now c.args.depth c.args.words.now c.advance.new.self c.braced.new.words c.in-Some.at c.in_err-stmts.field-0.0 (omega arith) c.in-Some.ensures c.advance.ensures.after (c.in_err-stmts.ensures.reads ne))

pub block-returns-clause-reads : goal.block-returns-clause-reads
block-returns-clause-reads t c =
    block-done most_operators c.args.self.now c.args.depth c.args.words.now c.advance.new.self c.braced.new.words c.in-Some.at (map stmt_tree c.in_ok-stmts.stmts) (omega arith) c.in-Some.ensures c.advance.ensures.after c.in_ok-stmts.ensures.reads
    ∙ ap (λ b. done b c.braced.new.words) (sym (block-is (record { at = c.in-Some.at; stmts = c.in_ok-stmts.stmts })))

pub braced-returns-in_err-stmt-clause-reads : goal.braced-returns-in_err-stmt-clause-reads
braced-returns-in_err-stmt-clause-reads t c =
    let e : sees sg.CloseBrace c.stmts.words ≡ false = cc in
    let p = err_from_is_err_and c.from_residual.result c.from_residual.ensures.1 in
    rw (p.1, p.2) (λ ne. braced-fail (λ ts. stmt most_operators c.args.self.now c.args.depth ts) (braced (λ ts. stmt most_operators c.args.self.now c.args.depth ts) c.args.words.now) (map stmt_tree c.stmts.found) c.stmts.invariant.reads.0 c.stmts.words c.stmt.new.words c.in_err-stmt.field-0.0 c.stmts.invariant.reads.2 c.stmts.invariant.reads.1 e (c.in_err-stmt.ensures.reads ne))

pub braced-stmts-preserved : goal.braced-stmts-preserved
braced-stmts-preserved t c =
    let e : sees sg.CloseBrace c.stmts.words ≡ false = cc in
    record {
      shorter = omega arith;
      reads = braced-more (λ ts. stmt most_operators c.args.self.now c.args.depth ts) (braced (λ ts. stmt most_operators c.args.self.now c.args.depth ts) c.args.words.now) (map stmt_tree c.stmts.found) (map stmt_tree c.push.new.self) c.stmts.invariant.reads.0 c.stmts.words c.stmt.new.words (stmt_tree c.in_ok-stmt.stmt) c.stmts.invariant.reads.2 c.stmts.invariant.reads.1 e c.in_ok-stmt.ensures.reads c.in_ok-stmt.ensures.eats (map-push stmt_tree c.stmts.found c.in_ok-stmt.stmt c.push.new.self c.in_ok-push.ensures.ok);
    }

pub braced-returns-clause-reads : goal.braced-returns-clause-reads
braced-returns-clause-reads t c =
    let e : sees sg.CloseBrace c.stmts.words ≡ true = cc in
    braced-last (λ ts. stmt most_operators c.args.self.now c.args.depth ts) (braced (λ ts. stmt most_operators c.args.self.now c.args.depth ts) c.args.words.now) (map stmt_tree c.stmts.found) c.stmts.invariant.reads.0 c.stmts.words c.advance.new.self c.stmts.invariant.reads.2 c.stmts.invariant.reads.1 e c.advance.ensures.after

pub branch-returns-clause-reads : goal.branch-returns-clause-reads
branch-returns-clause-reads t c =
    branch-done most_operators c.args.self.now c.args.depth c.args.at c.args.words.now c.condition.new.words c.block.new.words c.otherwise.new.words (expr_tree c.in_ok-condition.condition) (block_tree c.in_ok-body.body) (else_or_none (option_map else_tree c.in_ok-otherwise.otherwise)) c.in_ok-condition.ensures.reads c.in_ok-body.ensures.reads c.in_ok-otherwise.ensures.reads
    ∙ ap (λ i. done i c.otherwise.new.words) (sym (if-is c.args.at c.in_ok-condition.condition c.in_ok-body.body c.in_ok-otherwise.otherwise))

pub keyword_stmt-returns-in_err-branch-in-If-clause-reads : goal.keyword_stmt-returns-in_err-branch-in-If-clause-reads
keyword_stmt-returns-in_err-branch-in-If-clause-reads t c =
    let p = err_from_is_err_and c.from_residual.result c.from_residual.ensures.1 in
    rw (p.1, p.2) (λ ne. if-failed most_operators c.args.self.now c.args.depth c.args.next.at c.args.next.item c.args.words.now c.advance.new.self c.branch-self.new.words c.in_err-branch-in-If.field-0.0 c.in-If.is c.advance.ensures.after (c.in_err-branch-in-If.ensures.reads ne))

pub keyword_stmt-returns-in_ok-branch-in-If-clause-reads : goal.keyword_stmt-returns-in_ok-branch-in-If-clause-reads
keyword_stmt-returns-in_ok-branch-in-If-clause-reads t c =
    if-done most_operators c.args.self.now c.args.depth c.args.next.at c.args.next.item c.args.words.now c.advance.new.self c.branch-self.new.words (if_tree c.in_ok-branch-in-If.field-0) c.in-If.is c.advance.ensures.after c.in_ok-branch-in-If.ensures.reads
    ∙ ap (λ x. done x c.branch-self.new.words) (sym (if_stmt-is c.in_ok-branch-in-If.field-0))
