use Rattle.std.proofs.Common.{refl, map}
use Rattle.cxx_tree.specs.StmtTree.{stmt_tree}
use Rattle.cxx_normal.specs.Numbers.{number_stmt}
use Rattle.cxx_normal.proofs.Loops.{each-turn, each-done, listed-stmts, parts}
use Rattle.cxx_normal.proofs.numbering.Numbering.+stmt.Goals as goal

pub stmts-loop-stmt-preserved : goal.stmts-loop-stmt-preserved
stmts-loop-stmt-preserved t c =
    each-turn stmt_tree number_stmt _ c.args.stmts.now c.loop-stmt.stmt-index c.stmt-item.result c.in_ok-stmt.field-0 c.loop-stmt.copies c.push.new.self c.loop-stmt.self.next c.stmt.new.self.next c.loop-stmt.invariant c.loop-stmt-test.true c.stmt-item.is c.in_ok-push.ensures.ok c.in_ok-stmt.ensures

pub stmts-returns : goal.stmts-returns
stmts-returns t c =
    let whole = parts stmt_tree number_stmt c.args.stmts.now c.args.self.now.next in
    let done = each-done stmt_tree number_stmt whole c.args.stmts.now c.loop-stmt.stmt-index c.loop-stmt.copies c.loop-stmt.self.next c.loop-stmt.invariant c.loop-stmt-test.false in
    rw (listed-stmts (map stmt_tree c.args.stmts.now) c.args.self.now.next, ← done) (refl, refl)
