use Rattle.cxx_tree.specs.StmtTree.{stmt_tree}
use Rattle.cxx_elaborate.proofs.Onto.{stmts-turn, stmts-done}
use Rattle.cxx_elaborate.proofs.Scopes.{stands-after}
use Rattle.cxx_elaborate.proofs.elaborator.Elaborator.+stmt.Goals as goal

pub stmts-loop-stmt-preserved : goal.stmts-loop-stmt-preserved
stmts-loop-stmt-preserved t c =
    record {
      made = stmts-turn c.args.self.now c.args.stmts.now c.loop-stmt.stmt-index c.stmt-item.result c.loop-stmt.scope c.stmt.new.scope c.loop-stmt.made c.push.new.self c.in_ok-stmt.field-0 _ c.loop-stmt.invariant.made c.loop-stmt-test.true c.stmt-item.is c.in_ok-push.ensures.ok c.in_ok-stmt.ensures.core c.in_ok-stmt.ensures.scope;
      stands = rw c.in_ok-stmt.ensures.scope (stands-after c.args.self.now c.args.scope.now c.loop-stmt.scope (stmt_tree c.stmt-item.result) c.loop-stmt.invariant.stands);
    }

pub stmts-returns-clause-core : goal.stmts-returns-clause-core
stmts-returns-clause-core t c =
    stmts-done c.args.self.now c.args.stmts.now c.loop-stmt.stmt-index c.loop-stmt.scope c.loop-stmt.made _ c.loop-stmt.invariant.made c.loop-stmt-test.false
