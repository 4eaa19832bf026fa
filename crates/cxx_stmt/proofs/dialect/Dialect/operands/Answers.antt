use Rattle.std.proofs.Common.{◌≡◌, map, arith, true, false}
use Rattle.std.proofs.lemmas.Result.{err_from_is_err_and}
use Rattle.agxx_base.specs.declared.vocabulary.Sign.TheVariants as sg
use Rattle.cxx_tree.specs.StmtTree.{printed_tree}
use Rattle.cxx_expr.specs.Tokens.{sees}
use Rattle.cxx_expr.specs.Full.{most_operators}
use Rattle.cxx_expr.proofs.Turns.{map-push}
use Rattle.cxx_stmt.specs.Streams.{operand, operands}
use Rattle.cxx_stmt.proofs.Turns.{operands-fail, operands-more, operands-last}
use Rattle.cxx_stmt.proofs.dialect.Dialect.operands.Goals as goal

pub returns-in_err-operand-clause-reads : goal.returns-in_err-operand-clause-reads
returns-in_err-operand-clause-reads c =
    let e : sees sg.ShiftLeft c.operands.words ≡ true = cc in
    let p = err_from_is_err_and c.from_residual.result c.from_residual.ensures.1 in
    rw (p.1, p.2) (λ ne. operands-fail (operand most_operators c.args.self.now c.args.depth) (operands most_operators c.args.self.now c.args.depth c.args.words.now) (map printed_tree c.operands.found) c.operands.invariant.reads.0 c.operands.words c.advance.new.self c.operand.new.words c.in_err-operand.field-0.0 c.operands.invariant.reads.2 c.operands.invariant.reads.1 e c.advance.ensures.after (c.in_err-operand.ensures.reads ne))

pub operands-preserved : goal.operands-preserved
operands-preserved c =
    let e : sees sg.ShiftLeft c.operands.words ≡ true = cc in
    record {
      shorter = omega arith;
      reads = operands-more (operand most_operators c.args.self.now c.args.depth) (operands most_operators c.args.self.now c.args.depth c.args.words.now) (map printed_tree c.operands.found) (map printed_tree c.push.new.self) c.operands.invariant.reads.0 c.operands.words c.advance.new.self c.operand.new.words (printed_tree c.in_ok-operand.operand) c.operands.invariant.reads.2 c.operands.invariant.reads.1 e c.advance.ensures.after c.in_ok-operand.ensures.reads c.in_ok-operand.ensures.left (map-push printed_tree c.operands.found c.in_ok-operand.operand c.push.new.self c.in_ok-push.ensures.ok);
    }

pub returns-clause-reads : goal.returns-clause-reads
returns-clause-reads c =
    let e : sees sg.ShiftLeft c.operands.words ≡ false = cc in
    operands-last (operand most_operators c.args.self.now c.args.depth) (operands most_operators c.args.self.now c.args.depth c.args.words.now) (map printed_tree c.operands.found) c.operands.invariant.reads.0 c.operands.words c.operands.invariant.reads.2 c.operands.invariant.reads.1 e
