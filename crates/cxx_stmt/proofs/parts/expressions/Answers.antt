use Rattle.std.proofs.Common.{◌≡◌, map, arith, true, false}
use Rattle.std.proofs.lemmas.Result.{err_from_is_err_and}
use Rattle.agxx_base.specs.declared.vocabulary.Sign.TheVariants as sg
use Rattle.cxx_tree.specs.ExprTree.{expr_tree}
use Rattle.cxx_tree.specs.Fits.{expr_level}
use Rattle.cxx_expr.specs.Tokens.{sees}
use Rattle.cxx_expr.specs.Full.{most_operators, full_level}
use Rattle.cxx_expr.proofs.Turns.{map-push}
use Rattle.cxx_stmt.specs.Parts.{expressions}
use Rattle.cxx_stmt.proofs.Turns.{some-fail, some-more, some-last}
use Rattle.cxx_stmt.proofs.parts.expressions.Goals as goal

pub returns-in_err-item-clause-reads : goal.returns-in_err-item-clause-reads
returns-in_err-item-clause-reads c =
    let p = err_from_is_err_and c.from_residual.result c.from_residual.ensures.1 in
    rw (p.1, p.2) (λ ne. some-fail (full_level most_operators c.args.depth expr_level) (expressions most_operators c.args.depth c.args.words.now) (map expr_tree c.items.found) c.items.invariant.reads.0 c.items.words c.expr.new.self c.in_err-item.field-0.0 c.items.invariant.reads.2 c.items.invariant.reads.1 (c.in_err-item.ensures.reads ne))

pub items-preserved : goal.items-preserved
items-preserved c =
    let e : sees sg.Comma c.expr.new.self ≡ true = cc in
    record {
      shorter = omega arith;
      reads = some-more (full_level most_operators c.args.depth expr_level) (expressions most_operators c.args.depth c.args.words.now) (map expr_tree c.items.found) (map expr_tree c.push.new.self) c.items.invariant.reads.0 c.items.words c.expr.new.self c.advance.new.self (expr_tree c.in_ok-item.item) c.items.invariant.reads.2 c.items.invariant.reads.1 c.in_ok-item.ensures.reads c.in_ok-item.ensures.left e c.advance.ensures.after (map-push expr_tree c.items.found c.in_ok-item.item c.push.new.self c.in_ok-push.ensures.ok);
    }

pub returns-clause-reads : goal.returns-clause-reads
returns-clause-reads c =
    let e : sees sg.Comma c.expr.new.self ≡ false = cc in
    some-last (full_level most_operators c.args.depth expr_level) (expressions most_operators c.args.depth c.args.words.now) (map expr_tree c.items.found) (map expr_tree c.push.new.self) c.items.invariant.reads.0 c.items.words c.expr.new.self (expr_tree c.in_ok-item.item) c.items.invariant.reads.2 c.items.invariant.reads.1 c.in_ok-item.ensures.reads e (map-push expr_tree c.items.found c.in_ok-item.item c.push.new.self c.in_ok-push.ensures.ok)
