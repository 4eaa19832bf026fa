use Rattle.std.proofs.Common.{◌≡◌, arith, true, false, sym}
use Rattle.std.proofs.lemmas.Result.{err_from_is_err_and}
use Rattle.agxx_base.specs.declared.vocabulary.Sign.TheVariants as sg
use Rattle.cxx_expr.specs.Tokens.{sees}
use Rattle.cxx_stmt.specs.Parts.{any}
use Rattle.cxx_stmt.specs.Types.{param}
use Rattle.cxx_stmt.proofs.Turns.{some-fail, some-more, some-last}
use Rattle.cxx_stmt.proofs.types.any_params.Goals as goal

pub returns-in_err-item-clause-reads : goal.returns-in_err-item-clause-reads
returns-in_err-item-clause-reads c =
    let p = err_from_is_err_and c.from_residual.result c.from_residual.ensures.1 in
    rw (p.1, p.2) (λ ne. some-fail param (any param c.args.words.now) c.items.found c.items.invariant.reads.0 c.items.words c.param.new.words c.in_err-item.field-0.0 c.items.invariant.reads.2 c.items.invariant.reads.1 (c.in_err-item.ensures.reads ne))

pub items-preserved : goal.items-preserved
items-preserved c =
    let e : sees sg.Comma c.param.new.words ≡ true = cc in
    record {
      shorter = omega arith;
      reads = some-more param (any param c.args.words.now) c.items.found c.push.new.self c.items.invariant.reads.0 c.items.words c.param.new.words c.advance.new.self c.in_ok-item.item c.items.invariant.reads.2 c.items.invariant.reads.1 c.in_ok-item.ensures.reads c.in_ok-item.ensures.left e c.advance.ensures.after (sym c.in_ok-push.ensures.ok);
    }

pub returns-clause-reads : goal.returns-clause-reads
returns-clause-reads c =
    let e : sees sg.Comma c.param.new.words ≡ false = cc in
    some-last param (any param c.args.words.now) c.items.found c.push.new.self c.items.invariant.reads.0 c.items.words c.param.new.words c.in_ok-item.item c.items.invariant.reads.2 c.items.invariant.reads.1 c.in_ok-item.ensures.reads e (sym c.in_ok-push.ensures.ok)
