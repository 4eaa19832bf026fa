use Rattle.std.proofs.Common.{◌≡◌, map, arith, true, false}
use Rattle.std.proofs.lemmas.Result.{err_from_is_err_and}
use Rattle.agxx_base.specs.declared.vocabulary.Sign.TheVariants as sg
use Rattle.cxx_tree.specs.ProgramTree.{item_tree}
use Rattle.cxx_expr.specs.Tokens.{sees}
use Rattle.cxx_expr.specs.Full.{most_operators}
use Rattle.cxx_expr.proofs.Turns.{map-push}
use Rattle.cxx_stmt.specs.Parts.{braced}
use Rattle.cxx_stmt.proofs.Turns.{braced-fail, braced-more, braced-last}
use Rattle.cxx_parse.specs.Classes.{item}
use Rattle.cxx_parse.proofs.classes.braced_items.Goals as goal

pub returns-in_err-item-clause-reads : goal.returns-in_err-item-clause-reads
returns-in_err-item-clause-reads c =
    let p = err_from_is_err_and c.from_residual.result c.from_residual.ensures.1 in
    let e : sees sg.CloseBrace c.items.words ≡ false = cc in
    rw (p.1, p.2) (λ ne. braced-fail (item most_operators c.args.dialect.now c.args.depth) (braced (item most_operators c.args.dialect.now c.args.depth) c.args.words.now) (map item_tree c.items.found) c.items.invariant.reads.0 c.items.words c.item.new.words c.in_err-item.field-0.0 c.items.invariant.reads.2 c.items.invariant.reads.1 e (c.in_err-item.ensures.reads ne))

pub items-preserved : goal.items-preserved
items-preserved c =
    let e : sees sg.CloseBrace c.items.words ≡ false = cc in
    record {
      shorter = omega arith;
      reads = braced-more (item most_operators c.args.dialect.now c.args.depth) (braced (item most_operators c.args.dialect.now c.args.depth) c.args.words.now) (map item_tree c.items.found) (map item_tree c.push.new.self) c.items.invariant.reads.0 c.items.words c.item.new.words (item_tree c.in_ok-item.item) c.items.invariant.reads.2 c.items.invariant.reads.1 e c.in_ok-item.ensures.reads c.in_ok-item.ensures.eats (map-push item_tree c.items.found c.in_ok-item.item c.push.new.self c.in_ok-push.ensures.ok);
    }

pub returns-clause-reads : goal.returns-clause-reads
returns-clause-reads c =
    let e : sees sg.CloseBrace c.items.words ≡ true = cc in
    braced-last (item most_operators c.args.dialect.now c.args.depth) (braced (item most_operators c.args.dialect.now c.args.depth) c.args.words.now) (map item_tree c.items.found) c.items.invariant.reads.0 c.items.words c.advance.new.self c.items.invariant.reads.2 c.items.invariant.reads.1 e c.advance.ensures.after
