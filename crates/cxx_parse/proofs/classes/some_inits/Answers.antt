use Rattle.std.proofs.Common.{◌≡◌, map, arith, true, false}
use Rattle.std.proofs.lemmas.Result.{err_from_is_err_and}
use Rattle.agxx_base.specs.declared.vocabulary.Sign.TheVariants as sg
use Rattle.cxx_tree.specs.ProgramTree.{init_tree}
use Rattle.cxx_expr.specs.Tokens.{sees}
use Rattle.cxx_expr.specs.Full.{most_operators}
use Rattle.cxx_expr.proofs.Turns.{map-push}
use Rattle.cxx_stmt.specs.Parts.{some}
use Rattle.cxx_stmt.proofs.Turns.{some-fail, some-more, some-last}
use Rattle.cxx_parse.specs.Classes.{init}
use Rattle.cxx_parse.proofs.classes.some_inits.Goals as goal

pub returns-in_err-item-clause-reads : goal.returns-in_err-item-clause-reads
returns-in_err-item-clause-reads c =
    let p = err_from_is_err_and c.from_residual.result c.from_residual.ensures.1 in
    rw (p.1, p.2) (λ d ne. some-fail (init most_operators d c.args.depth) (some (init most_operators d c.args.depth) c.args.words.now) (map init_tree c.items.found) (c.items.invariant.reads d).0 c.items.words c.init.new.words c.in_err-item.field-0.0 (c.items.invariant.reads d).2 (c.items.invariant.reads d).1 (c.in_err-item.ensures.reads d ne))

pub items-preserved : goal.items-preserved
items-preserved c =
    let e : sees sg.Comma c.init.new.words ≡ true = cc in
    record {
      shorter = omega arith;
      reads = λ d. some-more (init most_operators d c.args.depth) (some (init most_operators d c.args.depth) c.args.words.now) (map init_tree c.items.found) (map init_tree c.push.new.self) (c.items.invariant.reads d).0 c.items.words c.init.new.words c.advance.new.self (init_tree c.in_ok-item.item) (c.items.invariant.reads d).2 (c.items.invariant.reads d).1 (c.in_ok-item.ensures.reads d) c.in_ok-item.ensures.left e c.advance.ensures.after (map-push init_tree c.items.found c.in_ok-item.item c.push.new.self c.in_ok-push.ensures.ok);
    }

pub returns-clause-reads : goal.returns-clause-reads
returns-clause-reads c =
    let e : sees sg.Comma c.init.new.words ≡ false = cc in
    λ d. some-last (init most_operators d c.args.depth) (some (init most_operators d c.args.depth) c.args.words.now) (map init_tree c.items.found) (map init_tree c.push.new.self) (c.items.invariant.reads d).0 c.items.words c.init.new.words (init_tree c.in_ok-item.item) (c.items.invariant.reads d).2 (c.items.invariant.reads d).1 (c.in_ok-item.ensures.reads d) e (map-push init_tree c.items.found c.in_ok-item.item c.push.new.self c.in_ok-push.ensures.ok)
