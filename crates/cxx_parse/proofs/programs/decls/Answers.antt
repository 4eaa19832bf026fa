use Rattle.std.proofs.Common.{rules, ◌≡◌, map, arith, []}
use Rattle.std.proofs.lemmas.Result.{err_from_is_err_and}
use Rattle.cxx_tree.specs.ProgramTree.{decl_tree}
use Rattle.cxx_expr.specs.Full.{most_operators}
use Rattle.cxx_expr.proofs.Turns.{map-push}
use Rattle.cxx_parse.specs.Declarations.{decl}
use Rattle.cxx_parse.specs.Programs.{decls}
use Rattle.cxx_parse.proofs.Loops.{decls-fail, decls-more, decls-last}
use Rattle.cxx_parse.proofs.programs.decls.Goals as goal

pub returns-in_err-item-clause-reads : goal.returns-in_err-item-clause-reads
returns-in_err-item-clause-reads c =
    let p = err_from_is_err_and c.from_residual.result c.from_residual.ensures.1 in
    let e : c.items.words ≡ [] → ⊥ = search rules in
    rw (p.1, p.2) (λ ne. decls-fail (decl most_operators c.args.dialect.now c.args.depth) (decls (decl most_operators c.args.dialect.now c.args.depth) c.args.words.now) (map decl_tree c.items.found) c.items.invariant.reads.0 c.items.words c.decl.new.words c.in_err-item.field-0.0 c.items.invariant.reads.2 c.items.invariant.reads.1 e (c.in_err-item.ensures.reads ne))

pub items-preserved : goal.items-preserved
items-preserved c =
    let e : c.items.words ≡ [] → ⊥ = search rules in
    record {
      shorter = omega arith;
      reads = decls-more (decl most_operators c.args.dialect.now c.args.depth) (decls (decl most_operators c.args.dialect.now c.args.depth) c.args.words.now) (map decl_tree c.items.found) (map decl_tree c.push.new.self) c.items.invariant.reads.0 c.items.words c.decl.new.words (decl_tree c.in_ok-item.item) c.items.invariant.reads.2 c.items.invariant.reads.1 e c.in_ok-item.ensures.reads c.in_ok-item.ensures.eats (map-push decl_tree c.items.found c.in_ok-item.item c.push.new.self c.in_ok-push.ensures.ok);
    }

pub returns-clause-reads : goal.returns-clause-reads
returns-clause-reads c =
    let e : c.items.words ≡ [] = search rules in
    decls-last (decl most_operators c.args.dialect.now c.args.depth) (decls (decl most_operators c.args.dialect.now c.args.depth) c.args.words.now) (map decl_tree c.items.found) c.items.invariant.reads.0 c.items.words c.items.invariant.reads.2 c.items.invariant.reads.1 e
