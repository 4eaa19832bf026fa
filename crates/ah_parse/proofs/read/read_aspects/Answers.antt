use Rattle.std.proofs.Common.{sym, subst, true≢false, ◌∙◌}
use Rattle.cxx_lex.specs.TokList.{tokens_of}
use Rattle.ah_parse.proofs.Files.{WereRead, reads-one, reads-all, reads-no-more, fresh-shorter}
use Rattle.ah_parse.proofs.Taken.{grows_on}
use Rattle.ah_parse.proofs.read.read_aspects.Goals as goal

pub returns-then-is_empty-clause-read : goal.returns-then-is_empty-clause-read
returns-then-is_empty-clause-read c =
    reads-all c.args.taken.now c.aspects.taken c.aspects.aspects (tokens_of c.args.toks.now)
    (subst (WereRead c.args.taken.now c.aspects.taken c.aspects.aspects (tokens_of c.args.toks.now)) (c.is_empty.ensures.0 c.if-is_empty.true) c.aspects.invariant.read)

pub returns-in_default-clause-read : goal.returns-in_default-clause-read
returns-in_default-clause-read c =
    reads-no-more c.args.taken.now c.aspects.taken c.aspects.aspects (tokens_of c.args.toks.now) c.aspects.reader
    (λ empty. true≢false (sym (c.is_empty.ensures.1 empty) ∙ c.if-is_empty.false)) c.aspects.invariant.read (rw c.in_default.is at c.in_ok-aspect.ensures.found)

pub aspects-smaller : goal.aspects-smaller
aspects-smaller c = fresh-shorter c.aspects.taken c.in-Some.aspect c.aspects.reader c.take_aspect.new.reader (rw c.in-Some.is at c.in_ok-aspect.ensures.found)

pub aspects-preserved : goal.aspects-preserved
aspects-preserved c = record {
  read = subst (λ all. WereRead c.args.taken.now c.take_aspect.new.taken all (tokens_of c.args.toks.now) c.take_aspect.new.reader) (sym c.in_ok-push.ensures.ok)
      (reads-one c.args.taken.now c.aspects.taken c.take_aspect.new.taken c.aspects.aspects c.in-Some.aspect (tokens_of c.args.toks.now) c.aspects.reader c.take_aspect.new.reader
      c.aspects.invariant.read (rw c.in-Some.is at c.in_ok-aspect.ensures.found) (rw c.in-Some.is at c.in_ok-aspect.ensures.taken));
  grows = grows_on c.args.taken.now c.aspects.taken c.take_aspect.new.taken c.aspects.invariant.grows c.take_aspect.ensures.grows;
}
