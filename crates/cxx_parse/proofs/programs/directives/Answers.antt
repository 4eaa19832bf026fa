use Rattle.std.proofs.Common.{arith, sym}
use Rattle.cxx_parse.specs.Programs.{directives}
use Rattle.cxx_parse.proofs.Loops.{directives-more, directives-last}
use Rattle.cxx_parse.proofs.programs.directives.Goals as goal

pub items-preserved : goal.items-preserved
items-preserved c = record {
  shorter = omega arith;
  reads = directives-more (directives c.args.words.now) c.items.found c.push.new.self c.items.invariant.reads.0 c.items.words c.advance.new.self c.in-Some.item c.items.invariant.reads.2 c.items.invariant.reads.1 c.in-Some.ensures c.advance.ensures.after (sym c.in_ok-push.ensures.ok);
}

pub returns-clause-reads : goal.returns-clause-reads
returns-clause-reads c = directives-last (directives c.args.words.now) c.items.found c.items.invariant.reads.0 c.items.words c.items.invariant.reads.2 c.items.invariant.reads.1 c.in_default.ensures
