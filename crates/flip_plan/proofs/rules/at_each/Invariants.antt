use Rattle.std.proofs.Common.{◌≡◌, drop}
use Rattle.agxx_base.specs.Refusals.{least_from}
use Rattle.flip_plan.specs.Rules.{at_each}
use Rattle.flip_plan.proofs.rules.at_each.Given as goal

abbrev pub invariant-loop-word : goal.invariant-loop-word
invariant-loop-word l = least_from l.least (at_each l.line (drop l.word-index l.words)) ≡ least_from l.fn.found (at_each l.line l.words)
