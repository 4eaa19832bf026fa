use Rattle.std.proofs.Common.{◌≡◌, drop}
use Rattle.agxx_base.specs.Refusals.{least_from}
use Rattle.flip_plan.specs.Rules.{malformed_in}
use Rattle.flip_plan.proofs.rules.malformed_in.Given as goal

abbrev pub invariant-loop-word : goal.invariant-loop-word
invariant-loop-word l = least_from l.least (malformed_in l.kind l.line (drop l.word-index l.words)) ≡ least_from l.fn.found (malformed_in l.kind l.line l.words)
