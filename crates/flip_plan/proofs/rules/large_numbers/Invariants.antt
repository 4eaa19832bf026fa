use Rattle.std.proofs.Common.{◌≡◌, drop}
use Rattle.agxx_base.specs.Refusals.{least_from}
use Rattle.flip_plan.specs.Rules.{large_numbers}
use Rattle.flip_plan.proofs.rules.large_numbers.Given as goal

abbrev pub invariant-loop-index : goal.invariant-loop-index
invariant-loop-index l = least_from l.least (large_numbers l.kind l.line l.index (drop l.index l.words)) ≡ least_from l.fn.found (large_numbers l.kind l.line 0 l.words)
