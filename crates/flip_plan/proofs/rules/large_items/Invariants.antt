use Rattle.std.proofs.Common.{◌≡◌, drop}
use Rattle.agxx_base.specs.Refusals.{least_from}
use Rattle.flip_plan.specs.Rules.{large_items}
use Rattle.flip_plan.proofs.rules.large_items.Given as goal

abbrev pub invariant-loop-word : goal.invariant-loop-word
invariant-loop-word l = least_from l.least (large_items l.line l.left (drop l.word-index l.words)) ≡ least_from l.fn.found (large_items l.line l.room l.words)
