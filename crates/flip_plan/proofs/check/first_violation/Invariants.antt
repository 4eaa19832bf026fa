use Rattle.std.proofs.Common.{◌≡◌, length}
use Rattle.agxx_base.specs.Refusals.{least, least_from}
use Rattle.flip_plan.specs.Rules.{violations_from, violations_of_plan}
use Rattle.flip_plan.proofs.check.first_violation.Given as goal

abbrev pub invariant-lines : goal.invariant-lines
invariant-lines l = least_from l.found (violations_from l.fn.file l.seen l.lines) ≡ least (violations_of_plan l.fn.file l.fn.text)

abbrev pub decreases-lines : goal.decreases-lines
decreases-lines l = length l.lines
