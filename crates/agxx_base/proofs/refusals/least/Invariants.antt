use Rattle.std.proofs.Common.{◌≡◌, drop}
use Rattle.agxx_base.specs.Refusals.{least, least_from}
use Rattle.agxx_base.proofs.refusals.least.Given as goal

abbrev pub invariant-loop-refusal : goal.invariant-loop-refusal
invariant-loop-refusal l = least_from l.found (drop l.refusal-index l.refusals) ≡ least l.refusals
