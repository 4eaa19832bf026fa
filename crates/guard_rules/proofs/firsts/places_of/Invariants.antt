use Rattle.std.proofs.Common.{◌≡◌, [], drop}
use Rattle.guard_rules.specs.Parts.{first_places}
use Rattle.guard_rules.proofs.firsts.places_of.Given as goal

abbrev pub invariant-loop-guard : goal.invariant-loop-guard
invariant-loop-guard l =
    first_places l.places (drop l.guard-index l.guards) ≡ first_places [] l.guards
