use Rattle.std.proofs.Common.{◌≡◌, drop}
use Rattle.agxx_base.specs.declared.rule.Rule.TheVariants as rule
use Rattle.guard_rules.specs.GuardedTwice.{later_at}
use Rattle.guard_rules.specs.Parts.{places_of}
use Rattle.guard_rules.specs.Nearest.{nearest}
use Rattle.guard_rules.proofs.known.Known.guarded_twice.Given as goal

abbrev pub invariant-loop-guard : goal.invariant-loop-guard
invariant-loop-guard l =
    nearest rule.P4 l.first (places_of (later_at l.self.guards l.self.declared) (drop l.guard-index l.guards)) ≡ nearest rule.P4 l.fn.found (places_of (later_at l.self.guards l.self.declared) l.guards)
