use Rattle.std.proofs.Common.{◌≡◌, drop, map}
use Rattle.agxx_base.specs.declared.rule.Rule.TheVariants as rule
use Rattle.cxx_tree.specs.ProgramTree.{decl_tree}
use Rattle.guard_rules.specs.TooManyMembers.{one_too_many}
use Rattle.guard_rules.specs.Parts.{places_of}
use Rattle.guard_rules.specs.Nearest.{nearest}
use Rattle.guard_rules.proofs.known.Known.members_past.Given as goal

abbrev pub invariant-loop-decl : goal.invariant-loop-decl
invariant-loop-decl l =
    nearest rule.P3 l.first (places_of (one_too_many l.self.guards) (map decl_tree (drop l.decl-index l.decls))) ≡ nearest rule.P3 l.fn.found (places_of (one_too_many l.self.guards) (map decl_tree l.decls))
