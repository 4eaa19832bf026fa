use Rattle.std.proofs.Common.{◌≡◌, drop, map}
use Rattle.cxx_tree.specs.ProgramTree.{decl_tree}
use Rattle.guard_rules.specs.Nearest.{through_each}
use Rattle.guard_rules.specs.ThroughMembers.{through_bools}
use Rattle.guard_rules.proofs.known.Known.bool_members.Given as goal

abbrev pub invariant-loop-decl : goal.invariant-loop-decl
invariant-loop-decl l =
    through_each (through_bools l.self.guards) (map decl_tree (drop l.decl-index l.decls)) l.first ≡ through_each (through_bools l.self.guards) (map decl_tree l.decls) l.fn.found
