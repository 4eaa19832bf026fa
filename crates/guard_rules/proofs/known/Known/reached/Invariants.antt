use Rattle.std.proofs.Common.{◌≡◌, drop, map}
use Rattle.cxx_tree.specs.ProgramTree.{decl_tree}
use Rattle.guard_rules.specs.Nearest.{through_each}
use Rattle.guard_rules.specs.ThroughMembers.{through_decl}
use Rattle.guard_rules.proofs.known.Known.reached.Given as goal

abbrev pub invariant-loop-decl : goal.invariant-loop-decl
invariant-loop-decl l =
    through_each (through_decl l.self) (map decl_tree (drop l.decl-index l.decls)) l.first ≡ through_each (through_decl l.self) (map decl_tree l.decls) l.fn.found
