use Rattle.std.proofs.Common.{◌≡◌, ◌≤◌, drop, map}
use Rattle.cxx_tree.specs.ProgramTree.{decl_tree}
use Rattle.guard_rules.specs.ThroughDeletes.{through_decls}
use Rattle.guard_rules.proofs.known.Known.deletes.Given as goal

abbrev pub invariant-loop-decl : goal.invariant-loop-decl
invariant-loop-decl l =
    (l.classes ≤ l.decl-index) × (through_decls l.self.guards l.self.declared l.classes (map decl_tree (drop l.decl-index l.decls)) l.first ≡ through_decls l.self.guards l.self.declared 0 (map decl_tree l.decls) l.fn.found)
