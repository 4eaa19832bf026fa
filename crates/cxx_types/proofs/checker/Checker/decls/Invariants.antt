use Rattle.std.proofs.Common.{◌≡◌, drop, map}
use Rattle.cxx_tree.specs.ProgramTree.{decl_tree}
use Rattle.cxx_types.specs.Programs.{decls, none_seen}
use Rattle.cxx_types.proofs.checker.Checker.decls.Given as goal

abbrev pub invariant-loop-decl : goal.invariant-loop-decl
invariant-loop-decl l =
    decls l.seen (map decl_tree (drop l.decl-index l.decls)) l.self ≡ decls none_seen (map decl_tree l.decls) l.fn.self
