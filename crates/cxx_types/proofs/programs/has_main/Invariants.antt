use Rattle.std.proofs.Common.{◌≡◌, drop, map}
use Rattle.cxx_tree.specs.ProgramTree.{decl_tree}
use Rattle.cxx_types.specs.Programs.{has_main}
use Rattle.cxx_types.proofs.programs.has_main.Given as goal

abbrev pub invariant-loop-decl : goal.invariant-loop-decl
invariant-loop-decl l = has_main l.names (map decl_tree (drop l.decl-index l.decls)) ≡ has_main l.names (map decl_tree l.decls)
