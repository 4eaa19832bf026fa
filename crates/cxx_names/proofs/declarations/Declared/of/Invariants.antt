use Rattle.std.proofs.Common.{◌≡◌, drop, map}
use Rattle.cxx_tree.specs.ProgramTree.{decl_tree}
use Rattle.cxx_names.specs.Declarations.{empty, with_decls}
use Rattle.cxx_names.proofs.declarations.Declared.of.Given as goal

abbrev pub invariant-loop-decl : goal.invariant-loop-decl
invariant-loop-decl l = with_decls l.names (l.declared) (map decl_tree (drop l.decl-index l.program.decls)) ≡ with_decls l.names empty (map decl_tree l.program.decls)
