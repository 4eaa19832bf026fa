use Rattle.std.proofs.Common.{◌≡◌, ◌++◌, drop, map, length}
use Rattle.cxx_tree.specs.ProgramTree.{decl_tree}
use Rattle.cxx_core.specs.ProgramView.{class_core}
use Rattle.cxx_core.specs.ElaboratedProgram.{decls_classes}
use Rattle.cxx_elaborate.proofs.elaborator.Elaborator.classes.Given as goal

abbrev pub invariant-loop-decl : goal.invariant-loop-decl
invariant-loop-decl l =
    map class_core l.classes ++ decls_classes l.self.declared (length (map class_core l.classes)) (map decl_tree (drop l.decl-index l.decls)) ≡ decls_classes l.self.declared 0 (map decl_tree l.decls)
