use Rattle.std.proofs.Common.{◌≡◌, drop, map}
use Rattle.cxx_tree.specs.ProgramTree.{decl_tree}
use Rattle.cxx_core.specs.ProgramView.{function_core}
use Rattle.cxx_core.specs.ElaboratedProgram.{numbered_from, decls_functions}
use Rattle.cxx_elaborate.specs.Added.{followed}
use Rattle.cxx_elaborate.proofs.elaborator.Elaborator.functions.Given as goal

abbrev pub invariant-loop-decl : goal.invariant-loop-decl
invariant-loop-decl l =
    followed (map function_core l.functions) (decls_functions l.self l.class (map decl_tree (drop l.decl-index l.decls))) ≡ numbered_from 0 (decls_functions l.self 0 (map decl_tree l.decls))
