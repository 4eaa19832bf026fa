use Rattle.std.proofs.Common.{◌≡◌, ◌++◌, drop, map}
use Rattle.cxx_tree.specs.ProgramTree.{decl_tree}
use Rattle.cxx_core.specs.ProgramView.{global_core}
use Rattle.cxx_core.specs.ElaboratedProgram.{decls_globals}
use Rattle.cxx_elaborate.proofs.elaborator.Elaborator.globals.Given as goal

abbrev pub invariant-loop-decl : goal.invariant-loop-decl
invariant-loop-decl l =
    map global_core l.globals ++ decls_globals l.self (map decl_tree (drop l.decl-index l.decls)) ≡ decls_globals l.self (map decl_tree l.decls)
