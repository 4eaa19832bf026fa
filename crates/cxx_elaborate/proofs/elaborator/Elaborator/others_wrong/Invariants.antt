use Rattle.std.proofs.Common.{◌≡◌, drop, map}
use Rattle.cxx_tree.specs.ProgramTree.{init_tree}
use Rattle.cxx_core.specs.StmtView.{stmt_core, stmts_core}
use Rattle.cxx_core.specs.ElaboratedProgram.{others_wrong}
use Rattle.cxx_elaborate.proofs.Onto.{stmts_onto}
use Rattle.cxx_elaborate.proofs.elaborator.Elaborator.others_wrong.Given as goal

abbrev pub invariant-loop-init : goal.invariant-loop-init
invariant-loop-init l =
    stmts_onto (map stmt_core l.stmts) (others_wrong l.base (map init_tree (drop l.init-index l.inits)) (stmts_core l.fn.body)) ≡ others_wrong l.base (map init_tree l.inits) (stmts_core l.fn.body)
