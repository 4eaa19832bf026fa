use Rattle.std.proofs.Common.{drop, map, refl}
use Rattle.std.specs.List.{flat_map}
use Rattle.cxx_tree.specs.StmtTree.{stmt_tree}
use Rattle.cxx_tree.specs.ProgramTree.{init_tree}
use Rattle.cxx_normal.specs.Numbers.{number_each, number_stmt}
use Rattle.cxx_normal.specs.Places.{assignment_at}
use Rattle.cxx_normal.proofs.Loops.{IsAdded}
use Rattle.cxx_normal.proofs.numbering.Numbering.assignments_at.Given as goal

abbrev pub invariant-loop-place : goal.invariant-loop-place
invariant-loop-place l =
    IsAdded stmt_tree number_stmt (flat_map (assignment_at (map init_tree l.inits))) (assignment_at (map init_tree l.inits)) (λ x xs. refl) (number_each number_stmt (flat_map (assignment_at (map init_tree l.inits)) l.places) l.fn.self.next) l.stmts (drop l.place-index l.places) l.self.next
