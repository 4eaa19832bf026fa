use Rattle.std.proofs.Common.{drop, map}
use Rattle.std.specs.List.{filter}
use Rattle.cxx_tree.specs.ProgramTree.{init_tree}
use Rattle.cxx_normal.specs.Initialisers.{names_base, if_base}
use Rattle.cxx_normal.specs.Numbers.{number_each, number_init}
use Rattle.cxx_normal.proofs.Loops.{IsAdded}
use Rattle.cxx_normal.proofs.Bodies.{base_step}
use Rattle.cxx_normal.proofs.numbering.Numbering.base_inits.Given as goal

abbrev pub invariant-loop-init : goal.invariant-loop-init
invariant-loop-init l =
    IsAdded init_tree number_init (λ is. filter (names_base l.base) (map init_tree is)) (λ i. if_base l.base (init_tree i)) (base_step l.base) (number_each number_init (filter (names_base l.base) (map init_tree l.inits)) l.fn.self.next) l.copies (drop l.init-index l.inits) l.self.next
