use Rattle.std.proofs.Common.{◌≡◌, ◌+◌, drop, map}
use Rattle.std.specs.Prelude.{sum_by}
use Rattle.cxx_tree.specs.ProgramTree.{init_tree}
use Rattle.cxx_tree.specs.Nodes.{capped, nodes_in_init}
use Rattle.cxx_tree.proofs.count.program.with_inits.Given as goal

-- what was counted fits, and with what is left it is the whole
abbrev pub invariant-loop-init : goal.invariant-loop-init
invariant-loop-init l =
    (l.total ≡ capped l.total) × (capped (l.total + sum_by nodes_in_init (map init_tree (drop l.init-index l.inits))) ≡ capped (l.fn.count + sum_by nodes_in_init (map init_tree l.inits)))
