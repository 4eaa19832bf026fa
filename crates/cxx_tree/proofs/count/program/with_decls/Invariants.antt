use Rattle.std.proofs.Common.{◌≡◌, ◌+◌, drop, map}
use Rattle.std.specs.Prelude.{sum_by}
use Rattle.cxx_tree.specs.ProgramTree.{decl_tree}
use Rattle.cxx_tree.specs.Nodes.{capped, nodes_in_decl}
use Rattle.cxx_tree.proofs.count.program.with_decls.Given as goal

-- what was counted fits, and with what is left it is the whole
abbrev pub invariant-loop-decl : goal.invariant-loop-decl
invariant-loop-decl l =
    (l.total ≡ capped l.total) × (capped (l.total + sum_by nodes_in_decl (map decl_tree (drop l.decl-index l.decls))) ≡ capped (l.fn.count + sum_by nodes_in_decl (map decl_tree l.decls)))
