-- That each node of a program is known.
use Rattle.std.specs.Prelude.{◌≡◌, ℕ, List, length}
use Rattle.agxx_base.specs.declared.kind.Mode.{Mode}
use Rattle.cxx_tree.specs.Nodes.{nodes_in_program}
use Rattle.cxx_tree.specs.ProgramTree.{ProgramTree}
use Rattle.cxx_types.specs.Programs.{checked}

-- Of each node of a program just one thing is known, whether the program violates a rule or not. So where nodes are
-- numbered from 0 in text order, each number is the place of what is known of its node.
abbrev pub EachNodeOnce : Type 0
EachNodeOnce = (names : List (List ℕ)) (mode : Mode) (q : ProgramTree) → length (checked names mode q).entries ≡ nodes_in_program q
