-- Trees whose nodes are numbered from 0 in text order.
use Rattle.std.specs.Prelude.{ℕ, suc}
use Rattle.cxx_tree.specs.declared.node.Node.{Node}
use Rattle.cxx_tree.specs.ProgramTree.{ProgramTree}
use Rattle.cxx_tree.specs.Walk.{Walk, walk_program}

-- a node gets the next number
abbrev pub number_node : Walk ℕ Node
number_node n k = (record { at = n.at; id = record { 0 = k } }, suc k)

-- the program with its nodes numbered
abbrev pub numbered_program : ProgramTree → ProgramTree
numbered_program q = (walk_program number_node q 0).0
