-- How many numbers are given.
use Rattle.std.proofs.Common.{◌+◌, arith}
use Rattle.cxx_tree.specs.Nodes.{counts}
use Rattle.cxx_tree.specs.Walk.{IsFolded}
use Rattle.cxx_tree.proofs.Counted as nodes
use Rattle.cxx_tree.proofs.States.{program-met}
use Rattle.cxx_normal.specs.Numbers.{number_node}
use Rattle.cxx_normal.specs.Normal.{NumbersAreCounted}

-- the next number is that after as many as the fold counts
goes-on : IsFolded number_node counts (λ k n. k + n)
goes-on = record {
  of_none = λ k. omega arith;
  of_join = λ k a b. omega arith;
  of_node = λ k n. omega arith;
  of_name = λ k n. omega arith;
  of_type_name = λ k t. omega arith;
}

pub program-counted : NumbersAreCounted
program-counted q =
    let last = program-met number_node counts (λ k n. k + n) goes-on q 0 in
    omega (arith, last, nodes.program-counted q)
