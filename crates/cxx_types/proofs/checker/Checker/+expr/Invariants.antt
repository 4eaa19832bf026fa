use Rattle.std.proofs.Common.{◌≡◌, ◌+◌, drop, true}
use Rattle.cxx_tree.specs.ExprTree.{exprs_tree}
use Rattle.cxx_types.specs.Expressions.{exprs}
use Rattle.cxx_types.proofs.checker.Checker.+expr.Given as goal

abbrev pub invariant-arguments-loop-argument : goal.invariant-arguments-loop-argument
invariant-arguments-loop-argument l =
    exprs l.context l.left l.fit (exprs_tree (drop l.argument-index l.arguments)) l.self ≡ exprs l.context l.params true (exprs_tree l.arguments) l.fn.self
