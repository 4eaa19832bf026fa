use Rattle.std.proofs.Common.{◌≡◌, drop}
use Rattle.cxx_tree.specs.ExprTree.{exprs_tree}
use Rattle.cxx_types.specs.Classes.{base_arguments}
use Rattle.cxx_types.proofs.checker.Checker.base_arguments.Given as goal

abbrev pub invariant-loop-argument : goal.invariant-loop-argument
invariant-loop-argument l =
    base_arguments l.context (exprs_tree (drop l.argument-index l.arguments)) l.self ≡ base_arguments l.context (exprs_tree l.arguments) l.fn.self
