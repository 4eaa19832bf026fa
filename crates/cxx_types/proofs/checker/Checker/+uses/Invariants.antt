use Rattle.std.proofs.Common.{◌≡◌, drop}
use Rattle.cxx_tree.specs.ExprTree.{exprs_tree}
use Rattle.cxx_types.specs.Classes.{any_uses_object}
use Rattle.cxx_types.proofs.checker.Checker.+uses.Given as goal

abbrev pub invariant-any_uses_object-loop-argument : goal.invariant-any_uses_object-loop-argument
invariant-any_uses_object-loop-argument l =
    any_uses_object l.context (exprs_tree (drop l.argument-index l.arguments)) l.self ≡ any_uses_object l.context (exprs_tree l.arguments) l.self
