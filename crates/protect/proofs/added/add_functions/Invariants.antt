use Rattle.std.proofs.Common.{◌≡◌, ◌++◌, drop, map}
use Rattle.cxx_tree.specs.ProgramTree.{item_tree, function_tree, function}
use Rattle.protect.proofs.added.add_functions.Given as goal

-- the items so far, and then the functions that are left, are all
abbrev pub invariant-loop-function : goal.invariant-loop-function
invariant-loop-function l =
    map item_tree l.items ++ map function (map function_tree (drop l.function-index l.functions))
    ≡ map item_tree l.fn.items ++ map function (map function_tree l.functions)
