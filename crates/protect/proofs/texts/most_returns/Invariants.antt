use Rattle.std.proofs.Common.{◌≡◌, drop, map}
use Rattle.cxx_tree.specs.ProgramTree.{item_tree}
use Rattle.protect.specs.GeneratedNames.{most_returns}
use Rattle.protect.proofs.texts.most_returns.Given as goal

abbrev pub invariant-loop-item : goal.invariant-loop-item
invariant-loop-item l = most_returns l.most (map item_tree (drop l.item-index l.items)) ≡ most_returns l.fn.least (map item_tree l.items)
