use Rattle.std.proofs.Common.{◌≡◌, ◌++◌, drop, map}
use Rattle.cxx_tree.specs.ProgramTree.{item_tree}
use Rattle.cxx_core.specs.ProgramView.{word_core}
use Rattle.cxx_core.specs.ElaboratedProgram.{words}
use Rattle.cxx_elaborate.proofs.elaborator.Elaborator.words.Given as goal

abbrev pub invariant-loop-item : goal.invariant-loop-item
invariant-loop-item l =
    map word_core l.words ++ words l.self.declared (map item_tree (drop l.item-index l.items)) ≡ words l.self.declared (map item_tree l.items)
