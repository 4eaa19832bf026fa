use Rattle.std.proofs.Common.{drop, map}
use Rattle.cxx_core.specs.ProgramView.{function_core}
use Rattle.cxx_elaborate.proofs.Numbered.{ItemsLeft}
use Rattle.cxx_elaborate.proofs.elaborator.Elaborator.add_items.Given as goal

abbrev pub invariant-loop-item : goal.invariant-loop-item
invariant-loop-item l =
    ItemsLeft l.self l.base (map function_core l.fn.functions) (map function_core l.functions) (drop l.item-index l.items) l.items
