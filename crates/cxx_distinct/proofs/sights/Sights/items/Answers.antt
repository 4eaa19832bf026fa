use Rattle.std.proofs.Common.{refl, map, List}
use Rattle.cxx_tree.specs.declared.program.Item.{Item}
use Rattle.cxx_tree.specs.ProgramTree.{item_tree}
use Rattle.cxx_distinct.specs.NamesIn.{names_in_each, names_in_item}
use Rattle.cxx_distinct.proofs.Runs.{seen_more}
use Rattle.cxx_distinct.proofs.sights.Sights.items.Goals as goal

pub loop-item-preserved : goal.loop-item-preserved
loop-item-preserved c = seen_more (λ (xs : List Item). names_in_each names_in_item (map item_tree xs)) c.args.items.now c.loop-item.item-index c.item-item.result _ c.loop-item.self c.item.new.self _ c.loop-item-test.true c.item-item.is refl c.in_ok-item.ensures c.loop-item.invariant
