use Rattle.std.proofs.Common.{refl, map, List}
use Rattle.cxx_tree.specs.declared.program.Init.{Init}
use Rattle.cxx_tree.specs.ProgramTree.{init_tree}
use Rattle.cxx_distinct.specs.NamesIn.{names_in_each, names_in_init}
use Rattle.cxx_distinct.proofs.Runs.{seen_more}
use Rattle.cxx_distinct.proofs.sights.Sights.inits.Goals as goal

pub loop-init-preserved : goal.loop-init-preserved
loop-init-preserved c = seen_more (λ (xs : List Init). names_in_each names_in_init (map init_tree xs)) c.args.inits.now c.loop-init.init-index c.init-item.result (names_in_init (init_tree c.init-item.result)) c.loop-init.self c.init.new.self _ c.loop-init-test.true c.init-item.is refl c.in_ok-init.ensures c.loop-init.invariant
