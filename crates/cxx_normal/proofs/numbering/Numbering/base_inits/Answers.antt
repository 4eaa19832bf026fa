use Rattle.std.proofs.Common.{refl, map}
use Rattle.std.specs.List.{filter}
use Rattle.cxx_tree.specs.ProgramTree.{init_tree}
use Rattle.cxx_normal.specs.Initialisers.{names_base, if_base}
use Rattle.cxx_normal.specs.Numbers.{number_each, number_init}
use Rattle.cxx_normal.proofs.Loops.{add-turn, add-done}
use Rattle.cxx_normal.proofs.Bodies.{base_step}
use Rattle.cxx_normal.proofs.numbering.Numbering.base_inits.Goals as goal

pub loop-init-preserved : goal.loop-init-preserved
loop-init-preserved c =
    add-turn init_tree number_init (λ is. filter (names_base c.args.base) (map init_tree is)) (λ i. if_base c.args.base (init_tree i)) (base_step c.args.base) _ c.args.inits.now c.loop-init.init-index c.init-item.result c.loop-init.copies c.base_init.new.copies c.loop-init.self.next c.base_init.new.self.next c.loop-init.invariant c.loop-init-test.true c.init-item.is c.in_ok-base_init.ensures

pub returns : goal.returns
returns c =
    let whole = number_each number_init (filter (names_base c.args.base) (map init_tree c.args.inits.now)) c.args.self.now.next in
    let done = add-done init_tree number_init (λ is. filter (names_base c.args.base) (map init_tree is)) (λ i. if_base c.args.base (init_tree i)) (base_step c.args.base) refl whole c.args.inits.now c.loop-init.init-index c.loop-init.copies c.loop-init.self.next c.loop-init.invariant c.loop-init-test.false in
    rw (← done) (refl, refl)
