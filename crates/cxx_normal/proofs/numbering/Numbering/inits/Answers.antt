use Rattle.std.proofs.Common.{refl}
use Rattle.cxx_tree.specs.ProgramTree.{init_tree}
use Rattle.cxx_normal.specs.Numbers.{number_init}
use Rattle.cxx_normal.proofs.Loops.{each-turn, each-done, parts}
use Rattle.cxx_normal.proofs.numbering.Numbering.inits.Goals as goal

pub loop-init-preserved : goal.loop-init-preserved
loop-init-preserved c =
    each-turn init_tree number_init _ c.args.inits.now c.loop-init.init-index c.init-item.result c.in_ok-init.field-0 c.loop-init.copies c.push.new.self c.loop-init.self.next c.init.new.self.next c.loop-init.invariant c.loop-init-test.true c.init-item.is c.in_ok-push.ensures.ok c.in_ok-init.ensures

pub returns : goal.returns
returns c =
    let whole = parts init_tree number_init c.args.inits.now c.args.self.now.next in
    let done = each-done init_tree number_init whole c.args.inits.now c.loop-init.init-index c.loop-init.copies c.loop-init.self.next c.loop-init.invariant c.loop-init-test.false in
    rw (← done) (refl, refl)
