use Rattle.std.proofs.Common.{rules, ◌≡◌, ◌∙◌, ◌&&◌, ◌+◌, true, false, ap, sym, map, drop}
use Rattle.std.specs.BTreeSet.{contains}
use Rattle.std.specs.Ordering.{nat_cmp}
use Rattle.cxx_tree.specs.ProgramTree.{init_tree}
use Rattle.cxx_normal.specs.Initialisers.{is_meant, are_meant}
use Rattle.cxx_normal.proofs.Loops.{at-turn}
use Rattle.cxx_normal.proofs.Places.{all_new, none-named, meant-turn, new-then}
use Rattle.cxx_normal.proofs.names.are_meant.Goals as goal

pub loop-init-init : goal.loop-init-init
loop-init-init c =
    let new : all_new (contains nat_cmp c.new-named.result) (map init_tree c.args.inits.now) ≡ true = none-named (contains nat_cmp c.new-named.result) (search rules) (map init_tree c.args.inits.now) in
    sym (ap (λ b. b && are_meant c.args.base c.args.members.now (map init_tree c.args.inits.now)) new)

pub loop-init-preserved : goal.loop-init-preserved
loop-init-preserved c =
    let init = c.init-item.result in
    let rest = drop (c.loop-init.init-index + 1) c.args.inits.now in
    let meant : is_meant c.args.base c.args.members.now (init_tree init) ≡ true = sym c.is_meant.ensures ∙ c.if-not-is_meant.false in
    let new : contains nat_cmp c.loop-init.named init.name.item.0 ≡ false = new-then _ (sym c.in_ok-insert.ensures.added ∙ c.if-not-branch.false) in
    c.loop-init.invariant ∙ ap (λ is. all_new (contains nat_cmp c.loop-init.named) (map init_tree is) && are_meant c.args.base c.args.members.now (map init_tree is)) (at-turn c.args.inits.now c.loop-init.init-index init c.loop-init-test.true c.init-item.is)
    ∙ meant-turn c.args.base c.args.members.now (contains nat_cmp c.loop-init.named) (contains nat_cmp c.insert.new.self) (init_tree init) (map init_tree rest) meant new c.in_ok-insert.ensures.updates.0
