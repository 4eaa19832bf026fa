use Rattle.std.proofs.Common.{rules, ◌≡◌, ◌∙◌, map}
use Rattle.std.specs.Map.{values_of}
use Rattle.cxx_tree.specs.ProgramTree.{init_tree}
use Rattle.cxx_normal.proofs.Places.{in-order}
use Rattle.cxx_normal.proofs.order.order.Goals as goal

pub returns : goal.returns
returns c =
    let v : c.in_ok-collect.field-0.items ≡ values_of c.in_ok-numbers.numbers.entries = search rules in
    v ∙ in-order c.args.base c.args.members.now (map init_tree c.args.inits.now) c.in_ok-numbers.numbers.entries c.values.ensures.ordered c.in_ok-numbers.ensures
