use Rattle.std.proofs.Common.{◌≡◌, ◌∙◌, ap, subst, map}
use Rattle.std.specs.List.{flat_map}
use Rattle.cxx_tree.specs.StmtTree.{stmt_tree}
use Rattle.cxx_tree.specs.ProgramTree.{init_tree}
use Rattle.cxx_normal.specs.Gives.{Gives}
use Rattle.cxx_normal.specs.Initialisers.{assignments_for}
use Rattle.cxx_normal.specs.Numbers.{number_each, number_stmt}
use Rattle.cxx_normal.specs.Places.{assignment_at}
use Rattle.cxx_normal.proofs.Places.{assigned}
use Rattle.cxx_normal.proofs.numbering.Numbering.assignments.Goals as goal

pub returns : goal.returns
returns c =
    let inits = map init_tree c.args.inits.now in
    let e : flat_map (assignment_at inits) c.as_slice.result.now ≡ flat_map (assignments_for c.args.base inits) c.args.members.now =
    ap (flat_map (assignment_at inits)) (c.as_slice.ensures.value ∙ c.in_ok-order.ensures) ∙ assigned c.args.base c.args.members.now inits c.requires in
    subst (λ xs. Gives (map stmt_tree) (number_each number_stmt xs c.args.self.now.next) c.assignments_at.result c.assignments_at.new.self.next) e c.assignments_at.ensures
