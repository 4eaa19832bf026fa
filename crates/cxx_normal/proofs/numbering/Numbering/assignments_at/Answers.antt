use Rattle.std.proofs.Common.{ℕ, refl, map, get_or}
use Rattle.std.specs.List.{flat_map}
use Rattle.std.proofs.lemmas.List.{get_or_default}
use Rattle.cxx_tree.specs.StmtTree.{stmt_tree}
use Rattle.cxx_tree.specs.ProgramTree.{init_tree}
use Rattle.cxx_normal.specs.Numbers.{number_each, number_stmt}
use Rattle.cxx_normal.specs.Places.{assignment_at}
use Rattle.cxx_normal.proofs.Loops.{add-turn, add-done}
use Rattle.cxx_normal.proofs.numbering.Numbering.assignments_at.Goals as goal

pub returns : goal.returns
returns c =
    let one = assignment_at (map init_tree c.args.inits.now) in
    let whole = number_each number_stmt (flat_map one c.args.places.now) c.args.self.now.next in
    let done = add-done stmt_tree number_stmt (flat_map one) one (λ x xs. refl) refl whole c.args.places.now c.loop-place.place-index c.loop-place.stmts c.loop-place.self.next c.loop-place.invariant c.loop-place-test.false in
    rw (← done) (refl, refl)

pub loop-place-preserved : goal.loop-place-preserved
loop-place-preserved c =
    let one = assignment_at (map init_tree c.args.inits.now) in
    let place : ℕ = get_or c.args.places.now c.loop-place.place-index 0 in
    add-turn stmt_tree number_stmt (flat_map one) one (λ x xs. refl) _ c.args.places.now c.loop-place.place-index place c.loop-place.stmts c.assignment_at.new.stmts c.loop-place.self.next c.assignment_at.new.self.next c.loop-place.invariant c.loop-place-test.true (get_or_default c.args.places.now c.loop-place.place-index 0 place c.loop-place-test.true) c.in_ok-assignment_at.ensures
