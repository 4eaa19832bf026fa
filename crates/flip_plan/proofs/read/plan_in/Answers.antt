use Rattle.std.proofs.Common.{◌≡◌, ◌∷◌, refl, rules, of_calls}
use Rattle.flip_plan.proofs.Rooms.{room_at_first, lines_turn}
use Rattle.flip_plan.proofs.read.plan_in.Goals as goal

pub lines-init : goal.lines-init
lines-init c = rw (c.empty-plan.ensures, c.new-lines.ensures) (refl, room_at_first 0 c.args.text.now c.requires)

pub lines-preserved : goal.lines-preserved
lines-preserved c =
    let cut : c.lines.lines ≡ c.in-Some.line ∷ c.next.new.self = search (rules, of_calls) in
    lines_turn c.lines.lines c.next.new.self c.in-Some.line c.lines.plan c.add_line.new.self _ c.lines.invariant cut c.in_ok-add_line.ensures
