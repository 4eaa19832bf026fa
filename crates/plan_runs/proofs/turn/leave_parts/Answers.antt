use Rattle.std.proofs.Common.{◌≡◌, ◌∙◌, option_map, subst, sym}
use Rattle.step_machine.specs.Setting.{Setting}
use Rattle.step_frame.specs.Works.{number_of}
use Rattle.plan_runs.specs.Watches.{IsCleared}
use Rattle.plan_runs.proofs.Turned.{leaves-top, leaves-none}
use Rattle.plan_runs.proofs.turn.leave_parts.Goals as goal

pub returns-in-Some : goal.returns-in-Some
returns-in-Some g c =
    leaves-top c.args.engine.now c.args.thread c.in-Some.top c.args.watch.now c.clear.new.self (sym c.top_of.ensures ∙ c.in-Some.is)
    (subst (λ (s : Setting). IsCleared s (option_map number_of c.in-Some.top.object) c.in-Some.top.class c.args.watch.now c.clear.new.self)
    c.setting.ensures c.clear.ensures)
