use Rattle.std.proofs.Common.{◌≡◌, ◌∙◌, sym}
use Rattle.step_machine.specs.Turn.{thread_at}
use Rattle.fault_watch.proofs.Depths.{depth-some, depth-none}
use Rattle.fault_watch.proofs.inside.depth_of.Goals as goal

pub returns-in-None : goal.returns-in-None
returns-in-None g c =
    depth-none c.args.engine.now.setting (thread_at c.args.engine.now.threads c.args.thread) (sym c.in-None.is ∙ c.top_of.ensures)

pub returns-in-Some : goal.returns-in-Some
returns-in-Some g c =
    depth-some c.args.engine.now.setting (thread_at c.args.engine.now.threads c.args.thread) c.in-Some.top (sym c.in-Some.is ∙ c.top_of.ensures)
