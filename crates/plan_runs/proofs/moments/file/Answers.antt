use Rattle.std.proofs.Common.{◌≡◌, Some, inr}
use Rattle.std.proofs.lemmas.Result.{on_ok_weaker}
use Rattle.agxx_base.specs.declared.ids.ClassId.{ClassId}
use Rattle.std.specs.Prelude.{OnOk}
use Rattle.plan_runs.specs.Watches.{Adds, FilesLine}
use Rattle.plan_runs.proofs.moments.file.Goals as goal

pub returns-in-Part : goal.returns-in-Part
returns-in-Part g c =
    on_ok_weaker c.wait-in-Part.result
    (λ (a : Adds (Some c.in-Part.class) c.args.flip c.args.watch.now c.wait-in-Part.new.self).
    record { files = inr (Some c.in-Part.class, (c.in-Part.ensures, a.added)); all_else = a.all_else })
    c.wait-in-Part.ensures
