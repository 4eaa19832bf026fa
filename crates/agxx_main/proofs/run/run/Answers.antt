use Rattle.std.proofs.Common.{◌≡◌, ◌∙◌, ap}
use Rattle.cxx_tree.specs.ProgramTree.{program_tree}
use Rattle.agxx_main.specs.RunAnswers.{run_answer, setting_of}
use Rattle.agxx_main.proofs.Texts.{if-ok, in-setting}
use Rattle.agxx_main.proofs.run.run.Goals as goal

pub returns : goal.returns
returns c =
    let s : c.in_ok-setting.setting ≡ setting_of c.args.names.now (program_tree c.args.program.now) = c.in_ok-setting.ensures ∙ ap (λ p. record { names = c.args.names.now; program = p }) c.in_ok-core.ensures in
    if-ok c.run_setting.result _ _ (λ a e. in-setting c.args.way.now c.args.file.now c.args.names.now (program_tree c.args.program.now) a (e ∙ ap (run_answer c.args.way.now c.args.file.now) s)) c.run_setting.ensures
