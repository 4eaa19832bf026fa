use Rattle.std.proofs.Common.{rules, codes, ap, ◌≡◌, ◌∙◌}
use Rattle.clap.specs.Words.{app_of}
use Rattle.agxx_calls.specs.Parse.{bare_app, with_command}
use Rattle.agxx_calls.proofs.parse.command_line.Goals as goal

pub returns : goal.returns
returns c =
    let bare_is : app_of c.disable_help_subcommand-bare.result ≡ bare_app = search rules in
    c.in_ok-source.ensures
    ∙ ap (with_command (codes "source")) (c.in_ok-run.ensures
    ∙ ap (with_command (codes "run")) (c.in_ok-exec.ensures ∙ ap (with_command (codes "exec")) (c.in_ok-weave.ensures ∙ ap (with_command (codes "weave")) bare_is)))
