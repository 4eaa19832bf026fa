use Rattle.std.proofs.Common.{rules, ap, ap₂, ◌≡◌, ◌∙◌}
use Rattle.clap.specs.Words.{App, app_of, new_app, rule_of, with_rule, with_subcommand}
use Rattle.agxx_calls.specs.Commands.{word_of}
use Rattle.agxx_calls.specs.Parse.{files_app, files_rule}
use Rattle.agxx_calls.proofs.parse.with_command.Goals as goal

pub returns : goal.returns
returns c =
    let files_are : rule_of c.action-files.result ≡ files_rule = search rules in
    let is : app_of c.in_ok-files_command.files_command ≡ files_app (word_of c.args.command) = c.in_ok-files_command.ensures.shape (search rules) ∙ ap₂ with_rule (c.new-2.ensures.app ∙ ap new_app c.word-word.ensures) files_are in
    c.in_ok-subcommand.ensures.shape (search rules) ∙ ap (λ (sub : App). with_subcommand (app_of c.args.line) sub.top) is
