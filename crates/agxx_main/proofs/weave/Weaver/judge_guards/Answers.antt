use Rattle.std.proofs.Common.{◌∙◌, ap}
use Rattle.cxx_normal.specs.Numbers.{numbered_program}
use Rattle.cxx_tree.specs.ProgramTree.{program_tree}
use Rattle.agxx_main.specs.Answers.{refused}
use Rattle.agxx_main.specs.Replies.{answer_of, all_seen, ending_of}
use Rattle.agxx_main.proofs.Texts.{if-ok}
use Rattle.agxx_main.proofs.Weavings.{kept-guards, violated-guards}
use Rattle.agxx_main.proofs.weave.Weaver.judge_guards.Goals as goal

pub returns-in-Ok : goal.returns-in-Ok
returns-in-Ok c =
    if-ok c.weave.result _ _
    (λ r x m q t. kept-guards (ending_of c.args.self.purpose.now) (all_seen c.args.self.sources) c.args.guards.now c.args.names (numbered_program q) (program_tree c.program.result.now) (answer_of r) (c.in-Ok.ensures.kept m q t) (ap program_tree c.program.ensures ∙ t.program) x)
    c.weave.ensures

pub returns-in-Err-Refused : goal.returns-in-Err-Refused
returns-in-Err-Refused c =
    let refused-is = rw c.in-Err-Refused.field-0-is at c.in-Err-Refused.ensures.refused in
    if-ok c.refuse.result _ _
    (λ r e m q t. violated-guards (ending_of c.args.self.purpose.now) (all_seen c.args.self.sources) c.args.guards.now c.args.names (numbered_program q) c.in-Err-Refused.refusal (answer_of r) (refused-is m q t) (e ∙ ap (λ f. refused f c.in-Err-Refused.refusal) c.name_of.ensures))
    c.refuse.ensures
