use Rattle.cxx_tree.specs.ProgramTree.{program_tree}
use Rattle.ah_parse.specs.GuardFiles.{guards_of}
use Rattle.agxx_main.specs.Replies.{answer_of, all_seen, ending_of}
use Rattle.agxx_main.specs.Weaving.{joined}
use Rattle.agxx_main.proofs.Texts.{if-ok}
use Rattle.agxx_main.proofs.Weavings.{judged-by-guards, violated-names}
use Rattle.agxx_main.proofs.weave.Weaver.judge.Goals as goal

pub returns-in-Ok : goal.returns-in-Ok
returns-in-Ok c =
    let s = all_seen c.args.self.sources in
    let ending = ending_of c.args.self.purpose.now in
    let q = program_tree c.args.program in
    let guards = guards_of c.args.names (joined c.args.files.now) in
    if-ok c.judge_guards.result _ _
    (λ r x. judged-by-guards ending s c.args.names c.in_ok-guards-in-Ok.guards guards c.in-Ok.typed q (answer_of r) c.in-Ok.ensures.typed
    c.in-Ok.ensures.typed.accepted c.in_ok-guards-in-Ok.ensures x)
    c.judge_guards.ensures

pub returns-in-Err-Refused : goal.returns-in-Err-Refused
returns-in-Err-Refused c =
    if-ok c.refuse.result _ _
    (λ r x raw e. violated-names (ending_of c.args.self.purpose.now) (all_seen c.args.self.sources) (guards_of c.args.names (joined c.args.files.now)) c.args.names (program_tree c.args.program) c.in-Err-Refused.refusal (answer_of r)
    (rw c.in-Err-Refused.field-0-is at c.in-Err-Refused.ensures.refused) x)
    c.refuse.ensures
