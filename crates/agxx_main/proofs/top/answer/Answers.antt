use Rattle.std.proofs.Common.{arith}
use Rattle.agxx_calls.proofs.Meanings.{call-least, call-most}
use Rattle.agxx_main.specs.Replies.{answer_of}
use Rattle.agxx_main.proofs.Texts.{if-ok, on-err}
use Rattle.agxx_main.proofs.Dues.{some-called, some-usage, by-call}
use Rattle.agxx_main.proofs.top.answer.Goals as goal

pub returns-in_err-call-clause-some : goal.returns-in_err-call-clause-some
returns-in_err-call-clause-some g c =
    on-err c.from_residual.result _ (some-called c.args.words.now (g.F.Files.listed c.args.files.now) _ _ (omega arith) c.in_err-call.ensures.memory)

pub returns-in_err-usage-in-None-clause-some : goal.returns-in_err-usage-in-None-clause-some
returns-in_err-usage-in-None-clause-some g c =
    on-err _ _ (some-usage c.args.words.now (g.F.Files.listed c.args.files.now) _ _ (rw c.in-None.is at c.in_ok-call.ensures.call))

pub answer_call-requires : goal.answer_call-requires
answer_call-requires g c =
    (call-least c.args.words.now c.in-Some.call (rw c.in-Some.is at c.in_ok-call.ensures.call), call-most c.args.words.now c.in-Some.call (rw c.in-Some.is at c.in_ok-call.ensures.call))

pub returns-in-Some-clause-due : goal.returns-in-Some-clause-due
returns-in-Some-clause-due g c =
    if-ok c.answer_call.result _ _ (λ r d. by-call c.args.words.now (g.F.Files.listed c.args.files.now) _ _ c.in-Some.call (answer_of r) (rw c.in-Some.is at c.in_ok-call.ensures.call) d) c.answer_call.ensures.due

pub returns-in-Some-clause-some : goal.returns-in-Some-clause-some
returns-in-Some-clause-some g c =
    on-err c.answer_call.result _ (some-called c.args.words.now (g.F.Files.listed c.args.files.now) _ _ c.answer_call.ensures.later (c.in-Some.call, (rw c.in-Some.is at c.in_ok-call.ensures.call)))
