use Rattle.std.proofs.Common.{subst}
use Rattle.cxx_lex.specs.Tokens.{RefusedAt}
use Rattle.agxx_main.specs.Answers.{no_tokens}
use Rattle.agxx_main.specs.RunAnswers.{mode_of}
use Rattle.agxx_main.proofs.Texts.{if-ok}
use Rattle.agxx_main.proofs.program.answer_text.Goals as goal

pub returns-in-Err-Refused : goal.returns-in-Err-Refused
returns-in-Err-Refused c =
    if-ok c.refused.result _ _ (λ a e. no_tokens c.in-Err-Refused.refusal (subst (λ text. RefusedAt (mode_of c.args.way.now) 0 text c.in-Err-Refused.refusal) c.bytes.ensures (subst (λ m. RefusedAt m 0 c.bytes.result.now c.in-Err-Refused.refusal) c.mode.ensures (rw c.in-Err-Refused.field-0-is at c.in-Err-Refused.ensures.refused))) e) c.refused.ensures
