use Rattle.std.proofs.Common.{subst}
use Rattle.agxx_base.specs.declared.kind.Mode.TheVariants as mode
use Rattle.cxx_lex.specs.TokList.{tokens_of}
use Rattle.cxx_lex.specs.Tokens.{HasTokens, RefusedAt}
use Rattle.agxx_main.specs.Weaving.{no_tokens, tokens}
use Rattle.agxx_main.proofs.Texts.{if-ok}
use Rattle.agxx_main.proofs.weave.answer_sources.Goals as goal

pub returns-in-Ok : goal.returns-in-Ok
returns-in-Ok c =
    if-ok c.read_files.result _ _
    (λ r x. tokens (tokens_of c.in-Ok.toks.items) c.in-Ok.toks.end (subst (λ text. HasTokens mode.Source 0 text (tokens_of c.in-Ok.toks.items) c.in-Ok.toks.end) c.bytes.ensures c.in-Ok.ensures.tokens) x)
    c.read_files.ensures

pub returns-in-Err-Refused : goal.returns-in-Err-Refused
returns-in-Err-Refused c =
    if-ok c.refuse.result _ _
    (λ r e. no_tokens c.in-Err-Refused.refusal (subst (λ text. RefusedAt mode.Source 0 text c.in-Err-Refused.refusal) c.bytes.ensures (rw c.in-Err-Refused.field-0-is at c.in-Err-Refused.ensures.refused)) e)
    c.refuse.ensures
