use Rattle.std.proofs.Common.{◌≡◌, ap, subst}
use Rattle.agxx_base.specs.declared.kind.Mode.TheVariants.{Source}
use Rattle.cxx_lex.specs.TokList.{tokens_of}
use Rattle.cxx_lex.specs.Tokens.{HasTokens, RefusedAt}
use Rattle.ah_parse.proofs.Files.{of-text, no-text}
use Rattle.ah_parse.proofs.read.read_guards.Goals as goal

pub returns-in-Ok-clause-read : goal.returns-in-Ok-clause-read
returns-in-Ok-clause-read c =
    let same : tokens_of c.as_slice.result.now ≡ tokens_of c.in-Ok.toks.items = ap tokens_of c.as_slice.ensures in
    of-text c.args.file c.args.taken.now c.args.text.now (tokens_of c.as_slice.result.now) c.in-Ok.toks.end c.read_aspects.result
    (rw same (subst (λ text. HasTokens Source c.args.file text (tokens_of c.in-Ok.toks.items) c.in-Ok.toks.end) c.bytes.ensures c.in-Ok.ensures.tokens))
    c.read_aspects.ensures.read

pub returns-in-Err-Refused-clause-read : goal.returns-in-Err-Refused-clause-read
returns-in-Err-Refused-clause-read c =
    no-text c.args.file c.args.taken.now c.args.text.now c.in-Err-Refused.field-0-0
    (subst (λ text. RefusedAt Source c.args.file text c.in-Err-Refused.field-0-0) c.bytes.ensures (rw c.in-Err-Refused.field-0-is at c.in-Err-Refused.ensures.refused))
