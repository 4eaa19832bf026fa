use Rattle.std.proofs.Common.{◌∙◌}
use Rattle.agxx_calls.proofs.Meanings.{call-meant}
use Rattle.agxx_calls.proofs.words.read_call.Goals as goal

pub returns-in_err-files-in-Some-clause-memory : goal.returns-in_err-files-in-Some-clause-memory
returns-in_err-files-in-Some-clause-memory c =
    call-meant c.from_residual-in_err-files-in-Some.result c.args.words.now c.as_slice.result.now c.in-Some.command c.as_slice.ensures c.in-len1-up.len_at_least c.bytes.result.now _ (c.bytes.ensures ∙ c.word-item.is) c.in-Some.ensures

pub returns-in_err-is_read-in-Some-clause-memory : goal.returns-in_err-is_read-in-Some-clause-memory
returns-in_err-is_read-in-Some-clause-memory c =
    call-meant c.from_residual.result c.args.words.now c.as_slice.result.now c.in-Some.command c.as_slice.ensures c.in-len1-up.len_at_least c.bytes.result.now _ (c.bytes.ensures ∙ c.word-item.is) c.in-Some.ensures
