use Rattle.cxx_lex.proofs.Readings.{one_reading, one_refusal, never_both, always_one, tells_tokens, tells_refusals}
use Rattle.cxx_lex.proofs.laws.texts_are_lexed_in_one_way.Goals as goal

pub returns : goal.returns
returns c = record { tokens = one_reading; refusal = one_refusal; never = never_both; always = always_one; tells_tokens = tells_tokens; tells_refusals = tells_refusals }
