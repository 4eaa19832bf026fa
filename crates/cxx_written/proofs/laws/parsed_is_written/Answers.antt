use Rattle.cxx_written.proofs.Parsed.{parsed-is-written}
use Rattle.cxx_written.proofs.laws.parsed_is_written.Goals as goal

pub returns : goal.returns
returns c = parsed-is-written
