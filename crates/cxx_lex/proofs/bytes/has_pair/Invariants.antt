use Rattle.std.proofs.Common.{◌≡◌, drop}
use Rattle.cxx_lex.specs.Bytes.{has_pair}
use Rattle.cxx_lex.proofs.bytes.has_pair.Given as goal

abbrev pub invariant-loop-n : goal.invariant-loop-n
invariant-loop-n l = has_pair l.a l.b (drop l.n l.text) ≡ has_pair l.a l.b l.text
