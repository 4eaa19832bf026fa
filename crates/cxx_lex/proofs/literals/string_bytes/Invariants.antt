use Rattle.std.proofs.Common.{◌≡◌, ◌-◌, ◌++◌, length, drop}
use Rattle.cxx_lex.specs.Strings.{meant, string_value}
use Rattle.cxx_lex.proofs.literals.string_bytes.Given as goal

abbrev pub invariant-loop-n : goal.invariant-loop-n
invariant-loop-n l = l.bytes.items ++ meant (drop l.n l.literal) ≡ string_value l.literal

abbrev pub decreases-loop-n : goal.decreases-loop-n
decreases-loop-n l = length l.literal - l.n
