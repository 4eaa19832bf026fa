use Rattle.std.proofs.Common.{◌≡◌, ◌≤◌, ◌-◌, length, drop}
use Rattle.cxx_lex.specs.Runs.{close_len}
use Rattle.cxx_lex.proofs.Runs.{longer}
use Rattle.cxx_lex.proofs.front.close_len.Given as goal

abbrev pub invariant-loop-n : goal.invariant-loop-n
invariant-loop-n l = (l.n ≤ length l.text) × (longer l.n (close_len (drop l.n l.text)) ≡ close_len l.text)

abbrev pub decreases-loop-n : goal.decreases-loop-n
decreases-loop-n l = length l.text - l.n
