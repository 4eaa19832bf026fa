use Rattle.std.proofs.Common.{◌≡◌, drop}
use Rattle.cxx_lex.specs.Numbers.{kind_for}
use Rattle.cxx_lex.proofs.numbers.kind_for.Given as goal

abbrev pub invariant-loop-kind : goal.invariant-loop-kind
invariant-loop-kind l = kind_for l.value (drop l.kind-index l.kinds) ≡ kind_for l.value l.kinds
