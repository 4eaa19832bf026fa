use Rattle.std.proofs.Common.{◌≡◌, drop}
use Rattle.cxx_types.specs.Classes.{params}
use Rattle.cxx_types.proofs.checker.Checker.params.Given as goal

abbrev pub invariant-loop-param : goal.invariant-loop-param
invariant-loop-param l = params l.context l.index (drop l.param-index l.params) l.self ≡ params l.context 0 l.params l.fn.self
