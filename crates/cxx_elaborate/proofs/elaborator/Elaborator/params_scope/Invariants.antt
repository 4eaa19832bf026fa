use Rattle.std.proofs.Common.{◌≡◌, [], drop}
use Rattle.cxx_core.specs.ElaboratedProgram.{with_params}
use Rattle.cxx_elaborate.proofs.elaborator.Elaborator.params_scope.Given as goal

abbrev pub invariant-loop-param : goal.invariant-loop-param
invariant-loop-param l =
    with_params l.self.declared l.scope (drop l.param-index l.params) ≡ with_params l.self.declared [] l.params
