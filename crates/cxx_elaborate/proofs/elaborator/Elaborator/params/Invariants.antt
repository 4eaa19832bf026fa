use Rattle.std.proofs.Common.{◌≡◌, ◌++◌, drop, map}
use Rattle.cxx_core.specs.ProgramView.{param_core}
use Rattle.cxx_core.specs.ElaboratedProgram.{core_param}
use Rattle.cxx_elaborate.proofs.elaborator.Elaborator.params.Given as goal

abbrev pub invariant-loop-param : goal.invariant-loop-param
invariant-loop-param l =
    map param_core l.made ++ map (core_param l.self.declared) (drop l.param-index l.params) ≡ map (core_param l.self.declared) l.params
