-- What values are left once the parameters are bound.
use Rattle.std.proofs.Common.{◌≡◌, List, [], ◌∷◌, map, length, refl, ap}
use Rattle.cxx_core.specs.declared.program.Param.{Param}
use Rattle.cxx_core.specs.ProgramView.{param_core}
use Rattle.step_machine.specs.Data.{rest}
use Rattle.step_machine.specs.Frame.{Binding, bind_all}
use Rattle.step_frame.specs.Under.{under}

pub values_under : (qs : List Param) (b : Binding) → (bind_all (map param_core qs) b).0 ≡ under (length qs) b.0
values_under [] b = refl
values_under (q ∷ qs) b = ap rest (values_under qs b)
