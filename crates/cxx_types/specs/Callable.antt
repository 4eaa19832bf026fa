-- What a call needs to know of what is called.
use Rattle.std.specs.Prelude.{Bool, List, Option}
use Rattle.cxx_tree.specs.declared.program.Param.{Param}
use Rattle.cxx_names.specs.declared.types.ValueType.{ValueType}

pub record Callable : Type 0 where
  pub params : List Param
  -- the type of the result, if it has one
  pub result : Option ValueType
  -- whether the call, its arguments aside, violates no rule
  pub is_right : Bool
