-- The core program that a program of the code is.
use Rattle.std.specs.Prelude.{ℕ, List, map, Option, option_map}
use Rattle.agxx_base.specs.declared.ids.FnId.{FnId}
use Rattle.agxx_base.specs.declared.ids.NameId.{NameId}
use Rattle.cxx_core.specs.declared.program.Param.{Param}
use Rattle.cxx_core.specs.declared.program.FunctionKind.{FunctionKind}
use Rattle.cxx_core.specs.declared.program.FunctionKind.TheVariants as kind_of
use Rattle.cxx_core.specs.declared.program.Function.{Function}
use Rattle.cxx_core.specs.declared.program.Word.{Word}
use Rattle.cxx_core.specs.declared.program.Class.{Class}
use Rattle.cxx_core.specs.declared.program.Global.{Global}
use Rattle.cxx_core.specs.declared.program.Global.TheVariants as global_of
use Rattle.cxx_core.specs.declared.program.Program.{Program}
use Rattle.cxx_core.specs.CoreProgram as cp
use Rattle.cxx_core.specs.CoreProgram.{CoreParam, CoreFunction, CoreWord, CoreClass, CoreGlobal, CoreProgram}
use Rattle.cxx_core.specs.ExprView.{exprs_core}
use Rattle.cxx_core.specs.StmtView.{stmts_core}

abbrev pub number_core : FnId → ℕ
number_core f = f.0

abbrev pub name_core : NameId → ℕ
name_core name = name.0

abbrev pub param_core : Param → CoreParam
param_core q = record { name = q.name.0; type = q.value_type }

abbrev pub kind_core : FunctionKind → cp.FunctionKind
kind_core kind_of.Plain = cp.plain
kind_core kind_of.Constructor = cp.constructor
kind_core kind_of.Destructor = cp.destructor

abbrev pub function_core : Function → CoreFunction
function_core f = record {
  number = f.number.0;
  name = f.name;
  class = f.class;
  kind = kind_core f.kind;
  params = map param_core f.params;
  result = f.result;
  base = option_map number_core f.base;
  base_arguments = exprs_core f.base_arguments;
  body = stmts_core f.body;
}

abbrev pub word_core : Word → CoreWord
word_core w = record { name = w.name.0; kind = w.kind }

abbrev pub class_core : Class → CoreClass
class_core x = record {
  name = x.name;
  base = x.base;
  words = map word_core x.words;
  mutexes = map name_core x.mutexes;
  constructor = option_map number_core x.constructor;
  destructor = option_map number_core x.destructor;
}

abbrev pub global_core : Global → CoreGlobal
global_core (global_of.Number name v) = cp.number name.0 v
global_core (global_of.Pointer name class) = cp.pointer name.0 class
global_core (global_of.Object at name class es) = cp.object at name.0 class (exprs_core es)
global_core (global_of.Mutex name) = cp.mutex name.0
global_core (global_of.Wrong at) = cp.wrong at

abbrev pub program_core : Program → CoreProgram
program_core p = record {
  functions = map function_core p.functions;
  classes = map class_core p.classes;
  globals = map global_core p.globals;
  main = option_map number_core p.main;
}
