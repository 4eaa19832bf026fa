-- What is left to do in a frame.
use Rattle.std.specs.Prelude.{ℕ, Bool, List, [], ◌∷◌, Option, Some}
use Rattle.agxx_base.specs.declared.ids.ClassId.{ClassId}
use Rattle.agxx_base.specs.declared.kind.NumKind.{NumKind}
use Rattle.agxx_base.specs.declared.place.Place.{Place}
use Rattle.cxx_tree.specs.declared.operator.BinOp.{BinOp}
use Rattle.cxx_tree.specs.declared.operator.UnOp.{UnOp}
use Rattle.cxx_names.specs.declared.types.ValueType.{ValueType}
use Rattle.cxx_core.specs.CoreExpr as c
use Rattle.cxx_core.specs.CoreExpr.{CoreExpr, CoreExprs, CoreLeft, CoreCallee}
use Rattle.cxx_core.specs.CoreStmt as cs
use Rattle.cxx_core.specs.CoreStmt.{CoreStmt, CoreStmts, CorePrinted}
use Rattle.cxx_core.specs.CoreProgram as cp
use Rattle.cxx_core.specs.CoreProgram.{CoreFunction, FunctionKind}

-- what comes of a frame that runs off its end
pub data Ending : Type 0 where
  returns : Ending
  -- the function has a result, so a value is missing
  lacks_value : Ending
  -- the object is destroyed
  destroys : Ending

pub data Item : Type 0 where
  -- a global object's, by its number, with the place of its class's name
  make : Place → ℕ → ClassId → CoreExprs → Item
  build : Place → ℕ → ClassId → Item
  unmake : Place → ℕ → ClassId → Item
  run : Item
  finish : Item
  stmt : CoreStmt → Item
  expr : CoreExpr → Item
  op_one : Place → UnOp → Item
  op_two : Place → BinOp → Item
  -- with the left side on top
  op_left : Place → BinOp → Item
  cast : NumKind → Item
  -- of `&&` where true, else of `||`, with the right side
  short : Bool → CoreExpr → Item
  truth : Item
  drop : Item
  bind : ℕ → ValueType → Item
  put : CoreLeft → Item
  keep : ValueType → Item
  print : Place → Item
  show : Place → List ℕ → Item
  branch : CoreStmts → CoreStmts → Item
  loop : CoreExpr → CoreStmts → Item
  -- with the condition, the step and the body
  for_test : CoreExpr → CoreStmts → CoreStmts → Item
  for_loop : CoreExpr → CoreStmts → CoreStmts → Item
  call : CoreCallee → Item
  new : Place → ClassId → Item
  delete : Place → ClassId → Item
  -- with the thread's name and its function's number
  spawn : Place → ℕ → ℕ → Item
  -- with the number of the base's constructor, or destructor
  up : Place → ℕ → Item
  down : Place → ℕ → Item
  leave : Place → Item
  end : Place → Ending → Item

-- ---- items that stand on others

abbrev pub stmts_on : CoreStmts → List Item → List Item
stmts_on cs.no_stmts is = is
stmts_on (cs.more_stmts s ss) is = stmt s ∷ stmts_on ss is

abbrev pub exprs_on : CoreExprs → List Item → List Item
exprs_on c.no_exprs is = is
exprs_on (c.more_exprs e es) is = expr e ∷ exprs_on es is

-- a newline
abbrev pub line_end : List ℕ
line_end = 10 ∷ []

abbrev pub printed_on : List CorePrinted → List Item → List Item
printed_on [] is = is
printed_on (cs.text at bytes ∷ qs) is = show at bytes ∷ printed_on qs is
printed_on (cs.endl at ∷ qs) is = show at line_end ∷ printed_on qs is
printed_on (cs.operand at k e ∷ qs) is = expr e ∷ print at ∷ printed_on qs is
printed_on (cs.unprintable at ∷ qs) is = printed_on qs is

-- ---- the items of a function

-- a constructor begins with that of its base, and a destructor ends with that of its base
abbrev pub body_on : FunctionKind → Option ℕ → CoreFunction → List Item → List Item
body_on cp.constructor (Some base) f is = exprs_on f.base_arguments (up f.name.at base ∷ stmts_on f.body is)
body_on cp.destructor (Some base) f is = stmts_on f.body (down f.name.at base ∷ is)
body_on _ _ f is = stmts_on f.body is

abbrev pub function_items : CoreFunction → Ending → List Item
function_items f ending = body_on f.kind f.base f (end f.name.at ending ∷ [])
