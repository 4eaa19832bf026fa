-- Items that look at the values of their frame alone.
use Rattle.std.specs.Prelude.{ℕ, Bool, true, false, List, ◌∷◌, Some, Result, Ok, Err, if◌then◌else◌}
use Rattle.agxx_base.specs.declared.kind.NumKind.{NumKind}
use Rattle.agxx_base.specs.declared.place.Place.{Place}
use Rattle.cxx_tree.specs.declared.operator.BinOp.{BinOp}
use Rattle.cxx_tree.specs.declared.operator.UnOp.{UnOp}
use Rattle.cxx_arith.specs.declared.value.Value.{Value}
use Rattle.cxx_arith.specs.declared.value.ArithStop.{ArithStop}
use Rattle.cxx_arith.specs.declared.value.ArithStop.TheVariants as arith
use Rattle.cxx_arith.specs.Arithmetic.{apply_of, apply_one_of}
use Rattle.cxx_names.specs.declared.types.ValueType.{ValueType}
use Rattle.cxx_core.specs.CoreExpr.{CoreExpr}
use Rattle.cxx_core.specs.CoreStmt.{CoreStmts}
use Rattle.step_machine.specs.declared.datum.Datum.{Datum}
use Rattle.step_machine.specs.declared.datum.Datum.TheVariants as datum
use Rattle.step_machine.specs.declared.outcome.Stop.{Stop}
use Rattle.step_machine.specs.declared.outcome.Stop.TheVariants as stop
use Rattle.step_machine.specs.Data.{as_number, is_true, truth_value, of_kind, converted, same_pointer, compared_as}
use Rattle.step_machine.specs.Item as it
use Rattle.step_machine.specs.Item.{Item, stmts_on}
use Rattle.step_machine.specs.Frame.{Frame, pushed, popped, top, bound}
use Rattle.step_machine.specs.Effects.{Act, stops, stays}

abbrev pub has : List Item → Frame → Act
has is f = stays (record f { items = is })

-- ---- operators

abbrev pub stop_of : ArithStop → Stop
stop_of arith.Overflow = stop.Overflow
stop_of arith.ZeroDivisor = stop.ZeroDivisor
stop_of arith.Shift = stop.Shift

abbrev pub given : Result Value ArithStop → Result Datum ArithStop
given (Ok v) = Ok (datum.Number v)
given (Err why) = Err why

-- of two numbers, else of two pointers
abbrev pub two_of : BinOp → Datum → Datum → Result Datum ArithStop
two_of o (datum.Number a) (datum.Number b) = given (apply_of o a b)
two_of o a b = Ok (compared_as o (same_pointer a b))

-- a result takes the place of the operands
abbrev pub resulting : Result Datum ArithStop → Place → Frame → Frame → Act
resulting (Err why) at f below = stops (stop_of why) at
resulting (Ok v) at f below = stays (pushed v below)

abbrev pub op_one : Place → UnOp → Frame → Act
op_one at o f = resulting (given (apply_one_of o (as_number (top f)))) at f (popped f)

abbrev pub op_two : Place → BinOp → Frame → Act
op_two at o f = resulting (two_of o (top (popped f)) (top f)) at f (popped (popped f))

abbrev pub op_left : Place → BinOp → Frame → Act
op_left at o f = resulting (two_of o (top f) (top (popped f))) at f (popped (popped f))

abbrev pub cast : NumKind → Frame → Act
cast k f = stays (pushed (of_kind k (top f)) (popped f))

abbrev pub truth : Frame → Act
truth f = stays (pushed (truth_value (is_true (top f))) (popped f))

-- `&&` goes on where its left side is true, and `||` where it is false
abbrev pub goes_on : Bool → Bool → Bool
goes_on true is_left_true = is_left_true
goes_on false true = false
goes_on false false = true

abbrev pub short_by : Bool → CoreExpr → Frame → Act
short_by true b f = has (it.expr b ∷ it.truth ∷ f.items) (popped f)
short_by false b f = truth f

abbrev pub short : Bool → CoreExpr → Frame → Act
short is_and b f = short_by (goes_on is_and (is_true (top f))) b f

-- ---- values that find their place in the frame

abbrev pub drop : Frame → Act
drop f = stays (popped f)

abbrev pub bind : ℕ → ValueType → Frame → Act
bind name t f = stays (bound name (converted t (top f)) (popped f))

abbrev pub kept : Datum → Frame → Frame
kept v f = record f { kept = Some v }

abbrev pub keep : ValueType → Frame → Act
keep t f = stays (kept (converted t (top f)) (popped f))

-- ---- choices

abbrev pub branch : CoreStmts → CoreStmts → Frame → Act
branch a b f = has (stmts_on (if is_true (top f) then a else b) f.items) (popped f)

-- once more where the condition is true
abbrev pub again : List Item → Frame → Act
again is f = has (if is_true (top f) then is else f.items) (popped f)
