-- Items that read or write variables, members and the output.
use Rattle.std.specs.Prelude.{ℕ, ◌+◌, nat_le, Bool, false, not, List, length, Option, Some, None, if◌then◌else◌}
use Rattle.std.specs.Fmt.{signed_decimal}
pub use Rattle.agxx_base.specs.Sizes.{output_limit}
use Rattle.agxx_base.specs.declared.ids.ClassId.{ClassId}
use Rattle.agxx_base.specs.declared.kind.NumKind.{NumKind}
use Rattle.agxx_base.specs.declared.place.Place.{Place}
use Rattle.cxx_arith.specs.Numbers.{number}
use Rattle.cxx_names.specs.declared.types.ValueType.{ValueType}
use Rattle.cxx_core.specs.CoreExpr as c
use Rattle.cxx_core.specs.CoreExpr.{CoreVariable, CoreObject, CoreLeft, variable_type}
use Rattle.step_machine.specs.declared.datum.Datum.{Datum}
use Rattle.step_machine.specs.declared.outcome.Stop.TheVariants as stop
use Rattle.step_machine.specs.Data.{as_number, object_of, converted, bits_of, from_bits_of, zero_of}
use Rattle.step_machine.specs.Entries.{entry}
use Rattle.step_machine.specs.Setting.{Setting, word_number, global_object, is_of}
use Rattle.step_machine.specs.Frame.{Frame, pushed, popped, top, bound}
use Rattle.step_machine.specs.Effects as on
use Rattle.step_machine.specs.Effects.{Act, goes, stops, stays}
use Rattle.step_machine.specs.Reads.{Reads}

-- ---- variables

abbrev pub or_zero : ValueType → Option Datum → Datum
or_zero t None = zero_of t
or_zero t (Some v) = v

abbrev pub variable_now : (ℕ → Datum) → Frame → CoreVariable → Datum
variable_now variable f (c.local name t) = or_zero t (entry f.locals name)
variable_now variable f (c.global is_global name t) = variable name

abbrev pub put_variable : CoreVariable → Frame → Act
put_variable (c.local name t) f = stays (bound name (converted t (top f)) (popped f))
put_variable (c.global is_global name t) f = goes (popped f) (on.change (on.assign name (converted t (top f))))

-- ---- objects and members

-- the object that is meant; none where its pointer is null
abbrev pub object_now : Setting → (ℕ → Datum) → Frame → CoreObject → Option ℕ
object_now s variable f c.own = f.this
object_now s variable f c.by_this = f.this
object_now s variable f (c.by_object name class) = Some (global_object s name)
object_now s variable f (c.by_pointer v) = object_of (variable_now variable f v)

-- the class of an object that is meant, while it is live
abbrev pub class_now : (ℕ → Option ClassId) → Option ℕ → Option ClassId
class_now class None = None
class_now class (Some o) = class o

-- whether a live object has no members of a class, which no accepted program comes to
abbrev pub is_other : Setting → ClassId → Option ClassId → Bool
is_other s class None = false
is_other s class (Some live) = not (is_of s (Some live) (Some class))

abbrev pub read_word : Place → NumKind → Option ℕ → Frame → Act
read_word at k None f = stops stop.Dead at
read_word at k (Some bits) f = stays (pushed (from_bits_of k bits) f)

abbrev pub read_member : (ℕ → ℕ → Option ℕ) → Place → NumKind → ℕ → Option ℕ → Frame → Act
read_member word at k w None f = stops stop.Null at
read_member word at k w (Some o) f = read_word at k (word o w) f

abbrev pub put_word : Place → NumKind → ℕ → ℕ → Option ℕ → Frame → Act
put_word at k o w None f = stops stop.Dead at
put_word at k o w (Some bits) f = goes (popped f) (on.change (on.store o w (bits_of k (top f))))

abbrev pub put_member : (ℕ → ℕ → Option ℕ) → Place → NumKind → ℕ → Option ℕ → Frame → Act
put_member word at k w None f = stops stop.Null at
put_member word at k w (Some o) f = put_word at k o w (word o w) f

module _ (s : Setting) (r : Reads) where
  -- of an object that is meant
  abbrev pub read_of : Place → ClassId → ℕ → NumKind → Option ℕ → Frame → Act
  read_of at class name k o f =
      if is_other s class (class_now r.class o) then stays f else read_member r.word at k (word_number s class name) o f

  abbrev pub put_of : Place → ClassId → ℕ → NumKind → Option ℕ → Frame → Act
  put_of at class name k o f =
      if is_other s class (class_now r.class o) then stays f else put_member r.word at k (word_number s class name) o f

  abbrev pub read : CoreLeft → Frame → Act
  read (c.variable v) f = stays (pushed (variable_now r.variable f v) f)
  read (c.member at o class name k) f = read_of at class name k (object_now s r.variable f o) f

  abbrev pub put : CoreLeft → Frame → Act
  put (c.variable v) f = put_variable v f
  put (c.member at o class name k) f = put_of at class name k (object_now s r.variable f o) f

-- ---- output

abbrev pub shows : ℕ → Place → List ℕ → Frame → Act
shows printed at text f =
    if nat_le (printed + length text) output_limit then goes f (on.change (on.print text)) else stops stop.Output at

-- a number in decimal, and `bool` as 0 or 1
abbrev pub text_of : Datum → List ℕ
text_of v = signed_decimal (number (as_number v))

abbrev pub prints : ℕ → Place → Frame → Act
prints printed at f = shows printed at (text_of (top f)) (popped f)
