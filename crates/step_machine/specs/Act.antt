-- What an item does: the frame after it and an effect, a stop, or a wait. One line an item.
use Rattle.std.specs.Prelude.{ℕ, true, false, List, ◌∷◌, Option, Some, None}
use Rattle.agxx_base.specs.declared.kind.NumKind.TheVariants as kind
use Rattle.agxx_base.specs.declared.place.Place.{Place}
use Rattle.cxx_arith.specs.Numbers.{number, convert_of}
use Rattle.cxx_names.specs.declared.types.ValueType.{ValueType}
use Rattle.cxx_core.specs.CoreExpr as c
use Rattle.cxx_core.specs.CoreExpr.{CoreExpr, CoreObject, type_of}
use Rattle.cxx_core.specs.CoreStmt as cs
use Rattle.cxx_core.specs.CoreStmt.{CoreStmt, CoreSource}
use Rattle.step_machine.specs.declared.datum.Datum.{Datum}
use Rattle.step_machine.specs.declared.datum.Datum.TheVariants as datum
use Rattle.step_machine.specs.Data.{first, as_number, to_object, from_bits_of, zero_of, converted}
use Rattle.step_machine.specs.Entries.{entry}
use Rattle.step_machine.specs.Setting.{Setting, class_of_function, global_object}
use Rattle.step_machine.specs.Item as it
use Rattle.step_machine.specs.Item.{Item, stmts_on, exprs_on, printed_on}
use Rattle.step_machine.specs.Frame.{Frame, pushed, bound}
use Rattle.step_machine.specs.Effects as on
use Rattle.step_machine.specs.Effects.{Act, goes, stays}
use Rattle.step_machine.specs.Reads.{Reads}
use Rattle.step_machine.specs.ActValues as values
use Rattle.step_machine.specs.ActValues.{has, kept, again}
use Rattle.step_machine.specs.ActMembers as members
use Rattle.step_machine.specs.ActMembers.{or_zero}
use Rattle.step_machine.specs.ActEnter as enter
use Rattle.step_machine.specs.ActCalls as calls
use Rattle.step_machine.specs.ActObjects as objects
use Rattle.step_machine.specs.ActThreads as threads

-- ---- expressions

abbrev pub this_by : Option ℕ → Datum
this_by None = datum.Null
this_by (Some o) = to_object o

-- the pointer of a call by `->`, before the arguments
abbrev pub pointer_on : Option CoreObject → List Item → List Item
pointer_on (Some (c.by_pointer v)) is = it.expr (c.read (c.variable v)) ∷ is
pointer_on _ is = is

abbrev pub expr : Setting → Reads → CoreExpr → Frame → Act
expr s r (c.number v) f = stays (pushed (datum.Number v) f)
expr s r c.null f = stays (pushed datum.Null f)
expr s r (c.this class) f = stays (pushed (this_by f.this) f)
expr s r (c.read l) f = members.read s r l f
expr s r (c.address name class) f = stays (pushed (to_object (global_object s name)) f)
expr s r (c.unary at o t a) f = has (it.expr a ∷ it.op_one at o ∷ f.items) f
expr s r (c.binary at o t u a b) f = has (it.expr a ∷ it.expr b ∷ it.op_two at o ∷ f.items) f
expr s r (c.and t u a b) f = has (it.expr a ∷ it.short true b ∷ f.items) f
expr s r (c.or t u a b) f = has (it.expr a ∷ it.short false b ∷ f.items) f
expr s r (c.cast k t a) f = has (it.expr a ∷ it.cast k ∷ f.items) f
expr s r (c.call callee es) f = has (pointer_on callee.object (exprs_on es (it.call callee ∷ f.items))) f
expr s r (c.new at class es) f = has (exprs_on es (it.new at class ∷ f.items)) f
expr s r (c.wrong at) f = stays (pushed (from_bits_of kind.I32 0) f)

-- ---- statements

abbrev pub local_now : Frame → ℕ → ValueType → Datum
local_now f name t = or_zero t (entry f.locals name)

abbrev pub declare : ℕ → ValueType → Option CoreSource → Frame → Act
declare name t None f = stays (bound name (zero_of t) f)
declare name t (Some (cs.copy from u)) f = stays (bound name (converted t (local_now f from u)) f)
declare name t (Some (cs.value e)) f = has (it.expr e ∷ it.bind name t ∷ f.items) f

abbrev pub returned : Place → ValueType → CoreSource → Frame → Act
returned at t (cs.copy from u) f = has (it.leave at ∷ f.items) (kept (converted t (local_now f from u)) f)
returned at t (cs.value e) f = has (it.expr e ∷ it.keep t ∷ it.leave at ∷ f.items) f

abbrev pub drop_on : Option ValueType → List Item → List Item
drop_on None is = is
drop_on (Some t) is = it.drop ∷ is

abbrev pub stmt : Setting → Reads → ℕ → CoreStmt → Frame → Act
stmt s r t (cs.block body) f = has (stmts_on body f.items) f
stmt s r t (cs.declare name u source) f = declare name u source f
stmt s r t (cs.assign l e) f = has (it.expr e ∷ it.put l ∷ f.items) f
stmt s r t (cs.update at o u v l e) f = has (it.expr e ∷ it.expr (c.read l) ∷ it.op_left at o ∷ it.put l ∷ f.items) f
stmt s r t (cs.run e) f = has (it.expr e ∷ drop_on (type_of e) f.items) f
stmt s r t (cs.join at name) f = threads.join r.has_ended at name f
stmt s r t (cs.lock at m) f = threads.lock s r.class r.holder t at m f
stmt s r t (cs.unlock at m) f = threads.unlock s r.class r.holder t at m f
stmt s r t (cs.branch e a b) f = has (it.expr e ∷ it.branch a b ∷ f.items) f
stmt s r t (cs.while e body) f = has (it.expr e ∷ it.loop e body ∷ f.items) f
stmt s r t (cs.for start e step body) f = has (stmts_on start (it.for_test e step body ∷ f.items)) f
stmt s r t (cs.return at) f = has (it.leave at ∷ f.items) f
stmt s r t (cs.return_value at u source) f = returned at u source f
stmt s r t (cs.delete at class e) f = has (it.expr e ∷ it.delete at class ∷ f.items) f
stmt s r t (cs.print qs) f = has (printed_on qs f.items) f
stmt s r t (cs.thread at name g called es) f = has (exprs_on es (it.spawn at name g ∷ f.items)) f
stmt s r t cs.abort f = goes f (on.halt f.this (class_of_function s f.function))
stmt s r t (cs.wrong at) f = stays f

-- ---- items

-- what an item does that was taken off a frame of thread t
abbrev pub act : Setting → Reads → ℕ → Item → Frame → Act
act s r t (it.make at o class es) f = objects.make s r.depth r.class at o class es f
act s r t (it.build at o class) f = objects.build s r.depth r.class at o class f
act s r t (it.unmake at o class) f = objects.unmake s r.depth r.class r.is_busy at o class f
act s r t it.run f = enter.run s r.depth f
act s r t it.finish f = goes f (on.end (number (convert_of kind.I32 (as_number (first f.values)))))
act s r t (it.stmt x) f = stmt s r t x f
act s r t (it.expr e) f = expr s r e f
act s r t (it.op_one at o) f = values.op_one at o f
act s r t (it.op_two at o) f = values.op_two at o f
act s r t (it.op_left at o) f = values.op_left at o f
act s r t (it.cast k) f = values.cast k f
act s r t (it.short is_and e) f = values.short is_and e f
act s r t it.truth f = values.truth f
act s r t it.drop f = values.drop f
act s r t (it.bind name u) f = values.bind name u f
act s r t (it.put l) f = members.put s r l f
act s r t (it.keep u) f = values.keep u f
act s r t (it.print at) f = members.prints r.printed at f
act s r t (it.show at text) f = members.shows r.printed at text f
act s r t (it.branch a b) f = values.branch a b f
act s r t (it.loop e body) f = again (stmts_on body (it.stmt (cs.while e body) ∷ f.items)) f
act s r t (it.for_test e step body) f = has (it.expr e ∷ it.for_loop e step body ∷ f.items) f
act s r t (it.for_loop e step body) f = again (stmts_on body (stmts_on step (it.for_test e step body ∷ f.items))) f
act s r t (it.call callee) f = calls.call s r.depth r.class callee f
act s r t (it.new at class) f = objects.new s r.depth r.made at class f
act s r t (it.delete at class) f = objects.delete s r.depth r.class r.is_busy at class f
act s r t (it.spawn at name g) f = threads.spawn s r.started at name g f
act s r t (it.up at g) f = enter.up s r.depth at g f
act s r t (it.down at g) f = enter.down s r.depth at g f
act s r t (it.leave at) f = calls.leave at f
act s r t (it.end at ending) f = calls.end r.is_busy at ending f
