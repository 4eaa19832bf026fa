-- An item of code without `std::abort();` doesn't halt, and brings none into a frame.
use Rattle.std.proofs.Common.{ℕ, ◌+◌, Bool, true, false, if◌then◌else◌, nat_eq, nat_le, List, ◌∷◌, length, Option, Some, None, Result, Ok, Err}
use Rattle.agxx_base.specs.declared.ids.ClassId.{ClassId}
use Rattle.agxx_base.specs.declared.kind.NumKind.{NumKind}
use Rattle.agxx_base.specs.declared.place.Place.{Place}
use Rattle.cxx_arith.specs.declared.value.ArithStop.{ArithStop}
use Rattle.cxx_arith.specs.Arithmetic.{apply_one_of}
use Rattle.cxx_names.specs.declared.types.ValueType.{ValueType}
use Rattle.cxx_core.specs.CoreExpr as c
use Rattle.cxx_core.specs.CoreExpr.{CoreVariable, CoreObject, CoreLeft, CoreExpr, type_of}
use Rattle.cxx_core.specs.CoreStmt as cs
use Rattle.cxx_core.specs.CoreStmt.{CoreSource, CoreStmt, CoreStmts}
use Rattle.step_machine.specs.declared.datum.Datum.{Datum}
use Rattle.step_machine.specs.declared.outcome.Stop.{Stop}
use Rattle.step_machine.specs.declared.outcome.Stop.TheVariants as stop
use Rattle.step_machine.specs.Data.{as_number, is_true}
use Rattle.step_machine.specs.Entries.{entry}
use Rattle.step_machine.specs.Setting.{Setting, word_number}
use Rattle.step_machine.specs.Item as it
use Rattle.step_machine.specs.Item.{Item, stmts_on, exprs_on}
use Rattle.step_machine.specs.Frame.{Frame, popped, top}
use Rattle.step_machine.specs.Effects as on
use Rattle.step_machine.specs.Effects.{Lock, goes, stops, waits, stays}
use Rattle.step_machine.specs.Reads.{Reads}
use Rattle.step_machine.specs.ActValues as values
use Rattle.step_machine.specs.ActMembers as members
use Rattle.step_machine.specs.ActMembers.{output_limit, object_now, is_other, read_word, put_word}
use Rattle.step_machine.specs.ActThreads as threads
use Rattle.step_machine.specs.Act as machine
use Rattle.step_machine.specs.Act.{pointer_on, drop_on}
use Rattle.run_laws.specs.HaltFree.{AreHaltFree, IsHaltFree, HasNoAbort}
use Rattle.run_laws.proofs.Frames.{IsFree, AreFree, FreeAct, if-act, stmts-on, exprs-on, printed-on}
use Rattle.run_laws.proofs.Entering.{run-free, call-free, build-free, make-free, unmake-free, delete-free, new-free, spawn-free, leave-free, end-free}
use Rattle.run_laws.proofs.Entering as enter

-- ---- values

abbrev Items : Frame → Type 0
Items f = AreFree f.items

resulting : (x : Result Datum ArithStop) (at : Place) (f below : Frame) → Items below → FreeAct (values.resulting x at f below)
resulting (Err why) at f below h = tt
resulting (Ok v) at f below h = (h, tt)

short-by : (b : Bool) (e : CoreExpr) (f : Frame) → Items f → FreeAct (values.short_by b e f)
short-by true e f h = ((tt, (tt, h)), tt)
short-by false e f h = (h, tt)

if-stmts : (t : Bool) (a b : CoreStmts) → AreHaltFree a → AreHaltFree b → AreHaltFree (if t then a else b)
if-stmts true a b p q = p
if-stmts false a b p q = q

if-items : (t : Bool) (a b : List Item) → AreFree a → AreFree b → AreFree (if t then a else b)
if-items true a b p q = p
if-items false a b p q = q

branch : (a b : CoreStmts) (f : Frame) → AreHaltFree a → AreHaltFree b → Items f → FreeAct (values.branch a b f)
branch a b f p q h =
    (stmts-on (if is_true (top f) then a else b) f.items (if-stmts (is_true (top f)) a b p q) h, tt)

again : (is : List Item) (f : Frame) → AreFree is → Items f → FreeAct (values.again is f)
again is f q h = (if-items (is_true (top f)) is f.items q h, tt)

-- ---- output

shows : (printed : ℕ) (at : Place) (text : List ℕ) (f : Frame) → Items f → FreeAct (members.shows printed at text f)
shows printed at text f h =
    if-act (nat_le (printed + length text) output_limit) (goes f (on.change (on.print text))) (stops stop.Output at) (h, tt) tt

-- ---- mutexes and threads

lock-by : (t : ℕ) (at : Place) (l : Lock) (o : Option ℕ) (f : Frame) → Items f → FreeAct (threads.lock_by t at l o f)
lock-by t at l None f h = (h, tt)
lock-by t at l (Some holder) f h = if-act (nat_eq holder t) (stops stop.SelfLock at) waits tt tt

lock-found : (holder : Lock → Option ℕ) (t : ℕ) (at : Place) (x : Result Lock Stop) (f : Frame) → Items f → FreeAct (threads.lock_found holder t at x f)
lock-found holder t at (Err cause) f h = tt
lock-found holder t at (Ok l) f h = lock-by t at l (holder l) f h

unlock-found : (holder : Lock → Option ℕ) (t : ℕ) (at : Place) (x : Result Lock Stop) (f : Frame) → Items f → FreeAct (threads.unlock_found holder t at x f)
unlock-found holder t at (Err cause) f h = tt
unlock-found holder t at (Ok l) f h =
    if-act (threads.is_holder t (holder l)) (goes f (on.change (on.free l))) (stops stop.NotHeld at) (h, tt) tt

join-by : (name : ℕ) (b : Bool) (f : Frame) → Items f → FreeAct (threads.join_by name b f)
join-by name false f h = tt
join-by name true f h = (h, tt)

join-of : (has_ended : ℕ → Bool) (at : Place) (name : ℕ) (o : Option ℕ) (f : Frame) → Items f → FreeAct (threads.join_of has_ended at name o f)
join-of has_ended at name None f h = tt
join-of has_ended at name (Some other) f h = join-by name (has_ended other) f h

-- ---- items that stand on others

pointer-on : (o : Option CoreObject) (is : List Item) → AreFree is → AreFree (pointer_on o is)
pointer-on None is h = h
pointer-on (Some c.own) is h = h
pointer-on (Some c.by_this) is h = h
pointer-on (Some (c.by_object name class)) is h = h
pointer-on (Some (c.by_pointer v)) is h = (tt, h)

drop-on : (t : Option ValueType) (is : List Item) → AreFree is → AreFree (drop_on t is)
drop-on None is h = h
drop-on (Some t) is h = (tt, h)

declare : (name : ℕ) (t : ValueType) (source : Option CoreSource) (f : Frame) → Items f → FreeAct (machine.declare name t source f)
declare name t None f h = (h, tt)
declare name t (Some (cs.copy from u)) f h = (h, tt)
declare name t (Some (cs.value e)) f h = ((tt, (tt, h)), tt)

returned : (at : Place) (t : ValueType) (source : CoreSource) (f : Frame) → Items f → FreeAct (machine.returned at t source f)
returned at t (cs.copy from u) f h = ((tt, h), tt)
returned at t (cs.value e) f h = ((tt, (tt, (tt, h))), tt)

module _ (s : Setting) (r : Reads) where
  -- ---- members

  read-word : (at : Place) (k : NumKind) (o : Option ℕ) (f : Frame) → Items f → FreeAct (read_word at k o f)
  read-word at k None f h = tt
  read-word at k (Some bits) f h = (h, tt)

  read-of : (at : Place) (class : ClassId) (name : ℕ) (k : NumKind) (o : Option ℕ) (f : Frame) → Items f → FreeAct (members.read_of s r at class name k o f)
  read-of at class name k None f h = tt
  read-of at class name k (Some o) f h =
      if-act (is_other s class (r.class o)) (stays f) (read_word at k (r.word o (word_number s class name)) f)
      (h, tt) (read-word at k (r.word o (word_number s class name)) f h)

  read : (l : CoreLeft) (f : Frame) → Items f → FreeAct (members.read s r l f)
  read (c.variable v) f h = (h, tt)
  read (c.member at o class name k) f h = read-of at class name k (object_now s r.variable f o) f h

  put-word : (at : Place) (k : NumKind) (o w : ℕ) (x : Option ℕ) (f : Frame) → Items f → FreeAct (put_word at k o w x f)
  put-word at k o w None f h = tt
  put-word at k o w (Some bits) f h = (h, tt)

  put-of : (at : Place) (class : ClassId) (name : ℕ) (k : NumKind) (o : Option ℕ) (f : Frame) → Items f → FreeAct (members.put_of s r at class name k o f)
  put-of at class name k None f h = tt
  put-of at class name k (Some o) f h =
      if-act (is_other s class (r.class o)) (stays f) (put_word at k o (word_number s class name) (r.word o (word_number s class name)) f)
      (h, tt) (put-word at k o (word_number s class name) (r.word o (word_number s class name)) f h)

  put-variable : (v : CoreVariable) (f : Frame) → Items f → FreeAct (members.put_variable v f)
  put-variable (c.local name t) f h = (h, tt)
  put-variable (c.global is_global name t) f h = (h, tt)

  put : (l : CoreLeft) (f : Frame) → Items f → FreeAct (members.put s r l f)
  put (c.variable v) f h = put-variable v f h
  put (c.member at o class name k) f h = put-of at class name k (object_now s r.variable f o) f h

  -- ---- expressions

  expr : (e : CoreExpr) (f : Frame) → Items f → FreeAct (machine.expr s r e f)
  expr (c.number v) f h = (h, tt)
  expr c.null f h = (h, tt)
  expr (c.this class) f h = (h, tt)
  expr (c.read l) f h = read l f h
  expr (c.address name class) f h = (h, tt)
  expr (c.unary at o t a) f h = ((tt, (tt, h)), tt)
  expr (c.binary at o t u a b) f h = ((tt, (tt, (tt, h))), tt)
  expr (c.and t u a b) f h = ((tt, (tt, h)), tt)
  expr (c.or t u a b) f h = ((tt, (tt, h)), tt)
  expr (c.cast k t a) f h = ((tt, (tt, h)), tt)
  expr (c.call callee es) f h =
      (pointer-on callee.object (exprs_on es (it.call callee ∷ f.items)) (exprs-on es (it.call callee ∷ f.items) (tt, h)), tt)
  expr (c.new at class es) f h = (exprs-on es (it.new at class ∷ f.items) (tt, h), tt)
  expr (c.wrong at) f h = (h, tt)

  -- ---- statements

  stmt : (t : ℕ) (x : CoreStmt) (f : Frame) → IsHaltFree x → Items f → FreeAct (machine.stmt s r t x f)
  stmt t (cs.block body) f q h = (stmts-on body f.items q h, tt)
  stmt t (cs.declare name u source) f q h = declare name u source f h
  stmt t (cs.assign l e) f q h = ((tt, (tt, h)), tt)
  stmt t (cs.update at o u v l e) f q h = ((tt, (tt, (tt, (tt, h)))), tt)
  stmt t (cs.run e) f q h = ((tt, drop-on (type_of e) f.items h), tt)
  stmt t (cs.join at name) f q h = join-of r.has_ended at name (entry f.threads name) f h
  stmt t (cs.lock at m) f q h = lock-found r.holder t at (threads.mutex_now s r.class m f) f h
  stmt t (cs.unlock at m) f q h = unlock-found r.holder t at (threads.mutex_now s r.class m f) f h
  stmt t (cs.branch e a b) f q h = ((tt, (q, h)), tt)
  stmt t (cs.while e body) f q h = ((tt, (q, h)), tt)
  stmt t (cs.for start e step body) f q h = (stmts-on start (it.for_test e step body ∷ f.items) q.0 ((q.1, q.2), h), tt)
  stmt t (cs.return at) f q h = ((tt, h), tt)
  stmt t (cs.return_value at u source) f q h = returned at u source f h
  stmt t (cs.delete at class e) f q h = ((tt, (tt, h)), tt)
  stmt t (cs.print qs) f q h = (printed-on qs f.items h, tt)
  stmt t (cs.thread at name g called es) f q h = (exprs-on es (it.spawn at name g ∷ f.items) (tt, h), tt)
  stmt t cs.abort f q h = absurd q
  stmt t (cs.wrong at) f q h = (h, tt)

  -- ---- items

  pub act-free : (program : HasNoAbort s.program) (t : ℕ) (i : Item) (f : Frame) → IsFree i → Items f → FreeAct (machine.act s r t i f)
  act-free program t (it.make at o class es) f q h = make-free s program r.depth r.class at o class es f h
  act-free program t (it.build at o class) f q h = build-free s program r.depth r.class at o class f h
  act-free program t (it.unmake at o class) f q h = unmake-free s program r.depth r.class r.is_busy at o class f h
  act-free program t it.run f q h = run-free s program r.depth f h
  act-free program t it.finish f q h = (h, tt)
  act-free program t (it.stmt x) f q h = stmt t x f q h
  act-free program t (it.expr e) f q h = expr e f h
  act-free program t (it.op_one at o) f q h =
      resulting (values.given (apply_one_of o (as_number (top f)))) at f (popped f) h
  act-free program t (it.op_two at o) f q h =
      resulting (values.two_of o (top (popped f)) (top f)) at f (popped (popped f)) h
  act-free program t (it.op_left at o) f q h =
      resulting (values.two_of o (top f) (top (popped f))) at f (popped (popped f)) h
  act-free program t (it.cast k) f q h = (h, tt)
  act-free program t (it.short is_and e) f q h = short-by (values.goes_on is_and (is_true (top f))) e f h
  act-free program t it.truth f q h = (h, tt)
  act-free program t it.drop f q h = (h, tt)
  act-free program t (it.bind name u) f q h = (h, tt)
  act-free program t (it.put l) f q h = put l f h
  act-free program t (it.keep u) f q h = (h, tt)
  act-free program t (it.print at) f q h = shows r.printed at (members.text_of (top f)) (popped f) h
  act-free program t (it.show at text) f q h = shows r.printed at text f h
  act-free program t (it.branch a b) f q h = branch a b f q.0 q.1 h
  act-free program t (it.loop e body) f q h =
      again (stmts_on body (it.stmt (cs.while e body) ∷ f.items)) f (stmts-on body (it.stmt (cs.while e body) ∷ f.items) q (q, h)) h
  act-free program t (it.for_test e step body) f q h = ((tt, (q, h)), tt)
  act-free program t (it.for_loop e step body) f q h =
      again (stmts_on body (stmts_on step (it.for_test e step body ∷ f.items))) f
      (stmts-on body (stmts_on step (it.for_test e step body ∷ f.items)) q.1 (stmts-on step (it.for_test e step body ∷ f.items) q.0 (q, h))) h
  act-free program t (it.call callee) f q h = call-free s program r.depth r.class callee f h
  act-free program t (it.new at class) f q h = new-free s program r.depth r.made at class f h
  act-free program t (it.delete at class) f q h = delete-free s program r.depth r.class r.is_busy at class f h
  act-free program t (it.spawn at name g) f q h = spawn-free s program r.started at name g f h
  act-free program t (it.up at g) f q h = enter.enter-on s program r.depth at f.this (Some g) f h
  act-free program t (it.down at g) f q h = enter.enter-on s program r.depth at f.this (Some g) f h
  act-free program t (it.leave at) f q h = leave-free s program at f h
  act-free program t (it.end at ending) f q h = end-free s program r.is_busy at ending f h
