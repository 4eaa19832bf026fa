-- What an item does names no other members, and what it stores fits where the members are what they are said to be.
use Rattle.std.proofs.Common.{◌≡◌, ℕ, ◌+◌, Bool, true, false, if◌then◌else◌, nat_eq, nat_le, List, ◌∷◌, length, Option, Some, None, Result, Ok, Err, refl}
use Rattle.agxx_base.specs.declared.ids.ClassId.{ClassId}
use Rattle.agxx_base.specs.declared.kind.NumKind.{NumKind}
use Rattle.agxx_base.specs.declared.place.Place.{Place}
use Rattle.cxx_arith.specs.declared.value.ArithStop.{ArithStop}
use Rattle.cxx_arith.specs.Arithmetic.{apply_one_of}
use Rattle.cxx_names.specs.declared.types.ValueType.{ValueType}
use Rattle.cxx_core.specs.CoreExpr as c
use Rattle.cxx_core.specs.CoreExpr.{CoreVariable, CoreObject, CoreLeft, CoreExpr, type_of}
use Rattle.cxx_core.specs.CoreStmt as cs
use Rattle.cxx_core.specs.CoreStmt.{CoreSource, CoreStmt, CoreStmts, CoreMutex}
use Rattle.step_machine.specs.declared.datum.Datum.{Datum}
use Rattle.step_machine.specs.declared.outcome.Stop.{Stop}
use Rattle.step_machine.specs.declared.outcome.Stop.TheVariants as stop
use Rattle.step_machine.specs.Data.{as_number, is_true, bits_of}
use Rattle.step_machine.specs.Entries.{entry}
use Rattle.step_machine.specs.Setting.{Setting, word_number}
use Rattle.step_machine.specs.Item as it
use Rattle.step_machine.specs.Item.{Item, stmts_on, exprs_on, printed_on}
use Rattle.step_machine.specs.Frame.{Frame, popped, top}
use Rattle.step_machine.specs.Effects as on
use Rattle.step_machine.specs.Effects.{Lock, Act, goes, stops, waits, stays}
use Rattle.step_machine.specs.Reads.{Reads}
use Rattle.step_machine.specs.ActValues as values
use Rattle.step_machine.specs.ActMembers as members
use Rattle.step_machine.specs.ActMembers.{output_limit, object_now, is_other, read_word, read_member, put_word, put_member}
use Rattle.step_machine.specs.ActThreads as threads
use Rattle.step_machine.specs.Act as machine
use Rattle.step_machine.specs.Act.{pointer_on, drop_on}
use Rattle.machine_laws.specs.Members.{OfLeft, OfExpr, OfSource, OfInitial, OfStmt, OfStmts, OfProgram, OfItem, OfItems}
use Rattle.machine_laws.proofs.Holding.{OfAct, if-act, stmts-on, exprs-on, printed-on}
use Rattle.machine_laws.proofs.Entering.{run-kept, call-kept, build-kept, make-kept, unmake-kept, delete-kept, new-kept, spawn-kept, leave-kept, end-kept}
use Rattle.machine_laws.proofs.Entering as enter

module _ (Holds : ClassId → ℕ → NumKind → Type 0) (FitsIn : ℕ → ℕ → ℕ → Type 0) where
  abbrev Kept : Act → Type 0
  Kept = OfAct Holds FitsIn

  abbrev Items : Frame → Type 0
  Items f = OfItems Holds f.items

  -- ---- values

  resulting : (x : Result Datum ArithStop) (at : Place) (f below : Frame) → Items below → Kept (values.resulting x at f below)
  resulting (Err why) at f below h = tt
  resulting (Ok v) at f below h = (h, tt)

  short-by : (b : Bool) (e : CoreExpr) (f : Frame) → OfExpr Holds e → Items f → Kept (values.short_by b e f)
  short-by true e f q h = ((q, (tt, h)), tt)
  short-by false e f q h = (h, tt)

  if-stmts : (t : Bool) (a b : CoreStmts) → OfStmts Holds a → OfStmts Holds b → OfStmts Holds (if t then a else b)
  if-stmts true a b p q = p
  if-stmts false a b p q = q

  if-items : (t : Bool) (a b : List Item) → OfItems Holds a → OfItems Holds b → OfItems Holds (if t then a else b)
  if-items true a b p q = p
  if-items false a b p q = q

  branch : (a b : CoreStmts) (f : Frame) → OfStmts Holds a → OfStmts Holds b → Items f → Kept (values.branch a b f)
  branch a b f p q h =
      (stmts-on Holds (if is_true (top f) then a else b) f.items (if-stmts (is_true (top f)) a b p q) h, tt)

  again : (is : List Item) (f : Frame) → OfItems Holds is → Items f → Kept (values.again is f)
  again is f q h = (if-items (is_true (top f)) is f.items q h, tt)

  -- ---- output

  shows : (printed : ℕ) (at : Place) (text : List ℕ) (f : Frame) → Items f → Kept (members.shows printed at text f)
  shows printed at text f h =
      if-act Holds FitsIn (nat_le (printed + length text) output_limit) (goes f (on.change (on.print text))) (stops stop.Output at) (h, tt) tt

  -- ---- mutexes and threads

  lock-by : (t : ℕ) (at : Place) (l : Lock) (o : Option ℕ) (f : Frame) → Items f → Kept (threads.lock_by t at l o f)
  lock-by t at l None f h = (h, tt)
  lock-by t at l (Some holder) f h = if-act Holds FitsIn (nat_eq holder t) (stops stop.SelfLock at) waits tt tt

  lock-found : (holder : Lock → Option ℕ) (t : ℕ) (at : Place) (x : Result Lock Stop) (f : Frame) → Items f → Kept (threads.lock_found holder t at x f)
  lock-found holder t at (Err cause) f h = tt
  lock-found holder t at (Ok l) f h = lock-by t at l (holder l) f h

  unlock-found : (holder : Lock → Option ℕ) (t : ℕ) (at : Place) (x : Result Lock Stop) (f : Frame) → Items f → Kept (threads.unlock_found holder t at x f)
  unlock-found holder t at (Err cause) f h = tt
  unlock-found holder t at (Ok l) f h =
      if-act Holds FitsIn (threads.is_holder t (holder l)) (goes f (on.change (on.free l))) (stops stop.NotHeld at) (h, tt) tt

  join-by : (name : ℕ) (b : Bool) (f : Frame) → Items f → Kept (threads.join_by name b f)
  join-by name false f h = tt
  join-by name true f h = (h, tt)

  join-of : (has_ended : ℕ → Bool) (at : Place) (name : ℕ) (o : Option ℕ) (f : Frame) → Items f → Kept (threads.join_of has_ended at name o f)
  join-of has_ended at name None f h = tt
  join-of has_ended at name (Some other) f h = join-by name (has_ended other) f h

  -- ---- items that stand on others

  pointer-on : (o : Option CoreObject) (is : List Item) → OfItems Holds is → OfItems Holds (pointer_on o is)
  pointer-on None is h = h
  pointer-on (Some c.own) is h = h
  pointer-on (Some c.by_this) is h = h
  pointer-on (Some (c.by_object name class)) is h = h
  pointer-on (Some (c.by_pointer v)) is h = (tt, h)

  drop-on : (t : Option ValueType) (is : List Item) → OfItems Holds is → OfItems Holds (drop_on t is)
  drop-on None is h = h
  drop-on (Some t) is h = (tt, h)

  declare : (name : ℕ) (t : ValueType) (source : Option CoreSource) (f : Frame) → OfInitial Holds source → Items f → Kept (machine.declare name t source f)
  declare name t None f q h = (h, tt)
  declare name t (Some (cs.copy from u)) f q h = (h, tt)
  declare name t (Some (cs.value e)) f q h = ((q, (tt, h)), tt)

  returned : (at : Place) (t : ValueType) (source : CoreSource) (f : Frame) → OfSource Holds source → Items f → Kept (machine.returned at t source f)
  returned at t (cs.copy from u) f q h = ((tt, h), tt)
  returned at t (cs.value e) f q h = ((q, (tt, (tt, h))), tt)

module _ (Holds : ClassId → ℕ → NumKind → Type 0) (FitsIn : ℕ → ℕ → ℕ → Type 0) (s : Setting) (r : Reads) where
  -- ---- members

  -- what is stored in a member fits
  abbrev pub StoresFit : Type 0
  StoresFit = (class : ClassId) (name : ℕ) (k : NumKind) (o bits : ℕ) (v : Datum) → Holds class name k → is_other s class (r.class o) ≡ false
      → r.word o (word_number s class name) ≡ Some bits → FitsIn o (word_number s class name) (bits_of k v)

  read-word : (at : Place) (k : NumKind) (o : Option ℕ) (f : Frame) → Items Holds FitsIn f → Kept Holds FitsIn (read_word at k o f)
  read-word at k None f h = tt
  read-word at k (Some bits) f h = (h, tt)

  read-of : (at : Place) (class : ClassId) (name : ℕ) (k : NumKind) (o : Option ℕ) (f : Frame) → Items Holds FitsIn f → Kept Holds FitsIn (members.read_of s r at class name k o f)
  read-of at class name k None f h = tt
  read-of at class name k (Some o) f h =
      if-act Holds FitsIn (is_other s class (r.class o)) (stays f) (read_word at k (r.word o (word_number s class name)) f)
      (h, tt) (read-word at k (r.word o (word_number s class name)) f h)

  read : (l : CoreLeft) (f : Frame) → Items Holds FitsIn f → Kept Holds FitsIn (members.read s r l f)
  read (c.variable v) f h = (h, tt)
  read (c.member at o class name k) f h = read-of at class name k (object_now s r.variable f o) f h

  module _ (stores : StoresFit) where
    put-word : (at : Place) (class : ClassId) (name : ℕ) (k : NumKind) (o : ℕ) (f : Frame) → Holds class name k → is_other s class (r.class o) ≡ false → Items Holds FitsIn f
        → (x : Option ℕ) → r.word o (word_number s class name) ≡ x → Kept Holds FitsIn (put_word at k o (word_number s class name) x f)
    put-word at class name k o f q e h None w = tt
    put-word at class name k o f q e h (Some bits) w = (h, stores class name k o bits (top f) q e w)

    put-of : (at : Place) (class : ClassId) (name : ℕ) (k : NumKind) (o : Option ℕ) (f : Frame) → Holds class name k → Items Holds FitsIn f
        → Kept Holds FitsIn (members.put_of s r at class name k o f)
    put-of at class name k None f q h = tt
    put-of at class name k (Some o) f q h = by (is_other s class (r.class o)) refl
      where
        by : (b : Bool) → is_other s class (r.class o) ≡ b
            → Kept Holds FitsIn (if b then stays f else put_word at k o (word_number s class name) (r.word o (word_number s class name)) f)
        by true e = (h, tt)
        by false e = put-word at class name k o f q e h (r.word o (word_number s class name)) refl

    put-variable : (v : CoreVariable) (f : Frame) → Items Holds FitsIn f → Kept Holds FitsIn (members.put_variable v f)
    put-variable (c.local name t) f h = (h, tt)
    put-variable (c.global is_global name t) f h = (h, tt)

    put : (l : CoreLeft) (f : Frame) → OfLeft Holds l → Items Holds FitsIn f → Kept Holds FitsIn (members.put s r l f)
    put (c.variable v) f q h = put-variable v f h
    put (c.member at o class name k) f q h = put-of at class name k (object_now s r.variable f o) f q h

  -- ---- expressions

  expr : (e : CoreExpr) (f : Frame) → OfExpr Holds e → Items Holds FitsIn f → Kept Holds FitsIn (machine.expr s r e f)
  expr (c.number v) f q h = (h, tt)
  expr c.null f q h = (h, tt)
  expr (c.this class) f q h = (h, tt)
  expr (c.read l) f q h = read l f h
  expr (c.address name class) f q h = (h, tt)
  expr (c.unary at o t a) f q h = ((q, (tt, h)), tt)
  expr (c.binary at o t u a b) f q h = ((q.0, (q.1, (tt, h))), tt)
  expr (c.and t u a b) f q h = ((q.0, (q.1, h)), tt)
  expr (c.or t u a b) f q h = ((q.0, (q.1, h)), tt)
  expr (c.cast k t a) f q h = ((q, (tt, h)), tt)
  expr (c.call callee es) f q h =
      (pointer-on Holds FitsIn callee.object (exprs_on es (it.call callee ∷ f.items)) (exprs-on Holds es (it.call callee ∷ f.items) q (tt, h)), tt)
  expr (c.new at class es) f q h = (exprs-on Holds es (it.new at class ∷ f.items) q (tt, h), tt)
  expr (c.wrong at) f q h = (h, tt)

  -- ---- statements

  stmt : (t : ℕ) (x : CoreStmt) (f : Frame) → OfStmt Holds x → Items Holds FitsIn f → Kept Holds FitsIn (machine.stmt s r t x f)
  stmt t (cs.block body) f q h = (stmts-on Holds body f.items q h, tt)
  stmt t (cs.declare name u source) f q h = declare Holds FitsIn name u source f q h
  stmt t (cs.assign l e) f q h = ((q.1, (q.0, h)), tt)
  stmt t (cs.update at o u v l e) f q h = ((q.1, (q.0, (tt, (q.0, h)))), tt)
  stmt t (cs.run e) f q h = ((q, drop-on Holds FitsIn (type_of e) f.items h), tt)
  stmt t (cs.join at name) f q h = join-of Holds FitsIn r.has_ended at name (entry f.threads name) f h
  stmt t (cs.lock at m) f q h = lock-found Holds FitsIn r.holder t at (threads.mutex_now s r.class m f) f h
  stmt t (cs.unlock at m) f q h = unlock-found Holds FitsIn r.holder t at (threads.mutex_now s r.class m f) f h
  stmt t (cs.branch e a b) f q h = ((q.0, ((q.1, q.2), h)), tt)
  stmt t (cs.while e body) f q h = ((q.0, (q, h)), tt)
  stmt t (cs.for start e step body) f q h = (stmts-on Holds start (it.for_test e step body ∷ f.items) q.0 ((q.1, q.2, q.3), h), tt)
  stmt t (cs.return at) f q h = ((tt, h), tt)
  stmt t (cs.return_value at u source) f q h = returned Holds FitsIn at u source f q h
  stmt t (cs.delete at class e) f q h = ((q, (tt, h)), tt)
  stmt t (cs.print qs) f q h = (printed-on Holds qs f.items q h, tt)
  stmt t (cs.thread at name g called es) f q h = (exprs-on Holds es (it.spawn at name g ∷ f.items) q (tt, h), tt)
  stmt t cs.abort f q h = (h, tt)
  stmt t (cs.wrong at) f q h = (h, tt)

  -- ---- items

  pub act-kept : (program : OfProgram Holds s.program) (stores : StoresFit) (t : ℕ) (i : Item) (f : Frame) → OfItem Holds i → Items Holds FitsIn f → Kept Holds FitsIn (machine.act s r t i f)
  act-kept program stores t (it.make at o class es) f q h = make-kept Holds FitsIn s program r.depth r.class at o class es f q h
  act-kept program stores t (it.build at o class) f q h = build-kept Holds FitsIn s program r.depth r.class at o class f h
  act-kept program stores t (it.unmake at o class) f q h = unmake-kept Holds FitsIn s program r.depth r.class r.is_busy at o class f h
  act-kept program stores t it.run f q h = run-kept Holds FitsIn s program r.depth f h
  act-kept program stores t it.finish f q h = (h, tt)
  act-kept program stores t (it.stmt x) f q h = stmt t x f q h
  act-kept program stores t (it.expr e) f q h = expr e f q h
  act-kept program stores t (it.op_one at o) f q h =
      resulting Holds FitsIn (values.given (apply_one_of o (as_number (top f)))) at f (popped f) h
  act-kept program stores t (it.op_two at o) f q h =
      resulting Holds FitsIn (values.two_of o (top (popped f)) (top f)) at f (popped (popped f)) h
  act-kept program stores t (it.op_left at o) f q h =
      resulting Holds FitsIn (values.two_of o (top f) (top (popped f))) at f (popped (popped f)) h
  act-kept program stores t (it.cast k) f q h = (h, tt)
  act-kept program stores t (it.short is_and e) f q h = short-by Holds FitsIn (values.goes_on is_and (is_true (top f))) e f q h
  act-kept program stores t it.truth f q h = (h, tt)
  act-kept program stores t it.drop f q h = (h, tt)
  act-kept program stores t (it.bind name u) f q h = (h, tt)
  act-kept program stores t (it.put l) f q h = put stores l f q h
  act-kept program stores t (it.keep u) f q h = (h, tt)
  act-kept program stores t (it.print at) f q h = shows Holds FitsIn r.printed at (members.text_of (top f)) (popped f) h
  act-kept program stores t (it.show at text) f q h = shows Holds FitsIn r.printed at text f h
  act-kept program stores t (it.branch a b) f q h = branch Holds FitsIn a b f q.0 q.1 h
  act-kept program stores t (it.loop e body) f q h =
      again Holds FitsIn (stmts_on body (it.stmt (cs.while e body) ∷ f.items)) f (stmts-on Holds body (it.stmt (cs.while e body) ∷ f.items) q.1 (q, h)) h
  act-kept program stores t (it.for_test e step body) f q h = ((q.0, (q, h)), tt)
  act-kept program stores t (it.for_loop e step body) f q h =
      again Holds FitsIn (stmts_on body (stmts_on step (it.for_test e step body ∷ f.items))) f
      (stmts-on Holds body (stmts_on step (it.for_test e step body ∷ f.items)) q.2 (stmts-on Holds step (it.for_test e step body ∷ f.items) q.1 (q, h))) h
  act-kept program stores t (it.call callee) f q h = call-kept Holds FitsIn s program r.depth r.class callee f h
  act-kept program stores t (it.new at class) f q h = new-kept Holds FitsIn s program r.depth r.made at class f h
  act-kept program stores t (it.delete at class) f q h = delete-kept Holds FitsIn s program r.depth r.class r.is_busy at class f h
  act-kept program stores t (it.spawn at name g) f q h = spawn-kept Holds FitsIn s program r.started at name g f h
  act-kept program stores t (it.up at g) f q h = enter.enter-on Holds FitsIn s program r.depth at f.this (Some g) f h
  act-kept program stores t (it.down at g) f q h = enter.enter-on Holds FitsIn s program r.depth at f.this (Some g) f h
  act-kept program stores t (it.leave at) f q h = leave-kept Holds FitsIn s program at f h
  act-kept program stores t (it.end at ending) f q h = end-kept Holds FitsIn s program r.is_busy at ending f h
