-- The core form of a tree of the grammar of sources has no `std::abort();`.
use Rattle.std.proofs.Common.{◌≡◌, ℕ, zero, suc, Bool, true, false, if◌then◌else◌, List, [], ◌∷◌, Option, Some, None, is_some, slice_get, codes, subst}
use Rattle.std.proofs.lemmas.Option.{none-some, same_Some}
use Rattle.agxx_base.specs.declared.ids.NameId.{NameId}
use Rattle.agxx_base.specs.declared.place.Place.{Place}
use Rattle.cxx_tree.specs.declared.node.Placed.{Placed}
use Rattle.cxx_tree.specs.declared.operator.BinOp.{BinOp}
use Rattle.cxx_tree.specs.declared.expr.Base.{Base}
use Rattle.cxx_tree.specs.declared.expr.Base.TheVariants as base_of
use Rattle.cxx_tree.specs.declared.expr.Callee.{Callee}
use Rattle.cxx_tree.specs.declared.expr.Callee.TheVariants as callee_of
use Rattle.cxx_tree.specs.declared.expr.Left.{Left}
use Rattle.cxx_tree.specs.declared.expr.Ref.{Ref}
use Rattle.cxx_tree.specs.Places.{left_node}
use Rattle.cxx_tree.specs.Limits.{Limits, Every, written}
use Rattle.cxx_tree.specs.Fits as f
use Rattle.cxx_tree.specs.ExprTree as e
use Rattle.cxx_tree.specs.StmtTree as s
use Rattle.cxx_tree.specs.ProgramTree as p
use Rattle.cxx_names.specs.declared.declarations.Signature.{Signature}
use Rattle.cxx_names.specs.declared.types.ValueType.{ValueType}
use Rattle.cxx_names.specs.declared.types.ValueType.TheVariants as type
use Rattle.cxx_names.specs.declared.types.Thing.{Thing}
use Rattle.cxx_names.specs.declared.types.Thing.TheVariants as thing
use Rattle.cxx_names.specs.declared.types.Variable.{Variable}
use Rattle.cxx_names.specs.declared.types.Variable.TheVariants as variable_of
use Rattle.cxx_names.specs.Declarations.{is_text, declared}
use Rattle.cxx_names.specs.LookUp.{free_signature, thing_of}
use Rattle.cxx_core.specs.CoreExpr.{CoreLeft, CoreExpr, CoreExprs, binary_type, left_type, type_of}
use Rattle.cxx_core.specs.CoreStmt as cs
use Rattle.cxx_core.specs.CoreStmt.{CoreSource, CoreStmt, CoreStmts, CoreMutex}
use Rattle.cxx_core.specs.CoreProgram.{CoreFunction}
use Rattle.cxx_core.specs.Meanings.{Scope, Within, type_named, variable_at, left_at, thread_stmt, mutex_stmt, on_variable, on_base, on_callee}
use Rattle.cxx_core.specs.ElaboratedExpr as x
use Rattle.cxx_core.specs.ElaboratedStmt as k
use Rattle.cxx_core.specs.ElaboratedProgram as prog
use Rattle.cxx_core.specs.ElaboratedProgram.{params_scope, core_program}
use Rattle.run_laws.specs.HaltFree.{Nothing, IsHaltFree, AreHaltFree, HasNoAbort}

-- ---- parts of statements

if-stmt : (b : Bool) (a z : CoreStmt) → IsHaltFree a → IsHaltFree z → IsHaltFree (if b then a else z)
if-stmt true a z p q = p
if-stmt false a z p q = q

declare-as : (at : Place) (name : ℕ) (t : Thing) (source : Option CoreSource) → IsHaltFree (k.declare_as at name t source)
declare-as at name (thing.Value t) source = tt
declare-as at name _ source = tt

assign-as : (at : Place) (l : Option CoreLeft) (a : CoreExpr) → IsHaltFree (k.assign_as at l a)
assign-as at None a = tt
assign-as at (Some l) a = tt

update-by : (at : Place) (o : BinOp) (u : ValueType) (t : Option ValueType) (l : CoreLeft) (a : CoreExpr) → IsHaltFree (k.update_by at o u t l a)
update-by at o u None l a = tt
update-by at o u (Some t) l a = if-stmt (is_some (binary_type o u t)) (cs.update at o u t l a) (cs.wrong at) tt tt

update-as : (at : Place) (o : BinOp) (l : Option CoreLeft) (a : CoreExpr) → IsHaltFree (k.update_as at o l a)
update-as at o None a = tt
update-as at o (Some l) a = update-by at o (left_type l) (type_of a) l a

delete-by : (at : Place) (t : Option ValueType) (a : CoreExpr) → IsHaltFree (k.delete_by at t a)
delete-by at (Some (type.Pointer class)) a = tt
delete-by at _ a = tt

return-as : (at : Place) (t : Option ValueType) (source : CoreSource) → IsHaltFree (k.return_as at t source)
return-as at None source = tt
return-as at (Some t) source = tt

thread-as : (at : Place) (name function : ℕ) (g : Option Signature) (es : CoreExprs) → IsHaltFree (k.thread_as at name function g es)
thread-as at name function None es = tt
thread-as at name function (Some g) es = tt

module _ (w : Within) where
  -- ---- statements without statements in them

  local : (scope : Scope) (l : s.LocalTree) → IsHaltFree (k.core_local w scope l)
  local scope l = declare-as l.type_name.at l.name.item.0 (thing_of w.declared l.type_name.item) (k.core_initial w scope l.initial)

  assigned : (scope : Scope) (l : Left) (at : Place) (o : Option BinOp) (a : CoreExpr) → IsHaltFree (k.assigned w scope l at o a)
  assigned scope l at None a = assign-as (left_node l).at (left_at w scope l) a
  assigned scope l at (Some o) a = update-as at o (left_at w scope l) a

  thread-stmt : (at : Place) (name word : ℕ) → IsHaltFree (thread_stmt w at name word)
  thread-stmt at name word = if-stmt (is_text w.names word (codes "join")) (cs.join at name) (cs.wrong at) tt tt

  mutex-stmt : (at : Place) (m : CoreMutex) (word : ℕ) → IsHaltFree (mutex_stmt w at m word)
  mutex-stmt at m word =
      if-stmt (is_text w.names word (codes "lock")) (cs.lock at m) (if is_text w.names word (codes "unlock") then cs.unlock at m else cs.wrong at)
      tt (if-stmt (is_text w.names word (codes "unlock")) (cs.unlock at m) (cs.wrong at) tt tt)

  on-variable : (at : Place) (r : Ref) (word : ℕ) (v : Option Variable) (y : CoreStmt) → IsHaltFree y → IsHaltFree (on_variable w at r word v y)
  on-variable at r word (Some (variable_of.Local thing.Thread)) y h = thread-stmt at r.name.item.0 word
  on-variable at r word (Some (variable_of.Member class access thing.Mutex)) y h = mutex-stmt at (cs.member_mutex class r.name.item.0) word
  on-variable at r word (Some (variable_of.Global thing.Mutex)) y h = mutex-stmt at (cs.global_mutex r.name.item.0) word
  on-variable at r word _ y h = h

  on-base : (scope : Scope) (at : Place) (b : Base) (word : ℕ) (y : CoreStmt) → IsHaltFree y → IsHaltFree (on_base w scope at b word y)
  on-base scope at base_of.This word y h = h
  on-base scope at (base_of.Dot r) word y h = on-variable at r word (variable_at w scope r) y h
  on-base scope at (base_of.Arrow r) word y h = h

  on-callee : (scope : Scope) (at : Place) (callee : Callee) (y : CoreStmt) → IsHaltFree y → IsHaltFree (on_callee w scope at callee y)
  on-callee scope at (callee_of.Bare r) y h = h
  on-callee scope at (callee_of.Member q) y h = on-base scope at q.base q.name.item.0 y h

  call-stmt : (scope : Scope) (y : e.CallTree) → IsHaltFree (k.core_call_stmt w scope y)
  call-stmt scope (e.calls n callee arguments) = on-callee scope n.at callee (cs.run (x.core_call w scope (e.calls n callee arguments))) tt

  simple : (scope : Scope) (i : s.SimpleTree) → IsHaltFree (k.core_simple w scope i)
  simple scope (s.assign a) = assigned scope a.left a.sign.at a.sign.item (x.core_expr w scope a.value)
  simple scope (s.bump b) = update-as b.sign (k.bump_operator b.adds) (left_at w scope b.left) k.one
  simple scope (s.call_stmt y) = call-stmt scope y
  simple scope (s.proceed at) = tt

  start : (scope : Scope) (i : Option s.StartTree) → AreHaltFree (k.core_start w scope i)
  start scope None = tt
  start scope (Some (s.start_local l)) = (local scope l, tt)
  start scope (Some (s.start_simple i)) = (simple scope i, tt)

  step : (scope : Scope) (i : Option s.SimpleTree) → AreHaltFree (k.core_step w scope i)
  step scope None = tt
  step scope (Some i) = (simple scope i, tt)

  return : (scope : Scope) (at : Place) (value : Option e.ExprTree) → IsHaltFree (k.core_return w scope at value)
  return scope at None = tt
  return scope at (Some value) = return-as at w.result (k.core_source w scope value)

  thread-of : (scope : Scope) (y : s.ThreadTree) → IsHaltFree (k.core_thread w scope y)
  thread-of scope y =
      thread-as y.at y.name.item.0 y.function.name.item.0 (free_signature w.declared y.function.name.item.0) (x.core_exprs w scope y.arguments)

  -- ---- statements

  module _ (most : ℕ) where
    mutual
      stmt : (depth : ℕ) (scope : Scope) (t : s.StmtTree) → f.FitsStmt written most depth t → IsHaltFree (k.core_stmt w scope t)
      stmt depth scope (s.block b) h = block depth scope b h
      stmt depth scope (s.local l) h = local scope l
      stmt depth scope (s.simple i) h = simple scope i
      stmt depth scope (s.branch i) h = branch depth scope i h
      stmt depth scope (s.while at test body) h = block depth scope body h.1
      stmt depth scope (s.for at first test after body) h =
          (start scope first, step (k.scope_in_for w scope first) after, block depth (k.scope_in_for w scope first) body h.1)
      stmt depth scope (s.return at value) h = return scope at value
      stmt depth scope (s.delete at pointer) h = delete-by at (type_of (x.core_expr w scope pointer)) (x.core_expr w scope pointer)
      stmt depth scope (s.print q) h = tt
      stmt depth scope (s.thread y) h = thread-of scope y
      stmt depth scope (s.abort at) h = absurd h.0

      stmts : (depth : ℕ) (scope : Scope) (ts : s.StmtTrees) → f.FitsStmts written most depth ts → AreHaltFree (k.core_stmts w scope ts)
      stmts depth scope s.no_stmts h = tt
      stmts depth scope (s.more_stmts first rest) h = (stmt depth scope first h.0, stmts depth (k.scope_after w scope first) rest h.1)

      block : (depth : ℕ) (scope : Scope) (b : s.BlockTree) → f.FitsBlock written most depth b → AreHaltFree (k.core_block w scope b)
      block depth scope (s.braces at ts) h = stmts h.0 scope ts h.2

      branch : (depth : ℕ) (scope : Scope) (i : s.IfTree) → f.FitsIf written most depth i → IsHaltFree (k.core_if w scope i)
      branch depth scope (s.chooses at test body otherwise) h = (block depth scope body h.1, other depth scope otherwise h.2)

      other : (depth : ℕ) (scope : Scope) (i : s.ElseTree) → f.FitsElse written most depth i → AreHaltFree (k.core_else w scope i)
      other depth scope s.no_else h = tt
      other depth scope (s.else_if i) h = (branch h.0 scope i h.2, tt)
      other depth scope (s.else_block b) h = block depth scope b h

-- ---- lists of functions

abbrev FreeFunctions : List CoreFunction → Type 0
FreeFunctions [] = Nothing
FreeFunctions (g ∷ gs) = AreHaltFree g.body × FreeFunctions gs

numbered : (n : ℕ) (gs : List CoreFunction) → FreeFunctions gs → FreeFunctions (prog.numbered_from n gs)
numbered n [] h = tt
numbered n (g ∷ gs) h = (h.0, numbered (suc n) gs h.1)

at-number : (gs : List CoreFunction) → FreeFunctions gs → (i : ℕ) (g : CoreFunction) → slice_get gs i ≡ Some g → AreHaltFree g.body
at-number [] h i g q = absurd (none-some g q)
at-number (y ∷ gs) h zero g q = subst (λ (z : CoreFunction). AreHaltFree z.body) (same_Some y g q) h.0
at-number (y ∷ gs) h (suc i) g q = at-number gs h.1 i g q

if-stmts : (b : Bool) (a z : CoreStmts) → AreHaltFree a → AreHaltFree z → AreHaltFree (if b then a else z)
if-stmts true a z p q = p
if-stmts false a z p q = q

others-wrong : (base : Option (Placed NameId)) (is : List p.InitTree) (body : CoreStmts) → AreHaltFree body → AreHaltFree (prog.others_wrong base is body)
others-wrong base [] body h = h
others-wrong base (i ∷ is) body h =
    let rest = others-wrong base is body h in
    if-stmts (prog.is_named base i.name.item) (prog.others_wrong base is body) (cs.more_stmts (cs.wrong i.name.at) (prog.others_wrong base is body)) rest (tt, rest)

module _ (most : ℕ) where
  function : (w : Within) (depth : ℕ) (g : p.FunctionTree) → f.FitsFunction written most depth g → AreHaltFree (prog.core_function w g).body
  function w depth g h =
      block (record w { result = type_named w.declared g.result.item }) most depth (params_scope w.declared g.params) g.body h.2

  items : (w : Within) (depth : ℕ) (base : Option (Placed NameId)) (is : List p.ItemTree) (rest : List CoreFunction) → Every (f.FitsItem written most depth) is → FreeFunctions rest
      → FreeFunctions (prog.items_functions w base is rest)
  items w depth base [] rest h r = r
  items w depth base (p.label at access ∷ is) rest h r = items w depth base is rest h.1 r
  items w depth base (p.member m ∷ is) rest h r = items w depth base is rest h.1 r
  items w depth base (p.function g ∷ is) rest h r = (function w depth g h.0, items w depth base is rest h.1 r)
  items w depth base (p.ctor g ∷ is) rest h r =
      (others-wrong base g.inits (k.core_block w (params_scope w.declared g.params) g.body) (block w most depth (params_scope w.declared g.params) g.body h.0.2), items w depth base is rest h.1 r)
  items w depth base (p.dtor g ∷ is) rest h r = (block w most depth [] g.body h.0.1, items w depth base is rest h.1 r)

  functions : (w : Within) (depth n : ℕ) (ds : List p.DeclTree) → Every (f.FitsDecl written most depth) ds → FreeFunctions (prog.decls_functions w n ds)
  functions w depth n [] h = tt
  functions w depth n (p.class c ∷ ds) h =
      items (prog.in_class w n) h.0.0 c.base c.items (prog.decls_functions w (suc n) ds) h.0.2 (functions w depth (suc n) ds h.1)
  functions w depth n (p.class_name c ∷ ds) h = functions w depth n ds h.1
  functions w depth n (p.free_function g ∷ ds) h = (function w depth g h.0, functions w depth n ds h.1)
  functions w depth n (p.proto g ∷ ds) h = functions w depth n ds h.1
  functions w depth n (p.global g ∷ ds) h = functions w depth n ds h.1

pub sources-are-free : (names : List (List ℕ)) (limits : Limits) (q : p.ProgramTree) → f.FitsProgram written limits q → HasNoAbort (core_program names q)
sources-are-free names limits q h =
    let w : Within = prog.outside names (declared names q) in
    at-number (prog.numbered_from 0 (prog.decls_functions w 0 q.decls))
    (numbered 0 (prog.decls_functions w 0 q.decls) (functions limits.operators w limits.nesting 0 q.decls h))
