-- Maps that change nothing, and maps of maps.
use Rattle.std.proofs.Common.{◌≡◌, refl, List, [], ◌∷◌, map, Option, Some, None, option_map}
use Rattle.cxx_tree.specs.declared.expr.Base.{Base}
use Rattle.cxx_tree.specs.declared.expr.Base.TheVariants as base_of
use Rattle.cxx_tree.specs.declared.expr.Selector.{Selector}
use Rattle.cxx_tree.specs.declared.expr.Left.{Left}
use Rattle.cxx_tree.specs.declared.expr.Left.TheVariants as left_of
use Rattle.cxx_tree.specs.declared.expr.Callee.{Callee}
use Rattle.cxx_tree.specs.declared.expr.Callee.TheVariants as callee_of
use Rattle.cxx_tree.specs.declared.stmt.Bump.{Bump}
use Rattle.cxx_tree.specs.declared.program.Proto.{Proto}
use Rattle.cxx_tree.specs.declared.program.Variable.{Variable}
use Rattle.cxx_tree.specs.ExprTree as e
use Rattle.cxx_tree.specs.StmtTree as s
use Rattle.cxx_tree.specs.ProgramTree as p
use Rattle.cxx_tree.specs.Map as to
use Rattle.cxx_tree.specs.Map.{Map, unchanged, after}

-- ---- the map that changes nothing

each-kept : {A : Type 0} (f : A → A) → ((x : A) → f x ≡ x) → (xs : List A) → map f xs ≡ xs
each-kept f kept [] = refl
each-kept f kept (x ∷ xs) = rw (kept x, each-kept f kept xs)

optional-kept : {A : Type 0} (f : A → A) → ((x : A) → f x ≡ x) → (o : Option A) → option_map f o ≡ o
optional-kept f kept None = refl
optional-kept f kept (Some x) = rw (kept x)

base-kept : (x : Base) → to.map_base unchanged x ≡ x
base-kept base_of.This = refl
base-kept (base_of.Dot r) = refl
base-kept (base_of.Arrow r) = refl

selector-kept : (x : Selector) → to.map_selector unchanged x ≡ x
selector-kept q = rw (base-kept q.base)

left-kept : (x : Left) → to.map_left unchanged x ≡ x
left-kept (left_of.Name r) = refl
left-kept (left_of.Member n q) = rw (selector-kept q)
left-kept (left_of.Result n) = refl

callee-kept : (x : Callee) → to.map_callee unchanged x ≡ x
callee-kept (callee_of.Bare r) = refl
callee-kept (callee_of.Member q) = rw (selector-kept q)

mutual
  expr-kept : (x : e.ExprTree) → to.map_expr unchanged x ≡ x
  expr-kept (e.lit n value) = refl
  expr-kept (e.flag n is_set) = refl
  expr-kept (e.null n) = refl
  expr-kept (e.this n) = refl
  expr-kept (e.left l) = rw (left-kept l)
  expr-kept (e.unary n o operand) = rw (expr-kept operand)
  expr-kept (e.binary n o a b) = rw (expr-kept a, expr-kept b)
  expr-kept (e.paren n inner) = rw (expr-kept inner)
  expr-kept (e.cast n type_name operand) = rw (expr-kept operand)
  expr-kept (e.call c) = rw (call-kept c)
  expr-kept (e.new n class) = refl
  expr-kept (e.new_with n class arguments) = rw (exprs-kept arguments)

  exprs-kept : (x : e.ExprTrees) → to.map_exprs unchanged x ≡ x
  exprs-kept e.no_exprs = refl
  exprs-kept (e.more_exprs first rest) = rw (expr-kept first, exprs-kept rest)

  call-kept : (x : e.CallTree) → to.map_call unchanged x ≡ x
  call-kept (e.calls n callee arguments) = rw (callee-kept callee, exprs-kept arguments)

initial-kept : (x : s.InitialTree) → to.map_initial unchanged x ≡ x
initial-kept i = rw (expr-kept i.value)

local-kept : (x : s.LocalTree) → to.map_local unchanged x ≡ x
local-kept l = rw (optional-kept (to.map_initial unchanged) initial-kept l.initial)

assign-kept : (x : s.AssignTree) → to.map_assign unchanged x ≡ x
assign-kept a = rw (left-kept a.left, expr-kept a.value)

bump-kept : (x : Bump) → to.map_bump unchanged x ≡ x
bump-kept b = rw (left-kept b.left)

simple-kept : (x : s.SimpleTree) → to.map_simple unchanged x ≡ x
simple-kept (s.assign a) = rw (assign-kept a)
simple-kept (s.bump b) = rw (bump-kept b)
simple-kept (s.call_stmt c) = rw (call-kept c)
simple-kept (s.proceed at) = refl

printed-kept : (x : s.PrintedTree) → to.map_printed unchanged x ≡ x
printed-kept (s.text q) = refl
printed-kept (s.endl at) = refl
printed-kept (s.value v) = rw (expr-kept v)

print-kept : (x : s.PrintTree) → to.map_print unchanged x ≡ x
print-kept q = rw (each-kept (to.map_printed unchanged) printed-kept q.operands)

thread-kept : (x : s.ThreadTree) → to.map_thread unchanged x ≡ x
thread-kept t = rw (exprs-kept t.arguments)

start-kept : (x : s.StartTree) → to.map_start unchanged x ≡ x
start-kept (s.start_local l) = rw (local-kept l)
start-kept (s.start_simple i) = rw (simple-kept i)

mutual
  stmt-kept : (x : s.StmtTree) → to.map_stmt unchanged x ≡ x
  stmt-kept (s.block b) = rw (block-kept b)
  stmt-kept (s.local l) = rw (local-kept l)
  stmt-kept (s.simple i) = rw (simple-kept i)
  stmt-kept (s.branch i) = rw (if-kept i)
  stmt-kept (s.while at condition body) = rw (expr-kept condition, block-kept body)
  stmt-kept (s.for at start condition step body) = rw (optional-kept (to.map_start unchanged) start-kept start, optional-kept (to.map_expr unchanged) expr-kept condition, optional-kept (to.map_simple unchanged) simple-kept step, block-kept body)
  stmt-kept (s.return at value) = rw (optional-kept (to.map_expr unchanged) expr-kept value)
  stmt-kept (s.delete at pointer) = rw (expr-kept pointer)
  stmt-kept (s.print q) = rw (print-kept q)
  stmt-kept (s.thread t) = rw (thread-kept t)
  stmt-kept (s.abort at) = refl

  stmts-kept : (x : s.StmtTrees) → to.map_stmts unchanged x ≡ x
  stmts-kept s.no_stmts = refl
  stmts-kept (s.more_stmts first rest) = rw (stmt-kept first, stmts-kept rest)

  block-kept : (x : s.BlockTree) → to.map_block unchanged x ≡ x
  block-kept (s.braces at stmts) = rw (stmts-kept stmts)

  if-kept : (x : s.IfTree) → to.map_if unchanged x ≡ x
  if-kept (s.chooses at condition body otherwise) = rw (expr-kept condition, block-kept body, else-kept otherwise)

  else-kept : (x : s.ElseTree) → to.map_else unchanged x ≡ x
  else-kept s.no_else = refl
  else-kept (s.else_if i) = rw (if-kept i)
  else-kept (s.else_block b) = rw (block-kept b)

function-kept : (x : p.FunctionTree) → to.map_function unchanged x ≡ x
function-kept g = rw (each-kept (to.map_param unchanged) (λ x. refl) g.params, block-kept g.body)

proto-kept : (x : Proto) → to.map_proto unchanged x ≡ x
proto-kept g = rw (each-kept (to.map_param unchanged) (λ x. refl) g.params)

init-kept : (x : p.InitTree) → to.map_init unchanged x ≡ x
init-kept i = rw (exprs-kept i.arguments)

ctor-kept : (x : p.CtorTree) → to.map_ctor unchanged x ≡ x
ctor-kept c = rw (each-kept (to.map_param unchanged) (λ x. refl) c.params, each-kept (to.map_init unchanged) init-kept c.inits, block-kept c.body)

dtor-kept : (x : p.DtorTree) → to.map_dtor unchanged x ≡ x
dtor-kept d = rw (block-kept d.body)

item-kept : (x : p.ItemTree) → to.map_item unchanged x ≡ x
item-kept (p.label at access) = refl
item-kept (p.member x) = refl
item-kept (p.function g) = rw (function-kept g)
item-kept (p.ctor c) = rw (ctor-kept c)
item-kept (p.dtor d) = rw (dtor-kept d)

class-kept : (x : p.ClassTree) → to.map_class unchanged x ≡ x
class-kept c = rw (optional-kept (to.map_placed unchanged) (λ x. refl) c.base, each-kept (to.map_item unchanged) item-kept c.items)

variable-kept : (x : Variable) → to.map_variable unchanged x ≡ x
variable-kept v = rw (optional-kept (to.map_placed unchanged) (λ x. refl) v.initial)

object-kept : (x : p.ObjectTree) → to.map_object unchanged x ≡ x
object-kept o = rw (exprs-kept o.arguments)

global-kept : (x : p.GlobalTree) → to.map_global unchanged x ≡ x
global-kept (p.variable v) = rw (variable-kept v)
global-kept (p.object o) = rw (object-kept o)
global-kept (p.mutex at name) = refl

decl-kept : (x : p.DeclTree) → to.map_decl unchanged x ≡ x
decl-kept (p.class c) = rw (class-kept c)
decl-kept (p.class_name c) = refl
decl-kept (p.free_function g) = rw (function-kept g)
decl-kept (p.proto g) = rw (proto-kept g)
decl-kept (p.global g) = rw (global-kept g)

pub program-kept : (q : p.ProgramTree) → to.map_program unchanged q ≡ q
program-kept q = rw (each-kept (to.map_decl unchanged) decl-kept q.decls)

-- ---- a map after a map

module _ (second first : Map) where
  each-composed : {A : Type 0} (g f h : A → A) → ((x : A) → g (f x) ≡ h x) → (xs : List A) → map g (map f xs) ≡ map h xs
  each-composed g f h composed [] = refl
  each-composed g f h composed (x ∷ xs) = rw (composed x, each-composed g f h composed xs)

  optional-composed : {A : Type 0} (g f h : A → A) → ((x : A) → g (f x) ≡ h x) → (o : Option A) → option_map g (option_map f o) ≡ option_map h o
  optional-composed g f h composed None = refl
  optional-composed g f h composed (Some x) = rw (composed x)

  base-composed : (x : Base) → to.map_base second (to.map_base first x) ≡ to.map_base (after second first) x
  base-composed base_of.This = refl
  base-composed (base_of.Dot r) = refl
  base-composed (base_of.Arrow r) = refl

  selector-composed : (x : Selector) → to.map_selector second (to.map_selector first x) ≡ to.map_selector (after second first) x
  selector-composed q = rw (base-composed q.base)

  left-composed : (x : Left) → to.map_left second (to.map_left first x) ≡ to.map_left (after second first) x
  left-composed (left_of.Name r) = refl
  left-composed (left_of.Member n q) = rw (selector-composed q)
  left-composed (left_of.Result n) = refl

  callee-composed : (x : Callee) → to.map_callee second (to.map_callee first x) ≡ to.map_callee (after second first) x
  callee-composed (callee_of.Bare r) = refl
  callee-composed (callee_of.Member q) = rw (selector-composed q)

  mutual
    expr-composed : (x : e.ExprTree) → to.map_expr second (to.map_expr first x) ≡ to.map_expr (after second first) x
    expr-composed (e.lit n value) = refl
    expr-composed (e.flag n is_set) = refl
    expr-composed (e.null n) = refl
    expr-composed (e.this n) = refl
    expr-composed (e.left l) = rw (left-composed l)
    expr-composed (e.unary n o operand) = rw (expr-composed operand)
    expr-composed (e.binary n o a b) = rw (expr-composed a, expr-composed b)
    expr-composed (e.paren n inner) = rw (expr-composed inner)
    expr-composed (e.cast n type_name operand) = rw (expr-composed operand)
    expr-composed (e.call c) = rw (call-composed c)
    expr-composed (e.new n class) = refl
    expr-composed (e.new_with n class arguments) = rw (exprs-composed arguments)

    exprs-composed : (x : e.ExprTrees) → to.map_exprs second (to.map_exprs first x) ≡ to.map_exprs (after second first) x
    exprs-composed e.no_exprs = refl
    exprs-composed (e.more_exprs first rest) = rw (expr-composed first, exprs-composed rest)

    call-composed : (x : e.CallTree) → to.map_call second (to.map_call first x) ≡ to.map_call (after second first) x
    call-composed (e.calls n callee arguments) = rw (callee-composed callee, exprs-composed arguments)

  initial-composed : (x : s.InitialTree) → to.map_initial second (to.map_initial first x) ≡ to.map_initial (after second first) x
  initial-composed i = rw (expr-composed i.value)

  local-composed : (x : s.LocalTree) → to.map_local second (to.map_local first x) ≡ to.map_local (after second first) x
  local-composed l = rw (optional-composed (to.map_initial second) (to.map_initial first) (to.map_initial (after second first)) initial-composed l.initial)

  assign-composed : (x : s.AssignTree) → to.map_assign second (to.map_assign first x) ≡ to.map_assign (after second first) x
  assign-composed a = rw (left-composed a.left, expr-composed a.value)

  bump-composed : (x : Bump) → to.map_bump second (to.map_bump first x) ≡ to.map_bump (after second first) x
  bump-composed b = rw (left-composed b.left)

  simple-composed : (x : s.SimpleTree) → to.map_simple second (to.map_simple first x) ≡ to.map_simple (after second first) x
  simple-composed (s.assign a) = rw (assign-composed a)
  simple-composed (s.bump b) = rw (bump-composed b)
  simple-composed (s.call_stmt c) = rw (call-composed c)
  simple-composed (s.proceed at) = refl

  printed-composed : (x : s.PrintedTree) → to.map_printed second (to.map_printed first x) ≡ to.map_printed (after second first) x
  printed-composed (s.text q) = refl
  printed-composed (s.endl at) = refl
  printed-composed (s.value v) = rw (expr-composed v)

  print-composed : (x : s.PrintTree) → to.map_print second (to.map_print first x) ≡ to.map_print (after second first) x
  print-composed q = rw (each-composed (to.map_printed second) (to.map_printed first) (to.map_printed (after second first)) printed-composed q.operands)

  thread-composed : (x : s.ThreadTree) → to.map_thread second (to.map_thread first x) ≡ to.map_thread (after second first) x
  thread-composed t = rw (exprs-composed t.arguments)

  start-composed : (x : s.StartTree) → to.map_start second (to.map_start first x) ≡ to.map_start (after second first) x
  start-composed (s.start_local l) = rw (local-composed l)
  start-composed (s.start_simple i) = rw (simple-composed i)

  mutual
    stmt-composed : (x : s.StmtTree) → to.map_stmt second (to.map_stmt first x) ≡ to.map_stmt (after second first) x
    stmt-composed (s.block b) = rw (block-composed b)
    stmt-composed (s.local l) = rw (local-composed l)
    stmt-composed (s.simple i) = rw (simple-composed i)
    stmt-composed (s.branch i) = rw (if-composed i)
    stmt-composed (s.while at condition body) = rw (expr-composed condition, block-composed body)
    stmt-composed (s.for at start condition step body) = rw (optional-composed (to.map_start second) (to.map_start first) (to.map_start (after second first)) start-composed start, optional-composed (to.map_expr second) (to.map_expr first) (to.map_expr (after second first)) expr-composed condition, optional-composed (to.map_simple second) (to.map_simple first) (to.map_simple (after second first)) simple-composed step, block-composed body)
    stmt-composed (s.return at value) = rw (optional-composed (to.map_expr second) (to.map_expr first) (to.map_expr (after second first)) expr-composed value)
    stmt-composed (s.delete at pointer) = rw (expr-composed pointer)
    stmt-composed (s.print q) = rw (print-composed q)
    stmt-composed (s.thread t) = rw (thread-composed t)
    stmt-composed (s.abort at) = refl

    stmts-composed : (x : s.StmtTrees) → to.map_stmts second (to.map_stmts first x) ≡ to.map_stmts (after second first) x
    stmts-composed s.no_stmts = refl
    stmts-composed (s.more_stmts first rest) = rw (stmt-composed first, stmts-composed rest)

    block-composed : (x : s.BlockTree) → to.map_block second (to.map_block first x) ≡ to.map_block (after second first) x
    block-composed (s.braces at stmts) = rw (stmts-composed stmts)

    if-composed : (x : s.IfTree) → to.map_if second (to.map_if first x) ≡ to.map_if (after second first) x
    if-composed (s.chooses at condition body otherwise) = rw (expr-composed condition, block-composed body, else-composed otherwise)

    else-composed : (x : s.ElseTree) → to.map_else second (to.map_else first x) ≡ to.map_else (after second first) x
    else-composed s.no_else = refl
    else-composed (s.else_if i) = rw (if-composed i)
    else-composed (s.else_block b) = rw (block-composed b)

  function-composed : (x : p.FunctionTree) → to.map_function second (to.map_function first x) ≡ to.map_function (after second first) x
  function-composed g = rw (each-composed (to.map_param second) (to.map_param first) (to.map_param (after second first)) (λ x. refl) g.params, block-composed g.body)

  proto-composed : (x : Proto) → to.map_proto second (to.map_proto first x) ≡ to.map_proto (after second first) x
  proto-composed g = rw (each-composed (to.map_param second) (to.map_param first) (to.map_param (after second first)) (λ x. refl) g.params)

  init-composed : (x : p.InitTree) → to.map_init second (to.map_init first x) ≡ to.map_init (after second first) x
  init-composed i = rw (exprs-composed i.arguments)

  ctor-composed : (x : p.CtorTree) → to.map_ctor second (to.map_ctor first x) ≡ to.map_ctor (after second first) x
  ctor-composed c = rw (each-composed (to.map_param second) (to.map_param first) (to.map_param (after second first)) (λ x. refl) c.params, each-composed (to.map_init second) (to.map_init first) (to.map_init (after second first)) init-composed c.inits, block-composed c.body)

  dtor-composed : (x : p.DtorTree) → to.map_dtor second (to.map_dtor first x) ≡ to.map_dtor (after second first) x
  dtor-composed d = rw (block-composed d.body)

  item-composed : (x : p.ItemTree) → to.map_item second (to.map_item first x) ≡ to.map_item (after second first) x
  item-composed (p.label at access) = refl
  item-composed (p.member x) = refl
  item-composed (p.function g) = rw (function-composed g)
  item-composed (p.ctor c) = rw (ctor-composed c)
  item-composed (p.dtor d) = rw (dtor-composed d)

  class-composed : (x : p.ClassTree) → to.map_class second (to.map_class first x) ≡ to.map_class (after second first) x
  class-composed c = rw (optional-composed (to.map_placed second) (to.map_placed first) (to.map_placed (after second first)) (λ x. refl) c.base, each-composed (to.map_item second) (to.map_item first) (to.map_item (after second first)) item-composed c.items)

  variable-composed : (x : Variable) → to.map_variable second (to.map_variable first x) ≡ to.map_variable (after second first) x
  variable-composed v = rw (optional-composed (to.map_placed second) (to.map_placed first) (to.map_placed (after second first)) (λ x. refl) v.initial)

  object-composed : (x : p.ObjectTree) → to.map_object second (to.map_object first x) ≡ to.map_object (after second first) x
  object-composed o = rw (exprs-composed o.arguments)

  global-composed : (x : p.GlobalTree) → to.map_global second (to.map_global first x) ≡ to.map_global (after second first) x
  global-composed (p.variable v) = rw (variable-composed v)
  global-composed (p.object o) = rw (object-composed o)
  global-composed (p.mutex at name) = refl

  decl-composed : (x : p.DeclTree) → to.map_decl second (to.map_decl first x) ≡ to.map_decl (after second first) x
  decl-composed (p.class c) = rw (class-composed c)
  decl-composed (p.class_name c) = refl
  decl-composed (p.free_function g) = rw (function-composed g)
  decl-composed (p.proto g) = rw (proto-composed g)
  decl-composed (p.global g) = rw (global-composed g)

  pub program-composed : (q : p.ProgramTree) → to.map_program second (to.map_program first q) ≡ to.map_program (after second first) q
  program-composed q = rw (each-composed (to.map_decl second) (to.map_decl first) (to.map_decl (after second first)) decl-composed q.decls)
