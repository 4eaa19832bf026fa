-- Numbers given twice from the same first one are those given once.
use Rattle.std.proofs.Common.{◌≡◌, ℕ, suc, refl, ap, List, [], ◌∷◌, Option, Some, None}
use Rattle.cxx_tree.specs.declared.expr.Base.{Base}
use Rattle.cxx_tree.specs.declared.expr.Base.TheVariants as base_of
use Rattle.cxx_tree.specs.declared.expr.Selector.{Selector}
use Rattle.cxx_tree.specs.declared.expr.Left.{Left}
use Rattle.cxx_tree.specs.declared.expr.Left.TheVariants as left_of
use Rattle.cxx_tree.specs.declared.expr.Callee.{Callee}
use Rattle.cxx_tree.specs.declared.expr.Callee.TheVariants as callee_of
use Rattle.cxx_tree.specs.declared.stmt.Bump.{Bump}
use Rattle.cxx_tree.specs.ExprTree as e
use Rattle.cxx_tree.specs.StmtTree as s
use Rattle.cxx_tree.specs.ProgramTree as p
use Rattle.cxx_normal.specs.Numbers as n
use Rattle.cxx_normal.specs.Numbers.{Numbering}

-- numbering a part again changes nothing
abbrev pub IsFinal : {A : Type 0} → Numbering A → A → Type 0
IsFinal number x = (k : ℕ) → number (number x k).0 k ≡ number x k

-- the same in a larger part
abbrev larger : {A B : Type 0} → (A → B) → A × ℕ → B × ℕ
larger make w = (make w.0, w.1)

within : {A B : Type 0} (make : A → B) {x y : A × ℕ} → x ≡ y → larger make x ≡ larger make y
within make e = ap (larger make) e

pub optional-twice : {A : Type 0} (number : Numbering A) → ((x : A) → IsFinal number x) → (o : Option A) → IsFinal (n.number_optional number) o
optional-twice number final None k = refl
optional-twice number final (Some x) k = rw (final x k)

pub each-twice : {A : Type 0} (number : Numbering A) → ((x : A) → IsFinal number x) → (xs : List A) → IsFinal (n.number_each number) xs
each-twice number final [] k = refl
each-twice number final (x ∷ xs) k = rw (final x k, each-twice number final xs (number x k).1)

base-twice : (b : Base) → IsFinal n.number_base b
base-twice base_of.This k = refl
base-twice (base_of.Dot r) k = refl
base-twice (base_of.Arrow r) k = refl

selector-twice : (q : Selector) → IsFinal n.number_selector q
selector-twice q k = rw (base-twice q.base k)

left-twice : (l : Left) → IsFinal n.number_left l
left-twice (left_of.Name r) k = refl
left-twice (left_of.Member node q) k = within (left_of.Member (n.numbered node k)) (selector-twice q (suc k))
left-twice (left_of.Result node) k = refl

callee-twice : (c : Callee) → IsFinal n.number_callee c
callee-twice (callee_of.Bare r) k = refl
callee-twice (callee_of.Member q) k = within callee_of.Member (selector-twice q k)

mutual
  expr-twice : (t : e.ExprTree) → IsFinal n.number_expr t
  expr-twice (e.lit node value) k = refl
  expr-twice (e.flag node is_set) k = refl
  expr-twice (e.null node) k = refl
  expr-twice (e.this node) k = refl
  expr-twice (e.left l) k = rw (left-twice l k)
  expr-twice (e.unary node o operand) k = rw (expr-twice operand (suc k))
  expr-twice (e.binary node o a b) k = rw (expr-twice a (suc k), expr-twice b (n.number_expr a (suc k)).1)
  expr-twice (e.paren node inner) k = rw (expr-twice inner (suc k))
  expr-twice (e.cast node type_name operand) k = rw (expr-twice operand (suc k))
  expr-twice (e.call c) k = rw (call-twice c k)
  expr-twice (e.new node class) k = refl
  expr-twice (e.new_with node class arguments) k = rw (exprs-twice arguments (suc k))

  exprs-twice : (ts : e.ExprTrees) → IsFinal n.number_exprs ts
  exprs-twice e.no_exprs k = refl
  exprs-twice (e.more_exprs first rest) k = rw (expr-twice first k, exprs-twice rest (n.number_expr first k).1)

  call-twice : (c : e.CallTree) → IsFinal n.number_call c
  call-twice (e.calls node callee arguments) k =
      rw (callee-twice callee (suc k), exprs-twice arguments (n.number_callee callee (suc k)).1)

initial-twice : (i : s.InitialTree) → IsFinal n.number_initial i
initial-twice i k = rw (expr-twice i.value k)

local-twice : (l : s.LocalTree) → IsFinal n.number_local l
local-twice l k = rw (optional-twice n.number_initial initial-twice l.initial k)

assign-twice : (a : s.AssignTree) → IsFinal n.number_assign a
assign-twice a k = rw (left-twice a.left k, expr-twice a.value (n.number_left a.left k).1)

bump-twice : (b : Bump) → IsFinal n.number_bump b
bump-twice b k = rw (left-twice b.left k)

simple-twice : (i : s.SimpleTree) → IsFinal n.number_simple i
simple-twice (s.assign a) k = within s.assign (assign-twice a k)
simple-twice (s.bump b) k = within s.bump (bump-twice b k)
simple-twice (s.call_stmt c) k = within s.call_stmt (call-twice c k)
simple-twice (s.proceed at) k = refl

printed-twice : (q : s.PrintedTree) → IsFinal n.number_printed q
printed-twice (s.text q) k = refl
printed-twice (s.endl at) k = refl
printed-twice (s.value v) k = rw (expr-twice v k)

print-twice : (q : s.PrintTree) → IsFinal n.number_print q
print-twice q k = rw (each-twice n.number_printed printed-twice q.operands k)

thread-twice : (t : s.ThreadTree) → IsFinal n.number_thread t
thread-twice t k = rw (exprs-twice t.arguments (suc k))

start-twice : (t : s.StartTree) → IsFinal n.number_start t
start-twice (s.start_local l) k = within s.start_local (local-twice l k)
start-twice (s.start_simple i) k = within s.start_simple (simple-twice i k)

mutual
  pub stmt-twice : (t : s.StmtTree) → IsFinal n.number_stmt t
  stmt-twice (s.block b) k = within s.block (block-twice b k)
  stmt-twice (s.local l) k = within s.local (local-twice l k)
  stmt-twice (s.simple i) k = within s.simple (simple-twice i k)
  stmt-twice (s.branch i) k = within s.branch (if-twice i k)
  stmt-twice (s.while at condition body) k = rw (expr-twice condition k, block-twice body (n.number_expr condition k).1)
  stmt-twice (s.for at start condition step body) k =
      let a = n.number_optional n.number_start start k in
      let b = n.number_optional n.number_expr condition a.1 in
      let c = n.number_optional n.number_simple step b.1 in
      rw (optional-twice n.number_start start-twice start k, optional-twice n.number_expr expr-twice condition a.1, optional-twice n.number_simple simple-twice step b.1, block-twice body c.1)
  stmt-twice (s.return at value) k = rw (optional-twice n.number_expr expr-twice value k)
  stmt-twice (s.delete at pointer) k = rw (expr-twice pointer k)
  stmt-twice (s.print q) k = within s.print (print-twice q k)
  stmt-twice (s.thread t) k = within s.thread (thread-twice t k)
  stmt-twice (s.abort at) k = refl

  pub stmts-twice : (ts : s.StmtTrees) → IsFinal n.number_stmts ts
  stmts-twice s.no_stmts k = refl
  stmts-twice (s.more_stmts first rest) k = rw (stmt-twice first k, stmts-twice rest (n.number_stmt first k).1)

  pub block-twice : (b : s.BlockTree) → IsFinal n.number_block b
  block-twice (s.braces at stmts) k = rw (stmts-twice stmts k)

  if-twice : (i : s.IfTree) → IsFinal n.number_if i
  if-twice (s.chooses at condition body otherwise) k =
      let a = n.number_expr condition k in
      let b = n.number_block body a.1 in
      rw (expr-twice condition k, block-twice body a.1, else-twice otherwise b.1)

  else-twice : (t : s.ElseTree) → IsFinal n.number_else t
  else-twice s.no_else k = refl
  else-twice (s.else_if i) k = rw (if-twice i k)
  else-twice (s.else_block b) k = rw (block-twice b k)

function-twice : (f : p.FunctionTree) → IsFinal n.number_function f
function-twice f k = rw (block-twice f.body k)

init-twice : (i : p.InitTree) → IsFinal n.number_init i
init-twice i k = rw (exprs-twice i.arguments k)

ctor-twice : (c : p.CtorTree) → IsFinal n.number_ctor c
ctor-twice c k =
    rw (each-twice n.number_init init-twice c.inits k, block-twice c.body (n.number_each n.number_init c.inits k).1)

dtor-twice : (d : p.DtorTree) → IsFinal n.number_dtor d
dtor-twice d k = rw (block-twice d.body k)

item-twice : (i : p.ItemTree) → IsFinal n.number_item i
item-twice (p.label at access) k = refl
item-twice (p.member m) k = refl
item-twice (p.function f) k = within p.function (function-twice f k)
item-twice (p.ctor c) k = within p.ctor (ctor-twice c k)
item-twice (p.dtor d) k = within p.dtor (dtor-twice d k)

class-twice : (c : p.ClassTree) → IsFinal n.number_class c
class-twice c k = rw (each-twice n.number_item item-twice c.items k)

object-twice : (o : p.ObjectTree) → IsFinal n.number_object o
object-twice o k = rw (exprs-twice o.arguments k)

global-twice : (g : p.GlobalTree) → IsFinal n.number_global g
global-twice (p.variable v) k = refl
global-twice (p.object o) k = within p.object (object-twice o k)
global-twice (p.mutex at name) k = refl

decl-twice : (d : p.DeclTree) → IsFinal n.number_decl d
decl-twice (p.class c) k = within p.class (class-twice c k)
decl-twice (p.class_name c) k = refl
decl-twice (p.free_function f) k = within p.free_function (function-twice f k)
decl-twice (p.proto q) k = refl
decl-twice (p.global g) k = within p.global (global-twice g k)

pub decls-twice : (ds : List p.DeclTree) → IsFinal (n.number_each n.number_decl) ds
decls-twice = each-twice n.number_decl decl-twice
