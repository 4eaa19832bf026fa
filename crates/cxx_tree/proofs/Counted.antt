-- The nodes of a program are counted by a fold.
use Rattle.std.proofs.Common.{◌≡◌, ℕ, refl, arith, List, [], ◌∷◌, Option, Some, None}
use Rattle.std.specs.Prelude.{sum_by}
use Rattle.std.proofs.lemmas.List.Sums.{sum_by-cons}
use Rattle.agxx_base.specs.declared.ids.NameId.{NameId}
use Rattle.cxx_tree.specs.declared.node.Placed.{Placed}
use Rattle.cxx_tree.specs.declared.expr.Base.{Base}
use Rattle.cxx_tree.specs.declared.expr.Base.TheVariants as base_of
use Rattle.cxx_tree.specs.declared.expr.Left.{Left}
use Rattle.cxx_tree.specs.declared.expr.Left.TheVariants as left_of
use Rattle.cxx_tree.specs.declared.expr.Callee.{Callee}
use Rattle.cxx_tree.specs.declared.expr.Callee.TheVariants as callee_of
use Rattle.cxx_tree.specs.declared.program.Param.{Param}
use Rattle.cxx_tree.specs.ExprTree as e
use Rattle.cxx_tree.specs.StmtTree as s
use Rattle.cxx_tree.specs.ProgramTree as p
use Rattle.cxx_tree.specs.Fold as of
use Rattle.cxx_tree.specs.Nodes as c
use Rattle.cxx_tree.specs.Nodes.{counts, NodesAreFolded}

optional-counted : {A : Type 0} (nodes fold : A → ℕ) → ((x : A) → nodes x ≡ fold x) → (o : Option A) → c.nodes_in_optional nodes o ≡ of.fold_optional counts fold o
optional-counted nodes fold counted None = refl
optional-counted nodes fold counted (Some x) = counted x

each-counted : {A : Type 0} (nodes fold : A → ℕ) → ((x : A) → nodes x ≡ fold x) → (xs : List A) → sum_by nodes xs ≡ of.fold_each counts fold xs
each-counted nodes fold counted [] = refl
each-counted nodes fold counted (x ∷ xs) = omega (arith, sum_by-cons nodes x xs, counted x, each-counted nodes fold counted xs)

params-counted : (xs : List Param) → of.fold_params counts xs ≡ 0
params-counted [] = refl
params-counted (x ∷ xs) = omega (arith, params-counted xs)

class_base-counted : (o : Option (Placed NameId)) → of.fold_optional counts counts.name o ≡ 0
class_base-counted None = refl
class_base-counted (Some n) = refl

base-counted : (x : Base) → c.nodes_in_base x ≡ of.fold_base counts x
base-counted base_of.This = refl
base-counted (base_of.Dot r) = refl
base-counted (base_of.Arrow r) = refl

left-counted : (x : Left) → c.nodes_in_left x ≡ of.fold_left counts x
left-counted (left_of.Name r) = refl
left-counted (left_of.Member n q) = omega (arith, base-counted q.base)
left-counted (left_of.Result n) = refl

callee-counted : (x : Callee) → c.nodes_in_callee x ≡ of.fold_callee counts x
callee-counted (callee_of.Bare r) = refl
callee-counted (callee_of.Member q) = omega (arith, base-counted q.base)

mutual
  expr-counted : (x : e.ExprTree) → c.nodes_in_expr x ≡ of.fold_expr counts x
  expr-counted (e.lit n value) = refl
  expr-counted (e.flag n is_set) = refl
  expr-counted (e.null n) = refl
  expr-counted (e.this n) = refl
  expr-counted (e.left l) = left-counted l
  expr-counted (e.unary n o operand) = omega (arith, expr-counted operand)
  expr-counted (e.binary n o a b) = omega (arith, expr-counted a, expr-counted b)
  expr-counted (e.paren n inner) = omega (arith, expr-counted inner)
  expr-counted (e.cast n type_name operand) = omega (arith, expr-counted operand)
  expr-counted (e.call q) = call-counted q
  expr-counted (e.new n class) = refl
  expr-counted (e.new_with n class arguments) = omega (arith, exprs-counted arguments)

  exprs-counted : (x : e.ExprTrees) → c.nodes_in_exprs x ≡ of.fold_exprs counts x
  exprs-counted e.no_exprs = refl
  exprs-counted (e.more_exprs first rest) = omega (arith, expr-counted first, exprs-counted rest)

  call-counted : (x : e.CallTree) → c.nodes_in_call x ≡ of.fold_call counts x
  call-counted (e.calls n callee arguments) = omega (arith, callee-counted callee, exprs-counted arguments)

initial-counted : (x : s.InitialTree) → c.nodes_in_initial x ≡ of.fold_initial counts x
initial-counted i = expr-counted i.value

local-counted : (x : s.LocalTree) → c.nodes_in_local x ≡ of.fold_local counts x
local-counted l = omega (arith, optional-counted c.nodes_in_initial (of.fold_initial counts) initial-counted l.initial)

simple-counted : (x : s.SimpleTree) → c.nodes_in_simple x ≡ of.fold_simple counts x
simple-counted (s.assign a) = omega (arith, left-counted a.left, expr-counted a.value)
simple-counted (s.bump b) = left-counted b.left
simple-counted (s.call_stmt q) = call-counted q
simple-counted (s.proceed at) = refl

printed-counted : (x : s.PrintedTree) → c.nodes_in_printed x ≡ of.fold_printed counts x
printed-counted (s.text q) = refl
printed-counted (s.endl at) = refl
printed-counted (s.value v) = expr-counted v

print-counted : (x : s.PrintTree) → c.nodes_in_print x ≡ of.fold_print counts x
print-counted q = each-counted c.nodes_in_printed (of.fold_printed counts) printed-counted q.operands

thread-counted : (x : s.ThreadTree) → c.nodes_in_thread x ≡ of.fold_thread counts x
thread-counted t = omega (arith, exprs-counted t.arguments)

start-counted : (x : s.StartTree) → c.nodes_in_start x ≡ of.fold_start counts x
start-counted (s.start_local l) = local-counted l
start-counted (s.start_simple i) = simple-counted i

mutual
  stmt-counted : (x : s.StmtTree) → c.nodes_in_stmt x ≡ of.fold_stmt counts x
  stmt-counted (s.block b) = block-counted b
  stmt-counted (s.local l) = local-counted l
  stmt-counted (s.simple i) = simple-counted i
  stmt-counted (s.branch i) = if-counted i
  stmt-counted (s.while at condition body) = omega (arith, expr-counted condition, block-counted body)
  stmt-counted (s.for at start condition step body) = omega (arith, optional-counted c.nodes_in_start (of.fold_start counts) start-counted start, optional-counted c.nodes_in_expr (of.fold_expr counts) expr-counted condition, optional-counted c.nodes_in_simple (of.fold_simple counts) simple-counted step, block-counted body)
  stmt-counted (s.return at value) = optional-counted c.nodes_in_expr (of.fold_expr counts) expr-counted value
  stmt-counted (s.delete at pointer) = expr-counted pointer
  stmt-counted (s.print q) = print-counted q
  stmt-counted (s.thread t) = thread-counted t
  stmt-counted (s.abort at) = refl

  stmts-counted : (x : s.StmtTrees) → c.nodes_in_stmts x ≡ of.fold_stmts counts x
  stmts-counted s.no_stmts = refl
  stmts-counted (s.more_stmts first rest) = omega (arith, stmt-counted first, stmts-counted rest)

  block-counted : (x : s.BlockTree) → c.nodes_in_block x ≡ of.fold_block counts x
  block-counted (s.braces at stmts) = stmts-counted stmts

  if-counted : (x : s.IfTree) → c.nodes_in_if x ≡ of.fold_if counts x
  if-counted (s.chooses at condition body otherwise) = omega (arith, expr-counted condition, block-counted body, else-counted otherwise)

  else-counted : (x : s.ElseTree) → c.nodes_in_else x ≡ of.fold_else counts x
  else-counted s.no_else = refl
  else-counted (s.else_if i) = if-counted i
  else-counted (s.else_block b) = block-counted b

init-counted : (x : p.InitTree) → c.nodes_in_init x ≡ of.fold_init counts x
init-counted i = omega (arith, exprs-counted i.arguments)

item-counted : (x : p.ItemTree) → c.nodes_in_item x ≡ of.fold_item counts x
item-counted (p.label at access) = refl
item-counted (p.member x) = refl
item-counted (p.function g) = omega (arith, params-counted g.params, block-counted g.body)
item-counted (p.ctor q) = omega (arith, params-counted q.params, each-counted c.nodes_in_init (of.fold_init counts) init-counted q.inits, block-counted q.body)
item-counted (p.dtor d) = omega (arith, block-counted d.body)

global-counted : (x : p.GlobalTree) → c.nodes_in_global x ≡ of.fold_global counts x
global-counted (p.variable v) = refl
global-counted (p.object o) = omega (arith, exprs-counted o.arguments)
global-counted (p.mutex at name) = refl

decl-counted : (x : p.DeclTree) → c.nodes_in_decl x ≡ of.fold_decl counts x
decl-counted (p.class q) = omega (arith, class_base-counted q.base, each-counted c.nodes_in_item (of.fold_item counts) item-counted q.items)
decl-counted (p.class_name q) = refl
decl-counted (p.free_function g) = omega (arith, params-counted g.params, block-counted g.body)
decl-counted (p.proto g) = omega (arith, params-counted g.params)
decl-counted (p.global g) = global-counted g

pub program-counted : NodesAreFolded
program-counted q = each-counted c.nodes_in_decl (of.fold_decl counts) decl-counted q.decls
