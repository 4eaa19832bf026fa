-- A part whose nodes are numbered takes as many numbers as it has nodes.
use Rattle.std.proofs.Common.{◌≡◌, ℕ, suc, ◌+◌, List, [], ◌∷◌, Option, Some, None, arith}
use Rattle.std.specs.Prelude.{sum_by}
use Rattle.std.proofs.lemmas.List.Sums.{sum_by-cons}
use Rattle.cxx_tree.specs.declared.expr.Base.{Base}
use Rattle.cxx_tree.specs.declared.expr.Base.TheVariants as base_of
use Rattle.cxx_tree.specs.declared.expr.Left.{Left}
use Rattle.cxx_tree.specs.declared.expr.Left.TheVariants as left_of
use Rattle.cxx_tree.specs.declared.expr.Callee.{Callee}
use Rattle.cxx_tree.specs.declared.expr.Callee.TheVariants as callee_of
use Rattle.cxx_tree.specs.ExprTree as e
use Rattle.cxx_tree.specs.StmtTree as s
use Rattle.cxx_tree.specs.ProgramTree as p
use Rattle.cxx_tree.specs.Nodes as n
use Rattle.cxx_tree.specs.Walk as w
use Rattle.cxx_tree.specs.Walk.{Walk, walk_optional, walk_each}
use Rattle.guard_rules.specs.Numbered.{number_node}

abbrev Counts : {A : Type 0} → Walk ℕ A → (A → ℕ) → A → Type 0
Counts walk nodes x = (k : ℕ) → (walk x k).1 ≡ k + nodes (walk x k).0

abbrev pub base : Walk ℕ Base
base = w.walk_base number_node

abbrev pub left : Walk ℕ Left
left = w.walk_left number_node

abbrev pub callee : Walk ℕ Callee
callee = w.walk_callee number_node

abbrev pub expr : Walk ℕ e.ExprTree
expr = w.walk_expr number_node

abbrev pub exprs : Walk ℕ e.ExprTrees
exprs = w.walk_exprs number_node

abbrev pub call : Walk ℕ e.CallTree
call = w.walk_call number_node

abbrev pub initial : Walk ℕ s.InitialTree
initial = w.walk_initial number_node

abbrev pub local : Walk ℕ s.LocalTree
local = w.walk_local number_node

abbrev pub simple : Walk ℕ s.SimpleTree
simple = w.walk_simple number_node

abbrev pub printed : Walk ℕ s.PrintedTree
printed = w.walk_printed number_node

abbrev pub start : Walk ℕ s.StartTree
start = w.walk_start number_node

abbrev pub stmt : Walk ℕ s.StmtTree
stmt = w.walk_stmt number_node

abbrev pub stmts : Walk ℕ s.StmtTrees
stmts = w.walk_stmts number_node

abbrev pub block : Walk ℕ s.BlockTree
block = w.walk_block number_node

abbrev pub branch : Walk ℕ s.IfTree
branch = w.walk_if number_node

abbrev pub otherwise_of : Walk ℕ s.ElseTree
otherwise_of = w.walk_else number_node

abbrev pub init : Walk ℕ p.InitTree
init = w.walk_init number_node

abbrev pub item : Walk ℕ p.ItemTree
item = w.walk_item number_node

abbrev pub decl : Walk ℕ p.DeclTree
decl = w.walk_decl number_node

pub optional_counts : {A : Type 0} (walk : Walk ℕ A) (nodes : A → ℕ) → ((x : A) → Counts walk nodes x) → (o : Option A) → Counts (walk_optional walk) (n.nodes_in_optional nodes) o
optional_counts walk nodes each None k = omega arith
optional_counts walk nodes each (Some x) k = each x k

pub each_counts : {A : Type 0} (walk : Walk ℕ A) (nodes : A → ℕ) → ((x : A) → Counts walk nodes x) → (xs : List A) → Counts (walk_each walk) (sum_by nodes) xs
each_counts walk nodes each [] k = omega arith
each_counts walk nodes each (x ∷ xs) k =
    omega (arith, each x k, each_counts walk nodes each xs (walk x k).1, sum_by-cons nodes (walk x k).0 (walk_each walk xs (walk x k).1).0)

pub base_counts : (b : Base) → Counts base n.nodes_in_base b
base_counts base_of.This k = omega arith
base_counts (base_of.Dot r) k = omega arith
base_counts (base_of.Arrow r) k = omega arith

pub left_counts : (l : Left) → Counts left n.nodes_in_left l
left_counts (left_of.Name r) k = omega arith
left_counts (left_of.Member x q) k = omega (arith, base_counts q.base (suc k))
left_counts (left_of.Result x) k = omega arith

callee-counts : (c : Callee) → Counts callee n.nodes_in_callee c
callee-counts (callee_of.Bare r) k = omega arith
callee-counts (callee_of.Member q) k = omega (arith, base_counts q.base k)

pub head_counts : (c : Callee) (k : ℕ) → (callee c (suc k)).1 ≡ k + suc (n.nodes_in_callee (callee c (suc k)).0)
head_counts c k = omega (arith, callee-counts c (suc k))

mutual
  pub expr_counts : (x : e.ExprTree) → Counts expr n.nodes_in_expr x
  expr_counts (e.lit x value) k = omega arith
  expr_counts (e.flag x is_set) k = omega arith
  expr_counts (e.null x) k = omega arith
  expr_counts (e.this x) k = omega arith
  expr_counts (e.left l) k = left_counts l k
  expr_counts (e.unary x o a) k = omega (arith, expr_counts a (suc k))
  expr_counts (e.binary x o a b) k = omega (arith, expr_counts a (suc k), expr_counts b (expr a (suc k)).1)
  expr_counts (e.paren x a) k = omega (arith, expr_counts a (suc k))
  expr_counts (e.cast x t a) k = omega (arith, expr_counts a (suc k))
  expr_counts (e.call c) k = call_counts c k
  expr_counts (e.new x class) k = omega arith
  expr_counts (e.new_with x class xs) k = omega (arith, exprs_counts xs (suc k))

  pub exprs_counts : (xs : e.ExprTrees) → Counts exprs n.nodes_in_exprs xs
  exprs_counts e.no_exprs k = omega arith
  exprs_counts (e.more_exprs x xs) k = omega (arith, expr_counts x k, exprs_counts xs (expr x k).1)

  pub call_counts : (c : e.CallTree) → Counts call n.nodes_in_call c
  call_counts (e.calls x c xs) k = omega (arith, callee-counts c (suc k), exprs_counts xs (callee c (suc k)).1)

initial-counts : (i : s.InitialTree) → Counts initial n.nodes_in_initial i
initial-counts i k = expr_counts i.value k

pub initials_count : (o : Option s.InitialTree) → Counts (walk_optional initial) (n.nodes_in_optional n.nodes_in_initial) o
initials_count = optional_counts initial n.nodes_in_initial initial-counts

local-counts : (l : s.LocalTree) → Counts local n.nodes_in_local l
local-counts l k = initials_count l.initial k

simple-counts : (i : s.SimpleTree) → Counts simple n.nodes_in_simple i
simple-counts (s.assign a) k = omega (arith, left_counts a.left k, expr_counts a.value (left a.left k).1)
simple-counts (s.bump b) k = left_counts b.left k
simple-counts (s.call_stmt c) k = call_counts c k
simple-counts (s.proceed at) k = omega arith

pub printed_counts : (x : s.PrintedTree) → Counts printed n.nodes_in_printed x
printed_counts (s.text q) k = omega arith
printed_counts (s.endl at) k = omega arith
printed_counts (s.value x) k = expr_counts x k

start-counts : (x : s.StartTree) → Counts start n.nodes_in_start x
start-counts (s.start_local l) k = local-counts l k
start-counts (s.start_simple i) k = simple-counts i k

pub starts_count : (o : Option s.StartTree) → Counts (walk_optional start) (n.nodes_in_optional n.nodes_in_start) o
starts_count = optional_counts start n.nodes_in_start start-counts

pub conditions_count : (o : Option e.ExprTree) → Counts (walk_optional expr) (n.nodes_in_optional n.nodes_in_expr) o
conditions_count = optional_counts expr n.nodes_in_expr expr_counts

pub steps_count : (o : Option s.SimpleTree) → Counts (walk_optional simple) (n.nodes_in_optional n.nodes_in_simple) o
steps_count = optional_counts simple n.nodes_in_simple simple-counts

mutual
  pub stmt_counts : (x : s.StmtTree) → Counts stmt n.nodes_in_stmt x
  stmt_counts (s.block b) k = block_counts b k
  stmt_counts (s.local l) k = local-counts l k
  stmt_counts (s.simple i) k = simple-counts i k
  stmt_counts (s.branch i) k = branch_counts i k
  stmt_counts (s.while at x body) k = omega (arith, expr_counts x k, block_counts body (expr x k).1)
  stmt_counts (s.for at first x i body) k =
      let a = walk_optional start first k in
      let b = walk_optional expr x a.1 in
      let c = walk_optional simple i b.1 in
      omega (arith, starts_count first k, conditions_count x a.1, steps_count i b.1, block_counts body c.1)
  stmt_counts (s.return at x) k = conditions_count x k
  stmt_counts (s.delete at x) k = expr_counts x k
  stmt_counts (s.print q) k = each_counts printed n.nodes_in_printed printed_counts q.operands k
  stmt_counts (s.thread t) k = omega (arith, exprs_counts t.arguments (suc k))
  stmt_counts (s.abort at) k = omega arith

  pub stmts_counts : (xs : s.StmtTrees) → Counts stmts n.nodes_in_stmts xs
  stmts_counts s.no_stmts k = omega arith
  stmts_counts (s.more_stmts x xs) k = omega (arith, stmt_counts x k, stmts_counts xs (stmt x k).1)

  pub block_counts : (b : s.BlockTree) → Counts block n.nodes_in_block b
  block_counts (s.braces at xs) k = stmts_counts xs k

  pub branch_counts : (i : s.IfTree) → Counts branch n.nodes_in_if i
  branch_counts (s.chooses at x body otherwise) k =
      let a = expr x k in
      let b = block body a.1 in
      omega (arith, expr_counts x k, block_counts body a.1, else_counts otherwise b.1)

  pub else_counts : (o : s.ElseTree) → Counts otherwise_of n.nodes_in_else o
  else_counts s.no_else k = omega arith
  else_counts (s.else_if i) k = branch_counts i k
  else_counts (s.else_block b) k = block_counts b k

pub init_counts : (i : p.InitTree) → Counts init n.nodes_in_init i
init_counts i k = exprs_counts i.arguments k

pub inits_counts : (xs : List p.InitTree) → Counts (walk_each init) (sum_by n.nodes_in_init) xs
inits_counts = each_counts init n.nodes_in_init init_counts

pub item_counts : (x : p.ItemTree) → Counts item n.nodes_in_item x
item_counts (p.label at a) k = omega arith
item_counts (p.member m) k = omega arith
item_counts (p.function f) k = block_counts f.body k
item_counts (p.ctor c) k = omega (arith, inits_counts c.inits k, block_counts c.body (walk_each init c.inits k).1)
item_counts (p.dtor d) k = block_counts d.body k

pub items_counts : (xs : List p.ItemTree) → Counts (walk_each item) (sum_by n.nodes_in_item) xs
items_counts = each_counts item n.nodes_in_item item_counts

pub decl_counts : (x : p.DeclTree) → Counts decl n.nodes_in_decl x
decl_counts (p.class c) k = items_counts c.items k
decl_counts (p.class_name c) k = omega arith
decl_counts (p.free_function f) k = block_counts f.body k
decl_counts (p.proto f) k = omega arith
decl_counts (p.global (p.variable v)) k = omega arith
decl_counts (p.global (p.object o)) k = exprs_counts o.arguments k
decl_counts (p.global (p.mutex at name)) k = omega arith
