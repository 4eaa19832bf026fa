-- How many nodes a tree has: its expressions and its references to names, which are what has a `Node`.
use Rattle.std.specs.Prelude.{◌≡◌, ℕ, suc, ◌+◌, ◌-◌, ◌^◌, min, Option, Some, None, sum_by}
use Rattle.cxx_tree.specs.declared.expr.Base.{Base}
use Rattle.cxx_tree.specs.declared.expr.Base.TheVariants as base_of
use Rattle.cxx_tree.specs.declared.expr.Left.{Left}
use Rattle.cxx_tree.specs.declared.expr.Left.TheVariants as left_of
use Rattle.cxx_tree.specs.declared.expr.Callee.{Callee}
use Rattle.cxx_tree.specs.declared.expr.Callee.TheVariants as callee_of
use Rattle.cxx_tree.specs.ExprTree as e
use Rattle.cxx_tree.specs.StmtTree as s
use Rattle.cxx_tree.specs.ProgramTree as p
use Rattle.cxx_tree.specs.Fold.{Fold, fold_program}

abbrev pub nodes_in_base : Base → ℕ
nodes_in_base base_of.This = 0
nodes_in_base (base_of.Dot r) = 1
nodes_in_base (base_of.Arrow r) = 1

abbrev pub nodes_in_left : Left → ℕ
nodes_in_left (left_of.Name r) = 1
nodes_in_left (left_of.Member n selector) = suc (nodes_in_base selector.base)
nodes_in_left (left_of.Result n) = 1

abbrev pub nodes_in_callee : Callee → ℕ
nodes_in_callee (callee_of.Bare r) = 1
nodes_in_callee (callee_of.Member selector) = nodes_in_base selector.base

abbrev mutual
  pub nodes_in_expr : e.ExprTree → ℕ
  nodes_in_expr (e.lit n value) = 1
  nodes_in_expr (e.flag n is_set) = 1
  nodes_in_expr (e.null n) = 1
  nodes_in_expr (e.this n) = 1
  nodes_in_expr (e.left l) = nodes_in_left l
  nodes_in_expr (e.unary n o operand) = suc (nodes_in_expr operand)
  nodes_in_expr (e.binary n o a b) = suc (nodes_in_expr a + nodes_in_expr b)
  nodes_in_expr (e.paren n inner) = suc (nodes_in_expr inner)
  nodes_in_expr (e.cast n type_name operand) = suc (nodes_in_expr operand)
  nodes_in_expr (e.call c) = nodes_in_call c
  nodes_in_expr (e.new n class) = 1
  nodes_in_expr (e.new_with n class arguments) = suc (nodes_in_exprs arguments)

  pub nodes_in_exprs : e.ExprTrees → ℕ
  nodes_in_exprs e.no_exprs = 0
  nodes_in_exprs (e.more_exprs first rest) = nodes_in_expr first + nodes_in_exprs rest

  pub nodes_in_call : e.CallTree → ℕ
  nodes_in_call (e.calls n callee arguments) = suc (nodes_in_callee callee + nodes_in_exprs arguments)

-- the nodes of a part that may be missing
abbrev pub nodes_in_optional : {A : Type 0} → (A → ℕ) → Option A → ℕ
nodes_in_optional nodes_in None = 0
nodes_in_optional nodes_in (Some part) = nodes_in part

abbrev pub nodes_in_initial : s.InitialTree → ℕ
nodes_in_initial i = nodes_in_expr i.value

abbrev pub nodes_in_local : s.LocalTree → ℕ
nodes_in_local l = nodes_in_optional nodes_in_initial l.initial

abbrev pub nodes_in_simple : s.SimpleTree → ℕ
nodes_in_simple (s.assign a) = nodes_in_left a.left + nodes_in_expr a.value
nodes_in_simple (s.bump b) = nodes_in_left b.left
nodes_in_simple (s.call_stmt c) = nodes_in_call c
nodes_in_simple (s.proceed at) = 0

abbrev pub nodes_in_printed : s.PrintedTree → ℕ
nodes_in_printed (s.text q) = 0
nodes_in_printed (s.endl at) = 0
nodes_in_printed (s.value v) = nodes_in_expr v

abbrev pub nodes_in_print : s.PrintTree → ℕ
nodes_in_print q = sum_by nodes_in_printed q.operands

abbrev pub nodes_in_thread : s.ThreadTree → ℕ
nodes_in_thread t = suc (nodes_in_exprs t.arguments)

abbrev pub nodes_in_start : s.StartTree → ℕ
nodes_in_start (s.start_local l) = nodes_in_local l
nodes_in_start (s.start_simple i) = nodes_in_simple i

abbrev mutual
  pub nodes_in_stmt : s.StmtTree → ℕ
  nodes_in_stmt (s.block b) = nodes_in_block b
  nodes_in_stmt (s.local l) = nodes_in_local l
  nodes_in_stmt (s.simple i) = nodes_in_simple i
  nodes_in_stmt (s.branch i) = nodes_in_if i
  nodes_in_stmt (s.while at condition body) = nodes_in_expr condition + nodes_in_block body
  nodes_in_stmt (s.for at start condition step body) =
      nodes_in_optional nodes_in_start start + (nodes_in_optional nodes_in_expr condition + (nodes_in_optional nodes_in_simple step + nodes_in_block body))
  nodes_in_stmt (s.return at value) = nodes_in_optional nodes_in_expr value
  nodes_in_stmt (s.delete at pointer) = nodes_in_expr pointer
  nodes_in_stmt (s.print q) = nodes_in_print q
  nodes_in_stmt (s.thread t) = nodes_in_thread t
  nodes_in_stmt (s.abort at) = 0

  pub nodes_in_stmts : s.StmtTrees → ℕ
  nodes_in_stmts s.no_stmts = 0
  nodes_in_stmts (s.more_stmts first rest) = nodes_in_stmt first + nodes_in_stmts rest

  pub nodes_in_block : s.BlockTree → ℕ
  nodes_in_block (s.braces at stmts) = nodes_in_stmts stmts

  pub nodes_in_if : s.IfTree → ℕ
  nodes_in_if (s.chooses at condition body otherwise) = nodes_in_expr condition + (nodes_in_block body + nodes_in_else otherwise)

  pub nodes_in_else : s.ElseTree → ℕ
  nodes_in_else s.no_else = 0
  nodes_in_else (s.else_if i) = nodes_in_if i
  nodes_in_else (s.else_block b) = nodes_in_block b

abbrev pub nodes_in_init : p.InitTree → ℕ
nodes_in_init i = nodes_in_exprs i.arguments

abbrev pub nodes_in_item : p.ItemTree → ℕ
nodes_in_item (p.label at access) = 0
nodes_in_item (p.member m) = 0
nodes_in_item (p.function f) = nodes_in_block f.body
nodes_in_item (p.ctor c) = sum_by nodes_in_init c.inits + nodes_in_block c.body
nodes_in_item (p.dtor d) = nodes_in_block d.body

abbrev pub nodes_in_global : p.GlobalTree → ℕ
nodes_in_global (p.variable v) = 0
nodes_in_global (p.object o) = nodes_in_exprs o.arguments
nodes_in_global (p.mutex at n) = 0

abbrev pub nodes_in_decl : p.DeclTree → ℕ
nodes_in_decl (p.class c) = sum_by nodes_in_item c.items
nodes_in_decl (p.class_name c) = 0
nodes_in_decl (p.free_function f) = nodes_in_block f.body
nodes_in_decl (p.proto f) = 0
nodes_in_decl (p.global g) = nodes_in_global g

abbrev pub nodes_in_program : p.ProgramTree → ℕ
nodes_in_program q = sum_by nodes_in_decl q.decls

-- a count that stays at 2^64 - 1 where there are more
abbrev pub capped : ℕ → ℕ
capped n = min n (2 ^ 64 - 1)

-- the fold that counts nodes
abbrev pub counts : Fold ℕ
counts = record { none = 0; join = λ a b. a + b; node = λ n. 1; name = λ n. 0; type_name = λ t. 0 }

-- how many nodes a program has is what the fold counts
abbrev pub NodesAreFolded : Type 0
NodesAreFolded = (q : p.ProgramTree) → nodes_in_program q ≡ fold_program counts q
