-- Numbers of nodes in text order: a walk whose state is the next number. Each function gives a part new numbers from a
-- first one on, and the number after the last. A node stands before its parts, and its parts stand in the order of their
-- line of the grammar.
use Rattle.std.specs.Prelude.{ℕ, suc, List, Option}
use Rattle.cxx_tree.specs.declared.node.Node.{Node}
use Rattle.cxx_tree.specs.declared.expr.Ref.{Ref}
use Rattle.cxx_tree.specs.declared.expr.Base.{Base}
use Rattle.cxx_tree.specs.declared.expr.Selector.{Selector}
use Rattle.cxx_tree.specs.declared.expr.Left.{Left}
use Rattle.cxx_tree.specs.declared.expr.Callee.{Callee}
use Rattle.cxx_tree.specs.declared.stmt.Bump.{Bump}
use Rattle.cxx_tree.specs.ExprTree as e
use Rattle.cxx_tree.specs.StmtTree as s
use Rattle.cxx_tree.specs.ProgramTree as p
use Rattle.cxx_tree.specs.Walk as w
use Rattle.cxx_tree.specs.Walk.{Walk, walk_optional, walk_each, walk_program}

abbrev pub Numbering : Type 0 → Type 0
Numbering = Walk ℕ

abbrev pub numbered : Node → ℕ → Node
numbered n k = record { at = n.at; id = record { 0 = k } }

abbrev pub number_node : Numbering Node
number_node n k = (numbered n k, suc k)

-- a part that may be missing
abbrev pub number_optional : {A : Type 0} → Numbering A → Numbering (Option A)
number_optional number = walk_optional number

-- parts that follow each other
abbrev pub number_each : {A : Type 0} → Numbering A → Numbering (List A)
number_each number = walk_each number

-- ---- expressions

abbrev pub number_ref : Numbering Ref
number_ref = w.walk_ref number_node

abbrev pub number_base : Numbering Base
number_base = w.walk_base number_node

abbrev pub number_selector : Numbering Selector
number_selector = w.walk_selector number_node

abbrev pub number_left : Numbering Left
number_left = w.walk_left number_node

abbrev pub number_callee : Numbering Callee
number_callee = w.walk_callee number_node

abbrev pub number_expr : Numbering e.ExprTree
number_expr = w.walk_expr number_node

abbrev pub number_exprs : Numbering e.ExprTrees
number_exprs = w.walk_exprs number_node

abbrev pub number_call : Numbering e.CallTree
number_call = w.walk_call number_node

-- ---- statements

abbrev pub number_initial : Numbering s.InitialTree
number_initial = w.walk_initial number_node

abbrev pub number_local : Numbering s.LocalTree
number_local = w.walk_local number_node

abbrev pub number_assign : Numbering s.AssignTree
number_assign = w.walk_assign number_node

abbrev pub number_bump : Numbering Bump
number_bump = w.walk_bump number_node

abbrev pub number_simple : Numbering s.SimpleTree
number_simple = w.walk_simple number_node

abbrev pub number_printed : Numbering s.PrintedTree
number_printed = w.walk_printed number_node

abbrev pub number_print : Numbering s.PrintTree
number_print = w.walk_print number_node

abbrev pub number_thread : Numbering s.ThreadTree
number_thread = w.walk_thread number_node

abbrev pub number_start : Numbering s.StartTree
number_start = w.walk_start number_node

abbrev pub number_stmt : Numbering s.StmtTree
number_stmt = w.walk_stmt number_node

abbrev pub number_stmts : Numbering s.StmtTrees
number_stmts = w.walk_stmts number_node

abbrev pub number_block : Numbering s.BlockTree
number_block = w.walk_block number_node

abbrev pub number_if : Numbering s.IfTree
number_if = w.walk_if number_node

abbrev pub number_else : Numbering s.ElseTree
number_else = w.walk_else number_node

-- ---- declarations

abbrev pub number_function : Numbering p.FunctionTree
number_function = w.walk_function number_node

abbrev pub number_init : Numbering p.InitTree
number_init = w.walk_init number_node

abbrev pub number_ctor : Numbering p.CtorTree
number_ctor = w.walk_ctor number_node

abbrev pub number_dtor : Numbering p.DtorTree
number_dtor = w.walk_dtor number_node

abbrev pub number_item : Numbering p.ItemTree
number_item = w.walk_item number_node

abbrev pub number_class : Numbering p.ClassTree
number_class = w.walk_class number_node

abbrev pub number_object : Numbering p.ObjectTree
number_object = w.walk_object number_node

abbrev pub number_global : Numbering p.GlobalTree
number_global = w.walk_global number_node

abbrev pub number_decl : Numbering p.DeclTree
number_decl = w.walk_decl number_node

-- a program's numbers begin with 0
abbrev pub numbered_program : p.ProgramTree → p.ProgramTree
numbered_program q = (walk_program number_node q 0).0
