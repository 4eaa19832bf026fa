-- Trees with all places and numbers of nodes taken out of them, by a map.
use Rattle.agxx_base.specs.declared.place.Place.{Place}
use Rattle.cxx_tree.specs.declared.node.Node.{Node}
use Rattle.cxx_tree.specs.declared.node.Placed.{Placed}
use Rattle.cxx_tree.specs.declared.expr.Ref.{Ref}
use Rattle.cxx_tree.specs.declared.expr.Base.{Base}
use Rattle.cxx_tree.specs.declared.expr.Selector.{Selector}
use Rattle.cxx_tree.specs.declared.expr.Left.{Left}
use Rattle.cxx_tree.specs.declared.expr.Callee.{Callee}
use Rattle.cxx_tree.specs.declared.node.Quoted.{Quoted}
use Rattle.cxx_tree.specs.declared.stmt.Bump.{Bump}
use Rattle.cxx_tree.specs.declared.program.Member.{Member}
use Rattle.cxx_tree.specs.declared.program.Param.{Param}
use Rattle.cxx_tree.specs.declared.program.Proto.{Proto}
use Rattle.cxx_tree.specs.declared.program.ClassName.{ClassName}
use Rattle.cxx_tree.specs.declared.program.Variable.{Variable}
use Rattle.cxx_tree.specs.ExprTree as e
use Rattle.cxx_tree.specs.StmtTree as s
use Rattle.cxx_tree.specs.ProgramTree as p
use Rattle.cxx_tree.specs.Map as to
use Rattle.cxx_tree.specs.Map.{Map}

abbrev pub no_place : Place
no_place = record { file = 0; line = 0; column = 0 }

abbrev pub no_node : Node
no_node = record { at = no_place; id = record { 0 = 0 } }

abbrev pub blanks : Map
blanks = record { place = λ at. no_place; node = λ n. no_node }

abbrev pub blank_placed : {A : Type 0} → Placed A → Placed A
blank_placed x = to.map_placed blanks x

abbrev pub blank_ref : Ref → Ref
blank_ref = to.map_ref blanks

abbrev pub blank_base : Base → Base
blank_base = to.map_base blanks

abbrev pub blank_selector : Selector → Selector
blank_selector = to.map_selector blanks

abbrev pub blank_left : Left → Left
blank_left = to.map_left blanks

abbrev pub blank_callee : Callee → Callee
blank_callee = to.map_callee blanks

abbrev pub blank_expr : e.ExprTree → e.ExprTree
blank_expr = to.map_expr blanks

abbrev pub blank_exprs : e.ExprTrees → e.ExprTrees
blank_exprs = to.map_exprs blanks

abbrev pub blank_call : e.CallTree → e.CallTree
blank_call = to.map_call blanks

abbrev pub blank_quoted : Quoted → Quoted
blank_quoted = to.map_quoted blanks

abbrev pub blank_initial : s.InitialTree → s.InitialTree
blank_initial = to.map_initial blanks

abbrev pub blank_local : s.LocalTree → s.LocalTree
blank_local = to.map_local blanks

abbrev pub blank_assign : s.AssignTree → s.AssignTree
blank_assign = to.map_assign blanks

abbrev pub blank_bump : Bump → Bump
blank_bump = to.map_bump blanks

abbrev pub blank_simple : s.SimpleTree → s.SimpleTree
blank_simple = to.map_simple blanks

abbrev pub blank_printed : s.PrintedTree → s.PrintedTree
blank_printed = to.map_printed blanks

abbrev pub blank_print : s.PrintTree → s.PrintTree
blank_print = to.map_print blanks

abbrev pub blank_thread : s.ThreadTree → s.ThreadTree
blank_thread = to.map_thread blanks

abbrev pub blank_start : s.StartTree → s.StartTree
blank_start = to.map_start blanks

abbrev pub blank_stmt : s.StmtTree → s.StmtTree
blank_stmt = to.map_stmt blanks

abbrev pub blank_stmts : s.StmtTrees → s.StmtTrees
blank_stmts = to.map_stmts blanks

abbrev pub blank_block : s.BlockTree → s.BlockTree
blank_block = to.map_block blanks

abbrev pub blank_if : s.IfTree → s.IfTree
blank_if = to.map_if blanks

abbrev pub blank_else : s.ElseTree → s.ElseTree
blank_else = to.map_else blanks

abbrev pub blank_param : Param → Param
blank_param = to.map_param blanks

abbrev pub blank_member : Member → Member
blank_member = to.map_member blanks

abbrev pub blank_function : p.FunctionTree → p.FunctionTree
blank_function = to.map_function blanks

abbrev pub blank_proto : Proto → Proto
blank_proto = to.map_proto blanks

abbrev pub blank_init : p.InitTree → p.InitTree
blank_init = to.map_init blanks

abbrev pub blank_ctor : p.CtorTree → p.CtorTree
blank_ctor = to.map_ctor blanks

abbrev pub blank_dtor : p.DtorTree → p.DtorTree
blank_dtor = to.map_dtor blanks

abbrev pub blank_item : p.ItemTree → p.ItemTree
blank_item = to.map_item blanks

abbrev pub blank_class : p.ClassTree → p.ClassTree
blank_class = to.map_class blanks

abbrev pub blank_class_name : ClassName → ClassName
blank_class_name = to.map_class_name blanks

abbrev pub blank_variable : Variable → Variable
blank_variable = to.map_variable blanks

abbrev pub blank_object : p.ObjectTree → p.ObjectTree
blank_object = to.map_object blanks

abbrev pub blank_global : p.GlobalTree → p.GlobalTree
blank_global = to.map_global blanks

abbrev pub blank_decl : p.DeclTree → p.DeclTree
blank_decl = to.map_decl blanks

abbrev pub blank_program : p.ProgramTree → p.ProgramTree
blank_program = to.map_program blanks
