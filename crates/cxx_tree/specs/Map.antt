-- A map over trees changes their places and the nodes of their expressions and names, and keeps everything else.
use Rattle.std.specs.Prelude.{◌≡◌, ℕ, map, option_map}
use Rattle.agxx_base.specs.declared.place.Place.{Place}
use Rattle.agxx_base.specs.declared.vocabulary.SpecialName.{SpecialName}
use Rattle.cxx_tree.specs.declared.node.Node.{Node}
use Rattle.cxx_tree.specs.declared.node.Placed.{Placed}
use Rattle.cxx_tree.specs.declared.expr.Ref.{Ref}
use Rattle.cxx_tree.specs.declared.expr.Base.{Base}
use Rattle.cxx_tree.specs.declared.expr.Base.TheVariants as base_of
use Rattle.cxx_tree.specs.declared.expr.Selector.{Selector}
use Rattle.cxx_tree.specs.declared.expr.Left.{Left}
use Rattle.cxx_tree.specs.declared.expr.Left.TheVariants as left_of
use Rattle.cxx_tree.specs.declared.expr.Callee.{Callee}
use Rattle.cxx_tree.specs.declared.expr.Callee.TheVariants as callee_of
use Rattle.cxx_tree.specs.declared.node.Quoted.{Quoted}
use Rattle.cxx_tree.specs.declared.stmt.Bump.{Bump}
use Rattle.cxx_tree.specs.declared.program.Member.{Member}
use Rattle.cxx_tree.specs.declared.program.Param.{Param}
use Rattle.cxx_tree.specs.declared.program.Proto.{Proto}
use Rattle.cxx_tree.specs.declared.program.ClassName.{ClassName}
use Rattle.cxx_tree.specs.declared.program.Variable.{Variable}
use Rattle.cxx_tree.specs.ExprTree as e
use Rattle.cxx_tree.specs.StmtTree as s
use Rattle.cxx_tree.specs.ProgramTree as p
use Rattle.cxx_tree.specs.Spelling.{spell_program}

-- what becomes of each place and of each node
pub record Map : Type 0 where
  pub place : Place → Place
  pub node : Node → Node

module _ (m : Map) where
  abbrev pub map_placed : {A : Type 0} → Placed A → Placed A
  map_placed x = record { at = m.place x.at; item = x.item }

  abbrev pub map_ref : Ref → Ref
  map_ref r = record { node = m.node r.node; global = r.global; name = map_placed r.name }

  abbrev pub map_base : Base → Base
  map_base base_of.This = base_of.This
  map_base (base_of.Dot r) = base_of.Dot (map_ref r)
  map_base (base_of.Arrow r) = base_of.Arrow (map_ref r)

  abbrev pub map_selector : Selector → Selector
  map_selector s = record { base = map_base s.base; name = map_placed s.name }

  abbrev pub map_left : Left → Left
  map_left (left_of.Name r) = left_of.Name (map_ref r)
  map_left (left_of.Member n selector) = left_of.Member (m.node n) (map_selector selector)
  map_left (left_of.Result n) = left_of.Result (m.node n)

  abbrev pub map_callee : Callee → Callee
  map_callee (callee_of.Bare r) = callee_of.Bare (map_ref r)
  map_callee (callee_of.Member s) = callee_of.Member (map_selector s)

  abbrev mutual
    pub map_expr : e.ExprTree → e.ExprTree
    map_expr (e.lit n value) = e.lit (m.node n) value
    map_expr (e.flag n is_set) = e.flag (m.node n) is_set
    map_expr (e.null n) = e.null (m.node n)
    map_expr (e.this n) = e.this (m.node n)
    map_expr (e.left l) = e.left (map_left l)
    map_expr (e.unary n o operand) = e.unary (m.node n) o (map_expr operand)
    map_expr (e.binary n o a b) = e.binary (m.node n) (map_placed o) (map_expr a) (map_expr b)
    map_expr (e.paren n inner) = e.paren (m.node n) (map_expr inner)
    map_expr (e.cast n type_name operand) = e.cast (m.node n) type_name (map_expr operand)
    map_expr (e.call c) = e.call (map_call c)
    map_expr (e.new n class) = e.new (m.node n) (map_placed class)
    map_expr (e.new_with n class arguments) = e.new_with (m.node n) (map_placed class) (map_exprs arguments)

    pub map_exprs : e.ExprTrees → e.ExprTrees
    map_exprs e.no_exprs = e.no_exprs
    map_exprs (e.more_exprs first rest) = e.more_exprs (map_expr first) (map_exprs rest)

    pub map_call : e.CallTree → e.CallTree
    map_call (e.calls n callee arguments) = e.calls (m.node n) (map_callee callee) (map_exprs arguments)

  abbrev pub map_quoted : Quoted → Quoted
  map_quoted q = record { at = m.place q.at; bytes = q.bytes }

  abbrev pub map_initial : s.InitialTree → s.InitialTree
  map_initial i = record { sign = m.place i.sign; value = map_expr i.value }

  abbrev pub map_local : s.LocalTree → s.LocalTree
  map_local l = record { type_name = map_placed l.type_name; name = map_placed l.name; initial = option_map map_initial l.initial }

  abbrev pub map_assign : s.AssignTree → s.AssignTree
  map_assign a = record { left = map_left a.left; sign = map_placed a.sign; value = map_expr a.value }

  abbrev pub map_bump : Bump → Bump
  map_bump b = record { left = map_left b.left; sign = m.place b.sign; adds = b.adds; in_front = b.in_front }

  abbrev pub map_simple : s.SimpleTree → s.SimpleTree
  map_simple (s.assign a) = s.assign (map_assign a)
  map_simple (s.bump b) = s.bump (map_bump b)
  map_simple (s.call_stmt c) = s.call_stmt (map_call c)
  map_simple (s.proceed at) = s.proceed (m.place at)

  abbrev pub map_printed : s.PrintedTree → s.PrintedTree
  map_printed (s.text q) = s.text (map_quoted q)
  map_printed (s.endl at) = s.endl (m.place at)
  map_printed (s.value v) = s.value (map_expr v)

  abbrev pub map_print : s.PrintTree → s.PrintTree
  map_print q = record { at = m.place q.at; operands = map map_printed q.operands }

  abbrev pub map_thread : s.ThreadTree → s.ThreadTree
  map_thread t =
      record { at = m.place t.at; name = map_placed t.name; function = map_ref t.function; arguments = map_exprs t.arguments }

  abbrev pub map_start : s.StartTree → s.StartTree
  map_start (s.start_local l) = s.start_local (map_local l)
  map_start (s.start_simple i) = s.start_simple (map_simple i)

  abbrev mutual
    pub map_stmt : s.StmtTree → s.StmtTree
    map_stmt (s.block b) = s.block (map_block b)
    map_stmt (s.local l) = s.local (map_local l)
    map_stmt (s.simple i) = s.simple (map_simple i)
    map_stmt (s.branch i) = s.branch (map_if i)
    map_stmt (s.while at condition body) = s.while (m.place at) (map_expr condition) (map_block body)
    map_stmt (s.for at start condition step body) =
        s.for (m.place at) (option_map map_start start) (option_map map_expr condition) (option_map map_simple step) (map_block body)
    map_stmt (s.return at value) = s.return (m.place at) (option_map map_expr value)
    map_stmt (s.delete at pointer) = s.delete (m.place at) (map_expr pointer)
    map_stmt (s.print q) = s.print (map_print q)
    map_stmt (s.thread t) = s.thread (map_thread t)
    map_stmt (s.abort at) = s.abort (m.place at)

    pub map_stmts : s.StmtTrees → s.StmtTrees
    map_stmts s.no_stmts = s.no_stmts
    map_stmts (s.more_stmts first rest) = s.more_stmts (map_stmt first) (map_stmts rest)

    pub map_block : s.BlockTree → s.BlockTree
    map_block (s.braces at stmts) = s.braces (m.place at) (map_stmts stmts)

    pub map_if : s.IfTree → s.IfTree
    map_if (s.chooses at condition body otherwise) = s.chooses (m.place at) (map_expr condition) (map_block body) (map_else otherwise)

    pub map_else : s.ElseTree → s.ElseTree
    map_else s.no_else = s.no_else
    map_else (s.else_if i) = s.else_if (map_if i)
    map_else (s.else_block b) = s.else_block (map_block b)

  abbrev pub map_param : Param → Param
  map_param q = record { type_name = map_placed q.type_name; name = map_placed q.name }

  abbrev pub map_member : Member → Member
  map_member x = record { type_name = map_placed x.type_name; name = map_placed x.name }

  abbrev pub map_function : p.FunctionTree → p.FunctionTree
  map_function f =
      record { result = map_placed f.result; name = map_placed f.name; params = map map_param f.params; body = map_block f.body }

  abbrev pub map_proto : Proto → Proto
  map_proto f = record { result = map_placed f.result; name = map_placed f.name; params = map map_param f.params }

  abbrev pub map_init : p.InitTree → p.InitTree
  map_init i = record { name = map_placed i.name; arguments = map_exprs i.arguments }

  abbrev pub map_ctor : p.CtorTree → p.CtorTree
  map_ctor c =
      record { name = map_placed c.name; params = map map_param c.params; inits = map map_init c.inits; body = map_block c.body }

  abbrev pub map_dtor : p.DtorTree → p.DtorTree
  map_dtor d = record { at = m.place d.at; name = map_placed d.name; body = map_block d.body }

  abbrev pub map_item : p.ItemTree → p.ItemTree
  map_item (p.label at access) = p.label (m.place at) access
  map_item (p.member x) = p.member (map_member x)
  map_item (p.function f) = p.function (map_function f)
  map_item (p.ctor c) = p.ctor (map_ctor c)
  map_item (p.dtor d) = p.dtor (map_dtor d)

  abbrev pub map_class : p.ClassTree → p.ClassTree
  map_class c =
      record { at = m.place c.at; word = c.word; name = map_placed c.name; base = option_map map_placed c.base; items = map map_item c.items }

  abbrev pub map_class_name : ClassName → ClassName
  map_class_name c = record { at = m.place c.at; word = c.word; name = map_placed c.name }

  abbrev pub map_variable : Variable → Variable
  map_variable v =
      record { type_name = map_placed v.type_name; name = map_placed v.name; initial = option_map map_placed v.initial }

  abbrev pub map_object : p.ObjectTree → p.ObjectTree
  map_object o = record { class = map_placed o.class; name = map_placed o.name; arguments = map_exprs o.arguments }

  abbrev pub map_global : p.GlobalTree → p.GlobalTree
  map_global (p.variable v) = p.variable (map_variable v)
  map_global (p.object o) = p.object (map_object o)
  map_global (p.mutex at n) = p.mutex (m.place at) (map_placed n)

  abbrev pub map_decl : p.DeclTree → p.DeclTree
  map_decl (p.class c) = p.class (map_class c)
  map_decl (p.class_name c) = p.class_name (map_class_name c)
  map_decl (p.free_function f) = p.free_function (map_function f)
  map_decl (p.proto f) = p.proto (map_proto f)
  map_decl (p.global g) = p.global (map_global g)

  abbrev pub map_program : p.ProgramTree → p.ProgramTree
  map_program q = record { at = m.place q.at; directives = q.directives; decls = map map_decl q.decls }

-- the map that leaves all as it is
abbrev pub unchanged : Map
unchanged = record { place = λ at. at; node = λ n. n }

-- one map after another
abbrev pub after : Map → Map → Map
after second first = record { place = λ at. second.place (first.place at); node = λ n. second.node (first.node n) }

-- maps compose, and a map keeps each token
pub record MapLaws : Type 0 where
  pub identity : (q : p.ProgramTree) → map_program unchanged q ≡ q
  pub composition : (second first : Map) (q : p.ProgramTree) → map_program second (map_program first q) ≡ map_program (after second first) q
  pub tokens : (special : SpecialName → ℕ) (m : Map) (q : p.ProgramTree) → spell_program special (map_program m q) ≡ spell_program special q
