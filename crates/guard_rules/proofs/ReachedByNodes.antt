-- Where members that guarded classes declare are reached otherwise than by their bare names or by `this->`, by what is known
-- of the nodes of a program.
use Rattle.std.specs.Prelude.{List, [], ◌∷◌, ◌++◌, Option, Some, None, slice_get, if◌then◌else◌}
use Rattle.agxx_base.specs.declared.place.Place.{Place}
use Rattle.cxx_tree.specs.declared.node.Node.{Node}
use Rattle.cxx_tree.specs.declared.expr.Base.{Base}
use Rattle.cxx_tree.specs.declared.expr.Base.TheVariants as base_of
use Rattle.cxx_tree.specs.declared.expr.Left.{Left}
use Rattle.cxx_tree.specs.declared.expr.Left.TheVariants as left_of
use Rattle.cxx_tree.specs.declared.expr.Selector.{Selector}
use Rattle.cxx_tree.specs.ExprTree as e
use Rattle.cxx_tree.specs.ExprTree.{ExprTree, ExprTrees, CallTree}
use Rattle.cxx_tree.specs.StmtTree as s
use Rattle.cxx_tree.specs.StmtTree.{InitialTree, LocalTree, SimpleTree, PrintedTree, StartTree, StmtTree, StmtTrees, BlockTree, IfTree, ElseTree}
use Rattle.cxx_tree.specs.ProgramTree as p
use Rattle.cxx_tree.specs.ProgramTree.{InitTree, ItemTree, GlobalTree, DeclTree, ProgramTree}
use Rattle.cxx_types.specs.declared.entry.Meaning.{Meaning}
use Rattle.cxx_types.specs.declared.entry.Meaning.TheVariants as meaning
use Rattle.cxx_types.specs.Typing.{meaning_by}
use Rattle.guard_rules.specs.Parts.{Known, class_is_guarded, in_each}

-- ---- by what is known of nodes

abbrev pub reached_by : Known → Meaning → Place → List Place
reached_by k (meaning.Member class name) at = if class_is_guarded k.guards k.declared class then at ∷ [] else []
reached_by k _ at = []

-- the member that a node means
abbrev pub reached_at : Known → Node → Place → List Place
reached_at k n at = reached_by k (meaning_by (slice_get k.entries n.id.0)) at

abbrev pub reached_behind : Known → Node → Selector → Base → List Place
reached_behind k n q base_of.This = []
reached_behind k n q (base_of.Dot r) = reached_at k n q.name.at
reached_behind k n q (base_of.Arrow r) = reached_at k n q.name.at

abbrev pub reached_in_left : Known → Left → List Place
reached_in_left k (left_of.Name r) = []
reached_in_left k (left_of.Member n q) = reached_behind k n q q.base
reached_in_left k (left_of.Result n) = []

abbrev mutual
  pub reached_in : Known → ExprTree → List Place
  reached_in k (e.lit n number) = []
  reached_in k (e.flag n is_set) = []
  reached_in k (e.null n) = []
  reached_in k (e.this n) = []
  reached_in k (e.left l) = reached_in_left k l
  reached_in k (e.unary n o x) = reached_in k x
  reached_in k (e.binary n o a b) = reached_in k a ++ reached_in k b
  reached_in k (e.paren n x) = reached_in k x
  reached_in k (e.cast n t x) = reached_in k x
  reached_in k (e.call c) = reached_in_call k c
  reached_in k (e.new n class) = []
  reached_in k (e.new_with n class arguments) = reached_in_exprs k arguments

  pub reached_in_exprs : Known → ExprTrees → List Place
  reached_in_exprs k e.no_exprs = []
  reached_in_exprs k (e.more_exprs first rest) = reached_in k first ++ reached_in_exprs k rest

  pub reached_in_call : Known → CallTree → List Place
  reached_in_call k (e.calls n callee arguments) = reached_in_exprs k arguments

-- in a part that may be missing
abbrev pub reached_in_optional : {A : Type 0} → (A → List Place) → Option A → List Place
reached_in_optional reached None = []
reached_in_optional reached (Some part) = reached part

abbrev pub reached_in_initial : Known → InitialTree → List Place
reached_in_initial k i = reached_in k i.value

abbrev pub reached_in_local : Known → LocalTree → List Place
reached_in_local k l = reached_in_optional (reached_in_initial k) l.initial

abbrev pub reached_in_simple : Known → SimpleTree → List Place
reached_in_simple k (s.assign a) = reached_in_left k a.left ++ reached_in k a.value
reached_in_simple k (s.bump b) = reached_in_left k b.left
reached_in_simple k (s.call_stmt c) = reached_in_call k c
reached_in_simple k (s.proceed at) = []

abbrev pub reached_in_printed : Known → PrintedTree → List Place
reached_in_printed k (s.text q) = []
reached_in_printed k (s.endl at) = []
reached_in_printed k (s.value x) = reached_in k x

abbrev pub reached_in_start : Known → StartTree → List Place
reached_in_start k (s.start_local l) = reached_in_local k l
reached_in_start k (s.start_simple i) = reached_in_simple k i

abbrev mutual
  pub reached_in_stmt : Known → StmtTree → List Place
  reached_in_stmt k (s.block b) = reached_in_block k b
  reached_in_stmt k (s.local l) = reached_in_local k l
  reached_in_stmt k (s.simple i) = reached_in_simple k i
  reached_in_stmt k (s.branch i) = reached_in_if k i
  reached_in_stmt k (s.while at x body) = reached_in k x ++ reached_in_block k body
  reached_in_stmt k (s.for at first x i body) =
      reached_in_optional (reached_in_start k) first
      ++ (reached_in_optional (reached_in k) x
      ++ (reached_in_optional (reached_in_simple k) i ++ reached_in_block k body))
  reached_in_stmt k (s.return at x) = reached_in_optional (reached_in k) x
  reached_in_stmt k (s.delete at x) = reached_in k x
  reached_in_stmt k (s.print q) = in_each (reached_in_printed k) q.operands
  reached_in_stmt k (s.thread t) = reached_in_exprs k t.arguments
  reached_in_stmt k (s.abort at) = []

  pub reached_in_stmts : Known → StmtTrees → List Place
  reached_in_stmts k s.no_stmts = []
  reached_in_stmts k (s.more_stmts first rest) = reached_in_stmt k first ++ reached_in_stmts k rest

  pub reached_in_block : Known → BlockTree → List Place
  reached_in_block k (s.braces at ss) = reached_in_stmts k ss

  pub reached_in_if : Known → IfTree → List Place
  reached_in_if k (s.chooses at x body otherwise) = reached_in k x ++ (reached_in_block k body ++ reached_in_else k otherwise)

  pub reached_in_else : Known → ElseTree → List Place
  reached_in_else k s.no_else = []
  reached_in_else k (s.else_if i) = reached_in_if k i
  reached_in_else k (s.else_block b) = reached_in_block k b

abbrev pub reached_in_init : Known → InitTree → List Place
reached_in_init k i = reached_in_exprs k i.arguments

abbrev pub reached_in_item : Known → ItemTree → List Place
reached_in_item k (p.label at a) = []
reached_in_item k (p.member m) = []
reached_in_item k (p.function f) = reached_in_block k f.body
reached_in_item k (p.ctor c) = in_each (reached_in_init k) c.inits ++ reached_in_block k c.body
reached_in_item k (p.dtor d) = reached_in_block k d.body

abbrev pub reached_in_global : Known → GlobalTree → List Place
reached_in_global k (p.variable v) = []
reached_in_global k (p.object o) = reached_in_exprs k o.arguments
reached_in_global k (p.mutex at name) = []

abbrev pub reached_in_decl : Known → DeclTree → List Place
reached_in_decl k (p.class c) = in_each (reached_in_item k) c.items
reached_in_decl k (p.class_name c) = []
reached_in_decl k (p.free_function f) = reached_in_block k f.body
reached_in_decl k (p.proto f) = []
reached_in_decl k (p.global g) = reached_in_global k g

abbrev pub reached_in_program : Known → ProgramTree → List Place
reached_in_program k q = in_each (reached_in_decl k) q.decls
