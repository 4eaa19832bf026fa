-- Members that a program reaches, and its `bool` members, as it is gone through.
use Rattle.std.specs.Prelude.{List, Option, slice_get, if◌then◌else◌}
use Rattle.agxx_base.specs.declared.fault.Refusal.{Refusal}
use Rattle.agxx_base.specs.declared.place.Place.{Place}
use Rattle.agxx_base.specs.declared.rule.Rule.TheVariants as rule
use Rattle.cxx_tree.specs.declared.node.Node.{Node}
use Rattle.cxx_tree.specs.declared.expr.Base.{Base}
use Rattle.cxx_tree.specs.declared.expr.Base.TheVariants as base_of
use Rattle.cxx_tree.specs.declared.expr.Left.{Left}
use Rattle.cxx_tree.specs.declared.expr.Left.TheVariants as left_of
use Rattle.cxx_tree.specs.declared.expr.Selector.{Selector}
use Rattle.cxx_tree.specs.ExprTree as e
use Rattle.cxx_tree.specs.ExprTree.{ExprTree, ExprTrees, CallTree}
use Rattle.cxx_tree.specs.StmtTree as s
use Rattle.cxx_tree.specs.StmtTree.{InitialTree, LocalTree, SimpleTree, PrintedTree, StartTree, StmtTree, StmtTrees, BlockTree, IfTree, ElseTree}
use Rattle.cxx_tree.specs.ProgramTree as p
use Rattle.cxx_tree.specs.ProgramTree.{InitTree, ItemTree, GlobalTree, DeclTree}
use Rattle.cxx_types.specs.declared.entry.Meaning.{Meaning}
use Rattle.cxx_types.specs.declared.entry.Meaning.TheVariants as meaning
use Rattle.cxx_types.specs.Typing.{meaning_by}
use Rattle.guards.specs.declared.guard.Guard.{Guard}
use Rattle.guard_rules.specs.Parts.{Known, class_is_guarded, is_guarded, places_of}
use Rattle.guard_rules.specs.BoolMember.{bool_at}
use Rattle.guard_rules.specs.Nearest.{with_violation, nearest, through_each, through_optional}

-- ---- `bool` members

abbrev pub through_bools : List Guard → DeclTree → Option Refusal → Option Refusal
through_bools guards (p.class k) found =
    if is_guarded guards k.name.item then nearest rule.P2 found (places_of bool_at k.items) else found
through_bools guards _ found = found

-- ---- members that are reached

abbrev pub through_meaning : Known → Meaning → Place → Option Refusal → Option Refusal
through_meaning k (meaning.Member class name) at found =
    if class_is_guarded k.guards k.declared class then with_violation rule.P1 at found else found
through_meaning k _ at found = found

abbrev pub through_node : Known → Node → Place → Option Refusal → Option Refusal
through_node k n at found = through_meaning k (meaning_by (slice_get k.entries n.id.0)) at found

abbrev pub through_selector : Known → Node → Selector → Base → Option Refusal → Option Refusal
through_selector k n q base_of.This found = found
through_selector k n q (base_of.Dot r) found = through_node k n q.name.at found
through_selector k n q (base_of.Arrow r) found = through_node k n q.name.at found

abbrev pub through_left : Known → Left → Option Refusal → Option Refusal
through_left k (left_of.Name r) found = found
through_left k (left_of.Member n q) found = through_selector k n q q.base found
through_left k (left_of.Result n) found = found

abbrev mutual
  pub through_expr : Known → ExprTree → Option Refusal → Option Refusal
  through_expr k (e.lit n number) found = found
  through_expr k (e.flag n is_set) found = found
  through_expr k (e.null n) found = found
  through_expr k (e.this n) found = found
  through_expr k (e.left l) found = through_left k l found
  through_expr k (e.unary n o x) found = through_expr k x found
  through_expr k (e.binary n o a b) found = through_expr k b (through_expr k a found)
  through_expr k (e.paren n x) found = through_expr k x found
  through_expr k (e.cast n t x) found = through_expr k x found
  through_expr k (e.call c) found = through_call k c found
  through_expr k (e.new n class) found = found
  through_expr k (e.new_with n class arguments) found = through_exprs k arguments found

  pub through_exprs : Known → ExprTrees → Option Refusal → Option Refusal
  through_exprs k e.no_exprs found = found
  through_exprs k (e.more_exprs first rest) found = through_exprs k rest (through_expr k first found)

  pub through_call : Known → CallTree → Option Refusal → Option Refusal
  through_call k (e.calls n callee arguments) found = through_exprs k arguments found

abbrev pub through_initial : Known → InitialTree → Option Refusal → Option Refusal
through_initial k i found = through_expr k i.value found

abbrev pub through_local : Known → LocalTree → Option Refusal → Option Refusal
through_local k l found = through_optional (through_initial k) l.initial found

abbrev pub through_simple : Known → SimpleTree → Option Refusal → Option Refusal
through_simple k (s.assign a) found = through_expr k a.value (through_left k a.left found)
through_simple k (s.bump b) found = through_left k b.left found
through_simple k (s.call_stmt c) found = through_call k c found
through_simple k (s.proceed at) found = found

abbrev pub through_printed : Known → PrintedTree → Option Refusal → Option Refusal
through_printed k (s.text q) found = found
through_printed k (s.endl at) found = found
through_printed k (s.value x) found = through_expr k x found

abbrev pub through_start : Known → StartTree → Option Refusal → Option Refusal
through_start k (s.start_local l) found = through_local k l found
through_start k (s.start_simple i) found = through_simple k i found

abbrev mutual
  pub through_stmt : Known → StmtTree → Option Refusal → Option Refusal
  through_stmt k (s.block b) found = through_block k b found
  through_stmt k (s.local l) found = through_local k l found
  through_stmt k (s.simple i) found = through_simple k i found
  through_stmt k (s.branch i) found = through_if k i found
  through_stmt k (s.while at x body) found = through_block k body (through_expr k x found)
  through_stmt k (s.for at first x i body) found =
      through_block k body
      (through_optional (through_simple k) i (through_optional (through_expr k) x (through_optional (through_start k) first found)))
  through_stmt k (s.return at x) found = through_optional (through_expr k) x found
  through_stmt k (s.delete at x) found = through_expr k x found
  through_stmt k (s.print q) found = through_each (through_printed k) q.operands found
  through_stmt k (s.thread t) found = through_exprs k t.arguments found
  through_stmt k (s.abort at) found = found

  pub through_stmts : Known → StmtTrees → Option Refusal → Option Refusal
  through_stmts k s.no_stmts found = found
  through_stmts k (s.more_stmts first rest) found = through_stmts k rest (through_stmt k first found)

  pub through_block : Known → BlockTree → Option Refusal → Option Refusal
  through_block k (s.braces at ss) found = through_stmts k ss found

  pub through_if : Known → IfTree → Option Refusal → Option Refusal
  through_if k (s.chooses at x body otherwise) found = through_else k otherwise (through_block k body (through_expr k x found))

  pub through_else : Known → ElseTree → Option Refusal → Option Refusal
  through_else k s.no_else found = found
  through_else k (s.else_if i) found = through_if k i found
  through_else k (s.else_block b) found = through_block k b found

abbrev pub through_init : Known → InitTree → Option Refusal → Option Refusal
through_init k i found = through_exprs k i.arguments found

abbrev pub through_item : Known → ItemTree → Option Refusal → Option Refusal
through_item k (p.label at a) found = found
through_item k (p.member m) found = found
through_item k (p.function f) found = through_block k f.body found
through_item k (p.ctor c) found = through_block k c.body (through_each (through_init k) c.inits found)
through_item k (p.dtor d) found = through_block k d.body found

abbrev pub through_global : Known → GlobalTree → Option Refusal → Option Refusal
through_global k (p.variable v) found = found
through_global k (p.object o) found = through_exprs k o.arguments found
through_global k (p.mutex at name) found = found

abbrev pub through_decl : Known → DeclTree → Option Refusal → Option Refusal
through_decl k (p.class c) found = through_each (through_item k) c.items found
through_decl k (p.class_name c) found = found
through_decl k (p.free_function f) found = through_block k f.body found
through_decl k (p.proto f) found = found
through_decl k (p.global g) found = through_global k g found
