-- Going through a program finds the members that the lists have.
use Rattle.std.proofs.Common.{◌≡◌, refl, Bool, true, false, List, [], ◌∷◌, ◌++◌, slice_get, Option, Some, None, if◌then◌else◌}
use Rattle.agxx_base.specs.declared.fault.Refusal.{Refusal}
use Rattle.agxx_base.specs.declared.place.Place.{Place}
use Rattle.agxx_base.specs.declared.rule.Rule.{Rule}
use Rattle.agxx_base.specs.declared.rule.Rule.TheVariants as rule
use Rattle.cxx_tree.specs.declared.node.Node.{Node}
use Rattle.cxx_tree.specs.declared.expr.Base.{Base}
use Rattle.cxx_tree.specs.declared.expr.Base.TheVariants as base_of
use Rattle.cxx_tree.specs.declared.expr.Left.{Left}
use Rattle.cxx_tree.specs.declared.expr.Left.TheVariants as left_of
use Rattle.cxx_tree.specs.declared.expr.Selector.{Selector}
use Rattle.cxx_tree.specs.ExprTree as e
use Rattle.cxx_tree.specs.ExprTree.{ExprTree, ExprTrees, CallTree}
use Rattle.cxx_tree.specs.StmtTree as s
use Rattle.cxx_tree.specs.StmtTree.{LocalTree, SimpleTree, PrintedTree, StartTree, StmtTree, StmtTrees, BlockTree, IfTree, ElseTree}
use Rattle.cxx_tree.specs.ProgramTree as p
use Rattle.cxx_tree.specs.ProgramTree.{InitTree, ItemTree, DeclTree}
use Rattle.cxx_types.specs.declared.entry.Meaning.{Meaning}
use Rattle.cxx_types.specs.declared.entry.Meaning.TheVariants as meaning
use Rattle.cxx_types.specs.Typing.{meaning_by}
use Rattle.guards.specs.declared.guard.Guard.{Guard}
use Rattle.guard_rules.specs.Parts.{Known, class_is_guarded, is_guarded, places_of, in_each}
use Rattle.guard_rules.specs.BoolMember.{bool_at, bools_in}
use Rattle.guard_rules.specs.Nearest.{nearest, through_each, through_optional}
use Rattle.guard_rules.specs.ThroughMembers as to
use Rattle.guard_rules.proofs.ReachedByNodes as of
use Rattle.guard_rules.proofs.Nearest.{one_by_one, each_nearest}

if-found : (rule : Rule) (b : Bool) (o last : Option Refusal) (ats : List Place) → last ≡ nearest rule o ats → (if b then last else o) ≡ nearest rule o (if b then ats else [])
if-found rule true o last ats e = e
if-found rule false o last ats e = refl

pub bools_through : (guards : List Guard) (x : DeclTree) (o : Option Refusal) → to.through_bools guards x o ≡ nearest rule.P2 o (bools_in guards x)
bools_through guards (p.class k) o = if-found rule.P2 (is_guarded guards k.name.item) o _ (places_of bool_at k.items) refl
bools_through guards (p.class_name k) o = refl
bools_through guards (p.free_function f) o = refl
bools_through guards (p.proto f) o = refl
bools_through guards (p.global g) o = refl

module _ (k : Known) where
  -- what stands for the first of what is found, and for the places in a list
  abbrev Finds : {A : Type 0} → (A → Option Refusal → Option Refusal) → (A → List Place) → A → Type 0
  Finds through places x = (o : Option Refusal) → through x o ≡ nearest rule.P1 o (places x)

  next : (o first last : Option Refusal) (a b : List Place) → first ≡ nearest rule.P1 o a → last ≡ nearest rule.P1 first b → last ≡ nearest rule.P1 o (a ++ b)
  next = one_by_one rule.P1

  by-meaning : (i : Meaning) (at : Place) (o : Option Refusal) → to.through_meaning k i at o ≡ nearest rule.P1 o (of.reached_by k i at)
  by-meaning (meaning.Local name) at o = refl
  by-meaning (meaning.Member class name) at o = if-found rule.P1 (class_is_guarded k.guards k.declared class) o _ (at ∷ []) refl
  by-meaning (meaning.Global name) at o = refl
  by-meaning (meaning.Function f) at o = refl
  by-meaning meaning.Other at o = refl

  behind : (n : Node) (q : Selector) (b : Base) (o : Option Refusal) → to.through_selector k n q b o ≡ nearest rule.P1 o (of.reached_behind k n q b)
  behind n q base_of.This o = refl
  behind n q (base_of.Dot r) o = by-meaning (meaning_by (slice_get k.entries n.id.0)) q.name.at o
  behind n q (base_of.Arrow r) o = by-meaning (meaning_by (slice_get k.entries n.id.0)) q.name.at o

  left : (l : Left) → Finds (to.through_left k) (of.reached_in_left k) l
  left (left_of.Name r) o = refl
  left (left_of.Member n q) o = behind n q q.base o
  left (left_of.Result n) o = refl

  mutual
    expr : (x : ExprTree) → Finds (to.through_expr k) (of.reached_in k) x
    expr (e.lit n number) o = refl
    expr (e.flag n is_set) o = refl
    expr (e.null n) o = refl
    expr (e.this n) o = refl
    expr (e.left l) o = left l o
    expr (e.unary n op x) o = expr x o
    expr (e.binary n op a b) o = next o (to.through_expr k a o) _ (of.reached_in k a) (of.reached_in k b) (expr a o) (expr b (to.through_expr k a o))
    expr (e.paren n x) o = expr x o
    expr (e.cast n t x) o = expr x o
    expr (e.call c) o = call c o
    expr (e.new n class) o = refl
    expr (e.new_with n class xs) o = exprs xs o

    exprs : (xs : ExprTrees) → Finds (to.through_exprs k) (of.reached_in_exprs k) xs
    exprs e.no_exprs o = refl
    exprs (e.more_exprs x xs) o = next o (to.through_expr k x o) _ (of.reached_in k x) (of.reached_in_exprs k xs) (expr x o) (exprs xs (to.through_expr k x o))

    call : (c : CallTree) → Finds (to.through_call k) (of.reached_in_call k) c
    call (e.calls n callee xs) o = exprs xs o

  optional : {A : Type 0} (through : A → Option Refusal → Option Refusal) (places : A → List Place) → ((x : A) → Finds through places x)
      → (x : Option A) → Finds (through_optional through) (of.reached_in_optional places) x
  optional through places each None o = refl
  optional through places each (Some x) o = each x o

  local : (l : LocalTree) → Finds (to.through_local k) (of.reached_in_local k) l
  local l o = optional (to.through_initial k) (of.reached_in_initial k) (λ i o. expr i.value o) l.initial o

  simple : (i : SimpleTree) → Finds (to.through_simple k) (of.reached_in_simple k) i
  simple (s.assign a) o = next o (to.through_left k a.left o) _ (of.reached_in_left k a.left) (of.reached_in k a.value) (left a.left o) (expr a.value (to.through_left k a.left o))
  simple (s.bump b) o = left b.left o
  simple (s.call_stmt c) o = call c o
  simple (s.proceed at) o = refl

  printed : (x : PrintedTree) → Finds (to.through_printed k) (of.reached_in_printed k) x
  printed (s.text q) o = refl
  printed (s.endl at) o = refl
  printed (s.value x) o = expr x o

  start : (x : StartTree) → Finds (to.through_start k) (of.reached_in_start k) x
  start (s.start_local l) o = local l o
  start (s.start_simple i) o = simple i o

  mutual
    stmt : (x : StmtTree) → Finds (to.through_stmt k) (of.reached_in_stmt k) x
    stmt (s.block b) o = block b o
    stmt (s.local l) o = local l o
    stmt (s.simple i) o = simple i o
    stmt (s.branch i) o = branch i o
    stmt (s.while at x body) o = next o (to.through_expr k x o) _ (of.reached_in k x) (of.reached_in_block k body) (expr x o) (block body (to.through_expr k x o))
    stmt (s.for at first x i body) o =
        let a = through_optional (to.through_start k) first o in
        let b = through_optional (to.through_expr k) x a in
        let c = through_optional (to.through_simple k) i b in
        let xs = of.reached_in_optional (of.reached_in k) x in
        let is = of.reached_in_optional (of.reached_in_simple k) i in
        let bs = of.reached_in_block k body in
        next o a _ (of.reached_in_optional (of.reached_in_start k) first) (xs ++ (is ++ bs)) (optional (to.through_start k) (of.reached_in_start k) start first o)
        (next a b _ xs (is ++ bs) (optional (to.through_expr k) (of.reached_in k) expr x a)
        (next b c _ is bs (optional (to.through_simple k) (of.reached_in_simple k) simple i b) (block body c)))
    stmt (s.return at x) o = optional (to.through_expr k) (of.reached_in k) expr x o
    stmt (s.delete at x) o = expr x o
    stmt (s.print q) o = each_nearest rule.P1 (to.through_printed k) (of.reached_in_printed k) printed q.operands o
    stmt (s.thread t) o = exprs t.arguments o
    stmt (s.abort at) o = refl

    stmts : (xs : StmtTrees) → Finds (to.through_stmts k) (of.reached_in_stmts k) xs
    stmts s.no_stmts o = refl
    stmts (s.more_stmts x xs) o = next o (to.through_stmt k x o) _ (of.reached_in_stmt k x) (of.reached_in_stmts k xs) (stmt x o) (stmts xs (to.through_stmt k x o))

    block : (b : BlockTree) → Finds (to.through_block k) (of.reached_in_block k) b
    block (s.braces at xs) o = stmts xs o

    branch : (i : IfTree) → Finds (to.through_if k) (of.reached_in_if k) i
    branch (s.chooses at x body otherwise) o =
        let a = to.through_expr k x o in
        let b = to.through_block k body a in
        next o a _ (of.reached_in k x) (of.reached_in_block k body ++ of.reached_in_else k otherwise) (expr x o)
        (next a b _ (of.reached_in_block k body) (of.reached_in_else k otherwise) (block body a) (otherwise-of otherwise b))

    otherwise-of : (x : ElseTree) → Finds (to.through_else k) (of.reached_in_else k) x
    otherwise-of s.no_else o = refl
    otherwise-of (s.else_if i) o = branch i o
    otherwise-of (s.else_block b) o = block b o

  init : (i : InitTree) → Finds (to.through_init k) (of.reached_in_init k) i
  init i o = exprs i.arguments o

  item : (x : ItemTree) → Finds (to.through_item k) (of.reached_in_item k) x
  item (p.label at a) o = refl
  item (p.member m) o = refl
  item (p.function f) o = block f.body o
  item (p.ctor c) o =
      let a = through_each (to.through_init k) c.inits o in
      next o a _ (in_each (of.reached_in_init k) c.inits) (of.reached_in_block k c.body) (each_nearest rule.P1 (to.through_init k) (of.reached_in_init k) init c.inits o) (block c.body a)
  item (p.dtor d) o = block d.body o

  pub decl_through : (x : DeclTree) → Finds (to.through_decl k) (of.reached_in_decl k) x
  decl_through (p.class c) o = each_nearest rule.P1 (to.through_item k) (of.reached_in_item k) item c.items o
  decl_through (p.class_name c) o = refl
  decl_through (p.free_function f) o = block f.body o
  decl_through (p.proto f) o = refl
  decl_through (p.global (p.variable v)) o = refl
  decl_through (p.global (p.object x)) o = exprs x.arguments o
  decl_through (p.global (p.mutex at name)) o = refl
