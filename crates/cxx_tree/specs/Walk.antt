-- A walk through trees meets their nodes in text order with a state: it makes of each node and the state before it
-- another node and the next state, and keeps everything else.
use Rattle.std.specs.Prelude.{◌≡◌, List, [], ◌∷◌, Option, Some, None}
use Rattle.agxx_base.specs.declared.ids.NameId.{NameId}
use Rattle.cxx_tree.specs.declared.node.Node.{Node}
use Rattle.cxx_tree.specs.declared.node.Placed.{Placed}
use Rattle.cxx_tree.specs.declared.expr.Ref.{Ref}
use Rattle.cxx_tree.specs.declared.expr.Base.{Base}
use Rattle.cxx_tree.specs.declared.expr.Base.TheVariants as base_of
use Rattle.cxx_tree.specs.declared.expr.Selector.{Selector}
use Rattle.cxx_tree.specs.declared.expr.Left.{Left}
use Rattle.cxx_tree.specs.declared.expr.Left.TheVariants as left_of
use Rattle.cxx_tree.specs.declared.expr.Callee.{Callee}
use Rattle.cxx_tree.specs.declared.expr.Callee.TheVariants as callee_of
use Rattle.cxx_tree.specs.declared.stmt.Bump.{Bump}
use Rattle.cxx_tree.specs.declared.program.TypeName.{TypeName}
use Rattle.cxx_tree.specs.ExprTree as e
use Rattle.cxx_tree.specs.StmtTree as s
use Rattle.cxx_tree.specs.ProgramTree as p
use Rattle.cxx_tree.specs.Map.{Map, map_program}
use Rattle.cxx_tree.specs.Fold.{Fold, fold_program}

-- what is made of a part and a state: the part as the walk leaves it, and the state behind it
abbrev pub Walk : Type 0 → Type 0 → Type 0
Walk S A = A → S → A × S

-- a part that may be missing
abbrev pub walk_optional : {S A : Type 0} → Walk S A → Walk S (Option A)
walk_optional walk None k = (None, k)
walk_optional walk (Some part) k = let x = walk part k in (Some x.0, x.1)

-- parts that follow each other
abbrev pub walk_each : {S A : Type 0} → Walk S A → Walk S (List A)
walk_each walk [] k = ([], k)
walk_each walk (first ∷ rest) k = let x = walk first k in let y = walk_each walk rest x.1 in (x.0 ∷ y.0, y.1)

module _ {S : Type 0} (node : Walk S Node) where
  -- ---- expressions

  abbrev pub walk_ref : Walk S Ref
  walk_ref r k = let x = node r.node k in (record r { node = x.0 }, x.1)

  abbrev pub walk_base : Walk S Base
  walk_base base_of.This k = (base_of.This, k)
  walk_base (base_of.Dot r) k = let x = walk_ref r k in (base_of.Dot x.0, x.1)
  walk_base (base_of.Arrow r) k = let x = walk_ref r k in (base_of.Arrow x.0, x.1)

  abbrev pub walk_selector : Walk S Selector
  walk_selector q k = let x = walk_base q.base k in (record q { base = x.0 }, x.1)

  abbrev pub walk_left : Walk S Left
  walk_left (left_of.Name r) k = let x = walk_ref r k in (left_of.Name x.0, x.1)
  walk_left (left_of.Member n q) k = let w = node n k in let x = walk_selector q w.1 in (left_of.Member w.0 x.0, x.1)
  walk_left (left_of.Result n) k = let w = node n k in (left_of.Result w.0, w.1)

  abbrev pub walk_callee : Walk S Callee
  walk_callee (callee_of.Bare r) k = let x = walk_ref r k in (callee_of.Bare x.0, x.1)
  walk_callee (callee_of.Member q) k = let x = walk_selector q k in (callee_of.Member x.0, x.1)

  abbrev mutual
    pub walk_expr : Walk S e.ExprTree
    walk_expr (e.lit n value) k = let w = node n k in (e.lit w.0 value, w.1)
    walk_expr (e.flag n is_set) k = let w = node n k in (e.flag w.0 is_set, w.1)
    walk_expr (e.null n) k = let w = node n k in (e.null w.0, w.1)
    walk_expr (e.this n) k = let w = node n k in (e.this w.0, w.1)
    walk_expr (e.left l) k = let x = walk_left l k in (e.left x.0, x.1)
    walk_expr (e.unary n o operand) k = let w = node n k in let x = walk_expr operand w.1 in (e.unary w.0 o x.0, x.1)
    walk_expr (e.binary n o a b) k =
        let w = node n k in
        let x = walk_expr a w.1 in
        let y = walk_expr b x.1 in (e.binary w.0 o x.0 y.0, y.1)
    walk_expr (e.paren n inner) k = let w = node n k in let x = walk_expr inner w.1 in (e.paren w.0 x.0, x.1)
    walk_expr (e.cast n type_name operand) k =
        let w = node n k in let x = walk_expr operand w.1 in (e.cast w.0 type_name x.0, x.1)
    walk_expr (e.call c) k = let x = walk_call c k in (e.call x.0, x.1)
    walk_expr (e.new n class) k = let w = node n k in (e.new w.0 class, w.1)
    walk_expr (e.new_with n class arguments) k =
        let w = node n k in let x = walk_exprs arguments w.1 in (e.new_with w.0 class x.0, x.1)

    pub walk_exprs : Walk S e.ExprTrees
    walk_exprs e.no_exprs k = (e.no_exprs, k)
    walk_exprs (e.more_exprs first rest) k =
        let x = walk_expr first k in let y = walk_exprs rest x.1 in (e.more_exprs x.0 y.0, y.1)

    pub walk_call : Walk S e.CallTree
    walk_call (e.calls n callee arguments) k =
        let w = node n k in
        let x = walk_callee callee w.1 in
        let y = walk_exprs arguments x.1 in (e.calls w.0 x.0 y.0, y.1)

  -- ---- statements

  abbrev pub walk_initial : Walk S s.InitialTree
  walk_initial i k = let x = walk_expr i.value k in (record i { value = x.0 }, x.1)

  abbrev pub walk_local : Walk S s.LocalTree
  walk_local l k = let x = walk_optional walk_initial l.initial k in (record l { initial = x.0 }, x.1)

  abbrev pub walk_assign : Walk S s.AssignTree
  walk_assign a k =
      let x = walk_left a.left k in let y = walk_expr a.value x.1 in (record a { left = x.0; value = y.0 }, y.1)

  abbrev pub walk_bump : Walk S Bump
  walk_bump b k = let x = walk_left b.left k in (record b { left = x.0 }, x.1)

  abbrev pub walk_simple : Walk S s.SimpleTree
  walk_simple (s.assign a) k = let x = walk_assign a k in (s.assign x.0, x.1)
  walk_simple (s.bump b) k = let x = walk_bump b k in (s.bump x.0, x.1)
  walk_simple (s.call_stmt c) k = let x = walk_call c k in (s.call_stmt x.0, x.1)
  walk_simple (s.proceed at) k = (s.proceed at, k)

  abbrev pub walk_printed : Walk S s.PrintedTree
  walk_printed (s.text q) k = (s.text q, k)
  walk_printed (s.endl at) k = (s.endl at, k)
  walk_printed (s.value v) k = let x = walk_expr v k in (s.value x.0, x.1)

  abbrev pub walk_print : Walk S s.PrintTree
  walk_print q k = let x = walk_each walk_printed q.operands k in (record q { operands = x.0 }, x.1)

  abbrev pub walk_thread : Walk S s.ThreadTree
  walk_thread t k =
      let x = walk_ref t.function k in
      let y = walk_exprs t.arguments x.1 in (record t { function = x.0; arguments = y.0 }, y.1)

  abbrev pub walk_start : Walk S s.StartTree
  walk_start (s.start_local l) k = let x = walk_local l k in (s.start_local x.0, x.1)
  walk_start (s.start_simple i) k = let x = walk_simple i k in (s.start_simple x.0, x.1)

  abbrev mutual
    pub walk_stmt : Walk S s.StmtTree
    walk_stmt (s.block b) k = let x = walk_block b k in (s.block x.0, x.1)
    walk_stmt (s.local l) k = let x = walk_local l k in (s.local x.0, x.1)
    walk_stmt (s.simple i) k = let x = walk_simple i k in (s.simple x.0, x.1)
    walk_stmt (s.branch i) k = let x = walk_if i k in (s.branch x.0, x.1)
    walk_stmt (s.while at condition body) k =
        let x = walk_expr condition k in let y = walk_block body x.1 in (s.while at x.0 y.0, y.1)
    walk_stmt (s.for at start condition step body) k =
        let a = walk_optional walk_start start k in
        let b = walk_optional walk_expr condition a.1 in
        let c = walk_optional walk_simple step b.1 in
        let d = walk_block body c.1 in (s.for at a.0 b.0 c.0 d.0, d.1)
    walk_stmt (s.return at value) k = let x = walk_optional walk_expr value k in (s.return at x.0, x.1)
    walk_stmt (s.delete at pointer) k = let x = walk_expr pointer k in (s.delete at x.0, x.1)
    walk_stmt (s.print q) k = let x = walk_print q k in (s.print x.0, x.1)
    walk_stmt (s.thread t) k = let x = walk_thread t k in (s.thread x.0, x.1)
    walk_stmt (s.abort at) k = (s.abort at, k)

    pub walk_stmts : Walk S s.StmtTrees
    walk_stmts s.no_stmts k = (s.no_stmts, k)
    walk_stmts (s.more_stmts first rest) k =
        let x = walk_stmt first k in let y = walk_stmts rest x.1 in (s.more_stmts x.0 y.0, y.1)

    pub walk_block : Walk S s.BlockTree
    walk_block (s.braces at stmts) k = let x = walk_stmts stmts k in (s.braces at x.0, x.1)

    pub walk_if : Walk S s.IfTree
    walk_if (s.chooses at condition body otherwise) k =
        let a = walk_expr condition k in
        let b = walk_block body a.1 in
        let c = walk_else otherwise b.1 in (s.chooses at a.0 b.0 c.0, c.1)

    pub walk_else : Walk S s.ElseTree
    walk_else s.no_else k = (s.no_else, k)
    walk_else (s.else_if i) k = let x = walk_if i k in (s.else_if x.0, x.1)
    walk_else (s.else_block b) k = let x = walk_block b k in (s.else_block x.0, x.1)

  -- ---- declarations

  abbrev pub walk_function : Walk S p.FunctionTree
  walk_function f k = let x = walk_block f.body k in (record f { body = x.0 }, x.1)

  abbrev pub walk_init : Walk S p.InitTree
  walk_init i k = let x = walk_exprs i.arguments k in (record i { arguments = x.0 }, x.1)

  abbrev pub walk_ctor : Walk S p.CtorTree
  walk_ctor c k =
      let x = walk_each walk_init c.inits k in
      let y = walk_block c.body x.1 in (record c { inits = x.0; body = y.0 }, y.1)

  abbrev pub walk_dtor : Walk S p.DtorTree
  walk_dtor d k = let x = walk_block d.body k in (record d { body = x.0 }, x.1)

  abbrev pub walk_item : Walk S p.ItemTree
  walk_item (p.label at access) k = (p.label at access, k)
  walk_item (p.member m) k = (p.member m, k)
  walk_item (p.function f) k = let x = walk_function f k in (p.function x.0, x.1)
  walk_item (p.ctor c) k = let x = walk_ctor c k in (p.ctor x.0, x.1)
  walk_item (p.dtor d) k = let x = walk_dtor d k in (p.dtor x.0, x.1)

  abbrev pub walk_class : Walk S p.ClassTree
  walk_class c k = let x = walk_each walk_item c.items k in (record c { items = x.0 }, x.1)

  abbrev pub walk_object : Walk S p.ObjectTree
  walk_object o k = let x = walk_exprs o.arguments k in (record o { arguments = x.0 }, x.1)

  abbrev pub walk_global : Walk S p.GlobalTree
  walk_global (p.variable v) k = (p.variable v, k)
  walk_global (p.object o) k = let x = walk_object o k in (p.object x.0, x.1)
  walk_global (p.mutex at n) k = (p.mutex at n, k)

  abbrev pub walk_decl : Walk S p.DeclTree
  walk_decl (p.class c) k = let x = walk_class c k in (p.class x.0, x.1)
  walk_decl (p.class_name c) k = (p.class_name c, k)
  walk_decl (p.free_function f) k = let x = walk_function f k in (p.free_function x.0, x.1)
  walk_decl (p.proto f) k = (p.proto f, k)
  walk_decl (p.global g) k = let x = walk_global g k in (p.global x.0, x.1)

  abbrev pub walk_program : Walk S p.ProgramTree
  walk_program q k = let x = walk_each walk_decl q.decls k in (record q { decls = x.0 }, x.1)

-- a map takes no notice of what a walk makes of a node
abbrev pub IsUnseen : {S : Type 0} → Walk S Node → Map → Type 0
IsUnseen {S} node m = (n : Node) (k : S) → m.node (node n k).0 ≡ m.node n

-- the state goes on, from leaf to leaf, by what a fold says of them
pub record IsFolded {S R : Type 0} (node : Walk S Node) (f : Fold R) (next : S → R → S) : Type 0 where
  pub of_none : (k : S) → next k f.none ≡ k
  pub of_join : (k : S) (a b : R) → next k (f.join a b) ≡ next (next k a) b
  pub of_node : (k : S) (n : Node) → next k (f.node n) ≡ (node n k).1
  pub of_name : (k : S) (n : Placed NameId) → next k (f.name n) ≡ k
  pub of_type_name : (k : S) (t : Placed TypeName) → next k (f.type_name t) ≡ k

-- a walk changes what a map doesn't see, and its last state is what a fold says
pub record WalkLaws (S R : Type 0) : Type 0 where
  pub unseen : (node : Walk S Node) (m : Map) → IsUnseen node m
      → (q : p.ProgramTree) (k : S) → map_program m (walk_program node q k).0 ≡ map_program m q
  pub folded : (node : Walk S Node) (f : Fold R) (next : S → R → S) → IsFolded node f next
      → (q : p.ProgramTree) (k : S) → (walk_program node q k).1 ≡ next k (fold_program f q)
