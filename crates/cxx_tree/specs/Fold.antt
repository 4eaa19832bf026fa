-- A fold over trees puts together, in text order, what each leaf of a tree gives: each node, each name with its place
-- and each type with its place. A node stands before its parts, and parts in the order of their line of the grammar.
use Rattle.std.specs.Prelude.{◌≡◌, List, [], ◌∷◌, ◌++◌, Option, Some, None}
use Rattle.agxx_base.specs.declared.ids.NameId.{NameId}
use Rattle.cxx_tree.specs.declared.node.Node.{Node}
use Rattle.cxx_tree.specs.declared.node.Placed.{Placed}
use Rattle.cxx_tree.specs.declared.expr.Ref.{Ref}
use Rattle.cxx_tree.specs.declared.expr.Base.{Base}
use Rattle.cxx_tree.specs.declared.expr.Base.TheVariants as base_of
use Rattle.cxx_tree.specs.declared.expr.Selector.{Selector}
use Rattle.cxx_tree.specs.declared.expr.Left.{Left}
use Rattle.cxx_tree.specs.declared.expr.Left.TheVariants as left_of
use Rattle.cxx_tree.specs.declared.expr.Callee.{Callee}
use Rattle.cxx_tree.specs.declared.expr.Callee.TheVariants as callee_of
use Rattle.cxx_tree.specs.declared.program.TypeName.{TypeName}
use Rattle.cxx_tree.specs.declared.program.Member.{Member}
use Rattle.cxx_tree.specs.declared.program.Param.{Param}
use Rattle.cxx_tree.specs.declared.program.Proto.{Proto}
use Rattle.cxx_tree.specs.declared.program.Variable.{Variable}
use Rattle.cxx_tree.specs.ExprTree as e
use Rattle.cxx_tree.specs.StmtTree as s
use Rattle.cxx_tree.specs.ProgramTree as p
use Rattle.cxx_tree.specs.Map.{Map, map_placed, map_program}

-- what nothing gives, how what two parts give is put together, and what the leaves give
pub record Fold (R : Type 0) : Type 0 where
  pub none : R
  pub join : R → R → R
  pub node : Node → R
  pub name : Placed NameId → R
  pub type_name : Placed TypeName → R

module _ {R : Type 0} (f : Fold R) where
  -- a part that may be missing
  abbrev pub fold_optional : {A : Type 0} → (A → R) → Option A → R
  fold_optional of None = f.none
  fold_optional of (Some part) = of part

  -- parts that follow each other
  abbrev pub fold_each : {A : Type 0} → (A → R) → List A → R
  fold_each of [] = f.none
  fold_each of (first ∷ rest) = f.join (of first) (fold_each of rest)

  -- ---- expressions

  abbrev pub fold_ref : Ref → R
  fold_ref r = f.join (f.node r.node) (f.name r.name)

  abbrev pub fold_base : Base → R
  fold_base base_of.This = f.none
  fold_base (base_of.Dot r) = fold_ref r
  fold_base (base_of.Arrow r) = fold_ref r

  abbrev pub fold_selector : Selector → R
  fold_selector q = f.join (fold_base q.base) (f.name q.name)

  abbrev pub fold_left : Left → R
  fold_left (left_of.Name r) = fold_ref r
  fold_left (left_of.Member n q) = f.join (f.node n) (fold_selector q)
  fold_left (left_of.Result n) = f.node n

  abbrev pub fold_callee : Callee → R
  fold_callee (callee_of.Bare r) = fold_ref r
  fold_callee (callee_of.Member q) = fold_selector q

  abbrev mutual
    pub fold_expr : e.ExprTree → R
    fold_expr (e.lit n value) = f.node n
    fold_expr (e.flag n is_set) = f.node n
    fold_expr (e.null n) = f.node n
    fold_expr (e.this n) = f.node n
    fold_expr (e.left l) = fold_left l
    fold_expr (e.unary n o operand) = f.join (f.node n) (fold_expr operand)
    fold_expr (e.binary n o a b) = f.join (f.node n) (f.join (fold_expr a) (fold_expr b))
    fold_expr (e.paren n inner) = f.join (f.node n) (fold_expr inner)
    fold_expr (e.cast n type_name operand) = f.join (f.node n) (fold_expr operand)
    fold_expr (e.call c) = fold_call c
    fold_expr (e.new n class) = f.join (f.node n) (f.name class)
    fold_expr (e.new_with n class arguments) = f.join (f.node n) (f.join (f.name class) (fold_exprs arguments))

    pub fold_exprs : e.ExprTrees → R
    fold_exprs e.no_exprs = f.none
    fold_exprs (e.more_exprs first rest) = f.join (fold_expr first) (fold_exprs rest)

    pub fold_call : e.CallTree → R
    fold_call (e.calls n callee arguments) = f.join (f.node n) (f.join (fold_callee callee) (fold_exprs arguments))

  -- ---- statements

  abbrev pub fold_initial : s.InitialTree → R
  fold_initial i = fold_expr i.value

  abbrev pub fold_local : s.LocalTree → R
  fold_local l = f.join (f.type_name l.type_name) (f.join (f.name l.name) (fold_optional fold_initial l.initial))

  abbrev pub fold_simple : s.SimpleTree → R
  fold_simple (s.assign a) = f.join (fold_left a.left) (fold_expr a.value)
  fold_simple (s.bump b) = fold_left b.left
  fold_simple (s.call_stmt c) = fold_call c
  fold_simple (s.proceed at) = f.none

  abbrev pub fold_printed : s.PrintedTree → R
  fold_printed (s.text q) = f.none
  fold_printed (s.endl at) = f.none
  fold_printed (s.value v) = fold_expr v

  abbrev pub fold_print : s.PrintTree → R
  fold_print q = fold_each fold_printed q.operands

  abbrev pub fold_thread : s.ThreadTree → R
  fold_thread t = f.join (f.name t.name) (f.join (fold_ref t.function) (fold_exprs t.arguments))

  abbrev pub fold_start : s.StartTree → R
  fold_start (s.start_local l) = fold_local l
  fold_start (s.start_simple i) = fold_simple i

  abbrev mutual
    pub fold_stmt : s.StmtTree → R
    fold_stmt (s.block b) = fold_block b
    fold_stmt (s.local l) = fold_local l
    fold_stmt (s.simple i) = fold_simple i
    fold_stmt (s.branch i) = fold_if i
    fold_stmt (s.while at condition body) = f.join (fold_expr condition) (fold_block body)
    fold_stmt (s.for at start condition step body) =
        f.join (fold_optional fold_start start)
        (f.join (fold_optional fold_expr condition) (f.join (fold_optional fold_simple step) (fold_block body)))
    fold_stmt (s.return at value) = fold_optional fold_expr value
    fold_stmt (s.delete at pointer) = fold_expr pointer
    fold_stmt (s.print q) = fold_print q
    fold_stmt (s.thread t) = fold_thread t
    fold_stmt (s.abort at) = f.none

    pub fold_stmts : s.StmtTrees → R
    fold_stmts s.no_stmts = f.none
    fold_stmts (s.more_stmts first rest) = f.join (fold_stmt first) (fold_stmts rest)

    pub fold_block : s.BlockTree → R
    fold_block (s.braces at stmts) = fold_stmts stmts

    pub fold_if : s.IfTree → R
    fold_if (s.chooses at condition body otherwise) =
        f.join (fold_expr condition) (f.join (fold_block body) (fold_else otherwise))

    pub fold_else : s.ElseTree → R
    fold_else s.no_else = f.none
    fold_else (s.else_if i) = fold_if i
    fold_else (s.else_block b) = fold_block b

  -- ---- declarations

  abbrev pub fold_param : Param → R
  fold_param x = f.join (f.type_name x.type_name) (f.name x.name)

  abbrev pub fold_params : List Param → R
  fold_params = fold_each fold_param

  abbrev pub fold_member : Member → R
  fold_member x = f.join (f.type_name x.type_name) (f.name x.name)

  abbrev pub fold_function : p.FunctionTree → R
  fold_function x =
      f.join (f.type_name x.result) (f.join (f.name x.name) (f.join (fold_params x.params) (fold_block x.body)))

  abbrev pub fold_proto : Proto → R
  fold_proto x = f.join (f.type_name x.result) (f.join (f.name x.name) (fold_params x.params))

  abbrev pub fold_init : p.InitTree → R
  fold_init i = f.join (f.name i.name) (fold_exprs i.arguments)

  abbrev pub fold_ctor : p.CtorTree → R
  fold_ctor c =
      f.join (f.name c.name) (f.join (fold_params c.params) (f.join (fold_each fold_init c.inits) (fold_block c.body)))

  abbrev pub fold_dtor : p.DtorTree → R
  fold_dtor d = f.join (f.name d.name) (fold_block d.body)

  abbrev pub fold_item : p.ItemTree → R
  fold_item (p.label at access) = f.none
  fold_item (p.member x) = fold_member x
  fold_item (p.function x) = fold_function x
  fold_item (p.ctor c) = fold_ctor c
  fold_item (p.dtor d) = fold_dtor d

  abbrev pub fold_class : p.ClassTree → R
  fold_class c = f.join (f.name c.name) (f.join (fold_optional f.name c.base) (fold_each fold_item c.items))

  abbrev pub fold_variable : Variable → R
  fold_variable v = f.join (f.type_name v.type_name) (f.name v.name)

  abbrev pub fold_object : p.ObjectTree → R
  fold_object o = f.join (f.name o.class) (f.join (f.name o.name) (fold_exprs o.arguments))

  abbrev pub fold_global : p.GlobalTree → R
  fold_global (p.variable v) = fold_variable v
  fold_global (p.object o) = fold_object o
  fold_global (p.mutex at name) = f.name name

  abbrev pub fold_decl : p.DeclTree → R
  fold_decl (p.class c) = fold_class c
  fold_decl (p.class_name c) = f.name c.name
  fold_decl (p.free_function x) = fold_function x
  fold_decl (p.proto x) = fold_proto x
  fold_decl (p.global g) = fold_global g

  abbrev pub fold_program : p.ProgramTree → R
  fold_program q = fold_each fold_decl q.decls

-- the fold whose leaves are first mapped
abbrev pub mapped_first : {R : Type 0} → Fold R → Map → Fold R
mapped_first f m = record {
  none = f.none;
  join = f.join;
  node = λ n. f.node (m.node n);
  name = λ n. f.name (map_placed m n);
  type_name = λ t. f.type_name (map_placed m t);
}

-- nothing changes what it is joined to, and parts may be joined in any order that keeps the text
pub record IsMonoid {R : Type 0} (f : Fold R) : Type 0 where
  pub none_left : (a : R) → f.join f.none a ≡ a
  pub none_right : (a : R) → f.join a f.none ≡ a
  pub associative : (a b c : R) → f.join (f.join a b) c ≡ f.join a (f.join b c)

-- the fold of a mapped tree is the fold whose leaves are mapped, and what stands in a row is folded part by part
pub record FoldLaws (R : Type 0) : Type 0 where
  pub of_map : (f : Fold R) (m : Map) (q : p.ProgramTree) → fold_program f (map_program m q) ≡ fold_program (mapped_first f m) q
  pub of_parts : (f : Fold R) → IsMonoid f → (ds others : List p.DeclTree)
      → fold_each f (fold_decl f) (ds ++ others) ≡ f.join (fold_each f (fold_decl f) ds) (fold_each f (fold_decl f) others)
