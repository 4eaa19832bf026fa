-- A map keeps each token, so that trees that are the same but for places and numbers of nodes are spelled alike.
use Rattle.std.proofs.Common.{◌≡◌, ℕ, List, [], ◌∷◌, ◌++◌, map, Option, Some, None, option_map, refl, sym, ap, ◌∙◌}
use Rattle.std.specs.List.{flat_map}
use Rattle.agxx_base.specs.declared.vocabulary.SpecialName.{SpecialName}
use Rattle.cxx_tree.specs.declared.expr.Base.{Base}
use Rattle.cxx_tree.specs.declared.expr.Base.TheVariants as base_of
use Rattle.cxx_tree.specs.declared.expr.Selector.{Selector}
use Rattle.cxx_tree.specs.declared.expr.Left.{Left}
use Rattle.cxx_tree.specs.declared.expr.Left.TheVariants as left_of
use Rattle.cxx_tree.specs.declared.expr.Callee.{Callee}
use Rattle.cxx_tree.specs.declared.expr.Callee.TheVariants as callee_of
use Rattle.cxx_tree.specs.declared.stmt.Bump.{Bump}
use Rattle.cxx_tree.specs.declared.program.Param.{Param}
use Rattle.cxx_tree.specs.declared.program.Proto.{Proto}
use Rattle.cxx_tree.specs.declared.program.Variable.{Variable}
use Rattle.cxx_tree.specs.Words.{Word, optional}
use Rattle.cxx_tree.specs.Spelling as w
use Rattle.cxx_tree.specs.Map as to
use Rattle.cxx_tree.specs.Map.{Map}
use Rattle.cxx_tree.specs.Blank.{blanks}
use Rattle.cxx_tree.specs.Same.{IsSame}
use Rattle.cxx_tree.specs.ExprTree as e
use Rattle.cxx_tree.specs.StmtTree as s
use Rattle.cxx_tree.specs.ProgramTree as p

map-same : {A B : Type 0} (f : A → B) (g : A → A) → ((x : A) → f (g x) ≡ f x) → (xs : List A) → map f (map g xs) ≡ map f xs
map-same f g each [] = refl
map-same f g each (x ∷ xs) = cc (each x, map-same f g each xs)

flat_map-same : {A B : Type 0} (f : A → List B) (g : A → A) → ((x : A) → f (g x) ≡ f x) → (xs : List A) → flat_map f (map g xs) ≡ flat_map f xs
flat_map-same f g each [] = refl
flat_map-same f g each (x ∷ xs) = cc (each x, flat_map-same f g each xs)

optional-same : {A : Type 0} (f : A → List Word) (g : A → A) → ((x : A) → f (g x) ≡ f x) → (o : Option A) → optional f (option_map g o) ≡ optional f o
optional-same f g each None = refl
optional-same f g each (Some x) = each x

module _ (m : Map) where
  spell_base-same : (b : Base) → w.spell_base (to.map_base m b) ≡ w.spell_base b
  spell_base-same base_of.This = refl
  spell_base-same (base_of.Dot r) = refl
  spell_base-same (base_of.Arrow r) = refl

  spell_selector-same : (q : Selector) → w.spell_selector (to.map_selector m q) ≡ w.spell_selector q
  spell_selector-same q = ap (λ b. b ++ w.spell_name q.name) (spell_base-same q.base)

  spell_callee-same : (c : Callee) → w.spell_callee (to.map_callee m c) ≡ w.spell_callee c
  spell_callee-same (callee_of.Bare r) = refl
  spell_callee-same (callee_of.Member q) = spell_selector-same q

  module _ (special : SpecialName → ℕ) where
    spell_left-same : (l : Left) → w.spell_left special (to.map_left m l) ≡ w.spell_left special l
    spell_left-same (left_of.Name r) = refl
    spell_left-same (left_of.Member n q) = spell_selector-same q
    spell_left-same (left_of.Result n) = refl

    mutual
      spell_expr-same : (t : e.ExprTree) → w.spell_expr special (to.map_expr m t) ≡ w.spell_expr special t
      spell_expr-same (e.lit n value) = refl
      spell_expr-same (e.flag n is_set) = refl
      spell_expr-same (e.null n) = refl
      spell_expr-same (e.this n) = refl
      spell_expr-same (e.left l) = spell_left-same l
      spell_expr-same (e.unary n o operand) = cc (spell_expr-same operand)
      spell_expr-same (e.binary n o a b) = cc (spell_expr-same a, spell_expr-same b)
      spell_expr-same (e.paren n inner) = cc (spell_expr-same inner)
      spell_expr-same (e.cast n type_name operand) = cc (spell_expr-same operand)
      spell_expr-same (e.call c) = spell_call-same c
      spell_expr-same (e.new n class) = refl
      spell_expr-same (e.new_with n class arguments) = cc (spell_each-same arguments)

      spell_each-same : (ts : e.ExprTrees) → w.spell_each special (to.map_exprs m ts) ≡ w.spell_each special ts
      spell_each-same e.no_exprs = refl
      spell_each-same (e.more_exprs first rest) = cc (spell_expr-same first, spell_each-same rest)

      spell_call-same : (c : e.CallTree) → w.spell_call special (to.map_call m c) ≡ w.spell_call special c
      spell_call-same (e.calls n callee arguments) = cc (spell_callee-same callee, spell_each-same arguments)

    spell_initial-same : (i : s.InitialTree) → w.spell_initial special (to.map_initial m i) ≡ w.spell_initial special i
    spell_initial-same i = cc (spell_expr-same i.value)

    spell_local-same : (l : s.LocalTree) → w.spell_local special (to.map_local m l) ≡ w.spell_local special l
    spell_local-same l = cc (optional-same (w.spell_initial special) (to.map_initial m) spell_initial-same l.initial)

    spell_bump-same : (b : Bump) → w.spell_bump special (to.map_bump m b) ≡ w.spell_bump special b
    spell_bump-same b = cc (spell_left-same b.left)

    spell_simple-same : (i : s.SimpleTree) → w.spell_simple special (to.map_simple m i) ≡ w.spell_simple special i
    spell_simple-same (s.assign a) = cc (spell_left-same a.left, spell_expr-same a.value)
    spell_simple-same (s.bump b) = spell_bump-same b
    spell_simple-same (s.call_stmt c) = spell_call-same c
    spell_simple-same (s.proceed at) = refl

    spell_printed-same : (q : s.PrintedTree) → w.spell_printed special (to.map_printed m q) ≡ w.spell_printed special q
    spell_printed-same (s.text q) = refl
    spell_printed-same (s.endl at) = refl
    spell_printed-same (s.value v) = cc (spell_expr-same v)

    spell_print-same : (q : s.PrintTree) → w.spell_print special (to.map_print m q) ≡ w.spell_print special q
    spell_print-same q = cc (flat_map-same (w.spell_printed special) (to.map_printed m) spell_printed-same q.operands)

    spell_thread-same : (t : s.ThreadTree) → w.spell_thread special (to.map_thread m t) ≡ w.spell_thread special t
    spell_thread-same t = cc (spell_each-same t.arguments)

    spell_start-same : (t : s.StartTree) → w.spell_start special (to.map_start m t) ≡ w.spell_start special t
    spell_start-same (s.start_local l) = spell_local-same l
    spell_start-same (s.start_simple i) = spell_simple-same i

    mutual
      spell_stmt-same : (t : s.StmtTree) → w.spell_stmt special (to.map_stmt m t) ≡ w.spell_stmt special t
      spell_stmt-same (s.block b) = spell_block-same b
      spell_stmt-same (s.local l) = cc (spell_local-same l)
      spell_stmt-same (s.simple i) = cc (spell_simple-same i)
      spell_stmt-same (s.branch i) = spell_if-same i
      spell_stmt-same (s.while at condition body) = cc (spell_expr-same condition, spell_block-same body)
      spell_stmt-same (s.for at start condition step body) =
          cc (
            optional-same (w.spell_start special) (to.map_start m) spell_start-same start,
            optional-same (w.spell_expr special) (to.map_expr m) spell_expr-same condition,
            optional-same (w.spell_simple special) (to.map_simple m) spell_simple-same step,
            spell_block-same body,
          )
      spell_stmt-same (s.return at value) = cc (optional-same (w.spell_expr special) (to.map_expr m) spell_expr-same value)
      spell_stmt-same (s.delete at pointer) = cc (spell_expr-same pointer)
      spell_stmt-same (s.print q) = cc (spell_print-same q)
      spell_stmt-same (s.thread t) = cc (spell_thread-same t)
      spell_stmt-same (s.abort at) = refl

      spell_stmts-same : (ts : s.StmtTrees) → w.spell_stmts special (to.map_stmts m ts) ≡ w.spell_stmts special ts
      spell_stmts-same s.no_stmts = refl
      spell_stmts-same (s.more_stmts first rest) = cc (spell_stmt-same first, spell_stmts-same rest)

      spell_block-same : (b : s.BlockTree) → w.spell_block special (to.map_block m b) ≡ w.spell_block special b
      spell_block-same (s.braces at stmts) = cc (spell_stmts-same stmts)

      spell_if-same : (i : s.IfTree) → w.spell_if special (to.map_if m i) ≡ w.spell_if special i
      spell_if-same (s.chooses at condition body otherwise) = cc (spell_expr-same condition, spell_block-same body, spell_else-same otherwise)

      spell_else-same : (t : s.ElseTree) → w.spell_else special (to.map_else m t) ≡ w.spell_else special t
      spell_else-same s.no_else = refl
      spell_else-same (s.else_if i) = cc (spell_if-same i)
      spell_else-same (s.else_block b) = cc (spell_block-same b)

    spell_params-same : (qs : List Param) → w.spell_params special (map (to.map_param m) qs) ≡ w.spell_params special qs
    spell_params-same qs = cc (map-same (w.spell_param special) (to.map_param m) (λ q. refl) qs)

    spell_function-same : (f : p.FunctionTree) → w.spell_function special (to.map_function m f) ≡ w.spell_function special f
    spell_function-same f = cc (spell_params-same f.params, spell_block-same f.body)

    spell_proto-same : (f : Proto) → w.spell_proto special (to.map_proto m f) ≡ w.spell_proto special f
    spell_proto-same f = cc (spell_params-same f.params)

    spell_init-same : (i : p.InitTree) → w.spell_init special (to.map_init m i) ≡ w.spell_init special i
    spell_init-same i = cc (spell_each-same i.arguments)

    spell_inits-same : (is : List p.InitTree) → w.spell_inits special (map (to.map_init m) is) ≡ w.spell_inits special is
    spell_inits-same [] = refl
    spell_inits-same (first ∷ rest) = cc (map-same (w.spell_init special) (to.map_init m) spell_init-same (first ∷ rest))

    spell_ctor-same : (c : p.CtorTree) → w.spell_ctor special (to.map_ctor m c) ≡ w.spell_ctor special c
    spell_ctor-same c = cc (spell_params-same c.params, spell_inits-same c.inits, spell_block-same c.body)

    spell_dtor-same : (d : p.DtorTree) → w.spell_dtor special (to.map_dtor m d) ≡ w.spell_dtor special d
    spell_dtor-same d = cc (spell_block-same d.body)

    spell_item-same : (i : p.ItemTree) → w.spell_item special (to.map_item m i) ≡ w.spell_item special i
    spell_item-same (p.label at access) = refl
    spell_item-same (p.member m) = refl
    spell_item-same (p.function f) = spell_function-same f
    spell_item-same (p.ctor c) = spell_ctor-same c
    spell_item-same (p.dtor d) = spell_dtor-same d

    spell_class-same : (c : p.ClassTree) → w.spell_class special (to.map_class m c) ≡ w.spell_class special c
    spell_class-same c =
        cc (
          optional-same w.spell_public_base (to.map_placed m) (λ b. refl) c.base,
          flat_map-same (w.spell_item special) (to.map_item m) spell_item-same c.items,
        )

    spell_variable-same : (v : Variable) → w.spell_variable special (to.map_variable m v) ≡ w.spell_variable special v
    spell_variable-same v = cc (optional-same (w.spell_constant special) (to.map_placed m) (λ c. refl) v.initial)

    spell_object_arguments-same : (ts : e.ExprTrees) → w.spell_object_arguments special (to.map_exprs m ts) ≡ w.spell_object_arguments special ts
    spell_object_arguments-same e.no_exprs = refl
    spell_object_arguments-same (e.more_exprs first rest) = cc (spell_each-same (e.more_exprs first rest))

    spell_global-same : (g : p.GlobalTree) → w.spell_global special (to.map_global m g) ≡ w.spell_global special g
    spell_global-same (p.variable v) = spell_variable-same v
    spell_global-same (p.object o) = cc (spell_object_arguments-same o.arguments)
    spell_global-same (p.mutex at n) = refl

    spell_decl-same : (d : p.DeclTree) → w.spell_decl special (to.map_decl m d) ≡ w.spell_decl special d
    spell_decl-same (p.class c) = spell_class-same c
    spell_decl-same (p.class_name c) = refl
    spell_decl-same (p.free_function f) = spell_function-same f
    spell_decl-same (p.proto f) = spell_proto-same f
    spell_decl-same (p.global g) = spell_global-same g

    pub spell_program-same : (q : p.ProgramTree) → w.spell_program special (to.map_program m q) ≡ w.spell_program special q
    spell_program-same q = cc (flat_map-same (w.spell_decl special) (to.map_decl m) spell_decl-same q.decls)

pub spelled_alike : (special : SpecialName → ℕ) (a b : p.ProgramTree) → IsSame a b → w.spell_program special a ≡ w.spell_program special b
spelled_alike special a b same =
    sym (spell_program-same blanks special a) ∙ (ap (w.spell_program special) same ∙ spell_program-same blanks special b)
