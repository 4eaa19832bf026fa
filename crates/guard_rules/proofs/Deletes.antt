-- Where forms delete `this`, going through statements finds it.
use Rattle.std.proofs.Common.{◌≡◌, refl, ◌∙◌, ℕ, Bool, true, false, List, [], ◌∷◌, ◌++◌, Option, Some, None, if◌then◌else◌}
use Rattle.agxx_base.specs.declared.ids.ClassId.{ClassId}
use Rattle.agxx_base.specs.declared.place.Place.{Place}
use Rattle.cxx_tree.specs.declared.node.Node.{Node}
use Rattle.cxx_tree.specs.declared.operator.UnOp.TheVariants as un
use Rattle.cxx_tree.specs.declared.expr.Callee.{Callee}
use Rattle.cxx_tree.specs.declared.expr.Callee.TheVariants as callee_of
use Rattle.cxx_tree.specs.declared.expr.Left.{Left}
use Rattle.cxx_tree.specs.declared.expr.Left.TheVariants as left_of
use Rattle.cxx_tree.specs.declared.program.Param.{Param}
use Rattle.cxx_tree.specs.ExprTree as e
use Rattle.cxx_tree.specs.ExprTree.{ExprTree, ExprTrees, CallTree}
use Rattle.cxx_tree.specs.StmtTree as s
use Rattle.cxx_tree.specs.StmtTree.{InitialTree, LocalTree, SimpleTree, PrintedTree, StartTree, StmtTree, StmtTrees, BlockTree, IfTree, ElseTree}
use Rattle.cxx_names.specs.LookUp.{free_signature}
use Rattle.cxx_types.specs.Expressions.{count}
use Rattle.cxx_rules.specs.Sites.{Site, object_of}
use Rattle.cxx_rules.specs.Types.{callable, creatable}
use Rattle.cxx_rules.specs.Forms as form
use Rattle.cxx_rules.specs.Forms.{Form, forms_of, forms_of_left, forms_of_callee, forms_of_arguments, forms_of_call, unless_object}
use Rattle.cxx_rules.specs.StmtForms as t
use Rattle.cxx_rules.specs.StmtForms.{forms_of_optional, forms_of_stmt, forms_of_stmts, forms_of_block, forms_of_if, forms_of_else, forms_of_body}
use Rattle.cxx_rules.specs.Unless.{with_place, places_in}
use Rattle.guards.specs.declared.guard.Guard.{Guard}
use Rattle.guard_rules.specs.Parts.{place_where}
use Rattle.guard_rules.specs.DeletesItself.{own_holds_part, deletes_itself_at}
use Rattle.guard_rules.proofs.DeletedThis.{if_this, deletes_in, deletes_in_stmts, deletes_in_block, deletes_in_if, deletes_in_else}
use Rattle.guard_rules.proofs.PlacesIn.{joined, if_joined, if_none}

module _ (guards : List Guard) where
  abbrev pub found : List Form → List Place
  found forms = places_in (deletes_itself_at guards) forms

  pub both_none : (a b : List Form) → found a ≡ [] → found b ≡ [] → found (a ++ b) ≡ []
  both_none a b = joined (deletes_itself_at guards) a b [] []

  pub behind_none : (a b : List Form) (xs : List Place) → found a ≡ [] → found b ≡ xs → found (a ++ b) ≡ xs
  behind_none a b xs = joined (deletes_itself_at guards) a b [] xs

  -- ---- expressions delete nothing

  left-none : (w : Site) (l : Left) → found (forms_of_left w l) ≡ []
  left-none w (left_of.Name r) = refl
  left-none w (left_of.Member n q) = refl
  left-none w (left_of.Result n) = refl

  callee-none : (w : Site) (n : Node) (c : Callee) (k : ℕ) (as_value : Bool) → found (forms_of_callee w n c k as_value) ≡ []
  callee-none w n (callee_of.Bare r) k as_value = refl
  callee-none w n (callee_of.Member q) k as_value = refl

  object-none : (o : Option (Option ClassId)) (forms : List Form) → found forms ≡ [] → found (unless_object o forms) ≡ []
  object-none None forms none = none
  object-none (Some class) forms none = refl

  mutual
    pub expr_none : (w : Site) (x : ExprTree) → found (forms_of w x) ≡ []
    expr_none w (e.lit n number) = refl
    expr_none w (e.flag n is_set) = refl
    expr_none w (e.null n) = refl
    expr_none w (e.this n) = refl
    expr_none w (e.left l) = left-none w l
    expr_none w (e.unary n un.AddressOf x) = object-none (object_of w x) (forms_of w x) (expr_none w x)
    expr_none w (e.unary n o x) = both_none (forms_of w x) _ (expr_none w x) refl
    expr_none w (e.binary n o a b) = both_none (forms_of w a) _ (expr_none w a) (both_none (forms_of w b) _ (expr_none w b) refl)
    expr_none w (e.paren n x) = expr_none w x
    expr_none w (e.cast n kind x) = both_none (forms_of w x) _ (expr_none w x) refl
    expr_none w (e.call c) = call_none w true c
    expr_none w (e.new n class) = refl
    expr_none w (e.new_with n class arguments) = arguments_none w (creatable w class (count arguments)).params arguments

    pub arguments_none : (w : Site) (ps : List Param) (xs : ExprTrees) → found (forms_of_arguments w ps xs) ≡ []
    arguments_none w ps e.no_exprs = refl
    arguments_none w [] (e.more_exprs first rest) = both_none (forms_of w first) _ (expr_none w first) (arguments_none w [] rest)
    arguments_none w (p ∷ ps) (e.more_exprs first rest) = both_none (forms_of w first) _ (expr_none w first) (arguments_none w ps rest)

    pub call_none : (w : Site) (as_value : Bool) (c : CallTree) → found (forms_of_call w as_value c) ≡ []
    call_none w as_value (e.calls n callee arguments) =
        both_none (forms_of_callee w n callee (count arguments) as_value) _ (callee-none w n callee (count arguments) as_value)
        (arguments_none w (callable w callee (count arguments)).params arguments)

  -- ---- statements without statements in them, but one

  optional-none : {A : Type 0} (forms : A → List Form) → ((x : A) → found (forms x) ≡ []) → (o : Option A) → found (forms_of_optional forms o) ≡ []
  optional-none forms none None = refl
  optional-none forms none (Some x) = none x

  initial-none : (w : Site) (l : LocalTree) (i : InitialTree) → found (t.forms_of_initial w l.type_name.item i) ≡ []
  initial-none w l i = both_none (forms_of w i.value) _ (expr_none w i.value) refl

  local-none : (w : Site) (l : LocalTree) → found (t.forms_of_local w l) ≡ []
  local-none w l = both_none (forms_of_optional (t.forms_of_initial w l.type_name.item) l.initial) _ (optional-none _ (initial-none w l) l.initial) refl

  simple-none : (w : Site) (i : SimpleTree) → found (t.forms_of_simple w i) ≡ []
  simple-none w (s.assign a) = both_none (forms_of_left w a.left) _ (left-none w a.left) (both_none (forms_of w a.value) _ (expr_none w a.value) refl)
  simple-none w (s.bump b) = both_none (forms_of_left w b.left) _ (left-none w b.left) refl
  simple-none w (s.call_stmt c) = call_none w false c
  simple-none w (s.proceed at) = refl

  start-none : (w : Site) (i : StartTree) → found (t.forms_of_start w i) ≡ []
  start-none w (s.start_local l) = local-none w l
  start-none w (s.start_simple i) = simple-none w i

  printed-none : (w : Site) (p : PrintedTree) → found (t.forms_of_printed w p) ≡ []
  printed-none w (s.text q) = refl
  printed-none w (s.endl at) = refl
  printed-none w (s.value x) = both_none (forms_of w x) _ (expr_none w x) refl

  print-none : (w : Site) (ps : List PrintedTree) → found (t.forms_of_print w ps) ≡ []
  print-none w [] = refl
  print-none w (p ∷ ps) = both_none (t.forms_of_printed w p) _ (printed-none w p) (print-none w ps)

  -- ---- what is found at a site

  abbrev pub holds : Site → Bool
  holds w = own_holds_part guards w.declared w.context.class

  abbrev pub kept : Site → List Place → List Place
  kept w places = if holds w then places else []

  nothing-kept : (w : Site) (forms : List Form) → found forms ≡ [] → found forms ≡ kept w []
  nothing-kept w forms none = none ∙ if_none (holds w)

  pub both_kept : (w : Site) (a b : List Form) (xs ys : List Place) → found a ≡ kept w xs → found b ≡ kept w ys → found (a ++ b) ≡ kept w (xs ++ ys)
  both_kept w a b xs ys first second = joined (deletes_itself_at guards) a b (kept w xs) (kept w ys) first second ∙ if_joined (holds w) xs ys

  one-where : (b : Bool) (at : Place) → with_place (place_where b at) [] ≡ (if b then at ∷ [] else [])
  one-where true at = refl
  one-where false at = refl

  deleted-kept : (w : Site) (at : Place) (x : ExprTree) → found (form.deleted w at x ∷ []) ≡ kept w (if_this at x)
  deleted-kept w at (e.this n) = one-where (holds w) at
  deleted-kept w at x = if_none (holds w)

  mutual
    stmt-kept : (w : Site) (outermost : Bool) (x : StmtTree) → found (forms_of_stmt w outermost x) ≡ kept w (deletes_in x)
    stmt-kept w outermost (s.block b) = block-kept w b
    stmt-kept w outermost (s.local l) = nothing-kept w (t.forms_of_local w l) (local-none w l)
    stmt-kept w outermost (s.simple i) = nothing-kept w (t.forms_of_simple w i) (simple-none w i)
    stmt-kept w outermost (s.branch i) = if-kept w i
    stmt-kept w outermost (s.while at x body) = behind_none (forms_of w x) _ _ (expr_none w x) (block-kept w body)
    stmt-kept w outermost (s.for at first x i body) =
        let v = t.behind_start w first in
        behind_none (forms_of_optional (t.forms_of_start w) first) _ _ (optional-none _ (start-none w) first)
        (behind_none (forms_of_optional (forms_of v) x) _ _ (optional-none _ (expr_none v) x)
        (behind_none (forms_of_optional (t.forms_of_simple v) i) _ _ (optional-none _ (simple-none v) i) (block-kept v body)))
    stmt-kept w outermost (s.return at x) =
        nothing-kept w (t.forms_of_return w at x) (both_none (forms_of_optional (forms_of w) x) _ (optional-none _ (expr_none w) x) refl)
    stmt-kept w outermost (s.delete at x) = behind_none (forms_of w x) _ _ (expr_none w x) (deleted-kept w at x)
    stmt-kept w outermost (s.print p) = nothing-kept w (t.forms_of_print w p.operands) (print-none w p.operands)
    stmt-kept w outermost (s.thread k) =
        nothing-kept w (t.forms_of_thread w outermost k)
        (both_none (forms_of_arguments w (t.params_of (free_signature w.declared k.function.name.item.0)) k.arguments) _ (arguments_none w _ k.arguments) refl)
    stmt-kept w outermost (s.abort at) = if_none (holds w)

    stmts-kept : (w : Site) (outermost : Bool) (xs : StmtTrees) → found (forms_of_stmts w outermost xs) ≡ kept w (deletes_in_stmts xs)
    stmts-kept w outermost s.no_stmts = if_none (holds w)
    stmts-kept w outermost (s.more_stmts first rest) =
        both_kept w (forms_of_stmt w outermost first) (forms_of_stmts (t.behind w first) outermost rest) _ _ (stmt-kept w outermost first) (stmts-kept (t.behind w first) outermost rest)

    block-kept : (w : Site) (b : BlockTree) → found (forms_of_block w b) ≡ kept w (deletes_in_block b)
    block-kept w (s.braces at xs) = stmts-kept w false xs

    if-kept : (w : Site) (i : IfTree) → found (forms_of_if w i) ≡ kept w (deletes_in_if i)
    if-kept w (s.chooses at x body otherwise) =
        let v = t.further w (t.locals_in_block body) (t.returns_in_block body) in
        behind_none (forms_of w x) _ _ (expr_none w x)
        (both_kept w (forms_of_block w body) (forms_of_else v otherwise) _ _ (block-kept w body) (else-kept v otherwise))

    else-kept : (w : Site) (o : ElseTree) → found (forms_of_else w o) ≡ kept w (deletes_in_else o)
    else-kept w s.no_else = if_none (holds w)
    else-kept w (s.else_if i) = if-kept w i
    else-kept w (s.else_block b) = block-kept w b

  pub body_kept : (w : Site) (b : BlockTree) → found (forms_of_body w b) ≡ kept w (deletes_in_block b)
  body_kept w (s.braces at xs) = stmts-kept w true xs
