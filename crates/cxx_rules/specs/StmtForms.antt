-- What stands in statements of which rules speak, in text order.
use Rattle.std.specs.Prelude.{ℕ, ◌+◌, Bool, true, false, List, [], ◌∷◌, ◌++◌, Option, Some, None}
use Rattle.agxx_base.specs.declared.ids.NameId.{NameId}
use Rattle.agxx_base.specs.declared.place.Place.{Place}
use Rattle.cxx_tree.specs.declared.node.Placed.{Placed}
use Rattle.cxx_tree.specs.declared.program.Param.{Param}
use Rattle.cxx_tree.specs.declared.program.TypeName.{TypeName}
use Rattle.cxx_tree.specs.ExprTree.{ExprTree}
use Rattle.cxx_tree.specs.StmtTree as t
use Rattle.cxx_tree.specs.StmtTree.{InitialTree, LocalTree, AssignTree, SimpleTree, PrintedTree, ThreadTree, StartTree, StmtTree, StmtTrees, BlockTree, IfTree, ElseTree}
use Rattle.cxx_names.specs.declared.declarations.Signature.{Signature}
use Rattle.cxx_names.specs.declared.types.Thing.{Thing}
use Rattle.cxx_names.specs.declared.types.Thing.TheVariants as thing
use Rattle.cxx_names.specs.LookUp.{thing_of, free_signature}
use Rattle.cxx_names.specs.Tables.{with_name}
use Rattle.cxx_types.specs.Expressions.{count}
use Rattle.cxx_rules.specs.Sites.{Site}
use Rattle.cxx_rules.specs.Forms as form
use Rattle.cxx_rules.specs.Forms.{Form, forms_of, forms_of_left, forms_of_call, forms_of_arguments}

abbrev pub forms_of_optional : {A : Type 0} → (A → List Form) → Option A → List Form
forms_of_optional forms None = []
forms_of_optional forms (Some part) = forms part

-- ---- declarations

-- the name of a local or a parameter
abbrev pub forms_of_name : Site → Placed NameId → List Form
forms_of_name w name = form.local_name w name ∷ form.apart w name ∷ []

abbrev pub forms_of_initial : Site → TypeName → InitialTree → List Form
forms_of_initial w type i = forms_of w i.value ++ form.initial w type i ∷ []

-- a local isn't in scope in its own initial value
abbrev pub forms_of_local : Site → LocalTree → List Form
forms_of_local w l =
    form.variable_type w l.type_name
    ∷ (forms_of_optional (forms_of_initial w l.type_name.item) l.initial
    ++ (form.local_name w l.name ∷ form.apart w l.name ∷ form.counted form.locals w.locals l.name.at ∷ []))

-- ---- simple statements

abbrev pub forms_of_assign : Site → AssignTree → List Form
forms_of_assign w a = forms_of_left w a.left ++ (forms_of w a.value ++ form.assigned w a ∷ [])

abbrev pub forms_of_simple : Site → SimpleTree → List Form
forms_of_simple w (t.assign a) = forms_of_assign w a
forms_of_simple w (t.bump b) = forms_of_left w b.left ++ form.bumped w b ∷ []
forms_of_simple w (t.call_stmt k) = forms_of_call w false k
forms_of_simple w (t.proceed at) = []

-- ---- other statements without statements in them

abbrev pub forms_of_return : Site → Place → Option ExprTree → List Form
forms_of_return w at e =
    forms_of_optional (forms_of w) e ++ (form.returned w at e ∷ form.counted form.returns w.returns at ∷ [])

abbrev pub forms_of_printed : Site → PrintedTree → List Form
forms_of_printed w (t.text q) = form.text q ∷ []
forms_of_printed w (t.endl at) = []
forms_of_printed w (t.value e) = forms_of w e ++ form.printed w e ∷ []

abbrev pub forms_of_print : Site → List PrintedTree → List Form
forms_of_print w [] = []
forms_of_print w (p ∷ ps) = forms_of_printed w p ++ forms_of_print w ps

abbrev pub params_of : Option Signature → List Param
params_of None = []
params_of (Some f) = f.params

abbrev pub forms_of_thread : Site → Bool → ThreadTree → List Form
forms_of_thread w outermost k =
    form.thread outermost k.at ∷ form.started w k.at k.function ∷ form.started_with w k.function (count k.arguments)
    ∷ (forms_of_arguments w (params_of (free_signature w.declared k.function.name.item.0)) k.arguments
    ++ (form.local_name w k.name ∷ form.apart w k.name ∷ form.counted form.locals w.locals k.name.at ∷ []))

-- ---- how many locals and `return`s stand in statements

abbrev pub locals_in_start : Option StartTree → ℕ
locals_in_start (Some (t.start_local l)) = 1
locals_in_start _ = 0

abbrev mutual
  pub locals_in : StmtTree → ℕ
  locals_in (t.block b) = locals_in_block b
  locals_in (t.local l) = 1
  locals_in (t.branch i) = locals_in_if i
  locals_in (t.while at e body) = locals_in_block body
  locals_in (t.for at first e i body) = locals_in_start first + locals_in_block body
  locals_in (t.thread k) = 1
  locals_in _ = 0

  pub locals_in_stmts : StmtTrees → ℕ
  locals_in_stmts t.no_stmts = 0
  locals_in_stmts (t.more_stmts first rest) = locals_in first + locals_in_stmts rest

  pub locals_in_block : BlockTree → ℕ
  locals_in_block (t.braces at ss) = locals_in_stmts ss

  pub locals_in_if : IfTree → ℕ
  locals_in_if (t.chooses at e body otherwise) = locals_in_block body + locals_in_else otherwise

  pub locals_in_else : ElseTree → ℕ
  locals_in_else t.no_else = 0
  locals_in_else (t.else_if i) = locals_in_if i
  locals_in_else (t.else_block b) = locals_in_block b

abbrev mutual
  pub returns_in : StmtTree → ℕ
  returns_in (t.block b) = returns_in_block b
  returns_in (t.branch i) = returns_in_if i
  returns_in (t.while at e body) = returns_in_block body
  returns_in (t.for at first e i body) = returns_in_block body
  returns_in (t.return at e) = 1
  returns_in _ = 0

  pub returns_in_stmts : StmtTrees → ℕ
  returns_in_stmts t.no_stmts = 0
  returns_in_stmts (t.more_stmts first rest) = returns_in first + returns_in_stmts rest

  pub returns_in_block : BlockTree → ℕ
  returns_in_block (t.braces at ss) = returns_in_stmts ss

  pub returns_in_if : IfTree → ℕ
  returns_in_if (t.chooses at e body otherwise) = returns_in_block body + returns_in_else otherwise

  pub returns_in_else : ElseTree → ℕ
  returns_in_else t.no_else = 0
  returns_in_else (t.else_if i) = returns_in_if i
  returns_in_else (t.else_block b) = returns_in_block b

-- ---- what is in scope behind a statement

abbrev pub scope_behind_local : Site → LocalTree → List (ℕ × Thing)
scope_behind_local w l = with_name w.scope l.name.item.0 (thing_of w.declared l.type_name.item)

-- a local stays in scope up to the end of its block
abbrev pub scope_behind : Site → StmtTree → List (ℕ × Thing)
scope_behind w (t.local l) = scope_behind_local w l
scope_behind w (t.thread k) = with_name w.scope k.name.item.0 thing.Thread
scope_behind w _ = w.scope

-- so many locals and `return`s further on
abbrev pub further : Site → ℕ → ℕ → Site
further w locals returns = record w { locals = w.locals + locals; returns = w.returns + returns }

-- behind a statement
abbrev pub behind : Site → StmtTree → Site
behind w s = record w { scope = scope_behind w s; locals = w.locals + locals_in s; returns = w.returns + returns_in s }

-- behind what begins a `for`
abbrev pub scope_behind_start : Site → Option StartTree → List (ℕ × Thing)
scope_behind_start w (Some (t.start_local l)) = scope_behind_local w l
scope_behind_start w _ = w.scope

abbrev pub behind_start : Site → Option StartTree → Site
behind_start w first = record w { scope = scope_behind_start w first; locals = w.locals + locals_in_start first }

abbrev pub forms_of_start : Site → StartTree → List Form
forms_of_start w (t.start_local l) = forms_of_local w l
forms_of_start w (t.start_simple i) = forms_of_simple w i

-- ---- all statements

abbrev mutual
  -- a statement, in the outermost block of a function or not
  pub forms_of_stmt : Site → Bool → StmtTree → List Form
  forms_of_stmt w outermost (t.block b) = forms_of_block w b
  forms_of_stmt w outermost (t.local l) = forms_of_local w l
  forms_of_stmt w outermost (t.simple i) = forms_of_simple w i
  forms_of_stmt w outermost (t.branch i) = forms_of_if w i
  forms_of_stmt w outermost (t.while at e body) = forms_of w e ++ forms_of_block w body
  forms_of_stmt w outermost (t.for at first e i body) =
      forms_of_optional (forms_of_start w) first
      ++ (forms_of_optional (forms_of (behind_start w first)) e
      ++ (forms_of_optional (forms_of_simple (behind_start w first)) i ++ forms_of_block (behind_start w first) body))
  forms_of_stmt w outermost (t.return at e) = forms_of_return w at e
  forms_of_stmt w outermost (t.delete at e) = forms_of w e ++ form.deleted w at e ∷ []
  forms_of_stmt w outermost (t.print p) = forms_of_print w p.operands
  forms_of_stmt w outermost (t.thread k) = forms_of_thread w outermost k
  forms_of_stmt w outermost (t.abort at) = []

  pub forms_of_stmts : Site → Bool → StmtTrees → List Form
  forms_of_stmts w outermost t.no_stmts = []
  forms_of_stmts w outermost (t.more_stmts first rest) = forms_of_stmt w outermost first ++ forms_of_stmts (behind w first) outermost rest

  pub forms_of_block : Site → BlockTree → List Form
  forms_of_block w (t.braces at ss) = forms_of_stmts w false ss

  pub forms_of_if : Site → IfTree → List Form
  forms_of_if w (t.chooses at e body otherwise) =
      forms_of w e ++ (forms_of_block w body ++ forms_of_else (further w (locals_in_block body) (returns_in_block body)) otherwise)

  pub forms_of_else : Site → ElseTree → List Form
  forms_of_else w t.no_else = []
  forms_of_else w (t.else_if i) = forms_of_if w i
  forms_of_else w (t.else_block b) = forms_of_block w b

-- the statements of a body
abbrev pub forms_of_body : Site → BlockTree → List Form
forms_of_body w (t.braces at ss) = forms_of_stmts w true ss
