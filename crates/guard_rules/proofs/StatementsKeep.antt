-- Whatever statements a walk goes through, what it has noted before keeps its meaning.
use Rattle.std.proofs.Common.{ℕ, Bool, true, false, List, [], ◌∷◌, Option, Some, None}
use Rattle.agxx_base.specs.declared.ids.NameId.{NameId}
use Rattle.agxx_base.specs.declared.place.Place.{Place}
use Rattle.cxx_tree.specs.declared.node.Placed.{Placed}
use Rattle.cxx_tree.specs.declared.expr.Ref.{Ref}
use Rattle.cxx_tree.specs.declared.program.TypeName.{TypeName}
use Rattle.cxx_tree.specs.declared.program.TypeName.TheVariants as type_name
use Rattle.cxx_tree.specs.ExprTree.{ExprTree, ExprTrees}
use Rattle.cxx_tree.specs.StmtTree as t
use Rattle.cxx_tree.specs.StmtTree.{InitialTree, LocalTree, SimpleTree, PrintedTree, ThreadTree, StartTree, StmtTree, StmtTrees, BlockTree, IfTree, ElseTree}
use Rattle.cxx_names.specs.declared.declarations.ClassInfo.{ClassInfo}
use Rattle.cxx_names.specs.declared.declarations.Signature.{Signature}
use Rattle.cxx_names.specs.declared.types.Thing.{Thing}
use Rattle.cxx_names.specs.declared.types.Thing.TheVariants as thing
use Rattle.cxx_names.specs.declared.types.ValueType.{ValueType}
use Rattle.cxx_names.specs.declared.types.ValueType.TheVariants as value
use Rattle.cxx_types.specs.declared.context.Context.{Context}
use Rattle.cxx_types.specs.declared.context.Owner.{Owner}
use Rattle.cxx_types.specs.declared.context.Owner.TheVariants as owner
use Rattle.cxx_types.specs.declared.entry.Entry.{Entry}
use Rattle.cxx_types.specs.State.{State}
use Rattle.cxx_types.specs.Expressions.{expr, left}
use Rattle.cxx_types.specs.Locals as l
use Rattle.cxx_types.specs.Locals.{variable_type, result_type, no_class, local_declared, param_declared}
use Rattle.cxx_types.specs.Statements as to
use Rattle.cxx_types.specs.Statements.{local, simple, returned, deleted, printed, thread}
use Rattle.guard_rules.proofs.KeptMeanings.{more_kept, required_entries}
use Rattle.guard_rules.proofs.WalksKeep.{Keeps, left_keeps, expr_keeps, exprs_keeps, call_keeps}

module _ (es : List Entry) where
  -- ---- names

  type-by-keeps : (x : Placed TypeName) (i : TypeName) (s : State) → Keeps es s → Keeps es (l.variable_type_by x i s)
  type-by-keeps x type_name.Void s k = k
  type-by-keeps x (type_name.Pointer class) s k = simp required_entries k
  type-by-keeps x _ s k = k

  pub type_keeps : (x : Placed TypeName) (s : State) → Keeps es s → Keeps es (variable_type x s)
  unfolding variable_type
  type_keeps x s k = type-by-keeps x x.item s k

  result-by-keeps : (x : Placed TypeName) (i : TypeName) (s : State) → Keeps es s → Keeps es (l.result_type_by x i s)
  result-by-keeps x (type_name.Pointer class) s k = simp required_entries k
  result-by-keeps x _ s k = k

  pub result_keeps : (x : Placed TypeName) (s : State) → Keeps es s → Keeps es (result_type x s)
  unfolding result_type
  result_keeps x s k = result-by-keeps x x.item s k

  apart-keeps : (index : ℕ) (name : Placed NameId) (x : Option ClassInfo) (s : State) → Keeps es s → Keeps es (l.apart_from index name x s)
  apart-keeps index name None s k = k
  apart-keeps index name (Some class) s k = k

  pub no_class_keeps : (c : Context) (name : Placed NameId) (s : State) → Keeps es s → Keeps es (no_class c name s)
  unfolding no_class
  no_class_keeps c name s k = apart-keeps c.index name (l.class_meant name.item s) s k

  own-name-keeps : (c : Context) (name : Placed NameId) (s : State) → Keeps es s → Keeps es (l.own_name c name s)
  own-name-keeps c name s k = no_class_keeps c name _ (simp required_entries k)

  pub local_declared_keeps : (c : Context) (name : Placed NameId) (x : Thing) (s : State) → Keeps es s → Keeps es (local_declared c name x s)
  unfolding local_declared
  local_declared_keeps c name x s k = simp required_entries (own-name-keeps c name s k)

  pub param_declared_keeps : (c : Context) (name : Placed NameId) (x : Thing) (s : State) → Keeps es s → Keeps es (param_declared c name x s)
  unfolding param_declared
  param_declared_keeps c name x s k = own-name-keeps c name s k

  -- ---- statements without statements in them

  initial-keeps : (c : Context) (type : TypeName) (i : Option InitialTree) (s : State) → Keeps es s → Keeps es (to.initial c type i s)
  initial-keeps c type None s k = k
  initial-keeps c type (Some i) s k = simp required_entries (expr_keeps es c i.value s k)

  pub local_keeps : (c : Context) (x : LocalTree) (s : State) → Keeps es s → Keeps es (to.local c x s)
  unfolding local
  local_keeps c x s k = local_declared_keeps c x.name _ _ (initial-keeps c x.type_name.item x.initial _ (type_keeps x.type_name s k))

  pub simple_keeps : (c : Context) (i : SimpleTree) (s : State) → Keeps es s → Keeps es (to.simple c i s)
  unfolding simple
  simple_keeps c (t.assign a) s k = simp required_entries (expr_keeps es c a.value (left c a.left s).0 (left_keeps es c a.left s k))
  simple_keeps c (t.bump b) s k = simp required_entries (left_keeps es c b.left s k)
  simple_keeps c (t.call_stmt x) s k = call_keeps es c false x s k
  simple_keeps c (t.proceed at) s k = k

  nothing-keeps : (o : Owner) (at : Place) (s : State) → Keeps es s → Keeps es (to.returned_nothing o at s)
  nothing-keeps (owner.Function type) at s k = simp required_entries k
  nothing-keeps owner.Lifecycle at s k = k
  nothing-keeps owner.Global at s k = k

  pub value_keeps : (o : Owner) (at : Place) (x : State × Option ValueType) → Keeps es x.0 → Keeps es (to.returned_value o at x)
  value_keeps (owner.Function type) at x k = simp required_entries k
  value_keeps owner.Lifecycle at x k = k
  value_keeps owner.Global at x k = k

  pub returned_keeps : (c : Context) (at : Place) (x : Option ExprTree) (s : State) → Keeps es s → Keeps es (to.returned c at x s)
  unfolding returned
  returned_keeps c at None s k = simp required_entries (nothing-keeps c.owner at s k)
  returned_keeps c at (Some x) s k = simp required_entries (value_keeps c.owner at (expr c x s) (expr_keeps es c x s k))

  pub dtor_keeps : (c : Context) (at : Place) (x : Option ValueType) (s : State) → Keeps es s → Keeps es (to.deleted_type c at x s)
  dtor_keeps c at None s k = k
  dtor_keeps c at (Some (value.Pointer class)) s k = simp required_entries k
  dtor_keeps c at (Some _) s k = k

  pub deleted_keeps : (c : Context) (at : Place) (x : ExprTree) (s : State) → Keeps es s → Keeps es (to.deleted c at x s)
  unfolding deleted
  deleted_keeps c at x s k = dtor_keeps c at (expr c x s).1 (expr c x s).0 (expr_keeps es c x s k)

  pub printed_keeps : (c : Context) (p : PrintedTree) (s : State) → Keeps es s → Keeps es (to.printed c p s)
  unfolding printed
  printed_keeps c (t.text q) s k = simp required_entries k
  printed_keeps c (t.endl at) s k = k
  printed_keeps c (t.value x) s k = simp required_entries (expr_keeps es c x s k)

  pub all_printed_keeps : (c : Context) (ps : List PrintedTree) (s : State) → Keeps es s → Keeps es (to.all_printed c ps s)
  all_printed_keeps c [] s k = k
  all_printed_keeps c (p ∷ ps) s k = all_printed_keeps c ps (to.printed c p s) (printed_keeps c p s k)

  pub started_keeps : (c : Context) (at : Place) (r : Ref) (arguments : ExprTrees) (x : Option Signature) (s : State) → Keeps es s → Keeps es (to.started c at r arguments x s)
  started_keeps c at r arguments None s k = exprs_keeps es c [] true arguments _ (simp required_entries (more_kept s.entries _ k))
  started_keeps c at r arguments (Some f) s k = exprs_keeps es c f.params true arguments _ (simp required_entries (more_kept s.entries _ k))

  pub thread_keeps : (c : Context) (outermost : Bool) (x : ThreadTree) (s : State) → Keeps es s → Keeps es (to.thread c outermost x s)
  unfolding thread
  thread_keeps c outermost x s k =
      local_declared_keeps c x.name thing.Thread _ (started_keeps c x.at x.function x.arguments (to.function_started x.function s) _ (simp required_entries k))

  -- ---- all statements

  pub start_keeps : (c : Context) (i : Option StartTree) (s : State) → Keeps es s → Keeps es (to.start c i s)
  start_keeps c None s k = k
  start_keeps c (Some (t.start_local x)) s k = local_keeps c x s k
  start_keeps c (Some (t.start_simple i)) s k = simple_keeps c i s k

  pub condition_keeps : (c : Context) (x : Option ExprTree) (s : State) → Keeps es s → Keeps es (to.condition c x s)
  condition_keeps c None s k = k
  condition_keeps c (Some x) s k = expr_keeps es c x s k

  pub step_keeps : (c : Context) (i : Option SimpleTree) (s : State) → Keeps es s → Keeps es (to.step c i s)
  step_keeps c None s k = k
  step_keeps c (Some i) s k = simple_keeps c i s k

  mutual
    pub stmt_keeps : (c : Context) (outermost : Bool) (x : StmtTree) (s : State) → Keeps es s → Keeps es (to.stmt c outermost x s)
    stmt_keeps c outermost (t.block b) s k = block_keeps c b s k
    stmt_keeps c outermost (t.local x) s k = local_keeps c x s k
    stmt_keeps c outermost (t.simple i) s k = simple_keeps c i s k
    stmt_keeps c outermost (t.branch i) s k = branch_keeps c i s k
    stmt_keeps c outermost (t.while at x body) s k = block_keeps c body (expr c x s).0 (expr_keeps es c x s k)
    stmt_keeps c outermost (t.for at first x i body) s k =
        block_keeps c body _ (step_keeps c i _ (condition_keeps c x _ (start_keeps c first s k)))
    stmt_keeps c outermost (t.return at x) s k = returned_keeps c at x s k
    stmt_keeps c outermost (t.delete at x) s k = deleted_keeps c at x s k
    stmt_keeps c outermost (t.print p) s k = all_printed_keeps c p.operands s k
    stmt_keeps c outermost (t.thread x) s k = thread_keeps c outermost x s k
    stmt_keeps c outermost (t.abort at) s k = k

    pub stmts_keeps : (c : Context) (outermost : Bool) (xs : StmtTrees) (s : State) → Keeps es s → Keeps es (to.stmts c outermost xs s)
    stmts_keeps c outermost t.no_stmts s k = k
    stmts_keeps c outermost (t.more_stmts first rest) s k = stmts_keeps c outermost rest (to.stmt c outermost first s) (stmt_keeps c outermost first s k)

    pub block_keeps : (c : Context) (b : BlockTree) (s : State) → Keeps es s → Keeps es (to.block c b s)
    block_keeps c (t.braces at xs) s k = stmts_keeps c false xs s k

    pub branch_keeps : (c : Context) (i : IfTree) (s : State) → Keeps es s → Keeps es (to.branch c i s)
    branch_keeps c (t.chooses at x body otherwise) s k =
        else_keeps c otherwise _ (block_keeps c body (expr c x s).0 (expr_keeps es c x s k))

    pub else_keeps : (c : Context) (i : ElseTree) (s : State) → Keeps es s → Keeps es (to.otherwise_of c i s)
    else_keeps c t.no_else s k = k
    else_keeps c (t.else_if i) s k = branch_keeps c i s k
    else_keeps c (t.else_block b) s k = block_keeps c b s k

  pub body_keeps : (c : Context) (b : BlockTree) (s : State) → Keeps es s → Keeps es (to.body c b s)
  body_keeps c (t.braces at xs) s k = stmts_keeps c true xs s k
