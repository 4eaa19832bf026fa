-- Statements: the rules that they violate, and the type and meaning of each of their nodes.
use Rattle.std.specs.Prelude.{ℕ, suc, Bool, true, false, not, List, [], ◌∷◌, length, take, nat_eq, nat_lt, Option, Some, None, if◌then◌else◌}
use Rattle.agxx_base.specs.declared.ids.ClassId.{ClassId}
use Rattle.agxx_base.specs.declared.place.Place.{Place}
use Rattle.agxx_base.specs.declared.rule.Rule.TheVariants as rule
use Rattle.cxx_tree.specs.declared.node.Placed.{Placed}
use Rattle.cxx_tree.specs.declared.node.Quoted.{Quoted}
use Rattle.cxx_tree.specs.declared.operator.BinOp.{BinOp}
use Rattle.cxx_tree.specs.declared.expr.Ref.{Ref}
use Rattle.cxx_tree.specs.declared.stmt.Bump.{Bump}
use Rattle.cxx_tree.specs.declared.program.TypeName.{TypeName}
use Rattle.cxx_tree.specs.ExprTree.{ExprTree, ExprTrees}
use Rattle.cxx_tree.specs.StmtTree as t
use Rattle.cxx_tree.specs.StmtTree.{InitialTree, LocalTree, AssignTree, SimpleTree, PrintedTree, PrintTree, ThreadTree, StartTree, StmtTree, StmtTrees, BlockTree, IfTree, ElseTree}
use Rattle.cxx_tree.specs.Places.{expr_node}
use Rattle.cxx_names.specs.declared.declarations.Signature.{Signature}
use Rattle.cxx_names.specs.declared.declarations.ClassInfo.{ClassInfo}
use Rattle.cxx_names.specs.declared.types.ValueType.{ValueType}
use Rattle.cxx_names.specs.declared.types.ValueType.TheVariants as value
use Rattle.cxx_names.specs.declared.types.Thing.TheVariants as thing
use Rattle.cxx_names.specs.Declarations.{class_at}
use Rattle.cxx_names.specs.LookUp.{thing_of, free_signature}
use Rattle.cxx_types.specs.declared.context.Context.{Context}
use Rattle.cxx_types.specs.declared.context.Owner.{Owner}
use Rattle.cxx_types.specs.declared.context.Owner.TheVariants as owner
use Rattle.cxx_types.specs.declared.entry.Meaning.TheVariants as meaning
use Rattle.cxx_types.specs.State.{State}
use Rattle.cxx_types.specs.Access.{is_accessible}
use Rattle.cxx_types.specs.Checking.{required, noted}
use Rattle.cxx_types.specs.Conversion.{may_convert, are_numbers, may_be_bumped, may_be_printed}
use Rattle.cxx_types.specs.Counts.{most_bytes}
use Rattle.cxx_types.specs.Selections.{value_of}
use Rattle.cxx_types.specs.Calls.{is_void, counts, result_type}
use Rattle.cxx_types.specs.Expressions.{Typed, count, left, expr, exprs, call}
use Rattle.cxx_types.specs.Locals.{variable_type, local_declared}

-- ---- declarations

abbrev pub initial : Context → TypeName → Option InitialTree → State → State
initial c type None s = s
initial c type (Some i) s =
    let x = expr c i.value s in required rule.N3 i.sign (may_convert x.0.declared x.1 (value_of (thing_of x.0.declared type))) x.0

-- a local, which isn't in scope in its own initial value
unfoldable pub local : Context → LocalTree → State → State
local c l s =
    let x = initial c l.type_name.item l.initial (variable_type l.type_name s) in
    local_declared c l.name (thing_of x.declared l.type_name.item) x

-- ---- simple statements

-- a value is assigned where it converts; an operator takes numbers
abbrev pub may_assign : Option BinOp → Option ValueType → Typed → Bool
may_assign None to x = may_convert x.0.declared x.1 to
may_assign (Some o) to x = are_numbers to x.1

abbrev pub assigned : Placed (Option BinOp) → Option ValueType → Typed → State
assigned sign to x = required rule.N3 sign.at (may_assign sign.item to x) x.0

abbrev pub assign : Context → AssignTree → State → State
assign c a s = let x = left c a.left s in assigned a.sign x.1 (expr c a.value x.0)

abbrev pub bumped : Context → Bump → State → State
bumped c b s = let x = left c b.left s in required rule.N3 b.sign (may_be_bumped x.1) x.0

unfoldable pub simple : Context → SimpleTree → State → State
simple c (t.assign a) s = assign c a s
simple c (t.bump b) s = bumped c b s
simple c (t.call_stmt k) s = (call c false k s).0
simple c (t.proceed at) s = s

-- ---- other statements without statements in them

abbrev pub one_more_return : State → State
one_more_return s = record s { returns = suc s.returns }

-- the first `return` past the limit is refused
abbrev pub counted_return : Place → State → State
counted_return at s = one_more_return (required rule.N10 at (not (nat_eq s.returns s.most.returns)) s)

-- `return;` stands where there is no result, and no `return` in a constructor or destructor
abbrev pub returned_nothing : Owner → Place → State → State
returned_nothing (owner.Function type) at s = required rule.N3 at (is_void type) s
returned_nothing owner.Lifecycle at s = required rule.N8 at false s
returned_nothing owner.Global at s = s

-- a value is returned where there is a result to whose type it converts
abbrev pub may_return : TypeName → Typed → Bool
may_return type x = if is_void type then false else may_convert x.0.declared x.1 (result_type x.0.declared type)

abbrev pub returned_value : Owner → Place → Typed → State
returned_value (owner.Function type) at x = required rule.N3 at (may_return type x) x.0
returned_value owner.Lifecycle at x = required rule.N8 at false x.0
returned_value owner.Global at x = x.0

unfoldable pub returned : Context → Place → Option ExprTree → State → State
returned c at None s = counted_return at (returned_nothing c.owner at s)
returned c at (Some e) s = counted_return at (returned_value c.owner at (expr c e s))

-- a pointer to an object is deleted, by a destructor that may be used
abbrev pub dtor_of : Option ClassInfo → Option Signature
dtor_of None = None
dtor_of (Some class) = class.dtor

abbrev pub lifecycle_is_accessible : Option ClassId → ClassId → Option Signature → State → Bool
lifecycle_is_accessible viewer class None s = true
lifecycle_is_accessible viewer class (Some f) s = is_accessible s.declared f.access viewer class class

abbrev pub dtor_is_accessible : Option ClassId → ClassId → State → Bool
dtor_is_accessible viewer class s = lifecycle_is_accessible viewer class (dtor_of (class_at s.declared class)) s

abbrev pub deleted_type : Context → Place → Option ValueType → State → State
deleted_type c at None s = s
deleted_type c at (Some (value.Pointer class)) s = required rule.N6 at (dtor_is_accessible c.class class s) s
deleted_type c at (Some type) s = required rule.N3 at false s

unfoldable pub deleted : Context → Place → ExprTree → State → State
deleted c at e s = let x = expr c e s in deleted_type c at x.1 x.0

unfoldable pub printed : Context → PrintedTree → State → State
printed c (t.text q) s = required rule.N10 q.at (not (nat_lt most_bytes (length q.bytes))) s
printed c (t.endl at) s = s
printed c (t.value e) s = let x = expr c e s in required rule.N3 (expr_node e).at (may_be_printed x.1) x.0

abbrev pub all_printed : Context → List PrintedTree → State → State
all_printed c [] s = s
all_printed c (p ∷ ps) s = all_printed c ps (printed c p s)

abbrev pub function_started : Ref → State → Option Signature
function_started r s = free_signature s.declared r.name.item.0

-- a thread runs a free function without a result that isn't `main`
abbrev pub started : Context → Place → Ref → ExprTrees → Option Signature → State → State
started c at r arguments None s = (exprs c [] true arguments (noted None meaning.Other (required rule.N1 r.name.at false s))).0
started c at r arguments (Some f) s =
    (exprs c f.params true arguments
    (noted (result_type s.declared f.result) (meaning.Function f.id)
    (required rule.N4 r.name.at (counts (count arguments) f.params)
    (required rule.N3 r.node.at (is_void f.result)
    (required rule.N8 at (not f.is_main) s))))).0

unfoldable pub thread : Context → Bool → ThreadTree → State → State
thread c outermost k s =
    local_declared c k.name thing.Thread
    (started c k.at k.function k.arguments (function_started k.function s) (required rule.N8 k.at outermost s))

-- ---- all statements

-- the locals of a block are in scope up to its end
abbrev pub leaving : State → State → State
leaving before after = record after { scope = take (length before.scope) after.scope }

abbrev pub start : Context → Option StartTree → State → State
start c None s = s
start c (Some (t.start_local l)) s = local c l s
start c (Some (t.start_simple i)) s = simple c i s

abbrev pub condition : Context → Option ExprTree → State → State
condition c None s = s
condition c (Some e) s = (expr c e s).0

abbrev pub step : Context → Option SimpleTree → State → State
step c None s = s
step c (Some i) s = simple c i s

abbrev mutual
  -- a statement, in the outermost block of a function or not
  pub stmt : Context → Bool → StmtTree → State → State
  stmt c outermost (t.block b) s = block c b s
  stmt c outermost (t.local l) s = local c l s
  stmt c outermost (t.simple i) s = simple c i s
  stmt c outermost (t.branch i) s = branch c i s
  stmt c outermost (t.while at e body) s = block c body (expr c e s).0
  stmt c outermost (t.for at first e i body) s = leaving s (block c body (step c i (condition c e (start c first s))))
  stmt c outermost (t.return at e) s = returned c at e s
  stmt c outermost (t.delete at e) s = deleted c at e s
  stmt c outermost (t.print p) s = all_printed c p.operands s
  stmt c outermost (t.thread k) s = thread c outermost k s
  stmt c outermost (t.abort at) s = s

  pub stmts : Context → Bool → StmtTrees → State → State
  stmts c outermost t.no_stmts s = s
  stmts c outermost (t.more_stmts first rest) s = stmts c outermost rest (stmt c outermost first s)

  pub block : Context → BlockTree → State → State
  block c (t.braces at ss) s = leaving s (stmts c false ss s)

  pub branch : Context → IfTree → State → State
  branch c (t.chooses at e body otherwise) s = otherwise_of c otherwise (block c body (expr c e s).0)

  pub otherwise_of : Context → ElseTree → State → State
  otherwise_of c t.no_else s = s
  otherwise_of c (t.else_if i) s = branch c i s
  otherwise_of c (t.else_block b) s = block c b s

-- the statements of a body
abbrev pub body : Context → BlockTree → State → State
body c (t.braces at ss) s = stmts c true ss s
