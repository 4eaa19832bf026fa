-- Statements as plain data, on which definitions recurse. What stands in the head of a statement has a record or a
-- data type of its own, named like the type of the tree.
use Rattle.std.specs.Prelude.{List, [], ◌∷◌, map, Option, Some, None, option_map}
use Rattle.agxx_base.specs.declared.ids.NameId.{NameId}
use Rattle.agxx_base.specs.declared.place.Place.{Place}
use Rattle.cxx_tree.specs.declared.node.Placed.{Placed}
use Rattle.cxx_tree.specs.declared.node.Quoted.{Quoted}
use Rattle.cxx_tree.specs.declared.operator.BinOp.{BinOp}
use Rattle.cxx_tree.specs.declared.expr.Left.{Left}
use Rattle.cxx_tree.specs.declared.expr.Ref.{Ref}
use Rattle.cxx_tree.specs.declared.program.TypeName.{TypeName}
use Rattle.cxx_tree.specs.declared.stmt.Initial.{Initial}
use Rattle.cxx_tree.specs.declared.stmt.Local.{Local}
use Rattle.cxx_tree.specs.declared.stmt.Assign.{Assign}
use Rattle.cxx_tree.specs.declared.stmt.Bump.{Bump}
use Rattle.cxx_tree.specs.declared.stmt.Simple.{Simple}
use Rattle.cxx_tree.specs.declared.stmt.Simple.TheVariants as simple_of
use Rattle.cxx_tree.specs.declared.stmt.Printed.{Printed}
use Rattle.cxx_tree.specs.declared.stmt.Printed.TheVariants as printed_of
use Rattle.cxx_tree.specs.declared.stmt.Print.{Print}
use Rattle.cxx_tree.specs.declared.stmt.Thread.{Thread}
use Rattle.cxx_tree.specs.declared.stmt.Start.{Start}
use Rattle.cxx_tree.specs.declared.stmt.Start.TheVariants as start_of
use Rattle.cxx_tree.specs.declared.stmt.Block.{Block}
use Rattle.cxx_tree.specs.declared.stmt.Stmt.{Stmt}
use Rattle.cxx_tree.specs.declared.stmt.If.{If}
use Rattle.cxx_tree.specs.declared.stmt.Else.{Else}
use Rattle.cxx_tree.specs.declared.stmt.While.{While}
use Rattle.cxx_tree.specs.declared.stmt.For.{For}
use Rattle.cxx_tree.specs.declared.stmt.Else.TheOpen.{Block-F, Stmt-F, If-F, Else-F, While-F, For-F}
use Rattle.cxx_tree.specs.declared.stmt.Else.TheFolds.{fold-Block, fold-Stmt, fold-If, fold-Else, fold-While, fold-For}
use Rattle.cxx_tree.specs.ExprTree.{ExprTree, ExprTrees, CallTree, expr_tree, exprs_tree, call_tree}

pub record InitialTree : Type 0 where
  pub sign : Place
  pub value : ExprTree

pub record LocalTree : Type 0 where
  pub type_name : Placed TypeName
  pub name : Placed NameId
  pub initial : Option InitialTree

pub record AssignTree : Type 0 where
  pub left : Left
  pub sign : Placed (Option BinOp)
  pub value : ExprTree

pub data SimpleTree : Type 0 where
  assign : AssignTree → SimpleTree
  bump : Bump → SimpleTree
  call_stmt : CallTree → SimpleTree
  proceed : Place → SimpleTree

pub data PrintedTree : Type 0 where
  text : Quoted → PrintedTree
  endl : Place → PrintedTree
  value : ExprTree → PrintedTree

pub record PrintTree : Type 0 where
  pub at : Place
  pub operands : List PrintedTree

pub record ThreadTree : Type 0 where
  pub at : Place
  pub name : Placed NameId
  pub function : Ref
  pub arguments : ExprTrees

pub data StartTree : Type 0 where
  start_local : LocalTree → StartTree
  start_simple : SimpleTree → StartTree

mutual
  pub data StmtTree : Type 0 where
    block : BlockTree → StmtTree
    local : LocalTree → StmtTree
    simple : SimpleTree → StmtTree
    branch : IfTree → StmtTree
    while : Place → ExprTree → BlockTree → StmtTree
    for : Place → Option StartTree → Option ExprTree → Option SimpleTree → BlockTree → StmtTree
    return : Place → Option ExprTree → StmtTree
    delete : Place → ExprTree → StmtTree
    print : PrintTree → StmtTree
    thread : ThreadTree → StmtTree
    abort : Place → StmtTree

  pub data StmtTrees : Type 0 where
    no_stmts : StmtTrees
    more_stmts : StmtTree → StmtTrees → StmtTrees

  pub data BlockTree : Type 0 where
    braces : Place → StmtTrees → BlockTree

  pub data IfTree : Type 0 where
    chooses : Place → ExprTree → BlockTree → ElseTree → IfTree

  pub data ElseTree : Type 0 where
    no_else : ElseTree
    else_if : IfTree → ElseTree
    else_block : BlockTree → ElseTree

abbrev pub initial_tree : Initial → InitialTree
initial_tree i = record { sign = i.sign; value = expr_tree i.value }

abbrev pub local_tree : Local → LocalTree
local_tree l = record { type_name = l.type_name; name = l.name; initial = option_map initial_tree l.initial }

abbrev pub assign_tree : Assign → AssignTree
assign_tree a = record { left = a.left; sign = a.sign; value = expr_tree a.value }

abbrev pub simple_tree : Simple → SimpleTree
simple_tree (simple_of.Assign a) = assign (assign_tree a)
simple_tree (simple_of.Bump b) = bump b
simple_tree (simple_of.CallStmt c) = call_stmt (call_tree c)
simple_tree (simple_of.Proceed at) = proceed at

abbrev pub printed_tree : Printed → PrintedTree
printed_tree (printed_of.Text t) = text t
printed_tree (printed_of.Endl at) = endl at
printed_tree (printed_of.Value e) = value (expr_tree e)

abbrev pub print_tree : Print → PrintTree
print_tree p = record { at = p.at; operands = map printed_tree p.operands }

abbrev pub thread_tree : Thread → ThreadTree
thread_tree t = record { at = t.at; name = t.name; function = t.function; arguments = exprs_tree t.arguments }

abbrev pub start_tree : Start → StartTree
start_tree (start_of.Local l) = start_local (local_tree l)
start_tree (start_of.Simple s) = start_simple (simple_tree s)

abbrev pub listed_stmts : List StmtTree → StmtTrees
listed_stmts [] = no_stmts
listed_stmts (first ∷ rest) = more_stmts first (listed_stmts rest)

abbrev pub else_or_none : Option ElseTree → ElseTree
else_or_none None = no_else
else_or_none (Some otherwise) = otherwise

abbrev pub else_step : Else-F ElseTree StmtTree BlockTree StmtTree IfTree StmtTree → ElseTree
else_step (Else-F.Branch b) = else_if b
else_step (Else-F.Body b) = else_block b

abbrev pub stmt_step : Stmt-F ElseTree StmtTree BlockTree StmtTree IfTree StmtTree → StmtTree
stmt_step (Stmt-F.Block b) = block b
stmt_step (Stmt-F.Local l) = local (local_tree l)
stmt_step (Stmt-F.Simple s) = simple (simple_tree s)
stmt_step (Stmt-F.If b) = branch b
stmt_step (Stmt-F.While w) = w
stmt_step (Stmt-F.For f) = f
stmt_step (Stmt-F.Return at result) = return at (option_map expr_tree result)
stmt_step (Stmt-F.Delete at pointer) = delete at (expr_tree pointer)
stmt_step (Stmt-F.Print p) = print (print_tree p)
stmt_step (Stmt-F.Thread t) = thread (thread_tree t)
stmt_step (Stmt-F.Abort at) = abort at

abbrev pub block_step : Block-F ElseTree StmtTree BlockTree StmtTree IfTree StmtTree → BlockTree
block_step b = braces b.at (listed_stmts b.stmts)

abbrev pub for_step : For-F ElseTree StmtTree BlockTree StmtTree IfTree StmtTree → StmtTree
for_step f = for f.at (option_map start_tree f.start) (option_map expr_tree f.condition) (option_map simple_tree f.step) f.body

abbrev pub if_step : If-F ElseTree StmtTree BlockTree StmtTree IfTree StmtTree → IfTree
if_step b = chooses b.at (expr_tree b.condition) b.body (else_or_none b.otherwise)

abbrev pub while_step : While-F ElseTree StmtTree BlockTree StmtTree IfTree StmtTree → StmtTree
while_step w = while w.at (expr_tree w.condition) w.body

abbrev pub stmt_tree : Stmt → StmtTree
stmt_tree = fold-Stmt ElseTree StmtTree BlockTree StmtTree IfTree StmtTree else_step stmt_step block_step for_step if_step while_step

abbrev pub block_tree : Block → BlockTree
block_tree = fold-Block ElseTree StmtTree BlockTree StmtTree IfTree StmtTree else_step stmt_step block_step for_step if_step while_step

abbrev pub if_tree : If → IfTree
if_tree = fold-If ElseTree StmtTree BlockTree StmtTree IfTree StmtTree else_step stmt_step block_step for_step if_step while_step

abbrev pub else_tree : Else → ElseTree
else_tree = fold-Else ElseTree StmtTree BlockTree StmtTree IfTree StmtTree else_step stmt_step block_step for_step if_step while_step

abbrev pub while_tree : While → StmtTree
while_tree = fold-While ElseTree StmtTree BlockTree StmtTree IfTree StmtTree else_step stmt_step block_step for_step if_step while_step

abbrev pub for_tree : For → StmtTree
for_tree = fold-For ElseTree StmtTree BlockTree StmtTree IfTree StmtTree else_step stmt_step block_step for_step if_step while_step

abbrev pub stmts_tree : List Stmt → StmtTrees
stmts_tree ss = listed_stmts (map stmt_tree ss)
