-- The items of the code as those of the machine.
use Rattle.std.specs.Prelude.{ℕ, List}
use Rattle.agxx_base.specs.declared.ids.FnId.{FnId}
use Rattle.agxx_base.specs.declared.ids.ObjectId.{ObjectId}
use Rattle.cxx_core.specs.CoreExpr as c
use Rattle.cxx_core.specs.CoreStmt as cs
use Rattle.cxx_core.specs.declared.expr.Expr.{Expr}
use Rattle.cxx_core.specs.declared.stmt.Stmt.{Stmt}
use Rattle.cxx_core.specs.ExprView.{left_core, callee_core, expr_core, exprs_core}
use Rattle.cxx_core.specs.StmtView.{stmt_core, stmts_core}
use Rattle.step_machine.specs.Item as it
use Rattle.step_frame.specs.declared.work.Ending.{Ending}
use Rattle.step_frame.specs.declared.work.Ending.TheVariants as ending
use Rattle.step_frame.specs.declared.work.Work.{Work}
use Rattle.step_frame.specs.declared.work.Work.TheVariants as work

abbrev pub ending_of : Ending → it.Ending
ending_of ending.Returns = it.returns
ending_of ending.LacksValue = it.lacks_value
ending_of ending.Destroys = it.destroys

-- a `while` whose condition is tested
abbrev pub while_of : Expr → List Stmt → it.Item
while_of e body = it.stmt (cs.while (expr_core e) (stmts_core body))

-- the test of the condition of a `for`, with its step and body
abbrev pub for_test_of : Expr → List Stmt → List Stmt → it.Item
for_test_of e step body = it.for_test (expr_core e) (stmts_core step) (stmts_core body)

abbrev pub item_of : Work → it.Item
item_of (work.Make at o class es) = it.make at o.0 class (exprs_core es.now)
item_of (work.Build at o class) = it.build at o.0 class
item_of (work.Unmake at o class) = it.unmake at o.0 class
item_of work.Run = it.run
item_of work.Finish = it.finish
item_of (work.Stmt s) = it.stmt (stmt_core s.now)
item_of (work.While e body) = while_of e.now body.now
item_of (work.Expr e) = it.expr (expr_core e.now)
item_of (work.Read l) = it.expr (c.read (left_core l))
item_of (work.OpOne at o) = it.op_one at o
item_of (work.OpTwo at o) = it.op_two at o
item_of (work.OpLeft at o) = it.op_left at o
item_of (work.Cast k) = it.cast k
item_of (work.Short is_and e) = it.short is_and (expr_core e.now)
item_of work.Truth = it.truth
item_of work.Drop = it.drop
item_of (work.Bind name t) = it.bind name.0 t
item_of (work.Put l) = it.put (left_core l)
item_of (work.Keep t) = it.keep t
item_of (work.Print at) = it.print at
item_of (work.Show at bytes) = it.show at bytes.now
item_of (work.Branch a b) = it.branch (stmts_core a.now) (stmts_core b.now)
item_of (work.Loop e body) = it.loop (expr_core e.now) (stmts_core body.now)
item_of (work.ForTest e step body) = for_test_of e.now step.now body.now
item_of (work.ForLoop e step body) = it.for_loop (expr_core e.now) (stmts_core step.now) (stmts_core body.now)
item_of (work.Call f) = it.call (callee_core f)
item_of (work.New at class) = it.new at class
item_of (work.Delete at class) = it.delete at class
item_of (work.Spawn at name f) = it.spawn at name.0 f.0
item_of (work.Up at f) = it.up at f.0
item_of (work.Down at f) = it.down at f.0
item_of (work.Leave at) = it.leave at
item_of (work.End at e) = it.end at (ending_of e)

abbrev pub number_of : ObjectId → ℕ
number_of o = o.0

abbrev pub function_of : FnId → ℕ
function_of f = f.0
