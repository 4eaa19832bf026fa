-- The codes of core expressions and statements, by which a proof tells values that hold them apart.
use base.Stored.{Coded}
use Rattle.cxx_core.specs.CoreExpr.{CoreVariable, CoreObject, CoreLeft, CoreCallee, CoreExpr, CoreExprs}
use Rattle.cxx_core.specs.CoreStmt.{CoreSource, CorePrinted, CoreMutex, CoreStmt, CoreStmts}
use Rattle.cxx_core.specs.Kept.{code_of}
use Rattle.cxx_core.specs.KeptParts.{kept_variable, kept_object, kept_left, kept_callee}
use Rattle.cxx_core.specs.KeptExprs.{kept_expr, kept_exprs}
use Rattle.cxx_core.specs.KeptStmts.{kept_source, kept_printed, kept_mutex, kept_stmt, kept_stmts}

abbrev pub variable_code : Coded CoreVariable
variable_code = code_of kept_variable

abbrev pub object_code : Coded CoreObject
object_code = code_of kept_object

abbrev pub left_code : Coded CoreLeft
left_code = code_of kept_left

abbrev pub callee_code : Coded CoreCallee
callee_code = code_of kept_callee

abbrev pub expr_code : Coded CoreExpr
expr_code = code_of kept_expr

abbrev pub exprs_code : Coded CoreExprs
exprs_code = code_of kept_exprs

abbrev pub source_code : Coded CoreSource
source_code = code_of kept_source

abbrev pub printed_code : Coded CorePrinted
printed_code = code_of kept_printed

abbrev pub mutex_code : Coded CoreMutex
mutex_code = code_of kept_mutex

abbrev pub stmt_code : Coded CoreStmt
stmt_code = code_of kept_stmt

abbrev pub stmts_code : Coded CoreStmts
stmts_code = code_of kept_stmts

pub ruleset core_codes =
    (variable_code, object_code, left_code, callee_code, expr_code, exprs_code, source_code, printed_code, mutex_code, stmt_code, stmts_code)
