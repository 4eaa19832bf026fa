-- The core expression that an expression of the code is.
use Rattle.std.specs.Prelude.{ℕ, List, [], ◌∷◌, map, Option, option_map}
use Rattle.agxx_base.specs.declared.ids.FnId.{FnId}
use Rattle.cxx_core.specs.declared.expr.Variable.{Variable}
use Rattle.cxx_core.specs.declared.expr.Variable.TheVariants as variable_of
use Rattle.cxx_core.specs.declared.expr.Object.{Object}
use Rattle.cxx_core.specs.declared.expr.Object.TheVariants as object_of
use Rattle.cxx_core.specs.declared.expr.Left.{Left}
use Rattle.cxx_core.specs.declared.expr.Left.TheVariants as left_of
use Rattle.cxx_core.specs.declared.expr.Callee.{Callee}
use Rattle.cxx_core.specs.declared.expr.Expr.{Expr}
use Rattle.cxx_core.specs.declared.expr.Expr.TheOpen.{Expr-F}
use Rattle.cxx_core.specs.declared.expr.Expr.TheFolds.{fold-Expr}
use Rattle.cxx_core.specs.CoreExpr as c
use Rattle.cxx_core.specs.CoreExpr.{CoreVariable, CoreObject, CoreLeft, CoreCallee, CoreExpr, CoreExprs}

abbrev pub variable_core : Variable → CoreVariable
variable_core (variable_of.Local name t) = c.local name.0 t
variable_core (variable_of.Global is_global name t) = c.global is_global name.0 t

abbrev pub object_core : Object → CoreObject
object_core object_of.Own = c.own
object_core object_of.This = c.by_this
object_core (object_of.Named name class) = c.by_object name.0 class
object_core (object_of.Pointed v) = c.by_pointer (variable_core v)

abbrev pub left_core : Left → CoreLeft
left_core (left_of.Variable v) = c.variable (variable_core v)
left_core (left_of.Member m) = c.member m.at (object_core m.object) m.class m.name.0 m.kind

abbrev pub callee_core : Callee → CoreCallee
callee_core f = record {
  at = f.at;
  named = f.named;
  function = f.function.0;
  name = f.name.0;
  class = f.class;
  object = option_map object_core f.object;
  is_global = f.is_global;
  result = f.result;
}

abbrev pub listed_exprs : List CoreExpr → CoreExprs
listed_exprs [] = c.no_exprs
listed_exprs (first ∷ rest) = c.more_exprs first (listed_exprs rest)

abbrev pub expr_step : Expr-F CoreExpr → CoreExpr
expr_step (Expr-F.Number v) = c.number v
expr_step Expr-F.Null = c.null
expr_step (Expr-F.This class) = c.this class
expr_step (Expr-F.Read l) = c.read (left_core l)
expr_step (Expr-F.Address name class) = c.address name.0 class
expr_step (Expr-F.Unary at o t a) = c.unary at o t a
expr_step (Expr-F.Binary at o s t a b) = c.binary at o s t a b
expr_step (Expr-F.And s t a b) = c.and s t a b
expr_step (Expr-F.Or s t a b) = c.or s t a b
expr_step (Expr-F.Cast k t a) = c.cast k t a
expr_step (Expr-F.Call f es) = c.call (callee_core f) (listed_exprs es)
expr_step (Expr-F.New at class es) = c.new at class (listed_exprs es)
expr_step (Expr-F.Wrong at) = c.wrong at

abbrev pub expr_core : Expr → CoreExpr
expr_core = fold-Expr CoreExpr expr_step

abbrev pub exprs_core : List Expr → CoreExprs
exprs_core es = listed_exprs (map expr_core es)
