-- Objects of the code with their classes, as the definitions see them.
use Rattle.agxx_base.specs.declared.ids.ClassId.{ClassId}
use Rattle.cxx_core.specs.declared.expr.Object.{Object}
use Rattle.cxx_core.specs.CoreExpr.{CoreObject}
use Rattle.cxx_core.specs.ExprView.{object_core}

abbrev pub object_in : Object × ClassId → CoreObject × ClassId
object_in o = (object_core o.0, o.1)
