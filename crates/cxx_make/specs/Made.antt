-- Trees of which all stands at one place: what lines of generated text are.
use Rattle.std.specs.Prelude.{ℕ, false, List, [], Option, Some, None}
use Rattle.agxx_base.specs.declared.ids.NameId.{NameId}
use Rattle.agxx_base.specs.declared.kind.NumKind.{NumKind}
use Rattle.agxx_base.specs.declared.place.Place.{Place}
use Rattle.cxx_tree.specs.declared.node.Node.{Node}
use Rattle.cxx_tree.specs.declared.node.Placed.{Placed}
use Rattle.cxx_tree.specs.declared.operator.BinOp.{BinOp}
use Rattle.cxx_tree.specs.declared.operator.UnOp.{UnOp}
use Rattle.cxx_tree.specs.declared.expr.Ref.{Ref}
use Rattle.cxx_tree.specs.declared.expr.Base.TheVariants as base_of
use Rattle.cxx_tree.specs.declared.expr.Left.{Left}
use Rattle.cxx_tree.specs.declared.expr.Left.TheVariants as left_of
use Rattle.cxx_tree.specs.declared.expr.Callee.TheVariants as callee_of
use Rattle.cxx_tree.specs.declared.program.Member.{Member}
use Rattle.cxx_tree.specs.declared.program.TypeName.{TypeName}
use Rattle.cxx_tree.specs.declared.program.TypeName.TheVariants as type_of
use Rattle.cxx_tree.specs.ExprTree as e
use Rattle.cxx_tree.specs.ExprTree.{ExprTree}
use Rattle.cxx_tree.specs.StmtTree as s
use Rattle.cxx_tree.specs.StmtTree.{StmtTree, BlockTree, IfTree, listed_stmts}
use Rattle.cxx_tree.specs.ProgramTree.{FunctionTree}

module _ (at : Place) where
  abbrev pub node : Node
  node = record { at = at; id = record { 0 = 0 } }

  abbrev pub placed : {A : Type 0} → A → Placed A
  placed item = record { at = at; item = item }

  abbrev pub ref : NameId → Ref
  ref name = record { node = node; global = false; name = placed name }

  -- ---- expressions

  abbrev pub left : NameId → Left
  left name = left_of.Name (ref name)

  abbrev pub variable : NameId → ExprTree
  variable name = e.left (left name)

  abbrev pub number : NumKind → ℕ → ExprTree
  number kind bits = e.lit node (record { bits = bits; kind = kind })

  abbrev pub cast : NumKind → ExprTree → ExprTree
  cast kind operand = e.cast node (type_of.Num kind) operand

  abbrev pub unary : UnOp → ExprTree → ExprTree
  unary op operand = e.unary node op operand

  abbrev pub binary : BinOp → ExprTree → ExprTree → ExprTree
  binary op a b = e.binary node (placed op) a b

  abbrev pub paren : ExprTree → ExprTree
  paren inner = e.paren node inner

  -- ---- statements

  -- `name = value;`
  abbrev pub assign : NameId → ExprTree → StmtTree
  assign name value = s.simple (s.assign (record { left = left name; sign = placed None; value = value }))

  -- `T name = value;`
  abbrev pub local : TypeName → NameId → ExprTree → StmtTree
  local type_name name value =
      s.local (record { type_name = placed type_name; name = placed name; initial = Some (record { sign = at; value = value }) })

  -- `name();`
  abbrev pub call : NameId → StmtTree
  call name = s.simple (s.call_stmt (e.calls node (callee_of.Bare (ref name)) e.no_exprs))

  -- `object.name();`
  abbrev pub call_on : NameId → NameId → StmtTree
  call_on object name =
      s.simple (s.call_stmt (e.calls node (callee_of.Member (record { base = base_of.Dot (ref object); name = placed name })) e.no_exprs))

  -- `{ .. }`
  abbrev pub block : List StmtTree → BlockTree
  block stmts = s.braces at (listed_stmts stmts)

  abbrev pub chooses : ExprTree → List StmtTree → IfTree
  chooses condition stmts = s.chooses at condition (block stmts) s.no_else

  -- `if (condition) { .. }`
  abbrev pub when : ExprTree → List StmtTree → StmtTree
  when condition stmts = s.branch (chooses condition stmts)

  -- ---- members and functions of a class

  -- `T name;`
  abbrev pub member : TypeName → NameId → Member
  member type_name name = record { type_name = placed type_name; name = placed name }

  -- `void name() { .. }`
  abbrev pub procedure : NameId → List StmtTree → FunctionTree
  procedure name stmts = record { result = placed type_of.Void; name = placed name; params = []; body = block stmts }
