-- Programs as a machine runs them.
use Rattle.std.specs.Prelude.{ℕ, List, Option}
use Rattle.agxx_base.specs.declared.ids.ClassId.{ClassId}
use Rattle.agxx_base.specs.declared.ids.NameId.{NameId}
use Rattle.agxx_base.specs.declared.kind.NumKind.{NumKind}
use Rattle.agxx_base.specs.declared.place.Place.{Place}
use Rattle.cxx_tree.specs.declared.node.Placed.{Placed}
use Rattle.cxx_arith.specs.declared.value.Value.{Value}
use Rattle.cxx_names.specs.declared.types.ValueType.{ValueType}
use Rattle.cxx_core.specs.CoreExpr.{CoreExprs}
use Rattle.cxx_core.specs.CoreStmt.{CoreStmts}

pub record CoreParam : Type 0 where
  pub name : ℕ
  pub type : ValueType

pub data FunctionKind : Type 0 where
  plain : FunctionKind
  constructor : FunctionKind
  destructor : FunctionKind

pub record CoreFunction : Type 0 where
  -- its place in the list of functions
  pub number : ℕ
  -- a constructor's and a destructor's is the class's
  pub name : Placed NameId
  -- the class that declares it, if it is no free function
  pub class : Option ClassId
  pub kind : FunctionKind
  pub params : List CoreParam
  pub result : Option ValueType
  -- of a constructor the base's constructor, and of a destructor the base's destructor
  pub base : Option ℕ
  -- the arguments for the base's constructor, which are evaluated before it
  pub base_arguments : CoreExprs
  pub body : CoreStmts

-- a member that is a word of its object
pub record CoreWord : Type 0 where
  pub name : ℕ
  pub kind : NumKind

pub record CoreClass : Type 0 where
  pub name : Placed NameId
  pub base : Option ClassId
  -- those that the class itself declares, in the order of the text
  pub words : List CoreWord
  -- the names of its mutex members
  pub mutexes : List ℕ
  pub constructor : Option ℕ
  pub destructor : Option ℕ

pub data CoreGlobal : Type 0 where
  -- a number, of the kind and with the bits that it has at first
  number : ℕ → Value → CoreGlobal
  -- a pointer, which is null at first
  pointer : ℕ → ClassId → CoreGlobal
  -- an object, with the place of its class's name and the arguments for its constructor
  object : Place → ℕ → ClassId → CoreExprs → CoreGlobal
  mutex : ℕ → CoreGlobal
  -- what no accepted program has
  wrong : Place → CoreGlobal

pub record CoreProgram : Type 0 where
  -- each stands at its number
  pub functions : List CoreFunction
  pub classes : List CoreClass
  -- in order of declaration
  pub globals : List CoreGlobal
  pub main : Option ℕ
