-- Programs and their declarations as plain data, on which definitions recurse.
use Rattle.std.specs.Prelude.{List, map, Option}
use Rattle.agxx_base.specs.declared.ids.NameId.{NameId}
use Rattle.agxx_base.specs.declared.place.Place.{Place}
use Rattle.cxx_tree.specs.declared.node.Placed.{Placed}
use Rattle.cxx_tree.specs.declared.program.TypeName.{TypeName}
use Rattle.cxx_tree.specs.declared.program.ClassWord.{ClassWord}
use Rattle.cxx_tree.specs.declared.program.Access.{Access}
use Rattle.cxx_tree.specs.declared.program.Directive.{Directive}
use Rattle.cxx_tree.specs.declared.program.Member.{Member}
use Rattle.cxx_tree.specs.declared.program.Param.{Param}
use Rattle.cxx_tree.specs.declared.program.Function.{Function}
use Rattle.cxx_tree.specs.declared.program.Proto.{Proto}
use Rattle.cxx_tree.specs.declared.program.Init.{Init}
use Rattle.cxx_tree.specs.declared.program.Ctor.{Ctor}
use Rattle.cxx_tree.specs.declared.program.Dtor.{Dtor}
use Rattle.cxx_tree.specs.declared.program.Item.{Item}
use Rattle.cxx_tree.specs.declared.program.Item.TheVariants as item_of
use Rattle.cxx_tree.specs.declared.program.Class.{Class}
use Rattle.cxx_tree.specs.declared.program.ClassName.{ClassName}
use Rattle.cxx_tree.specs.declared.program.Variable.{Variable}
use Rattle.cxx_tree.specs.declared.program.Object.{Object}
use Rattle.cxx_tree.specs.declared.program.Global.{Global}
use Rattle.cxx_tree.specs.declared.program.Global.TheVariants as global_of
use Rattle.cxx_tree.specs.declared.program.Decl.{Decl}
use Rattle.cxx_tree.specs.declared.program.Decl.TheVariants as decl_of
use Rattle.cxx_tree.specs.declared.program.Program.{Program}
use Rattle.cxx_tree.specs.ExprTree.{ExprTrees, exprs_tree}
use Rattle.cxx_tree.specs.StmtTree.{BlockTree, block_tree}

pub record FunctionTree : Type 0 where
  pub result : Placed TypeName
  pub name : Placed NameId
  pub params : List Param
  pub body : BlockTree

pub record InitTree : Type 0 where
  pub name : Placed NameId
  pub arguments : ExprTrees

pub record CtorTree : Type 0 where
  pub name : Placed NameId
  pub params : List Param
  pub inits : List InitTree
  pub body : BlockTree

pub record DtorTree : Type 0 where
  pub at : Place
  pub name : Placed NameId
  pub body : BlockTree

pub data ItemTree : Type 0 where
  label : Place → Access → ItemTree
  member : Member → ItemTree
  function : FunctionTree → ItemTree
  ctor : CtorTree → ItemTree
  dtor : DtorTree → ItemTree

pub record ClassTree : Type 0 where
  pub at : Place
  pub word : ClassWord
  pub name : Placed NameId
  pub base : Option (Placed NameId)
  pub items : List ItemTree

pub record ObjectTree : Type 0 where
  pub class : Placed NameId
  pub name : Placed NameId
  pub arguments : ExprTrees

pub data GlobalTree : Type 0 where
  variable : Variable → GlobalTree
  object : ObjectTree → GlobalTree
  mutex : Place → Placed NameId → GlobalTree

pub data DeclTree : Type 0 where
  class : ClassTree → DeclTree
  class_name : ClassName → DeclTree
  free_function : FunctionTree → DeclTree
  proto : Proto → DeclTree
  global : GlobalTree → DeclTree

pub record ProgramTree : Type 0 where
  pub at : Place
  pub directives : List Directive
  pub decls : List DeclTree

abbrev pub function_tree : Function → FunctionTree
function_tree f = record { result = f.result; name = f.name; params = f.params; body = block_tree f.body }

abbrev pub init_tree : Init → InitTree
init_tree i = record { name = i.name; arguments = exprs_tree i.arguments }

abbrev pub ctor_tree : Ctor → CtorTree
ctor_tree c = record { name = c.name; params = c.params; inits = map init_tree c.inits; body = block_tree c.body }

abbrev pub dtor_tree : Dtor → DtorTree
dtor_tree d = record { at = d.at; name = d.name; body = block_tree d.body }

abbrev pub item_tree : Item → ItemTree
item_tree (item_of.Label at access) = label at access
item_tree (item_of.Member m) = member m
item_tree (item_of.Function f) = function (function_tree f)
item_tree (item_of.Ctor c) = ctor (ctor_tree c)
item_tree (item_of.Dtor d) = dtor (dtor_tree d)

abbrev pub class_tree : Class → ClassTree
class_tree c = record { at = c.at; word = c.word; name = c.name; base = c.base; items = map item_tree c.items }

abbrev pub object_tree : Object → ObjectTree
object_tree o = record { class = o.class; name = o.name; arguments = exprs_tree o.arguments }

abbrev pub global_tree : Global → GlobalTree
global_tree (global_of.Variable v) = variable v
global_tree (global_of.Object o) = object (object_tree o)
global_tree (global_of.Mutex at name) = mutex at name

abbrev pub decl_tree : Decl → DeclTree
decl_tree (decl_of.Class c) = class (class_tree c)
decl_tree (decl_of.ClassName c) = class_name c
decl_tree (decl_of.Function f) = free_function (function_tree f)
decl_tree (decl_of.Proto p) = proto p
decl_tree (decl_of.Global g) = global (global_tree g)

abbrev pub program_tree : Program → ProgramTree
program_tree p = record { at = p.at; directives = p.directives; decls = map decl_tree p.decls }
