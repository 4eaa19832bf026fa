-- The core form of a program in normal form. Classes, and functions with constructors and destructors, stand in the order
-- of the text, so each stands at its number.
use Rattle.std.specs.Prelude.{ℕ, suc, Bool, true, false, nat_eq, List, [], ◌∷◌, map, Option, Some, None, codes, neg_ℤ, if◌then◌else◌}
use Rattle.agxx_base.specs.declared.ids.ClassId.{ClassId}
use Rattle.agxx_base.specs.declared.ids.NameId.{NameId}
use Rattle.agxx_base.specs.declared.place.Place.{Place}
use Rattle.agxx_base.specs.declared.kind.NumKind.{NumKind}
use Rattle.agxx_base.specs.Names.{number_of}
use Rattle.cxx_tree.specs.declared.node.Placed.{Placed}
use Rattle.cxx_tree.specs.declared.program.Const.{Const}
use Rattle.cxx_tree.specs.declared.program.Const.TheVariants as const
use Rattle.cxx_tree.specs.declared.program.Param.{Param}
use Rattle.cxx_tree.specs.declared.program.TypeName.{TypeName}
use Rattle.cxx_tree.specs.declared.program.TypeName.TheVariants as type_name
use Rattle.cxx_tree.specs.ProgramTree as p
use Rattle.cxx_arith.specs.declared.value.Value.{Value}
use Rattle.cxx_arith.specs.Numbers.{number, value_of, convert_of, flag}
use Rattle.cxx_names.specs.declared.declarations.Declared.{Declared}
use Rattle.cxx_names.specs.declared.declarations.ClassInfo.{ClassInfo}
use Rattle.cxx_names.specs.declared.declarations.Signature.{Signature}
use Rattle.cxx_names.specs.declared.types.ValueType.{ValueType}
use Rattle.cxx_names.specs.declared.types.ValueType.TheVariants as type
use Rattle.cxx_names.specs.Tables.{with_name}
use Rattle.cxx_names.specs.Declarations.{class_at, class_named, declared}
use Rattle.cxx_names.specs.LookUp.{base_by, free_signature, thing_of}
use Rattle.cxx_core.specs.CoreExpr as c
use Rattle.cxx_core.specs.CoreExpr.{CoreExprs}
use Rattle.cxx_core.specs.CoreStmt as cs
use Rattle.cxx_core.specs.CoreStmt.{CoreStmts}
use Rattle.cxx_core.specs.CoreProgram as cp
use Rattle.cxx_core.specs.CoreProgram.{CoreParam, CoreFunction, CoreWord, CoreClass, CoreGlobal, CoreProgram}
use Rattle.cxx_core.specs.Meanings.{Scope, Within, type_named, kind_named}
use Rattle.cxx_core.specs.ElaboratedExpr.{literal, core_exprs}
use Rattle.cxx_core.specs.ElaboratedStmt.{core_block}

-- ---- functions

-- the type of a parameter that can hold a value, as it can in an accepted program
abbrev pub type_or_null : Option ValueType → ValueType
type_or_null None = type.Null
type_or_null (Some t) = t

abbrev pub core_param : Declared → Param → CoreParam
core_param d q = record { name = q.name.item.0; type = type_or_null (type_named d q.type_name.item) }

abbrev pub with_params : Declared → Scope → List Param → Scope
with_params d scope [] = scope
with_params d scope (q ∷ qs) = with_params d (with_name scope q.name.item.0 (thing_of d q.type_name.item)) qs

abbrev pub params_scope : Declared → List Param → Scope
params_scope d params = with_params d [] params

abbrev pub core_function : Within → p.FunctionTree → CoreFunction
core_function w f = record {
  number = 0;
  name = f.name;
  class = w.class;
  kind = cp.plain;
  params = map (core_param w.declared) f.params;
  result = type_named w.declared f.result.item;
  base = None;
  base_arguments = c.no_exprs;
  body = core_block (record w { result = type_named w.declared f.result.item }) (params_scope w.declared f.params) f.body;
}

-- whether an initialiser is the base's
abbrev pub is_named : Option (Placed NameId) → NameId → Bool
is_named None name = false
is_named (Some base) name = nat_eq base.item.0 name.0

-- the arguments of the first initialiser that is the base's
abbrev pub base_arguments : Within → Scope → Option (Placed NameId) → List p.InitTree → CoreExprs
base_arguments w scope base [] = c.no_exprs
base_arguments w scope base (i ∷ is) =
    if is_named base i.name.item then core_exprs w scope i.arguments else base_arguments w scope base is

-- of what is no base's initialiser, the normal form of an accepted program has none
abbrev pub others_wrong : Option (Placed NameId) → List p.InitTree → CoreStmts → CoreStmts
others_wrong base [] body = body
others_wrong base (i ∷ is) body =
    if is_named base i.name.item then others_wrong base is body else cs.more_stmts (cs.wrong i.name.at) (others_wrong base is body)

abbrev pub number_by : Option Signature → Option ℕ
number_by None = None
number_by (Some s) = Some s.id.0

abbrev pub ctor_by : Option ClassInfo → Option Signature
ctor_by None = None
ctor_by (Some info) = info.ctor

abbrev pub dtor_by : Option ClassInfo → Option Signature
dtor_by None = None
dtor_by (Some info) = info.dtor

abbrev pub info_by : Declared → Option ClassId → Option ClassInfo
info_by d None = None
info_by d (Some class) = class_at d class

abbrev pub base_class : Declared → Option ClassId → Option ClassId
base_class d class = base_by (info_by d class)

abbrev pub core_ctor : Within → Option (Placed NameId) → p.CtorTree → CoreFunction
core_ctor w base f = record {
  number = 0;
  name = f.name;
  class = w.class;
  kind = cp.constructor;
  params = map (core_param w.declared) f.params;
  result = None;
  base = number_by (ctor_by (info_by w.declared (base_class w.declared w.class)));
  base_arguments = base_arguments w (params_scope w.declared f.params) base f.inits;
  body = others_wrong base f.inits (core_block w (params_scope w.declared f.params) f.body);
}

abbrev pub core_dtor : Within → p.DtorTree → CoreFunction
core_dtor w f = record {
  number = 0;
  name = f.name;
  class = w.class;
  kind = cp.destructor;
  params = [];
  result = None;
  base = number_by (dtor_by (info_by w.declared (base_class w.declared w.class)));
  base_arguments = c.no_exprs;
  body = core_block w [] f.body;
}

-- the functions of items, before those that follow
abbrev pub item_functions : Within → Option (Placed NameId) → p.ItemTree → List CoreFunction → List CoreFunction
item_functions w base (p.label at access) rest = rest
item_functions w base (p.member m) rest = rest
item_functions w base (p.function f) rest = core_function w f ∷ rest
item_functions w base (p.ctor f) rest = core_ctor w base f ∷ rest
item_functions w base (p.dtor f) rest = core_dtor w f ∷ rest

abbrev pub items_functions : Within → Option (Placed NameId) → List p.ItemTree → List CoreFunction → List CoreFunction
items_functions w base [] rest = rest
items_functions w base (i ∷ is) rest = item_functions w base i (items_functions w base is rest)

-- ---- classes

abbrev pub word_by : ℕ → Option NumKind → List CoreWord → List CoreWord
word_by name None rest = rest
word_by name (Some k) rest = record { name = name; kind = k } ∷ rest

abbrev pub words : Declared → List p.ItemTree → List CoreWord
words d [] = []
words d (p.member m ∷ is) = word_by m.name.item.0 (kind_named d m.type_name.item) (words d is)
words d (_ ∷ is) = words d is

abbrev pub mutex_by : ℕ → TypeName → List ℕ → List ℕ
mutex_by name type_name.Mutex rest = name ∷ rest
mutex_by name _ rest = rest

abbrev pub mutexes : List p.ItemTree → List ℕ
mutexes [] = []
mutexes (p.member m ∷ is) = mutex_by m.name.item.0 m.type_name.item (mutexes is)
mutexes (_ ∷ is) = mutexes is

abbrev pub core_class : Declared → ClassId → p.ClassTree → CoreClass
core_class d class x = record {
  name = x.name;
  base = base_class d (Some class);
  words = words d x.items;
  mutexes = mutexes x.items;
  constructor = number_by (ctor_by (class_at d class));
  destructor = number_by (dtor_by (class_at d class));
}

-- ---- globals

abbrev pub signed : Bool → Value → Value
signed false v = v
signed true v = value_of v.kind (neg_ℤ (number v))

abbrev pub const_value : Const → Value
const_value (const.Number is_negative n) = signed is_negative (literal n)
const_value (const.Flag is_set) = flag is_set
const_value const.Null = flag false

-- a number without initial value is 0
abbrev pub first_value : NumKind → Option (Placed Const) → Value
first_value k None = record { kind = k; bits = 0 }
first_value k (Some initial) = convert_of k (const_value initial.item)

abbrev pub variable_as : Place → ℕ → Option ValueType → Option (Placed Const) → CoreGlobal
variable_as at name (Some (type.Number k)) initial = cp.number name (first_value k initial)
variable_as at name (Some (type.Pointer class)) initial = cp.pointer name class
variable_as at name _ initial = cp.wrong at

abbrev pub object_as : Place → ℕ → Option ClassId → CoreExprs → CoreGlobal
object_as at name None arguments = cp.wrong at
object_as at name (Some class) arguments = cp.object at name class arguments

abbrev pub core_global : Within → p.GlobalTree → CoreGlobal
core_global w (p.variable v) = variable_as v.type_name.at v.name.item.0 (type_named w.declared v.type_name.item) v.initial
core_global w (p.object o) =
    object_as o.class.at o.name.item.0 (class_named w.declared o.class.item.0) (core_exprs w [] o.arguments)
core_global w (p.mutex at name) = cp.mutex name.item.0

-- ---- programs

abbrev pub in_class : Within → ℕ → Within
in_class w k = record w { class = Some (record { 0 = k }) }

-- the functions of a declaration, before those that follow; the number is that of the next class
abbrev pub decl_functions : Within → ℕ → p.DeclTree → List CoreFunction → List CoreFunction
decl_functions w k (p.class x) rest = items_functions (in_class w k) x.base x.items rest
decl_functions w k (p.class_name x) rest = rest
decl_functions w k (p.free_function f) rest = core_function w f ∷ rest
decl_functions w k (p.proto f) rest = rest
decl_functions w k (p.global g) rest = rest

abbrev pub after_decl : ℕ → p.DeclTree → ℕ
after_decl k (p.class x) = suc k
after_decl k _ = k

abbrev pub decls_functions : Within → ℕ → List p.DeclTree → List CoreFunction
decls_functions w k [] = []
decls_functions w k (x ∷ xs) = decl_functions w k x (decls_functions w (after_decl k x) xs)

abbrev pub decls_classes : Declared → ℕ → List p.DeclTree → List CoreClass
decls_classes d k [] = []
decls_classes d k (p.class x ∷ xs) = core_class d (record { 0 = k }) x ∷ decls_classes d (suc k) xs
decls_classes d k (_ ∷ xs) = decls_classes d k xs

abbrev pub decls_globals : Within → List p.DeclTree → List CoreGlobal
decls_globals w [] = []
decls_globals w (p.global g ∷ xs) = core_global w g ∷ decls_globals w xs
decls_globals w (_ ∷ xs) = decls_globals w xs

abbrev pub numbered_from : ℕ → List CoreFunction → List CoreFunction
numbered_from k [] = []
numbered_from k (f ∷ fs) = record f { number = k } ∷ numbered_from (suc k) fs

abbrev pub outside : List (List ℕ) → Declared → Within
outside names d = record { names = names; declared = d; class = None; result = None }

abbrev pub core_decls : List (List ℕ) → Declared → List p.DeclTree → CoreProgram
core_decls names d decls = record {
  functions = numbered_from 0 (decls_functions (outside names d) 0 decls);
  classes = decls_classes d 0 decls;
  globals = decls_globals (outside names d) decls;
  main = number_by (free_signature d (number_of names (codes "main")));
}

abbrev pub core_program : List (List ℕ) → p.ProgramTree → CoreProgram
core_program names q = core_decls names (declared names q) q.decls
