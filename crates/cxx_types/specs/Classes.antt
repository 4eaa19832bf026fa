-- Functions and classes: the rules that they violate, and the nodes of their bodies.
use Rattle.std.specs.Prelude.{ℕ, zero, suc, Bool, true, false, not, List, [], ◌∷◌, length, nat_eq, nat_lt, Option, Some, None, is_some, if◌then◌else◌}
use Rattle.agxx_base.specs.declared.ids.ClassId.{ClassId}
use Rattle.agxx_base.specs.declared.ids.NameId.{NameId}
use Rattle.agxx_base.specs.declared.place.Place.{Place}
use Rattle.agxx_base.specs.declared.rule.Rule.TheVariants as rule
use Rattle.cxx_tree.specs.declared.node.Placed.{Placed}
use Rattle.cxx_tree.specs.declared.expr.Left.{Left}
use Rattle.cxx_tree.specs.declared.expr.Left.TheVariants as left_of
use Rattle.cxx_tree.specs.declared.program.TypeName.{TypeName}
use Rattle.cxx_tree.specs.declared.program.TypeName.TheVariants as type_name
use Rattle.cxx_tree.specs.declared.program.Access.{Access}
use Rattle.cxx_tree.specs.declared.program.Access.TheVariants as access
use Rattle.cxx_tree.specs.declared.program.Member.{Member}
use Rattle.cxx_tree.specs.declared.program.Param.{Param}
use Rattle.cxx_tree.specs.ExprTree as e
use Rattle.cxx_tree.specs.ExprTree.{ExprTree, ExprTrees, CallTree}
use Rattle.cxx_tree.specs.StmtTree.{BlockTree}
use Rattle.cxx_tree.specs.Places.{expr_node}
use Rattle.cxx_tree.specs.ProgramTree as p
use Rattle.cxx_tree.specs.ProgramTree.{FunctionTree, InitTree, CtorTree, DtorTree, ItemTree, ClassTree}
use Rattle.cxx_names.specs.declared.declarations.ClassInfo.{ClassInfo}
use Rattle.cxx_names.specs.declared.declarations.Declared.{Declared}
use Rattle.cxx_names.specs.declared.declarations.MemberInfo.{MemberInfo}
use Rattle.cxx_names.specs.declared.declarations.Signature.{Signature}
use Rattle.cxx_names.specs.declared.types.ValueType.{ValueType}
use Rattle.cxx_names.specs.declared.types.Variable.{Variable}
use Rattle.cxx_names.specs.declared.types.Variable.TheVariants as variable
use Rattle.cxx_names.specs.Tables.{named, with_name}
use Rattle.cxx_names.specs.Declarations.{class_at}
use Rattle.cxx_names.specs.LookUp.{thing_of, has_item, stands_before}
use Rattle.cxx_types.specs.declared.context.Context.{Context}
use Rattle.cxx_types.specs.declared.context.Owner.TheVariants as owner
use Rattle.cxx_types.specs.State.{State}
use Rattle.cxx_types.specs.declared.classes.ItemsSeen.{ItemsSeen}
use Rattle.cxx_types.specs.Checking.{required}
use Rattle.cxx_types.specs.Conversion.{may_convert}
use Rattle.cxx_types.specs.Counts.{most_params, most_ancestors}
use Rattle.cxx_types.specs.Selections.{meant, is_value, value_of}
use Rattle.cxx_types.specs.Calls.{counts, ctor_of}
use Rattle.cxx_types.specs.Expressions.{Typed, count, expr, exprs, passed, both}
use Rattle.cxx_types.specs.Statements.{body, dtor_of}
use Rattle.cxx_types.specs.Locals.{variable_type, result_type, no_class, param_declared}

-- ---- functions

abbrev pub param : Context → ℕ → Param → State → State
param c index f s =
    let x = required rule.N10 f.name.at (not (nat_eq index most_params)) (variable_type f.type_name s) in
    param_declared c f.name (thing_of x.declared f.type_name.item) x

-- parameters, of which so many stand before
abbrev pub params : Context → ℕ → List Param → State → State
params c index [] s = s
params c index (f ∷ fs) s = params c (suc index) fs (param c index f s)

-- no local is in scope outside of functions
abbrev pub begun : State → State
begun s = record s { scope = []; locals = 0; returns = 0 }

unfoldable pub function : Context → FunctionTree → State → State
function c f s = begun (body c f.body (params c 0 f.params (result_type f.result s)))

-- ---- initialisers of a constructor

abbrev pub of_member : Option Variable → Bool
of_member (Some (variable.Member class a t)) = true
of_member _ = false

abbrev pub left_of_member : Context → Left → State → Bool
left_of_member c (left_of.Name r) s = of_member (meant c r s)
left_of_member c (left_of.Member n q) s = true
left_of_member c (left_of.Result n) s = false

abbrev pub either : Bool → Bool → Bool
either true other = true
either false other = other

abbrev mutual
  -- whether an expression names a member or calls a function
  pub uses_object : Context → ExprTree → State → Bool
  uses_object c (e.lit n number) s = false
  uses_object c (e.flag n is_set) s = false
  uses_object c (e.null n) s = false
  uses_object c (e.this n) s = false
  uses_object c (e.left l) s = left_of_member c l s
  uses_object c (e.unary n o operand) s = uses_object c operand s
  uses_object c (e.binary n o a b) s = either (uses_object c a s) (uses_object c b s)
  uses_object c (e.paren n inner) s = uses_object c inner s
  uses_object c (e.cast n t operand) s = uses_object c operand s
  uses_object c (e.call k) s = true
  uses_object c (e.new n class) s = false
  uses_object c (e.new_with n class arguments) s = any_uses_object c arguments s

  pub any_uses_object : Context → ExprTrees → State → Bool
  any_uses_object c e.no_exprs s = false
  any_uses_object c (e.more_exprs first rest) s = either (uses_object c first s) (any_uses_object c rest s)

-- arguments of a base, which is constructed before the object has members
abbrev pub base_arguments : Context → ExprTrees → State → State
base_arguments c e.no_exprs s = s
base_arguments c (e.more_exprs first rest) s =
    base_arguments c rest (required rule.N8 (expr_node first).at (not (uses_object c first s)) s)

abbrev pub base_params : Option Signature → List Param
base_params None = []
base_params (Some f) = f.params

abbrev pub base_info : Declared → Option ClassId → Option ClassInfo
base_info d None = None
base_info d (Some base) = class_at d base

-- the constructor and the destructor of the base of a class
abbrev pub base_ctor_in : Declared → ClassInfo → Option Signature
base_ctor_in d class = ctor_of (base_info d class.base)

abbrev pub base_dtor_in : Declared → ClassInfo → Option Signature
base_dtor_in d class = dtor_of (base_info d class.base)

abbrev pub base_ctor : ClassInfo → State → Option Signature
base_ctor class s = base_ctor_in s.declared class

abbrev pub same_name : NameId → Placed NameId → Bool
same_name name other = nat_eq name.0 other.item.0

abbrev pub names_by : Option (Placed NameId) → Placed NameId → Bool
names_by None name = false
names_by (Some base) name = same_name base.item name

-- whether a name is that of the base, if the base is a class that is declared before
abbrev pub names_base : Option (Placed NameId) → ClassInfo → Placed NameId → Bool
names_base base class name = both (is_some class.base) (names_by base name)

-- the base is constructed
abbrev pub base_init : Context → ClassInfo → InitTree → State → State
base_init c class i s =
    (exprs c (base_params (base_ctor class s)) true i.arguments
    (base_arguments c i.arguments
    (required rule.N4 i.name.at (counts (count i.arguments) (base_params (base_ctor class s))) s))).0

-- a member gets its one argument
abbrev pub member_arguments : Context → Placed NameId → TypeName → ExprTrees → State → State
member_arguments c name t e.no_exprs s = s
member_arguments c name t (e.more_exprs first rest) s =
    let x = expr c first s in
    (exprs c [] true rest (required rule.N3 name.at (may_convert x.0.declared x.1 (value_of (thing_of x.0.declared t))) x.0)).0

-- an initialiser names the base, or a member of the class itself, which isn't a mutex
abbrev pub member_init : Context → InitTree → Option MemberInfo → State → State
member_init c i None s = (exprs c [] true i.arguments (required rule.N1 i.name.at false s)).0
member_init c i (Some m) s =
    member_arguments c i.name m.type_name i.arguments
    (required rule.N3 i.name.at (is_value (thing_of s.declared m.type_name)) (required rule.N4 i.name.at (nat_eq (count i.arguments) 1) s))

abbrev pub init_by : Context → ClassInfo → InitTree → Bool → State → State
init_by c class i true s = base_init c class i s
init_by c class i false s = member_init c i (named class.members i.name.item.0) s

-- an initialiser, where these names were initialised before
abbrev pub init : Context → Option (Placed NameId) → ClassInfo → List (ℕ × ℕ) → InitTree → State → State
init c base class before i s =
    init_by c class i (names_base base class i.name) (required rule.N2 i.name.at (not (is_some (named before i.name.item.0))) s)

abbrev pub inits : Context → Option (Placed NameId) → ClassInfo → List (ℕ × ℕ) → List InitTree → State → State
inits c base class before [] s = s
inits c base class before (i ∷ is) s =
    inits c base class (with_name before i.name.item.0 0) is (init c base class before i s)

abbrev pub initialises_base : Option (Placed NameId) → ClassInfo → List InitTree → Bool
initialises_base base class [] = false
initialises_base base class (i ∷ is) = either (names_base base class i.name) (initialises_base base class is)

-- a base that no initialiser names is constructed without arguments
abbrev pub base_alone : Placed NameId → Option (Placed NameId) → ClassInfo → List InitTree → State → State
base_alone name base class is s =
    required rule.N4 name.at (either (initialises_base base class is) (counts 0 (base_params (base_ctor class s)))) s

-- ---- items of a class

-- a constructor or destructor has the name of its class
abbrev pub of_class : ClassInfo → Placed NameId → State → State
of_class class name s = required rule.N1 name.at (same_name class.name.item name) s

abbrev pub lifecycle : Context → Context
lifecycle c = record c { owner = owner.Lifecycle }

unfoldable pub ctor : Context → Option (Placed NameId) → ClassInfo → Bool → CtorTree → State → State
ctor c base class is_second k s =
    let x = params (lifecycle c) 0 k.params (of_class class k.name (required rule.N2 k.name.at (not is_second) s)) in
    begun (body (lifecycle c) k.body (inits (lifecycle c) base class [] k.inits (base_alone k.name base class k.inits x)))

unfoldable pub dtor : Context → ClassInfo → Bool → DtorTree → State → State
dtor c class is_second k s =
    begun (body (lifecycle c) k.body (of_class class k.name (required rule.N2 k.name.at (not is_second) s)))

abbrev pub inherited : Option ClassId → NameId → State → Bool
inherited None name s = false
inherited (Some base) name s = has_item s.declared base name.0

-- members and functions of a class and of those above it have names of their own
abbrev pub own_item : Context → ClassInfo → ℕ → Placed NameId → State → State
own_item c class index name s =
    no_class c name
    (required rule.N2 name.at (not (either (stands_before (named class.items name.item.0) index) (inherited class.base name.item s))) s)

abbrev pub is_pointer : TypeName → Bool
is_pointer (type_name.Pointer class) = true
is_pointer _ = false

unfoldable pub member : Context → ClassInfo → ItemsSeen → Member → State → State
member c class seen m s =
    own_item c class seen.index m.name
    (required rule.N8 m.name.at (not (is_pointer m.type_name.item))
    (variable_type m.type_name
    (required rule.N10 m.name.at (not (nat_eq seen.members s.most.members)) s)))

unfoldable pub method : Context → ClassInfo → ItemsSeen → FunctionTree → State → State
method c class seen f s =
    function (record c { owner = owner.Function f.result.item }) f
    (own_item c class seen.index f.name (required rule.N10 f.name.at (not (nat_eq seen.methods s.most.methods)) s))

-- what was seen of a class's items after one more
abbrev pub next_seen : ItemTree → ItemsSeen → ItemsSeen
next_seen (p.label at a) seen = record seen { index = suc seen.index }
next_seen (p.member m) seen = record seen { index = suc seen.index; members = suc seen.members }
next_seen (p.function f) seen = record seen { index = suc seen.index; methods = suc seen.methods }
next_seen (p.ctor k) seen = record seen { index = suc seen.index; has_ctor = true }
next_seen (p.dtor k) seen = record seen { index = suc seen.index; has_dtor = true }

abbrev pub item : Context → Option (Placed NameId) → ClassInfo → ItemsSeen → ItemTree → State → State
item c base class seen (p.label at a) s = s
item c base class seen (p.member m) s = member c class seen m s
item c base class seen (p.function f) s = method c class seen f s
item c base class seen (p.ctor k) s = ctor c base class seen.has_ctor k s
item c base class seen (p.dtor k) s = dtor c class seen.has_dtor k s

abbrev pub items : Context → Option (Placed NameId) → ClassInfo → ItemsSeen → List ItemTree → State → State
items c base class seen [] s = s
items c base class seen (i ∷ is) s = items c base class (next_seen i seen) is (item c base class seen i s)

abbrev pub none_seen : ItemsSeen
none_seen = record { index = 0; members = 0; methods = 0; has_ctor = false; has_dtor = false }

-- ---- the head of a class

abbrev pub base_is_known : Option (Placed NameId) → ClassInfo → State → State
base_is_known None class s = s
base_is_known (Some name) class s = required rule.N5 name.at (is_some class.base) s

-- a constructor or destructor that a derived class uses isn't private
abbrev pub is_private : Access → Bool
is_private access.Private = true
is_private access.Protected = false
is_private access.Public = false

abbrev pub is_derivable : Option Signature → Bool
is_derivable None = true
is_derivable (Some f) = not (is_private f.access)

abbrev pub head : Option (Placed NameId) → ClassInfo → State → State
head base class s =
    required rule.N10 class.name.at (not (nat_eq class.ancestors (suc most_ancestors)))
    (required rule.N6 class.name.at (both (is_derivable (base_ctor class s)) (is_derivable (base_dtor_in s.declared class)))
    (base_is_known base class s))

-- A class, of which this is known, with its items. The context has the class and its place among the declarations.
unfoldable pub class : Context → ClassInfo → ClassTree → State → State
class c info k s = items c k.base info none_seen k.items (head k.base info s)
