-- Globals, declarations and whole programs: the rules that they violate, and what is known of their nodes.
use Rattle.std.specs.Prelude.{ℕ, suc, Bool, true, false, not, List, [], ◌∷◌, ◌++◌, nat_eq, Option, Some, None, is_some, if◌then◌else◌, codes}
use Rattle.agxx_base.specs.declared.ids.ClassId.{ClassId}
use Rattle.agxx_base.specs.declared.ids.NameId.{NameId}
use Rattle.agxx_base.specs.declared.kind.Mode.{Mode}
use Rattle.agxx_base.specs.declared.kind.NumKind.{NumKind}
use Rattle.agxx_base.specs.declared.kind.NumKind.TheVariants as num
use Rattle.agxx_base.specs.declared.place.Place.{Place}
use Rattle.agxx_base.specs.declared.fault.Refusal.{Refusal}
use Rattle.agxx_base.specs.declared.rule.Rule.TheVariants as rule
use Rattle.cxx_tree.specs.declared.node.Placed.{Placed}
use Rattle.cxx_tree.specs.declared.program.TypeName.{TypeName}
use Rattle.cxx_tree.specs.declared.program.TypeName.TheVariants as type_name
use Rattle.cxx_tree.specs.declared.program.Const.{Const}
use Rattle.cxx_tree.specs.declared.program.Const.TheVariants as const
use Rattle.cxx_tree.specs.declared.program.Param.{Param}
use Rattle.cxx_tree.specs.declared.program.Variable.{Variable}
use Rattle.cxx_tree.specs.ProgramTree as p
use Rattle.cxx_tree.specs.ProgramTree.{FunctionTree, ClassTree, ObjectTree, GlobalTree, DeclTree, ProgramTree}
use Rattle.cxx_names.specs.declared.declarations.ClassInfo.{ClassInfo}
use Rattle.cxx_names.specs.declared.types.ValueType.{ValueType}
use Rattle.cxx_names.specs.declared.types.ValueType.TheVariants as value
use Rattle.cxx_names.specs.Declarations.{is_text, class_named, class_at, declared, global_name}
use Rattle.cxx_names.specs.LookUp.{thing_of, is_declared_before}
use Rattle.cxx_types.specs.declared.entry.Entry.{Entry}
use Rattle.cxx_types.specs.declared.context.Context.{Context}
use Rattle.cxx_types.specs.declared.context.Owner.TheVariants as owner
use Rattle.cxx_types.specs.declared.programs.DeclsSeen.{DeclsSeen}
use Rattle.cxx_types.specs.State.{State}
use Rattle.cxx_types.specs.Checking.{required}
use Rattle.cxx_types.specs.Conversion.{may_convert}
use Rattle.cxx_types.specs.Counts.{most}
use Rattle.cxx_types.specs.Selections.{value_of}
use Rattle.cxx_types.specs.Calls.{constructed, ctor_in}
use Rattle.cxx_types.specs.Expressions.{count, exprs}
use Rattle.cxx_types.specs.Statements.{dtor_is_accessible}
use Rattle.cxx_types.specs.Locals.{variable_type}
use Rattle.cxx_types.specs.Classes.{function, class}

-- classes, functions and globals have names of their own
abbrev pub own_decl : ℕ → Placed NameId → State → State
own_decl index name s = required rule.N2 name.at (not (is_declared_before s.declared name.item.0 index)) s

-- ---- globals

abbrev pub const_type : Const → ValueType
const_type (const.Number is_negative n) = value.Number n.kind
const_type (const.Flag is_set) = value.Number num.Bool
const_type const.Null = value.Null

abbrev pub initialised : TypeName → Option (Placed Const) → State → State
initialised t None s = s
initialised t (Some k) s = required rule.N3 k.at (may_convert s.declared (Some (const_type k.item)) (value_of (thing_of s.declared t))) s

unfoldable pub variable : Variable → State → State
variable v s = initialised v.type_name.item v.initial (variable_type v.type_name s)

-- outside of functions
abbrev pub outside : ℕ → Context
outside index = record { class = None; owner = owner.Global; index = index }

abbrev pub object_by : ℕ → ObjectTree → Option ClassId → State → State
object_by index o None s = (exprs (outside index) [] true o.arguments (required rule.N1 o.class.at false s)).0
object_by index o (Some k) s =
    let f = constructed None k o.name.at (count o.arguments) (ctor_in k s) s in
    (exprs (outside index) f.1.params true o.arguments (required rule.N6 o.name.at (dtor_is_accessible None k f.0) f.0)).0

-- an object is constructed and destroyed outside of functions
unfoldable pub object : ℕ → ObjectTree → State → State
object index o s = object_by index o (class_named s.declared o.class.item.0) s

abbrev pub global_item : ℕ → GlobalTree → State → State
global_item index (p.variable v) s = variable v s
global_item index (p.object o) s = object index o s
global_item index (p.mutex at name) s = s

abbrev pub global_place : GlobalTree → Placed NameId
global_place (p.variable v) = v.name
global_place (p.object o) = o.name
global_place (p.mutex at name) = name

unfoldable pub global : DeclsSeen → GlobalTree → State → State
global seen g s =
    global_item seen.index g
    (own_decl seen.index (global_place g) (required rule.N10 (global_place g).at (not (nat_eq seen.globals s.most.globals)) s))

-- ---- declarations

abbrev pub free_function : DeclsSeen → FunctionTree → State → State
free_function seen f s =
    function (record { class = None; owner = owner.Function f.result.item; index = seen.index }) f
    (own_decl seen.index f.name (required rule.N10 f.name.at (not (nat_eq seen.functions s.most.functions)) s))

abbrev pub class_by : DeclsSeen → ClassTree → Option ClassInfo → State → State
class_by seen k None s = s
class_by seen k (Some info) s = class (record { class = Some (record { 0 = seen.classes }); owner = owner.Lifecycle; index = seen.index }) info k s

abbrev pub class_decl : DeclsSeen → ClassTree → State → State
class_decl seen k s =
    class_by seen k (class_at s.declared (record { 0 = seen.classes }))
    (own_decl seen.index k.name (required rule.N10 k.name.at (not (nat_eq seen.classes s.most.classes)) s))

abbrev pub decl : DeclsSeen → DeclTree → State → State
decl seen (p.class k) s = class_decl seen k s
decl seen (p.class_name k) s = s
decl seen (p.free_function f) s = free_function seen f s
decl seen (p.proto f) s = s
decl seen (p.global g) s = global seen g s

abbrev pub next_seen : DeclTree → DeclsSeen → DeclsSeen
next_seen (p.class k) seen = record seen { index = suc seen.index; classes = suc seen.classes }
next_seen (p.class_name k) seen = record seen { index = suc seen.index }
next_seen (p.free_function f) seen = record seen { index = suc seen.index; functions = suc seen.functions }
next_seen (p.proto f) seen = record seen { index = suc seen.index }
next_seen (p.global g) seen = record seen { index = suc seen.index; globals = suc seen.globals }

abbrev pub decls : DeclsSeen → List DeclTree → State → State
decls seen [] s = s
decls seen (x ∷ xs) s = decls (next_seen x seen) xs (decl seen x s)

abbrev pub none_seen : DeclsSeen
none_seen = record { index = 0; classes = 0; functions = 0; globals = 0 }

-- ---- programs

abbrev pub is_int32 : TypeName → Bool
is_int32 (type_name.Num num.I32) = true
is_int32 type_name.Int = true
is_int32 _ = false

abbrev pub is_empty : List Param → Bool
is_empty [] = true
is_empty (x ∷ xs) = false

abbrev pub is_main : List (List ℕ) → DeclTree → Bool
is_main names (p.free_function f) =
    if is_text names f.name.item.0 (codes "main") then (if is_int32 f.result.item then is_empty f.params else false) else false
is_main names _ = false

-- whether there is a free function `main` without parameters and with an int32_t as its result
abbrev pub has_main : List (List ℕ) → List DeclTree → Bool
has_main names [] = false
has_main names (x ∷ xs) = if is_main names x then true else has_main names xs

-- nothing is found yet in a program that has these declarations and is read so
abbrev pub begun : List (List ℕ) → Mode → ProgramTree → State
begun names mode q = record {
  names = names;
  declared = declared names q;
  most = most mode;
  found = [];
  entries = [];
  scope = [];
  locals = 0;
  returns = 0;
}

-- what is found in a program
unfoldable pub checked : List (List ℕ) → Mode → ProgramTree → State
checked names mode q = decls none_seen q.decls (required rule.N9 q.at (has_main names q.decls) (begun names mode q))
