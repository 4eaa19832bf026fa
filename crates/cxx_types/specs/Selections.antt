-- Names of variables, members and functions, and what stands before a member's name.
use Rattle.std.specs.Prelude.{ℕ, Bool, true, false, not, List, Option, Some, None, is_some, if◌then◌else◌, codes}
use Rattle.agxx_base.specs.declared.ids.ClassId.{ClassId}
use Rattle.agxx_base.specs.declared.ids.NameId.{NameId}
use Rattle.agxx_base.specs.declared.place.Place.{Place}
use Rattle.agxx_base.specs.declared.rule.Rule.TheVariants as rule
use Rattle.cxx_tree.specs.declared.node.Node.{Node}
use Rattle.cxx_tree.specs.declared.node.Placed.{Placed}
use Rattle.cxx_tree.specs.declared.expr.Ref.{Ref}
use Rattle.cxx_tree.specs.declared.expr.Base.{Base}
use Rattle.cxx_tree.specs.declared.expr.Base.TheVariants as base_of
use Rattle.cxx_tree.specs.declared.expr.Selector.{Selector}
use Rattle.cxx_names.specs.declared.declarations.MemberInfo.{MemberInfo}
use Rattle.cxx_names.specs.declared.declarations.Declared.{Declared}
use Rattle.cxx_names.specs.declared.types.ValueType.{ValueType}
use Rattle.cxx_names.specs.declared.types.ValueType.TheVariants as value
use Rattle.cxx_names.specs.declared.types.Thing.{Thing}
use Rattle.cxx_names.specs.declared.types.Thing.TheVariants as thing
use Rattle.cxx_names.specs.declared.types.Variable.{Variable}
use Rattle.cxx_names.specs.declared.types.Variable.TheVariants as variable_of
use Rattle.cxx_names.specs.Declarations.{is_text}
use Rattle.cxx_names.specs.LookUp.{variable, member_named, thing_of}
use Rattle.cxx_types.specs.declared.context.Context.{Context}
use Rattle.cxx_types.specs.declared.context.Holder.{Holder}
use Rattle.cxx_types.specs.declared.context.Holder.TheVariants as holder_of
use Rattle.cxx_types.specs.declared.entry.Meaning.{Meaning}
use Rattle.cxx_types.specs.declared.entry.Meaning.TheVariants as meaning
use Rattle.cxx_types.specs.State.{State}
use Rattle.cxx_types.specs.Access.{is_accessible, variable_is_accessible}
use Rattle.cxx_types.specs.Checking.{required, noted}

-- ---- variables

abbrev pub thing_in : Variable → Thing
thing_in (variable_of.Local t) = t
thing_in (variable_of.Member class access t) = t
thing_in (variable_of.Global t) = t

-- what an accessible variable holds
abbrev pub held : Declared → Option ClassId → Option Variable → Thing
held d viewer None = thing.Nothing
held d viewer (Some v) = if variable_is_accessible d viewer (Some v) then thing_in v else thing.Nothing

-- an object, a thread and a mutex are no values
abbrev pub is_value : Thing → Bool
is_value (thing.Object class) = false
is_value thing.Thread = false
is_value thing.Mutex = false
is_value _ = true

abbrev pub value_of : Thing → Option ValueType
value_of (thing.Value t) = Some t
value_of _ = None

abbrev pub variable_meaning : NameId → Option Variable → Meaning
variable_meaning name None = meaning.Other
variable_meaning name (Some (variable_of.Local t)) = meaning.Local name
variable_meaning name (Some (variable_of.Member class access t)) = meaning.Member class name
variable_meaning name (Some (variable_of.Global t)) = meaning.Global name

abbrev pub meant : Context → Ref → State → Option Variable
meant c r s = variable s.declared s.scope c.class r

-- the name of a variable means one that may be used
abbrev pub named_rightly : Context → Ref → Option Variable → State → State
named_rightly c r v s =
    required rule.N6 r.name.at (variable_is_accessible s.declared c.class v) (required rule.N1 r.name.at (is_some v) s)

-- the node of a variable's name
abbrev pub variable_node : Context → Ref → Option Variable → State → State
variable_node c r v s = noted (value_of (held s.declared c.class v)) (variable_meaning r.name.item v) s

abbrev pub read_by : Context → Ref → Option Variable → State → State × Option ValueType
read_by c r v s =
    (variable_node c r v (required rule.N3 r.node.at (is_value (held s.declared c.class v)) (named_rightly c r v s)), value_of (held s.declared c.class v))

-- a variable's name as a value
unfoldable pub read : Context → Ref → State → State × Option ValueType
read c r s = read_by c r (meant c r s) s

-- ---- what stands before a member's name

abbrev pub own_holder : Option ClassId → Holder
own_holder None = holder_of.Unknown
own_holder (Some class) = holder_of.Class class

-- objects, threads and mutexes have members behind `.`
abbrev pub dot_holder : Thing → Holder
dot_holder (thing.Object class) = own_holder class
dot_holder thing.Thread = holder_of.Thread
dot_holder thing.Mutex = holder_of.Mutex
dot_holder _ = holder_of.Unknown

abbrev pub has_dot : Thing → Bool
has_dot (thing.Value t) = false
has_dot _ = true

-- pointers have members behind `->`
abbrev pub arrow_holder : Thing → Holder
arrow_holder (thing.Value (value.Pointer class)) = holder_of.Class class
arrow_holder _ = holder_of.Unknown

abbrev pub has_arrow : Thing → Bool
has_arrow (thing.Value (value.Pointer class)) = true
has_arrow thing.Nothing = true
has_arrow _ = false

abbrev pub dot_by : Context → Place → Ref → Option Variable → State → State × Holder
dot_by c at r v s = (required rule.N3 at (has_dot (held s.declared c.class v)) (named_rightly c r v s), dot_holder (held s.declared c.class v))

abbrev pub arrow_by : Context → Place → Ref → Option Variable → State → State × Holder
arrow_by c at r v s = (required rule.N3 at (has_arrow (held s.declared c.class v)) (named_rightly c r v s), arrow_holder (held s.declared c.class v))

-- what stands before a member's name in an expression that begins at this place
unfoldable pub holder : Context → Place → Base → State → State × Holder
holder c at base_of.This s = (required rule.N8 at (is_some c.class) s, own_holder c.class)
holder c at (base_of.Dot r) s = dot_by c at r (meant c r s) s
holder c at (base_of.Arrow r) s = arrow_by c at r (meant c r s) s

-- the node of the name before `.` or `->`
unfoldable pub base_node : Context → Base → State → State
base_node c base_of.This s = s
base_node c (base_of.Dot r) s = variable_node c r (meant c r s) s
base_node c (base_of.Arrow r) s = variable_node c r (meant c r s) s

-- ---- members

-- the functions of threads and mutexes
abbrev pub is_thread_function : State → NameId → Bool
is_thread_function s name = is_text s.names name.0 (codes "join")

abbrev pub is_mutex_function : State → NameId → Bool
is_mutex_function s name = if is_text s.names name.0 (codes "lock") then true else is_text s.names name.0 (codes "unlock")

abbrev pub member_value : State → Option ClassId → ClassId → ClassId × MemberInfo → Thing
member_value s viewer holder m =
    if is_accessible s.declared m.1.access viewer holder m.0 then thing_of s.declared m.1.type_name else thing.Nothing

abbrev pub member_found : State → ClassId → Placed NameId → Option (ClassId × MemberInfo)
member_found s holder name = member_named s.declared holder name.item.0

abbrev pub member_by : Context → Place → Placed NameId → ClassId → Option (ClassId × MemberInfo) → State → State × Option ValueType
member_by c at name holder None s = (noted None meaning.Other (required rule.N1 name.at false s), None)
member_by c at name holder (Some m) s = (
  noted (value_of (member_value s c.class holder m)) (meaning.Member m.0 name.item)
      (required rule.N3 at (is_value (member_value s c.class holder m))
      (required rule.N6 name.at (is_accessible s.declared m.1.access c.class holder m.0) s)),
  value_of (member_value s c.class holder m),
)

-- a function of a thread or mutex stands as a statement alone, and is called
abbrev pub no_value : Place → Placed NameId → Bool → State → State × Option ValueType
no_value at name is_function s =
    (noted None meaning.Other (required rule.N8 at (not is_function) (required rule.N1 name.at is_function s)), None)

-- a member's name behind what has members, as a value that begins at this place
unfoldable pub member : Context → Place → Placed NameId → Holder → State → State × Option ValueType
member c at name (holder_of.Class class) s = member_by c at name class (member_found s class name) s
member c at name holder_of.Thread s = no_value at name (is_thread_function s name.item) s
member c at name holder_of.Mutex s = no_value at name (is_mutex_function s name.item) s
member c at name holder_of.Unknown s = (noted None meaning.Other s, None)

-- a member's name with what stands before it, as a value
unfoldable pub selected : Context → Node → Selector → State → State × Option ValueType
selected c n q s =
    let h = holder c n.at q.base s in
    let m = member c n.at q.name h.1 h.0 in
    (base_node c q.base m.0, m.1)
