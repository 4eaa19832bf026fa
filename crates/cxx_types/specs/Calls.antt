-- Calls of functions and constructors.
use Rattle.std.specs.Borrow.{Bor}
use Rattle.std.specs.Prelude.{ℕ, Bool, true, false, not, List, [], ◌∷◌, length, nat_eq, Option, Some, None, is_some, if◌then◌else◌}
use Rattle.agxx_base.specs.declared.ids.ClassId.{ClassId}
use Rattle.agxx_base.specs.declared.ids.NameId.{NameId}
use Rattle.agxx_base.specs.declared.place.Place.{Place}
use Rattle.agxx_base.specs.declared.rule.Rule.TheVariants as rule
use Rattle.cxx_tree.specs.declared.node.Node.{Node}
use Rattle.cxx_tree.specs.declared.node.Placed.{Placed}
use Rattle.cxx_tree.specs.declared.expr.Callee.{Callee}
use Rattle.cxx_tree.specs.declared.expr.Callee.TheVariants as callee_of
use Rattle.cxx_tree.specs.declared.expr.Ref.{Ref}
use Rattle.cxx_tree.specs.declared.expr.Selector.{Selector}
use Rattle.cxx_tree.specs.declared.program.Param.{Param}
use Rattle.cxx_tree.specs.declared.program.TypeName.{TypeName}
use Rattle.cxx_tree.specs.declared.program.TypeName.TheVariants as type_name
use Rattle.cxx_names.specs.declared.declarations.Signature.{Signature}
use Rattle.cxx_names.specs.declared.declarations.ClassInfo.{ClassInfo}
use Rattle.cxx_names.specs.declared.declarations.Declared.{Declared}
use Rattle.cxx_names.specs.declared.types.ValueType.{ValueType}
use Rattle.cxx_names.specs.declared.types.ValueType.TheVariants as value
use Rattle.cxx_names.specs.Declarations.{class_named, class_at}
use Rattle.cxx_names.specs.LookUp.{function, method_named, thing_of}
use Rattle.cxx_types.specs.declared.context.Context.{Context}
use Rattle.cxx_types.specs.declared.context.Holder.{Holder}
use Rattle.cxx_types.specs.declared.context.Holder.TheVariants as holder_of
use Rattle.cxx_types.specs.declared.entry.Meaning.TheVariants as meaning
use Rattle.cxx_types.specs.Callable.{Callable}
use Rattle.cxx_types.specs.State.{State}
use Rattle.cxx_types.specs.Access.{is_accessible, own_is_accessible}
use Rattle.cxx_types.specs.Checking.{required, noted}
use Rattle.cxx_types.specs.Selections.{holder, base_node, is_thread_function, is_mutex_function, value_of}

abbrev pub is_void : TypeName → Bool
is_void type_name.Void = true
is_void _ = false

-- the type of a function's result
abbrev pub result_type : Declared → TypeName → Option ValueType
result_type d t = value_of (thing_of d t)

-- What is called: the parameters, and the type of the result where the call violates no rule so far.
-- Without a function there is none.
abbrev pub unknown : Callable
unknown = record { params = []; result = None; is_right = false }

-- as many arguments as parameters
abbrev pub counts : ℕ → List Param → Bool
counts arguments params = nat_eq arguments (length params)

abbrev pub access_of : Declared → Option ClassId → Option ClassId × Signature → Bool
access_of d viewer (None, signature) = true
access_of d viewer (Some owner, signature) = own_is_accessible d signature.access viewer owner

-- ---- by the name alone

abbrev pub function_meant : Context → Ref → State → Option (Option ClassId × Signature)
function_meant c r s = function s.declared c.class r

abbrev pub bare_checked : Context → Node → Ref → ℕ → Bool → Option ClassId × Signature → State → State
bare_checked c n r count as_value f s =
    required rule.N3 n.at (if as_value then not (is_void f.1.result) else true)
    (required rule.N4 r.name.at (counts count f.1.params)
    (required rule.N8 n.at (not f.1.is_main)
    (required rule.N6 r.name.at (access_of s.declared c.class f) s)))

abbrev pub bare_is_right : Context → ℕ → Option ClassId × Signature → State → Bool
bare_is_right c count f s =
    if access_of s.declared c.class f then (if f.1.is_main then false else counts count f.1.params) else false

abbrev pub bare_by : Context → Node → Ref → ℕ → Bool → Option (Option ClassId × Signature) → State → State × Callable
bare_by c n r count as_value None s =
    (noted None meaning.Other (noted None meaning.Other (required rule.N1 r.name.at false s)), unknown)
bare_by c n r count as_value (Some f) s = (
  noted (result_type s.declared f.1.result) (meaning.Function f.1.id)
      (noted (result_type s.declared f.1.result) (meaning.Function f.1.id) (bare_checked c n r count as_value f s)),
  record { params = f.1.params; result = result_type s.declared f.1.result; is_right = bare_is_right c count f s },
)

-- ---- behind what has functions

abbrev pub method_checked : Context → Node → Placed NameId → ClassId → ℕ → Bool → ClassId × Signature → State → State
method_checked c n name holder count as_value f s =
    required rule.N3 n.at (if as_value then not (is_void f.1.result) else true)
    (required rule.N4 name.at (counts count f.1.params)
    (required rule.N6 name.at (is_accessible s.declared f.1.access c.class holder f.0) s))

abbrev pub method_is_right : Context → ClassId → ℕ → ClassId × Signature → State → Bool
method_is_right c holder count f s = if is_accessible s.declared f.1.access c.class holder f.0 then counts count f.1.params else false

abbrev pub method_meant : ClassId → Placed NameId → State → Option (ClassId × Signature)
method_meant holder name s = method_named s.declared holder name.item.0

abbrev pub method_by : Context → Node → Placed NameId → ClassId → ℕ → Bool → Option (ClassId × Signature) → State → State × Callable
method_by c n name holder count as_value None s = (noted None meaning.Other (required rule.N1 name.at false s), unknown)
method_by c n name holder count as_value (Some f) s = (
  noted (result_type s.declared f.1.result) (meaning.Function f.1.id) (method_checked c n name holder count as_value f s),
  record { params = f.1.params; result = result_type s.declared f.1.result; is_right = method_is_right c holder count f s },
)

-- a function of a thread or a mutex, which is no value
abbrev pub asked : Node → Placed NameId → ℕ → Bool → Bool → State → State × Callable
asked n name count as_value is_function s = (
  noted None meaning.Other
      (required rule.N4 name.at (if is_function then nat_eq count 0 else true)
      (required rule.N8 n.at (if is_function then not as_value else true)
      (required rule.N1 name.at is_function s))),
  unknown,
)

abbrev pub called_behind : Context → Node → Placed NameId → ℕ → Bool → Holder → State → State × Callable
called_behind c n name count as_value (holder_of.Class class) s =
    method_by c n name class count as_value (method_meant class name s) s
called_behind c n name count as_value holder_of.Thread s = asked n name count as_value (is_thread_function s name.item) s
called_behind c n name count as_value holder_of.Mutex s = asked n name count as_value (is_mutex_function s name.item) s
called_behind c n name count as_value holder_of.Unknown s = (noted None meaning.Other s, unknown)

abbrev pub method_call : Context → Node → Selector → ℕ → Bool → State → State × Callable
method_call c n q count as_value s =
    let h = holder c n.at q.base s in
    let f = called_behind c n q.name count as_value h.1 h.0 in
    (base_node c q.base f.0, f.1)

-- A call with so many arguments, as a value or as a statement: what is called, and the nodes of the call and of the names
-- before its arguments.
unfoldable pub called : Context → Node → Callee → ℕ → Bool → State → State × Callable
called c n (callee_of.Bare r) count as_value s = bare_by c n r count as_value (function_meant c r s) s
called c n (callee_of.Member q) count as_value s = method_call c n q count as_value s

-- ---- constructors

abbrev pub ctor_of : Option ClassInfo → Option Signature
ctor_of None = None
ctor_of (Some class) = class.ctor

abbrev pub ctor_in : ClassId → State → Option Signature
ctor_in class s = ctor_of (class_at s.declared class)

-- what references point to
abbrev pub lent_signature : Bor Signature → Signature
lent_signature r = r.now

abbrev pub lent_class : Bor ClassInfo → ClassInfo
lent_class r = r.now

-- the constructor of a class is used in a function of the class `viewer`, if of any
abbrev pub constructed : Option ClassId → ClassId → Place → ℕ → Option Signature → State → State × Callable
constructed viewer class at count None s = (s, unknown)
constructed viewer class at count (Some f) s = (
  required rule.N4 at (counts count f.params)
      (required rule.N6 at (is_accessible s.declared f.access viewer class class) s),
  record {
    params = f.params;
    result = Some (value.Pointer class);
    is_right = if is_accessible s.declared f.access viewer class class then counts count f.params else false;
  },
)

abbrev pub created_by : Context → Placed NameId → ℕ → Option ClassId → State → State × Callable
created_by c name count None s = (noted None meaning.Other (required rule.N1 name.at false s), unknown)
created_by c name count (Some class) s =
    let f = constructed c.class class name.at count (ctor_in class s) s in
    (noted (Some (value.Pointer class)) meaning.Other f.0, f.1)

-- `new` with so many arguments: what is called, and the node of the whole
unfoldable pub created : Context → Placed NameId → ℕ → State → State × Callable
created c name count s = created_by c name count (class_named s.declared name.item.0) s
