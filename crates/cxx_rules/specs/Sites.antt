-- Where a part of a program stands, and what names mean there. A site is handed down into a program: it says what is
-- declared and which locals are in scope, and nothing of which rules are violated.
use Rattle.std.specs.Prelude.{ℕ, Bool, true, List, Option, Some, None, codes, if◌then◌else◌}
use Rattle.agxx_base.specs.declared.ids.ClassId.{ClassId}
use Rattle.agxx_base.specs.declared.ids.NameId.{NameId}
use Rattle.cxx_tree.specs.declared.node.Placed.{Placed}
use Rattle.cxx_tree.specs.declared.expr.Ref.{Ref}
use Rattle.cxx_tree.specs.declared.expr.Base.{Base}
use Rattle.cxx_tree.specs.declared.expr.Base.TheVariants as base_of
use Rattle.cxx_tree.specs.declared.expr.Left.{Left}
use Rattle.cxx_tree.specs.declared.expr.Left.TheVariants as left_of
use Rattle.cxx_tree.specs.ExprTree as e
use Rattle.cxx_tree.specs.ExprTree.{ExprTree}
use Rattle.cxx_names.specs.declared.declarations.Declared.{Declared}
use Rattle.cxx_names.specs.declared.declarations.MemberInfo.{MemberInfo}
use Rattle.cxx_names.specs.declared.declarations.Signature.{Signature}
use Rattle.cxx_names.specs.declared.types.Thing.{Thing}
use Rattle.cxx_names.specs.declared.types.Thing.TheVariants as thing
use Rattle.cxx_names.specs.declared.types.Variable.{Variable}
use Rattle.cxx_names.specs.Declarations.{is_text, class_named, class_at}
use Rattle.cxx_names.specs.LookUp.{variable, function, method_named, member_named, thing_of}
use Rattle.cxx_types.specs.declared.context.Context.{Context}
use Rattle.cxx_types.specs.declared.context.Holder.{Holder}
use Rattle.cxx_types.specs.Access.{is_accessible, variable_is_accessible}
use Rattle.cxx_types.specs.Selections.{held, own_holder, dot_holder, arrow_holder}
use Rattle.cxx_types.specs.Calls.{ctor_of}
use Rattle.cxx_types.specs.Statements.{dtor_of}
use Rattle.cxx_types.specs.Expressions.{object_in}

pub record Site : Type 0 where
  -- the texts of names
  pub names : List (List ℕ)
  -- what the program declares
  pub declared : Declared
  -- the class, the function and the declaration that the part belongs to
  pub context : Context
  -- the locals and parameters in scope
  pub scope : List (ℕ × Thing)
  -- how many locals and `return`s of the function stand before
  pub locals : ℕ
  pub returns : ℕ

-- ---- variables

abbrev pub variable_meant : Site → Ref → Option Variable
variable_meant w r = variable w.declared w.scope w.context.class r

abbrev pub variable_is_usable : Site → Ref → Bool
variable_is_usable w r = variable_is_accessible w.declared w.context.class (variable_meant w r)

-- what a variable holds, if it may be used
abbrev pub thing_held : Site → Ref → Thing
thing_held w r = held w.declared w.context.class (variable_meant w r)

-- the class of the global object that an expression is the name of, if it is one
abbrev pub object_of_left : Site → Left → Option (Option ClassId)
object_of_left w (left_of.Name r) = object_in (variable_meant w r)
object_of_left w _ = None

abbrev pub object_of : Site → ExprTree → Option (Option ClassId)
object_of w (e.left l) = object_of_left w l
object_of w _ = None

-- ---- members

-- what has the members behind this
abbrev pub holder_of : Site → Base → Holder
holder_of w base_of.This = own_holder w.context.class
holder_of w (base_of.Dot r) = dot_holder (thing_held w r)
holder_of w (base_of.Arrow r) = arrow_holder (thing_held w r)

-- a member or function with the class that declares it
abbrev pub member_meant : Site → ClassId → Placed NameId → Option (ClassId × MemberInfo)
member_meant w class name = member_named w.declared class name.item.0

abbrev pub method_meant : Site → ClassId → Placed NameId → Option (ClassId × Signature)
method_meant w class name = method_named w.declared class name.item.0

abbrev pub member_is_usable : Site → ClassId → ClassId × MemberInfo → Bool
member_is_usable w class m = is_accessible w.declared m.1.access w.context.class class m.0

abbrev pub method_is_usable : Site → ClassId → ClassId × Signature → Bool
method_is_usable w class f = is_accessible w.declared f.1.access w.context.class class f.0

-- what a member holds, if it may be used
abbrev pub member_held : Site → ClassId → ClassId × MemberInfo → Thing
member_held w class m = if member_is_usable w class m then thing_of w.declared m.1.type_name else thing.Nothing

abbrev pub is_of_threads : Site → Placed NameId → Bool
is_of_threads w name = is_text w.names name.item.0 (codes "join")

abbrev pub is_of_mutexes : Site → Placed NameId → Bool
is_of_mutexes w name = if is_text w.names name.item.0 (codes "lock") then true else is_text w.names name.item.0 (codes "unlock")

-- ---- functions and classes

abbrev pub function_meant : Site → Ref → Option (Option ClassId × Signature)
function_meant w r = function w.declared w.context.class r

abbrev pub class_meant : Site → Placed NameId → Option ClassId
class_meant w name = class_named w.declared name.item.0

abbrev pub ctor_meant : Site → ClassId → Option Signature
ctor_meant w class = ctor_of (class_at w.declared class)

abbrev pub dtor_meant : Site → ClassId → Option Signature
dtor_meant w class = dtor_of (class_at w.declared class)

-- a constructor or destructor of a class may be used, also where nobody wrote it
abbrev pub is_usable : Site → ClassId → Option Signature → Bool
is_usable w class None = true
is_usable w class (Some f) = is_accessible w.declared f.access w.context.class class class
