-- What stands in a program of which rules speak, each with the site where it stands, in text order. No rule is mentioned
-- here.
use Rattle.std.specs.Prelude.{ℕ, Bool, true, List, [], ◌∷◌, ◌++◌, Option, Some, None}
use Rattle.agxx_base.specs.declared.ids.ClassId.{ClassId}
use Rattle.agxx_base.specs.declared.ids.NameId.{NameId}
use Rattle.agxx_base.specs.declared.place.Place.{Place}
use Rattle.cxx_tree.specs.declared.node.Node.{Node}
use Rattle.cxx_tree.specs.declared.node.Placed.{Placed}
use Rattle.cxx_tree.specs.declared.node.Quoted.{Quoted}
use Rattle.cxx_tree.specs.declared.operator.BinOp.{BinOp}
use Rattle.cxx_tree.specs.declared.operator.UnOp.{UnOp}
use Rattle.cxx_tree.specs.declared.operator.UnOp.TheVariants as un
use Rattle.cxx_tree.specs.declared.expr.Base.{Base}
use Rattle.cxx_tree.specs.declared.expr.Callee.{Callee}
use Rattle.cxx_tree.specs.declared.expr.Callee.TheVariants as callee_of
use Rattle.cxx_tree.specs.declared.expr.Left.{Left}
use Rattle.cxx_tree.specs.declared.expr.Left.TheVariants as left_of
use Rattle.cxx_tree.specs.declared.expr.Ref.{Ref}
use Rattle.cxx_tree.specs.declared.expr.Selector.{Selector}
use Rattle.cxx_tree.specs.declared.program.Const.{Const}
use Rattle.cxx_tree.specs.declared.program.Param.{Param}
use Rattle.cxx_tree.specs.declared.program.TypeName.{TypeName}
use Rattle.cxx_tree.specs.declared.stmt.Bump.{Bump}
use Rattle.cxx_tree.specs.ExprTree as e
use Rattle.cxx_tree.specs.ExprTree.{ExprTree, ExprTrees, CallTree}
use Rattle.cxx_tree.specs.StmtTree.{InitialTree, AssignTree}
use Rattle.cxx_tree.specs.ProgramTree.{ObjectTree, ProgramTree}
use Rattle.cxx_names.specs.declared.declarations.ClassInfo.{ClassInfo}
use Rattle.cxx_types.specs.Expressions.{count}
use Rattle.cxx_rules.specs.Sites.{Site, object_of}
use Rattle.cxx_rules.specs.Types.{callable, creatable}

-- what there may be only so many of
pub data Kind : Type 0 where
  classes : Kind
  globals : Kind
  functions : Kind
  ancestors : Kind
  members : Kind
  methods : Kind
  params : Kind
  locals : Kind
  returns : Kind

pub data Form : Type 0 where
  -- `this` as a value
  own : Site → Node → Form
  -- a variable's name as a value
  variable : Site → Ref → Form
  -- what stands before a member's name, in an expression that begins at this place
  base : Site → Place → Base → Form
  -- a member's name behind that, as a value
  member : Site → Place → Selector → Form
  -- a call with so many arguments, as a value or as a statement
  call : Site → Node → Callee → ℕ → Bool → Form
  -- `new` with so many arguments
  creation : Site → Placed NameId → ℕ → Form
  -- an operator, other than `&`, with its operand or its operands
  operand : Site → Node → UnOp → ExprTree → Form
  operands : Site → Placed BinOp → ExprTree → ExprTree → Form
  -- a cast of an operand
  cast : Site → TypeName → ExprTree → Form
  -- `&` with its operand
  address : Site → Node → ExprTree → Form
  -- an argument for a parameter
  argument : Site → Param → ExprTree → Form
  -- the type of a variable, and that of a result
  variable_type : Site → Placed TypeName → Form
  result_type : Site → Placed TypeName → Form
  -- the name of a local or parameter, which is declared here
  local_name : Site → Placed NameId → Form
  -- a name that no class has
  apart : Site → Placed NameId → Form
  -- one of those of which there may be only so many, and how many stand before it
  counted : Kind → ℕ → Place → Form
  -- the initial value of a variable of this type
  initial : Site → TypeName → InitialTree → Form
  assigned : Site → AssignTree → Form
  bumped : Site → Bump → Form
  -- `return`, with a value or not
  returned : Site → Place → Option ExprTree → Form
  deleted : Site → Place → ExprTree → Form
  text : Quoted → Form
  printed : Site → ExprTree → Form
  -- a thread statement, in the outermost block of a function or not, and what it starts
  thread : Bool → Place → Form
  started : Site → Place → Ref → Form
  started_with : Site → Ref → ℕ → Form
  -- an initialiser, behind those of these names
  initialiser : List (ℕ × ℕ) → Placed NameId → Form
  -- of the base of a class, with so many arguments, and an argument of it
  base_initialiser : Site → ClassInfo → Placed NameId → ℕ → Form
  base_argument : Site → ExprTree → Form
  -- of a member of a class, with so many arguments, and its value
  member_initialiser : Site → ClassInfo → Placed NameId → ℕ → Form
  member_value : Site → Placed NameId → TypeName → ExprTree → Form
  -- a constructor of this name without an initialiser of the base
  without_initialiser : Site → ClassInfo → Placed NameId → Form
  -- the name of a constructor or destructor, which is the class's second or not
  lifecycle : ClassInfo → Placed NameId → Form
  second : Bool → Placed NameId → Form
  -- the name of a member or function, the one at this place in its class
  item_name : Site → ClassInfo → ℕ → Placed NameId → Form
  member_type : Placed NameId → TypeName → Form
  -- the head of a class
  head : Site → Option (Placed NameId) → ClassInfo → Form
  -- the name of a class, free function or global, the one at this place among the declarations
  decl_name : Site → ℕ → Placed NameId → Form
  constant : Site → TypeName → Placed Const → Form
  -- a global object, constructed and destroyed
  object : Site → ObjectTree → Form
  object_end : Site → ObjectTree → Form
  -- the whole program
  program : List (List ℕ) → ProgramTree → Form
  names : ProgramTree → Form

-- ---- expressions

abbrev pub forms_of_selector : Site → Node → Selector → List Form
forms_of_selector w n q = base w n.at q.base ∷ member w n.at q ∷ []

abbrev pub forms_of_left : Site → Left → List Form
forms_of_left w (left_of.Name r) = variable w r ∷ []
forms_of_left w (left_of.Member n q) = forms_of_selector w n q
forms_of_left w (left_of.Result n) = []

abbrev pub forms_of_callee : Site → Node → Callee → ℕ → Bool → List Form
forms_of_callee w n (callee_of.Bare r) count as_value = call w n (callee_of.Bare r) count as_value ∷ []
forms_of_callee w n (callee_of.Member q) count as_value = base w n.at q.base ∷ call w n (callee_of.Member q) count as_value ∷ []

-- the name of an object behind `&` is no value
abbrev pub unless_object : Option (Option ClassId) → List Form → List Form
unless_object None forms = forms
unless_object (Some class) forms = []

abbrev mutual
  pub forms_of : Site → ExprTree → List Form
  forms_of w (e.lit n number) = []
  forms_of w (e.flag n is_set) = []
  forms_of w (e.null n) = []
  forms_of w (e.this n) = own w n ∷ []
  forms_of w (e.left l) = forms_of_left w l
  forms_of w (e.unary n un.AddressOf x) = address w n x ∷ unless_object (object_of w x) (forms_of w x)
  forms_of w (e.unary n o x) = forms_of w x ++ operand w n o x ∷ []
  forms_of w (e.binary n o a b) = forms_of w a ++ (forms_of w b ++ operands w o a b ∷ [])
  forms_of w (e.paren n inner) = forms_of w inner
  forms_of w (e.cast n t x) = forms_of w x ++ cast w t x ∷ []
  forms_of w (e.call k) = forms_of_call w true k
  forms_of w (e.new n class) = creation w class 0 ∷ []
  forms_of w (e.new_with n class arguments) =
      creation w class (count arguments) ∷ forms_of_arguments w (creatable w class (count arguments)).params arguments

  -- arguments for these parameters
  pub forms_of_arguments : Site → List Param → ExprTrees → List Form
  forms_of_arguments w ps e.no_exprs = []
  forms_of_arguments w [] (e.more_exprs first rest) = forms_of w first ++ forms_of_arguments w [] rest
  forms_of_arguments w (p ∷ ps) (e.more_exprs first rest) = forms_of w first ++ (argument w p first ∷ forms_of_arguments w ps rest)

  -- a call, as a value or as a statement
  pub forms_of_call : Site → Bool → CallTree → List Form
  forms_of_call w as_value (e.calls n callee arguments) =
      forms_of_callee w n callee (count arguments) as_value
      ++ forms_of_arguments w (callable w callee (count arguments)).params arguments
