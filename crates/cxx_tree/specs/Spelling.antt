-- The spelling of each tree: the list of tokens that its line of the grammar gives. Places and numbers of nodes are
-- not spelled. `special` gives the number of each name that has a meaning at its place.
use Rattle.std.specs.Prelude.{ℕ, Bool, true, false, List, [], ◌∷◌, ◌++◌, Option, Some, None, map}
use Rattle.std.specs.List.{flat_map}
use Rattle.agxx_base.specs.declared.ids.NameId.{NameId}
use Rattle.agxx_base.specs.declared.vocabulary.Keyword.TheVariants as k
use Rattle.agxx_base.specs.declared.vocabulary.Sign.{Sign}
use Rattle.agxx_base.specs.declared.vocabulary.Sign.TheVariants as sg
use Rattle.agxx_base.specs.declared.vocabulary.SpecialName.{SpecialName}
use Rattle.agxx_base.specs.declared.vocabulary.SpecialName.TheVariants as sn
use Rattle.cxx_tree.specs.declared.node.Placed.{Placed}
use Rattle.cxx_tree.specs.declared.node.Number.{Number}
use Rattle.cxx_tree.specs.declared.node.Quoted.{Quoted}
use Rattle.cxx_tree.specs.declared.operator.BinOp.{BinOp}
use Rattle.cxx_tree.specs.declared.operator.BinOp.TheVariants as op
use Rattle.cxx_tree.specs.declared.operator.UnOp.{UnOp}
use Rattle.cxx_tree.specs.declared.operator.UnOp.TheVariants as un
use Rattle.cxx_tree.specs.declared.expr.Ref.{Ref}
use Rattle.cxx_tree.specs.declared.expr.Base.{Base}
use Rattle.cxx_tree.specs.declared.expr.Base.TheVariants as base_of
use Rattle.cxx_tree.specs.declared.expr.Selector.{Selector}
use Rattle.cxx_tree.specs.declared.expr.Left.{Left}
use Rattle.cxx_tree.specs.declared.expr.Left.TheVariants as left_of
use Rattle.cxx_tree.specs.declared.expr.Callee.{Callee}
use Rattle.cxx_tree.specs.declared.expr.Callee.TheVariants as callee_of
use Rattle.cxx_tree.specs.declared.stmt.Bump.{Bump}
use Rattle.cxx_tree.specs.declared.program.TypeName.{TypeName}
use Rattle.cxx_tree.specs.declared.program.TypeName.TheVariants as type_of
use Rattle.cxx_tree.specs.declared.program.ClassWord.{ClassWord}
use Rattle.cxx_tree.specs.declared.program.ClassWord.TheVariants as class_word_of
use Rattle.cxx_tree.specs.declared.program.Access.{Access}
use Rattle.cxx_tree.specs.declared.program.Access.TheVariants as access_of
use Rattle.cxx_tree.specs.declared.program.Directive.{Directive}
use Rattle.cxx_tree.specs.declared.program.Directive.TheVariants as directive_of
use Rattle.cxx_tree.specs.declared.program.Const.{Const}
use Rattle.cxx_tree.specs.declared.program.Const.TheVariants as const_of
use Rattle.cxx_tree.specs.declared.program.Member.{Member}
use Rattle.cxx_tree.specs.declared.program.Param.{Param}
use Rattle.cxx_tree.specs.declared.program.Proto.{Proto}
use Rattle.cxx_tree.specs.declared.program.ClassName.{ClassName}
use Rattle.cxx_tree.specs.declared.program.Variable.{Variable}
use Rattle.cxx_tree.specs.Words.{Word, name, number, text, keyword, sign, include, pragma, separated, in_parentheses, in_braces, ended, optional}
use Rattle.cxx_tree.specs.ExprTree as e
use Rattle.cxx_tree.specs.StmtTree as s
use Rattle.cxx_tree.specs.ProgramTree as p

abbrev pub binary_sign : BinOp → Sign
binary_sign op.Or = sg.OrOr
binary_sign op.And = sg.AndAnd
binary_sign op.BitOr = sg.Or
binary_sign op.BitXor = sg.Caret
binary_sign op.BitAnd = sg.And
binary_sign op.Equal = sg.EqualEqual
binary_sign op.NotEqual = sg.NotEqual
binary_sign op.Less = sg.Less
binary_sign op.LessEqual = sg.LessEqual
binary_sign op.Greater = sg.Greater
binary_sign op.GreaterEqual = sg.GreaterEqual
binary_sign op.ShiftLeft = sg.ShiftLeft
binary_sign op.ShiftRight = sg.ShiftRight
binary_sign op.Add = sg.Plus
binary_sign op.Subtract = sg.Minus
binary_sign op.Multiply = sg.Star
binary_sign op.Divide = sg.Slash
binary_sign op.Remainder = sg.Percent

abbrev pub unary_sign : UnOp → Sign
unary_sign un.Negate = sg.Minus
unary_sign un.Not = sg.Not
unary_sign un.Complement = sg.Tilde
unary_sign un.AddressOf = sg.And

-- the signs of an assignment; an operator that has no sign of assignment is its own sign, in no program
abbrev pub assign_sign : Option BinOp → Sign
assign_sign None = sg.Assign
assign_sign (Some op.Add) = sg.PlusAssign
assign_sign (Some op.Subtract) = sg.MinusAssign
assign_sign (Some op.Multiply) = sg.StarAssign
assign_sign (Some op.Divide) = sg.SlashAssign
assign_sign (Some op.Remainder) = sg.PercentAssign
assign_sign (Some other) = binary_sign other

abbrev pub bump_sign : Bool → Sign
bump_sign true = sg.PlusPlus
bump_sign false = sg.MinusMinus

abbrev pub spell_name : Placed NameId → List Word
spell_name n = name n.item.0 ∷ []

abbrev pub spell_number : Number → List Word
spell_number n = number n.bits n.kind ∷ []

abbrev pub spell_flag : Bool → List Word
spell_flag true = keyword k.True ∷ []
spell_flag false = keyword k.False ∷ []

abbrev pub spell_quoted : Quoted → List Word
spell_quoted q = text q.bytes ∷ []

-- a part with `::` before it, or without
abbrev pub scoped : Bool → List Word → List Word
scoped true part = sign sg.ColonColon ∷ part
scoped false part = part

-- a part with a sign in front of it, or behind it
abbrev pub beside : Bool → Sign → List Word → List Word
beside true s part = sign s ∷ part
beside false s part = part ++ sign s ∷ []

abbrev pub spell_ref : Ref → List Word
spell_ref r = scoped r.global (spell_name r.name)

abbrev pub spell_base : Base → List Word
spell_base base_of.This = keyword k.This ∷ sign sg.Arrow ∷ []
spell_base (base_of.Dot r) = spell_ref r ++ sign sg.Dot ∷ []
spell_base (base_of.Arrow r) = spell_ref r ++ sign sg.Arrow ∷ []

abbrev pub spell_selector : Selector → List Word
spell_selector s = spell_base s.base ++ spell_name s.name

abbrev pub spell_callee : Callee → List Word
spell_callee (callee_of.Bare r) = spell_ref r
spell_callee (callee_of.Member s) = spell_selector s

abbrev pub spell_class_word : ClassWord → List Word
spell_class_word class_word_of.Class = keyword k.Class ∷ []
spell_class_word class_word_of.Struct = keyword k.Struct ∷ []

abbrev pub spell_label : Access → List Word
spell_label access_of.Public = keyword k.Public ∷ sign sg.Colon ∷ []
spell_label access_of.Protected = keyword k.Protected ∷ sign sg.Colon ∷ []
spell_label access_of.Private = keyword k.Private ∷ sign sg.Colon ∷ []

abbrev pub spell_public_base : Placed NameId → List Word
spell_public_base base = sign sg.Colon ∷ keyword k.Public ∷ spell_name base

abbrev pub spell_directive : Directive → List Word
spell_directive (directive_of.Include header) = include header ∷ []
spell_directive directive_of.Pragma = pragma ∷ []

abbrev pub spell_const : Const → List Word
spell_const (const_of.Number true n) = sign sg.Minus ∷ spell_number n
spell_const (const_of.Number false n) = spell_number n
spell_const (const_of.Flag is_set) = spell_flag is_set
spell_const const_of.Null = keyword k.Nullptr ∷ []

module _ (special : SpecialName → ℕ) where
  -- `std`, `::` and a name
  abbrev pub spell_std : SpecialName → List Word
  spell_std what = name (special sn.Std) ∷ sign sg.ColonColon ∷ name (special what) ∷ []

  abbrev pub spell_left : Left → List Word
  spell_left (left_of.Name r) = spell_ref r
  spell_left (left_of.Member n selector) = spell_selector selector
  spell_left (left_of.Result n) =
      sign sg.Star ∷ keyword k.Tjp ∷ sign sg.Arrow ∷ name (special sn.Result) ∷ in_parentheses []

  abbrev pub spell_type : TypeName → List Word
  spell_type (type_of.Num num) = keyword (k.Number num) ∷ []
  spell_type type_of.Int = keyword k.Int ∷ []
  spell_type type_of.Unsigned = keyword k.Unsigned ∷ []
  spell_type type_of.Void = keyword k.Void ∷ []
  spell_type (type_of.Pointer class) = name class.0 ∷ sign sg.Star ∷ []
  spell_type type_of.Mutex = spell_std sn.Mutex

  -- a type and the name that it is declared with
  abbrev pub spell_typed : Placed TypeName → Placed NameId → List Word
  spell_typed t n = spell_type t.item ++ spell_name n

  abbrev mutual
    pub spell_expr : e.ExprTree → List Word
    spell_expr (e.lit n value) = spell_number value
    spell_expr (e.flag n is_set) = spell_flag is_set
    spell_expr (e.null n) = keyword k.Nullptr ∷ []
    spell_expr (e.this n) = keyword k.This ∷ []
    spell_expr (e.left l) = spell_left l
    spell_expr (e.unary n o operand) = sign (unary_sign o) ∷ spell_expr operand
    spell_expr (e.binary n o a b) = spell_expr a ++ sign (binary_sign o.item) ∷ spell_expr b
    spell_expr (e.paren n inner) = in_parentheses (spell_expr inner)
    spell_expr (e.cast n type_name operand) = spell_type type_name ++ in_parentheses (spell_expr operand)
    spell_expr (e.call c) = spell_call c
    spell_expr (e.new n class) = keyword k.New ∷ spell_name class
    spell_expr (e.new_with n class arguments) = keyword k.New ∷ (spell_name class ++ in_parentheses (separated (spell_each arguments)))

    -- the spelling of each of several expressions
    pub spell_each : e.ExprTrees → List (List Word)
    spell_each e.no_exprs = []
    spell_each (e.more_exprs first rest) = spell_expr first ∷ spell_each rest

    pub spell_call : e.CallTree → List Word
    spell_call (e.calls n callee arguments) = spell_callee callee ++ in_parentheses (separated (spell_each arguments))

  -- what stands behind a name that is followed by arguments in parentheses
  abbrev pub spell_arguments : e.ExprTrees → List Word
  spell_arguments arguments = in_parentheses (separated (spell_each arguments))

  abbrev pub spell_initial : s.InitialTree → List Word
  spell_initial i = sign sg.Assign ∷ spell_expr i.value

  abbrev pub spell_local : s.LocalTree → List Word
  spell_local l = spell_typed l.type_name l.name ++ optional spell_initial l.initial

  abbrev pub spell_assign : s.AssignTree → List Word
  spell_assign a = spell_left a.left ++ sign (assign_sign a.sign.item) ∷ spell_expr a.value

  abbrev pub spell_bump : Bump → List Word
  spell_bump b = beside b.in_front (bump_sign b.adds) (spell_left b.left)

  abbrev pub spell_simple : s.SimpleTree → List Word
  spell_simple (s.assign a) = spell_assign a
  spell_simple (s.bump b) = spell_bump b
  spell_simple (s.call_stmt c) = spell_call c
  spell_simple (s.proceed at) = keyword k.Tjp ∷ sign sg.Arrow ∷ name (special sn.Proceed) ∷ in_parentheses []

  -- an operand of a print, with the sign before it
  abbrev pub spell_printed : s.PrintedTree → List Word
  spell_printed (s.text q) = sign sg.ShiftLeft ∷ spell_quoted q
  spell_printed (s.endl at) = sign sg.ShiftLeft ∷ spell_std sn.Endl
  spell_printed (s.value v) = sign sg.ShiftLeft ∷ spell_expr v

  abbrev pub spell_print : s.PrintTree → List Word
  spell_print q = spell_std sn.Cout ++ flat_map spell_printed q.operands

  abbrev pub spell_thread : s.ThreadTree → List Word
  spell_thread t = spell_std sn.Thread ++ (spell_name t.name ++ in_parentheses (separated (spell_ref t.function ∷ spell_each t.arguments)))

  abbrev pub spell_start : s.StartTree → List Word
  spell_start (s.start_local l) = spell_local l
  spell_start (s.start_simple i) = spell_simple i

  abbrev mutual
    pub spell_stmt : s.StmtTree → List Word
    spell_stmt (s.block b) = spell_block b
    spell_stmt (s.local l) = ended (spell_local l)
    spell_stmt (s.simple i) = ended (spell_simple i)
    spell_stmt (s.branch i) = spell_if i
    spell_stmt (s.while at condition body) = keyword k.While ∷ (in_parentheses (spell_expr condition) ++ spell_block body)
    spell_stmt (s.for at start condition step body) =
        keyword k.For ∷ (in_parentheses (ended (optional spell_start start) ++ (ended (optional spell_expr condition) ++ optional spell_simple step)) ++ spell_block body)
    spell_stmt (s.return at value) = keyword k.Return ∷ ended (optional spell_expr value)
    spell_stmt (s.delete at pointer) = keyword k.Delete ∷ ended (spell_expr pointer)
    spell_stmt (s.print q) = ended (spell_print q)
    spell_stmt (s.thread t) = ended (spell_thread t)
    spell_stmt (s.abort at) = ended (spell_std sn.Abort ++ in_parentheses [])

    pub spell_stmts : s.StmtTrees → List Word
    spell_stmts s.no_stmts = []
    spell_stmts (s.more_stmts first rest) = spell_stmt first ++ spell_stmts rest

    pub spell_block : s.BlockTree → List Word
    spell_block (s.braces at stmts) = in_braces (spell_stmts stmts)

    pub spell_if : s.IfTree → List Word
    spell_if (s.chooses at condition body otherwise) = keyword k.If ∷ (in_parentheses (spell_expr condition) ++ (spell_block body ++ spell_else otherwise))

    pub spell_else : s.ElseTree → List Word
    spell_else s.no_else = []
    spell_else (s.else_if i) = keyword k.Else ∷ spell_if i
    spell_else (s.else_block b) = keyword k.Else ∷ spell_block b

  abbrev pub spell_param : Param → List Word
  spell_param q = spell_typed q.type_name q.name

  abbrev pub spell_params : List Param → List Word
  spell_params qs = in_parentheses (separated (map spell_param qs))

  abbrev pub spell_member : Member → List Word
  spell_member m = ended (spell_typed m.type_name m.name)

  abbrev pub spell_function : p.FunctionTree → List Word
  spell_function f = spell_typed f.result f.name ++ (spell_params f.params ++ spell_block f.body)

  abbrev pub spell_proto : Proto → List Word
  spell_proto f = ended (spell_typed f.result f.name ++ spell_params f.params)

  abbrev pub spell_init : p.InitTree → List Word
  spell_init i = spell_name i.name ++ spell_arguments i.arguments

  -- the initialisers and the colon before them, or nothing
  abbrev pub spell_inits : List p.InitTree → List Word
  spell_inits [] = []
  spell_inits (first ∷ rest) = sign sg.Colon ∷ separated (map spell_init (first ∷ rest))

  abbrev pub spell_ctor : p.CtorTree → List Word
  spell_ctor c = spell_name c.name ++ (spell_params c.params ++ (spell_inits c.inits ++ spell_block c.body))

  abbrev pub spell_dtor : p.DtorTree → List Word
  spell_dtor d = sign sg.Tilde ∷ (spell_name d.name ++ (in_parentheses [] ++ spell_block d.body))

  abbrev pub spell_item : p.ItemTree → List Word
  spell_item (p.label at access) = spell_label access
  spell_item (p.member m) = spell_member m
  spell_item (p.function f) = spell_function f
  spell_item (p.ctor c) = spell_ctor c
  spell_item (p.dtor d) = spell_dtor d

  abbrev pub spell_class : p.ClassTree → List Word
  spell_class c =
      ended (spell_class_word c.word ++ (spell_name c.name ++ (optional spell_public_base c.base ++ in_braces (flat_map spell_item c.items))))

  abbrev pub spell_class_name : ClassName → List Word
  spell_class_name c = ended (spell_class_word c.word ++ spell_name c.name)

  abbrev pub spell_constant : Placed Const → List Word
  spell_constant c = sign sg.Assign ∷ spell_const c.item

  abbrev pub spell_variable : Variable → List Word
  spell_variable v = ended (spell_typed v.type_name v.name ++ optional spell_constant v.initial)

  -- the arguments of a global object, in parentheses where there are any
  abbrev pub spell_object_arguments : e.ExprTrees → List Word
  spell_object_arguments e.no_exprs = []
  spell_object_arguments (e.more_exprs first rest) = spell_arguments (e.more_exprs first rest)

  abbrev pub spell_object : p.ObjectTree → List Word
  spell_object o = ended (spell_name o.class ++ (spell_name o.name ++ spell_object_arguments o.arguments))

  abbrev pub spell_global : p.GlobalTree → List Word
  spell_global (p.variable v) = spell_variable v
  spell_global (p.object o) = spell_object o
  spell_global (p.mutex at n) = ended (spell_std sn.Mutex ++ spell_name n)

  abbrev pub spell_decl : p.DeclTree → List Word
  spell_decl (p.class c) = spell_class c
  spell_decl (p.class_name c) = spell_class_name c
  spell_decl (p.free_function f) = spell_function f
  spell_decl (p.proto f) = spell_proto f
  spell_decl (p.global g) = spell_global g

  abbrev pub spell_program : p.ProgramTree → List Word
  spell_program q = flat_map spell_directive q.directives ++ flat_map spell_decl q.decls
