-- Which trees are trees of the grammar, within limits: the operands of an operator keep its level, a repeated part
-- that can't be empty isn't, a form stands only where the grammar has it, and nesting and operators keep the limits.
-- A tree of any size is one that fits some limits.
use Rattle.std.specs.Prelude.{ℕ, ◌≤◌, ◌≢◌, suc, ◌-◌, ◌+◌, List, [], Option, Some, None}
use Rattle.cxx_tree.specs.declared.operator.BinOp.{BinOp}
use Rattle.cxx_tree.specs.declared.operator.BinOp.TheVariants as op
use Rattle.cxx_tree.specs.declared.expr.Left.{Left}
use Rattle.cxx_tree.specs.declared.expr.Left.TheVariants as left_of
use Rattle.cxx_tree.specs.declared.program.TypeName.{TypeName}
use Rattle.cxx_tree.specs.declared.program.TypeName.TheVariants as type_of
use Rattle.cxx_tree.specs.declared.program.Param.{Param}
use Rattle.cxx_tree.specs.Limits.{Grammar, HasWovenForms, HasAdviceForms, Limits, Opens, Every}
use Rattle.cxx_tree.specs.ExprTree as e
use Rattle.cxx_tree.specs.StmtTree as s
use Rattle.cxx_tree.specs.ProgramTree as p

-- from the operators that bind their operands most tightly, at 1, to the loosest, at 10; unary operators stand at 0
abbrev pub level_of : BinOp → ℕ
level_of op.Multiply = 1
level_of op.Divide = 1
level_of op.Remainder = 1
level_of op.Add = 2
level_of op.Subtract = 2
level_of op.ShiftLeft = 3
level_of op.ShiftRight = 3
level_of op.Less = 4
level_of op.LessEqual = 4
level_of op.Greater = 4
level_of op.GreaterEqual = 4
level_of op.Equal = 5
level_of op.NotEqual = 5
level_of op.BitAnd = 6
level_of op.BitXor = 7
level_of op.BitOr = 8
level_of op.And = 9
level_of op.Or = 10

-- the level of a sum, which an operand of a print has at most, and of an expression
abbrev pub sum_level : ℕ
sum_level = 2

abbrev pub expr_level : ℕ
expr_level = 10

-- how many operators stand in an expression, those in the arguments of its calls among them
abbrev mutual
  pub operators_in : e.ExprTree → ℕ
  operators_in (e.lit n value) = 0
  operators_in (e.flag n is_set) = 0
  operators_in (e.null n) = 0
  operators_in (e.this n) = 0
  operators_in (e.left l) = 0
  operators_in (e.unary n o operand) = suc (operators_in operand)
  operators_in (e.binary n o a b) = suc (operators_in a + operators_in b)
  operators_in (e.paren n inner) = operators_in inner
  operators_in (e.cast n type_name operand) = operators_in operand
  operators_in (e.call c) = operators_in_call c
  operators_in (e.new n class) = 0
  operators_in (e.new_with n class arguments) = operators_in_all arguments

  pub operators_in_all : e.ExprTrees → ℕ
  operators_in_all e.no_exprs = 0
  operators_in_all (e.more_exprs first rest) = operators_in first + operators_in_all rest

  pub operators_in_call : e.CallTree → ℕ
  operators_in_call (e.calls n callee arguments) = operators_in_all arguments

-- the operators that have a sign of assignment, or none for `=`
abbrev pub IsAssignable : Option BinOp → Type 0
IsAssignable None = Unit {0}
IsAssignable (Some op.Add) = Unit {0}
IsAssignable (Some op.Subtract) = Unit {0}
IsAssignable (Some op.Multiply) = Unit {0}
IsAssignable (Some op.Divide) = Unit {0}
IsAssignable (Some op.Remainder) = Unit {0}
IsAssignable (Some other) = ⊥

-- every type but that of a mutex
abbrev pub IsPlainType : TypeName → Type 0
IsPlainType (type_of.Num num) = Unit {0}
IsPlainType type_of.Int = Unit {0}
IsPlainType type_of.Unsigned = Unit {0}
IsPlainType type_of.Void = Unit {0}
IsPlainType (type_of.Pointer class) = Unit {0}
IsPlainType type_of.Mutex = ⊥

-- the types that a cast is written with
abbrev pub IsNumberType : TypeName → Type 0
IsNumberType (type_of.Num num) = Unit {0}
IsNumberType type_of.Int = Unit {0}
IsNumberType type_of.Unsigned = Unit {0}
IsNumberType type_of.Void = ⊥
IsNumberType (type_of.Pointer class) = ⊥
IsNumberType type_of.Mutex = ⊥

-- what holds of an optional part, if it is there
abbrev pub Optionally : {A : Type 0} → (A → Type 0) → Option A → Type 0
Optionally Holds None = Unit {0}
Optionally Holds (Some part) = Holds part

abbrev pub FitsParams : ℕ → List Param → Type 0
FitsParams depth params = Opens depth (λ below. Every (λ (q : Param). IsPlainType q.type_name.item) params)

module _ (grammar : Grammar) where
  abbrev pub IsMemberType : TypeName → Type 0
  IsMemberType (type_of.Num num) = Unit {0}
  IsMemberType type_of.Int = Unit {0}
  IsMemberType type_of.Unsigned = Unit {0}
  IsMemberType type_of.Void = Unit {0}
  IsMemberType (type_of.Pointer class) = Unit {0}
  IsMemberType type_of.Mutex = HasWovenForms grammar

  abbrev pub FitsLeft : ℕ → Left → Type 0
  FitsLeft depth (left_of.Name r) = Unit {0}
  FitsLeft depth (left_of.Member n selector) = Unit {0}
  FitsLeft depth (left_of.Result n) = HasAdviceForms grammar × Opens depth (λ below. Unit {0})

  abbrev mutual
    -- an expression of operators up to this level
    pub FitsExpr : ℕ → ℕ → e.ExprTree → Type 0
    FitsExpr depth level (e.lit n value) = Unit {0}
    FitsExpr depth level (e.flag n is_set) = Unit {0}
    FitsExpr depth level (e.null n) = Unit {0}
    FitsExpr depth level (e.this n) = Unit {0}
    FitsExpr depth level (e.left l) = FitsLeft depth l
    FitsExpr depth level (e.unary n o operand) = FitsExpr depth 0 operand
    FitsExpr depth level (e.binary n o a b) =
        (level_of o.item ≤ level) × FitsExpr depth (level_of o.item) a × FitsExpr depth (level_of o.item - 1) b
    FitsExpr depth level (e.paren n inner) = Opens depth (λ below. FitsExpr below expr_level inner)
    FitsExpr depth level (e.cast n type_name operand) = IsNumberType type_name × Opens depth (λ below. FitsExpr below expr_level operand)
    FitsExpr depth level (e.call c) = FitsCall depth c
    FitsExpr depth level (e.new n class) = Unit {0}
    FitsExpr depth level (e.new_with n class arguments) = Opens depth (λ below. FitsAll below arguments)

    pub FitsAll : ℕ → e.ExprTrees → Type 0
    FitsAll depth e.no_exprs = Unit {0}
    FitsAll depth (e.more_exprs first rest) = FitsExpr depth expr_level first × FitsAll depth rest

    pub FitsCall : ℕ → e.CallTree → Type 0
    FitsCall depth (e.calls n callee arguments) = Opens depth (λ below. FitsAll below arguments)

  module _ (most : ℕ) where
    -- an expression that is no part of another
    abbrev pub FitsFull : ℕ → ℕ → e.ExprTree → Type 0
    FitsFull depth level t = FitsExpr depth level t × (operators_in t ≤ most)

    -- arguments that are each an expression of its own
    abbrev pub FitsEach : ℕ → e.ExprTrees → Type 0
    FitsEach depth e.no_exprs = Unit {0}
    FitsEach depth (e.more_exprs first rest) = FitsFull depth expr_level first × FitsEach depth rest

    abbrev pub FitsArguments : ℕ → e.ExprTrees → Type 0
    FitsArguments depth arguments = Opens depth (λ below. FitsEach below arguments)

    abbrev pub FitsLocal : ℕ → s.LocalTree → Type 0
    FitsLocal depth l = IsPlainType l.type_name.item × Optionally (λ (i : s.InitialTree). FitsFull depth expr_level i.value) l.initial

    abbrev pub FitsSimple : ℕ → s.SimpleTree → Type 0
    FitsSimple depth (s.assign a) = FitsLeft depth a.left × IsAssignable a.sign.item × FitsFull depth expr_level a.value
    FitsSimple depth (s.bump b) = FitsLeft depth b.left
    FitsSimple depth (s.call_stmt (e.calls n callee arguments)) = FitsArguments depth arguments
    FitsSimple depth (s.proceed at) = HasAdviceForms grammar × Opens depth (λ below. Unit {0})

    abbrev pub FitsPrinted : ℕ → s.PrintedTree → Type 0
    FitsPrinted depth (s.text q) = Unit {0}
    FitsPrinted depth (s.endl at) = Unit {0}
    FitsPrinted depth (s.value t) = FitsFull depth sum_level t

    abbrev pub FitsStart : ℕ → s.StartTree → Type 0
    FitsStart depth (s.start_local l) = FitsLocal depth l
    FitsStart depth (s.start_simple i) = FitsSimple depth i

    abbrev mutual
      pub FitsStmt : ℕ → s.StmtTree → Type 0
      FitsStmt depth (s.block b) = FitsBlock depth b
      FitsStmt depth (s.local l) = FitsLocal depth l
      FitsStmt depth (s.simple i) = FitsSimple depth i
      FitsStmt depth (s.branch i) = FitsIf depth i
      FitsStmt depth (s.while at condition body) = Opens depth (λ below. FitsFull below expr_level condition) × FitsBlock depth body
      FitsStmt depth (s.for at start condition step body) =
          Opens depth (λ below. Optionally (FitsStart below) start × Optionally (FitsFull below expr_level) condition × Optionally (FitsSimple below) step) × FitsBlock depth body
      FitsStmt depth (s.return at value) = Optionally (FitsFull depth expr_level) value
      FitsStmt depth (s.delete at pointer) = FitsFull depth expr_level pointer
      FitsStmt depth (s.print q) = (q.operands ≢ []) × Every (FitsPrinted depth) q.operands
      FitsStmt depth (s.thread t) = FitsArguments depth t.arguments
      FitsStmt depth (s.abort at) = HasWovenForms grammar × Opens depth (λ below. Unit {0})

      pub FitsStmts : ℕ → s.StmtTrees → Type 0
      FitsStmts depth s.no_stmts = Unit {0}
      FitsStmts depth (s.more_stmts first rest) = FitsStmt depth first × FitsStmts depth rest

      pub FitsBlock : ℕ → s.BlockTree → Type 0
      FitsBlock depth (s.braces at stmts) = Opens depth (λ below. FitsStmts below stmts)

      pub FitsIf : ℕ → s.IfTree → Type 0
      FitsIf depth (s.chooses at condition body otherwise) =
          Opens depth (λ below. FitsFull below expr_level condition) × FitsBlock depth body × FitsElse depth otherwise

      pub FitsElse : ℕ → s.ElseTree → Type 0
      FitsElse depth s.no_else = Unit {0}
      FitsElse depth (s.else_if i) = Opens depth (λ below. FitsIf below i)
      FitsElse depth (s.else_block b) = FitsBlock depth b

    abbrev pub FitsFunction : ℕ → p.FunctionTree → Type 0
    FitsFunction depth f = IsPlainType f.result.item × FitsParams depth f.params × FitsBlock depth f.body

    abbrev pub FitsCtor : ℕ → p.CtorTree → Type 0
    FitsCtor depth c = FitsParams depth c.params × Every (λ (i : p.InitTree). FitsArguments depth i.arguments) c.inits × FitsBlock depth c.body

    abbrev pub FitsDtor : ℕ → p.DtorTree → Type 0
    FitsDtor depth d = Opens depth (λ below. Unit {0}) × FitsBlock depth d.body

    abbrev pub FitsItem : ℕ → p.ItemTree → Type 0
    FitsItem depth (p.label at access) = Unit {0}
    FitsItem depth (p.member m) = IsMemberType m.type_name.item
    FitsItem depth (p.function f) = FitsFunction depth f
    FitsItem depth (p.ctor c) = FitsCtor depth c
    FitsItem depth (p.dtor d) = FitsDtor depth d

    abbrev pub FitsObjectArguments : ℕ → e.ExprTrees → Type 0
    FitsObjectArguments depth e.no_exprs = Unit {0}
    FitsObjectArguments depth (e.more_exprs first rest) = FitsArguments depth (e.more_exprs first rest)

    abbrev pub FitsGlobal : ℕ → p.GlobalTree → Type 0
    FitsGlobal depth (p.variable v) = IsPlainType v.type_name.item
    FitsGlobal depth (p.object o) = FitsObjectArguments depth o.arguments
    FitsGlobal depth (p.mutex at n) = Unit {0}

    abbrev pub FitsDecl : ℕ → p.DeclTree → Type 0
    FitsDecl depth (p.class c) = Opens depth (λ below. Every (FitsItem below) c.items)
    FitsDecl depth (p.class_name c) = Unit {0}
    FitsDecl depth (p.free_function f) = FitsFunction depth f
    FitsDecl depth (p.proto f) = IsPlainType f.result.item × FitsParams depth f.params
    FitsDecl depth (p.global g) = FitsGlobal depth g

abbrev pub FitsProgram : Grammar → Limits → p.ProgramTree → Type 0
FitsProgram grammar limits q = Every (FitsDecl grammar limits.operators limits.nesting) q.decls

-- a program of any size
abbrev pub IsProgram : Grammar → p.ProgramTree → Type 0
IsProgram grammar q = (limits : Limits) × FitsProgram grammar limits q

-- a program that fits some limits fits larger ones
abbrev pub LargerLimitsFit : Type 0
LargerLimitsFit =
    (grammar : Grammar) (small large : Limits) →
    small.nesting ≤ large.nesting → small.operators ≤ large.operators → (q : p.ProgramTree) → FitsProgram grammar small q → FitsProgram grammar large q
