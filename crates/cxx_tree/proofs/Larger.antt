-- A tree that fits some limits fits larger ones.
use Rattle.std.proofs.Common.{◌≤◌, ℕ, suc, zero, List, [], ◌∷◌, Option, Some, None, refl, arith}
use Rattle.cxx_tree.specs.declared.expr.Left.{Left}
use Rattle.cxx_tree.specs.declared.expr.Left.TheVariants as left_of
use Rattle.cxx_tree.specs.declared.program.Param.{Param}
use Rattle.cxx_tree.specs.Limits.{Grammar, Opens, Every}
use Rattle.cxx_tree.specs.Fits as f
use Rattle.cxx_tree.specs.ExprTree as e
use Rattle.cxx_tree.specs.StmtTree as s
use Rattle.cxx_tree.specs.ProgramTree as p

pub opens-larger : {P Q : ℕ → Type 0} (d m : ℕ) → d ≤ m → ((b c : ℕ) → b ≤ c → P b → Q c) → Opens d P → Opens m Q
opens-larger d zero le each (b, is, h) = absurd (omega arith)
opens-larger d (suc m) le each (b, is, h) = (m, refl, each b m (omega arith) h)

pub all-larger : {A : Type 0} {P Q : A → Type 0} → ((x : A) → P x → Q x) → (xs : List A) → Every P xs → Every Q xs
all-larger each [] h = tt
all-larger each (x ∷ xs) (first, rest) = (each x first, all-larger each xs rest)

pub optionally-larger : {A : Type 0} {P Q : A → Type 0} → ((x : A) → P x → Q x) → (o : Option A) → f.Optionally P o → f.Optionally Q o
optionally-larger each None h = tt
optionally-larger each (Some x) h = each x h

module _ (g : Grammar) where
  pub left-larger : (d m : ℕ) → d ≤ m → (l : Left) → f.FitsLeft g d l → f.FitsLeft g m l
  left-larger d m le (left_of.Name r) h = tt
  left-larger d m le (left_of.Member n q) h = tt
  left-larger d m le (left_of.Result n) (has, opens) = (has, opens-larger d m le (λ b c below h. h) opens)

  mutual
    pub expr-larger : (d m : ℕ) → d ≤ m → (level : ℕ) → (t : e.ExprTree) → f.FitsExpr g d level t → f.FitsExpr g m level t
    expr-larger d m le level (e.lit n value) h = tt
    expr-larger d m le level (e.flag n is_set) h = tt
    expr-larger d m le level (e.null n) h = tt
    expr-larger d m le level (e.this n) h = tt
    expr-larger d m le level (e.left l) h = left-larger d m le l h
    expr-larger d m le level (e.unary n o operand) h = expr-larger d m le 0 operand h
    expr-larger d m le level (e.binary n o a b) (within, first, second) =
        (within, expr-larger d m le _ a first, expr-larger d m le _ b second)
    expr-larger d m le level (e.paren n inner) h = opens-larger d m le (λ b c below. expr-larger b c below _ inner) h
    expr-larger d m le level (e.cast n type_name operand) h = (h.0, opens-larger d m le (λ b c below. expr-larger b c below _ operand) h.1)
    expr-larger d m le level (e.call q) h = call-larger d m le q h
    expr-larger d m le level (e.new n class) h = tt
    expr-larger d m le level (e.new_with n class arguments) h = opens-larger d m le (λ b c below. all_exprs-larger b c below arguments) h

    pub all_exprs-larger : (d m : ℕ) → d ≤ m → (ts : e.ExprTrees) → f.FitsAll g d ts → f.FitsAll g m ts
    all_exprs-larger d m le e.no_exprs h = tt
    all_exprs-larger d m le (e.more_exprs first rest) (here, there) = (expr-larger d m le _ first here, all_exprs-larger d m le rest there)

    pub call-larger : (d m : ℕ) → d ≤ m → (q : e.CallTree) → f.FitsCall g d q → f.FitsCall g m q
    call-larger d m le (e.calls n callee arguments) h = opens-larger d m le (λ b c below. all_exprs-larger b c below arguments) h

  module _ (few many : ℕ) (more_operators : few ≤ many) where
    pub full-larger : (d m : ℕ) → d ≤ m → (level : ℕ) → (t : e.ExprTree) → f.FitsFull g few d level t → f.FitsFull g many m level t
    full-larger d m le level t (fits, count) = (expr-larger d m le level t fits, omega arith)

    pub each-larger : (d m : ℕ) → d ≤ m → (ts : e.ExprTrees) → f.FitsEach g few d ts → f.FitsEach g many m ts
    each-larger d m le e.no_exprs h = tt
    each-larger d m le (e.more_exprs first rest) (here, there) = (full-larger d m le _ first here, each-larger d m le rest there)

    pub arguments-larger : (d m : ℕ) → d ≤ m → (ts : e.ExprTrees) → f.FitsArguments g few d ts → f.FitsArguments g many m ts
    arguments-larger d m le ts h = opens-larger d m le (λ b c below. each-larger b c below ts) h

    pub local-larger : (d m : ℕ) → d ≤ m → (l : s.LocalTree) → f.FitsLocal g few d l → f.FitsLocal g many m l
    local-larger d m le l (plain, value) =
        (plain, optionally-larger (λ (i : s.InitialTree). full-larger d m le f.expr_level i.value) l.initial value)

    pub simple-larger : (d m : ℕ) → d ≤ m → (i : s.SimpleTree) → f.FitsSimple g few d i → f.FitsSimple g many m i
    simple-larger d m le (s.assign a) (left, sign, value) = (left-larger d m le a.left left, sign, full-larger d m le _ a.value value)
    simple-larger d m le (s.bump b) h = left-larger d m le b.left h
    simple-larger d m le (s.call_stmt (e.calls n callee arguments)) h = arguments-larger d m le arguments h
    simple-larger d m le (s.proceed at) (has, opens) = (has, opens-larger d m le (λ b c below h. h) opens)

    pub printed-larger : (d m : ℕ) → d ≤ m → (q : s.PrintedTree) → f.FitsPrinted g few d q → f.FitsPrinted g many m q
    printed-larger d m le (s.text q) h = tt
    printed-larger d m le (s.endl at) h = tt
    printed-larger d m le (s.value v) h = full-larger d m le _ v h

    pub start-larger : (d m : ℕ) → d ≤ m → (t : s.StartTree) → f.FitsStart g few d t → f.FitsStart g many m t
    start-larger d m le (s.start_local l) h = local-larger d m le l h
    start-larger d m le (s.start_simple i) h = simple-larger d m le i h

    pub condition-larger : (d m : ℕ) → d ≤ m → (t : e.ExprTree) → Opens d (λ below. f.FitsFull g few below f.expr_level t) → Opens m (λ below. f.FitsFull g many below f.expr_level t)
    condition-larger d m le t h = opens-larger d m le (λ b c below. full-larger b c below f.expr_level t) h

    mutual
      pub stmt-larger : (d m : ℕ) → d ≤ m → (t : s.StmtTree) → f.FitsStmt g few d t → f.FitsStmt g many m t
      stmt-larger d m le (s.block b) h = block-larger d m le b h
      stmt-larger d m le (s.local l) h = local-larger d m le l h
      stmt-larger d m le (s.simple i) h = simple-larger d m le i h
      stmt-larger d m le (s.branch i) h = if-larger d m le i h
      stmt-larger d m le (s.while at condition body) (head, inner) = (condition-larger d m le condition head, block-larger d m le body inner)
      stmt-larger d m le (s.for at start condition step body) (head, inner) = (
        opens-larger d m le (λ b c below (begins, tests, steps). (
          optionally-larger (start-larger b c below) start begins,
          optionally-larger (full-larger b c below f.expr_level) condition tests,
          optionally-larger (simple-larger b c below) step steps,
        )) head,
        block-larger d m le body inner,
      )
      stmt-larger d m le (s.return at value) h = optionally-larger (full-larger d m le f.expr_level) value h
      stmt-larger d m le (s.delete at pointer) h = full-larger d m le _ pointer h
      stmt-larger d m le (s.print q) (some, operands) = (some, all-larger (printed-larger d m le) q.operands operands)
      stmt-larger d m le (s.thread t) h = arguments-larger d m le t.arguments h
      stmt-larger d m le (s.abort at) (has, opens) = (has, opens-larger d m le (λ b c below h. h) opens)

      pub stmts-larger : (d m : ℕ) → d ≤ m → (ts : s.StmtTrees) → f.FitsStmts g few d ts → f.FitsStmts g many m ts
      stmts-larger d m le s.no_stmts h = tt
      stmts-larger d m le (s.more_stmts first rest) (here, there) = (stmt-larger d m le first here, stmts-larger d m le rest there)

      pub block-larger : (d m : ℕ) → d ≤ m → (b : s.BlockTree) → f.FitsBlock g few d b → f.FitsBlock g many m b
      block-larger d m le (s.braces at stmts) h = opens-larger d m le (λ b c below. stmts-larger b c below stmts) h

      pub if-larger : (d m : ℕ) → d ≤ m → (i : s.IfTree) → f.FitsIf g few d i → f.FitsIf g many m i
      if-larger d m le (s.chooses at condition body otherwise) (head, inner, other) =
          (condition-larger d m le condition head, block-larger d m le body inner, else-larger d m le otherwise other)

      pub else-larger : (d m : ℕ) → d ≤ m → (t : s.ElseTree) → f.FitsElse g few d t → f.FitsElse g many m t
      else-larger d m le s.no_else h = tt
      else-larger d m le (s.else_if i) h = opens-larger d m le (λ b c below. if-larger b c below i) h
      else-larger d m le (s.else_block b) h = block-larger d m le b h

    pub params-larger : (d m : ℕ) → d ≤ m → (qs : List Param) → f.FitsParams d qs → f.FitsParams m qs
    params-larger d m le qs h = opens-larger d m le (λ b c below plain. plain) h

    pub function-larger : (d m : ℕ) → d ≤ m → (q : p.FunctionTree) → f.FitsFunction g few d q → f.FitsFunction g many m q
    function-larger d m le q (plain, params, body) = (plain, params-larger d m le q.params params, block-larger d m le q.body body)

    pub item-larger : (d m : ℕ) → d ≤ m → (i : p.ItemTree) → f.FitsItem g few d i → f.FitsItem g many m i
    item-larger d m le (p.label at access) h = tt
    item-larger d m le (p.member q) h = h
    item-larger d m le (p.function q) h = function-larger d m le q h
    item-larger d m le (p.ctor q) (params, inits, body) = (
      params-larger d m le q.params params,
      all-larger (λ (i : p.InitTree). arguments-larger d m le i.arguments) q.inits inits,
      block-larger d m le q.body body,
    )
    item-larger d m le (p.dtor q) (opens, body) = (opens-larger d m le (λ b c below h. h) opens, block-larger d m le q.body body)

    pub object_arguments-larger : (d m : ℕ) → d ≤ m → (ts : e.ExprTrees) → f.FitsObjectArguments g few d ts → f.FitsObjectArguments g many m ts
    object_arguments-larger d m le e.no_exprs h = tt
    object_arguments-larger d m le (e.more_exprs first rest) h = arguments-larger d m le (e.more_exprs first rest) h

    pub global-larger : (d m : ℕ) → d ≤ m → (q : p.GlobalTree) → f.FitsGlobal g few d q → f.FitsGlobal g many m q
    global-larger d m le (p.variable v) h = h
    global-larger d m le (p.object o) h = object_arguments-larger d m le o.arguments h
    global-larger d m le (p.mutex at n) h = tt

    pub decl-larger : (d m : ℕ) → d ≤ m → (q : p.DeclTree) → f.FitsDecl g few d q → f.FitsDecl g many m q
    decl-larger d m le (p.class q) h = opens-larger d m le (λ b c below. all-larger (item-larger b c below) q.items) h
    decl-larger d m le (p.class_name q) h = tt
    decl-larger d m le (p.free_function q) h = function-larger d m le q h
    decl-larger d m le (p.proto q) (plain, params) = (plain, params-larger d m le q.params params)
    decl-larger d m le (p.global q) h = global-larger d m le q h

pub program-larger : f.LargerLimitsFit
program-larger g small large deeper more_operators q h =
    all-larger (decl-larger g small.operators large.operators more_operators small.nesting large.nesting deeper) q.decls h
