-- A program that fits a grammar fits one that has at least its forms, whatever a walk makes of its nodes.
use Rattle.std.proofs.Common.{◌≡◌, ◌≢◌, ◌≤◌, ℕ, suc, refl, sym, ap, subst, List, [], ◌∷◌, Option, Some, None}
use Rattle.cxx_tree.specs.declared.node.Node.{Node}
use Rattle.cxx_tree.specs.declared.expr.Left.{Left}
use Rattle.cxx_tree.specs.declared.expr.Left.TheVariants as left_of
use Rattle.cxx_tree.specs.declared.program.TypeName.{TypeName}
use Rattle.cxx_tree.specs.declared.program.TypeName.TheVariants as type_of
use Rattle.cxx_tree.specs.Limits.{Grammar, HasWovenForms, HasAdviceForms, Limits, Opens, Every}
use Rattle.cxx_tree.specs.Fits as f
use Rattle.cxx_tree.specs.ExprTree as e
use Rattle.cxx_tree.specs.StmtTree as s
use Rattle.cxx_tree.specs.ProgramTree as p
use Rattle.cxx_tree.specs.Walk as to
use Rattle.cxx_tree.specs.Walk.{Walk}

opens-each : {P Q : ℕ → Type 0} (d : ℕ) → ((b : ℕ) → P b → Q b) → Opens d P → Opens d Q
opens-each d each (b, is, holds) = (b, is, each b holds)

module _ {S : Type 0} where
  each-walked : {A : Type 0} (P Q : A → Type 0) (walk : Walk S A) → ((x : A) (k : S) → P x → Q (walk x k).0) → (xs : List A) (k : S) → Every P xs → Every Q (to.walk_each walk xs k).0
  each-walked P Q walk one [] k every = tt
  each-walked P Q walk one (x ∷ xs) k every = (one x k every.0, each-walked P Q walk one xs (walk x k).1 every.1)

  optional-walked : {A : Type 0} (P Q : A → Type 0) (walk : Walk S A) → ((x : A) (k : S) → P x → Q (walk x k).0) → (o : Option A) (k : S) → f.Optionally P o → f.Optionally Q (to.walk_optional walk o k).0
  optional-walked P Q walk one None k holds = tt
  optional-walked P Q walk one (Some x) k holds = one x k holds

  some-walked : {A : Type 0} (walk : Walk S A) (xs : List A) (k : S) → xs ≢ [] → (to.walk_each walk xs k).0 ≢ []
  some-walked walk [] k some is = some refl
  some-walked walk (x ∷ xs) k some is = cc

  module _ (node : Walk S Node) where
    -- ---- operators

    mutual
      expr-operators : (t : e.ExprTree) (k : S) → f.operators_in (to.walk_expr node t k).0 ≡ f.operators_in t
      expr-operators (e.lit n value) k = refl
      expr-operators (e.flag n is_set) k = refl
      expr-operators (e.null n) k = refl
      expr-operators (e.this n) k = refl
      expr-operators (e.left l) k = refl
      expr-operators (e.unary n o operand) k = ap suc (expr-operators operand (node n k).1)
      expr-operators (e.binary n o a b) k =
          let k1 = (node n k).1 in
          rw (expr-operators a k1, expr-operators b (to.walk_expr node a k1).1)
      expr-operators (e.paren n inner) k = expr-operators inner (node n k).1
      expr-operators (e.cast n type_name operand) k = expr-operators operand (node n k).1
      expr-operators (e.call c) k = call-operators c k
      expr-operators (e.new n class) k = refl
      expr-operators (e.new_with n class arguments) k = all-operators arguments (node n k).1

      all-operators : (ts : e.ExprTrees) (k : S) → f.operators_in_all (to.walk_exprs node ts k).0 ≡ f.operators_in_all ts
      all-operators e.no_exprs k = refl
      all-operators (e.more_exprs first rest) k =
          rw (expr-operators first k, all-operators rest (to.walk_expr node first k).1)

      call-operators : (c : e.CallTree) (k : S) → f.operators_in_call (to.walk_call node c k).0 ≡ f.operators_in_call c
      call-operators (e.calls n callee arguments) k = all-operators arguments (to.walk_callee node callee (node n k).1).1

    module _ (g h : Grammar) (of_woven : HasWovenForms g → HasWovenForms h) (of_advice : HasAdviceForms g → HasAdviceForms h) where
      -- ---- expressions

      left-fits : (d : ℕ) (l : Left) (k : S) → f.FitsLeft g d l → f.FitsLeft h d (to.walk_left node l k).0
      left-fits d (left_of.Name r) k fits = tt
      left-fits d (left_of.Member n q) k fits = tt
      left-fits d (left_of.Result n) k (has, opens) = (of_advice has, opens)

      mutual
        expr-fits : (d level : ℕ) (t : e.ExprTree) (k : S) → f.FitsExpr g d level t → f.FitsExpr h d level (to.walk_expr node t k).0
        expr-fits d level (e.lit n value) k fits = tt
        expr-fits d level (e.flag n is_set) k fits = tt
        expr-fits d level (e.null n) k fits = tt
        expr-fits d level (e.this n) k fits = tt
        expr-fits d level (e.left l) k fits = left-fits d l k fits
        expr-fits d level (e.unary n o operand) k fits = expr-fits d 0 operand (node n k).1 fits
        expr-fits d level (e.binary n o a b) k (within, first, second) =
            let k1 = (node n k).1 in
            (within, expr-fits d _ a k1 first, expr-fits d _ b (to.walk_expr node a k1).1 second)
        expr-fits d level (e.paren n inner) k fits = opens-each d (λ b. expr-fits b _ inner (node n k).1) fits
        expr-fits d level (e.cast n type_name operand) k fits =
            (fits.0, opens-each d (λ b. expr-fits b _ operand (node n k).1) fits.1)
        expr-fits d level (e.call c) k fits = call-fits d c k fits
        expr-fits d level (e.new n class) k fits = tt
        expr-fits d level (e.new_with n class arguments) k fits = opens-each d (λ b. all-fits b arguments (node n k).1) fits

        all-fits : (d : ℕ) (ts : e.ExprTrees) (k : S) → f.FitsAll g d ts → f.FitsAll h d (to.walk_exprs node ts k).0
        all-fits d e.no_exprs k fits = tt
        all-fits d (e.more_exprs first rest) k (here, there) =
            (expr-fits d _ first k here, all-fits d rest (to.walk_expr node first k).1 there)

        call-fits : (d : ℕ) (c : e.CallTree) (k : S) → f.FitsCall g d c → f.FitsCall h d (to.walk_call node c k).0
        call-fits d (e.calls n callee arguments) k fits =
            opens-each d (λ b. all-fits b arguments (to.walk_callee node callee (node n k).1).1) fits

      module _ (most : ℕ) where
        full-fits : (d level : ℕ) (t : e.ExprTree) (k : S) → f.FitsFull g most d level t → f.FitsFull h most d level (to.walk_expr node t k).0
        full-fits d level t k (fits, count) = (expr-fits d level t k fits, subst (λ n. n ≤ most) (sym (expr-operators t k)) count)

        each-fits : (d : ℕ) (ts : e.ExprTrees) (k : S) → f.FitsEach g most d ts → f.FitsEach h most d (to.walk_exprs node ts k).0
        each-fits d e.no_exprs k fits = tt
        each-fits d (e.more_exprs first rest) k (here, there) =
            (full-fits d _ first k here, each-fits d rest (to.walk_expr node first k).1 there)

        arguments-fit : (d : ℕ) (ts : e.ExprTrees) (k : S) → f.FitsArguments g most d ts → f.FitsArguments h most d (to.walk_exprs node ts k).0
        arguments-fit d ts k fits = opens-each d (λ b. each-fits b ts k) fits

        condition-fits : (d : ℕ) (t : e.ExprTree) (k : S) → Opens d (λ below. f.FitsFull g most below f.expr_level t) → Opens d (λ below. f.FitsFull h most below f.expr_level (to.walk_expr node t k).0)
        condition-fits d t k fits = opens-each d (λ b. full-fits b f.expr_level t k) fits

        -- ---- statements

        initial-fits : (d : ℕ) (i : s.InitialTree) (k : S) → f.FitsFull g most d f.expr_level i.value → f.FitsFull h most d f.expr_level (to.walk_initial node i k).0.value
        initial-fits d i k fits = full-fits d f.expr_level i.value k fits

        local-fits : (d : ℕ) (l : s.LocalTree) (k : S) → f.FitsLocal g most d l → f.FitsLocal h most d (to.walk_local node l k).0
        local-fits d l k (plain, value) = (plain, optional-walked _ _ (to.walk_initial node) (initial-fits d) l.initial k value)

        simple-fits : (d : ℕ) (i : s.SimpleTree) (k : S) → f.FitsSimple g most d i → f.FitsSimple h most d (to.walk_simple node i k).0
        simple-fits d (s.assign a) k (left, sign, value) =
            (left-fits d a.left k left, sign, full-fits d _ a.value (to.walk_left node a.left k).1 value)
        simple-fits d (s.bump b) k fits = left-fits d b.left k fits
        simple-fits d (s.call_stmt (e.calls n callee arguments)) k fits =
            arguments-fit d arguments (to.walk_callee node callee (node n k).1).1 fits
        simple-fits d (s.proceed at) k (has, opens) = (of_advice has, opens)

        printed-fits : (d : ℕ) (q : s.PrintedTree) (k : S) → f.FitsPrinted g most d q → f.FitsPrinted h most d (to.walk_printed node q k).0
        printed-fits d (s.text q) k fits = tt
        printed-fits d (s.endl at) k fits = tt
        printed-fits d (s.value v) k fits = full-fits d _ v k fits

        start-fits : (d : ℕ) (t : s.StartTree) (k : S) → f.FitsStart g most d t → f.FitsStart h most d (to.walk_start node t k).0
        start-fits d (s.start_local l) k fits = local-fits d l k fits
        start-fits d (s.start_simple i) k fits = simple-fits d i k fits

        mutual
          stmt-fits : (d : ℕ) (t : s.StmtTree) (k : S) → f.FitsStmt g most d t → f.FitsStmt h most d (to.walk_stmt node t k).0
          stmt-fits d (s.block b) k fits = block-fits d b k fits
          stmt-fits d (s.local l) k fits = local-fits d l k fits
          stmt-fits d (s.simple i) k fits = simple-fits d i k fits
          stmt-fits d (s.branch i) k fits = if-fits d i k fits
          stmt-fits d (s.while at condition body) k (head, inner) =
              (condition-fits d condition k head, block-fits d body (to.walk_expr node condition k).1 inner)
          stmt-fits d (s.for at start condition step body) k (head, inner) =
              let k1 = (to.walk_optional (to.walk_start node) start k).1 in
              let k2 = (to.walk_optional (to.walk_expr node) condition k1).1 in
              let k3 = (to.walk_optional (to.walk_simple node) step k2).1 in (
                opens-each d (λ b (begins, tests, steps). (
                  optional-walked _ _ (to.walk_start node) (start-fits b) start k begins,
                  optional-walked _ _ (to.walk_expr node) (full-fits b f.expr_level) condition k1 tests,
                  optional-walked _ _ (to.walk_simple node) (simple-fits b) step k2 steps,
                )) head,
                block-fits d body k3 inner,
              )
          stmt-fits d (s.return at value) k fits = optional-walked _ _ (to.walk_expr node) (full-fits d f.expr_level) value k fits
          stmt-fits d (s.delete at pointer) k fits = full-fits d _ pointer k fits
          stmt-fits d (s.print q) k (some, operands) =
              (some-walked (to.walk_printed node) q.operands k some, each-walked _ _ (to.walk_printed node) (printed-fits d) q.operands k operands)
          stmt-fits d (s.thread t) k fits = arguments-fit d t.arguments (to.walk_ref node t.function k).1 fits
          stmt-fits d (s.abort at) k (has, opens) = (of_woven has, opens)

          stmts-fit : (d : ℕ) (ts : s.StmtTrees) (k : S) → f.FitsStmts g most d ts → f.FitsStmts h most d (to.walk_stmts node ts k).0
          stmts-fit d s.no_stmts k fits = tt
          stmts-fit d (s.more_stmts first rest) k (here, there) =
              (stmt-fits d first k here, stmts-fit d rest (to.walk_stmt node first k).1 there)

          block-fits : (d : ℕ) (b : s.BlockTree) (k : S) → f.FitsBlock g most d b → f.FitsBlock h most d (to.walk_block node b k).0
          block-fits d (s.braces at stmts) k fits = opens-each d (λ b. stmts-fit b stmts k) fits

          if-fits : (d : ℕ) (i : s.IfTree) (k : S) → f.FitsIf g most d i → f.FitsIf h most d (to.walk_if node i k).0
          if-fits d (s.chooses at condition body otherwise) k (head, inner, other) =
              let k1 = (to.walk_expr node condition k).1 in
              let k2 = (to.walk_block node body k1).1 in
              (condition-fits d condition k head, block-fits d body k1 inner, else-fits d otherwise k2 other)

          else-fits : (d : ℕ) (t : s.ElseTree) (k : S) → f.FitsElse g most d t → f.FitsElse h most d (to.walk_else node t k).0
          else-fits d s.no_else k fits = tt
          else-fits d (s.else_if i) k fits = opens-each d (λ b. if-fits b i k) fits
          else-fits d (s.else_block b) k fits = block-fits d b k fits

        -- ---- declarations

        function-fits : (d : ℕ) (q : p.FunctionTree) (k : S) → f.FitsFunction g most d q → f.FitsFunction h most d (to.walk_function node q k).0
        function-fits d q k (plain, params, body) = (plain, params, block-fits d q.body k body)

        init-fits : (d : ℕ) (i : p.InitTree) (k : S) → f.FitsArguments g most d i.arguments → f.FitsArguments h most d (to.walk_init node i k).0.arguments
        init-fits d i k fits = arguments-fit d i.arguments k fits

        member_type-fits : (t : TypeName) → f.IsMemberType g t → f.IsMemberType h t
        member_type-fits (type_of.Num num) fits = tt
        member_type-fits type_of.Int fits = tt
        member_type-fits type_of.Unsigned fits = tt
        member_type-fits type_of.Void fits = tt
        member_type-fits (type_of.Pointer class) fits = tt
        member_type-fits type_of.Mutex fits = of_woven fits

        item-fits : (d : ℕ) (i : p.ItemTree) (k : S) → f.FitsItem g most d i → f.FitsItem h most d (to.walk_item node i k).0
        item-fits d (p.label at access) k fits = tt
        item-fits d (p.member m) k fits = member_type-fits m.type_name.item fits
        item-fits d (p.function q) k fits = function-fits d q k fits
        item-fits d (p.ctor c) k (params, inits, body) =
            (params, each-walked _ _ (to.walk_init node) (init-fits d) c.inits k inits, block-fits d c.body (to.walk_each (to.walk_init node) c.inits k).1 body)
        item-fits d (p.dtor q) k (opens, body) = (opens, block-fits d q.body k body)

        object-fits : (d : ℕ) (ts : e.ExprTrees) (k : S) → f.FitsObjectArguments g most d ts → f.FitsObjectArguments h most d (to.walk_exprs node ts k).0
        object-fits d e.no_exprs k fits = tt
        object-fits d (e.more_exprs first rest) k fits = arguments-fit d (e.more_exprs first rest) k fits

        decl-fits : (d : ℕ) (q : p.DeclTree) (k : S) → f.FitsDecl g most d q → f.FitsDecl h most d (to.walk_decl node q k).0
        decl-fits d (p.class c) k fits = opens-each d (λ b. each-walked _ _ (to.walk_item node) (item-fits b) c.items k) fits
        decl-fits d (p.class_name c) k fits = tt
        decl-fits d (p.free_function q) k fits = function-fits d q k fits
        decl-fits d (p.proto q) k fits = fits
        decl-fits d (p.global (p.variable v)) k fits = fits
        decl-fits d (p.global (p.object o)) k fits = object-fits d o.arguments k fits
        decl-fits d (p.global (p.mutex at n)) k fits = tt

      pub program-fits : (limits : Limits) (q : p.ProgramTree) (k : S) → f.FitsProgram g limits q → f.FitsProgram h limits (to.walk_program node q k).0
      program-fits limits q k fits = each-walked _ _ (to.walk_decl node) (decl-fits limits.operators limits.nesting) q.decls k fits
