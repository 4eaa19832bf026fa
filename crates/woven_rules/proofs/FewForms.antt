-- Where totals are low and texts are short, there are not too many of anything among the forms of statements.
use Rattle.std.proofs.Common.{◌≡◌, refl, ap, ℕ, ◌+◌, ◌<◌, ◌≤◌, arith, Bool, true, false, not, List, [], ◌∷◌, ◌++◌, length, Option, Some, None}
use Rattle.std.specs.Prelude.{nat_lt}
use Rattle.agxx_base.specs.declared.ids.ClassId.{ClassId}
use Rattle.agxx_base.specs.declared.place.Place.{Place}
use Rattle.cxx_tree.specs.declared.node.Node.{Node}
use Rattle.cxx_tree.specs.declared.node.Quoted.{Quoted}
use Rattle.cxx_tree.specs.declared.operator.UnOp.{UnOp}
use Rattle.cxx_tree.specs.declared.operator.UnOp.TheVariants as un
use Rattle.cxx_tree.specs.declared.expr.Callee.{Callee}
use Rattle.cxx_tree.specs.declared.expr.Callee.TheVariants as callee_of
use Rattle.cxx_tree.specs.declared.expr.Left.{Left}
use Rattle.cxx_tree.specs.declared.expr.Left.TheVariants as left_of
use Rattle.cxx_tree.specs.declared.program.Param.{Param}
use Rattle.cxx_tree.specs.Limits.{Every}
use Rattle.cxx_tree.specs.ExprTree as e
use Rattle.cxx_tree.specs.ExprTree.{ExprTree, ExprTrees, CallTree}
use Rattle.cxx_tree.specs.StmtTree as st
use Rattle.cxx_tree.specs.StmtTree.{InitialTree, LocalTree, SimpleTree, PrintedTree, StartTree, ThreadTree, StmtTree, StmtTrees, BlockTree, IfTree, ElseTree}
use Rattle.cxx_names.specs.LookUp.{free_signature}
use Rattle.cxx_types.specs.Counts.{most_bytes}
use Rattle.cxx_types.specs.declared.limits.Counts.{Counts}
use Rattle.cxx_types.specs.Expressions.{count}
use Rattle.cxx_rules.specs.Sites.{Site, object_of}
use Rattle.cxx_rules.specs.Types as typed
use Rattle.cxx_rules.specs.Forms as form
use Rattle.cxx_rules.specs.Forms.{Form}
use Rattle.cxx_rules.specs.StmtForms as f
use Rattle.cxx_rules.specs.TooMany.{limit}
use Rattle.cxx_rules.specs.Unless.{unless}
use Rattle.woven_rules.proofs.Tables.{other-number}
use Rattle.woven_rules.proofs.Counting.{IsFew, AreFew, few-front, few-back, IsLow}

-- ---- texts are short

abbrev pub IsShort : Quoted → Type 0
IsShort q = unless (not (nat_lt most_bytes (length q.bytes))) q.at ≡ None

abbrev pub ShortPrinted : PrintedTree → Type 0
ShortPrinted (st.text q) = IsShort q
ShortPrinted (st.endl at) = Unit {0}
ShortPrinted (st.value x) = Unit {0}

abbrev mutual
  pub ShortStmt : StmtTree → Type 0
  ShortStmt (st.block b) = ShortBlock b
  ShortStmt (st.local l) = Unit {0}
  ShortStmt (st.simple i) = Unit {0}
  ShortStmt (st.branch i) = ShortIf i
  ShortStmt (st.while at x body) = ShortBlock body
  ShortStmt (st.for at first x i body) = ShortBlock body
  ShortStmt (st.return at x) = Unit {0}
  ShortStmt (st.delete at x) = Unit {0}
  ShortStmt (st.print q) = Every ShortPrinted q.operands
  ShortStmt (st.thread k) = Unit {0}
  ShortStmt (st.abort at) = Unit {0}

  pub ShortStmts : StmtTrees → Type 0
  ShortStmts st.no_stmts = Unit {0}
  ShortStmts (st.more_stmts first rest) = ShortStmt first × ShortStmts rest

  pub ShortBlock : BlockTree → Type 0
  ShortBlock (st.braces at ts) = ShortStmts ts

  pub ShortIf : IfTree → Type 0
  ShortIf (st.chooses at x body otherwise) = ShortBlock body × ShortElse otherwise

  pub ShortElse : ElseTree → Type 0
  ShortElse st.no_else = Unit {0}
  ShortElse (st.else_if i) = ShortIf i
  ShortElse (st.else_block b) = ShortBlock b

module _ (m : Counts) where
  pub few-both : (fs others : List Form) → AreFew m fs → AreFew m others → AreFew m (fs ++ others)
  few-both [] others first rest = rest
  few-both (x ∷ fs) others first rest = (first.0, few-both fs others first.1 rest)

  pub counted-few : (kind : form.Kind) (k : ℕ) (at : Place) → k < limit m kind → IsFew m (form.counted kind k at)
  counted-few kind k at low =
      ap (λ b. unless (not b) at) (other-number k (limit m kind) (λ same. absurd (omega arith)))

  -- ---- nothing is counted in expressions

  few-left : (w : Site) (x : Left) → AreFew m (form.forms_of_left w x)
  few-left w (left_of.Name r) = (refl, tt)
  few-left w (left_of.Member n q) = (refl, (refl, tt))
  few-left w (left_of.Result n) = tt

  few-callee : (w : Site) (n : Node) (x : Callee) (k : ℕ) (as_value : Bool)
      → AreFew m (form.forms_of_callee w n x k as_value)
  few-callee w n (callee_of.Bare r) k as_value = (refl, tt)
  few-callee w n (callee_of.Member q) k as_value = (refl, (refl, tt))

  few-unless : (o : Option (Option ClassId)) (fs : List Form) → AreFew m fs → AreFew m (form.unless_object o fs)
  few-unless None fs few = few
  few-unless (Some class) fs few = tt

  few-unary : (w : Site) (n : Node) (o : UnOp) (x : ExprTree) → AreFew m (form.forms_of w x)
      → AreFew m (form.forms_of w (e.unary n o x))
  few-unary w n un.AddressOf x few = (refl, few-unless (object_of w x) (form.forms_of w x) few)
  few-unary w n un.Negate x few = few-both (form.forms_of w x) _ few (refl, tt)
  few-unary w n un.Not x few = few-both (form.forms_of w x) _ few (refl, tt)
  few-unary w n un.Complement x few = few-both (form.forms_of w x) _ few (refl, tt)

  mutual
    pub few-expr : (w : Site) (x : ExprTree) → AreFew m (form.forms_of w x)
    few-expr w (e.lit n number) = tt
    few-expr w (e.flag n is_set) = tt
    few-expr w (e.null n) = tt
    few-expr w (e.this n) = (refl, tt)
    few-expr w (e.left x) = few-left w x
    few-expr w (e.unary n o x) = few-unary w n o x (few-expr w x)
    few-expr w (e.binary n o a b) =
        few-both (form.forms_of w a) _ (few-expr w a) (few-both (form.forms_of w b) _ (few-expr w b) (refl, tt))
    few-expr w (e.paren n x) = few-expr w x
    few-expr w (e.cast n t x) = few-both (form.forms_of w x) _ (few-expr w x) (refl, tt)
    few-expr w (e.call k) = few-call w true k
    few-expr w (e.new n class) = (refl, tt)
    few-expr w (e.new_with n class arguments) =
        (refl, few-arguments w (typed.creatable w class (count arguments)).params arguments)

    pub few-arguments : (w : Site) (ps : List Param) (xs : ExprTrees) → AreFew m (form.forms_of_arguments w ps xs)
    few-arguments w ps e.no_exprs = tt
    few-arguments w [] (e.more_exprs first rest) =
        few-both (form.forms_of w first) _ (few-expr w first) (few-arguments w [] rest)
    few-arguments w (p ∷ ps) (e.more_exprs first rest) =
        few-both (form.forms_of w first) _ (few-expr w first) (refl, few-arguments w ps rest)

    pub few-call : (w : Site) (as_value : Bool) (x : CallTree) → AreFew m (form.forms_of_call w as_value x)
    few-call w as_value (e.calls n callee arguments) =
        few-both (form.forms_of_callee w n callee (count arguments) as_value) _
        (few-callee w n callee (count arguments) as_value)
        (few-arguments w (typed.callable w callee (count arguments)).params arguments)

  few-optional : (w : Site) (o : Option ExprTree) → AreFew m (f.forms_of_optional (form.forms_of w) o)
  few-optional w None = tt
  few-optional w (Some x) = few-expr w x

  -- ---- statements

  few-initial : (w : Site) (t : _) (o : Option InitialTree)
      → AreFew m (f.forms_of_optional (f.forms_of_initial w t) o)
  few-initial w t None = tt
  few-initial w t (Some i) = few-both (form.forms_of w i.value) _ (few-expr w i.value) (refl, tt)

  few-local : (w : Site) (l : LocalTree) → w.locals < m.locals → AreFew m (f.forms_of_local w l)
  few-local w l low = (
    refl,
    few-both (f.forms_of_optional (f.forms_of_initial w l.type_name.item) l.initial) _
        (few-initial w l.type_name.item l.initial)
        (refl, (refl, (counted-few form.locals w.locals l.name.at low, tt))),
  )

  few-simple : (w : Site) (i : SimpleTree) → AreFew m (f.forms_of_simple w i)
  few-simple w (st.assign a) =
      few-both (form.forms_of_left w a.left) _ (few-left w a.left)
      (few-both (form.forms_of w a.value) _ (few-expr w a.value) (refl, tt))
  few-simple w (st.bump b) = few-both (form.forms_of_left w b.left) _ (few-left w b.left) (refl, tt)
  few-simple w (st.call_stmt k) = few-call w false k
  few-simple w (st.proceed at) = tt

  few-start : (w : Site) (o : Option StartTree) → w.locals + f.locals_in_start o ≤ m.locals
      → AreFew m (f.forms_of_optional (f.forms_of_start w) o)
  few-start w None low = tt
  few-start w (Some (st.start_local l)) low = few-local w l (omega arith)
  few-start w (Some (st.start_simple i)) low = few-simple w i

  few-step : (w : Site) (o : Option SimpleTree) → AreFew m (f.forms_of_optional (f.forms_of_simple w) o)
  few-step w None = tt
  few-step w (Some i) = few-simple w i

  few-print : (w : Site) (xs : List PrintedTree) → Every ShortPrinted xs → AreFew m (f.forms_of_print w xs)
  few-print w [] short = tt
  few-print w (st.text q ∷ xs) short = (short.0, few-print w xs short.1)
  few-print w (st.endl at ∷ xs) short = few-print w xs short.1
  few-print w (st.value x ∷ xs) short =
      few-both (form.forms_of w x ++ form.printed w x ∷ []) _
      (few-both (form.forms_of w x) _ (few-expr w x) (refl, tt)) (few-print w xs short.1)

  few-thread : (w : Site) (outermost : Bool) (k : ThreadTree) → w.locals < m.locals
      → AreFew m (f.forms_of_thread w outermost k)
  few-thread w outermost k low = (
    refl,
    (
      refl,
      (
        refl,
        few-both (form.forms_of_arguments w (f.params_of (free_signature w.declared k.function.name.item.0))
            k.arguments) _
            (few-arguments w (f.params_of (free_signature w.declared k.function.name.item.0)) k.arguments)
            (refl, (refl, (counted-few form.locals w.locals k.name.at low, tt))),
      ),
    ),
  )

  mutual
    pub few-stmt : (w : Site) (outermost : Bool) (t : StmtTree) → IsLow m w (f.locals_in t) (f.returns_in t)
        → ShortStmt t → AreFew m (f.forms_of_stmt w outermost t)
    few-stmt w outermost (st.block b) low short = few-block w b low short
    few-stmt w outermost (st.local l) low short = few-local w l (let a = low.0 in omega arith)
    few-stmt w outermost (st.simple i) low short = few-simple w i
    few-stmt w outermost (st.branch i) low short = few-if w i low short
    few-stmt w outermost (st.while at x body) low short =
        few-both (form.forms_of w x) _ (few-expr w x) (few-block w body low short)
    few-stmt w outermost (st.for at first x i body) low short =
        let inner = f.behind_start w first in
        few-both (f.forms_of_optional (f.forms_of_start w) first) _ (few-start w first (let a = low.0 in omega arith))
        (few-both (f.forms_of_optional (form.forms_of inner) x) _ (few-optional inner x)
        (few-both (f.forms_of_optional (f.forms_of_simple inner) i) _ (few-step inner i)
        (few-block inner body (let a = low.0 in (omega arith, low.1)) short)))
    few-stmt w outermost (st.return at x) low short =
        few-both (f.forms_of_optional (form.forms_of w) x) _ (few-optional w x)
        (refl, (counted-few form.returns w.returns at (let a = low.1 in omega arith), tt))
    few-stmt w outermost (st.delete at x) low short = few-both (form.forms_of w x) _ (few-expr w x) (refl, tt)
    few-stmt w outermost (st.print q) low short = few-print w q.operands short
    few-stmt w outermost (st.thread k) low short = few-thread w outermost k (let a = low.0 in omega arith)
    few-stmt w outermost (st.abort at) low short = tt

    pub few-stmts : (w : Site) (outermost : Bool) (ts : StmtTrees)
        → IsLow m w (f.locals_in_stmts ts) (f.returns_in_stmts ts) → ShortStmts ts
        → AreFew m (f.forms_of_stmts w outermost ts)
    few-stmts w outermost st.no_stmts low short = tt
    few-stmts w outermost (st.more_stmts first rest) low short =
        let a = low.0 in
        let b = low.1 in
        few-both (f.forms_of_stmt w outermost first) _ (few-stmt w outermost first (omega arith, omega arith) short.0)
        (few-stmts (f.behind w first) outermost rest (omega arith, omega arith) short.1)

    few-block : (w : Site) (b : BlockTree) → IsLow m w (f.locals_in_block b) (f.returns_in_block b) → ShortBlock b
        → AreFew m (f.forms_of_block w b)
    few-block w (st.braces at ts) low short = few-stmts w false ts low short

    few-if : (w : Site) (i : IfTree) → IsLow m w (f.locals_in_if i) (f.returns_in_if i) → ShortIf i
        → AreFew m (f.forms_of_if w i)
    few-if w (st.chooses at x body otherwise) low short =
        let a = low.0 in
        let b = low.1 in
        few-both (form.forms_of w x) _ (few-expr w x)
        (few-both (f.forms_of_block w body) _ (few-block w body (omega arith, omega arith) short.0)
        (few-else (f.further w (f.locals_in_block body) (f.returns_in_block body)) otherwise
        (omega arith, omega arith) short.1))

    few-else : (w : Site) (x : ElseTree) → IsLow m w (f.locals_in_else x) (f.returns_in_else x) → ShortElse x
        → AreFew m (f.forms_of_else w x)
    few-else w st.no_else low short = tt
    few-else w (st.else_if i) low short = few-if w i low short
    few-else w (st.else_block b) low short = few-block w b low short

  pub few-body : (w : Site) (b : BlockTree) → IsLow m w (f.locals_in_block b) (f.returns_in_block b) → ShortBlock b
      → AreFew m (f.forms_of_body w b)
  few-body w (st.braces at ts) low short = few-stmts w true ts low short

  -- ---- and so texts are short where there are not too many of anything

  short-print : (w : Site) (xs : List PrintedTree) → AreFew m (f.forms_of_print w xs) → Every ShortPrinted xs
  short-print w [] few = tt
  short-print w (st.text q ∷ xs) few = (few.0, short-print w xs few.1)
  short-print w (st.endl at ∷ xs) few = (tt, short-print w xs few)
  short-print w (st.value x ∷ xs) few =
      (tt, short-print w xs (few-back m (form.forms_of w x ++ form.printed w x ∷ []) _ few))

  mutual
    short-stmt : (w : Site) (outermost : Bool) (t : StmtTree) → AreFew m (f.forms_of_stmt w outermost t) → ShortStmt t
    short-stmt w outermost (st.block b) few = short-block w b few
    short-stmt w outermost (st.local l) few = tt
    short-stmt w outermost (st.simple i) few = tt
    short-stmt w outermost (st.branch i) few = short-if w i few
    short-stmt w outermost (st.while at x body) few = short-block w body (few-back m (form.forms_of w x) _ few)
    short-stmt w outermost (st.for at first x i body) few =
        let inner = f.behind_start w first in
        short-block inner body (few-back m (f.forms_of_optional (f.forms_of_simple inner) i) _
        (few-back m (f.forms_of_optional (form.forms_of inner) x) _
        (few-back m (f.forms_of_optional (f.forms_of_start w) first) _ few)))
    short-stmt w outermost (st.return at x) few = tt
    short-stmt w outermost (st.delete at x) few = tt
    short-stmt w outermost (st.print q) few = short-print w q.operands few
    short-stmt w outermost (st.thread k) few = tt
    short-stmt w outermost (st.abort at) few = tt

    short-stmts : (w : Site) (outermost : Bool) (ts : StmtTrees) → AreFew m (f.forms_of_stmts w outermost ts)
        → ShortStmts ts
    short-stmts w outermost st.no_stmts few = tt
    short-stmts w outermost (st.more_stmts first rest) few = (
      short-stmt w outermost first (few-front m (f.forms_of_stmt w outermost first) _ few),
      short-stmts
          (f.behind w first) outermost rest (few-back m (f.forms_of_stmt w outermost first) _ few),
    )

    short-block : (w : Site) (b : BlockTree) → AreFew m (f.forms_of_block w b) → ShortBlock b
    short-block w (st.braces at ts) few = short-stmts w false ts few

    short-if : (w : Site) (i : IfTree) → AreFew m (f.forms_of_if w i) → ShortIf i
    short-if w (st.chooses at x body otherwise) few =
        let rest = few-back m (form.forms_of w x) _ few in (
          short-block w body (few-front m (f.forms_of_block w body) _ rest),
          short-else
              (f.further w (f.locals_in_block body) (f.returns_in_block body)) otherwise
              (few-back m (f.forms_of_block w body) _ rest),
        )

    short-else : (w : Site) (x : ElseTree) → AreFew m (f.forms_of_else w x) → ShortElse x
    short-else w st.no_else few = tt
    short-else w (st.else_if i) few = short-if w i few
    short-else w (st.else_block b) few = short-block w b few

  pub short-body : (w : Site) (b : BlockTree) → AreFew m (f.forms_of_body w b) → ShortBlock b
  short-body w (st.braces at ts) few = short-stmts w true ts few
