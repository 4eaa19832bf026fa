-- Wrapped bodies leave parts before each exit.
use Rattle.std.proofs.Common.{◌≡◌, inl, inr, ℕ, suc, ◌+◌, refl, sym, ap, subst, ◌∙◌, Bool, true, false, if◌then◌else◌, List, [], ◌∷◌, ◌++◌, map, reverse, Option, Some, None}
use Rattle.std.proofs.lemmas.List.{append-nil}
use Rattle.agxx_base.specs.declared.ids.NameId.{NameId}
use Rattle.agxx_base.specs.declared.place.Place.{Place}
use Rattle.cxx_tree.specs.declared.node.Placed.{Placed}
use Rattle.cxx_tree.specs.declared.expr.Callee.{Callee}
use Rattle.cxx_tree.specs.declared.expr.Callee.TheVariants as callee_of
use Rattle.cxx_tree.specs.declared.program.TypeName.{TypeName}
use Rattle.cxx_tree.specs.Limits.{Every}
use Rattle.cxx_tree.specs.ExprTree as e
use Rattle.cxx_tree.specs.ExprTree.{ExprTree, ExprTrees, CallTree}
use Rattle.cxx_tree.specs.Fits.{Optionally}
use Rattle.cxx_tree.specs.StmtTree as s
use Rattle.cxx_tree.specs.StmtTree.{InitialTree, LocalTree, SimpleTree, PrintedTree, StartTree, StmtTree, StmtTrees, BlockTree, IfTree, ElseTree, listed_stmts}
use Rattle.cxx_distinct.specs.NamesIn as n
use Rattle.cxx_normal.specs.Entry.{is_return, ends_with_return}
use Rattle.cxx_make.specs.Made as made
use Rattle.entry_count.specs.PartCode.{enter, leave}
use Rattle.entry_count.specs.Wrapping as w
use Rattle.protect_laws.proofs.Shapes.{calls, entering-is, leaving-is, returning-is, end-is, value_local}
use Rattle.protect_laws.specs.Exits.{IsApart, callee_name, ExprIsApart, ExprsAreApart, CallIsApart, LocalIsApart, SimpleIsApart, StartIsApart, PrintedIsApart, Begins, PassesEach, PassesBlock, PassesIf, PassesElse, Ends, ExitsComeAfterLeaves}

-- ---- lists of statements

pub front-of : {A : Type 0} (Holds : A → Type 0) (xs ys : List A) → Every Holds (xs ++ ys) → Every Holds xs
front-of Holds [] ys all = tt
front-of Holds (x ∷ xs) ys all = (all.0, front-of Holds xs ys all.1)

pub back-of : {A : Type 0} (Holds : A → Type 0) (xs ys : List A) → Every Holds (xs ++ ys) → Every Holds ys
back-of Holds [] ys all = all
back-of Holds (x ∷ xs) ys all = back-of Holds xs ys all.1

module _ (special leaves : List NameId) where
  pass-append : (xs ys : List StmtTree) (owed between next : List NameId)
      → PassesEach special leaves owed (listed_stmts xs) between
      → PassesEach special leaves between (listed_stmts ys) next
      → PassesEach special leaves owed (listed_stmts (xs ++ ys)) next
  pass-append [] ys owed between next one other =
      subst (λ o. PassesEach special leaves o (listed_stmts ys) next) (sym one) other
  pass-append (x ∷ xs) ys owed between next one other = (one.0, one.1, pass-append xs ys one.0 between next one.2 other)

  -- the leaves themselves
  pass-leaves : (of : NameId → NameId) (at : Place) (classes : List NameId)
      → PassesEach special leaves (map of classes) (listed_stmts (map (λ class. made.call at (of class)) classes)) []
  pass-leaves of at [] = refl
  pass-leaves of at (class ∷ classes) = (map of classes, inr (of class, refl, (at, refl)), pass-leaves of at classes)

-- ---- what stands before exits

module _ (special : List NameId) where
  abbrev Apart : List (Placed NameId) → Type 0
  Apart ns = Every (λ (x : Placed NameId). IsApart special x.item) ns

  abbrev Holds : Placed NameId → Type 0
  Holds x = IsApart special x.item

  callee-apart : (callee : Callee) → Apart (n.names_in_callee callee) → IsApart special (callee_name callee)
  callee-apart (callee_of.Bare r) apart = apart.0
  callee-apart (callee_of.Member q) apart = (back-of Holds (n.names_in_base q.base) _ apart).0

  mutual
    expr-apart : (x : ExprTree) → Apart (n.names_in_expr x) → ExprIsApart special x
    expr-apart (e.lit node value) apart = tt
    expr-apart (e.flag node is_set) apart = tt
    expr-apart (e.null node) apart = tt
    expr-apart (e.this node) apart = tt
    expr-apart (e.left l) apart = tt
    expr-apart (e.unary node o operand) apart = expr-apart operand apart
    expr-apart (e.binary node o a b) apart = (
      expr-apart a (front-of Holds (n.names_in_expr a) _ apart),
      expr-apart b
          (back-of Holds (n.names_in_expr a) _ apart),
    )
    expr-apart (e.paren node inner) apart = expr-apart inner apart
    expr-apart (e.cast node type_name operand) apart = expr-apart operand apart
    expr-apart (e.call c) apart = call-apart c apart
    expr-apart (e.new node class) apart = tt
    expr-apart (e.new_with node class arguments) apart = exprs-apart arguments apart.1

    exprs-apart : (xs : ExprTrees) → Apart (n.names_in_exprs xs) → ExprsAreApart special xs
    exprs-apart e.no_exprs apart = tt
    exprs-apart (e.more_exprs first rest) apart = (
      expr-apart first (front-of Holds (n.names_in_expr first) _ apart),
      exprs-apart rest
          (back-of Holds (n.names_in_expr first) _ apart),
    )

    call-apart : (c : CallTree) → Apart (n.names_in_call c) → CallIsApart special c
    call-apart (e.calls node callee arguments) apart = (
      callee-apart callee (front-of Holds (n.names_in_callee callee) _ apart),
      exprs-apart arguments
          (back-of Holds (n.names_in_callee callee) _ apart),
    )

  optional-apart : {A : Type 0} (names_in : A → List (Placed NameId)) (IsOther : A → Type 0)
      → ((x : A) → Apart (names_in x) → IsOther x)
      → (o : Option A) → Apart (n.names_in_optional names_in o) → Optionally IsOther o
  optional-apart names_in IsOther one None apart = tt
  optional-apart names_in IsOther one (Some x) apart = one x apart

  initial-apart : (i : InitialTree) → Apart (n.names_in_initial i) → ExprIsApart special i.value
  initial-apart i apart = expr-apart i.value apart

  local-apart : (l : LocalTree) → Apart (n.names_in_local l) → LocalIsApart special l
  local-apart l apart =
      optional-apart n.names_in_initial (λ (i : InitialTree). ExprIsApart special i.value) initial-apart l.initial
      (back-of Holds (n.names_in_type l.type_name) _ apart).1

  simple-apart : (i : SimpleTree) → Apart (n.names_in_simple i) → SimpleIsApart special i
  simple-apart (s.assign a) apart = expr-apart a.value (back-of Holds (n.names_in_left a.left) _ apart)
  simple-apart (s.bump b) apart = tt
  simple-apart (s.call_stmt c) apart = call-apart c apart
  simple-apart (s.proceed at) apart = tt

  start-apart : (x : StartTree) → Apart (n.names_in_start x) → StartIsApart special x
  start-apart (s.start_local l) apart = local-apart l apart
  start-apart (s.start_simple i) apart = simple-apart i apart

  printed-apart : (xs : List PrintedTree) → Apart (n.names_in_each n.names_in_printed xs)
      → Every (PrintedIsApart special) xs
  printed-apart [] apart = tt
  printed-apart (s.text q ∷ xs) apart = (tt, printed-apart xs apart)
  printed-apart (s.endl at ∷ xs) apart = (tt, printed-apart xs apart)
  printed-apart (s.value v ∷ xs) apart = (
    expr-apart v (front-of Holds (n.names_in_expr v) _ apart),
    printed-apart xs
        (back-of Holds (n.names_in_expr v) _ apart),
  )

module _ (names : List (List ℕ)) (result : TypeName) (parts special : List NameId) where
  abbrev leaves : List NameId
  leaves = map (leave names) (reverse parts)

  abbrev Passing : List StmtTree → Type 0
  Passing stmts = PassesEach special leaves leaves (listed_stmts stmts) leaves

  exit : (at : Place) (value : Option ExprTree) → Optionally (ExprIsApart special) value
      → Passing (calls (leave names) at (reverse parts) ++ s.return at value ∷ [])
  exit at value apart =
      pass-append special leaves (calls (leave names) at (reverse parts)) (s.return at value ∷ []) leaves [] leaves
      (pass-leaves special leaves (leave names) at (reverse parts)) (leaves, (refl, refl, apart), refl)

  mutual
    stmt-passes : (k : ℕ) (t : StmtTree) → Apart special (n.names_in_stmt t)
        → Passing (w.wrapped names result parts k t)
    stmt-passes k (s.block b) apart = (leaves, ((refl, refl), block-passes k b apart), refl)
    stmt-passes k (s.local l) apart = (leaves, ((refl, refl), local-apart special l apart), refl)
    stmt-passes k (s.simple i) apart = (leaves, inl ((refl, refl), simple-apart special i apart), refl)
    stmt-passes k (s.branch i) apart = (leaves, ((refl, refl), if-passes k i apart), refl)
    stmt-passes k (s.while at condition body) apart =
        let head = expr-apart special condition (front-of (Holds special) (n.names_in_expr condition) _ apart) in (
          leaves,
          (
            (refl, refl),
            head,
            block-passes k body
                (back-of (Holds special) (n.names_in_expr condition) _ apart),
          ),
          refl,
        )
    stmt-passes k (s.for at start condition step body) apart =
        let of_start = n.names_in_optional n.names_in_start start in
        let of_condition = n.names_in_optional n.names_in_expr condition in
        let of_step = n.names_in_optional n.names_in_simple step in
        let first = back-of (Holds special) of_start _ apart in
        let second = back-of (Holds special) of_condition _ first in
        let starts = optional-apart special n.names_in_start (StartIsApart special) (start-apart special) start
        (front-of (Holds special) of_start _ apart) in
        let tests = optional-apart special n.names_in_expr (ExprIsApart special) (expr-apart special) condition
        (front-of (Holds special) of_condition _ first) in
        let steps = optional-apart special n.names_in_simple (SimpleIsApart special) (simple-apart special) step
        (front-of (Holds special) of_step _ second) in (
          leaves,
          ((refl, refl), starts, tests, steps, block-passes k body (back-of (Holds special) of_step _ second)),
          refl,
        )
    stmt-passes k (s.return at None) apart =
        subst (λ xs. Passing (xs ++ s.return at None ∷ [])) (sym (leaving-is names parts at)) (exit at None tt)
    stmt-passes k (s.return at (Some value)) apart =
        subst Passing (sym (returning-is names parts result at (suc k) value)) (
          leaves,
          ((refl, refl), expr-apart special value apart),
          exit at
              (Some (made.variable at (value_local names (suc k)))) tt,
        )
    stmt-passes k (s.delete at pointer) apart = (leaves, ((refl, refl), expr-apart special pointer apart), refl)
    stmt-passes k (s.print q) apart = (leaves, ((refl, refl), printed-apart special q.operands apart), refl)
    stmt-passes k (s.thread t) apart =
        (leaves, ((refl, refl), (apart.1.0, exprs-apart special t.arguments apart.1.1)), refl)
    stmt-passes k (s.abort at) apart = (leaves, (refl, refl), refl)

    stmts-pass : (k : ℕ) (ts : StmtTrees) → Apart special (n.names_in_stmts ts)
        → Passing (w.wrapped_stmts names result parts k ts)
    stmts-pass k s.no_stmts apart = refl
    stmts-pass k (s.more_stmts first rest) apart =
        pass-append special leaves (w.wrapped names result parts k first)
        (w.wrapped_stmts names result parts (k + w.returns_in first) rest) leaves leaves leaves
        (stmt-passes k first (front-of (Holds special) (n.names_in_stmt first) _ apart))
        (stmts-pass (k + w.returns_in first) rest (back-of (Holds special) (n.names_in_stmt first) _ apart))

    block-passes : (k : ℕ) (b : BlockTree) → Apart special (n.names_in_block b)
        → PassesBlock special leaves (w.wrapped_block names result parts k b)
    block-passes k (s.braces at ts) apart = stmts-pass k ts apart

    if-passes : (k : ℕ) (i : IfTree) → Apart special (n.names_in_if i)
        → PassesIf special leaves (w.wrapped_if names result parts k i)
    if-passes k (s.chooses at condition body otherwise) apart =
        let first = back-of (Holds special) (n.names_in_expr condition) _ apart in
        let head = expr-apart special condition (front-of (Holds special) (n.names_in_expr condition) _ apart) in (
          head,
          block-passes k body (front-of (Holds special) (n.names_in_block body) _ first),
          else-passes
              (k + w.returns_in_block body) otherwise (back-of (Holds special) (n.names_in_block body) _ first),
        )

    else-passes : (k : ℕ) (x : ElseTree) → Apart special (n.names_in_else x)
        → PassesElse special leaves (w.wrapped_else names result parts k x)
    else-passes k s.no_else apart = tt
    else-passes k (s.else_if i) apart = if-passes k i apart
    else-passes k (s.else_block b) apart = block-passes k b apart

-- ---- where a body ends

-- whether the last of statements that are put behind others is a `return`
ends-append : (xs ys : List StmtTree) (before : Bool) → ends_with_return before (listed_stmts (xs ++ ys))
    ≡ ends_with_return (ends_with_return before (listed_stmts xs)) (listed_stmts ys)
ends-append [] ys before = refl
ends-append (x ∷ xs) ys before = ends-append xs ys (is_return x)

begins : (of : NameId → NameId) (at : Place) (classes : List NameId) (rest : List StmtTree)
    → Begins (map of classes) (listed_stmts (map (λ class. made.call at (of class)) classes ++ rest))
    (listed_stmts rest)
begins of at [] rest = refl
begins of at (class ∷ classes) rest = ((at, refl), begins of at classes rest)

calls-end : (of : NameId → NameId) (at : Place) (classes : List NameId)
    → ends_with_return false (listed_stmts (map (λ class. made.call at (of class)) classes)) ≡ false
calls-end of at [] = refl
calls-end of at (class ∷ classes) = calls-end of at classes

module _ (names : List (List ℕ)) (result : TypeName) (parts : List NameId) where
  exit-ends : (at : Place) (value : Option ExprTree) (before : Bool)
      → ends_with_return before (listed_stmts (calls (leave names) at (reverse parts) ++ s.return at value ∷ [])) ≡ true
  exit-ends at value before = ends-append (calls (leave names) at (reverse parts)) (s.return at value ∷ []) before

  stmt-ends : (k : ℕ) (t : StmtTree) (before : Bool) → ends_with_return before
      (listed_stmts (w.wrapped names result parts k t)) ≡ is_return t
  stmt-ends k (s.block b) before = refl
  stmt-ends k (s.local l) before = refl
  stmt-ends k (s.simple i) before = refl
  stmt-ends k (s.branch i) before = refl
  stmt-ends k (s.while at condition body) before = refl
  stmt-ends k (s.for at start condition step body) before = refl
  stmt-ends k (s.return at None) before =
      ap (λ xs. ends_with_return before (listed_stmts (xs ++ s.return at None ∷ []))) (leaving-is names parts at)
      ∙ exit-ends at None before
  stmt-ends k (s.return at (Some value)) before =
      ap (λ xs. ends_with_return before (listed_stmts xs)) (returning-is names parts result at (suc k) value)
      ∙ exit-ends at (Some (made.variable at (value_local names (suc k)))) false
  stmt-ends k (s.delete at pointer) before = refl
  stmt-ends k (s.print q) before = refl
  stmt-ends k (s.thread t) before = refl
  stmt-ends k (s.abort at) before = refl

  stmts-end : (k : ℕ) (ts : StmtTrees) (before : Bool) → ends_with_return before
      (listed_stmts (w.wrapped_stmts names result parts k ts)) ≡ ends_with_return before ts
  stmts-end k s.no_stmts before = refl
  stmts-end k (s.more_stmts first rest) before =
      ends-append (w.wrapped names result parts k first)
      (w.wrapped_stmts names result parts (k + w.returns_in first) rest) before
      ∙ ap (λ b. ends_with_return b (listed_stmts (w.wrapped_stmts names result parts (k + w.returns_in first) rest)))
      (stmt-ends k first before) ∙ stmts-end (k + w.returns_in first) rest (is_return first)

  module _ (special : List NameId) (at : Place) (ts : StmtTrees)
      (passes : Passing names result parts special (w.wrapped_stmts names result parts 0 ts)) where
    ends-by : (b : Bool) → ends_with_return false ts ≡ b
        → Ends special (map (leave names) (reverse parts))
        (listed_stmts (w.wrapped_stmts names result parts 0 ts
        ++ (if b then [] else calls (leave names) at (reverse parts))))
    ends-by true is =
        let all = w.wrapped_stmts names result parts 0 ts in
        let none : all ++ [] ≡ all = append-nil all in
        inr (
          subst (λ xs. PassesEach special (map (leave names) (reverse parts)) (map (leave names) (reverse parts))
              (listed_stmts xs) (map (leave names) (reverse parts))) (sym none) passes,
          ends-append all [] false
              ∙ stmts-end 0 ts false ∙ is,
        )
    ends-by false is =
        let all = w.wrapped_stmts names result parts 0 ts in
        let at_exit = calls (leave names) at (reverse parts) in
        let of_leaves = map (leave names) (reverse parts) in
        inl (
          pass-append special of_leaves all at_exit of_leaves of_leaves [] passes
              (pass-leaves special of_leaves (leave names) at (reverse parts)),
          ends-append all at_exit false
              ∙ ap (λ b. ends_with_return b (listed_stmts at_exit)) (stmts-end 0 ts false ∙ is)
              ∙ calls-end (leave names) at (reverse parts),
        )

pub exits-come-after-leaves : ExitsComeAfterLeaves
exits-come-after-leaves names result class classes (s.braces at ts) apart =
    let parts = class ∷ classes in
    let special = map (enter names) parts ++ map (leave names) (reverse parts) in
    let inner = w.wrapped_stmts names result parts 0 ts ++ w.at_end names result parts at ts in
    let ends = ends-by names result parts special at ts (stmts-pass names result parts special 0 ts apart)
    (ends_with_return false ts) refl in
    let end : Ends special (map (leave names) (reverse parts)) (listed_stmts inner) =
    subst (λ xs. Ends special (map (leave names) (reverse parts))
    (listed_stmts (w.wrapped_stmts names result parts 0 ts ++ xs))) (sym (end-is names parts result at ts)) ends in
    let begun : Begins (map (enter names) parts) (listed_stmts (w.entering names parts at ++ inner))
    (listed_stmts inner) = subst (λ xs. Begins (map (enter names) parts) (listed_stmts (xs ++ inner))
    (listed_stmts inner)) (sym (entering-is names parts at)) (begins (enter names) at parts inner) in
    (listed_stmts inner, begun, end)
