-- Loops that put one part behind another, where what is made and what the rest gives is the whole.
use Rattle.std.proofs.Common.{◌≡◌, ℕ, suc, ◌+◌, ◌<◌, ◌≤◌, refl, ap, sym, ◌∙◌, true, false, List, [], ◌∷◌, ◌++◌, map, length, drop, get_or, add-one, Option}
use Rattle.std.proofs.Math.Seq.{drop-cons}
use Rattle.std.proofs.lemmas.List.{drop_all}
use Rattle.agxx_base.specs.declared.ids.NameId.{NameId}
use Rattle.cxx_tree.specs.declared.node.Placed.{Placed}
use Rattle.cxx_tree.specs.declared.expr.Expr as tree_expr
use Rattle.cxx_tree.specs.declared.program.Init.{Init}
use Rattle.cxx_tree.specs.declared.stmt.Stmt as tree_stmt
use Rattle.cxx_tree.specs.ExprTree.{expr_tree, exprs_tree}
use Rattle.cxx_tree.specs.StmtTree.{stmt_tree, stmts_tree}
use Rattle.cxx_tree.specs.ProgramTree.{init_tree}
use Rattle.cxx_core.specs.declared.expr.Expr.{Expr}
use Rattle.cxx_core.specs.declared.stmt.Stmt.{Stmt}
use Rattle.cxx_core.specs.CoreExpr.{CoreExpr, CoreExprs, no_exprs, more_exprs}
use Rattle.cxx_core.specs.CoreStmt.{CoreStmt, CoreStmts, no_stmts, more_stmts, wrong}
use Rattle.cxx_core.specs.ExprView.{listed_exprs, expr_core, exprs_core}
use Rattle.cxx_core.specs.StmtView.{listed_stmts, stmt_core, stmts_core}
use Rattle.cxx_core.specs.Meanings.{Scope, Within}
use Rattle.cxx_core.specs.ElaboratedExpr.{core_expr, core_exprs}
use Rattle.cxx_core.specs.ElaboratedStmt.{core_stmt, core_stmts, scope_after}
use Rattle.cxx_core.specs.ElaboratedProgram.{is_named, others_wrong}

-- the item of a turn stands before what is left
pub at-turn : {U : Type 0} (xs : List U) (i : ℕ) (x : U) → i < length xs → x ≡ get_or xs i x → drop i xs ≡ x ∷ drop (i + 1) xs
at-turn xs i x inside at = rw add-one (drop-cons xs i x inside ∙ ap (λ y. y ∷ drop (suc i) xs) (sym at))

module _ {A R : Type 0} (put : A → R → R) where
  -- parts before others
  abbrev pub onto : List A → R → R
  onto [] rest = rest
  onto (first ∷ more) rest = put first (onto more rest)

  module _ {T : Type 0} (view : T → A) where
    onto-push : (made : List T) (x : T) (rest : R) → onto (map view (made ++ x ∷ [])) rest ≡ onto (map view made) (put (view x) rest)
    onto-push [] x rest = refl
    onto-push (first ∷ more) x rest = ap (put (view first)) (onto-push more x rest)

    pub onto-turn : (made new : List T) (x : T) (before rest whole : R) → onto (map view made) before ≡ whole → new ≡ made ++ x ∷ [] → before ≡ put (view x) rest → onto (map view new) rest ≡ whole
    onto-turn made new x before rest whole is pushed next =
        ap (λ ys. onto (map view ys) rest) pushed ∙ (onto-push made x rest ∙ (ap (onto (map view made)) (sym next) ∙ is))

-- ---- expressions

abbrev pub exprs_onto : List CoreExpr → CoreExprs → CoreExprs
exprs_onto = onto more_exprs

exprs-end : (es : List CoreExpr) → exprs_onto es no_exprs ≡ listed_exprs es
exprs-end [] = refl
exprs-end (first ∷ more) = ap (more_exprs first) (exprs-end more)

module _ (w : Within) (scope : Scope) where
  pub exprs-turn : (xs : List tree_expr.Expr) (i : ℕ) (x : tree_expr.Expr) (made new : List Expr) (e : Expr) (whole : CoreExprs) → exprs_onto (map expr_core made) (core_exprs w scope (exprs_tree (drop i xs))) ≡ whole → i < length xs → x ≡ get_or xs i x → new ≡ made ++ e ∷ [] → expr_core e ≡ core_expr w scope (expr_tree x) → exprs_onto (map expr_core new) (core_exprs w scope (exprs_tree (drop (i + 1) xs))) ≡ whole
  exprs-turn xs i x made new e whole is inside at pushed same =
      let rest : CoreExprs = core_exprs w scope (exprs_tree (drop (i + 1) xs)) in
      onto-turn more_exprs expr_core made new e (core_exprs w scope (exprs_tree (drop i xs))) rest whole is pushed (ap (λ ys. core_exprs w scope (exprs_tree ys)) (at-turn xs i x inside at) ∙ ap (λ one. more_exprs one rest) (sym same))

  pub exprs-done : (xs : List tree_expr.Expr) (i : ℕ) (made : List Expr) (whole : CoreExprs) → exprs_onto (map expr_core made) (core_exprs w scope (exprs_tree (drop i xs))) ≡ whole → length xs ≤ i → exprs_core made ≡ whole
  exprs-done xs i made whole is over =
      sym (exprs-end (map expr_core made)) ∙ (ap (λ ys. exprs_onto (map expr_core made) (core_exprs w scope (exprs_tree ys))) (sym (drop_all i xs over)) ∙ is)

-- ---- statements

abbrev pub stmts_onto : List CoreStmt → CoreStmts → CoreStmts
stmts_onto = onto more_stmts

stmts-end : (ss : List CoreStmt) → stmts_onto ss no_stmts ≡ listed_stmts ss
stmts-end [] = refl
stmts-end (first ∷ more) = ap (more_stmts first) (stmts-end more)

module _ (w : Within) where
  pub stmts-turn : (xs : List tree_stmt.Stmt) (i : ℕ) (x : tree_stmt.Stmt) (before after : Scope) (made new : List Stmt) (s : Stmt) (whole : CoreStmts) → stmts_onto (map stmt_core made) (core_stmts w before (stmts_tree (drop i xs))) ≡ whole → i < length xs → x ≡ get_or xs i x → new ≡ made ++ s ∷ [] → stmt_core s ≡ core_stmt w before (stmt_tree x) → after ≡ scope_after w before (stmt_tree x) → stmts_onto (map stmt_core new) (core_stmts w after (stmts_tree (drop (i + 1) xs))) ≡ whole
  stmts-turn xs i x before after made new s whole is inside at pushed same then =
      let rest : List tree_stmt.Stmt = drop (i + 1) xs in
      onto-turn more_stmts stmt_core made new s (core_stmts w before (stmts_tree (drop i xs))) (core_stmts w after (stmts_tree rest)) whole is pushed (ap (λ ys. core_stmts w before (stmts_tree ys)) (at-turn xs i x inside at) ∙ (ap (λ one. more_stmts one (core_stmts w (scope_after w before (stmt_tree x)) (stmts_tree rest))) (sym same) ∙ ap (λ scope. more_stmts (stmt_core s) (core_stmts w scope (stmts_tree rest))) (sym then)))

  pub stmts-done : (xs : List tree_stmt.Stmt) (i : ℕ) (scope : Scope) (made : List Stmt) (whole : CoreStmts) → stmts_onto (map stmt_core made) (core_stmts w scope (stmts_tree (drop i xs))) ≡ whole → length xs ≤ i → stmts_core made ≡ whole
  stmts-done xs i scope made whole is over =
      sym (stmts-end (map stmt_core made)) ∙ (ap (λ ys. stmts_onto (map stmt_core made) (core_stmts w scope (stmts_tree ys))) (sym (drop_all i xs over)) ∙ is)

stmts-append : (ss more : List Stmt) → stmts_core (ss ++ more) ≡ stmts_onto (map stmt_core ss) (stmts_core more)
stmts-append [] more = refl
stmts-append (first ∷ rest) more = ap (more_stmts (stmt_core first)) (stmts-append rest more)

-- ---- initialisers

module _ (base : Option (Placed NameId)) (body : CoreStmts) where
  pub others-push : (xs : List Init) (i : ℕ) (x : Init) (made new : List Stmt) (s : Stmt) (whole : CoreStmts) → stmts_onto (map stmt_core made) (others_wrong base (map init_tree (drop i xs)) body) ≡ whole → i < length xs → x ≡ get_or xs i x → is_named base x.name.item ≡ false → stmt_core s ≡ wrong x.name.at → new ≡ made ++ s ∷ [] → stmts_onto (map stmt_core new) (others_wrong base (map init_tree (drop (i + 1) xs)) body) ≡ whole
  others-push xs i x made new s whole is inside at other same pushed =
      let rest : List Init = drop (i + 1) xs in
      onto-turn more_stmts stmt_core made new s (others_wrong base (map init_tree (drop i xs)) body) (others_wrong base (map init_tree rest) body) whole is pushed (ap (λ ys. others_wrong base (map init_tree ys) body) (at-turn xs i x inside at) ∙ rw (other, same) refl)

  pub others-pass : (xs : List Init) (i : ℕ) (x : Init) (made new : List Stmt) (whole : CoreStmts) → stmts_onto (map stmt_core made) (others_wrong base (map init_tree (drop i xs)) body) ≡ whole → i < length xs → x ≡ get_or xs i x → is_named base x.name.item ≡ true → new ≡ made → stmts_onto (map stmt_core new) (others_wrong base (map init_tree (drop (i + 1) xs)) body) ≡ whole
  others-pass xs i x made new whole is inside at own same =
      let rest : List Init = drop (i + 1) xs in
      let passed : others_wrong base (map init_tree (x ∷ rest)) body ≡ others_wrong base (map init_tree rest) body = rw own refl in
      ap (λ ys. stmts_onto (map stmt_core ys) (others_wrong base (map init_tree rest) body)) same ∙ (ap (stmts_onto (map stmt_core made)) (sym passed) ∙ (ap (λ ys. stmts_onto (map stmt_core made) (others_wrong base (map init_tree ys) body)) (sym (at-turn xs i x inside at)) ∙ is))

pub others-done : (base : Option (Placed NameId)) (body : List Stmt) (xs : List Init) (i : ℕ) (made new : List Stmt) (whole : CoreStmts) → stmts_onto (map stmt_core made) (others_wrong base (map init_tree (drop i xs)) (stmts_core body)) ≡ whole → length xs ≤ i → new ≡ made ++ body → stmts_core new ≡ whole
others-done base body xs i made new whole is over joined =
    ap stmts_core joined ∙ (stmts-append made body ∙ (ap (λ ys. stmts_onto (map stmt_core made) (others_wrong base (map init_tree ys) (stmts_core body))) (sym (drop_all i xs over)) ∙ is))
