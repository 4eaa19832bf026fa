-- Definitions as the code computes them.
use Rattle.std.proofs.Common.{◌≡◌, ℕ, suc, ◌+◌, ◌-◌, refl, ap, sym, ◌∙◌, Bool, true, false, nat_eq, List, [], ◌∷◌, ◌++◌, map, length, arith, slice_get, Option, Some, cond, not, true≢false, if◌then◌else◌}
use Rattle.std.proofs.lemmas.Bool.Decides.{nat_tests}
use Rattle.cxx_tree.specs.declared.expr.Expr.{Expr}
use Rattle.cxx_tree.specs.declared.stmt.Stmt.{Stmt}
use Rattle.std.specs.List.{filter}
use Rattle.std.specs.Str.{bytes_eq}
use Rattle.std.proofs.lemmas.Slice.Eq.{bytes_eq-Decides}
use Rattle.agxx_base.specs.Names.{number_of, is_known, interned}
use Rattle.agxx_base.specs.declared.ids.NameId.{NameId}
use Rattle.cxx_tree.specs.declared.node.Placed.{Placed}
use Rattle.cxx_tree.specs.declared.program.Init.{Init}
use Rattle.cxx_tree.specs.ProgramTree.{init_tree}
use Rattle.cxx_tree.specs.ExprTree as e
use Rattle.cxx_tree.specs.StmtTree as s
use Rattle.cxx_normal.specs.Numbers as n
use Rattle.cxx_normal.specs.Initialisers.{is_one, before, block_after, block_after_numbered, names_base, if_base}
use Rattle.cxx_normal.specs.Entry.{is_return, ends_with_return, followed_by}

pub one_is : (xs : List Expr) → is_one (e.exprs_tree xs) ≡ nat_eq (length xs) 1
one_is [] = refl
one_is (x ∷ []) = refl
one_is (x ∷ y ∷ rest) = grind (arith, nat_tests)

-- the last of some statements
pub last_return : (known : Bool) (ss : List Stmt) (last : Stmt) → slice_get ss (length ss - 1) ≡ Some last → ends_with_return known (s.stmts_tree ss) ≡ is_return (s.stmt_tree last)
last_return known [] last at = cc
last_return known (x ∷ []) last at = let same : x ≡ last = cc in ap (λ y. is_return (s.stmt_tree y)) same
last_return known (x ∷ y ∷ rest) last at =
    let e : length (x ∷ y ∷ rest) - 1 ≡ suc (length (y ∷ rest) - 1) = omega arith in
    last_return (is_return (s.stmt_tree x)) (y ∷ rest) last (sym (ap (slice_get (x ∷ y ∷ rest)) e) ∙ at)

pub stmts_append : (xs ys : List Stmt) → s.stmts_tree (xs ++ ys) ≡ before (map s.stmt_tree xs) (s.stmts_tree ys)
stmts_append [] ys = refl
stmts_append (x ∷ xs) ys = ap (s.more_stmts (s.stmt_tree x)) (stmts_append xs ys)

pub stmts_followed : (xs : List Stmt) (x : Stmt) → s.stmts_tree (xs ++ x ∷ []) ≡ followed_by (s.stmts_tree xs) (s.stmt_tree x)
stmts_followed [] x = refl
stmts_followed (y ∷ ys) x = ap (s.more_stmts (s.stmt_tree y)) (stmts_followed ys x)

before-numbered : (ts : List s.StmtTree) (rest : s.StmtTrees) (k : ℕ) → n.number_stmts (before ts rest) k ≡ (before (n.number_each n.number_stmt ts k).0 (n.number_stmts rest (n.number_each n.number_stmt ts k).1).0, (n.number_stmts rest (n.number_each n.number_stmt ts k).1).1)
before-numbered [] rest k = refl
before-numbered (t ∷ ts) rest k = rw (before-numbered ts rest (n.number_stmt t k).1)

pub block_after_is : (ts : List s.StmtTree) (b : s.BlockTree) (k : ℕ) → n.number_block (block_after ts b) k ≡ block_after_numbered (n.number_each n.number_stmt ts k).0 (n.number_block b (n.number_each n.number_stmt ts k).1)
block_after_is ts (s.braces at stmts) k = rw (before-numbered ts stmts k)

pub base_step : (base : Option (Placed NameId)) (x : Init) (xs : List Init) → filter (names_base base) (map init_tree (x ∷ xs)) ≡ if_base base (init_tree x) ++ filter (names_base base) (map init_tree xs)
base_step base x xs = by (names_base base (init_tree x))
  where
    by : (b : Bool) → cond b (init_tree x ∷ filter (names_base base) (map init_tree xs)) (filter (names_base base) (map init_tree xs)) ≡ (if b then init_tree x ∷ [] else []) ++ filter (names_base base) (map init_tree xs)
    by true = refl
    by false = refl

pub followed_numbered : (ts : s.StmtTrees) (last : s.StmtTree) (k : ℕ) → n.number_stmts (followed_by ts last) k ≡ (followed_by (n.number_stmts ts k).0 (n.number_stmt last (n.number_stmts ts k).1).0, (n.number_stmt last (n.number_stmts ts k).1).1)
followed_numbered s.no_stmts last k = refl
followed_numbered (s.more_stmts first rest) last k = rw (followed_numbered rest last (n.number_stmt first k).1)

pub ruleset at_end = (stmts_followed, followed_numbered)

-- ---- names

number_behind : (names : List (List ℕ)) (text : List ℕ) → number_of (names ++ text ∷ []) text ≡ number_of names text
number_behind [] text = by (bytes_eq text text) refl
  where
    by : (same : Bool) → bytes_eq text text ≡ same → number_of ([] ++ text ∷ []) text ≡ number_of [] text
    by true e = rw e
    by false e = absurd (true≢false (sym ((bytes_eq-Decides text text).1 refl) ∙ e))
number_behind (name ∷ names) text = ap (λ m. cond (not (bytes_eq text name)) (1 + m) 0) (number_behind names text)

-- a text keeps its number where it is interned
pub number_interned : (names : List (List ℕ)) (text : List ℕ) → number_of (interned names text) text ≡ number_of names text
number_interned names text = by (is_known names text)
  where
    by : (known : Bool) → number_of (if known then names else names ++ text ∷ []) text ≡ number_of names text
    by true = refl
    by false = number_behind names text
