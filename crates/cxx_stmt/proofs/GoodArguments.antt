-- Full expressions, lists of them and references are read right.
use Rattle.std.proofs.Common.{◌≡◌, ℕ, ◌≤◌, List, [], ◌∷◌, map, inl, refl, ap, le_refl}
use Rattle.agxx_base.specs.declared.vocabulary.SpecialName.{SpecialName}
use Rattle.cxx_tree.specs.Words.{separated, in_parentheses}
use Rattle.cxx_tree.specs.ExprTree.{ExprTree, listed_exprs}
use Rattle.cxx_tree.specs.Spelling.{spell_expr, spell_each}
use Rattle.cxx_tree.specs.Limits.{Grammar, HasAdviceForms, Every}
use Rattle.cxx_tree.specs.Fits.{operators_in, expr_level, FitsFull, FitsEach}
use Rattle.cxx_expr.specs.Full.{full_level}
use Rattle.cxx_expr.proofs.Names.{good_reference}
use Rattle.cxx_expr.proofs.FullLaws.{fulls, good_full}
use Rattle.cxx_stmt.specs.Parts.{any, expressions, arguments, ref_next, placed_ref}
use Rattle.cxx_stmt.proofs.Sorts as kind
use Rattle.cxx_stmt.proofs.Sorts.{lists, somes, parens}
use Rattle.cxx_stmt.proofs.GoodParts.{Behind, here_sort, here_kind, here_each, behind_fail, behind_next, behind_parens}
use Rattle.cxx_stmt.proofs.GoodLists.{good_some, good_any}

pub good_placed_ref : {most depth : ℕ} → Behind [] kind.refs most depth placed_ref placed_ref
unfolding placed_ref
good_placed_ref = behind_next ref_next ref_next (behind_fail (inl refl) []) (λ t ts. here_each (good_reference t.at _))

module _ (special : SpecialName → ℕ) (g : Grammar) where
  pub each-spelled : (xs : List ExprTree) → spell_each special (listed_exprs xs) ≡ map (spell_expr special) xs
  each-spelled [] = refl
  each-spelled (x ∷ xs) = ap (λ q. spell_expr special x ∷ q) (each-spelled xs)

  pub each-fits : (m n : ℕ) (xs : List ExprTree) → Every (FitsFull g m n expr_level) xs → FitsEach g m n (listed_exprs xs)
  each-fits m n [] v = tt
  each-fits m n (x ∷ xs) v = (v.0, each-fits m n xs v.1)

  module _ (no_advice : HasAdviceForms g → ⊥) (most more depth deeper : ℕ) (le : most ≤ more) (le' : depth ≤ deeper) where
    pub good_expr : (l : ℕ) → Behind [] (kind.fulls special g l) most depth (full_level most depth l) (full_level more deeper l)
    good_expr l ts =
        here_sort (fulls special g no_advice most depth l) (λ t v. v) (λ t v. (operators_in t, v.0, (v.1, le_refl (operators_in t)))) (λ t v. refl)
        (good_full special g no_advice most more depth deeper l le le' ts)

    pub good_expressions : Behind [] (somes (kind.fulls special g expr_level)) most depth (expressions most depth) (expressions more deeper)
    unfolding expressions
    good_expressions = good_some (kind.fulls special g expr_level) most depth (full_level most depth expr_level) (full_level more deeper expr_level) (good_expr expr_level)

  module _ (no_advice : HasAdviceForms g → ⊥) (most more depth deeper : ℕ) (le : most ≤ more) (le' : depth ≤ deeper) where
    pub good_arguments : Behind [] (kind.arguments special g) most depth (arguments most depth) (arguments more deeper)
    unfolding arguments expressions
    good_arguments ts =
        here_kind (λ xs v. (v.0, v.1, each-fits most v.0 xs v.2)) (λ xs v. (v.0, v.1, (v.2.0, v.2.1, each-fits v.0 v.2.0 xs v.2.2))) (λ xs. ap (λ q. in_parentheses (separated q)) (each-spelled xs))
        (behind_parens {K = lists (kind.fulls special g expr_level)} (λ below. any (full_level most below expr_level)) (λ below. any (full_level more below expr_level)) le'
        (λ below under e e' le''. good_any (kind.fulls special g expr_level) most below (full_level most below expr_level) (full_level more under expr_level)
        (good_expr no_advice most more below under le le'' expr_level)) ts)
