-- Full expressions as the layer above reads them: right, and complete.
use Rattle.std.proofs.Common.{◌≡◌, ℕ, ◌+◌, ◌-◌, ◌≤◌, List, [], ◌∷◌, ◌++◌, Option, Some, None, refl, sym, ap, ◌∙◌, arith}
use Rattle.agxx_base.specs.declared.vocabulary.SpecialName.{SpecialName}
use Rattle.cxx_tree.specs.declared.operator.BinOp.{BinOp}
use Rattle.cxx_tree.specs.declared.operator.UnOp.{UnOp}
use Rattle.cxx_tree.specs.Words as w
use Rattle.cxx_tree.specs.Words.{Word}
use Rattle.cxx_tree.specs.ExprTree.{ExprTree}
use Rattle.cxx_tree.specs.Spelling.{spell_expr}
use Rattle.cxx_tree.specs.Limits.{Grammar, HasAdviceForms}
use Rattle.cxx_tree.specs.Fits.{operators_in, FitsExpr, FitsFull}
use Rattle.cxx_tree.specs.Blank.{blank_expr}
use Rattle.cxx_expr.specs.declared.stop.Stop.TheVariants.{Syntax, Deep, Memory}
use Rattle.cxx_expr.specs.Operators.{binary_of, unary_of}
use Rattle.cxx_expr.specs.Tokens.{Tokens, words_of}
use Rattle.cxx_expr.specs.Outcome.{Outcome, done, failed}
use Rattle.cxx_expr.specs.Within.{Within, words_left}
use Rattle.cxx_expr.specs.Descent.{level, inner_at}
use Rattle.cxx_expr.specs.Full.{full_level}
use Rattle.cxx_expr.proofs.Good.{Sort, Good, Goods}
use Rattle.cxx_expr.proofs.States.{tokens, within, before, joins, charge_by, charge, charged}
use Rattle.cxx_expr.proofs.Sorts.{exprs}
use Rattle.cxx_expr.proofs.Laws.{good_level_at}
use Rattle.cxx_expr.proofs.Fronts.{Ends}
use Rattle.cxx_expr.proofs.Complete.{level-full, inside-full}
use Rattle.cxx_expr.proofs.Whole.{charged-expr}

-- ---- operators that are left over

charge_by-more : (b : Option BinOp) (u : Option UnOp) (n m : ℕ) → charge_by b u (n + m) ≡ charge_by b u n + m
charge_by-more (Some o) u n m = omega arith
charge_by-more None (Some o) n m = omega arith
charge_by-more None None n m = refl

charge-more : (word : Word) (n m : ℕ) → charge word (n + m) ≡ charge word n + m
charge-more (w.sign s) n m = charge_by-more (binary_of s) (unary_of s) n m
charge-more _ n m = refl

charged-more : (words : List Word) (n m : ℕ) → charged words (n + m) ≡ charged words n + m
charged-more [] n m = refl
charged-more (word ∷ words) n m = ap (charge word) (charged-more words n m) ∙ charge-more word (charged words n) m

module _ (special : SpecialName → ℕ) (g : Grammar) (no_advice : HasAdviceForms g → ⊥) where
  -- full expressions up to a level
  abbrev pub fulls : ℕ → ℕ → ℕ → Sort ExprTree
  fulls most depth l = record {
    spelled = spell_expr special;
    IsOne = FitsFull g most depth l;
    IsSome = λ t. (d : ℕ) × FitsExpr g d l t;
    is_some = λ t v. (depth, v.0);
  }

  abbrev GoodAt : ℕ → ℕ → ℕ → Within → Outcome Within ExprTree → Type 0
  GoodAt depth deeper l s o = Good within [] (exprs special g depth l) (λ q r. level (inner_at deeper) l q ≡ r) s o

  -- the same front, with as many operators as a higher limit leaves
  again_more : (most more deeper l : ℕ) (ts : Tokens) (front : Tokens) (rest : Within) (other : Tokens) (o : Outcome Tokens ExprTree) → most ≤ more → joins ts most ≡ before front rest
      → words_left (level (inner_at deeper) l (before front (joins other (rest.operators + (more - most))))) ≡ o → full_level more deeper l (front ++ other) ≡ o
  unfolding full_level
  again_more most more deeper l ts front rest other o le whole h =
      let spent : most ≡ charged (words_of front) rest.operators = ap (λ q. q.operators) whole in
      let c : charged (words_of front) (rest.operators + (more - most)) ≡ more = charged-more (words_of front) rest.operators (more - most) ∙ omega (arith, le, spent) in
      ap (λ n. words_left (level (inner_at deeper) l (joins (front ++ other) n))) (sym c) ∙ h

  by_outcome : (most more depth deeper l : ℕ) (ts : Tokens) (o : Outcome Within ExprTree) → most ≤ more → GoodAt depth deeper l (joins ts most) o
      → Good tokens [] (fulls most depth l) (λ q r. full_level more deeper l q ≡ r) ts (words_left o)
  by_outcome most more depth deeper l ts (done t rest) le h =
      let few : most ≡ operators_in t + rest.operators =
      ap (λ q. q.operators) h.whole ∙ ap (λ q. charged q rest.operators) (sym h.text) ∙ charged-expr special g no_advice t depth l h.valid rest.operators in
      record {
        front = h.front;
        whole = ap (λ q. q.words) h.whole;
        valid = (h.valid, omega (arith, few));
        text = h.text;
        again = λ other e. again_more most more deeper l ts h.front rest other (done t other) le h.whole (ap words_left (h.again (joins other (rest.operators + (more - most))) e));
      }
  by_outcome most more depth deeper l ts (failed Syntax rest) le h = record {
    front = h.front;
    whole = ap (λ q. q.words) h.whole;
    viable = h.viable;
    again = λ other e. again_more most more deeper l ts h.front rest other (failed Syntax other) le h.whole (ap words_left (h.again (joins other (rest.operators + (more - most))) e));
  }
  by_outcome most more depth deeper l ts (failed Deep rest) le h = tt
  by_outcome most more depth deeper l ts (failed Memory rest) le h = h

  -- Each answer is right, and a parser with higher limits gives it again.
  pub good_full : (most more depth deeper l : ℕ) → most ≤ more → depth ≤ deeper → Goods tokens (fulls most depth l) (full_level most depth l) (full_level more deeper l)
  unfolding full_level
  good_full most more depth deeper l le h ts = by_outcome most more depth deeper l ts (level (inner_at depth) l (joins ts most)) le (good_level_at special g depth deeper l h (joins ts most))

  -- The spelling of each is read again, before anything that doesn't go on with it.
  pub full-full : (most depth l : ℕ) (t : ExprTree) (front rest : Tokens) → FitsFull g most depth l t → words_of front ≡ spell_expr special t → Ends l rest
      → (t' : ExprTree) × (blank_expr t' ≡ blank_expr t) × (full_level most depth l (front ++ rest) ≡ done t' rest)
  unfolding full_level
  full-full most depth l t front rest v i ends =
      let left_over : ℕ = most - operators_in t in
      let r = level-full special g no_advice depth (inner_at depth) (inside-full special g no_advice depth) l t front (joins rest left_over) v.0 i ends in
      let c : charged (words_of front) left_over ≡ most = ap (λ q. charged q left_over) i ∙ charged-expr special g no_advice t depth l v.0 left_over ∙ omega (arith, v.1) in
      (r.0, r.1, ap (λ n. words_left (level (inner_at depth) l (joins (front ++ rest) n))) (sym c) ∙ ap words_left r.2)
