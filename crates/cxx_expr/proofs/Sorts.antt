-- Expressions, lists of arguments and parts in parentheses as what rules read.
use Rattle.std.proofs.Common.{◌≡◌, ℕ, suc, List, [], ◌∷◌, ◌++◌, refl, append_assoc, arith}
use Rattle.agxx_base.specs.declared.kind.NumKind.TheVariants as num
use Rattle.agxx_base.specs.declared.vocabulary.Sign.TheVariants as sg
use Rattle.agxx_base.specs.declared.vocabulary.SpecialName.{SpecialName}
use Rattle.cxx_tree.specs.Words as w
use Rattle.cxx_tree.specs.Words.{Word, separated, each_after_comma, in_parentheses}
use Rattle.cxx_tree.specs.ExprTree as e
use Rattle.cxx_tree.specs.ExprTree.{ExprTree, ExprTrees, CallTree, listed_exprs}
use Rattle.cxx_tree.specs.Spelling.{spell_expr, spell_each}
use Rattle.cxx_tree.specs.Limits.{Grammar, Opens}
use Rattle.cxx_tree.specs.Fits.{expr_level, FitsExpr, FitsAll}
use Rattle.cxx_expr.proofs.Good.{Sort}

module _ (g : Grammar) where
  pub Fits-weaken : (depth l : ℕ) (t : ExprTree) → FitsExpr g depth l t → FitsExpr g depth (suc l) t
  Fits-weaken depth l (e.lit n value) v = tt
  Fits-weaken depth l (e.flag n is_set) v = tt
  Fits-weaken depth l (e.null n) v = tt
  Fits-weaken depth l (e.this n) v = tt
  Fits-weaken depth l (e.left part) v = v
  Fits-weaken depth l (e.unary n o operand) v = v
  Fits-weaken depth l (e.binary n o a b) v = (omega (arith, v.0), v.1, v.2)
  Fits-weaken depth l (e.paren n inner) v = v
  Fits-weaken depth l (e.cast n t operand) v = v
  Fits-weaken depth l (e.call c) v = v
  Fits-weaken depth l (e.new n class) v = tt
  Fits-weaken depth l (e.new_with n class xs) v = v

abbrev pub default : ExprTree
default = e.lit (record { at = record { file = 0; line = 0; column = 0 }; id = record { 0 = 0 } }) (record { bits = 0; kind = num.I32 })

module _ (special : SpecialName → ℕ) (g : Grammar) where
  abbrev pub spell : ExprTree → List Word
  spell = spell_expr special

  abbrev pub Fits : ℕ → ℕ → ExprTree → Type 0
  Fits = FitsExpr g

  -- expressions up to a level
  abbrev pub exprs : ℕ → ℕ → Sort ExprTree
  exprs depth l = record { spelled = spell; IsOne = Fits depth l; IsSome = λ t. (d : ℕ) × Fits d l t; is_some = λ t v. (depth, v) }

  -- an expression in parentheses
  abbrev pub enclosures : ℕ → Sort ExprTree
  enclosures depth = record {
    spelled = λ t. in_parentheses (spell t);
    IsOne = λ t. Opens depth (λ below. Fits below expr_level t);
    IsSome = λ t. (d : ℕ) × Fits d expr_level t;
    is_some = λ t v. (v.0, v.2);
  }

  abbrev spell_inner : List ExprTree → List Word
  spell_inner xs = separated (spell_each special (listed_exprs xs))

  abbrev spell_others : List ExprTree → List Word
  spell_others xs = each_after_comma (spell_each special (listed_exprs xs))

  abbrev close : List Word
  close = w.sign sg.CloseParen ∷ []

  -- arguments, up to the parenthesis that ends them
  abbrev pub lists : ℕ → Sort (List ExprTree)
  lists depth = record {
    spelled = λ xs. spell_inner xs ++ close;
    IsOne = λ xs. FitsAll g depth (listed_exprs xs);
    IsSome = λ xs. (d : ℕ) × FitsAll g d (listed_exprs xs);
    is_some = λ xs v. (depth, v);
  }

  -- the arguments behind one
  abbrev pub tails : ℕ → Sort (List ExprTree)
  tails depth = record {
    spelled = λ xs. spell_others xs ++ close;
    IsOne = λ xs. FitsAll g depth (listed_exprs xs);
    IsSome = λ xs. (d : ℕ) × FitsAll g d (listed_exprs xs);
    is_some = λ xs v. (depth, v);
  }

  -- at least one argument
  abbrev pub SomeFit : ℕ → List ExprTree → Type 0
  SomeFit depth [] = ⊥
  SomeFit depth (x ∷ xs) = Fits depth expr_level x × FitsAll g depth (listed_exprs xs)

  abbrev pub somes : ℕ → Sort (List ExprTree)
  somes depth = record {
    spelled = λ xs. spell_inner xs ++ close;
    IsOne = SomeFit depth;
    IsSome = λ xs. (d : ℕ) × SomeFit d xs;
    is_some = λ xs v. (depth, v);
  }

  pub SomeFit-all : (depth : ℕ) (xs : List ExprTree) → SomeFit depth xs → FitsAll g depth (listed_exprs xs)
  SomeFit-all depth [] v = absurd v
  SomeFit-all depth (x ∷ xs) v = v

  pub spell-cons : (x : ExprTree) (xs : List ExprTree) → spell_inner (x ∷ xs) ++ close ≡ spell x ++ (spell_others xs ++ close)
  spell-cons x xs = append_assoc (spell x) (spell_others xs) close

  pub spell-tail : (depth : ℕ) (xs : List ExprTree) → SomeFit depth xs → spell_others xs ++ close ≡ w.sign sg.Comma ∷ (spell_inner xs ++ close)
  spell-tail depth [] v = absurd v
  spell-tail depth (x ∷ xs) v = refl
