-- When words are an expression, and where they stop being the front of one. Expressions are the same in all programs;
-- what `special` is makes no difference to them.
use Rattle.std.specs.Prelude.{◌≡◌, ◌≢◌, ℕ, List, [], ◌∷◌, ◌++◌, take, drop}
use Rattle.agxx_base.specs.declared.vocabulary.SpecialName.{SpecialName}
use Rattle.cxx_tree.specs.Words.{Word}
use Rattle.cxx_tree.specs.ExprTree.{ExprTree}
use Rattle.cxx_tree.specs.Spelling.{spell_expr}
use Rattle.cxx_tree.specs.Limits.{written}
use Rattle.cxx_tree.specs.Fits.{expr_level, FitsExpr, FitsFull}
use Rattle.cxx_tree.specs.Blank.{blank_expr}
use Rattle.cxx_expr.specs.declared.stop.Stop.TheVariants.{Syntax}
use Rattle.cxx_expr.specs.declared.read.Unread.{Unread}
use Rattle.cxx_expr.specs.declared.read.Unread.TheVariants as unread
use Rattle.cxx_expr.specs.Tokens.{Tokens}
use Rattle.cxx_expr.specs.Outcome.{done, failed, Parse, and_then}
use Rattle.cxx_expr.specs.Full.{most_operators, full_expr}

-- a full expression in which parentheses nest no deeper than this, and its words
abbrev pub IsExpr : ℕ → ExprTree → List Word → Type 0
IsExpr depth t words = FitsFull written most_operators depth expr_level t × ((special : SpecialName → ℕ) → spell_expr special t ≡ words)

abbrev pub IsNone : ℕ → List Word → Type 0
IsNone depth words = (special : SpecialName → ℕ) (t : ExprTree) → FitsFull written most_operators depth expr_level t → spell_expr special t ≢ words

-- some expression of any size is spelled so, or goes on so
abbrev pub IsViable : (SpecialName → ℕ) → List Word → Type 0
IsViable special front = (t : ExprTree) × (depth : ℕ) × (more : List Word) × FitsExpr written depth expr_level t × (spell_expr special t ≡ front ++ more)

-- the word at this index, or the end, is the first that can't stand there
pub record StopsAt (words : List Word) (at : ℕ) : Type 0 where
  pub viable : (special : SpecialName → ℕ) → IsViable special (take at words)
  pub first : (special : SpecialName → ℕ) (word : Word) (rest : List Word) → drop at words ≡ word ∷ rest → IsViable special (take at words ++ word ∷ []) → ⊥

abbrev pub Refuses : ℕ → List Word → Unread → Type 0
Refuses depth words (unread.Syntax at) = IsNone depth words × StopsAt words at
Refuses depth words (unread.Deep at) = IsNone depth words
Refuses depth words unread.Memory = Unit {0}

-- expressions of one spelling are the same but for places and numbers of nodes
abbrev pub SpellingIsUnique : Type 0
SpellingIsUnique = (special : SpecialName → ℕ) (a b : ExprTree) (depth depth' : ℕ) → FitsExpr written depth expr_level a → FitsExpr written depth' expr_level b → spell_expr special a ≡ spell_expr special b → blank_expr a ≡ blank_expr b

-- ---- what the code computes

abbrev pub ended : ExprTree → Parse Tokens ExprTree
ended t [] = done t []
ended t (next ∷ ts) = failed Syntax (next ∷ ts)

unfoldable pub whole : ℕ → Parse Tokens ExprTree
whole depth ts = and_then (full_expr depth ts) ended
