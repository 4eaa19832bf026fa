-- The tokens of a program or an aspect file as the grammar sees them: a name by its number, a number by its value and
-- kind, a string by the bytes that it stands for.
use Rattle.std.specs.Prelude.{ℕ, List, [], ◌∷◌, ◌++◌, Option, Some, None}
use Rattle.agxx_base.specs.declared.kind.NumKind.{NumKind}
use Rattle.agxx_base.specs.declared.vocabulary.Keyword.{Keyword}
use Rattle.agxx_base.specs.declared.vocabulary.Sign.{Sign}
use Rattle.agxx_base.specs.declared.vocabulary.Sign.TheVariants as sign_of
use Rattle.agxx_base.specs.declared.vocabulary.Header.{Header}

pub data Word : Type 0 where
  name : ℕ → Word
  number : ℕ → NumKind → Word
  text : List ℕ → Word
  keyword : Keyword → Word
  sign : Sign → Word
  include : Header → Word
  pragma : Word

-- parts with a comma between two that follow each other
abbrev mutual
  pub separated : List (List Word) → List Word
  separated [] = []
  separated (first ∷ rest) = first ++ each_after_comma rest

  pub each_after_comma : List (List Word) → List Word
  each_after_comma [] = []
  each_after_comma (next ∷ rest) = sign sign_of.Comma ∷ (next ++ each_after_comma rest)

abbrev pub in_parentheses : List Word → List Word
in_parentheses inner = sign sign_of.OpenParen ∷ (inner ++ sign sign_of.CloseParen ∷ [])

abbrev pub in_braces : List Word → List Word
in_braces inner = sign sign_of.OpenBrace ∷ (inner ++ sign sign_of.CloseBrace ∷ [])

-- a part with a semicolon behind it
abbrev pub ended : List Word → List Word
ended part = part ++ sign sign_of.Semicolon ∷ []

-- a part that may be missing
abbrev pub optional : {A : Type 0} → (A → List Word) → Option A → List Word
optional spell None = []
optional spell (Some part) = spell part
