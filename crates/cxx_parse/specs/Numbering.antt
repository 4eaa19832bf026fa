-- Tokens as words, in which names have numbers.
use Rattle.std.specs.Prelude.{◌≡◌, ℕ, List, [], ◌∷◌, ◌++◌, map, codes}
use Rattle.agxx_base.specs.declared.kind.Mode.{Mode}
use Rattle.agxx_base.specs.declared.ids.NameId.{NameId}
use Rattle.agxx_base.specs.Names.{number_of, interned}
use Rattle.cxx_lex.specs.declared.tok.TokKind.{TokKind}
use Rattle.cxx_lex.specs.declared.tok.TokKind.TheVariants as kind
use Rattle.cxx_lex.specs.Strings.{string_value}
use Rattle.cxx_lex.specs.Tokens.{Token}
use Rattle.cxx_tree.specs.declared.node.Placed.{Placed}
use Rattle.cxx_tree.specs.Words as w
use Rattle.cxx_tree.specs.Words.{Word}
use Rattle.cxx_expr.specs.Tokens.{Tokens}
use Rattle.cxx_stmt.specs.declared.dialect.Dialect.{Dialect}

-- ---- names

-- names once a token has a number, if it is a name
abbrev pub with_name : List (List ℕ) → TokKind → List ℕ → List (List ℕ)
with_name names kind.Name text = interned names text
with_name names _ text = names

-- names once each of the tokens has a number, in their order
abbrev pub with_names : List (List ℕ) → List Token → List (List ℕ)
with_names names [] = names
with_names names (t ∷ ts) = with_names (with_name names t.kind t.text) ts

-- names once those have a number that have a meaning in programs
abbrev pub with_special : List (List ℕ) → List (List ℕ)
with_special names =
    interned (interned (interned (interned (interned (interned names (codes "std")) (codes "mutex")) (codes "thread")) (codes "cout")) (codes "endl")) (codes "abort")

-- the names of a program of these tokens, behind those that were there
abbrev pub names_of : List (List ℕ) → List Token → List (List ℕ)
names_of names ts = with_names (with_special names) ts

-- names that are kept, with more at the end
abbrev pub IsLonger : List (List ℕ) → List (List ℕ) → Type 0
IsLonger old new = (more : List (List ℕ)) × (new ≡ old ++ more)

abbrev pub id_in : List (List ℕ) → List ℕ → NameId
id_in names text = record { 0 = number_of names text }

-- how a program is read whose names have these numbers
abbrev pub dialect_in : Mode → List (List ℕ) → Dialect
dialect_in mode names = record {
  mode = mode;
  std = id_in names (codes "std");
  mutex = id_in names (codes "mutex");
  thread = id_in names (codes "thread");
  cout = id_in names (codes "cout");
  endl = id_in names (codes "endl");
  abort = id_in names (codes "abort");
}

-- ---- words

abbrev pub word_in : List (List ℕ) → TokKind → List ℕ → Word
word_in names kind.Name text = w.name (number_of names text)
word_in names (kind.Number value num) text = w.number value num
word_in names kind.Text text = w.text (string_value text)
word_in names (kind.Include header) text = w.include header
word_in names kind.PragmaOnce text = w.pragma
word_in names (kind.Keyword word) text = w.keyword word
word_in names (kind.Sign s) text = w.sign s

abbrev pub placed_in : List (List ℕ) → Token → Placed Word
placed_in names t = record { at = t.at; item = word_in names t.kind t.text }

-- the tokens as words, with their places
abbrev pub words_in : List (List ℕ) → List Token → Tokens
words_in names = map (placed_in names)
