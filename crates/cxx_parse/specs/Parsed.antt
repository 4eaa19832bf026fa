-- Which program tokens are, and where they stop being the front of one.
use Rattle.std.specs.Prelude.{◌≡◌, ◌≢◌, ℕ, List, [], ◌∷◌, ◌++◌}
use Rattle.agxx_base.specs.declared.fault.Refusal.{Refusal}
use Rattle.agxx_base.specs.declared.kind.Mode.{Mode}
use Rattle.agxx_base.specs.declared.place.Place.{Place}
use Rattle.agxx_base.specs.declared.rule.Rule.TheVariants.{G1, G2}
use Rattle.cxx_lex.specs.Tokens.{Token}
use Rattle.cxx_tree.specs.declared.node.Placed.{Placed}
use Rattle.cxx_tree.specs.Words.{Word}
use Rattle.cxx_tree.specs.ProgramTree.{ProgramTree}
use Rattle.cxx_tree.specs.Spelling.{spell_program}
use Rattle.cxx_tree.specs.Limits.{grammar_of, limits_of}
use Rattle.cxx_tree.specs.Fits.{FitsProgram, IsProgram}
use Rattle.cxx_tree.specs.Blank.{blank_program}
use Rattle.cxx_expr.specs.Tokens.{Tokens, words_of}
use Rattle.cxx_expr.specs.Outcome.{Outcome, done}
use Rattle.cxx_stmt.specs.declared.dialect.Dialect.{Dialect}
use Rattle.cxx_stmt.specs.Dialect.{special_of, grammar}
use Rattle.cxx_parse.specs.Numbering.{names_of, dialect_in, words_in}
use Rattle.cxx_parse.specs.Programs.{program}

-- ---- programs of a dialect

abbrev pub spelled : Dialect → ProgramTree → List Word
spelled d q = spell_program (special_of d) q

-- a program within the limits
abbrev pub Fits : Dialect → ProgramTree → Type 0
Fits d q = FitsProgram (grammar d) (limits_of (grammar d)) q

-- no program within the limits has these words
abbrev pub IsNone : Dialect → List Word → Type 0
IsNone d words = (q : ProgramTree) → Fits d q → spelled d q ≢ words

-- no program of any size has these words
abbrev pub IsNever : Dialect → List Word → Type 0
IsNever d words = (q : ProgramTree) → IsProgram (grammar d) q → spelled d q ≢ words

-- some program of any size goes on so
abbrev pub IsViable : Dialect → List Word → Type 0
IsViable d front = (q : ProgramTree) × (more : List Word) × IsProgram (grammar d) q × (spelled d q ≡ front ++ more)

-- where the first of these tokens stands, or where the file ends
abbrev pub place_of : Tokens → Place → Place
place_of [] end = end
place_of (t ∷ ts) end = t.at

-- The words up to this place are the longest front of the words with which some program of any size goes on.
pub record StopsAt (d : Dialect) (ts : Tokens) (end at : Place) : Type 0 where
  pub front : Tokens
  pub rest : Tokens
  pub parts : ts ≡ front ++ rest
  pub viable : IsViable d (words_of front)
  pub first : (t : Placed Word) (others : Tokens) → rest ≡ t ∷ others → IsViable d (words_of front ++ t.item ∷ []) → ⊥
  pub place : at ≡ place_of rest end

-- at one of the tokens, or where the file ends
abbrev pub IsPlaced : Tokens → Place → Place → Type 0
IsPlaced ts end at = (front : Tokens) × (rest : Tokens) × (ts ≡ front ++ rest) × (at ≡ place_of rest end)

-- The rule that tokens violate which are no program within the limits, and where. A later pass is to say which token is
-- one too many for G2; until then a text that is too deep, or has too many operators, and is wrong further on as well may be
-- told either.
pub data IsUngrammatical (d : Dialect) (ts : Tokens) (end : Place) (refusal : Refusal) : Type 0 where
  unexpected : IsNever d (words_of ts) → refusal.rule ≡ G1 → StopsAt d ts end refusal.place → IsUngrammatical d ts end refusal
  too_deep : IsNone d (words_of ts) → refusal.rule ≡ G2 → IsPlaced ts end refusal.place → IsUngrammatical d ts end refusal

-- where a program is whose file ends here
abbrev pub file_start : Place → Place
file_start end = record { file = end.file; line = 1; column = 1 }

-- The words are this program, within the limits.
pub record IsProgramOf (d : Dialect) (ts : Tokens) (end : Place) (q : ProgramTree) : Type 0 where
  pub fits : Fits d q
  pub spelling : spelled d q ≡ words_of ts
  pub at : q.at ≡ file_start end

-- what the descent answers for the words of a file that ends here, within the limits
abbrev pub descent_of : Dialect → Tokens → Place → Outcome Tokens ProgramTree
descent_of d ts end = program (limits_of (grammar d)).operators d (limits_of (grammar d)).nesting (file_start end) ts

-- The descent reads this very tree of all the words, with each place in it and each number of a node.
abbrev pub IsDescent : Dialect → Tokens → Place → ProgramTree → Type 0
IsDescent d ts end q = descent_of d ts end ≡ done q []

-- ---- programs of a text, whose names have numbers

-- the tokens are this program
abbrev pub IsParsed : Mode → List (List ℕ) → List Token → Place → ProgramTree → Type 0
IsParsed mode names ts end q = IsProgramOf (dialect_in mode names) (words_in names ts) end q

-- the tree that is read of the tokens, with each place in it and each number of a node, which spelling leaves open
abbrev pub IsReadAs : Mode → List (List ℕ) → List Token → Place → ProgramTree → Type 0
IsReadAs mode names ts end q = IsDescent (dialect_in mode names) (words_in names ts) end q

-- the refusal of tokens that are no program
abbrev pub IsRefused : Mode → List (List ℕ) → List Token → Place → Refusal → Type 0
IsRefused mode names ts end refusal = IsUngrammatical (dialect_in mode names) (words_in names ts) end refusal

-- Programs of one spelling are the same but for places and numbers of nodes, wherever the names with a meaning have
-- numbers.
abbrev pub SpellingIsUnique : Type 0
SpellingIsUnique =
    (mode : Mode) (names : List (List ℕ)) (ts : List Token) (a b : ProgramTree) → IsProgram (grammar_of mode) a → IsProgram (grammar_of mode) b
    → spelled (dialect_in mode (names_of names ts)) a ≡ spelled (dialect_in mode (names_of names ts)) b → blank_program a ≡ blank_program b

-- Tokens are read as one tree at most.
abbrev pub ReadingIsUnique : Type 0
ReadingIsUnique = (mode : Mode) (names : List (List ℕ)) (ts : List Token) (end : Place) (a b : ProgramTree) → IsReadAs mode names ts end a → IsReadAs mode names ts end b → a ≡ b
