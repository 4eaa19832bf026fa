-- The word at the front of a text.
use Rattle.std.specs.Prelude.{ℕ, List, take}
use Rattle.agxx_base.specs.declared.kind.Mode.{Mode}
use Rattle.cxx_lex.specs.declared.tok.Lexeme.{Lexeme}
use Rattle.cxx_lex.specs.Bytes.{is_part}
use Rattle.cxx_lex.specs.Words.{word_verdict}
use Rattle.cxx_lex.specs.Runs.{run}

unfoldable pub word_lexeme : Mode → List ℕ → Lexeme
word_lexeme mode text = record { kind = word_verdict mode (take (run is_part text) text); len = run is_part text }
