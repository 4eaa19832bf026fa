-- The directive at the front of a text, behind its `#`.
use Rattle.std.specs.Prelude.{ℕ, ◌+◌, Bool, if◌then◌else◌, ◌==◌, ◌&&◌, not, nat_eq, List, [], ◌∷◌, drop, length, codes, Option, Some, None, Ok}
use Rattle.std.specs.List.{starts_with}
use Rattle.agxx_base.specs.declared.vocabulary.Header.{Header}
use Rattle.agxx_base.specs.declared.vocabulary.Header.TheVariants as header
use Rattle.cxx_lex.specs.declared.tok.Lexeme.{Lexeme}
use Rattle.cxx_lex.specs.declared.tok.TokKind.TheVariants as kind
use Rattle.cxx_lex.specs.Bytes.{is_space}
use Rattle.cxx_lex.specs.Directives.{bracketed}
use Rattle.cxx_lex.specs.Runs.{run}

-- whether the text begins with the word
abbrev pub stands : List ℕ → List ℕ → Bool
stands word text = starts_with nat_eq text word

abbrev pub first_header : List Header → List ℕ → Option Header
first_header [] text = None
first_header (h ∷ hs) text = if stands (bracketed h) text then Some h else first_header hs text

abbrev pub headers : List Header
headers = header.Cstdint ∷ header.Cstdlib ∷ header.Iostream ∷ header.Mutex ∷ header.Thread ∷ []

abbrev pub header_at : List ℕ → Option Header
header_at text = first_header headers text

abbrev pub header_lexeme : ℕ → Option Header → Option Lexeme
header_lexeme n None = None
header_lexeme n (Some h) = Some (record { kind = Ok (kind.Include h); len = n + length (bracketed h) })

-- behind n bytes, `include` the last
abbrev pub include_lexeme : ℕ → List ℕ → Option Lexeme
include_lexeme n text = header_lexeme (n + run is_space text) (header_at (drop (run is_space text) text))

-- behind n bytes, `pragma` the last
abbrev pub pragma_lexeme : ℕ → List ℕ → Option Lexeme
pragma_lexeme n text = if not (run is_space text == 0) && stands (codes "once") (drop (run is_space text) text) then Some (record { kind = Ok kind.PragmaOnce; len = n + run is_space text + 4 }) else None

-- behind `#` and n blanks
abbrev pub worded_lexeme : ℕ → List ℕ → Option Lexeme
worded_lexeme n text =
    if stands (codes "include") text then include_lexeme (n + 8) (drop 7 text)
    else (if stands (codes "pragma") text then pragma_lexeme (n + 7) (drop 6 text) else None)

unfoldable pub directive_lexeme : List ℕ → Option Lexeme
directive_lexeme text = worded_lexeme (run is_space text) (drop (run is_space text) text)
