-- String literals.
use Rattle.std.specs.Prelude.{◌≡◌, ℕ, Bool, true, ◌||◌, if◌then◌else◌, ◌==◌, List, [], ◌∷◌, ◌++◌, Option, Some, None}
use Rattle.std.specs.List.{list_all}
use Rattle.cxx_lex.specs.declared.strings.StringFault.{StringFault}
use Rattle.cxx_lex.specs.declared.strings.StringFault.TheVariants.{Unclosed, BadByte}
use Rattle.cxx_lex.specs.Bytes.{is_within, is_plain, is_escape}

-- a byte that a literal may stand for: 32 to 126, tab and newline
abbrev pub is_character : ℕ → Bool
is_character b = is_within 32 126 b || b == 9 || b == 10

-- how a literal has a byte
abbrev pub spelled : ℕ → List ℕ
spelled b = if b == 10 then 92 ∷ 110 ∷ [] else (if b == 9 then 92 ∷ 116 ∷ [] else (if b == 92 then 92 ∷ 92 ∷ [] else (if b == 34 then 92 ∷ 34 ∷ [] else b ∷ [])))

abbrev pub spelling : List ℕ → List ℕ
spelling [] = []
spelling (b ∷ bs) = spelled b ++ spelling bs

-- the literal that stands for these bytes
abbrev pub quoted : List ℕ → List ℕ
quoted value = 34 ∷ (spelling value ++ 34 ∷ [])

abbrev pub IsString : List ℕ → List ℕ → Type 0
IsString value text = (list_all is_character value ≡ true) × (text ≡ quoted value)

-- what is wrong with a string that goes on so: its line or file ends, also behind a backslash, or a byte or an escape is none of the language's
abbrev pub escape_fault : List ℕ → Option StringFault
escape_fault [] = Some Unclosed
escape_fault (c ∷ cs) = if c == 10 then Some Unclosed else (if is_escape c then None else Some BadByte)

abbrev pub string_fault : List ℕ → Option StringFault
string_fault [] = Some Unclosed
string_fault (b ∷ bs) = if b == 10 then Some Unclosed else (if b == 92 then escape_fault bs else (if b == 34 || is_plain b then None else Some BadByte))

abbrev pub escape_value : ℕ → ℕ
escape_value c = if c == 110 then 10 else (if c == 116 then 9 else c)

abbrev mutual
  -- the bytes that are meant up to the closing quote
  pub meant : List ℕ → List ℕ
  meant [] = []
  meant (b ∷ bs) = if b == 34 then [] else (if b == 92 then meant_escape bs else b ∷ meant bs)

  pub meant_escape : List ℕ → List ℕ
  meant_escape [] = []
  meant_escape (c ∷ cs) = escape_value c ∷ meant cs

-- the bytes that a literal stands for
abbrev pub string_value : List ℕ → List ℕ
string_value [] = []
string_value (b ∷ bs) = meant bs

-- the value of a literal is what it was made of
abbrev pub ReadsQuoted : Type 0
ReadsQuoted = (value text : List ℕ) → IsString value text → string_value text ≡ value
