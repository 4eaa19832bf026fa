-- The tokens of a text, or the first place where none stands.
use Rattle.std.specs.Prelude.{◌≡◌, ◌≢◌, ℕ, Bool, true, false, List, [], ◌∷◌, ◌++◌, Some, Result, Ok, Err}
use Rattle.std.specs.List.{list_all}
use Rattle.agxx_base.specs.declared.fault.Refusal.{Refusal}
use Rattle.agxx_base.specs.declared.kind.Mode.{Mode}
use Rattle.agxx_base.specs.declared.place.Place.{Place}
use Rattle.agxx_base.specs.declared.rule.Rule.{Rule}
use Rattle.agxx_base.specs.declared.rule.Rule.TheVariants.{L1, L2}
use Rattle.cxx_lex.specs.declared.strings.StringFault.TheVariants.{Unclosed, BadByte}
use Rattle.cxx_lex.specs.declared.tok.Tok.{Tok}
use Rattle.cxx_lex.specs.declared.tok.TokKind.{TokKind}
use Rattle.cxx_lex.specs.declared.tok.TokKind.TheVariants as kind
use Rattle.cxx_lex.specs.Bytes.{is_blank, is_in_line, is_part, has_pair, begins_comment}
use Rattle.cxx_lex.specs.Place.{start_of, place_after}
use Rattle.cxx_lex.specs.Strings.{is_character, spelling, string_fault}
use Rattle.cxx_lex.specs.Lexemes.{IsLexeme, IsLongest}

-- a token without where its text lies in memory
pub record Token : Type 0 where
  pub kind : TokKind
  pub text : List ℕ
  pub at : Place

abbrev pub token_of : Tok → Token
token_of tok = record { kind = tok.kind; text = tok.text.now; at = tok.at }

abbrev pub EndsLine : List ℕ → Type 0
EndsLine [] = Unit {0}
EndsLine (b ∷ bs) = b ≡ 10

-- A blank or a comment, with this rest behind it. A comment ends with its line, or with the first `*/`.
pub data IsGap (gap rest : List ℕ) : Type 0 where
  blank : (b : ℕ) → gap ≡ b ∷ [] → is_blank b ≡ true → IsGap gap rest
  line : (body : List ℕ) → gap ≡ 47 ∷ 47 ∷ body → list_all is_in_line body ≡ true → EndsLine rest → IsGap gap rest
  block : (body : List ℕ) → gap ≡ 47 ∷ 42 ∷ (body ++ 42 ∷ 47 ∷ []) → has_pair 42 47 body ≡ false → IsGap gap rest

-- A letter, digit or underscore may not stand directly behind a number.
abbrev pub clashes : TokKind → List ℕ → Bool
clashes (kind.Number value number) (b ∷ bs) = is_part b
clashes token rest = false

-- A token stands before this rest.
pub record IsTokenAt (mode : Mode) (token : TokKind) (text rest : List ℕ) : Type 0 where
  pub longest : IsLongest mode (Ok token) text rest
  pub apart : clashes token rest ≡ false

-- What is left of a text violates the rule, directly behind this front of it.
pub data IsRefused (mode : Mode) (left : List ℕ) (rule : Rule) (front : List ℕ) : Type 0 where
  -- a comment without an end
  comment : (body : List ℕ) → left ≡ 47 ∷ 42 ∷ body → has_pair 42 47 body ≡ false → rule ≡ L2 → front ≡ [] → IsRefused mode left rule front
  -- the longest member of the sets violates a rule: a number is too large, a name too long or reserved
  member : (text rest : List ℕ) → left ≡ text ++ rest → IsLongest mode (Err rule) text rest → front ≡ [] → IsRefused mode left rule front
  -- a letter, digit or underscore behind a number
  behind_number : (token : TokKind) (rest : List ℕ) → left ≡ front ++ rest → IsLongest mode (Ok token) front rest → clashes token rest ≡ true → rule ≡ L1 → IsRefused mode left rule front
  -- a string that its line or file ends: the quote
  open_string : (value rest : List ℕ) → left ≡ 34 ∷ (spelling value ++ rest) → list_all is_character value ≡ true → string_fault rest ≡ Some Unclosed → rule ≡ L2 → front ≡ [] → IsRefused mode left rule front
  -- another byte or escape in a string
  bad_string : (value rest : List ℕ) → left ≡ 34 ∷ (spelling value ++ rest) → list_all is_character value ≡ true → string_fault rest ≡ Some BadByte → rule ≡ L1 → front ≡ 34 ∷ spelling value → IsRefused mode left rule front
  -- any other byte that begins nothing
  unknown : (b : ℕ) (rest : List ℕ) → left ≡ b ∷ rest → b ≢ 34 → is_blank b ≡ false → begins_comment left ≡ false
      → ((verdict : Result TokKind Rule) (text behind : List ℕ) → IsLexeme mode verdict text → left ≡ text ++ behind → ⊥) → rule ≡ L1 → front ≡ [] → IsRefused mode left rule front

-- From a place on, blanks, comments and these tokens lead to another place, where the last text is left.
pub data Reads (mode : Mode) : Place → List ℕ → List Token → Place → List ℕ → Type 0 where
  arrives : (at : Place) (text : List ℕ) → Reads mode at text [] at text
  past_gap : (at : Place) (text gap rest : List ℕ) (ts : List Token) (end : Place) (left : List ℕ) → text ≡ gap ++ rest → IsGap gap rest
      → Reads mode (place_after at gap) rest ts end left → Reads mode at text ts end left
  past_token : (at : Place) (text rest : List ℕ) (t : Token) (ts : List Token) (end : Place) (left : List ℕ) → text ≡ t.text ++ rest → t.at ≡ at → IsTokenAt mode t.kind t.text rest
      → Reads mode (place_after at t.text) rest ts end left → Reads mode at text (t ∷ ts) end left

-- These are the text's tokens, and it ends at this place.
abbrev pub HasTokens : Mode → ℕ → List ℕ → List Token → Place → Type 0
HasTokens mode file text ts end = Reads mode (start_of file) text ts end []

-- From a place on, tokens lead to the first place where none stands, which violates the rule.
abbrev pub RefusedFrom : Mode → Place → List ℕ → Refusal → Type 0
RefusedFrom mode from text refusal =
    (ts : List Token) × (at : Place) × (left front : List ℕ) × Reads mode from text ts at left × IsRefused mode left refusal.rule front × (refusal.place ≡ place_after at front)

abbrev pub RefusedAt : Mode → ℕ → List ℕ → Refusal → Type 0
RefusedAt mode file text refusal = RefusedFrom mode (start_of file) text refusal
