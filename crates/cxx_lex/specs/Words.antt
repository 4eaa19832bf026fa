-- Names and keywords.
use Rattle.std.specs.Prelude.{◌≡◌, ℕ, Bool, true, false, if◌then◌else◌, nat_lt, List, [], ◌∷◌, ◌++◌, length, map, Option, Some, None, Result, Ok, Err}
use Rattle.std.specs.List.{list_all}
use Rattle.std.specs.Str.{bytes_eq}
use Rattle.agxx_base.specs.declared.kind.Mode.{Mode}
use Rattle.agxx_base.specs.declared.kind.Mode.TheVariants.{Source, Woven}
use Rattle.agxx_base.specs.declared.kind.NumKind.TheVariants as num
use Rattle.agxx_base.specs.declared.rule.Rule.{Rule}
use Rattle.agxx_base.specs.declared.rule.Rule.TheVariants.{L4, L5}
use Rattle.agxx_base.specs.declared.vocabulary.Keyword.{Keyword}
use Rattle.agxx_base.specs.declared.vocabulary.Keyword.TheVariants as keyword
use Rattle.agxx_base.specs.Vocabulary.{keyword_text, reserved_words}
use Rattle.cxx_lex.specs.declared.tok.TokKind.{TokKind}
use Rattle.cxx_lex.specs.declared.tok.TokKind.TheVariants as kind
use Rattle.cxx_lex.specs.Bytes.{is_letter, is_part, has_pair}

-- a letter or underscore, then letters, digits and underscores
abbrev pub IsWord : List ℕ → Type 0
IsWord [] = ⊥
IsWord (b ∷ bs) = (is_letter b ≡ true) × (list_all is_part bs ≡ true)

abbrev pub grammar_keywords : List Keyword
grammar_keywords = keyword.Class ∷ keyword.Struct ∷ keyword.Public ∷ keyword.Private ∷ keyword.Protected ∷ keyword.Virtual ∷ keyword.Void ∷ keyword.Int ∷ keyword.Unsigned ∷ keyword.True ∷ keyword.False ∷ keyword.Nullptr ∷ keyword.This ∷ keyword.New ∷ keyword.Delete ∷ keyword.Return ∷ keyword.If ∷ keyword.Else ∷ keyword.While ∷ keyword.For ∷ keyword.Aspect ∷ keyword.Advice ∷ keyword.Pointcut ∷ keyword.Slice ∷ keyword.Tjp ∷ keyword.Number num.Bool ∷ keyword.Number num.I8 ∷ keyword.Number num.U8 ∷ keyword.Number num.I16 ∷ keyword.Number num.U16 ∷ keyword.Number num.I32 ∷ keyword.Number num.U32 ∷ keyword.Number num.I64 ∷ keyword.Number num.U64 ∷ []

-- each keyword with its text
abbrev pub keywords : List (List ℕ × Keyword)
keywords = map (λ k. (keyword_text k, k)) grammar_keywords ++ map (λ word. (word, keyword.Reserved)) reserved_words

-- what a table has for a text
abbrev pub entry_of : {A : Type 0} → List (List ℕ × A) → List ℕ → Option A
entry_of [] text = None
entry_of (e ∷ es) text = if bytes_eq text e.0 then Some e.1 else entry_of es text

unfoldable pub keyword_of : List ℕ → Option Keyword
keyword_of text = entry_of keywords text

-- how many bytes a name may have
abbrev pub name_limit : Mode → ℕ
name_limit Source = 64
name_limit Woven = 96

-- whether only a woven text may have the name: two underscores stand side by side in it
abbrev pub is_reserved : Mode → List ℕ → Bool
is_reserved Source text = has_pair 95 95 text
is_reserved Woven text = false

-- what a word is as a name, or the rule that it violates; one that is too long isn't also reserved
abbrev pub name_verdict : Mode → List ℕ → Result TokKind Rule
name_verdict mode text = if nat_lt (name_limit mode) (length text) then Err L5 else (if is_reserved mode text then Err L4 else Ok kind.Name)

abbrev pub by_keyword : Mode → List ℕ → Option Keyword → Result TokKind Rule
by_keyword mode text (Some k) = Ok (kind.Keyword k)
by_keyword mode text None = name_verdict mode text

abbrev pub word_verdict : Mode → List ℕ → Result TokKind Rule
word_verdict mode text = by_keyword mode text (keyword_of text)
