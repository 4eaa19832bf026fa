-- The two directives, which are one token each.
use Rattle.std.specs.Prelude.{◌≡◌, ◌≢◌, ℕ, true, List, [], ◌∷◌, ◌++◌, codes}
use Rattle.std.specs.List.{list_all}
use Rattle.agxx_base.specs.declared.vocabulary.Header.{Header}
use Rattle.agxx_base.specs.Vocabulary.{header_text}
use Rattle.cxx_lex.specs.declared.tok.TokKind.{TokKind}
use Rattle.cxx_lex.specs.declared.tok.TokKind.TheVariants as kind
use Rattle.cxx_lex.specs.Bytes.{is_space}

-- a header between its angle brackets
abbrev pub bracketed : Header → List ℕ
bracketed header = 60 ∷ (header_text header ++ 62 ∷ [])

-- blanks but no newline may stand between the parts, and one at least does between `pragma` and `once`
pub data IsDirective (directive : TokKind) (text : List ℕ) : Type 0 where
  include : (gap other : List ℕ) (header : Header) → list_all is_space gap ≡ true → list_all is_space other ≡ true
      → text ≡ 35 ∷ (gap ++ (codes "include" ++ (other ++ bracketed header))) → directive ≡ kind.Include header → IsDirective directive text
  pragma : (gap other : List ℕ) → list_all is_space gap ≡ true → list_all is_space other ≡ true → other ≢ []
      → text ≡ 35 ∷ (gap ++ (codes "pragma" ++ (other ++ codes "once"))) → directive ≡ kind.PragmaOnce → IsDirective directive text
