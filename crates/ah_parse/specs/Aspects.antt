-- An aspect that guards classes, as words.
use Rattle.std.specs.Prelude.{◌≡◌, ◌≢◌, ℕ, false, List, [], ◌∷◌, ◌++◌, Some, slice_get, codes, option_map}
use Rattle.std.specs.List.{AllByRecursion}
use Rattle.agxx_base.specs.declared.vocabulary.Keyword.{Keyword}
use Rattle.agxx_base.specs.declared.vocabulary.Keyword.TheVariants as kw
use Rattle.agxx_base.specs.declared.vocabulary.Sign.{Sign}
use Rattle.agxx_base.specs.declared.vocabulary.Sign.TheVariants as sg
use Rattle.agxx_base.specs.Names.{is_known}
use Rattle.agxx_base.specs.Vocabulary.{keyword_text, sign_text}
use Rattle.cxx_lex.specs.declared.tok.TokKind.{TokKind}
use Rattle.cxx_lex.specs.declared.tok.TokKind.TheVariants as kind
use Rattle.cxx_lex.specs.Tokens.{Token}
use Rattle.cxx_lex.specs.Words.{IsWord}
use Rattle.guards.specs.declared.guard.GuardKind.{GuardKind}
use Rattle.guards.specs.declared.guard.GuardKind.TheVariants.{Copies, Hamming}
use Rattle.ah_parse.specs.declared.aspect.GuardAspect.{GuardAspect}

-- what a token is, wherever it stands: its kind and its text
abbrev pub Word : Type 0
Word = TokKind × List ℕ

abbrev pub word_of : Token → Word
word_of t = (t.kind, t.text)

abbrev pub keyword : Keyword → Word
keyword k = (kind.Keyword k, keyword_text k)

abbrev pub sign : Sign → Word
sign s = (kind.Sign s, sign_text s)

abbrev pub name : List ℕ → Word
name text = (kind.Name, text)

-- a class's name between quotes
abbrev pub quoted : List ℕ → Word
quoted class = (kind.Text, 34 ∷ (class ++ 34 ∷ []))

-- further classes, each behind `||`
abbrev pub further : List (List ℕ) → List Word
further [] = []
further (class ∷ classes) = sign sg.OrOr ∷ quoted class ∷ further classes

-- the classes, joined by `||`
abbrev pub joined : List (List ℕ) → List Word
joined [] = []
joined (class ∷ classes) = quoted class ∷ further classes

-- the built-in aspect that an aspect goes by
abbrev pub base_of : GuardKind → List ℕ
base_of Copies = codes "GOP_Copies"
base_of Hamming = codes "GOP_Hamming"

-- the names of built-in aspects
abbrev pub built_in : List (List ℕ)
built_in = base_of Copies ∷ base_of Hamming ∷ []

-- behind the name, up to the first class: `: public BASE { pointcut guarded() =`
abbrev pub heading : GuardKind → List Word
heading guard =
    sign sg.Colon ∷ keyword kw.Public ∷ name (base_of guard) ∷ sign sg.OpenBrace
    ∷ keyword kw.Pointcut ∷ name (codes "guarded") ∷ sign sg.OpenParen ∷ sign sg.CloseParen ∷ sign sg.Assign ∷ []

-- behind the last class
abbrev pub closing : List Word
closing = sign sg.Semicolon ∷ sign sg.CloseBrace ∷ sign sg.Semicolon ∷ []

-- the words of an aspect
abbrev pub spelled : GuardAspect → List Word
spelled aspect =
    keyword kw.Aspect ∷ name aspect.name ∷ (heading aspect.kind ++ joined aspect.classes ++ closing)

-- The tokens begin with these words, and the rest stands behind them.
abbrev pub Begins : List Word → List Token → List Token → Type 0
Begins [] tokens rest = tokens ≡ rest
Begins (word ∷ words) [] rest = ⊥
Begins (word ∷ words) (t ∷ ts) rest = (word_of t ≡ word) × Begins words ts rest

-- The tokens begin with an aspect, and the rest stands behind it. Its place is that of its name, the second token.
pub record IsAspect (aspect : GuardAspect) (tokens rest : List Token) : Type 0 where
  pub words : Begins (spelled aspect) tokens rest
  pub place : option_map (λ (t : Token). t.at) (slice_get tokens 1) ≡ Some aspect.at
  pub own : is_known built_in aspect.name ≡ false
  pub some : aspect.classes ≢ []
  pub plain : AllByRecursion IsWord aspect.classes

-- The tokens begin with these aspects, one behind the other, and the rest stands behind them.
abbrev pub AreAspects : List GuardAspect → List Token → List Token → Type 0
AreAspects [] tokens rest = tokens ≡ rest
AreAspects (aspect ∷ aspects) tokens rest =
    (left : List Token) × IsAspect aspect tokens left × AreAspects aspects left rest
