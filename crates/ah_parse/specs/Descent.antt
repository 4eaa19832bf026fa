-- What the functions that read an aspect tell of the tokens.
use Rattle.std.specs.Prelude.{◌≡◌, ◌≢◌, ℕ, Bool, true, false, List, [], ◌∷◌, ◌++◌, Some, map, codes, slice_get}
use Rattle.std.specs.List.{AllByRecursion}
use Rattle.agxx_base.specs.declared.vocabulary.Keyword.TheVariants as kw
use Rattle.agxx_base.specs.declared.vocabulary.Sign.TheVariants as sg
use Rattle.agxx_base.specs.Names.{is_known}
use Rattle.cxx_lex.specs.declared.tok.TokKind.{TokKind}
use Rattle.cxx_lex.specs.Tokens.{Token}
use Rattle.cxx_lex.specs.Words.{IsWord}
use Rattle.guards.specs.declared.guard.GuardKind.{GuardKind}
use Rattle.ah_parse.specs.declared.fixed.Fixed.{Fixed}
use Rattle.ah_parse.specs.declared.fixed.Fixed.TheVariants as fixed
use Rattle.ah_parse.specs.declared.aspect.GuardAspect.{GuardAspect}
use Rattle.ah_parse.specs.Aspects.{Word, word_of, keyword, sign, name, base_of, quoted, joined, heading, built_in, Begins, IsAspect, AreAspects}
use Rattle.ah_parse.specs.GuardFiles.{AreApart, names_of}

-- a word that stands in each aspect
abbrev pub fixed_word : Fixed → Word
fixed_word fixed.Aspect = keyword kw.Aspect
fixed_word fixed.Colon = sign sg.Colon
fixed_word fixed.Public = keyword kw.Public
fixed_word (fixed.Base guard) = name (base_of guard)
fixed_word fixed.OpenBrace = sign sg.OpenBrace
fixed_word fixed.Pointcut = keyword kw.Pointcut
fixed_word fixed.Guarded = name (codes "guarded")
fixed_word fixed.OpenParen = sign sg.OpenParen
fixed_word fixed.CloseParen = sign sg.CloseParen
fixed_word fixed.Assign = sign sg.Assign
fixed_word fixed.OrOr = sign sg.OrOr
fixed_word fixed.Semicolon = sign sg.Semicolon
fixed_word fixed.CloseBrace = sign sg.CloseBrace

abbrev pub fixed_kind : Fixed → TokKind
fixed_kind word = (fixed_word word).0

abbrev pub fixed_text : Fixed → List ℕ
fixed_text word = (fixed_word word).1

abbrev pub fixed_words : List Fixed → List Word
fixed_words = map fixed_word

-- No rest stands behind these words.
abbrev pub NeverBegins : List Word → List Token → Type 0
NeverBegins words tokens = (rest : List Token) → Begins words tokens rest → ⊥

-- The tokens begin with no aspect.
abbrev pub IsNoAspect : List Token → Type 0
IsNoAspect tokens = (aspect : GuardAspect) (rest : List Token) → IsAspect aspect tokens rest → ⊥

-- The tokens begin with a name that an aspect may have.
pub record IsName (named : Token) (tokens rest : List Token) : Type 0 where
  pub words : Begins (name named.text ∷ []) tokens rest
  pub first : tokens ≡ named ∷ rest
  pub own : is_known built_in named.text ≡ false

abbrev pub IsNoName : List Token → Type 0
IsNoName tokens = (named : Token) (rest : List Token) → IsName named tokens rest → ⊥

-- What stands behind an aspect's name, up to its first class, doesn't come next.
abbrev pub IsNoOpening : List Token → Type 0
IsNoOpening tokens = (guard : GuardKind) → NeverBegins (heading guard) tokens

-- An aspect of this name begins, which guards in this way, and its classes are to come.
pub record IsHeading (guard : GuardKind) (named : Token) (tokens rest : List Token) : Type 0 where
  pub words : Begins (keyword kw.Aspect ∷ name named.text ∷ heading guard) tokens rest
  pub place : slice_get tokens 1 ≡ Some named
  pub own : is_known built_in named.text ≡ false

abbrev pub IsNoHeading : List Token → Type 0
IsNoHeading tokens = (guard : GuardKind) (named : Token) (rest : List Token) → IsHeading guard named tokens rest → ⊥

-- some classes and the `;` behind them
abbrev pub listed : List (List ℕ) → List Word
listed classes = joined classes ++ sign sg.Semicolon ∷ []

pub record AreClasses (classes : List (List ℕ)) (tokens rest : List Token) : Type 0 where
  pub words : Begins (listed classes) tokens rest
  pub some : classes ≢ []
  pub plain : AllByRecursion IsWord classes

abbrev pub AreNoClasses : List Token → Type 0
AreNoClasses tokens = (classes : List (List ℕ)) (rest : List Token) → AreClasses classes tokens rest → ⊥

-- The token is a class's name between quotes.
abbrev pub IsQuoted : List ℕ → Token → Type 0
IsQuoted class token = IsWord class × (word_of token ≡ quoted class)

abbrev pub IsNoQuoted : List Token → Type 0
IsNoQuoted tokens = (class : List ℕ) (rest : List Token) → IsWord class → Begins (quoted class ∷ []) tokens rest → ⊥

-- the sign behind a class: `;` behind the last, else `||`
abbrev pub ending : Bool → Word
ending true = sign sg.Semicolon
ending false = sign sg.OrOr

-- The tokens begin with this sign.
abbrev pub IsEnd : Bool → List Token → List Token → Type 0
IsEnd last tokens rest = Begins (ending last ∷ []) tokens rest

abbrev pub IsNoEnd : List Token → Type 0
IsNoEnd tokens = (last : Bool) (rest : List Token) → IsEnd last tokens rest → ⊥

-- The tokens begin with a class and the sign behind it.
abbrev pub IsClass : List ℕ → Bool → List Token → List Token → Type 0
IsClass class last tokens rest = IsWord class × Begins (quoted class ∷ ending last ∷ []) tokens rest

abbrev pub IsNoClass : List Token → Type 0
IsNoClass tokens = (class : List ℕ) (last : Bool) (rest : List Token) → IsClass class last tokens rest → ⊥

-- The same, and the aspect's name isn't taken.
abbrev pub IsFresh : List (List ℕ) → GuardAspect → List Token → List Token → Type 0
IsFresh taken aspect tokens rest = IsAspect aspect tokens rest × (is_known taken aspect.name ≡ false)

abbrev pub IsNoFresh : List (List ℕ) → List Token → Type 0
IsNoFresh taken tokens = (aspect : GuardAspect) (rest : List Token) → IsFresh taken aspect tokens rest → ⊥

-- The tokens are these aspects, and their names differ from those that are taken.
abbrev pub AreFile : List (List ℕ) → List GuardAspect → List Token → Type 0
AreFile taken aspects tokens = AreAspects aspects tokens [] × AreApart taken (names_of aspects)

abbrev pub AreNoFile : List (List ℕ) → List Token → Type 0
AreNoFile taken tokens = (aspects : List GuardAspect) → AreFile taken aspects tokens → ⊥
