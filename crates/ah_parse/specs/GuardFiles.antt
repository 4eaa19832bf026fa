-- Guard files: aspect files that tell which classes are guarded, and how.
use Rattle.std.specs.Prelude.{◌≡◌, ◌⊎◌, ℕ, Bool, true, false, List, [], ◌++◌, map, filter, flat_map, fold}
use Rattle.std.specs.List.{AllByRecursion}
use Rattle.agxx_base.specs.declared.kind.Mode.TheVariants.{Source}
use Rattle.agxx_base.specs.declared.place.Place.{Place}
use Rattle.agxx_base.specs.Names.{IsDistinct, is_known, interned, number_of}
use Rattle.cxx_lex.specs.declared.tok.TokKind.{TokKind}
use Rattle.cxx_lex.specs.declared.tok.TokKind.TheVariants as kind
use Rattle.cxx_lex.specs.Tokens.{Token, HasTokens}
use Rattle.guards.specs.declared.guard.Guard.{Guard}
use Rattle.ah_parse.specs.declared.aspect.GuardAspect.{GuardAspect}
use Rattle.ah_parse.specs.Aspects.{AreAspects, word_of, spelled}

abbrev pub names_of : List GuardAspect → List (List ℕ)
names_of = map (λ (a : GuardAspect). a.name)

-- The names differ from each other and from those that are taken.
abbrev pub AreApart : List (List ℕ) → List (List ℕ) → Type 0
AreApart taken names = IsDistinct names × AllByRecursion (λ name. is_known taken name ≡ false) names

-- The text of the file of this number has tokens, which are these aspects, whose names differ from those taken before.
pub record IsGuardFile (file : ℕ) (taken : List (List ℕ)) (text : List ℕ) (aspects : List GuardAspect) : Type 0 where
  pub tokens : List Token
  pub end : Place
  pub read : HasTokens Source file text tokens end
  pub are : AreAspects aspects tokens []
  pub apart : AreApart taken (names_of aspects)

-- the names that are taken behind a file of these aspects
abbrev pub taken_after : List (List ℕ) → List GuardAspect → List (List ℕ)
taken_after taken aspects = fold interned taken (names_of aspects)

-- The list is the other one, or has more at its end.
abbrev pub GrowsTo : List (List ℕ) → List (List ℕ) → Type 0
GrowsTo old new = (more : List (List ℕ)) × (new ≡ old ++ more)

-- ---- names in a program

abbrev pub is_name : TokKind → Bool
is_name kind.Name = true
is_name _ = false

-- the names that stand as tokens
abbrev pub names_among : List Token → List (List ℕ)
names_among tokens = map (λ (t : Token). t.text) (filter (λ (t : Token). is_name t.kind) tokens)

-- each of them once
abbrev pub names_in : List Token → List (List ℕ)
names_in tokens = fold interned [] (names_among tokens)

-- ---- guards

-- an aspect's guard for a class
abbrev pub guard_by : List (List ℕ) → GuardAspect → List ℕ → Guard
guard_by names aspect class = record { class = record { 0 = number_of names class }; kind = aspect.kind; at = aspect.at }

abbrev pub guards_by : List (List ℕ) → GuardAspect → List Guard
guards_by names aspect = map (guard_by names aspect) aspect.classes

-- the guards of all aspects, in the order of the classes
abbrev pub guards_of : List (List ℕ) → List GuardAspect → List Guard
guards_of names aspects = flat_map (guards_by names) aspects

-- ---- laws

-- A text is a guard file in one way.
abbrev pub HasOneMeaning : Type 0
HasOneMeaning = (file : ℕ) (taken : List (List ℕ)) (text : List ℕ) (ones others : List GuardAspect)
    → IsGuardFile file taken text ones → IsGuardFile file taken text others → ones ≡ others

-- Its words are those of its aspects.
abbrev pub IsSpelled : Type 0
IsSpelled = (file : ℕ) (taken : List (List ℕ)) (text : List ℕ) (aspects : List GuardAspect)
    → (is : IsGuardFile file taken text aspects) → map word_of is.tokens ≡ flat_map spelled aspects

-- Each text is a guard file or none.
abbrev pub IsAlwaysOneOrNone : Type 0
IsAlwaysOneOrNone = (file : ℕ) (taken : List (List ℕ)) (text : List ℕ)
    → ((aspects : List GuardAspect) × IsGuardFile file taken text aspects) ⊎ ((aspects : List GuardAspect) → IsGuardFile file taken text aspects → ⊥)
