-- What the words of a command line mean.
use Rattle.std.specs.Prelude.{◌≡◌, ◌≢◌, ◌≤◌, ◌<◌, ◌-◌, ℕ, ⊤, List, [], ◌∷◌, Some, drop, length, slice_get, codes}
use Rattle.std.specs.Str.{IsUtf8}
use Rattle.agxx_base.specs.Sizes.{largest_text, largest_source}
use Rattle.agxx_calls.specs.declared.command.Call.{Call}
use Rattle.agxx_calls.specs.declared.command.Command.{Command}
use Rattle.agxx_calls.specs.declared.command.Command.TheVariants as command
use Rattle.agxx_calls.specs.declared.command.File.{File}
use Rattle.agxx_calls.specs.declared.command.Kind.{Kind}
use Rattle.agxx_calls.specs.declared.command.Kind.TheVariants as kind

-- ---- names of files

-- A word that may name a file: text of at most 255 bytes that doesn't begin with `-`.
pub record IsName (word : List ℕ) : Type 0 where
  pub text : IsUtf8 word
  pub no_option : slice_get word 0 ≢ Some 45
  pub short : length word ≤ 255

-- one that ends in `.cc`, with something before it
pub record IsProgramName (word : List ℕ) : Type 0 where
  pub name : IsName word
  pub more : 3 < length word
  pub ending : drop (length word - 3) word ≡ codes ".cc"

-- one that ends in `.plan`, with something before it
pub record IsPlanName (word : List ℕ) : Type 0 where
  pub name : IsName word
  pub more : 5 < length word
  pub ending : drop (length word - 5) word ≡ codes ".plan"

-- one that ends in `.ah`, with something before it
pub record IsAspectName (word : List ℕ) : Type 0 where
  pub name : IsName word
  pub more : 3 < length word
  pub ending : drop (length word - 3) word ≡ codes ".ah"

-- the names of a kind of file
abbrev pub IsNameOf : Kind → List ℕ → Type 0
IsNameOf kind.Woven word = IsProgramName word
IsNameOf kind.Source word = IsProgramName word
IsNameOf kind.Plan word = IsPlanName word
IsNameOf kind.Aspects word = IsAspectName word

-- the most bytes of such a file
abbrev pub limit_of : Kind → ℕ
limit_of kind.Woven = largest_text
limit_of kind.Source = largest_source
limit_of kind.Plan = largest_text
limit_of kind.Aspects = largest_source

-- ---- the rows: each command has its word and the kinds of its files, in the order of the words: those that stand first,
-- and then more of one kind, so many at most

abbrev pub word_of : Command → List ℕ
word_of command.Weave = codes "weave"
word_of command.Exec = codes "exec"
word_of command.Run = codes "run"
word_of command.Source = codes "source"

abbrev pub kinds_of : Command → List Kind
kinds_of command.Weave = kind.Source ∷ []
kinds_of command.Exec = kind.Woven ∷ []
kinds_of command.Run = kind.Plan ∷ kind.Source ∷ []
kinds_of command.Source = kind.Plan ∷ kind.Source ∷ []

abbrev pub more_of : Command → Kind
more_of command.Weave = kind.Aspects
more_of command.Exec = kind.Plan
more_of command.Run = kind.Aspects
more_of command.Source = kind.Aspects

-- how many aspect files there may be
abbrev pub most_aspect_files : ℕ
most_aspect_files = 64

abbrev pub most_of : Command → ℕ
most_of command.Weave = most_aspect_files
most_of command.Exec = 1
most_of command.Run = most_aspect_files
most_of command.Source = most_aspect_files

-- ---- what words mean

-- all words name files of this kind
abbrev pub AreMore : Kind → List (List ℕ) → Type 0
AreMore kind [] = ⊤
AreMore kind (word ∷ words) = IsNameOf kind word × AreMore kind words

-- words name files of these kinds, in this order, and then at most so many more of one kind
abbrev pub AreNames : List Kind → Kind → ℕ → List (List ℕ) → Type 0
AreNames [] more most words = (length words ≤ most) × AreMore more words
AreNames (kind ∷ kinds) more most [] = ⊥
AreNames (kind ∷ kinds) more most (word ∷ words) = IsNameOf kind word × AreNames kinds more most words

abbrev pub file : Kind → List ℕ → File
file kind name = record { kind = kind; name = name }

-- these files
abbrev pub files_of : List Kind → Kind → List (List ℕ) → List File
files_of kinds more [] = []
files_of [] more (word ∷ words) = file more word ∷ files_of [] more words
files_of (kind ∷ kinds) more (word ∷ words) = file kind word ∷ files_of kinds more words

-- a word is the command's, and the names are those of its files
abbrev pub IsMeant : Command → List ℕ → List (List ℕ) → Type 0
IsMeant command word names = (word ≡ word_of command) × AreNames (kinds_of command) (more_of command) (most_of command) names

-- none of these commands is meant
abbrev pub IsNone : List Command → List ℕ → List (List ℕ) → Type 0
IsNone [] word names = ⊤
IsNone (command ∷ commands) word names = (IsMeant command word names → ⊥) × IsNone commands word names

-- The words are a command's word and names of its files.
abbrev pub Means : List (List ℕ) → Call → Type 0
Means [] call = ⊥
Means (word ∷ names) call = IsMeant call.command word names × (call.files ≡ files_of (kinds_of call.command) (more_of call.command) names)

-- some command
abbrev pub HasCall : List (List ℕ) → Type 0
HasCall words = (call : Call) × Means words call

-- no command
abbrev pub IsUsage : List (List ℕ) → Type 0
IsUsage words = (call : Call) → Means words call → ⊥
