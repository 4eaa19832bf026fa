-- Names that are generated: each is a beginning, and then another name or a number. Numbers of names are those of one
-- table, in which each generated name has a number already.
use Rattle.std.specs.Prelude.{ℕ, List, [], ◌∷◌, ◌++◌, slice_get, unwrap_or}
use Rattle.std.specs.Fmt.{decimal}
use Rattle.agxx_base.specs.Names.{number_of, interned}
use Rattle.agxx_base.specs.declared.ids.NameId.{NameId}

-- a number that is no name's has no text
abbrev pub text_of : List (List ℕ) → NameId → List ℕ
text_of names name = unwrap_or (slice_get names name.0) []

-- the name of this text
abbrev pub named : List (List ℕ) → List ℕ → NameId
named names text = record { 0 = number_of names text }

abbrev pub named_after : List (List ℕ) → List ℕ → NameId → NameId
named_after names beginning name = named names (beginning ++ text_of names name)

abbrev pub numbered : List (List ℕ) → List ℕ → ℕ → NameId
numbered names beginning n = named names (beginning ++ decimal n)

-- the table once each of these texts has a number
abbrev pub all_interned : List (List ℕ) → List (List ℕ) → List (List ℕ)
all_interned names [] = names
all_interned names (text ∷ texts) = all_interned (interned names text) texts
