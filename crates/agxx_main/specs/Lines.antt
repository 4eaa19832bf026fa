-- The lines that go to standard error.
use Rattle.std.specs.Prelude.{ℕ, List, [], ◌∷◌, ◌++◌, codes}
use Rattle.std.specs.Fmt.{decimal}
use Rattle.agxx_base.specs.Rules.{code_of, message_of}
use Rattle.agxx_base.specs.declared.fault.Refusal.{Refusal}

abbrev pub usage_line : List ℕ
usage_line = codes "usage: agxx weave CC AH.. | exec CC [PLAN] | run PLAN CC AH.. | source PLAN CC AH.. | points CC AH.. | demo N\n"

abbrev pub unreadable_line : List ℕ → List ℕ
unreadable_line file = codes "agxx: cannot read " ++ file ++ 10 ∷ []

-- the file, the line and the column, the rule and what it says
abbrev pub refusal_line : List ℕ → Refusal → List ℕ
refusal_line file refusal =
    file ++ codes ":" ++ decimal refusal.place.line ++ codes ":" ++ decimal refusal.place.column ++ codes ": " ++ code_of refusal.rule ++ codes ": " ++ message_of refusal.rule ++ 10 ∷ []
