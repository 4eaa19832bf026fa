-- What is known of a printer while it prints, and what a call of it adds to the text.
use Rattle.std.specs.Prelude.{ℕ, ◌≡◌, ◌≤◌, ◌+◌, ◌-◌, ◌^◌, min, Bool, true, false, List, [], ◌∷◌, ◌++◌, length, take, drop, Option}
use Rattle.agxx_base.specs.Causes.{Rose}
use Rattle.agxx_base.specs.Sink.{appended}
use Rattle.cxx_print.specs.Document.{Document, nothing, one, ◌⨾◌}
use Rattle.cxx_print.specs.Texts.{part_text}

-- the texts of the names, the bytes that the sink wasn't given yet, whether it failed, and how many bytes the text has so
-- far, up to the last number of 64 bits
pub record State : Type 0 where
  pub names : List (List ℕ)
  pub held : List ℕ
  pub failed : Bool
  pub count : ℕ

-- a printer at its start
abbrev pub begun : List (List ℕ) → State
begun names = record { names = names; held = []; failed = false; count = 0 }

abbrev pub with_byte : State → ℕ → State
with_byte s b = record s { held = s.held ++ b ∷ []; count = min (s.count + 1) (2 ^ 64 - 1) }

-- a text with a document behind it
abbrev pub text_with : List (List ℕ) → List ℕ → Document → List ℕ
text_with names text nothing = text
text_with names text (one part) = text ++ part_text names part
text_with names text (first ⨾ second) = text_with names (text_with names text first) second

-- The text so far, where these are what the sink had taken and its faults as the text began: a front of it was given to
-- the sink, and all that follows is held unless the sink failed.
pub record IsAt (began : Option (List ℕ)) (first : ℕ) (text : List ℕ) (state : State) (taken : Option (List ℕ)) (faults : ℕ) : Type 0 where
  pub count : state.count ≡ min (length text) (2 ^ 64 - 1)
  pub later : first ≤ faults
  pub given : ℕ
  pub front : given ≤ length text
  pub taken_is : taken ≡ appended began (take given text)
  pub rest : state.failed ≡ false → state.held ≡ drop given text
  pub rose : state.failed ≡ true → Rose first faults

-- these bytes go to the end of whatever text it is
pub record Appends {S : Type 0} (taken : S → Option (List ℕ)) (faults : S → ℕ) (before after : State × S) (bytes : List ℕ) : Type 0 where
  pub names : after.0.names ≡ before.0.names
  pub goes : (began : Option (List ℕ)) (first : ℕ) (text : List ℕ) → IsAt began first text before.0 (taken before.1) (faults before.1) → IsAt began first (text ++ bytes) after.0 (taken after.1) (faults after.1)

-- this document goes to the end of whatever text it is
pub record Prints {S : Type 0} (taken : S → Option (List ℕ)) (faults : S → ℕ) (before after : State × S) (d : Document) : Type 0 where
  pub names : after.0.names ≡ before.0.names
  pub goes : (began : Option (List ℕ)) (first : ℕ) (text : List ℕ) → IsAt began first text before.0 (taken before.1) (faults before.1) → IsAt began first (text_with before.0.names text d) after.0 (taken after.1) (faults after.1)
