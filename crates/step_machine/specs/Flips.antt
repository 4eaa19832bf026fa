-- A bit of an object's word is inverted.
use Rattle.std.specs.Prelude.{ℕ, ◌^◌, length, sum_by, Bool, true, false, nat_lt, bit_xor, if◌then◌else◌, List, [], ◌∷◌, ◌++◌, slice_get, Option, Some, None}
use Rattle.agxx_base.specs.declared.ids.ClassId.{ClassId}
use Rattle.cxx_arith.specs.Kinds.{width}
use Rattle.cxx_core.specs.CoreProgram.{CoreWord, CoreClass}
use Rattle.step_machine.specs.Setting.{Setting, lineage}
use Rattle.step_machine.specs.World.{word_at, class_at, with_word, object_changed}
use Rattle.step_machine.specs.Machine.{Machine}
use Rattle.step_machine.specs.Total.{Total, stored}

-- of a class and those above it, the words of the topmost first
abbrev pub words_in : List CoreClass → List CoreWord
words_in [] = []
words_in (c ∷ cs) = words_in cs ++ c.words

-- how many words a class and those above it have
abbrev pub word_count : List CoreClass → ℕ
word_count cs = sum_by (λ c. length c.words) cs

-- the words of an object of a class
abbrev pub words_of : Setting → ClassId → List CoreWord
words_of s class = words_in (lineage s (Some class))

abbrev pub width_by : Option CoreWord → ℕ
width_by None = 0
width_by (Some word) = width word.kind

-- how many bits a word of an object of a class has; none where there is no such word
abbrev pub width_of : Setting → ClassId → ℕ → ℕ
width_of s class w = width_by (slice_get (words_of s class) w)

abbrev pub is_bit : Setting → Option ClassId → ℕ → ℕ → Bool
is_bit s None w bit = false
is_bit s (Some class) w bit = nat_lt bit (width_of s class w)

abbrev pub inverted : ℕ → ℕ → ℕ
inverted bits bit = bit_xor bits (2 ^ bit)

-- the machine after a flip, and whether a bit changed
abbrev pub Flipped : Type 0
Flipped = Machine × Bool

abbrev pub with_bits : ℕ → ℕ → ℕ → Machine → Machine
with_bits o w bits m = record m { world = object_changed o (with_word w bits) m.world }

abbrev pub flipped_by : Option ℕ → ℕ → ℕ → ℕ → Machine → Flipped
flipped_by None o w bit m = (m, false)
flipped_by (Some bits) o w bit m =
    if is_bit m.setting (class_at m.world o) w bit then (with_bits o w (inverted bits bit) m, true) else (m, false)

-- Where the object is live, has such a word and the bit is one of it, the bit is inverted. Else nothing changes.
unfoldable pub flipped : ℕ → ℕ → ℕ → Machine → Flipped
flipped o w bit m = flipped_by (word_at m.world o w) o w bit m

-- ---- the same on the state as functions

abbrev pub FlippedOf : Type 0
FlippedOf = Total × Bool

abbrev pub with_bits_of : ℕ → ℕ → ℕ → Total → Total
with_bits_of o w bits m = record m { word = stored m.word o w bits }

abbrev pub flipped_of_by : Option ℕ → ℕ → ℕ → ℕ → Total → FlippedOf
flipped_of_by None o w bit m = (m, false)
flipped_of_by (Some bits) o w bit m =
    if is_bit m.setting (m.class o) w bit then (with_bits_of o w (inverted bits bit) m, true) else (m, false)

unfoldable pub flipped_of : ℕ → ℕ → ℕ → Total → FlippedOf
flipped_of o w bit m = flipped_of_by (m.word o w) o w bit m
