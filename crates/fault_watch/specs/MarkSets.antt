-- Which parts a set has, each by the number of its object and the number of its class.
use Rattle.std.specs.Prelude.{ℕ, Bool, false, List, if◌then◌else◌}
use Rattle.std.specs.List.{list_any}
use Rattle.agxx_base.specs.declared.ids.ClassId.{ClassId}
use Rattle.fault_lines.specs.Marks.{Marks, is_part}

abbrev pub MarkSet : Type 0
MarkSet = List (ℕ × ℕ)

abbrev pub class_of : ℕ → ClassId
class_of n = record { 0 = n }

abbrev pub is_key : ℕ → ClassId → ℕ × ℕ → Bool
is_key o class key = is_part key.0 (class_of key.1) o class

unfoldable pub has : MarkSet → Marks
has keys o class = list_any (is_key o class) keys

abbrev pub without_mark : ℕ → ClassId → Marks → Marks
without_mark o class marks p k = if is_part o class p k then false else marks p k
