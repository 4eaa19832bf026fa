-- The numbers and items that words stand for.
use Rattle.std.specs.Prelude.{ℕ, ◌+◌, ◌-◌, ◌*◌, ◌^◌, ◌==◌, min, Bool, ◌&&◌, nat_le, if◌then◌else◌, List, [], ◌∷◌, fold, length, Option, Some, None, unwrap_or, slice_get}
use Rattle.std.specs.List.{list_all}
use Rattle.flip_plan.specs.declared.numbers.Item.{Item}
use Rattle.flip_plan.specs.declared.pieces.Separator.TheVariants as separator
use Rattle.flip_plan.specs.Texts.{Word, parts}

abbrev pub is_digit : ℕ → Bool
is_digit b = nat_le 48 b && nat_le b 57

abbrev pub with_digit : ℕ → ℕ → ℕ
with_digit n b = n * 10 + (b - 48)

-- The number that decimal digits stand for. From 2^32 - 1 on, which is above every limit, it counts as 2^32 - 1.
abbrev pub value : List ℕ → ℕ
value digits = min (fold with_digit 0 digits) (2 ^ 32 - 1)

-- A number is one digit or more, of which any may be 0. Any other word is malformed.
abbrev pub number : List ℕ → Option ℕ
number [] = None
number (b ∷ bs) = if list_all is_digit (b ∷ bs) then Some (value (b ∷ bs)) else None

-- ---- items: `T` for one turn of thread T, and `T*N` for N turns of it

abbrev pub once : Option ℕ → Option Item
once None = None
once (Some thread) = Some (record { thread = thread; count = 1; ahead = 0 })

-- N, which has so many bytes of the item ahead of it, is at least 1
abbrev pub often : ℕ → ℕ → ℕ → Option Item
often ahead thread count = if count == 0 then None else Some (record { thread = thread; count = count; ahead = ahead })

abbrev pub times : ℕ → Option ℕ → Option ℕ → Option Item
times ahead None count = None
times ahead (Some thread) None = None
times ahead (Some thread) (Some count) = often ahead thread count

abbrev pub item_in : List (List ℕ) → Option Item
item_in [] = None
item_in (thread ∷ []) = once (number thread)
item_in (thread ∷ count ∷ []) = times (length thread + 1) (number thread) (number count)
item_in (thread ∷ count ∷ more ∷ rest) = None

-- any other word is malformed
abbrev pub item_of : List ℕ → Option Item
item_of text = item_in (parts separator.Star text)

-- ---- what stands at a place among words, where it is well formed

abbrev pub number_by : Option Word → ℕ
number_by None = 0
number_by (Some word) = unwrap_or (number word.text) 0

abbrev pub number_at : List Word → ℕ → ℕ
number_at words index = number_by (slice_get words index)
