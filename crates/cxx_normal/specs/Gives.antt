-- What a function of the code that numbers a part returned, and the number that comes next.
use Rattle.std.specs.Prelude.{◌≡◌, ℕ, List, ◌++◌, map, Result, Ok, Err}

-- the part, seen by view, and the number after its last, unless memory ran out
abbrev pub Gives : {A T E : Type 0} → (T → A) → A × ℕ → Result T E → ℕ → Type 0
Gives view wanted (Ok t) next = (view t ≡ wanted.0) × (next ≡ wanted.1)
Gives view wanted (Err e) next = Unit {0}

-- parts put behind others
abbrev pub behind : {A : Type 0} → List A → List A × ℕ → List A × ℕ
behind front w = (front ++ w.0, w.1)

-- the parts behind those that were there, and the number after their last, unless memory ran out
abbrev pub Adds : {A T U E : Type 0} → (T → A) → List A × ℕ → Result U E → List T → List T → ℕ → Type 0
Adds view wanted (Ok u) old new next = (map view new ≡ map view old ++ wanted.0) × (next ≡ wanted.1)
Adds view wanted (Err e) old new next = Unit {0}
