-- What writing to a sink answers, piece by piece and whole.
use Rattle.std.specs.Prelude.{ℕ, ◌≡◌, ◌≤◌, ◌<◌, List, ◌++◌, length, take, Option, option_map, Result, IfOk, OnOk, OnErr}
use Rattle.agxx_base.specs.Causes.{Rose}
use Rattle.agxx_base.specs.Pieces.{bytes_of}
use Rattle.agxx_base.specs.declared.piece.Piece.{Piece}
use Rattle.agxx_base.specs.declared.fault.Failed.{Failed}

-- the bytes taken once these are appended, told where they were told before
abbrev pub appended : Option (List ℕ) → List ℕ → Option (List ℕ)
appended taken bytes = option_map (λ had. had ++ bytes) taken

-- What a write answers: at Ok(n) the first n bytes of the piece were appended, some where there were any. A failed write
-- appends nothing.
pub record Takes (before after : Option (List ℕ)) (piece : Piece) (result : Result ℕ Failed) : Type 0 where
  pub count : IfOk result (λ n. (n ≤ piece.len) × (0 < piece.len → 0 < n))
  pub appends : IfOk result (λ n. after ≡ appended before (take n (bytes_of piece)))
  pub failed : OnErr result (after ≡ before)

-- What writing a list of bytes answers, whatever calls it takes: at Ok all of them were appended. After an error a prefix
-- was, and the count of faults rose.
pub record WritesWhole {T E : Type 0} (taken taken_after : Option (List ℕ)) (bytes : List ℕ) (before now : ℕ) (result : Result T E) : Type 0 where
  pub later : before ≤ now
  pub all : OnOk result (taken_after ≡ appended taken bytes)
  pub prefix : OnErr result ((n : ℕ) × (n ≤ length bytes) × (taken_after ≡ appended taken (take n bytes)))
  pub failed : OnErr result (Rose before now)
