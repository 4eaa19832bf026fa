-- Which numbers the operators' functions take.
use Rattle.std.specs.Prelude.{◌^◌, Bool, true, false, ℤ, pos, neg_ℤ, ◌≤ℤ◌, ◌<ℤ◌, FitsSigned}
use Rattle.std.specs.Int.{w64, FitsUnsigned}

-- the number fits 64 bits, signed or not
abbrev pub IsWide : ℤ → Type 0
IsWide z = (neg_ℤ (pos (2 ^ 63)) ≤ℤ z) × (z <ℤ pos (2 ^ 64))

-- the number fits 64 bits, signed or not as the flag says
abbrev pub Fits64 : Bool → ℤ → Type 0
Fits64 true z = FitsSigned w64 z
Fits64 false z = FitsUnsigned w64 z
