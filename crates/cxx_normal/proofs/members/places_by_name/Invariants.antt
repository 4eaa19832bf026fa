use Rattle.std.proofs.Common.{◌≡◌, ℕ, take}
use Rattle.cxx_normal.specs.Places.{ids_at, places_of}
use Rattle.cxx_normal.proofs.members.places_by_name.Given as goal

abbrev pub invariant-loop-place : goal.invariant-loop-place
invariant-loop-place l = (number : ℕ) → ids_at l.places number ≡ places_of number (take l.place l.ids)
