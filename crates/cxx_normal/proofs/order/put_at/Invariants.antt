use Rattle.std.proofs.Common.{◌≡◌, ℕ, nat_eq, if◌then◌else◌, Some, take}
use Rattle.std.specs.BTreeMap.{get}
use Rattle.std.specs.List.{list_any}
use Rattle.std.specs.Ordering.{nat_cmp}
use Rattle.cxx_normal.proofs.order.put_at.Given as goal

abbrev pub invariant-loop-place : goal.invariant-loop-place
invariant-loop-place l =
    (place : ℕ) → get nat_cmp l.numbers place ≡ (if list_any (nat_eq place) (take l.place-index l.places) then Some l.number else get nat_cmp l.initial.numbers place)
