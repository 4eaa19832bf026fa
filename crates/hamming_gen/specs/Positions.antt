-- Positions: members and check words have numbers from 1 on. The check words have the powers of two, in order, and the
-- members the other numbers, in order.
use Rattle.std.specs.Prelude.{ℕ, zero, suc, ◌+◌, ◌^◌, Bool, leb, List, [], ◌∷◌, if◌then◌else◌}
use Rattle.std.specs.Int.{is_power_of_two}

-- whether so many check words are enough for k members
abbrev pub is_enough : ℕ → ℕ → Bool
is_enough k r = leb (k + r + 1) (2 ^ r)

-- the first number from r on that is enough, among so many
abbrev pub enough_from : ℕ → ℕ → ℕ → ℕ
enough_from k r zero = r
enough_from k r (suc more) = if is_enough k r then r else enough_from k (suc r) more

-- how many check words k members have: the least number r with 2 ^ r at least k + r + 1, which is at most k + 1
unfoldable pub check_words : ℕ → ℕ
check_words k = enough_from k 0 (k + 1)

-- the next number from 4 on that is no power of two
abbrev pub next_position : ℕ → ℕ
next_position p = if is_power_of_two (p + 1) then p + 2 else p + 1

-- this position and the next ones, so many
abbrev pub positions_from : ℕ → ℕ → List ℕ
positions_from p zero = []
positions_from p (suc more) = p ∷ positions_from (next_position p) more

-- the positions of k members: the first k numbers from 3 on that are no powers of two
abbrev pub positions : ℕ → List ℕ
positions k = positions_from 3 k
