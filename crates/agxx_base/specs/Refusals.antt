-- The order of refusals, and the one that is told of several.
use Rattle.std.specs.Prelude.{ℕ, ◌≡◌, ◌⊎◌, Bool, true, false, nat_lt, if◌then◌else◌}
use Rattle.std.specs.Prelude.{List, [], ◌∷◌, Option, Some, None}
use Rattle.agxx_base.specs.declared.fault.Fault.{Fault}
use Rattle.agxx_base.specs.declared.fault.Fault.TheVariants as fault
use Rattle.agxx_base.specs.declared.fault.Refusal.{Refusal}
use Rattle.agxx_base.specs.declared.rule.Rule.{Rule}
use Rattle.agxx_base.specs.declared.rule.Rule.TheVariants as rule

-- the place of each rule among all
abbrev pub rank : Rule → ℕ
rank rule.S1 = 1
rank rule.F1 = 2
rank rule.F2 = 3
rank rule.F3 = 4
rank rule.F4 = 5
rank rule.F5 = 6
rank rule.L1 = 7
rank rule.L2 = 8
rank rule.L3 = 9
rank rule.L4 = 10
rank rule.L5 = 11
rank rule.G1 = 12
rank rule.G2 = 13
rank rule.A3 = 14
rank rule.N1 = 15
rank rule.N2 = 16
rank rule.N3 = 17
rank rule.N4 = 18
rank rule.N5 = 19
rank rule.N6 = 20
rank rule.N7 = 21
rank rule.N8 = 22
rank rule.N9 = 23
rank rule.N10 = 24
rank rule.A1 = 25
rank rule.A2 = 26
rank rule.A5 = 27
rank rule.A7 = 28
rank rule.A8 = 29
rank rule.A9 = 30
rank rule.A4 = 31
rank rule.A6 = 32
rank rule.A10 = 33
rank rule.P1 = 34
rank rule.P2 = 35
rank rule.P3 = 36
rank rule.P4 = 37
rank rule.P5 = 38
rank rule.W2 = 39
rank rule.W1 = 40
rank rule.U1 = 41

-- by the first numbers, and where these are equal by what else there is
abbrev pub then_by : ℕ → ℕ → Bool → Bool
then_by a b otherwise = if nat_lt a b then true else (if nat_lt b a then false else otherwise)

-- by place, and at one place by rule
abbrev pub is_before : Refusal → Refusal → Bool
is_before a b =
    then_by a.place.file b.place.file
    (then_by a.place.line b.place.line
    (then_by a.place.column b.place.column (nat_lt (rank a.rule) (rank b.rule))))

-- the first of what is found and another
abbrev pub nearer : Option Refusal → Refusal → Option Refusal
nearer None other = Some other
nearer (Some one) other = if is_before other one then Some other else Some one

abbrev pub least_from : Option Refusal → List Refusal → Option Refusal
least_from found [] = found
least_from found (r ∷ rs) = least_from (nearer found r) rs

-- the first of several
abbrev pub least : List Refusal → Option Refusal
least = least_from None

-- ---- what the first is

abbrev pub IsAmong : Refusal → List Refusal → Type 0
IsAmong r [] = ⊥
IsAmong r (x ∷ xs) = (r ≡ x) ⊎ IsAmong r xs

-- it is one of them, and none of them is before it
pub record IsLeast (rs : List Refusal) (r : Refusal) : Type 0 where
  pub one : IsAmong r rs
  pub first : (x : Refusal) → IsAmong x rs → is_before x r ≡ false

-- so is the first of several, and there is no first only where there are none
pub record LeastIsLeast : Type 0 where
  pub some : (rs : List Refusal) (r : Refusal) → least rs ≡ Some r → IsLeast rs r
  pub none : (rs : List Refusal) → least rs ≡ None → rs ≡ []

-- ---- faults

-- a fact for the refusal, where the fault is one
abbrev pub IfRefused : Fault → (Refusal → Type 0) → Type 0
IfRefused (fault.Refused refusal) Fact = Fact refusal
IfRefused fault.Memory Fact = Unit {0}
