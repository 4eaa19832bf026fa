-- No more frames count toward the depth than there are.
use Rattle.std.proofs.Common.{ℕ, ◌+◌, ◌≤◌, Bool, true, false, [], ◌∷◌, length, cond, arith}
use Rattle.step_machine.specs.Frame.{depth_of}
use Rattle.step_machine.specs.Turn.{Thread}

counted : (b : Bool) (n count : ℕ) → n ≤ count → cond b n (n + 1) ≤ count + 1
counted true n count p = omega arith
counted false n count p = omega arith

pub depth_most : (fs : Thread) → depth_of fs ≤ length fs
depth_most [] = omega arith
depth_most (f ∷ fs) = let p = counted f.is_generated (depth_of fs) (length fs) (depth_most fs) in omega (arith, p)
