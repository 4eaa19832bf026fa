-- Where an item's count stands.
use Rattle.std.proofs.Common.{◌≡◌, ℕ, ◌+◌, ◌≤◌, Bool, true, false, List, [], ◌∷◌, length, Option, Some, None, subst, sym, arith}
use Rattle.std.specs.Prelude.{◌==◌, if◌then◌else◌}
use Rattle.flip_plan.specs.declared.numbers.Item.{Item}
use Rattle.flip_plan.specs.declared.pieces.Separator.TheVariants as separator
use Rattle.flip_plan.specs.Texts.{parts, span}
use Rattle.flip_plan.specs.Numbers.{number, once, times, item_in, item_of}
use Rattle.flip_plan.specs.Rules.{ahead_of_count}
use Rattle.flip_plan.proofs.Parts.{span_parts}

ahead-once : (o : Option ℕ) (n : ℕ) → ahead_of_count (once o) ≤ n
ahead-once None n = omega arith
ahead-once (Some thread) n = omega arith

ahead-by : (ahead thread count n : ℕ) (b : Bool) → ahead ≤ n → ahead_of_count (if b then None else Some (record { thread = thread; count = count; ahead = ahead })) ≤ n
ahead-by ahead thread count n true l = omega arith
ahead-by ahead thread count n false l = l

ahead-times : (ahead n : ℕ) (a b : Option ℕ) → ahead ≤ n → ahead_of_count (times ahead a b) ≤ n
ahead-times ahead n None b l = omega arith
ahead-times ahead n (Some thread) None l = omega arith
ahead-times ahead n (Some thread) (Some count) l = ahead-by ahead thread count n (count == 0) l

ahead-in : (ps : List (List ℕ)) (n : ℕ) → span ps ≡ n + 1 → ahead_of_count (item_in ps) ≤ n
ahead-in [] n e = omega arith
ahead-in (thread ∷ []) n e = ahead-once (number thread) n
ahead-in (thread ∷ count ∷ []) n e = ahead-times (length thread + 1) n (number thread) (number count) (omega (arith, e))
ahead-in (thread ∷ count ∷ more ∷ rest) n e = omega arith

-- an item's count stands within its word
pub ahead_within : (item : Option Item) (text : List ℕ) → item ≡ item_of text → ahead_of_count item ≤ length text
ahead_within item text e = subst (λ i. ahead_of_count i ≤ length text) (sym e) (ahead-in (parts separator.Star text) (length text) (span_parts separator.Star text))
