-- What stands below the top of a stack, by its place from the end of the list in which it is kept.
use Rattle.std.proofs.Common.{◌≡◌, ℕ, zero, suc, ◌-◌, ◌≤◌, ◌<◌, List, [], ◌∷◌, length, reverse, refl, ap, sym, ◌∙◌, get_or, arith}
use Rattle.std.proofs.lemmas.List.{get_or-reverse, get_or_past, get_or_default, length-reverse}
use Rattle.std.proofs.lemmas.Grind.{common_steps}
use Rattle.agxx_base.specs.declared.kind.NumKind.TheVariants as kind
use Rattle.step_machine.specs.declared.datum.Datum.{Datum}
use Rattle.step_machine.specs.Data.{first, rest, from_bits_of}
use Rattle.step_frame.specs.Under.{under}

abbrev nothing : Datum
nothing = from_bits_of kind.I32 0

under_nothing : (n : ℕ) → under n [] ≡ []
under_nothing zero = refl
under_nothing (suc n) = ap rest (under_nothing n)

under_next : (n : ℕ) (v : Datum) (vs : List Datum) → under (suc n) (v ∷ vs) ≡ under n vs
under_next zero v vs = refl
under_next (suc n) v vs = ap rest (under_next n v vs)

first_under : (n : ℕ) (vs : List Datum) → first (under n vs) ≡ get_or vs n nothing
first_under zero [] = refl
first_under zero (v ∷ vs) = refl
first_under (suc n) [] = ap first (ap rest (under_nothing n))
first_under (suc n) (v ∷ vs) = ap first (under_next n v vs) ∙ first_under n vs

pub under_is : (xs : List Datum) (n : ℕ) (d : Datum) → n < length xs → get_or xs (length xs - 1 - n) d ≡ first (under n (reverse xs))
under_is xs n d p =
    sym (get_or-reverse xs n d p) ∙ get_or_default (reverse xs) n d nothing (grind (arith, length-reverse xs)) ∙ sym (first_under n (reverse xs))

pub under_past : (xs : List Datum) (n : ℕ) → length xs ≤ n → nothing ≡ first (under n (reverse xs))
under_past xs n p = sym (get_or_past (reverse xs) n nothing (grind (arith, length-reverse xs))) ∙ sym (first_under n (reverse xs))
