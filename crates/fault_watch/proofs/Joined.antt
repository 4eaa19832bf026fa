-- A text that is two texts, one after the other.
use Rattle.std.proofs.Common.{◌≡◌, ℕ, Bool, true, false, ◌&&◌, nat_eq, List, [], ◌∷◌, ◌++◌, length, drop, refl, ap, sym, ◌∙◌, arith}
use Rattle.std.specs.List.{starts_with, slice_range}
use Rattle.std.specs.Str.{bytes_eq}
use Rattle.std.proofs.lemmas.Slice.{between_to_end}

turned : (a b : ℕ) → nat_eq a b ≡ nat_eq b a
turned a b = grind arith

both : (a b c : Bool) → ((a && b) && c) ≡ (a && (b && c))
both true b c = refl
both false b c = refl

joined : (text beginning rest : List ℕ) → (starts_with nat_eq text beginning && bytes_eq (drop (length beginning) text) rest) ≡ bytes_eq text (beginning ++ rest)
joined text [] rest = refl
joined [] (c ∷ beginning) rest = refl
joined (x ∷ text) (c ∷ beginning) rest =
    both (nat_eq c x) (starts_with nat_eq text beginning) (bytes_eq (drop (length beginning) text) rest)
    ∙ ap (λ b. nat_eq c x && b) (joined text beginning rest)
    ∙ ap (λ b. b && bytes_eq text (beginning ++ rest)) (turned c x)

pub joined-rest : (text beginning rest : List ℕ) → starts_with nat_eq text beginning ≡ true
    → bytes_eq (slice_range text (length beginning) (length text)) rest ≡ bytes_eq text (beginning ++ rest)
joined-rest text beginning rest h =
    ap (λ t. bytes_eq t rest) (between_to_end text (length beginning) (length text) (omega arith))
    ∙ ap (λ b. b && bytes_eq (drop (length beginning) text) rest) (sym h) ∙ joined text beginning rest

pub not-joined : (text beginning rest : List ℕ) → starts_with nat_eq text beginning ≡ false → false ≡ bytes_eq text (beginning ++ rest)
not-joined text beginning rest h =
    ap (λ b. b && bytes_eq (drop (length beginning) text) rest) (sym h) ∙ joined text beginning rest
