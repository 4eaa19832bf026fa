-- Ends of comments.
use Rattle.std.proofs.Common.{◌≡◌, ℕ, suc, ◌<◌, ◌+◌, false, List, ◌∷◌, drop, length, get_or, drop-cons, Option, Some, None, refl, sym, ap, subst, add-one, arith}
use Rattle.cxx_lex.specs.Runs.{one_more, closes, close_len}
use Rattle.cxx_lex.proofs.Runs.{longer}

longer-one : (n : ℕ) (o : Option ℕ) → longer n (one_more o) ≡ longer (suc n) o
longer-one n None = refl
longer-one n (Some k) = ap Some (omega arith)

-- a byte that closes nothing is passed
pub close_turn : (text : List ℕ) (n : ℕ) → n < length text → closes (drop n text) ≡ false → longer (n + 1) (close_len (drop (n + 1) text)) ≡ longer n (close_len (drop n text))
close_turn text n h e = rw (add-one n) (turn (get_or text n 0) (drop (suc n) text) (drop-cons text n 0 h))
  where
    turn : (b : ℕ) (rest : List ℕ) → drop n text ≡ b ∷ rest → longer (suc n) (close_len rest) ≡ longer n (close_len (drop n text))
    turn b rest s = rw s (rw (subst (λ t. closes t ≡ false) s e) (sym (longer-one n (close_len rest))))
