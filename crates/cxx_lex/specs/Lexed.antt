-- The lexing of a whole text, as a function.
use Rattle.std.specs.Prelude.{ℕ, zero, suc, List, [], ◌∷◌, ◌++◌, take}
use Rattle.agxx_base.specs.declared.fault.Refusal.{Refusal}
use Rattle.agxx_base.specs.declared.kind.Mode.{Mode}
use Rattle.agxx_base.specs.declared.place.Place.{Place}
use Rattle.cxx_lex.specs.declared.front.Front.{Front}
use Rattle.cxx_lex.specs.declared.front.Front.TheVariants as front
use Rattle.cxx_lex.specs.Place.{start_of, next_place, place_after}
use Rattle.cxx_lex.specs.Tokens.{Token}
use Rattle.cxx_lex.specs.Scan.{front_of}

-- the tokens and the end of a text, or its refusal
pub data Lexed : Type 0 where
  tokens : List Token → Place → Lexed
  refused : Refusal → Lexed

-- the same with tokens before
abbrev pub before : List Token → Lexed → Lexed
before ts (tokens us end) = tokens (ts ++ us) end
before ts (refused refusal) = refused refusal

-- one byte less
abbrev pub behind_first : ℕ → ℕ
behind_first zero = 0
behind_first (suc n) = n

abbrev pub by_front : Place → List ℕ → Front → (ℕ → Lexed) → Lexed
by_front at text (front.Gap n) next = next (behind_first n)
by_front at text (front.Token kind n) next = before (record { kind = kind; text = take n text; at = at } ∷ []) (next (behind_first n))
by_front at text (front.Refused rule n) next = refused (record { rule = rule; place = place_after at (take n text) })

-- from a place on, where the next `skipped` bytes belong to what was read before
abbrev pub lexed_from : Mode → Place → ℕ → List ℕ → Lexed
lexed_from mode at skipped [] = tokens [] at
lexed_from mode at (suc n) (b ∷ bs) = lexed_from mode (next_place at b) n bs
lexed_from mode at zero (b ∷ bs) = by_front at (b ∷ bs) (front_of mode (b ∷ bs)) (λ n. lexed_from mode (next_place at b) n bs)

unfoldable pub lexed : Mode → ℕ → List ℕ → Lexed
lexed mode file text = lexed_from mode (start_of file) 0 text
