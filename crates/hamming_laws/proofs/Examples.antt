-- Small parts, worked out by hand.
use Rattle.std.proofs.Common.{◌≡◌, true, [], ◌∷◌, map, replicate, refl}
use Rattle.agxx_base.specs.declared.kind.NumKind.TheVariants as num
use Rattle.hamming_gen.specs.Positions.{check_words}
use Rattle.hamming_gen.specs.HammingWords.{Slot, slots, encoded, beyond, words_from, beyond_from}
use Rattle.hamming_laws.specs.Masks.{complement, member_numbers, check_numbers, mended_words, beyond_places, renewed_checks, renewed_parity}
use lib.Count.{ones}

one-member : check_words 1 ≡ 2
unfolding check_words words_from beyond_from ones
one-member = refl

two-members : check_words 2 ≡ 3
unfolding check_words words_from beyond_from ones
two-members = refl

four-members : check_words 4 ≡ 3
unfolding check_words words_from beyond_from ones
four-members = refl

five-members : check_words 5 ≡ 4
unfolding check_words words_from beyond_from ones
five-members = refl

eleven-members : check_words 11 ≡ 4
unfolding check_words words_from beyond_from ones
eleven-members = refl

positions-of-four : map (λ (s : Slot). s.position) (slots (replicate 4 num.U64)) ≡ 3 ∷ 5 ∷ 6 ∷ 7 ∷ 1 ∷ 2 ∷ 4 ∷ 0 ∷ []
unfolding check_words words_from beyond_from ones
positions-of-four = refl

encoded-one : encoded (num.U8 ∷ []) (5 ∷ []) ≡ 5 ∷ 5 ∷ 5 ∷ 5 ∷ []
unfolding check_words words_from beyond_from ones
encoded-one = refl

encoded-two : encoded (num.U8 ∷ num.U32 ∷ []) (5 ∷ 6 ∷ []) ≡ 5 ∷ 6 ∷ 3 ∷ 5 ∷ 6 ∷ 3 ∷ []
unfolding check_words words_from beyond_from ones
encoded-two = refl

-- ---- on whole words

inverted-bits : complement 5 ≡ 18446744073709551610
inverted-bits = refl

nothing-wrong : mended_words (member_numbers 3 (num.U8 ∷ num.U32 ∷ []) (5 ∷ 6 ∷ [])) (check_numbers 0 (3 ∷ 5 ∷ 6 ∷ [])) 3
    ≡ 5 ∷ 6 ∷ 3 ∷ 5 ∷ 6 ∷ 3 ∷ []
nothing-wrong = refl

member-mended : mended_words (member_numbers 3 (num.U8 ∷ num.U32 ∷ []) (5 ∷ 14 ∷ [])) (check_numbers 0 (3 ∷ 5 ∷ 6 ∷ [])) 3
    ≡ 5 ∷ 6 ∷ 3 ∷ 5 ∷ 6 ∷ 3 ∷ []
unfolding ones
member-mended = refl

check-mended : mended_words (member_numbers 3 (num.U8 ∷ num.U32 ∷ []) (5 ∷ 6 ∷ [])) (check_numbers 0 (3 ∷ 4 ∷ 6 ∷ [])) 3
    ≡ 5 ∷ 6 ∷ 3 ∷ 5 ∷ 6 ∷ 3 ∷ []
unfolding ones
check-mended = refl

parity-mended : mended_words (member_numbers 3 (num.U8 ∷ num.U32 ∷ []) (5 ∷ 6 ∷ [])) (check_numbers 0 (3 ∷ 5 ∷ 6 ∷ [])) 1
    ≡ 5 ∷ 6 ∷ 3 ∷ 5 ∷ 6 ∷ 3 ∷ []
unfolding ones
parity-mended = refl

one-not-beyond : beyond_places (member_numbers 3 (num.U8 ∷ num.U32 ∷ []) (5 ∷ 14 ∷ [])) (check_numbers 0 (3 ∷ 5 ∷ 6 ∷ [])) 3
    ≡ 0
unfolding ones
one-not-beyond = refl

two-beyond : beyond_places (member_numbers 3 (num.U8 ∷ num.U32 ∷ []) (4 ∷ 7 ∷ [])) (check_numbers 0 (3 ∷ 5 ∷ 6 ∷ [])) 3 ≡ 1
unfolding ones
two-beyond = refl

-- bit 8 of the check words 1 and 2 and of the parity: the sums tell the first member, which has no such bit
narrow-beyond : beyond_places (member_numbers 3 (num.U8 ∷ num.U32 ∷ []) (5 ∷ 6 ∷ []))
    (check_numbers 0 (259 ∷ 261 ∷ 6 ∷ [])) 259 ≡ 256
unfolding ones
narrow-beyond = refl

-- position 7 is no word's
beyond-last : beyond_places (member_numbers 3 (num.U8 ∷ num.U32 ∷ []) (5 ∷ 6 ∷ [])) (check_numbers 0 (2 ∷ 4 ∷ 7 ∷ [])) 3
    ≡ 1
unfolding ones
beyond-last = refl

narrow-beyond-meant : beyond (num.U8 ∷ num.U32 ∷ []) (5 ∷ 6 ∷ 259 ∷ 261 ∷ 6 ∷ 259 ∷ []) ≡ true
unfolding check_words words_from beyond_from ones
narrow-beyond-meant = refl

renewed-two : renewed_checks (member_numbers 3 (num.U8 ∷ num.U32 ∷ []) (5 ∷ 6 ∷ [])) (check_numbers 0 (9 ∷ 9 ∷ 9 ∷ []))
    ≡ 3 ∷ 5 ∷ 6 ∷ []
unfolding ones
renewed-two = refl

renewed-parity : renewed_parity (member_numbers 3 (num.U8 ∷ num.U32 ∷ []) (5 ∷ 6 ∷ [])) (check_numbers 0 (9 ∷ 9 ∷ 9 ∷ []))
    ≡ 3
unfolding ones
renewed-parity = refl
