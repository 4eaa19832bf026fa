-- Members that are gone through in order: the words made so far, and then those of the members that are left, are all.
use Rattle.std.proofs.Common.{◌≡◌, ℕ, suc, ◌+◌, ◌<◌, sym, ap, ◌∙◌, List, [], ◌∷◌, ◌++◌, drop, length, append_assoc, arith}
use Rattle.std.proofs.Math.ListN.{get_or}
use Rattle.std.proofs.lemmas.List.{at_drop_more}
use Rattle.cxx_tree.specs.declared.program.Member.{Member}
use Rattle.hamming_gen.specs.Positions.{next_position}
use Rattle.hamming_gen.specs.HammingNames.{member_word, member_words}
use Rattle.hamming_gen.specs.declared.words.MemberWord.{MemberWord}

one_up : (n : ℕ) → n + 1 ≡ suc n
one_up n = omega arith

-- the words of the next member and of those behind it
pub next_word :
    (names : List (List ℕ)) (ms : List Member) (i p q : ℕ) (m : Member)
    (word : MemberWord) (here next whole : List MemberWord)
    → i < length ms → word ≡ member_word names (i + 1) p (get_or ms i m) → q ≡ next_position p
    → next ≡ here ++ word ∷ [] → here ++ member_words names (i + 1) p (drop i ms) ≡ whole
    → next ++ member_words names (i + 1 + 1) q (drop (i + 1) ms) ≡ whole
next_word names ms i p q m word here next whole inside is after step all =
    let rest = member_words names (suc (i + 1)) (next_position p) (drop (i + 1) ms) in
    let front : (here ++ word ∷ []) ++ rest ≡ here ++ word ∷ rest = simp append_assoc in
    ap (λ n. next ++ member_words names n q (drop (i + 1) ms)) (one_up (i + 1))
    ∙ (ap (λ r. next ++ member_words names (suc (i + 1)) r (drop (i + 1) ms)) after
    ∙ (ap (λ xs. xs ++ rest) step
    ∙ (front
    ∙ (ap (λ w. here ++ w ∷ rest) is
    ∙ (sym (at_drop_more (λ xs. here ++ member_words names (i + 1) p xs) ms i m inside) ∙ all)))))
