-- The parts of a text, one by one.
use Rattle.std.proofs.Common.{◌≡◌, ℕ, zero, suc, ◌+◌, ◌<◌, ◌≤◌, Bool, true, false, cond, not, List, [], ◌∷◌, length, take, drop, refl, sym, ap, subst, arith, length-drop, ◌∙◌, ◌-◌}
use Rattle.std.specs.Prelude.{if◌then◌else◌}
use Rattle.std.specs.List.{slice_split, onto_first, position_or_len}
use Rattle.std.proofs.lemmas.List.{drop-drop}
use Rattle.std.proofs.lemmas.List.Splits.{slice_split_first}
use Rattle.flip_plan.specs.declared.pieces.Separator.{Separator}
use Rattle.flip_plan.specs.Texts.{separates, parts, span}

span-by : (x : ℕ) (b : Bool) (rest : List (List ℕ)) (n : ℕ) → span rest ≡ n + 1 → span (cond b ([] ∷ rest) (onto_first x rest)) ≡ suc n + 1
span-by x true rest n e = omega (arith, e)
span-by x false [] n e = absurd (omega (arith, e))
span-by x false (part ∷ rest) n e = omega (arith, e)

span-split : (p : ℕ → Bool) (xs : List ℕ) → span (slice_split p xs) ≡ length xs + 1
span-split p [] = refl
span-split p (x ∷ xs) = span-by x (p x) (slice_split p xs) (length xs) (span-split p xs)

pub span_parts : (s : Separator) (text : List ℕ) → span (parts s text) ≡ length text + 1
span_parts s text = span-split (separates s) text

-- where a byte separates, it ends the first part
pub part_cut : (s : Separator) (text : List ℕ) (n : ℕ) → n ≡ position_or_len (separates s) text → n < length text → parts s text ≡ take n text ∷ parts s (drop (n + 1) text)
part_cut s text n e l =
    subst (λ k. parts s text ≡ take k text ∷ parts s (drop (k + 1) text)) (sym e) (slice_split_first (separates s) text 0 (subst (λ k. k < length text) e l))

last-by : (x : ℕ) (xs : List ℕ) (b : Bool) (k : ℕ) (rest : List (List ℕ)) → (length xs ≤ k → rest ≡ xs ∷ []) → suc (length xs) ≤ cond (not b) (1 + k) 0 → cond b ([] ∷ rest) (onto_first x rest) ≡ (x ∷ xs) ∷ []
last-by x xs true k rest h l = absurd (omega (arith, l))
last-by x xs false k rest h l = ap (onto_first x) (h (omega (arith, l)))

last : (p : ℕ → Bool) (xs : List ℕ) → length xs ≤ position_or_len p xs → slice_split p xs ≡ xs ∷ []
last p [] l = refl
last p (x ∷ xs) l = last-by x xs (p x) (position_or_len p xs) (slice_split p xs) (last p xs) l

-- where none does, the text is the one part
pub part_last : (s : Separator) (text : List ℕ) → length text ≤ position_or_len (separates s) text → parts s text ≡ text ∷ []
part_last s text l = last (separates s) text l

more-left : (n : ℕ) (xs : List ℕ) → 1 ≤ length (drop n xs) → n < length xs
more-left n xs l = omega (arith, l, length-drop n xs)

take-whole : (k : ℕ) (xs : List ℕ) → length xs ≤ k → take k xs ≡ xs
take-whole zero [] l = refl
take-whole (suc k) [] l = refl
take-whole zero (x ∷ xs) l = absurd (omega (arith, l))
take-whole (suc k) (x ∷ xs) l = ap (λ z. x ∷ z) (take-whole k xs (omega (arith, l)))

behind-first : (rest : List ℕ) → take (length rest - 1) (drop 1 rest) ≡ drop 1 rest
behind-first rest = take-whole (length rest - 1) (drop 1 rest) (omega (arith, length-drop 1 rest))

-- what a reader of parts has, by the two sides of the first byte that separates
pub left_cut : (over : Bool) (s : Separator) (text : List ℕ) (n : ℕ) (part rest : List ℕ) → over ≡ false → n ≡ position_or_len (separates s) text → part ≡ take n text → rest ≡ drop n text → 1 ≤ length rest
    → (if over then [] else parts s text) ≡ part ∷ (if over then [] else parts s (take (length rest - 1) (drop 1 rest)))
left_cut true s text n part rest o e f b l = cc
left_cut false s text n part rest o e f b l =
    let inside : n < length text = more-left n text (subst (λ z. 1 ≤ length z) b l) in
    part_cut s text n e inside ∙ ap (λ z. z ∷ parts s (drop (n + 1) text)) (sym f) ∙ ap (λ z. part ∷ parts s z) (sym (drop-drop 1 n text) ∙ ap (drop 1) (sym b) ∙ sym (behind-first rest))

none-left : (n : ℕ) (xs : List ℕ) → length (drop n xs) < 1 → length xs ≤ n
none-left n xs l = omega (arith, l, length-drop n xs)

pub left_last : (over : Bool) (s : Separator) (text : List ℕ) (n : ℕ) (part rest : List ℕ) → over ≡ false → n ≡ position_or_len (separates s) text → part ≡ take n text → rest ≡ drop n text → length rest < 1
    → (if over then [] else parts s text) ≡ part ∷ []
left_last true s text n part rest o e f b l = cc
left_last false s text n part rest o e f b l =
    let past : length text ≤ n = none-left n text (subst (λ z. length z < 1) b l) in
    part_last s text (subst (λ k. length text ≤ k) e past) ∙ ap (λ z. z ∷ []) (sym (take-whole n text past) ∙ sym f)
