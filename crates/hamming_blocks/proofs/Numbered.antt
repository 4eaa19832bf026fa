-- The words of a part as numbers with their positions.
use Rattle.std.proofs.Common.{◌≡◌, ◌≢◌, ℕ, suc, ◌+◌, ◌^◌, ◌<◌, List, [], ◌∷◌, ◌++◌, map, length, replicate, bit_and, refl, sym, ap, ap₂, ◌∙◌, arith, subst}
use Rattle.std.specs.List.{range_with_len}
use Rattle.std.proofs.lemmas.Nat.{and_le_l}
use Rattle.std.proofs.lemmas.List.{length-map}
use Rattle.agxx_base.specs.declared.kind.NumKind.{NumKind}
use Rattle.agxx_base.specs.declared.kind.NumKind.TheVariants as num
use Rattle.cxx_arith.specs.Kinds.{width}
use Rattle.cxx_core.specs.CoreProgram.{CoreWord}
use Rattle.codec.specs.Part.{unsigned_kind}
use Rattle.hamming_gen.specs.Positions.{positions_from, next_position}
use Rattle.hamming_gen.specs.HammingWords.{all_kinds, extra_words}
use Rattle.codec_laws.specs.Values.{Fit}
use Rattle.codec_laws.specs.BlockRuns.{kinds_of}
use Rattle.codec_laws.proofs.Arithmetic.{wider}
use Rattle.codec_laws.proofs.Each.{Each}
use Rattle.hamming_laws.specs.Masks as m
use Rattle.hamming_laws.specs.Masks.{MemberNumber, CheckNumber, member_numbers, check_numbers}
use Rattle.hamming_blocks.specs.Blocks.{CheckedMember, Check, CheckedPart, kind_of, check_of, word_of, part_words}
use Rattle.hamming_blocks.specs.BlockRuns.{unsigned_kinds, member_kinds}

abbrev pub numbers : List CheckedMember → List ℕ → List MemberNumber
numbers [] xs = []
numbers (m ∷ ms) [] = []
numbers (m ∷ ms) (x ∷ xs) = record { position = m.position; kind = kind_of m; word = x } ∷ numbers ms xs

abbrev pub check_values : List Check → List ℕ → List CheckNumber
check_values [] hs = []
check_values (c ∷ cs) [] = []
check_values (c ∷ cs) (h ∷ hs) = record { position = c.position; word = h } ∷ check_values cs hs

pub numbers-are : (ms : List CheckedMember) (xs : List ℕ) (p : ℕ)
    → map (λ (m : CheckedMember). m.position) ms ≡ positions_from p (length ms)
    → numbers ms xs ≡ member_numbers p (map kind_of ms) xs
numbers-are [] xs p e = refl
numbers-are (m ∷ ms) [] p e = refl
numbers-are (m ∷ ms) (x ∷ xs) p e =
    let here : m.position ≡ p = cc in
    let more : map (λ (q : CheckedMember). q.position) ms ≡ positions_from (next_position p) (length ms) = cc in
    ap₂ (λ q l. record { position = q; kind = kind_of m; word = x } ∷ l) here
    (numbers-are ms xs (next_position p) more)

pub check_values-are : (cs : List Check) (hs : List ℕ) (j : ℕ) → length hs ≡ length cs
    → map (λ (c : Check). c.position) cs ≡ map (λ i. 2 ^ i) (range_with_len j (length cs))
    → check_values cs hs ≡ check_numbers j hs
check_values-are [] [] j l e = refl
check_values-are [] (h ∷ hs) j l e = absurd (omega arith)
check_values-are (c ∷ cs) [] j l e = absurd (omega arith)
check_values-are (c ∷ cs) (h ∷ hs) j l e =
    let here : c.position ≡ 2 ^ j = cc in
    let more : map (λ (q : Check). q.position) cs ≡ map (λ i. 2 ^ i) (range_with_len (j + 1) (length cs)) = cc in
    ap₂ (λ q l. record { position = q; word = h } ∷ l) here (check_values-are cs hs (j + 1) (omega arith) more)

pub length-numbers : (ms : List CheckedMember) (xs : List ℕ) → length xs ≡ length ms
    → length (numbers ms xs) ≡ length ms
length-numbers [] xs l = refl
length-numbers (m ∷ ms) [] l = absurd (omega arith)
length-numbers (m ∷ ms) (x ∷ xs) l = ap (λ n. suc n) (length-numbers ms xs (omega arith))

pub length-check_values : (cs : List Check) (hs : List ℕ) → length hs ≡ length cs
    → length (check_values cs hs) ≡ length cs
length-check_values [] hs l = refl
length-check_values (c ∷ cs) [] l = absurd (omega arith)
length-check_values (c ∷ cs) (h ∷ hs) l = ap (λ n. suc n) (length-check_values cs hs (omega arith))

pub member_words-are : (ms : List CheckedMember) (xs : List ℕ) → length xs ≡ length ms
    → m.words_of_members (numbers ms xs) ≡ xs
member_words-are [] [] l = refl
member_words-are [] (x ∷ xs) l = absurd (omega arith)
member_words-are (m ∷ ms) [] l = absurd (omega arith)
member_words-are (m ∷ ms) (x ∷ xs) l = ap (λ r. x ∷ r) (member_words-are ms xs (omega arith))

pub check_words-are : (cs : List Check) (hs : List ℕ) → length hs ≡ length cs
    → m.words_of_checks (check_values cs hs) ≡ hs
check_words-are [] [] l = refl
check_words-are [] (x ∷ xs) l = absurd (omega arith)
check_words-are (c ∷ cs) [] l = absurd (omega arith)
check_words-are (c ∷ cs) (h ∷ hs) l = ap (λ r. h ∷ r) (check_words-are cs hs (omega arith))

pub matched-under : (ms : List MemberNumber) (first position n : ℕ) (cs : List CheckNumber) → first < n
    → m.matched ms first position cs < n
matched-under ms first position n [] h = h
matched-under ms first position n (c ∷ cs) h =
    matched-under ms (bit_and first (m.agreeing ms position c)) position n cs
    (omega (arith, h, and_le_l first (m.agreeing ms position c)))

pub under-front : (n : ℕ) (xs ys : List ℕ) → m.AllUnder n (xs ++ ys) → m.AllUnder n xs
under-front n [] ys h = tt
under-front n (x ∷ xs) ys h = (h.0, under-front n xs ys h.1)

pub under-back : (n : ℕ) (xs ys : List ℕ) → m.AllUnder n (xs ++ ys) → m.AllUnder n ys
under-back n [] ys h = h
under-back n (x ∷ xs) ys h = under-back n xs ys h.1

-- ---- kinds

pub fit-front : (j l : List NumKind) (v w : List ℕ) → length v ≡ length j → Fit (j ++ l) (v ++ w) → Fit j v
fit-front [] l [] w e h = tt
fit-front [] l (x ∷ v) w e h = absurd (omega arith)
fit-front (k ∷ j) l [] w e h = absurd (omega arith)
fit-front (k ∷ j) l (x ∷ v) w e h = (h.0, fit-front j l v w (omega arith) h.1)

word-kinds : (cs : List Check) (name : ℕ) → kinds_of (map check_of cs ++ word_of name ∷ [])
    ≡ replicate (length cs + 1) num.U64
word-kinds [] name = refl
word-kinds (c ∷ cs) name =
    ap (λ l. num.U64 ∷ l) (word-kinds cs name)
    ∙ ap (λ n. replicate n num.U64) (let e : suc (length cs + 1) ≡ suc (length cs) + 1 = omega arith in e)

kinds-split : (ms : List CheckedMember) (words : List CoreWord)
    → kinds_of (map (λ (m : CheckedMember). m.member) ms ++ words)
    ≡ map (λ (m : CheckedMember). m.member.kind) ms ++ kinds_of words
kinds-split [] words = refl
kinds-split (m ∷ ms) words = ap (λ l. m.member.kind ∷ l) (kinds-split ms words)

-- of all words, those of the members by their own kinds
pub part-kinds : (p : CheckedPart) → kinds_of (part_words p) ≡ member_kinds p ++ replicate (length p.checks + 1) num.U64
part-kinds p =
    kinds-split p.members (map check_of p.checks ++ word_of p.parity ∷ [])
    ∙ ap (λ l. member_kinds p ++ l) (word-kinds p.checks p.parity)

fit-wider : (ms : List CheckedMember) (l : List NumKind) (v : List ℕ)
    → Fit (map (λ (m : CheckedMember). m.member.kind) ms ++ l) v → Fit (map kind_of ms ++ l) v
fit-wider [] l v h = h
fit-wider (m ∷ ms) l [] h = h
fit-wider (m ∷ ms) l (x ∷ v) h = (wider m.member.kind x h.0, fit-wider ms l v h.1)

pub fit-all : (p : CheckedPart) (ws : List ℕ) → length p.checks + 1 ≡ extra_words (length p.members)
    → Fit (kinds_of (part_words p)) ws → Fit (all_kinds (unsigned_kinds p)) ws
fit-all p ws e h =
    subst (λ n. Fit (unsigned_kinds p ++ replicate n num.U64) ws)
    (e ∙ ap extra_words (sym (length-map p.members kind_of)))
    (fit-wider p.members (replicate (length p.checks + 1) num.U64) ws
    (subst (λ kinds. Fit kinds ws) (part-kinds p) h))

pub unsigned-kinds-are : (ms : List CheckedMember)
    → map unsigned_kind (map (λ (m : CheckedMember). m.member.kind) ms) ≡ map kind_of ms
unsigned-kinds-are [] = refl
unsigned-kinds-are (m ∷ ms) = ap (λ l. kind_of m ∷ l) (unsigned-kinds-are ms)

-- a kind other than `bool` is as wide as its unsigned kind
as-wide : (k : NumKind) (n : ℕ) → k ≢ num.Bool → n < 2 ^ width (unsigned_kind k) → n < 2 ^ width k
as-wide num.Bool n d h = absurd (d refl)
as-wide num.I8 n d h = h
as-wide num.U8 n d h = h
as-wide num.I16 n d h = h
as-wide num.U16 n d h = h
as-wide num.I32 n d h = h
as-wide num.U32 n d h = h
as-wide num.I64 n d h = h
as-wide num.U64 n d h = h

pub fit-own : (ms : List CheckedMember) (v : List ℕ)
    → Each (λ k. k ≢ num.Bool) (map (λ (m : CheckedMember). m.member.kind) ms) → Fit (map kind_of ms) v
    → Fit (map (λ (m : CheckedMember). m.member.kind) ms) v
fit-own [] [] d h = tt
fit-own [] (x ∷ v) d h = absurd h
fit-own (m ∷ ms) [] d h = absurd h
fit-own (m ∷ ms) (x ∷ v) d h = (as-wide m.member.kind x d.0 h.0, fit-own ms v d.1 h.1)
