-- What is computed on whole words is what is meant of all words.
use Rattle.std.proofs.Common.{◌≡◌, ℕ, zero, suc, ◌+◌, ◌^◌, ◌<◌, Bool, true, false, not, nat_eq, is_none, List, [], ◌∷◌, ◌++◌, length, map, replicate, Some, refl, sym, ap, ap₂, ◌∙◌, arith, eq-eqb, length-append, subst}
use Rattle.std.specs.List.{range_with_len}
use Rattle.std.proofs.lemmas.List.{length-map}
use Rattle.std.proofs.lemmas.Nat.{pow_pos}
use Rattle.std.proofs.lemmas.Bool.{true≢false, eqb-true}
use Rattle.agxx_base.specs.declared.kind.NumKind.{NumKind}
use Rattle.agxx_base.specs.declared.kind.NumKind.TheVariants as num
use Rattle.codec.specs.Part.{unsigned_kind}
use Rattle.codec_laws.specs.Values.{Fit}
use Rattle.hamming_gen.specs.Positions.{check_words}
use Rattle.hamming_gen.specs.HammingWords.{slots, member_slots, all_kinds, extra_words, is_set, is_odd, sums, place_bits, checked_place, added_place, mended_place, encoded, repaired, repaired_place, beyond}
use Rattle.hamming_laws.specs.Masks.{MemberNumber, CheckNumber, AllUnder, AreUnsigned, AreWords, AreParted, AreBounded, ArePlaces, MasksArePlaces, member_numbers, check_numbers, words_of_members, covered, beyond_places, mended_member, mended_check, mended_parity, mended_words, renewed_check, renewed_checks, renewed_parity}
use Rattle.hamming_laws.proofs.Bits.{is_odd-append, is_set-zero, same-numbers-below}
use Rattle.hamming_laws.proofs.Rebuilt.{bits-append, words-by-bits}
use Rattle.hamming_laws.proofs.Words.{fit-append, fit-length, under-fit, under-append, added-size, not-beyond, all-mended, repaired-size}
use Rattle.hamming_laws.proofs.Flips.{repaired-fits}
use Rattle.hamming_laws.proofs.Operations.{differ-turned, all_joined-xor, all_joined-xor-under}
use Rattle.hamming_laws.proofs.PlaceSums.{words-of-members, renewed-bits, sums-are, total-is, uneven-is}
use Rattle.hamming_laws.proofs.PlaceFaults.{under-map, covered-under, members-under, sums-fit, total-fits, uneven-fits, faults-fit, beyond-fits, mended-under, faults-are, beyond-is, mended-are}

-- ---- the words of a part

pub kinds-unsigned : (kinds : List NumKind) → AreUnsigned (map unsigned_kind kinds)
kinds-unsigned [] = tt
kinds-unsigned (k ∷ kinds) = (one k, kinds-unsigned kinds)
  where
    one : (k : NumKind) → unsigned_kind (unsigned_kind k) ≡ unsigned_kind k
    one num.Bool = refl
    one num.I8 = refl
    one num.U8 = refl
    one num.I16 = refl
    one num.U16 = refl
    one num.I32 = refl
    one num.U32 = refl
    one num.I64 = refl
    one num.U64 = refl

-- words of kinds one behind another
record IsCut (a b : List NumKind) (words : List ℕ) : Type 0 where
  front : List ℕ
  back : List ℕ
  words_are : words ≡ front ++ back
  front_fits : Fit a front
  back_fits : Fit b back

cut : (a b : List NumKind) (words : List ℕ) → Fit (a ++ b) words → IsCut a b words
cut [] b words h = record { front = []; back = words; words_are = refl; front_fits = tt; back_fits = h }
cut (k ∷ a) b [] h = absurd h
cut (k ∷ a) b (w ∷ words) h =
    let rest = cut a b words h.1 in
    record {
      front = w ∷ rest.front;
      back = rest.back;
      words_are = ap (λ l. w ∷ l) rest.words_are;
      front_fits = (h.0, rest.front_fits);
      back_fits = rest.back_fits;
    }

-- words of 64 bits and a last one
record HasLast (n : ℕ) (words : List ℕ) : Type 0 where
  others : List ℕ
  last : ℕ
  words_are : words ≡ others ++ last ∷ []
  size : length others ≡ n
  others_fit : AllUnder (2 ^ 64) others
  last_fits : last < 2 ^ 64

has-last : (n : ℕ) (words : List ℕ) → Fit (replicate (suc n) num.U64) words → HasLast n words
has-last n [] h = absurd h
has-last zero (w ∷ []) h =
    record { others = []; last = w; words_are = refl; size = refl; others_fit = tt; last_fits = h.0 }
has-last zero (w ∷ x ∷ words) h = absurd h.1
has-last (suc n) (w ∷ words) h =
    let rest = has-last n words h.1 in
    record {
      others = w ∷ rest.others;
      last = rest.last;
      words_are = ap (λ l. w ∷ l) rest.words_are;
      size = ap (λ m. suc m) rest.size;
      others_fit = (h.0, rest.others_fit);
      last_fits = rest.last_fits;
    }

pub parted : (kinds : List NumKind) (words : List ℕ) → AreUnsigned kinds → Fit (all_kinds kinds) words
    → AreParted kinds words
parted kinds words u h =
    let more : extra_words (length kinds) ≡ suc (check_words (length kinds)) = omega arith in
    let c = cut kinds (replicate (extra_words (length kinds)) num.U64) words h in
    let d = has-last (check_words (length kinds)) c.back (subst (λ n. Fit (replicate n num.U64) c.back) more c.back_fits) in
    record {
      members = c.front;
      checks = d.others;
      parity = d.last;
      words_are = c.words_are ∙ ap (λ l. c.front ++ l) d.words_are;
      fit = record {
        unsigned = u;
        members_fit = c.front_fits;
        checks_length = d.size;
        checks_fit = d.others_fit;
        parity_fits = d.last_fits;
      };
    }

length-check_numbers : (j : ℕ) (hs : List ℕ) → length (check_numbers j hs) ≡ length hs
length-check_numbers j [] = refl
length-check_numbers j (h ∷ hs) = ap (λ n. suc n) (length-check_numbers (j + 1) hs)

length-member_numbers : (q : ℕ) (kinds : List NumKind) (xs : List ℕ) → length xs ≡ length kinds
    → length (member_numbers q kinds xs) ≡ length xs
length-member_numbers q kinds xs e =
    sym (length-map (member_numbers q kinds xs) (λ (m : MemberNumber). m.word))
    ∙ ap length (words-of-members q kinds xs e)

module _ (kinds : List NumKind) (xs hs : List ℕ) (p : ℕ) (fit : AreWords kinds xs hs p) where
  abbrev ms : List MemberNumber
  ms = member_numbers 3 kinds xs

  abbrev cs : List CheckNumber
  cs = check_numbers 0 hs

  abbrev words : List ℕ
  words = xs ++ (hs ++ p ∷ [])

  pub all-fit : Fit (all_kinds kinds) words
  all-fit =
      fit-append kinds (replicate (extra_words (length kinds)) num.U64) xs (hs ++ p ∷ []) fit.members_fit
      (under-fit (extra_words (length kinds)) (hs ++ p ∷ [])
      (length-append hs (p ∷ []) ∙ ap (λ n. n + 1) fit.checks_length)
      (under-append (2 ^ 64) hs (p ∷ []) fit.checks_fit (fit.parity_fits, tt)))

  same-members : words_of_members ms ≡ xs
  same-members = words-of-members 3 kinds xs (fit-length kinds xs fit.members_fit)

  -- ---- bounds

  checks-under : AllUnder (2 ^ 64) (renewed_checks ms cs)
  checks-under =
      under-map (2 ^ 64) (renewed_check ms) cs
      (λ c. all_joined-xor-under 64 (covered c.position ms)
      (covered-under (2 ^ 64) c.position 3 kinds xs (members-under kinds xs hs p fit)))

  renewed-under : AllUnder (2 ^ 64) (renewed_checks ms cs ++ renewed_parity ms cs ∷ [])
  renewed-under =
      under-append (2 ^ 64) (renewed_checks ms cs) (renewed_parity ms cs ∷ []) checks-under (
        all_joined-xor-under 64 (renewed_checks ms cs ++ words_of_members ms)
            (under-append (2 ^ 64) (renewed_checks ms cs) (words_of_members ms) checks-under
            (subst (AllUnder (2 ^ 64)) (sym same-members) (members-under kinds xs hs p fit))),
        tt,
      )

  pub bounded : AreBounded ms cs p
  bounded = record {
    sums_fit = sums-fit kinds xs hs p fit;
    total_fits = total-fits kinds xs hs p fit;
    uneven_fits = uneven-fits kinds xs hs p fit;
    faults_fit = faults-fit kinds xs hs p fit;
    beyond_fits = beyond-fits kinds xs hs p fit;
    renewed_fit = renewed-under;
  }

  pub places : (place : ℕ) → place < 64 → ArePlaces kinds words ms cs p place
  places place l = record {
    sums_are = sums-are kinds xs hs p fit place;
    total_is = total-is kinds xs hs p fit place;
    uneven_is = uneven-is kinds xs hs p fit place;
    faults_are = faults-are kinds xs hs p fit place l;
    beyond_is = beyond-is kinds xs hs p fit place l;
    mended_are = mended-are kinds xs hs p fit place l;
  }

  -- ---- what is beyond repair

  no-place : beyond_places ms cs p ≡ 0 → beyond kinds words ≡ false
  no-place e =
      not-beyond kinds words
      (λ place l none. true≢false (sym (beyond-is kinds xs hs p fit place l ∙ ap is_none none)
      ∙ ap (λ n. is_set n place) e ∙ is_set-zero place))

  no-bit : (place : ℕ) → place < 64 → beyond kinds words ≡ false → is_set (beyond_places ms cs p) place ≡ false
  no-bit place l e = by (all-mended kinds words e place l)
    where
      by : (after : List Bool) × (mended_place (slots kinds) place (place_bits place words) ≡ Some after)
          → is_set (beyond_places ms cs p) place ≡ false
      by (after, f) = beyond-is kinds xs hs p fit place l ∙ ap is_none f

  all-places : beyond kinds words ≡ false → beyond_places ms cs p ≡ 0
  all-places e =
      same-numbers-below 64 (beyond_places ms cs p) 0 (beyond-fits kinds xs hs p fit) (pow_pos 64)
      (λ place l. no-bit place l e ∙ sym (is_set-zero place))

  pub stops : beyond kinds words ≡ not (nat_eq (beyond_places ms cs p) 0)
  stops = by (beyond kinds words) refl (nat_eq (beyond_places ms cs p) 0) refl
    where
      by : (b : Bool) → beyond kinds words ≡ b → (z : Bool) → nat_eq (beyond_places ms cs p) 0 ≡ z → b ≡ not z
      by true e true f = absurd (true≢false (sym e ∙ no-place (eqb-true (beyond_places ms cs p) 0 f)))
      by true e false f = refl
      by false e true f = refl
      by false e false f = absurd (true≢false (sym (eq-eqb (beyond_places ms cs p) 0 (all-places e)) ∙ f))

  -- ---- what is mended

  length-mended : length (mended_words ms cs p) ≡ length words
  length-mended =
      length-append (map (mended_member ms cs p) ms) (map (mended_check ms cs p) cs ++ mended_parity ms cs p ∷ [])
      ∙ ap₂ (λ a b. a + b)
      (length-map ms (mended_member ms cs p) ∙ length-member_numbers 3 kinds xs (fit-length kinds xs fit.members_fit))
      (length-append (map (mended_check ms cs p) cs) (mended_parity ms cs p ∷ [])
      ∙ ap (λ n. n + 1) (length-map cs (mended_check ms cs p) ∙ length-check_numbers 0 hs)
      ∙ sym (length-append hs (p ∷ [])))
      ∙ sym (length-append xs (hs ++ p ∷ []))

  pub mends : repaired kinds words ≡ mended_words ms cs p
  mends =
      words-by-bits (length words) (repaired_place kinds words) (mended_words ms cs p) (repaired-size kinds words)
      length-mended (mended-under kinds xs hs p fit) (λ place l. sym (mended-are kinds xs hs p fit place l))

  pub mended-fit : Fit (all_kinds kinds) (mended_words ms cs p)
  mended-fit = subst (Fit (all_kinds kinds)) mends (repaired-fits kinds words all-fit)

  -- ---- renewal

  checked-bits : (place : ℕ) → place_bits place (renewed_checks ms cs) ≡ checked_place kinds (place_bits place xs)
  checked-bits place =
      renewed-bits place 0 kinds xs hs
      ∙ ap (λ n. map (is_set (sums (member_slots 3 kinds) (place_bits place xs))) (range_with_len 0 n)) fit.checks_length

  parity-bit : (place : ℕ) → is_set (renewed_parity ms cs) place
      ≡ is_odd (place_bits place xs ++ checked_place kinds (place_bits place xs))
  parity-bit place =
      let m = place_bits place xs in
      let c = checked_place kinds (place_bits place xs) in
      all_joined-xor (renewed_checks ms cs ++ words_of_members ms) place
      ∙ ap is_odd (bits-append place (renewed_checks ms cs) (words_of_members ms)
      ∙ ap₂ (λ a b. a ++ b) (checked-bits place) (ap (place_bits place) same-members))
      ∙ is_odd-append c m ∙ differ-turned (is_odd c) (is_odd m) ∙ sym (is_odd-append m c)

  added-bits : (place : ℕ) → place < 64
      → added_place kinds (place_bits place xs)
      ≡ place_bits place (renewed_checks ms cs ++ renewed_parity ms cs ∷ [])
  added-bits place l =
      sym (bits-append place (renewed_checks ms cs) (renewed_parity ms cs ∷ [])
      ∙ ap₂ (λ a b. a ++ b ∷ []) (checked-bits place) (parity-bit place))

  length-renewed : length (renewed_checks ms cs ++ renewed_parity ms cs ∷ []) ≡ extra_words (length kinds)
  length-renewed =
      length-append (renewed_checks ms cs) (renewed_parity ms cs ∷ [])
      ∙ ap (λ n. n + 1) (length-map cs (renewed_check ms) ∙ length-check_numbers 0 hs ∙ fit.checks_length)

  pub renews : encoded kinds xs ≡ xs ++ (renewed_checks ms cs ++ renewed_parity ms cs ∷ [])
  renews =
      ap (λ l. xs ++ l) (words-by-bits (extra_words (length kinds)) (λ place. added_place kinds (place_bits place xs))
      (renewed_checks ms cs ++ renewed_parity ms cs ∷ []) (added-size kinds xs) length-renewed renewed-under added-bits)

pub masks-are-places : MasksArePlaces
masks-are-places = record {
  parted = parted;
  unsigned = kinds-unsigned;
  bounded = bounded;
  places = λ kinds xs hs p place fit l. places kinds xs hs p fit place l;
  mended_fit = mended-fit;
  stops = stops;
  mends = mends;
  renews = renews;
}
