-- What the faults and the mended words are at each bit place.
use Rattle.std.proofs.Common.{◌≡◌, ℕ, zero, suc, ◌+◌, ◌^◌, ◌<◌, ◌≤◌, Bool, true, false, not, ◌&&◌, nat_eq, nat_lt, is_none, if◌then◌else◌, List, [], ◌∷◌, ◌++◌, length, map, unwrap_or, bit_and, bit_or, bit_xor, refl, sym, ap, ap₂, ◌∙◌, arith, lt-ltb, append_assoc, length-append, pow_mono, subst}
use Rattle.std.proofs.lemmas.List.{map-append, length-map}
use Rattle.std.proofs.lemmas.Nat.{xor_lt, and_le_l}
use Rattle.agxx_base.specs.declared.kind.NumKind.{NumKind}
use Rattle.cxx_arith.specs.Kinds.{width}
use Rattle.hamming_gen.specs.Positions.{check_words, next_position}
use Rattle.hamming_gen.specs.HammingTrees.{covers, mask_of}
use Rattle.hamming_gen.specs.HammingWords.{slots, member_slots, parity_slot, is_set, is_odd, sums, place_bits, mended_place, repaired_place}
use Rattle.hamming_laws.specs.Masks.{MemberNumber, CheckNumber, AllUnder, AreUnsigned, AreWords, member_numbers, check_numbers, words_of_members, complement, joined, all_joined, covered, masked, sum_of, agreeing, matched, total, uneven, fault_at, member_fault, check_fault, all_faults, beyond_places, mended_member, mended_check, mended_parity, mended_words, is_fault, place_faults, word_slots}
use Rattle.hamming_laws.proofs.Bits.{differ, is_set-xor, is_set-and, not-not}
use Rattle.hamming_laws.proofs.Sums.{AllApart, AllBelow, from_number}
use Rattle.hamming_laws.proofs.PositionsOfWords.{all-apart, all-below, length-slots, length-members}
use Rattle.hamming_laws.proofs.Places.{length-from}
use Rattle.hamming_laws.proofs.Rebuilt.{bits-append, length-place_bits}
use Rattle.hamming_laws.proofs.Words.{narrow, fit-under, fit-length, under-append}
use Rattle.hamming_laws.proofs.Operations.{any, and-true, and-assoc, joined-xor-under, all_joined-or, all_joined-or-under, is_set-complement, is_set-masked, masked-under, covers-digit, agree, agree-checks}
use Rattle.hamming_laws.proofs.Faults.{faults, differing, differing-append, hopeless, left_unless, left-faults, mended-faults, parity-fault}
use Rattle.hamming_laws.proofs.PlaceSums.{words-of-members, words-of-checks, checks-below, parted-bits, all_bits, all_sums, sums-under, sums-are, total-is, uneven-is}

-- ---- one position

-- the check word of this number, with this word
abbrev numbered : ℕ → ℕ → CheckNumber
numbered j h = record { position = 2 ^ j; word = h }

agreeing-bit : (ms : List MemberNumber) (position j h place : ℕ) → sum_of ms (numbered j h) < 2 ^ 64 → place < 64
    → is_set (agreeing ms position (numbered j h)) place
    ≡ (if is_set position j then is_set (sum_of ms (numbered j h)) place else not (is_set (sum_of ms (numbered j h)) place))
agreeing-bit ms position j h place u l =
    ap (λ b. is_set (if b then sum_of ms (numbered j h) else complement (sum_of ms (numbered j h))) place)
    (covers-digit j position)
    ∙ by (is_set position j)
  where
    by : (b : Bool)
        → is_set (if b then sum_of ms (numbered j h) else complement (sum_of ms (numbered j h))) place
        ≡ (if b then is_set (sum_of ms (numbered j h)) place else not (is_set (sum_of ms (numbered j h)) place))
    by true = refl
    by false = is_set-complement (sum_of ms (numbered j h)) place u l

matched-bits : (ms : List MemberNumber) (first position j : ℕ) (hs : List ℕ) (place : ℕ)
    → AllUnder (2 ^ 64) (map (sum_of ms) (check_numbers j hs)) → place < 64
    → is_set (matched ms first position (check_numbers j hs)) place
    ≡ (is_set first place && agree position j (place_bits place (map (sum_of ms) (check_numbers j hs))))
matched-bits ms first position j [] place u l = sym (and-true (is_set first place))
matched-bits ms first position j (h ∷ hs) place u l =
    let bit = is_set (sum_of ms (numbered j h)) place in
    let more = agree position (j + 1) (place_bits place (map (sum_of ms) (check_numbers (j + 1) hs))) in
    matched-bits ms (bit_and first (agreeing ms position (numbered j h))) position (j + 1) hs place u.1 l
    ∙ ap (λ b. b && more) (is_set-and first (agreeing ms position (numbered j h)) place
    ∙ ap (λ b. is_set first place && b) (agreeing-bit ms position j h place u.0 l))
    ∙ and-assoc (is_set first place) (if is_set position j then bit else not bit) more

-- ---- numbers of 64 bits

pub under-map : {A : Type 0} (n : ℕ) (f : A → ℕ) (l : List A) → ((x : A) → f x < n) → AllUnder n (map f l)
under-map n f [] h = tt
under-map n f (x ∷ l) h = (h x, under-map n f l h)

pub covered-under : (n power q : ℕ) (kinds : List NumKind) (xs : List ℕ) → AllUnder n xs
    → AllUnder n (covered power (member_numbers q kinds xs))
covered-under n power q [] xs h = tt
covered-under n power q (k ∷ kinds) [] h = tt
covered-under n power q (k ∷ kinds) (x ∷ xs) h = by (covers power q) (covered-under n power (next_position q) kinds xs h.1)
  where
    by : (b : Bool) → AllUnder n (covered power (member_numbers (next_position q) kinds xs))
        → AllUnder n (if b then x ∷ covered power (member_numbers (next_position q) kinds xs)
        else covered power (member_numbers (next_position q) kinds xs))
    by true rest = (h.0, rest)
    by false rest = rest

matched-under : (ms : List MemberNumber) (first position : ℕ) (cs : List CheckNumber) → first < 2 ^ 64
    → matched ms first position cs < 2 ^ 64
matched-under ms first position [] h = h
matched-under ms first position (c ∷ cs) h =
    matched-under ms (bit_and first (agreeing ms position c)) position cs
    (omega (arith, h, and_le_l first (agreeing ms position c)))

wide-under : (k : NumKind) (n : ℕ) → n < 2 ^ width k → n < 2 ^ 64
wide-under k n h = let up : 2 ^ width k ≤ 2 ^ 64 = pow_mono (narrow k) in less n (2 ^ width k) (2 ^ 64) h up
  where
    less : (a b c : ℕ) → a < b → b ≤ c → a < c
    less a b c h g = omega (arith, h, g)

sums-under-from : (j q : ℕ) (kinds : List NumKind) (xs hs : List ℕ) → AllUnder (2 ^ 64) xs → AllUnder (2 ^ 64) hs
    → AllUnder (2 ^ 64) (map (sum_of (member_numbers q kinds xs)) (check_numbers j hs))
sums-under-from j q kinds xs [] u v = tt
sums-under-from j q kinds xs (h ∷ hs) u v = (
  joined-xor-under 64 h (covered (2 ^ j) (member_numbers q kinds xs)) v.0
      (covered-under (2 ^ 64) (2 ^ j) q kinds xs u),
  sums-under-from (j + 1) q kinds xs hs u v.1,
)

module _ (kinds : List NumKind) (xs hs : List ℕ) (p : ℕ) (fit : AreWords kinds xs hs p) where
  abbrev ms : List MemberNumber
  ms = member_numbers 3 kinds xs

  abbrev cs : List CheckNumber
  cs = check_numbers 0 hs

  pub members-under : AllUnder (2 ^ 64) xs
  members-under = fit-under kinds xs fit.members_fit

  pub sums-fit : AllUnder (2 ^ 64) (map (sum_of ms) cs)
  sums-fit = sums-under-from 0 3 kinds xs hs members-under fit.checks_fit

  same-members : words_of_members ms ≡ xs
  same-members = words-of-members 3 kinds xs (fit-length kinds xs fit.members_fit)

  pub total-fits : total ms cs p < 2 ^ 64
  total-fits =
      subst (λ l. joined bit_xor p l < 2 ^ 64) (ap₂ (λ a b. a ++ b) (sym (words-of-checks 0 hs)) (sym same-members))
      (joined-xor-under 64 p (hs ++ xs) fit.parity_fits (under-append (2 ^ 64) hs xs fit.checks_fit members-under))

  pub uneven-fits : uneven ms cs p < 2 ^ 64
  uneven-fits = all_joined-or-under 64 (map (sum_of ms) cs) sums-fit

  pub fault-fits : (position : ℕ) → fault_at ms cs p position < 2 ^ 64
  fault-fits position = matched-under ms (total ms cs p) position cs total-fits

  pub member-faults-fit : (q : ℕ) (ks : List NumKind) (ws : List ℕ) → AreUnsigned ks
      → AllUnder (2 ^ 64) (map (member_fault ms cs p) (member_numbers q ks ws))
  member-faults-fit q [] ws u = tt
  member-faults-fit q (k ∷ ks) [] u = tt
  member-faults-fit q (k ∷ ks) (w ∷ ws) u = (
    wide-under k (masked (mask_of k) (fault_at ms cs p q))
        (masked-under k (fault_at ms cs p q) u.0 (fault-fits q)),
    member-faults-fit (next_position q) ks ws u.1,
  )

  pub check-faults-fit : AllUnder (2 ^ 64) (map (check_fault ms cs p) cs)
  check-faults-fit = under-map (2 ^ 64) (check_fault ms cs p) cs (λ c. fault-fits c.position)

  pub faults-fit : AllUnder (2 ^ 64) (all_faults ms cs p)
  faults-fit =
      under-append (2 ^ 64) (map (member_fault ms cs p) ms) (map (check_fault ms cs p) cs)
      (member-faults-fit 3 kinds xs fit.unsigned) check-faults-fit

  pub beyond-fits : beyond_places ms cs p < 2 ^ 64
  beyond-fits =
      omega (arith, uneven-fits, and_le_l (uneven ms cs p) (complement (all_joined bit_or (all_faults ms cs p))))

  mended-members-fit : (q : ℕ) (ks : List NumKind) (ws : List ℕ) → AreUnsigned ks → AllUnder (2 ^ 64) ws
      → AllUnder (2 ^ 64) (map (mended_member ms cs p) (member_numbers q ks ws))
  mended-members-fit q [] ws u h = tt
  mended-members-fit q (k ∷ ks) [] u h = tt
  mended-members-fit q (k ∷ ks) (w ∷ ws) u h = (
    xor_lt 64 w (masked (mask_of k) (fault_at ms cs p q)) h.0
        (wide-under k (masked (mask_of k) (fault_at ms cs p q))
        (masked-under k (fault_at ms cs p q) u.0 (fault-fits q))),
    mended-members-fit (next_position q) ks ws u.1 h.1,
  )

  mended-checks-fit : (j : ℕ) (ws : List ℕ) → AllUnder (2 ^ 64) ws
      → AllUnder (2 ^ 64) (map (mended_check ms cs p) (check_numbers j ws))
  mended-checks-fit j [] h = tt
  mended-checks-fit j (w ∷ ws) h =
      (xor_lt 64 w (fault_at ms cs p (2 ^ j)) h.0 (fault-fits (2 ^ j)), mended-checks-fit (j + 1) ws h.1)

  mended-parity-fits : mended_parity ms cs p < 2 ^ 64
  mended-parity-fits =
      xor_lt 64 p (bit_and (total ms cs p) (complement (uneven ms cs p))) fit.parity_fits
      (omega (arith, total-fits, and_le_l (total ms cs p) (complement (uneven ms cs p))))

  pub mended-under : AllUnder (2 ^ 64) (mended_words ms cs p)
  mended-under =
      under-append (2 ^ 64) (map (mended_member ms cs p) ms) (map (mended_check ms cs p) cs ++ mended_parity ms cs p ∷ [])
      (mended-members-fit 3 kinds xs fit.unsigned members-under)
      (under-append (2 ^ 64) (map (mended_check ms cs p) cs) (mended_parity ms cs p ∷ [])
      (mended-checks-fit 0 hs fit.checks_fit) (mended-parity-fits, tt))

-- ---- at a place

-- words and what is inverted of them
differing-words : {A : Type 0} (word fault : A → ℕ) (l : List A) (place : ℕ)
    → place_bits place (map (λ x. bit_xor (word x) (fault x)) l)
    ≡ differing (place_bits place (map word l)) (place_bits place (map fault l))
differing-words word fault [] place = refl
differing-words word fault (x ∷ l) place =
    ap₂ (λ b bits. b ∷ bits) (is_set-xor (word x) (fault x) place) (differing-words word fault l place)

-- the slots of a part, the parity's by itself
slots-parted : (kinds : List NumKind) → slots kinds ≡ word_slots kinds ++ parity_slot ∷ []
slots-parted kinds =
    sym (append_assoc (member_slots 3 kinds) (from_number 0 (check_words (length kinds))) (parity_slot ∷ []))

none-unless : (none : Bool) (bits : List Bool) → is_none (left_unless none bits) ≡ none
none-unless true bits = refl
none-unless false bits = refl

module _ (kinds : List NumKind) (xs hs : List ℕ) (p : ℕ) (fit : AreWords kinds xs hs p) (place : ℕ) (l : place < 64) where
  abbrev bits : List Bool
  bits = all_bits kinds xs hs p fit place

  abbrev sum : ℕ
  sum = all_sums kinds xs hs p fit place

  fault-bit : (position : ℕ) → position < 2 ^ check_words (length kinds)
      → is_set (fault_at (ms kinds xs hs p fit) (cs kinds xs hs p fit) p position) place
      ≡ (is_odd bits && nat_eq position sum)
  fault-bit position h =
      matched-bits (ms kinds xs hs p fit) (total (ms kinds xs hs p fit) (cs kinds xs hs p fit) p) position 0 hs place
      (sums-fit kinds xs hs p fit) l
      ∙ ap₂ (λ a b. a && agree position 0 b) (total-is kinds xs hs p fit place) (sums-are kinds xs hs p fit place)
      ∙ ap (λ b. is_odd bits && b)
      (agree-checks (check_words (length kinds)) position sum h (sums-under kinds xs hs p fit place))

  member-fault-bits : (q : ℕ) (ks : List NumKind) (ws : List ℕ) → length ws ≡ length ks → AreUnsigned ks
      → AllBelow (2 ^ check_words (length kinds)) (member_slots q ks)
      → place_bits place
      (map (member_fault (ms kinds xs hs p fit) (cs kinds xs hs p fit) p) (member_numbers q ks ws))
      ≡ faults (is_odd bits) sum place (member_slots q ks)
  member-fault-bits q [] [] e u h = refl
  member-fault-bits q [] (w ∷ ws) e u h = refl
  member-fault-bits q (k ∷ ks) [] e u h = absurd (omega arith)
  member-fault-bits q (k ∷ ks) (w ∷ ws) e u h =
      ap₂ (λ b more. b ∷ more)
      (is_set-masked k (fault_at (ms kinds xs hs p fit) (cs kinds xs hs p fit) p q) place u.0 l
      ∙ ap (λ b. b && nat_lt place (width k)) (fault-bit q h.0)
      ∙ and-assoc (is_odd bits) (nat_eq q sum) (nat_lt place (width k)))
      (member-fault-bits (next_position q) ks ws (omega arith) u.1 h.1)

  check-fault-bits : (j n : ℕ) (ws : List ℕ) → length ws ≡ n
      → AllBelow (2 ^ check_words (length kinds)) (from_number j n)
      → place_bits place (map (check_fault (ms kinds xs hs p fit) (cs kinds xs hs p fit) p) (check_numbers j ws))
      ≡ faults (is_odd bits) sum place (from_number j n)
  check-fault-bits j zero [] e h = refl
  check-fault-bits j zero (w ∷ ws) e h = absurd (omega arith)
  check-fault-bits j (suc n) [] e h = absurd (omega arith)
  check-fault-bits j (suc n) (w ∷ ws) e h =
      ap₂ (λ b more. b ∷ more)
      (fault-bit (2 ^ j) h.0
      ∙ ap (λ b. is_odd bits && b) (sym (ap (λ b. nat_eq (2 ^ j) sum && b) (lt-ltb place 64 l)
      ∙ and-true (nat_eq (2 ^ j) sum))))
      (check-fault-bits (j + 1) n ws (omega arith) h.1)

  abbrev member_fault_words : List ℕ
  member_fault_words =
      map (member_fault (ms kinds xs hs p fit) (cs kinds xs hs p fit) p) (ms kinds xs hs p fit)

  abbrev check_fault_words : List ℕ
  check_fault_words =
      map (check_fault (ms kinds xs hs p fit) (cs kinds xs hs p fit) p) (cs kinds xs hs p fit)

  members-are : place_bits place member_fault_words ≡ faults (is_odd bits) sum place (member_slots 3 kinds)
  members-are =
      member-fault-bits 3 kinds xs (fit-length kinds xs fit.members_fit) fit.unsigned (all-below kinds)

  checks-are : place_bits place check_fault_words
      ≡ faults (is_odd bits) sum place (from_number 0 (check_words (length kinds)))
  checks-are =
      let r = check_words (length kinds) in
      check-fault-bits 0 r hs fit.checks_length (checks-below r 0 r (omega arith))

  pub faults-are : place_bits place (all_faults (ms kinds xs hs p fit) (cs kinds xs hs p fit) p)
      ≡ place_faults (slots kinds) place bits (word_slots kinds)
  faults-are =
      bits-append place member_fault_words check_fault_words
      ∙ ap₂ (λ a b. a ++ b) members-are checks-are
      ∙ sym (map-append (is_fault (is_odd bits) sum place) (member_slots 3 kinds)
      (from_number 0 (check_words (length kinds))))

  -- ---- what is beyond repair

  length-bits : length bits ≡ length (slots kinds)
  length-bits =
      length-place_bits place (xs ++ (hs ++ p ∷ []))
      ∙ length-append xs (hs ++ p ∷ [])
      ∙ ap₂ (λ a b. a + b) (fit-length kinds xs fit.members_fit)
      (length-append hs (p ∷ []) ∙ ap (λ n. n + 1) fit.checks_length)
      ∙ sym (length-slots kinds)

  mended-is : mended_place (slots kinds) place bits
      ≡ left_unless (hopeless (is_odd bits) sum place (word_slots kinds))
      (differing bits (faults (is_odd bits) sum place (slots kinds)))
  mended-is =
      subst (λ part. mended_place part place bits
      ≡ left_unless (hopeless (is_odd bits) (sums part bits) place (word_slots kinds))
      (differing bits (faults (is_odd bits) (sums part bits) place part)))
      (sym (slots-parted kinds))
      (mended-faults (word_slots kinds) place bits (subst AllApart (slots-parted kinds) (all-apart kinds))
      (length-bits ∙ ap length (slots-parted kinds)) l)

  left-is : unwrap_or (mended_place (slots kinds) place bits) bits
      ≡ differing bits (faults (is_odd bits) sum place (slots kinds))
  left-is =
      ap (λ o. unwrap_or o bits) mended-is
      ∙ subst (λ part. unwrap_or (left_unless (hopeless (is_odd bits) sum place (word_slots kinds))
      (differing bits (faults (is_odd bits) sum place part))) bits
      ≡ differing bits (faults (is_odd bits) sum place part))
      (sym (slots-parted kinds)) (left-faults (is_odd bits) sum place (word_slots kinds) bits l)

  some-fault : is_set (all_joined bit_or (all_faults (ms kinds xs hs p fit) (cs kinds xs hs p fit) p)) place
      ≡ any (faults (is_odd bits) sum place (word_slots kinds))
  some-fault = all_joined-or (all_faults (ms kinds xs hs p fit) (cs kinds xs hs p fit) p) place ∙ ap any faults-are

  pub beyond-is : is_set (beyond_places (ms kinds xs hs p fit) (cs kinds xs hs p fit) p) place
      ≡ is_none (mended_place (slots kinds) place bits)
  beyond-is =
      let some = all_joined bit_or (all_faults (ms kinds xs hs p fit) (cs kinds xs hs p fit) p) in
      is_set-and (uneven (ms kinds xs hs p fit) (cs kinds xs hs p fit) p) (complement some) place
      ∙ ap₂ (λ a b. a && b) (uneven-is kinds xs hs p fit place)
      (is_set-complement some place
      (all_joined-or-under 64 (all_faults (ms kinds xs hs p fit) (cs kinds xs hs p fit) p) (faults-fit kinds xs hs p fit)) l
      ∙ ap not some-fault)
      ∙ sym (ap is_none mended-is
      ∙ none-unless (hopeless (is_odd bits) sum place (word_slots kinds))
      (differing bits (faults (is_odd bits) sum place (slots kinds))))

  -- ---- what is mended

  mended-members-are : place_bits place
      (map (mended_member (ms kinds xs hs p fit) (cs kinds xs hs p fit) p) (ms kinds xs hs p fit))
      ≡ differing (place_bits place xs) (faults (is_odd bits) sum place (member_slots 3 kinds))
  mended-members-are =
      differing-words (λ (m : MemberNumber). m.word)
      (member_fault (ms kinds xs hs p fit) (cs kinds xs hs p fit) p) (ms kinds xs hs p fit) place
      ∙ ap₂ differing (ap (place_bits place) (same-members kinds xs hs p fit)) members-are

  mended-checks-are : place_bits place
      (map (mended_check (ms kinds xs hs p fit) (cs kinds xs hs p fit) p) (cs kinds xs hs p fit))
      ≡ differing (place_bits place hs) (faults (is_odd bits) sum place (from_number 0 (check_words (length kinds))))
  mended-checks-are =
      differing-words (λ (c : CheckNumber). c.word)
      (check_fault (ms kinds xs hs p fit) (cs kinds xs hs p fit) p) (cs kinds xs hs p fit) place
      ∙ ap₂ differing (ap (place_bits place) (words-of-checks 0 hs)) checks-are

  mended-parity-is : is_set (mended_parity (ms kinds xs hs p fit) (cs kinds xs hs p fit) p) place
      ≡ differ (is_set p place) (is_fault (is_odd bits) sum place parity_slot)
  mended-parity-is =
      let all = total (ms kinds xs hs p fit) (cs kinds xs hs p fit) p in
      let some = uneven (ms kinds xs hs p fit) (cs kinds xs hs p fit) p in
      is_set-xor p (bit_and all (complement some)) place
      ∙ ap (differ (is_set p place)) (is_set-and all (complement some) place
      ∙ ap₂ (λ a b. a && b) (total-is kinds xs hs p fit place)
      (is_set-complement some place (uneven-fits kinds xs hs p fit) l
      ∙ ap not (uneven-is kinds xs hs p fit place)
      ∙ not-not (nat_eq sum 0))
      ∙ sym (parity-fault (is_odd bits) sum place l))

  -- what is inverted of the members, the check words and the parity
  pub mended-are : place_bits place (mended_words (ms kinds xs hs p fit) (cs kinds xs hs p fit) p)
      ≡ repaired_place kinds (xs ++ (hs ++ p ∷ [])) place
  mended-are =
      let r = check_words (length kinds) in
      let members = map (mended_member (ms kinds xs hs p fit) (cs kinds xs hs p fit) p) (ms kinds xs hs p fit) in
      let checks = map (mended_check (ms kinds xs hs p fit) (cs kinds xs hs p fit) p) (cs kinds xs hs p fit) in
      let parity = mended_parity (ms kinds xs hs p fit) (cs kinds xs hs p fit) p in
      let of = is_fault (is_odd bits) sum place in
      parted-bits place members checks parity
      ∙ ap₂ (λ a b. a ++ b) mended-members-are
      (ap₂ (λ a b. a ++ b ∷ []) mended-checks-are mended-parity-is
      ∙ sym (differing-append (place_bits place hs) (is_set p place ∷ []) (map of (from_number 0 r))
      (of parity_slot ∷ [])
      (length-place_bits place hs ∙ fit.checks_length ∙ sym (length-map (from_number 0 r) of ∙ length-from 0 r))))
      ∙ sym (differing-append (place_bits place xs) (place_bits place hs ++ is_set p place ∷ [])
      (map of (member_slots 3 kinds)) (map of (from_number 0 r) ++ of parity_slot ∷ [])
      (length-place_bits place xs ∙ fit-length kinds xs fit.members_fit
      ∙ sym (length-map (member_slots 3 kinds) of ∙ length-members 3 kinds)))
      ∙ ap₂ differing (sym (parted-bits place xs hs p))
      (sym (map-append of (member_slots 3 kinds) (from_number 0 r ++ parity_slot ∷ [])
      ∙ ap (λ t. map of (member_slots 3 kinds) ++ t) (map-append of (from_number 0 r) (parity_slot ∷ []))))
      ∙ sym left-is
