-- What the generated statements compute, on whole words of 64 bits, is what is meant at each bit place.
use Rattle.std.specs.Prelude.{◌≡◌, ℕ, ◌+◌, ◌^◌, ◌<◌, Bool, not, ◌&&◌, nat_eq, nat_lt, is_none, bit_and, bit_or, bit_xor, pos, neg_ℤ, ◌-ℤ◌, Option, Some, None, List, [], ◌∷◌, ◌++◌, map, length, if◌then◌else◌}
use Rattle.std.specs.List.{range_with_len}
use Rattle.agxx_base.specs.declared.kind.NumKind.{NumKind}
use Rattle.cxx_arith.specs.Numbers.{modulo}
use Rattle.codec.specs.Part.{unsigned_kind}
use Rattle.codec_laws.specs.Values.{Fit}
use Rattle.hamming_gen.specs.Positions.{check_words, next_position}
use Rattle.hamming_gen.specs.HammingTrees.{covers, mask_of}
use Rattle.hamming_gen.specs.HammingWords.{Slot, slots, member_slots, check_slot, all_kinds, is_set, is_odd, sums, place_bits, check_bits, mended_place, encoded, repaired, repaired_place, beyond}

-- ---- words

-- a member: its position, its unsigned kind, and the number of 64 bits that its value is in that kind
pub record MemberNumber : Type 0 where
  pub position : ℕ
  pub kind : NumKind
  pub word : ℕ

-- a check word, at a power of two
pub record CheckNumber : Type 0 where
  pub position : ℕ
  pub word : ℕ

-- members at this position and the next ones
abbrev pub member_numbers : ℕ → List NumKind → List ℕ → List MemberNumber
member_numbers p [] xs = []
member_numbers p (k ∷ kinds) [] = []
member_numbers p (k ∷ kinds) (x ∷ xs) =
    record { position = p; kind = k; word = x } ∷ member_numbers (next_position p) kinds xs

-- check words from this number on
abbrev pub check_numbers : ℕ → List ℕ → List CheckNumber
check_numbers j [] = []
check_numbers j (h ∷ hs) = record { position = 2 ^ j; word = h } ∷ check_numbers (j + 1) hs

abbrev pub words_of_members : List MemberNumber → List ℕ
words_of_members ms = map (λ (m : MemberNumber). m.word) ms

abbrev pub words_of_checks : List CheckNumber → List ℕ
words_of_checks cs = map (λ (c : CheckNumber). c.word) cs

-- ---- operations

-- `~n`
abbrev pub complement : ℕ → ℕ
complement n = modulo 64 (neg_ℤ (pos n) -ℤ pos 1)

-- `first op n op ..`
abbrev pub joined : (ℕ → ℕ → ℕ) → ℕ → List ℕ → ℕ
joined op first [] = first
joined op first (n ∷ ns) = joined op (op first n) ns

-- `n op n op ..`, or 0 where there is none
abbrev pub all_joined : (ℕ → ℕ → ℕ) → List ℕ → ℕ
all_joined op [] = 0
all_joined op (n ∷ ns) = joined op n ns

-- the words of the members that a check word covers
abbrev pub covered : ℕ → List MemberNumber → List ℕ
covered power [] = []
covered power (m ∷ ms) = if covers power m.position then m.word ∷ covered power ms else covered power ms

-- `n & mask`
abbrev pub masked : Option ℕ → ℕ → ℕ
masked None n = n
masked (Some mask) n = bit_and n mask

-- ---- repair

-- the sum of a check word and the members that it covers
abbrev pub sum_of : List MemberNumber → CheckNumber → ℕ
sum_of ms c = joined bit_xor c.word (covered c.position ms)

-- the sum of a check word where it covers a position, else its complement
abbrev pub agreeing : List MemberNumber → ℕ → CheckNumber → ℕ
agreeing ms position c = if covers c.position position then sum_of ms c else complement (sum_of ms c)

-- `first & sum & ~sum & ..`
abbrev pub matched : List MemberNumber → ℕ → ℕ → List CheckNumber → ℕ
matched ms first position [] = first
matched ms first position (c ∷ cs) = matched ms (bit_and first (agreeing ms position c)) position cs

module _ (ms : List MemberNumber) (cs : List CheckNumber) (parity : ℕ) where
  -- the sum of all words
  abbrev pub total : ℕ
  total = joined bit_xor parity (words_of_checks cs ++ words_of_members ms)

  -- the bit places where some sum isn't 0
  abbrev pub uneven : ℕ
  uneven = all_joined bit_or (map (sum_of ms) cs)

  -- the bit places where the word at this position is to be inverted
  abbrev pub fault_at : ℕ → ℕ
  fault_at position = matched ms total position cs

  abbrev pub member_fault : MemberNumber → ℕ
  member_fault m = masked (mask_of m.kind) (fault_at m.position)

  abbrev pub check_fault : CheckNumber → ℕ
  check_fault c = fault_at c.position

  abbrev pub all_faults : List ℕ
  all_faults = map member_fault ms ++ map check_fault cs

  -- the bit places that can't be repaired
  abbrev pub beyond_places : ℕ
  beyond_places = bit_and uneven (complement (all_joined bit_or all_faults))

  abbrev pub mended_member : MemberNumber → ℕ
  mended_member m = bit_xor m.word (member_fault m)

  abbrev pub mended_check : CheckNumber → ℕ
  mended_check c = bit_xor c.word (check_fault c)

  abbrev pub mended_parity : ℕ
  mended_parity = bit_xor parity (bit_and total (complement uneven))

  abbrev pub mended_words : List ℕ
  mended_words = map mended_member ms ++ (map mended_check cs ++ mended_parity ∷ [])

-- ---- renewal

abbrev pub renewed_check : List MemberNumber → CheckNumber → ℕ
renewed_check ms c = all_joined bit_xor (covered c.position ms)

abbrev pub renewed_checks : List MemberNumber → List CheckNumber → List ℕ
renewed_checks ms cs = map (renewed_check ms) cs

-- the sum of all other words, of which the check words are renewed
abbrev pub renewed_parity : List MemberNumber → List CheckNumber → ℕ
renewed_parity ms cs = all_joined bit_xor (renewed_checks ms cs ++ words_of_members ms)

-- ---- the words of a part

abbrev pub AllUnder : ℕ → List ℕ → Type 0
AllUnder n [] = Unit {0}
AllUnder n (w ∷ words) = (w < n) × AllUnder n words

abbrev pub AreUnsigned : List NumKind → Type 0
AreUnsigned [] = Unit {0}
AreUnsigned (k ∷ kinds) = (unsigned_kind k ≡ k) × AreUnsigned kinds

-- the words of members of unsigned kinds, of their check words and of the parity
pub record AreWords (kinds : List NumKind) (xs hs : List ℕ) (p : ℕ) : Type 0 where
  pub unsigned : AreUnsigned kinds
  pub members_fit : Fit kinds xs
  pub checks_length : length hs ≡ check_words (length kinds)
  pub checks_fit : AllUnder (2 ^ 64) hs
  pub parity_fits : p < 2 ^ 64

-- all words of a part, parted so
pub record AreParted (kinds : List NumKind) (words : List ℕ) : Type 0 where
  pub members : List ℕ
  pub checks : List ℕ
  pub parity : ℕ
  pub words_are : words ≡ members ++ (checks ++ parity ∷ [])
  pub fit : AreWords kinds members checks parity

-- ---- at one bit place

-- whether the bit of a word is to be inverted: the bits are odd, and it is that of the position that the sums tell
abbrev pub is_fault : Bool → ℕ → ℕ → Slot → Bool
is_fault odd sum place s = odd && (nat_eq s.position sum && nat_lt place s.width)

-- of these words, by the bits of all words of a part
abbrev pub place_faults : List Slot → ℕ → List Bool → List Slot → List Bool
place_faults part place bits some = map (is_fault (is_odd bits) (sums part bits) place) some

-- those of all words but the parity
abbrev pub word_slots : List NumKind → List Slot
word_slots kinds = member_slots 3 kinds ++ map check_slot (range_with_len 0 (check_words (length kinds)))

-- what is computed of these words has the bits that are meant
pub record ArePlaces (kinds : List NumKind) (words : List ℕ) (ms : List MemberNumber) (cs : List CheckNumber)
    (parity place : ℕ) : Type 0 where
  pub sums_are : place_bits place (map (sum_of ms) cs)
      ≡ check_bits (check_words (length kinds)) (sums (slots kinds) (place_bits place words))
  pub total_is : is_set (total ms cs parity) place ≡ is_odd (place_bits place words)
  pub uneven_is : is_set (uneven ms cs parity) place ≡ not (nat_eq (sums (slots kinds) (place_bits place words)) 0)
  pub faults_are : place_bits place (all_faults ms cs parity)
      ≡ place_faults (slots kinds) place (place_bits place words) (word_slots kinds)
  pub beyond_is : is_set (beyond_places ms cs parity) place
      ≡ is_none (mended_place (slots kinds) place (place_bits place words))
  pub mended_are : place_bits place (mended_words ms cs parity) ≡ repaired_place kinds words place

-- ---- the law

-- what is computed is a number of 64 bits
pub record AreBounded (ms : List MemberNumber) (cs : List CheckNumber) (parity : ℕ) : Type 0 where
  pub sums_fit : AllUnder (2 ^ 64) (map (sum_of ms) cs)
  pub total_fits : total ms cs parity < 2 ^ 64
  pub uneven_fits : uneven ms cs parity < 2 ^ 64
  pub faults_fit : AllUnder (2 ^ 64) (all_faults ms cs parity)
  pub beyond_fits : beyond_places ms cs parity < 2 ^ 64
  pub renewed_fit : AllUnder (2 ^ 64) (renewed_checks ms cs ++ renewed_parity ms cs ∷ [])

pub record MasksArePlaces : Type 0 where
  -- all words that fit are such words
  pub parted : (kinds : List NumKind) (words : List ℕ) → AreUnsigned kinds → Fit (all_kinds kinds) words
      → AreParted kinds words
  pub unsigned : (kinds : List NumKind) → AreUnsigned (map unsigned_kind kinds)
  pub bounded : (kinds : List NumKind) (xs hs : List ℕ) (p : ℕ) → AreWords kinds xs hs p
      → AreBounded (member_numbers 3 kinds xs) (check_numbers 0 hs) p
  pub places : (kinds : List NumKind) (xs hs : List ℕ) (p place : ℕ) → AreWords kinds xs hs p → place < 64
      → ArePlaces kinds (xs ++ (hs ++ p ∷ [])) (member_numbers 3 kinds xs) (check_numbers 0 hs) p place
  -- what is mended fits as the words did
  pub mended_fit : (kinds : List NumKind) (xs hs : List ℕ) (p : ℕ) → AreWords kinds xs hs p
      → Fit (all_kinds kinds) (mended_words (member_numbers 3 kinds xs) (check_numbers 0 hs) p)
  -- the words can't be repaired exactly where some bit place is found that can't
  pub stops : (kinds : List NumKind) (xs hs : List ℕ) (p : ℕ) → AreWords kinds xs hs p
      → beyond kinds (xs ++ (hs ++ p ∷ []))
      ≡ not (nat_eq (beyond_places (member_numbers 3 kinds xs) (check_numbers 0 hs) p) 0)
  -- the words become those that repair leaves
  pub mends : (kinds : List NumKind) (xs hs : List ℕ) (p : ℕ) → AreWords kinds xs hs p
      → repaired kinds (xs ++ (hs ++ p ∷ []))
      ≡ mended_words (member_numbers 3 kinds xs) (check_numbers 0 hs) p
  -- renewal makes what is encoded of the members, whatever the other words were
  pub renews : (kinds : List NumKind) (xs hs : List ℕ) (p : ℕ) → AreWords kinds xs hs p
      → encoded kinds xs
      ≡ xs ++ (renewed_checks (member_numbers 3 kinds xs) (check_numbers 0 hs)
      ++ renewed_parity (member_numbers 3 kinds xs) (check_numbers 0 hs) ∷ [])
