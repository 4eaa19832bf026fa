-- Check words and a parity word: what they mean, at each of 64 bit places by itself.
--
-- The words of a part are its members, the check words and the parity word. A bit of a member or of a check word counts
-- for the position of its word, and the parity word has position 0, which counts for nothing.
use Rattle.std.specs.Prelude.{ℕ, zero, suc, ◌+◌, ◌*◌, ◌^◌, Bool, true, false, not, ◌||◌, nat_eq, nat_lt, bit_xor, Option, Some, None, option_map, unwrap_or, is_none, List, [], ◌∷◌, ◌++◌, map, length, replicate, if◌then◌else◌}
use Rattle.std.specs.Int.{bit_at}
use Rattle.std.specs.List.{range_with_len}
use Rattle.agxx_base.specs.declared.kind.NumKind.{NumKind}
use Rattle.agxx_base.specs.declared.kind.NumKind.TheVariants as num
use Rattle.cxx_arith.specs.Kinds.{width}
use Rattle.codec.specs.Copies.{IsSingle}
use Rattle.hamming_gen.specs.Positions.{check_words, next_position}

-- ---- words, their kinds and their positions

abbrev pub extra_words : ℕ → ℕ
extra_words k = check_words k + 1

-- the kinds of all words of a part
abbrev pub all_kinds : List NumKind → List NumKind
all_kinds kinds = kinds ++ replicate (extra_words (length kinds)) num.U64

-- where a word stands among the positions, and how many bits it has
pub record Slot : Type 0 where
  pub position : ℕ
  pub width : ℕ

-- the member at this position, and the others at the next ones that are no powers of two
abbrev pub member_slots : ℕ → List NumKind → List Slot
member_slots p [] = []
member_slots p (k ∷ kinds) = record { position = p; width = width k } ∷ member_slots (next_position p) kinds

-- the check word of this number
abbrev pub check_slot : ℕ → Slot
check_slot j = record { position = 2 ^ j; width = 64 }

abbrev pub parity_slot : Slot
parity_slot = record { position = 0; width = 64 }

-- those of all words of a part
abbrev pub slots : List NumKind → List Slot
slots kinds =
    member_slots 3 kinds
    ++ (map check_slot (range_with_len 0 (check_words (length kinds))) ++ parity_slot ∷ [])

-- ---- at one bit place: a bit of each word

-- whether a number has a bit
abbrev pub is_set : ℕ → ℕ → Bool
is_set n place = nat_eq (bit_at n place) 1

-- whether the sum of bits modulo 2 is 1
abbrev pub is_odd : List Bool → Bool
is_odd [] = false
is_odd (true ∷ bits) = not (is_odd bits)
is_odd (false ∷ bits) = is_odd bits

-- the number whose binary digits are the sums modulo 2: digit j is the sum of the bits whose position has digit j. So it is
-- the sum without carry of the positions of the bits that are set
abbrev pub sums : List Slot → List Bool → ℕ
sums [] bits = 0
sums (s ∷ rest) [] = 0
sums (s ∷ rest) (true ∷ bits) = bit_xor s.position (sums rest bits)
sums (s ∷ rest) (false ∷ bits) = sums rest bits

-- the bits with that one inverted whose word has this position; none, where there is no such word or the bit place isn't
-- below its width
abbrev pub inverted_at : ℕ → ℕ → List Slot → List Bool → Option (List Bool)
inverted_at place p [] bits = None
inverted_at place p (s ∷ rest) [] = None
inverted_at place p (s ∷ rest) (bit ∷ bits) =
    if nat_eq s.position p then (if nat_lt place s.width then Some (not bit ∷ bits) else None)
    else option_map (λ more. bit ∷ more) (inverted_at place p rest bits)

-- the bits that repair leaves; none, where they can't be repaired. With an even number of bits nothing may be wrong, and
-- with an odd one the bit at the position that the sums tell is, which is the parity bit's where they are 0
abbrev pub mended_place : List Slot → ℕ → List Bool → Option (List Bool)
mended_place part place bits =
    if is_odd bits then inverted_at place (sums part bits) part bits
    else (if nat_eq (sums part bits) 0 then Some bits else None)

-- the bits of so many check words that make the sums 0
abbrev pub check_bits : ℕ → ℕ → List Bool
check_bits r sum = map (is_set sum) (range_with_len 0 r)

-- the bits of the check words, by those of the members
abbrev pub checked_place : List NumKind → List Bool → List Bool
checked_place kinds bits = check_bits (check_words (length kinds)) (sums (member_slots 3 kinds) bits)

-- the bits of all words that are added, by those of the members
abbrev pub added_place : List NumKind → List Bool → List Bool
added_place kinds bits = checked_place kinds bits ++ is_odd (bits ++ checked_place kinds bits) ∷ []

-- ---- all places

-- a bit of each word
abbrev pub place_bits : ℕ → List ℕ → List Bool
place_bits place words = map (λ w. is_set w place) words

abbrev pub digit : Bool → ℕ
digit true = 1
digit false = 0

-- words with a lowest bit more
abbrev pub with_lowest : List Bool → List ℕ → List ℕ
with_lowest [] words = []
with_lowest (bit ∷ bits) [] = []
with_lowest (bit ∷ bits) (w ∷ words) = (digit bit + 2 * w) ∷ with_lowest bits words

-- so many words, by their bits at so many places from this one on
unfoldable pub words_from : ℕ → (ℕ → List Bool) → ℕ → ℕ → List ℕ
words_from n bits place zero = replicate n 0
words_from n bits place (suc more) = with_lowest (bits place) (words_from n bits (suc place) more)

-- so many words, by their bits at each place
abbrev pub words_of : ℕ → (ℕ → List Bool) → List ℕ
words_of n bits = words_from n bits 0 64

-- whether there is a place that can't be repaired, among so many from this one on
unfoldable pub beyond_from : List Slot → List ℕ → ℕ → ℕ → Bool
beyond_from part words place zero = false
beyond_from part words place (suc more) =
    is_none (mended_place part place (place_bits place words)) || beyond_from part words (suc place) more

-- ---- of a part, whose members have these unsigned kinds

-- all words, for the values of the members
abbrev pub encoded : List NumKind → List ℕ → List ℕ
encoded kinds v = v ++ words_of (extra_words (length kinds)) (λ place. added_place kinds (place_bits place v))

-- the bits that repair leaves at a place
abbrev pub repaired_place : List NumKind → List ℕ → ℕ → List Bool
repaired_place kinds words place =
    unwrap_or (mended_place (slots kinds) place (place_bits place words)) (place_bits place words)

-- the words that repair leaves
abbrev pub repaired : List NumKind → List ℕ → List ℕ
repaired kinds words = words_of (length words) (repaired_place kinds words)

-- whether words can't be repaired
abbrev pub beyond : List NumKind → List ℕ → Bool
beyond kinds words = beyond_from (slots kinds) words 0 64

-- at most one bit is inverted
abbrev pub IsDamage : List NumKind → List ℕ → List ℕ → Type 0
IsDamage kinds before after = IsSingle (map width (all_kinds kinds)) before after
