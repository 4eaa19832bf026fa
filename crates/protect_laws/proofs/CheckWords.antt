-- The statements that repair and renew check words keep the limits of woven programs: with 120 members at most, no
-- expression has more operators than 400.
use Rattle.std.proofs.Common.{◌≡◌, ◌≤◌, ℕ, zero, suc, ◌+◌, ◌*◌, refl, ap, ◌∙◌, arith, Bool, true, false, if◌then◌else◌, List, [], ◌∷◌, map, length, Option, Some, None, length-append}
use Rattle.std.proofs.lemmas.List.FromFn.{length-range_with_len}
use Rattle.std.proofs.lemmas.List.{length-map}
use Rattle.std.specs.List.{range_with_len}
use Rattle.agxx_base.specs.declared.ids.NameId.{NameId}
use Rattle.agxx_base.specs.declared.place.Place.{Place}
use Rattle.cxx_tree.specs.declared.operator.BinOp.{BinOp}
use Rattle.cxx_tree.specs.declared.operator.BinOp.TheVariants as op
use Rattle.cxx_tree.specs.declared.program.Member.{Member}
use Rattle.cxx_tree.specs.Limits.{woven, Every}
use Rattle.cxx_tree.specs.Fits as f
use Rattle.cxx_tree.specs.ExprTree as e
use Rattle.cxx_tree.specs.ExprTree.{ExprTree}
use Rattle.cxx_tree.specs.StmtTree.{StmtTree}
use Rattle.cxx_normal.proofs.Lists.{every-append}
use Rattle.cxx_make.specs.Made as made
use Rattle.codec.specs.declared.part.Part.{Part}
use Rattle.codec.specs.Part.{unsigned_of, place_of}
use Rattle.hamming_gen.specs.Positions.{is_enough, enough_from, check_words, next_position}
use Rattle.hamming_gen.specs.HammingNames.{member_words, check_word, part_words}
use Rattle.hamming_gen.specs.HammingTrees as h
use Rattle.hamming_gen.specs.declared.words.MemberWord.{MemberWord}
use Rattle.hamming_gen.specs.declared.words.CheckWord.{CheckWord}
use Rattle.hamming_gen.specs.declared.words.PartWords.{PartWords}

-- ---- numbers of words

few-more : (k r more : ℕ) → enough_from k r more ≤ r + more
few-more k r zero = omega arith
few-more k r (suc more) = by (is_enough k r) (few-more k (suc r) more)
  where
    by : (b : Bool) → enough_from k (suc r) more ≤ suc r + more
        → (if b then r else enough_from k (suc r) more) ≤ r + suc more
    by true rest = omega arith
    by false rest = omega (arith, rest)

pub few-checks : (k : ℕ) → check_words k ≤ k + 1
unfolding check_words
few-checks k = omega (arith, few-more k 0 (k + 1))

length-words : (names : List (List ℕ)) (i position : ℕ) (ms : List Member)
    → length (member_words names i position ms) ≡ length ms
length-words names i position [] = refl
length-words names i position (m ∷ ms) = ap suc (length-words names (suc i) (next_position position) ms)

few-covered : (power : ℕ) (ms : List MemberWord) → length (h.covered power ms) ≤ length ms
few-covered power [] = omega arith
few-covered power (m ∷ ms) = by (h.covers power m.position) (few-covered power ms)
  where
    by : (b : Bool) → length (h.covered power ms) ≤ length ms
        → length (if b then m.word ∷ h.covered power ms else h.covered power ms) ≤ suc (length ms)
    by true rest = omega (arith, rest)
    by false rest = omega (arith, rest)

-- ---- statements

abbrev FitEach : List StmtTree → Type 0
FitEach ts = Every (f.FitsStmt woven 400 98) ts

-- a level has the expressions of each below it
looser : (d low high : ℕ) → low ≤ high → (t : ExprTree) → f.FitsExpr woven d low t → f.FitsExpr woven d high t
looser d low high le (e.lit n value) fits = tt
looser d low high le (e.flag n is_set) fits = tt
looser d low high le (e.null n) fits = tt
looser d low high le (e.this n) fits = tt
looser d low high le (e.left l) fits = fits
looser d low high le (e.unary n o operand) fits = fits
looser d low high le (e.binary n o a b) (under, first, second) = (omega (arith, under, le), first, second)
looser d low high le (e.paren n inner) fits = fits
looser d low high le (e.cast n type_name operand) fits = fits
looser d low high le (e.call c) fits = fits
looser d low high le (e.new n class) fits = tt
looser d low high le (e.new_with n class arguments) fits = fits

module _ (at : Place) where
  -- an operand of operators of this level, with operators of its own
  module _ (d : ℕ) where
    abbrev FitsAt : ℕ → ExprTree → Type 0
    FitsAt level t = f.FitsExpr woven d level t

    joined-fits : (o : BinOp) (first : ExprTree) (names : List NameId) → FitsAt (f.level_of o) first
        → FitsAt (f.level_of o) (h.joined at o first names)
    joined-fits o first [] fits = fits
    joined-fits o first (name ∷ names) fits =
        joined-fits o (made.binary at o first (made.variable at name)) names (omega arith, fits, tt)

    all-joined-fits : (o : BinOp) (names : List NameId) → FitsAt (f.level_of o) (h.all_joined at o names)
    all-joined-fits o [] = tt
    all-joined-fits o (name ∷ names) = joined-fits o (made.variable at name) names tt

    agreeing-fits : (position : ℕ) (c : CheckWord) → FitsAt 5 (h.agreeing at position c)
    agreeing-fits position c = by (h.covers c.position position)
      where
        by : (b : Bool) → FitsAt 5 (if b then made.variable at c.sum else h.inverted at c.sum)
        by true = tt
        by false = tt

    matched-fits : (first : ExprTree) (position : ℕ) (cs : List CheckWord) → FitsAt 6 first
        → FitsAt 6 (h.matched at first position cs)
    matched-fits first position [] fits = fits
    matched-fits first position (c ∷ cs) fits =
        matched-fits (made.binary at op.BitAnd first (h.agreeing at position c)) position cs
        (omega arith, fits, agreeing-fits position c)

    masked-fits : (mask : Option ℕ) (value : ExprTree) → FitsAt 6 value → FitsAt 6 (h.masked at mask value)
    masked-fits None value fits = fits
    masked-fits (Some mask) value fits = (omega arith, fits, tt)

  -- ---- operators

  joined-count : (o : BinOp) (first : ExprTree) (names : List NameId)
      → f.operators_in (h.joined at o first names) ≡ f.operators_in first + length names
  joined-count o first [] = omega arith
  joined-count o first (name ∷ names) =
      omega (arith, joined-count o (made.binary at o first (made.variable at name)) names)

  all-joined-count : (o : BinOp) (names : List NameId) → f.operators_in (h.all_joined at o names) ≤ length names
  all-joined-count o [] = omega arith
  all-joined-count o (name ∷ names) = omega (arith, joined-count o (made.variable at name) names)

  agreeing-count : (position : ℕ) (c : CheckWord) → f.operators_in (h.agreeing at position c) ≤ 1
  agreeing-count position c = by (h.covers c.position position)
    where
      by : (b : Bool) → f.operators_in (if b then made.variable at c.sum else h.inverted at c.sum) ≤ 1
      by true = omega arith
      by false = omega arith

  matched-count : (first : ExprTree) (position : ℕ) (cs : List CheckWord)
      → f.operators_in (h.matched at first position cs) ≤ f.operators_in first + 2 * length cs
  matched-count first position [] = omega arith
  matched-count first position (c ∷ cs) =
      omega (
        arith,
        agreeing-count position c,
        matched-count (made.binary at op.BitAnd first (h.agreeing at position c)) position cs,
      )

  masked-count : (mask : Option ℕ) (value : ExprTree)
      → f.operators_in (h.masked at mask value) ≤ suc (f.operators_in value)
  masked-count None value = omega arith
  masked-count (Some mask) value = omega arith

  -- ---- of words, of which there are few

  module _ (words : PartWords) (few : length words.members + length words.checks ≤ 241)
      (fewer : length words.checks ≤ 121) where
    abbrev IsFull : ExprTree → Type 0
    IsFull t = f.FitsFull woven 400 98 10 t

    joined-full : (o : BinOp) (first : NameId) (names : List NameId) → f.level_of o ≤ 10 → length names ≤ 400
        → IsFull (h.joined at o (made.variable at first) names)
    joined-full o first names low less = (
      looser 98 (f.level_of o) 10 low (h.joined at o (made.variable at first) names)
          (joined-fits 98 o (made.variable at first) names tt),
      omega (arith, less, joined-count o (made.variable at first) names),
    )

    all-joined-full : (o : BinOp) (names : List NameId) → f.level_of o ≤ 10 → length names ≤ 400
        → IsFull (h.all_joined at o names)
    all-joined-full o names low less = (
      looser 98 (f.level_of o) 10 low (h.all_joined at o names) (all-joined-fits 98 o names),
      omega (arith, less, all-joined-count o names),
    )

    covered-few : (power : ℕ) → length (h.covered power words.members) ≤ 400
    covered-few power = omega (arith, few, few-covered power words.members)

    words-few : length (h.word_names words.checks words.members) ≤ 400
    words-few =
        omega (
          arith,
          few,
          length-append (h.check_names words.checks) (map (λ (m : MemberWord). m.word) words.members),
          length-map words.checks (λ (c : CheckWord). c.name),
          length-map words.members (λ (m : MemberWord). m.word),
        )

    sums-few : length (h.sum_names words.checks) ≤ 400
    sums-few = omega (arith, fewer, length-map words.checks (λ (c : CheckWord). c.sum))

    faults-few : length (h.fault_names words.checks words.members) ≤ 241
    faults-few =
        omega (
          arith,
          few,
          length-append (map (λ (m : MemberWord). m.fault) words.members) (map (λ (c : CheckWord). c.fault) words.checks),
          length-map words.checks (λ (c : CheckWord). c.fault),
          length-map words.members (λ (m : MemberWord). m.fault),
        )

    -- ---- sums

    extends-fit : (ms : List MemberWord) → FitEach (map (h.extend at) ms)
    extends-fit [] = tt
    extends-fit (m ∷ ms) =
        ((tt, ((tt, (97, refl, (tt, (96, refl, tt)))), omega arith)), extends-fit ms)

    sum-locals-fit : (cs : List CheckWord) → FitEach (map (h.sum_local at words) cs)
    sum-locals-fit [] = tt
    sum-locals-fit (c ∷ cs) = (
      (
        tt,
        joined-full op.BitXor c.name (h.covered c.position words.members) (omega arith) (covered-few c.position),
      ),
      sum-locals-fit cs,
    )

    sums-fit : FitEach (h.sum_locals at words)
    sums-fit =
        let total = joined-full op.BitXor words.parity (h.word_names words.checks words.members) (omega arith) words-few in
        let uneven = all-joined-full op.BitOr (h.sum_names words.checks) (omega arith) sums-few in
        every-append (f.FitsStmt woven 400 98) (map (h.extend at) words.members) _ (extends-fit words.members)
        (every-append (f.FitsStmt woven 400 98) (map (h.sum_local at words) words.checks) _
        (sum-locals-fit words.checks) ((tt, total), ((tt, uneven), tt)))

    -- ---- faults

    fault-fits : (position : ℕ) → f.FitsExpr woven 98 6 (h.fault_at at words position)
    fault-fits position = matched-fits 98 (made.variable at words.total) position words.checks tt

    fault-count : (position : ℕ) → f.operators_in (h.fault_at at words position) ≤ 242
    fault-count position = omega (arith, fewer, matched-count (made.variable at words.total) position words.checks)

    member-faults-fit : (ms : List MemberWord) → FitEach (map (h.member_fault at words) ms)
    member-faults-fit [] = tt
    member-faults-fit (m ∷ ms) =
        let mask = h.mask_of (unsigned_of m.member) in
        let value = h.fault_at at words m.position in (
          (
            tt,
            (
              looser 98 6 10 (omega arith) (h.masked at mask value) (masked-fits 98 mask value (fault-fits m.position)),
              omega (arith, fault-count m.position, masked-count mask value),
            ),
          ),
          member-faults-fit ms,
        )

    check-faults-fit : (cs : List CheckWord) → FitEach (map (h.check_fault at words) cs)
    check-faults-fit [] = tt
    check-faults-fit (c ∷ cs) = (
      (
        tt,
        (
          looser 98 6 10 (omega arith) (h.fault_at at words c.position) (fault-fits c.position),
          omega (arith, fault-count c.position),
        ),
      ),
      check-faults-fit cs,
    )

    abbrev none_left : ExprTree
    none_left = h.all_joined at op.BitOr (h.fault_names words.checks words.members)

    beyond-fits : f.FitsStmt woven 400 98 (h.beyond_local at words)
    beyond-fits =
        let inner : f.FitsExpr woven 97 10 none_left =
        looser 97 8 10 (omega arith) none_left
        (all-joined-fits 97 op.BitOr (h.fault_names words.checks words.members)) in (
          tt,
          (
            (omega arith, tt, (97, refl, inner)),
            omega (arith, faults-few, all-joined-count op.BitOr (h.fault_names words.checks words.members)),
          ),
        )

    stop-fits : f.FitsStmt woven 400 98 (h.stop_beyond at words)
    stop-fits = ((97, refl, ((omega arith, tt, tt), omega arith)), (97, refl, ((tt, (96, refl, tt)), tt)), tt)

    faults-fit : FitEach (h.fault_locals at words)
    faults-fit =
        every-append (f.FitsStmt woven 400 98) (map (h.member_fault at words) words.members) _
        (member-faults-fit words.members)
        (every-append (f.FitsStmt woven 400 98) (map (h.check_fault at words) words.checks) _
        (check-faults-fit words.checks) (beyond-fits, (stop-fits, tt)))

    -- ---- repair and renewal

    mend-members-fit : (ms : List MemberWord) → FitEach (map (h.mend_member at) ms)
    mend-members-fit [] = tt
    mend-members-fit (m ∷ ms) = ((tt, tt, ((omega arith, tt, tt), omega arith)), mend-members-fit ms)

    mend-checks-fit : (cs : List CheckWord) → FitEach (map (h.mend_check at) cs)
    mend-checks-fit [] = tt
    mend-checks-fit (c ∷ cs) = ((tt, tt, ((omega arith, tt, tt), omega arith)), mend-checks-fit cs)

    mends-fit : FitEach (h.mends at words)
    mends-fit =
        let parity : f.FitsStmt woven 400 98 (h.mend_parity at words) =
        (tt, tt, ((omega arith, tt, (97, refl, (omega arith, tt, tt))), omega arith)) in
        every-append (f.FitsStmt woven 400 98) (map (h.mend_member at) words.members) _ (mend-members-fit words.members)
        (every-append (f.FitsStmt woven 400 98) (map (h.mend_check at) words.checks) _ (mend-checks-fit words.checks)
        (parity, tt))

    repair-words-fit : FitEach (h.repair_words at words)
    repair-words-fit =
        every-append (f.FitsStmt woven 400 98) (h.sum_locals at words) _ sums-fit
        (every-append (f.FitsStmt woven 400 98) (h.fault_locals at words) _ faults-fit mends-fit)

    renew-checks-fit : (cs : List CheckWord) → FitEach (map (h.renew_check at words) cs)
    renew-checks-fit [] = tt
    renew-checks-fit (c ∷ cs) = (
      (
        tt,
        tt,
        all-joined-full op.BitXor (h.covered c.position words.members) (omega arith) (covered-few c.position),
      ),
      renew-checks-fit cs,
    )

    renew-words-fit : FitEach (h.renew_words at words)
    renew-words-fit =
        let parity = all-joined-full op.BitXor (h.word_names words.checks words.members) (omega arith) words-few in
        every-append (f.FitsStmt woven 400 98) (map (h.extend at) words.members) _ (extends-fit words.members)
        (every-append (f.FitsStmt woven 400 98) (map (h.renew_check at words) words.checks) _
        (renew-checks-fit words.checks) ((tt, tt, parity), tt))

-- ---- of a part

module _ (names : List (List ℕ)) (part : Part) (few : length part.members ≤ 120) where
  checks-are : length (part_words names part).checks ≡ check_words (length part.members)
  checks-are =
      length-map (range_with_len 0 (check_words (length part.members))) (check_word names part.class.item)
      ∙ length-range_with_len 0 (check_words (length part.members))

  words-are : length (part_words names part).members ≡ length part.members
  words-are = length-words names 1 3 part.members

  all-few : length (part_words names part).members + length (part_words names part).checks ≤ 241
  all-few = omega (arith, few, checks-are, words-are, few-checks (length part.members))

  checks-few : length (part_words names part).checks ≤ 121
  checks-few = omega (arith, few, checks-are, few-checks (length part.members))

  pub repair-fits : FitEach (h.part_repair names part)
  repair-fits = repair-words-fit (place_of part) (part_words names part) all-few checks-few

  pub renew-fits : FitEach (h.part_renew names part)
  renew-fits = renew-words-fit (place_of part) (part_words names part) all-few checks-few
