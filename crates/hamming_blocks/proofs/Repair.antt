-- The block of repair runs by itself: its words become what masks over whole words make of them.
use Rattle.std.proofs.Common.{◌≡◌, ℕ, ◌+◌, ◌*◌, ◌^◌, ◌<◌, Bool, true, false, not, nat_eq, Some, Ok, slice_get, List, [], ◌∷◌, ◌++◌, map, length, bit_and, bit_or, bit_xor, refl, sym, ap, ap₂, subst, ◌∙◌, arith, append_assoc, length-append}
use Rattle.std.proofs.lemmas.List.{length-map}
use Rattle.agxx_base.specs.declared.ids.ClassId.{ClassId}
use Rattle.agxx_base.specs.declared.place.Place.{Place}
use Rattle.cxx_tree.specs.declared.operator.BinOp.TheVariants as op
use Rattle.cxx_arith.specs.Numbers.{flag}
use Rattle.cxx_core.specs.CoreExpr.{CoreExpr}
use Rattle.cxx_core.specs.CoreStmt as cs
use Rattle.cxx_core.specs.CoreStmt.{CoreStmt}
use Rattle.step_machine.specs.declared.datum.Datum.{Datum}
use Rattle.step_machine.specs.declared.datum.Datum.TheVariants as datum
use Rattle.step_machine.specs.Entries.{entry}
use Rattle.step_machine.specs.Setting.{is_of, word_number}
use Rattle.step_machine.specs.Item as it
use Rattle.step_machine.specs.Item.{Item}
use Rattle.step_machine.specs.Frame.{Frame}
use Rattle.hamming_gen.specs.HammingTrees.{mask_of}
use Rattle.codec_laws.specs.Values.{Fit}
use Rattle.codec_laws.specs.Solo.{Alone, solo_step}
use Rattle.codec_laws.proofs.Lists.{get-seam}
use Rattle.codec_laws.proofs.Each.{Apart}
use Rattle.codec_laws.proofs.Steps.{at-once, one-more, and-more, fr, Evals, evals-local, evals-binary}
use Rattle.hamming_laws.specs.Masks as m
use Rattle.hamming_laws.specs.Masks.{MemberNumber, CheckNumber, AllUnder, AreBounded, complement}
use Rattle.hamming_laws.proofs.Operations.{all_joined-or-under, complement-under}
use Rattle.hamming_blocks.specs.Blocks as b
use Rattle.hamming_blocks.specs.Blocks.{CheckedMember, Check, CheckedPart, kind_of, check_of, word_of, word_type, local_names}
use Rattle.hamming_blocks.proofs.Words.{word, word-and, word-or, word-xor, word-differs}
use Rattle.hamming_blocks.proofs.Gives.{Holds, Gives, AllGive, gives-local, evals-number, gives-both, gives-inverted, gives-joined, gives-all-joined, gives-under, give-both, locals-give, gives-own}
use Rattle.hamming_blocks.proofs.Phases.{Known, AllHold, AreNew, new-front, new-back, new-to-none, RunsAll, HaltsAll, runs-both, runs-within, halts-first, Declared, declared-both, runs-declared, halts-declared, halts-within, declares, declares-all, Laid, assigns-one, assigns-all}
use Rattle.hamming_blocks.proofs.Numbered.{numbers, check_values, length-numbers, length-check_values, under-front, under-back, member_words-are, check_words-are, matched-under}
use Rattle.hamming_blocks.proofs.Parts.{words_of, sums_of, matched-gives, own-give, extends-later, sums-later, member-faults-later, check-faults-later, mend-members-put, mend-checks-put}

-- ---- where some place is beyond repair

module _ (a : Alone) (f : Frame) (own-object : f.this ≡ Some a.object) (at : Place) (class : ClassId)
    (p : CheckedPart) where
  abbrev th : List (ℕ × Datum) → List Datum → List Item → List Frame
  th ls vs is = fr a f own-object ls vs is ∷ []

  abbrev test : CoreExpr
  test = b.both at op.NotEqual (b.local p.beyond) (b.number 0)

  abbrev choice : Item
  choice = it.branch (cs.more_stmts cs.abort cs.no_stmts) cs.no_stmts

  abbrev found : Bool → Datum
  found some = datum.Number (flag some)

  test-gives : (ls : List (ℕ × Datum)) (ws : List ℕ) (v : ℕ) (some : Bool) → v < 2 ^ 64
      → entry ls p.beyond ≡ Some (word v) → not (nat_eq v 0) ≡ some → Evals a f own-object 4 test ls ws (found some)
  test-gives ls ws v some l e g =
      evals-binary a f own-object 1 1 at op.NotEqual word_type word_type (b.local p.beyond) (b.number 0) ls ws (word v)
      (word 0) (found some) (evals-local a f own-object p.beyond word_type ls ws (word v) e)
      (evals-number a f own-object 0 ls ws) (word-differs v l ∙ ap (λ x. Ok (found x)) g)

  pub goes-past : (ls : List (ℕ × Datum)) (ws : List ℕ) (v : ℕ) → v < 2 ^ 64 → entry ls p.beyond ≡ Some (word v)
      → not (nat_eq v 0) ≡ false → RunsAll a f own-object 6 (b.stop_beyond at class p ∷ []) ls ws ls ws
  goes-past ls ws v l e g = (
    6,
    omega arith,
    λ vs is. one-more (solo_step a) 5 (th ls vs (it.stmt (b.stop_beyond at class p) ∷ is))
        (th ls vs (it.expr test ∷ choice ∷ is)) ws ws _ refl
        (and-more (solo_step a) 4 1 (th ls vs (it.expr test ∷ choice ∷ is))
        (th ls (found false ∷ vs) (choice ∷ is)) ws ws _ (test-gives ls ws v false l e g vs (choice ∷ is))
        (at-once (solo_step a) (th ls (found false ∷ vs) (choice ∷ is)) (th ls vs is) ws ws refl)),
  )

  pub halts-there : (ls : List (ℕ × Datum)) (ws : List ℕ) (v : ℕ) → v < 2 ^ 64 → entry ls p.beyond ≡ Some (word v)
      → not (nat_eq v 0) ≡ true → HaltsAll a f own-object 7 (b.stop_beyond at class p ∷ []) ls ws
  halts-there ls ws v l e g = (
    7,
    omega arith,
    λ vs is. one-more (solo_step a) 6 (th ls vs (it.stmt (b.stop_beyond at class p) ∷ is))
        (th ls vs (it.expr test ∷ choice ∷ is)) ws ws _ refl
        (and-more (solo_step a) 4 2 (th ls vs (it.expr test ∷ choice ∷ is))
        (th ls (found true ∷ vs) (choice ∷ is)) ws ws _ (test-gives ls ws v true l e g vs (choice ∷ is))
        (one-more (solo_step a) 1 (th ls (found true ∷ vs) (choice ∷ is))
        (th ls vs (it.stmt cs.abort ∷ is)) ws ws _ refl refl)),
  )

-- ---- a part whose words stand there

module _ (a : Alone) (f : Frame) (own-object : f.this ≡ Some a.object) (at : Place) (class : ClassId)
    (of : is_of a.setting (Some a.live) (Some class) ≡ true) (p : CheckedPart) (xs hs : List ℕ) (parity : ℕ)
    (members : Laid a f own-object at class of 0 (map (λ (m : CheckedMember). m.member) p.members))
    (checks : Laid a f own-object at class of (length xs) (map check_of p.checks))
    (last : word_number a.setting class p.parity ≡ a.from + length (xs ++ hs))
    (fit : Fit (map (λ (m : CheckedMember). m.member.kind) p.members) xs) (long : length xs ≡ length p.members)
    (as-long : length hs ≡ length p.checks) (under : AllUnder (2 ^ 64) hs) (low : parity < 2 ^ 64)
    (bounded : AreBounded (numbers p.members xs) (check_values p.checks hs) parity)
    (apart : Apart (local_names p)) where
  abbrev k : ℕ
  k = length p.members

  abbrev r : ℕ
  r = length p.checks

  abbrev ns : List MemberNumber
  ns = numbers p.members xs

  abbrev ks : List CheckNumber
  ks = check_values p.checks hs

  abbrev pub ws : List ℕ
  ws = xs ++ (hs ++ parity ∷ [])

  abbrev total : ℕ
  total = m.total ns ks parity

  abbrev uneven : ℕ
  uneven = m.uneven ns ks parity

  abbrev member_faults : List ℕ
  member_faults = map (m.member_fault ns ks parity) ns

  abbrev check_faults : List ℕ
  check_faults = map (m.check_fault ns ks parity) ks

  abbrev beyond : ℕ
  beyond = m.beyond_places ns ks parity

  -- ---- what is known after each step, and which names are left

  abbrev member_fault_names : List ℕ
  member_fault_names = map (λ (m : CheckedMember). m.fault) p.members

  abbrev check_fault_names : List ℕ
  check_fault_names = map (λ (c : Check). c.fault) p.checks

  abbrev known-words : Known
  known-words = (words_of p.members, xs) ∷ []

  abbrev known-sums : Known
  known-sums = (sums_of p.checks, map (m.sum_of ns) ks) ∷ known-words

  abbrev known-total : Known
  known-total = (p.total ∷ [], total ∷ []) ∷ known-sums

  abbrev known-uneven : Known
  known-uneven = (p.uneven ∷ [], uneven ∷ []) ∷ known-total

  abbrev known-members : Known
  known-members = (member_fault_names, member_faults) ∷ known-uneven

  abbrev known-checks : Known
  known-checks = (check_fault_names, check_faults) ∷ known-members

  abbrev pub known-all : Known
  known-all = (p.beyond ∷ [], beyond ∷ []) ∷ known-checks

  abbrev left-checks : List ℕ
  left-checks = check_fault_names ++ p.beyond ∷ []

  abbrev left-members : List ℕ
  left-members = member_fault_names ++ left-checks

  abbrev left-sums : List ℕ
  left-sums = sums_of p.checks ++ p.total ∷ p.uneven ∷ left-members

  new-words : AreNew [] (words_of p.members ++ left-sums)
  new-words = new-to-none (local_names p) apart

  new-sums : AreNew known-words left-sums
  new-sums = new-back [] (words_of p.members) xs left-sums new-words

  new-total : AreNew known-sums (p.total ∷ p.uneven ∷ left-members)
  new-total =
      new-back known-words (sums_of p.checks) (map (m.sum_of ns) ks) (p.total ∷ p.uneven ∷ left-members) new-sums

  new-uneven : AreNew known-total (p.uneven ∷ left-members)
  new-uneven = new-back known-sums (p.total ∷ []) (total ∷ []) (p.uneven ∷ left-members) new-total

  new-members : AreNew known-uneven left-members
  new-members = new-back known-total (p.uneven ∷ []) (uneven ∷ []) left-members new-uneven

  new-checks : AreNew known-members left-checks
  new-checks = new-back known-uneven member_fault_names member_faults left-checks new-members

  new-beyond : AreNew known-checks (p.beyond ∷ [])
  new-beyond = new-back known-members check_fault_names check_faults (p.beyond ∷ []) new-checks

  abbrev D : ℕ → List CoreStmt → List (ℕ × Datum) → Known → Type 0
  D most ss ls gs = Declared a f own-object most ss ls ws gs

  -- ---- sums

  pub extends : (ls : List (ℕ × Datum)) → D ((5 + 2) * k) (map (b.extend at class) p.members) ls known-words
  extends ls =
      declares-all a f own-object at (λ (m : CheckedMember). m.word) (b.extended at class) 5 ws p.members xs [] ls tt
      (new-front [] (words_of p.members) left-sums new-words)
      (extends-later a f own-object at class of p.members xs [] (hs ++ parity ∷ []) ws 0 refl members refl fit)

  sums : (ls : List (ℕ × Datum)) → AllHold ls known-words
      → D ((1 + 3 * k + 2) * r) (map (b.sum_local at class p) p.checks) ls known-sums
  sums ls h =
      declares-all a f own-object at (λ (c : Check). c.sum)
      (λ (c : Check). b.joined at op.BitXor (b.own_word at class c.name) (b.covered at c.position p.members))
      (1 + 3 * k) ws p.checks (map (m.sum_of ns) ks) known-words ls h
      (new-front known-words (sums_of p.checks) (p.total ∷ p.uneven ∷ left-members) new-sums)
      (sums-later a f own-object at class of p xs known-words ws (λ us g. g.0) p.checks hs xs (parity ∷ [])
      (length xs) refl checks refl as-long under bounded.sums_fit)

  all-words : (ls : List (ℕ × Datum)) → Holds ls (words_of p.members) xs
      → AllGive a f own-object (b.all_words at class p) ls ws (hs ++ xs)
  all-words ls h =
      give-both a f own-object (map (λ (c : Check). b.own_word at class c.name) p.checks)
      (map (λ (m : CheckedMember). b.local m.word) p.members) ls ws hs xs
      (own-give a f own-object at class of p.checks hs xs (parity ∷ []) ws (length xs) ls refl checks refl as-long
      under)
      (locals-give a f own-object (λ (m : CheckedMember). m.word) p.members ls ws xs h)

  all-long : length (b.all_words at class p) ≡ r + k
  all-long =
      length-append (map (λ (c : Check). b.own_word at class c.name) p.checks)
      (map (λ (m : CheckedMember). b.local m.word) p.members)
      ∙ ap₂ (λ x y. x + y) (length-map p.checks (λ (c : Check). b.own_word at class c.name))
      (length-map p.members (λ (m : CheckedMember). b.local m.word))

  parity-there : slice_get ws (length (xs ++ hs)) ≡ Some parity
  parity-there =
      ap (λ l. slice_get l (length (xs ++ hs))) (sym (append_assoc xs hs (parity ∷ [])))
      ∙ get-seam (xs ++ hs) [] parity (length (xs ++ hs)) refl

  total-gives : (ls : List (ℕ × Datum)) → Holds ls (words_of p.members) xs
      → Gives a f own-object (1 + 3 * (r + k)) (b.joined at op.BitXor (b.own_word at class p.parity)
      (b.all_words at class p)) ls ws total
  total-gives ls h =
      let e = b.joined at op.BitXor (b.own_word at class p.parity) (b.all_words at class p) in
      subst (λ l. Gives a f own-object (1 + 3 * (r + k)) e ls ws (m.joined bit_xor parity l))
      (sym (ap₂ (λ x y. x ++ y) (check_words-are p.checks hs as-long) (member_words-are p.members xs long)))
      (subst (λ n. Gives a f own-object (1 + 3 * n) e ls ws (m.joined bit_xor parity (hs ++ xs))) all-long
      (gives-joined a f own-object at op.BitXor bit_xor word-xor 1 (b.own_word at class p.parity)
      (b.all_words at class p) ls ws parity (hs ++ xs) low
      (gives-own a f own-object at class of (length (xs ++ hs)) p.parity ls ws parity last parity-there)
      (all-words ls h)))

  totals : (ls : List (ℕ × Datum)) → AllHold ls known-sums
      → D (1 + 3 * (r + k) + 2) (b.total_local at class p ∷ []) ls known-total
  totals ls h =
      declares a f own-object at (1 + 3 * (r + k)) p.total (b.joined at op.BitXor (b.own_word at class p.parity)
      (b.all_words at class p)) known-sums ls ws total bounded.total_fits h new-total.new.0 (total-gives ls h.1.0)

  unevens : (ls : List (ℕ × Datum)) → AllHold ls known-total
      → D (1 + 3 * r + 2) (b.uneven_local at class p ∷ []) ls known-uneven
  unevens ls h =
      let es = map (λ (c : Check). b.local c.sum) p.checks in
      declares a f own-object at (1 + 3 * r) p.uneven (b.all_joined at op.BitOr es) known-total ls ws uneven
      bounded.uneven_fits h new-uneven.new.0
      (subst (λ n. Gives a f own-object (1 + 3 * n) (b.all_joined at op.BitOr es) ls ws uneven)
      (length-map p.checks (λ (c : Check). b.local c.sum))
      (gives-all-joined a f own-object at op.BitOr bit_or word-or es ls ws (map (m.sum_of ns) ks)
      (locals-give a f own-object (λ (c : Check). c.sum) p.checks ls ws (map (m.sum_of ns) ks) h.1.0)))

  abbrev most-sums : ℕ
  most-sums = (5 + 2) * k + ((1 + 3 * k + 2) * r + (1 + 3 * (r + k) + 2 + (1 + 3 * r + 2)))

  sum-locals : (ls : List (ℕ × Datum)) → D most-sums (b.sum_locals at class p) ls known-uneven
  sum-locals ls =
      declared-both a f own-object ((5 + 2) * k) ((1 + 3 * k + 2) * r + (1 + 3 * (r + k) + 2 + (1 + 3 * r + 2)))
      (map (b.extend at class) p.members)
      (map (b.sum_local at class p) p.checks ++ b.total_local at class p ∷ b.uneven_local at class p ∷ []) ls ws
      known-words known-uneven (extends ls) (λ us g.
      declared-both a f own-object ((1 + 3 * k + 2) * r) (1 + 3 * (r + k) + 2 + (1 + 3 * r + 2))
      (map (b.sum_local at class p) p.checks) (b.total_local at class p ∷ b.uneven_local at class p ∷ []) us ws
      known-sums known-uneven (sums us g) (λ vs h.
      declared-both a f own-object (1 + 3 * (r + k) + 2) (1 + 3 * r + 2) (b.total_local at class p ∷ [])
      (b.uneven_local at class p ∷ []) vs ws known-total known-uneven (totals vs h) unevens))

  -- ---- faults

  fault-under : (position : ℕ) → m.fault_at ns ks parity position < 2 ^ 64
  fault-under position = matched-under ns total position (2 ^ 64) ks bounded.total_fits

  fault-gives : (ls : List (ℕ × Datum)) → AllHold ls known-uneven → (position : ℕ)
      → Gives a f own-object (1 + 5 * r) (b.fault_at at class p position) ls ws (m.fault_at ns ks parity position)
  fault-gives ls h position =
      matched-gives a f own-object at ns p.checks hs 1 (b.local p.total) position ls ws total bounded.total_fits
      (gives-local a f own-object p.total ls ws total h.1.0.0) h.1.1.0

  members-faults : (ls : List (ℕ × Datum)) → AllHold ls known-uneven
      → D ((1 + 5 * r + 3 + 2) * k) (map (b.member_fault at class p) p.members) ls known-members
  members-faults ls h =
      declares-all a f own-object at (λ (m : CheckedMember). m.fault)
      (λ (m : CheckedMember). b.masked at (mask_of (kind_of m)) (b.fault_at at class p m.position)) (1 + 5 * r + 3) ws
      p.members member_faults known-uneven ls h
      (new-front known-uneven member_fault_names left-checks new-members)
      (member-faults-later a f own-object at class of p xs hs parity known-uneven ws fault-gives fault-under p.members
      xs long (under-front (2 ^ 64) member_faults check_faults bounded.faults_fit))

  checks-faults : (ls : List (ℕ × Datum)) → AllHold ls known-members
      → D ((1 + 5 * r + 2) * r) (map (b.check_fault at class p) p.checks) ls known-checks
  checks-faults ls h =
      declares-all a f own-object at (λ (c : Check). c.fault) (λ (c : Check). b.fault_at at class p c.position)
      (1 + 5 * r) ws p.checks check_faults known-members ls h
      (new-front known-members check_fault_names (p.beyond ∷ []) new-checks)
      (check-faults-later a f own-object at class of p xs hs parity known-members ws (λ us g. fault-gives us g.1)
      p.checks hs as-long (under-back (2 ^ 64) member_faults check_faults bounded.faults_fit))

  abbrev all_faults : List CoreExpr
  all_faults = b.all_faults at class p

  faults-give : (ls : List (ℕ × Datum)) → AllHold ls known-checks
      → AllGive a f own-object all_faults ls ws (member_faults ++ check_faults)
  faults-give ls h =
      give-both a f own-object (map (λ (m : CheckedMember). b.local m.fault) p.members)
      (map (λ (c : Check). b.local c.fault) p.checks) ls ws member_faults check_faults
      (locals-give a f own-object (λ (m : CheckedMember). m.fault) p.members ls ws member_faults h.1.0)
      (locals-give a f own-object (λ (c : Check). c.fault) p.checks ls ws check_faults h.0)

  faults-long : length all_faults ≡ k + r
  faults-long =
      length-append (map (λ (m : CheckedMember). b.local m.fault) p.members)
      (map (λ (c : Check). b.local c.fault) p.checks)
      ∙ ap₂ (λ x y. x + y) (length-map p.members (λ (m : CheckedMember). b.local m.fault))
      (length-map p.checks (λ (c : Check). b.local c.fault))

  beyond-gives : (ls : List (ℕ × Datum)) → AllHold ls known-checks
      → Gives a f own-object (1 + (1 + 3 * (k + r) + 2) + 2)
      (b.both at op.BitAnd (b.local p.uneven) (b.inverted at (b.all_joined at op.BitOr all_faults))) ls ws beyond
  beyond-gives ls h =
      let vs = member_faults ++ check_faults in
      let some = m.all_joined bit_or vs in
      let low-some = all_joined-or-under 64 vs (gives-under a f own-object all_faults ls ws vs (faults-give ls h)) in
      gives-both a f own-object at op.BitAnd bit_and word-and 1 (1 + 3 * (k + r) + 2) (b.local p.uneven)
      (b.inverted at (b.all_joined at op.BitOr all_faults)) ls ws uneven (complement some) bounded.uneven_fits
      (complement-under some) (gives-local a f own-object p.uneven ls ws uneven h.1.1.0.0)
      (gives-inverted a f own-object at (1 + 3 * (k + r)) (b.all_joined at op.BitOr all_faults) ls ws some low-some
      (subst (λ n. Gives a f own-object (1 + 3 * n) (b.all_joined at op.BitOr all_faults) ls ws some) faults-long
      (gives-all-joined a f own-object at op.BitOr bit_or word-or all_faults ls ws vs (faults-give ls h))))

  abbrev most-beyond : ℕ
  most-beyond = 1 + (1 + 3 * (k + r) + 2) + 2 + 2

  beyonds : (ls : List (ℕ × Datum)) → AllHold ls known-checks
      → D most-beyond (b.beyond_local at class p ∷ []) ls known-all
  beyonds ls h =
      declares a f own-object at (1 + (1 + 3 * (k + r) + 2) + 2) p.beyond
      (b.both at op.BitAnd (b.local p.uneven) (b.inverted at (b.all_joined at op.BitOr all_faults))) known-checks ls ws
      beyond bounded.beyond_fits h new-beyond.new.0 (beyond-gives ls h)

  -- ---- where no place is beyond repair

  abbrev most-faults : ℕ
  most-faults = (1 + 5 * r + 3 + 2) * k + ((1 + 5 * r + 2) * r + (most-beyond + 7))

  abbrev pub some_beyond : Bool
  some_beyond = not (nat_eq beyond 0)

  past : some_beyond ≡ false → (ls : List (ℕ × Datum)) → AllHold ls known-all
      → D 7 (b.stop_beyond at class p ∷ []) ls known-all
  past e ls h = record {
    locals = ls;
    runs = runs-within a f own-object 6 7 (b.stop_beyond at class p ∷ []) ls ls ws ws (omega arith)
        (goes-past a f own-object at class p ls ws beyond bounded.beyond_fits h.0.0 e);
    hold = h;
  }

  fault-locals : some_beyond ≡ false → (ls : List (ℕ × Datum)) → AllHold ls known-uneven
      → D most-faults (b.fault_locals at class p) ls known-all
  fault-locals e ls h =
      declared-both a f own-object ((1 + 5 * r + 3 + 2) * k) ((1 + 5 * r + 2) * r + (most-beyond + 7))
      (map (b.member_fault at class p) p.members)
      (map (b.check_fault at class p) p.checks ++ b.beyond_local at class p ∷ b.stop_beyond at class p ∷ []) ls ws
      known-members known-all (members-faults ls h) (λ us g.
      declared-both a f own-object ((1 + 5 * r + 2) * r) (most-beyond + 7) (map (b.check_fault at class p) p.checks)
      (b.beyond_local at class p ∷ b.stop_beyond at class p ∷ []) us ws known-checks known-all (checks-faults us g)
      (λ vs i. declared-both a f own-object most-beyond 7 (b.beyond_local at class p ∷ [])
      (b.stop_beyond at class p ∷ []) vs ws known-all known-all (beyonds vs i) (past e)))

  halts-beyond : some_beyond ≡ true → (ls : List (ℕ × Datum)) → AllHold ls known-uneven
      → HaltsAll a f own-object most-faults (b.fault_locals at class p) ls ws
  halts-beyond n ls h =
      halts-declared a f own-object ((1 + 5 * r + 3 + 2) * k) ((1 + 5 * r + 2) * r + (most-beyond + 7))
      (map (b.member_fault at class p) p.members)
      (map (b.check_fault at class p) p.checks ++ b.beyond_local at class p ∷ b.stop_beyond at class p ∷ []) ls ws
      known-members (members-faults ls h) (λ us g.
      halts-declared a f own-object ((1 + 5 * r + 2) * r) (most-beyond + 7) (map (b.check_fault at class p) p.checks)
      (b.beyond_local at class p ∷ b.stop_beyond at class p ∷ []) us ws known-checks (checks-faults us g)
      (λ vs i. halts-declared a f own-object most-beyond 7 (b.beyond_local at class p ∷ [])
      (b.stop_beyond at class p ∷ []) vs ws known-all (beyonds vs i)
      (λ ts j. halts-there a f own-object at class p ts ws beyond bounded.beyond_fits j.0.0 n)))

  -- ---- words that are mended

  abbrev mended-members : List ℕ
  mended-members = map (λ (n : MemberNumber). bit_xor n.word (m.member_fault ns ks parity n)) ns

  abbrev mended-checks : List ℕ
  mended-checks = map (λ (c : CheckNumber). bit_xor c.word (m.check_fault ns ks parity c)) ks

  abbrev mended-parity : ℕ
  mended-parity = m.mended_parity ns ks parity

  abbrev most-parity : ℕ
  most-parity = 1 + (1 + (1 + 2) + 2) + 2 + 2

  abbrev most-mends : ℕ
  most-mends = (4 + 2) * k + ((4 + 2) * r + most-parity)

  mends-members : Fit (map (λ (m : CheckedMember). m.member.kind) p.members) mended-members
      → (ls : List (ℕ × Datum)) → AllHold ls known-all
      → RunsAll a f own-object ((4 + 2) * k) (map (b.mend_member at class) p.members) ls ws ls
      (mended-members ++ (hs ++ parity ∷ []))
  mends-members fits ls h =
      assigns-all a f own-object at class of (λ (m : CheckedMember). m.member)
      (λ (m : CheckedMember). b.differing at (b.local m.word) (b.local m.fault)) 4 ls p.members xs mended-members []
      (hs ++ parity ∷ []) 0 refl members
      (mend-members-put a f own-object at class of (m.member_fault ns ks parity) p.members xs 0 ls h.1.1.1.1.1.1.0
      h.1.1.0 fits)

  mends-checks : length mended-members ≡ length xs → (ls : List (ℕ × Datum)) → AllHold ls known-all
      → RunsAll a f own-object ((4 + 2) * r) (map (b.mend_check at class) p.checks) ls
      (mended-members ++ (hs ++ parity ∷ [])) ls (mended-members ++ (mended-checks ++ parity ∷ []))
  mends-checks e ls h =
      assigns-all a f own-object at class of check_of
      (λ (c : Check). b.differing at (b.own_word at class c.name) (b.local c.fault)) 4 ls p.checks hs mended-checks
      mended-members (parity ∷ []) (length xs) e checks
      (mend-checks-put a f own-object at class of (m.check_fault ns ks parity) p.checks hs (length xs) ls as-long under
      checks h.1.0)

  parity-gives : (front : List ℕ) (ls : List (ℕ × Datum)) → length front ≡ length (xs ++ hs) → AllHold ls known-all
      → Gives a f own-object (1 + (1 + (1 + 2) + 2) + 2)
      (b.both at op.BitXor (b.own_word at class p.parity)
      (b.both at op.BitAnd (b.local p.total) (b.inverted at (b.local p.uneven)))) ls (front ++ parity ∷ [])
      mended-parity
  parity-gives front ls e h =
      let us = front ++ parity ∷ [] in
      gives-both a f own-object at op.BitXor bit_xor word-xor 1 (1 + (1 + 2) + 2) (b.own_word at class p.parity)
      (b.both at op.BitAnd (b.local p.total) (b.inverted at (b.local p.uneven))) ls us parity
      (bit_and total (complement uneven)) low
      (word-and.under total (complement uneven) bounded.total_fits (complement-under uneven))
      (gives-own a f own-object at class of (length (xs ++ hs)) p.parity ls us parity last
      (get-seam front [] parity (length (xs ++ hs)) e))
      (gives-both a f own-object at op.BitAnd bit_and word-and 1 (1 + 2) (b.local p.total)
      (b.inverted at (b.local p.uneven)) ls us total (complement uneven) bounded.total_fits (complement-under uneven)
      (gives-local a f own-object p.total ls us total h.1.1.1.1.0.0)
      (gives-inverted a f own-object at 1 (b.local p.uneven) ls us uneven bounded.uneven_fits
      (gives-local a f own-object p.uneven ls us uneven h.1.1.1.0.0)))

  mends-parity : length mended-members ≡ length xs → length mended-checks ≡ length hs → (ls : List (ℕ × Datum))
      → AllHold ls known-all
      → RunsAll a f own-object most-parity (b.mend_parity at class p ∷ []) ls
      (mended-members ++ (mended-checks ++ parity ∷ [])) ls (mended-members ++ (mended-checks ++ mended-parity ∷ []))
  mends-parity e g ls h =
      let front = mended-members ++ mended-checks in
      let size : length front ≡ length (xs ++ hs) =
      length-append mended-members mended-checks ∙ ap₂ (λ x y. x + y) e g ∙ sym (length-append xs hs) in
      let low-mended : mended-parity < 2 ^ 64 =
      word-xor.under parity (bit_and total (complement uneven)) low
      (word-and.under total (complement uneven) bounded.total_fits (complement-under uneven)) in
      subst (λ l. RunsAll a f own-object most-parity (b.mend_parity at class p ∷ []) ls l ls
      (mended-members ++ (mended-checks ++ mended-parity ∷ [])))
      (append_assoc mended-members mended-checks (parity ∷ []))
      (subst (λ l. RunsAll a f own-object most-parity (b.mend_parity at class p ∷ []) ls (front ++ parity ∷ []) ls l)
      (append_assoc mended-members mended-checks (mended-parity ∷ []))
      (assigns-one a f own-object at class of (1 + (1 + (1 + 2) + 2) + 2) (word_of p.parity)
      (b.both at op.BitXor (b.own_word at class p.parity)
      (b.both at op.BitAnd (b.local p.total) (b.inverted at (b.local p.uneven)))) ls front [] (length (xs ++ hs)) parity
      mended-parity size last low-mended (parity-gives front ls size h)))

  mends : Fit (map (λ (m : CheckedMember). m.member.kind) p.members) mended-members → length mended-members ≡ length xs
      → length mended-checks ≡ length hs → (ls : List (ℕ × Datum)) → AllHold ls known-all
      → RunsAll a f own-object most-mends (b.mends at class p) ls ws ls (m.mended_words ns ks parity)
  mends fits e g ls h =
      runs-both a f own-object ((4 + 2) * k) ((4 + 2) * r + most-parity) (map (b.mend_member at class) p.members)
      (map (b.mend_check at class) p.checks ++ b.mend_parity at class p ∷ []) ls ls ls ws
      (mended-members ++ (hs ++ parity ∷ [])) (m.mended_words ns ks parity) (mends-members fits ls h)
      (runs-both a f own-object ((4 + 2) * r) most-parity (map (b.mend_check at class) p.checks)
      (b.mend_parity at class p ∷ []) ls ls ls (mended-members ++ (hs ++ parity ∷ []))
      (mended-members ++ (mended-checks ++ parity ∷ [])) (m.mended_words ns ks parity) (mends-checks e ls h)
      (mends-parity e g ls h))

  -- ---- all of it

  abbrev pub most : ℕ
  most = most-sums + (most-faults + most-mends)

  pub repairs : some_beyond ≡ false → Fit (map (λ (m : CheckedMember). m.member.kind) p.members) mended-members
      → (ls : List (ℕ × Datum)) → (us : List (ℕ × Datum))
      × RunsAll a f own-object most (b.sum_locals at class p ++ (b.fault_locals at class p ++ b.mends at class p)) ls ws
      us (m.mended_words ns ks parity)
  repairs e fits ls =
      let size = length-map ns (λ (n : MemberNumber). bit_xor n.word (m.member_fault ns ks parity n))
      ∙ length-numbers p.members xs long ∙ sym long in
      let more = length-map ks (λ (c : CheckNumber). bit_xor c.word (m.check_fault ns ks parity c))
      ∙ length-check_values p.checks hs as-long ∙ sym as-long in
      runs-declared a f own-object most-sums (most-faults + most-mends) (b.sum_locals at class p)
      (b.fault_locals at class p ++ b.mends at class p) ls ws (m.mended_words ns ks parity) known-uneven (sum-locals ls)
      (λ us g. runs-declared a f own-object most-faults most-mends (b.fault_locals at class p) (b.mends at class p) us
      ws (m.mended_words ns ks parity) known-all (fault-locals e us g) (λ vs h. (vs, mends fits size more vs h)))

  pub halts : some_beyond ≡ true → (ls : List (ℕ × Datum))
      → HaltsAll a f own-object most
      (b.sum_locals at class p ++ (b.fault_locals at class p ++ b.mends at class p)) ls ws
  halts n ls =
      halts-within a f own-object (most-sums + most-faults) most
      (b.sum_locals at class p ++ (b.fault_locals at class p ++ b.mends at class p)) ls ws (omega arith)
      (halts-declared a f own-object most-sums most-faults (b.sum_locals at class p)
      (b.fault_locals at class p ++ b.mends at class p) ls ws known-uneven (sum-locals ls)
      (λ us g. halts-first a f own-object most-faults (b.fault_locals at class p) (b.mends at class p) us ws
      (halts-beyond n us g)))
