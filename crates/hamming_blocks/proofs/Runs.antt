-- The blocks of a part with check words, run by themselves, do what repair and renewal mean.
use Rattle.std.proofs.Common.{◌≡◌, ◌≢◌, ℕ, zero, suc, ◌+◌, ◌*◌, ◌^◌, ◌≤◌, Bool, true, false, not, nat_eq, Some, slice_get, List, [], ◌∷◌, ◌++◌, map, length, take, replicate, refl, sym, ap, ap₂, subst, ◌∙◌, arith, pow-suc, length-append}
use Rattle.std.specs.List.{All, range_with_len}
use Rattle.std.proofs.lemmas.List.{length-map}
use Rattle.agxx_base.specs.declared.ids.ClassId.{ClassId}
use Rattle.agxx_base.specs.declared.kind.NumKind.{NumKind}
use Rattle.agxx_base.specs.declared.kind.NumKind.TheVariants as num
use Rattle.agxx_base.specs.declared.place.Place.{Place}
use Rattle.cxx_core.specs.CoreStmt.{CoreStmt}
use Rattle.cxx_core.specs.CoreProgram.{CoreWord}
use Rattle.cxx_core.specs.StmtView.{listed_stmts}
use Rattle.step_machine.specs.declared.datum.Datum.{Datum}
use Rattle.step_machine.specs.Setting.{word_number}
use Rattle.step_machine.specs.Item.{Item, stmts_on}
use Rattle.step_machine.specs.Frame.{Frame}
use Rattle.hamming_gen.specs.Positions.{check_words}
use Rattle.hamming_gen.specs.HammingWords.{all_kinds, extra_words, encoded, repaired, beyond}
use Rattle.codec_laws.specs.Values.{Fit}
use Rattle.codec_laws.specs.Solo.{Alone, goes, solo, solo_step}
use Rattle.codec_laws.specs.BlockRuns.{IsLaid, Comes, kinds_of}
use Rattle.codec_laws.proofs.Lists.{get-seam, more-seam, length-more, take-first}
use Rattle.codec_laws.proofs.Values.{fit-length}
use Rattle.codec_laws.proofs.Each.{Apart, all-each, pairs-apart}
use Rattle.hamming_laws.specs.Masks as m
use Rattle.hamming_laws.specs.Masks.{MemberNumber, CheckNumber, AreUnsigned, AreParted, AreBounded, member_numbers, check_numbers}
use Rattle.hamming_laws.proofs.Masks.{masks-are-places}
use Rattle.hamming_laws.proofs.PositionsOfWords.{check-least}
use Rattle.hamming_laws.proofs.Places.{length-range}
use Rattle.hamming_blocks.specs.Blocks as b
use Rattle.hamming_blocks.specs.Blocks.{CheckedMember, Check, CheckedPart, kind_of, check_of, word_of, part_words, local_names, repair_block, renew_block}
use Rattle.hamming_blocks.specs.BlockRuns.{IsPart, Halts, HammingRun, unsigned_kinds, member_kinds, most_steps}
use Rattle.hamming_blocks.proofs.Few.{repair-few, renew-few}
use Rattle.hamming_blocks.proofs.Phases.{RunsAll, HaltsAll, Laid}
use Rattle.hamming_blocks.proofs.Numbered.{numbers, check_values, numbers-are, check_values-are, length-numbers, fit-front, fit-own, part-kinds, fit-all, unsigned-kinds-are}
use Rattle.hamming_blocks.proofs.Repair as repair
use Rattle.hamming_blocks.proofs.Renewal as renewal

-- ---- few check words

grows : (k : ℕ) → k + 1 ≤ 2 ^ k
grows zero = omega arith
grows (suc k) = omega (arith, grows k, pow-suc 2 k)

checks-few : (k : ℕ) → check_words k ≤ k + 1
checks-few k =
    let e : k + 1 ≡ suc k = omega arith in
    check-least k (k + 1) (subst (λ n. k + n + 1 ≤ 2 ^ n) (sym e) (omega (arith, grows k, pow-suc 2 k)))

-- ---- where words stand

module _ (a : Alone) (f : Frame) (own : f.this ≡ Some a.object) (at : Place) (class : ClassId)
    (words : List CoreWord) (laid : IsLaid a class words) where
  abbrev L : ℕ → List CoreWord → Type 0
  L = Laid a f own at class laid.is_of

  laid-from : (done rest : List CoreWord) (i : ℕ) → length done ≡ i → words ≡ done ++ rest → L i rest
  laid-from done [] i p e = tt
  laid-from done (w ∷ rest) i p e = (
    laid.numbers i w (ap (λ l. slice_get l i) e ∙ get-seam done rest w i p),
    laid-from (done ++ w ∷ []) rest (suc i) (length-more done w i p) (e ∙ sym (more-seam done rest w)),
  )

  laid-front : (x y : List CoreWord) (i : ℕ) → L i (x ++ y) → L i x
  laid-front [] y i h = tt
  laid-front (w ∷ x) y i h = (h.0, laid-front x y (suc i) h.1)

  laid-back : (x y : List CoreWord) (i n : ℕ) → i + length x ≡ n → L i (x ++ y) → L n y
  laid-back [] y i n p h = subst (λ k. L k y) (let e : i ≡ n = omega (arith, p) in e) h
  laid-back (w ∷ x) y i n p h = laid-back x y (suc i) n (omega (arith, p)) h.1

-- ---- a part whose words fit

module _ (p : CheckedPart) (ws : List ℕ) (part : IsPart p) (fit : Fit (kinds_of (part_words p)) ws) where
  abbrev kinds : List NumKind
  kinds = unsigned_kinds p

  checks-count : length p.checks ≡ check_words (length p.members)
  checks-count =
      sym (length-map p.checks (λ (c : Check). c.position)) ∙ ap length part.checks
      ∙ length-map (range_with_len 0 (check_words (length p.members))) (λ j. 2 ^ j)
      ∙ length-range 0 (check_words (length p.members))

  few : length p.checks ≤ length p.members + 1
  few = omega (arith, checks-count, checks-few (length p.members))

  unsigned : AreUnsigned kinds
  unsigned = subst AreUnsigned (unsigned-kinds-are p.members) (masks-are-places.unsigned (member_kinds p))

  parted : AreParted kinds ws
  parted = masks-are-places.parted kinds ws unsigned (fit-all p ws (ap (λ n. n + 1) checks-count) fit)

  module _ (s : AreParted kinds ws) where
    abbrev xs : List ℕ
    xs = s.members

    abbrev hs : List ℕ
    hs = s.checks

    abbrev all : List ℕ
    all = xs ++ (hs ++ s.parity ∷ [])

    abbrev ns : List MemberNumber
    ns = numbers p.members xs

    abbrev ks : List CheckNumber
    ks = check_values p.checks hs

    long : length xs ≡ length p.members
    long = fit-length kinds xs s.fit.members_fit ∙ length-map p.members kind_of

    as-long : length hs ≡ length p.checks
    as-long = s.fit.checks_length ∙ ap check_words (length-map p.members kind_of) ∙ sym checks-count

    fit-members : Fit (member_kinds p) xs
    fit-members =
        fit-front (member_kinds p) (replicate (length p.checks + 1) num.U64) xs (hs ++ s.parity ∷ [])
        (long ∙ sym (length-map p.members (λ (m : CheckedMember). m.member.kind)))
        (subst (λ l. Fit l all) (part-kinds p) (subst (λ l. Fit (kinds_of (part_words p)) l) s.words_are fit))

    ns-are : ns ≡ member_numbers 3 kinds xs
    ns-are = numbers-are p.members xs 3 part.members

    ks-are : ks ≡ check_numbers 0 hs
    ks-are =
        check_values-are p.checks hs 0 as-long
        (part.checks ∙ ap (λ n. map (λ j. 2 ^ j) (range_with_len 0 n)) (sym checks-count))

    bounded : AreBounded ns ks s.parity
    bounded =
        subst (λ l. AreBounded l ks s.parity) (sym ns-are)
        (subst (λ l. AreBounded (member_numbers 3 kinds xs) l s.parity) (sym ks-are)
        (masks-are-places.bounded kinds xs hs s.parity s.fit))

    -- ---- what is meant

    beyond-is : beyond kinds ws ≡ not (nat_eq (m.beyond_places ns ks s.parity) 0)
    beyond-is =
        ap (beyond kinds) s.words_are ∙ masks-are-places.stops kinds xs hs s.parity s.fit
        ∙ ap₂ (λ x y. not (nat_eq (m.beyond_places x y s.parity) 0)) (sym ns-are) (sym ks-are)

    repaired-is : repaired kinds ws ≡ m.mended_words ns ks s.parity
    repaired-is =
        ap (repaired kinds) s.words_are ∙ masks-are-places.mends kinds xs hs s.parity s.fit
        ∙ ap₂ (λ x y. m.mended_words x y s.parity) (sym ns-are) (sym ks-are)

    encoded-is : encoded kinds (take (length p.members) ws)
        ≡ xs ++ (m.renewed_checks ns ks ++ m.renewed_parity ns ks ∷ [])
    encoded-is =
        ap (λ l. encoded kinds (take (length p.members) l)) s.words_are
        ∙ ap (encoded kinds) (take-first xs (hs ++ s.parity ∷ []) (length p.members) long)
        ∙ masks-are-places.renews kinds xs hs s.parity s.fit
        ∙ ap₂ (λ x y. xs ++ (m.renewed_checks x y ++ m.renewed_parity x y ∷ [])) (sym ns-are) (sym ks-are)

    abbrev mended-members : List ℕ
    mended-members = map (m.mended_member ns ks s.parity) ns

    mended-long : length mended-members ≡ length p.members
    mended-long = length-map ns (m.mended_member ns ks s.parity) ∙ length-numbers p.members xs long

    mended-first : take (length p.members) (repaired kinds ws) ≡ mended-members
    mended-first =
        ap (take (length p.members)) repaired-is
        ∙ take-first mended-members (map (m.mended_check ns ks s.parity) ks ++ m.mended_parity ns ks s.parity ∷ [])
        (length p.members) mended-long

    fits : All (λ k. k ≢ num.Bool) (member_kinds p)
        → Fit (member_kinds p) (take (length p.members) (repaired kinds ws))
    fits h =
        subst (λ l. Fit (member_kinds p) l) (sym mended-first)
        (fit-own p.members mended-members (all-each (λ k. k ≢ num.Bool) (member_kinds p) h)
        (fit-front kinds (replicate (extra_words (length kinds)) num.U64) mended-members
        (map (m.mended_check ns ks s.parity) ks ++ m.mended_parity ns ks s.parity ∷ [])
        (mended-long ∙ sym (length-map p.members kind_of))
        (subst (λ l. Fit (all_kinds kinds) l)
        (ap₂ (λ x y. m.mended_words x y s.parity) (sym ns-are) (sym ks-are))
        (masks-are-places.mended_fit kinds xs hs s.parity s.fit))))

    -- ---- what runs

    module _ (a : Alone) (at : Place) (class : ClassId) (f : Frame) (items : List Item)
        (laid : IsLaid a class (part_words p)) (own : f.this ≡ Some a.object) where
      abbrev members : List CoreWord
      members = map (λ (m : CheckedMember). m.member) p.members

      abbrev checks : List CoreWord
      checks = map check_of p.checks

      apart : Apart (local_names p)
      apart = pairs-apart (local_names p) part.locals

      abbrev Lay : ℕ → List CoreWord → Type 0
      Lay = L a f own at class (part_words p) laid

      laid-all : Lay 0 (part_words p)
      laid-all = laid-from a f own at class (part_words p) laid [] (part_words p) 0 refl refl

      laid-members : Lay 0 members
      laid-members =
          laid-front a f own at class (part_words p) laid members (checks ++ word_of p.parity ∷ []) 0 laid-all

      laid-added : Lay (length xs) (checks ++ word_of p.parity ∷ [])
      laid-added =
          laid-back a f own at class (part_words p) laid members (checks ++ word_of p.parity ∷ []) 0 (length xs)
          (let e : length members ≡ length p.members = length-map p.members (λ (m : CheckedMember). m.member) in
          omega (arith, e, long)) laid-all

      laid-checks : Lay (length xs) checks
      laid-checks =
          laid-front a f own at class (part_words p) laid checks (word_of p.parity ∷ []) (length xs) laid-added

      laid-parity : word_number a.setting class p.parity ≡ a.from + length (xs ++ hs)
      laid-parity =
          (laid-back a f own at class (part_words p) laid checks (word_of p.parity ∷ []) (length xs)
          (length (xs ++ hs))
          (let e : length checks ≡ length p.checks = length-map p.checks check_of in
          let g : length (xs ++ hs) ≡ length xs + length hs = length-append xs hs in omega (arith, e, g, as-long))
          laid-added).0

      -- from runs of statements to runs of blocks
      comes-of : (most : ℕ) (ss : List CoreStmt) (after good : List ℕ) → most ≤ most_steps p → after ≡ good
          → (ls : List (ℕ × Datum)) × RunsAll a f own most ss f.locals all ls after
          → Comes a f (listed_stmts ss) items ws good (most_steps p)
      comes-of most ss after good l e g = record {
        steps = g.1.0;
        few = omega (arith, l, g.1.1);
        locals = g.0;
        comes = ap (λ w. solo (solo_step a) g.1.0
            (record f { items = stmts_on (listed_stmts ss) items } ∷ []) w) s.words_are
            ∙ g.1.2 f.values items ∙ ap (λ w. goes (record f { locals = g.0; items = items } ∷ []) w) e;
      }

      halts-of : (most : ℕ) (ss : List CoreStmt) → most ≤ most_steps p → HaltsAll a f own most ss f.locals all
          → Halts a f (listed_stmts ss) items ws (most_steps p)
      halts-of most ss l g = record {
        steps = g.0;
        few = omega (arith, l, g.1);
        halts = ap (λ w. solo (solo_step a) g.0 (record f { items = stmts_on (listed_stmts ss) items } ∷ []) w)
            s.words_are ∙ g.2 f.values items;
      }

      abbrev most : ℕ
      most = repair.most a f own at class laid.is_of p xs hs s.parity laid-members laid-checks laid-parity fit-members
          long as-long s.fit.checks_fit s.fit.parity_fits bounded apart

      repairs : beyond kinds ws ≡ false → Fit (member_kinds p) (take (length p.members) (repaired kinds ws))
          → Comes a f (repair_block at class p) items ws (repaired kinds ws) (most_steps p)
      repairs e h =
          comes-of most (b.sum_locals at class p ++ (b.fault_locals at class p ++ b.mends at class p))
          (m.mended_words ns ks s.parity) (repaired kinds ws)
          (repair-few (length p.members) (length p.checks) few) (sym repaired-is)
          (repair.repairs a f own at class laid.is_of p xs hs s.parity laid-members laid-checks laid-parity fit-members
          long as-long s.fit.checks_fit s.fit.parity_fits bounded apart (sym beyond-is ∙ e)
          (subst (λ l. Fit (member_kinds p) l) mended-first h) f.locals)

      halts : beyond kinds ws ≡ true → Halts a f (repair_block at class p) items ws (most_steps p)
      halts e =
          halts-of most (b.sum_locals at class p ++ (b.fault_locals at class p ++ b.mends at class p))
          (repair-few (length p.members) (length p.checks) few)
          (repair.halts a f own at class laid.is_of p xs hs s.parity laid-members laid-checks laid-parity fit-members
          long as-long s.fit.checks_fit s.fit.parity_fits bounded apart (sym beyond-is ∙ e) f.locals)

      renews : Comes a f (renew_block at class p) items ws (encoded kinds (take (length p.members) ws)) (most_steps p)
      renews =
          let k = length p.members in
          let r = length p.checks in
          comes-of ((5 + 2) * k + ((1 + 3 * k + 2) * r + (1 + 3 * (r + k) + 2)))
          (map (b.extend at class) p.members
          ++ (map (b.renew_check at class p) p.checks ++ b.renew_parity at class p ∷ []))
          (xs ++ (m.renewed_checks ns ks ++ m.renewed_parity ns ks ∷ [])) (encoded kinds (take k ws))
          (renew-few k r) (sym encoded-is)
          (renewal.renews a f own at class laid.is_of p xs hs s.parity laid-members laid-checks laid-parity fit-members
          long as-long apart f.locals)

pub hamming-run : HammingRun
hamming-run = record {
  fits = λ p ws part fit h. fits p ws part fit (parted p ws part fit) h;
  repairs = λ a at class p f items ws part laid own fit e h.
      repairs p ws part fit (parted p ws part fit) a at class f items laid own e h;
  halts = λ a at class p f items ws part laid own fit e.
      halts p ws part fit (parted p ws part fit) a at class f items laid own e;
  renews = λ a at class p f items ws part laid own fit.
      renews p ws part fit (parted p ws part fit) a at class f items laid own;
}
