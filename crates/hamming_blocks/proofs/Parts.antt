-- The expressions of a part's blocks give what masks over whole words are.
use Rattle.std.proofs.Common.{◌≡◌, ℕ, suc, ◌+◌, ◌*◌, ◌^◌, ◌<◌, ◌≤◌, Bool, true, false, Some, List, [], ◌∷◌, ◌++◌, map, length, slice_get, bit_and, bit_xor, sym, ap, ◌∙◌, arith}
use Rattle.std.specs.Prelude.{if◌then◌else◌}
use Rattle.agxx_base.specs.declared.ids.ClassId.{ClassId}
use Rattle.agxx_base.specs.declared.kind.NumKind.{NumKind}
use Rattle.agxx_base.specs.declared.kind.NumKind.TheVariants as num
use Rattle.agxx_base.specs.declared.place.Place.{Place}
use Rattle.cxx_tree.specs.declared.operator.BinOp.TheVariants as op
use Rattle.cxx_core.specs.CoreExpr.{CoreExpr}
use Rattle.step_machine.specs.declared.datum.Datum.{Datum}
use Rattle.step_machine.specs.Entries.{entry}
use Rattle.step_machine.specs.Setting.{is_of}
use Rattle.step_machine.specs.Frame.{Frame}
use Rattle.hamming_gen.specs.HammingTrees.{covers, mask_of}
use Rattle.codec_laws.specs.Values.{Fit}
use Rattle.codec_laws.specs.Solo.{Alone}
use Rattle.codec_laws.proofs.Lists.{get-seam, more-seam, length-more}
use Rattle.hamming_laws.specs.Masks as m
use Rattle.hamming_laws.specs.Masks.{MemberNumber, CheckNumber, AllUnder, complement}
use Rattle.hamming_laws.proofs.Operations.{all_joined-xor-under, complement-under}
use Rattle.hamming_blocks.specs.Blocks as b
use Rattle.hamming_blocks.specs.Blocks.{CheckedMember, Check, CheckedPart, kind_of, check_of}
use Rattle.hamming_blocks.proofs.Words.{word, word-and, word-xor, fits-word}
use Rattle.hamming_blocks.proofs.Gives.{Holds, Gives, AllGive, gives-more, gives-local, gives-number, gives-both, gives-inverted, gives-joined, gives-all-joined, gives-under, gives-own, gives-extended}
use Rattle.hamming_blocks.proofs.Phases.{Known, AllHold, AllLater, AllPut, Laid}
use Rattle.hamming_blocks.proofs.Numbered.{numbers, check_values}

abbrev pub words_of : List CheckedMember → List ℕ
words_of ms = map (λ (m : CheckedMember). m.word) ms

abbrev pub sums_of : List Check → List ℕ
sums_of cs = map (λ (c : Check). c.sum) cs

module _ (a : Alone) (f : Frame) (own-object : f.this ≡ Some a.object) (at : Place) where
  abbrev G : ℕ → CoreExpr → List (ℕ × Datum) → List ℕ → ℕ → Type 0
  G = Gives a f own-object

  -- ---- members that a check word covers

  pub covered-short : (power : ℕ) (ms : List CheckedMember) → length (b.covered at power ms) ≤ length ms
  covered-short power [] = omega arith
  covered-short power (m ∷ ms) = by (covers power m.position) (covered-short power ms)
    where
      by : (x : Bool) → length (b.covered at power ms) ≤ length ms
          → length (if x then b.local m.word ∷ b.covered at power ms else b.covered at power ms) ≤ suc (length ms)
      by true rest = omega (arith, rest)
      by false rest = omega (arith, rest)

  pub covered-gives : (power : ℕ) (ms : List CheckedMember) (xs : List ℕ) (ls : List (ℕ × Datum)) (ws : List ℕ)
      → Holds ls (words_of ms) xs
      → AllGive a f own-object (b.covered at power ms) ls ws (m.covered power (numbers ms xs))
  covered-gives power [] [] ls ws h = tt
  covered-gives power [] (x ∷ xs) ls ws h = absurd h
  covered-gives power (q ∷ ms) [] ls ws h = absurd h
  covered-gives power (q ∷ ms) (x ∷ xs) ls ws h =
      by (covers power q.position) (covered-gives power ms xs ls ws h.2)
    where
      by : (y : Bool) → AllGive a f own-object (b.covered at power ms) ls ws (m.covered power (numbers ms xs))
          → AllGive a f own-object (if y then b.local q.word ∷ b.covered at power ms else b.covered at power ms) ls ws
          (if y then x ∷ m.covered power (numbers ms xs) else m.covered power (numbers ms xs))
      by true rest = (gives-local a f own-object q.word ls ws x h.0, h.1, rest)
      by false rest = rest

  -- ---- bit places to be inverted

  module _ (ns : List MemberNumber) where
    agreeing-gives : (position : ℕ) (c : Check) (h : ℕ) (ls : List (ℕ × Datum)) (ws : List ℕ)
        → entry ls c.sum ≡ Some (word (m.sum_of ns (record { position = c.position; word = h })))
        → m.sum_of ns (record { position = c.position; word = h }) < 2 ^ 64
        → G 3 (b.agreeing at position c) ls ws (m.agreeing ns position (record { position = c.position; word = h }))
        × (m.agreeing ns position (record { position = c.position; word = h }) < 2 ^ 64)
    agreeing-gives position c h ls ws e u = by (covers c.position position)
      where
        s : ℕ
        s = m.sum_of ns (record { position = c.position; word = h })

        by : (y : Bool) → G 3 (if y then b.local c.sum else b.inverted at (b.local c.sum)) ls ws
            (if y then s else complement s) × ((if y then s else complement s) < 2 ^ 64)
        by true = (
          gives-more a f own-object 1 3 (b.local c.sum) ls ws s (omega arith)
              (gives-local a f own-object c.sum ls ws s e),
          u,
        )
        by false = (
          gives-inverted a f own-object at 1 (b.local c.sum) ls ws s u (gives-local a f own-object c.sum ls ws s e),
          complement-under s,
        )

    pub matched-gives : (cs : List Check) (hs : List ℕ) (n : ℕ) (first : CoreExpr) (position : ℕ)
        (ls : List (ℕ × Datum)) (ws : List ℕ) (v : ℕ) → v < 2 ^ 64 → G n first ls ws v
        → Holds ls (sums_of cs) (map (m.sum_of ns) (check_values cs hs))
        → G (n + 5 * length cs) (b.matched at first position cs) ls ws
        (m.matched ns v position (check_values cs hs))
    matched-gives [] hs n first position ls ws v p g h =
        gives-more a f own-object n (n + 5 * 0) first ls ws v (omega arith) g
    matched-gives (c ∷ cs) [] n first position ls ws v p g h = absurd h
    matched-gives (c ∷ cs) (w ∷ hs) n first position ls ws v p g h =
        let k : CheckNumber = record { position = c.position; word = w } in
        let one = agreeing-gives position c w ls ws h.0 h.1 in
        let next = bit_and v (m.agreeing ns position k) in
        gives-more a f own-object (n + 3 + 2 + 5 * length cs) (n + 5 * suc (length cs))
        (b.matched at first position (c ∷ cs)) ls ws (m.matched ns next position (check_values cs hs)) (omega arith)
        (matched-gives cs hs (n + 3 + 2) (b.both at op.BitAnd first (b.agreeing at position c)) position ls ws next
        (word-and.under v (m.agreeing ns position k) p one.1)
        (gives-both a f own-object at op.BitAnd bit_and word-and n 3 first (b.agreeing at position c) ls ws v
        (m.agreeing ns position k) p one.1 g one.0) h.2)

  with-mask : (mask n : ℕ) (e : CoreExpr) (ls : List (ℕ × Datum)) (ws : List ℕ) (v : ℕ) → mask < 2 ^ 64 → v < 2 ^ 64
      → G n e ls ws v → G (n + 3) (b.both at op.BitAnd e (b.number mask)) ls ws (bit_and v mask)
  with-mask mask n e ls ws v l p g =
      gives-more a f own-object (n + 1 + 2) (n + 3) (b.both at op.BitAnd e (b.number mask)) ls ws (bit_and v mask)
      (omega arith) (gives-both a f own-object at op.BitAnd bit_and word-and n 1 e (b.number mask) ls ws v mask p l g
      (gives-number a f own-object mask ls ws))

  masked-gives : (k : NumKind) (n : ℕ) (e : CoreExpr) (ls : List (ℕ × Datum)) (ws : List ℕ) (v : ℕ) → v < 2 ^ 64
      → G n e ls ws v → G (n + 3) (b.masked at (mask_of k) e) ls ws (m.masked (mask_of k) v)
  masked-gives num.U8 n e ls ws v p g = with-mask 255 n e ls ws v (omega arith) p g
  masked-gives num.U16 n e ls ws v p g = with-mask 65535 n e ls ws v (omega arith) p g
  masked-gives num.U32 n e ls ws v p g = with-mask 4294967295 n e ls ws v (omega arith) p g
  masked-gives num.Bool n e ls ws v p g = gives-more a f own-object n (n + 3) e ls ws v (omega arith) g
  masked-gives num.I8 n e ls ws v p g = gives-more a f own-object n (n + 3) e ls ws v (omega arith) g
  masked-gives num.I16 n e ls ws v p g = gives-more a f own-object n (n + 3) e ls ws v (omega arith) g
  masked-gives num.I32 n e ls ws v p g = gives-more a f own-object n (n + 3) e ls ws v (omega arith) g
  masked-gives num.I64 n e ls ws v p g = gives-more a f own-object n (n + 3) e ls ws v (omega arith) g
  masked-gives num.U64 n e ls ws v p g = gives-more a f own-object n (n + 3) e ls ws v (omega arith) g

  -- ---- words of the part

  module _ (class : ClassId) (of : is_of a.setting (Some a.live) (Some class) ≡ true) where
    pub own-give : (cs : List Check) (hs r tail ws : List ℕ) (i : ℕ) (ls : List (ℕ × Datum)) → length r ≡ i
        → Laid a f own-object at class of i (map check_of cs) → ws ≡ r ++ (hs ++ tail) → length hs ≡ length cs
        → AllUnder (2 ^ 64) hs → AllGive a f own-object (map (λ (c : Check). b.own_word at class c.name) cs) ls ws hs
    own-give [] [] r tail ws i ls p laid e l u = tt
    own-give [] (h ∷ hs) r tail ws i ls p laid e l u = absurd (omega arith)
    own-give (c ∷ cs) [] r tail ws i ls p laid e l u = absurd (omega arith)
    own-give (c ∷ cs) (h ∷ hs) r tail ws i ls p laid e l u = (
      gives-own a f own-object at class of i c.name ls ws h laid.0
          (ap (λ y. slice_get y i) e ∙ get-seam r (hs ++ tail) h i p),
      u.0,
      own-give cs hs (r ++ h ∷ []) tail ws (suc i) ls (length-more r h i p) laid.1
          (e ∙ sym (more-seam r (hs ++ tail) h)) (omega arith) u.1,
    )

    pub extends-later : (ms : List CheckedMember) (xs r tail ws : List ℕ) (i : ℕ) → length r ≡ i
        → Laid a f own-object at class of i (map (λ (m : CheckedMember). m.member) ms) → ws ≡ r ++ (xs ++ tail)
        → Fit (map (λ (m : CheckedMember). m.member.kind) ms) xs
        → AllLater a f own-object at (λ (m : CheckedMember). m.word) (b.extended at class) 5 ws [] ms xs
    extends-later [] [] r tail ws i p laid e fit = tt
    extends-later [] (x ∷ xs) r tail ws i p laid e fit = absurd fit
    extends-later (q ∷ ms) [] r tail ws i p laid e fit = absurd fit
    extends-later (q ∷ ms) (x ∷ xs) r tail ws i p laid e fit = (
      λ ls known. gives-extended a f own-object at class of i q ls ws x laid.0
          (ap (λ y. slice_get y i) e ∙ get-seam r (xs ++ tail) x i p) fit.0,
      fits-word q.member.kind x fit.0,
      extends-later ms xs (r ++ x ∷ []) tail ws (suc i) (length-more r x i p) laid.1
          (e ∙ sym (more-seam r (xs ++ tail) x)) fit.1,
    )

    module _ (p : CheckedPart) (xs : List ℕ) (known : Known) (ws : List ℕ) where
      abbrev ns : List MemberNumber
      ns = numbers p.members xs

      pub sums-later : (hold : (ls : List (ℕ × Datum)) → AllHold ls known → Holds ls (words_of p.members) xs)
          (cs : List Check) (hs r tail : List ℕ) (i : ℕ) → length r ≡ i
          → Laid a f own-object at class of i (map check_of cs) → ws ≡ r ++ (hs ++ tail) → length hs ≡ length cs
          → AllUnder (2 ^ 64) hs → AllUnder (2 ^ 64) (map (m.sum_of ns) (check_values cs hs))
          → AllLater a f own-object at (λ (c : Check). c.sum)
          (λ (c : Check). b.joined at op.BitXor (b.own_word at class c.name) (b.covered at c.position p.members))
          (1 + 3 * length p.members) ws known cs (map (m.sum_of ns) (check_values cs hs))
      sums-later hold [] [] r tail i l laid e same u v = tt
      sums-later hold [] (h ∷ hs) r tail i l laid e same u v = absurd (omega arith)
      sums-later hold (c ∷ cs) [] r tail i l laid e same u v = absurd (omega arith)
      sums-later hold (c ∷ cs) (h ∷ hs) r tail i l laid e same u v = (
        λ ls k. gives-more a f own-object (1 + 3 * length (b.covered at c.position p.members))
            (1 + 3 * length p.members) (b.joined at op.BitXor (b.own_word at class c.name)
            (b.covered at c.position p.members)) ls ws (m.sum_of ns (record { position = c.position; word = h }))
            (omega (arith, covered-short c.position p.members))
            (gives-joined a f own-object at op.BitXor bit_xor word-xor 1 (b.own_word at class c.name)
            (b.covered at c.position p.members) ls ws h (m.covered c.position ns) u.0
            (gives-own a f own-object at class of i c.name ls ws h laid.0
            (ap (λ y. slice_get y i) e ∙ get-seam r (hs ++ tail) h i l))
            (covered-gives c.position p.members xs ls ws (hold ls k))),
        v.0,
        sums-later hold cs hs (r ++ h ∷ []) tail (suc i) (length-more r h i l) laid.1
            (e ∙ sym (more-seam r (hs ++ tail) h)) (omega arith) u.1 v.1,
      )

    module _ (p : CheckedPart) (xs hs : List ℕ) (parity : ℕ) (known : Known) (ws : List ℕ) where
      abbrev ks : List CheckNumber
      ks = check_values p.checks hs

      abbrev fault_at : ℕ → ℕ
      fault_at position = m.fault_at (numbers p.members xs) ks parity position

      abbrev EachFault : Type 0
      EachFault =
          (ls : List (ℕ × Datum)) → AllHold ls known → (position : ℕ)
          → G (1 + 5 * length p.checks) (b.fault_at at class p position) ls ws (fault_at position)

      pub member-faults-later : EachFault → ((position : ℕ) → fault_at position < 2 ^ 64) → (ms : List CheckedMember)
          (ys : List ℕ) → length ys ≡ length ms
          → AllUnder (2 ^ 64) (map (m.member_fault (numbers p.members xs) ks parity) (numbers ms ys))
          → AllLater a f own-object at (λ (m : CheckedMember). m.fault)
          (λ (m : CheckedMember). b.masked at (mask_of (kind_of m)) (b.fault_at at class p m.position))
          (1 + 5 * length p.checks + 3) ws known ms
          (map (m.member_fault (numbers p.members xs) ks parity) (numbers ms ys))
      member-faults-later g under [] [] l u = tt
      member-faults-later g under [] (y ∷ ys) l u = tt
      member-faults-later g under (q ∷ ms) [] l u = absurd (omega arith)
      member-faults-later g under (q ∷ ms) (y ∷ ys) l u = (
        λ ls k. masked-gives (kind_of q) (1 + 5 * length p.checks) (b.fault_at at class p q.position) ls ws
            (fault_at q.position) (under q.position) (g ls k q.position),
        u.0,
        member-faults-later g under ms ys (omega arith) u.1,
      )

      pub check-faults-later : EachFault → (cs : List Check) (ys : List ℕ) → length ys ≡ length cs
          → AllUnder (2 ^ 64) (map (m.check_fault (numbers p.members xs) ks parity) (check_values cs ys))
          → AllLater a f own-object at (λ (c : Check). c.fault)
          (λ (c : Check). b.fault_at at class p c.position)
          (1 + 5 * length p.checks) ws known cs
          (map (m.check_fault (numbers p.members xs) ks parity) (check_values cs ys))
      check-faults-later g [] [] l u = tt
      check-faults-later g [] (y ∷ ys) l u = tt
      check-faults-later g (c ∷ cs) [] l u = absurd (omega arith)
      check-faults-later g (c ∷ cs) (y ∷ ys) l u =
          ((λ ls k. g ls k c.position), u.0, check-faults-later g cs ys (omega arith) u.1)

    -- ---- words that are mended and renewed

    pub mend-members-put : (g : MemberNumber → ℕ) (ms : List CheckedMember) (ys : List ℕ) (i : ℕ)
        (ls : List (ℕ × Datum)) → Holds ls (words_of ms) ys
        → Holds ls (map (λ (m : CheckedMember). m.fault) ms) (map g (numbers ms ys))
        → Fit (map (λ (m : CheckedMember). m.member.kind) ms)
        (map (λ (n : MemberNumber). bit_xor n.word (g n)) (numbers ms ys))
        → AllPut a f own-object at class of (λ (m : CheckedMember). m.member)
        (λ (m : CheckedMember). b.differing at (b.local m.word) (b.local m.fault)) 4 ls i ms ys
        (map (λ (n : MemberNumber). bit_xor n.word (g n)) (numbers ms ys))
    mend-members-put g [] [] i ls h k fit = tt
    mend-members-put g [] (y ∷ ys) i ls h k fit = absurd h
    mend-members-put g (q ∷ ms) [] i ls h k fit = absurd h
    mend-members-put g (q ∷ ms) (y ∷ ys) i ls h k fit =
        let n : MemberNumber = record { position = q.position; kind = kind_of q; word = y } in (
          λ r rest l. gives-both a f own-object at op.BitXor bit_xor word-xor 1 1 (b.local q.word) (b.local q.fault) ls
              (r ++ y ∷ rest) y (g n) h.1 k.1 (gives-local a f own-object q.word ls (r ++ y ∷ rest) y h.0)
              (gives-local a f own-object q.fault ls (r ++ y ∷ rest) (g n) k.0),
          fit.0,
          mend-members-put g ms ys (suc i) ls h.2 k.2 fit.1,
        )

    pub mend-checks-put : (g : CheckNumber → ℕ) (cs : List Check) (ys : List ℕ) (i : ℕ) (ls : List (ℕ × Datum))
        → length ys ≡ length cs → AllUnder (2 ^ 64) ys → Laid a f own-object at class of i (map check_of cs)
        → Holds ls (map (λ (c : Check). c.fault) cs) (map g (check_values cs ys))
        → AllPut a f own-object at class of check_of
        (λ (c : Check). b.differing at (b.own_word at class c.name) (b.local c.fault)) 4 ls i cs ys
        (map (λ (n : CheckNumber). bit_xor n.word (g n)) (check_values cs ys))
    mend-checks-put g [] [] i ls l u laid k = tt
    mend-checks-put g [] (y ∷ ys) i ls l u laid k = absurd (omega arith)
    mend-checks-put g (c ∷ cs) [] i ls l u laid k = absurd (omega arith)
    mend-checks-put g (c ∷ cs) (y ∷ ys) i ls l u laid k =
        let n : CheckNumber = record { position = c.position; word = y } in (
          λ r rest e. gives-both a f own-object at op.BitXor bit_xor word-xor 1 1 (b.own_word at class c.name)
              (b.local c.fault) ls (r ++ y ∷ rest) y (g n) u.0 k.1
              (gives-own a f own-object at class of i c.name ls (r ++ y ∷ rest) y laid.0 (get-seam r rest y i e))
              (gives-local a f own-object c.fault ls (r ++ y ∷ rest) (g n) k.0),
          word-xor.under y (g n) u.0 k.1,
          mend-checks-put g cs ys (suc i) ls (omega arith) u.1 laid.1 k.2,
        )

    pub renew-checks-put : (p : CheckedPart) (xs : List ℕ) (cs : List Check) (ys : List ℕ) (i : ℕ)
        (ls : List (ℕ × Datum)) → length ys ≡ length cs → Holds ls (words_of p.members) xs
        → AllPut a f own-object at class of check_of
        (λ (c : Check). b.all_joined at op.BitXor (b.covered at c.position p.members)) (1 + 3 * length p.members) ls
        i cs ys (m.renewed_checks (numbers p.members xs) (check_values cs ys))
    renew-checks-put p xs [] [] i ls l h = tt
    renew-checks-put p xs [] (y ∷ ys) i ls l h = absurd (omega arith)
    renew-checks-put p xs (c ∷ cs) [] i ls l h = absurd (omega arith)
    renew-checks-put p xs (c ∷ cs) (y ∷ ys) i ls l h =
        let vs = m.covered c.position (numbers p.members xs) in (
          λ r rest e. gives-more a f own-object (1 + 3 * length (b.covered at c.position p.members))
              (1 + 3 * length p.members) (b.all_joined at op.BitXor (b.covered at c.position p.members)) ls
              (r ++ y ∷ rest) (m.all_joined bit_xor vs) (omega (arith, covered-short c.position p.members))
              (gives-all-joined a f own-object at op.BitXor bit_xor word-xor (b.covered at c.position p.members) ls
              (r ++ y ∷ rest) vs (covered-gives c.position p.members xs ls (r ++ y ∷ rest) h)),
          all_joined-xor-under 64 vs (gives-under a f own-object (b.covered at c.position p.members) ls [] vs
              (covered-gives c.position p.members xs ls [] h)),
          renew-checks-put p xs cs ys (suc i) ls (omega arith) h,
        )

    pub renewed-under : (p : CheckedPart) (xs : List ℕ) (cs : List Check) (ys : List ℕ) (ls : List (ℕ × Datum))
        → Holds ls (words_of p.members) xs
        → AllUnder (2 ^ 64) (m.renewed_checks (numbers p.members xs) (check_values cs ys))
    renewed-under p xs [] ys ls h = tt
    renewed-under p xs (c ∷ cs) [] ls h = tt
    renewed-under p xs (c ∷ cs) (y ∷ ys) ls h =
        let vs = m.covered c.position (numbers p.members xs) in (
          all_joined-xor-under 64 vs (gives-under a f own-object (b.covered at c.position p.members) ls [] vs
              (covered-gives c.position p.members xs ls [] h)),
          renewed-under p xs cs ys ls h,
        )
