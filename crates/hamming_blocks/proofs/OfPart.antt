-- The blocks of a part with check words name nothing but its words.
use Rattle.std.proofs.Common.{ℕ, Bool, true, false, Option, Some, None, List, [], ◌∷◌, ◌++◌, map}
use Rattle.std.specs.Prelude.{if◌then◌else◌}
use Rattle.agxx_base.specs.declared.ids.ClassId.{ClassId}
use Rattle.agxx_base.specs.declared.place.Place.{Place}
use Rattle.cxx_tree.specs.declared.operator.BinOp.{BinOp}
use Rattle.cxx_tree.specs.declared.operator.BinOp.TheVariants as op
use Rattle.cxx_core.specs.CoreExpr.{CoreExpr}
use Rattle.cxx_core.specs.CoreStmt.{CoreStmt}
use Rattle.cxx_core.specs.CoreProgram.{CoreWord}
use Rattle.cxx_core.specs.StmtView.{listed_stmts}
use Rattle.hamming_gen.specs.HammingTrees.{covers, mask_of}
use Rattle.codec_laws.specs.OfPart.{PartExpr, PartStmt, PartStmts, IsWord}
use Rattle.codec_laws.proofs.BlockTurns.{before-others, behind, here}
use Rattle.codec_laws.proofs.Each.{Each, each-both}
use Rattle.hamming_blocks.specs.Blocks as b
use Rattle.hamming_blocks.specs.Blocks.{CheckedMember, Check, CheckedPart, kind_of, check_of, word_of, part_words}
use Rattle.hamming_blocks.specs.OfPart.{HammingIsOfPart}

module _ (at : Place) (class : ClassId) where
  abbrev Has : List CoreWord → CoreWord → Type 0
  Has words w = IsWord class words class w.name

  -- ---- each word of a list is there

  module _ {X : Type 0} (g : X → CoreWord) where
    all-front : (l r : List CoreWord) (xs : List X) → Each (λ x. Has l (g x)) xs → Each (λ x. Has (l ++ r) (g x)) xs
    all-front l r [] h = tt
    all-front l r (x ∷ xs) h = (before-others at class l r (g x).name h.0, all-front l r xs h.1)

    all-behind : (l r : List CoreWord) (xs : List X) → Each (λ x. Has r (g x)) xs
        → Each (λ x. Has (l ++ r) (g x)) xs
    all-behind l r [] h = tt
    all-behind l r (x ∷ xs) h = (behind at class l r (g x).name h.0, all-behind l r xs h.1)

    all-here : (xs : List X) → Each (λ x. Has (map g xs) (g x)) xs
    all-here [] = tt
    all-here (x ∷ xs) =
        (here at class (g x) (map g xs), all-behind (g x ∷ []) (map g xs) xs (all-here xs))

  -- ---- blocks

  module _ (words : List CoreWord) where
    abbrev Names : ClassId → ℕ → Type 0
    Names = IsWord class words

    abbrev Expr : CoreExpr → Type 0
    Expr = PartExpr Names

    abbrev Stmt : CoreStmt → Type 0
    Stmt = PartStmt Names

    joined-part : (o : BinOp) (first : CoreExpr) (es : List CoreExpr) → Expr first → Each Expr es
        → Expr (b.joined at o first es)
    joined-part o first [] f h = f
    joined-part o first (e ∷ es) f h = joined-part o (b.both at o first e) es (f, h.0) h.1

    all-joined-part : (o : BinOp) (es : List CoreExpr) → Each Expr es → Expr (b.all_joined at o es)
    all-joined-part o [] h = tt
    all-joined-part o (e ∷ es) h = joined-part o e es h.0 h.1

    covered-part : (power : ℕ) (ms : List CheckedMember) → Each Expr (b.covered at power ms)
    covered-part power [] = tt
    covered-part power (m ∷ ms) = by (covers power m.position) (covered-part power ms)
      where
        by : (c : Bool) → Each Expr (b.covered at power ms)
            → Each Expr (if c then b.local m.word ∷ b.covered at power ms else b.covered at power ms)
        by true rest = (tt, rest)
        by false rest = rest

    agreeing-part : (position : ℕ) (c : Check) → Expr (b.agreeing at position c)
    agreeing-part position c = by (covers c.position position)
      where
        by : (x : Bool) → Expr (if x then b.local c.sum else b.inverted at (b.local c.sum))
        by true = tt
        by false = tt

    matched-part : (first : CoreExpr) (position : ℕ) (cs : List Check) → Expr first
        → Expr (b.matched at first position cs)
    matched-part first position [] f = f
    matched-part first position (c ∷ cs) f =
        matched-part (b.both at op.BitAnd first (b.agreeing at position c)) position cs (f, agreeing-part position c)

    masked-part : (mask : Option ℕ) (value : CoreExpr) → Expr value → Expr (b.masked at mask value)
    masked-part None value h = h
    masked-part (Some n) value h = (h, tt)

    each-local : {X : Type 0} (name : X → ℕ) (xs : List X) → Each Expr (map (λ x. b.local (name x)) xs)
    each-local name [] = tt
    each-local name (x ∷ xs) = (tt, each-local name xs)

    own-checks : (cs : List Check) → Each (λ c. Has words (check_of c)) cs
        → Each Expr (map (λ (c : Check). b.own_word at class c.name) cs)
    own-checks [] h = tt
    own-checks (c ∷ cs) h = (h.0, own-checks cs h.1)

    listed-part : (ss : List CoreStmt) → Each Stmt ss → PartStmts Names (listed_stmts ss)
    listed-part [] h = tt
    listed-part (s ∷ ss) h = (h.0, listed-part ss h.1)

    module _ (p : CheckedPart) (members : Each (λ (m : CheckedMember). Has words m.member) p.members)
        (checks : Each (λ c. Has words (check_of c)) p.checks) (parity : Has words (word_of p.parity)) where
      extends : (ms : List CheckedMember) → Each (λ (m : CheckedMember). Has words m.member) ms
          → Each Stmt (map (b.extend at class) ms)
      extends [] h = tt
      extends (m ∷ ms) h = (h.0, extends ms h.1)

      all-words-part : Each Expr (b.all_words at class p)
      all-words-part =
          each-both Expr (map (λ (c : Check). b.own_word at class c.name) p.checks)
          (map (λ (m : CheckedMember). b.local m.word) p.members) (own-checks p.checks checks)
          (each-local (λ (m : CheckedMember). m.word) p.members)

      sum-part : (cs : List Check) → Each (λ c. Has words (check_of c)) cs
          → Each Stmt (map (b.sum_local at class p) cs)
      sum-part [] h = tt
      sum-part (c ∷ cs) h = (
        joined-part op.BitXor (b.own_word at class c.name) (b.covered at c.position p.members) h.0
            (covered-part c.position p.members),
        sum-part cs h.1,
      )

      fault-part : (position : ℕ) → Expr (b.fault_at at class p position)
      fault-part position = matched-part (b.local p.total) position p.checks tt

      member-faults : (ms : List CheckedMember) → Each Stmt (map (b.member_fault at class p) ms)
      member-faults [] = tt
      member-faults (m ∷ ms) = (
        masked-part (mask_of (kind_of m)) (b.fault_at at class p m.position) (fault-part m.position),
        member-faults ms,
      )

      check-faults : (cs : List Check) → Each Stmt (map (b.check_fault at class p) cs)
      check-faults [] = tt
      check-faults (c ∷ cs) = (fault-part c.position, check-faults cs)

      beyond-part : Stmt (b.beyond_local at class p)
      beyond-part = (
        tt,
        all-joined-part op.BitOr (b.all_faults at class p)
            (each-both Expr (map (λ (m : CheckedMember). b.local m.fault) p.members)
            (map (λ (c : Check). b.local c.fault) p.checks)
            (each-local (λ (m : CheckedMember). m.fault) p.members) (each-local (λ (c : Check). c.fault) p.checks)),
      )

      mend-members : (ms : List CheckedMember) → Each (λ (m : CheckedMember). Has words m.member) ms
          → Each Stmt (map (b.mend_member at class) ms)
      mend-members [] h = tt
      mend-members (m ∷ ms) h = ((h.0, (tt, tt)), mend-members ms h.1)

      mend-checks : (cs : List Check) → Each (λ c. Has words (check_of c)) cs
          → Each Stmt (map (b.mend_check at class) cs)
      mend-checks [] h = tt
      mend-checks (c ∷ cs) h = ((h.0, (h.0, tt)), mend-checks cs h.1)

      renew-checks : (cs : List Check) → Each (λ c. Has words (check_of c)) cs
          → Each Stmt (map (b.renew_check at class p) cs)
      renew-checks [] h = tt
      renew-checks (c ∷ cs) h = (
        (h.0, all-joined-part op.BitXor (b.covered at c.position p.members) (covered-part c.position p.members)),
        renew-checks cs h.1,
      )

      sums : Each Stmt (b.sum_locals at class p)
      sums =
          each-both Stmt (map (b.extend at class) p.members)
          (map (b.sum_local at class p) p.checks ++ b.total_local at class p ∷ b.uneven_local at class p ∷ [])
          (extends p.members members)
          (each-both Stmt (map (b.sum_local at class p) p.checks)
          (b.total_local at class p ∷ b.uneven_local at class p ∷ []) (sum-part p.checks checks) (
            joined-part op.BitXor (b.own_word at class p.parity) (b.all_words at class p) parity all-words-part,
            (
              all-joined-part op.BitOr (map (λ (c : Check). b.local c.sum) p.checks)
                  (each-local (λ (c : Check). c.sum) p.checks),
              tt,
            ),
          ))

      faults : Each Stmt (b.fault_locals at class p)
      faults =
          each-both Stmt (map (b.member_fault at class p) p.members)
          (map (b.check_fault at class p) p.checks ++ b.beyond_local at class p ∷ b.stop_beyond at class p ∷ [])
          (member-faults p.members)
          (each-both Stmt (map (b.check_fault at class p) p.checks)
          (b.beyond_local at class p ∷ b.stop_beyond at class p ∷ []) (check-faults p.checks)
          (beyond-part, (((tt, tt), (tt, tt), tt), tt)))

      mends : Each Stmt (b.mends at class p)
      mends =
          each-both Stmt (map (b.mend_member at class) p.members)
          (map (b.mend_check at class) p.checks ++ b.mend_parity at class p ∷ []) (mend-members p.members members)
          (each-both Stmt (map (b.mend_check at class) p.checks) (b.mend_parity at class p ∷ [])
          (mend-checks p.checks checks) ((parity, (parity, (tt, tt))), tt))

      repair-part : PartStmts Names (b.repair_block at class p)
      repair-part =
          listed-part (b.sum_locals at class p ++ (b.fault_locals at class p ++ b.mends at class p))
          (each-both Stmt (b.sum_locals at class p) (b.fault_locals at class p ++ b.mends at class p) sums
          (each-both Stmt (b.fault_locals at class p) (b.mends at class p) faults mends))

      renew-part : PartStmts Names (b.renew_block at class p)
      renew-part =
          listed-part
          (map (b.extend at class) p.members
          ++ (map (b.renew_check at class p) p.checks ++ b.renew_parity at class p ∷ []))
          (each-both Stmt (map (b.extend at class) p.members)
          (map (b.renew_check at class p) p.checks ++ b.renew_parity at class p ∷ []) (extends p.members members)
          (each-both Stmt (map (b.renew_check at class p) p.checks) (b.renew_parity at class p ∷ [])
          (renew-checks p.checks checks)
          ((parity, all-joined-part op.BitXor (b.all_words at class p) all-words-part), tt)))

  -- ---- the words of the part

  abbrev member_words : CheckedPart → List CoreWord
  member_words p = map (λ (m : CheckedMember). m.member) p.members

  abbrev added_words : CheckedPart → List CoreWord
  added_words p = map check_of p.checks ++ word_of p.parity ∷ []

  members-there : (p : CheckedPart) → Each (λ (m : CheckedMember). Has (part_words p) m.member) p.members
  members-there p =
      all-front (λ (m : CheckedMember). m.member) (member_words p) (added_words p) p.members
      (all-here (λ (m : CheckedMember). m.member) p.members)

  checks-there : (p : CheckedPart) → Each (λ c. Has (part_words p) (check_of c)) p.checks
  checks-there p =
      all-behind check_of (member_words p) (added_words p) p.checks
      (all-front check_of (map check_of p.checks) (word_of p.parity ∷ []) p.checks (all-here check_of p.checks))

  parity-there : (p : CheckedPart) → Has (part_words p) (word_of p.parity)
  parity-there p =
      behind at class (member_words p) (added_words p) p.parity
      (behind at class (map check_of p.checks) (word_of p.parity ∷ []) p.parity (here at class (word_of p.parity) []))

pub hamming-is-of-part : HammingIsOfPart
hamming-is-of-part = record {
  repair = λ at class p. repair-part at class (part_words p) p (members-there at class p) (checks-there at class p)
      (parity-there at class p);
  renew = λ at class p. renew-part at class (part_words p) p (members-there at class p) (checks-there at class p)
      (parity-there at class p);
}
