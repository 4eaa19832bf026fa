-- The blocks of two copies, of one member, run by themselves.
use Rattle.std.proofs.Common.{◌≡◌, ℕ, suc, ◌+◌, ◌^◌, ◌<◌, true, List, [], ◌∷◌, length, slice_get, slice_set, Some, Ok, bit_and, bit_or, sym, ap, subst, ◌∙◌, length-set}
use Rattle.std.specs.Int.Bits.{and_lt}
use Rattle.std.specs.Prelude.{if◌then◌else◌}
use Rattle.std.proofs.lemmas.Nat.{or_lt}
use Rattle.agxx_base.specs.declared.ids.ClassId.{ClassId}
use Rattle.agxx_base.specs.declared.kind.NumKind.{NumKind}
use Rattle.agxx_base.specs.declared.place.Place.{Place}
use Rattle.cxx_tree.specs.declared.operator.BinOp.{BinOp}
use Rattle.cxx_tree.specs.declared.operator.BinOp.TheVariants as op
use Rattle.cxx_arith.specs.Kinds.{width, common_kind}
use Rattle.cxx_names.specs.declared.types.ValueType.TheVariants as type
use Rattle.cxx_core.specs.CoreExpr.{CoreExpr, type_of}
use Rattle.cxx_core.specs.CoreStmt as cs
use Rattle.cxx_core.specs.CoreStmt.{CoreStmt, CoreStmts}
use Rattle.cxx_core.specs.ElaboratedProgram.{type_or_null}
use Rattle.step_machine.specs.declared.datum.Datum.{Datum}
use Rattle.step_machine.specs.declared.datum.Datum.TheVariants as datum
use Rattle.step_machine.specs.Data.{from_bits_of}
use Rattle.step_machine.specs.ActValues.{given, two_of}
use Rattle.step_machine.specs.Entries.{entry, with_entry}
use Rattle.step_machine.specs.Setting.{is_of, word_number}
use Rattle.step_machine.specs.Item as it
use Rattle.step_machine.specs.Item.{Item, stmts_on}
use Rattle.step_machine.specs.Frame.{Frame}
use Rattle.step_machine.specs.Total.{same}
use Rattle.step_machine.proofs.Same.{same-self, entry-with}
use Rattle.codec.specs.Copies.{majority}
use Rattle.codec_laws.specs.Solo.{Alone, goes, solo, solo_step}
use Rattle.codec_laws.specs.Blocks.{Copied, kind_of, first_of, second_of, own_left, own, both, voted, as_unsigned, vote_of, repair_member, renew_member}
use Rattle.codec_laws.proofs.Arithmetic.{and-of, or-of, unsigned, wider, to-unsigned, to-local, from-unsigned, in-unsigned}
use Rattle.codec_laws.proofs.Steps.{and-more, fr, Evals, Runs, evals-local, evals-cast, evals-binary, evals-member, runs-declare, runs-assign}

entry-there : (ls : List (ℕ × Datum)) (name : ℕ) (v : Datum) → entry (with_entry ls name v) name ≡ Some v
entry-there ls name v = entry-with ls name v name ∙ ap (λ b. if b then Some v else entry ls name) (same-self name)

majority-fits : (k : NumKind) (x y z : ℕ) → x < 2 ^ width k → y < 2 ^ width k → z < 2 ^ width k
    → majority x y z < 2 ^ width k
majority-fits k x y z p q r =
    or_lt (width k) (bit_or (bit_and x y) (bit_and x z)) (bit_and y z)
    (or_lt (width k) (bit_and x y) (bit_and x z) (and_lt (width k) x y p q) (and_lt (width k) x z p r))
    (and_lt (width k) y z q r)

module _ (a : Alone) (f : Frame) (own-object : f.this ≡ Some a.object) (at : Place) (class : ClassId)
    (of : is_of a.setting (Some a.live) (Some class) ≡ true) (m : Copied) (i j l : ℕ)
    (at-member : word_number a.setting class m.member.name ≡ a.from + i)
    (at-first : word_number a.setting class m.first ≡ a.from + j)
    (at-second : word_number a.setting class m.second ≡ a.from + l) where
  abbrev u : NumKind
  u = kind_of m

  abbrev k : NumKind
  k = m.member.kind

  abbrev th : List (ℕ × Datum) → List Datum → List Item → List Frame
  th ls vs is = fr a f own-object ls vs is ∷ []

  module _ (ls : List (ℕ × Datum)) (ws : List ℕ) (x y z : ℕ) (get-x : slice_get ws i ≡ Some x)
      (get-y : slice_get ws j ≡ Some y) (get-z : slice_get ws l ≡ Some z)
      (fit-x : x < 2 ^ width k) (fit-y : y < 2 ^ width u) (fit-z : z < 2 ^ width u) where
    evals-unsigned : Evals a f own-object 3 (as_unsigned at class m) ls ws (from_bits_of u x)
    evals-unsigned =
        subst (λ d. Evals a f own-object 3 (as_unsigned at class m) ls ws (datum.Number d)) (to-unsigned k x fit-x)
        (evals-cast a f own-object 1 u (type.Number k) (own at class m.member) ls ws (from_bits_of k x)
        (evals-member a f own-object at class of m.member.name k i at-member ls ws x get-x))

    evals-first : Evals a f own-object 1 (own at class (first_of m)) ls ws (from_bits_of u y)
    evals-first = evals-member a f own-object at class of m.first u j at-first ls ws y get-y

    evals-second : Evals a f own-object 1 (own at class (second_of m)) ls ws (from_bits_of u z)
    evals-second = evals-member a f own-object at class of m.second u l at-second ls ws z get-z

    abbrev promoted : ℕ → Datum
    promoted bits = from_bits_of (common_kind u u) bits

    evals-both : (n o : ℕ) (sign : BinOp) (e g : CoreExpr) (v w r : Datum) → Evals a f own-object n e ls ws v
        → Evals a f own-object o g ls ws w → two_of sign v w ≡ Ok r
        → Evals a f own-object (suc (n + (o + 1))) (both at class sign e g) ls ws r
    evals-both n o sign e g v w r h i same =
        evals-binary a f own-object n o at sign (type_or_null (type_of e))
        (type_or_null (type_of g)) e g ls ws v w r h i same

    abbrev with-first : CoreExpr
    with-first = both at class op.BitAnd (as_unsigned at class m) (own at class (first_of m))

    abbrev with-second : CoreExpr
    with-second = both at class op.BitAnd (as_unsigned at class m) (own at class (second_of m))

    abbrev with-both : CoreExpr
    with-both = both at class op.BitAnd (own at class (first_of m)) (own at class (second_of m))

    evals-with-first : Evals a f own-object 6 with-first ls ws (promoted (bit_and x y))
    evals-with-first =
        evals-both 3 1 op.BitAnd (as_unsigned at class m) (own at class (first_of m)) (from_bits_of u x)
        (from_bits_of u y) (promoted (bit_and x y)) evals-unsigned evals-first
        (ap given (and-of u x y (unsigned k) (wider k x fit-x) fit-y))

    evals-with-second : Evals a f own-object 6 with-second ls ws (promoted (bit_and x z))
    evals-with-second =
        evals-both 3 1 op.BitAnd (as_unsigned at class m) (own at class (second_of m)) (from_bits_of u x)
        (from_bits_of u z) (promoted (bit_and x z)) evals-unsigned evals-second
        (ap given (and-of u x z (unsigned k) (wider k x fit-x) fit-z))

    evals-with-both : Evals a f own-object 4 with-both ls ws (promoted (bit_and y z))
    evals-with-both =
        evals-both 1 1 op.BitAnd (own at class (first_of m)) (own at class (second_of m)) (from_bits_of u y)
        (from_bits_of u z) (promoted (bit_and y z)) evals-first evals-second
        (ap given (and-of u y z (unsigned k) fit-y fit-z))

    fit-first : bit_and x y < 2 ^ width u
    fit-first = and_lt (width u) x y (wider k x fit-x) fit-y

    fit-second : bit_and x z < 2 ^ width u
    fit-second = and_lt (width u) x z (wider k x fit-x) fit-z

    evals-vote : Evals a f own-object 20 (vote_of at class m) ls ws (promoted (majority x y z))
    evals-vote =
        evals-both 14 4 op.BitOr (both at class op.BitOr with-first with-second) with-both
        (promoted (bit_or (bit_and x y) (bit_and x z))) (promoted (bit_and y z)) (promoted (majority x y z))
        (evals-both 6 6 op.BitOr with-first with-second (promoted (bit_and x y)) (promoted (bit_and x z))
        (promoted (bit_or (bit_and x y) (bit_and x z))) evals-with-first evals-with-second
        (ap given (or-of u (bit_and x y) (bit_and x z) (unsigned k) fit-first fit-second)))
        evals-with-both
        (ap given (or-of u (bit_or (bit_and x y) (bit_and x z)) (bit_and y z) (unsigned k)
        (or_lt (width u) (bit_and x y) (bit_and x z) fit-first fit-second) (and_lt (width u) y z fit-y fit-z)))

    abbrev v : ℕ
    v = majority x y z

    abbrev with-vote : List (ℕ × Datum)
    with-vote = with_entry ls m.vote (from_bits_of u v)

    abbrev declares : CoreStmt
    declares = cs.declare m.vote (type.Number u) (Some (cs.value (vote_of at class m)))

    abbrev after-first : CoreStmts → List Item → List Item
    after-first rest is = it.stmt (cs.assign (own_left at class (second_of m)) (voted at class m)) ∷ stmts_on rest is

    abbrev after-member : CoreStmts → List Item → List Item
    after-member rest is = it.stmt (cs.assign (own_left at class (first_of m)) (voted at class m)) ∷ after-first rest is

    abbrev after-declares : CoreStmts → List Item → List Item
    after-declares rest is = it.stmt (cs.assign (own_left at class m.member) (voted at class m)) ∷ after-member rest is

    abbrev ws-member : List ℕ
    ws-member = slice_set ws i v

    abbrev ws-first : List ℕ
    ws-first = slice_set ws-member j v

    evals-voted : (us : List ℕ) → Evals a f own-object 1 (voted at class m) with-vote us (from_bits_of u v)
    evals-voted us = evals-local a f own-object m.vote (type.Number u) with-vote us (from_bits_of u v)
        (entry-there ls m.vote (from_bits_of u v))

    in-j' : j < length ws → j < length ws-member
    in-j' in-j = subst (λ n. j < n) (sym (length-set ws i v)) in-j

    in-l' : l < length ws → l < length ws-first
    in-l' in-l = subst (λ n. l < n) (sym (length-set ws-member j v ∙ length-set ws i v)) in-l

    -- the member's four statements, where what the member becomes fits it
    pub member-repairs : (rest : CoreStmts) (vs : List Datum) (is : List Item) → v < 2 ^ width k → i < length ws
        → j < length ws → l < length ws
        → solo (solo_step a) 31 (th ls vs (stmts_on (repair_member at class m rest) is)) ws
        ≡ goes (th with-vote vs (stmts_on rest is)) (slice_set (slice_set (slice_set ws i v) j v) l v)
    member-repairs rest vs is fit-v in-i in-j in-l =
        let fit-vote = majority-fits u x y z (wider k x fit-x) fit-y fit-z in
        let declared = subst (λ d. Runs a f own-object 22 declares ls ws
        (with_entry ls m.vote (datum.Number d)) ws) (to-local k v fit-vote)
        (runs-declare a f own-object 20 m.vote (type.Number u) (vote_of at class m) ls ws
        (promoted v) evals-vote) in
        and-more (solo_step a) 22 9 (th ls vs (it.stmt declares ∷ (after-declares rest is)))
        (th with-vote vs (after-declares rest is)) ws ws _ (declared vs (after-declares rest is))
        (and-more (solo_step a) 3 6 (th with-vote vs (after-declares rest is))
        (th with-vote vs (after-member rest is)) ws ws-member _
        (runs-assign a f own-object at class of m.member.name k i at-member 1 (voted at class m) with-vote ws
        (from_bits_of u v) v (evals-voted ws) in-i (from-unsigned k v fit-v) vs (after-member rest is))
        (and-more (solo_step a) 3 3 (th with-vote vs (after-member rest is))
        (th with-vote vs (after-first rest is)) ws-member ws-first _
        (runs-assign a f own-object at class of m.first u j at-first 1 (voted at class m) with-vote ws-member
        (from_bits_of u v) v (evals-voted ws-member) (in-j' in-j) (in-unsigned k v fit-vote) vs
        (after-first rest is))
        (runs-assign a f own-object at class of m.second u l at-second 1 (voted at class m) with-vote ws-first
        (from_bits_of u v) v (evals-voted ws-first) (in-l' in-l) (in-unsigned k v fit-vote) vs (stmts_on rest is))))

  -- ---- renewal

  module _ (ls : List (ℕ × Datum)) (ws : List ℕ) (x : ℕ) (get-x : slice_get ws i ≡ Some x)
      (fit-x : x < 2 ^ width k) where
    abbrev renew-second : CoreStmts → List Item → List Item
    renew-second rest is = it.stmt (cs.assign (own_left at class (second_of m)) (own at class m.member)) ∷ stmts_on
        rest is

    -- the member's two statements
    pub member-renews : (rest : CoreStmts) (vs : List Datum) (is : List Item) → j < length ws → l < length ws
        → slice_get (slice_set ws j x) i ≡ Some x
        → solo (solo_step a) 6 (th ls vs (stmts_on (renew_member at class m rest) is)) ws
        ≡ goes (th ls vs (stmts_on rest is)) (slice_set (slice_set ws j x) l x)
    member-renews rest vs is in-j in-l get-again =
        and-more (solo_step a) 3 3 (th ls vs (stmts_on (renew_member at class m rest) is))
        (th ls vs (renew-second rest is)) ws (slice_set ws j x) _
        (runs-assign a f own-object at class of m.first u j at-first 1 (own at class m.member) ls ws
        (from_bits_of k x) x
        (evals-member a f own-object at class of m.member.name k i at-member ls ws x get-x) in-j
        (ap (λ d. d.bits) (to-unsigned k x fit-x)) vs (renew-second rest is))
        (runs-assign a f own-object at class of m.second u l at-second 1 (own at class m.member) ls
        (slice_set ws j x) (from_bits_of k x) x
        (evals-member a f own-object at class of m.member.name k i at-member ls (slice_set ws j x) x get-again)
        (subst (λ n. l < n) (sym (length-set ws j x)) in-l)
        (ap (λ d. d.bits) (to-unsigned k x fit-x)) vs (stmts_on rest is))
