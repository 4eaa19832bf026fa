-- The statements that are generated for a part with check words, in core form.
use Rattle.std.proofs.Common.{◌≡◌, ◌≢◌, ℕ, zero, suc, ◌+◌, ◌^◌, ◌<◌, ◌≤◌, Bool, true, false, Option, Some, None, List, [], ◌∷◌, ◌++◌, map, length, refl, sym, ap, subst, ◌∙◌, arith}
use Rattle.std.specs.Prelude.{if◌then◌else◌}
use Rattle.std.specs.List.{range_with_len}
use Rattle.std.proofs.lemmas.List.{append-nil, length-map}
use Rattle.agxx_base.specs.declared.ids.ClassId.{ClassId}
use Rattle.agxx_base.specs.declared.ids.NameId.{NameId}
use Rattle.agxx_base.specs.declared.kind.NumKind.TheVariants as num
use Rattle.agxx_base.specs.declared.place.Place.{Place}
use Rattle.cxx_tree.specs.declared.operator.BinOp.TheVariants as op
use Rattle.cxx_tree.specs.declared.operator.UnOp.TheVariants as un
use Rattle.cxx_tree.specs.declared.program.Member.{Member}
use Rattle.cxx_tree.specs.ExprTree.{ExprTree}
use Rattle.cxx_tree.specs.StmtTree as s
use Rattle.cxx_tree.specs.StmtTree.{StmtTree}
use Rattle.cxx_names.specs.declared.types.ValueType.TheVariants as type
use Rattle.cxx_core.specs.CoreExpr as c
use Rattle.cxx_core.specs.CoreExpr.{CoreExpr}
use Rattle.cxx_core.specs.CoreStmt as cs
use Rattle.cxx_core.specs.CoreStmt.{CoreStmt}
use Rattle.cxx_core.specs.CoreProgram.{CoreWord}
use Rattle.cxx_core.specs.StmtView.{listed_stmts}
use Rattle.cxx_core.specs.Meanings.{Scope, Within}
use Rattle.cxx_core.specs.ElaboratedExpr.{binary_as, cast_as}
use Rattle.cxx_core.specs.ElaboratedStmt.{core_stmts}
use Rattle.cxx_make.specs.Made as made
use Rattle.codec.specs.Part.{unsigned_of, place_of}
use Rattle.hamming_gen.specs.Positions.{check_words, positions_from, next_position}
use Rattle.hamming_gen.specs.HammingNames as gen
use Rattle.hamming_gen.specs.HammingTrees as t
use Rattle.hamming_gen.specs.HammingTrees.{covers, mask_of}
use Rattle.hamming_gen.specs.declared.words.MemberWord.{MemberWord}
use Rattle.hamming_gen.specs.declared.words.CheckWord.{CheckWord}
use Rattle.hamming_gen.specs.declared.words.PartWords.{PartWords}
use Rattle.codec_laws.specs.Blocks.{own}
use Rattle.codec_laws.specs.Elaboration.{IsMember}
use Rattle.codec_laws.proofs.Each.{Each, Apart, all-each, each-as, pairs-apart}
use Rattle.codec_laws.proofs.Elaboration.{unsigned-is, read-member}
use Rattle.hamming_laws.proofs.PositionsOfWords.{check-enough}
use Rattle.hamming_blocks.specs.Blocks as b
use Rattle.hamming_blocks.specs.Blocks.{CheckedMember, Check, CheckedPart, kind_of, word_of, part_words, local_names, repair_block, renew_block}
use Rattle.hamming_blocks.specs.Elaboration as form
use Rattle.hamming_blocks.specs.Elaboration.{member_of, part_of, named_part, HammingElaborates}
use Rattle.hamming_blocks.proofs.Phases.{each-front, each-back}
use Rattle.hamming_blocks.proofs.Scopes.{Groups, IsLocal, IsFree, put-all, Comes, comes-both, Stand, Left, Core, Value, core-local, core-own, core-binary, core-inverted, Cores, cores-both, value-joined, core-all-joined, value-all-joined, sign-and, sign-or, sign-xor, Declares, declares-both, declares-one, Later, declares-all, assigns-one, Puts, assigns-all}

abbrev member_words : List MemberWord → List CoreWord
member_words ms = map (λ (q : CheckedMember). q.member) (map member_of ms)

abbrev check_list : List CheckWord → List CoreWord
check_list cs = map b.check_of (map form.check_of cs)

abbrev word_names : List MemberWord → List ℕ
word_names ms = map (λ (q : CheckedMember). q.word) (map member_of ms)

abbrev sum_list : List CheckWord → List ℕ
sum_list cs = map (λ (q : Check). q.sum) (map form.check_of cs)

abbrev member_fault_names : List MemberWord → List ℕ
member_fault_names ms = map (λ (q : CheckedMember). q.fault) (map member_of ms)

abbrev check_fault_names : List CheckWord → List ℕ
check_fault_names cs = map (λ (q : Check). q.fault) (map form.check_of cs)

module _ (w : Within) (at : Place) (class : ClassId) (words : List CoreWord) where
  abbrev Free : Scope → List CoreWord → Type 0
  Free scope vs = Each (λ (v : CoreWord). IsFree scope v.name) vs

  abbrev Members : List CoreWord → Type 0
  Members vs = Each (IsMember w at class) vs

  abbrev V : Scope → ExprTree → CoreExpr → Type 0
  V = Value w at class words

  abbrev C : Scope → ExprTree → CoreExpr → Type 0
  C = Core w at class words

  -- ---- lists of names

  covered-cores : (scope : Scope) (power : ℕ) (ms : List MemberWord) → Each (IsLocal scope) (word_names ms)
      → Cores w at class words scope (t.covered power ms) (b.covered at power (map member_of ms))
  covered-cores scope power [] h = tt
  covered-cores scope power (m ∷ ms) h = by (covers power m.position) (covered-cores scope power ms h.1)
    where
      by : (y : Bool) → Cores w at class words scope (t.covered power ms) (b.covered at power (map member_of ms))
          → Cores w at class words scope (if y then m.word ∷ t.covered power ms else t.covered power ms)
          (if y then b.local m.word.0 ∷ b.covered at power (map member_of ms)
          else b.covered at power (map member_of ms))
      by true rest = (core-local w at class words scope m.word h.0, rest)
      by false rest = rest

  own-cores : (scope : Scope) (cs : List CheckWord) → Free scope (check_list cs) → Members (check_list cs)
      → Cores w at class words scope (t.check_names cs)
      (map (λ (q : Check). b.own_word at class q.name) (map form.check_of cs))
  own-cores scope [] h g = tt
  own-cores scope (c ∷ cs) h g =
      ((core-own w at class words scope c.name h.0 g.0).0, own-cores scope cs h.1 g.1)

  word-cores : (scope : Scope) (ms : List MemberWord) → Each (IsLocal scope) (word_names ms)
      → Cores w at class words scope (map (λ (m : MemberWord). m.word) ms)
      (map (λ (q : CheckedMember). b.local q.word) (map member_of ms))
  word-cores scope [] h = tt
  word-cores scope (m ∷ ms) h = (core-local w at class words scope m.word h.0, word-cores scope ms h.1)

  sum-cores : (scope : Scope) (cs : List CheckWord) → Each (IsLocal scope) (sum_list cs)
      → Cores w at class words scope (t.sum_names cs)
      (map (λ (q : Check). b.local q.sum) (map form.check_of cs))
  sum-cores scope [] h = tt
  sum-cores scope (c ∷ cs) h = (core-local w at class words scope c.sum h.0, sum-cores scope cs h.1)

  member-fault-cores : (scope : Scope) (ms : List MemberWord) → Each (IsLocal scope) (member_fault_names ms)
      → Cores w at class words scope (map (λ (m : MemberWord). m.fault) ms)
      (map (λ (q : CheckedMember). b.local q.fault) (map member_of ms))
  member-fault-cores scope [] h = tt
  member-fault-cores scope (m ∷ ms) h =
      (core-local w at class words scope m.fault h.0, member-fault-cores scope ms h.1)

  check-fault-cores : (scope : Scope) (cs : List CheckWord) → Each (IsLocal scope) (check_fault_names cs)
      → Cores w at class words scope (map (λ (c : CheckWord). c.fault) cs)
      (map (λ (q : Check). b.local q.fault) (map form.check_of cs))
  check-fault-cores scope [] h = tt
  check-fault-cores scope (c ∷ cs) h =
      (core-local w at class words scope c.fault h.0, check-fault-cores scope cs h.1)

  -- ---- expressions

  extended-value : (scope : Scope) (m : MemberWord) → IsFree scope m.member.name.item.0
      → IsMember w at class (member_of m).member → V scope (t.extended at m.member) (b.extended at class (member_of m))
  extended-value scope m free is =
      let word = (member_of m).member in (
        (
          ap (λ e. cast_as at (Some num.U64) (cast_as at (Some (unsigned_of m.member)) e))
              (read-member w at class scope word free is)
              ∙ ap (λ k. c.cast num.U64 (type.Number k) (c.cast k (type.Number word.kind) (own at class word)))
              (unsigned-is m.member.type_name.item),
          refl,
        ),
        refl,
      )

  agreeing-core : (scope : Scope) (position : ℕ) (x : CheckWord) → IsLocal scope x.sum.0
      → C scope (t.agreeing at position x) (b.agreeing at position (form.check_of x))
  agreeing-core scope position x h = by (covers x.position position)
    where
      by : (y : Bool) → C scope (if y then made.variable at x.sum else t.inverted at x.sum)
          (if y then b.local x.sum.0 else b.inverted at (b.local x.sum.0))
      by true = core-local w at class words scope x.sum h
      by false = core-inverted w at class words scope (made.variable at x.sum) (b.local x.sum.0)
          (core-local w at class words scope x.sum h)

  matched-value : (scope : Scope) (tree : ExprTree) (core : CoreExpr) (position : ℕ) (xs : List CheckWord)
      → V scope tree core → Each (IsLocal scope) (sum_list xs)
      → V scope (t.matched at tree position xs) (b.matched at core position (map form.check_of xs))
  matched-value scope tree core position [] v h = v
  matched-value scope tree core position (x ∷ xs) v h =
      matched-value scope (made.binary at op.BitAnd tree (t.agreeing at position x))
      (b.both at op.BitAnd core (b.agreeing at position (form.check_of x))) position xs
      (core-binary w at class words op.BitAnd sign-and scope tree (t.agreeing at position x) core
      (b.agreeing at position (form.check_of x)) v.0 (agreeing-core scope position x h.0)) h.1

  matched-some : (scope : Scope) (tree : ExprTree) (core : CoreExpr) (position : ℕ) (xs : List CheckWord)
      → 1 ≤ length xs → C scope tree core → Each (IsLocal scope) (sum_list xs)
      → V scope (t.matched at tree position xs) (b.matched at core position (map form.check_of xs))
  matched-some scope tree core position [] l v h = absurd (omega arith)
  matched-some scope tree core position (x ∷ xs) l v h =
      matched-value scope (made.binary at op.BitAnd tree (t.agreeing at position x))
      (b.both at op.BitAnd core (b.agreeing at position (form.check_of x))) position xs
      (core-binary w at class words op.BitAnd sign-and scope tree (t.agreeing at position x) core
      (b.agreeing at position (form.check_of x)) v (agreeing-core scope position x h.0)) h.1

  masked-value : (scope : Scope) (mask : Option ℕ) (tree : ExprTree) (core : CoreExpr) → V scope tree core
      → V scope (t.masked at mask tree) (b.masked at mask core)
  masked-value scope None tree core v = v
  masked-value scope (Some n) tree core v =
      core-binary w at class words op.BitAnd sign-and scope tree (made.number at num.U64 n) core (b.number n) v.0
      (refl, refl)

  -- ---- lists of statements

  extends-later : (gs : Groups) (ms : List MemberWord) → Members (member_words ms)
      → ((scope : Scope) → Stand w at class words scope gs → Free scope (member_words ms))
      → Later w at class words member_of (λ (q : CheckedMember). q.word) (λ m. t.extended at m.member)
      (b.extended at class) gs ms
  extends-later gs [] is free = tt
  extends-later gs (m ∷ ms) is free = (
    (λ scope h. extended-value scope m (free scope h).0 is.0),
    extends-later gs ms is.1 (λ scope h. (free scope h).1),
  )

  module _ (g : PartWords) (gs : Groups) where
    sums-later : ((scope : Scope) → Stand w at class words scope gs → Each (IsLocal scope) (word_names g.members))
        → (xs : List CheckWord) → Members (check_list xs)
        → ((scope : Scope) → Stand w at class words scope gs → Free scope (check_list xs))
        → Later w at class words form.check_of (λ (q : Check). q.sum)
        (λ x. t.joined at op.BitXor (made.variable at x.name) (t.covered x.position g.members))
        (λ q. b.joined at op.BitXor (b.own_word at class q.name) (b.covered at q.position (map member_of g.members)))
        gs xs
    sums-later known [] is free = tt
    sums-later known (x ∷ xs) is free = (
      λ scope h. value-joined w at class words op.BitXor sign-xor scope (made.variable at x.name)
          (b.own_word at class x.name.0) (t.covered x.position g.members)
          (b.covered at x.position (map member_of g.members))
          (core-own w at class words scope x.name (free scope h).0 is.0)
          (covered-cores scope x.position g.members (known scope h)),
      sums-later known xs is.1 (λ scope h. (free scope h).1),
    )

    abbrev EachFault : Type 0
    EachFault =
        (scope : Scope) → Stand w at class words scope gs → (position : ℕ)
        → V scope (t.fault_at at g position) (b.fault_at at class (part_of g) position)

    member-faults-later : EachFault → (ms : List MemberWord)
        → Later w at class words member_of (λ (q : CheckedMember). q.fault)
        (λ m. t.masked at (mask_of (unsigned_of m.member)) (t.fault_at at g m.position))
        (λ q. b.masked at (mask_of (kind_of q)) (b.fault_at at class (part_of g) q.position)) gs ms
    member-faults-later f [] = tt
    member-faults-later f (m ∷ ms) = (
      λ scope h. subst (λ k. V scope (t.masked at (mask_of (unsigned_of m.member)) (t.fault_at at g m.position))
          (b.masked at (mask_of k) (b.fault_at at class (part_of g) m.position)))
          (unsigned-is m.member.type_name.item)
          (masked-value scope (mask_of (unsigned_of m.member)) (t.fault_at at g m.position)
          (b.fault_at at class (part_of g) m.position) (f scope h m.position)),
      member-faults-later f ms,
    )

    check-faults-later : EachFault → (xs : List CheckWord)
        → Later w at class words form.check_of (λ (q : Check). q.fault)
        (λ x. t.fault_at at g x.position) (λ q. b.fault_at at class (part_of g) q.position) gs xs
    check-faults-later f [] = tt
    check-faults-later f (x ∷ xs) = ((λ scope h. f scope h x.position), check-faults-later f xs)

  mend-members-put : (scope : Scope) (ms : List MemberWord) → Free scope (member_words ms)
      → Members (member_words ms) → Each (IsLocal scope) (word_names ms)
      → Each (IsLocal scope) (member_fault_names ms)
      → Puts w at class words member_of (λ (q : CheckedMember). q.member) (λ m. t.differing at m.word m.fault)
      (λ q. b.differing at (b.local q.word) (b.local q.fault)) scope ms
  mend-members-put scope [] free is k h = tt
  mend-members-put scope (m ∷ ms) free is k h = (
    free.0,
    is.0,
    (core-binary w at class words op.BitXor sign-xor scope (made.variable at m.word) (made.variable at m.fault)
        (b.local m.word.0) (b.local m.fault.0) (core-local w at class words scope m.word k.0)
        (core-local w at class words scope m.fault h.0)).0.0,
    mend-members-put scope ms free.1 is.1 k.1 h.1,
  )

  mend-checks-put : (scope : Scope) (xs : List CheckWord) → Free scope (check_list xs) → Members (check_list xs)
      → Each (IsLocal scope) (check_fault_names xs)
      → Puts w at class words form.check_of b.check_of (λ x. t.differing at x.name x.fault)
      (λ q. b.differing at (b.own_word at class q.name) (b.local q.fault)) scope xs
  mend-checks-put scope [] free is h = tt
  mend-checks-put scope (x ∷ xs) free is h = (
    free.0,
    is.0,
    (core-binary w at class words op.BitXor sign-xor scope (made.variable at x.name) (made.variable at x.fault)
        (b.own_word at class x.name.0) (b.local x.fault.0)
        (core-own w at class words scope x.name free.0 is.0).0 (core-local w at class words scope x.fault h.0)).0.0,
    mend-checks-put scope xs free.1 is.1 h.1,
  )

  renew-checks-put : (g : PartWords) (scope : Scope) (xs : List CheckWord) → Free scope (check_list xs)
      → Members (check_list xs) → Each (IsLocal scope) (word_names g.members)
      → Puts w at class words form.check_of b.check_of (λ x. t.all_joined at op.BitXor (t.covered x.position g.members))
      (λ q. b.all_joined at op.BitXor (b.covered at q.position (map member_of g.members))) scope xs
  renew-checks-put g scope [] free is h = tt
  renew-checks-put g scope (x ∷ xs) free is h = (
    free.0,
    is.0,
    (core-all-joined w at class words op.BitXor sign-xor scope (t.covered x.position g.members)
        (b.covered at x.position (map member_of g.members)) (covered-cores scope x.position g.members h)).0,
    renew-checks-put g scope xs free.1 is.1 h,
  )

-- ---- a part

module _ (w : Within) (at : Place) (class : ClassId) (g : PartWords)
    (are : Each (IsMember w at class) (part_words (part_of g))) (apart : Apart (local_names (part_of g)))
    (others : Each (λ n. Each (λ (v : CoreWord). v.name ≢ n) (part_words (part_of g))) (local_names (part_of g))) where
  abbrev p : CheckedPart
  p = part_of g

  abbrev words : List CoreWord
  words = part_words p

  abbrev St : Scope → Groups → Type 0
  St = Stand w at class words

  members-are : Each (IsMember w at class) (member_words g.members)
  members-are = each-front (IsMember w at class) (member_words g.members) (check_list g.checks ++ word_of p.parity ∷ [])
      are

  added-are : Each (IsMember w at class) (check_list g.checks ++ word_of p.parity ∷ [])
  added-are =
      each-back (IsMember w at class) (member_words g.members) (check_list g.checks ++ word_of p.parity ∷ []) are

  checks-are : Each (IsMember w at class) (check_list g.checks)
  checks-are = each-front (IsMember w at class) (check_list g.checks) (word_of p.parity ∷ []) added-are

  parity-is : IsMember w at class (word_of p.parity)
  parity-is = (each-back (IsMember w at class) (check_list g.checks) (word_of p.parity ∷ []) added-are).0

  module _ (scope : Scope) (gs : Groups) (h : St scope gs) where
    abbrev Here : CoreWord → Type 0
    Here v = IsFree scope v.name

    members-free : Each Here (member_words g.members)
    members-free = each-front Here (member_words g.members) (check_list g.checks ++ word_of p.parity ∷ []) h.1

    added-free : Each Here (check_list g.checks ++ word_of p.parity ∷ [])
    added-free = each-back Here (member_words g.members) (check_list g.checks ++ word_of p.parity ∷ []) h.1

    checks-free : Each Here (check_list g.checks)
    checks-free = each-front Here (check_list g.checks) (word_of p.parity ∷ []) added-free

    parity-free : IsFree scope p.parity
    parity-free = (each-back Here (check_list g.checks) (word_of p.parity ∷ []) added-free).0

  -- ---- what is in scope then

  abbrev in-words : Groups
  in-words = word_names g.members ∷ []

  abbrev in-sums : Groups
  in-sums = sum_list g.checks ∷ in-words

  abbrev in-total : Groups
  in-total = (g.total.0 ∷ []) ∷ in-sums

  abbrev in-uneven : Groups
  in-uneven = (g.uneven.0 ∷ []) ∷ in-total

  abbrev in-members : Groups
  in-members = member_fault_names g.members ∷ in-uneven

  abbrev in-checks : Groups
  in-checks = check_fault_names g.checks ∷ in-members

  abbrev in-all : Groups
  in-all = (g.beyond.0 ∷ []) ∷ in-checks

  abbrev left-beyond : List ℕ
  left-beyond = g.beyond.0 ∷ []

  abbrev left-checks : List ℕ
  left-checks = check_fault_names g.checks ++ left-beyond

  abbrev left-members : List ℕ
  left-members = member_fault_names g.members ++ left-checks

  abbrev left-uneven : List ℕ
  left-uneven = g.uneven.0 ∷ left-members

  abbrev left-total : List ℕ
  left-total = g.total.0 ∷ left-uneven

  abbrev left-sums : List ℕ
  left-sums = sum_list g.checks ++ left-total

  abbrev Lf : Scope → List ℕ → Type 0
  Lf = Left w at class words

  abbrev D : Scope → List StmtTree → List CoreStmt → Groups → List ℕ → Type 0
  D = Declares w at class words

  begins : St [] []
  begins = (tt, none words)
    where
      none : (vs : List CoreWord) → Each (λ (v : CoreWord). IsFree [] v.name) vs
      none [] = tt
      none (v ∷ vs) = (refl, none vs)

  begin-left : Lf [] (word_names g.members ++ left-sums)
  begin-left = (none (local_names p), apart, others)
    where
      none : (ns : List ℕ) → Each (IsFree []) ns
      none [] = tt
      none (n ∷ ns) = (refl, none ns)

  -- ---- sums

  extends : D [] (map (t.extend at) g.members) (map (b.extend at class) p.members) in-words left-sums
  extends =
      declares-all w at class words member_of (λ (q : CheckedMember). q.word) (λ m. t.extended at m.member)
      (b.extended at class) g.members [] [] left-sums begins begin-left
      (extends-later w at class words [] g.members members-are (λ scope h. members-free scope [] h))

  sums : (scope : Scope) → St scope in-words → Lf scope left-sums
      → D scope (map (t.sum_local at g) g.checks) (map (b.sum_local at class p) p.checks) in-sums left-total
  sums scope h l =
      declares-all w at class words form.check_of (λ (q : Check). q.sum)
      (λ x. t.joined at op.BitXor (made.variable at x.name) (t.covered x.position g.members))
      (λ q. b.joined at op.BitXor (b.own_word at class q.name) (b.covered at q.position p.members)) g.checks in-words
      scope left-total h l
      (sums-later w at class words g in-words (λ next k. k.0.0) g.checks checks-are
      (λ next k. checks-free next in-words k))

  all-words : (scope : Scope) (gs : Groups) → St scope gs → Each (IsLocal scope) (word_names g.members)
      → Cores w at class words scope (t.word_names g.checks g.members) (b.all_words at class p)
  all-words scope gs h k =
      cores-both w at class words scope (t.check_names g.checks) (map (λ (m : MemberWord). m.word) g.members)
      (map (λ (q : Check). b.own_word at class q.name) p.checks) (map (λ (q : CheckedMember). b.local q.word) p.members)
      (own-cores w at class words scope g.checks (checks-free scope gs h) checks-are)
      (word-cores w at class words scope g.members k)

  total : (scope : Scope) → St scope in-sums → Lf scope left-total
      → D scope (t.total_local at g ∷ []) (b.total_local at class p ∷ []) in-total left-uneven
  total scope h l =
      declares-one w at class words g.total
      (t.joined at op.BitXor (made.variable at g.parity) (t.word_names g.checks g.members))
      (b.joined at op.BitXor (b.own_word at class p.parity) (b.all_words at class p)) in-sums scope left-uneven h l
      (value-joined w at class words op.BitXor sign-xor scope (made.variable at g.parity)
      (b.own_word at class p.parity) (t.word_names g.checks g.members) (b.all_words at class p)
      (core-own w at class words scope g.parity (parity-free scope in-sums h) parity-is)
      (all-words scope in-sums h h.0.1.0))

  -- ---- of two check words at least

  module _ (two : 2 ≤ length g.checks) where
    uneven : (scope : Scope) → St scope in-total → Lf scope left-uneven
        → D scope (t.uneven_local at g ∷ []) (b.uneven_local at class p ∷ []) in-uneven left-members
    uneven scope h l =
        declares-one w at class words g.uneven (t.all_joined at op.BitOr (t.sum_names g.checks))
        (b.all_joined at op.BitOr (map (λ (q : Check). b.local q.sum) p.checks)) in-total scope left-members h l
        (value-all-joined w at class words op.BitOr sign-or scope (t.sum_names g.checks)
        (map (λ (q : Check). b.local q.sum) p.checks)
        (subst (λ n. 2 ≤ n) (sym (length-map g.checks (λ (x : CheckWord). x.sum))) two)
        (sum-cores w at class words scope g.checks h.0.1.0))

    sum-locals : D [] (t.sum_locals at g) (b.sum_locals at class p) in-uneven left-members
    sum-locals =
        declares-both w at class words [] (map (t.extend at) g.members)
        (map (t.sum_local at g) g.checks ++ t.total_local at g ∷ t.uneven_local at g ∷ [])
        (map (b.extend at class) p.members)
        (map (b.sum_local at class p) p.checks ++ b.total_local at class p ∷ b.uneven_local at class p ∷ []) in-words
        in-uneven left-sums left-members extends (λ s1 h1 l1.
        declares-both w at class words s1 (map (t.sum_local at g) g.checks)
        (t.total_local at g ∷ t.uneven_local at g ∷ []) (map (b.sum_local at class p) p.checks)
        (b.total_local at class p ∷ b.uneven_local at class p ∷ []) in-sums in-uneven left-total left-members
        (sums s1 h1 l1) (λ s2 h2 l2.
        declares-both w at class words s2 (t.total_local at g ∷ []) (t.uneven_local at g ∷ [])
        (b.total_local at class p ∷ []) (b.uneven_local at class p ∷ []) in-total in-uneven left-uneven left-members
        (total s2 h2 l2) uneven))

    fault-value : (scope : Scope) → St scope in-uneven → (position : ℕ)
        → Value w at class words scope (t.fault_at at g position) (b.fault_at at class p position)
    fault-value scope h position =
        matched-some w at class words scope (made.variable at g.total) (b.local g.total.0) position g.checks
        (omega (arith, two)) (core-local w at class words scope g.total h.0.1.0.0) h.0.1.1.0

    members-faults : (scope : Scope) → St scope in-uneven → Lf scope left-members
        → D scope (map (t.member_fault at g) g.members) (map (b.member_fault at class p) p.members) in-members
        left-checks
    members-faults scope h l =
        declares-all w at class words member_of (λ (q : CheckedMember). q.fault)
        (λ m. t.masked at (mask_of (unsigned_of m.member)) (t.fault_at at g m.position))
        (λ q. b.masked at (mask_of (kind_of q)) (b.fault_at at class p q.position)) g.members in-uneven scope
        left-checks h l (member-faults-later w at class words g in-uneven fault-value g.members)

    checks-faults : (scope : Scope) → St scope in-members → Lf scope left-checks
        → D scope (map (t.check_fault at g) g.checks) (map (b.check_fault at class p) p.checks) in-checks left-beyond
    checks-faults scope h l =
        declares-all w at class words form.check_of (λ (q : Check). q.fault) (λ x. t.fault_at at g x.position)
        (λ q. b.fault_at at class p q.position) g.checks in-members scope left-beyond h l
        (check-faults-later w at class words g in-members (λ next k. fault-value next (k.0.1, k.1)) g.checks)

    abbrev some_fault : ExprTree
    some_fault = t.all_joined at op.BitOr (t.fault_names g.checks g.members)

    abbrev some_fault_core : CoreExpr
    some_fault_core = b.all_joined at op.BitOr (b.all_faults at class p)

    beyond : (scope : Scope) → St scope in-checks → Lf scope left-beyond
        → D scope (t.beyond_local at g ∷ []) (b.beyond_local at class p ∷ []) in-all []
    beyond scope h l =
        declares-one w at class words g.beyond
        (made.binary at op.BitAnd (made.variable at g.uneven) (made.unary at un.Complement (made.paren at some_fault)))
        (b.both at op.BitAnd (b.local g.uneven.0) (b.inverted at some_fault_core)) in-checks scope [] h l
        (core-binary w at class words op.BitAnd sign-and scope (made.variable at g.uneven)
        (made.unary at un.Complement (made.paren at some_fault)) (b.local g.uneven.0) (b.inverted at some_fault_core)
        (core-local w at class words scope g.uneven h.0.1.1.0.0)
        (core-inverted w at class words scope (made.paren at some_fault) some_fault_core
        (core-all-joined w at class words op.BitOr sign-or scope (t.fault_names g.checks g.members)
        (b.all_faults at class p)
        (cores-both w at class words scope (map (λ (m : MemberWord). m.fault) g.members)
        (map (λ (x : CheckWord). x.fault) g.checks) (map (λ (q : CheckedMember). b.local q.fault) p.members)
        (map (λ (q : Check). b.local q.fault) p.checks)
        (member-fault-cores w at class words scope g.members h.0.1.0)
        (check-fault-cores w at class words scope g.checks h.0.0)))))

    stops : (scope : Scope) → St scope in-all → Lf scope []
        → D scope (t.stop_beyond at g ∷ []) (b.stop_beyond at class p ∷ []) in-all []
    stops scope h l = record {
      after = scope;
      comes = λ more. ap (λ e. cs.more_stmts (cs.branch e (cs.more_stmts cs.abort cs.no_stmts) cs.no_stmts)
          (core_stmts w scope (s.listed_stmts more)))
          (ap (λ e. binary_as at op.NotEqual e (b.number 0)) (core-local w at class words scope g.beyond h.0.0.0).0);
      stand = h;
      left = l;
    }

    fault-locals : (scope : Scope) → St scope in-uneven → Lf scope left-members
        → D scope (t.fault_locals at g) (b.fault_locals at class p) in-all []
    fault-locals scope h l =
        declares-both w at class words scope (map (t.member_fault at g) g.members)
        (map (t.check_fault at g) g.checks ++ t.beyond_local at g ∷ t.stop_beyond at g ∷ [])
        (map (b.member_fault at class p) p.members)
        (map (b.check_fault at class p) p.checks ++ b.beyond_local at class p ∷ b.stop_beyond at class p ∷ [])
        in-members in-all left-checks [] (members-faults scope h l) (λ s1 h1 l1.
        declares-both w at class words s1 (map (t.check_fault at g) g.checks)
        (t.beyond_local at g ∷ t.stop_beyond at g ∷ []) (map (b.check_fault at class p) p.checks)
        (b.beyond_local at class p ∷ b.stop_beyond at class p ∷ []) in-checks in-all left-beyond []
        (checks-faults s1 h1 l1) (λ s2 h2 l2.
        declares-both w at class words s2 (t.beyond_local at g ∷ []) (t.stop_beyond at g ∷ [])
        (b.beyond_local at class p ∷ []) (b.stop_beyond at class p ∷ []) in-all in-all [] [] (beyond s2 h2 l2) stops))

    mends : (scope : Scope) → St scope in-all → Comes w at class words scope (t.mends at g) scope (b.mends at class p)
    mends scope h =
        comes-both w at class words scope scope scope (map (t.mend_member at) g.members)
        (map (t.mend_check at) g.checks ++ t.mend_parity at g ∷ []) (map (b.mend_member at class) p.members)
        (map (b.mend_check at class) p.checks ++ b.mend_parity at class p ∷ [])
        (assigns-all w at class words member_of (λ (q : CheckedMember). q.member) (λ m. t.differing at m.word m.fault)
        (λ q. b.differing at (b.local q.word) (b.local q.fault)) scope g.members
        (mend-members-put w at class words scope g.members (members-free scope in-all h) members-are
        h.0.1.1.1.1.1.1.0 h.0.1.1.0))
        (comes-both w at class words scope scope scope (map (t.mend_check at) g.checks) (t.mend_parity at g ∷ [])
        (map (b.mend_check at class) p.checks) (b.mend_parity at class p ∷ [])
        (assigns-all w at class words form.check_of b.check_of (λ x. t.differing at x.name x.fault)
        (λ q. b.differing at (b.own_word at class q.name) (b.local q.fault)) scope g.checks
        (mend-checks-put w at class words scope g.checks (checks-free scope in-all h) checks-are h.0.1.0))
        (assigns-one w at class words (word_of p.parity)
        (made.binary at op.BitXor (made.variable at g.parity)
        (made.paren at (made.binary at op.BitAnd (made.variable at g.total) (t.inverted at g.uneven))))
        (b.both at op.BitXor (b.own_word at class p.parity)
        (b.both at op.BitAnd (b.local p.total) (b.inverted at (b.local p.uneven)))) scope
        (parity-free scope in-all h) parity-is
        (core-binary w at class words op.BitXor sign-xor scope (made.variable at g.parity)
        (made.paren at (made.binary at op.BitAnd (made.variable at g.total) (t.inverted at g.uneven)))
        (b.own_word at class p.parity) (b.both at op.BitAnd (b.local p.total) (b.inverted at (b.local p.uneven)))
        (core-own w at class words scope g.parity (parity-free scope in-all h) parity-is).0
        (core-binary w at class words op.BitAnd sign-and scope (made.variable at g.total) (t.inverted at g.uneven)
        (b.local p.total) (b.inverted at (b.local p.uneven))
        (core-local w at class words scope g.total h.0.1.1.1.1.0.0)
        (core-inverted w at class words scope (made.variable at g.uneven) (b.local p.uneven)
        (core-local w at class words scope g.uneven h.0.1.1.1.0.0))).0).0.0))

    repair-core : core_stmts w [] (s.listed_stmts (t.repair_words at g)) ≡ repair_block at class p
    repair-core =
        let one = sum-locals in
        let two = fault-locals one.after one.stand one.left in
        let trees = t.sum_locals at g ++ (t.fault_locals at g ++ t.mends at g) in
        let stmts = b.sum_locals at class p ++ (b.fault_locals at class p ++ b.mends at class p) in
        ap (λ l. core_stmts w [] (s.listed_stmts l)) (sym (append-nil trees))
        ∙ comes-both w at class words [] one.after two.after (t.sum_locals at g) (t.fault_locals at g ++ t.mends at g)
        (b.sum_locals at class p) (b.fault_locals at class p ++ b.mends at class p) one.comes
        (comes-both w at class words one.after two.after two.after (t.fault_locals at g) (t.mends at g)
        (b.fault_locals at class p) (b.mends at class p) two.comes (mends two.after two.stand)) []
        ∙ put-all stmts

  renew-core : core_stmts w [] (s.listed_stmts (t.renew_words at g)) ≡ renew_block at class p
  renew-core =
      let one = extends in
      let h = one.stand in
      let trees = map (t.extend at) g.members ++ (map (t.renew_check at g) g.checks ++ t.renew_parity at g ∷ []) in
      let stmts =
      map (b.extend at class) p.members
      ++ (map (b.renew_check at class p) p.checks ++ b.renew_parity at class p ∷ []) in
      ap (λ l. core_stmts w [] (s.listed_stmts l)) (sym (append-nil trees))
      ∙ comes-both w at class words [] one.after one.after (map (t.extend at) g.members)
      (map (t.renew_check at g) g.checks ++ t.renew_parity at g ∷ []) (map (b.extend at class) p.members)
      (map (b.renew_check at class p) p.checks ++ b.renew_parity at class p ∷ []) one.comes
      (comes-both w at class words one.after one.after one.after (map (t.renew_check at g) g.checks)
      (t.renew_parity at g ∷ []) (map (b.renew_check at class p) p.checks) (b.renew_parity at class p ∷ [])
      (assigns-all w at class words form.check_of b.check_of
      (λ x. t.all_joined at op.BitXor (t.covered x.position g.members))
      (λ q. b.all_joined at op.BitXor (b.covered at q.position p.members)) one.after g.checks
      (renew-checks-put w at class words g one.after g.checks (checks-free one.after in-words h) checks-are h.0.0))
      (assigns-one w at class words (word_of p.parity)
      (t.all_joined at op.BitXor (t.word_names g.checks g.members))
      (b.all_joined at op.BitXor (b.all_words at class p)) one.after (parity-free one.after in-words h) parity-is
      (core-all-joined w at class words op.BitXor sign-xor one.after (t.word_names g.checks g.members)
      (b.all_words at class p) (all-words one.after in-words h h.0.0)).0)) []
      ∙ put-all stmts

-- ---- positions

member-positions : (names : List (List ℕ)) (i q : ℕ) (ms : List Member)
    → map (λ (m : CheckedMember). m.position) (map member_of (gen.member_words names i q ms))
    ≡ positions_from q (length (map member_of (gen.member_words names i q ms)))
member-positions names i q [] = refl
member-positions names i q (m ∷ ms) = ap (λ l. q ∷ l) (member-positions names (suc i) (next_position q) ms)

members-long : (names : List (List ℕ)) (i q : ℕ) (ms : List Member)
    → length (map member_of (gen.member_words names i q ms)) ≡ length ms
members-long names i q [] = refl
members-long names i q (m ∷ ms) = ap (λ n. suc n) (members-long names (suc i) (next_position q) ms)

check-positions : (names : List (List ℕ)) (class : NameId) (j n : ℕ)
    → map (λ (x : Check). x.position) (map form.check_of (map (gen.check_word names class) (range_with_len j n)))
    ≡ map (λ i. 2 ^ i) (range_with_len j n)
check-positions names class j zero = refl
check-positions names class j (suc n) = ap (λ l. 2 ^ j ∷ l) (check-positions names class (j + 1) n)

checks-long : (names : List (List ℕ)) (class : NameId) (j n : ℕ)
    → length (map (gen.check_word names class) (range_with_len j n)) ≡ n
checks-long names class j zero = refl
checks-long names class j (suc n) = ap (λ m. suc m) (checks-long names class (j + 1) n)

two-checks : (k r : ℕ) → 0 < k → k + r + 1 ≤ 2 ^ r → 2 ≤ r
two-checks k zero l h = absurd (omega arith)
two-checks k (suc zero) l h = absurd (omega arith)
two-checks k (suc (suc r)) l h = omega arith

pub hamming-elaborates : HammingElaborates
hamming-elaborates = record {
  repair = λ names w class p some found.
      repair-core w (place_of p) class (gen.part_words names p)
      (all-each (IsMember w (place_of p) class) (part_words (named_part names p)) found.words)
      (pairs-apart (local_names (named_part names p)) found.locals)
      (each-as _ _ (λ n h. all-each (λ (v : CoreWord). v.name ≢ n) (part_words (named_part names p)) h)
      (local_names (named_part names p)) (all-each _ (local_names (named_part names p)) found.apart))
      (subst (λ n. 2 ≤ n) (sym (checks-long names p.class.item 0 (check_words (length p.members))))
      (two-checks (length p.members) (check_words (length p.members)) some (check-enough (length p.members))));
  renew = λ names w class p found.
      renew-core w (place_of p) class (gen.part_words names p)
      (all-each (IsMember w (place_of p) class) (part_words (named_part names p)) found.words)
      (pairs-apart (local_names (named_part names p)) found.locals)
      (each-as _ _ (λ n h. all-each (λ (v : CoreWord). v.name ≢ n) (part_words (named_part names p)) h)
      (local_names (named_part names p)) (all-each _ (local_names (named_part names p)) found.apart));
  part = λ names p differ. record {
    members = member-positions names 1 3 p.members;
    checks = check-positions names p.class.item 0 (check_words (length p.members))
        ∙ ap (λ k. map (λ i. 2 ^ i) (range_with_len 0 (check_words k))) (sym (members-long names 1 3 p.members));
    locals = differ;
  };
}
