-- The bodies that repair and renew check words violate no rule.
use Rattle.std.proofs.Common.{◌≡◌, ◌≢◌, refl, ap, ◌∙◌, ℕ, ◌+◌, Bool, true, false, if◌then◌else◌, List, [], ◌∷◌, ◌++◌, map, Option, Some, None, option_map, append_assoc, subst, sym}
use Rattle.agxx_base.specs.declared.ids.NameId.{NameId}
use Rattle.agxx_base.specs.declared.kind.NumKind.TheVariants as num
use Rattle.agxx_base.specs.declared.place.Place.{Place}
use Rattle.cxx_tree.specs.declared.operator.BinOp.{BinOp}
use Rattle.cxx_tree.specs.declared.operator.BinOp.TheVariants as op
use Rattle.cxx_tree.specs.declared.operator.UnOp.TheVariants as un
use Rattle.cxx_tree.specs.Limits.{Every}
use Rattle.cxx_tree.specs.ExprTree.{ExprTree}
use Rattle.cxx_tree.specs.StmtTree as st
use Rattle.cxx_tree.specs.StmtTree.{StmtTree, listed_stmts}
use Rattle.cxx_names.specs.declared.types.ValueType.TheVariants as value
use Rattle.cxx_names.specs.declared.types.Thing.{Thing}
use Rattle.cxx_names.specs.declared.types.Thing.TheVariants as thing
use Rattle.cxx_names.specs.declared.types.Variable.TheVariants as variable_of
use Rattle.cxx_names.specs.Declarations.{class_named}
use Rattle.cxx_names.specs.LookUp as look
use Rattle.cxx_names.specs.Tables.{named, with_name}
use Rattle.cxx_rules.specs.Sites.{Site}
use Rattle.cxx_rules.specs.Forms as form
use Rattle.cxx_rules.specs.StmtForms as f
use Rattle.cxx_make.specs.Made as made
use Rattle.codec.specs.Part.{unsigned_of}
use Rattle.hamming_gen.specs.HammingTrees as h
use Rattle.hamming_gen.specs.declared.words.MemberWord.{MemberWord}
use Rattle.hamming_gen.specs.declared.words.CheckWord.{CheckWord}
use Rattle.hamming_gen.specs.declared.words.PartWords.{PartWords}
use Rattle.woven_rules.proofs.Tables.{named-new, named-other, named-still}
use Rattle.woven_rules.proofs.Right.{Rights, joined}
use Rattle.woven_rules.proofs.Keys.{every-both}
use Rattle.woven_rules.proofs.Numeric.{HoldsNumber, IsNumeric, numeric, assigned, assign-right, declared, local-right}
use Rattle.protect_laws.proofs.Known.{every-mapped, every-by}

-- a local for a word
abbrev pub word_thing : Thing
word_thing = thing.Value (value.Number num.U64)

-- names of which none stands twice
abbrev pub Apart : List NameId → Type 0
Apart [] = Unit {0}
Apart (n ∷ ns) = Every (λ (m : NameId). m.0 ≢ n.0) ns × Apart ns

-- the locals of repair, in the order in which they are declared
abbrev pub fault_locals_of : PartWords → List NameId
fault_locals_of words =
    map (λ (m : MemberWord). m.fault) words.members
    ++ (map (λ (c : CheckWord). c.fault) words.checks ++ words.beyond ∷ [])

abbrev pub locals_of : PartWords → List NameId
locals_of words =
    map (λ (m : MemberWord). m.word) words.members
    ++ (map (λ (c : CheckWord). c.sum) words.checks ++ (words.total ∷ words.uneven ∷ fault_locals_of words))

-- At a place of functions of a class, where names in use stand for variables that hold numbers, unless a local hides
-- them.
module _ (w : Site) (place : Place) (Use : NameId → Type 0)
    (use-number : (j : NameId) → Use j → (t : List (ℕ × Thing)) → named t j.0 ≡ None → (l r : ℕ)
    → HoldsNumber (record w { scope = t; locals = l; returns = r }) (made.ref place j)) where
  abbrev At : List (ℕ × Thing) → ℕ → ℕ → Site
  At t l r = record w { scope = t; locals = l; returns = r }

  -- statements violate no rule where these locals are in scope
  abbrev pub AreRight : List (ℕ × Thing) → List StmtTree → Type 0
  AreRight t ts = (l r : ℕ) → Rights (f.forms_of_stmts (At t l r) true (listed_stmts ts))

  -- ---- variables

  abbrev Has : List (ℕ × Thing) → NameId → Type 0
  Has t n = (l r : ℕ) → HoldsNumber (At t l r) (made.ref place n)

  abbrev IsLocal : List (ℕ × Thing) → NameId → Type 0
  IsLocal t n = named t n.0 ≡ Some word_thing

  local-has : (t : List (ℕ × Thing)) (n : NameId) → IsLocal t n → Has t n
  local-has t n is l r = (
    num.U64,
    record {
      var = variable_of.Local word_thing;
      is =
          ap (λ o. look.or_next (option_map variable_of.Local o)
          (look.or_next (look.member_variable w.declared w.context.class n.0) (look.global_variable w.declared n.0)))
          is;
      usable = refl;
      what = refl;
    },
  )

  abbrev Uses : List (ℕ × Thing) → Type 0
  Uses t = (j : NameId) → Use j → named t j.0 ≡ None

  use-has : (t : List (ℕ × Thing)) → Uses t → (j : NameId) → Use j → Has t j
  use-has t uses j is l r = use-number j is t (uses j is) l r

  abbrev Grows : List (ℕ × Thing) → List (ℕ × Thing) → Type 0
  Grows t u = (n : NameId) → IsLocal t n → IsLocal u n

  -- a name that may be a local's
  abbrev pub IsGood : NameId → Type 0
  IsGood n = (class_named w.declared n.0 ≡ None) × ((j : NameId) → Use j → j.0 ≢ n.0)

  -- what is in scope where locals of these names are still to be declared
  pub record Scope (t : List (ℕ × Thing)) (todo : List NameId) : Type 0 where
    pub uses : Uses t
    pub free : Every (λ (n : NameId). named t n.0 ≡ None) todo
    pub apart : Apart todo
    pub good : Every IsGood todo

  still-free : (t : List (ℕ × Thing)) (n : NameId) (ns : List NameId) → Every (λ (m : NameId). m.0 ≢ n.0) ns
      → Every (λ (m : NameId). named t m.0 ≡ None) ns
      → Every (λ (m : NameId). named (with_name t n.0 word_thing) m.0 ≡ None) ns
  still-free t n [] apart free = tt
  still-free t n (m ∷ ns) apart free =
      (named-other t n.0 word_thing m.0 apart.0 ∙ free.0, still-free t n ns apart.1 free.1)

  declared-scope : (t : List (ℕ × Thing)) (n : NameId) (todo : List NameId) → Scope t (n ∷ todo)
      → Scope (with_name t n.0 word_thing) todo
  declared-scope t n todo scope = record {
    uses = λ j is. named-other t n.0 word_thing j.0 (scope.good.0.1 j is) ∙ scope.uses j is;
    free = still-free t n todo scope.apart.0 scope.free.1;
    apart = scope.apart.1;
    good = scope.good.1;
  }

  -- ---- expressions

  abbrev IsNum : List (ℕ × Thing) → ExprTree → Type 0
  IsNum t x = (l r : ℕ) → IsNumeric (At t l r) x

  module _ (t : List (ℕ × Thing)) where
    joined-num : (o : BinOp) (first : ExprTree) (ns : List NameId) → IsNum t first → Every (Has t) ns
        → IsNum t (h.joined place o first ns)
    joined-num o first [] is all = is
    joined-num o first (n ∷ ns) is all =
        joined-num o (made.binary place o first (made.variable place n)) ns (λ l r. (is l r, all.0 l r)) all.1

    all-joined-num : (o : BinOp) (ns : List NameId) → Every (Has t) ns → IsNum t (h.all_joined place o ns)
    all-joined-num o [] all = λ l r. tt
    all-joined-num o (n ∷ ns) all = joined-num o (made.variable place n) ns all.0 all.1

    agreeing-num : (position : ℕ) (c : CheckWord) → Has t c.sum → IsNum t (h.agreeing place position c)
    agreeing-num position c has = by (h.covers c.position position)
      where
        by : (b : Bool) → IsNum t (if b then made.variable place c.sum else h.inverted place c.sum)
        by true = has
        by false = has

    matched-num : (first : ExprTree) (position : ℕ) (cs : List CheckWord) → IsNum t first
        → Every (λ (c : CheckWord). Has t c.sum) cs → IsNum t (h.matched place first position cs)
    matched-num first position [] is all = is
    matched-num first position (c ∷ cs) is all =
        matched-num (made.binary place op.BitAnd first (h.agreeing place position c)) position cs
        (λ l r. (is l r, agreeing-num position c all.0 l r)) all.1

    masked-num : (mask : Option ℕ) (x : ExprTree) → IsNum t x → IsNum t (h.masked place mask x)
    masked-num None x is = is
    masked-num (Some mask) x is = λ l r. (is l r, tt)

    covered-has : (power : ℕ) (ms : List MemberWord) → Every (λ (m : MemberWord). Has t m.word) ms
        → Every (Has t) (h.covered power ms)
    covered-has power [] all = tt
    covered-has power (m ∷ ms) all = by (h.covers power m.position) (covered-has power ms all.1)
      where
        by : (b : Bool) → Every (Has t) (h.covered power ms)
            → Every (Has t) (if b then m.word ∷ h.covered power ms else h.covered power ms)
        by true rest = (all.0, rest)
        by false rest = rest

  -- ---- statements one after another

  declare-then : (t : List (ℕ × Thing)) (n : NameId) (x : ExprTree) (ts : List StmtTree) (todo : List NameId)
      → Scope t (n ∷ todo) → IsNum t x
      → ((u : List (ℕ × Thing)) → Grows t u → IsLocal u n → Scope u todo → AreRight u ts)
      → AreRight t (h.word_local place n x ∷ ts)
  declare-then t n x ts todo scope is later l r =
      let u = with_name t n.0 word_thing in
      joined (f.forms_of_local (At t l r) (declared (At t l r) place num.U64 n x))
      (f.forms_of_stmts (At u (l + 1) (r + 0)) true (listed_stmts ts))
      (local-right (At t l r) place num.U64 n x scope.free.0 scope.good.0.0 (is l r))
      (later u (λ m held. named-still t n.0 word_thing m.0 word_thing held) (named-new t n.0 word_thing scope.free.0)
      (declared-scope t n todo scope) (l + 1) (r + 0))

  locals-then : {A : Type 0} (name : A → NameId) (x : A → ExprTree) (xs : List A) (ts : List StmtTree)
      (todo : List NameId) (t : List (ℕ × Thing)) → Scope t (map name xs ++ todo)
      → Every (λ a. (u : List (ℕ × Thing)) → Grows t u → Uses u → IsNum u (x a)) xs
      → ((u : List (ℕ × Thing)) → Grows t u → Every (λ a. IsLocal u (name a)) xs → Scope u todo → AreRight u ts)
      → AreRight t (map (λ a. h.word_local place (name a) (x a)) xs ++ ts)
  locals-then name x [] ts todo t scope numbers later = later t (λ n is. is) tt scope
  locals-then {A = A} name x (a ∷ xs) ts todo t scope numbers later =
      declare-then t (name a) (x a) (map (λ a. h.word_local place (name a) (x a)) xs ++ ts) (map name xs ++ todo)
      scope (numbers.0 t (λ n is. is) scope.uses)
      (λ u grows here inner. locals-then name x xs ts todo u inner
      (every-by (λ (b : A). (v : List (ℕ × Thing)) → Grows t v → Uses v → IsNum v (x b))
      (λ (b : A). (v : List (ℕ × Thing)) → Grows u v → Uses v → IsNum v (x b))
      (λ b number v more uses. number v (λ n is. more n (grows n is)) uses) xs numbers.1)
      (λ v more all last. later v (λ n is. more n (grows n is)) (more (name a) here, all) last))

  assign-then : (t : List (ℕ × Thing)) (n : NameId) (x : ExprTree) (ts : List StmtTree) → Has t n → IsNum t x
      → AreRight t ts → AreRight t (made.assign place n x ∷ ts)
  assign-then t n x ts has is later l r =
      joined (f.forms_of_simple (At t l r) (st.assign (assigned (At t l r) place n x)))
      (f.forms_of_stmts (At t (l + 0) (r + 0)) true (listed_stmts ts))
      (assign-right (At t l r) place n x (has l r) (is l r)) (later (l + 0) (r + 0))

  assigns-then : {A : Type 0} (name : A → NameId) (x : A → ExprTree) (xs : List A) (ts : List StmtTree)
      (t : List (ℕ × Thing)) → Every (λ a. Has t (name a) × IsNum t (x a)) xs → AreRight t ts
      → AreRight t (map (λ a. made.assign place (name a) (x a)) xs ++ ts)
  assigns-then name x [] ts t all later = later
  assigns-then name x (a ∷ xs) ts t all later =
      assign-then t (name a) (x a) (map (λ a. made.assign place (name a) (x a)) xs ++ ts) all.0.0 all.0.1
      (assigns-then name x xs ts t all.1 later)

  stop-then : (words : PartWords) (ts : List StmtTree) (t : List (ℕ × Thing)) → IsLocal t words.beyond → AreRight t ts
      → AreRight t (h.stop_beyond place words ∷ ts)
  stop-then words ts t is later l r =
      let condition =
      made.binary place op.NotEqual (made.variable place words.beyond) (made.number place num.U64 0) in
      joined (form.forms_of (At t l r) condition ++ [])
      (f.forms_of_stmts (At t (l + f.locals_in (h.stop_beyond place words))
      (r + f.returns_in (h.stop_beyond place words))) true (listed_stmts ts))
      (joined (form.forms_of (At t l r) condition) []
      (numeric (At t l r) condition (local-has t words.beyond is l r, tt)).0 tt)
      (later (l + f.locals_in (h.stop_beyond place words)) (r + f.returns_in (h.stop_beyond place words)))

  -- ---- the words of a part

  module _ (words : PartWords) where
    abbrev ms : List MemberWord
    ms = words.members

    abbrev cs : List CheckWord
    cs = words.checks

    module _ (members : Every (λ (m : MemberWord). Use m.member.name.item) ms)
        (checks : Every (λ (c : CheckWord). Use c.name) cs) (parity : Use words.parity) where
      abbrev LocalWords : List (ℕ × Thing) → Type 0
      LocalWords t = Every (λ (m : MemberWord). IsLocal t m.word) ms

      abbrev LocalSums : List (ℕ × Thing) → Type 0
      LocalSums t = Every (λ (c : CheckWord). IsLocal t c.sum) cs

      words-has : (t : List (ℕ × Thing)) → LocalWords t → Every (λ (m : MemberWord). Has t m.word) ms
      words-has t all =
          every-by (λ (m : MemberWord). IsLocal t m.word) (λ (m : MemberWord). Has t m.word)
          (λ m is. local-has t m.word is) ms all

      sums-has : (t : List (ℕ × Thing)) → LocalSums t → Every (λ (c : CheckWord). Has t c.sum) cs
      sums-has t all =
          every-by (λ (c : CheckWord). IsLocal t c.sum) (λ (c : CheckWord). Has t c.sum)
          (λ c is. local-has t c.sum is) cs all

      grown-words : (t u : List (ℕ × Thing)) → Grows t u → LocalWords t → LocalWords u
      grown-words t u grows all =
          every-by (λ (m : MemberWord). IsLocal t m.word) (λ (m : MemberWord). IsLocal u m.word)
          (λ m is. grows m.word is) ms all

      grown-sums : (t u : List (ℕ × Thing)) → Grows t u → LocalSums t → LocalSums u
      grown-sums t u grows all =
          every-by (λ (c : CheckWord). IsLocal t c.sum) (λ (c : CheckWord). IsLocal u c.sum) (λ c is. grows c.sum is)
          cs all

      names-has : (t : List (ℕ × Thing)) → Uses t → LocalWords t → Every (Has t) (h.word_names cs ms)
      names-has t uses all =
          every-both (Has t) (h.check_names cs) (map (λ (m : MemberWord). m.word) ms)
          (every-mapped (Has t) (λ (c : CheckWord). c.name) cs
          (every-by (λ (c : CheckWord). Use c.name) (λ (c : CheckWord). Has t c.name)
          (λ c is. use-has t uses c.name is) cs checks))
          (every-mapped (Has t) (λ (m : MemberWord). m.word) ms (words-has t all))

      -- ---- mending

      abbrev mended_parity : ExprTree
      mended_parity =
          made.binary place op.BitXor (made.variable place words.parity)
          (made.paren place (made.binary place op.BitAnd (made.variable place words.total)
          (h.inverted place words.uneven)))

      mends-right : (t : List (ℕ × Thing)) → Uses t → LocalWords t → Every (λ (m : MemberWord). IsLocal t m.fault) ms
          → Every (λ (c : CheckWord). IsLocal t c.fault) cs → IsLocal t words.total → IsLocal t words.uneven
          → AreRight t (h.mends place words)
      mends-right t uses local member_faults check_faults total uneven =
          assigns-then (λ (m : MemberWord). m.member.name.item) (λ (m : MemberWord). h.differing place m.word m.fault)
          ms (map (h.mend_check place) cs ++ h.mend_parity place words ∷ []) t
          (of-members ms members local member_faults)
          (assigns-then (λ (c : CheckWord). c.name) (λ (c : CheckWord). h.differing place c.name c.fault) cs
          (h.mend_parity place words ∷ []) t (of-checks cs checks check_faults)
          (assign-then t words.parity mended_parity [] (use-has t uses words.parity parity)
          (λ l r. (
            use-has t uses words.parity parity l r,
            (local-has t words.total total l r, local-has t words.uneven uneven l r),
          )) (λ l r. tt)))
        where
          of-members : (xs : List MemberWord) → Every (λ (m : MemberWord). Use m.member.name.item) xs
              → Every (λ (m : MemberWord). IsLocal t m.word) xs → Every (λ (m : MemberWord). IsLocal t m.fault) xs
              → Every (λ (m : MemberWord). Has t m.member.name.item × IsNum t (h.differing place m.word m.fault)) xs
          of-members [] used one two = tt
          of-members (m ∷ xs) used one two = (
            (
              use-has t uses m.member.name.item used.0,
              λ l r.
                  (local-has t m.word one.0 l r, local-has t m.fault two.0 l r),
            ),
            of-members xs used.1 one.1 two.1,
          )

          of-checks : (xs : List CheckWord) → Every (λ (c : CheckWord). Use c.name) xs
              → Every (λ (c : CheckWord). IsLocal t c.fault) xs
              → Every (λ (c : CheckWord). Has t c.name × IsNum t (h.differing place c.name c.fault)) xs
          of-checks [] used two = tt
          of-checks (c ∷ xs) used two = (
            (
              use-has t uses c.name used.0,
              λ l r.
                  (use-has t uses c.name used.0 l r, local-has t c.fault two.0 l r),
            ),
            of-checks xs used.1 two.1,
          )

      -- ---- faults

      fault-num : (t : List (ℕ × Thing)) → LocalSums t → IsLocal t words.total → (position : ℕ)
          → IsNum t (h.fault_at place words position)
      fault-num t sums total position =
          matched-num t (made.variable place words.total) position cs (local-has t words.total total)
          (sums-has t sums)

      abbrev beyond_value : ExprTree
      beyond_value =
          made.binary place op.BitAnd (made.variable place words.uneven)
          (made.unary place un.Complement (made.paren place (h.all_joined place op.BitOr (h.fault_names cs ms))))

      abbrev last_faults : List StmtTree
      last_faults = h.beyond_local place words ∷ h.stop_beyond place words ∷ h.mends place words

      abbrev faulty : List StmtTree
      faulty =
          map (h.member_fault place words) ms
          ++ (map (h.check_fault place words) cs
          ++ (h.beyond_local place words ∷ h.stop_beyond place words ∷ h.mends place words))

      faults-right : (t : List (ℕ × Thing)) → LocalWords t → LocalSums t → IsLocal t words.total
          → IsLocal t words.uneven → Scope t (fault_locals_of words) → AreRight t faulty
      faults-right t local sums total uneven scope =
          locals-then (λ (m : MemberWord). m.fault)
          (λ (m : MemberWord). h.masked place (h.mask_of (unsigned_of m.member))
          (h.fault_at place words m.position)) ms (map (h.check_fault place words) cs ++ last_faults)
          (map (λ (c : CheckWord). c.fault) cs ++ words.beyond ∷ []) t scope
          (each-member ms)
          (λ u grows member_faults inner. locals-then (λ (c : CheckWord). c.fault)
          (λ (c : CheckWord). h.fault_at place words c.position) cs last_faults (words.beyond ∷ []) u inner
          (each-check u grows cs)
          (λ v more check_faults last. declare-then v words.beyond beyond_value
          (h.stop_beyond place words ∷ h.mends place words) [] last
          (beyond-num v (more words.uneven (grows words.uneven uneven))
          (every-by (λ (m : MemberWord). IsLocal u m.fault) (λ (m : MemberWord). Has v m.fault)
          (λ m is. local-has v m.fault (more m.fault is)) ms member_faults)
          (every-by (λ (c : CheckWord). IsLocal v c.fault) (λ (c : CheckWord). Has v c.fault)
          (λ c is. local-has v c.fault is) cs check_faults))
          (λ z most beyond end. stop-then words (h.mends place words) z beyond
          (mends-right z end.uses (grown-words t z (λ n is. most n (more n (grows n is))) local)
          (every-by (λ (m : MemberWord). IsLocal u m.fault) (λ (m : MemberWord). IsLocal z m.fault)
          (λ m is. most m.fault (more m.fault is)) ms member_faults)
          (every-by (λ (c : CheckWord). IsLocal v c.fault) (λ (c : CheckWord). IsLocal z c.fault)
          (λ c is. most c.fault is) cs check_faults)
          (most words.total (more words.total (grows words.total total)))
          (most words.uneven (more words.uneven (grows words.uneven uneven)))))))
        where
          each-member : (xs : List MemberWord)
              → Every (λ (m : MemberWord). (u : List (ℕ × Thing)) → Grows t u → Uses u
              → IsNum u (h.masked place (h.mask_of (unsigned_of m.member)) (h.fault_at place words m.position))) xs
          each-member [] = tt
          each-member (m ∷ xs) = (
            (λ u grows uses. masked-num u (h.mask_of (unsigned_of m.member)) (h.fault_at place words m.position)
                (fault-num u (grown-sums t u grows sums) (grows words.total total) m.position)),
            each-member xs,
          )

          each-check : (u : List (ℕ × Thing)) → Grows t u → (xs : List CheckWord)
              → Every (λ (c : CheckWord). (v : List (ℕ × Thing)) → Grows u v → Uses v
              → IsNum v (h.fault_at place words c.position)) xs
          each-check u grows [] = tt
          each-check u grows (c ∷ xs) = (
            (λ v more uses. fault-num v (grown-sums t v (λ n is. more n (grows n is)) sums)
                (more words.total (grows words.total total)) c.position),
            each-check u grows xs,
          )

          beyond-num : (v : List (ℕ × Thing)) → IsLocal v words.uneven → Every (λ (m : MemberWord). Has v m.fault) ms
              → Every (λ (c : CheckWord). Has v c.fault) cs
              → IsNum v (made.binary place op.BitAnd (made.variable place words.uneven)
              (made.unary place un.Complement
              (made.paren place (h.all_joined place op.BitOr (h.fault_names cs ms)))))
          beyond-num v is one two = λ l r. (
            local-has v words.uneven is l r,
            all-joined-num v op.BitOr (h.fault_names cs ms)
                (every-both (Has v) (map (λ (m : MemberWord). m.fault) ms) (map (λ (c : CheckWord). c.fault) cs)
                (every-mapped (Has v) (λ (m : MemberWord). m.fault) ms one)
                (every-mapped (Has v) (λ (c : CheckWord). c.fault) cs two)) l r,
          )

      -- ---- sums

      each-word : (t : List (ℕ × Thing)) (xs : List MemberWord)
          → Every (λ (m : MemberWord). Use m.member.name.item) xs
          → Every (λ (m : MemberWord). (u : List (ℕ × Thing)) → Grows t u → Uses u
          → IsNum u (h.extended place m.member)) xs
      each-word t [] used = tt
      each-word t (m ∷ xs) used = ((λ u grows uses. use-has u uses m.member.name.item used.0), each-word t xs used.1)

      sum-num : (t : List (ℕ × Thing)) → Uses t → LocalWords t → (c : CheckWord) → Use c.name
          → IsNum t (h.joined place op.BitXor (made.variable place c.name) (h.covered c.position ms))
      sum-num t uses local c used =
          joined-num t op.BitXor (made.variable place c.name) (h.covered c.position ms) (use-has t uses c.name used)
          (covered-has t c.position ms (words-has t local))

      each-sum : (t : List (ℕ × Thing)) → LocalWords t → (xs : List CheckWord)
          → Every (λ (c : CheckWord). Use c.name) xs
          → Every (λ (c : CheckWord). (u : List (ℕ × Thing)) → Grows t u → Uses u
          → IsNum u (h.joined place op.BitXor (made.variable place c.name) (h.covered c.position ms))) xs
      each-sum t local [] used = tt
      each-sum t local (c ∷ xs) used =
          ((λ u grows uses. sum-num u uses (grown-words t u grows local) c used.0), each-sum t local xs used.1)

      abbrev total_value : ExprTree
      total_value = h.joined place op.BitXor (made.variable place words.parity) (h.word_names cs ms)

      abbrev uneven_value : ExprTree
      uneven_value = h.all_joined place op.BitOr (h.sum_names cs)

      abbrev totalled : List StmtTree
      totalled = h.total_local place words ∷ h.uneven_local place words ∷ faulty

      abbrev flat : List StmtTree
      flat =
          map (h.extend place) ms ++ (map (h.sum_local place words) cs
          ++ (h.total_local place words ∷ h.uneven_local place words ∷ faulty))

      flat-right : (t : List (ℕ × Thing)) → Scope t (locals_of words) → AreRight t flat
      flat-right t scope =
          locals-then (λ (m : MemberWord). m.word) (λ (m : MemberWord). h.extended place m.member) ms
          (map (h.sum_local place words) cs ++ totalled)
          (map (λ (c : CheckWord). c.sum) cs ++ (words.total ∷ words.uneven ∷ (fault_locals_of words))) t scope
          (each-word t ms members)
          (λ u grows local inner. locals-then (λ (c : CheckWord). c.sum)
          (λ (c : CheckWord). h.joined place op.BitXor (made.variable place c.name) (h.covered c.position ms)) cs
          totalled (words.total ∷ words.uneven ∷ (fault_locals_of words)) u inner (each-sum u local cs checks)
          (λ v more sums last. declare-then v words.total total_value (h.uneven_local place words ∷ faulty)
          (words.uneven ∷ (fault_locals_of words)) last
          (joined-num v op.BitXor (made.variable place words.parity) (h.word_names cs ms)
          (use-has v last.uses words.parity parity) (names-has v last.uses (grown-words u v more local)))
          (λ x most total left. declare-then x words.uneven uneven_value faulty (fault_locals_of words) left
          (all-joined-num x op.BitOr (h.sum_names cs)
          (every-mapped (Has x) (λ (c : CheckWord). c.sum) cs (sums-has x (grown-sums v x most sums))))
          (λ z end uneven rest. faults-right z (grown-words u z (λ n is. end n (most n (more n is))) local)
          (grown-sums v z (λ n is. end n (most n is)) sums) (end words.total total) uneven rest))))

      regrouped : (a : List StmtTree) (b : List StmtTree) (p q : StmtTree) (c d : List StmtTree) (x y : StmtTree)
          (m : List StmtTree)
          → (a ++ (b ++ p ∷ q ∷ [])) ++ ((c ++ (d ++ x ∷ y ∷ [])) ++ m) ≡ a
          ++ (b ++ (p ∷ q ∷ (c ++ (d ++ (x ∷ y ∷ m)))))
      regrouped a b p q c d x y m = simp append_assoc

      pub repair-words-right : (t : List (ℕ × Thing)) → Scope t (locals_of words)
          → AreRight t (h.repair_words place words)
      repair-words-right t scope =
          subst (AreRight t) (sym (regrouped (map (h.extend place) ms) (map (h.sum_local place words) cs)
          (h.total_local place words) (h.uneven_local place words) (map (h.member_fault place words) ms)
          (map (h.check_fault place words) cs)
          (h.beyond_local place words) (h.stop_beyond place words) (h.mends place words))) (flat-right t scope)

      -- ---- renewal

      pub renew-words-right : (t : List (ℕ × Thing)) → Scope t (locals_of words)
          → AreRight t (h.renew_words place words)
      renew-words-right t scope =
          locals-then (λ (m : MemberWord). m.word) (λ (m : MemberWord). h.extended place m.member) ms
          (map (h.renew_check place words) cs ++ h.renew_parity place words ∷ [])
          (map (λ (c : CheckWord). c.sum) cs ++ (words.total ∷ words.uneven ∷ (fault_locals_of words))) t scope
          (each-word t ms members)
          (λ u grows local inner. assigns-then (λ (c : CheckWord). c.name)
          (λ (c : CheckWord). h.all_joined place op.BitXor (h.covered c.position ms)) cs
          (h.renew_parity place words ∷ []) u (each-check u inner.uses local cs checks)
          (assign-then u words.parity (h.all_joined place op.BitXor (h.word_names cs ms)) []
          (use-has u inner.uses words.parity parity)
          (all-joined-num u op.BitXor (h.word_names cs ms) (names-has u inner.uses local)) (λ l r. tt)))
        where
          each-check : (u : List (ℕ × Thing)) → Uses u → LocalWords u → (xs : List CheckWord)
              → Every (λ (c : CheckWord). Use c.name) xs
              → Every (λ (c : CheckWord). Has u c.name
              × IsNum u (h.all_joined place op.BitXor (h.covered c.position ms))) xs
          each-check u uses local [] used = tt
          each-check u uses local (c ∷ xs) used = (
            (
              use-has u uses c.name used.0,
              all-joined-num u op.BitXor (h.covered c.position ms)
                  (covered-has u c.position ms (words-has u local)),
            ),
            each-check u uses local xs used.1,
          )
