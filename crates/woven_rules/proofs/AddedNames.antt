-- The names that stand in what a part adds to a class are those of its members, of what is generated for it, and the
-- two of mutexes.
use Rattle.std.proofs.Common.{◌≡◌, sym, subst, ℕ, suc, ◌+◌, ◌<◌, ◌≤◌, arith, Bool, true, false, if◌then◌else◌, List, [], ◌∷◌, ◌++◌, map, length, Option, Some, None, codes}
use Rattle.std.specs.List.{range_with_len}
use Rattle.agxx_base.specs.Names.{number_of}
use Rattle.agxx_base.specs.declared.ids.NameId.{NameId}
use Rattle.agxx_base.specs.declared.place.Place.{Place}
use Rattle.cxx_tree.specs.declared.node.Placed.{Placed}
use Rattle.cxx_tree.specs.declared.operator.BinOp.{BinOp}
use Rattle.cxx_tree.specs.declared.operator.BinOp.TheVariants as op
use Rattle.cxx_tree.specs.declared.operator.UnOp.TheVariants as un
use Rattle.cxx_tree.specs.declared.program.Access.{Access}
use Rattle.cxx_tree.specs.declared.program.Access.TheVariants as access
use Rattle.cxx_tree.specs.declared.program.Member.{Member}
use Rattle.cxx_tree.specs.declared.program.TypeName.TheVariants as type_name
use Rattle.cxx_tree.specs.Limits.{Every}
use Rattle.cxx_tree.specs.ExprTree.{ExprTree}
use Rattle.cxx_tree.specs.StmtTree.{listed_stmts}
use Rattle.cxx_tree.specs.ProgramTree as tree
use Rattle.cxx_tree.specs.ProgramTree.{ItemTree}
use Rattle.cxx_distinct.specs.NamesIn as n
use Rattle.cxx_make.specs.Made as made
use Rattle.guards.specs.declared.guard.GuardKind.{GuardKind}
use Rattle.guards.specs.declared.guard.GuardKind.TheVariants as guard
use Rattle.codec.specs.Part.{unsigned_of}
use Rattle.codec.specs.Copies as copies
use Rattle.hamming_gen.specs.Positions.{check_words, next_position}
use Rattle.hamming_gen.specs.HammingNames as hamming
use Rattle.hamming_gen.specs.HammingTrees as h
use Rattle.hamming_gen.specs.declared.words.MemberWord.{MemberWord}
use Rattle.hamming_gen.specs.declared.words.CheckWord.{CheckWord}
use Rattle.hamming_gen.specs.declared.words.PartWords.{PartWords}
use Rattle.entry_count.specs.PartCode as code
use Rattle.entry_count.specs.PartCode.{enter_body, leave_body, take_lock, free_lock, is_zero, counts, when_zero, repairs, renews}
use Rattle.protect.specs.Protected as z
use Rattle.woven_rules.proofs.Seen.{OwnNames}
use Rattle.woven_rules.proofs.Tags as t
use Rattle.woven_rules.proofs.HammingBodies.{locals_of, fault_locals_of}
use Rattle.woven_rules.proofs.PartLocals.{locals, locals-are}
use Rattle.woven_rules.proofs.Keys.{Key, key, name_of, Keyed, part, extra_members, six_items, items_of, extra_keys, first_keys, second_keys, check_keys, six_keys, keys_of, extras-keyed, every-both}
use Rattle.woven_rules.proofs.OwnItems.{IsNumMember, extra-numbers}
use Rattle.woven_rules.proofs.WovenNames.{AllIn, names-both, in-both, items-both}
use Rattle.protect_laws.proofs.Exits.{front-of, back-of}
use Rattle.protect_laws.proofs.Known.{every-mapped, every-unmapped, every-by}

module _ (Q : ℕ → Type 0) (at : Place) where
  abbrev In : NameId → Type 0
  In id = Q id.0

  -- the names in an expression
  abbrev Within : ExprTree → Type 0
  Within x = OwnNames Q (n.names_in_expr x)

  variable-in : (id : NameId) → In id → Within (made.variable at id)
  variable-in id is = (is, tt)

  binary-in : (o : BinOp) (a b : ExprTree) → Within a → Within b → Within (made.binary at o a b)
  binary-in o a b first second = names-both Q (n.names_in_expr a) (n.names_in_expr b) first second

  joined-in : (o : BinOp) (first : ExprTree) (ns : List NameId) → Within first → Every In ns
      → Within (h.joined at o first ns)
  joined-in o first [] is all = is
  joined-in o first (id ∷ ns) is all =
      joined-in o (made.binary at o first (made.variable at id)) ns
      (binary-in o first (made.variable at id) is (all.0, tt)) all.1

  all-joined-in : (o : BinOp) (ns : List NameId) → Every In ns → Within (h.all_joined at o ns)
  all-joined-in o [] all = tt
  all-joined-in o (id ∷ ns) all = joined-in o (made.variable at id) ns (all.0, tt) all.1

  agreeing-in : (position : ℕ) (c : CheckWord) → In c.sum → Within (h.agreeing at position c)
  agreeing-in position c is = by (h.covers c.position position)
    where
      by : (b : Bool) → Within (if b then made.variable at c.sum else h.inverted at c.sum)
      by true = (is, tt)
      by false = (is, tt)

  matched-in : (first : ExprTree) (position : ℕ) (cs : List CheckWord) → Within first
      → Every (λ (c : CheckWord). In c.sum) cs → Within (h.matched at first position cs)
  matched-in first position [] is all = is
  matched-in first position (c ∷ cs) is all =
      matched-in (made.binary at op.BitAnd first (h.agreeing at position c)) position cs
      (binary-in op.BitAnd first (h.agreeing at position c) is (agreeing-in position c all.0)) all.1

  masked-in : (mask : Option ℕ) (x : ExprTree) → Within x → Within (h.masked at mask x)
  masked-in None x is = is
  masked-in (Some mask) x is = names-both Q (n.names_in_expr x) [] is tt

  covered-in : (power : ℕ) (ms : List MemberWord) → Every (λ (m : MemberWord). In m.word) ms
      → Every In (h.covered power ms)
  covered-in power [] all = tt
  covered-in power (m ∷ ms) all = by (h.covers power m.position) (covered-in power ms all.1)
    where
      by : (b : Bool) → Every In (h.covered power ms)
          → Every In (if b then m.word ∷ h.covered power ms else h.covered power ms)
      by true rest = (all.0, rest)
      by false rest = rest

  -- ---- statements

  locals-in : {A : Type 0} (name : A → NameId) (x : A → ExprTree) (xs : List A)
      → Every (λ a. In (name a) × Within (x a)) xs → AllIn Q (map (λ a. h.word_local at (name a) (x a)) xs)
  locals-in name x [] all = tt
  locals-in name x (a ∷ xs) all =
      (all.0.0, names-both Q (n.names_in_expr (x a)) _ all.0.1 (locals-in name x xs all.1))

  assigns-in : {A : Type 0} (name : A → NameId) (x : A → ExprTree) (xs : List A)
      → Every (λ a. In (name a) × Within (x a)) xs → AllIn Q (map (λ a. made.assign at (name a) (x a)) xs)
  assigns-in name x [] all = tt
  assigns-in name x (a ∷ xs) all =
      (all.0.0, names-both Q (n.names_in_expr (x a)) _ all.0.1 (assigns-in name x xs all.1))

  every-with : {A : Type 0} (P R : A → Type 0) (xs : List A) → Every P xs → ((x : A) → R x)
      → Every (λ x. P x × R x) xs
  every-with P R [] all one = tt
  every-with P R (x ∷ xs) all one = ((all.0, one x), every-with P R xs all.1 one)

  module _ (words : PartWords) (members : Every (λ (m : MemberWord). In m.member.name.item × (In m.word × In m.fault))
      words.members) (checks : Every (λ (c : CheckWord). In c.name × (In c.sum × In c.fault)) words.checks)
      (parity : In words.parity) (total : In words.total) (uneven : In words.uneven) (beyond : In words.beyond) where
    abbrev ms : List MemberWord
    ms = words.members

    abbrev cs : List CheckWord
    cs = words.checks

    words-in : Every (λ (m : MemberWord). In m.word) ms
    words-in =
        every-by (λ (m : MemberWord). In m.member.name.item × (In m.word × In m.fault))
        (λ (m : MemberWord). In m.word) (λ m is. is.1.0) ms members

    sums-in : Every (λ (c : CheckWord). In c.sum) cs
    sums-in =
        every-by (λ (c : CheckWord). In c.name × (In c.sum × In c.fault)) (λ (c : CheckWord). In c.sum)
        (λ c is. is.1.0) cs checks

    names-in : Every In (h.word_names cs ms)
    names-in =
        every-both In (h.check_names cs) (map (λ (m : MemberWord). m.word) ms)
        (every-mapped In (λ (c : CheckWord). c.name) cs
        (every-by (λ (c : CheckWord). In c.name × (In c.sum × In c.fault)) (λ (c : CheckWord). In c.name)
        (λ c is. is.0) cs checks))
        (every-mapped In (λ (m : MemberWord). m.word) ms words-in)

    fault-names-in : Every In (h.fault_names cs ms)
    fault-names-in =
        every-both In (map (λ (m : MemberWord). m.fault) ms) (map (λ (c : CheckWord). c.fault) cs)
        (every-mapped In (λ (m : MemberWord). m.fault) ms
        (every-by (λ (m : MemberWord). In m.member.name.item × (In m.word × In m.fault))
        (λ (m : MemberWord). In m.fault) (λ m is. is.1.1) ms members))
        (every-mapped In (λ (c : CheckWord). c.fault) cs
        (every-by (λ (c : CheckWord). In c.name × (In c.sum × In c.fault)) (λ (c : CheckWord). In c.fault)
        (λ c is. is.1.1) cs checks))

    fault-at-in : (position : ℕ) → Within (h.fault_at at words position)
    fault-at-in position = matched-in (made.variable at words.total) position cs (total, tt) sums-in

    extends-in : AllIn Q (map (h.extend at) ms)
    extends-in =
        locals-in (λ (m : MemberWord). m.word) (λ (m : MemberWord). h.extended at m.member) ms
        (every-by (λ (m : MemberWord). In m.member.name.item × (In m.word × In m.fault))
        (λ (m : MemberWord). In m.word × Within (h.extended at m.member)) (λ m is. (is.1.0, (is.0, tt))) ms
        members)

    sum-locals-in : AllIn Q (h.sum_locals at words)
    sum-locals-in =
        in-both Q (map (h.extend at) ms) _ extends-in
        (in-both Q (map (h.sum_local at words) cs) (h.total_local at words ∷ h.uneven_local at words ∷ [])
        (locals-in (λ (c : CheckWord). c.sum)
        (λ (c : CheckWord). h.joined at op.BitXor (made.variable at c.name) (h.covered c.position ms)) cs
        (every-by (λ (c : CheckWord). In c.name × (In c.sum × In c.fault))
        (λ (c : CheckWord). In c.sum × Within
        (h.joined at op.BitXor (made.variable at c.name) (h.covered c.position ms)))
        (λ c is. (
          is.1.0,
          joined-in op.BitXor (made.variable at c.name) (h.covered c.position ms) (is.0, tt)
              (covered-in c.position ms words-in),
        )) cs checks)) (
          total,
          names-both Q (n.names_in_expr (h.joined at op.BitXor (made.variable at words.parity) (h.word_names cs ms)))
              _ (joined-in op.BitXor (made.variable at words.parity) (h.word_names cs ms) (parity, tt) names-in) (
                uneven,
                names-both Q (n.names_in_expr (h.all_joined at op.BitOr (h.sum_names cs))) _
                    (all-joined-in op.BitOr (h.sum_names cs) (every-mapped In (λ (c : CheckWord). c.sum) cs sums-in)) tt,
              ),
        ))

    beyond-in : Within (made.binary at op.BitAnd (made.variable at words.uneven)
        (made.unary at un.Complement (made.paren at (h.all_joined at op.BitOr (h.fault_names cs ms)))))
    beyond-in = (uneven, all-joined-in op.BitOr (h.fault_names cs ms) fault-names-in)

    fault-locals-in : AllIn Q (h.fault_locals at words)
    fault-locals-in =
        in-both Q (map (h.member_fault at words) ms) _
        (locals-in (λ (m : MemberWord). m.fault)
        (λ (m : MemberWord). h.masked at (h.mask_of (unsigned_of m.member)) (h.fault_at at words m.position)) ms
        (every-by (λ (m : MemberWord). In m.member.name.item × (In m.word × In m.fault))
        (λ (m : MemberWord). In m.fault
        × Within (h.masked at (h.mask_of (unsigned_of m.member)) (h.fault_at at words m.position)))
        (λ m is. (
          is.1.1,
          masked-in (h.mask_of (unsigned_of m.member)) (h.fault_at at words m.position)
              (fault-at-in m.position),
        )) ms members))
        (in-both Q (map (h.check_fault at words) cs) (h.beyond_local at words ∷ h.stop_beyond at words ∷ [])
        (locals-in (λ (c : CheckWord). c.fault) (λ (c : CheckWord). h.fault_at at words c.position) cs
        (every-by (λ (c : CheckWord). In c.name × (In c.sum × In c.fault))
        (λ (c : CheckWord). In c.fault × Within (h.fault_at at words c.position))
        (λ c is. (is.1.1, fault-at-in c.position)) cs checks)) (
          beyond,
          (
            uneven,
            names-both Q (n.names_in_expr (h.all_joined at op.BitOr (h.fault_names cs ms))) _
                (all-joined-in op.BitOr (h.fault_names cs ms) fault-names-in) (beyond, tt),
          ),
        ))

    mends-in : AllIn Q (h.mends at words)
    mends-in =
        in-both Q (map (h.mend_member at) ms) _
        (assigns-in (λ (m : MemberWord). m.member.name.item) (λ (m : MemberWord). h.differing at m.word m.fault) ms
        (every-by (λ (m : MemberWord). In m.member.name.item × (In m.word × In m.fault))
        (λ (m : MemberWord). In m.member.name.item × Within (h.differing at m.word m.fault))
        (λ m is. (is.0, (is.1.0, (is.1.1, tt)))) ms members))
        (in-both Q (map (h.mend_check at) cs) (h.mend_parity at words ∷ [])
        (assigns-in (λ (c : CheckWord). c.name) (λ (c : CheckWord). h.differing at c.name c.fault) cs
        (every-by (λ (c : CheckWord). In c.name × (In c.sum × In c.fault))
        (λ (c : CheckWord). In c.name × Within (h.differing at c.name c.fault))
        (λ c is. (is.0, (is.0, (is.1.1, tt)))) cs checks))
        (parity, (parity, (total, (uneven, tt)))))

    pub repair-words-in : AllIn Q (h.repair_words at words)
    repair-words-in =
        in-both Q (h.sum_locals at words) _ sum-locals-in
        (in-both Q (h.fault_locals at words) (h.mends at words) fault-locals-in mends-in)

    pub renew-words-in : AllIn Q (h.renew_words at words)
    renew-words-in =
        in-both Q (map (h.extend at) ms) _ extends-in
        (in-both Q (map (h.renew_check at words) cs) (h.renew_parity at words ∷ [])
        (assigns-in (λ (c : CheckWord). c.name)
        (λ (c : CheckWord). h.all_joined at op.BitXor (h.covered c.position ms)) cs
        (every-by (λ (c : CheckWord). In c.name × (In c.sum × In c.fault))
        (λ (c : CheckWord). In c.name × Within (h.all_joined at op.BitXor (h.covered c.position ms)))
        (λ c is. (is.0, all-joined-in op.BitXor (h.covered c.position ms) (covered-in c.position ms words-in))) cs
        checks)) (
          parity,
          names-both Q (n.names_in_expr (h.all_joined at op.BitXor (h.word_names cs ms))) _
              (all-joined-in op.BitXor (h.word_names cs ms) names-in) tt,
        ))

-- ---- of a part

module _ (Q : ℕ → Type 0) (names : List (List ℕ)) where
  abbrev Known : NameId → Type 0
  Known id = Q id.0

  -- the locals of repair and renewal, for so many members
  abbrev pub LocalsIn : GuardKind → ℕ → Type 0
  LocalsIn guard.Copies k = (j : ℕ) → 1 ≤ j → j < 1 + k → Known (copies.vote names j)
  LocalsIn guard.Hamming k = Every Known (locals names k (check_words k))

  module _ (class : Placed NameId) (ms : List Member) (own : Every (λ (m : Member). Known m.name.item) ms)
      (lock : Q (number_of names (codes "lock"))) (unlock : Q (number_of names (codes "unlock"))) where
    abbrev KeyIn : Key → Type 0
    KeyIn q = Known (name_of names q)

    copy-renew-in : (xs : List Member) → Every (λ (m : Member). Known m.name.item) xs
        → Every KeyIn (first_keys names class xs) → Every KeyIn (second_keys names class xs)
        → AllIn Q (copies.renew_each names class.at xs)
    copy-renew-in [] is one two = tt
    copy-renew-in (m ∷ xs) is one two = (one.0, (is.0, (two.0, (is.0, copy-renew-in xs is.1 one.1 two.1))))

    copy-repair-in : (i : ℕ) (xs : List Member) → Every (λ (m : Member). Known m.name.item) xs
        → Every KeyIn (first_keys names class xs) → Every KeyIn (second_keys names class xs)
        → ((j : ℕ) → i ≤ j → j < i + length xs → Known (copies.vote names j))
        → AllIn Q (copies.repair_from names class.at i xs)
    copy-repair-in i [] is one two votes = tt
    copy-repair-in i (m ∷ xs) is one two votes =
        let v = votes i (omega arith) (omega arith) in
        let rest =
        copy-repair-in (suc i) xs is.1 one.1 two.1 (λ j above below. votes j (omega arith) (omega arith)) in
        (v, (is.0, (one.0, (is.0, (two.0, (one.0, (two.0, (is.0, (v, (one.0, (v, (two.0, (v, rest)))))))))))))

    -- ---- check words

    abbrev words : PartWords
    words = hamming.part_words names (part names class ms)

    members-known : (i p : ℕ) (xs : List Member) → Every (λ (m : Member). Known m.name.item) xs
        → Every (λ (w : MemberWord). Known w.member.name.item) (hamming.member_words names i p xs)
    members-known i p [] is = tt
    members-known i p (m ∷ xs) is = (is.0, members-known (suc i) (next_position p) xs is.1)

    checks-known : (js : List ℕ) → Every KeyIn (check_keys names class js)
        → Every (λ (w : CheckWord). Known w.name) (map (hamming.check_word names class.item) js)
    checks-known [] all = tt
    checks-known (j ∷ js) all = (all.0, checks-known js all.1)

    every-three : {A : Type 0} (P R S : A → Type 0) (xs : List A) → Every P xs → Every R xs → Every S xs
        → Every (λ x. P x × (R x × S x)) xs
    every-three P R S [] one two three = tt
    every-three P R S (x ∷ xs) one two three = ((one.0, (two.0, three.0)), every-three P R S xs one.1 two.1 three.1)

    module _ (keys : Every KeyIn (extra_keys names guard.Hamming class ms)) (local : Every Known (locals_of words))
      where
        abbrev js : List ℕ
        js = range_with_len 0 (check_words (length ms))

        later : Every Known (map (λ (w : CheckWord). w.sum) words.checks
            ++ (words.total ∷ words.uneven ∷ fault_locals_of words))
        later = back-of Known (map (λ (w : MemberWord). w.word) words.members) _ local

        totals : Every Known (words.total ∷ words.uneven ∷ fault_locals_of words)
        totals = back-of Known (map (λ (w : CheckWord). w.sum) words.checks) _ later

        last : Every Known (map (λ (w : CheckWord). w.fault) words.checks ++ words.beyond ∷ [])
        last = back-of Known (map (λ (w : MemberWord). w.fault) words.members) _ totals.1.1

        members-in : Every (λ (w : MemberWord). Known w.member.name.item × (Known w.word × Known w.fault)) words.members
        members-in =
            every-three (λ (w : MemberWord). Known w.member.name.item) (λ (w : MemberWord). Known w.word)
            (λ (w : MemberWord). Known w.fault) words.members (members-known 1 3 ms own)
            (every-unmapped Known (λ (w : MemberWord). w.word) words.members
            (front-of Known (map (λ (w : MemberWord). w.word) words.members) _ local))
            (every-unmapped Known (λ (w : MemberWord). w.fault) words.members
            (front-of Known (map (λ (w : MemberWord). w.fault) words.members) _ totals.1.1))

        checks-in : Every (λ (w : CheckWord). Known w.name × (Known w.sum × Known w.fault)) words.checks
        checks-in =
            every-three (λ (w : CheckWord). Known w.name) (λ (w : CheckWord). Known w.sum)
            (λ (w : CheckWord). Known w.fault) words.checks
            (checks-known js (front-of KeyIn (check_keys names class js) (key t.parity class.item ∷ []) keys))
            (every-unmapped Known (λ (w : CheckWord). w.sum) words.checks
            (front-of Known (map (λ (w : CheckWord). w.sum) words.checks) _ later))
            (every-unmapped Known (λ (w : CheckWord). w.fault) words.checks
            (front-of Known (map (λ (w : CheckWord). w.fault) words.checks) _ last))

        parity-in : Known words.parity
        parity-in = (back-of KeyIn (check_keys names class js) (key t.parity class.item ∷ []) keys).0

        beyond-known : Known words.beyond
        beyond-known = (back-of Known (map (λ (w : CheckWord). w.fault) words.checks) _ last).0

        check-repair-in : AllIn Q (h.part_repair names (part names class ms))
        check-repair-in =
            repair-words-in Q class.at words members-in checks-in parity-in totals.0 totals.1.0 beyond-known

        check-renew-in : AllIn Q (h.part_renew names (part names class ms))
        check-renew-in = renew-words-in Q class.at words members-in checks-in parity-in totals.0 totals.1.0 beyond-known

    repair-in : (kind : GuardKind) → Every KeyIn (extra_keys names kind class ms) → LocalsIn kind (length ms)
        → AllIn Q ((z.code_of kind).repair names (part names class ms))
    repair-in guard.Copies keys local =
        copy-repair-in 1 ms own (front-of KeyIn (first_keys names class ms) (second_keys names class ms) keys)
        (back-of KeyIn (first_keys names class ms) (second_keys names class ms) keys) local
    repair-in guard.Hamming keys local =
        check-repair-in keys (subst (Every Known) (sym (locals-are names (part names class ms))) local)

    renew-in : (kind : GuardKind) → Every KeyIn (extra_keys names kind class ms) → LocalsIn kind (length ms)
        → AllIn Q ((z.code_of kind).renew names (part names class ms))
    renew-in guard.Copies keys local =
        copy-renew-in ms own (front-of KeyIn (first_keys names class ms) (second_keys names class ms) keys)
        (back-of KeyIn (first_keys names class ms) (second_keys names class ms) keys)
    renew-in guard.Hamming keys local =
        check-renew-in keys (subst (Every Known) (sym (locals-are names (part names class ms))) local)

    -- ---- the items

    abbrev ItemsIn : List ItemTree → Type 0
    ItemsIn is = OwnNames Q (n.names_in_each n.names_in_item is)

    member-in : (m : Member) (q : Key) → m.name.item.0 ≡ (name_of names q).0 → IsNumMember m → KeyIn q
        → OwnNames Q (n.names_in_item (tree.member m))
    member-in m q same number known =
        names-both Q (n.names_in_type m.type_name) (m.name ∷ [])
        (subst (λ u. OwnNames Q (n.names_in_type_at m.type_name.at u)) (sym number.1) tt)
        (subst Q (sym same) known, tt)

    extras-in : (xs : List Member) (qs : List Key) → Keyed names (map tree.member xs) qs → Every IsNumMember xs
        → Every KeyIn qs → ItemsIn (map tree.member xs)
    extras-in [] qs keyed numbers known = tt
    extras-in (m ∷ xs) [] keyed numbers known = absurd keyed
    extras-in (m ∷ xs) (q ∷ qs) keyed numbers known =
        names-both Q (n.names_in_item (tree.member m)) _ (member-in m q keyed.0 numbers.0 known.0)
        (extras-in xs qs keyed.1 numbers.1 known.1)

    module _ (kind : GuardKind) (keys : Every KeyIn (keys_of names kind class ms)) (local : LocalsIn kind (length ms))
      where
        extra : Every KeyIn (extra_keys names kind class ms)
        extra = front-of KeyIn (extra_keys names kind class ms) (six_keys names class) keys

        six : Every KeyIn (six_keys names class)
        six = back-of KeyIn (extra_keys names kind class ms) (six_keys names class) keys

        counter : Known (code.counter names class.item)
        counter = subst Known (sym (t.counter-is names class.item)) six.0

        mutex : Known (code.mutex names class.item)
        mutex = subst Known (sym (t.lock-is names class.item)) six.1.0

        repair : Known (code.repair names class.item)
        repair = subst Known (sym (t.repair-is names class.item)) six.1.1.0

        renew : Known (code.renew names class.item)
        renew = subst Known (sym (t.renew-is names class.item)) six.1.1.1.0

        pub enter : Known (code.enter names class.item)
        enter = subst Known (sym (t.enter-is names class.item)) six.1.1.1.1.0

        pub leave : Known (code.leave names class.item)
        leave = subst Known (sym (t.leave-is names class.item)) six.1.1.1.1.1.0

        enter-in : AllIn Q (enter_body names class.at class.item)
        unfolding enter_body take_lock free_lock counts when_zero is_zero repairs
        enter-in = (mutex, (lock, (counter, (repair, (counter, (counter, (mutex, (unlock, tt))))))))

        leave-in : AllIn Q (leave_body names class.at class.item)
        unfolding leave_body take_lock free_lock counts when_zero is_zero renews
        leave-in = (mutex, (lock, (counter, (counter, (counter, (renew, (mutex, (unlock, tt))))))))

        six-in : ItemsIn (six_items names kind class ms)
        six-in = (
          counter,
          (
            mutex,
            (
              repair,
              names-both Q (n.names_in_stmts (listed_stmts ((z.code_of kind).repair names (part names class ms)))) _
                  (repair-in kind extra local) (
                    renew,
                    names-both Q (n.names_in_stmts
                        (listed_stmts ((z.code_of kind).renew names (part names class ms)))) _
                        (renew-in kind extra local) (
                          enter,
                          names-both Q (n.names_in_stmts (listed_stmts (enter_body names class.at class.item))) _
                              enter-in (
                                leave,
                                names-both Q (n.names_in_stmts
                                    (listed_stmts (leave_body names class.at class.item))) _ leave-in tt,
                              ),
                        ),
                  ),
            ),
          ),
        )

        opening-in : (at : Place) (shown : Access) → ItemsIn (z.opening at shown)
        opening-in at access.Public = tt
        opening-in at access.Protected = tt
        opening-in at access.Private = tt

        pub added-in : (at : Place) (shown : Access) → ItemsIn (z.opening at shown ++ items_of names kind class ms)
        added-in at shown =
            items-both Q (z.opening at shown) (items_of names kind class ms) (opening-in at shown)
            (items-both Q (map tree.member (extra_members names kind class ms)) (six_items names kind class ms)
            (extras-in (extra_members names kind class ms) (extra_keys names kind class ms)
            (extras-keyed names class kind ms) (extra-numbers names kind class ms) extra) six-in)
