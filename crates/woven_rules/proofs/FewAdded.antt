-- A part adds few items to a class, and few locals stand in its functions.
use Rattle.std.proofs.Common.{◌≡◌, refl, ap, ◌∙◌, ℕ, suc, ◌+◌, ◌<◌, ◌≤◌, arith, List, [], ◌∷◌, ◌++◌, map, length, Option, length-append}
use Rattle.std.proofs.lemmas.List.FromFn.{length-range_with_len}
use Rattle.std.proofs.lemmas.List.{length-map}
use Rattle.std.specs.List.{range_with_len}
use Rattle.agxx_base.specs.declared.ids.NameId.{NameId}
use Rattle.agxx_base.specs.declared.kind.Mode.TheVariants as mode
use Rattle.agxx_base.specs.declared.place.Place.{Place}
use Rattle.cxx_tree.specs.declared.node.Placed.{Placed}
use Rattle.cxx_tree.specs.declared.program.Access.{Access}
use Rattle.cxx_tree.specs.declared.program.Access.TheVariants as access
use Rattle.cxx_tree.specs.declared.program.Member.{Member}
use Rattle.cxx_tree.specs.declared.program.TypeName.TheVariants as type_name
use Rattle.cxx_tree.specs.StmtTree.{StmtTree}
use Rattle.cxx_tree.specs.ProgramTree as tree
use Rattle.cxx_tree.specs.ProgramTree.{ItemTree}
use Rattle.cxx_names.specs.declared.declarations.ClassInfo.{ClassInfo}
use Rattle.cxx_types.specs.Counts.{most}
use Rattle.cxx_types.specs.Classes as classes
use Rattle.cxx_types.specs.declared.classes.ItemsSeen.{ItemsSeen}
use Rattle.cxx_rules.specs.Sites.{Site}
use Rattle.cxx_rules.specs.Forms as form
use Rattle.cxx_rules.specs.StmtForms as f
use Rattle.cxx_rules.specs.ProgramForms as p
use Rattle.cxx_make.specs.Made as made
use Rattle.guards.specs.declared.guard.GuardKind.{GuardKind}
use Rattle.guards.specs.declared.guard.GuardKind.TheVariants as guard
use Rattle.codec.specs.Copies as copies
use Rattle.hamming_gen.specs.Positions.{check_words, next_position}
use Rattle.hamming_gen.specs.HammingNames as hamming
use Rattle.hamming_gen.specs.HammingTrees as h
use Rattle.hamming_gen.specs.declared.words.PartWords.{PartWords}
use Rattle.entry_count.specs.PartCode as code
use Rattle.entry_count.specs.PartCode.{enter_body, leave_body, take_lock, free_lock, counts, when_zero, repairs, renews}
use Rattle.protect.specs.Protected as z
use Rattle.woven_rules.proofs.Counting.{AreFew}
use Rattle.woven_rules.proofs.FewForms.{ShortStmt, few-both, counted-few, few-body}
use Rattle.woven_rules.proofs.FewWrapped.{Has, has-both, has-more, IsBegun}
use Rattle.woven_rules.proofs.Keys.{part, extra_members, six_items, items_of}
use Rattle.protect_laws.proofs.CheckWords.{few-checks}

-- ---- lengths

length-words : (names : List (List ℕ)) (i p : ℕ) (ms : List Member)
    → length (hamming.member_words names i p ms) ≡ length ms
length-words names i p [] = refl
length-words names i p (m ∷ ms) = ap suc (length-words names (suc i) (next_position p) ms)

-- ---- locals of bodies

-- a statement by itself
abbrev IsSmallStmt : ℕ → StmtTree → Type 0
IsSmallStmt n t = (f.locals_in t ≤ n) × (f.returns_in t ≤ 0) × ShortStmt t

locals-have : {A : Type 0} (of : A → StmtTree) → ((x : A) → IsSmallStmt 1 (of x)) → (xs : List A)
    → Has (length xs) 0 (map of xs)
locals-have of one [] = (omega arith, omega arith, tt)
locals-have of one (x ∷ xs) =
    let here = one x in
    let rest = locals-have of one xs in (
      (let l = here.0 in let r = rest.0 in omega arith),
      (let l = here.1 in let r = rest.1 in omega arith),
      (here.2, rest.2),
    )

none-have : {A : Type 0} (of : A → StmtTree) → ((x : A) → IsSmallStmt 0 (of x)) → (xs : List A) → Has 0 0 (map of xs)
none-have of one [] = (omega arith, omega arith, tt)
none-have of one (x ∷ xs) =
    let here = one x in
    let rest = none-have of one xs in (
      (let l = here.0 in let r = rest.0 in omega arith),
      (let l = here.1 in let r = rest.1 in omega arith),
      (here.2, rest.2),
    )

module _ (names : List (List ℕ)) (at : Place) where
  votes-have : (i : ℕ) (ms : List Member) → Has (length ms) 0 (copies.repair_from names at i ms)
  votes-have i [] = (omega arith, omega arith, tt)
  votes-have i (m ∷ ms) =
      let rest = votes-have (suc i) ms in
      ((let l = rest.0 in omega arith), (let r = rest.1 in omega arith), (tt, (tt, (tt, (tt, rest.2)))))

  copies-have : (ms : List Member) → Has 0 0 (copies.renew_each names at ms)
  copies-have [] = (omega arith, omega arith, tt)
  copies-have (m ∷ ms) =
      let rest = copies-have ms in
      ((let l = rest.0 in omega arith), (let r = rest.1 in omega arith), (tt, (tt, rest.2)))

  module _ (words : PartWords) where
    abbrev many : ℕ
    many = length words.members + length words.checks

    sums-have : Has (many + 2) 0 (h.sum_locals at words)
    sums-have =
        has-more (h.sum_locals at words) (length words.members + (length words.checks + 2)) (many + 2) 0 0
        (omega arith) (omega arith)
        (has-both (map (h.extend at) words.members) _ (length words.members) (length words.checks + 2) 0 0
        (locals-have (h.extend at) (λ m. (omega arith, omega arith, tt)) words.members)
        (has-both (map (h.sum_local at words) words.checks) (h.total_local at words ∷ h.uneven_local at words ∷ [])
        (length words.checks) 2 0 0
        (locals-have (h.sum_local at words) (λ c. (omega arith, omega arith, tt)) words.checks)
        (omega arith, omega arith, (tt, (tt, tt)))))

    faults-have : Has (many + 1) 0 (h.fault_locals at words)
    faults-have =
        has-more (h.fault_locals at words) (length words.members + (length words.checks + 1)) (many + 1) 0 0
        (omega arith) (omega arith)
        (has-both (map (h.member_fault at words) words.members) _ (length words.members) (length words.checks + 1) 0 0
        (locals-have (h.member_fault at words) (λ m. (omega arith, omega arith, tt)) words.members)
        (has-both (map (h.check_fault at words) words.checks) (h.beyond_local at words ∷ h.stop_beyond at words ∷ [])
        (length words.checks) 1 0 0
        (locals-have (h.check_fault at words) (λ c. (omega arith, omega arith, tt)) words.checks)
        (omega arith, omega arith, (tt, (((tt, tt), tt), tt)))))

    mends-have : Has 0 0 (h.mends at words)
    mends-have =
        has-both (map (h.mend_member at) words.members) _ 0 0 0 0
        (none-have (h.mend_member at) (λ m. (omega arith, omega arith, tt)) words.members)
        (has-both (map (h.mend_check at) words.checks) (h.mend_parity at words ∷ []) 0 0 0 0
        (none-have (h.mend_check at) (λ c. (omega arith, omega arith, tt)) words.checks)
        (omega arith, omega arith, (tt, tt)))

    repair-has : Has (many + 2 + (many + 1)) 0 (h.repair_words at words)
    repair-has =
        has-more (h.repair_words at words) (many + 2 + (many + 1 + 0)) (many + 2 + (many + 1)) 0 0 (omega arith)
        (omega arith)
        (has-both (h.sum_locals at words) _ (many + 2) (many + 1 + 0) 0 0 sums-have
        (has-both (h.fault_locals at words) (h.mends at words) (many + 1) 0 0 0 faults-have mends-have))

    renew-has : Has many 0 (h.renew_words at words)
    renew-has =
        has-more (h.renew_words at words) (length words.members + 0) many 0 0 (omega arith) (omega arith)
        (has-both (map (h.extend at) words.members) _ (length words.members) 0 0 0
        (locals-have (h.extend at) (λ m. (omega arith, omega arith, tt)) words.members)
        (has-both (map (h.renew_check at words) words.checks) (h.renew_parity at words ∷ []) 0 0 0 0
        (none-have (h.renew_check at words) (λ c. (omega arith, omega arith, tt)) words.checks)
        (omega arith, omega arith, (tt, tt))))

-- ---- of a part

module _ (names : List (List ℕ)) (class : Placed NameId) (ms : List Member) (few : length ms ≤ 120) where
  abbrev words : PartWords
  words = hamming.part_words names (part names class ms)

  many-few : length words.members + length words.checks ≤ 241
  many-few =
      let one = length-words names 1 3 ms in
      let two : length words.checks ≡ check_words (length ms) =
      length-map (range_with_len 0 (check_words (length ms))) (hamming.check_word names class.item)
      ∙ length-range_with_len 0 (check_words (length ms)) in
      let most = few-checks (length ms) in
      omega arith

  abbrev IsFewLocals : List StmtTree → Type 0
  IsFewLocals ts = Has 485 0 ts

  repair-few : (kind : GuardKind) → IsFewLocals ((z.code_of kind).repair names (part names class ms))
  repair-few guard.Copies =
      has-more (copies.repair_from names class.at 1 ms) (length ms) 485 0 0 (omega arith) (omega arith)
      (votes-have names class.at 1 ms)
  repair-few guard.Hamming =
      let low = many-few in
      has-more (h.repair_words class.at words)
      (length words.members + length words.checks + 2 + (length words.members + length words.checks + 1)) 485 0 0
      (omega arith) (omega arith) (repair-has names class.at words)

  renew-few : (kind : GuardKind) → IsFewLocals ((z.code_of kind).renew names (part names class ms))
  renew-few guard.Copies =
      has-more (copies.renew_each names class.at ms) 0 485 0 0 (omega arith) (omega arith)
      (copies-have names class.at ms)
  renew-few guard.Hamming =
      let low = many-few in
      has-more (h.renew_words class.at words) (length words.members + length words.checks) 485 0 0 (omega arith)
      (omega arith) (renew-has names class.at words)

  enter-few : IsFewLocals (enter_body names class.at class.item)
  unfolding enter_body take_lock free_lock counts when_zero repairs
  enter-few = (omega arith, omega arith, (tt, (((tt, tt), tt), (tt, (tt, tt)))))

  leave-few : IsFewLocals (leave_body names class.at class.item)
  unfolding leave_body take_lock free_lock counts when_zero renews
  leave-few = (omega arith, omega arith, (tt, (tt, (((tt, tt), tt), (tt, tt)))))

  -- so many members are added by a code
  extras-few : (kind : GuardKind) → length (extra_members names kind class ms) ≤ 240
  extras-few guard.Copies =
      let one = length-map ms (copies.first_member names class.at) in
      let two = length-map ms (copies.second_member names class.at) in
      let both =
      length-append (map (copies.first_member names class.at) ms) (map (copies.second_member names class.at) ms)
      in
      omega arith
  extras-few guard.Hamming =
      let check = λ (j : ℕ). h.word_member class.at (hamming.check_name names class.item j) in
      let js = range_with_len 0 (check_words (length ms)) in
      let one = length-map js check in
      let two = length-range_with_len 0 (check_words (length ms)) in
      let both = length-append (map check js) (h.word_member class.at (hamming.parity_name names class.item) ∷ []) in
      let most = few-checks (length ms) in
      omega arith

  -- ---- the items

  -- so many members and functions more may stand behind what is seen
  abbrev HasRoom : ℕ → ℕ → ItemsSeen → Type 0
  HasRoom members functions seen = (seen.members + members < 1000) × (seen.methods + functions < 5000)

  module _ (kind : GuardKind) (v : Site) (also : IsBegun v) (base : Option (Placed NameId)) (y : ClassInfo) where
    abbrev FewItems : ItemsSeen → List ItemTree → Type 0
    FewItems seen is = AreFew (most mode.Woven) (p.forms_of_items v base y seen is)

    member-then : (q : Member) (is : List ItemTree) (n j : ℕ) (seen : ItemsSeen) → HasRoom (suc n) j seen
        → ((u : ItemsSeen) → HasRoom n j u → FewItems u is) → FewItems seen (tree.member q ∷ is)
    member-then q is n j seen room later =
        let low : seen.members < 1000 = (let a = room.0 in omega arith) in (
          counted-few (most mode.Woven) form.members seen.members q.name.at low,
          (
            refl,
            (
              refl,
              (
                refl,
                (
                  refl,
                  later (classes.next_seen (tree.member q) seen)
                      ((let a = room.0 in omega arith), room.1),
                ),
              ),
            ),
          ),
        )

    members-then : (xs : List Member) (is : List ItemTree) (n j : ℕ) (seen : ItemsSeen)
        → HasRoom (length xs + n) j seen → ((u : ItemsSeen) → HasRoom n j u → FewItems u is)
        → FewItems seen (map tree.member xs ++ is)
    members-then [] is n j seen room later = later seen ((let a = room.0 in omega arith), room.1)
    members-then (q ∷ xs) is n j seen room later =
        member-then q (map tree.member xs ++ is) (length xs + n) j seen ((let a = room.0 in omega arith), room.1)
        (λ u more. members-then xs is n j u more later)

    function-then : (name : NameId) (ts : List StmtTree) (is : List ItemTree) (n j : ℕ) (seen : ItemsSeen)
        → IsFewLocals ts → HasRoom n (suc j) seen → ((u : ItemsSeen) → HasRoom n j u → FewItems u is)
        → FewItems seen (tree.function (made.procedure class.at name ts) ∷ is)
    function-then name ts is n j seen has room later =
        let low : seen.methods < 5000 = (let a = room.1 in omega arith) in
        let g = made.procedure class.at name ts in
        let inner = p.with_params (p.in_function v type_name.Void) [] in
        let a = also.0 in
        let b = also.1 in
        let l = has.0 in
        let r = has.1 in (
          counted-few (most mode.Woven) form.methods seen.methods class.at low,
          (
            refl,
            (
              refl,
              few-both (most mode.Woven) (p.forms_of_function (p.in_function v type_name.Void) g)
                  (p.forms_of_items v base y (classes.next_seen (tree.function g) seen) is)
                  (refl, few-body (most mode.Woven) inner (made.block class.at ts) (omega arith, omega arith) has.2)
                  (later (classes.next_seen (tree.function g) seen) (room.0, (let a = room.1 in omega arith))),
            ),
          ),
        )

    opening-then : (at : Place) (shown : Access) (is : List ItemTree) (n j : ℕ) (seen : ItemsSeen) → HasRoom n j seen
        → ((u : ItemsSeen) → HasRoom n j u → FewItems u is) → FewItems seen (z.opening at shown ++ is)
    opening-then at access.Public is n j seen room later = later seen room
    opening-then at access.Protected is n j seen room later =
        later (classes.next_seen (tree.label at access.Public) seen) room
    opening-then at access.Private is n j seen room later =
        later (classes.next_seen (tree.label at access.Public) seen) room

    abbrev made_function : NameId → List StmtTree → ItemTree
    made_function name ts = tree.function (made.procedure class.at name ts)

    abbrev from_leave : List ItemTree
    from_leave = made_function (code.leave names class.item) (leave_body names class.at class.item) ∷ []

    abbrev from_enter : List ItemTree
    from_enter = made_function (code.enter names class.item) (enter_body names class.at class.item) ∷ from_leave

    abbrev from_renew : List ItemTree
    from_renew =
        made_function (code.renew names class.item) ((z.code_of kind).renew names (part names class ms)) ∷ from_enter

    abbrev from_repair : List ItemTree
    from_repair =
        made_function (code.repair names class.item) ((z.code_of kind).repair names (part names class ms))
        ∷ from_renew

    six-few : (seen : ItemsSeen) → HasRoom 2 4 seen → FewItems seen (six_items names kind class ms)
    six-few seen room =
        member-then (code.counter_member names class.at class.item)
        (tree.member (code.lock_member names class.at class.item) ∷ from_repair) 1 4 seen room
        (λ u1 room1. member-then (code.lock_member names class.at class.item) from_repair 0 4 u1 room1
        (λ u2 room2. function-then (code.repair names class.item)
        ((z.code_of kind).repair names (part names class ms)) from_renew 0 3 u2 (repair-few kind) room2
        (λ u3 room3. function-then (code.renew names class.item) ((z.code_of kind).renew names (part names class ms))
        from_enter 0 2 u3 (renew-few kind) room3
        (λ u4 room4. function-then (code.enter names class.item) (enter_body names class.at class.item) from_leave 0 1
        u4 enter-few room4
        (λ u5 room5. function-then (code.leave names class.item) (leave_body names class.at class.item) [] 0 0 u5
        leave-few room5 (λ u6 room6. tt))))))

    pub added-few : (at : Place) (shown : Access) (seen : ItemsSeen) → (seen.members ≤ 240) → (seen.methods ≤ 200)
        → FewItems seen (z.opening at shown ++ items_of names kind class ms)
    added-few at shown seen members methods =
        let low = extras-few kind in
        opening-then at shown (items_of names kind class ms) (length (extra_members names kind class ms) + 2) 4 seen
        (omega arith, omega arith)
        (λ u room. members-then (extra_members names kind class ms) (six_items names kind class ms) 2 4 u room
        six-few)
