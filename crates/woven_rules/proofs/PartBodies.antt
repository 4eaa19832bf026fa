-- The bodies of the functions of a part violate no rule.
use Rattle.std.proofs.Common.{◌≡◌, ◌≢◌, refl, sym, ap, ◌∙◌, subst, ℕ, zero, suc, ◌+◌, ◌<◌, ◌≤◌, arith, Bool, true, false, if◌then◌else◌, List, [], ◌∷◌, ◌++◌, length, drop, Some, None, is_some, option_map, nat_eq, codes, decimal}
use Rattle.std.proofs.lemmas.Fmt.{decimal_injective}
use Rattle.std.proofs.lemmas.Bool.{eqb-true}
use Rattle.std.proofs.lemmas.Slice.Eq.{bytes_eq-Decides}
use Rattle.agxx_base.proofs.Interning.{at-number}
use Rattle.agxx_base.specs.Names.{is_known, number_of}
use Rattle.agxx_base.specs.declared.ids.NameId.{NameId}
use Rattle.agxx_base.specs.declared.kind.NumKind.{NumKind}
use Rattle.agxx_base.specs.declared.place.Place.{Place}
use Rattle.cxx_tree.specs.declared.node.Placed.{Placed}
use Rattle.cxx_tree.specs.declared.program.Access.TheVariants as access
use Rattle.cxx_tree.specs.declared.program.Member.{Member}
use Rattle.cxx_tree.specs.declared.program.TypeName.TheVariants as type_name
use Rattle.cxx_tree.specs.declared.operator.BinOp.{BinOp}
use Rattle.cxx_tree.specs.declared.operator.BinOp.TheVariants as op
use Rattle.cxx_tree.specs.declared.expr.Callee.TheVariants as callee_of
use Rattle.agxx_base.specs.declared.kind.NumKind.TheVariants as num
use Rattle.cxx_tree.specs.Limits.{Every}
use Rattle.cxx_tree.specs.StmtTree as st
use Rattle.cxx_tree.specs.StmtTree.{StmtTree, listed_stmts}
use Rattle.cxx_tree.specs.ProgramTree.{ClassTree}
use Rattle.cxx_names.specs.declared.declarations.MemberInfo.{MemberInfo}
use Rattle.cxx_names.specs.declared.types.ValueType.TheVariants as value
use Rattle.cxx_names.specs.declared.types.Thing.{Thing}
use Rattle.cxx_names.specs.declared.types.Thing.TheVariants as thing
use Rattle.cxx_names.specs.declared.types.Variable.TheVariants as variable_of
use Rattle.cxx_names.specs.Declarations.{class_named, is_text, is_text_by}
use Rattle.cxx_names.specs.LookUp as look
use Rattle.cxx_names.specs.Tables.{named, with_name}
use Rattle.cxx_types.specs.declared.context.Context.{Context}
use Rattle.cxx_types.specs.declared.context.Owner.TheVariants as owner
use Rattle.cxx_rules.specs.Sites as at
use Rattle.cxx_rules.specs.Sites.{Site}
use Rattle.cxx_rules.specs.Forms as form
use Rattle.cxx_rules.specs.StmtForms as f
use Rattle.cxx_make.specs.Generated.{text_of}
use Rattle.cxx_make.specs.Generated as made_name
use Rattle.cxx_make.specs.Made as made
use Rattle.codec.specs.Part.{unsigned_of}
use Rattle.codec.specs.Copies as copies
use Rattle.entry_count.specs.PartCode as code
use Rattle.entry_count.specs.PartCode.{enter_body, leave_body, take_lock, free_lock, is_zero, counts, when_zero, repairs, renews}
use Rattle.protect.specs.GuardedParts as g
use Rattle.protect_laws.proofs.Exits.{front-of, back-of}
use Rattle.protect_laws.specs.Strip.{AreKnown}
use Rattle.woven_rules.proofs.Tables.{same-number, named-new, named-other}
use Rattle.woven_rules.proofs.Right.{Rights, joined}
use Rattle.woven_rules.proofs.Named.{named-foreign, named-differ, other}
use Rattle.woven_rules.proofs.Calls.{IsProcedure, call-right}
use Rattle.woven_rules.proofs.Numeric.{Holds, HoldsNumber, numeric, assigned, assign-right, declared, local-right, mutex-right}
use Rattle.woven_rules.proofs.Tags as t
use Rattle.woven_rules.proofs.Tags.{IsKnown}
use Rattle.woven_rules.proofs.Members.{members}
use Rattle.woven_rules.proofs.Keys.{Key, first_keys, second_keys}
use Rattle.woven_rules.proofs.Wider.{class-same}
use Rattle.woven_rules.proofs.Found.{no-class}
use Rattle.cxx_names.specs.Declarations as d
use Rattle.cxx_distinct.specs.NamesIn as n
use Rattle.woven_rules.proofs.World.{Setting, Own, source_of, woven_of, IsFound, Facts}
use Rattle.woven_rules.proofs.Inherits.{of-members, me}
use Rattle.woven_rules.proofs.OwnItems.{own-usable, IsNumberMember, own-found, counter-found, lock-found}
use Rattle.woven_rules.proofs.Procedures.{repair-called, renew-called}

-- a number of a variable
abbrev pub number_thing : NumKind → Thing
number_thing k = thing.Value (value.Number k)

module _ (s : Setting) (f' : Facts s) (class : ℕ) (k : ClassTree) (c : IsFound s class k)
    (some : is_some (g.part_of s.guards k) ≡ true) (index : ℕ) where
  abbrev pub inside : Context
  inside = record { class = Some (record { 0 = class }); owner = owner.Function type_name.Void; index = index }

  -- in a function of the class, where these locals are in scope
  abbrev pub At : List (ℕ × Thing) → ℕ → ℕ → Site
  At t l r = record { names = s.names; declared = woven_of s; context = inside; scope = t; locals = l; returns = r }

  abbrev pub place : Place
  place = k.name.at

  abbrev pub names : List (List ℕ)
  names = s.names

  -- ---- what names mean

  pub member-meant : (t : List (ℕ × Thing)) (l r : ℕ) (j : ℕ) (e : MemberInfo)
      → look.member_named (woven_of s) (me s f' class k c) j ≡ Some (me s f' class k c, e) → named t j ≡ None
      → at.variable_meant (At t l r) (made.ref place (record { 0 = j })) ≡ Some
      (variable_of.Member (me s f' class k c) e.access (look.thing_of (woven_of s) e.type_name))
  member-meant t l r j e is none =
      ap (λ o. look.or_next (option_map variable_of.Local o)
      (look.or_next (look.member_variable (woven_of s) inside.class j) (look.global_variable (woven_of s) j)))
      none
      ∙ ap (λ o. look.or_next (option_map (look.member_as (woven_of s)) o) (look.global_variable (woven_of s) j)) is

  pub holds-member : (t : List (ℕ × Thing)) (l r : ℕ) (j : ℕ) (e : MemberInfo) (u : Thing)
      → look.member_named (woven_of s) (me s f' class k c) j ≡ Some (me s f' class k c, e)
      → look.thing_of (woven_of s) e.type_name ≡ u → named t j ≡ None
      → Holds (At t l r) (made.ref place (record { 0 = j })) u
  holds-member t l r j e u is what none = record {
    var = variable_of.Member (me s f' class k c) e.access (look.thing_of (woven_of s) e.type_name);
    is = member-meant t l r j e is none;
    usable = own-usable (woven_of s) e.access (me s f' class k c);
    what = what;
  }

  pub holds-number : (t : List (ℕ × Thing)) (l r : ℕ) (name : NameId) → IsNumberMember s f' class k c name.0
      → named t name.0 ≡ None → HoldsNumber (At t l r) (made.ref place name)
  holds-number t l r name m none =
      (m.kind, holds-member t l r name.0 m.entry (number_thing m.kind) m.is m.number none)

  pub holds-local : (t : List (ℕ × Thing)) (l r : ℕ) (name : NameId) (kind : NumKind)
      → named t name.0 ≡ Some (number_thing kind) → HoldsNumber (At t l r) (made.ref place name)
  holds-local t l r name kind is = (
    kind,
    record {
      var = variable_of.Local (number_thing kind);
      is =
          ap (λ o. look.or_next (option_map variable_of.Local o)
          (look.or_next (look.member_variable (woven_of s) inside.class name.0)
          (look.global_variable (woven_of s) name.0))) is;
      usable = refl;
      what = refl;
    },
  )

  -- ---- locking

  text-there : (text : List ℕ) → is_known names text ≡ true → is_text names (number_of names text) text ≡ true
  text-there text known =
      ap (λ o. is_text_by o text) (at-number names text known) ∙ (bytes_eq-Decides text text).1 refl

  if-true : (b : Bool) → (if b then true else true) ≡ true
  if-true true = refl
  if-true false = refl

  lock-text : (l r : ℕ) → at.is_of_mutexes (At [] l r)
      (record { at = place; item = made_name.named names (codes "lock") }) ≡ true
  lock-text l r =
      ap (λ b. if b then true else is_text names (number_of names (codes "lock")) (codes "unlock"))
      (text-there (codes "lock") f'.lock)

  unlock-text : (l r : ℕ) → at.is_of_mutexes (At [] l r)
      (record { at = place; item = made_name.named names (codes "unlock") }) ≡ true
  unlock-text l r =
      ap (λ b. if is_text names (number_of names (codes "unlock")) (codes "lock") then true else b)
      (text-there (codes "unlock") f'.unlock)
      ∙ if-true (is_text names (number_of names (codes "unlock")) (codes "lock"))

  holds-lock : (l r : ℕ) → Holds (At [] l r) (made.ref place (code.mutex names k.name.item)) thing.Mutex
  holds-lock l r =
      holds-member [] l r (code.mutex names k.name.item).0
      (record { type_name = type_name.Mutex; access = access.Public }) thing.Mutex
      (lock-found s f' class k c some) refl refl

  abbrev counter : NameId
  counter = code.counter names k.name.item

  holds-counter : (l r : ℕ) → HoldsNumber (At [] l r) (made.ref place counter)
  holds-counter l r = holds-number [] l r counter (counter-found s f' class k c some) refl

  -- ---- entering and leaving

  lock-right : (l r : ℕ) → Rights (f.forms_of_stmt (At [] l r) true (take_lock names place k.name.item))
  unfolding take_lock
  lock-right l r =
      mutex-right (At [] l r) place (code.mutex names k.name.item) (made_name.named names (codes "lock"))
      (holds-lock l r) (lock-text l r)

  unlock-right : (l r : ℕ) → Rights (f.forms_of_stmt (At [] l r) true (free_lock names place k.name.item))
  unfolding free_lock
  unlock-right l r =
      mutex-right (At [] l r) place (code.mutex names k.name.item) (made_name.named names (codes "unlock"))
      (holds-lock l r) (unlock-text l r)

  counts-right : (o : BinOp) (l r : ℕ) → Rights (f.forms_of_stmt (At [] l r) true (counts names place k.name.item o))
  unfolding counts
  counts-right o l r =
      assign-right (At [] l r) place counter
      (made.binary place o (made.variable place counter) (made.number place num.U32 1)) (holds-counter l r)
      (holds-counter l r, tt)

  when-right : (function : NameId) → IsProcedure (woven_of s) inside.class function → (l r : ℕ)
      → Rights (f.forms_of_stmt (At [] l r) true (when_zero names place k.name.item function))
  unfolding when_zero is_zero
  when-right function called l r =
      let later : Rights (form.call (At [] l r) (made.node place) (callee_of.Bare (made.ref place function)) 0 false
      ∷ []) = (call-right (At [] l r) place function called, tt) in
      joined (form.forms_of (At [] l r) (is_zero names place k.name.item))
      (form.call (At [] l r) (made.node place) (callee_of.Bare (made.ref place function)) 0 false ∷ [])
      (numeric (At [] l r) (made.binary place op.Equal (made.variable place counter) (made.number place num.U32 0))
      (holds-counter l r, tt)).0 later

  -- statements that declare nothing, and violate no rule wherever they stand
  abbrev IsFine : StmtTree → Type 0
  IsFine t = (l r : ℕ) → (f.scope_behind (At [] l r) t ≡ []) × Rights (f.forms_of_stmt (At [] l r) true t)

  pub each-fine : (ts : List StmtTree) → Every IsFine ts → (l r : ℕ)
      → Rights (f.forms_of_stmts (At [] l r) true (listed_stmts ts))
  each-fine [] fine l r = tt
  each-fine (t ∷ ts) fine l r =
      joined (f.forms_of_stmt (At [] l r) true t) _ (fine.0 l r).1
      (subst (λ x. Rights (f.forms_of_stmts (At x (l + f.locals_in t) (r + f.returns_in t)) true (listed_stmts ts)))
      (sym (fine.0 l r).0) (each-fine ts fine.1 (l + f.locals_in t) (r + f.returns_in t)))

  lock-fine : IsFine (take_lock names place k.name.item)
  unfolding take_lock
  lock-fine l r = (refl, lock-right l r)

  unlock-fine : IsFine (free_lock names place k.name.item)
  unfolding free_lock
  unlock-fine l r = (refl, unlock-right l r)

  counts-fine : (o : BinOp) → IsFine (counts names place k.name.item o)
  unfolding counts
  counts-fine o l r = (refl, counts-right o l r)

  when-fine : (function : NameId) → IsProcedure (woven_of s) inside.class function
      → IsFine (when_zero names place k.name.item function)
  unfolding when_zero
  when-fine function called l r = (refl, when-right function called l r)

  pub enter-right : (l r : ℕ) → Rights
      (f.forms_of_stmts (At [] l r) true (listed_stmts (enter_body names place k.name.item)))
  unfolding enter_body repairs
  enter-right l r =
      each-fine (enter_body names place k.name.item) (
        lock-fine,
        (
          when-fine (code.repair names k.name.item) (repair-called s f' class k c some),
          (counts-fine op.Add, (unlock-fine, tt)),
        ),
      ) l r

  pub leave-right : (l r : ℕ) → Rights
      (f.forms_of_stmts (At [] l r) true (listed_stmts (leave_body names place k.name.item)))
  unfolding leave_body renews
  leave-right l r =
      each-fine (leave_body names place k.name.item) (
        lock-fine,
        (
          counts-fine op.Subtract,
          (when-fine (code.renew names k.name.item) (renew-called s f' class k c some), (unlock-fine, tt)),
        ),
      ) l r

  -- ---- the words of a part with two copies

  abbrev pub IsNumbered : Member → Type 0
  IsNumbered m = IsNumberMember s f' class k c m.name.item.0

  abbrev pub HasFirst : Member → Type 0
  HasFirst m = IsNumberMember s f' class k c (copies.first_copy names m).0

  abbrev pub HasSecond : Member → Type 0
  HasSecond m = IsNumberMember s f' class k c (copies.second_copy names m).0

  abbrev pub IsKnownTag : Key → Type 0
  IsKnownTag q = IsKnown names q.tag q.id

  module _ (firsts : Every HasFirst (members k.items)) (seconds : Every HasSecond (members k.items))
      (known : Every IsKnownTag (first_keys names k.name (members k.items)
      ++ second_keys names k.name (members k.items)))
      (votes : AreKnown names (copies.vote_texts 1 (length (members k.items)))) where
    -- ---- renewal

    renews-fine : (xs : List Member) → Every IsNumbered xs → Every HasFirst xs → Every HasSecond xs
        → Every IsFine (copies.renew_each names place xs)
    renews-fine [] numbers firsts seconds = tt
    renews-fine (m ∷ xs) numbers firsts seconds = (
      (λ l r. (
        refl,
        assign-right (At [] l r) place (copies.first_copy names m) (made.variable place m.name.item)
            (holds-number [] l r (copies.first_copy names m) firsts.0 refl)
            (holds-number [] l r m.name.item numbers.0 refl),
      )),
      (
        (λ l r. (
          refl,
          assign-right (At [] l r) place (copies.second_copy names m) (made.variable place m.name.item)
              (holds-number [] l r (copies.second_copy names m) seconds.0 refl)
              (holds-number [] l r m.name.item numbers.0 refl),
        )),
        renews-fine xs numbers.1 firsts.1 seconds.1,
      ),
    )

    pub copies-renew-right : (l r : ℕ)
        → Rights (f.forms_of_stmts (At [] l r) true (listed_stmts (copies.renew_each names place (members k.items))))
    copies-renew-right l r =
        each-fine (copies.renew_each names place (members k.items))
        (renews-fine (members k.items) (own-found s f' class k c) firsts seconds) l r

    -- ---- repair

    abbrev vote : ℕ → NameId
    vote i = copies.vote names i

    abbrev vote_text : ℕ → List ℕ
    vote_text i = codes "__gop_m_" ++ decimal i

    -- how many members the part has
    abbrev many : ℕ
    many = length (members k.items)

    above-other : (i j : ℕ) → nat_eq i j ≡ false → i ≤ j → suc i ≤ j
    above-other i j e above = let differ : i ≢ j =
        λ same. (let w : true ≡ false = sym (same-number j) ∙ (ap (λ x. nat_eq x j) (sym same) ∙ e) in cc w) in
        omega arith

    vote-known-by : (i n : ℕ) → AreKnown names (copies.vote_texts i n) → (j : ℕ) → i ≤ j → j < i + n
        → is_known names (vote_text j) ≡ true
    vote-known-by i zero all j above below = absurd (omega arith)
    vote-known-by i (suc n) all j above below =
        by (nat_eq i j) refl (λ more. vote-known-by (suc i) n all.1 j more (omega arith))
      where
        by : (b : Bool) → nat_eq i j ≡ b → (suc i ≤ j → is_known names (vote_text j) ≡ true)
            → is_known names (vote_text j) ≡ true
        by true e later = subst (λ x. is_known names (vote_text x) ≡ true) (eqb-true i j e) all.0
        by false e later = later (above-other i j e above)

    vote-known : (j : ℕ) → 1 ≤ j → j < 1 + many → is_known names (vote_text j) ≡ true
    vote-known j above below = vote-known-by 1 many votes j above below

    few : many ≤ 120
    few = c.also.few some

    -- votes are names of their own
    votes-differ : (i j : ℕ) → 1 ≤ i → i < 1 + many → 1 ≤ j → j < 1 + many → i ≢ j → (vote i).0 ≢ (vote j).0
    votes-differ i j low high above below differ =
        let small = few in
        named-differ names (vote_text i) (vote_text j) (vote-known i low high) (vote-known j above below)
        (λ e. differ (decimal_injective i j (omega arith) (omega arith) (ap (drop 8) e)))

    vote-own : (i : ℕ) → 1 ≤ i → i < 1 + many → (m : ℕ) → Own s m → m ≢ (vote i).0
    vote-own i low high m own = named-foreign names s.before (vote_text i) refl (vote-known i low high) m own

    vote-first : (i : ℕ) → 1 ≤ i → i < 1 + many → (m : Member) → IsKnown names t.first m.name.item
        → (copies.first_copy names m).0 ≢ (vote i).0
    vote-first i low high m known =
        named-differ names (codes "__gop_c1_" ++ text_of names m.name.item) (vote_text i) known
        (vote-known i low high)
        (other 6 (codes "__gop_c1_" ++ text_of names m.name.item) (vote_text i) (λ e. omega arith))

    vote-second : (i : ℕ) → 1 ≤ i → i < 1 + many → (m : Member) → IsKnown names t.second m.name.item
        → (copies.second_copy names m).0 ≢ (vote i).0
    vote-second i low high m known =
        named-differ names (codes "__gop_c2_" ++ text_of names m.name.item) (vote_text i) known
        (vote-known i low high)
        (other 6 (codes "__gop_c2_" ++ text_of names m.name.item) (vote_text i) (λ e. omega arith))

    vote-apart : (i : ℕ) → 1 ≤ i → i < 1 + many → class_named (woven_of s) (vote i).0 ≡ None
    vote-apart i low high =
        class-same (Own s) (source_of s) (woven_of s) f'.wide (vote i).0
        ∙ no-class (Own s) s.before (vote i).0 (λ m own. vote-own i low high m own) d.empty refl s.ds f'.own

    -- a word of the part: a member, and its copies
    pub record IsWord (m : Member) : Type 0 where
      pub own : Own s m.name.item.0
      pub first_known : IsKnown names t.first m.name.item
      pub second_known : IsKnown names t.second m.name.item
      pub number : IsNumbered m
      pub first : HasFirst m
      pub second : HasSecond m

    -- none of its names is a local's
    abbrev IsClear : List (ℕ × Thing) → Member → Type 0
    IsClear t m =
        (named t m.name.item.0 ≡ None) × (named t (copies.first_copy names m).0 ≡ None)
        × (named t (copies.second_copy names m).0 ≡ None)

    clear-with : (t : List (ℕ × Thing)) (i : ℕ) (x : Thing) → 1 ≤ i → i < 1 + many → (m : Member) → IsWord m
        → IsClear t m → IsClear (with_name t (vote i).0 x) m
    clear-with t i x low high m word clear = (
      named-other t (vote i).0 x m.name.item.0 (vote-own i low high m.name.item.0 word.own) ∙ clear.0,
      named-other t (vote i).0 x (copies.first_copy names m).0 (vote-first i low high m word.first_known) ∙ clear.1,
      named-other t (vote i).0 x (copies.second_copy names m).0 (vote-second i low high m word.second_known)
          ∙ clear.2,
    )

    clears-with : (t : List (ℕ × Thing)) (i : ℕ) (x : Thing) → 1 ≤ i → i < 1 + many → (xs : List Member)
        → Every IsWord xs → Every (IsClear t) xs → Every (IsClear (with_name t (vote i).0 x)) xs
    clears-with t i x low high [] words clear = tt
    clears-with t i x low high (m ∷ xs) words clear =
        (clear-with t i x low high m words.0 clear.0, clears-with t i x low high xs words.1 clear.1)

    pub local-then : (t : List (ℕ × Thing)) (l r : ℕ) (x : st.LocalTree) (ts : List StmtTree)
        → Rights (f.forms_of_local (At t l r) x)
        → ((m n : ℕ) → Rights (f.forms_of_stmts (At (f.scope_behind_local (At t l r) x) m n) true (listed_stmts ts)))
        → Rights (f.forms_of_stmts (At t l r) true (listed_stmts (st.local x ∷ ts)))
    local-then t l r x ts first later =
        joined (f.forms_of_local (At t l r) x)
        (f.forms_of_stmts (At (f.scope_behind_local (At t l r) x) (l + 1) (r + 0)) true (listed_stmts ts)) first
        (later (l + 1) (r + 0))

    pub simple-then : (t : List (ℕ × Thing)) (l r : ℕ) (x : st.SimpleTree) (ts : List StmtTree)
        → Rights (f.forms_of_simple (At t l r) x)
        → ((m n : ℕ) → Rights (f.forms_of_stmts (At t m n) true (listed_stmts ts)))
        → Rights (f.forms_of_stmts (At t l r) true (listed_stmts (st.simple x ∷ ts)))
    simple-then t l r x ts first later =
        joined (f.forms_of_simple (At t l r) x) (f.forms_of_stmts (At t (l + 0) (r + 0)) true (listed_stmts ts)) first
        (later (l + 0) (r + 0))

    repairs-right : (i : ℕ) (xs : List Member) → 1 ≤ i → i + length xs ≤ 1 + many → Every IsWord xs
        → (t : List (ℕ × Thing)) → Every (IsClear t) xs → ((j : ℕ) → i ≤ j → j < 1 + many → named t (vote j).0 ≡ None)
        → (l r : ℕ)
        → Rights (f.forms_of_stmts (At t l r) true (listed_stmts (copies.repair_from names place i xs)))
    repairs-right i [] low high words t clear fresh l r = tt
    repairs-right i (m ∷ xs) low high words t clear fresh l r =
        let kind = unsigned_of m in
        let x = number_thing kind in
        let after = with_name t (vote i).0 x in
        let inside : i < 1 + many = omega arith in
        let word = words.0 in
        let own = λ (l r : ℕ). holds-number t l r m.name.item word.number clear.0.0 in
        let first = λ (l r : ℕ). holds-number t l r (copies.first_copy names m) word.first clear.0.1 in
        let second = λ (l r : ℕ). holds-number t l r (copies.second_copy names m) word.second clear.0.2 in
        let clear' = clear-with t i x low inside m word clear.0 in
        let voted =
        λ (l r : ℕ). holds-local after l r (vote i) kind (named-new t (vote i).0 x (fresh i (omega arith) inside))
        in
        let own' = λ (l r : ℕ). holds-number after l r m.name.item word.number clear'.0 in
        let first' = λ (l r : ℕ). holds-number after l r (copies.first_copy names m) word.first clear'.1 in
        let second' = λ (l r : ℕ). holds-number after l r (copies.second_copy names m) word.second clear'.2 in
        let local = declared (At t l r) place kind (vote i) (copies.vote_of names place m) in
        let rest = copies.repair_from names place (suc i) xs in
        let take = λ (name : NameId). assigned (At t l r) place name (made.variable place (vote i)) in
        let one = take m.name.item in
        let two = take (copies.first_copy names m) in
        let three = take (copies.second_copy names m) in
        let before =
        local-right (At t l r) place kind (vote i) (copies.vote_of names place m) (fresh i (omega arith) inside)
        (vote-apart i low inside) (((own l r, first l r), (own l r, second l r)), (first l r, second l r)) in
        let later =
        repairs-right (suc i) xs (omega arith) (omega arith) words.1 after
        (clears-with t i x low inside xs words.1 clear.1)
        (λ j above below. named-other t (vote i).0 x (vote j).0
        (votes-differ j i (omega arith) below low inside (λ e. absurd (omega arith)))
        ∙ fresh j (omega arith) below) in
        local-then t l r local (st.simple (st.assign one) ∷ st.simple (st.assign two) ∷ st.simple (st.assign three)
        ∷ rest) before
        (λ l1 r1. simple-then after l1 r1 (st.assign one)
        (st.simple (st.assign two) ∷ st.simple (st.assign three) ∷ rest)
        (assign-right (At after l1 r1) place m.name.item (made.variable place (vote i)) (own' l1 r1)
        (voted l1 r1))
        (λ l2 r2. simple-then after l2 r2 (st.assign two) (st.simple (st.assign three) ∷ rest)
        (assign-right (At after l2 r2) place (copies.first_copy names m) (made.variable place (vote i))
        (first' l2 r2) (voted l2 r2))
        (λ l3 r3. simple-then after l3 r3 (st.assign three) rest
        (assign-right (At after l3 r3) place (copies.second_copy names m) (made.variable place (vote i))
        (second' l3 r3) (voted l3 r3)) later)))

    -- all its members are words
    words-by : (xs : List Member) → Every (λ (m : Member). Own s m.name.item.0) xs
        → Every (λ (q : Key). IsKnown names q.tag q.id) (first_keys names k.name xs)
        → Every (λ (q : Key). IsKnown names q.tag q.id) (second_keys names k.name xs)
        → Every IsNumbered xs → Every HasFirst xs → Every HasSecond xs → Every IsWord xs
    words-by [] own one two numbers firsts seconds = tt
    words-by (m ∷ xs) own one two numbers firsts seconds = (
      record {
        own = own.0;
        first_known = one.0;
        second_known = two.0;
        number = numbers.0;
        first = firsts.0;
        second = seconds.0;
      },
      words-by xs own.1 one.1 two.1 numbers.1 firsts.1 seconds.1,
    )

    words : Every IsWord (members k.items)
    words =
        words-by (members k.items) (of-members (λ (x : Placed NameId). Own s x.item.0) k.items
        (back-of (λ (x : Placed NameId). Own s x.item.0) (n.names_in_base_of k.base) _ c.also.own.1))
        (front-of IsKnownTag (first_keys names k.name (members k.items)) _ known)
        (back-of IsKnownTag (first_keys names k.name (members k.items)) _ known) (own-found s f' class k c) firsts
        seconds

    clear-none : (xs : List Member) → Every (IsClear []) xs
    clear-none [] = tt
    clear-none (m ∷ xs) = ((refl, refl, refl), clear-none xs)

    pub copies-repair-right : (l r : ℕ)
        → Rights (f.forms_of_stmts (At [] l r) true
        (listed_stmts (copies.repair_from names place 1 (members k.items))))
    copies-repair-right l r =
        repairs-right 1 (members k.items) (omega arith) (omega arith) words [] (clear-none (members k.items))
        (λ j above below. refl) l r
