-- The functions of parts, as they are called by their bare names in the functions of a class.
use Rattle.std.proofs.Common.{◌≡◌, ◌≢◌, inl, inr, refl, sym, ap, ◌∙◌, subst, ℕ, suc, Bool, true, false, nat_eq, List, [], ◌∷◌, reverse, Option, Some, None, is_some}
use Rattle.std.proofs.lemmas.Grind.{reverse_onto}
use Rattle.std.proofs.lemmas.Option.{none-some, same_Some}
use Rattle.std.proofs.lemmas.Bool.{eqb-true}
use Rattle.agxx_base.specs.declared.ids.ClassId.{ClassId}
use Rattle.agxx_base.specs.declared.ids.NameId.{NameId}
use Rattle.cxx_tree.specs.declared.node.Placed.{Placed}
use Rattle.cxx_tree.specs.declared.program.Access.{Access}
use Rattle.cxx_tree.specs.declared.program.Access.TheVariants as access
use Rattle.cxx_tree.specs.declared.program.Member.{Member}
use Rattle.cxx_tree.specs.declared.program.TypeName.TheVariants as type_name
use Rattle.cxx_tree.specs.Limits.{Every}
use Rattle.cxx_tree.specs.ProgramTree as tree
use Rattle.cxx_tree.specs.ProgramTree.{ItemTree, ClassTree}
use Rattle.cxx_names.specs.declared.declarations.ClassInfo.{ClassInfo}
use Rattle.cxx_names.specs.declared.declarations.Signature.{Signature}
use Rattle.cxx_names.specs.declared.declarations.Declared.{Declared}
use Rattle.cxx_names.specs.Declarations as d
use Rattle.cxx_names.specs.LookUp as look
use Rattle.cxx_names.specs.Tables.{named}
use Rattle.guards.specs.Guarding.{kind_of}
use Rattle.entry_count.specs.PartCode as code
use Rattle.protect.specs.GuardedParts as g
use Rattle.woven_rules.proofs.Tables.{same-number}
use Rattle.woven_rules.proofs.Wider.{lineage-same}
use Rattle.woven_rules.proofs.Standing.{behind, function_behind, ctor_behind, dtor_behind}
use Rattle.woven_rules.proofs.Lineages.{head-kept}
use Rattle.woven_rules.proofs.PartsFound.{Any, any-by, HasPart, InLineage, parts-in}
use Rattle.woven_rules.proofs.Members.{members}
use Rattle.woven_rules.proofs.Tags as t
use Rattle.woven_rules.proofs.Tags.{Tag, IsExtra}
use Rattle.woven_rules.proofs.Keys.{Key, key, name_of, IsKnownKey, IsAbsent, keys_of, extra_keys, six_keys, apart-each, one-cross, every-both}
use Rattle.woven_rules.proofs.Calls.{IsProcedure}
use Rattle.woven_rules.proofs.Found as found
use Rattle.woven_rules.proofs.World.{Setting, ClassFacts, site, Own, source_of, woven_of, weave, parts_of, IsFound, Facts, guard_in, woven-avoid, IsClass, class-at, absent}
use Rattle.woven_rules.proofs.Inherits.{keys-known, key-foreign, me, after_info, lineage, above}
use Rattle.woven_rules.proofs.OwnItems.{topmost-first, extras-stand, IsNowhere, six-nowhere}
use Rattle.protect_laws.proofs.Exits.{back-of}
use Rattle.protect_laws.proofs.Known.{every-by}

pub every-reverse : {A : Type 0} (P : A → Type 0) (xs : List A) → Every P xs → Every P (reverse xs)
every-reverse P [] all = tt
every-reverse P (x ∷ xs) all =
    subst (Every P) (sym (reverse_onto xs x []))
    (every-both P (reverse xs) (x ∷ []) (every-reverse P xs all.1) (all.0, tt))

-- ---- what is found in a lineage

module _ {A : Type 0} (find : ClassId → Option A) where
  one-found : (c : ClassId) (o : Option A) (found : Option (ClassId × A)) → find c ≡ o
      → ((q : ClassId × A) → found ≡ Some q → find q.0 ≡ Some q.1)
      → (q : ClassId × A) → look.or_next (look.found_in c o) found ≡ Some q → find q.0 ≡ Some q.1
  one-found c None found is h q e = h q e
  one-found c (Some y) found is h q e = subst (λ (r : ClassId × A). find r.0 ≡ Some r.1) (same_Some (c, y) q e) is

  topmost-is : (cs : List ClassId) (found : Option (ClassId × A))
      → ((q : ClassId × A) → found ≡ Some q → find q.0 ≡ Some q.1) → (q : ClassId × A)
      → look.topmost find found cs ≡ Some q → find q.0 ≡ Some q.1
  topmost-is [] found h q e = h q e
  topmost-is (c ∷ cs) found h q e =
      topmost-is cs (look.or_next (look.found_in c (find c)) found) (one-found c (find c) found refl h) q e

  still-found : (cs : List ClassId) (q : ClassId × A) → (r : ClassId × A) × (look.topmost find (Some q) cs ≡ Some r)
  still-found [] q = (q, refl)
  still-found (c ∷ cs) q = by (find c) refl (λ u. still-found cs u)
    where
      by : (o : Option A) → find c ≡ o
          → ((u : ClassId × A) → (r : ClassId × A) × (look.topmost find (Some u) cs ≡ Some r))
          → (r : ClassId × A) × (look.topmost find (look.or_next (look.found_in c (find c)) (Some q)) cs ≡ Some r)
      by None is rest = let more =
          rest q in (more.0, ap (λ o. look.topmost find (look.or_next (look.found_in c o) (Some q)) cs) is ∙ more.1)
      by (Some x) is rest = let more =
          rest (c, x) in (
            more.0,
            ap (λ o. look.topmost find (look.or_next (look.found_in c o) (Some q)) cs) is
                ∙ more.1,
          )

  -- something is found where one of them has something
  some-found : (cs : List ClassId) (found : Option (ClassId × A)) → Any (λ (c : ClassId). is_some (find c) ≡ true) cs
      → (r : ClassId × A) × (look.topmost find found cs ≡ Some r)
  some-found [] found some = absurd some
  some-found (c ∷ cs) found (inl here) = by (find c) refl here
    where
      by : (o : Option A) → find c ≡ o → is_some (find c) ≡ true
          → (r : ClassId × A) × (look.topmost find (look.or_next (look.found_in c (find c)) found) cs ≡ Some r)
      by None is has = let w : true ≡ false = sym has ∙ ap is_some is in absurd (cc w)
      by (Some x) is has = let more =
          still-found cs (c, x) in (
            more.0,
            ap (λ o. look.topmost find (look.or_next (look.found_in c o) found) cs) is
                ∙ more.1,
          )
  some-found (c ∷ cs) found (inr later) = some-found cs (look.or_next (look.found_in c (find c)) found) later

-- ---- a class without members

pub no-members : (is : List ItemTree) → members is ≡ [] → (y : ClassInfo) (shown : Access) (count n : ℕ)
    → (behind y shown count n is).members ≡ y.members
no-members [] none y shown count n = refl
no-members (tree.label at a ∷ is) none y shown count n = no-members is none y a (suc count) n
no-members (tree.member m ∷ is) none y shown count n = absurd (cc none)
no-members (tree.function f ∷ is) none y shown count n =
    no-members is none (function_behind y shown count n f) shown (suc count) (suc n)
no-members (tree.ctor k ∷ is) none y shown count n =
    no-members is none (ctor_behind y shown count n k) shown (suc count) (suc n)
no-members (tree.dtor k ∷ is) none y shown count n =
    no-members is none (dtor_behind y shown count n) shown (suc count) (suc n)

-- ---- functions of parts

abbrev pub procedure : ℕ → Signature
procedure number = d.signature number type_name.Void [] access.Public false

pub record IsVoid (f : Signature) : Type 0 where
  pub result : f.result ≡ type_name.Void
  pub params : f.params ≡ []
  pub is_public : f.access ≡ access.Public
  pub no_main : f.is_main ≡ false

void : (number : ℕ) → IsVoid (procedure number)
void number = record { result = refl; params = refl; is_public = refl; no_main = refl }

module _ (s : Setting) (f : Facts s) where
  -- the function of a part with this tag is declared in its class
  abbrev pub Declares : Tag → Type 0
  Declares a = (class : ℕ) (k : ClassTree) (c : IsFound s class k) → is_some (g.part_of s.guards k) ≡ true
      → (number : ℕ) × (named (after_info s f class k c).methods (name_of s.names (key a k.name.item)).0 ≡ Some
      (procedure number))

  method-at : (class : ℕ) (k : ClassTree) (c : IsFound s class k) (i j : NameId) (number : ℕ) → i ≡ j
      → named (after_info s f class k c).methods i.0 ≡ Some (procedure number)
      → named (after_info s f class k c).methods j.0 ≡ Some (procedure number)
  method-at class k c i j number same at =
      ap (λ (x : NameId). named (after_info s f class k c).methods x.0) (sym same) ∙ at

  pub repair-declared : Declares t.repair
  repair-declared class k c some = let here =
      (extras-stand s f class k c some).1.1.1.1.0.1 in
      (here.0, method-at class k c _ _ here.0 (t.repair-is s.names k.name.item) here.1)

  pub renew-declared : Declares t.renew
  renew-declared class k c some = let here =
      (extras-stand s f class k c some).1.1.1.1.1.0.1 in
      (here.0, method-at class k c _ _ here.0 (t.renew-is s.names k.name.item) here.1)

  pub enter-declared : Declares t.enter
  enter-declared class k c some = let here =
      (extras-stand s f class k c some).1.1.1.1.1.1.0.1 in
      (here.0, method-at class k c _ _ here.0 (t.enter-is s.names k.name.item) here.1)

  pub leave-declared : Declares t.leave
  leave-declared class k c some = let here =
      (extras-stand s f class k c some).1.1.1.1.1.1.1.0.1 in
      (here.0, method-at class k c _ _ here.0 (t.leave-is s.names k.name.item) here.1)

  -- ---- those of the class itself

  module _ (class : ℕ) (k : ClassTree) (c : IsFound s class k) (some : is_some (g.part_of s.guards k) ≡ true) where
    no-method : (x : Key) → IsNowhere s f class k c some x
        → Every (λ (b : ClassId). look.method_by (name_of s.names x).0 (d.class_at (woven_of s) b) ≡ None)
        (above s f class k c)
    no-method x none =
        every-by (λ (b : ClassId). (info : ClassInfo) → d.class_at (woven_of s) b ≡ Some info
        → IsAbsent s.names info x)
        (λ (b : ClassId). look.method_by (name_of s.names x).0 (d.class_at (woven_of s) b) ≡ None)
        (λ b absent. by b (d.class_at (woven_of s) b) refl absent) (above s f class k c) none
      where
        by : (b : ClassId) (o : Option ClassInfo) → d.class_at (woven_of s) b ≡ o
            → ((info : ClassInfo) → d.class_at (woven_of s) b ≡ Some info → IsAbsent s.names info x)
            → look.method_by (name_of s.names x).0 (d.class_at (woven_of s) b) ≡ None
        by b None at absent = ap (look.method_by (name_of s.names x).0) at
        by b (Some info) at absent = ap (look.method_by (name_of s.names x).0) at ∙ (absent info at).2

    own-procedure : (a : Tag) → IsNowhere s f class k c some (key a k.name.item) → Declares a
        → IsProcedure (woven_of s) (Some (me s f class k c)) (name_of s.names (key a k.name.item))
    own-procedure a none declares =
        let here = declares class k c some in
        let find =
        λ (b : ClassId). look.method_by (name_of s.names (key a k.name.item)).0 (d.class_at (woven_of s) b) in
        record {
          owner = me s f class k c;
          function = procedure here.0;
          is =
              ap (λ o. look.function_by (look.topmost find None o)
              (look.free_function (woven_of s) (name_of s.names (key a k.name.item)).0)) (lineage s f class k c)
              ∙ ap (λ o. look.function_by o (look.free_function (woven_of s) (name_of s.names (key a k.name.item)).0))
              (topmost-first find (me s f class k c) (procedure here.0) (above s f class k c)
              (ap (look.method_by (name_of s.names (key a k.name.item)).0) c.woven_is ∙ here.1)
              (no-method (key a k.name.item) none));
          no_result = refl;
          no_params = refl;
          is_public = refl;
          no_main = refl;
        }

    pub repair-called : IsProcedure (woven_of s) (Some (me s f class k c)) (code.repair s.names k.name.item)
    repair-called =
        subst (IsProcedure (woven_of s) (Some (me s f class k c))) (sym (t.repair-is s.names k.name.item))
        (own-procedure t.repair (six-nowhere s f class k c some).1.1.0 repair-declared)

    pub renew-called : IsProcedure (woven_of s) (Some (me s f class k c)) (code.renew s.names k.name.item)
    renew-called =
        subst (IsProcedure (woven_of s) (Some (me s f class k c))) (sym (t.renew-is s.names k.name.item))
        (own-procedure t.renew (six-nowhere s f class k c some).1.1.1.0 renew-declared)

  -- ---- those of the parts of objects

  module _ (a : Tag) (no_extra : IsExtra a → ⊥) (declares : Declares a)
      (numbered : (k : ClassTree) → ClassFacts s k → is_some (g.part_of s.guards k) ≡ true
      → IsKnownKey s.names (key a k.name.item)) where
    -- whatever class has such a function, it is one
    only-void : (name : NameId) → IsKnownKey s.names (key a name) → (b : ClassId) (info : ClassInfo)
        → d.class_at (woven_of s) b ≡ Some info → (h : Signature)
        → named info.methods (name_of s.names (key a name)).0 ≡ Some h → IsVoid h
    only-void name known b info at h is = by-name (class-at s f b info at)
      where
        x : Key
        x = key a name

        nothing : (q : IsClass s f b info)
            → (is_some (g.part_of s.guards q.k) ≡ true
            → Every (λ y. (name_of s.names x).0 ≢ (name_of s.names y).0)
            (keys_of s.names (guard_in s q.k) q.k.name (members q.k.items))) → IsVoid h
        nothing q other =
            absurd (none-some h (sym (absent s f b info q (name_of s.names x).0
            (woven-avoid s (name_of s.names x).0 (key-foreign s f x known) q.k q.is.also other)).2 ∙ is))

        apart : (q : IsClass s f b info) → name.0 ≢ q.k.name.item.0 → IsVoid h
        apart q differ =
            nothing q (λ some. apart-each s.names f.distinct x known
            (keys_of s.names (guard_in s q.k) q.k.name (members q.k.items)) (keys-known s q.k q.is.also some)
            (one-cross s.names (record { at = q.k.name.at; item = name }) q.k.name differ (guard_in s q.k) a no_extra
            (members q.k.items)))

        here : (q : IsClass s f b info) → name.0 ≡ q.k.name.item.0 → (t : Bool) → is_some (g.part_of s.guards q.k) ≡ t
            → IsVoid h
        here q same false none = nothing q (λ some. let w : true ≡ false = sym some ∙ none in absurd (cc w))
        here q same true some =
            let one = declares b.0 q.k q.is some in
            let at_name : named info.methods (name_of s.names x).0 ≡ Some (procedure one.0) =
            ap (λ (u : ClassInfo). named u.methods (name_of s.names x).0) q.info_is
            ∙ (ap (λ j. named (after_info s f b.0 q.k q.is).methods
            (name_of s.names (key a (record { 0 = j }))).0) same ∙ one.1) in
            subst IsVoid (same_Some (procedure one.0) h (sym at_name ∙ is)) (void one.0)

        by-name : IsClass s f b info → IsVoid h
        by-name q = by (nat_eq name.0 q.k.name.item.0) refl
          where
            by : (t : Bool) → nat_eq name.0 q.k.name.item.0 ≡ t → IsVoid h
            by true e = here q (eqb-true name.0 q.k.name.item.0 e) (is_some (g.part_of s.guards q.k)) refl
            by false e =
                apart q (λ same. let w : true ≡ false = sym (same-number q.k.name.item.0)
                ∙ (ap (λ j. nat_eq j q.k.name.item.0) (sym same) ∙ e) in cc w)

    -- a class with a part has its function
    has-function : (name : NameId) (b : ClassId) → HasPart s.guards (source_of s) f.built name b
        → IsKnownKey s.names (key a name)
        × (is_some (look.method_by (name_of s.names (key a name)).0 (d.class_at (woven_of s) b)) ≡ true)
    has-function name b part =
        let q =
        found.class-of s.before s.names (weave s) (ClassFacts s) (site s) (woven_of s) s.ds f.found refl b
        part.info part.is in
        let k = q.0 in
        let x = (d.class_items q.1.x k).info in
        let same : part.info ≡ x = same_Some part.info x (sym part.is ∙ q.1.source_is) in
        let named_so : k.name.item ≡ name =
        sym (ap (λ (u : Placed NameId). u.item)
        (head-kept k.items (d.class_begun q.1.x k) (d.default_access k.word) 0 q.1.x.numbered).0)
        ∙ (ap (λ (u : ClassInfo). u.name.item) (sym same) ∙ part.name_is) in
        let some =
        has-part k (ap (kind_of s.guards) named_so ∙ part.guarded)
        (λ none. let empty = no-members k.items none (d.class_begun q.1.x k) (d.default_access k.word) 0
        q.1.x.numbered in
        let w : [] ≡ part.first ∷ part.others =
        sym empty ∙ (ap (λ (u : ClassInfo). u.members) (sym same) ∙ part.members) in cc w) in
        let one = declares b.0 k q.1 some in (
          subst (λ (i : NameId). IsKnownKey s.names (key a i)) named_so (numbered k q.1.also some),
          subst (λ (i : NameId). is_some
              (look.method_by (name_of s.names (key a i)).0 (d.class_at (woven_of s) b)) ≡ true) named_so
              (ap (λ o. is_some (look.method_by (name_of s.names (key a k.name.item)).0 o)) q.1.woven_is
              ∙ ap is_some one.1),
        )
      where
        has-part : (k : ClassTree) → kind_of s.guards k.name.item ≡ Some part.kind → (members k.items ≡ [] → ⊥)
            → is_some (g.part_of s.guards k) ≡ true
        has-part k guarded some =
            ap (λ o. is_some (g.part_with k.name o (members k.items))) guarded ∙ by (members k.items) some
          where
            by : (xs : List Member) → (xs ≡ [] → ⊥) → is_some (g.part_with k.name (Some part.kind) xs) ≡ true
            by [] any = absurd (any refl)
            by (m ∷ xs) any = refl

    any-known : (name : NameId) (cs : List ClassId) → Any (HasPart s.guards (source_of s) f.built name) cs
        → IsKnownKey s.names (key a name)
    any-known name [] some = absurd some
    any-known name (c ∷ cs) (inl here) = (has-function name c here).0
    any-known name (c ∷ cs) (inr later) = any-known name cs later

    -- the function of a part of an object is called by its bare name in functions of its class
    part-called : (name : NameId) (c : ClassId) → InLineage s.guards (source_of s) f.built c name
        → IsProcedure (woven_of s) (Some c) (name_of s.names (key a name))
    part-called name c some =
        let j = (name_of s.names (key a name)).0 in
        let find = λ (b : ClassId). look.method_by j (d.class_at (woven_of s) b) in
        let has =
        any-by (HasPart s.guards (source_of s) f.built name) (λ (b : ClassId). is_some (find b) ≡ true)
        (λ b part. (has-function name b part).1) (look.lineage (source_of s) c) some in
        let found = some-found find (look.lineage (source_of s) c) None has in
        let here : look.method_named (woven_of s) c j ≡ Some found.0 =
        ap (look.topmost find None) (lineage-same (Own s) (source_of s) (woven_of s) f.wide c) ∙ found.1 in
        let at =
        topmost-is find (look.lineage (source_of s) c) None (λ q e. absurd (none-some q e)) found.0 found.1 in
        let is =
        by (any-known name (look.lineage (source_of s) c) some) found.0.0 found.0.1
        (d.class_at (woven_of s) found.0.0) refl at in
        record {
          owner = found.0.0;
          function = found.0.1;
          is = ap (λ o. look.function_by o (look.free_function (woven_of s) j)) here;
          no_result = is.result;
          no_params = is.params;
          is_public = is.is_public;
          no_main = is.no_main;
        }
      where
        by : IsKnownKey s.names (key a name) → (b : ClassId) (h : Signature) (o : Option ClassInfo)
            → d.class_at (woven_of s) b ≡ o
            → look.method_by (name_of s.names (key a name)).0 (d.class_at (woven_of s) b) ≡ Some h → IsVoid h
        by known b h None at is =
            absurd (none-some h (sym (ap (look.method_by (name_of s.names (key a name)).0) at) ∙ is))
        by known b h (Some info) at is =
            only-void name known b info at h (sym (ap (look.method_by (name_of s.names (key a name)).0) at) ∙ is)

    all-called : (class : ℕ) (k : ClassTree) → IsFound s class k
        → Every (λ name. IsProcedure (woven_of s) (Some (record { 0 = class })) (name_of s.names (key a name)))
        (parts_of s k)
    all-called class k c =
        let lists = ap (λ (x : Declared). g.parts_named x (g.guarded_parts s.guards x) k.name.item) f.same in
        let mine = ap (g.parts_by (g.guarded_parts s.guards (source_of s))) c.named_is in
        subst (Every (λ name. IsProcedure (woven_of s) (Some (record { 0 = class })) (name_of s.names (key a name))))
        (sym (lists ∙ mine))
        (every-by (InLineage s.guards (source_of s) f.built (record { 0 = class }))
        (λ name. IsProcedure (woven_of s) (Some (record { 0 = class })) (name_of s.names (key a name)))
        (λ name some. part-called name (record { 0 = class }) some)
        (g.parts_by (g.guarded_parts s.guards (source_of s)) (Some (record { 0 = class })))
        (parts-in s.guards (source_of s) f.built (record { 0 = class })))

  -- ---- entering and leaving

  six-known : (k : ClassTree) → ClassFacts s k → is_some (g.part_of s.guards k) ≡ true
      → Every (IsKnownKey s.names) (six_keys s.names k.name)
  six-known k facts some =
      back-of (IsKnownKey s.names) (extra_keys s.names (guard_in s k) k.name (members k.items)) _
      (keys-known s k facts some)

  pub enters-called : (class : ℕ) (k : ClassTree) → IsFound s class k
      → Every (λ name. IsProcedure (woven_of s) (Some (record { 0 = class })) (code.enter s.names name))
      (parts_of s k)
  enters-called class k c =
      every-by (λ name. IsProcedure (woven_of s) (Some (record { 0 = class })) (name_of s.names (key t.enter name)))
      (λ name. IsProcedure (woven_of s) (Some (record { 0 = class })) (code.enter s.names name))
      (λ name is. subst (IsProcedure (woven_of s) (Some (record { 0 = class }))) (sym (t.enter-is s.names name)) is)
      (parts_of s k)
      (all-called t.enter (λ e. e) enter-declared (λ k facts some. (six-known k facts some).1.1.1.1.0) class k c)

  leaves-called : (class : ℕ) (k : ClassTree) → IsFound s class k
      → Every (λ name. IsProcedure (woven_of s) (Some (record { 0 = class })) (code.leave s.names name))
      (parts_of s k)
  leaves-called class k c =
      every-by (λ name. IsProcedure (woven_of s) (Some (record { 0 = class })) (name_of s.names (key t.leave name)))
      (λ name. IsProcedure (woven_of s) (Some (record { 0 = class })) (code.leave s.names name))
      (λ name is. subst (IsProcedure (woven_of s) (Some (record { 0 = class }))) (sym (t.leave-is s.names name)) is)
      (parts_of s k)
      (all-called t.leave (λ e. e) leave-declared (λ k facts some. (six-known k facts some).1.1.1.1.1.0) class k c)

  pub leaves-called-back : (class : ℕ) (k : ClassTree) → IsFound s class k
      → Every (λ name. IsProcedure (woven_of s) (Some (record { 0 = class })) (code.leave s.names name))
      (reverse (parts_of s k))
  leaves-called-back class k c =
      every-reverse (λ name. IsProcedure (woven_of s) (Some (record { 0 = class })) (code.leave s.names name))
      (parts_of s k) (leaves-called class k c)
