-- The items that a part adds to a class violate no rule.
use Rattle.std.proofs.Common.{◌≡◌, refl, sym, ap, ◌∙◌, subst, ℕ, arith, Bool, true, false, not, List, [], ◌∷◌, ◌++◌, map, Option, Some, None, is_some}
use Rattle.std.specs.Prelude.{nat_lt}
use Rattle.std.specs.List.{list_any}
use Rattle.std.proofs.lemmas.Bool.Decides.{nat_tests}
use Rattle.agxx_base.specs.declared.ids.ClassId.{ClassId}
use Rattle.agxx_base.specs.declared.ids.NameId.{NameId}
use Rattle.agxx_base.specs.declared.place.Place.{Place}
use Rattle.cxx_tree.specs.declared.node.Placed.{Placed}
use Rattle.cxx_tree.specs.declared.program.Access.{Access}
use Rattle.cxx_tree.specs.declared.program.Access.TheVariants as access
use Rattle.cxx_tree.specs.declared.program.Member.{Member}
use Rattle.cxx_tree.specs.declared.program.TypeName.{TypeName}
use Rattle.cxx_tree.specs.declared.program.TypeName.TheVariants as type_name
use Rattle.cxx_tree.specs.Limits.{Every}
use Rattle.cxx_tree.specs.StmtTree.{StmtTree, listed_stmts}
use Rattle.cxx_tree.specs.ProgramTree as tree
use Rattle.cxx_tree.specs.ProgramTree.{ItemTree, ClassTree}
use Rattle.cxx_names.specs.declared.declarations.ClassInfo.{ClassInfo}
use Rattle.cxx_names.specs.Declarations as d
use Rattle.cxx_names.specs.LookUp as look
use Rattle.cxx_names.specs.Tables.{named}
use Rattle.cxx_types.specs.declared.classes.ItemsSeen.{ItemsSeen}
use Rattle.cxx_types.specs.Classes as classes
use Rattle.cxx_rules.specs.Sites.{Site}
use Rattle.cxx_rules.specs.Forms as form
use Rattle.cxx_rules.specs.StmtForms as f
use Rattle.cxx_rules.specs.ProgramForms as p
use Rattle.cxx_rules.specs.Unless.{unless}
use Rattle.cxx_rules.specs.UnknownName as n1
use Rattle.cxx_rules.specs.DeclaredTwice as n2
use Rattle.cxx_rules.specs.NotAllowedHere as n8
use Rattle.cxx_make.specs.Made as made
use Rattle.guards.specs.declared.guard.GuardKind.{GuardKind}
use Rattle.guards.specs.Guarding.{kind_of}
use Rattle.entry_count.specs.PartCode as code
use Rattle.protect.specs.GuardedParts as g
use Rattle.protect.specs.Protected as z
use Rattle.woven_rules.proofs.Wider.{class-same, lineage-same}
use Rattle.woven_rules.proofs.Right.{Right, Rights, joined}
use Rattle.woven_rules.proofs.Standing.{Stand}
use Rattle.woven_rules.proofs.Lineages.{base_lineage}
use Rattle.woven_rules.proofs.Members.{members}
use Rattle.woven_rules.proofs.Keys.{Key, name_of, IsKnownKey, IsAbsent, Keyed, part, extra_members, keys_of, items_of, six_items, all-keyed, every-both}
use Rattle.woven_rules.proofs.Found.{inside_class, no-class}
use Rattle.woven_rules.proofs.World.{Setting, Own, source_of, woven_of, added_to, IsFound, Facts, guard_in}
use Rattle.woven_rules.proofs.Inherits.{none-any, keys-known, key-foreign, before_info, after_info, wider}
use Rattle.woven_rules.proofs.OwnItems.{opened, shown, added-is, stands, IsNowhere, nowhere, IsNumMember, extra-numbers}
use Rattle.woven_rules.proofs.PartBodies.{enter-right, leave-right}
use Rattle.woven_rules.proofs.CodeBodies.{repair-right, renew-right}
use Rattle.woven_rules.proofs.WrappedClasses.{seen_after}
use Rattle.protect_laws.proofs.Known.{every-by}

-- the types of members that are added
abbrev pub IsAddedType : TypeName → Type 0
IsAddedType (type_name.Num k) = Unit {0}
IsAddedType type_name.Int = ⊥
IsAddedType type_name.Unsigned = ⊥
IsAddedType type_name.Void = ⊥
IsAddedType (type_name.Pointer class) = ⊥
IsAddedType type_name.Mutex = Unit {0}

pointed-none : (w : Site) (t : Placed TypeName) (u : TypeName) → IsAddedType u → n1.unknown_pointed w t u ≡ None
pointed-none w t (type_name.Num k) is = refl
pointed-none w t type_name.Int is = absurd is
pointed-none w t type_name.Unsigned is = absurd is
pointed-none w t type_name.Void is = absurd is
pointed-none w t (type_name.Pointer class) is = absurd is
pointed-none w t type_name.Mutex is = refl

void-none : (at : Place) (u : TypeName) → IsAddedType u → n8.void_variable at u ≡ None
void-none at (type_name.Num k) is = refl
void-none at type_name.Int is = absurd is
void-none at type_name.Unsigned is = absurd is
void-none at type_name.Void is = absurd is
void-none at (type_name.Pointer class) is = absurd is
void-none at type_name.Mutex is = refl

pointer-none : (at : Place) (u : TypeName) → IsAddedType u → unless (not (classes.is_pointer u)) at ≡ None
pointer-none at (type_name.Num k) is = refl
pointer-none at type_name.Int is = absurd is
pointer-none at type_name.Unsigned is = absurd is
pointer-none at type_name.Void is = absurd is
pointer-none at (type_name.Pointer class) is = absurd is
pointer-none at type_name.Mutex is = refl

not-before : (j : ℕ) → nat_lt j j ≡ false
not-before j = grind (arith, nat_tests)

module _ (s : Setting) (f' : Facts s) (class : ℕ) (k : ClassTree) (c : IsFound s class k) (index m n : ℕ) where
  -- in the class
  abbrev pub inner : Site
  inner =
      record {
        names = s.names;
        declared = woven_of s;
        context = inside_class class index;
        scope = [];
        locals = m;
        returns = n;
      }

  abbrev info : ClassInfo
  info = after_info s f' class k c

  opening-right : (at : Place) (a : Access) (seen : ItemsSeen) (is : List ItemTree)
      → ((u : ItemsSeen) → u.index ≡ opened a seen.index → Rights (p.forms_of_items inner k.base info u is))
      → Rights (p.forms_of_items inner k.base info seen (z.opening at a ++ is))
  opening-right at access.Public seen is h = h seen refl
  opening-right at access.Protected seen is h = h (classes.next_seen (tree.label at access.Public) seen) refl
  opening-right at access.Private seen is h = h (classes.next_seen (tree.label at access.Public) seen) refl

  module _ (some : is_some (g.part_of s.guards k) ≡ true) where
    item-none : (j : ℕ) (b : ClassId)
        → ((x : ClassInfo) → d.class_at (woven_of s) b ≡ Some x → named x.items j ≡ None)
        → look.has_item_by j (d.class_at (woven_of s) b) ≡ false
    item-none j b none = by (d.class_at (woven_of s) b) refl
      where
        by : (o : Option ClassInfo) → d.class_at (woven_of s) b ≡ o
            → look.has_item_by j (d.class_at (woven_of s) b) ≡ false
        by None at = ap (look.has_item_by j) at
        by (Some x) at = ap (look.has_item_by j) at ∙ ap is_some (none x at)

    inherited-by : (o : Option ClassId) (x : Key) (name : Placed NameId) → name.item.0 ≡ (name_of s.names x).0
        → Every (λ (b : ClassId). (y : ClassInfo) → d.class_at (woven_of s) b ≡ Some y → IsAbsent s.names y x)
        (base_lineage (source_of s) f'.built o) → n2.is_inherited inner o name ≡ false
    inherited-by None x name same none = refl
    inherited-by (Some base) x name same none =
        ap (look.has_item (woven_of s) base) same
        ∙ (ap (list_any (λ (b : ClassId). look.has_item_by (name_of s.names x).0 (d.class_at (woven_of s) b)))
        (lineage-same (Own s) (source_of s) (woven_of s) f'.wide base)
        ∙ none-any (λ (b : ClassId). look.has_item_by (name_of s.names x).0 (d.class_at (woven_of s) b))
        (look.lineage (source_of s) base)
        (every-by (λ (b : ClassId). (y : ClassInfo) → d.class_at (woven_of s) b ≡ Some y → IsAbsent s.names y x)
        (λ (b : ClassId). look.has_item_by (name_of s.names x).0 (d.class_at (woven_of s) b) ≡ false)
        (λ b absent. item-none (name_of s.names x).0 b (λ y at. (absent y at).0)) (look.lineage (source_of s) base)
        none))

    name-right : (j : ℕ) (x : Key) (name : Placed NameId) → name.item.0 ≡ (name_of s.names x).0
        → IsNowhere s f' class k c some x → named info.items name.item.0 ≡ Some j
        → Right (form.item_name inner info j name)
    name-right j x name same none at = (
      refl,
      ap (λ o. unless (not (classes.either (look.stands_before o j) (n2.is_inherited inner info.base name))) name.at)
          at
          ∙ (ap (λ b. unless (not (classes.either b (n2.is_inherited inner info.base name))) name.at) (not-before j)
          ∙ (ap (λ o. unless (not (n2.is_inherited inner o name)) name.at) (wider s f' class k c).base
          ∙ ap (λ b. unless (not b) name.at) (inherited-by (before_info s f' class k c).base x name same none))),
      refl,
      refl,
      refl,
      refl,
      refl,
      refl,
      refl,
    )

    apart-right : (x : Key) (name : Placed NameId) → name.item.0 ≡ (name_of s.names x).0 → IsKnownKey s.names x
        → Right (form.apart inner name)
    apart-right x name same known = (
      refl,
      ap (λ o. n2.later_of index name (n2.info_of inner o))
          (ap (d.class_named (woven_of s)) same
          ∙ (class-same (Own s) (source_of s) (woven_of s) f'.wide (name_of s.names x).0
          ∙ no-class (Own s) s.before (name_of s.names x).0 (key-foreign s f' x known) d.empty refl s.ds f'.own)),
      refl,
      refl,
      refl,
      refl,
      refl,
      refl,
      refl,
    )

    -- an item by itself violates no rule
    abbrev IsGoodItem : ItemTree → Type 0
    IsGoodItem (tree.label at a) = ⊥
    IsGoodItem (tree.member q) = IsAddedType q.type_name.item
    IsGoodItem (tree.function h) = Rights (p.forms_of_function (p.in_function inner h.result.item) h)
    IsGoodItem (tree.ctor h) = ⊥
    IsGoodItem (tree.dtor h) = ⊥

    counted-right : (kind : form.Kind) (j : ℕ) (at : Place) → Right (form.counted kind j at)
    counted-right kind j at = (refl, refl, refl, refl, refl, refl, refl, refl, refl)

    items-right : (is : List ItemTree) (ks : List Key) → Keyed s.names is ks → (seen : ItemsSeen)
        → Stand info access.Public seen.index is → Every (IsNowhere s f' class k c some) ks
        → Every (IsKnownKey s.names) ks → Every IsGoodItem is
        → Rights (p.forms_of_items inner k.base info seen is)
    items-right [] ks keyed seen stands none known good = tt
    items-right (i ∷ is) [] keyed seen stands none known good = absurd keyed
    items-right (tree.label at a ∷ is) (x ∷ ks) keyed seen stands none known good = absurd good.0
    items-right (tree.member q ∷ is) (x ∷ ks) keyed seen stands none known good =
        let rest =
        items-right is ks keyed.1 (classes.next_seen (tree.member q) seen) stands.1 none.1 known.1 good.1 in (
          counted-right form.members seen.members q.name.at,
          (
            (
              pointed-none inner q.type_name q.type_name.item good.0,
              refl,
              refl,
              refl,
              refl,
              refl,
              refl,
              void-none
                  q.type_name.at q.type_name.item good.0,
              refl,
            ),
            (
              (refl, refl, refl, refl, refl, refl, refl, pointer-none q.name.at q.type_name.item good.0, refl),
              (
                name-right seen.index x q.name keyed.0 none.0 stands.0.0,
                (apart-right x q.name keyed.0 known.0, rest),
              ),
            ),
          ),
        )
    items-right (tree.function h ∷ is) (x ∷ ks) keyed seen stands none known good =
        let rest =
        items-right is ks keyed.1 (classes.next_seen (tree.function h) seen) stands.1 none.1 known.1 good.1 in (
          counted-right form.methods seen.methods h.name.at,
          (
            name-right seen.index x h.name keyed.0 none.0 stands.0.0,
            (
              apart-right x h.name keyed.0 known.0,
              joined (p.forms_of_function (p.in_function inner h.result.item) h)
                  (p.forms_of_items inner k.base info (classes.next_seen (tree.function h) seen) is) good.0 rest,
            ),
          ),
        )
    items-right (tree.ctor h ∷ is) (x ∷ ks) keyed seen stands none known good = absurd good.0
    items-right (tree.dtor h ∷ is) (x ∷ ks) keyed seen stands none known good = absurd good.0

    -- ---- the items of the part

    abbrev ms : List Member
    ms = members k.items

    procedure-good : (name : NameId) (ts : List StmtTree)
        → Rights (f.forms_of_stmts (p.with_params (p.in_function inner type_name.Void) []) true (listed_stmts ts))
        → IsGoodItem (tree.function (made.procedure k.name.at name ts))
    procedure-good name ts body = ((refl, refl, refl, refl, refl, refl, refl, refl, refl), body)

    abbrev kind : GuardKind
    kind = guard_in s k

    extras-good : (xs : List Member) → Every IsNumMember xs → Every IsGoodItem (map tree.member xs)
    extras-good [] numbers = tt
    extras-good (q ∷ xs) numbers = (subst IsAddedType (sym numbers.0.1) tt, extras-good xs numbers.1)

    six-good : Every IsGoodItem (six_items s.names kind k.name ms)
    six-good = (
      tt,
      (
        tt,
        (
          procedure-good (code.repair s.names k.name.item) ((z.code_of kind).repair s.names (part s.names k.name ms))
              (repair-right s f' class k c some index m n),
          (
            procedure-good (code.renew s.names k.name.item) ((z.code_of kind).renew s.names (part s.names k.name ms))
                (renew-right s f' class k c some index m n),
            (
              procedure-good (code.enter s.names k.name.item) (code.enter_body s.names k.name.at k.name.item)
                  (enter-right s f' class k c some index m n),
              (
                procedure-good (code.leave s.names k.name.item) (code.leave_body s.names k.name.at k.name.item)
                    (leave-right s f' class k c some index m n),
                tt,
              ),
            ),
          ),
        ),
      ),
    )

    all-good : Every IsGoodItem (items_of s.names kind k.name ms)
    all-good =
        every-both IsGoodItem (map tree.member (extra_members s.names kind k.name ms))
        (six_items s.names kind k.name ms)
        (extras-good (extra_members s.names kind k.name ms) (extra-numbers s.names kind k.name ms)) six-good

    part-right : Rights (p.forms_of_items inner k.base info (seen_after classes.none_seen k.items) (added_to s k))
    part-right =
        subst (λ is. Rights (p.forms_of_items inner k.base info (seen_after classes.none_seen k.items) is))
        (sym (added-is s f' class k c some))
        (opening-right k.at (shown s f' class k c) (seen_after classes.none_seen k.items)
        (items_of s.names kind k.name ms)
        (λ u at. items-right (items_of s.names kind k.name ms) (keys_of s.names kind k.name ms)
        (all-keyed s.names k.name kind ms) u
        (subst (λ j. Stand info access.Public j (items_of s.names kind k.name ms)) (sym at)
        (stands s f' class k c some))
        (nowhere s f' class k c some) (keys-known s k c.also some) all-good))

  pub none-added : (kind : Option GuardKind) (xs : List Member) → is_some (g.part_with k.name kind xs) ≡ false
      → z.added s.names k (g.part_with k.name kind xs) ≡ []
  none-added None xs none = refl
  none-added (Some kind) [] none = refl
  none-added (Some kind) (q ∷ xs) none = absurd (cc none)

  pub added-right : Rights (p.forms_of_items inner k.base info (seen_after classes.none_seen k.items) (added_to s k))
  added-right = by (is_some (g.part_of s.guards k)) refl
    where
      by : (b : Bool) → is_some (g.part_of s.guards k) ≡ b
          → Rights (p.forms_of_items inner k.base info (seen_after classes.none_seen k.items) (added_to s k))
      by true some = part-right some
      by false none =
          subst (λ is. Rights (p.forms_of_items inner k.base info (seen_after classes.none_seen k.items) is))
          (sym (none-added (kind_of s.guards k.name.item) (members k.items) none)) tt
