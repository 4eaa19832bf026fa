-- A program that is ready, and all that is known of it and of its protected program.
use Rattle.std.proofs.Common.{◌≡◌, refl, sym, ap, ◌∙◌, ℕ, zero, suc, ◌<◌, ◌≤◌, arith, true, if◌then◌else◌, List, [], ◌∷◌, ◌++◌, map, length, Option, Some, None, is_some, option_map}
use Rattle.std.specs.List.{flat_map, filter}
use Rattle.std.proofs.lemmas.Option.{none-some}
use Rattle.agxx_base.specs.declared.ids.NameId.{NameId}
use Rattle.agxx_base.specs.declared.place.Place.{Place}
use Rattle.agxx_base.specs.declared.kind.Mode.TheVariants as mode
use Rattle.agxx_base.specs.declared.rule.Rule.{Rule}
use Rattle.agxx_base.specs.declared.rule.Rule.TheVariants as rule
use Rattle.cxx_tree.specs.declared.node.Placed.{Placed}
use Rattle.cxx_tree.specs.declared.program.Member.{Member}
use Rattle.cxx_tree.specs.Limits.{Every}
use Rattle.cxx_tree.specs.ProgramTree as tree
use Rattle.cxx_tree.specs.ProgramTree.{ItemTree, ClassTree, DeclTree, ProgramTree}
use Rattle.cxx_distinct.specs.NamesIn as n
use Rattle.cxx_types.specs.Counts.{most}
use Rattle.cxx_types.specs.Violations.{violations_of}
use Rattle.cxx_rules.specs.Forms.{Form}
use Rattle.cxx_rules.specs.ProgramForms as p
use Rattle.cxx_rules.specs.Rules as rules
use Rattle.cxx_rules.specs.Unless.{with_place, places_in}
use Rattle.cxx_rules.specs.TooMany.{too_many_at}
use Rattle.cxx_rules.specs.UnknownName.{unknown_name_at}
use Rattle.cxx_rules.specs.DeclaredTwice.{declared_twice_at}
use Rattle.cxx_rules.specs.TypesDisagree.{types_disagree_at}
use Rattle.cxx_rules.specs.WrongNumberOfArguments.{wrong_number_of_arguments_at}
use Rattle.cxx_rules.specs.BaseNotDeclaredBefore.{base_not_declared_before_at}
use Rattle.cxx_rules.specs.NotAccessible.{not_accessible_at}
use Rattle.cxx_rules.specs.AddressOfNoGlobalObject.{address_of_no_global_object_at}
use Rattle.cxx_rules.specs.NotAllowedHere.{not_allowed_here_at}
use Rattle.cxx_rules.specs.NoMain.{no_main_at}
use Rattle.cxx_rules.proofs.EachRule.{each_rule}
use Rattle.guards.specs.declared.guard.Guard.{Guard}
use Rattle.guards.specs.Guarding.{guard_of, kind_of}
use Rattle.guard_rules.specs.Parts.{is_guarded, places_of}
use Rattle.guard_rules.specs.TooManyMembers.{member_behind, one_too_many, too_many_members}
use Rattle.guard_rules.specs.MemberReachedFromOutside.{member_reached}
use Rattle.guard_rules.specs.BoolMember.{bool_member}
use Rattle.guard_rules.specs.Violations.{refusals, violations_of_guards}
use Rattle.protect.specs.GuardedParts as g
use Rattle.protect.specs.GeneratedNames.{returns_of, most_returns, most_in_decls, generated_texts, with_generated}
use Rattle.protect_laws.proofs.Exits.{front-of, back-of}
use Rattle.protect_laws.proofs.Known.{every-by}
use Rattle.protect_laws.specs.Guarded.{class_in}
use Rattle.woven_rules.specs.WovenRules.{HasPlainType, IsReady}
use Rattle.woven_rules.proofs.Right.{Rights, Clear, clear-each}
use Rattle.woven_rules.proofs.Members.{members}
use Rattle.woven_rules.proofs.Counting.{AreFew, returns-above}
use Rattle.woven_rules.proofs.Texts.{owns, still-within, PartsKnown, class-known, all-parts-known}
use Rattle.woven_rules.proofs.Found as found
use Rattle.woven_rules.proofs.World.{Setting, Own, weave, ClassFacts}

-- ---- what acceptance says

nothing-at : (names : List (List ℕ)) (q : ProgramTree) (r : Rule) → violations_of names mode.Source q ≡ []
    → rules.violated_at names mode.Source q r ≡ []
nothing-at names q r none = ap (λ vs. map rules.place_of (filter (rules.is_of r) vs)) none

module _ (names : List (List ℕ)) (q : ProgramTree) (none : violations_of names mode.Source q ≡ []) where
  abbrev forms : List Form
  forms = p.forms_of_program names q

  all-clear : (r : Rule) (violated : Form → Option Place)
      → rules.violated_at names mode.Source q r ≡ places_in violated forms → Clear violated forms
  all-clear r violated is = clear-each violated forms (sym is ∙ nothing-at names q r none)

  pub are-few : AreFew (most mode.Source) forms
  are-few = all-clear rule.N10 (too_many_at (most mode.Source)) (each_rule names mode.Source q).too_many

  nine : (fs : List Form) → Clear unknown_name_at fs → Clear declared_twice_at fs → Clear types_disagree_at fs
      → Clear wrong_number_of_arguments_at fs → Clear base_not_declared_before_at fs → Clear not_accessible_at fs
      → Clear address_of_no_global_object_at fs → Clear not_allowed_here_at fs → Clear no_main_at fs → Rights fs
  nine [] c1 c2 c3 c4 c5 c6 c7 c8 c9 = tt
  nine (x ∷ fs) c1 c2 c3 c4 c5 c6 c7 c8 c9 =
      ((c1.0, c2.0, c3.0, c4.0, c5.0, c6.0, c7.0, c8.0, c9.0), nine fs c1.1 c2.1 c3.1 c4.1 c5.1 c6.1 c7.1 c8.1 c9.1)

  pub are-right : Rights forms
  are-right =
      let r = each_rule names mode.Source q in
      nine forms (all-clear rule.N1 unknown_name_at r.unknown_name)
      (all-clear rule.N2 declared_twice_at r.declared_twice)
      (all-clear rule.N3 types_disagree_at r.types_disagree)
      (all-clear rule.N4 wrong_number_of_arguments_at r.wrong_number_of_arguments)
      (all-clear rule.N5 base_not_declared_before_at r.base_not_declared_before)
      (all-clear rule.N6 not_accessible_at r.not_accessible)
      (all-clear rule.N7 address_of_no_global_object_at r.address_of_no_global_object)
      (all-clear rule.N8 not_allowed_here_at r.not_allowed_here) (all-clear rule.N9 no_main_at r.no_main)

-- ---- parts have at most 120 members

none-left : {A : Type 0} (xs ys : List A) → xs ++ ys ≡ [] → xs ≡ []
none-left [] ys e = refl
none-left (x ∷ xs) ys e = absurd (cc e)

none-right : {A : Type 0} (xs ys : List A) → xs ++ ys ≡ [] → ys ≡ []
none-right [] ys e = e
none-right (x ∷ xs) ys e = absurd (cc e)

none-refused : (r : Rule) (ps : List Place) → refusals r ps ≡ [] → ps ≡ []
none-refused r [] e = refl
none-refused r (at ∷ ps) e = absurd (cc e)

not-past : (names : List (List ℕ)) (guards : List Guard) (q : ProgramTree) → violations_of_guards names guards q ≡ []
    → too_many_members guards q ≡ []
not-past names guards q none =
    let rest1 = none-right (refusals rule.P1 (member_reached names guards q)) _ none in
    let rest2 = none-right (refusals rule.P2 (bool_member guards q)) _ rest1 in
    none-refused rule.P3 (too_many_members guards q)
    (none-left (refusals rule.P3 (too_many_members guards q)) _ rest2)

members-few : (k : ℕ) (is : List ItemTree) → member_behind k is ≡ None → length (members is) ≤ k
members-few k [] e = omega arith
members-few zero (tree.label at a ∷ is) e = members-few zero is e
members-few (suc k) (tree.label at a ∷ is) e = members-few (suc k) is e
members-few zero (tree.function f ∷ is) e = members-few zero is e
members-few (suc k) (tree.function f ∷ is) e = members-few (suc k) is e
members-few zero (tree.ctor q ∷ is) e = members-few zero is e
members-few (suc k) (tree.ctor q ∷ is) e = members-few (suc k) is e
members-few zero (tree.dtor q ∷ is) e = members-few zero is e
members-few (suc k) (tree.dtor q ∷ is) e = members-few (suc k) is e
members-few zero (tree.member m ∷ is) e = absurd (none-some m.name.at (sym e))
members-few (suc k) (tree.member m ∷ is) e = let rest = members-few k is e in omega arith

none-told : (o : Option Place) (ps : List Place) → with_place o ps ≡ [] → (o ≡ None) × (ps ≡ [])
none-told None ps e = (refl, e)
none-told (Some at) ps e = absurd (cc e)

kind-guarded : (guards : List Guard) (class : Placed NameId) (ms : List Member)
    → is_some (g.part_with class (kind_of guards class.item) ms) ≡ true → is_guarded guards class.item ≡ true
kind-guarded guards class ms some = by (guard_of guards class.item) some
  where
    by : (o : Option Guard) → is_some (g.part_with class (option_map (λ (y : Guard). y.kind) o) ms) ≡ true
        → is_some o ≡ true
    by None is = absurd (cc is)
    by (Some y) is = refl

part-few : (guards : List Guard) (k : ClassTree) → one_too_many guards (tree.class k) ≡ None
    → is_some (g.part_of guards k) ≡ true → length (members k.items) ≤ 120
part-few guards k e some =
    members-few 120 k.items (sym (ap (λ b. if b then member_behind 120 k.items else None)
    (kind-guarded guards k.name (members k.items) some)) ∙ e)

-- ---- the most values that a function returns

most-above : (k : ℕ) (ds : List DeclTree) → k ≤ most_in_decls k ds
most-above k [] = omega arith
most-above k (tree.class c ∷ ds) = let here = (returns-above k c.items).0 in let rest =
    most-above (most_returns k c.items) ds in omega arith
most-above k (tree.class_name c ∷ ds) = most-above k ds
most-above k (tree.free_function f ∷ ds) = most-above k ds
most-above k (tree.proto f ∷ ds) = most-above k ds
most-above k (tree.global x ∷ ds) = most-above k ds

-- ---- each class

module _ (names : List (List ℕ)) (guards : List Guard) (q : ProgramTree) where
  abbrev pub setting : Setting
  setting =
      record {
        names = with_generated names guards q;
        before = names;
        guards = guards;
        ds = q.decls;
        most =
            most_in_decls 0 q.decls;
      }

  each-facts : (most : ℕ) (ds : List DeclTree) → most_in_decls most ds ≤ most_in_decls 0 q.decls
      → Every (λ (x : Placed NameId). Own setting x.item.0) (n.names_in_each n.names_in_decl ds)
      → Every (λ (x : Placed NameId). x.item.0 < length names) (n.names_in_each n.names_in_decl ds)
      → PartsKnown names guards q ds
      → Every (λ (c : ClassTree). Every HasPlainType c.items) (flat_map class_in ds)
      → places_of (one_too_many guards) ds ≡ []
      → found.OfEach names (with_generated names guards q) (weave setting) (ClassFacts setting) ds
  each-facts m [] top own below known plain few = tt
  each-facts m (tree.class k ∷ ds) top own below known plain few =
      let low = none-told (one_too_many guards (tree.class k)) (places_of (one_too_many guards) ds) few in
      let here = returns-above m k.items in
      let rest = most-above (most_returns m k.items) ds in
      let within = front-of (λ (x : Placed NameId). x.item.0 < length names) (n.names_in_class k) _ below in (
        record {
          own = front-of (λ (x : Placed NameId). Own setting x.item.0) (n.names_in_class k) _ own;
          within =
              every-by (λ (x : Placed NameId). x.item.0 < length names)
              (λ (x : Placed NameId). x.item.0 < length (with_generated names guards q))
              (λ x at. still-within names (generated_texts names guards q) x.item.0 at) (n.names_in_class k) within;
          known = class-known names guards q k within known.0;
          plain = plain.0;
          few = λ some. part-few guards k low.0 some;
          returns =
              every-by (λ i. returns_of i ≤ most_returns m k.items) (λ i. returns_of i ≤ most_in_decls 0 q.decls)
              (λ i at. omega arith) k.items here.1;
        },
        each-facts (most_returns m k.items) ds top
            (back-of (λ (x : Placed NameId). Own setting x.item.0) (n.names_in_class k) _ own)
            (back-of (λ (x : Placed NameId). x.item.0 < length names) (n.names_in_class k) _ below)
            known.1 plain.1 low.1,
      )
  each-facts m (tree.class_name k ∷ ds) top own below known plain few = each-facts m ds top own below known plain few
  each-facts m (tree.free_function f ∷ ds) top own below known plain few =
      each-facts m ds top (back-of (λ (x : Placed NameId). Own setting x.item.0) (n.names_in_function f) _ own)
      (back-of (λ (x : Placed NameId). x.item.0 < length names) (n.names_in_function f) _ below) known plain few
  each-facts m (tree.proto f ∷ ds) top own below known plain few = each-facts m ds top own below known plain few
  each-facts m (tree.global x ∷ ds) top own below known plain few =
      each-facts m ds top (back-of (λ (y : Placed NameId). Own setting y.item.0) (n.names_in_global x) _ own)
      (back-of (λ (y : Placed NameId). y.item.0 < length names) (n.names_in_global x) _ below) known plain few

  module _ (ready : IsReady names guards q) where
    pub own : Every (λ (x : Placed NameId). Own setting x.item.0) (n.names_in_program q)
    own = owns names (generated_texts names guards q) (n.names_in_program q) ready.texts ready.own

    pub each : found.OfEach names (with_generated names guards q) (weave setting) (ClassFacts setting) q.decls
    each =
        each-facts 0 q.decls (omega arith) own ready.texts (all-parts-known names guards q) ready.plain
        (not-past names guards q ready.guarded)
