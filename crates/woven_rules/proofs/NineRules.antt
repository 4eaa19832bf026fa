-- No rule but, maybe, that there are too many of something is violated in a protected program.
use Rattle.std.proofs.Common.{◌≡◌, ◌≢◌, refl, sym, ap, ◌∙◌, ℕ, suc, ◌<◌, true, false, if◌then◌else◌, List, [], ◌∷◌, map, Option, None, codes}
use Rattle.agxx_base.specs.declared.place.Place.{Place}
use Rattle.cxx_tree.specs.ProgramTree as tree
use Rattle.cxx_tree.specs.ProgramTree.{ClassTree, DeclTree, ProgramTree}
use Rattle.cxx_names.specs.Declarations as d
use Rattle.cxx_distinct.specs.NamesIn as n
use Rattle.cxx_types.specs.Programs as programs
use Rattle.cxx_types.specs.Programs.{outside}
use Rattle.cxx_rules.specs.Forms as form
use Rattle.cxx_rules.specs.Forms.{Form}
use Rattle.cxx_rules.specs.ProgramForms as p
use Rattle.cxx_rules.specs.Rules as rules
use Rattle.cxx_rules.specs.Unless.{unless, places_in}
use Rattle.guards.specs.declared.guard.Guard.{Guard}
use Rattle.protect.specs.Protected as z
use Rattle.protect.specs.GeneratedNames.{with_generated}
use Rattle.woven_rules.specs.WovenRules.{IsReady, Keeps}
use Rattle.woven_rules.proofs.Named.{value-foreign, value-differ}
use Rattle.woven_rules.proofs.Right.{Right, Rights, clear-all, joined}
use Rattle.woven_rules.proofs.Seen.{OwnNames, own-front, own-back, Both}
use Rattle.woven_rules.proofs.Wider.{class-same}
use Rattle.woven_rules.proofs.WrappedRight.{value_at}
use Rattle.woven_rules.proofs.WrappedPrograms.{IsMade, AreMade, decls-right}
use Rattle.woven_rules.proofs.Found as found
use Rattle.woven_rules.proofs.World.{Setting, Own, source_of, woven_of, weave, parts_of, added_to, ClassFacts, site, IsFound, Facts}
use Rattle.woven_rules.proofs.Procedures.{enters-called, leaves-called-back}
use Rattle.woven_rules.proofs.AddedRight.{added-right}
use Rattle.woven_rules.proofs.Assembled.{setting, are-right}
use Rattle.woven_rules.proofs.Ready.{facts, rights, owned}
use Rattle.protect_laws.proofs.Known.{every-by}

module _ (s : Setting) (f : Facts s) where
  foreign : (i j : ℕ) → i < s.most → Own s j → (value_at s.names i).0 ≢ j
  foreign i j below own = value-foreign s.names s.most f.values s.before i j below own

  differ : (i j : ℕ) → i < s.most → j < s.most → i ≢ j → (value_at s.names i).0 ≢ (value_at s.names j).0
  differ i j below also other = value-differ s.names s.most f.values f.few i j below also other

  abbrev both : Both (Own s)
  both = record {
    d = source_of s;
    z = woven_of s;
    wide = f.wide;
    before = s.before;
    after = s.names;
    texts = λ k is. is.1;
    context = outside 0;
    s = [];
    t = [];
    same = λ k own. refl;
    l = 0;
    r = 0;
    m = 0;
    n = 0;
  }

  no-class-value : (i : ℕ) → i < s.most → d.class_named (woven_of s) (value_at s.names i).0 ≡ None
  no-class-value i below =
      class-same (Own s) (source_of s) (woven_of s) f.wide (value_at s.names i).0
      ∙ found.no-class (Own s) s.before (value_at s.names i).0 (λ j own e. foreign i j below own (sym e)) d.empty refl
      s.ds f.own

  made : (class : ℕ) (k : ClassTree) → IsFound s class k
      → IsMade (Own s) s.most s.names foreign differ (parts_of s) (added_to s) both class k
  made class k c = record {
    info = (d.class_items c.y (weave s k)).info;
    is = c.woven_is;
    inside =
        λ index. record {
          enters = enters-called s f class k c;
          leaves = leaves-called-back s f class k c;
          classes =
              no-class-value;
        };
    right = λ index. added-right s f class k c index 0 0;
    plain = c.also.plain;
    few = c.also.returns;
  }

  all-made : (class : ℕ) (ds : List DeclTree)
      → found.AllFound s.before s.names (weave s) (ClassFacts s) (site s) (woven_of s) class ds
      → AreMade (Own s) s.most s.names foreign differ (parts_of s) (added_to s) both class ds
  all-made class [] each = tt
  all-made class (tree.class k ∷ ds) each = (made class k each.0, all-made (suc class) ds each.1)
  all-made class (tree.class_name k ∷ ds) each = all-made class ds each
  all-made class (tree.free_function g ∷ ds) each = all-made class ds each
  all-made class (tree.proto g ∷ ds) each = all-made class ds each
  all-made class (tree.global g ∷ ds) each = all-made class ds each

  -- ---- `main`

  abbrev woven_decl : DeclTree → DeclTree
  woven_decl = found.woven_decl s.before s.names (weave s) (ClassFacts s)

  main-same : (ds : List DeclTree) → OwnNames (Own s) (n.names_in_each n.names_in_decl ds)
      → programs.has_main s.names (map woven_decl ds) ≡ programs.has_main s.before ds
  main-same [] own = refl
  main-same (tree.class k ∷ ds) own = main-same ds (own-back (Own s) (n.names_in_class k) _ own)
  main-same (tree.class_name k ∷ ds) own = main-same ds own
  main-same (tree.free_function g ∷ ds) own =
      let name = own-back (Own s) (n.names_in_type g.result) _ (own-front (Own s) (n.names_in_function g) _ own) in
      let text = ap (λ o. d.is_text_by o (codes "main")) name.0.1 in
      ap (λ b. if (if b then (if programs.is_int32 g.result.item then programs.is_empty g.params else false) else
      false) then true else programs.has_main s.names (map woven_decl ds)) text
      ∙ ap (λ b. if programs.is_main s.before (tree.free_function g) then true else b)
      (main-same ds (own-back (Own s) (n.names_in_function g) _ own))
  main-same (tree.proto g ∷ ds) own = main-same ds own
  main-same (tree.global g ∷ ds) own = main-same ds (own-back (Own s) (n.names_in_global g) _ own)

-- ---- whole programs

module _ (names : List (List ℕ)) (guards : List Guard) (q : ProgramTree) (ready : IsReady names guards q) where
  abbrev all : List (List ℕ)
  all = with_generated names guards q

  abbrev after : ProgramTree
  after = z.protected all guards q

  decls-rights : Rights (p.forms_of_decls (p.top all after) programs.none_seen after.decls)
  decls-rights =
      let s = setting names guards q in
      let f = facts names guards q ready in
      decls-right (Own s) s.most s.names (foreign s f) (differ s f) (parts_of s) (added_to s) (both s f)
      (λ i above below. refl) programs.none_seen q.decls
      (all-made s f 0 q.decls f.found) (owned names guards q ready) (rights names guards q ready)

  main-right : Right (form.program all after)
  main-right =
      let s = setting names guards q in
      let before = (are-right names q ready.accepted).0 in (
        refl,
        refl,
        refl,
        refl,
        refl,
        refl,
        refl,
        refl,
        ap (λ b. unless b q.at)
            (main-same s (facts names guards q ready) q.decls (owned names guards q ready)) ∙ before.8,
      )

  pub protected-rights : Rights (p.forms_of_program all after)
  protected-rights = (
    main-right,
    joined (p.forms_of_decls (p.top all after) programs.none_seen after.decls) (form.names after ∷ [])
        decls-rights ((refl, refl, refl, refl, refl, refl, refl, refl, refl), tt),
  )

  kept : (violated : Form → Option Place) → ((x : Form) → Right x → violated x ≡ None)
      → places_in violated (p.forms_of_program all after) ≡ []
  kept violated one =
      clear-all violated (p.forms_of_program all after)
      (every-by Right (λ x. violated x ≡ None) one (p.forms_of_program all after) protected-rights)

-- ---- rule by rule

pub no-unknown-name : Keeps rules.unknown_name
no-unknown-name names guards q ready = kept names guards q ready _ (λ x right. right.0)

pub nothing-declared-twice : Keeps rules.declared_twice
nothing-declared-twice names guards q ready = kept names guards q ready _ (λ x right. right.1)

pub types-agree : Keeps rules.types_disagree
types-agree names guards q ready = kept names guards q ready _ (λ x right. right.2)

pub numbers-of-arguments-agree : Keeps rules.wrong_number_of_arguments
numbers-of-arguments-agree names guards q ready = kept names guards q ready _ (λ x right. right.3)

pub bases-are-declared-before : Keeps rules.base_not_declared_before
bases-are-declared-before names guards q ready = kept names guards q ready _ (λ x right. right.4)

pub all-accessible : Keeps rules.not_accessible
all-accessible names guards q ready = kept names guards q ready _ (λ x right. right.5)

pub addresses-of-global-objects : Keeps rules.address_of_no_global_object
addresses-of-global-objects names guards q ready = kept names guards q ready _ (λ x right. right.6)

pub all-allowed : Keeps rules.not_allowed_here
all-allowed names guards q ready = kept names guards q ready _ (λ x right. right.7)

pub main-is-there : Keeps rules.no_main
main-is-there names guards q ready = kept names guards q ready _ (λ x right. right.8)
