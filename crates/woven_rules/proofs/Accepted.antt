-- In a protected program there are not too many of anything, and it violates no rule.
use Rattle.std.proofs.Common.{◌≡◌, refl, sym, ap, ◌∙◌, ℕ, arith, if◌then◌else◌, List, [], ◌∷◌, map, None}
use Rattle.std.specs.List.{filter}
use Rattle.agxx_base.specs.declared.fault.Refusal.{Refusal}
use Rattle.agxx_base.specs.declared.kind.Mode.TheVariants as mode
use Rattle.agxx_base.specs.declared.rule.Rule.{Rule}
use Rattle.agxx_base.specs.declared.rule.Rule.TheVariants as rule
use Rattle.agxx_base.specs.Refusals.{rank, least}
use Rattle.cxx_tree.specs.ProgramTree.{ProgramTree}
use Rattle.cxx_distinct.specs.NamesIn.{names_in_program}
use Rattle.cxx_distinct.specs.Sights.{first_sights}
use Rattle.cxx_types.specs.Counts.{most}
use Rattle.cxx_types.specs.Programs as programs
use Rattle.cxx_types.specs.Violations.{violations_of}
use Rattle.cxx_rules.specs.Forms as form
use Rattle.cxx_rules.specs.ProgramForms as p
use Rattle.cxx_rules.specs.Rules as rules
use Rattle.cxx_rules.specs.TooMany.{too_many_at}
use Rattle.cxx_rules.proofs.EachRule.{each_rule}
use Rattle.guards.specs.declared.guard.Guard.{Guard}
use Rattle.protect.specs.Protected as z
use Rattle.protect.specs.GeneratedNames.{with_generated}
use Rattle.woven_rules.specs.WovenRules.{IsReady, Keeps, KeepsEachRule, ProtectedIsAccepted}
use Rattle.woven_rules.proofs.Tables.{same-number}
use Rattle.woven_rules.proofs.Right.{clear-all}
use Rattle.woven_rules.proofs.World.{Setting, Facts}
use Rattle.woven_rules.proofs.Counting.{AreFew, few-back}
use Rattle.woven_rules.proofs.FewForms.{few-both}
use Rattle.woven_rules.proofs.FewPrograms.{decls-few}
use Rattle.woven_rules.proofs.Sights.{none-past, few-sights}
use Rattle.woven_rules.proofs.Cover.{woven-names-few}
use Rattle.woven_rules.proofs.Assembled.{setting, are-few}
use Rattle.woven_rules.proofs.Ready.{facts, fews, most-low}
use Rattle.woven_rules.proofs.NineRules as nine

module _ (names : List (List ℕ)) (guards : List Guard) (q : ProgramTree) (ready : IsReady names guards q) where
  abbrev all : List (List ℕ)
  all = with_generated names guards q

  abbrev after : ProgramTree
  after = z.protected all guards q

  abbrev s : Setting
  s = setting names guards q

  world : Facts s
  world = facts names guards q ready

  source-few : AreFew (most mode.Source) (p.forms_of_decls (p.top names q) programs.none_seen q.decls)
  source-few = fews names guards q ready

  names-few : too_many_at (most mode.Woven) (form.names after) ≡ None
  names-few =
      let last =
      few-back (most mode.Source) (p.forms_of_decls (p.top names q) programs.none_seen q.decls)
      (form.names q ∷ []) (are-few names q ready.accepted).1 in
      none-past (first_sights (names_in_program after)) 200000
      (woven-names-few s world (most-low names guards q ready)
      (few-sights (first_sights (names_in_program q)) 100000 last.0) source-few)

  decls-are-few : AreFew (most mode.Woven) (p.forms_of_decls (p.top all after) programs.none_seen after.decls)
  decls-are-few =
      decls-few s world q.decls programs.none_seen (omega arith, (omega arith, omega arith)) world.found source-few

  protected-few : AreFew (most mode.Woven) (p.forms_of_program all after)
  protected-few = (
    refl,
    few-both (most mode.Woven) (p.forms_of_decls (p.top all after) programs.none_seen after.decls)
        (form.names after ∷ []) decls-are-few (names-few, tt),
  )

pub not-too-many : Keeps (λ names q. rules.too_many names mode.Woven q)
not-too-many names guards q ready =
    let all = with_generated names guards q in
    let after = z.protected all guards q in
    clear-all (too_many_at (most mode.Woven)) (p.forms_of_program all after) (protected-few names guards q ready)

pub each-kept : KeepsEachRule
each-kept = record {
  unknown_name = nine.no-unknown-name;
  declared_twice = nine.nothing-declared-twice;
  types_disagree = nine.types-agree;
  wrong_number_of_arguments = nine.numbers-of-arguments-agree;
  base_not_declared_before = nine.bases-are-declared-before;
  not_accessible = nine.all-accessible;
  address_of_no_global_object = nine.addresses-of-global-objects;
  not_allowed_here = nine.all-allowed;
  no_main = nine.main-is-there;
  too_many = not-too-many;
}

-- ---- no violation

-- violations of no rule are none
none-at-all : (vs : List Refusal) → ((r : Rule) → map rules.place_of (filter (rules.is_of r) vs) ≡ []) → vs ≡ []
none-at-all [] none = refl
none-at-all (v ∷ vs) none =
    let rest = filter (rules.is_of v.rule) vs in
    let own : map rules.place_of (filter (rules.is_of v.rule) (v ∷ vs)) ≡ rules.place_of v ∷ map rules.place_of rest =
    ap (λ b. map rules.place_of (if b then v ∷ rest else rest)) (same-number (rank v.rule)) in
    let wrong : rules.place_of v ∷ map rules.place_of rest ≡ [] = sym own ∙ none v.rule in
    absurd (cc wrong)

module _ (names : List (List ℕ)) (guards : List Guard) (q : ProgramTree) (ready : IsReady names guards q) where
  abbrev woven_names : List (List ℕ)
  woven_names = with_generated names guards q

  abbrev woven : ProgramTree
  woven = z.protected woven_names guards q

  each : rules.EachRule woven_names mode.Woven woven
  each = each_rule woven_names mode.Woven woven

  none-of : (r : Rule) → rules.violated_at woven_names mode.Woven woven r ≡ []
  none-of rule.S1 = each.others rule.S1 refl
  none-of rule.F1 = each.others rule.F1 refl
  none-of rule.F2 = each.others rule.F2 refl
  none-of rule.F3 = each.others rule.F3 refl
  none-of rule.F4 = each.others rule.F4 refl
  none-of rule.F5 = each.others rule.F5 refl
  none-of rule.L1 = each.others rule.L1 refl
  none-of rule.L2 = each.others rule.L2 refl
  none-of rule.L3 = each.others rule.L3 refl
  none-of rule.L4 = each.others rule.L4 refl
  none-of rule.L5 = each.others rule.L5 refl
  none-of rule.G1 = each.others rule.G1 refl
  none-of rule.G2 = each.others rule.G2 refl
  none-of rule.A3 = each.others rule.A3 refl
  none-of rule.N1 = each.unknown_name ∙ nine.no-unknown-name names guards q ready
  none-of rule.N2 = each.declared_twice ∙ nine.nothing-declared-twice names guards q ready
  none-of rule.N3 = each.types_disagree ∙ nine.types-agree names guards q ready
  none-of rule.N4 = each.wrong_number_of_arguments ∙ nine.numbers-of-arguments-agree names guards q ready
  none-of rule.N5 = each.base_not_declared_before ∙ nine.bases-are-declared-before names guards q ready
  none-of rule.N6 = each.not_accessible ∙ nine.all-accessible names guards q ready
  none-of rule.N7 = each.address_of_no_global_object ∙ nine.addresses-of-global-objects names guards q ready
  none-of rule.N8 = each.not_allowed_here ∙ nine.all-allowed names guards q ready
  none-of rule.N9 = each.no_main ∙ nine.main-is-there names guards q ready
  none-of rule.N10 = each.too_many ∙ not-too-many names guards q ready
  none-of rule.A1 = each.others rule.A1 refl
  none-of rule.A2 = each.others rule.A2 refl
  none-of rule.A5 = each.others rule.A5 refl
  none-of rule.A7 = each.others rule.A7 refl
  none-of rule.A8 = each.others rule.A8 refl
  none-of rule.A9 = each.others rule.A9 refl
  none-of rule.A4 = each.others rule.A4 refl
  none-of rule.A6 = each.others rule.A6 refl
  none-of rule.A10 = each.others rule.A10 refl
  none-of rule.P1 = each.others rule.P1 refl
  none-of rule.P2 = each.others rule.P2 refl
  none-of rule.P3 = each.others rule.P3 refl
  none-of rule.P4 = each.others rule.P4 refl
  none-of rule.P5 = each.others rule.P5 refl
  none-of rule.W2 = each.others rule.W2 refl
  none-of rule.W1 = each.others rule.W1 refl
  none-of rule.U1 = each.others rule.U1 refl

  none-violated : violations_of woven_names mode.Woven woven ≡ []
  none-violated = none-at-all (violations_of woven_names mode.Woven woven) none-of

pub accepted : ProtectedIsAccepted
accepted names guards q ready = (none-violated names guards q ready, ap least (none-violated names guards q ready))
