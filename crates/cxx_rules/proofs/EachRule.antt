-- The violations that a walk finds are those that each rule by itself says.
use Rattle.std.proofs.Common.{◌≡◌, refl, ap, sym, ◌∙◌, ℕ, List, [], ◌∷◌, ◌++◌, Option, Some, None}
use Rattle.std.proofs.lemmas.List.{append-nil}
use Rattle.agxx_base.specs.declared.fault.Refusal.{Refusal}
use Rattle.agxx_base.specs.declared.kind.Mode.{Mode}
use Rattle.agxx_base.specs.declared.place.Place.{Place}
use Rattle.agxx_base.specs.declared.rule.Rule.{Rule}
use Rattle.agxx_base.specs.declared.rule.Rule.TheVariants as rule
use Rattle.cxx_tree.specs.ProgramTree.{ProgramTree}
use Rattle.cxx_distinct.specs.Sights.{name_past}
use Rattle.cxx_types.specs.Counts.{most}
use Rattle.cxx_types.specs.Programs.{none_seen}
use Rattle.cxx_types.specs.Violations.{one_at, too_many_names, violations_of}
use Rattle.cxx_rules.specs.Forms as form
use Rattle.cxx_rules.specs.Forms.{Form}
use Rattle.cxx_rules.specs.ProgramForms.{forms_of_decls, forms_of_program, top}
use Rattle.cxx_rules.specs.Unless.{places_in}
use Rattle.cxx_rules.specs.Rules.{EachRuleByItself, violated_at}
use Rattle.cxx_rules.proofs.Told.{told_by, all_told, told-append}
use Rattle.cxx_rules.proofs.WalkedPrograms.{checked-gives}
use Rattle.cxx_rules.proofs.ByRule.{at, Says, says-all, unknown_name-says, declared_twice-says, types_disagree-says, wrong_number_of_arguments-says, base_not_declared_before-says, not_accessible-says, silent, silent-says, silent-places, address_of_no_global_object-says, not_allowed_here-says, no_main-says, too_many-says}

one-told : (fs : List Refusal) (x : Option Place) → fs ++ one_at x ≡ told_by rule.N10 x fs
one-told fs None = append-nil fs
one-told fs (Some p) = refl

-- the violations of a program are what is told of its forms
violations-told : (names : List (List ℕ)) (mode : Mode) (q : ProgramTree) → violations_of names mode q ≡ all_told (most mode) (forms_of_program names q) []
violations-told names mode q =
    ap (λ s. s.found ++ too_many_names mode q) (checked-gives names mode q).is
    ∙ (one-told (all_told (most mode) (form.program names q ∷ forms_of_decls (top names q) none_seen q.decls) []) (name_past (most mode).names q)
    ∙ sym (told-append (most mode) (form.program names q ∷ forms_of_decls (top names q) none_seen q.decls) (form.names q ∷ []) []))

by-itself : (names : List (List ℕ)) (mode : Mode) (q : ProgramTree) (r : Rule) (violated : Form → Option Place) → Says (most mode) r violated
    → violated_at names mode q r ≡ places_in violated (forms_of_program names q)
by-itself names mode q r violated says =
    ap (at r) (violations-told names mode q) ∙ says-all (most mode) r violated says (forms_of_program names q) []

pub each_rule : EachRuleByItself
each_rule names mode q = record {
  unknown_name = by-itself names mode q rule.N1 _ (unknown_name-says (most mode));
  declared_twice = by-itself names mode q rule.N2 _ (declared_twice-says (most mode));
  types_disagree = by-itself names mode q rule.N3 _ (types_disagree-says (most mode));
  wrong_number_of_arguments = by-itself names mode q rule.N4 _ (wrong_number_of_arguments-says (most mode));
  base_not_declared_before = by-itself names mode q rule.N5 _ (base_not_declared_before-says (most mode));
  not_accessible = by-itself names mode q rule.N6 _ (not_accessible-says (most mode));
  address_of_no_global_object = by-itself names mode q rule.N7 _ (address_of_no_global_object-says (most mode));
  not_allowed_here = by-itself names mode q rule.N8 _ (not_allowed_here-says (most mode));
  no_main = by-itself names mode q rule.N9 _ (no_main-says (most mode));
  too_many = by-itself names mode q rule.N10 _ (too_many-says (most mode));
  others = λ other e. by-itself names mode q other silent (silent-says (most mode) other e) ∙ silent-places (forms_of_program names q);
}
