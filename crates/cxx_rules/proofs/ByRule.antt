-- What all rules say together, rule by rule.
use Rattle.std.proofs.Common.{◌≡◌, refl, ap, sym, ◌∙◌, ℕ, ◌≤◌, arith, Bool, true, false, not, nat_eq, List, [], ◌∷◌, ◌++◌, map, Option, Some, None, append_assoc, if◌then◌else◌}
use Rattle.std.proofs.lemmas.List.{append-nil, map-append}
use Rattle.std.proofs.lemmas.List.Elements.{filter-append}
use Rattle.std.proofs.lemmas.Bool.Decides.{nat_tests}
use Rattle.std.specs.List.{filter}
use Rattle.std.specs.Prelude.{nat_lt}
use Rattle.agxx_base.specs.Refusals.{rank}
use Rattle.agxx_base.specs.declared.fault.Refusal.{Refusal}
use Rattle.agxx_base.specs.declared.place.Place.{Place}
use Rattle.agxx_base.specs.declared.rule.Rule.{Rule}
use Rattle.agxx_base.specs.declared.rule.Rule.TheVariants as rule
use Rattle.cxx_types.specs.declared.limits.Counts.{Counts}
use Rattle.cxx_rules.specs.Forms.{Form}
use Rattle.cxx_rules.specs.Unless.{with_place, places_in}
use Rattle.cxx_rules.specs.UnknownName.{unknown_name_at}
use Rattle.cxx_rules.specs.DeclaredTwice.{declared_twice_at}
use Rattle.cxx_rules.specs.TypesDisagree.{types_disagree_at}
use Rattle.cxx_rules.specs.WrongNumberOfArguments.{wrong_number_of_arguments_at}
use Rattle.cxx_rules.specs.BaseNotDeclaredBefore.{base_not_declared_before_at}
use Rattle.cxx_rules.specs.NotAccessible.{not_accessible_at}
use Rattle.cxx_rules.specs.AddressOfNoGlobalObject.{address_of_no_global_object_at}
use Rattle.cxx_rules.specs.NotAllowedHere.{not_allowed_here_at}
use Rattle.cxx_rules.specs.NoMain.{no_main_at}
use Rattle.cxx_rules.specs.TooMany.{too_many_at}
use Rattle.cxx_rules.specs.Rules.{is_on_names_and_types, is_of, place_of}
use Rattle.cxx_rules.proofs.Told.{told_by, told, all_told}

-- the places of a rule's violations
abbrev pub at : Rule → List Refusal → List Place
at r fs = map place_of (filter (is_of r) fs)

-- a place, if the violation is of the rule
abbrev said : Bool → Option Place → List Place
said true x = with_place x []
said false x = []

picked : (s : Rule) (p : Place) (b : Bool) → map place_of (if b then (record { rule = s; place = p }) ∷ [] else []) ≡ said b (Some p)
picked s p true = refl
picked s p false = refl

nothing-said : (b : Bool) → said b None ≡ []
nothing-said true = refl
nothing-said false = refl

pub at-by : (r s : Rule) (x : Option Place) (fs : List Refusal) → at r (told_by s x fs) ≡ at r fs ++ said (nat_eq (rank s) (rank r)) x
at-by r s None fs = sym (ap (λ ps. at r fs ++ ps) (nothing-said (nat_eq (rank s) (rank r))) ∙ append-nil (at r fs))
at-by r s (Some p) fs =
    ap (map place_of) (filter-append (is_of r) fs ((record { rule = s; place = p }) ∷ []))
    ∙ (map-append place_of (filter (is_of r) fs) (filter (is_of r) ((record { rule = s; place = p }) ∷ []))
    ∙ ap (λ ps. at r fs ++ ps) (picked s p (nat_eq (rank s) (rank r))))

-- what a rule says of a form is what is told of it by that rule
abbrev pub Says : Counts → Rule → (Form → Option Place) → Type 0
Says m r violated = (form : Form) (fs : List Refusal) → at r (told m form fs) ≡ at r fs ++ with_place (violated form) []

pub unknown_name-says : (m : Counts) → Says m rule.N1 unknown_name_at
unknown_name-says m form fs = simp (at-by, append-nil)

pub declared_twice-says : (m : Counts) → Says m rule.N2 declared_twice_at
declared_twice-says m form fs = simp (at-by, append-nil)

pub types_disagree-says : (m : Counts) → Says m rule.N3 types_disagree_at
types_disagree-says m form fs = simp (at-by, append-nil)

pub wrong_number_of_arguments-says : (m : Counts) → Says m rule.N4 wrong_number_of_arguments_at
wrong_number_of_arguments-says m form fs = simp (at-by, append-nil)

pub base_not_declared_before-says : (m : Counts) → Says m rule.N5 base_not_declared_before_at
base_not_declared_before-says m form fs = simp (at-by, append-nil)

pub not_accessible-says : (m : Counts) → Says m rule.N6 not_accessible_at
not_accessible-says m form fs = simp (at-by, append-nil)

pub address_of_no_global_object-says : (m : Counts) → Says m rule.N7 address_of_no_global_object_at
address_of_no_global_object-says m form fs = simp (at-by, append-nil)

pub not_allowed_here-says : (m : Counts) → Says m rule.N8 not_allowed_here_at
not_allowed_here-says m form fs = simp (at-by, append-nil)

pub no_main-says : (m : Counts) → Says m rule.N9 no_main_at
no_main-says m form fs = simp (at-by, append-nil)

pub too_many-says : (m : Counts) → Says m rule.N10 (too_many_at m)
too_many-says m form fs = simp (at-by, append-nil)

-- other rules say nothing
abbrev pub silent : Form → Option Place
silent form = None

-- the rank of each rule from N1 to N10 is not that of another rule
apart : (k n : ℕ) → (if nat_lt n 15 then false else not (nat_lt 24 n)) ≡ false → 15 ≤ k → k ≤ 24 → nat_eq k n ≡ false
apart k n e above below = grind (arith, nat_tests)

-- a violation of another rule is none of this one
not-said : (r s : Rule) (x : Option Place) (fs : List Refusal) → nat_eq (rank s) (rank r) ≡ false → at r (told_by s x fs) ≡ at r fs
not-said r s x fs e = at-by r s x fs ∙ (ap (λ b. at r fs ++ said b x) e ∙ append-nil (at r fs))

pub silent-says : (m : Counts) (r : Rule) → is_on_names_and_types r ≡ false → Says m r silent
silent-says m r e form fs =
    let n1 : nat_eq (rank rule.N1) (rank r) ≡ false = apart 15 (rank r) e (omega arith) (omega arith) in
    let n2 : nat_eq (rank rule.N2) (rank r) ≡ false = apart 16 (rank r) e (omega arith) (omega arith) in
    let n3 : nat_eq (rank rule.N3) (rank r) ≡ false = apart 17 (rank r) e (omega arith) (omega arith) in
    let n4 : nat_eq (rank rule.N4) (rank r) ≡ false = apart 18 (rank r) e (omega arith) (omega arith) in
    let n5 : nat_eq (rank rule.N5) (rank r) ≡ false = apart 19 (rank r) e (omega arith) (omega arith) in
    let n6 : nat_eq (rank rule.N6) (rank r) ≡ false = apart 20 (rank r) e (omega arith) (omega arith) in
    let n7 : nat_eq (rank rule.N7) (rank r) ≡ false = apart 21 (rank r) e (omega arith) (omega arith) in
    let n8 : nat_eq (rank rule.N8) (rank r) ≡ false = apart 22 (rank r) e (omega arith) (omega arith) in
    let n9 : nat_eq (rank rule.N9) (rank r) ≡ false = apart 23 (rank r) e (omega arith) (omega arith) in
    let n10 : nat_eq (rank rule.N10) (rank r) ≡ false = apart 24 (rank r) e (omega arith) (omega arith) in
    let f1 : List Refusal = told_by rule.N1 (unknown_name_at form) fs in
    let f2 : List Refusal = told_by rule.N2 (declared_twice_at form) f1 in
    let f5 : List Refusal = told_by rule.N5 (base_not_declared_before_at form) f2 in
    let f6 : List Refusal = told_by rule.N6 (not_accessible_at form) f5 in
    let f8 : List Refusal = told_by rule.N8 (not_allowed_here_at form) f6 in
    let f4 : List Refusal = told_by rule.N4 (wrong_number_of_arguments_at form) f8 in
    let f3 : List Refusal = told_by rule.N3 (types_disagree_at form) f4 in
    let f7 : List Refusal = told_by rule.N7 (address_of_no_global_object_at form) f3 in
    let f9 : List Refusal = told_by rule.N9 (no_main_at form) f7 in
    not-said r rule.N10 (too_many_at m form) f9 n10
    ∙ (not-said r rule.N9 (no_main_at form) f7 n9
    ∙ (not-said r rule.N7 (address_of_no_global_object_at form) f3 n7
    ∙ (not-said r rule.N3 (types_disagree_at form) f4 n3
    ∙ (not-said r rule.N4 (wrong_number_of_arguments_at form) f8 n4
    ∙ (not-said r rule.N8 (not_allowed_here_at form) f6 n8
    ∙ (not-said r rule.N6 (not_accessible_at form) f5 n6
    ∙ (not-said r rule.N5 (base_not_declared_before_at form) f2 n5
    ∙ (not-said r rule.N2 (declared_twice_at form) f1 n2
    ∙ (not-said r rule.N1 (unknown_name_at form) fs n1 ∙ sym (append-nil (at r fs)))))))))))

pub silent-places : (forms : List Form) → places_in silent forms ≡ []
silent-places [] = refl
silent-places (form ∷ forms) = silent-places forms

-- ---- several forms

with-places : (x : Option Place) (ps : List Place) → with_place x [] ++ ps ≡ with_place x ps
with-places None ps = refl
with-places (Some p) ps = refl

pub says-all : (m : Counts) (r : Rule) (violated : Form → Option Place) → Says m r violated
    → (forms : List Form) (fs : List Refusal) → at r (all_told m forms fs) ≡ at r fs ++ places_in violated forms
says-all m r violated says [] fs = sym (append-nil (at r fs))
says-all m r violated says (form ∷ forms) fs =
    says-all m r violated says forms (told m form fs)
    ∙ (ap (λ ps. ps ++ places_in violated forms) (says form fs)
    ∙ (append_assoc (at r fs) (with_place (violated form) []) (places_in violated forms)
    ∙ ap (λ ps. at r fs ++ ps) (with-places (violated form) (places_in violated forms))))
