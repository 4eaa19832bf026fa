-- Forms that violate no rule but, maybe, that there are too many of something.
use Rattle.std.proofs.Common.{◌≡◌, refl, ap, ◌∙◌, Bool, true, false, List, [], ◌∷◌, ◌++◌, Option, Some, None}
use Rattle.agxx_base.specs.declared.place.Place.{Place}
use Rattle.cxx_tree.specs.Limits.{Every}
use Rattle.cxx_rules.specs.Forms.{Form}
use Rattle.cxx_rules.specs.Unless.{unless, with_place, places_in}
use Rattle.cxx_rules.specs.UnknownName.{unknown_name_at}
use Rattle.cxx_rules.specs.DeclaredTwice.{declared_twice_at}
use Rattle.cxx_rules.specs.TypesDisagree.{types_disagree_at}
use Rattle.cxx_rules.specs.WrongNumberOfArguments.{wrong_number_of_arguments_at}
use Rattle.cxx_rules.specs.BaseNotDeclaredBefore.{base_not_declared_before_at}
use Rattle.cxx_rules.specs.NotAccessible.{not_accessible_at}
use Rattle.cxx_rules.specs.AddressOfNoGlobalObject.{address_of_no_global_object_at}
use Rattle.cxx_rules.specs.NotAllowedHere.{not_allowed_here_at}
use Rattle.cxx_rules.specs.NoMain.{no_main_at}

-- the rules in the order of their names
abbrev pub Right : Form → Type 0
Right f =
    (unknown_name_at f ≡ None) × (declared_twice_at f ≡ None) × (types_disagree_at f ≡ None)
    × (wrong_number_of_arguments_at f ≡ None)
    × (base_not_declared_before_at f ≡ None) × (not_accessible_at f ≡ None)
    × (address_of_no_global_object_at f ≡ None)
    × (not_allowed_here_at f ≡ None) × (no_main_at f ≡ None)

abbrev pub Rights : List Form → Type 0
Rights fs = Every Right fs

pub front : (fs others : List Form) → Rights (fs ++ others) → Rights fs
front [] others all = tt
front (f ∷ fs) others all = (all.0, front fs others all.1)

pub back : (fs others : List Form) → Rights (fs ++ others) → Rights others
back [] others all = all
back (f ∷ fs) others all = back fs others all.1

pub joined : (fs others : List Form) → Rights fs → Rights others → Rights (fs ++ others)
joined [] others first rest = rest
joined (f ∷ fs) others first rest = (first.0, joined fs others first.1 rest)

-- ---- a rule that is violated nowhere

module _ (violated : Form → Option Place) where
  abbrev pub Clear : List Form → Type 0
  Clear fs = Every (λ (f : Form). violated f ≡ None) fs

  none-told : (o : Option Place) (places : List Place) → with_place o places ≡ [] → (o ≡ None) × (places ≡ [])
  none-told None places e = (refl, e)
  none-told (Some at) places e = absurd (cc e)

  pub clear-each : (fs : List Form) → places_in violated fs ≡ [] → Clear fs
  clear-each [] e = tt
  clear-each (f ∷ fs) e =
      let both = none-told (violated f) (places_in violated fs) e in
      (both.0, clear-each fs both.1)

  pub clear-all : (fs : List Form) → Clear fs → places_in violated fs ≡ []
  clear-all [] clear = refl
  clear-all (f ∷ fs) clear = ap (λ o. with_place o (places_in violated fs)) clear.0 ∙ clear-all fs clear.1

-- ---- conditions

pub unless-same : (x y : Bool) (at : Place) → y ≡ x → unless x at ≡ None → unless y at ≡ None
unless-same x y at same right = ap (λ b. unless b at) same ∙ right

pub holds : (x : Bool) (at : Place) → unless x at ≡ None → x ≡ true
holds true at right = refl
holds false at right = absurd (cc right)
