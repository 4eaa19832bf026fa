-- Places that a rule gives in forms that stand side by side.
use Rattle.std.proofs.Common.{◌≡◌, refl, ap, ◌∙◌, Bool, true, false, List, [], ◌∷◌, ◌++◌, Option, Some, None, if◌then◌else◌}
use Rattle.agxx_base.specs.declared.place.Place.{Place}
use Rattle.cxx_rules.specs.Forms.{Form}
use Rattle.cxx_rules.specs.Unless.{with_place, places_in}

with-append : (o : Option Place) (a b : List Place) → with_place o (a ++ b) ≡ with_place o a ++ b
with-append None a b = refl
with-append (Some at) a b = refl

pub places_append : (rule : Form → Option Place) (a b : List Form) → places_in rule (a ++ b) ≡ places_in rule a ++ places_in rule b
places_append rule [] b = refl
places_append rule (form ∷ a) b = ap (with_place (rule form)) (places_append rule a b) ∙ with-append (rule form) (places_in rule a) (places_in rule b)

-- forms of which the first ones give these places, and the others those
pub joined : (rule : Form → Option Place) (a b : List Form) (xs ys : List Place) → places_in rule a ≡ xs → places_in rule b ≡ ys → places_in rule (a ++ b) ≡ xs ++ ys
joined rule a b xs ys first second =
    places_append rule a b ∙ (ap (λ ps. ps ++ places_in rule b) first ∙ ap (λ ps. xs ++ ps) second)

-- places that are given only where something holds
pub if_joined : (b : Bool) (xs ys : List Place) → (if b then xs else []) ++ (if b then ys else []) ≡ (if b then xs ++ ys else [])
if_joined true xs ys = refl
if_joined false xs ys = refl

pub if_none : (b : Bool) → ◌≡◌ {A = List Place} [] (if b then [] else [])
if_none true = refl
if_none false = refl
