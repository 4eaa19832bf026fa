-- Where a rule is violated, of what stands in a program.
use Rattle.std.specs.Prelude.{Bool, true, false, List, [], ◌∷◌, Option, Some, None}
use Rattle.agxx_base.specs.declared.place.Place.{Place}
use Rattle.cxx_rules.specs.Forms.{Form}

-- a rule is violated at this place, unless this holds
abbrev pub unless : Bool → Place → Option Place
unless true at = None
unless false at = Some at

abbrev pub with_place : Option Place → List Place → List Place
with_place None places = places
with_place (Some at) places = at ∷ places

-- the places at which a rule is violated, which says where each form violates it, if it does
abbrev pub places_in : (Form → Option Place) → List Form → List Place
places_in violated [] = []
places_in violated (form ∷ forms) = with_place (violated form) (places_in violated forms)
