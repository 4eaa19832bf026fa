-- Names that are gone through part by part.
use Rattle.std.proofs.Common.{◌≡◌, ℕ, ◌+◌, ◌<◌, refl, ap, sym, ◌∙◌, List, [], ◌∷◌, ◌++◌, length, get_or, drop, Result, Ok, Err, OnOk}
use Rattle.std.proofs.lemmas.List.{at_drop_more}
use Rattle.agxx_base.specs.declared.ids.NameId.{NameId}
use Rattle.agxx_base.specs.declared.place.Place.{Place}
use Rattle.cxx_tree.specs.declared.node.Placed.{Placed}
use Rattle.cxx_names.specs.Tables.{with_name}
use Rattle.cxx_distinct.specs.Sights.{seen}

-- names one after another, and then others
pub seen_append : (sights : List (ℕ × Place)) (ns others : List (Placed NameId)) → seen sights (ns ++ others) ≡ seen (seen sights ns) others
seen_append sights [] others = refl
seen_append sights (n ∷ ns) others = seen_append (with_name sights n.item.0 n.at) ns others

-- the same, where the sights between the two have a name of their own
pub seen_then : (sights between after : List (ℕ × Place)) (ns others : List (Placed NameId)) → between ≡ seen sights ns → after ≡ seen between others → after ≡ seen sights (ns ++ others)
seen_then sights between after ns others first next = next ∙ (ap (λ (t : List (ℕ × Place)). seen t others) first ∙ sym (seen_append sights ns others))

-- the same, where the second part may fail
pub ok_then : {A E : Type 0} (result : Result A E) (sights between after : List (ℕ × Place)) (ns others : List (Placed NameId)) → between ≡ seen sights ns → OnOk result (after ≡ seen between others) → OnOk result (after ≡ seen sights (ns ++ others))
ok_then (Ok x) sights between after ns others first next = seen_then sights between after ns others first next
ok_then (Err e) sights between after ns others first next = tt

-- one more of the things whose names are gone through
pub seen_more :
    {X : Type 0} (names_in : List X → List (Placed NameId)) (xs : List X) (i : ℕ) (x : X) (ns : List (Placed NameId)) (sights next whole : List (ℕ × Place))
    → i < length xs → x ≡ get_or xs i x → names_in (x ∷ drop (i + 1) xs) ≡ ns ++ names_in (drop (i + 1) xs)
    → next ≡ seen sights ns → seen sights (names_in (drop i xs)) ≡ whole → seen next (names_in (drop (i + 1) xs)) ≡ whole
seen_more names_in xs i x ns sights next whole within is splits first all =
    ap (λ (t : List (ℕ × Place)). seen t (names_in (drop (i + 1) xs))) first
    ∙ (sym (seen_append sights ns (names_in (drop (i + 1) xs)))
    ∙ (ap (λ (ms : List (Placed NameId)). seen sights ms) (sym splits)
    ∙ (ap (λ y. seen sights (names_in (y ∷ drop (i + 1) xs))) is
    ∙ (sym (ap (λ (ms : List (Placed NameId)). seen sights ms) (at_drop_more names_in xs i x within)) ∙ all))))
