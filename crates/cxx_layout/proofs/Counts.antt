-- There is one list for each class.
use Rattle.std.proofs.Common.{◌≡◌, ℕ, ◌+◌, List, [], ◌∷◌, length, length-append, arith}
use Rattle.agxx_base.specs.declared.ids.ClassId.{ClassId}
use Rattle.cxx_names.specs.declared.declarations.ClassInfo.{ClassInfo}
use Rattle.cxx_layout.specs.declared.layouts.WordInfo.{WordInfo}
use Rattle.cxx_layout.specs.Layouts.{with_layout, layouts_after}
use Rattle.cxx_layout.specs.Parts.{with_parts, parts_after}

count_after : (done : List (List WordInfo)) (classes : List ClassInfo) → length (layouts_after done classes) ≡ length done + length classes
count_after done [] = omega arith
count_after done (class ∷ classes) = omega (arith, count_after (with_layout done class) classes, length-append {A = List WordInfo})

parts_count_after : (names : List (List ℕ)) (done : List (List ClassId)) (classes : List ClassInfo) → length (parts_after names done classes) ≡ length done + length classes
parts_count_after names done [] = omega arith
parts_count_after names done (class ∷ classes) = omega (arith, parts_count_after names (with_parts names done class) classes, length-append {A = List ClassId})

pub layouts_count : (classes : List ClassInfo) → length (layouts_after [] classes) ≡ length classes
layouts_count classes = omega (arith, count_after [] classes)

pub parts_count : (names : List (List ℕ)) (classes : List ClassInfo) → length (parts_after names [] classes) ≡ length classes
parts_count names classes = omega (arith, parts_count_after names [] classes)
