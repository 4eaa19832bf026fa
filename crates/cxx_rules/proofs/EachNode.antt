-- Each node of a program is noted once: every class that a program declares is known, and so gone through.
use Rattle.std.proofs.Common.{◌≡◌, refl, ap, sym, ◌∙◌, ℕ, ◌+◌, ◌≤◌, ◌<◌, List, [], ◌∷◌, length, Some, None, arith, length-append, add-zero, ◌⊎◌, inl, inr, get_or}
use Rattle.std.proofs.lemmas.Option.{slice_get_cases}
use Rattle.std.proofs.lemmas.List.Sums.{sum_by-cons}
use Rattle.std.specs.List.{sum_by, slice_get}
use Rattle.cxx_tree.specs.ProgramTree as p
use Rattle.cxx_tree.specs.ProgramTree.{ClassTree, DeclTree, ProgramTree}
use Rattle.cxx_tree.specs.Nodes.{nodes_in_item, nodes_in_decl}
use Rattle.cxx_names.specs.declared.declarations.ClassInfo.{ClassInfo}
use Rattle.cxx_names.specs.declared.declarations.Declared.{Declared}
use Rattle.cxx_names.specs.Declarations.{declared, with_decl, with_decls, empty, class_items}
use Rattle.cxx_types.specs.declared.programs.DeclsSeen.{DeclsSeen}
use Rattle.cxx_types.specs.Programs.{next_seen, none_seen}
use Rattle.cxx_rules.specs.Laws.{EachNodeOnce}
use Rattle.cxx_rules.proofs.WalkedPrograms.{nodes_known, nodes_walked, all_nodes_walked, checked-gives}

abbrev class_count : DeclTree → ℕ
class_count (p.class x) = 1
class_count _ = 0

abbrev classes_in : List DeclTree → ℕ
classes_in [] = 0
classes_in (x ∷ xs) = class_count x + classes_in xs

one-declared : (names : List (List ℕ)) (d : Declared) (x : DeclTree) → length (with_decl names d x).classes ≡ length d.classes + class_count x
one-declared names d (p.class x) = length-append d.classes ((class_items d x).info ∷ [])
one-declared names d (p.class_name x) = sym (add-zero _)
one-declared names d (p.free_function x) = sym (add-zero _)
one-declared names d (p.proto x) = sym (add-zero _)
one-declared names d (p.global x) = sym (add-zero _)

all-declared : (names : List (List ℕ)) (d : Declared) (xs : List DeclTree) → length (with_decls names d xs).classes ≡ length d.classes + classes_in xs
all-declared names d [] = sym (add-zero _)
all-declared names d (x ∷ xs) =
    let first : length (with_decl names d x).classes ≡ length d.classes + class_count x = one-declared names d x in
    let rest : length (with_decls names (with_decl names d x) xs).classes ≡ length (with_decl names d x).classes + classes_in xs = all-declared names (with_decl names d x) xs in
    omega arith

known-by : (classes : List ClassInfo) (i : ℕ) (x : ClassTree) → i < length classes
    → ((c : ClassInfo) × (i < length classes) × (slice_get classes i ≡ Some c) × (get_or classes i c ≡ c)) ⊎ ((length classes ≤ i) × (slice_get classes i ≡ None))
    → nodes_known (slice_get classes i) x ≡ sum_by nodes_in_item x.items
known-by classes i x h (inl found) = ap (λ o. nodes_known o x) found.2
known-by classes i x h (inr missing) = let past = missing.0 in absurd (omega arith)

known : (classes : List ClassInfo) (i : ℕ) (x : ClassTree) → i < length classes → nodes_known (slice_get classes i) x ≡ sum_by nodes_in_item x.items
known classes i x h = known-by classes i x h (slice_get_cases classes i).1

one-walked : (d : Declared) (seen : DeclsSeen) (x : DeclTree) → seen.classes + class_count x ≤ length d.classes → nodes_walked d seen x ≡ nodes_in_decl x
one-walked d seen (p.class x) h = known d.classes seen.classes x (omega arith)
one-walked d seen (p.class_name x) h = refl
one-walked d seen (p.free_function x) h = refl
one-walked d seen (p.proto x) h = refl
one-walked d seen (p.global x) h = refl

seen-classes : (seen : DeclsSeen) (x : DeclTree) → (next_seen x seen).classes ≡ seen.classes + class_count x
seen-classes seen (p.class x) = omega arith
seen-classes seen (p.class_name x) = omega arith
seen-classes seen (p.free_function x) = omega arith
seen-classes seen (p.proto x) = omega arith
seen-classes seen (p.global x) = omega arith

all-walked : (d : Declared) (xs : List DeclTree) (seen : DeclsSeen) → seen.classes + classes_in xs ≤ length d.classes → all_nodes_walked d seen xs ≡ sum_by nodes_in_decl xs
all-walked d [] seen h = refl
all-walked d (x ∷ xs) seen h =
    let next : (next_seen x seen).classes ≡ seen.classes + class_count x = seen-classes seen x in
    let first : nodes_walked d seen x ≡ nodes_in_decl x = one-walked d seen x (omega arith) in
    let rest : all_nodes_walked d (next_seen x seen) xs ≡ sum_by nodes_in_decl xs = all-walked d xs (next_seen x seen) (omega arith) in
    let whole : sum_by nodes_in_decl (x ∷ xs) ≡ nodes_in_decl x + sum_by nodes_in_decl xs = sum_by-cons nodes_in_decl x xs in
    omega arith

pub each_node : EachNodeOnce
each_node names mode q =
    let g = checked-gives names mode q in
    let long : length g.entries ≡ 0 + all_nodes_walked (declared names q) none_seen q.decls = g.longer in
    let classes : length (declared names q).classes ≡ 0 + classes_in q.decls = all-declared names empty q.decls in
    let walked : all_nodes_walked (declared names q) none_seen q.decls ≡ sum_by nodes_in_decl q.decls = all-walked (declared names q) q.decls none_seen (omega arith) in
    ap (λ s. length s.entries) g.is ∙ (omega arith)
