-- The normal form of a program that prints sums has the same core form.
use Rattle.std.proofs.Common.{◌≡◌, ℕ, Bool, true, false, eqb, List, [], ◌∷◌, ◌++◌, refl, ap, ◌∙◌, eq-eqb}
use Rattle.std.specs.Prelude.{if◌then◌else◌, codes}
use Rattle.agxx_base.specs.declared.place.Place.{Place}
use Rattle.agxx_base.specs.Names.{number_of}
use Rattle.cxx_tree.specs.StmtTree as s
use Rattle.cxx_tree.specs.ProgramTree as p
use Rattle.cxx_tree.specs.ProgramTree.{FunctionTree, DeclTree, ProgramTree}
use Rattle.cxx_normal.specs.Directives.{all_includes}
use Rattle.cxx_normal.specs.Entry.{ends_with_return, followed_by, return_zero, returning_block, returning}
use Rattle.cxx_normal.specs.Declarations.{ordered, prototype_of}
use Rattle.cxx_normal.specs.Normal.{rebuilt, normal_among}
use Rattle.cxx_core.specs.ElaboratedProgram.{core_program}
use Rattle.core_laws.proofs.Renumbered.{kept}
use Rattle.sum_programs.specs.SumPrograms.{Print, SumProgram, main_tree, tree_of, prints_before, return_tree}

returns : (last : s.StmtTrees) (qs : List Print) → ((b : Bool) → ends_with_return b last ≡ true) → (b : Bool) → ends_with_return b (prints_before last qs) ≡ true
returns last [] h b = h b
returns last (q ∷ qs) h b = returns last qs h false

abbrev main_number : List (List ℕ) → ℕ
main_number names = number_of names (codes "main")

is-main : (names : List (List ℕ)) → (let n = main_number names in eqb n n ≡ true)
is-main names = eq-eqb (main_number names) (main_number names) refl

body-kept : (d : SumProgram) (at : Place) → (let body = prints_before (return_tree d) d.prints in returning_block at (s.braces d.body_at body) ≡ s.braces d.body_at body)
body-kept d at =
    let body = prints_before (return_tree d) d.prints in
    ap (λ b. s.braces d.body_at (if b then body else followed_by body (return_zero at))) (returns (return_tree d) d.prints (λ b. refl) false)

abbrev returning_if : Bool → FunctionTree → FunctionTree
returning_if is_main f = if is_main then record f { body = returning_block f.name.at f.body } else f

main-kept : (names : List (List ℕ)) (d : SumProgram) → returning (main_number names) (main_tree names d) ≡ main_tree names d
main-kept names d =
    ap (λ b. returning_if b (main_tree names d)) (is-main names)
    ∙ ap (λ b. record (main_tree names d) { body = b }) (body-kept d (main_tree names d).name.at)

abbrev ordered_if : Bool → FunctionTree → List DeclTree
ordered_if is_main f = (if is_main then [] else p.proto (prototype_of f) ∷ []) ++ (p.free_function f ∷ [])

order-kept : (names : List (List ℕ)) (d : SumProgram) → ordered (main_number names) (p.free_function (main_tree names d) ∷ []) ≡ p.free_function (main_tree names d) ∷ []
order-kept names d = rw (is-main names)

abbrev with_includes : ProgramTree → ProgramTree
with_includes q = record q { directives = all_includes }

rebuilt-is : (names : List (List ℕ)) (d : SumProgram) → rebuilt (main_number names) (tree_of names d) ≡ with_includes (tree_of names d)
rebuilt-is names d =
    ap (λ f. record (tree_of names d) { directives = all_includes; decls = ordered (main_number names) (p.free_function f ∷ []) }) (main-kept names d)
    ∙ ap (λ x. record (tree_of names d) { directives = all_includes; decls = x }) (order-kept names d)

pub core-kept : (names : List (List ℕ)) (d : SumProgram) → core_program names (normal_among names (tree_of names d)) ≡ core_program names (tree_of names d)
core-kept names d = kept.of_program names (rebuilt (main_number names) (tree_of names d)) ∙ ap (core_program names) (rebuilt-is names d)
