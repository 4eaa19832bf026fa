-- The normal form of a program.
use Rattle.std.specs.Prelude.{◌≡◌, ℕ, List, map, codes}
use Rattle.agxx_base.specs.Names.{number_of, interned}
use Rattle.cxx_tree.specs.ProgramTree as p
use Rattle.cxx_tree.specs.ProgramTree.{ClassTree, DeclTree, ProgramTree}
use Rattle.cxx_tree.specs.Blank.{blank_program}
use Rattle.cxx_tree.specs.Nodes.{nodes_in_program}
use Rattle.cxx_normal.specs.Numbers.{number_each, number_decl, numbered_program}
use Rattle.cxx_normal.specs.Directives.{all_includes}
use Rattle.cxx_normal.specs.Labels.{first_access, accesses, relabelled}
use Rattle.cxx_normal.specs.Completion.{completed}
use Rattle.cxx_normal.specs.Initialisers.{assigning}
use Rattle.cxx_normal.specs.Entry.{returning}
use Rattle.cxx_normal.specs.Declarations.{ordered}

abbrev pub rebuilt_class : ClassTree → ClassTree
rebuilt_class c = relabelled (completed (assigning c))

abbrev pub rebuilt_decl : ℕ → DeclTree → DeclTree
rebuilt_decl main (p.class c) = p.class (rebuilt_class c)
rebuilt_decl main (p.class_name c) = p.class_name c
rebuilt_decl main (p.free_function f) = p.free_function (returning main f)
rebuilt_decl main (p.proto f) = p.proto f
rebuilt_decl main (p.global g) = p.global g

-- all rules but that of numbers
abbrev pub rebuilt : ℕ → ProgramTree → ProgramTree
rebuilt main q = record { at = q.at; directives = all_includes; decls = ordered main (map (rebuilt_decl main) q.decls) }

-- the normal form, where main is the number of the name `main`
abbrev pub normal_tree : ℕ → ProgramTree → ProgramTree
normal_tree main q = numbered_program (rebuilt main q)

-- the normal form, where these are the names, of which one is `main`
abbrev pub normal_among : List (List ℕ) → ProgramTree → ProgramTree
normal_among names q = normal_tree (number_of names (codes "main")) q

-- the names with `main` among them
abbrev pub with_main : List (List ℕ) → List (List ℕ)
with_main names = interned names (codes "main")

-- the normal form of a normal form is itself
abbrev pub NormalIsIdempotent : Type 0
NormalIsIdempotent = (main : ℕ) (q : ProgramTree) → normal_tree main (normal_tree main q) ≡ normal_tree main q

-- numbers alone change where a program is numbered
abbrev pub NumberingChangesNumbers : Type 0
NumberingChangesNumbers = (q : ProgramTree) → blank_program (numbered_program q) ≡ blank_program q

-- a program of n nodes gets the numbers below n
abbrev pub NumbersAreCounted : Type 0
NumbersAreCounted = (q : ProgramTree) → (number_each number_decl q.decls 0).1 ≡ nodes_in_program q

-- items keep the access that they have where labels are made anew
abbrev pub LabelsKeepAccess : Type 0
LabelsKeepAccess = (c : ClassTree) → accesses (first_access c.word) (relabelled c).items ≡ accesses (first_access c.word) c.items
