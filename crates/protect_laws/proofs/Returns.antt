-- No function of a program returns more values than the number that its generated names are counted up to.
use Rattle.std.proofs.Common.{ℕ, ◌≤◌, max, arith, List, [], ◌∷◌}
use Rattle.cxx_tree.specs.Limits.{Every}
use Rattle.cxx_tree.specs.ProgramTree as p
use Rattle.cxx_tree.specs.ProgramTree.{ItemTree, DeclTree}
use Rattle.protect.specs.GeneratedNames.{returns_of, most_returns, most_in_decls}

abbrev pub ReturnsWithin : ℕ → ItemTree → Type 0
ReturnsWithin top item = returns_of item ≤ top

abbrev pub DeclWithin : ℕ → DeclTree → Type 0
DeclWithin top (p.class c) = Every (ReturnsWithin top) c.items
DeclWithin top (p.class_name c) = Unit {0}
DeclWithin top (p.free_function f) = Unit {0}
DeclWithin top (p.proto f) = Unit {0}
DeclWithin top (p.global g) = Unit {0}

at-most : (most : ℕ) (items : List ItemTree) → most ≤ most_returns most items
at-most most [] = omega arith
at-most most (item ∷ items) = let rest = at-most (max most (returns_of item)) items in omega arith

items-within : (most top : ℕ) (items : List ItemTree) → most_returns most items ≤ top → Every (ReturnsWithin top) items
items-within most top [] below = tt
items-within most top (item ∷ items) below =
    let rest = at-most (max most (returns_of item)) items in
    (omega arith, items-within (max most (returns_of item)) top items below)

at-most-decls : (most : ℕ) (decls : List DeclTree) → most ≤ most_in_decls most decls
at-most-decls most [] = omega arith
at-most-decls most (p.class c ∷ decls) =
    let one = at-most most c.items in let rest = at-most-decls (most_returns most c.items) decls in omega arith
at-most-decls most (p.class_name c ∷ decls) = at-most-decls most decls
at-most-decls most (p.free_function f ∷ decls) = at-most-decls most decls
at-most-decls most (p.proto f ∷ decls) = at-most-decls most decls
at-most-decls most (p.global g ∷ decls) = at-most-decls most decls

pub decls-within : (most top : ℕ) (decls : List DeclTree) → most_in_decls most decls ≤ top
    → Every (DeclWithin top) decls
decls-within most top [] below = tt
decls-within most top (p.class c ∷ decls) below =
    let rest = at-most-decls (most_returns most c.items) decls in
    (items-within most top c.items (omega arith), decls-within (most_returns most c.items) top decls below)
decls-within most top (p.class_name c ∷ decls) below = (tt, decls-within most top decls below)
decls-within most top (p.free_function f ∷ decls) below = (tt, decls-within most top decls below)
decls-within most top (p.proto f ∷ decls) below = (tt, decls-within most top decls below)
decls-within most top (p.global g ∷ decls) below = (tt, decls-within most top decls below)
