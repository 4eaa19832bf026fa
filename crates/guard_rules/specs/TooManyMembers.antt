-- P3: a part has more than 120 members. The place is the name of the first past them.
use Rattle.std.specs.Prelude.{ℕ, zero, suc, List, [], ◌∷◌, Option, Some, None, if◌then◌else◌}
use Rattle.agxx_base.specs.declared.place.Place.{Place}
use Rattle.cxx_tree.specs.ProgramTree as p
use Rattle.cxx_tree.specs.ProgramTree.{ItemTree, DeclTree, ProgramTree}
use Rattle.guards.specs.declared.guard.Guard.{Guard}
use Rattle.guard_rules.specs.Parts.{is_guarded, places_of}

abbrev pub most_members : ℕ
most_members = 120

-- the name of the member that so many members stand before
abbrev pub member_behind : ℕ → List ItemTree → Option Place
member_behind n [] = None
member_behind zero (p.member m ∷ is) = Some m.name.at
member_behind (suc n) (p.member m ∷ is) = member_behind n is
member_behind n (i ∷ is) = member_behind n is

abbrev pub one_too_many : List Guard → DeclTree → Option Place
one_too_many guards (p.class k) = if is_guarded guards k.name.item then member_behind most_members k.items else None
one_too_many guards _ = None

abbrev pub too_many_members : List Guard → ProgramTree → List Place
too_many_members guards q = places_of (one_too_many guards) q.decls
