-- Which bodies of a protected program enter and leave parts: those of the functions, constructors and destructors of
-- classes, each with the parts of its objects.
use Rattle.std.specs.Prelude.{◌≡◌, ℕ, List, [], ◌∷◌, ◌++◌, map, reverse}
use Rattle.agxx_base.specs.declared.ids.NameId.{NameId}
use Rattle.cxx_tree.specs.StmtTree.{BlockTree}
use Rattle.cxx_tree.specs.ProgramTree as p
use Rattle.cxx_tree.specs.ProgramTree.{ItemTree, ClassTree, ProgramTree}
use Rattle.cxx_names.specs.Declarations.{declared}
use Rattle.guards.specs.declared.guard.Guard.{Guard}
use Rattle.entry_count.specs.PartCode.{enter, leave}
use Rattle.protect.specs.GuardedParts.{guarded_parts, parts_named}
use Rattle.protect.specs.Protected.{protected}
use Rattle.protect.specs.GeneratedNames.{generated_texts}
use Rattle.protect_laws.specs.Exits.{EntersAndLeaves}
use Rattle.protect_laws.specs.Strip.{AreKnown, HasNoneGenerated}
use Rattle.protect_laws.specs.Guarded.{classes_of, Pairwise}

module _ (names : List (List ℕ)) where
  -- a body, and what becomes of it with these parts; without parts it stays as it is
  abbrev pub IsGuardedBody : List NameId → BlockTree → BlockTree → Type 0
  IsGuardedBody [] body woven = woven ≡ body
  IsGuardedBody (class ∷ classes) body woven =
      EntersAndLeaves (map (enter names) (class ∷ classes)) (map (leave names) (reverse (class ∷ classes))) woven

  -- an item, and what becomes of it: nothing but its body changes
  abbrev pub IsGuardedItem : List NameId → ItemTree → ItemTree → Type 0
  IsGuardedItem parts (p.label at access) woven = woven ≡ p.label at access
  IsGuardedItem parts (p.member m) woven = woven ≡ p.member m
  IsGuardedItem parts (p.function f) woven =
      (body : BlockTree) × (woven ≡ p.function (record f { body = body })) × IsGuardedBody parts f.body body
  IsGuardedItem parts (p.ctor c) woven =
      (body : BlockTree) × (woven ≡ p.ctor (record c { body = body })) × IsGuardedBody parts c.body body
  IsGuardedItem parts (p.dtor d) woven =
      (body : BlockTree) × (woven ≡ p.dtor (record d { body = body })) × IsGuardedBody parts d.body body

  -- a class, and what becomes of it: its items, and then others
  abbrev pub IsGuardedClass : List NameId → ClassTree → ClassTree → Type 0
  IsGuardedClass parts c woven =
      (own : List ItemTree) × (others : List ItemTree) × (woven ≡ record c { items = own ++ others })
      × Pairwise (IsGuardedItem parts) c.items own

-- each function of a class enters and leaves the parts of its objects
abbrev pub BodiesAreGuarded : Type 0
BodiesAreGuarded =
    (names : List (List ℕ)) (guards : List Guard) (q : ProgramTree)
    → HasNoneGenerated names q → AreKnown names (generated_texts names guards q)
    → let d = declared names q in
    Pairwise (λ c woven. IsGuardedClass names (parts_named d (guarded_parts guards d) c.name.item) c woven)
    (classes_of q) (classes_of (protected names guards q))
