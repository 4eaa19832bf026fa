-- The texts of the names that protection gives to what it makes of a program.
use Rattle.std.specs.Prelude.{ℕ, max, List, [], ◌∷◌, ◌++◌, Option, Some, None}
use Rattle.std.specs.List.{flat_map}
use Rattle.cxx_tree.specs.ProgramTree as p
use Rattle.cxx_tree.specs.ProgramTree.{ItemTree, DeclTree, ProgramTree}
use Rattle.cxx_make.specs.Generated.{text_of, all_interned}
use Rattle.guards.specs.declared.guard.Guard.{Guard}
use Rattle.guards.specs.declared.guard.GuardKind.{GuardKind}
use Rattle.codec.specs.declared.part.Part.{Part}
use Rattle.codec.specs.Codes.{code_texts}
use Rattle.entry_count.specs.PartCode.{part_texts, mutex_texts}
use Rattle.entry_count.specs.Wrapping.{returns_in_block, value_texts}
use Rattle.protect.specs.GuardedParts.{part_of}
use Rattle.protect.specs.Protected.{code_of}

-- of a part with this guard
unfoldable pub own_texts : List (List ℕ) → GuardKind → Part → List (List ℕ)
own_texts names kind part = part_texts (text_of names part.class.item) ++ code_texts (code_of kind) names part

abbrev pub texts_of_part : List (List ℕ) → Option (GuardKind × Part) → List (List ℕ)
texts_of_part names None = []
texts_of_part names (Some (kind, part)) = own_texts names kind part

-- of an item that is a function, how many values it returns
abbrev pub returns_of : ItemTree → ℕ
returns_of (p.label at access) = 0
returns_of (p.member m) = 0
returns_of (p.function f) = returns_in_block f.body
returns_of (p.ctor c) = returns_in_block c.body
returns_of (p.dtor d) = returns_in_block d.body

-- the most values that one of them returns, or this many
abbrev pub most_returns : ℕ → List ItemTree → ℕ
most_returns most [] = most
most_returns most (item ∷ items) = most_returns (max most (returns_of item)) items

abbrev pub most_in_decls : ℕ → List DeclTree → ℕ
most_in_decls most [] = most
most_in_decls most (p.class c ∷ decls) = most_in_decls (most_returns most c.items) decls
most_in_decls most (p.class_name c ∷ decls) = most_in_decls most decls
most_in_decls most (p.free_function f ∷ decls) = most_in_decls most decls
most_in_decls most (p.proto f ∷ decls) = most_in_decls most decls
most_in_decls most (p.global g ∷ decls) = most_in_decls most decls

module _ (names : List (List ℕ)) (guards : List Guard) where
  abbrev pub texts_of_decl : DeclTree → List (List ℕ)
  texts_of_decl (p.class c) = texts_of_part names (part_of guards c)
  texts_of_decl (p.class_name c) = []
  texts_of_decl (p.free_function f) = []
  texts_of_decl (p.proto f) = []
  texts_of_decl (p.global g) = []

  -- those of the parts, of the functions of mutexes, and of the locals for as many returned values as some function has
  abbrev pub generated_texts : ProgramTree → List (List ℕ)
  generated_texts q = flat_map texts_of_decl q.decls ++ (mutex_texts ++ value_texts 1 (most_in_decls 0 q.decls))

-- the table in which each of them has a number
abbrev pub with_generated : List (List ℕ) → List Guard → ProgramTree → List (List ℕ)
with_generated names guards q = all_interned names (generated_texts names guards q)
