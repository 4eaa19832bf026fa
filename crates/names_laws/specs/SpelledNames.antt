-- The names that are counted in a program are the names in its spelling, in their order: but for those with a meaning at
-- their place, as `std`, and for declarations of a class's name alone and of a function without its body.
use Rattle.std.specs.Prelude.{◌≡◌, ℕ, Bool, true, List, [], ◌∷◌, if◌then◌else◌}
use Rattle.std.specs.List.{flat_map}
use Rattle.agxx_base.specs.declared.ids.NameId.{NameId}
use Rattle.agxx_base.specs.declared.vocabulary.SpecialName.{SpecialName}
use Rattle.cxx_tree.specs.declared.node.Placed.{Placed}
use Rattle.cxx_tree.specs.Words.{Word, name}
use Rattle.cxx_tree.specs.ProgramTree as p
use Rattle.cxx_tree.specs.ProgramTree.{DeclTree, ProgramTree}
use Rattle.cxx_tree.specs.Limits.{Grammar}
use Rattle.cxx_tree.specs.Fits.{IsProgram}
use Rattle.cxx_tree.specs.Spelling.{spell_program}
use Rattle.cxx_distinct.specs.NamesIn.{names_in_program}

-- the numbers of names, where some are left out
module _ (left_out : ℕ → Bool) where
  abbrev pub kept : ℕ → List ℕ
  kept n = if left_out n then [] else n ∷ []

  abbrev pub names_in_word : Word → List ℕ
  names_in_word (name n) = kept n
  names_in_word _ = []

  abbrev pub spelled_names : List Word → List ℕ
  spelled_names words = flat_map names_in_word words

  abbrev pub counted_names : List (Placed NameId) → List ℕ
  counted_names ns = flat_map (λ (n : Placed NameId). kept n.item.0) ns

-- a declaration, if it has a body
abbrev pub whole : DeclTree → List DeclTree
whole (p.class_name c) = []
whole (p.proto f) = []
whole (p.class c) = p.class c ∷ []
whole (p.free_function f) = p.free_function f ∷ []
whole (p.global g) = p.global g ∷ []

abbrev pub with_whole : ProgramTree → ProgramTree
with_whole q = record q { decls = flat_map whole q.decls }

-- whichever names are left out, where those with a meaning at their place are among them
abbrev pub NamesAreSpelled : Type 0
NamesAreSpelled =
    (grammar : Grammar) (q : ProgramTree) → IsProgram grammar q → (special : SpecialName → ℕ) (left_out : ℕ → Bool) → ((what : SpecialName) → left_out (special what) ≡ true)
    → spelled_names left_out (spell_program special (with_whole q)) ≡ counted_names left_out (names_in_program q)
