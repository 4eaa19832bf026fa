-- Which classes of a protected program have parts, what members they have, and what words their parts have.
use Rattle.std.specs.Prelude.{◌≡◌, ℕ, Bool, ◌&&◌, not, List, [], ◌∷◌, ◌++◌, filter, Option, Some, None, is_some}
use Rattle.std.specs.List.{flat_map}
use Rattle.agxx_base.specs.declared.ids.NameId.{NameId}
use Rattle.cxx_tree.specs.declared.program.Member.{Member}
use Rattle.cxx_tree.specs.ProgramTree as p
use Rattle.cxx_tree.specs.ProgramTree.{ClassTree, DeclTree, ProgramTree}
use Rattle.cxx_names.specs.declared.declarations.ClassInfo.{ClassInfo}
use Rattle.cxx_names.specs.Declarations.{declared, is_text}
use Rattle.cxx_layout.specs.Layouts.{kind_of}
use Rattle.cxx_layout.specs.Parts.{has_part, part_name}
use Rattle.cxx_make.specs.Generated.{text_of}
use Rattle.guards.specs.declared.guard.Guard.{Guard}
use Rattle.guards.specs.declared.guard.GuardKind.{GuardKind}
use Rattle.codec.specs.declared.part.Part.{Part}
use Rattle.entry_count.specs.PartCode.{part_members}
use Rattle.protect.specs.GuardedParts.{members_of, part_of}
use Rattle.protect.specs.Protected.{code_of, protected}
use Rattle.protect.specs.GeneratedNames.{generated_texts}
use Rattle.protect_laws.specs.Strip.{AreKnown, HasTexts, HasNoneGenerated}

abbrev pub class_in : DeclTree → List ClassTree
class_in (p.class c) = c ∷ []
class_in (p.class_name c) = []
class_in (p.free_function f) = []
class_in (p.proto f) = []
class_in (p.global g) = []

-- the classes of a program, in order
abbrev pub classes_of : ProgramTree → List ClassTree
classes_of q = flat_map class_in q.decls

-- what holds of two lists, one by one; they are of one length
abbrev pub Pairwise : {A B : Type 0} → (A → B → Type 0) → List A → List B → Type 0
Pairwise Holds [] [] = Unit {0}
Pairwise Holds [] (y ∷ ys) = ⊥
Pairwise Holds (x ∷ xs) [] = ⊥
Pairwise Holds (x ∷ xs) (y ∷ ys) = Holds x y × Pairwise Holds xs ys

-- the members that the code of a part adds, then the counter and the lock
abbrev pub extra_members : List (List ℕ) → Option (GuardKind × Part) → List Member
extra_members names None = []
extra_members names (Some (kind, part)) = part_members (code_of kind) names part

-- a class as it is declared has a part exactly if the class of the source is guarded and declares a member
abbrev pub HasItsPart : List (List ℕ) → List Guard → ClassTree → ClassInfo → Type 0
HasItsPart names guards c info = (info.name ≡ c.name) × (has_part names info ≡ is_some (part_of guards c))

-- a class has the members of its source, and behind them those of its part
abbrev pub HasItsMembers : List (List ℕ) → List Guard → ClassTree → ClassTree → Type 0
HasItsMembers names guards c woven =
    (woven.name ≡ c.name) × (woven.base ≡ c.base) × (members_of woven ≡ members_of c
    ++ extra_members names (part_of guards c))

-- whether a member is a word of its object: one of a number type is
abbrev pub is_word : Member → Bool
is_word m = is_some (kind_of m.type_name.item)

-- whether a member of a class of this name is a word of its part: each word is but the one that counts
abbrev pub is_part_word : List (List ℕ) → NameId → Member → Bool
is_part_word names class m = is_word m && not (is_text names m.name.item.0 (part_name (text_of names class)))

-- the words of a class's part
abbrev pub part_words : List (List ℕ) → ClassTree → List Member
part_words names c = filter (is_part_word names c.name.item) (members_of c)

-- a part has the words of its class in the source, and then those that its code adds
abbrev pub HasItsWords : List (List ℕ) → ClassTree → ClassTree → Option (GuardKind × Part) → Type 0
HasItsWords names c woven None = Unit {0}
HasItsWords names c woven (Some (kind, part)) =
    part_words names woven ≡ filter is_word (members_of c) ++ (code_of kind).members names part

-- the classes with a part in a protected program are those of its source that are guarded and have a member
abbrev pub PartsAreGuarded : Type 0
PartsAreGuarded =
    (names : List (List ℕ)) (guards : List Guard) (q : ProgramTree)
    → HasTexts names q → HasNoneGenerated names q → AreKnown names (generated_texts names guards q)
    → Pairwise (HasItsPart names guards) (classes_of q) (declared names (protected names guards q)).classes

abbrev pub MembersAreAdded : Type 0
MembersAreAdded =
    (names : List (List ℕ)) (guards : List Guard) (q : ProgramTree)
    → Pairwise (HasItsMembers names guards) (classes_of q) (classes_of (protected names guards q))

abbrev pub WordsAreAdded : Type 0
WordsAreAdded =
    (names : List (List ℕ)) (guards : List Guard) (q : ProgramTree)
    → HasNoneGenerated names q → AreKnown names (generated_texts names guards q)
    → Pairwise (λ c woven. HasItsWords names c woven (part_of guards c)) (classes_of q)
    (classes_of (protected names guards q))
