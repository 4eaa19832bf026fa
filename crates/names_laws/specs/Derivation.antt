-- Which class derives from which, without a bound on how far it goes: a class derives from itself, and from what its base
-- derives from.
use Rattle.std.specs.Prelude.{◌≡◌, ℕ, ◌<◌, true, ◌⊎◌, List, [], ◌∷◌, Option, Some, None}
use Rattle.agxx_base.specs.declared.ids.ClassId.{ClassId}
use Rattle.cxx_tree.specs.ProgramTree.{ProgramTree}
use Rattle.cxx_names.specs.declared.declarations.Declared.{Declared}
use Rattle.cxx_names.specs.Declarations.{class_at, declared}
use Rattle.cxx_names.specs.LookUp.{base_by, lineage, derives}

-- the base of a class, if it has one
abbrev pub base_of : Declared → ClassId → Option ClassId
base_of d class = base_by (class_at d class)

-- one class derives from another
pub data IsDerived (d : Declared) : ClassId → ClassId → Type 0 where
  itself : (class : ClassId) → IsDerived d class class
  above : (class base from : ClassId) → base_of d class ≡ Some base → IsDerived d base from → IsDerived d class from

-- the line of a class, if there is one
abbrev pub line_of : Declared → Option ClassId → List ClassId
line_of d None = []
line_of d (Some class) = lineage d class

pub record IsOrdered (d : Declared) : Type 0 where
  -- the line of a class is the class, and then the line of its base
  pub line : (class : ClassId) → lineage d class ≡ class ∷ line_of d (base_of d class)
  pub told : (class from : ClassId) → derives d class from ≡ true → IsDerived d class from
  pub no_other : (class from : ClassId) → IsDerived d class from → derives d class from ≡ true
  -- an order on classes,
  pub reflexive : (class : ClassId) → derives d class class ≡ true
  pub transitive : (a b c : ClassId) → derives d a b ≡ true → derives d b c ≡ true → derives d a c ≡ true
  pub antisymmetric : (a b : ClassId) → derives d a b ≡ true → derives d b a ≡ true → a ≡ b
  -- along declarations: what another derives from is declared before it
  pub before : (a b : ClassId) → derives d a b ≡ true → (b.0 < a.0) ⊎ (a ≡ b)
  -- and of two that one derives from, one derives from the other
  pub in_a_line : (a b c : ClassId) → derives d a b ≡ true → derives d a c ≡ true → (derives d b c ≡ true) ⊎ (derives d c b ≡ true)

-- in what every program declares
abbrev pub DerivationIsOrder : Type 0
DerivationIsOrder = (names : List (List ℕ)) (q : ProgramTree) → IsOrdered (declared names q)
