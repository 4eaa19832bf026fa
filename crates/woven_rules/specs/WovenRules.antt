-- The protected program keeps the rules on names and types: where a program that a user wrote keeps them all, and the
-- rules on guards, its protected program keeps them all as a woven one.
use Rattle.std.specs.Prelude.{◌≡◌, ℕ, List, [], None}
use Rattle.agxx_base.specs.Names.{IsDistinct}
use Rattle.agxx_base.specs.declared.kind.Mode.TheVariants as mode
use Rattle.agxx_base.specs.declared.place.Place.{Place}
use Rattle.cxx_tree.specs.Limits.{Every}
use Rattle.cxx_tree.specs.Fits.{IsPlainType}
use Rattle.cxx_tree.specs.ProgramTree as p
use Rattle.cxx_tree.specs.ProgramTree.{ItemTree, ClassTree, ProgramTree}
use Rattle.cxx_types.specs.Violations.{violations_of, refusal_of}
use Rattle.cxx_rules.specs.Rules as rules
use Rattle.guards.specs.declared.guard.Guard.{Guard}
use Rattle.guard_rules.specs.Violations.{violations_of_guards}
use Rattle.protect.specs.Protected.{protected}
use Rattle.protect.specs.GeneratedNames.{with_generated}
use Rattle.protect_laws.specs.Guarded.{classes_of}
use Rattle.protect_laws.specs.Strip.{HasTexts, HasNoneGenerated}

-- ---- what is known of a program that is protected

-- no member is a mutex, and no function has one as its result
abbrev pub HasPlainType : ItemTree → Type 0
HasPlainType (p.label at access) = Unit {0}
HasPlainType (p.member m) = IsPlainType m.type_name.item
HasPlainType (p.function f) = IsPlainType f.result.item
HasPlainType (p.ctor c) = Unit {0}
HasPlainType (p.dtor d) = Unit {0}

abbrev pub HasPlainTypes : ProgramTree → Type 0
HasPlainTypes q = Every (λ (c : ClassTree). Every HasPlainType c.items) (classes_of q)

-- The names of a program have texts of their own, none of which begins as generated ones do, and the program keeps the
-- rules on names and types, as one that a user wrote, and those on guards.
pub record IsReady (names : List (List ℕ)) (guards : List Guard) (q : ProgramTree) : Type 0 where
  pub distinct : IsDistinct names
  pub texts : HasTexts names q
  pub own : HasNoneGenerated names q
  pub plain : HasPlainTypes q
  pub accepted : violations_of names mode.Source q ≡ []
  pub guarded : violations_of_guards names guards q ≡ []

-- a fact of the protected programs of all programs that are ready
abbrev pub OfProtected : (List (List ℕ) → ProgramTree → Type 0) → Type 0
OfProtected Fact =
    (names : List (List ℕ)) (guards : List Guard) (q : ProgramTree) → IsReady names guards q
    → let all = with_generated names guards q in Fact all (protected all guards q)

-- ---- rule by rule

-- a rule is violated nowhere
abbrev pub Keeps : (List (List ℕ) → ProgramTree → List Place) → Type 0
Keeps violated = OfProtected (λ names q. violated names q ≡ [])

pub record KeepsEachRule : Type 0 where
  pub unknown_name : Keeps rules.unknown_name
  pub declared_twice : Keeps rules.declared_twice
  pub types_disagree : Keeps rules.types_disagree
  pub wrong_number_of_arguments : Keeps rules.wrong_number_of_arguments
  pub base_not_declared_before : Keeps rules.base_not_declared_before
  pub not_accessible : Keeps rules.not_accessible
  pub address_of_no_global_object : Keeps rules.address_of_no_global_object
  pub not_allowed_here : Keeps rules.not_allowed_here
  pub no_main : Keeps rules.no_main
  pub too_many : Keeps (λ names q. rules.too_many names mode.Woven q)

-- ---- the law

-- no rule is violated, and so none is told
abbrev pub IsAccepted : List (List ℕ) → ProgramTree → Type 0
IsAccepted names q = (violations_of names mode.Woven q ≡ []) × (refusal_of names mode.Woven q ≡ None)

abbrev pub ProtectedIsAccepted : Type 0
ProtectedIsAccepted = OfProtected IsAccepted
