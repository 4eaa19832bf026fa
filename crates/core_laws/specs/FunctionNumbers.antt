-- A function's number is its place among the functions of the core form.
use Rattle.std.specs.Prelude.{◌≡◌, ℕ, List, map, Option, Some, None, slice_get}
use Rattle.agxx_base.specs.declared.ids.ClassId.{ClassId}
use Rattle.agxx_base.specs.declared.place.Place.{Place}
use Rattle.cxx_tree.specs.declared.expr.Callee.{Callee}
use Rattle.cxx_tree.specs.ProgramTree.{ProgramTree}
use Rattle.cxx_names.specs.declared.declarations.Declared.{Declared}
use Rattle.cxx_names.specs.declared.declarations.Signature.{Signature}
use Rattle.cxx_names.specs.Declarations.{declared, class_at}
use Rattle.cxx_names.specs.LookUp.{free_signature, method_by}
use Rattle.cxx_core.specs.CoreExpr.{CoreCallee}
use Rattle.cxx_core.specs.CoreProgram.{FunctionKind, plain, constructor, destructor, CoreFunction}
use Rattle.cxx_core.specs.Meanings.{Scope, Within, type_named, callee_at}
use Rattle.cxx_core.specs.ElaboratedProgram.{core_param, ctor_by, dtor_by, core_program}

-- a function of this kind and class, with the number, the parameters and the result that the signature has
pub record IsSigned (d : Declared) (of_kind : FunctionKind) (in_class : Option ClassId) (s : Signature) (f : CoreFunction) : Type 0 where
  pub number : f.number ≡ s.id.0
  pub kind : f.kind ≡ of_kind
  pub class : f.class ≡ in_class
  pub params : f.params ≡ map (core_param d) s.params
  pub result : f.result ≡ type_named d s.result

-- there is such a function at the number, under a name that fits
abbrev pub StandsAt : List (List ℕ) → ProgramTree → FunctionKind → Option ClassId → (ℕ → Type 0) → Signature → Type 0
StandsAt names q of_kind in_class IsName s =
    (f : CoreFunction) × (slice_get (core_program names q).functions s.id.0 ≡ Some f) × IsName f.name.item.0
    × IsSigned (declared names q) of_kind in_class s f

abbrev pub Any : ℕ → Type 0
Any name = Unit {0}

-- the function of a call
pub record IsCalled (called : CoreCallee) (f : CoreFunction) : Type 0 where
  pub number : f.number ≡ called.function
  pub kind : f.kind ≡ plain
  pub class : f.class ≡ called.class
  pub name : f.name.item.0 ≡ called.name
  pub result : f.result ≡ called.result

abbrev pub within_program : List (List ℕ) → ProgramTree → Option ClassId → Within
within_program names q class = record { names = names; declared = declared names q; class = class; result = None }

pub record NumbersMeanFunctions : Type 0 where
  pub of_free : (names : List (List ℕ)) (q : ProgramTree) (name : ℕ) (s : Signature) → free_signature (declared names q) name ≡ Some s → StandsAt names q plain None (λ n. n ≡ name) s
  pub of_method : (names : List (List ℕ)) (q : ProgramTree) (class : ClassId) (name : ℕ) (s : Signature) → method_by name (class_at (declared names q) class) ≡ Some s → StandsAt names q plain (Some class) (λ n. n ≡ name) s
  pub of_ctor : (names : List (List ℕ)) (q : ProgramTree) (class : ClassId) (s : Signature) → ctor_by (class_at (declared names q) class) ≡ Some s → StandsAt names q constructor (Some class) Any s
  pub of_dtor : (names : List (List ℕ)) (q : ProgramTree) (class : ClassId) (s : Signature) → dtor_by (class_at (declared names q) class) ≡ Some s → StandsAt names q destructor (Some class) Any s
  pub of_callee : (names : List (List ℕ)) (q : ProgramTree) (class : Option ClassId) (scope : Scope) (at : Place) (x : Callee) (called : CoreCallee) → callee_at (within_program names q class) scope at x ≡ Some called → (f : CoreFunction) × (slice_get (core_program names q).functions called.function ≡ Some f) × IsCalled called f
