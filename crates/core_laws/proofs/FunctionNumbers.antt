-- A function's number is its place among the functions of the core form.
use Rattle.std.proofs.Common.{◌≡◌, ◌∙◌, ℕ, refl, sym, ap, arith, Bool, true, false, if◌then◌else◌, List, [], ◌∷◌, Option, Some, None, option_map, slice_get, inl, inr, ◌⊎◌, subst}
use Rattle.std.proofs.lemmas.Option.{none-some, same_Some}
use Rattle.agxx_base.specs.declared.ids.ClassId.{ClassId}
use Rattle.agxx_base.specs.declared.place.Place.{Place}
use Rattle.cxx_tree.specs.declared.expr.Ref.{Ref}
use Rattle.cxx_tree.specs.declared.expr.Callee.{Callee}
use Rattle.cxx_tree.specs.declared.expr.Callee.TheVariants as callee_of
use Rattle.cxx_tree.specs.ProgramTree.{ProgramTree}
use Rattle.cxx_names.specs.declared.declarations.ClassInfo.{ClassInfo}
use Rattle.cxx_names.specs.declared.declarations.Signature.{Signature}
use Rattle.cxx_names.specs.Declarations as d
use Rattle.cxx_names.specs.LookUp as look
use Rattle.cxx_core.specs.CoreExpr.{CoreObject, CoreCallee}
use Rattle.cxx_core.specs.CoreProgram.{FunctionKind, plain, constructor, destructor, CoreFunction}
use Rattle.cxx_core.specs.Meanings.{Scope, object_at, bare_callee, method_in, method_found, callee_at}
use Rattle.cxx_core.specs.ElaboratedProgram as k
use Rattle.core_laws.specs.FunctionNumbers.{Any, StandsAt, IsCalled, within_program, NumbersMeanFunctions}
use Rattle.core_laws.proofs.Positions.{Held, AreGood, at-numbered, decls-good, none-good}

-- what is found on top was there before, or a class of the list has it
topmost-has : {A : Type 0} (find : ClassId → Option A) (cs : List ClassId) (before : Option (ClassId × A)) (x : ClassId × A) → look.topmost find before cs ≡ Some x → (before ≡ Some x) ⊎ (find x.0 ≡ Some x.1)
topmost-has find [] before x e = inl e
topmost-has {A = A} find (c ∷ cs) before x e = by (find c) refl (topmost-has find cs (look.or_next (look.found_in c (find c)) before) x e)
  where
    by : (o : Option A) → find c ≡ o → (look.or_next (look.found_in c (find c)) before ≡ Some x) ⊎ (find x.0 ≡ Some x.1) → (before ≡ Some x) ⊎ (find x.0 ≡ Some x.1)
    by o same (inr has) = inr has
    by None same (inl found) = inl (ap (λ u. look.or_next (look.found_in c u) before) (sym same) ∙ found)
    by (Some v) same (inl found) =
        let pair : (c, v) ≡ x = same_Some (c, v) x (ap (λ u. look.or_next (look.found_in c u) before) (sym same) ∙ found) in
        inr (subst (λ y. find y.0 ≡ Some y.1) pair same)

module _ (names : List (List ℕ)) (q : ProgramTree) where
  abbrev listed : List CoreFunction
  listed = k.decls_functions (k.outside names (d.declared names q)) 0 q.decls

  good : AreGood (d.declared names q) listed (d.declared names q)
  good = decls-good names (d.declared names q) listed q.decls d.empty (none-good names (d.declared names q) listed) refl

  stands : (kind : FunctionKind) (class : Option ClassId) (IsName : ℕ → Type 0) (s : Signature) → Held (d.declared names q) listed kind class IsName s → StandsAt names q kind class IsName s
  stands kind class IsName s held = (
    record held.0 { number = s.id.0 },
    at-numbered 0 listed s.id.0 s.id.0 held.0 (omega arith) held.1,
    held.2,
    record { number = refl; kind = held.3; class = held.4; params = held.5; result = held.6 },
  )

  free : (name : ℕ) (s : Signature) → look.free_signature (d.declared names q) name ≡ Some s → StandsAt names q plain None (λ n. n ≡ name) s
  free name s e = stands plain None (λ n. n ≡ name) s (good.functions name s e)

  method : (class : ClassId) (name : ℕ) (s : Signature) → look.method_by name (d.class_at (d.declared names q) class) ≡ Some s → StandsAt names q plain (Some class) (λ n. n ≡ name) s
  method class name s e = by (d.class_at (d.declared names q) class) refl e
    where
      by : (o : Option ClassInfo) → d.class_at (d.declared names q) class ≡ o → look.method_by name o ≡ Some s → StandsAt names q plain (Some class) (λ n. n ≡ name) s
      by None at found = absurd (none-some s found)
      by (Some info) at found = stands plain (Some class) (λ n. n ≡ name) s ((good.classes class info at).methods name s found)

  ctor : (class : ClassId) (s : Signature) → k.ctor_by (d.class_at (d.declared names q) class) ≡ Some s → StandsAt names q constructor (Some class) Any s
  ctor class s e = by (d.class_at (d.declared names q) class) refl e
    where
      by : (o : Option ClassInfo) → d.class_at (d.declared names q) class ≡ o → k.ctor_by o ≡ Some s → StandsAt names q constructor (Some class) Any s
      by None at found = absurd (none-some s found)
      by (Some info) at found = stands constructor (Some class) Any s ((good.classes class info at).ctor s found)

  dtor : (class : ClassId) (s : Signature) → k.dtor_by (d.class_at (d.declared names q) class) ≡ Some s → StandsAt names q destructor (Some class) Any s
  dtor class s e = by (d.class_at (d.declared names q) class) refl e
    where
      by : (o : Option ClassInfo) → d.class_at (d.declared names q) class ≡ o → k.dtor_by o ≡ Some s → StandsAt names q destructor (Some class) Any s
      by None at found = absurd (none-some s found)
      by (Some info) at found = stands destructor (Some class) Any s ((good.classes class info at).dtor s found)

  -- ---- calls

  abbrev Called : CoreCallee → Type 0
  Called called = (f : CoreFunction) × (slice_get (k.core_program names q).functions called.function ≡ Some f) × IsCalled called f

  -- a function of a class, or a free one
  abbrev Found : ℕ → Option ClassId × Signature → Type 0
  Found name f = StandsAt names q plain f.0 (λ n. n ≡ name) f.1

  free-found : (name : ℕ) (o : Option Signature) (f : Option ClassId × Signature) → look.free_signature (d.declared names q) name ≡ o → option_map (λ s. (None, s)) o ≡ Some f → Found name f
  free-found name None f same e = absurd (none-some f e)
  free-found name (Some s) f same e = subst (Found name) (same_Some (None, s) f e) (free name s same)

  method-found : (class : ClassId) (name : ℕ) (m : ClassId × Signature) → look.method_named (d.declared names q) class name ≡ Some m → Found name (Some m.0, m.1)
  method-found class name m e = by (topmost-has (λ c. look.method_by name (d.class_at (d.declared names q) c)) (look.lineage (d.declared names q) class) None m e)
    where
      by : (None ≡ Some m) ⊎ (look.method_by name (d.class_at (d.declared names q) m.0) ≡ Some m.1) → Found name (Some m.0, m.1)
      by (inl nothing) = absurd (none-some m nothing)
      by (inr has) = method m.0 name m.1 has

  own-found : (class : Option ClassId) (name : ℕ) (m : ClassId × Signature) → look.own_function (d.declared names q) class name ≡ Some m → Found name (Some m.0, m.1)
  own-found None name m e = absurd (none-some m e)
  own-found (Some class) name m e = method-found class name m e

  function-found : (class : Option ClassId) (r : Ref) (f : Option ClassId × Signature) → look.function (d.declared names q) class r ≡ Some f → Found r.name.item.0 f
  function-found class r f e = by r.global e
    where
      among : (o : Option (ClassId × Signature)) → look.own_function (d.declared names q) class r.name.item.0 ≡ o → look.function_by o (look.free_function (d.declared names q) r.name.item.0) ≡ Some f → Found r.name.item.0 f
      among None same found = free-found r.name.item.0 (look.free_signature (d.declared names q) r.name.item.0) f refl found
      among (Some m) same found = subst (Found r.name.item.0) (same_Some (Some m.0, m.1) f found) (own-found class r.name.item.0 m same)

      by : (b : Bool) → (if b then look.free_function (d.declared names q) r.name.item.0 else look.function_by (look.own_function (d.declared names q) class r.name.item.0) (look.free_function (d.declared names q) r.name.item.0)) ≡ Some f → Found r.name.item.0 f
      by true found = free-found r.name.item.0 (look.free_signature (d.declared names q) r.name.item.0) f refl found
      by false found = among (look.own_function (d.declared names q) class r.name.item.0) refl found

  bare-called : (at : Place) (r : Ref) (o : Option (Option ClassId × Signature)) (called : CoreCallee) → ((f : Option ClassId × Signature) → o ≡ Some f → Found r.name.item.0 f) → bare_callee (d.declared names q) at r o ≡ Some called → Called called
  bare-called at r None called found e = absurd (none-some called e)
  bare-called at r (Some f) called found e =
      let s = found f refl in
      subst Called (same_Some _ called e)
      (s.0, s.1, record { number = s.3.number; kind = s.3.kind; class = s.3.class; name = s.2; result = s.3.result })

  method-called : (at named : Place) (name : ℕ) (x : CoreObject) (o : Option (ClassId × Signature)) (called : CoreCallee) → ((m : ClassId × Signature) → o ≡ Some m → Found name (Some m.0, m.1)) → method_found (d.declared names q) at named name x o ≡ Some called → Called called
  method-called at named name x None called found e = absurd (none-some called e)
  method-called at named name x (Some m) called found e =
      let s = found m refl in
      subst Called (same_Some _ called e)
      (s.0, s.1, record { number = s.3.number; kind = s.3.kind; class = s.3.class; name = s.2; result = s.3.result })

  object-called : (at named : Place) (name : ℕ) (o : Option (CoreObject × ClassId)) (called : CoreCallee) → method_in (d.declared names q) at named name o ≡ Some called → Called called
  object-called at named name None called e = absurd (none-some called e)
  object-called at named name (Some o) called e =
      method-called at named name o.0 (look.method_named (d.declared names q) o.1 name) called (method-found o.1 name) e

  callee : (class : Option ClassId) (scope : Scope) (at : Place) (x : Callee) (called : CoreCallee) → callee_at (within_program names q class) scope at x ≡ Some called → Called called
  callee class scope at (callee_of.Bare r) called e =
      bare-called at r (look.function (d.declared names q) class r) called (function-found class r) e
  callee class scope at (callee_of.Member x) called e =
      object-called at x.name.at x.name.item.0 (object_at (within_program names q class) scope x.base) called e

pub functions-stand : NumbersMeanFunctions
functions-stand = record { of_free = free; of_method = method; of_ctor = ctor; of_dtor = dtor; of_callee = callee }
