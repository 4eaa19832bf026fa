-- Every program's core form names members with the kinds that their classes declare.
use Rattle.std.proofs.Common.{◌≡◌, ℕ, zero, suc, Bool, true, false, if◌then◌else◌, List, [], ◌∷◌, Option, Some, None, slice_get, subst}
use Rattle.std.proofs.lemmas.Option.{none-some, same_Some}
use Rattle.agxx_base.specs.declared.ids.ClassId.{ClassId}
use Rattle.agxx_base.specs.declared.ids.NameId.{NameId}
use Rattle.agxx_base.specs.declared.kind.NumKind.{NumKind}
use Rattle.agxx_base.specs.declared.place.Place.{Place}
use Rattle.cxx_tree.specs.declared.node.Placed.{Placed}
use Rattle.cxx_tree.specs.declared.program.Const.{Const}
use Rattle.cxx_tree.specs.ProgramTree as p
use Rattle.cxx_names.specs.declared.types.ValueType.{ValueType}
use Rattle.cxx_names.specs.declared.types.ValueType.TheVariants as type
use Rattle.cxx_names.specs.Declarations.{declared, class_named}
use Rattle.cxx_core.specs.CoreExpr.{CoreExprs}
use Rattle.cxx_core.specs.CoreStmt as cs
use Rattle.cxx_core.specs.CoreStmt.{CoreStmts}
use Rattle.cxx_core.specs.CoreProgram.{CoreFunction, CoreGlobal}
use Rattle.cxx_core.specs.Meanings.{Scope, Within, type_named}
use Rattle.cxx_core.specs.ElaboratedExpr.{core_exprs}
use Rattle.cxx_core.specs.ElaboratedStmt.{core_block}
use Rattle.cxx_core.specs.ElaboratedProgram as k
use Rattle.cxx_core.specs.ElaboratedProgram.{params_scope, core_program}
use Rattle.machine_laws.specs.Members.{Nothing, OfExprs, OfStmts, OfFunction, OfGlobals}
use Rattle.machine_laws.specs.Widths.{IsDeclared, HasDeclaredKinds}
use Rattle.machine_laws.proofs.MemberKinds.{member-declared}
use Rattle.machine_laws.proofs.Elaborated.{HoldsOfFound, exprs, block}

module _ (Holds : ClassId → ℕ → NumKind → Type 0) where
  -- ---- lists of functions

  abbrev OfFunctions : List CoreFunction → Type 0
  OfFunctions [] = Nothing
  OfFunctions (f ∷ fs) = OfFunction Holds f × OfFunctions fs

  numbered : (n : ℕ) (fs : List CoreFunction) → OfFunctions fs → OfFunctions (k.numbered_from n fs)
  numbered n [] h = tt
  numbered n (f ∷ fs) h = (record { base_arguments = h.0.base_arguments; body = h.0.body }, numbered (suc n) fs h.1)

  at-number : (fs : List CoreFunction) → OfFunctions fs → (i : ℕ) (f : CoreFunction) → slice_get fs i ≡ Some f → OfFunction Holds f
  at-number [] h i f e = absurd (none-some f e)
  at-number (g ∷ fs) h zero f e = subst (OfFunction Holds) (same_Some g f e) h.0
  at-number (g ∷ fs) h (suc i) f e = at-number fs h.1 i f e

  if-exprs : (b : Bool) (a z : CoreExprs) → OfExprs Holds a → OfExprs Holds z → OfExprs Holds (if b then a else z)
  if-exprs true a z p q = p
  if-exprs false a z p q = q

  if-stmts : (b : Bool) (a z : CoreStmts) → OfStmts Holds a → OfStmts Holds z → OfStmts Holds (if b then a else z)
  if-stmts true a z p q = p
  if-stmts false a z p q = q

  others-wrong : (base : Option (Placed NameId)) (is : List p.InitTree) (body : CoreStmts) → OfStmts Holds body → OfStmts Holds (k.others_wrong base is body)
  others-wrong base [] body h = h
  others-wrong base (i ∷ is) body h =
      let rest = others-wrong base is body h in
      if-stmts (k.is_named base i.name.item) (k.others_wrong base is body) (cs.more_stmts (cs.wrong i.name.at) (k.others_wrong base is body)) rest (tt, rest)

  module _ (w : Within) (found : HoldsOfFound Holds w.declared) where
    base-arguments : (scope : Scope) (base : Option (Placed NameId)) (is : List p.InitTree) → OfExprs Holds (k.base_arguments w scope base is)
    base-arguments scope base [] = tt
    base-arguments scope base (i ∷ is) =
        if-exprs (k.is_named base i.name.item) (core_exprs w scope i.arguments) (k.base_arguments w scope base is)
        (exprs Holds w found scope i.arguments) (base-arguments scope base is)

    function : (f : p.FunctionTree) → OfFunction Holds (k.core_function w f)
    function f = record {
      base_arguments = tt;
      body = block Holds (record w { result = type_named w.declared f.result.item }) found (params_scope w.declared f.params) f.body;
    }

    ctor : (base : Option (Placed NameId)) (f : p.CtorTree) → OfFunction Holds (k.core_ctor w base f)
    ctor base f = record {
      base_arguments = base-arguments (params_scope w.declared f.params) base f.inits;
      body = others-wrong base f.inits (core_block w (params_scope w.declared f.params) f.body) (block Holds w found (params_scope w.declared f.params) f.body);
    }

    dtor : (f : p.DtorTree) → OfFunction Holds (k.core_dtor w f)
    dtor f = record { base_arguments = tt; body = block Holds w found [] f.body }

    items : (base : Option (Placed NameId)) (is : List p.ItemTree) (rest : List CoreFunction) → OfFunctions rest → OfFunctions (k.items_functions w base is rest)
    items base [] rest h = h
    items base (p.label at access ∷ is) rest h = items base is rest h
    items base (p.member m ∷ is) rest h = items base is rest h
    items base (p.function f ∷ is) rest h = (function f, items base is rest h)
    items base (p.ctor f ∷ is) rest h = (ctor base f, items base is rest h)
    items base (p.dtor f ∷ is) rest h = (dtor f, items base is rest h)

  module _ (w : Within) (found : HoldsOfFound Holds w.declared) where
    functions : (n : ℕ) (xs : List p.DeclTree) → OfFunctions (k.decls_functions w n xs)
    functions n [] = tt
    functions n (p.class x ∷ xs) = items (k.in_class w n) found x.base x.items (k.decls_functions w (suc n) xs) (functions (suc n) xs)
    functions n (p.class_name x ∷ xs) = functions n xs
    functions n (p.free_function f ∷ xs) = (function w found f, functions n xs)
    functions n (p.proto f ∷ xs) = functions n xs
    functions n (p.global g ∷ xs) = functions n xs

    variable-as : (at : Place) (name : ℕ) (t : Option ValueType) (i : Option (Placed Const)) (gs : List CoreGlobal) → OfGlobals Holds gs → OfGlobals Holds (k.variable_as at name t i ∷ gs)
    variable-as at name (Some (type.Number j)) i gs h = h
    variable-as at name (Some (type.Pointer class)) i gs h = h
    variable-as at name _ i gs h = h

    object-as : (at : Place) (name : ℕ) (class : Option ClassId) (es : CoreExprs) (gs : List CoreGlobal) → OfExprs Holds es → OfGlobals Holds gs
        → OfGlobals Holds (k.object_as at name class es ∷ gs)
    object-as at name None es gs q h = h
    object-as at name (Some class) es gs q h = (q, h)

    one-global : (g : p.GlobalTree) (gs : List CoreGlobal) → OfGlobals Holds gs → OfGlobals Holds (k.core_global w g ∷ gs)
    one-global (p.variable v) gs h = variable-as v.type_name.at v.name.item.0 (type_named w.declared v.type_name.item) v.initial gs h
    one-global (p.object o) gs h =
        object-as o.class.at o.name.item.0 (class_named w.declared o.class.item.0) (core_exprs w [] o.arguments) gs (exprs Holds w found [] o.arguments) h
    one-global (p.mutex at name) gs h = h

    globals : (xs : List p.DeclTree) → OfGlobals Holds (k.decls_globals w xs)
    globals [] = tt
    globals (p.global g ∷ xs) = one-global g (k.decls_globals w xs) (globals xs)
    globals (p.class x ∷ xs) = globals xs
    globals (p.class_name x ∷ xs) = globals xs
    globals (p.free_function f ∷ xs) = globals xs
    globals (p.proto f ∷ xs) = globals xs

pub declared-kinds : (names : List (List ℕ)) (q : p.ProgramTree) → HasDeclaredKinds (core_program names q)
declared-kinds names q =
    let Holds = IsDeclared (core_program names q) in
    let w : Within = k.outside names (declared names q) in
    let found : HoldsOfFound Holds (declared names q) = member-declared names q in
    record {
      functions = at-number Holds (k.numbered_from 0 (k.decls_functions w 0 q.decls)) (numbered Holds 0 (k.decls_functions w 0 q.decls) (functions Holds w found 0 q.decls));
      globals = globals Holds w found q.decls;
    }
