-- Wrapped bodies of functions that violate no rule violate none.
use Rattle.std.proofs.Common.{◌≡◌, ◌≢◌, ◌⊎◌, inl, inr, refl, sym, ap, ◌∙◌, subst, ℕ, suc, ◌+◌, ◌≤◌, ◌<◌, arith, Bool, true, false, not, ◌||◌, if◌then◌else◌, List, [], ◌∷◌, ◌++◌, reverse, slice_get, Option, Some, None, is_some, option_map, append_assoc, codes}
use Rattle.std.specs.List.{list_any}
use Rattle.std.proofs.lemmas.List.{append-nil}
use Rattle.agxx_base.specs.declared.ids.ClassId.{ClassId}
use Rattle.agxx_base.specs.declared.ids.NameId.{NameId}
use Rattle.agxx_base.specs.declared.place.Place.{Place}
use Rattle.cxx_tree.specs.declared.node.Placed.{Placed}
use Rattle.cxx_tree.specs.declared.program.TypeName.{TypeName}
use Rattle.cxx_tree.specs.declared.program.TypeName.TheVariants as type_name
use Rattle.cxx_tree.specs.Limits.{Every}
use Rattle.cxx_tree.specs.Fits.{IsPlainType}
use Rattle.cxx_tree.specs.ExprTree.{ExprTree}
use Rattle.cxx_tree.specs.StmtTree as s
use Rattle.cxx_tree.specs.StmtTree.{StmtTree, StmtTrees, BlockTree, listed_stmts}
use Rattle.cxx_normal.specs.Entry.{ends_with_return}
use Rattle.cxx_names.specs.declared.declarations.Declared.{Declared}
use Rattle.cxx_names.specs.declared.types.ValueType.{ValueType}
use Rattle.cxx_names.specs.declared.types.ValueType.TheVariants as value_type
use Rattle.cxx_names.specs.declared.types.Thing.{Thing}
use Rattle.cxx_names.specs.declared.types.Variable.TheVariants as variable_of
use Rattle.cxx_names.specs.Declarations.{class_named}
use Rattle.cxx_names.specs.LookUp as look
use Rattle.cxx_names.specs.LookUp.{thing_of}
use Rattle.cxx_names.specs.Tables.{with_name}
use Rattle.cxx_distinct.specs.NamesIn as n
use Rattle.cxx_types.specs.declared.context.Context.{Context}
use Rattle.cxx_types.specs.declared.context.Owner.{Owner}
use Rattle.cxx_types.specs.declared.context.Owner.TheVariants as owner
use Rattle.cxx_types.specs.Conversion.{may_convert, converts}
use Rattle.cxx_types.specs.Selections.{held, is_value, value_of}
use Rattle.cxx_types.specs.Access.{variable_is_accessible}
use Rattle.cxx_types.specs.Calls.{is_void, result_type}
use Rattle.cxx_rules.specs.Sites as at
use Rattle.cxx_rules.specs.Sites.{Site}
use Rattle.cxx_rules.specs.Types as typed
use Rattle.cxx_rules.specs.Forms as form
use Rattle.cxx_rules.specs.StmtForms as f
use Rattle.cxx_rules.specs.Unless.{unless}
use Rattle.cxx_rules.specs.UnknownName as n1
use Rattle.cxx_rules.specs.DeclaredTwice as n2
use Rattle.cxx_rules.specs.TypesDisagree as n3
use Rattle.cxx_rules.specs.NotAllowedHere as n8
use Rattle.cxx_make.specs.Generated.{numbered}
use Rattle.cxx_make.specs.Made as made
use Rattle.entry_count.specs.PartCode.{enter, leave}
use Rattle.entry_count.specs.Wrapping as w
use Rattle.woven_rules.proofs.Tables.{same-number, named-new, named-other}
use Rattle.woven_rules.proofs.Right.{Rights, front, back, joined, holds}
use Rattle.woven_rules.proofs.Seen.{OwnNames, Both, source, woven}
use Rattle.woven_rules.proofs.MovedExpressions.{expr-right}
use Rattle.woven_rules.proofs.MovedStatements.{converts-to, return-right, counted-right}
use Rattle.woven_rules.proofs.Mapped.{mapped_stmts, wrapping, stmts-are, listed-list, leaving_alone, alone-stmts}
use Rattle.woven_rules.proofs.MappedRight.{IsFresh, IsSame, Later, at_scope, stmts-right}
use Rattle.woven_rules.proofs.Calls.{IsProcedure, calls-right}
use Rattle.protect_laws.proofs.Shapes.{calls, entering-is, leaving-is, returns_value, returning-is, end-is}

-- ---- what wrapping makes, spelled out

-- the local for a returned value that so many others stand before
abbrev pub value_at : List (List ℕ) → ℕ → NameId
value_at names k = numbered names (codes "__gop_r_") (suc k)

-- ---- types of results

-- a class behind a pointer is one
abbrev pub IsKnownType : Declared → TypeName → Type 0
IsKnownType d (type_name.Pointer class) = is_some (class_named d class.0) ≡ true
IsKnownType d _ = Unit {0}

pub pointed-known : (v : Site) (t : Placed TypeName) (type : TypeName) → IsKnownType v.declared type
    → n1.unknown_pointed v t type ≡ None
pointed-known v t (type_name.Num kind) known = refl
pointed-known v t type_name.Int known = refl
pointed-known v t type_name.Unsigned known = refl
pointed-known v t type_name.Void known = refl
pointed-known v t (type_name.Pointer class) known = ap (λ b. unless b t.at) known
pointed-known v t type_name.Mutex known = refl

pub known-pointed : (v : Site) (t : Placed TypeName) (type : TypeName) → n1.unknown_pointed v t type ≡ None
    → IsKnownType v.declared type
known-pointed v t (type_name.Num kind) right = tt
known-pointed v t type_name.Int right = tt
known-pointed v t type_name.Unsigned right = tt
known-pointed v t type_name.Void right = tt
known-pointed v t (type_name.Pointer class) right = holds (is_some (class_named v.declared class.0)) t.at right
known-pointed v t type_name.Mutex right = tt

not-void : (at : Place) (t : TypeName) → is_void t ≡ false → n8.void_variable at t ≡ None
not-void at (type_name.Num kind) e = refl
not-void at type_name.Int e = refl
not-void at type_name.Unsigned e = refl
not-void at type_name.Void e = absurd (cc e)
not-void at (type_name.Pointer class) e = refl
not-void at type_name.Mutex e = refl

value-plain : (d : Declared) (t : TypeName) → IsPlainType t → is_value (thing_of d t) ≡ true
value-plain d (type_name.Num kind) plain = refl
value-plain d type_name.Int plain = refl
value-plain d type_name.Unsigned plain = refl
value-plain d type_name.Void plain = refl
value-plain d (type_name.Pointer class) plain = by (class_named d class.0)
  where
    by : (o : Option ClassId) → is_value (look.pointer_by o) ≡ true
    by None = refl
    by (Some c) = refl
value-plain d type_name.Mutex plain = absurd plain

-- a value converts to its own type
converts-itself : (d : Declared) (t : ValueType) → converts d t t ≡ true
converts-itself d (value_type.Number kind) = refl
converts-itself d (value_type.Pointer class) =
    ap (λ b. b || list_any (look.same_class class)
    (look.above d.classes (look.ancestors_by (slice_get d.classes class.0)) class)) (same-number class.0)
converts-itself d value_type.Null = refl

may-convert-itself : (d : Declared) (t : Option ValueType) → may_convert d t t ≡ true
may-convert-itself d None = refl
may-convert-itself d (Some t) = converts-itself d t

-- ---- returned values

module _ (Own : ℕ → Type 0) (most : ℕ) (names : List (List ℕ)) where
  abbrev value : ℕ → NameId
  value k = value_at names k

  module _ (result : TypeName) (plain : IsPlainType result) (parts : List NameId)
      (foreign : (i j : ℕ) → i < most → Own j → (value i).0 ≢ j)
      (differ : (i j : ℕ) → i < most → j < most → i ≢ j → (value i).0 ≢ (value j).0) where
    -- where bodies with this result are wrapped
    pub record IsGood (d z : Declared) (context : Context) : Type 0 where
      pub owner : (context.owner ≡ owner.Function result) ⊎ (context.owner ≡ owner.Lifecycle)
      pub known : IsKnownType z result
      pub enters : Every (λ (class : NameId). IsProcedure z context.class (enter names class)) parts
      pub leaves : Every (λ (class : NameId). IsProcedure z context.class (leave names class)) (reverse parts)
      pub classes : (i : ℕ) → i < most → class_named z (value i).0 ≡ None

    -- a value that may be returned is of a type that isn't `void`, and converts to it
    may-return : (b : Both Own) (o : Owner) (place : Place) (x : ExprTree) → o ≡ owner.Function result
        → n3.wrongly_returned (source Own b) o place (Some x) ≡ None
        → (is_void result ≡ false) × (may_convert b.d (typed.type_of_expr (source Own b) x)
        (result_type b.d result) ≡ true)
    may-return b o place x is right =
        by (is_void result) refl (holds (n3.returns (source Own b) result (Some x)) place
        (ap (λ y. n3.wrongly_returned (source Own b) y place (Some x)) (sym is) ∙ right))
      where
        by : (y : Bool) → is_void result ≡ y
            → (if y then false else may_convert b.d (typed.type_of_expr (source Own b) x) (result_type b.d result)) ≡
            true
            → (is_void result ≡ false) × (may_convert b.d (typed.type_of_expr (source Own b) x)
            (result_type b.d result) ≡ true)
        by true e h = absurd (cc h)
        by false e h = (e, h)

    no-return : (o : Owner) (place : Place) → o ≡ owner.Lifecycle → n8.return_not_allowed place o ≡ None → ⊥
    no-return o place is right = let both : Some place ≡ None =
        ap (n8.return_not_allowed place) (sym is) ∙ right in cc

    module _ (b : Both Own) (good : IsGood b.d b.z b.context) (outermost : Bool) (k : ℕ)
        (fresh : IsFresh Own most value k b.t) (place : Place) (x : ExprTree) (few : k < most)
        (own : OwnNames Own (n.names_in_expr x)) (h : Rights (f.forms_of_return (source Own b) place (Some x)))
        (is : b.context.owner ≡ owner.Function result) where
      abbrev taken : s.LocalTree
      taken =
          record {
            type_name = record { at = place; item = result };
            name = record { at = place; item = value k };
            initial = Some (record { sign = place; value = x });
          }

      abbrev scope : List (ℕ × Thing)
      scope = with_name b.t (value k).0 (thing_of b.z result)

      abbrev inner : ℕ → ℕ → Site
      inner m j = at_scope Own most value b scope m j

      may : (is_void result ≡ false)
          × (may_convert b.d (typed.type_of_expr (source Own b) x) (result_type b.d result) ≡ true)
      may = may-return b b.context.owner place x is (back (form.forms_of (source Own b) x) _ h).0.2

      taken-right : Rights (f.forms_of_local (woven Own b) taken)
      taken-right = (
        (
          pointed-known (woven Own b) taken.type_name result good.known,
          refl,
          refl,
          refl,
          refl,
          refl,
          refl,
          not-void
              place result may.0,
          refl,
        ),
        joined (form.forms_of (woven Own b) x
            ++ form.initial (woven Own b) result (record { sign = place; value = x }) ∷ []) _
            (joined (form.forms_of (woven Own b) x) _
            (expr-right Own b x own (front (form.forms_of (source Own b) x) _ h)) (
              (
                refl,
                refl,
                ap (λ y. unless y place) (converts-to Own b x result own ∙ may.1),
                refl,
                refl,
                refl,
                refl,
                refl,
                refl,
              ),
              tt,
            )) (
              (
                refl,
                ap (λ o. unless (not (is_some o)) place) (fresh k (omega arith) few),
                refl,
                refl,
                refl,
                refl,
                refl,
                refl,
                refl,
              ),
              (
                (
                  refl,
                  ap (λ o. n2.later_of b.context.index taken.name (n2.info_of (woven Own b) o))
                      (good.classes k few),
                  refl,
                  refl,
                  refl,
                  refl,
                  refl,
                  refl,
                  refl,
                ),
                (counted-right Own b form.locals b.m place, tt),
              ),
            ),
      )

      meant-is : (m j : ℕ) → at.variable_meant (inner m j) (made.ref place (value k)) ≡ Some
          (variable_of.Local (thing_of b.z result))
      meant-is m j =
          ap (λ o. look.or_next (option_map variable_of.Local o)
          (look.or_next (look.member_variable b.z b.context.class (value k).0)
          (look.global_variable b.z (value k).0)))
          (named-new b.t (value k).0 (thing_of b.z result) (fresh k (omega arith) few))

      held-is : (m j : ℕ) → at.thing_held (inner m j) (made.ref place (value k)) ≡ thing_of b.z result
      held-is m j = ap (held b.z b.context.class) (meant-is m j)

      given-right : (m j : ℕ) → Rights (f.forms_of_return (inner m j) place (Some (made.variable place (value k))))
      given-right m j = (
        (
          ap (λ o. unless (is_some o) place) (meant-is m j),
          refl,
          ap (λ t. unless (is_value t) place) (held-is m j) ∙ ap (λ y. unless y place) (value-plain b.z result plain),
          refl,
          refl,
          ap (λ o. unless (variable_is_accessible b.z b.context.class o) place) (meant-is m j),
          refl,
          refl,
          refl,
        ),
        (
          (
            refl,
            refl,
            ap (λ o. n3.wrongly_returned (inner m j) o place (Some (made.variable place (value k)))) is
                ∙ (ap (λ y. unless (if y then false else may_convert b.z
                (typed.type_of_expr (inner m j) (made.variable place (value k))) (result_type b.z result)) place)
                may.0
                ∙ (ap (λ t. unless (may_convert b.z (value_of t) (result_type b.z result)) place) (held-is m j)
                ∙ ap (λ y. unless y place) (may-convert-itself b.z (result_type b.z result)))),
            refl,
            refl,
            refl,
            refl,
            ap (n8.return_not_allowed place) is,
            refl,
          ),
          (counted-right Own b form.returns j place, tt),
        ),
      )

      same-behind : IsSame Own most value b.s scope
      same-behind j other =
          named-other b.t (value k).0 (thing_of b.z result) j (λ e. foreign k j few other (sym e)) ∙ b.same j other

      fresh-behind : IsFresh Own most value (k + 1) scope
      fresh-behind i above below =
          named-other b.t (value k).0 (thing_of b.z result) (value i).0
          (differ i k below few (λ e. absurd (omega arith))) ∙ fresh i (omega arith) below

      returned-right : (others : List StmtTree) → Later Own most value b outermost b.s (k + 1) others
          → Rights (f.forms_of_stmts (woven Own b) outermost
          (listed_stmts (returns_value names parts result place (suc k) x ++ others)))
      returned-right others later =
          let last : List StmtTree = s.return place (Some (made.variable place (value k))) ∷ others in
          joined (f.forms_of_local (woven Own b) taken) _ taken-right
          (subst (λ xs. Rights (f.forms_of_stmts (inner (b.m + 1) (b.n + 0)) outermost (listed_stmts xs)))
          (sym (append_assoc (calls (leave names) place (reverse parts))
          (s.return place (Some (made.variable place (value k))) ∷ []) others))
          (calls-right (inner 0 0) outermost place (leave names) last (reverse parts) good.leaves
          (λ m j. joined (f.forms_of_return (inner m j) place (Some (made.variable place (value k)))) _
          (given-right m j) (later scope _ _ same-behind fresh-behind)) (b.m + 1) (b.n + 0)))

    wrapping-right : (b : Both Own) → IsGood b.d b.z b.context → (outermost : Bool) (k : ℕ)
        → IsFresh Own most value k b.t → (place : Place) (x : Option ExprTree)
        → k + w.returns_in (s.return place x) ≤ most
        → OwnNames Own (n.names_in_stmt (s.return place x)) → Rights (f.forms_of_return (source Own b) place x)
        → (others : List StmtTree) → Later Own most value b outermost b.s (k + w.returns_in (s.return place x)) others
        → Rights (f.forms_of_stmts (woven Own b) outermost
        (listed_stmts (wrapping names result parts k place x ++ others)))
    wrapping-right b good outermost k fresh place None few own h others later =
        let last : List StmtTree = s.return place None ∷ others in
        subst (λ xs. Rights (f.forms_of_stmts (woven Own b) outermost
        (listed_stmts ((xs ++ s.return place None ∷ []) ++ others)))) (sym (leaving-is names parts place))
        (subst (λ xs. Rights (f.forms_of_stmts (woven Own b) outermost (listed_stmts xs)))
        (sym (append_assoc (calls (leave names) place (reverse parts)) (s.return place None ∷ []) others))
        (calls-right (woven Own b) outermost place (leave names) last (reverse parts) good.leaves
        (λ m j. joined (f.forms_of_return (at_scope Own most value b b.t m j) place None) _
        (return-right Own (record b { m = m; n = j }) place None own h)
        (later b.t _ _ b.same (λ i above below. fresh i (omega arith) below))) b.m b.n))
    wrapping-right b good outermost k fresh place (Some x) few own h others later =
        subst (λ xs. Rights (f.forms_of_stmts (woven Own b) outermost (listed_stmts (xs ++ others))))
        (sym (returning-is names parts result place (suc k) x)) (by good.owner)
      where
        by : (b.context.owner ≡ owner.Function result) ⊎ (b.context.owner ≡ owner.Lifecycle)
            → Rights (f.forms_of_stmts (woven Own b) outermost
            (listed_stmts (returns_value names parts result place (suc k) x ++ others)))
        by (inl is) = returned-right b good outermost k fresh place x (omega arith) own h is others later
        by (inr is) = absurd (no-return b.context.owner place is (back (form.forms_of (source Own b) x) _ h).0.7)

    -- ---- bodies that are entered and left

    end-right : (b : Both Own) → IsGood b.d b.z b.context
        → (place : Place) (ts : StmtTrees) (t : List (ℕ × Thing)) (m j : ℕ)
        → Rights (f.forms_of_stmts (at_scope Own most value b t m j) true
        (listed_stmts (w.at_end names result parts place ts)))
    end-right b good place ts t m j =
        subst (λ xs. Rights (f.forms_of_stmts (at_scope Own most value b t m j) true (listed_stmts xs)))
        (sym (end-is names parts result place ts)) (by (ends_with_return false ts))
      where
        by : (y : Bool) → Rights (f.forms_of_stmts (at_scope Own most value b t m j) true
            (listed_stmts (if y then [] else calls (leave names) place (reverse parts))))
        by true = tt
        by false =
            subst (λ xs. Rights (f.forms_of_stmts (at_scope Own most value b t m j) true (listed_stmts xs)))
            (append-nil (calls (leave names) place (reverse parts)))
            (calls-right (at_scope Own most value b t m j) true place (leave names) [] (reverse parts) good.leaves
            (λ l r. tt) m j)

    entered-right : (b : Both Own) → IsGood b.d b.z b.context → IsFresh Own most value 0 b.t → (x : BlockTree)
        → w.returns_in_block x ≤ most
        → OwnNames Own (n.names_in_block x) → Rights (f.forms_of_body (source Own b) x)
        → Rights (f.forms_of_body (woven Own b) (w.entered names result parts x))
    entered-right b good fresh (s.braces place ts) few own h =
        subst (λ xs. Rights (f.forms_of_stmts (woven Own b) true
        (listed_stmts (xs ++ (w.wrapped_stmts names result parts 0 ts ++ w.at_end names result parts place ts)))))
        (sym (entering-is names parts place))
        (subst (λ xs. Rights (f.forms_of_stmts (woven Own b) true
        (listed_stmts (calls (enter names) place parts ++ (xs ++ w.at_end names result parts place ts)))))
        (sym (stmts-are names result parts 0 ts))
        (calls-right (woven Own b) true place (enter names)
        (mapped_stmts (wrapping names result parts) 0 ts ++ w.at_end names result parts place ts) parts
        good.enters
        (λ m j. stmts-right Own most value IsGood (wrapping names result parts) (λ k r. k + r ≤ most)
        (λ k a c few. omega arith) (λ k a c few. omega arith) foreign wrapping-right (record b { m = m; n = j })
        good true 0 fresh ts (omega arith) own h
        (w.at_end names result parts place ts) (end-right b good place ts)) b.m b.n))

-- ---- bodies that stay as they are

module _ (Own : ℕ → Type 0) where
  abbrev Anything : Declared → Declared → Context → Type 0
  Anything d z context = Unit {0}

  abbrev any_number : ℕ → ℕ → Type 0
  any_number k r = Unit {0}

  -- there are no locals for returned values
  abbrev no_value : ℕ → NameId
  no_value i = record { 0 = i }

  none-fresh : (k : ℕ) (t : List (ℕ × Thing)) → IsFresh Own 0 no_value k t
  none-fresh k t i above below = absurd (omega arith)

  alone-right : (b : Both Own) → Anything b.d b.z b.context → (outermost : Bool) (k : ℕ)
      → IsFresh Own 0 no_value k b.t → (place : Place) (x : Option ExprTree)
      → any_number k (w.returns_in (s.return place x))
      → OwnNames Own (n.names_in_stmt (s.return place x)) → Rights (f.forms_of_return (source Own b) place x)
      → (others : List StmtTree) → Later Own 0 no_value b outermost b.s (k + w.returns_in (s.return place x)) others
      → Rights (f.forms_of_stmts (woven Own b) outermost (listed_stmts (leaving_alone k place x ++ others)))
  alone-right b good outermost k fresh place None few own h others later =
      joined (f.forms_of_return (woven Own b) place None) _ (return-right Own b place None own h)
      (later b.t _ _ b.same (none-fresh _ b.t))
  alone-right b good outermost k fresh place (Some x) few own h others later =
      joined (f.forms_of_return (woven Own b) place (Some x)) _ (return-right Own b place (Some x) own h)
      (later b.t _ _ b.same (none-fresh _ b.t))

  pub same-body-right : (b : Both Own) → (x : BlockTree) → OwnNames Own (n.names_in_block x)
      → Rights (f.forms_of_body (source Own b) x) → Rights (f.forms_of_body (woven Own b) x)
  same-body-right b (s.braces place ts) own h =
      subst (λ xs. Rights (f.forms_of_stmts (woven Own b) true xs))
      (ap listed_stmts (append-nil (mapped_stmts leaving_alone 0 ts) ∙ alone-stmts 0 ts) ∙ listed-list ts)
      (stmts-right Own 0 no_value Anything leaving_alone any_number (λ k a c few. tt) (λ k a c few. tt)
      (λ i j below own. absurd (omega arith)) alone-right b tt true 0 (none-fresh 0 b.t) ts tt own h []
      (λ t m j. tt))

-- ---- bodies of both kinds

module _ (Own : ℕ → Type 0) (most : ℕ) (names : List (List ℕ)) (result : TypeName) (plain : IsPlainType result)
    (foreign : (i j : ℕ) → i < most → Own j → (value_at names i).0 ≢ j)
    (differ : (i j : ℕ) → i < most → j < most → i ≢ j → (value_at names i).0 ≢ (value_at names j).0) where
  pub body-right : (parts : List NameId) (b : Both Own)
      → IsGood Own most names result plain parts foreign differ b.d b.z b.context
      → IsFresh Own most (value_at names) 0 b.t → (x : BlockTree) → w.returns_in_block x ≤ most
      → OwnNames Own (n.names_in_block x) → Rights (f.forms_of_body (source Own b) x)
      → Rights (f.forms_of_body (woven Own b) (w.wrapped_body names result parts x))
  body-right [] b good fresh x few own h = same-body-right Own b x own h
  body-right (class ∷ classes) b good fresh x few own h =
      entered-right Own most names result plain (class ∷ classes) foreign differ b good fresh x few own h
