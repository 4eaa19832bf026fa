-- Statements without statements in them: the walk finds what the rules say of their forms.
use Rattle.std.proofs.Common.{◌≡◌, refl, ap, sym, ◌∙◌, ℕ, suc, ◌+◌, Bool, true, false, not, List, [], ◌∷◌, ◌++◌, length, Option, Some, None, arith, add-one}
use Rattle.std.proofs.lemmas.List.Sums.{sum_by-cons}
use Rattle.std.specs.List.{sum_by}
use Rattle.std.specs.Option.{is_some}
use Rattle.agxx_base.specs.declared.fault.Refusal.{Refusal}
use Rattle.agxx_base.specs.declared.ids.ClassId.{ClassId}
use Rattle.agxx_base.specs.declared.place.Place.{Place}
use Rattle.agxx_base.specs.declared.rule.Rule.TheVariants as rule
use Rattle.cxx_tree.specs.declared.node.Placed.{Placed}
use Rattle.cxx_tree.specs.declared.operator.BinOp.{BinOp}
use Rattle.cxx_tree.specs.declared.expr.Ref.{Ref}
use Rattle.cxx_tree.specs.declared.program.TypeName.{TypeName}
use Rattle.cxx_tree.specs.ExprTree.{ExprTree, ExprTrees}
use Rattle.cxx_tree.specs.StmtTree as t
use Rattle.cxx_tree.specs.StmtTree.{InitialTree, LocalTree, SimpleTree, PrintedTree, ThreadTree}
use Rattle.cxx_tree.specs.Nodes.{nodes_in_expr, nodes_in_exprs, nodes_in_optional, nodes_in_initial, nodes_in_local, nodes_in_simple, nodes_in_left, nodes_in_printed, nodes_in_thread}
use Rattle.cxx_tree.specs.Places.{expr_node}
use Rattle.cxx_names.specs.declared.declarations.Signature.{Signature}
use Rattle.cxx_names.specs.declared.types.Thing.TheVariants as thing
use Rattle.cxx_names.specs.declared.types.ValueType.{ValueType}
use Rattle.cxx_names.specs.declared.types.ValueType.TheVariants as value
use Rattle.cxx_names.specs.LookUp.{thing_of, free_signature}
use Rattle.cxx_names.specs.Tables.{with_name}
use Rattle.cxx_types.specs.declared.context.Owner.{Owner}
use Rattle.cxx_types.specs.declared.context.Owner.TheVariants as owner
use Rattle.cxx_types.specs.declared.entry.Entry.{Entry}
use Rattle.cxx_types.specs.declared.entry.Meaning.TheVariants as meaning
use Rattle.cxx_types.specs.declared.limits.Counts.{Counts}
use Rattle.cxx_types.specs.Checking.{required, noted}
use Rattle.cxx_types.specs.Conversion.{may_convert, may_be_bumped, may_be_printed}
use Rattle.cxx_types.specs.Selections.{value_of}
use Rattle.cxx_types.specs.Calls.{counts, is_void, result_type}
use Rattle.cxx_types.specs.Expressions.{count, expr, exprs}
use Rattle.cxx_types.specs.Locals.{local_declared}
use Rattle.cxx_types.specs.Statements.{initial, local, simple, assigned, may_assign, counted_return, returned_nothing, returned_value, returned, lifecycle_is_accessible, deleted_type, deleted, printed, all_printed, started, thread}
use Rattle.cxx_rules.specs.Sites.{Site, is_usable, dtor_meant}
use Rattle.cxx_rules.specs.Types.{type_of_expr, type_of_left}
use Rattle.cxx_rules.specs.TypesDisagree.{assigns, wrongly_returned, wrongly_deleted, has_result}
use Rattle.cxx_rules.specs.NotAllowedHere.{return_not_allowed, main_started}
use Rattle.cxx_rules.specs.NotAccessible.{deleted_not_accessible}
use Rattle.cxx_rules.specs.WrongNumberOfArguments.{wrong_number_by}
use Rattle.cxx_rules.specs.Unless.{unless}
use Rattle.cxx_rules.specs.Forms as form
use Rattle.cxx_rules.specs.Forms.{Form, forms_of, forms_of_left, forms_of_call, forms_of_arguments}
use Rattle.cxx_rules.specs.StmtForms.{forms_of_optional, forms_of_initial, forms_of_local, forms_of_simple, forms_of_return, forms_of_printed, forms_of_print, forms_of_thread, params_of, scope_behind_local}
use Rattle.cxx_rules.proofs.Told.{told_by, told, all_told, told-append, st, Gives, after, same, moved, one-more, required-told}
use Rattle.cxx_rules.proofs.WalkedSelections.{left-gives}
use Rattle.cxx_rules.proofs.WalkedExpressions.{expr-gives, exprs-gives, call-gives}
use Rattle.cxx_rules.proofs.WalkedLocals.{variable_type-gives, local_declared-gives}

-- ---- locals

initial-gives : (m : Counts) (w : Site) (fs : List Refusal) (es : List Entry) (k : ℕ) → length es ≡ k → (type : TypeName) (i : Option InitialTree)
    → Gives (λ s. s) m w (all_told m (forms_of_optional (forms_of_initial w type) i) fs) (k + nodes_in_optional nodes_in_initial i) (initial w.context type i (st m w fs es))
initial-gives m w fs es k h type None = record { entries = es; is = refl; longer = omega arith }
initial-gives m w fs es k h type (Some i) =
    same {k = k + nodes_in_expr i.value} (sym (told-append m (forms_of w i.value) _ fs)) refl
    (after (λ x. required rule.N3 i.sign (may_convert x.0.declared x.1 (value_of (thing_of x.0.declared type))) x.0) (expr-gives m w i.value fs es k h) (λ es1 h1.
    simp required-told (record { entries = es1; is = refl; longer = h1 })))

pub local-gives : (m : Counts) (w : Site) (fs : List Refusal) (es : List Entry) (k : ℕ) → length es ≡ k → (l : LocalTree)
    → Gives (λ s. s) m (record w { scope = scope_behind_local w l; locals = w.locals + 1 }) (all_told m (forms_of_local w l) fs) (k + nodes_in_local l) (local w.context l (st m w fs es))
unfolding local
local-gives m w fs es k h l =
    same {k = k + nodes_in_local l} (sym (told-append m (forms_of_optional (forms_of_initial w l.type_name.item) l.initial) _ _)) refl
    (after (λ s. let x = initial w.context l.type_name.item l.initial s in local_declared w.context l.name (thing_of x.declared l.type_name.item) x) (variable_type-gives m w fs es k h l.type_name) (λ es1 h1.
    after (λ x. local_declared w.context l.name (thing_of x.declared l.type_name.item) x) (initial-gives m w _ es1 k h1 l.type_name.item l.initial) (λ es2 h2.
    local_declared-gives m w _ es2 _ h2 l.name (thing_of w.declared l.type_name.item))))

-- ---- simple statements

assigns-gives : (m : Counts) (w : Site) (fs : List Refusal) (es : List Entry) (k : ℕ) → length es ≡ k → (at : Place) (o : Option BinOp) (to from : Option ValueType)
    → Gives (λ s. s) m w (told_by rule.N3 (unless (assigns w.declared o to from) at) fs) k (required rule.N3 at (may_assign o to (st m w fs es, from)) (st m w fs es))
assigns-gives m w fs es k h at None to from = simp required-told (record { entries = es; is = refl; longer = h })
assigns-gives m w fs es k h at (Some o) to from = simp required-told (record { entries = es; is = refl; longer = h })

assigned-gives : (m : Counts) (w : Site) (fs : List Refusal) (es : List Entry) (k : ℕ) → length es ≡ k → (sign : Placed (Option BinOp)) (to from : Option ValueType)
    → Gives (λ s. s) m w (told_by rule.N3 (unless (assigns w.declared sign.item to from) sign.at) fs) k (assigned sign to (st m w fs es, from))
assigned-gives m w fs es k h sign to from = assigns-gives m w fs es k h sign.at sign.item to from

pub simple-gives : (m : Counts) (w : Site) (fs : List Refusal) (es : List Entry) (k : ℕ) → length es ≡ k → (i : SimpleTree)
    → Gives (λ s. s) m w (all_told m (forms_of_simple w i) fs) (k + nodes_in_simple i) (simple w.context i (st m w fs es))
unfolding simple
simple-gives m w fs es k h (t.assign a) =
    same {k = (k + nodes_in_left a.left) + nodes_in_expr a.value} (sym (told-append m (forms_of_left w a.left) _ fs ∙ told-append m (forms_of w a.value) _ _)) (omega arith)
    (after (λ x. assigned a.sign x.1 (expr w.context a.value x.0)) (left-gives m w fs es k h a.left) (λ es1 h1.
    after (λ y. assigned a.sign (type_of_left w a.left) y) (expr-gives m w a.value _ es1 _ h1) (λ es2 h2.
    assigned-gives m w _ es2 _ h2 a.sign (type_of_left w a.left) (type_of_expr w a.value))))
simple-gives m w fs es k h (t.bump b) =
    same {k = k + nodes_in_left b.left} (sym (told-append m (forms_of_left w b.left) _ fs)) refl
    (after (λ x. required rule.N3 b.sign (may_be_bumped x.1) x.0) (left-gives m w fs es k h b.left) (λ es1 h1.
    simp required-told (record { entries = es1; is = refl; longer = h1 })))
simple-gives m w fs es k h (t.call_stmt c) =
    after (λ x. x.0) (call-gives m w false c fs es k h) (λ es1 h1. record { entries = es1; is = refl; longer = h1 })
simple-gives m w fs es k h (t.proceed at) = record { entries = es; is = refl; longer = omega arith }

-- ---- `return`

nothing-gives : (m : Counts) (w : Site) (fs : List Refusal) (es : List Entry) (k : ℕ) → length es ≡ k → (at : Place) (o : Owner)
    → Gives (λ s. s) m w (told_by rule.N3 (wrongly_returned w o at None) (told_by rule.N8 (return_not_allowed at o) fs)) k (returned_nothing o at (st m w fs es))
nothing-gives m w fs es k h at (owner.Function type) = simp required-told (record { entries = es; is = refl; longer = h })
nothing-gives m w fs es k h at owner.Lifecycle = record { entries = es; is = refl; longer = h }
nothing-gives m w fs es k h at owner.Global = record { entries = es; is = refl; longer = h }

value-gives : (m : Counts) (w : Site) (fs : List Refusal) (es : List Entry) (k : ℕ) → length es ≡ k → (at : Place) (e : ExprTree) (o : Owner)
    → Gives (λ s. s) m w (told_by rule.N3 (wrongly_returned w o at (Some e)) (told_by rule.N8 (return_not_allowed at o) fs)) k (returned_value o at (st m w fs es, type_of_expr w e))
value-gives m w fs es k h at e (owner.Function type) = simp required-told (record { entries = es; is = refl; longer = h })
value-gives m w fs es k h at e owner.Lifecycle = record { entries = es; is = refl; longer = h }
value-gives m w fs es k h at e owner.Global = record { entries = es; is = refl; longer = h }

counted-gives : (m : Counts) (w : Site) (fs : List Refusal) (es : List Entry) (k : ℕ) → length es ≡ k → (at : Place)
    → Gives (λ s. s) m (record w { returns = w.returns + 1 }) (told m (form.counted form.returns w.returns at) fs) k (counted_return at (st m w fs es))
counted-gives m w fs es k h at =
    moved (ap (λ n. let v : Site = record w { returns = n } in v) (sym (add-one w.returns)))
    (simp required-told (record { entries = es; is = refl; longer = h }))

pub returned-gives : (m : Counts) (w : Site) (fs : List Refusal) (es : List Entry) (k : ℕ) → length es ≡ k → (at : Place) (e : Option ExprTree)
    → Gives (λ s. s) m (record w { returns = w.returns + 1 }) (all_told m (forms_of_return w at e) fs) (k + nodes_in_optional nodes_in_expr e) (returned w.context at e (st m w fs es))
unfolding returned
returned-gives m w fs es k h at None =
    same {k = k} refl (omega arith)
    (after (λ s. counted_return at s) (nothing-gives m w fs es k h at w.context.owner) (λ es1 h1. counted-gives m w _ es1 k h1 at))
returned-gives m w fs es k h at (Some e) =
    same {k = k + nodes_in_expr e} (sym (told-append m (forms_of w e) _ fs)) refl
    (after (λ x. counted_return at (returned_value w.context.owner at x)) (expr-gives m w e fs es k h) (λ es1 h1.
    after (λ s. counted_return at s) (value-gives m w _ es1 _ h1 at e w.context.owner) (λ es2 h2. counted-gives m w _ es2 _ h2 at)))

-- ---- `delete`

usable-gives : (m : Counts) (w : Site) (fs : List Refusal) (es : List Entry) (k : ℕ) → length es ≡ k → (class : ClassId) (at : Place) (x : Option Signature)
    → Gives (λ s. s) m w (told_by rule.N6 (unless (is_usable w class x) at) fs) k (required rule.N6 at (lifecycle_is_accessible w.context.class class x (st m w fs es)) (st m w fs es))
usable-gives m w fs es k h class at None = record { entries = es; is = refl; longer = h }
usable-gives m w fs es k h class at (Some f) = simp required-told (record { entries = es; is = refl; longer = h })

-- the destructor of a class is used
pub dtor-gives : (m : Counts) (w : Site) (fs : List Refusal) (es : List Entry) (k : ℕ) → length es ≡ k → (class : ClassId) (at : Place)
    → Gives (λ s. s) m w (told_by rule.N6 (unless (is_usable w class (dtor_meant w class)) at) fs) k
    (required rule.N6 at (lifecycle_is_accessible w.context.class class (dtor_meant w class) (st m w fs es)) (st m w fs es))
dtor-gives m w fs es k h class at = usable-gives m w fs es k h class at (dtor_meant w class)

type-gives : (m : Counts) (w : Site) (fs : List Refusal) (es : List Entry) (k : ℕ) → length es ≡ k → (at : Place) (x : Option ValueType)
    → Gives (λ s. s) m w (told_by rule.N3 (wrongly_deleted at x) (told_by rule.N6 (deleted_not_accessible w at x) fs)) k (deleted_type w.context at x (st m w fs es))
type-gives m w fs es k h at None = record { entries = es; is = refl; longer = h }
type-gives m w fs es k h at (Some (value.Pointer class)) = dtor-gives m w fs es k h class at
type-gives m w fs es k h at (Some _) = record { entries = es; is = refl; longer = h }

pub deleted-gives : (m : Counts) (w : Site) (fs : List Refusal) (es : List Entry) (k : ℕ) → length es ≡ k → (at : Place) (e : ExprTree)
    → Gives (λ s. s) m w (all_told m (forms_of w e ++ form.deleted w at e ∷ []) fs) (k + nodes_in_expr e) (deleted w.context at e (st m w fs es))
unfolding deleted
deleted-gives m w fs es k h at e =
    same {k = k + nodes_in_expr e} (sym (told-append m (forms_of w e) _ fs)) refl
    (after (λ x. deleted_type w.context at x.1 x.0) (expr-gives m w e fs es k h) (λ es1 h1. type-gives m w _ es1 _ h1 at (type_of_expr w e)))

-- ---- prints

printed-gives : (m : Counts) (w : Site) (fs : List Refusal) (es : List Entry) (k : ℕ) → length es ≡ k → (p : PrintedTree)
    → Gives (λ s. s) m w (all_told m (forms_of_printed w p) fs) (k + nodes_in_printed p) (printed w.context p (st m w fs es))
unfolding printed
printed-gives m w fs es k h (t.text q) = same {k = k} refl (omega arith) (simp required-told (record { entries = es; is = refl; longer = h }))
printed-gives m w fs es k h (t.endl at) = record { entries = es; is = refl; longer = omega arith }
printed-gives m w fs es k h (t.value e) =
    same {k = k + nodes_in_expr e} (sym (told-append m (forms_of w e) _ fs)) refl
    (after (λ x. required rule.N3 (expr_node e).at (may_be_printed x.1) x.0) (expr-gives m w e fs es k h) (λ es1 h1.
    simp required-told (record { entries = es1; is = refl; longer = h1 })))

pub all_printed-gives : (m : Counts) (w : Site) (ps : List PrintedTree) (fs : List Refusal) (es : List Entry) (k : ℕ) → length es ≡ k
    → Gives (λ s. s) m w (all_told m (forms_of_print w ps) fs) (k + sum_by nodes_in_printed ps) (all_printed w.context ps (st m w fs es))
all_printed-gives m w [] fs es k h = record { entries = es; is = refl; longer = omega arith }
all_printed-gives m w (p ∷ ps) fs es k h =
    let e : sum_by nodes_in_printed (p ∷ ps) ≡ nodes_in_printed p + sum_by nodes_in_printed ps = sum_by-cons nodes_in_printed p ps in
    same {k = (k + nodes_in_printed p) + sum_by nodes_in_printed ps} (sym (told-append m (forms_of_printed w p) _ fs)) (omega arith)
    (after (λ s. all_printed w.context ps s) (printed-gives m w fs es k h p) (λ es1 h1. all_printed-gives m w ps _ es1 _ h1))

-- ---- threads

runs-gives : (m : Counts) (w : Site) (fs : List Refusal) (es : List Entry) (k : ℕ) → length es ≡ k → (at : Place) (r : Ref) (arguments : ℕ) (f : Signature)
    → Gives (λ s. s) m w (told_by rule.N4 (unless (counts arguments f.params) r.name.at) (told_by rule.N3 (unless (is_void f.result) r.node.at) (told_by rule.N8 (unless (not f.is_main) at) fs))) k
    (required rule.N4 r.name.at (counts arguments f.params) (required rule.N3 r.node.at (is_void f.result) (required rule.N8 at (not f.is_main) (st m w fs es))))
runs-gives m w fs es k h at r arguments f = simp required-told (record { entries = es; is = refl; longer = h })

started-gives : (m : Counts) (w : Site) (fs : List Refusal) (es : List Entry) (k : ℕ) → length es ≡ k → (at : Place) (r : Ref) (arguments : ExprTrees) (x : Option Signature)
    → Gives (λ s. s) m w
    (all_told m (forms_of_arguments w (params_of x) arguments)
    (told_by rule.N4 (wrong_number_by r.name.at (count arguments) x)
    (told_by rule.N3 (has_result r.node.at x) (told_by rule.N8 (main_started at x) (told_by rule.N1 (unless (is_some x) r.name.at) fs)))))
    (k + suc (nodes_in_exprs arguments)) (started w.context at r arguments x (st m w fs es))
started-gives m w fs es k h at r arguments None =
    same {k = suc k + nodes_in_exprs arguments} refl (omega arith)
    (after (λ x. x.0) (exprs-gives m w [] true arguments _ _ (suc k) (one-more es _ h)) (λ es1 h1. record { entries = es1; is = refl; longer = h1 }))
started-gives m w fs es k h at r arguments (Some f) =
    same {k = suc k + nodes_in_exprs arguments} refl (omega arith)
    (after (λ s. (exprs w.context f.params true arguments (noted (result_type w.declared f.result) (meaning.Function f.id) s)).0) (runs-gives m w fs es k h at r (count arguments) f) (λ es1 h1.
    after (λ x. x.0) (exprs-gives m w f.params true arguments _ _ (suc k) (one-more es1 _ h1)) (λ es2 h2. record { entries = es2; is = refl; longer = h2 })))

pub thread-gives : (m : Counts) (w : Site) (fs : List Refusal) (es : List Entry) (k : ℕ) → length es ≡ k → (outermost : Bool) (h1 : ThreadTree)
    → Gives (λ s. s) m (record w { scope = with_name w.scope h1.name.item.0 thing.Thread; locals = w.locals + 1 })
    (all_told m (forms_of_thread w outermost h1) fs) (k + nodes_in_thread h1) (thread w.context outermost h1 (st m w fs es))
unfolding thread
thread-gives m w fs es k h outermost x =
    same {k = k + nodes_in_thread x}
    (sym (told-append m (forms_of_arguments w (params_of (free_signature w.declared x.function.name.item.0)) x.arguments) _ _)) refl
    (simp required-told
    (after (λ s. local_declared w.context x.name thing.Thread s) (started-gives m w _ es k h x.at x.function x.arguments (free_signature w.declared x.function.name.item.0)) (λ es1 h1.
    local_declared-gives m w _ es1 _ h1 x.name thing.Thread)))
