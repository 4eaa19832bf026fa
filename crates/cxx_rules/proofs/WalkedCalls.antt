-- Calls of functions and constructors: the walk finds what the rules say of their forms.
use Rattle.std.proofs.Common.{◌≡◌, refl, ℕ, suc, ◌+◌, Bool, List, [], ◌∷◌, ◌++◌, length, Option, Some, None, arith}
use Rattle.std.specs.Option.{is_some}
use Rattle.agxx_base.specs.declared.fault.Refusal.{Refusal}
use Rattle.agxx_base.specs.declared.ids.ClassId.{ClassId}
use Rattle.agxx_base.specs.declared.ids.NameId.{NameId}
use Rattle.agxx_base.specs.declared.place.Place.{Place}
use Rattle.agxx_base.specs.declared.rule.Rule.TheVariants as rule
use Rattle.cxx_tree.specs.declared.node.Node.{Node}
use Rattle.cxx_tree.specs.declared.node.Placed.{Placed}
use Rattle.cxx_tree.specs.declared.expr.Callee.{Callee}
use Rattle.cxx_tree.specs.declared.expr.Callee.TheVariants as callee_of
use Rattle.cxx_tree.specs.declared.expr.Ref.{Ref}
use Rattle.cxx_tree.specs.Nodes.{nodes_in_callee}
use Rattle.cxx_names.specs.declared.declarations.Signature.{Signature}
use Rattle.cxx_types.specs.declared.context.Holder.{Holder}
use Rattle.cxx_types.specs.declared.context.Holder.TheVariants as holder_is
use Rattle.cxx_types.specs.declared.entry.Entry.{Entry}
use Rattle.cxx_types.specs.declared.entry.Meaning.TheVariants as meaning
use Rattle.cxx_types.specs.declared.limits.Counts.{Counts}
use Rattle.cxx_names.specs.declared.types.ValueType.TheVariants as value
use Rattle.cxx_types.specs.Checking.{noted}
use Rattle.cxx_types.specs.Selections.{base_node}
use Rattle.cxx_types.specs.Calls.{called, called_behind, bare_by, method_by, created, created_by, constructed}
use Rattle.cxx_rules.specs.Sites.{Site, holder_of, method_meant, function_meant, class_meant, ctor_meant, is_usable}
use Rattle.cxx_rules.specs.Types.{callable, bare_function, function_behind, method, creatable, creatable_by, constructor}
use Rattle.cxx_rules.specs.UnknownName.{unknown_method}
use Rattle.cxx_rules.specs.NotAccessible.{function_not_accessible, method_not_accessible, method_not_accessible_by, constructor_not_accessible}
use Rattle.cxx_rules.specs.NotAllowedHere.{main_called, no_call_value}
use Rattle.cxx_rules.specs.TypesDisagree.{function_no_result, method_no_result, behind_no_result}
use Rattle.cxx_rules.specs.WrongNumberOfArguments.{wrong_number_by, function_wrong_number, method_wrong_number, behind_wrong_number, creation_wrong_number}
use Rattle.cxx_rules.specs.Unless.{unless}
use Rattle.cxx_rules.specs.Forms as form
use Rattle.cxx_rules.specs.Forms.{Form, forms_of_callee}
use Rattle.cxx_rules.proofs.Told.{told_by, told, all_told, st, Gives, after, same, one-more, required-told}
use Rattle.cxx_rules.proofs.WalkedSelections.{holder-gives, base_node-gives}

two-more : {k : ℕ} (es : List Entry) (a b : Entry) → length es ≡ k → length ((es ++ a ∷ []) ++ b ∷ []) ≡ suc (suc k)
two-more es a b h = one-more (es ++ a ∷ []) b (one-more es a h)

-- by the name alone
bare-gives : (m : Counts) (w : Site) (fs : List Refusal) (es : List Entry) (k : ℕ) → length es ≡ k → (n : Node) (r : Ref) (count : ℕ) (as_value : Bool) (x : Option (Option ClassId × Signature))
    → Gives (λ s. (s, bare_function w count x)) m w
    (told_by rule.N3 (function_no_result n as_value x) (told_by rule.N4 (function_wrong_number r.name.at count x)
    (told_by rule.N8 (main_called n.at x) (told_by rule.N6 (function_not_accessible w r.name.at x) (told_by rule.N1 (unless (is_some x) r.name.at) fs)))))
    (suc (suc k)) (bare_by w.context n r count as_value x (st m w fs es))
bare-gives m w fs es k h n r count as_value None = record { entries = _; is = refl; longer = two-more es _ _ h }
bare-gives m w fs es k h n r count as_value (Some x) = simp required-told (record { entries = _; is = refl; longer = two-more es _ _ h })

-- behind what has functions
method-gives : (m : Counts) (w : Site) (fs : List Refusal) (es : List Entry) (k : ℕ) → length es ≡ k → (n : Node) (name : Placed NameId) (class : ClassId) (count : ℕ) (as_value : Bool) (x : Option (ClassId × Signature))
    → Gives (λ s. (s, method w class count x)) m w
    (told_by rule.N3 (method_no_result n as_value x) (told_by rule.N4 (method_wrong_number name.at count x)
    (told_by rule.N6 (method_not_accessible_by w name.at class x) (told_by rule.N1 (unless (is_some x) name.at) fs))))
    (suc k) (method_by w.context n name class count as_value x (st m w fs es))
method-gives m w fs es k h n name class count as_value None = record { entries = _; is = refl; longer = one-more es _ h }
method-gives m w fs es k h n name class count as_value (Some x) = simp required-told (record { entries = _; is = refl; longer = one-more es _ h })

behind-gives : (m : Counts) (w : Site) (fs : List Refusal) (es : List Entry) (k : ℕ) → length es ≡ k → (n : Node) (name : Placed NameId) (count : ℕ) (as_value : Bool) (b : Holder)
    → Gives (λ s. (s, function_behind w name count b)) m w
    (told_by rule.N3 (behind_no_result w n name as_value b) (told_by rule.N4 (behind_wrong_number w name count b)
    (told_by rule.N8 (no_call_value w n name as_value b) (told_by rule.N6 (method_not_accessible w name b) (told_by rule.N1 (unknown_method w name b) fs)))))
    (suc k) (called_behind w.context n name count as_value b (st m w fs es))
behind-gives m w fs es k h n name count as_value (holder_is.Class class) = method-gives m w fs es k h n name class count as_value (method_meant w class name)
behind-gives m w fs es k h n name count as_value holder_is.Thread = simp required-told (record { entries = _; is = refl; longer = one-more es _ h })
behind-gives m w fs es k h n name count as_value holder_is.Mutex = simp required-told (record { entries = _; is = refl; longer = one-more es _ h })
behind-gives m w fs es k h n name count as_value holder_is.Unknown = record { entries = _; is = refl; longer = one-more es _ h }

-- what is called, before its arguments
pub called-gives : (m : Counts) (w : Site) (fs : List Refusal) (es : List Entry) (k : ℕ) → length es ≡ k → (n : Node) (callee : Callee) (count : ℕ) (as_value : Bool)
    → Gives (λ s. (s, callable w callee count)) m w (all_told m (forms_of_callee w n callee count as_value) fs)
    (k + suc (nodes_in_callee callee)) (called w.context n callee count as_value (st m w fs es))
unfolding called
called-gives m w fs es k h n (callee_of.Bare r) count as_value =
    same refl (omega arith) (bare-gives m w fs es k h n r count as_value (function_meant w r))
called-gives m w fs es k h n (callee_of.Member q) count as_value =
    after (λ x. let y = called_behind w.context n q.name count as_value x.1 x.0 in (base_node w.context q.base y.0, y.1)) (holder-gives m w fs es k h n.at q.base) (λ es1 h1.
    after (λ y. (base_node w.context q.base y.0, y.1)) (behind-gives m w _ es1 k h1 n q.name count as_value (holder_of w q.base)) (λ es2 h2.
    after (λ s. (s, function_behind w q.name count (holder_of w q.base))) (base_node-gives m w _ es2 (suc k) h2 q.base) (λ es3 h3.
    same refl (omega arith) (record { entries = es3; is = refl; longer = h3 }))))

-- a constructor is used
pub constructed-gives : (m : Counts) (w : Site) (fs : List Refusal) (es : List Entry) (k : ℕ) → length es ≡ k → (class : ClassId) (at : Place) (count : ℕ) (x : Option Signature)
    → Gives (λ s. (s, constructor w class count x)) m w
    (told_by rule.N4 (wrong_number_by at count x) (told_by rule.N6 (unless (is_usable w class x) at) fs))
    k (constructed w.context.class class at count x (st m w fs es))
constructed-gives m w fs es k h class at count None = record { entries = es; is = refl; longer = h }
constructed-gives m w fs es k h class at count (Some x) = simp required-told (record { entries = _; is = refl; longer = h })

created_by-gives : (m : Counts) (w : Site) (fs : List Refusal) (es : List Entry) (k : ℕ) → length es ≡ k → (name : Placed NameId) (count : ℕ) (x : Option ClassId)
    → Gives (λ s. (s, creatable_by w count x)) m w
    (told_by rule.N4 (creation_wrong_number w name.at count x) (told_by rule.N6 (constructor_not_accessible w name.at x) (told_by rule.N1 (unless (is_some x) name.at) fs)))
    (suc k) (created_by w.context name count x (st m w fs es))
created_by-gives m w fs es k h name count None = record { entries = _; is = refl; longer = one-more es _ h }
created_by-gives m w fs es k h name count (Some class) =
    after (λ f. (noted (Some (value.Pointer class)) meaning.Other f.0, f.1)) (constructed-gives m w fs es k h class name.at count (ctor_meant w class)) (λ es1 h1.
    record { entries = _; is = refl; longer = one-more es1 _ h1 })

-- `new`, before its arguments
pub created-gives : (m : Counts) (w : Site) (fs : List Refusal) (es : List Entry) (k : ℕ) → length es ≡ k → (name : Placed NameId) (count : ℕ)
    → Gives (λ s. (s, creatable w name count)) m w (told m (form.creation w name count) fs) (suc k) (created w.context name count (st m w fs es))
unfolding created
created-gives m w fs es k h name count = created_by-gives m w fs es k h name count (class_meant w name)
