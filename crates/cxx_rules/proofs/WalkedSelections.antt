-- Names of variables and members: the walk finds what the rules say of their forms.
use Rattle.std.proofs.Common.{◌≡◌, refl, ℕ, suc, ◌+◌, List, length, Option, Some, None, arith}
use Rattle.std.specs.Option.{is_some}
use Rattle.agxx_base.specs.declared.fault.Refusal.{Refusal}
use Rattle.agxx_base.specs.declared.ids.ClassId.{ClassId}
use Rattle.agxx_base.specs.declared.ids.NameId.{NameId}
use Rattle.agxx_base.specs.declared.place.Place.{Place}
use Rattle.agxx_base.specs.declared.rule.Rule.TheVariants as rule
use Rattle.cxx_tree.specs.declared.node.Node.{Node}
use Rattle.cxx_tree.specs.declared.node.Placed.{Placed}
use Rattle.cxx_tree.specs.declared.expr.Base.{Base}
use Rattle.cxx_tree.specs.declared.expr.Base.TheVariants as base_of
use Rattle.cxx_tree.specs.declared.expr.Left.{Left}
use Rattle.cxx_tree.specs.declared.expr.Left.TheVariants as left_of
use Rattle.cxx_tree.specs.declared.expr.Ref.{Ref}
use Rattle.cxx_tree.specs.declared.expr.Selector.{Selector}
use Rattle.cxx_tree.specs.Nodes.{nodes_in_base, nodes_in_left}
use Rattle.cxx_names.specs.declared.declarations.MemberInfo.{MemberInfo}
use Rattle.cxx_types.specs.declared.context.Holder.{Holder}
use Rattle.cxx_types.specs.declared.context.Holder.TheVariants as holder_is
use Rattle.cxx_types.specs.declared.entry.Entry.{Entry}
use Rattle.cxx_types.specs.declared.limits.Counts.{Counts}
use Rattle.cxx_types.specs.Selections.{read, value_of, holder, base_node, member, member_by, selected}
use Rattle.cxx_types.specs.Expressions.{left}
use Rattle.cxx_rules.specs.Sites.{Site, thing_held, holder_of, member_meant}
use Rattle.cxx_rules.specs.Types.{member_type, member_type_by, type_of_left}
use Rattle.cxx_rules.specs.UnknownName.{unknown_member}
use Rattle.cxx_rules.specs.NotAccessible.{member_not_accessible, member_not_accessible_by}
use Rattle.cxx_rules.specs.NotAllowedHere.{no_member_value}
use Rattle.cxx_rules.specs.TypesDisagree.{behind_is_no_value, member_is_no_value}
use Rattle.cxx_rules.specs.Unless.{unless}
use Rattle.cxx_rules.specs.Forms as form
use Rattle.cxx_rules.specs.Forms.{Form, forms_of_left}
use Rattle.cxx_rules.proofs.Told.{told_by, told, all_told, st, Gives, after, same, one-more, required-told}

-- a variable's name as a value
read-gives : (m : Counts) (w : Site) (fs : List Refusal) (es : List Entry) (k : ℕ) → length es ≡ k → (r : Ref)
    → Gives (λ s. (s, value_of (thing_held w r))) m w (told m (form.variable w r) fs) (suc k) (read w.context r (st m w fs es))
unfolding read
read-gives m w fs es k h r = simp required-told (record { entries = _; is = refl; longer = one-more es _ h })

-- what stands before a member's name
pub holder-gives : (m : Counts) (w : Site) (fs : List Refusal) (es : List Entry) (k : ℕ) → length es ≡ k → (at : Place) (b : Base)
    → Gives (λ s. (s, holder_of w b)) m w (told m (form.base w at b) fs) k (holder w.context at b (st m w fs es))
unfolding holder
holder-gives m w fs es k h at base_of.This = simp required-told (record { entries = _; is = refl; longer = h })
holder-gives m w fs es k h at (base_of.Dot r) = simp required-told (record { entries = _; is = refl; longer = h })
holder-gives m w fs es k h at (base_of.Arrow r) = simp required-told (record { entries = _; is = refl; longer = h })

pub base_node-gives : (m : Counts) (w : Site) (fs : List Refusal) (es : List Entry) (k : ℕ) → length es ≡ k → (b : Base)
    → Gives (λ s. s) m w fs (k + nodes_in_base b) (base_node w.context b (st m w fs es))
unfolding base_node
base_node-gives m w fs es k h base_of.This = record { entries = es; is = refl; longer = omega arith }
base_node-gives m w fs es k h (base_of.Dot r) = same refl (omega arith) (record { entries = _; is = refl; longer = one-more es _ h })
base_node-gives m w fs es k h (base_of.Arrow r) = same refl (omega arith) (record { entries = _; is = refl; longer = one-more es _ h })

-- a member of a class
member-of-class : (m : Counts) (w : Site) (fs : List Refusal) (es : List Entry) (k : ℕ) → length es ≡ k → (at : Place) (name : Placed NameId) (class : ClassId) (x : Option (ClassId × MemberInfo))
    → Gives (λ s. (s, member_type_by w class x)) m w
    (told_by rule.N3 (member_is_no_value w at class x) (told_by rule.N6 (member_not_accessible_by w name.at class x) (told_by rule.N1 (unless (is_some x) name.at) fs)))
    (suc k) (member_by w.context at name class x (st m w fs es))
member-of-class m w fs es k h at name class None = record { entries = _; is = refl; longer = one-more es _ h }
member-of-class m w fs es k h at name class (Some x) = simp required-told (record { entries = _; is = refl; longer = one-more es _ h })

member-gives : (m : Counts) (w : Site) (fs : List Refusal) (es : List Entry) (k : ℕ) → length es ≡ k → (at : Place) (name : Placed NameId) (b : Holder)
    → Gives (λ s. (s, member_type w name b)) m w
    (told_by rule.N3 (behind_is_no_value w at name b) (told_by rule.N8 (no_member_value w at name b) (told_by rule.N6 (member_not_accessible w name b) (told_by rule.N1 (unknown_member w name b) fs))))
    (suc k) (member w.context at name b (st m w fs es))
unfolding member
member-gives m w fs es k h at name (holder_is.Class class) = member-of-class m w fs es k h at name class (member_meant w class name)
member-gives m w fs es k h at name holder_is.Thread = simp required-told (record { entries = _; is = refl; longer = one-more es _ h })
member-gives m w fs es k h at name holder_is.Mutex = simp required-told (record { entries = _; is = refl; longer = one-more es _ h })
member-gives m w fs es k h at name holder_is.Unknown = record { entries = _; is = refl; longer = one-more es _ h }

selected-gives : (m : Counts) (w : Site) (fs : List Refusal) (es : List Entry) (k : ℕ) → length es ≡ k → (n : Node) (q : Selector)
    → Gives (λ s. (s, member_type w q.name (holder_of w q.base))) m w (told m (form.member w n.at q) (told m (form.base w n.at q.base) fs))
    (k + suc (nodes_in_base q.base)) (selected w.context n q (st m w fs es))
unfolding selected
selected-gives m w fs es k h n q =
    after (λ x. let y = member w.context n.at q.name x.1 x.0 in (base_node w.context q.base y.0, y.1)) (holder-gives m w fs es k h n.at q.base) (λ es1 h1.
    after (λ y. (base_node w.context q.base y.0, y.1)) (member-gives m w _ es1 k h1 n.at q.name (holder_of w q.base)) (λ es2 h2.
    after (λ s. (s, member_type w q.name (holder_of w q.base))) (base_node-gives m w _ es2 (suc k) h2 q.base) (λ es3 h3.
    same refl (omega arith) (record { entries = es3; is = refl; longer = h3 }))))

-- what may stand on the left of an assignment
pub left-gives : (m : Counts) (w : Site) (fs : List Refusal) (es : List Entry) (k : ℕ) → length es ≡ k → (l : Left)
    → Gives (λ s. (s, type_of_left w l)) m w (all_told m (forms_of_left w l) fs) (k + nodes_in_left l) (left w.context l (st m w fs es))
unfolding left
left-gives m w fs es k h (left_of.Name r) = same refl (omega arith) (read-gives m w fs es k h r)
left-gives m w fs es k h (left_of.Member n q) = selected-gives m w fs es k h n q
left-gives m w fs es k h (left_of.Result n) = same refl (omega arith) (record { entries = _; is = refl; longer = one-more es _ h })
