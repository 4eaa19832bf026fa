-- Declarations of locals and parameters: the walk finds what the rules say of their forms.
use Rattle.std.proofs.Common.{◌≡◌, refl, ap, sym, ℕ, ◌+◌, List, length, Option, Some, None, add-one}
use Rattle.agxx_base.specs.declared.fault.Refusal.{Refusal}
use Rattle.agxx_base.specs.declared.ids.ClassId.{ClassId}
use Rattle.agxx_base.specs.declared.ids.NameId.{NameId}
use Rattle.agxx_base.specs.declared.rule.Rule.TheVariants as rule
use Rattle.cxx_tree.specs.declared.node.Placed.{Placed}
use Rattle.cxx_tree.specs.declared.program.TypeName.{TypeName}
use Rattle.cxx_tree.specs.declared.program.TypeName.TheVariants as type_name
use Rattle.cxx_names.specs.declared.declarations.ClassInfo.{ClassInfo}
use Rattle.cxx_names.specs.declared.types.Thing.{Thing}
use Rattle.cxx_names.specs.Declarations.{class_at}
use Rattle.cxx_names.specs.Tables.{with_name}
use Rattle.cxx_types.specs.declared.entry.Entry.{Entry}
use Rattle.cxx_types.specs.declared.limits.Counts.{Counts}
use Rattle.cxx_types.specs.Locals.{variable_type, variable_type_by, result_type, result_type_by, class_by, apart_from, no_class, own_name, in_scope, counted_local, local_declared, param_declared}
use Rattle.cxx_rules.specs.Sites.{Site, class_meant}
use Rattle.cxx_rules.specs.UnknownName.{unknown_pointed}
use Rattle.cxx_rules.specs.DeclaredTwice.{later_of, info_of}
use Rattle.cxx_rules.specs.NotAllowedHere.{void_variable}
use Rattle.cxx_rules.specs.Forms as form
use Rattle.cxx_rules.specs.Forms.{Form}
use Rattle.cxx_rules.specs.StmtForms.{forms_of_name}
use Rattle.cxx_rules.proofs.Told.{told_by, told, all_told, st, Gives, after, moved, required-told}

type_by-gives : (m : Counts) (w : Site) (fs : List Refusal) (es : List Entry) (k : ℕ) → length es ≡ k → (t : Placed TypeName) (i : TypeName)
    → Gives (λ s. s) m w (told_by rule.N8 (void_variable t.at i) (told_by rule.N1 (unknown_pointed w t i) fs)) k (variable_type_by t i (st m w fs es))
type_by-gives m w fs es k h t type_name.Void = record { entries = es; is = refl; longer = h }
type_by-gives m w fs es k h t (type_name.Pointer class) = simp required-told (record { entries = es; is = refl; longer = h })
type_by-gives m w fs es k h t _ = record { entries = es; is = refl; longer = h }

pub variable_type-gives : (m : Counts) (w : Site) (fs : List Refusal) (es : List Entry) (k : ℕ) → length es ≡ k → (t : Placed TypeName)
    → Gives (λ s. s) m w (told m (form.variable_type w t) fs) k (variable_type t (st m w fs es))
unfolding variable_type
variable_type-gives m w fs es k h t = type_by-gives m w fs es k h t t.item

result_by-gives : (m : Counts) (w : Site) (fs : List Refusal) (es : List Entry) (k : ℕ) → length es ≡ k → (t : Placed TypeName) (i : TypeName)
    → Gives (λ s. s) m w (told_by rule.N1 (unknown_pointed w t i) fs) k (result_type_by t i (st m w fs es))
result_by-gives m w fs es k h t (type_name.Pointer class) = simp required-told (record { entries = es; is = refl; longer = h })
result_by-gives m w fs es k h t _ = record { entries = es; is = refl; longer = h }

pub result_type-gives : (m : Counts) (w : Site) (fs : List Refusal) (es : List Entry) (k : ℕ) → length es ≡ k → (t : Placed TypeName)
    → Gives (λ s. s) m w (told m (form.result_type w t) fs) k (result_type t (st m w fs es))
unfolding result_type
result_type-gives m w fs es k h t = result_by-gives m w fs es k h t t.item

-- ---- names

apart-info : (m : Counts) (w : Site) (fs : List Refusal) (es : List Entry) (k : ℕ) → length es ≡ k → (name : Placed NameId) (x : Option ClassInfo)
    → Gives (λ s. s) m w (told_by rule.N2 (later_of w.context.index name x) fs) k (apart_from w.context.index name x (st m w fs es))
apart-info m w fs es k h name None = record { entries = es; is = refl; longer = h }
apart-info m w fs es k h name (Some class) = record { entries = es; is = refl; longer = h }

apart-by : (m : Counts) (w : Site) (fs : List Refusal) (es : List Entry) (k : ℕ) → length es ≡ k → (name : Placed NameId) (x : Option ClassId)
    → Gives (λ s. s) m w (told_by rule.N2 (later_of w.context.index name (info_of w x)) fs) k (apart_from w.context.index name (class_by x (st m w fs es)) (st m w fs es))
apart-by m w fs es k h name None = record { entries = es; is = refl; longer = h }
apart-by m w fs es k h name (Some class) = apart-info m w fs es k h name (class_at w.declared class)

pub no_class-gives : (m : Counts) (w : Site) (fs : List Refusal) (es : List Entry) (k : ℕ) → length es ≡ k → (name : Placed NameId)
    → Gives (λ s. s) m w (told m (form.apart w name) fs) k (no_class w.context name (st m w fs es))
unfolding no_class
no_class-gives m w fs es k h name = apart-by m w fs es k h name (class_meant w name)

own_name-gives : (m : Counts) (w : Site) (fs : List Refusal) (es : List Entry) (k : ℕ) → length es ≡ k → (name : Placed NameId)
    → Gives (λ s. s) m w (all_told m (forms_of_name w name) fs) k (own_name w.context name (st m w fs es))
own_name-gives m w fs es k h name = simp required-told (no_class-gives m w _ es k h name)

-- one more local
pub local_declared-gives : (m : Counts) (w : Site) (fs : List Refusal) (es : List Entry) (k : ℕ) → length es ≡ k → (name : Placed NameId) (t : Thing)
    → Gives (λ s. s) m (record w { scope = with_name w.scope name.item.0 t; locals = w.locals + 1 })
    (told m (form.counted form.locals w.locals name.at) (all_told m (forms_of_name w name) fs)) k (local_declared w.context name t (st m w fs es))
unfolding local_declared
local_declared-gives m w fs es k h name t =
    moved (ap (λ n. let v : Site = record w { scope = with_name w.scope name.item.0 t; locals = n } in v) (sym (add-one w.locals)))
    (after (λ s. in_scope name t (counted_local name s)) (own_name-gives m w fs es k h name) (λ es1 h1.
    simp required-told (record { entries = es1; is = refl; longer = h1 })))

pub param_declared-gives : (m : Counts) (w : Site) (fs : List Refusal) (es : List Entry) (k : ℕ) → length es ≡ k → (name : Placed NameId) (t : Thing)
    → Gives (λ s. s) m (record w { scope = with_name w.scope name.item.0 t })
    (all_told m (forms_of_name w name) fs) k (param_declared w.context name t (st m w fs es))
unfolding param_declared
param_declared-gives m w fs es k h name t =
    after (λ s. in_scope name t s) (own_name-gives m w fs es k h name) (λ es1 h1. record { entries = es1; is = refl; longer = h1 })
