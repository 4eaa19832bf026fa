-- Items of classes, and classes: the walk finds what the rules say of their forms.
use Rattle.std.proofs.Common.{◌≡◌, refl, sym, subst, ◌∙◌, ℕ, ◌+◌, Bool, not, nat_eq, List, [], ◌∷◌, length, Option, Some, None, arith}
use Rattle.std.proofs.lemmas.List.Sums.{sum_by-cons}
use Rattle.std.specs.List.{sum_by}
use Rattle.agxx_base.specs.declared.fault.Refusal.{Refusal}
use Rattle.agxx_base.specs.declared.ids.ClassId.{ClassId}
use Rattle.agxx_base.specs.declared.ids.NameId.{NameId}
use Rattle.agxx_base.specs.declared.rule.Rule.TheVariants as rule
use Rattle.cxx_tree.specs.declared.node.Placed.{Placed}
use Rattle.cxx_tree.specs.declared.program.Member.{Member}
use Rattle.cxx_tree.specs.ProgramTree as p
use Rattle.cxx_tree.specs.ProgramTree.{FunctionTree, CtorTree, DtorTree, ItemTree, ClassTree}
use Rattle.cxx_tree.specs.Nodes.{nodes_in_block, nodes_in_init, nodes_in_item}
use Rattle.cxx_names.specs.declared.declarations.ClassInfo.{ClassInfo}
use Rattle.cxx_names.specs.LookUp.{stands_before}
use Rattle.cxx_names.specs.Tables.{named}
use Rattle.cxx_types.specs.declared.classes.ItemsSeen.{ItemsSeen}
use Rattle.cxx_types.specs.declared.context.Owner.TheVariants as owner
use Rattle.cxx_types.specs.declared.entry.Entry.{Entry}
use Rattle.cxx_types.specs.declared.limits.Counts.{Counts}
use Rattle.cxx_types.specs.Checking.{required}
use Rattle.cxx_types.specs.Locals.{no_class, variable_type}
use Rattle.cxx_types.specs.Statements.{body}
use Rattle.cxx_types.specs.Classes.{begun, params, inits, base_alone, either, of_class, lifecycle, ctor, dtor, inherited, own_item, member, method, function, is_pointer, next_seen, none_seen, item, items, head, class}
use Rattle.cxx_rules.specs.DeclaredTwice.{is_inherited}
use Rattle.cxx_rules.specs.Sites.{Site}
use Rattle.cxx_rules.specs.Unless.{unless}
use Rattle.cxx_rules.specs.Forms as form
use Rattle.cxx_rules.specs.Forms.{Form}
use Rattle.cxx_rules.specs.ProgramForms.{with_params, forms_of_params, forms_of_inits, forms_without, forms_of_ctor, forms_of_dtor, forms_of_member, forms_of_method, forms_of_item, forms_of_items, forms_of_class, in_function, in_lifecycle}
use Rattle.cxx_types.specs.Classes.{initialises_base}
use Rattle.cxx_rules.proofs.Told.{told_by, told, all_told, told-append, st, Gives, after, same, required-told}
use Rattle.cxx_rules.proofs.WalkedLocals.{variable_type-gives, no_class-gives}
use Rattle.cxx_rules.proofs.WalkedFunctions.{bare, params-gives, body-gives, function-gives}
use Rattle.cxx_rules.proofs.WalkedInitialisers.{inits-gives, without-gives}

-- ---- constructors and destructors

begins-gives : (m : Counts) (w : Site) (fs : List Refusal) (es : List Entry) (k : ℕ) → length es ≡ k → (info : ClassInfo) (is_second : Bool) (name : Placed NameId)
    → Gives (λ s. s) m w (all_told m (form.second is_second name ∷ form.lifecycle info name ∷ []) fs) k
    (of_class info name (required rule.N2 name.at (not is_second) (st m w fs es)))
begins-gives m w fs es k h info is_second name = simp required-told (record { entries = es; is = refl; longer = h })

ctor-gives : (m : Counts) (w : Site) (fs : List Refusal) (es : List Entry) (k : ℕ) → length es ≡ k → (base : Option (Placed NameId)) (info : ClassInfo) (is_second : Bool) (x : CtorTree)
    → Gives (λ s. s) m (bare w) (all_told m (forms_of_ctor (in_lifecycle w) base info is_second x) fs) (k + (sum_by nodes_in_init x.inits + nodes_in_block x.body))
    (ctor w.context base info is_second x (st m w fs es))
unfolding ctor
ctor-gives m w fs es k h base info is_second x =
    let c = lifecycle w.context in
    let v = with_params (in_lifecycle w) x.params in
    same {k = (k + sum_by nodes_in_init x.inits) + nodes_in_block x.body}
    (sym (told-append m (forms_of_params (in_lifecycle w) 0 x.params) _ _
    ∙ (told-append m (forms_without v info x.name (initialises_base base info x.inits)) _ _
    ∙ told-append m (forms_of_inits v base info [] x.inits) _ _))) (omega arith)
    (after (λ s. begun (body c x.body (inits c base info [] x.inits (base_alone x.name base info x.inits (params c 0 x.params s))))) (begins-gives m (in_lifecycle w) fs es k h info is_second x.name) (λ es1 h1.
    after (λ s. begun (body c x.body (inits c base info [] x.inits (base_alone x.name base info x.inits s)))) (params-gives m x.params (in_lifecycle w) _ es1 k h1 0) (λ es2 h2.
    after (λ s. begun (body c x.body (inits c base info [] x.inits s))) (without-gives m v _ es2 k h2 x.name base info x.inits) (λ es3 h3.
    after (λ s. begun (body c x.body s)) (inits-gives m v x.inits base info [] _ es3 k h3) (λ es4 h4.
    let g = body-gives m v _ es4 _ h4 x.body in record { entries = g.entries; is = g.is; longer = g.longer })))))

dtor-gives : (m : Counts) (w : Site) (fs : List Refusal) (es : List Entry) (k : ℕ) → length es ≡ k → (info : ClassInfo) (is_second : Bool) (x : DtorTree)
    → Gives (λ s. s) m (bare w) (all_told m (forms_of_dtor (in_lifecycle w) info is_second x) fs) (k + nodes_in_block x.body)
    (dtor w.context info is_second x (st m w fs es))
unfolding dtor
dtor-gives m w fs es k h info is_second x =
    after (λ s. begun (body (lifecycle w.context) x.body s)) (begins-gives m (in_lifecycle w) fs es k h info is_second x.name) (λ es1 h1.
    let g = body-gives m (in_lifecycle w) _ es1 _ h1 x.body in record { entries = g.entries; is = g.is; longer = g.longer })

-- ---- members and functions

inherited-same : (m : Counts) (w : Site) (fs : List Refusal) (es : List Entry) (base : Option ClassId) (name : Placed NameId) → inherited base name.item (st m w fs es) ≡ is_inherited w base name
inherited-same m w fs es None name = refl
inherited-same m w fs es (Some base) name = refl

own-by : (m : Counts) (w : Site) (fs : List Refusal) (es : List Entry) (k : ℕ) → length es ≡ k → (info : ClassInfo) (index : ℕ) (name : Placed NameId) (b : Bool) → b ≡ is_inherited w info.base name
    → Gives (λ s. s) m w (told m (form.item_name w info index name) fs) k
    (required rule.N2 name.at (not (either (stands_before (named info.items name.item.0) index) b)) (st m w fs es))
own-by m w fs es k h info index name b e =
    subst (λ x. Gives (λ s. s) m w (told_by rule.N2 (unless (not (either (stands_before (named info.items name.item.0) index) x)) name.at) fs) k
    (required rule.N2 name.at (not (either (stands_before (named info.items name.item.0) index) b)) (st m w fs es))) e
    (simp required-told (record { entries = es; is = refl; longer = h }))

own-gives : (m : Counts) (w : Site) (fs : List Refusal) (es : List Entry) (k : ℕ) → length es ≡ k → (info : ClassInfo) (index : ℕ) (name : Placed NameId)
    → Gives (λ s. s) m w (all_told m (form.item_name w info index name ∷ form.apart w name ∷ []) fs) k (own_item w.context info index name (st m w fs es))
own-gives m w fs es k h info index name =
    after (λ s. no_class w.context name s) (own-by m w fs es k h info index name _ (inherited-same m w fs es info.base name)) (λ es1 h1. no_class-gives m w _ es1 k h1 name)

member-gives : (m : Counts) (w : Site) (fs : List Refusal) (es : List Entry) (k : ℕ) → length es ≡ k → (info : ClassInfo) (seen : ItemsSeen) (x : Member)
    → Gives (λ s. s) m w (all_told m (forms_of_member w info seen x) fs) k (member w.context info seen x (st m w fs es))
unfolding member
member-gives m w fs es k h info seen x =
    after (λ s. own_item w.context info seen.index x.name (required rule.N8 x.name.at (not (is_pointer x.type_name.item)) (variable_type x.type_name s))) counted-gives (λ es1 h1.
    after (λ s. own_item w.context info seen.index x.name (required rule.N8 x.name.at (not (is_pointer x.type_name.item)) s)) (variable_type-gives m w _ es1 k h1 x.type_name) (λ es2 h2.
    after (λ s. own_item w.context info seen.index x.name s) (pointer-gives _ es2 h2) (λ es3 h3. own-gives m w _ es3 k h3 info seen.index x.name)))
  where
    counted-gives : Gives (λ s. s) m w (told m (form.counted form.members seen.members x.name.at) fs) k (required rule.N10 x.name.at (not (nat_eq seen.members m.members)) (st m w fs es))
    counted-gives = simp required-told (record { entries = es; is = refl; longer = h })

    pointer-gives : (gs : List Refusal) (es1 : List Entry) → length es1 ≡ k
        → Gives (λ s. s) m w (told m (form.member_type x.name x.type_name.item) gs) k (required rule.N8 x.name.at (not (is_pointer x.type_name.item)) (st m w gs es1))
    pointer-gives gs es1 h1 = simp required-told (record { entries = es1; is = refl; longer = h1 })

method-gives : (m : Counts) (w : Site) (fs : List Refusal) (es : List Entry) (k : ℕ) → length es ≡ k → (info : ClassInfo) (seen : ItemsSeen) (f : FunctionTree)
    → Gives (λ s. s) m (bare w) (all_told m (forms_of_method w info seen f) fs) (k + nodes_in_block f.body) (method w.context info seen f (st m w fs es))
unfolding method
method-gives m w fs es k h info seen f =
    let c = record w.context { owner = owner.Function f.result.item } in
    after (λ s. function c f (own_item w.context info seen.index f.name s)) counted-gives (λ es1 h1.
    after (λ s. function c f s) (own-gives m w _ es1 k h1 info seen.index f.name) (λ es2 h2.
    let g = function-gives m (in_function w f.result.item) _ es2 k h2 f in record { entries = g.entries; is = g.is; longer = g.longer }))
  where
    counted-gives : Gives (λ s. s) m w (told m (form.counted form.methods seen.methods f.name.at) fs) k (required rule.N10 f.name.at (not (nat_eq seen.methods m.methods)) (st m w fs es))
    counted-gives = simp required-told (record { entries = es; is = refl; longer = h })

-- ---- all items

item-gives : (m : Counts) (w : Site) (fs : List Refusal) (es : List Entry) (k : ℕ) → length es ≡ k → (base : Option (Placed NameId)) (info : ClassInfo) (seen : ItemsSeen) (i : ItemTree)
    → Gives (λ s. s) m (bare w) (all_told m (forms_of_item (bare w) base info seen i) fs) (k + nodes_in_item i) (item w.context base info seen i (st m (bare w) fs es))
item-gives m w fs es k h base info seen (p.label at a) = record { entries = es; is = refl; longer = omega arith }
item-gives m w fs es k h base info seen (p.member x) = same refl (omega arith) (member-gives m (bare w) fs es k h info seen x)
item-gives m w fs es k h base info seen (p.function f) = method-gives m (bare w) fs es k h info seen f
item-gives m w fs es k h base info seen (p.ctor x) = ctor-gives m (bare w) fs es k h base info seen.has_ctor x
item-gives m w fs es k h base info seen (p.dtor x) = dtor-gives m (bare w) fs es k h info seen.has_dtor x

items-gives : (m : Counts) (w : Site) (is : List ItemTree) (base : Option (Placed NameId)) (info : ClassInfo) (seen : ItemsSeen) (fs : List Refusal) (es : List Entry) (k : ℕ) → length es ≡ k
    → Gives (λ s. s) m (bare w) (all_told m (forms_of_items (bare w) base info seen is) fs) (k + sum_by nodes_in_item is) (items w.context base info seen is (st m (bare w) fs es))
items-gives m w [] base info seen fs es k h = record { entries = es; is = refl; longer = omega arith }
items-gives m w (i ∷ is) base info seen fs es k h =
    let e : sum_by nodes_in_item (i ∷ is) ≡ nodes_in_item i + sum_by nodes_in_item is = sum_by-cons nodes_in_item i is in
    same {k = (k + nodes_in_item i) + sum_by nodes_in_item is} (sym (told-append m (forms_of_item (bare w) base info seen i) _ fs)) (omega arith)
    (after (λ s. items w.context base info (next_seen i seen) is s) (item-gives m w fs es k h base info seen i) (λ es1 h1.
    items-gives m w is base info (next_seen i seen) _ es1 _ h1))

head-gives : (m : Counts) (w : Site) (fs : List Refusal) (es : List Entry) (k : ℕ) → length es ≡ k → (base : Option (Placed NameId)) (info : ClassInfo)
    → Gives (λ s. s) m w (all_told m (form.head w base info ∷ form.counted form.ancestors info.ancestors info.name.at ∷ []) fs) k (head base info (st m w fs es))
head-gives m w fs es k h None info = simp required-told (record { entries = es; is = refl; longer = h })
head-gives m w fs es k h (Some name) info = simp required-told (record { entries = es; is = refl; longer = h })

pub class-gives : (m : Counts) (w : Site) (fs : List Refusal) (es : List Entry) (k : ℕ) → length es ≡ k → (info : ClassInfo) (x : ClassTree)
    → Gives (λ s. s) m (bare w) (all_told m (forms_of_class (bare w) x (Some info)) fs) (k + sum_by nodes_in_item x.items) (class w.context info x (st m (bare w) fs es))
unfolding class
class-gives m w fs es k h info x =
    after (λ s. items w.context x.base info none_seen x.items s) (head-gives m (bare w) fs es k h x.base info) (λ es1 h1. items-gives m w x.items x.base info none_seen _ es1 k h1)
