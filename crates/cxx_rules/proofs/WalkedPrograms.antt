-- Globals, declarations and programs: the walk finds what the rules say of their forms.
use Rattle.std.proofs.Common.{◌≡◌, refl, sym, ℕ, ◌+◌, true, not, nat_eq, List, [], ◌∷◌, length, Option, Some, None, arith}
use Rattle.std.specs.List.{sum_by}
use Rattle.std.specs.Option.{is_some}
use Rattle.agxx_base.specs.declared.fault.Refusal.{Refusal}
use Rattle.agxx_base.specs.declared.ids.ClassId.{ClassId}
use Rattle.agxx_base.specs.declared.ids.NameId.{NameId}
use Rattle.agxx_base.specs.declared.kind.Mode.{Mode}
use Rattle.agxx_base.specs.declared.rule.Rule.TheVariants as rule
use Rattle.cxx_tree.specs.declared.node.Placed.{Placed}
use Rattle.cxx_tree.specs.declared.program.Const.{Const}
use Rattle.cxx_tree.specs.declared.program.TypeName.{TypeName}
use Rattle.cxx_tree.specs.declared.program.Variable.{Variable}
use Rattle.cxx_tree.specs.ProgramTree as p
use Rattle.cxx_tree.specs.ProgramTree.{FunctionTree, ClassTree, ObjectTree, GlobalTree, DeclTree, ProgramTree}
use Rattle.cxx_tree.specs.Nodes.{nodes_in_exprs, nodes_in_item, nodes_in_global, nodes_in_decl}
use Rattle.cxx_names.specs.declared.declarations.ClassInfo.{ClassInfo}
use Rattle.cxx_names.specs.declared.declarations.Declared.{Declared}
use Rattle.cxx_names.specs.Declarations.{class_at}
use Rattle.cxx_types.specs.declared.context.Owner.TheVariants as owner
use Rattle.cxx_types.specs.declared.entry.Entry.{Entry}
use Rattle.cxx_types.specs.declared.limits.Counts.{Counts}
use Rattle.cxx_types.specs.declared.programs.DeclsSeen.{DeclsSeen}
use Rattle.cxx_types.specs.Checking.{required}
use Rattle.cxx_types.specs.Counts.{most}
use Rattle.cxx_types.specs.Expressions.{count, exprs}
use Rattle.cxx_types.specs.Statements.{dtor_is_accessible}
use Rattle.cxx_types.specs.Classes.{function}
use Rattle.cxx_types.specs.Programs.{own_decl, initialised, variable, outside, object_by, object, global_item, global_place, global, class_by, decl, next_seen, decls, none_seen, has_main, begun, checked}
use Rattle.cxx_rules.specs.Sites.{Site, class_meant, ctor_meant}
use Rattle.cxx_rules.specs.Types.{creatable_by, constructor}
use Rattle.cxx_rules.specs.WrongNumberOfArguments.{creation_wrong_number}
use Rattle.cxx_rules.specs.NotAccessible.{constructor_not_accessible, destructor_not_accessible}
use Rattle.cxx_rules.specs.Unless.{unless}
use Rattle.cxx_rules.specs.Forms as form
use Rattle.cxx_rules.specs.Forms.{Form, Kind, forms_of_arguments}
use Rattle.cxx_rules.specs.StmtForms.{forms_of_optional}
use Rattle.cxx_rules.specs.TooMany.{limit}
use Rattle.cxx_rules.specs.ProgramForms.{forms_of_constant, forms_of_global, forms_of_class, forms_of_decl, forms_of_decls, in_function, in_decl, in_class, top}
use Rattle.cxx_rules.proofs.Told.{told_by, told, all_told, told-append, st, Gives, after, same, required-told}
use Rattle.cxx_rules.proofs.WalkedCalls.{constructed-gives}
use Rattle.cxx_rules.proofs.WalkedExpressions.{exprs-gives}
use Rattle.cxx_rules.proofs.WalkedSimpleStatements.{dtor-gives}
use Rattle.cxx_rules.proofs.WalkedLocals.{variable_type-gives}
use Rattle.cxx_rules.proofs.WalkedFunctions.{bare, function-gives}
use Rattle.cxx_rules.proofs.WalkedClasses.{class-gives}

-- ---- globals

constant-gives : (m : Counts) (w : Site) (fs : List Refusal) (es : List Entry) (k : ℕ) → length es ≡ k → (t : TypeName) (x : Option (Placed Const))
    → Gives (λ s. s) m w (all_told m (forms_of_optional (forms_of_constant w t) x) fs) k (initialised t x (st m w fs es))
constant-gives m w fs es k h t None = record { entries = es; is = refl; longer = h }
constant-gives m w fs es k h t (Some x) = simp required-told (record { entries = es; is = refl; longer = h })

object-by : (m : Counts) (w : Site) (fs : List Refusal) (es : List Entry) (k : ℕ) → length es ≡ k → (index : ℕ) (o : ObjectTree) (x : Option ClassId)
    → Gives (λ s. s) m (in_decl w index)
    (all_told m (forms_of_arguments (in_decl w index) (creatable_by (in_decl w index) (count o.arguments) x).params o.arguments)
    (told_by rule.N6 (destructor_not_accessible (in_decl w index) o.name.at x)
    (told_by rule.N4 (creation_wrong_number (in_decl w index) o.name.at (count o.arguments) x)
    (told_by rule.N6 (constructor_not_accessible (in_decl w index) o.name.at x)
    (told_by rule.N1 (unless (is_some x) o.class.at) fs)))))
    (k + nodes_in_exprs o.arguments) (object_by index o x (st m (in_decl w index) fs es))
object-by m w fs es k h index o None =
    after (λ x. x.0) (exprs-gives m (in_decl w index) [] true o.arguments _ es k h) (λ es1 h1. record { entries = es1; is = refl; longer = h1 })
object-by m w fs es k h index o (Some class) =
    let v = in_decl w index in
    let f = constructor v class (count o.arguments) (ctor_meant v class) in
    after (λ f. (exprs (outside index) f.1.params true o.arguments (required rule.N6 o.name.at (dtor_is_accessible None class f.0) f.0)).0)
    (constructed-gives m v fs es k h class o.name.at (count o.arguments) (ctor_meant v class)) (λ es1 h1.
    after (λ s. (exprs (outside index) f.params true o.arguments s).0) (dtor-gives m v _ es1 k h1 class o.name.at) (λ es2 h2.
    after (λ x. x.0) (exprs-gives m v f.params true o.arguments _ es2 k h2) (λ es3 h3. record { entries = es3; is = refl; longer = h3 })))

variable-gives : (m : Counts) (w : Site) (fs : List Refusal) (es : List Entry) (k : ℕ) → length es ≡ k → (x : Variable)
    → Gives (λ s. s) m w (all_told m (forms_of_global w (p.variable x)) fs) k (variable x (st m w fs es))
unfolding variable
variable-gives m w fs es k h x =
    after (λ s. initialised x.type_name.item x.initial s) (variable_type-gives m w fs es k h x.type_name) (λ es1 h1. constant-gives m w _ es1 k h1 x.type_name.item x.initial)

object-gives : (m : Counts) (w : Site) (fs : List Refusal) (es : List Entry) (k : ℕ) → length es ≡ k → (index : ℕ) (o : ObjectTree)
    → Gives (λ s. s) m (in_decl w index) (all_told m (forms_of_global (in_decl w index) (p.object o)) fs) (k + nodes_in_exprs o.arguments) (object index o (st m (in_decl w index) fs es))
unfolding object
object-gives m w fs es k h index o = object-by m w fs es k h index o (class_meant w o.class)

item-gives : (m : Counts) (w : Site) (fs : List Refusal) (es : List Entry) (k : ℕ) → length es ≡ k → (index : ℕ) (g : GlobalTree)
    → Gives (λ s. s) m (in_decl w index) (all_told m (forms_of_global (in_decl w index) g) fs) (k + nodes_in_global g) (global_item index g (st m (in_decl w index) fs es))
item-gives m w fs es k h index (p.variable x) = same refl (omega arith) (variable-gives m (in_decl w index) fs es k h x)
item-gives m w fs es k h index (p.object o) = object-gives m w fs es k h index o
item-gives m w fs es k h index (p.mutex at name) = record { entries = es; is = refl; longer = omega arith }

-- ---- declarations

-- the name of a declaration, one of so many
name-gives : (m : Counts) (w : Site) (fs : List Refusal) (es : List Entry) (k : ℕ) → length es ≡ k → (kind : Kind) (before : ℕ) (index : ℕ) (name : Placed NameId)
    → Gives (λ s. s) m w (all_told m (form.counted kind before name.at ∷ form.decl_name w index name ∷ []) fs) k
    (own_decl index name (required rule.N10 name.at (not (nat_eq before (limit m kind))) (st m w fs es)))
name-gives m w fs es k h kind before index name = simp required-told (record { entries = es; is = refl; longer = h })

-- the nodes that a walk goes through: a class that isn't known is passed over
abbrev pub nodes_known : Option ClassInfo → ClassTree → ℕ
nodes_known None x = 0
nodes_known (Some info) x = sum_by nodes_in_item x.items

abbrev pub nodes_walked : Declared → DeclsSeen → DeclTree → ℕ
nodes_walked d seen (p.class x) = nodes_known (class_at d (record { 0 = seen.classes })) x
nodes_walked d seen x = nodes_in_decl x

abbrev pub all_nodes_walked : Declared → DeclsSeen → List DeclTree → ℕ
all_nodes_walked d seen [] = 0
all_nodes_walked d seen (x ∷ xs) = nodes_walked d seen x + all_nodes_walked d (next_seen x seen) xs

class-by : (m : Counts) (w : Site) (fs : List Refusal) (es : List Entry) (k : ℕ) → length es ≡ k → (seen : DeclsSeen) (x : ClassTree) (info : Option ClassInfo)
    → Gives (λ s. s) m (bare w) (all_told m (forms_of_class (in_class (bare w) seen) x info) fs) (k + nodes_known info x) (class_by seen x info (st m (bare w) fs es))
class-by m w fs es k h seen x None = record { entries = es; is = refl; longer = omega arith }
class-by m w fs es k h seen x (Some info) =
    let g = class-gives m (in_class w seen) fs es k h info x in record { entries = g.entries; is = g.is; longer = g.longer }

decl-gives : (m : Counts) (w : Site) (fs : List Refusal) (es : List Entry) (k : ℕ) → length es ≡ k → (seen : DeclsSeen) (x : DeclTree)
    → Gives (λ s. s) m (bare w) (all_told m (forms_of_decl (bare w) seen x) fs) (k + nodes_walked w.declared seen x) (decl seen x (st m (bare w) fs es))
unfolding global
decl-gives m w fs es k h seen (p.class x) =
    after (λ s. class_by seen x (class_at w.declared (record { 0 = seen.classes })) s) (name-gives m (bare w) fs es k h form.classes seen.classes seen.index x.name) (λ es1 h1.
    class-by m w _ es1 k h1 seen x (class_at w.declared (record { 0 = seen.classes })))
decl-gives m w fs es k h seen (p.class_name x) = record { entries = es; is = refl; longer = omega arith }
decl-gives m w fs es k h seen (p.free_function f) =
    after (λ s. function (record { class = None; owner = owner.Function f.result.item; index = seen.index }) f s) (name-gives m (bare w) fs es k h form.functions seen.functions seen.index f.name) (λ es1 h1.
    let g = function-gives m (in_function (in_decl (bare w) seen.index) f.result.item) _ es1 k h1 f in record { entries = g.entries; is = g.is; longer = g.longer })
decl-gives m w fs es k h seen (p.proto f) = record { entries = es; is = refl; longer = omega arith }
decl-gives m w fs es k h seen (p.global x) =
    after (λ s. global_item seen.index x s) (name-gives m (bare w) fs es k h form.globals seen.globals seen.index (global_place x)) (λ es1 h1.
    let g = item-gives m (bare w) _ es1 k h1 seen.index x in record { entries = g.entries; is = g.is; longer = g.longer })

decls-gives : (m : Counts) (w : Site) (xs : List DeclTree) (seen : DeclsSeen) (fs : List Refusal) (es : List Entry) (k : ℕ) → length es ≡ k
    → Gives (λ s. s) m (bare w) (all_told m (forms_of_decls (bare w) seen xs) fs) (k + all_nodes_walked w.declared seen xs) (decls seen xs (st m (bare w) fs es))
decls-gives m w [] seen fs es k h = record { entries = es; is = refl; longer = omega arith }
decls-gives m w (x ∷ xs) seen fs es k h =
    same {k = (k + nodes_walked w.declared seen x) + all_nodes_walked w.declared (next_seen x seen) xs} (sym (told-append m (forms_of_decl (bare w) seen x) _ fs)) (omega arith)
    (after (λ s. decls (next_seen x seen) xs s) (decl-gives m w fs es k h seen x) (λ es1 h1. decls-gives m w xs (next_seen x seen) _ es1 _ h1))

-- ---- programs

main-gives : (names : List (List ℕ)) (mode : Mode) (q : ProgramTree)
    → Gives (λ s. s) (most mode) (top names q) (told (most mode) (form.program names q) []) 0 (required rule.N9 q.at (has_main names q.decls) (begun names mode q))
main-gives names mode q = record { entries = []; is = required-told rule.N9 q.at (has_main names q.decls) (most mode) (top names q) [] []; longer = refl }

pub checked-gives : (names : List (List ℕ)) (mode : Mode) (q : ProgramTree)
    → Gives (λ s. s) (most mode) (top names q)
    (all_told (most mode) (form.program names q ∷ forms_of_decls (top names q) none_seen q.decls) [])
    (0 + all_nodes_walked (top names q).declared none_seen q.decls) (checked names mode q)
unfolding checked
checked-gives names mode q =
    after (λ s. decls none_seen q.decls s) (main-gives names mode q) (λ es1 h1. decls-gives (most mode) (top names q) q.decls none_seen _ es1 0 h1)
