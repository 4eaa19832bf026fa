-- The members that a program reaches, by what is noted of its nodes, are those that the rule says of its forms.
use Rattle.std.proofs.Common.{◌≡◌, refl, sym, subst, ap, ◌∙◌, ◌⊎◌, inl, inr, ℕ, ◌+◌, ◌≤◌, ◌<◌, Bool, true, not, nat_eq, List, [], ◌∷◌, ◌++◌, length, length-append, add-zero, get_or, slice_get, Option, Some, None, arith}
use Rattle.std.proofs.lemmas.Option.{slice_get_cases}
use Rattle.agxx_base.specs.declared.fault.Refusal.{Refusal}
use Rattle.agxx_base.specs.declared.ids.ClassId.{ClassId}
use Rattle.agxx_base.specs.declared.ids.NameId.{NameId}
use Rattle.agxx_base.specs.declared.kind.Mode.{Mode}
use Rattle.agxx_base.specs.declared.place.Place.{Place}
use Rattle.agxx_base.specs.declared.rule.Rule.TheVariants as rule
use Rattle.cxx_tree.specs.declared.node.Placed.{Placed}
use Rattle.cxx_tree.specs.declared.program.Const.{Const}
use Rattle.cxx_tree.specs.declared.program.TypeName.{TypeName}
use Rattle.cxx_tree.specs.declared.program.Variable.{Variable}
use Rattle.cxx_tree.specs.ProgramTree as p
use Rattle.cxx_tree.specs.ProgramTree.{ClassTree, ObjectTree, GlobalTree, DeclTree, ProgramTree}
use Rattle.cxx_tree.specs.Walk.{walk_each, walk_function, walk_global}
use Rattle.cxx_names.specs.declared.declarations.ClassInfo.{ClassInfo}
use Rattle.cxx_names.specs.declared.declarations.Declared.{Declared}
use Rattle.cxx_names.specs.Declarations.{declared, with_decl, with_decls, empty, class_items, class_at, class_named}
use Rattle.cxx_names.specs.LookUp.{is_declared_before}
use Rattle.cxx_types.specs.declared.entry.Entry.{Entry}
use Rattle.cxx_types.specs.declared.limits.Counts.{Counts}
use Rattle.cxx_types.specs.declared.programs.DeclsSeen.{DeclsSeen}
use Rattle.cxx_types.specs.Counts.{most}
use Rattle.cxx_types.specs.State.{State}
use Rattle.cxx_types.specs.Checking.{required}
use Rattle.cxx_types.specs.Classes.{function, class}
use Rattle.cxx_types.specs.Expressions as of
use Rattle.cxx_types.specs.Expressions.{count}
use Rattle.cxx_types.specs.Statements.{dtor_is_accessible}
use Rattle.cxx_types.specs.Programs as d
use Rattle.cxx_types.specs.Programs.{variable, object, global, checked, outside, global_place, next_seen, none_seen, has_main, initialised}
use Rattle.cxx_rules.specs.Sites.{Site, ctor_meant}
use Rattle.cxx_rules.specs.Types.{creatable_by, constructor}
use Rattle.cxx_rules.specs.Forms as form
use Rattle.cxx_rules.specs.Forms.{Form, forms_of_arguments}
use Rattle.cxx_rules.specs.StmtForms.{forms_of_optional}
use Rattle.cxx_rules.specs.ProgramForms as f
use Rattle.cxx_rules.proofs.Told.{st, Gives, required-told}
use Rattle.cxx_rules.proofs.WalkedCalls.{constructed-gives}
use Rattle.cxx_rules.proofs.WalkedExpressions.{exprs-gives}
use Rattle.cxx_rules.proofs.WalkedSimpleStatements.{dtor-gives}
use Rattle.cxx_rules.proofs.WalkedLocals.{variable_type-gives}
use Rattle.cxx_rules.proofs.WalkedFunctions.{bare, function-gives}
use Rattle.cxx_rules.proofs.WalkedClasses.{class-gives}
use Rattle.guards.specs.declared.guard.Guard.{Guard}
use Rattle.guard_rules.specs.Parts.{in_each}
use Rattle.guard_rules.specs.FirstFound.{known}
use Rattle.guard_rules.specs.Numbered.{number_node, numbered_program}
use Rattle.guard_rules.proofs.ReachedByNodes.{reached_in_exprs, reached_in_global, reached_in_item, reached_in_decl, reached_in_program}
use Rattle.guard_rules.specs.MemberReachedFromOutside.{member_reached}
use Rattle.guard_rules.proofs.KeptMeanings.{Kept, kept_self, kept_through}
use Rattle.guard_rules.proofs.ProgramsKeep as keeps
use Rattle.guard_rules.proofs.CountedNumbers as n
use Rattle.guard_rules.proofs.CountedNumbers.{exprs_counts, block_counts, items_counts}
use Rattle.guard_rules.proofs.ReachedExpressions.{knows, sites, exprs_reached, first_only, both_parts}
use Rattle.guard_rules.proofs.ReachedFunctions.{told_twice, function_reached}
use Rattle.guard_rules.proofs.ReachedClasses.{class_reached}

-- ---- each class that a program declares is known

abbrev class_count : DeclTree → ℕ
class_count (p.class x) = 1
class_count _ = 0

abbrev classes_in : List DeclTree → ℕ
classes_in [] = 0
classes_in (x ∷ xs) = class_count x + classes_in xs

one-declared : (names : List (List ℕ)) (known : Declared) (x : DeclTree) → length (with_decl names known x).classes ≡ length known.classes + class_count x
one-declared names known (p.class x) = length-append known.classes ((class_items known x).info ∷ [])
one-declared names known (p.class_name x) = sym (add-zero _)
one-declared names known (p.free_function x) = sym (add-zero _)
one-declared names known (p.proto x) = sym (add-zero _)
one-declared names known (p.global x) = sym (add-zero _)

all-declared : (names : List (List ℕ)) (known : Declared) (xs : List DeclTree) → length (with_decls names known xs).classes ≡ length known.classes + classes_in xs
all-declared names known [] = sym (add-zero _)
all-declared names known (x ∷ xs) =
    let first : length (with_decl names known x).classes ≡ length known.classes + class_count x = one-declared names known x in
    let rest : length (with_decls names (with_decl names known x) xs).classes ≡ length (with_decl names known x).classes + classes_in xs = all-declared names (with_decl names known x) xs in
    omega arith

seen-classes : (seen : DeclsSeen) (x : DeclTree) → (next_seen x seen).classes ≡ seen.classes + class_count x
seen-classes seen (p.class x) = omega arith
seen-classes seen (p.class_name x) = omega arith
seen-classes seen (p.free_function x) = omega arith
seen-classes seen (p.proto x) = omega arith
seen-classes seen (p.global x) = omega arith

record Within (classes : List ClassInfo) (i : ℕ) : Type 0 where
  info : ClassInfo
  is : slice_get classes i ≡ Some info

within-by : (classes : List ClassInfo) (i : ℕ) → i < length classes
    → ((x : ClassInfo) × (i < length classes) × (slice_get classes i ≡ Some x) × (get_or classes i x ≡ x)) ⊎ ((length classes ≤ i) × (slice_get classes i ≡ None)) → Within classes i
within-by classes i h (inl found) = record { info = found.0; is = found.2 }
within-by classes i h (inr missing) = let past = missing.0 in absurd (omega arith)

within : (classes : List ClassInfo) (i : ℕ) → i < length classes → Within classes i
within classes i h = within-by classes i h (slice_get_cases classes i).1

-- ---- where a walk comes to

record Comes (m : Counts) (w : Site) (k : ℕ) (s : State) : Type 0 where
  told_so_far : List Refusal
  noted : List Entry
  is : s ≡ st m w told_so_far noted
  long : length noted ≡ k

comes-first : {m : Counts} {w : Site} {fs : List Refusal} {k : ℕ} {b : Bool} {x : State × Bool} → Gives (λ s. (s, b)) m w fs k x → Comes m w k x.0
comes-first {fs} g = record { told_so_far = fs; noted = g.entries; is = ap (λ y. y.0) g.is; long = g.longer }

longer-by : {m : Counts} {w : Site} {k l : ℕ} {s : State} → k ≡ l → Comes m w k s → Comes m w l s
longer-by {m} {w} {s} e c = subst (λ n. Comes m w n s) e c

named-comes : (m : Counts) (w : Site) (index : ℕ) (name : Placed NameId) (fits : Bool) (fs : List Refusal) (es : List Entry) (k : ℕ) → length es ≡ k
    → Comes m w k (d.own_decl index name (required rule.N10 name.at fits (st m w fs es)))
named-comes m w index name fits fs es k h =
    let s = required rule.N10 name.at fits (st m w fs es) in
    record {
      told_so_far = _;
      noted = es;
      is = told_twice m w fs es rule.N2 rule.N10 name.at name.at (not (is_declared_before s.declared name.item.0 index)) fits;
      long = h;
    }

constant-comes : (m : Counts) (w : Site) (t : TypeName) (x : Option (Placed Const)) (fs : List Refusal) (es : List Entry) (k : ℕ) → length es ≡ k → Comes m w k (initialised t x (st m w fs es))
constant-comes m w t None fs es k h = record { told_so_far = fs; noted = es; is = refl; long = h }
constant-comes m w t (Some x) fs es k h = record { told_so_far = _; noted = es; is = required-told rule.N3 x.at _ m w fs es; long = h }

variable-comes : (m : Counts) (w : Site) (x : Variable) (fs : List Refusal) (es : List Entry) (k : ℕ) → length es ≡ k → Comes m w k (variable x (st m w fs es))
unfolding variable
variable-comes m w x fs es k h =
    let g = variable_type-gives m w fs es k h x.type_name in
    subst (λ s. Comes m w k (initialised x.type_name.item x.initial s)) (sym g.is) (constant-comes m w x.type_name.item x.initial _ g.entries k g.longer)

module _ (guards : List Guard) (m : Counts) (all : List Entry) where
  abbrev is_kept : State → Type 0
  is_kept s = Kept s.entries all

  -- where what is noted is kept, these places are those of these forms, and the walk comes to this number
  record Right (w : Site) (k : ℕ) (s : State) (places : List Place) (forms : List Form) : Type 0 where
    right : is_kept s → places ≡ sites guards m all forms
    on : Comes m w k s

  -- ---- globals

  object-right : (w : Site) (index : ℕ) (o : ObjectTree) (x : Option ClassId) (fs : List Refusal) (es : List Entry) (k : ℕ) → length es ≡ k
      → let v = f.in_decl w index in
      let ys = n.exprs o.arguments k in
      Right v ys.1 (d.object_by index (record o { arguments = ys.0 }) x (st m v fs es)) (reached_in_exprs (knows guards m all w) ys.0)
      (forms_of_arguments v (creatable_by v (count ys.0) x).params ys.0)
  object-right w index o None fs es k h =
      let v = f.in_decl w index in
      let ys = n.exprs o.arguments k in
      let fs1 = fs ++ (record { rule = rule.N1; place = o.class.at }) ∷ [] in
      record {
        right = λ kept. exprs_reached guards m all v [] true o.arguments fs1 es k h kept;
        on = longer-by (sym (exprs_counts o.arguments k)) (comes-first (exprs-gives m v [] true ys.0 fs1 es k h));
      }
  object-right w index o (Some class) fs es k h =
      let v = f.in_decl w index in
      let ys = n.exprs o.arguments k in
      let c = constructor v class (count ys.0) (ctor_meant v class) in
      let g1 = constructed-gives m v fs es k h class o.name.at (count ys.0) (ctor_meant v class) in
      let g2 = dtor-gives m v _ g1.entries k g1.longer class o.name.at in
      record {
        right = λ kept. exprs_reached guards m all v c.params true o.arguments _ g2.entries k g2.longer
            (subst (λ s. is_kept (of.exprs (outside index) c.params true ys.0 s).0) g2.is
            (subst (λ f. is_kept (of.exprs (outside index) f.1.params true ys.0 (required rule.N6 o.name.at (dtor_is_accessible None class f.0) f.0)).0) g1.is kept));
        on = subst (λ f. Comes m v ys.1 (of.exprs (outside index) f.1.params true ys.0 (required rule.N6 o.name.at (dtor_is_accessible None class f.0) f.0)).0) (sym g1.is)
            (subst (λ s. Comes m v ys.1 (of.exprs (outside index) c.params true ys.0 s).0) (sym g2.is)
            (longer-by (sym (exprs_counts o.arguments k)) (comes-first (exprs-gives m v c.params true ys.0 _ g2.entries k g2.longer))));
      }

  constant-sites : (w : Site) (t : TypeName) (x : Option (Placed Const)) → [] ≡ sites guards m all (forms_of_optional (f.forms_of_constant w t) x)
  constant-sites w t None = refl
  constant-sites w t (Some x) = refl

  -- the number of a global's arguments
  global-right : (w : Site) (index : ℕ) (x : GlobalTree) (fs : List Refusal) (es : List Entry) (k : ℕ) → length es ≡ k
      → let v = f.in_decl w index in
      let y = walk_global number_node x k in
      Right v y.1 (d.global_item index y.0 (st m v fs es)) (reached_in_global (knows guards m all w) y.0) (f.forms_of_global v y.0)
  unfolding object
  global-right w index (p.variable x) fs es k h =
      let v = f.in_decl w index in
      record { right = λ kept. constant-sites v x.type_name.item x.initial; on = variable-comes m v x fs es k h }
  global-right w index (p.object o) fs es k h =
      let r = object-right w index o (class_named w.declared o.class.item.0) fs es k h in record { right = r.right; on = r.on }
  global-right w index (p.mutex at name) fs es k h = record { right = λ kept. refl; on = record { told_so_far = fs; noted = es; is = refl; long = h } }

  -- ---- declarations

  class-right : (w : Site) (seen : DeclsSeen) (x : ClassTree) (info : ClassInfo) (fs : List Refusal) (es : List Entry) (k : ℕ) → length es ≡ k
      → let ys = walk_each n.item x.items k in
      let y : ClassTree = record x { items = ys.0 } in
      Right (bare w) ys.1 (d.class_by seen y (Some info) (st m (bare w) fs es)) (in_each (reached_in_item (knows guards m all w)) ys.0)
      (f.forms_of_class (f.in_class (bare w) seen) y (Some info))
  class-right w seen x info fs es k h =
      let ys = walk_each n.item x.items k in
      let g = class-gives m (f.in_class w seen) fs es k h info (record x { items = ys.0 }) in
      record {
        right = λ kept. class_reached guards m all (f.in_class w seen) info x fs es k h kept;
        on = record { told_so_far = _; noted = g.entries; is = g.is; long = g.longer ∙ sym (items_counts x.items k) };
      }

  known-right : (w : Site) (seen : DeclsSeen) (x : ClassTree) (o : Option ClassInfo) (info : ClassInfo) → o ≡ Some info → (fs : List Refusal) (es : List Entry) (k : ℕ) → length es ≡ k
      → let ys = walk_each n.item x.items k in
      let y : ClassTree = record x { items = ys.0 } in
      Right (bare w) ys.1 (d.class_by seen y o (st m (bare w) fs es)) (in_each (reached_in_item (knows guards m all w)) ys.0) (f.forms_of_class (f.in_class (bare w) seen) y o)
  known-right w seen x o info e fs es k h =
      let ys = walk_each n.item x.items k in
      let y : ClassTree = record x { items = ys.0 } in
      subst (λ i. Right (bare w) ys.1 (d.class_by seen y i (st m (bare w) fs es)) (in_each (reached_in_item (knows guards m all w)) ys.0) (f.forms_of_class (f.in_class (bare w) seen) y i)) (sym e)
      (class-right w seen x info fs es k h)

  decl-right : (w : Site) (seen : DeclsSeen) (x : DeclTree) (fs : List Refusal) (es : List Entry) (k : ℕ) → length es ≡ k
      → seen.classes + class_count (n.decl x k).0 ≤ length w.declared.classes
      → Right (bare w) (n.decl x k).1 (d.decl seen (n.decl x k).0 (st m (bare w) fs es)) (reached_in_decl (knows guards m all w) (n.decl x k).0) (f.forms_of_decl (bare w) seen (n.decl x k).0)
  unfolding global
  decl-right w seen (p.class x) fs es k h inside =
      let ys = walk_each n.item x.items k in
      let y : ClassTree = record x { items = ys.0 } in
      let o = class_at w.declared (record { 0 = seen.classes }) in
      let c = named-comes m (bare w) seen.index x.name (not (nat_eq seen.classes m.classes)) fs es k h in
      let found = within w.declared.classes seen.classes (omega (arith, inside)) in
      let r = known-right w seen x o found.info found.is c.told_so_far c.noted k c.long in
      record {
        right = λ kept. r.right (subst (λ s. is_kept (d.class_by seen y o s)) c.is kept);
        on = subst (λ s. Comes m (bare w) ys.1 (d.class_by seen y o s)) (sym c.is) r.on;
      }
  decl-right w seen (p.class_name x) fs es k h inside = record { right = λ kept. refl; on = record { told_so_far = fs; noted = es; is = refl; long = h } }
  decl-right w seen (p.free_function x) fs es k h inside =
      let v = f.in_function (f.in_decl (bare w) seen.index) x.result.item in
      let y = (walk_function number_node x k).0 in
      let l = (n.block x.body k).1 in
      let c = named-comes m (bare w) seen.index x.name (not (nat_eq seen.functions m.functions)) fs es k h in
      let g = function-gives m v c.told_so_far c.noted k c.long y in
      let on_bare : Comes m (bare w) l (function v.context y (st m (bare w) c.told_so_far c.noted)) = record { told_so_far = _; noted = g.entries; is = g.is; long = g.longer ∙ sym (block_counts x.body k) } in
      record {
        right = λ kept. function_reached guards m all v x c.told_so_far c.noted k c.long (subst (λ s. is_kept (function v.context y s)) c.is kept);
        on = subst (λ s. Comes m (bare w) l (function v.context y s)) (sym c.is) on_bare;
      }
  decl-right w seen (p.proto x) fs es k h inside = record { right = λ kept. refl; on = record { told_so_far = fs; noted = es; is = refl; long = h } }
  decl-right w seen (p.global x) fs es k h inside =
      let y = walk_global number_node x k in
      let name = global_place y.0 in
      let c = named-comes m (bare w) seen.index name (not (nat_eq seen.globals m.globals)) fs es k h in
      let r = global-right (bare w) seen.index x c.told_so_far c.noted k c.long in
      record {
        right = λ kept. r.right (subst (λ s. is_kept (d.global_item seen.index y.0 s)) c.is kept);
        on = subst (λ s. Comes m (bare w) y.1 (d.global_item seen.index y.0 s)) (sym c.is)
            (record { told_so_far = r.on.told_so_far; noted = r.on.noted; is = r.on.is; long = r.on.long });
      }

  decls-reached : (w : Site) (xs : List DeclTree) (seen : DeclsSeen) (fs : List Refusal) (es : List Entry) (k : ℕ) → length es ≡ k
      → seen.classes + classes_in (walk_each n.decl xs k).0 ≤ length w.declared.classes
      → is_kept (d.decls seen (walk_each n.decl xs k).0 (st m (bare w) fs es))
      → in_each (reached_in_decl (knows guards m all w)) (walk_each n.decl xs k).0 ≡ sites guards m all (f.forms_of_decls (bare w) seen (walk_each n.decl xs k).0)
  decls-reached w [] seen fs es k h inside kept = refl
  decls-reached w (x ∷ xs) seen fs es k h inside kept =
      let a = n.decl x k in
      let bs = (walk_each n.decl xs a.1).0 in
      let y = d.decl seen a.0 (st m (bare w) fs es) in
      let next = next_seen a.0 seen in
      let counted : next.classes ≡ seen.classes + class_count a.0 = seen-classes seen a.0 in
      let r = decl-right w seen x fs es k h (omega (arith, inside)) in
      both_parts guards m all (f.forms_of_decl (bare w) seen a.0) _ _ _
      (r.right (kept_through (keeps.decls_keeps y.entries next bs y (kept_self y.entries)) kept))
      (decls-reached w xs next r.on.told_so_far r.on.noted a.1 r.on.long (omega (arith, inside, counted)) (subst (λ s. is_kept (d.decls next bs s)) r.on.is kept))

  pub program_reached : (names : List (List ℕ)) (q : ProgramTree) (main : Bool)
      → is_kept (d.decls none_seen (numbered_program q).decls (required rule.N9 q.at main (st m (f.top names (numbered_program q)) [] [])))
      → reached_in_program (knows guards m all (f.top names (numbered_program q))) (numbered_program q) ≡ member_reached names guards (numbered_program q)
  program_reached names q main kept =
      let x = numbered_program q in
      let w = f.top names x in
      let many : length (declared names x).classes ≡ 0 + classes_in x.decls = all-declared names empty x.decls in
      first_only guards m all (f.forms_of_decls w none_seen x.decls) (form.names x ∷ []) _
      (decls-reached w q.decls none_seen _ [] 0 refl (omega (arith, many)) (subst (λ s. is_kept (d.decls none_seen x.decls s)) (required-told rule.N9 q.at main m w [] []) kept)) refl

-- Where the nodes of a program are numbered from 0 in text order, what is known of them tells the members that are reached
-- as the rule by itself does, whether the program violates a rule or not.
pub members_reached : (names : List (List ℕ)) (mode : Mode) (guards : List Guard) (q : ProgramTree)
    → reached_in_program (known names guards (checked names mode (numbered_program q)).entries (numbered_program q)) (numbered_program q) ≡ member_reached names guards (numbered_program q)
unfolding checked
members_reached names mode guards q =
    program_reached guards (most mode) (checked names mode (numbered_program q)).entries names q (has_main names (numbered_program q).decls) (kept_self _)
