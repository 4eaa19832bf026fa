-- The members that classes reach, by what is noted of their nodes, are those that the rule says of their forms.
use Rattle.std.proofs.Common.{◌≡◌, refl, sym, subst, ap, ◌∙◌, ℕ, ◌+◌, Bool, true, false, not, nat_eq, List, [], ◌∷◌, ◌++◌, length, Option, Some, arith}
use Rattle.std.specs.Prelude.{sum_by}
use Rattle.std.proofs.lemmas.List.Sums.{sum_by-cons}
use Rattle.agxx_base.specs.declared.fault.Refusal.{Refusal}
use Rattle.agxx_base.specs.declared.ids.NameId.{NameId}
use Rattle.agxx_base.specs.declared.rule.Rule.TheVariants as rule
use Rattle.cxx_tree.specs.declared.node.Placed.{Placed}
use Rattle.cxx_tree.specs.ProgramTree as p
use Rattle.cxx_tree.specs.ProgramTree.{FunctionTree, CtorTree, DtorTree, ItemTree, ClassTree}
use Rattle.cxx_tree.specs.Nodes.{nodes_in_item}
use Rattle.cxx_tree.specs.Walk.{walk_each, walk_function, walk_ctor}
use Rattle.cxx_names.specs.declared.declarations.ClassInfo.{ClassInfo}
use Rattle.cxx_names.specs.LookUp.{stands_before}
use Rattle.cxx_names.specs.Tables.{named}
use Rattle.cxx_types.specs.declared.classes.ItemsSeen.{ItemsSeen}
use Rattle.cxx_types.specs.declared.context.Context.{Context}
use Rattle.cxx_types.specs.declared.context.Owner.TheVariants as owner
use Rattle.cxx_types.specs.declared.entry.Entry.{Entry}
use Rattle.cxx_types.specs.declared.limits.Counts.{Counts}
use Rattle.cxx_types.specs.State.{State}
use Rattle.cxx_types.specs.Checking.{required}
use Rattle.cxx_types.specs.Locals.{no_class}
use Rattle.cxx_types.specs.Statements as to
use Rattle.cxx_types.specs.Classes as c
use Rattle.cxx_types.specs.Classes.{function, ctor, dtor, method, class, next_seen, none_seen, lifecycle, inherited, either, same_name, initialises_base}
use Rattle.cxx_rules.specs.Sites.{Site}
use Rattle.cxx_rules.specs.ProgramForms as f
use Rattle.cxx_rules.proofs.Told.{st}
use Rattle.cxx_rules.proofs.WalkedLocals.{no_class-gives}
use Rattle.cxx_rules.proofs.WalkedFunctions.{bare, params-gives}
use Rattle.cxx_rules.proofs.WalkedInitialisers.{inits-gives, without-gives}
use Rattle.cxx_rules.proofs.WalkedClasses.{class-gives}
use Rattle.guards.specs.declared.guard.Guard.{Guard}
use Rattle.guard_rules.specs.Parts.{in_each}
use Rattle.guard_rules.specs.Numbered.{number_node}
use Rattle.guard_rules.proofs.ReachedByNodes.{reached_in_block, reached_in_init, reached_in_item}
use Rattle.guard_rules.proofs.KeptMeanings.{Kept, kept_self, kept_through}
use Rattle.guard_rules.proofs.StatementsKeep.{body_keeps}
use Rattle.guard_rules.proofs.ProgramsKeep as keeps
use Rattle.guard_rules.proofs.CountedNumbers as n
use Rattle.guard_rules.proofs.CountedNumbers.{inits_counts, item_counts}
use Rattle.guard_rules.proofs.ReachedExpressions.{knows, sites, second_only, both_parts}
use Rattle.guard_rules.proofs.ReachedStatements.{body_reached}
use Rattle.guard_rules.proofs.ReachedFunctions.{told_twice, params_sites, function_reached, inits_reached}

-- what was seen behind these items
abbrev seen_behind : ItemsSeen → List ItemTree → ItemsSeen
seen_behind seen [] = seen
seen_behind seen (i ∷ is) = seen_behind (next_seen i seen) is

seen-one-more : (seen : ItemsSeen) (xs : List ItemTree) (i : ItemTree) → seen_behind seen (xs ++ i ∷ []) ≡ next_seen i (seen_behind seen xs)
seen-one-more seen [] i = refl
seen-one-more seen (x ∷ xs) i = seen-one-more (next_seen x seen) xs i

items-one-more : (k : Context) (base : Option (Placed NameId)) (info : ClassInfo) (seen : ItemsSeen) (xs : List ItemTree) (i : ItemTree) (s : State)
    → c.items k base info seen (xs ++ i ∷ []) s ≡ c.item k base info (seen_behind seen xs) i (c.items k base info seen xs s)
items-one-more k base info seen [] i s = refl
items-one-more k base info seen (x ∷ xs) i s = items-one-more k base info (next_seen x seen) xs i (c.item k base info seen x s)

nodes-one-more : (xs : List ItemTree) (i : ItemTree) → sum_by nodes_in_item (xs ++ i ∷ []) ≡ sum_by nodes_in_item xs + nodes_in_item i
nodes-one-more [] i = omega (arith, sum_by-cons nodes_in_item i [])
nodes-one-more (x ∷ xs) i = omega (arith, sum_by-cons nodes_in_item x (xs ++ i ∷ []), sum_by-cons nodes_in_item x xs, nodes-one-more xs i)

module _ (guards : List Guard) (m : Counts) (all : List Entry) where
  abbrev is_kept : State → Type 0
  is_kept s = Kept s.entries all

  without-sites : (w : Site) (info : ClassInfo) (name : Placed NameId) (b : Bool) → sites guards m all (f.forms_without w info name b) ≡ []
  without-sites w info name true = refl
  without-sites w info name false = refl

  ctor-reached : (w : Site) (base : Option (Placed NameId)) (info : ClassInfo) (is_second : Bool) (x : CtorTree) (fs : List Refusal) (es : List Entry) (k : ℕ) → length es ≡ k
      → is_kept (ctor w.context base info is_second (walk_ctor number_node x k).0 (st m w fs es))
      → in_each (reached_in_init (knows guards m all w)) (walk_each n.init x.inits k).0 ++ reached_in_block (knows guards m all w) (n.block x.body (walk_each n.init x.inits k).1).0
      ≡ sites guards m all (f.forms_of_ctor (f.in_lifecycle w) base info is_second (walk_ctor number_node x k).0)
  unfolding ctor
  ctor-reached w base info is_second x fs es k h kept =
      let is = walk_each n.init x.inits k in
      let b = (n.block x.body is.1).0 in
      let u = f.in_lifecycle w in
      let v = f.with_params u x.params in
      let l = lifecycle w.context in
      let kept1 : is_kept (to.body l b (c.inits l base info [] is.0 (c.base_alone x.name base info is.0 (c.params l 0 x.params (st m u _ es)))))
      = subst (λ s. is_kept (to.body l b (c.inits l base info [] is.0 (c.base_alone x.name base info is.0 (c.params l 0 x.params s)))))
      (told_twice m u fs es rule.N1 rule.N2 x.name.at x.name.at (same_name info.name.item x.name) (not is_second)) kept in
      let g1 = params-gives m x.params u _ es k h 0 in
      let kept2 : is_kept (to.body l b (c.inits l base info [] is.0 (c.base_alone x.name base info is.0 (st m v _ g1.entries))))
      = subst (λ s. is_kept (to.body l b (c.inits l base info [] is.0 (c.base_alone x.name base info is.0 s)))) g1.is kept1 in
      let g2 = without-gives m v _ g1.entries k g1.longer x.name base info is.0 in
      let kept3 : is_kept (to.body l b (c.inits l base info [] is.0 (st m v _ g2.entries))) = subst (λ s. is_kept (to.body l b (c.inits l base info [] is.0 s))) g2.is kept2 in
      let y = c.inits l base info [] is.0 (st m v _ g2.entries) in
      let g3 = inits-gives m v is.0 base info [] _ g2.entries k g2.longer in
      second_only guards m all (f.forms_of_params u 0 x.params) _ _ (params_sites guards m all u 0 x.params)
      (second_only guards m all (f.forms_without v info x.name (initialises_base base info is.0)) _ _ (without-sites v info x.name (initialises_base base info is.0))
      (both_parts guards m all (f.forms_of_inits v base info [] is.0) _ _ _
      (inits_reached guards m all v base info [] x.inits _ g2.entries k g2.longer (kept_through (body_keeps y.entries l b y (kept_self y.entries)) kept3))
      (body_reached guards m all v x.body _ g3.entries is.1 (g3.longer ∙ sym (inits_counts x.inits k)) (subst (λ s. is_kept (to.body l b s)) g3.is kept3))))

  method-reached : (w : Site) (info : ClassInfo) (seen : ItemsSeen) (x : FunctionTree) (fs : List Refusal) (es : List Entry) (k : ℕ) → length es ≡ k
      → is_kept (method w.context info seen (walk_function number_node x k).0 (st m w fs es))
      → reached_in_block (knows guards m all w) (n.block x.body k).0 ≡ sites guards m all (f.forms_of_method w info seen (walk_function number_node x k).0)
  unfolding method
  method-reached w info seen x fs es k h kept =
      let y = (walk_function number_node x k).0 in
      let o = record w.context { owner = owner.Function x.result.item } in
      let s1 : State = required rule.N10 x.name.at (not (nat_eq seen.methods m.methods)) (st m w fs es) in
      let kept1 : is_kept (function o y (no_class w.context x.name (st m w _ es)))
      = subst (λ s. is_kept (function o y (no_class w.context x.name s)))
      (told_twice m w fs es rule.N2 rule.N10 x.name.at x.name.at (not (either (stands_before (named info.items x.name.item.0) seen.index) (inherited info.base x.name.item s1))) (not (nat_eq seen.methods m.methods))) kept in
      let g = no_class-gives m w _ es k h x.name in
      function_reached guards m all (f.in_function w x.result.item) x _ g.entries k g.longer (subst (λ s. is_kept (function o y s)) g.is kept1)

  dtor-reached : (w : Site) (info : ClassInfo) (is_second : Bool) (x : DtorTree) (fs : List Refusal) (es : List Entry) (k : ℕ) → length es ≡ k
      → is_kept (dtor w.context info is_second (record x { body = (n.block x.body k).0 }) (st m w fs es))
      → reached_in_block (knows guards m all w) (n.block x.body k).0 ≡ sites guards m all (f.forms_of_dtor (f.in_lifecycle w) info is_second (record x { body = (n.block x.body k).0 }))
  unfolding dtor
  dtor-reached w info is_second x fs es k h kept =
      let b = (n.block x.body k).0 in
      body_reached guards m all (f.in_lifecycle w) x.body _ es k h
      (subst (λ s. is_kept (to.body (lifecycle w.context) b s))
      (told_twice m (f.in_lifecycle w) fs es rule.N1 rule.N2 x.name.at x.name.at (same_name info.name.item x.name) (not is_second)) kept)

  item-reached : (w : Site) (base : Option (Placed NameId)) (info : ClassInfo) (seen : ItemsSeen) (x : ItemTree) (fs : List Refusal) (es : List Entry) (k : ℕ) → length es ≡ k
      → is_kept (c.item w.context base info seen (n.item x k).0 (st m w fs es))
      → reached_in_item (knows guards m all w) (n.item x k).0 ≡ sites guards m all (f.forms_of_item w base info seen (n.item x k).0)
  item-reached w base info seen (p.label at a) fs es k h kept = refl
  item-reached w base info seen (p.member x) fs es k h kept = refl
  item-reached w base info seen (p.function x) fs es k h kept = method-reached w info seen x fs es k h kept
  item-reached w base info seen (p.ctor x) fs es k h kept = ctor-reached w base info seen.has_ctor x fs es k h kept
  item-reached w base info seen (p.dtor x) fs es k h kept = dtor-reached w info seen.has_dtor x fs es k h kept

  -- items, behind those that are done
  items-reached : (w : Site) (info : ClassInfo) (x : ClassTree) (xs : List ItemTree) (done : List ItemTree) (fs : List Refusal) (es : List Entry) (first : ℕ) → length es ≡ first
      → (k : ℕ) → k ≡ first + sum_by nodes_in_item done → (seen : ItemsSeen) → seen ≡ seen_behind none_seen done
      → (s : State) → s ≡ c.items w.context x.base info none_seen done (c.head x.base info (st m (bare w) fs es))
      → is_kept (c.items w.context x.base info seen (walk_each n.item xs k).0 s)
      → in_each (reached_in_item (knows guards m all w)) (walk_each n.item xs k).0 ≡ sites guards m all (f.forms_of_items (bare w) x.base info seen (walk_each n.item xs k).0)
  unfolding class
  items-reached w info x [] done fs es first h k number seen was s is kept = refl
  items-reached w info x (i ∷ is') done fs es first h k number seen was s is kept =
      let a = n.item i k in
      let bs = (walk_each n.item is' a.1).0 in
      let g = class-gives m w fs es first h info (record x { items = done }) in
      let here : s ≡ st m (bare w) _ g.entries = is ∙ g.is in
      let y = c.item w.context x.base info seen a.0 s in
      let kept1 : is_kept y = kept_through (keeps.items_keeps y.entries w.context x.base info (next_seen a.0 seen) bs y (kept_self y.entries)) kept in
      let counted : a.1 ≡ k + nodes_in_item a.0 = item_counts i k in
      let more : sum_by nodes_in_item (done ++ a.0 ∷ []) ≡ sum_by nodes_in_item done + nodes_in_item a.0 = nodes-one-more done a.0 in
      both_parts guards m all (f.forms_of_item (bare w) x.base info seen a.0) _ _ _
      (item-reached (bare w) x.base info seen i _ g.entries k (g.longer ∙ sym number) (subst (λ v. is_kept (c.item w.context x.base info seen a.0 v)) here kept1))
      (items-reached w info x is' (done ++ a.0 ∷ []) fs es first h a.1 (omega (arith, counted, more, number)) (next_seen a.0 seen)
      (ap (next_seen a.0) was ∙ sym (seen-one-more none_seen done a.0)) y
      (ap (λ v. c.item w.context x.base info seen a.0 v) is
      ∙ (ap (λ u. c.item w.context x.base info u a.0 (c.items w.context x.base info none_seen done (c.head x.base info (st m (bare w) fs es)))) was
      ∙ sym (items-one-more w.context x.base info none_seen done a.0 _))) kept)

  pub class_reached : (w : Site) (info : ClassInfo) (x : ClassTree) (fs : List Refusal) (es : List Entry) (k : ℕ) → length es ≡ k
      → is_kept (class w.context info (record x { items = (walk_each n.item x.items k).0 }) (st m (bare w) fs es))
      → in_each (reached_in_item (knows guards m all w)) (walk_each n.item x.items k).0
      ≡ sites guards m all (f.forms_of_class (bare w) (record x { items = (walk_each n.item x.items k).0 }) (Some info))
  unfolding class
  class_reached w info x fs es k h kept =
      items-reached w info x x.items [] fs es k h k (omega arith) none_seen refl (c.head x.base info (st m (bare w) fs es)) refl kept
