-- The members that functions and initialisers reach, by what is noted of their nodes, are those that the rule says of
-- their forms.
use Rattle.std.proofs.Common.{◌≡◌, refl, sym, subst, ap, ◌∙◌, ℕ, suc, Bool, true, false, not, nat_eq, List, [], ◌∷◌, length, Option, Some, None}
use Rattle.std.specs.Option.{is_some}
use Rattle.agxx_base.specs.declared.fault.Refusal.{Refusal}
use Rattle.agxx_base.specs.declared.ids.NameId.{NameId}
use Rattle.agxx_base.specs.declared.place.Place.{Place}
use Rattle.agxx_base.specs.declared.rule.Rule.{Rule}
use Rattle.agxx_base.specs.declared.rule.Rule.TheVariants as rule
use Rattle.cxx_tree.specs.declared.node.Placed.{Placed}
use Rattle.cxx_tree.specs.declared.program.Param.{Param}
use Rattle.cxx_tree.specs.ExprTree as e
use Rattle.cxx_tree.specs.ExprTree.{ExprTrees}
use Rattle.cxx_tree.specs.ProgramTree.{FunctionTree, InitTree}
use Rattle.cxx_tree.specs.Places.{expr_node}
use Rattle.cxx_tree.specs.Walk.{walk_each, walk_function}
use Rattle.cxx_names.specs.declared.declarations.ClassInfo.{ClassInfo}
use Rattle.cxx_names.specs.declared.declarations.MemberInfo.{MemberInfo}
use Rattle.cxx_names.specs.LookUp.{thing_of}
use Rattle.cxx_names.specs.Tables.{named, with_name}
use Rattle.cxx_types.specs.declared.entry.Entry.{Entry}
use Rattle.cxx_types.specs.declared.limits.Counts.{Counts}
use Rattle.cxx_types.specs.State.{State}
use Rattle.cxx_types.specs.Calls.{counts}
use Rattle.cxx_types.specs.Checking.{required}
use Rattle.cxx_types.specs.Conversion.{may_convert}
use Rattle.cxx_types.specs.Expressions as of
use Rattle.cxx_types.specs.Expressions.{count}
use Rattle.cxx_types.specs.Selections.{is_value, value_of}
use Rattle.cxx_types.specs.Statements as to
use Rattle.cxx_types.specs.Classes as c
use Rattle.cxx_types.specs.Classes.{function, base_arguments, base_params, base_ctor_in, names_base, uses_object}
use Rattle.cxx_rules.specs.Sites.{Site}
use Rattle.cxx_rules.specs.Forms.{forms_of}
use Rattle.cxx_rules.specs.ProgramForms as f
use Rattle.cxx_rules.specs.Unless.{unless}
use Rattle.cxx_rules.proofs.Told.{st, told_by, required-told}
use Rattle.cxx_rules.proofs.WalkedExpressions.{expr-gives}
use Rattle.cxx_rules.proofs.WalkedLocals.{result_type-gives}
use Rattle.cxx_rules.proofs.WalkedFunctions.{params-gives}
use Rattle.cxx_rules.proofs.WalkedInitialisers.{inits-gives}
use Rattle.guards.specs.declared.guard.Guard.{Guard}
use Rattle.guard_rules.specs.Parts.{in_each}
use Rattle.guard_rules.specs.Numbered.{number_node}
use Rattle.guard_rules.proofs.ReachedByNodes.{reached_in_exprs, reached_in_block, reached_in_init}
use Rattle.guard_rules.proofs.KeptMeanings.{Kept, kept_self, kept_through, required_entries}
use Rattle.guard_rules.proofs.WalksKeep.{exprs_keeps}
use Rattle.guard_rules.proofs.ProgramsKeep as keeps
use Rattle.guard_rules.proofs.CountedNumbers as n
use Rattle.guard_rules.proofs.CountedNumbers.{expr_counts, inits_counts}
use Rattle.guard_rules.proofs.ReachedExpressions.{knows, sites, expr_reached, exprs_reached, second_only, both_parts}
use Rattle.guard_rules.proofs.ReachedStatements.{body_reached}

-- two rules, one after another
pub told_twice : (m : Counts) (w : Site) (fs : List Refusal) (es : List Entry) (q r : Rule) (a b : Place) (d e : Bool)
    → required q a d (required r b e (st m w fs es)) ≡ st m w (told_by q (unless d a) (told_by r (unless e b) fs)) es
told_twice m w fs es q r a b d e = simp required-told refl

-- arguments of a base are looked at, and nothing is noted
record Seen (m : Counts) (w : Site) (es : List Entry) (s : State) : Type 0 where
  told : List Refusal
  is : s ≡ st m w told es

base-seen : (m : Counts) (w : Site) (xs : ExprTrees) (fs : List Refusal) (es : List Entry) → Seen m w es (base_arguments w.context xs (st m w fs es))
base-seen m w e.no_exprs fs es = record { told = fs; is = refl }
base-seen m w (e.more_exprs first rest) fs es =
    let fine = not (uses_object w.context first (st m w fs es)) in
    let later = base-seen m w rest (told_by rule.N8 (unless fine (expr_node first).at) fs) es in
    record { told = later.told; is = ap (λ s. base_arguments w.context rest s) (required-told rule.N8 (expr_node first).at fine m w fs es) ∙ later.is }

module _ (guards : List Guard) (m : Counts) (all : List Entry) where
  abbrev is_kept : State → Type 0
  is_kept s = Kept s.entries all

  pub params_sites : (w : Site) (i : ℕ) (ps : List Param) → sites guards m all (f.forms_of_params w i ps) ≡ []
  params_sites w i [] = refl
  params_sites w i (x ∷ xs) = params_sites (f.with_param w x) (suc i) xs

  pub function_reached : (w : Site) (x : FunctionTree) (fs : List Refusal) (es : List Entry) (k : ℕ) → length es ≡ k
      → is_kept (function w.context (walk_function number_node x k).0 (st m w fs es))
      → reached_in_block (knows guards m all w) (n.block x.body k).0 ≡ sites guards m all (f.forms_of_function w (walk_function number_node x k).0)
  unfolding function
  function_reached w x fs es k h kept =
      let b = (n.block x.body k).0 in
      let v = f.with_params w x.params in
      let g = result_type-gives m w fs es k h x.result in
      let kept1 : is_kept (to.body w.context b (c.params w.context 0 x.params (st m w _ g.entries)))
      = subst (λ s. is_kept (to.body w.context b (c.params w.context 0 x.params s))) g.is kept in
      let p = params-gives m x.params w _ g.entries k g.longer 0 in
      second_only guards m all (f.forms_of_params w 0 x.params) _ _ (params_sites w 0 x.params)
      (body_reached guards m all v x.body _ p.entries k p.longer (subst (λ s. is_kept (to.body w.context b s)) p.is kept1))

  -- ---- initialisers

  base-sites : (w : Site) (xs : ExprTrees) → sites guards m all (f.forms_of_base_arguments w xs) ≡ []
  base-sites w e.no_exprs = refl
  base-sites w (e.more_exprs first rest) = base-sites w rest

  base-reached : (w : Site) (info : ClassInfo) (i : InitTree) (fs : List Refusal) (es : List Entry) (k : ℕ) → length es ≡ k
      → is_kept (c.base_init w.context info (n.init i k).0 (st m w fs es))
      → reached_in_exprs (knows guards m all w) (n.exprs i.arguments k).0 ≡ sites guards m all (f.forms_of_base_init w info (n.init i k).0)
  base-reached w info i fs es k h kept =
      let ys = (n.exprs i.arguments k).0 in
      let ps = base_params (base_ctor_in w.declared info) in
      let first : is_kept (of.exprs w.context ps true ys (base_arguments w.context ys (st m w _ es))).0
      = subst (λ s. is_kept (of.exprs w.context ps true ys (base_arguments w.context ys s)).0) (required-told rule.N4 i.name.at (counts (count ys) ps) m w fs es) kept in
      let seen = base-seen m w ys _ es in
      second_only guards m all (f.forms_of_base_arguments w ys) _ _ (base-sites w ys)
      (exprs_reached guards m all w ps true i.arguments seen.told es k h (subst (λ s. is_kept (of.exprs w.context ps true ys s).0) seen.is first))

  values-reached : (w : Site) (name : Placed NameId) (x : MemberInfo) (xs : ExprTrees) (fs : List Refusal) (es : List Entry) (k : ℕ) → length es ≡ k
      → is_kept (c.member_arguments w.context name x.type_name (n.exprs xs k).0 (st m w fs es))
      → reached_in_exprs (knows guards m all w) (n.exprs xs k).0 ≡ sites guards m all (f.forms_of_values w name (Some x) (n.exprs xs k).0)
  values-reached w name x e.no_exprs fs es k h kept = refl
  values-reached w name x (e.more_exprs t ts) fs es k h kept =
      let a = n.expr t k in
      let bs = (n.exprs ts a.1).0 in
      let y = of.expr w.context a.0 (st m w fs es) in
      let to_type = value_of (thing_of w.declared x.type_name) in
      let g = expr-gives m w a.0 fs es k h in
      let asked : State = required rule.N3 name.at (may_convert y.0.declared y.1 (value_of (thing_of y.0.declared x.type_name))) y.0 in
      both_parts guards m all (forms_of w a.0) _ _ _
      (expr_reached guards m all w t fs es k h
      (kept_through (exprs_keeps y.0.entries w.context [] true bs asked (simp required_entries (kept_self y.0.entries))) kept))
      (exprs_reached guards m all w [] true ts _ g.entries a.1 (g.longer ∙ sym (expr_counts t k))
      (subst (λ s. is_kept (of.exprs w.context [] true bs s).0) (required-told rule.N3 name.at (may_convert w.declared _ to_type) m w _ g.entries)
      (subst (λ v. is_kept (of.exprs w.context [] true bs (required rule.N3 name.at (may_convert v.0.declared v.1 (value_of (thing_of v.0.declared x.type_name))) v.0)).0) g.is kept)))

  member-reached : (w : Site) (info : ClassInfo) (i : InitTree) (x : Option MemberInfo) (fs : List Refusal) (es : List Entry) (k : ℕ) → length es ≡ k
      → is_kept (c.member_init w.context (n.init i k).0 x (st m w fs es))
      → reached_in_exprs (knows guards m all w) (n.exprs i.arguments k).0 ≡ sites guards m all (f.forms_of_values w i.name x (n.exprs i.arguments k).0)
  member-reached w info i None fs es k h kept = exprs_reached guards m all w [] true i.arguments _ es k h kept
  member-reached w info i (Some x) fs es k h kept =
      let ys = (n.exprs i.arguments k).0 in
      values-reached w i.name x i.arguments _ es k h
      (subst (λ s. is_kept (c.member_arguments w.context i.name x.type_name ys s))
      (told_twice m w fs es rule.N3 rule.N4 i.name.at i.name.at (is_value (thing_of w.declared x.type_name)) (nat_eq (count ys) 1)) kept)

  init-by-reached : (w : Site) (info : ClassInfo) (i : InitTree) (is_base : Bool) (fs : List Refusal) (es : List Entry) (k : ℕ) → length es ≡ k
      → is_kept (c.init_by w.context info (n.init i k).0 is_base (st m w fs es))
      → reached_in_exprs (knows guards m all w) (n.exprs i.arguments k).0 ≡ sites guards m all (f.forms_of_init w info (n.init i k).0 is_base)
  init-by-reached w info i true fs es k h kept = base-reached w info i fs es k h kept
  init-by-reached w info i false fs es k h kept = member-reached w info i (named info.members i.name.item.0) fs es k h kept

  pub inits_reached : (w : Site) (base : Option (Placed NameId)) (info : ClassInfo) (before : List (ℕ × ℕ)) (xs : List InitTree) (fs : List Refusal) (es : List Entry) (k : ℕ) → length es ≡ k
      → is_kept (c.inits w.context base info before (walk_each n.init xs k).0 (st m w fs es))
      → in_each (reached_in_init (knows guards m all w)) (walk_each n.init xs k).0 ≡ sites guards m all (f.forms_of_inits w base info before (walk_each n.init xs k).0)
  inits_reached w base info before [] fs es k h kept = refl
  inits_reached w base info before (i ∷ is) fs es k h kept =
      let a = n.init i k in
      let bs = (walk_each n.init is a.1).0 in
      let next = with_name before i.name.item.0 0 in
      let is_base = names_base base info i.name in
      let fine = not (is_some (named before i.name.item.0)) in
      let y = c.init w.context base info before a.0 (st m w fs es) in
      let g = inits-gives m w (a.0 ∷ []) base info before fs es k h in
      let here : is_kept y = kept_through (keeps.inits_keeps y.entries w.context base info next bs y (kept_self y.entries)) kept in
      both_parts guards m all (f.forms_of_init w info a.0 is_base) _ _ _
      (init-by-reached w info i is_base _ es k h (subst (λ s. is_kept (c.init_by w.context info a.0 is_base s)) (required-told rule.N2 i.name.at fine m w fs es) here))
      (inits_reached w base info next is _ g.entries a.1 (g.longer ∙ sym (inits_counts (i ∷ []) k)) (subst (λ s. is_kept (c.inits w.context base info next bs s)) g.is kept))
