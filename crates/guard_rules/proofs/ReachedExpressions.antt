-- The members that expressions reach, by what is noted of their nodes, are those that the rule says of their forms.
use Rattle.std.proofs.Common.{◌≡◌, refl, sym, subst, ap, ◌∙◌, ℕ, suc, Bool, true, false, List, [], ◌∷◌, ◌++◌, length, slice_get, slice_set, Option, Some, None, arith, length-append, if◌then◌else◌}
use Rattle.std.proofs.lemmas.List.{append-nil}
use Rattle.agxx_base.specs.declared.fault.Refusal.{Refusal}
use Rattle.agxx_base.specs.declared.ids.ClassId.{ClassId}
use Rattle.agxx_base.specs.declared.ids.NameId.{NameId}
use Rattle.agxx_base.specs.declared.kind.NumKind.{NumKind}
use Rattle.agxx_base.specs.declared.place.Place.{Place}
use Rattle.agxx_base.specs.declared.rule.Rule.{Rule}
use Rattle.agxx_base.specs.declared.rule.Rule.TheVariants as rule
use Rattle.cxx_tree.specs.declared.node.Node.{Node}
use Rattle.cxx_tree.specs.declared.node.Placed.{Placed}
use Rattle.cxx_tree.specs.declared.operator.BinOp.{BinOp}
use Rattle.cxx_tree.specs.declared.operator.UnOp.{UnOp}
use Rattle.cxx_tree.specs.declared.operator.UnOp.TheVariants as un
use Rattle.cxx_tree.specs.declared.expr.Base.{Base}
use Rattle.cxx_tree.specs.declared.expr.Base.TheVariants as base_of
use Rattle.cxx_tree.specs.declared.expr.Callee.{Callee}
use Rattle.cxx_tree.specs.declared.expr.Callee.TheVariants as callee_of
use Rattle.cxx_tree.specs.declared.expr.Left.{Left}
use Rattle.cxx_tree.specs.declared.expr.Left.TheVariants as left_of
use Rattle.cxx_tree.specs.declared.expr.Selector.{Selector}
use Rattle.cxx_tree.specs.declared.program.Param.{Param}
use Rattle.cxx_tree.specs.ExprTree as e
use Rattle.cxx_tree.specs.ExprTree.{ExprTree, ExprTrees, CallTree}
use Rattle.cxx_tree.specs.Places.{expr_node}
use Rattle.cxx_tree.specs.Walk.{walk_selector}
use Rattle.cxx_names.specs.declared.declarations.MemberInfo.{MemberInfo}
use Rattle.cxx_names.specs.declared.types.ValueType.{ValueType}
use Rattle.cxx_types.specs.declared.context.Holder.{Holder}
use Rattle.cxx_types.specs.declared.context.Holder.TheVariants as holder_is
use Rattle.cxx_types.specs.declared.entry.Entry.{Entry}
use Rattle.cxx_types.specs.declared.entry.Meaning.{Meaning}
use Rattle.cxx_types.specs.declared.entry.Meaning.TheVariants as meaning
use Rattle.cxx_types.specs.declared.limits.Counts.{Counts}
use Rattle.cxx_types.specs.State.{State}
use Rattle.cxx_types.specs.Checking.{required, noted, closed}
use Rattle.cxx_types.specs.Conversion.{may_convert, takes, takes_one, binary_type, unary_type, casts, cast_type}
use Rattle.cxx_types.specs.Selections as of
use Rattle.cxx_types.specs.Selections.{is_value, member, member_by, base_node, selected, is_thread_function, is_mutex_function}
use Rattle.cxx_types.specs.Expressions as to
use Rattle.cxx_types.specs.Expressions.{left, count, both, passed}
use Rattle.cxx_types.specs.Access.{is_accessible}
use Rattle.cxx_types.specs.Typing.{meaning_by}
use Rattle.cxx_rules.specs.Sites.{Site, holder_of, member_meant, object_of}
use Rattle.cxx_rules.specs.Types.{type_of_expr, callable, creatable}
use Rattle.cxx_rules.specs.Forms.{Form, forms_of, forms_of_left, forms_of_selector, forms_of_callee, forms_of_arguments, forms_of_call, unless_object}
use Rattle.cxx_rules.specs.Unless.{unless, with_place, places_in}
use Rattle.cxx_rules.proofs.Told.{st, told_by, all_told, required-told}
use Rattle.cxx_rules.proofs.WalkedSelections.{holder-gives}
use Rattle.cxx_rules.proofs.WalkedCalls.{called-gives, created-gives}
use Rattle.cxx_rules.proofs.WalkedExpressions.{expr-gives}
use Rattle.guards.specs.declared.guard.Guard.{Guard}
use Rattle.guard_rules.specs.Parts.{Known, class_is_guarded, place_where}
use Rattle.guard_rules.specs.MemberReachedFromOutside.{member_reached_at, declared_by_guarded, member_of, reached_behind_at}
use Rattle.guard_rules.proofs.ReachedByNodes.{reached_by, reached_behind, reached_in_left, reached_in, reached_in_exprs, reached_in_call}
use Rattle.guard_rules.specs.Numbered.{number_node}
use Rattle.guard_rules.proofs.PlacesIn.{joined}
use Rattle.guard_rules.proofs.KeptMeanings.{blank, meaning_at, known_at, Kept, kept_self, kept_through, kept_blank, last_means, required_entries}
use Rattle.guard_rules.proofs.WalksKeep.{base_keeps, expr_keeps, exprs_keeps}
use Rattle.guard_rules.proofs.CountedNumbers as n
use Rattle.guard_rules.proofs.CountedNumbers.{expr_counts, head_counts}

-- what was noted last keeps its meaning
last-kept : (es : List Entry) (x : Entry) (later : List Entry) → Kept (es ++ x ∷ []) later → meaning_at later (length es) ≡ x.meaning
last-kept es x later k = k.same (length es) (omega (arith, length-append es (x ∷ []))) ∙ last_means es x

noted-kept : (t : Option ValueType) (means : Meaning) (s : State) (es later : List Entry) → s.entries ≡ es → Kept (noted t means s).entries later → meaning_at later (length es) ≡ means
noted-kept t means s es later same k = ap (λ (xs : List Entry). meaning_at later (length xs)) (sym same) ∙ last-kept s.entries _ later k

-- a node that was noted before its parts means nothing, and so closing it keeps what was noted
pub closed_kept : (s : State) (es later : List Entry) (x : Entry) → Kept (es ++ blank ∷ []) s.entries → x.meaning ≡ meaning.Other
    → Kept (slice_set s.entries (length es) x) later → Kept s.entries later
closed_kept s es later x k none closes = kept_through (kept_blank s.entries (length es) x none (last-kept es blank s.entries k)) closes

-- the meaning of a member's name behind what has members
abbrev meant_by : Placed NameId → Option (ClassId × MemberInfo) → Meaning
meant_by name None = meaning.Other
meant_by name (Some x) = meaning.Member x.0 name.item

abbrev meant : Site → Placed NameId → Holder → Meaning
meant w name (holder_is.Class class) = meant_by name (member_meant w class name)
meant w name _ = meaning.Other

module _ (guards : List Guard) (m : Counts) (all : List Entry) where
  abbrev pub knows : Site → Known
  knows w = record { guards = guards; declared = w.declared; entries = all }

  abbrev pub sites : List Form → List Place
  sites forms = places_in (member_reached_at guards) forms

  -- ---- members

  by-class-noted : (w : Site) (at : Place) (name : Placed NameId) (class : ClassId) (x : Option (ClassId × MemberInfo)) (fs : List Refusal) (es : List Entry)
      → Kept (member_by w.context at name class x (st m w fs es)).0.entries all → meaning_at all (length es) ≡ meant_by name x
  by-class-noted w at name class None fs es k = last-kept es _ all k
  by-class-noted w at name class (Some x) fs es k =
      noted-kept _ (meaning.Member x.0 name.item)
      (required rule.N3 at (is_value (of.member_value (st m w fs es) w.context.class class x))
      (required rule.N6 name.at (is_accessible w.declared x.1.access w.context.class class x.0) (st m w fs es)))
      es all (simp required_entries refl) k

  no-value-noted : (w : Site) (at : Place) (name : Placed NameId) (is_function : Bool) (fs : List Refusal) (es : List Entry)
      → Kept (of.no_value at name is_function (st m w fs es)).0.entries all → meaning_at all (length es) ≡ meaning.Other
  no-value-noted w at name true fs es k = last-kept es _ all k
  no-value-noted w at name false fs es k = last-kept es _ all k

  member-noted : (w : Site) (at : Place) (name : Placed NameId) (b : Holder) (fs : List Refusal) (es : List Entry)
      → Kept (member w.context at name b (st m w fs es)).0.entries all → meaning_at all (length es) ≡ meant w name b
  unfolding member
  member-noted w at name (holder_is.Class class) fs es k = by-class-noted w at name class (member_meant w class name) fs es k
  member-noted w at name holder_is.Thread fs es k = no-value-noted w at name (is_thread_function (st m w fs es) name.item) fs es k
  member-noted w at name holder_is.Mutex fs es k = no-value-noted w at name (is_mutex_function (st m w fs es) name.item) fs es k
  member-noted w at name holder_is.Unknown fs es k = last-kept es _ all k

  one-where : (b : Bool) (at : Place) → (if b then at ∷ [] else []) ≡ with_place (place_where b at) []
  one-where true at = refl
  one-where false at = refl

  by-member : (w : Site) (name : Placed NameId) (x : Option (ClassId × MemberInfo))
      → reached_by (knows w) (meant_by name x) name.at ≡ with_place (place_where (declared_by_guarded guards w.declared x) name.at) []
  by-member w name None = refl
  by-member w name (Some x) = one-where (class_is_guarded guards w.declared x.0) name.at

  by-holder : (w : Site) (name : Placed NameId) (b : Holder)
      → reached_by (knows w) (meant w name b) name.at ≡ with_place (place_where (declared_by_guarded guards w.declared (member_of w name b)) name.at) []
  by-holder w name (holder_is.Class class) = by-member w name (member_meant w class name)
  by-holder w name holder_is.Thread = refl
  by-holder w name holder_is.Mutex = refl
  by-holder w name holder_is.Unknown = refl

  by-base : (w : Site) (x : Node) (q : Selector) (b : Base) → meaning_by (slice_get all x.id.0) ≡ meant w q.name (holder_of w b)
      → reached_behind (knows w) x q b ≡ with_place (reached_behind_at guards w q.name b) []
  by-base w x q base_of.This known = refl
  by-base w x q (base_of.Dot r) known = ap (λ i. reached_by (knows w) i q.name.at) known ∙ by-holder w q.name (holder_of w (base_of.Dot r))
  by-base w x q (base_of.Arrow r) known = ap (λ i. reached_by (knows w) i q.name.at) known ∙ by-holder w q.name (holder_of w (base_of.Arrow r))

  selected-reached : (w : Site) (x : Node) (q : Selector) (fs : List Refusal) (es : List Entry) → x.id.0 ≡ length es
      → Kept (selected w.context x q (st m w fs es)).0.entries all → reached_behind (knows w) x q q.base ≡ sites (forms_of_selector w x q)
  unfolding selected
  selected-reached w x q fs es number kept =
      let g = holder-gives m w fs es (length es) refl x.at q.base in
      let s = (member w.context x.at q.name (holder_of w q.base) (st m w _ g.entries)).0 in
      let whole : Kept (base_node w.context q.base s).entries all
      = subst (λ y. Kept (base_node w.context q.base (member w.context x.at q.name y.1 y.0).0).entries all) g.is kept in
      let noted : Kept s.entries all = kept_through (base_keeps s.entries w.context q.base s (kept_self s.entries)) whole in
      let means : meaning_at all (length g.entries) ≡ meant w q.name (holder_of w q.base) = member-noted w x.at q.name (holder_of w q.base) _ g.entries noted in
      by-base w x q q.base (known_at all x.id.0 ∙ (ap (meaning_at all) (number ∙ sym g.longer) ∙ means))

  pub left_reached : (w : Site) (l : Left) (fs : List Refusal) (es : List Entry) (k : ℕ) → length es ≡ k
      → Kept (left w.context (n.left l k).0 (st m w fs es)).0.entries all → reached_in_left (knows w) (n.left l k).0 ≡ sites (forms_of_left w (n.left l k).0)
  unfolding left
  left_reached w (left_of.Name r) fs es k h kept = refl
  left_reached w (left_of.Member x q) fs es k h kept =
      selected-reached w (number_node x k).0 (walk_selector number_node q (suc k)).0 fs es (sym h) kept
  left_reached w (left_of.Result x) fs es k h kept = refl

  -- ---- expressions

  callee-sites : (w : Site) (x : Node) (c : Callee) (number : ℕ) (as_value : Bool) → sites (forms_of_callee w x c number as_value) ≡ []
  callee-sites w x (callee_of.Bare r) number as_value = refl
  callee-sites w x (callee_of.Member q) number as_value = refl

  pub first_only : (a b : List Form) (xs : List Place) → xs ≡ sites a → sites b ≡ [] → xs ≡ sites (a ++ b)
  first_only a b xs first none = first ∙ (sym (append-nil (sites a)) ∙ sym (joined (member_reached_at guards) a b (sites a) [] refl none))

  pub second_only : (a b : List Form) (ys : List Place) → sites a ≡ [] → ys ≡ sites b → ys ≡ sites (a ++ b)
  second_only a b ys none second = second ∙ sym (joined (member_reached_at guards) a b [] (sites b) none refl)

  pub both_parts : (a b : List Form) (xs ys : List Place) → xs ≡ sites a → ys ≡ sites b → xs ++ ys ≡ sites (a ++ b)
  both_parts a b xs ys first second = sym (joined (member_reached_at guards) a b xs ys (sym first) (sym second))

  -- the parts of an expression, whose own node is noted first
  inside : (w : Site) (x : ExprTree) (fs : List Refusal) (es : List Entry) → Kept (es ++ blank ∷ []) (to.expr w.context x (st m w fs (es ++ blank ∷ []))).0.entries
  inside w x fs es = expr_keeps (es ++ blank ∷ []) w.context x (st m w fs (es ++ blank ∷ [])) (kept_self _)

  one-longer : (es : List Entry) (x : Entry) (k : ℕ) → length es ≡ k → length (es ++ x ∷ []) ≡ suc k
  one-longer es x k h = omega (arith, length-append es (x ∷ []), h)

  closed-by : (s : State) (es : List Entry) (t : Option ValueType) (r : Rule) (at : Place) (b : Bool) → Kept (es ++ blank ∷ []) s.entries
      → Kept (closed (length es) t (required r at b s)).entries all → Kept s.entries all
  closed-by s es t r at true k closes = closed_kept s es all _ k refl closes
  closed-by s es t r at false k closes = closed_kept s es all _ k refl closes

  operated-kept : (y : to.Typed) (es : List Entry) (x : Node) (o : UnOp) → Kept (es ++ blank ∷ []) y.0.entries → Kept (to.operated (length es) x o y).0.entries all → Kept y.0.entries all
  operated-kept y es x o k closes = closed-by y.0 es (unary_type o y.1) rule.N3 x.at (takes_one o y.1) k closes

  joined-kept : (y : to.Typed) (es : List Entry) (o : Placed BinOp) (a : Option ValueType) → Kept (es ++ blank ∷ []) y.0.entries → Kept (to.joined (length es) o a y).0.entries all → Kept y.0.entries all
  joined-kept y es o a k closes = closed-by y.0 es (binary_type y.0.declared o.item a y.1) rule.N3 o.at (takes y.0.declared o.item a y.1) k closes

  cast-kept : (y : to.Typed) (es : List Entry) (kind : NumKind) (at : Place) → Kept (es ++ blank ∷ []) y.0.entries → Kept (to.cast (length es) kind at y).0.entries all → Kept y.0.entries all
  cast-kept y es kind at k closes = closed-by y.0 es (cast_type kind y.1) rule.N3 at (casts kind y.1) k closes

  object-sites : (o : Option (Option ClassId)) (forms : List Form) → sites forms ≡ [] → sites (unless_object o forms) ≡ []
  object-sites None forms none = none
  object-sites (Some class) forms none = refl

  mutual
    pub expr_reached : (w : Site) (t : ExprTree) (fs : List Refusal) (es : List Entry) (k : ℕ) → length es ≡ k
        → Kept (to.expr w.context (n.expr t k).0 (st m w fs es)).0.entries all → reached_in (knows w) (n.expr t k).0 ≡ sites (forms_of w (n.expr t k).0)
    expr_reached w (e.lit x number) fs es k h kept = refl
    expr_reached w (e.flag x is_set) fs es k h kept = refl
    expr_reached w (e.null x) fs es k h kept = refl
    expr_reached w (e.this x) fs es k h kept = refl
    expr_reached w (e.left l) fs es k h kept = left_reached w l fs es k h kept
    expr_reached w (e.unary x un.AddressOf (e.left (left_of.Name r))) fs es k h kept =
        sym (object-sites (object_of w (n.expr (e.left (left_of.Name r)) (suc k)).0) _ refl)
    expr_reached w (e.unary x un.AddressOf t) fs es k h kept =
        expr_reached w t (fs ++ (record { rule = rule.N7; place = x.at }) ∷ []) (es ++ blank ∷ []) (suc k) (one-longer es blank k h) kept
    expr_reached w (e.unary x o t) fs es k h kept =
        let a = (n.expr t (suc k)).0 in
        let y = to.expr w.context a (st m w fs (es ++ blank ∷ [])) in
        first_only (forms_of w a) _ _
        (expr_reached w t fs (es ++ blank ∷ []) (suc k) (one-longer es blank k h) (operated-kept y es (number_node x k).0 o (inside w a fs es) kept)) refl
    expr_reached w (e.binary x o t u) fs es k h kept =
        let a = n.expr t (suc k) in
        let b = (n.expr u a.1).0 in
        let y = to.expr w.context a.0 (st m w fs (es ++ blank ∷ [])) in
        let z = to.expr w.context b y.0 in
        let g = expr-gives m w a.0 fs (es ++ blank ∷ []) (suc k) (one-longer es blank k h) in
        let here : Kept (es ++ blank ∷ []) z.0.entries = expr_keeps (es ++ blank ∷ []) w.context b y.0 (inside w a.0 fs es) in
        let second : Kept z.0.entries all = joined-kept z es o y.1 here kept in
        let first : Kept y.0.entries all = kept_through (expr_keeps y.0.entries w.context b y.0 (kept_self _)) second in
        both_parts (forms_of w a.0) _ _ _
        (expr_reached w t fs (es ++ blank ∷ []) (suc k) (one-longer es blank k h) first)
        (first_only (forms_of w b) _ _
        (expr_reached w u _ g.entries a.1 (g.longer ∙ sym (expr_counts t (suc k))) (subst (λ v. Kept (to.expr w.context b v.0).0.entries all) g.is second)) refl)
    expr_reached w (e.paren x t) fs es k h kept =
        let a = (n.expr t (suc k)).0 in
        let s = (to.expr w.context a (st m w fs (es ++ blank ∷ []))).0 in
        expr_reached w t fs (es ++ blank ∷ []) (suc k) (one-longer es blank k h) (closed_kept s es all _ (inside w a fs es) refl kept)
    expr_reached w (e.cast x type t) fs es k h kept =
        let a = (n.expr t (suc k)).0 in
        let y = to.expr w.context a (st m w fs (es ++ blank ∷ [])) in
        first_only (forms_of w a) _ _
        (expr_reached w t fs (es ++ blank ∷ []) (suc k) (one-longer es blank k h) (cast-kept y es (to.kind_of type) (expr_node a).at (inside w a fs es) kept)) refl
    expr_reached w (e.call c) fs es k h kept = call_reached w true c fs es k h kept
    expr_reached w (e.new x class) fs es k h kept = refl
    expr_reached w (e.new_with x class xs) fs es k h kept =
        let ys = (n.exprs xs (suc k)).0 in
        let g = created-gives m w fs es k h class (count ys) in
        exprs_reached w (creatable w class (count ys)).params true xs _ g.entries (suc k) g.longer
        (subst (λ f. Kept (to.exprs w.context f.1.params true ys f.0).0.entries all) g.is kept)

    pub exprs_reached : (w : Site) (ps : List Param) (fit : Bool) (ts : ExprTrees) (fs : List Refusal) (es : List Entry) (k : ℕ) → length es ≡ k
        → Kept (to.exprs w.context ps fit (n.exprs ts k).0 (st m w fs es)).0.entries all
        → reached_in_exprs (knows w) (n.exprs ts k).0 ≡ sites (forms_of_arguments w ps (n.exprs ts k).0)
    exprs_reached w ps fit e.no_exprs fs es k h kept = refl
    exprs_reached w [] fit (e.more_exprs t ts) fs es k h kept =
        let a = n.expr t k in
        let bs = (n.exprs ts a.1).0 in
        let y = to.expr w.context a.0 (st m w fs es) in
        let g = expr-gives m w a.0 fs es k h in
        both_parts (forms_of w a.0) _ _ _
        (expr_reached w t fs es k h (kept_through (exprs_keeps y.0.entries w.context [] false bs y.0 (kept_self _)) kept))
        (exprs_reached w [] false ts _ g.entries a.1 (g.longer ∙ sym (expr_counts t k)) (subst (λ v. Kept (to.exprs w.context [] false bs v.0).0.entries all) g.is kept))
    exprs_reached w (p ∷ ps) fit (e.more_exprs t ts) fs es k h kept =
        let a = n.expr t k in
        let bs = (n.exprs ts a.1).0 in
        let y = to.expr w.context a.0 (st m w fs es) in
        let at = (expr_node a.0).at in
        let x = passed at p y in
        let g = expr-gives m w a.0 fs es k h in
        let fs1 = all_told m (forms_of w a.0) fs in
        let s1 = st m w fs1 g.entries in
        let type = type_of_expr w a.0 in
        let fine = may_convert w.declared type (to.param_type s1 p) in
        let fit1 = both fit (passed at p (s1, type)).1 in
        let kept1 : Kept (to.exprs w.context ps fit1 bs (required rule.N3 at fine s1)).0.entries all
        = subst (λ v. Kept (to.exprs w.context ps (both fit (passed at p v).1) bs (passed at p v).0).0.entries all) g.is kept in
        both_parts (forms_of w a.0) _ _ _
        (expr_reached w t fs es k h
        (kept_through (exprs_keeps y.0.entries w.context ps (both fit x.1) bs x.0 (simp required_entries (kept_self y.0.entries))) kept))
        (exprs_reached w ps fit1 ts (told_by rule.N3 (unless fine at) fs1) g.entries a.1 (g.longer ∙ sym (expr_counts t k))
        (subst (λ v. Kept (to.exprs w.context ps fit1 bs v).0.entries all) (required-told rule.N3 at fine m w fs1 g.entries) kept1))

    pub call_reached : (w : Site) (as_value : Bool) (c : CallTree) (fs : List Refusal) (es : List Entry) (k : ℕ) → length es ≡ k
        → Kept (to.call w.context as_value (n.call c k).0 (st m w fs es)).0.entries all
        → reached_in_call (knows w) (n.call c k).0 ≡ sites (forms_of_call w as_value (n.call c k).0)
    call_reached w as_value (e.calls x c xs) fs es k h kept =
        let a = n.callee c (suc k) in
        let ys = (n.exprs xs a.1).0 in
        let x1 = (number_node x k).0 in
        let g = called-gives m w fs es k h x1 a.0 (count ys) as_value in
        second_only (forms_of_callee w x1 a.0 (count ys) as_value) _ _ (callee-sites w x1 a.0 (count ys) as_value)
        (exprs_reached w (callable w a.0 (count ys)).params true xs _ g.entries a.1 (g.longer ∙ sym (head_counts c k))
        (subst (λ f. Kept (to.exprs w.context f.1.params true ys f.0).0.entries all) g.is kept))
