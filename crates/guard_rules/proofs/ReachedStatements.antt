-- The members that statements reach, by what is noted of their nodes, are those that the rule says of their forms.
use Rattle.std.proofs.Common.{◌≡◌, refl, sym, subst, ◌∙◌, ℕ, suc, ◌+◌, Bool, true, false, not, List, [], ◌∷◌, ◌++◌, length, Option, Some, None, arith}
use Rattle.agxx_base.specs.declared.fault.Refusal.{Refusal}
use Rattle.agxx_base.specs.declared.place.Place.{Place}
use Rattle.agxx_base.specs.declared.rule.Rule.{Rule}
use Rattle.agxx_base.specs.declared.rule.Rule.TheVariants as rule
use Rattle.cxx_tree.specs.declared.program.TypeName.{TypeName}
use Rattle.cxx_tree.specs.declared.expr.Ref.{Ref}
use Rattle.cxx_tree.specs.ExprTree.{ExprTree, ExprTrees}
use Rattle.cxx_tree.specs.StmtTree as t
use Rattle.cxx_tree.specs.StmtTree.{InitialTree, LocalTree, SimpleTree, PrintedTree, ThreadTree, StartTree, StmtTree, StmtTrees, BlockTree, IfTree, ElseTree}
use Rattle.cxx_tree.specs.Nodes.{nodes_in_printed, nodes_in_optional, nodes_in_start, nodes_in_expr, nodes_in_simple}
use Rattle.cxx_tree.specs.Walk.{walk_optional, walk_each, walk_thread}
use Rattle.cxx_names.specs.declared.declarations.Signature.{Signature}
use Rattle.cxx_names.specs.declared.types.Thing.TheVariants as thing
use Rattle.cxx_names.specs.LookUp.{free_signature}
use Rattle.cxx_types.specs.declared.entry.Entry.{Entry}
use Rattle.cxx_types.specs.declared.entry.Meaning.TheVariants as meaning
use Rattle.cxx_types.specs.declared.limits.Counts.{Counts}
use Rattle.cxx_types.specs.State.{State}
use Rattle.cxx_types.specs.Expressions as of
use Rattle.cxx_types.specs.Expressions.{left, count}
use Rattle.cxx_types.specs.Locals.{variable_type}
use Rattle.cxx_types.specs.Calls.{counts, is_void, result_type}
use Rattle.cxx_types.specs.Checking.{required, noted}
use Rattle.cxx_types.specs.Statements as to
use Rattle.cxx_types.specs.Statements.{local, simple, returned, deleted, printed, thread}
use Rattle.cxx_rules.specs.Sites.{Site}
use Rattle.cxx_rules.specs.Forms as form
use Rattle.cxx_rules.specs.Forms.{forms_of, forms_of_left, forms_of_arguments}
use Rattle.cxx_rules.specs.StmtForms as f
use Rattle.cxx_rules.specs.StmtForms.{forms_of_optional, forms_of_stmt, forms_of_stmts, forms_of_block, forms_of_if, forms_of_else, forms_of_body, params_of}
use Rattle.cxx_rules.proofs.Told.{st, told_by, all_told, Gives, after, moved, one-more, required-told}
use Rattle.cxx_rules.specs.Unless.{unless}
use Rattle.cxx_rules.proofs.SitesBehind.{placed-same}
use Rattle.cxx_rules.proofs.WalkedSelections.{left-gives}
use Rattle.cxx_rules.proofs.WalkedExpressions.{expr-gives}
use Rattle.cxx_rules.proofs.WalkedLocals.{variable_type-gives}
use Rattle.cxx_rules.proofs.WalkedSimpleStatements.{local-gives, simple-gives, all_printed-gives}
use Rattle.cxx_rules.proofs.WalkedStatements.{stmt-gives, block-gives}
use Rattle.guards.specs.declared.guard.Guard.{Guard}
use Rattle.guard_rules.proofs.ReachedByNodes.{reached_in, reached_in_exprs, reached_in_optional, reached_in_initial, reached_in_local, reached_in_simple, reached_in_printed, reached_in_start, reached_in_stmt, reached_in_stmts, reached_in_block, reached_in_if, reached_in_else}
use Rattle.guard_rules.specs.Parts.{in_each}
use Rattle.guard_rules.specs.Numbered.{number_node}
use Rattle.guard_rules.proofs.KeptMeanings.{Kept, kept_self, kept_through}
use Rattle.guard_rules.proofs.WalksKeep.{expr_keeps}
use Rattle.guard_rules.proofs.StatementsKeep as keeps
use Rattle.guard_rules.proofs.CountedNumbers as n
use Rattle.guard_rules.proofs.CountedNumbers.{left_counts, expr_counts, printed_counts, each_counts, starts_count, conditions_count, steps_count, stmt_counts, block_counts}
use Rattle.guard_rules.proofs.ReachedExpressions.{knows, sites, left_reached, expr_reached, exprs_reached, call_reached, first_only, both_parts}

-- three rules, one after another
told-thrice : (m : Counts) (w : Site) (fs : List Refusal) (es : List Entry) (q r x : Rule) (a b c : Place) (d e f : Bool)
    → required q a d (required r b e (required x c f (st m w fs es))) ≡ st m w (told_by q (unless d a) (told_by r (unless e b) (told_by x (unless f c) fs))) es
told-thrice m w fs es q r x a b c d e f = simp required-told refl

-- ---- where a walk comes to in the head of a `for`

start-gives : (m : Counts) (w : Site) (fs : List Refusal) (es : List Entry) (k : ℕ) → length es ≡ k → (i : Option StartTree)
    → Gives (λ s. s) m (f.behind_start w i) (all_told m (forms_of_optional (f.forms_of_start w) i) fs) (k + nodes_in_optional nodes_in_start i) (to.start w.context i (st m w fs es))
start-gives m w fs es k h None = moved (placed-same w _ _ _ _ _ _ refl (omega arith) refl) (record { entries = es; is = refl; longer = omega arith })
start-gives m w fs es k h (Some (t.start_local l)) = local-gives m w fs es k h l
start-gives m w fs es k h (Some (t.start_simple i)) = moved (placed-same w _ _ _ _ _ _ refl (omega arith) refl) (simple-gives m w fs es k h i)

condition-gives : (m : Counts) (w : Site) (fs : List Refusal) (es : List Entry) (k : ℕ) → length es ≡ k → (x : Option ExprTree)
    → Gives (λ s. s) m w (all_told m (forms_of_optional (forms_of w) x) fs) (k + nodes_in_optional nodes_in_expr x) (to.condition w.context x (st m w fs es))
condition-gives m w fs es k h None = record { entries = es; is = refl; longer = omega arith }
condition-gives m w fs es k h (Some x) =
    after (λ y. y.0) (expr-gives m w x fs es k h) (λ es1 h1. record { entries = es1; is = refl; longer = h1 })

step-gives : (m : Counts) (w : Site) (fs : List Refusal) (es : List Entry) (k : ℕ) → length es ≡ k → (i : Option SimpleTree)
    → Gives (λ s. s) m w (all_told m (forms_of_optional (f.forms_of_simple w) i) fs) (k + nodes_in_optional nodes_in_simple i) (to.step w.context i (st m w fs es))
step-gives m w fs es k h None = record { entries = es; is = refl; longer = omega arith }
step-gives m w fs es k h (Some i) = simple-gives m w fs es k h i

module _ (guards : List Guard) (m : Counts) (all : List Entry) where
  abbrev is_kept : State → Type 0
  is_kept s = Kept s.entries all

  unrequired : (r : Rule) (at : Place) (b : Bool) (s : State) → is_kept (required r at b s) → is_kept s
  unrequired r at true s kept = kept
  unrequired r at false s kept = kept

  -- ---- statements without statements in them

  initial-reached : (w : Site) (type : TypeName) (o : Option InitialTree) (fs : List Refusal) (es : List Entry) (k : ℕ) → length es ≡ k
      → is_kept (to.initial w.context type (walk_optional n.initial o k).0 (st m w fs es))
      → reached_in_optional (reached_in_initial (knows guards m all w)) (walk_optional n.initial o k).0
      ≡ sites guards m all (forms_of_optional (f.forms_of_initial w type) (walk_optional n.initial o k).0)
  initial-reached w type None fs es k h kept = refl
  initial-reached w type (Some i) fs es k h kept =
      let v = (n.expr i.value k).0 in
      let y = of.expr w.context v (st m w fs es) in
      first_only guards m all (forms_of w v) _ _ (expr_reached guards m all w i.value fs es k h (unrequired rule.N3 i.sign _ y.0 kept)) refl

  local-reached : (w : Site) (x : LocalTree) (fs : List Refusal) (es : List Entry) (k : ℕ) → length es ≡ k
      → is_kept (local w.context (n.local x k).0 (st m w fs es)) → reached_in_local (knows guards m all w) (n.local x k).0 ≡ sites guards m all (f.forms_of_local w (n.local x k).0)
  unfolding local
  local-reached w x fs es k h kept =
      let i = (walk_optional n.initial x.initial k).0 in
      let g = variable_type-gives m w fs es k h x.type_name in
      let y = to.initial w.context x.type_name.item i (variable_type x.type_name (st m w fs es)) in
      let value : is_kept y = kept_through (keeps.local_declared_keeps y.entries w.context x.name _ y (kept_self y.entries)) kept in
      first_only guards m all (forms_of_optional (f.forms_of_initial w x.type_name.item) i) _ _
      (initial-reached w x.type_name.item x.initial _ g.entries k g.longer (subst (λ s. is_kept (to.initial w.context x.type_name.item i s)) g.is value)) refl

  simple-reached : (w : Site) (i : SimpleTree) (fs : List Refusal) (es : List Entry) (k : ℕ) → length es ≡ k
      → is_kept (simple w.context (n.simple i k).0 (st m w fs es)) → reached_in_simple (knows guards m all w) (n.simple i k).0 ≡ sites guards m all (f.forms_of_simple w (n.simple i k).0)
  unfolding simple
  simple-reached w (t.assign a) fs es k h kept =
      let l = n.left a.left k in
      let v = (n.expr a.value l.1).0 in
      let y = left w.context l.0 (st m w fs es) in
      let z = of.expr w.context v y.0 in
      let g = left-gives m w fs es k h l.0 in
      let second : is_kept z.0 = unrequired rule.N3 a.sign.at _ z.0 kept in
      both_parts guards m all (forms_of_left w l.0) _ _ _
      (left_reached guards m all w a.left fs es k h (kept_through (expr_keeps y.0.entries w.context v y.0 (kept_self _)) second))
      (first_only guards m all (forms_of w v) _ _
      (expr_reached guards m all w a.value _ g.entries l.1 (g.longer ∙ sym (left_counts a.left k)) (subst (λ x. is_kept (of.expr w.context v x.0).0) g.is second)) refl)
  simple-reached w (t.bump b) fs es k h kept =
      let y = left w.context (n.left b.left k).0 (st m w fs es) in
      first_only guards m all (forms_of_left w (n.left b.left k).0) _ _ (left_reached guards m all w b.left fs es k h (unrequired rule.N3 b.sign _ y.0 kept)) refl
  simple-reached w (t.call_stmt c) fs es k h kept = call_reached guards m all w false c fs es k h kept
  simple-reached w (t.proceed at) fs es k h kept = refl

  value-reached : (w : Site) (x : Option ExprTree) (fs : List Refusal) (es : List Entry) (k : ℕ) → length es ≡ k
      → is_kept (to.condition w.context (walk_optional n.expr x k).0 (st m w fs es))
      → reached_in_optional (reached_in (knows guards m all w)) (walk_optional n.expr x k).0 ≡ sites guards m all (forms_of_optional (forms_of w) (walk_optional n.expr x k).0)
  value-reached w None fs es k h kept = refl
  value-reached w (Some x) fs es k h kept = expr_reached guards m all w x fs es k h kept

  return-reached : (w : Site) (at : Place) (x : Option ExprTree) (fs : List Refusal) (es : List Entry) (k : ℕ) → length es ≡ k
      → is_kept (returned w.context at (walk_optional n.expr x k).0 (st m w fs es))
      → reached_in_optional (reached_in (knows guards m all w)) (walk_optional n.expr x k).0 ≡ sites guards m all (f.forms_of_return w at (walk_optional n.expr x k).0)
  unfolding returned
  return-reached w at None fs es k h kept = refl
  return-reached w at (Some x) fs es k h kept =
      let y = of.expr w.context (n.expr x k).0 (st m w fs es) in
      let z = to.returned_value w.context.owner at y in
      let value : is_kept y.0 = kept_through (keeps.value_keeps y.0.entries w.context.owner at y (kept_self y.0.entries)) (unrequired rule.N10 at _ z kept) in
      first_only guards m all (forms_of w (n.expr x k).0) _ _ (expr_reached guards m all w x fs es k h value) refl

  delete-reached : (w : Site) (at : Place) (x : ExprTree) (fs : List Refusal) (es : List Entry) (k : ℕ) → length es ≡ k
      → is_kept (deleted w.context at (n.expr x k).0 (st m w fs es))
      → reached_in (knows guards m all w) (n.expr x k).0 ≡ sites guards m all (forms_of w (n.expr x k).0 ++ form.deleted w at (n.expr x k).0 ∷ [])
  unfolding deleted
  delete-reached w at x fs es k h kept =
      let y = of.expr w.context (n.expr x k).0 (st m w fs es) in
      let value : is_kept y.0 = kept_through (keeps.dtor_keeps y.0.entries w.context at y.1 y.0 (kept_self y.0.entries)) kept in
      first_only guards m all (forms_of w (n.expr x k).0) _ _ (expr_reached guards m all w x fs es k h value) refl

  printed-reached : (w : Site) (x : PrintedTree) (fs : List Refusal) (es : List Entry) (k : ℕ) → length es ≡ k
      → is_kept (printed w.context (n.printed x k).0 (st m w fs es)) → reached_in_printed (knows guards m all w) (n.printed x k).0 ≡ sites guards m all (f.forms_of_printed w (n.printed x k).0)
  unfolding printed
  printed-reached w (t.text q) fs es k h kept = refl
  printed-reached w (t.endl at) fs es k h kept = refl
  printed-reached w (t.value x) fs es k h kept =
      let y = of.expr w.context (n.expr x k).0 (st m w fs es) in
      first_only guards m all (forms_of w (n.expr x k).0) _ _ (expr_reached guards m all w x fs es k h (unrequired rule.N3 _ _ y.0 kept)) refl

  print-reached : (w : Site) (xs : List PrintedTree) (fs : List Refusal) (es : List Entry) (k : ℕ) → length es ≡ k
      → is_kept (to.all_printed w.context (walk_each n.printed xs k).0 (st m w fs es))
      → in_each (reached_in_printed (knows guards m all w)) (walk_each n.printed xs k).0 ≡ sites guards m all (f.forms_of_print w (walk_each n.printed xs k).0)
  print-reached w [] fs es k h kept = refl
  print-reached w (x ∷ xs) fs es k h kept =
      let a = n.printed x k in
      let bs = (walk_each n.printed xs a.1).0 in
      let y = printed w.context a.0 (st m w fs es) in
      let g = all_printed-gives m w (a.0 ∷ []) fs es k h in
      let counted : length g.entries ≡ a.1 = g.longer ∙ sym (each_counts n.printed nodes_in_printed printed_counts (x ∷ []) k) in
      both_parts guards m all (f.forms_of_printed w a.0) _ _ _
      (printed-reached w x fs es k h (kept_through (keeps.all_printed_keeps y.entries w.context bs y (kept_self y.entries)) kept))
      (print-reached w xs _ g.entries a.1 counted (subst (λ s. is_kept (to.all_printed w.context bs s)) g.is kept))

  started-reached : (w : Site) (at : Place) (r : Ref) (xs : ExprTrees) (x : Option Signature) (fs : List Refusal) (es : List Entry) (k : ℕ) → length es ≡ k
      → is_kept (to.started w.context at r (n.exprs xs (suc k)).0 x (st m w fs es))
      → reached_in_exprs (knows guards m all w) (n.exprs xs (suc k)).0 ≡ sites guards m all (forms_of_arguments w (params_of x) (n.exprs xs (suc k)).0)
  started-reached w at r xs None fs es k h kept =
      exprs_reached guards m all w [] true xs _ _ (suc k) (one-more es _ h) kept
  started-reached w at r xs (Some x) fs es k h kept =
      let ys = (n.exprs xs (suc k)).0 in
      let number = count ys in
      let asked : State = required rule.N4 r.name.at (counts number x.params) (required rule.N3 r.node.at (is_void x.result) (required rule.N8 at (not x.is_main) (st m w fs es))) in
      let is : asked ≡ st m w _ es = told-thrice m w fs es rule.N4 rule.N3 rule.N8 r.name.at r.node.at at (counts number x.params) (is_void x.result) (not x.is_main) in
      exprs_reached guards m all w x.params true xs _ _ (suc k) (one-more es _ h)
      (subst (λ s. is_kept (of.exprs w.context x.params true ys (noted (result_type w.declared x.result) (meaning.Function x.id) s)).0) is kept)

  thread-reached : (w : Site) (outermost : Bool) (x : ThreadTree) (fs : List Refusal) (es : List Entry) (k : ℕ) → length es ≡ k
      → is_kept (thread w.context outermost (walk_thread number_node x k).0 (st m w fs es))
      → reached_in_exprs (knows guards m all w) (n.exprs x.arguments (suc k)).0 ≡ sites guards m all (f.forms_of_thread w outermost (walk_thread number_node x k).0)
  unfolding thread
  thread-reached w outermost x fs es k h kept =
      let y = (walk_thread number_node x k).0 in
      let x1 = free_signature w.declared y.function.name.item.0 in
      let z = to.started w.context y.at y.function y.arguments x1 (required rule.N8 y.at outermost (st m w fs es)) in
      let whole : is_kept z = kept_through (keeps.local_declared_keeps z.entries w.context y.name thing.Thread z (kept_self z.entries)) kept in
      first_only guards m all (forms_of_arguments w (params_of x1) y.arguments) _ _
      (started-reached w y.at y.function x.arguments x1 _ es k h
      (subst (λ s. is_kept (to.started w.context y.at y.function y.arguments x1 s)) (required-told rule.N8 y.at outermost m w fs es) whole)) refl

  -- ---- all statements

  start-reached : (w : Site) (i : Option StartTree) (fs : List Refusal) (es : List Entry) (k : ℕ) → length es ≡ k
      → is_kept (to.start w.context (walk_optional n.start i k).0 (st m w fs es))
      → reached_in_optional (reached_in_start (knows guards m all w)) (walk_optional n.start i k).0 ≡ sites guards m all (forms_of_optional (f.forms_of_start w) (walk_optional n.start i k).0)
  start-reached w None fs es k h kept = refl
  start-reached w (Some (t.start_local l)) fs es k h kept = local-reached w l fs es k h kept
  start-reached w (Some (t.start_simple i)) fs es k h kept = simple-reached w i fs es k h kept

  step-reached : (w : Site) (i : Option SimpleTree) (fs : List Refusal) (es : List Entry) (k : ℕ) → length es ≡ k
      → is_kept (to.step w.context (walk_optional n.simple i k).0 (st m w fs es))
      → reached_in_optional (reached_in_simple (knows guards m all w)) (walk_optional n.simple i k).0 ≡ sites guards m all (forms_of_optional (f.forms_of_simple w) (walk_optional n.simple i k).0)
  step-reached w None fs es k h kept = refl
  step-reached w (Some i) fs es k h kept = simple-reached w i fs es k h kept

  mutual
    stmt-reached : (w : Site) (outermost : Bool) (x : StmtTree) (fs : List Refusal) (es : List Entry) (k : ℕ) → length es ≡ k
        → is_kept (to.stmt w.context outermost (n.stmt x k).0 (st m w fs es)) → reached_in_stmt (knows guards m all w) (n.stmt x k).0 ≡ sites guards m all (forms_of_stmt w outermost (n.stmt x k).0)
    stmt-reached w outermost (t.block b) fs es k h kept = block-reached w b fs es k h kept
    stmt-reached w outermost (t.local l) fs es k h kept = local-reached w l fs es k h kept
    stmt-reached w outermost (t.simple i) fs es k h kept = simple-reached w i fs es k h kept
    stmt-reached w outermost (t.branch i) fs es k h kept = branch-reached w i fs es k h kept
    stmt-reached w outermost (t.while at x body) fs es k h kept =
        let a = n.expr x k in
        let b = (n.block body a.1).0 in
        let y = of.expr w.context a.0 (st m w fs es) in
        let g = expr-gives m w a.0 fs es k h in
        both_parts guards m all (forms_of w a.0) _ _ _
        (expr_reached guards m all w x fs es k h (kept_through (keeps.block_keeps y.0.entries w.context b y.0 (kept_self y.0.entries)) kept))
        (block-reached w body _ g.entries a.1 (g.longer ∙ sym (expr_counts x k)) (subst (λ v. is_kept (to.block w.context b v.0)) g.is kept))
    stmt-reached w outermost (t.for at first x i body) fs es k h kept =
        let a = walk_optional n.start first k in
        let b = walk_optional n.expr x a.1 in
        let c = walk_optional n.simple i b.1 in
        let d = (n.block body c.1).0 in
        let v = f.behind_start w a.0 in
        let y1 = to.start w.context a.0 (st m w fs es) in
        let g1 = start-gives m w fs es k h a.0 in
        let h1 : length g1.entries ≡ a.1 = g1.longer ∙ sym (starts_count first k) in
        let kept1 : is_kept (to.block w.context d (to.step w.context c.0 (to.condition w.context b.0 (st m v _ g1.entries))))
        = subst (λ s. is_kept (to.block w.context d (to.step w.context c.0 (to.condition w.context b.0 s)))) g1.is kept in
        let y2 = to.condition w.context b.0 (st m v _ g1.entries) in
        let g2 = condition-gives m v _ g1.entries a.1 h1 b.0 in
        let h2 : length g2.entries ≡ b.1 = g2.longer ∙ sym (conditions_count x a.1) in
        let kept2 : is_kept (to.block w.context d (to.step w.context c.0 (st m v _ g2.entries)))
        = subst (λ s. is_kept (to.block w.context d (to.step w.context c.0 s))) g2.is kept1 in
        let y3 = to.step w.context c.0 (st m v _ g2.entries) in
        let g3 = step-gives m v _ g2.entries b.1 h2 c.0 in
        let h3 : length g3.entries ≡ c.1 = g3.longer ∙ sym (steps_count i b.1) in
        let kept3 : is_kept (to.block w.context d (st m v _ g3.entries)) = subst (λ s. is_kept (to.block w.context d s)) g3.is kept2 in
        both_parts guards m all (forms_of_optional (f.forms_of_start w) a.0) _ _ _
        (start-reached w first fs es k h
        (kept_through (keeps.block_keeps y1.entries w.context d _ (keeps.step_keeps y1.entries w.context c.0 _ (keeps.condition_keeps y1.entries w.context b.0 y1 (kept_self y1.entries)))) kept))
        (both_parts guards m all (forms_of_optional (forms_of v) b.0) _ _ _
        (value-reached v x _ g1.entries a.1 h1 (kept_through (keeps.block_keeps y2.entries w.context d _ (keeps.step_keeps y2.entries w.context c.0 y2 (kept_self y2.entries))) kept1))
        (both_parts guards m all (forms_of_optional (f.forms_of_simple v) c.0) _ _ _
        (step-reached v i _ g2.entries b.1 h2 (kept_through (keeps.block_keeps y3.entries w.context d y3 (kept_self y3.entries)) kept2))
        (block-reached v body _ g3.entries c.1 h3 kept3)))
    stmt-reached w outermost (t.return at x) fs es k h kept = return-reached w at x fs es k h kept
    stmt-reached w outermost (t.delete at x) fs es k h kept = delete-reached w at x fs es k h kept
    stmt-reached w outermost (t.print q) fs es k h kept = print-reached w q.operands fs es k h kept
    stmt-reached w outermost (t.thread x) fs es k h kept = thread-reached w outermost x fs es k h kept
    stmt-reached w outermost (t.abort at) fs es k h kept = refl

    stmts-reached : (w : Site) (outermost : Bool) (xs : StmtTrees) (fs : List Refusal) (es : List Entry) (k : ℕ) → length es ≡ k
        → is_kept (to.stmts w.context outermost (n.stmts xs k).0 (st m w fs es)) → reached_in_stmts (knows guards m all w) (n.stmts xs k).0 ≡ sites guards m all (forms_of_stmts w outermost (n.stmts xs k).0)
    stmts-reached w outermost t.no_stmts fs es k h kept = refl
    stmts-reached w outermost (t.more_stmts x xs) fs es k h kept =
        let a = n.stmt x k in
        let b = (n.stmts xs a.1).0 in
        let y = to.stmt w.context outermost a.0 (st m w fs es) in
        let g = stmt-gives m w outermost a.0 fs es k h in
        both_parts guards m all (forms_of_stmt w outermost a.0) _ _ _
        (stmt-reached w outermost x fs es k h (kept_through (keeps.stmts_keeps y.entries w.context outermost b y (kept_self y.entries)) kept))
        (stmts-reached (f.behind w a.0) outermost xs _ g.entries a.1 (g.longer ∙ sym (stmt_counts x k)) (subst (λ s. is_kept (to.stmts w.context outermost b s)) g.is kept))

    block-reached : (w : Site) (b : BlockTree) (fs : List Refusal) (es : List Entry) (k : ℕ) → length es ≡ k
        → is_kept (to.block w.context (n.block b k).0 (st m w fs es)) → reached_in_block (knows guards m all w) (n.block b k).0 ≡ sites guards m all (forms_of_block w (n.block b k).0)
    block-reached w (t.braces at xs) fs es k h kept = stmts-reached w false xs fs es k h kept

    branch-reached : (w : Site) (i : IfTree) (fs : List Refusal) (es : List Entry) (k : ℕ) → length es ≡ k
        → is_kept (to.branch w.context (n.branch i k).0 (st m w fs es)) → reached_in_if (knows guards m all w) (n.branch i k).0 ≡ sites guards m all (forms_of_if w (n.branch i k).0)
    branch-reached w (t.chooses at x body otherwise) fs es k h kept =
        let a = n.expr x k in
        let b = n.block body a.1 in
        let c = (n.otherwise_of otherwise b.1).0 in
        let v = f.further w (f.locals_in_block b.0) (f.returns_in_block b.0) in
        let y1 = of.expr w.context a.0 (st m w fs es) in
        let g1 = expr-gives m w a.0 fs es k h in
        let h1 : length g1.entries ≡ a.1 = g1.longer ∙ sym (expr_counts x k) in
        let kept1 : is_kept (to.otherwise_of w.context c (to.block w.context b.0 (st m w _ g1.entries)))
        = subst (λ y. is_kept (to.otherwise_of w.context c (to.block w.context b.0 y.0))) g1.is kept in
        let y2 = to.block w.context b.0 (st m w _ g1.entries) in
        let g2 = block-gives m w b.0 _ g1.entries a.1 h1 in
        let h2 : length g2.entries ≡ b.1 = g2.longer ∙ sym (block_counts body a.1) in
        let kept2 : is_kept (to.otherwise_of w.context c (st m v _ g2.entries)) = subst (λ s. is_kept (to.otherwise_of w.context c s)) g2.is kept1 in
        both_parts guards m all (forms_of w a.0) _ _ _
        (expr_reached guards m all w x fs es k h
        (kept_through (keeps.else_keeps y1.0.entries w.context c _ (keeps.block_keeps y1.0.entries w.context b.0 y1.0 (kept_self y1.0.entries))) kept))
        (both_parts guards m all (forms_of_block w b.0) _ _ _
        (block-reached w body _ g1.entries a.1 h1 (kept_through (keeps.else_keeps y2.entries w.context c y2 (kept_self y2.entries)) kept1))
        (else-reached v otherwise _ g2.entries b.1 h2 kept2))

    else-reached : (w : Site) (i : ElseTree) (fs : List Refusal) (es : List Entry) (k : ℕ) → length es ≡ k
        → is_kept (to.otherwise_of w.context (n.otherwise_of i k).0 (st m w fs es)) → reached_in_else (knows guards m all w) (n.otherwise_of i k).0 ≡ sites guards m all (forms_of_else w (n.otherwise_of i k).0)
    else-reached w t.no_else fs es k h kept = refl
    else-reached w (t.else_if i) fs es k h kept = branch-reached w i fs es k h kept
    else-reached w (t.else_block b) fs es k h kept = block-reached w b fs es k h kept

  pub body_reached : (w : Site) (b : BlockTree) (fs : List Refusal) (es : List Entry) (k : ℕ) → length es ≡ k
      → is_kept (to.body w.context (n.block b k).0 (st m w fs es)) → reached_in_block (knows guards m all w) (n.block b k).0 ≡ sites guards m all (forms_of_body w (n.block b k).0)
  body_reached w (t.braces at xs) fs es k h kept = stmts-reached w true xs fs es k h kept
