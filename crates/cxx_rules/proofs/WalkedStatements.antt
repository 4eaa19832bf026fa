-- Statements: the walk finds what the rules say of their forms.
use Rattle.std.proofs.Common.{◌≡◌, refl, sym, ◌∙◌, ℕ, ◌+◌, Bool, false, List, length, Option, Some, None, arith}
use Rattle.agxx_base.specs.declared.fault.Refusal.{Refusal}
use Rattle.cxx_tree.specs.ExprTree.{ExprTree}
use Rattle.cxx_tree.specs.StmtTree as t
use Rattle.cxx_tree.specs.StmtTree.{SimpleTree, StartTree, StmtTree, StmtTrees, BlockTree, IfTree, ElseTree}
use Rattle.cxx_tree.specs.Nodes.{nodes_in_expr, nodes_in_optional, nodes_in_simple, nodes_in_start, nodes_in_stmt, nodes_in_stmts, nodes_in_block, nodes_in_if, nodes_in_else}
use Rattle.cxx_types.specs.declared.entry.Entry.{Entry}
use Rattle.cxx_types.specs.declared.limits.Counts.{Counts}
use Rattle.cxx_types.specs.Statements.{stmt, stmts, block, branch, otherwise_of, body, start, condition, step, leaving}
use Rattle.cxx_rules.specs.Sites.{Site}
use Rattle.cxx_rules.specs.Forms.{forms_of}
use Rattle.cxx_rules.specs.StmtForms.{forms_of_optional, forms_of_simple, forms_of_start, forms_of_stmt, forms_of_stmts, forms_of_block, forms_of_if, forms_of_else, further, behind, behind_start, locals_in_block, returns_in_block, locals_in_if, returns_in_if, locals_in_else, returns_in_else}
use Rattle.cxx_rules.proofs.Told.{all_told, told-append, st, Gives, after, same, moved}
use Rattle.cxx_rules.proofs.WalkedExpressions.{expr-gives}
use Rattle.cxx_rules.proofs.WalkedSimpleStatements.{local-gives, simple-gives, returned-gives, deleted-gives, all_printed-gives, thread-gives}
use Rattle.cxx_rules.proofs.SitesBehind.{placed-same, stays, further-twice, behind_stmts, left-block, left-start}

-- ---- the head of a `for`

start-gives : (m : Counts) (w : Site) (fs : List Refusal) (es : List Entry) (k : ℕ) → length es ≡ k → (i : Option StartTree)
    → Gives (λ s. s) m (behind_start w i) (all_told m (forms_of_optional (forms_of_start w) i) fs) (k + nodes_in_optional nodes_in_start i) (start w.context i (st m w fs es))
start-gives m w fs es k h None = moved (placed-same w _ _ _ _ _ _ refl (omega arith) refl) (record { entries = es; is = refl; longer = omega arith })
start-gives m w fs es k h (Some (t.start_local l)) = local-gives m w fs es k h l
start-gives m w fs es k h (Some (t.start_simple i)) = moved (placed-same w _ _ _ _ _ _ refl (omega arith) refl) (simple-gives m w fs es k h i)

condition-gives : (m : Counts) (w : Site) (fs : List Refusal) (es : List Entry) (k : ℕ) → length es ≡ k → (e : Option ExprTree)
    → Gives (λ s. s) m w (all_told m (forms_of_optional (forms_of w) e) fs) (k + nodes_in_optional nodes_in_expr e) (condition w.context e (st m w fs es))
condition-gives m w fs es k h None = record { entries = es; is = refl; longer = omega arith }
condition-gives m w fs es k h (Some e) =
    after (λ x. x.0) (expr-gives m w e fs es k h) (λ es1 h1. record { entries = es1; is = refl; longer = h1 })

step-gives : (m : Counts) (w : Site) (fs : List Refusal) (es : List Entry) (k : ℕ) → length es ≡ k → (i : Option SimpleTree)
    → Gives (λ s. s) m w (all_told m (forms_of_optional (forms_of_simple w) i) fs) (k + nodes_in_optional nodes_in_simple i) (step w.context i (st m w fs es))
step-gives m w fs es k h None = record { entries = es; is = refl; longer = omega arith }
step-gives m w fs es k h (Some i) = simple-gives m w fs es k h i

-- ---- all statements

mutual
  pub stmt-gives : (m : Counts) (w : Site) (outermost : Bool) (s : StmtTree) (fs : List Refusal) (es : List Entry) (k : ℕ) → length es ≡ k
      → Gives (λ s. s) m (behind w s) (all_told m (forms_of_stmt w outermost s) fs) (k + nodes_in_stmt s) (stmt w.context outermost s (st m w fs es))
  stmt-gives m w outermost (t.block b) fs es k h = block-gives m w b fs es k h
  stmt-gives m w outermost (t.local l) fs es k h = moved (placed-same w _ _ _ _ _ _ refl refl (omega arith)) (local-gives m w fs es k h l)
  stmt-gives m w outermost (t.simple i) fs es k h = moved (stays w) (simple-gives m w fs es k h i)
  stmt-gives m w outermost (t.branch i) fs es k h = branch-gives m w i fs es k h
  stmt-gives m w outermost (t.while at e body) fs es k h =
      same {k = (k + nodes_in_expr e) + nodes_in_block body} (sym (told-append m (forms_of w e) _ fs)) (omega arith)
      (after (λ x. block w.context body x.0) (expr-gives m w e fs es k h) (λ es1 h1. block-gives m w body _ es1 _ h1))
  stmt-gives m w outermost (t.for at first e i body) fs es k h =
      same {k = ((k + nodes_in_optional nodes_in_start first) + nodes_in_optional nodes_in_expr e) + nodes_in_optional nodes_in_simple i + nodes_in_block body}
      (sym (told-append m (forms_of_optional (forms_of_start w) first) _ fs
      ∙ (told-append m (forms_of_optional (forms_of (behind_start w first)) e) _ _
      ∙ told-append m (forms_of_optional (forms_of_simple (behind_start w first)) i) _ _))) (omega arith)
      (after (λ s. leaving (st m w fs es) (block w.context body (step w.context i (condition w.context e s)))) (start-gives m w fs es k h first) (λ es1 h1.
      after (λ s. leaving (st m w fs es) (block w.context body (step w.context i s))) (condition-gives m (behind_start w first) _ es1 _ h1 e) (λ es2 h2.
      after (λ s. leaving (st m w fs es) (block w.context body s)) (step-gives m (behind_start w first) _ es2 _ h2 i) (λ es3 h3.
      after (λ s. leaving (st m w fs es) s) (block-gives m (behind_start w first) body _ es3 _ h3) (λ es4 h4.
      moved (left-start w first (locals_in_block body) (returns_in_block body)) (record { entries = es4; is = refl; longer = h4 }))))))
  stmt-gives m w outermost (t.return at e) fs es k h = moved (placed-same w _ _ _ _ _ _ refl (omega arith) refl) (returned-gives m w fs es k h at e)
  stmt-gives m w outermost (t.delete at e) fs es k h = moved (stays w) (deleted-gives m w fs es k h at e)
  stmt-gives m w outermost (t.print p) fs es k h = moved (stays w) (all_printed-gives m w p.operands fs es k h)
  stmt-gives m w outermost (t.thread x) fs es k h = moved (placed-same w _ _ _ _ _ _ refl refl (omega arith)) (thread-gives m w fs es k h outermost x)
  stmt-gives m w outermost (t.abort at) fs es k h = moved (stays w) (record { entries = es; is = refl; longer = omega arith })

  pub stmts-gives : (m : Counts) (w : Site) (outermost : Bool) (ss : StmtTrees) (fs : List Refusal) (es : List Entry) (k : ℕ) → length es ≡ k
      → Gives (λ s. s) m (behind_stmts w ss) (all_told m (forms_of_stmts w outermost ss) fs) (k + nodes_in_stmts ss) (stmts w.context outermost ss (st m w fs es))
  stmts-gives m w outermost t.no_stmts fs es k h = record { entries = es; is = refl; longer = omega arith }
  stmts-gives m w outermost (t.more_stmts first rest) fs es k h =
      same {k = (k + nodes_in_stmt first) + nodes_in_stmts rest} (sym (told-append m (forms_of_stmt w outermost first) _ fs)) (omega arith)
      (after (λ s. stmts w.context outermost rest s) (stmt-gives m w outermost first fs es k h) (λ es1 h1. stmts-gives m (behind w first) outermost rest _ es1 _ h1))

  pub block-gives : (m : Counts) (w : Site) (b : BlockTree) (fs : List Refusal) (es : List Entry) (k : ℕ) → length es ≡ k
      → Gives (λ s. s) m (further w (locals_in_block b) (returns_in_block b)) (all_told m (forms_of_block w b) fs) (k + nodes_in_block b) (block w.context b (st m w fs es))
  block-gives m w (t.braces at ss) fs es k h =
      after (λ s. leaving (st m w fs es) s) (stmts-gives m w false ss fs es k h) (λ es1 h1.
      moved (left-block w ss) (record { entries = es1; is = refl; longer = h1 }))

  pub branch-gives : (m : Counts) (w : Site) (i : IfTree) (fs : List Refusal) (es : List Entry) (k : ℕ) → length es ≡ k
      → Gives (λ s. s) m (further w (locals_in_if i) (returns_in_if i)) (all_told m (forms_of_if w i) fs) (k + nodes_in_if i) (branch w.context i (st m w fs es))
  branch-gives m w (t.chooses at e body otherwise) fs es k h =
      same {k = ((k + nodes_in_expr e) + nodes_in_block body) + nodes_in_else otherwise}
      (sym (told-append m (forms_of w e) _ fs ∙ told-append m (forms_of_block w body) _ _)) (omega arith)
      (after (λ x. otherwise_of w.context otherwise (block w.context body x.0)) (expr-gives m w e fs es k h) (λ es1 h1.
      after (λ s. otherwise_of w.context otherwise s) (block-gives m w body _ es1 _ h1) (λ es2 h2.
      moved (further-twice w (locals_in_block body) (returns_in_block body) (locals_in_else otherwise) (returns_in_else otherwise))
      (else-gives m (further w (locals_in_block body) (returns_in_block body)) otherwise _ es2 _ h2))))

  pub else-gives : (m : Counts) (w : Site) (i : ElseTree) (fs : List Refusal) (es : List Entry) (k : ℕ) → length es ≡ k
      → Gives (λ s. s) m (further w (locals_in_else i) (returns_in_else i)) (all_told m (forms_of_else w i) fs) (k + nodes_in_else i) (otherwise_of w.context i (st m w fs es))
  else-gives m w t.no_else fs es k h = moved (stays w) (record { entries = es; is = refl; longer = omega arith })
  else-gives m w (t.else_if i) fs es k h = branch-gives m w i fs es k h
  else-gives m w (t.else_block b) fs es k h = block-gives m w b fs es k h
