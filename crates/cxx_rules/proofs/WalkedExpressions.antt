-- Expressions: the walk finds what the rules say of their forms, gives them the types that they have, and notes each node.
use Rattle.std.proofs.Common.{◌≡◌, refl, sym, subst, ◌∙◌, ℕ, suc, ◌+◌, Bool, true, false, List, [], ◌∷◌, ◌++◌, length, Option, Some, None, arith, slice_set}
use Rattle.std.proofs.lemmas.List.{length-set}
use Rattle.std.specs.Option.{is_some}
use Rattle.agxx_base.specs.declared.fault.Refusal.{Refusal}
use Rattle.agxx_base.specs.declared.ids.ClassId.{ClassId}
use Rattle.agxx_base.specs.declared.rule.Rule.TheVariants as rule
use Rattle.cxx_tree.specs.declared.node.Node.{Node}
use Rattle.cxx_tree.specs.declared.operator.UnOp.{UnOp}
use Rattle.cxx_tree.specs.declared.operator.UnOp.TheVariants as un
use Rattle.cxx_tree.specs.declared.expr.Left.TheVariants as left_of
use Rattle.cxx_tree.specs.declared.expr.Ref.{Ref}
use Rattle.cxx_tree.specs.declared.program.Param.{Param}
use Rattle.cxx_tree.specs.declared.program.TypeName.TheVariants.{Void}
use Rattle.cxx_tree.specs.ExprTree as e
use Rattle.cxx_tree.specs.ExprTree.{ExprTree, ExprTrees, CallTree}
use Rattle.cxx_tree.specs.Nodes.{nodes_in_expr, nodes_in_exprs, nodes_in_call, nodes_in_callee}
use Rattle.cxx_tree.specs.Places.{expr_node}
use Rattle.cxx_names.specs.declared.types.ValueType.{ValueType}
use Rattle.cxx_types.specs.declared.entry.Entry.{Entry}
use Rattle.cxx_types.specs.declared.entry.Meaning.TheVariants.{Other}
use Rattle.cxx_types.specs.declared.limits.Counts.{Counts}
use Rattle.cxx_types.specs.State.{State}
use Rattle.cxx_types.specs.Conversion.{unary_type}
use Rattle.cxx_types.specs.Expressions.{Typed, expr, exprs, call, operated, joined, grouped, cast, kind_of, passed, called_type, both, count, addressed, address_by, with_name, object_in}
use Rattle.cxx_rules.specs.Sites.{Site, variable_meant, object_of}
use Rattle.cxx_rules.specs.Types.{type_of_expr, fit, type_of_call, address_type, callable, creatable, type_of_param, passes}
use Rattle.cxx_rules.specs.Unless.{unless}
use Rattle.cxx_rules.specs.Forms as form
use Rattle.cxx_rules.specs.Forms.{Form, forms_of, forms_of_callee, forms_of_arguments, forms_of_call, unless_object}
use Rattle.cxx_rules.proofs.Told.{told_by, told, all_told, told-append, st, Gives, after, same, one-more, required-told}
use Rattle.cxx_rules.proofs.WalkedSelections.{left-gives}
use Rattle.cxx_rules.proofs.WalkedCalls.{called-gives, created-gives}

-- the node of an expression whose parts come first
abbrev blank : Entry
blank = record { type_name = Void; meaning = Other }

as-long : {k : ℕ} (es : List Entry) (i : ℕ) (x : Entry) → length es ≡ k → length (slice_set es i x) ≡ k
as-long es i x h = length-set es i x ∙ h

both-assoc : (a b c : Bool) → both (both a b) c ≡ both a (both b c)
both-assoc true b c = refl
both-assoc false b c = refl

both-false : (a : Bool) → both a false ≡ false
both-false true = refl
both-false false = refl

both-true : (a : Bool) → both a true ≡ a
both-true true = refl
both-true false = refl

rightly : {m : Counts} {w : Site} {fs : List Refusal} {k : ℕ} {x : State × Bool} {a b : Bool}
    → a ≡ b → Gives (λ s. (s, a)) m w fs k x → Gives (λ s. (s, b)) m w fs k x
rightly {m} {w} {fs} {k} {x} e g = subst (λ c. Gives (λ s. (s, c)) m w fs k x) e g

-- ---- addresses

-- what an address is taken of, as the walk tells it and as the tree does, and how many nodes it has
data Agree : Option (Ref × Option ClassId) → Option (Option ClassId) → ℕ → Type 0 where
  nothing : (n : ℕ) → Agree None None n
  object : (r : Ref) (class : Option ClassId) → Agree (Some (r, class)) (Some class) 1

name-agrees : (r : Ref) (o : Option (Option ClassId)) → Agree (with_name r o) o 1
name-agrees r None = nothing 1
name-agrees r (Some class) = object r class

addressed-agrees : (m : Counts) (w : Site) (fs : List Refusal) (es : List Entry) (t : ExprTree) → Agree (addressed w.context t (st m w fs es)) (object_of w t) (nodes_in_expr t)
addressed-agrees m w fs es (e.left (left_of.Name r)) = name-agrees r (object_in (variable_meant w r))
addressed-agrees m w fs es t = nothing _

address-gives : (m : Counts) (w : Site) (fs : List Refusal) (es : List Entry) (k : ℕ) → length es ≡ k → (n : Node) (forms : List Form) (operand : State → Typed)
    (p : Option (Ref × Option ClassId)) (o : Option (Option ClassId)) (l : ℕ) (t : Option ValueType)
    → Agree p o l
    → ((gs : List Refusal) (es1 : List Entry) (k1 : ℕ) → length es1 ≡ k1 → Gives (λ s. (s, t)) m w (all_told m forms gs) (k1 + l) (operand (st m w gs es1)))
    → Gives (λ s. (s, address_type o)) m w (all_told m (unless_object o forms) (told_by rule.N7 (unless (is_some o) n.at) fs)) (k + suc l)
    (address_by w.context n p operand (st m w fs es))
address-gives m w fs es k h n forms operand p o l t (nothing q) walk =
    after (λ x. (x.0, None)) (walk _ (es ++ blank ∷ []) (suc k) (one-more es blank h)) (λ es1 h1. same refl (omega arith) (record { entries = es1; is = refl; longer = h1 }))
address-gives m w fs es k h n forms operand p o l t (object r class) walk =
    same refl (omega arith) (record { entries = _; is = refl; longer = one-more _ _ (one-more es _ h) })

-- ---- operators of one operand

operated-gives : (m : Counts) (w : Site) (fs : List Refusal) (es : List Entry) (k : ℕ) → length es ≡ k → (i : ℕ) (n : Node) (o : UnOp) (x : ExprTree)
    → Gives (λ s. (s, unary_type o (type_of_expr w x))) m w (told m (form.operand w n o x) fs) k (operated i n o (st m w fs es, type_of_expr w x))
operated-gives m w fs es k h i n o x = simp required-told (record { entries = _; is = refl; longer = as-long es _ _ h })

-- ---- all expressions

mutual
  pub expr-gives : (m : Counts) (w : Site) (t : ExprTree) (fs : List Refusal) (es : List Entry) (k : ℕ) → length es ≡ k
      → Gives (λ s. (s, type_of_expr w t)) m w (all_told m (forms_of w t) fs) (k + nodes_in_expr t) (expr w.context t (st m w fs es))
  expr-gives m w (e.lit n number) fs es k h = same refl (omega arith) (record { entries = _; is = refl; longer = one-more es _ h })
  expr-gives m w (e.flag n is_set) fs es k h = same refl (omega arith) (record { entries = _; is = refl; longer = one-more es _ h })
  expr-gives m w (e.null n) fs es k h = same refl (omega arith) (record { entries = _; is = refl; longer = one-more es _ h })
  expr-gives m w (e.this n) fs es k h = same {k = suc k} refl (omega arith) (simp required-told (record { entries = _; is = refl; longer = one-more es _ h }))
  expr-gives m w (e.left l) fs es k h = left-gives m w fs es k h l
  expr-gives m w (e.unary n un.AddressOf x) fs es k h =
      address-gives m w fs es k h n (forms_of w x) (λ s. expr w.context x s) _ _ _ (type_of_expr w x) (addressed-agrees m w fs es x) (λ gs es1 k1 h1. expr-gives m w x gs es1 k1 h1)
  expr-gives m w (e.unary n o x) fs es k h =
      same {k = suc k + nodes_in_expr x} (sym (told-append m (forms_of w x) _ fs)) (omega arith)
      (after (λ y. operated (length es) n o y) (expr-gives m w x fs (es ++ blank ∷ []) (suc k) (one-more es blank h)) (λ es1 h1.
      operated-gives m w _ es1 _ h1 (length es) n o x))
  expr-gives m w (e.binary n o a b) fs es k h =
      same {k = (suc k + nodes_in_expr a) + nodes_in_expr b} (sym (told-append m (forms_of w a) _ fs ∙ told-append m (forms_of w b) _ _)) (omega arith)
      (after (λ x. joined (length es) o x.1 (expr w.context b x.0)) (expr-gives m w a fs (es ++ blank ∷ []) (suc k) (one-more es blank h)) (λ es1 h1.
      after (λ y. joined (length es) o (type_of_expr w a) y) (expr-gives m w b _ es1 _ h1) (λ es2 h2.
      simp required-told (record { entries = _; is = refl; longer = as-long es2 _ _ h2 }))))
  expr-gives m w (e.paren n x) fs es k h =
      same {k = suc k + nodes_in_expr x} refl (omega arith)
      (after (λ y. grouped (length es) y) (expr-gives m w x fs (es ++ blank ∷ []) (suc k) (one-more es blank h)) (λ es1 h1.
      record { entries = _; is = refl; longer = as-long es1 _ _ h1 }))
  expr-gives m w (e.cast n t x) fs es k h =
      same {k = suc k + nodes_in_expr x} (sym (told-append m (forms_of w x) _ fs)) (omega arith)
      (after (λ y. cast (length es) (kind_of t) (expr_node x).at y) (expr-gives m w x fs (es ++ blank ∷ []) (suc k) (one-more es blank h)) (λ es1 h1.
      simp required-told (record { entries = _; is = refl; longer = as-long es1 _ _ h1 })))
  expr-gives m w (e.call c) fs es k h = call-gives m w true c fs es k h
  expr-gives m w (e.new n class) fs es k h =
      after (λ f. (f.0, called_type f.1 true)) (created-gives m w fs es k h class 0) (λ es1 h1.
      same refl (omega arith) (record { entries = es1; is = refl; longer = h1 }))
  expr-gives m w (e.new_with n class arguments) fs es k h =
      after (λ f. let x = exprs w.context f.1.params true arguments f.0 in (x.0, called_type f.1 x.1)) (created-gives m w fs es k h class (count arguments)) (λ es1 h1.
      after (λ x. (x.0, called_type (creatable w class (count arguments)) x.1)) (exprs-gives m w (creatable w class (count arguments)).params true arguments _ es1 (suc k) h1) (λ es2 h2.
      same refl (omega arith) (record { entries = es2; is = refl; longer = h2 })))

  pub exprs-gives : (m : Counts) (w : Site) (ps : List Param) (before : Bool) (ts : ExprTrees) (fs : List Refusal) (es : List Entry) (k : ℕ) → length es ≡ k
      → Gives (λ s. (s, both before (fit w ps ts))) m w (all_told m (forms_of_arguments w ps ts) fs) (k + nodes_in_exprs ts) (exprs w.context ps before ts (st m w fs es))
  exprs-gives m w ps before e.no_exprs fs es k h =
      same refl (omega arith) (rightly (sym (both-true before)) (record { entries = es; is = refl; longer = h }))
  exprs-gives m w [] before (e.more_exprs first rest) fs es k h =
      same {k = (k + nodes_in_expr first) + nodes_in_exprs rest} (sym (told-append m (forms_of w first) _ fs)) (omega arith)
      (after (λ x. exprs w.context [] false rest x.0) (expr-gives m w first fs es k h) (λ es1 h1.
      rightly (sym (both-false before)) (exprs-gives m w [] false rest _ es1 _ h1)))
  exprs-gives m w (p ∷ ps) before (e.more_exprs first rest) fs es k h =
      same {k = (k + nodes_in_expr first) + nodes_in_exprs rest} (sym (told-append m (forms_of w first) _ fs)) (omega arith)
      (after (λ x. let y = passed (expr_node first).at p x in exprs w.context ps (both before y.1) rest y.0) (expr-gives m w first fs es k h) (λ es1 h1.
      simp required-told
      (rightly (both-assoc before _ _)
      (exprs-gives m w ps (both before (passes w.declared (type_of_expr w first) (type_of_param w.declared p))) rest _ es1 _ h1))))

  pub call-gives : (m : Counts) (w : Site) (as_value : Bool) (c : CallTree) (fs : List Refusal) (es : List Entry) (k : ℕ) → length es ≡ k
      → Gives (λ s. (s, type_of_call w c)) m w (all_told m (forms_of_call w as_value c) fs) (k + nodes_in_call c) (call w.context as_value c (st m w fs es))
  call-gives m w as_value (e.calls n callee arguments) fs es k h =
      same {k = (k + suc (nodes_in_callee callee)) + nodes_in_exprs arguments} (sym (told-append m (forms_of_callee w n callee (count arguments) as_value) _ fs)) (omega arith)
      (after (λ f. let x = exprs w.context f.1.params true arguments f.0 in (x.0, called_type f.1 x.1)) (called-gives m w fs es k h n callee (count arguments) as_value) (λ es1 h1.
      after (λ x. (x.0, called_type (callable w callee (count arguments)) x.1)) (exprs-gives m w (callable w callee (count arguments)).params true arguments _ es1 _ h1) (λ es2 h2.
      record { entries = es2; is = refl; longer = h2 })))
