-- Initialisers of constructors: the walk finds what the rules say of their forms.
use Rattle.std.proofs.Common.{◌≡◌, refl, ap, sym, subst, ◌∙◌, ℕ, ◌+◌, Bool, true, false, not, nat_eq, List, [], ◌∷◌, ◌++◌, length, Option, Some, None, arith}
use Rattle.std.proofs.lemmas.List.Sums.{sum_by-cons}
use Rattle.std.specs.List.{sum_by}
use Rattle.std.specs.Option.{is_some}
use Rattle.agxx_base.specs.declared.fault.Refusal.{Refusal}
use Rattle.agxx_base.specs.declared.ids.NameId.{NameId}
use Rattle.agxx_base.specs.declared.rule.Rule.TheVariants as rule
use Rattle.cxx_tree.specs.declared.node.Placed.{Placed}
use Rattle.cxx_tree.specs.declared.expr.Left.TheVariants as left_of
use Rattle.cxx_tree.specs.declared.program.TypeName.{TypeName}
use Rattle.cxx_tree.specs.ExprTree as e
use Rattle.cxx_tree.specs.ExprTree.{ExprTree, ExprTrees}
use Rattle.cxx_tree.specs.ProgramTree.{InitTree}
use Rattle.cxx_tree.specs.Nodes.{nodes_in_expr, nodes_in_exprs, nodes_in_init}
use Rattle.cxx_tree.specs.Places.{expr_node}
use Rattle.cxx_names.specs.declared.declarations.ClassInfo.{ClassInfo}
use Rattle.cxx_names.specs.declared.declarations.MemberInfo.{MemberInfo}
use Rattle.cxx_names.specs.LookUp.{thing_of}
use Rattle.cxx_names.specs.Tables.{named, with_name}
use Rattle.cxx_types.specs.declared.entry.Entry.{Entry}
use Rattle.cxx_types.specs.declared.limits.Counts.{Counts}
use Rattle.cxx_types.specs.Checking.{required}
use Rattle.cxx_types.specs.Conversion.{may_convert}
use Rattle.cxx_types.specs.Selections.{value_of, is_value}
use Rattle.cxx_types.specs.Calls.{counts}
use Rattle.cxx_types.specs.Expressions.{count, expr, exprs}
use Rattle.cxx_types.specs.Classes.{uses_object, any_uses_object, either, base_arguments, base_params, base_ctor_in, base_init, names_base, initialises_base, base_alone, member_arguments, member_init, init_by, init, inits}
use Rattle.cxx_rules.specs.NotAllowedHere.{uses_members, any_uses_members}
use Rattle.cxx_rules.specs.Sites.{Site}
use Rattle.cxx_rules.specs.TypesDisagree.{mutex_initialised}
use Rattle.cxx_rules.specs.WrongNumberOfArguments.{member_wrong_number}
use Rattle.cxx_rules.specs.Unless.{unless}
use Rattle.cxx_rules.specs.Forms as form
use Rattle.cxx_rules.specs.Forms.{Form, forms_of, forms_of_arguments}
use Rattle.cxx_rules.specs.ProgramForms.{forms_of_base_arguments, forms_of_base_init, forms_of_values, forms_of_init, forms_of_inits, forms_without}
use Rattle.cxx_rules.proofs.Told.{told_by, told, all_told, told-append, st, Gives, after, same, required-told}
use Rattle.cxx_rules.proofs.WalkedExpressions.{expr-gives, exprs-gives}

-- ---- arguments of a base

mutual
  uses-same : (m : Counts) (w : Site) (fs : List Refusal) (es : List Entry) (x : ExprTree) → uses_object w.context x (st m w fs es) ≡ uses_members w x
  uses-same m w fs es (e.left (left_of.Name r)) = refl
  uses-same m w fs es (e.left (left_of.Member n q)) = refl
  uses-same m w fs es (e.left (left_of.Result n)) = refl
  uses-same m w fs es (e.unary n o x) = uses-same m w fs es x
  uses-same m w fs es (e.binary n o a b) = λ i. either (uses-same m w fs es a i) (uses-same m w fs es b i)
  uses-same m w fs es (e.paren n x) = uses-same m w fs es x
  uses-same m w fs es (e.cast n t x) = uses-same m w fs es x
  uses-same m w fs es (e.new_with n class arguments) = any-uses-same m w fs es arguments
  uses-same m w fs es _ = refl

  any-uses-same : (m : Counts) (w : Site) (fs : List Refusal) (es : List Entry) (xs : ExprTrees) → any_uses_object w.context xs (st m w fs es) ≡ any_uses_members w xs
  any-uses-same m w fs es e.no_exprs = refl
  any-uses-same m w fs es (e.more_exprs first rest) = λ i. either (uses-same m w fs es first i) (any-uses-same m w fs es rest i)

argument-gives : (m : Counts) (w : Site) (fs : List Refusal) (es : List Entry) (k : ℕ) → length es ≡ k → (x : ExprTree) (uses : Bool) → uses ≡ uses_members w x
    → Gives (λ s. s) m w (told m (form.base_argument w x) fs) k (required rule.N8 (expr_node x).at (not uses) (st m w fs es))
argument-gives m w fs es k h x uses e =
    subst (λ b. Gives (λ s. s) m w (told_by rule.N8 (unless (not b) (expr_node x).at) fs) k (required rule.N8 (expr_node x).at (not uses) (st m w fs es))) e
    (simp required-told (record { entries = es; is = refl; longer = h }))

base_arguments-gives : (m : Counts) (w : Site) (xs : ExprTrees) (fs : List Refusal) (es : List Entry) (k : ℕ) → length es ≡ k
    → Gives (λ s. s) m w (all_told m (forms_of_base_arguments w xs) fs) k (base_arguments w.context xs (st m w fs es))
base_arguments-gives m w e.no_exprs fs es k h = record { entries = es; is = refl; longer = h }
base_arguments-gives m w (e.more_exprs first rest) fs es k h =
    after (λ s. base_arguments w.context rest s) (argument-gives m w fs es k h first _ (uses-same m w fs es first)) (λ es1 h1. base_arguments-gives m w rest _ es1 k h1)

counted-gives : (m : Counts) (w : Site) (fs : List Refusal) (es : List Entry) (k : ℕ) → length es ≡ k → (class : ClassInfo) (name : Placed NameId) (arguments : ℕ)
    → Gives (λ s. s) m w (told m (form.base_initialiser w class name arguments) fs) k (required rule.N4 name.at (counts arguments (base_params (base_ctor_in w.declared class))) (st m w fs es))
counted-gives m w fs es k h class name arguments = simp required-told (record { entries = es; is = refl; longer = h })

base_init-gives : (m : Counts) (w : Site) (fs : List Refusal) (es : List Entry) (k : ℕ) → length es ≡ k → (class : ClassInfo) (i : InitTree)
    → Gives (λ s. s) m w (all_told m (forms_of_base_init w class i) fs) (k + nodes_in_init i) (base_init w.context class i (st m w fs es))
base_init-gives m w fs es k h class i =
    same {k = k + nodes_in_init i} (sym (told-append m (forms_of_base_arguments w i.arguments) _ _)) refl
    (after (λ s. (exprs w.context (base_params (base_ctor_in w.declared class)) true i.arguments (base_arguments w.context i.arguments s)).0) (counted-gives m w fs es k h class i.name (count i.arguments)) (λ es1 h1.
    after (λ s. (exprs w.context (base_params (base_ctor_in w.declared class)) true i.arguments s).0) (base_arguments-gives m w i.arguments _ es1 k h1) (λ es2 h2.
    after (λ x. x.0) (exprs-gives m w (base_params (base_ctor_in w.declared class)) true i.arguments _ es2 k h2) (λ es3 h3. record { entries = es3; is = refl; longer = h3 }))))

-- ---- members

value-gives : (m : Counts) (w : Site) (fs : List Refusal) (es : List Entry) (k : ℕ) → length es ≡ k → (name : Placed NameId) (t : TypeName) (x : ExprTree)
    → Gives (λ s. s) m w (all_told m (forms_of w x ++ form.member_value w name t x ∷ []) fs) (k + nodes_in_expr x)
    (let y = expr w.context x (st m w fs es) in required rule.N3 name.at (may_convert y.0.declared y.1 (value_of (thing_of y.0.declared t))) y.0)
value-gives m w fs es k h name t x =
    same {k = k + nodes_in_expr x} (sym (told-append m (forms_of w x) _ fs)) refl
    (after (λ y. required rule.N3 name.at (may_convert y.0.declared y.1 (value_of (thing_of y.0.declared t))) y.0) (expr-gives m w x fs es k h) (λ es1 h1.
    simp required-told (record { entries = es1; is = refl; longer = h1 })))

values-gives : (m : Counts) (w : Site) (fs : List Refusal) (es : List Entry) (k : ℕ) → length es ≡ k → (name : Placed NameId) (x : MemberInfo) (xs : ExprTrees)
    → Gives (λ s. s) m w (all_told m (forms_of_values w name (Some x) xs) fs) (k + nodes_in_exprs xs) (member_arguments w.context name x.type_name xs (st m w fs es))
values-gives m w fs es k h name x e.no_exprs = record { entries = es; is = refl; longer = omega arith }
values-gives m w fs es k h name x (e.more_exprs first rest) =
    same {k = (k + nodes_in_expr first) + nodes_in_exprs rest}
    (ap (λ gs. all_told m (forms_of_arguments w [] rest) gs) (told-append m (forms_of w first) _ fs) ∙ sym (told-append m (forms_of w first) _ fs)) (omega arith)
    (after (λ s. (exprs w.context [] true rest s).0) (value-gives m w fs es k h name x.type_name first) (λ es1 h1.
    after (λ y. y.0) (exprs-gives m w [] true rest _ es1 _ h1) (λ es2 h2. record { entries = es2; is = refl; longer = h2 })))

member-gives : (m : Counts) (w : Site) (fs : List Refusal) (es : List Entry) (k : ℕ) → length es ≡ k → (i : InitTree) (x : Option MemberInfo)
    → Gives (λ s. s) m w
    (all_told m (forms_of_values w i.name x i.arguments)
    (told_by rule.N3 (mutex_initialised w i.name.at x) (told_by rule.N4 (member_wrong_number i.name.at (count i.arguments) x) (told_by rule.N1 (unless (is_some x) i.name.at) fs))))
    (k + nodes_in_init i) (member_init w.context i x (st m w fs es))
member-gives m w fs es k h i None =
    after (λ y. y.0) (exprs-gives m w [] true i.arguments _ es k h) (λ es1 h1. record { entries = es1; is = refl; longer = h1 })
member-gives m w fs es k h i (Some x) =
    after (λ s. member_arguments w.context i.name x.type_name i.arguments s) (takes-gives) (λ es1 h1. values-gives m w _ es1 k h1 i.name x i.arguments)
  where
    takes-gives : Gives (λ s. s) m w
        (told_by rule.N3 (unless (is_value (thing_of w.declared x.type_name)) i.name.at) (told_by rule.N4 (unless (nat_eq (count i.arguments) 1) i.name.at) fs)) k
        (required rule.N3 i.name.at (is_value (thing_of w.declared x.type_name)) (required rule.N4 i.name.at (nat_eq (count i.arguments) 1) (st m w fs es)))
    takes-gives = simp required-told (record { entries = es; is = refl; longer = h })

-- ---- all initialisers

init_by-gives : (m : Counts) (w : Site) (fs : List Refusal) (es : List Entry) (k : ℕ) → length es ≡ k → (class : ClassInfo) (i : InitTree) (is_base : Bool)
    → Gives (λ s. s) m w (all_told m (forms_of_init w class i is_base) fs) (k + nodes_in_init i) (init_by w.context class i is_base (st m w fs es))
init_by-gives m w fs es k h class i true = base_init-gives m w fs es k h class i
init_by-gives m w fs es k h class i false = member-gives m w fs es k h i (named class.members i.name.item.0)

init-gives : (m : Counts) (w : Site) (fs : List Refusal) (es : List Entry) (k : ℕ) → length es ≡ k → (base : Option (Placed NameId)) (class : ClassInfo) (before : List (ℕ × ℕ)) (i : InitTree)
    → Gives (λ s. s) m w (all_told m (form.initialiser before i.name ∷ forms_of_init w class i (names_base base class i.name)) fs) (k + nodes_in_init i)
    (init w.context base class before i (st m w fs es))
init-gives m w fs es k h base class before i =
    after (λ s. init_by w.context class i (names_base base class i.name) s) own-gives (λ es1 h1. init_by-gives m w _ es1 k h1 class i (names_base base class i.name))
  where
    own-gives : Gives (λ s. s) m w (told m (form.initialiser before i.name) fs) k (required rule.N2 i.name.at (not (is_some (named before i.name.item.0))) (st m w fs es))
    own-gives = simp required-told (record { entries = es; is = refl; longer = h })

pub inits-gives : (m : Counts) (w : Site) (is : List InitTree) (base : Option (Placed NameId)) (class : ClassInfo) (before : List (ℕ × ℕ)) (fs : List Refusal) (es : List Entry) (k : ℕ) → length es ≡ k
    → Gives (λ s. s) m w (all_told m (forms_of_inits w base class before is) fs) (k + sum_by nodes_in_init is) (inits w.context base class before is (st m w fs es))
inits-gives m w [] base class before fs es k h = record { entries = es; is = refl; longer = omega arith }
inits-gives m w (i ∷ is) base class before fs es k h =
    let e : sum_by nodes_in_init (i ∷ is) ≡ nodes_in_init i + sum_by nodes_in_init is = sum_by-cons nodes_in_init i is in
    same {k = (k + nodes_in_init i) + sum_by nodes_in_init is} (sym (told-append m (forms_of_init w class i (names_base base class i.name)) _ _)) (omega arith)
    (after (λ s. inits w.context base class (with_name before i.name.item.0 0) is s) (init-gives m w fs es k h base class before i) (λ es1 h1.
    inits-gives m w is base class (with_name before i.name.item.0 0) _ es1 _ h1))

without-by : (m : Counts) (w : Site) (fs : List Refusal) (es : List Entry) (k : ℕ) → length es ≡ k → (name : Placed NameId) (class : ClassInfo) (b : Bool)
    → Gives (λ s. s) m w (all_told m (forms_without w class name b) fs) k (required rule.N4 name.at (either b (counts 0 (base_params (base_ctor_in w.declared class)))) (st m w fs es))
without-by m w fs es k h name class true = record { entries = es; is = refl; longer = h }
without-by m w fs es k h name class false = simp required-told (record { entries = es; is = refl; longer = h })

pub without-gives : (m : Counts) (w : Site) (fs : List Refusal) (es : List Entry) (k : ℕ) → length es ≡ k → (name : Placed NameId) (base : Option (Placed NameId)) (class : ClassInfo) (is : List InitTree)
    → Gives (λ s. s) m w (all_told m (forms_without w class name (initialises_base base class is)) fs) k (base_alone name base class is (st m w fs es))
without-gives m w fs es k h name base class is = without-by m w fs es k h name class (initialises_base base class is)
