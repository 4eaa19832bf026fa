-- Whatever a walk goes through, what it has noted before keeps its meaning.
use Rattle.std.proofs.Common.{ℕ, Bool, true, false, List, [], ◌∷◌, length, Option, Some, None}
use Rattle.agxx_base.specs.declared.ids.ClassId.{ClassId}
use Rattle.agxx_base.specs.declared.ids.NameId.{NameId}
use Rattle.agxx_base.specs.declared.place.Place.{Place}
use Rattle.cxx_tree.specs.declared.node.Node.{Node}
use Rattle.cxx_tree.specs.declared.node.Placed.{Placed}
use Rattle.cxx_tree.specs.declared.operator.UnOp.TheVariants as un
use Rattle.cxx_tree.specs.declared.expr.Base.{Base}
use Rattle.cxx_tree.specs.declared.expr.Base.TheVariants as base_of
use Rattle.cxx_tree.specs.declared.expr.Callee.{Callee}
use Rattle.cxx_tree.specs.declared.expr.Callee.TheVariants as callee_of
use Rattle.cxx_tree.specs.declared.expr.Left.{Left}
use Rattle.cxx_tree.specs.declared.expr.Left.TheVariants as left_of
use Rattle.cxx_tree.specs.declared.expr.Ref.{Ref}
use Rattle.cxx_tree.specs.declared.expr.Selector.{Selector}
use Rattle.cxx_tree.specs.declared.program.Param.{Param}
use Rattle.cxx_tree.specs.ExprTree as e
use Rattle.cxx_tree.specs.ExprTree.{ExprTree, ExprTrees, CallTree}
use Rattle.cxx_tree.specs.Places.{expr_node}
use Rattle.cxx_names.specs.declared.declarations.MemberInfo.{MemberInfo}
use Rattle.cxx_names.specs.declared.declarations.Signature.{Signature}
use Rattle.cxx_types.specs.declared.context.Context.{Context}
use Rattle.cxx_types.specs.declared.context.Holder.{Holder}
use Rattle.cxx_types.specs.declared.context.Holder.TheVariants as holder_is
use Rattle.cxx_types.specs.declared.entry.Entry.{Entry}
use Rattle.cxx_types.specs.State.{State}
use Rattle.cxx_types.specs.Checking.{opened}
use Rattle.cxx_types.specs.Selections as of
use Rattle.cxx_types.specs.Selections.{read, holder, base_node, member, member_by, selected}
use Rattle.cxx_types.specs.Calls.{bare_by, method_by, called_behind, called, constructed, created_by, created}
use Rattle.cxx_types.specs.Calls as call_of
use Rattle.cxx_types.specs.Expressions.{Typed, expr, exprs, call, left, address_by, addressed, count, passed, both}
use Rattle.guard_rules.proofs.KeptMeanings.{Kept, more_kept, kept_set, required_entries}

module _ (es : List Entry) where
  -- what was noted before keeps its meaning
  abbrev pub Keeps : State → Type 0
  Keeps s = Kept es s.entries

  read-keeps : (c : Context) (r : Ref) (s : State) → Keeps s → Keeps (read c r s).0
  unfolding read
  read-keeps c r s k = simp required_entries (more_kept s.entries _ k)

  pub holder_keeps : (c : Context) (at : Place) (b : Base) (s : State) → Keeps s → Keeps (holder c at b s).0
  unfolding holder
  holder_keeps c at base_of.This s k = simp required_entries k
  holder_keeps c at (base_of.Dot r) s k = simp required_entries k
  holder_keeps c at (base_of.Arrow r) s k = simp required_entries k

  pub base_keeps : (c : Context) (b : Base) (s : State) → Keeps s → Keeps (base_node c b s)
  unfolding base_node
  base_keeps c base_of.This s k = k
  base_keeps c (base_of.Dot r) s k = more_kept s.entries _ k
  base_keeps c (base_of.Arrow r) s k = more_kept s.entries _ k

  member-by-keeps : (c : Context) (at : Place) (name : Placed NameId) (class : ClassId) (x : Option (ClassId × MemberInfo)) (s : State) → Keeps s → Keeps (member_by c at name class x s).0
  member-by-keeps c at name class None s k = more_kept s.entries _ k
  member-by-keeps c at name class (Some x) s k = simp required_entries (more_kept s.entries _ k)

  pub member_keeps : (c : Context) (at : Place) (name : Placed NameId) (b : Holder) (s : State) → Keeps s → Keeps (member c at name b s).0
  unfolding member
  member_keeps c at name (holder_is.Class class) s k = member-by-keeps c at name class (of.member_found s class name) s k
  member_keeps c at name holder_is.Thread s k = simp required_entries (more_kept s.entries _ k)
  member_keeps c at name holder_is.Mutex s k = simp required_entries (more_kept s.entries _ k)
  member_keeps c at name holder_is.Unknown s k = more_kept s.entries _ k

  selected-keeps : (c : Context) (n : Node) (q : Selector) (s : State) → Keeps s → Keeps (selected c n q s).0
  unfolding selected
  selected-keeps c n q s k =
      let h = holder c n.at q.base s in
      let m = member c n.at q.name h.1 h.0 in
      base_keeps c q.base m.0 (member_keeps c n.at q.name h.1 h.0 (holder_keeps c n.at q.base s k))

  pub left_keeps : (c : Context) (l : Left) (s : State) → Keeps s → Keeps (left c l s).0
  unfolding left
  left_keeps c (left_of.Name r) s k = read-keeps c r s k
  left_keeps c (left_of.Member n q) s k = selected-keeps c n q s k
  left_keeps c (left_of.Result n) s k = more_kept s.entries _ k

  -- ---- calls

  bare-keeps : (c : Context) (n : Node) (r : Ref) (count : ℕ) (as_value : Bool) (x : Option (Option ClassId × Signature)) (s : State) → Keeps s → Keeps (bare_by c n r count as_value x s).0
  bare-keeps c n r count as_value None s k = more_kept _ _ (more_kept s.entries _ k)
  bare-keeps c n r count as_value (Some x) s k = simp required_entries (more_kept _ _ (more_kept s.entries _ k))

  method-keeps : (c : Context) (n : Node) (name : Placed NameId) (class : ClassId) (count : ℕ) (as_value : Bool) (x : Option (ClassId × Signature)) (s : State) → Keeps s → Keeps (method_by c n name class count as_value x s).0
  method-keeps c n name class count as_value None s k = more_kept s.entries _ k
  method-keeps c n name class count as_value (Some x) s k = simp required_entries (more_kept s.entries _ k)

  behind-keeps : (c : Context) (n : Node) (name : Placed NameId) (count : ℕ) (as_value : Bool) (b : Holder) (s : State) → Keeps s → Keeps (called_behind c n name count as_value b s).0
  behind-keeps c n name count as_value (holder_is.Class class) s k = method-keeps c n name class count as_value (call_of.method_meant class name s) s k
  behind-keeps c n name count as_value holder_is.Thread s k = simp required_entries (more_kept s.entries _ k)
  behind-keeps c n name count as_value holder_is.Mutex s k = simp required_entries (more_kept s.entries _ k)
  behind-keeps c n name count as_value holder_is.Unknown s k = more_kept s.entries _ k

  called-keeps : (c : Context) (n : Node) (callee : Callee) (count : ℕ) (as_value : Bool) (s : State) → Keeps s → Keeps (called c n callee count as_value s).0
  unfolding called
  called-keeps c n (callee_of.Bare r) count as_value s k = bare-keeps c n r count as_value (call_of.function_meant c r s) s k
  called-keeps c n (callee_of.Member q) count as_value s k =
      let h = holder c n.at q.base s in
      let f = called_behind c n q.name count as_value h.1 h.0 in
      base_keeps c q.base f.0 (behind-keeps c n q.name count as_value h.1 h.0 (holder_keeps c n.at q.base s k))

  pub constructed_keeps : (viewer : Option ClassId) (class : ClassId) (at : Place) (count : ℕ) (x : Option Signature) (s : State) → Keeps s → Keeps (constructed viewer class at count x s).0
  constructed_keeps viewer class at count None s k = k
  constructed_keeps viewer class at count (Some x) s k = simp required_entries k

  created-by-keeps : (c : Context) (name : Placed NameId) (count : ℕ) (x : Option ClassId) (s : State) → Keeps s → Keeps (created_by c name count x s).0
  created-by-keeps c name count None s k = more_kept s.entries _ k
  created-by-keeps c name count (Some class) s k = more_kept _ _ (constructed_keeps c.class class name.at count (call_of.ctor_in class s) s k)

  created-keeps : (c : Context) (name : Placed NameId) (count : ℕ) (s : State) → Keeps s → Keeps (created c name count s).0
  unfolding created
  created-keeps c name count s k = created-by-keeps c name count _ s k

  -- ---- expressions

  opened-keeps : (s : State) → Keeps s → Keeps (opened s)
  opened-keeps s k = more_kept s.entries _ k

  address-keeps : (c : Context) (n : Node) (p : Option (Ref × Option ClassId)) (operand : State → Typed) (s : State)
      → ((t : State) → Keeps t → Keeps (operand t).0) → Keeps s → Keeps (address_by c n p operand s).0
  address-keeps c n None operand s later k = later _ (more_kept s.entries _ k)
  address-keeps c n (Some p) operand s later k = more_kept _ _ (more_kept s.entries _ k)

  mutual
    pub expr_keeps : (c : Context) (t : ExprTree) (s : State) → Keeps s → Keeps (expr c t s).0
    expr_keeps c (e.lit n number) s k = more_kept s.entries _ k
    expr_keeps c (e.flag n is_set) s k = more_kept s.entries _ k
    expr_keeps c (e.null n) s k = more_kept s.entries _ k
    expr_keeps c (e.this n) s k = simp required_entries (more_kept s.entries _ k)
    expr_keeps c (e.left l) s k = left_keeps c l s k
    expr_keeps c (e.unary n un.AddressOf x) s k = address-keeps c n (addressed c x s) (λ t. expr c x t) s (λ t l. expr_keeps c x t l) k
    expr_keeps c (e.unary n o x) s k =
        simp required_entries (kept_set es (expr c x (opened s)).0.entries (length s.entries) _ k.longer (expr_keeps c x (opened s) (opened-keeps s k)))
    expr_keeps c (e.binary n o a b) s k =
        let x = expr c a (opened s) in
        simp required_entries (kept_set es (expr c b x.0).0.entries (length s.entries) _ k.longer (expr_keeps c b x.0 (expr_keeps c a (opened s) (opened-keeps s k))))
    expr_keeps c (e.paren n x) s k =
        kept_set es (expr c x (opened s)).0.entries (length s.entries) _ k.longer (expr_keeps c x (opened s) (opened-keeps s k))
    expr_keeps c (e.cast n t x) s k =
        simp required_entries (kept_set es (expr c x (opened s)).0.entries (length s.entries) _ k.longer (expr_keeps c x (opened s) (opened-keeps s k)))
    expr_keeps c (e.call x) s k = call_keeps c true x s k
    expr_keeps c (e.new n class) s k = created-keeps c class 0 s k
    expr_keeps c (e.new_with n class arguments) s k =
        let f = created c class (count arguments) s in
        exprs_keeps c f.1.params true arguments f.0 (created-keeps c class (count arguments) s k)

    pub exprs_keeps : (c : Context) (ps : List Param) (fit : Bool) (ts : ExprTrees) (s : State) → Keeps s → Keeps (exprs c ps fit ts s).0
    exprs_keeps c ps fit e.no_exprs s k = k
    exprs_keeps c [] fit (e.more_exprs first rest) s k = exprs_keeps c [] false rest (expr c first s).0 (expr_keeps c first s k)
    exprs_keeps c (p ∷ ps) fit (e.more_exprs first rest) s k =
        let x = passed (expr_node first).at p (expr c first s) in
        exprs_keeps c ps (both fit x.1) rest x.0 (simp required_entries (expr_keeps c first s k))

    pub call_keeps : (c : Context) (as_value : Bool) (x : CallTree) (s : State) → Keeps s → Keeps (call c as_value x s).0
    call_keeps c as_value (e.calls n callee arguments) s k =
        let f = called c n callee (count arguments) as_value s in
        exprs_keeps c f.1.params true arguments f.0 (called-keeps c n callee (count arguments) as_value s k)
