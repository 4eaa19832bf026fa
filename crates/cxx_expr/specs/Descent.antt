-- The descent over the words of an expression: what the code computes.
use Rattle.std.specs.Prelude.{ℕ, zero, suc, true, false, if◌then◌else◌, nat_eq, List, [], ◌∷◌, ◌++◌, length, Option, Some, None}
use Rattle.agxx_base.specs.declared.place.Place.{Place}
use Rattle.agxx_base.specs.declared.ids.NameId.{NameId}
use Rattle.agxx_base.specs.declared.vocabulary.Keyword.{Keyword}
use Rattle.agxx_base.specs.declared.vocabulary.Keyword.TheVariants as k
use Rattle.agxx_base.specs.declared.vocabulary.Sign.{Sign}
use Rattle.agxx_base.specs.declared.vocabulary.Sign.TheVariants as sg
use Rattle.cxx_tree.specs.declared.node.Node.{Node}
use Rattle.cxx_tree.specs.declared.node.Placed.{Placed}
use Rattle.cxx_tree.specs.declared.operator.BinOp.{BinOp}
use Rattle.cxx_tree.specs.declared.operator.UnOp.{UnOp}
use Rattle.cxx_tree.specs.declared.expr.Base.TheVariants as base_of
use Rattle.cxx_tree.specs.declared.expr.Callee.{Callee}
use Rattle.cxx_tree.specs.declared.program.TypeName.{TypeName}
use Rattle.cxx_tree.specs.declared.program.TypeName.TheVariants as type_of
use Rattle.cxx_tree.specs.Words as w
use Rattle.cxx_tree.specs.Words.{Word}
use Rattle.cxx_tree.specs.ExprTree as e
use Rattle.cxx_tree.specs.ExprTree.{ExprTree, listed_exprs}
use Rattle.cxx_tree.specs.Places.{expr_node}
use Rattle.cxx_tree.specs.Fits.{level_of, expr_level}
use Rattle.cxx_expr.specs.declared.stop.Stop.TheVariants.{Syntax, Deep}
use Rattle.cxx_expr.specs.Tokens.{Tokens, sees, after}
use Rattle.cxx_expr.specs.Operators.{binary_of, unary_of}
use Rattle.cxx_expr.specs.Outcome.{Outcome, done, failed, Parse, and_then, expect}
use Rattle.cxx_expr.specs.Lefts.{node_at, name, target, selected, left_by}
use Rattle.cxx_expr.specs.Within.{Within, on_words, advanced, operator_taken}

-- ---- operators

abbrev pub operator_by : ℕ → Place → Option BinOp → Option (Placed BinOp)
operator_by level at None = None
operator_by level at (Some o) = if nat_eq (level_of o) level then Some (record { at = at; item = o }) else None

abbrev pub operator_at : ℕ → Place → Word → Option (Placed BinOp)
operator_at level at (w.sign s) = operator_by level at (binary_of s)
operator_at level at _ = None

-- the operator of this level that comes next
abbrev pub operator : ℕ → Tokens → Option (Placed BinOp)
operator level [] = None
operator level (t ∷ ts) = operator_at level t.at t.item

abbrev pub prefix_by : Place → Option UnOp → Option (Placed UnOp)
prefix_by at None = None
prefix_by at (Some o) = Some (record { at = at; item = o })

abbrev pub prefix_at : Place → Word → Option (Placed UnOp)
prefix_at at (w.sign s) = prefix_by at (unary_of s)
prefix_at at _ = None

-- the operator before an operand that comes next
abbrev pub prefix_operator : Tokens → Option (Placed UnOp)
prefix_operator [] = None
prefix_operator (t ∷ ts) = prefix_at t.at t.item

-- ---- repeated parts

abbrev pub joined : Placed BinOp → ExprTree → ExprTree → ExprTree
joined o first second = e.binary (node_at (expr_node first).at) o first second

abbrev pub go_on : Parse Within ExprTree → (ExprTree → Parse Within ExprTree) → ExprTree → Option (Placed BinOp) → Parse Within ExprTree
go_on operand next sofar None s = done sofar s
go_on operand next sofar (Some o) s = and_then (operator_taken s) (λ u s. and_then (operand s) (λ second. next (joined o sofar second)))

-- Goes on with operators of one level, each of which takes the operand after it. The number bounds the turns.
unfoldable pub chain : Parse Within ExprTree → ℕ → ℕ → ExprTree → Parse Within ExprTree
chain operand level zero sofar s = done sofar s
chain operand level (suc n) sofar s = go_on operand (λ t. chain operand level n t) sofar (operator level s.words) s

abbrev pub front_of : {S A : Type 0} → List A → Outcome S (List A) → Outcome S (List A)
front_of xs o = and_then o (λ ys. done (xs ++ ys))

abbrev pub closed : {A : Type 0} → A → Parse Within A
closed x s = and_then (on_words (expect sg.CloseParen) s) (λ u. done x)

-- after an item: another one after a comma, or the parenthesis that ends them
abbrev pub items_more : Parse Within (List ExprTree) → Parse Within (List ExprTree)
items_more next s = if sees sg.Comma s.words then next (advanced s) else closed [] s

-- one or more, with commas between. The number bounds the turns.
unfoldable pub items_from : Parse Within ExprTree → ℕ → Parse Within (List ExprTree)
items_from item zero s = failed Syntax s
items_from item (suc n) s = and_then (item s) (λ x s. front_of (x ∷ []) (items_more (λ s. items_from item n s) s))

-- none or more
unfoldable pub items : Parse Within ExprTree → Parse Within (List ExprTree)
items item s = if sees sg.CloseParen s.words then done [] (advanced s) else items_from item (suc (length s.words)) s

-- ---- rules

-- the number type that a keyword is
abbrev pub number_type : Keyword → Option TypeName
number_type (k.Number kind) = Some (type_of.Num kind)
number_type k.Int = Some type_of.Int
number_type k.Unsigned = Some type_of.Unsigned
number_type _ = None

abbrev pub operated : Placed UnOp → Outcome Within ExprTree → Outcome Within ExprTree
operated o operand = and_then operand (λ t. done (e.unary (node_at o.at) o.item t))

-- behind an opening parenthesis, if one more may be open
abbrev pub opened_by : {A : Type 0} → Option (Parse Within ExprTree) → (Parse Within ExprTree → Parse Within A) → Parse Within A
opened_by None body s = failed Deep s
opened_by (Some p) body s = body p (advanced s)

-- The rules, over the parser of what stands in parentheses one depth further in, if they may nest any deeper.
module _ (inner : Option (Parse Within ExprTree)) where
  -- an expression in parentheses
  unfoldable pub enclosed : Parse Within ExprTree
  enclosed s = if sees sg.OpenParen s.words then opened_by inner (λ p s. and_then (p s) closed) s else failed Syntax s

  -- at an opening parenthesis
  unfoldable pub arguments : Parse Within (List ExprTree)
  arguments = opened_by inner items

  unfoldable pub called : Node → Callee → Parse Within ExprTree
  called n callee s =
      if sees sg.OpenParen s.words then and_then (arguments s) (λ xs. done (e.call (e.calls n callee (listed_exprs xs))))
      else done (e.left (left_by n callee)) s

  unfoldable pub named : Place → Parse Within ExprTree
  named at s = and_then (on_words (target at) s) (called (node_at at))

  unfoldable pub grouped : Place → Parse Within ExprTree
  grouped at s = and_then (enclosed s) (λ inside. done (e.paren (node_at at) inside))

  unfoldable pub converted : Place → TypeName → Parse Within ExprTree
  converted at type_name s = and_then (enclosed s) (λ inside. done (e.cast (node_at at) type_name inside))

  -- behind `this`
  unfoldable pub own : Place → Parse Within ExprTree
  own at s =
      if sees sg.Arrow s.words then and_then (on_words (selected base_of.This) (advanced s)) (called (node_at at))
      else done (e.this (node_at at)) s

  unfoldable pub created_with : Place → Placed NameId → Parse Within ExprTree
  created_with at class s =
      if sees sg.OpenParen s.words then and_then (arguments s) (λ xs. done (e.new_with (node_at at) class (listed_exprs xs)))
      else done (e.new (node_at at) class) s

  -- behind `new`
  unfoldable pub created : Place → Parse Within ExprTree
  created at s = and_then (on_words name s) (created_with at)

  abbrev pub converted_by : Place → Option TypeName → Parse Within ExprTree
  converted_by at None s = failed Syntax s
  converted_by at (Some type_name) s = converted at type_name (advanced s)

  abbrev pub keyword_by : Place → Keyword → Parse Within ExprTree
  keyword_by at k.True s = done (e.flag (node_at at) true) (advanced s)
  keyword_by at k.False s = done (e.flag (node_at at) false) (advanced s)
  keyword_by at k.Nullptr s = done (e.null (node_at at)) (advanced s)
  keyword_by at k.This s = own at (advanced s)
  keyword_by at k.New s = created at (advanced s)
  keyword_by at word s = converted_by at (number_type word) s

  abbrev pub sign_by : Place → Sign → Parse Within ExprTree
  sign_by at sg.ColonColon s = named at s
  sign_by at sg.OpenParen s = grouped at s
  sign_by at _ s = failed Syntax s

  abbrev pub primary_by : Place → Word → Parse Within ExprTree
  primary_by at (w.number bits kind) s = done (e.lit (node_at at) (record { bits = bits; kind = kind })) (advanced s)
  primary_by at (w.name n) s = named at s
  primary_by at (w.keyword word) s = keyword_by at word s
  primary_by at (w.sign found) s = sign_by at found s
  primary_by at _ s = failed Syntax s

  abbrev pub primary_of : Tokens → Parse Within ExprTree
  primary_of [] s = failed Syntax s
  primary_of (t ∷ ts) s = primary_by t.at t.item s

  unfoldable pub primary : Parse Within ExprTree
  primary s = primary_of s.words s

  -- the first number is how many more operators there may be
  unfoldable pub unary_from : ℕ → Tokens → Outcome Within ExprTree
  unary_from zero ts = elim (prefix_operator ts) [ None ↦ primary (record { words = ts; operators = zero }) | Some o ↦ failed Deep (record { words = ts; operators = zero }) ]
  unary_from (suc n) ts = elim (prefix_operator ts) [ None ↦ primary (record { words = ts; operators = suc n }) | Some o ↦ operated o (unary_from n (after ts)) ]

  unfoldable pub unary : Parse Within ExprTree
  unary s = unary_from s.operators s.words

  unfoldable pub level : ℕ → Parse Within ExprTree
  level zero s = unary s
  level (suc l) s = and_then (level l s) (λ first s. chain (λ s. level l s) (suc l) (length s.words) first s)

-- an expression in which parentheses nest no deeper than this
unfoldable pub expr : ℕ → Parse Within ExprTree
expr zero = level None expr_level
expr (suc depth) = level (Some (λ s. expr depth s)) expr_level

abbrev pub inner_at : ℕ → Option (Parse Within ExprTree)
inner_at zero = None
inner_at (suc depth) = Some (λ s. expr depth s)
