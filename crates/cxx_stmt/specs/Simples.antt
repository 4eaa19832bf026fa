-- Locals, and the statements that may stand in the head of a `for`.
use Rattle.std.specs.Prelude.{ℕ, Bool, true, false, if◌then◌else◌, Option, Some, None}
use Rattle.agxx_base.specs.declared.place.Place.{Place}
use Rattle.agxx_base.specs.declared.ids.NameId.{NameId}
use Rattle.agxx_base.specs.declared.vocabulary.Keyword.TheVariants as k
use Rattle.agxx_base.specs.declared.vocabulary.Sign.{Sign}
use Rattle.agxx_base.specs.declared.vocabulary.Sign.TheVariants as sg
use Rattle.cxx_tree.specs.declared.node.Placed.{Placed}
use Rattle.cxx_tree.specs.declared.operator.BinOp.{BinOp}
use Rattle.cxx_tree.specs.declared.operator.BinOp.TheVariants as op
use Rattle.cxx_tree.specs.declared.expr.Ref.{Ref}
use Rattle.cxx_tree.specs.declared.expr.Left.{Left}
use Rattle.cxx_tree.specs.declared.expr.Base.TheVariants as base_of
use Rattle.cxx_tree.specs.declared.expr.Callee.{Callee}
use Rattle.cxx_tree.specs.declared.program.TypeName.{TypeName}
use Rattle.cxx_tree.specs.Words as w
use Rattle.cxx_tree.specs.Words.{Word}
use Rattle.cxx_tree.specs.ExprTree as e
use Rattle.cxx_tree.specs.ExprTree.{listed_exprs}
use Rattle.cxx_tree.specs.StmtTree as s
use Rattle.cxx_tree.specs.StmtTree.{InitialTree, LocalTree, SimpleTree, StartTree}
use Rattle.cxx_expr.specs.declared.stop.Stop.TheVariants.{Syntax}
use Rattle.cxx_expr.specs.Tokens.{Tokens, next, sees, after}
use Rattle.cxx_expr.specs.Outcome.{done, failed, Parse, and_then, expect}
use Rattle.cxx_expr.specs.Lefts.{node_at, name, target, selected, selected_of, left_by}
use Rattle.cxx_tree.specs.Fits.{expr_level}
use Rattle.cxx_expr.specs.Full.{full_level}
use Rattle.cxx_stmt.specs.Parts.{sign_at, arguments}
use Rattle.cxx_stmt.specs.Types.{word_type, pointer_to}

-- ---- signs of assignments and of `++` and `--`

-- the operator of a sign of assignment, or none for `=`
abbrev pub assign_of : Sign → Option (Option BinOp)
assign_of sg.Assign = Some None
assign_of sg.PlusAssign = Some (Some op.Add)
assign_of sg.MinusAssign = Some (Some op.Subtract)
assign_of sg.StarAssign = Some (Some op.Multiply)
assign_of sg.SlashAssign = Some (Some op.Divide)
assign_of sg.PercentAssign = Some (Some op.Remainder)
assign_of _ = None

-- whether a sign adds or subtracts one
abbrev pub bump_of : Sign → Option Bool
bump_of sg.PlusPlus = Some true
bump_of sg.MinusMinus = Some false
bump_of _ = None

abbrev pub placed_by : {A : Type 0} → Place → Option A → Option (Placed A)
placed_by at None = None
placed_by at (Some x) = Some (record { at = at; item = x })

abbrev pub assign_at : Place → Word → Option (Placed (Option BinOp))
assign_at at (w.sign found) = placed_by at (assign_of found)
assign_at at _ = None

abbrev pub assign_next : Option (Placed Word) → Option (Placed (Option BinOp))
assign_next None = None
assign_next (Some t) = assign_at t.at t.item

abbrev pub bump_at : Place → Word → Option (Placed Bool)
bump_at at (w.sign found) = placed_by at (bump_of found)
bump_at at _ = None

abbrev pub bump_next : Option (Placed Word) → Option (Placed Bool)
bump_next None = None
bump_next (Some t) = bump_at t.at t.item

-- ---- what may be assigned to or called

abbrev pub callee_at : Place → Word → Parse Tokens Callee
callee_at at (w.name n) ts = target at ts
callee_at at (w.sign sg.ColonColon) ts = target at ts
callee_at at (w.keyword k.This) ts = and_then (expect sg.Arrow (after ts)) (λ u. selected base_of.This)
callee_at at _ ts = failed Syntax ts

abbrev pub placed_callee : Place → Callee → Placed Callee
placed_callee at c = record { at = at; item = c }

abbrev pub callee_next : Option (Placed Word) → Parse Tokens (Placed Callee)
callee_next None ts = failed Syntax ts
callee_next (Some t) ts = and_then (callee_at t.at t.item ts) (λ c. done (placed_callee t.at c))

-- with the place where it begins
unfoldable pub callee : Parse Tokens (Placed Callee)
callee ts = callee_next (next ts) ts

abbrev pub left_at : Placed Callee → Left
left_at c = left_by (node_at c.at) c.item

-- ---- simple statements

abbrev pub bump_tree : Left → Placed Bool → Bool → SimpleTree
bump_tree left sign in_front = s.bump (record { left = left; sign = sign.at; adds = sign.item; in_front = in_front })

abbrev pub bumped_by : Left → Option (Placed Bool) → Parse Tokens SimpleTree
bumped_by left None ts = failed Syntax ts
bumped_by left (Some sign) ts = done (bump_tree left sign false) (after ts)

abbrev pub plain_ref : Placed NameId → Ref
plain_ref n = record { node = node_at n.at; global = false; name = n }

-- Full expressions have so many operators at most.
module _ (most : ℕ) where
  -- at the sign of an assignment
  unfoldable pub assigned : ℕ → Left → Placed (Option BinOp) → Parse Tokens SimpleTree
  assigned depth left sign ts = and_then (full_level most depth expr_level (after ts)) (λ v. done (s.assign (record { left = left; sign = sign; value = v })))

  abbrev pub changed_by : ℕ → Left → Option (Placed (Option BinOp)) → Parse Tokens SimpleTree
  changed_by depth left (Some sign) ts = assigned depth left sign ts
  changed_by depth left None ts = bumped_by left (bump_next (next ts)) ts

  -- behind the left side of an assignment, or of `++` or `--`
  unfoldable pub changed : ℕ → Left → Parse Tokens SimpleTree
  changed depth left ts = changed_by depth left (assign_next (next ts)) ts

  -- behind what may be assigned to or called
  unfoldable pub simple_behind : ℕ → Placed Callee → Parse Tokens SimpleTree
  simple_behind depth c ts =
      if sees sg.OpenParen ts then and_then (arguments most depth ts) (λ xs. done (s.call_stmt (e.calls (node_at c.at) c.item (listed_exprs xs))))
      else changed depth (left_at c) ts

  abbrev pub simple_by : ℕ → Option (Placed Bool) → Parse Tokens SimpleTree
  simple_by depth (Some sign) ts = and_then (callee (after ts)) (λ c. done (bump_tree (left_at c) sign true))
  simple_by depth None ts = and_then (callee ts) (simple_behind depth)

  unfoldable pub simple : ℕ → Parse Tokens SimpleTree
  simple depth ts = simple_by depth (bump_next (next ts)) ts

  -- ---- locals

  abbrev pub initial_by : ℕ → Option Place → Parse Tokens (Option InitialTree)
  initial_by depth None ts = done None ts
  initial_by depth (Some at) ts = and_then (full_level most depth expr_level (after ts)) (λ v. done (Some (record { sign = at; value = v })))

  -- the initial value of a local, if it has one
  unfoldable pub initial : ℕ → Parse Tokens (Option InitialTree)
  initial depth ts = initial_by depth (sign_at sg.Assign ts) ts

  -- behind the type of a local
  unfoldable pub local_of : ℕ → Placed TypeName → Parse Tokens LocalTree
  local_of depth t ts = and_then (name ts) (λ n ts. and_then (initial depth ts) (λ i. done (record { type_name = t; name = n; initial = i })))

  -- ---- a local or a simple statement

  abbrev pub start_local_of : ℕ → Placed TypeName → Parse Tokens StartTree
  start_local_of depth t ts = and_then (local_of depth t ts) (λ l. done (s.start_local l))

  abbrev pub start_simple_of : ℕ → Parse Tokens StartTree
  start_simple_of depth ts = and_then (simple depth ts) (λ i. done (s.start_simple i))

  -- behind a name: the class of a local's type, or what a simple statement begins with
  unfoldable pub start_behind : ℕ → Placed NameId → Parse Tokens StartTree
  start_behind depth n ts =
      if sees sg.Star ts then start_local_of depth (pointer_to n) (after ts)
      else and_then (selected_of (plain_ref n) ts) (λ c ts. and_then (simple_behind depth (placed_callee n.at c) ts) (λ i. done (s.start_simple i)))

  abbrev pub start_word : ℕ → Place → Option TypeName → Parse Tokens StartTree
  start_word depth at None ts = start_simple_of depth ts
  start_word depth at (Some t) ts = start_local_of depth (record { at = at; item = t }) (after ts)

  abbrev pub start_at : ℕ → Place → Word → Parse Tokens StartTree
  start_at depth at (w.name n) ts = start_behind depth (record { at = at; item = record { 0 = n } }) (after ts)
  start_at depth at (w.keyword word) ts = start_word depth at (word_type word) ts
  start_at depth at _ ts = start_simple_of depth ts

  abbrev pub start_next : ℕ → Option (Placed Word) → Parse Tokens StartTree
  start_next depth None ts = failed Syntax ts
  start_next depth (Some t) ts = start_at depth t.at t.item ts

  unfoldable pub start : ℕ → Parse Tokens StartTree
  start depth ts = start_next depth (next ts) ts
