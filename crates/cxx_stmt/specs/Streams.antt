-- Statements that begin with `std ::`: prints, threads and `std::abort()`.
use Rattle.std.specs.Prelude.{ℕ, zero, suc, Bool, ◌&&◌, if◌then◌else◌, List, [], ◌∷◌, length, Option, Some, None}
use Rattle.agxx_base.specs.declared.place.Place.{Place}
use Rattle.agxx_base.specs.declared.vocabulary.Sign.TheVariants as sg
use Rattle.cxx_tree.specs.declared.node.Placed.{Placed}
use Rattle.cxx_tree.specs.declared.expr.Ref.{Ref}
use Rattle.cxx_tree.specs.Words as w
use Rattle.cxx_tree.specs.Words.{Word}
use Rattle.cxx_tree.specs.ExprTree.{ExprTree, listed_exprs}
use Rattle.cxx_tree.specs.StmtTree as s
use Rattle.cxx_tree.specs.StmtTree.{PrintedTree, StmtTree}
use Rattle.cxx_expr.specs.declared.stop.Stop.TheVariants.{Syntax}
use Rattle.cxx_expr.specs.Tokens.{Tokens, next, sees, after}
use Rattle.cxx_expr.specs.Outcome.{done, failed, Parse, and_then}
use Rattle.cxx_expr.specs.Lefts.{name}
use Rattle.cxx_expr.specs.Descent.{front_of}
use Rattle.cxx_tree.specs.Fits.{sum_level}
use Rattle.cxx_expr.specs.Full.{full_level}
use Rattle.cxx_stmt.specs.declared.dialect.Dialect.{Dialect}
use Rattle.cxx_stmt.specs.Dialect.{is_woven}
use Rattle.cxx_stmt.specs.Parts.{sees_name, in_parens, no_parts, others, expressions, placed_ref}

-- ---- prints

-- `endl` behind `std ::`
abbrev pub endl : Dialect → Place → Parse Tokens PrintedTree
endl d at ts = if sees_name d.endl.0 ts then done (s.endl at) (after ts) else failed Syntax ts

-- `std ::` comes next
abbrev pub sees_std : Dialect → Tokens → Bool
sees_std d ts = sees_name d.std.0 ts && sees sg.ColonColon (after ts)

-- operands, each with `<<` before it. The number bounds the turns.
unfoldable pub operands_from : Parse Tokens PrintedTree → ℕ → Parse Tokens (List PrintedTree)
operands_from part zero ts = failed Syntax ts
operands_from part (suc n) ts =
    if sees sg.ShiftLeft ts then and_then (part (after ts)) (λ x ts. front_of (x ∷ []) (operands_from part n ts)) else done [] ts

-- behind `std::abort`
unfoldable pub abort : ℕ → Place → Parse Tokens StmtTree
abort depth at ts = and_then (no_parts depth ts) (λ u. done (s.abort at))

-- Full expressions have so many operators at most.
module _ (most : ℕ) where
  abbrev pub value : ℕ → Parse Tokens PrintedTree
  value depth ts = and_then (full_level most depth sum_level ts) (λ v. done (s.value v))

  abbrev pub operand_at : Dialect → ℕ → Place → Word → Parse Tokens PrintedTree
  operand_at d depth at (w.text bytes) ts = done (s.text (record { at = at; bytes = bytes })) (after ts)
  operand_at d depth at _ ts = if sees_std d ts then endl d at (after (after ts)) else value depth ts

  abbrev pub operand_next : Dialect → ℕ → Option (Placed Word) → Parse Tokens PrintedTree
  operand_next d depth None ts = failed Syntax ts
  operand_next d depth (Some t) ts = operand_at d depth t.at t.item ts

  -- an operand of a print, behind `<<`
  unfoldable pub operand : Dialect → ℕ → Parse Tokens PrintedTree
  operand d depth ts = operand_next d depth (next ts) ts

  -- one or more
  unfoldable pub operands : Dialect → ℕ → Parse Tokens (List PrintedTree)
  operands d depth ts = if sees sg.ShiftLeft ts then operands_from (operand d depth) (suc (length ts)) ts else failed Syntax ts

  -- behind `std::cout`
  unfoldable pub print : Dialect → ℕ → Place → Parse Tokens StmtTree
  print d depth at ts = and_then (operands d depth ts) (λ xs. done (s.print (record { at = at; operands = xs })))

  -- ---- threads

  -- a thread's function and the arguments
  unfoldable pub started : ℕ → Parse Tokens (Ref × List ExprTree)
  started below ts = and_then (placed_ref ts) (λ r ts. and_then (others (expressions most below) ts) (λ xs. done (r, xs)))

  -- behind `std::thread`
  unfoldable pub thread : ℕ → Place → Parse Tokens StmtTree
  thread depth at ts =
      and_then (name ts) (λ n ts. and_then (in_parens depth started ts)
      (λ part. done (s.thread (record { at = at; name = n; function = part.0; arguments = listed_exprs part.1 }))))

  -- ---- all of them

  -- Behind `std ::`, which stands at this place. No semicolon is read.
  unfoldable pub std_stmt : Dialect → ℕ → Place → Parse Tokens StmtTree
  std_stmt d depth at ts =
      if sees_name d.thread.0 ts then thread depth at (after ts)
      else (if sees_name d.cout.0 ts then print d depth at (after ts)
      else (if is_woven d.mode && sees_name d.abort.0 ts then abort depth at (after ts) else failed Syntax ts))
