-- The descent over the words of statements.
use Rattle.std.specs.Prelude.{ℕ, zero, suc, Bool, true, false, if◌then◌else◌, nat_eq, [], ◌∷◌, Option, Some, None}
use Rattle.agxx_base.specs.declared.place.Place.{Place}
use Rattle.agxx_base.specs.declared.ids.NameId.{NameId}
use Rattle.agxx_base.specs.declared.vocabulary.Keyword.{Keyword}
use Rattle.agxx_base.specs.declared.vocabulary.Keyword.TheVariants as k
use Rattle.agxx_base.specs.declared.vocabulary.Sign.{Sign}
use Rattle.agxx_base.specs.declared.vocabulary.Sign.TheVariants as sg
use Rattle.cxx_tree.specs.declared.node.Placed.{Placed}
use Rattle.cxx_tree.specs.Words as w
use Rattle.cxx_tree.specs.Words.{Word}
use Rattle.cxx_tree.specs.ExprTree.{ExprTree}
use Rattle.cxx_tree.specs.StmtTree as s
use Rattle.cxx_tree.specs.StmtTree.{SimpleTree, StartTree, StmtTree, BlockTree, IfTree, ElseTree, listed_stmts}
use Rattle.cxx_expr.specs.declared.stop.Stop.TheVariants.{Syntax, Deep}
use Rattle.cxx_expr.specs.Tokens.{Tokens, next, sees, after}
use Rattle.cxx_expr.specs.Outcome.{done, failed, Parse, and_then}
use Rattle.cxx_tree.specs.Fits.{expr_level}
use Rattle.cxx_expr.specs.Full.{full_level}
use Rattle.cxx_stmt.specs.declared.dialect.Dialect.{Dialect}
use Rattle.cxx_stmt.specs.Parts.{sign_at, ended_by, in_parens, unless, braced}
use Rattle.cxx_stmt.specs.Simples.{simple, start_behind, start}
use Rattle.cxx_stmt.specs.Streams.{std_stmt}

-- ---- words

abbrev pub is_else : Word → Bool
is_else (w.keyword k.Else) = true
is_else _ = false

-- `else` comes next
abbrev pub sees_else : Tokens → Bool
sees_else [] = false
sees_else (t ∷ ts) = is_else t.item

abbrev pub if_word : Place → Word → Option Place
if_word at (w.keyword k.If) = Some at
if_word at _ = None

-- where `if` stands, if it comes next
abbrev pub if_at : Tokens → Option Place
if_at [] = None
if_at (t ∷ ts) = if_word t.at t.item

-- ---- parts

abbrev pub stmt_of : StartTree → StmtTree
stmt_of (s.start_local l) = s.local l
stmt_of (s.start_simple i) = s.simple i

-- a local or a simple statement, which was read, with its semicolon
abbrev pub ended_start : StartTree → Parse Tokens StmtTree
ended_start x = ended_by sg.Semicolon (stmt_of x)

-- behind an opening brace or `else`, which comes next, if one more may be open
abbrev pub opened : {P A : Type 0} → Option P → (P → Parse Tokens A) → Parse Tokens A
opened None inner ts = failed Deep ts
opened (Some p) inner ts = inner p (after ts)

-- ---- blocks

abbrev pub block_by : Option (Parse Tokens StmtTree) → Option Place → Parse Tokens BlockTree
block_by inner None ts = failed Syntax ts
block_by inner (Some at) ts = opened inner (λ p ts. and_then (braced p ts) (λ xs. done (s.braces at (listed_stmts xs)))) ts

-- statements in braces, over the parser of a statement one depth further in
unfoldable pub block_of : Option (Parse Tokens StmtTree) → Parse Tokens BlockTree
block_of inner ts = block_by inner (sign_at sg.OpenBrace ts) ts

abbrev pub ForHead : Type 0
ForHead = Option StartTree × (Option ExprTree × Option SimpleTree)

-- Full expressions have so many operators at most.
module _ (most : ℕ) where
  -- ---- rules

  -- a local or a simple statement
  abbrev pub start_stmt : ℕ → Parse Tokens StmtTree
  start_stmt depth ts = and_then (start most depth ts) ended_start

  -- a condition in parentheses
  unfoldable pub condition : ℕ → Parse Tokens ExprTree
  condition depth = in_parens depth (λ below. full_level most below expr_level)

  -- the step of a `for`, behind its second semicolon
  unfoldable pub for_step : ℕ → Option StartTree → Option ExprTree → Parse Tokens ForHead
  for_step below start condition ts = and_then (unless sg.CloseParen (simple most below) ts) (λ step. done (start, (condition, step)))

  -- the condition of a `for`, behind its first semicolon
  unfoldable pub for_condition : ℕ → Option StartTree → Parse Tokens ForHead
  for_condition below start ts =
      and_then (unless sg.Semicolon (full_level most below expr_level) ts) (λ condition ts. and_then (ended_by sg.Semicolon condition ts) (for_step below start))

  -- what stands in the parentheses of a `for`
  unfoldable pub for_head : ℕ → Parse Tokens ForHead
  for_head below ts =
      and_then (unless sg.Semicolon (start most below) ts) (λ start ts. and_then (ended_by sg.Semicolon start ts) (for_condition below))

  -- behind `return`
  unfoldable pub return_stmt : ℕ → Place → Parse Tokens StmtTree
  return_stmt depth at ts = and_then (unless sg.Semicolon (full_level most depth expr_level) ts) (λ v. ended_by sg.Semicolon (s.return at v))

  -- behind `delete`
  unfoldable pub delete_stmt : ℕ → Place → Parse Tokens StmtTree
  delete_stmt depth at ts = and_then (full_level most depth expr_level ts) (λ v. ended_by sg.Semicolon (s.delete at v))

  module _ (d : Dialect) where
    -- ---- The rules at a depth, over the parsers of a statement and of what stands behind `if` one depth further in.

    module _ (depth : ℕ) (inner : Option (Parse Tokens StmtTree)) (inner_if : Option (Place → Parse Tokens IfTree)) where
      abbrev pub behind_else : Option Place → Parse Tokens ElseTree
      behind_else None ts = and_then (block_of inner ts) (λ b. done (s.else_block b))
      behind_else (Some at) ts = opened inner_if (λ p ts. and_then (p at ts) (λ i. done (s.else_if i))) ts

      unfoldable pub otherwise : Parse Tokens ElseTree
      otherwise ts = if sees_else ts then behind_else (if_at (after ts)) (after ts) else done s.no_else ts

      -- behind `if`
      unfoldable pub branch_of : Place → Parse Tokens IfTree
      branch_of at ts =
          and_then (condition depth ts) (λ c ts. and_then (block_of inner ts) (λ b ts. and_then (otherwise ts) (λ o. done (s.chooses at c b o))))

      -- behind `while`
      unfoldable pub while_of : Place → Parse Tokens StmtTree
      while_of at ts = and_then (condition depth ts) (λ c ts. and_then (block_of inner ts) (λ b. done (s.while at c b)))

      -- behind `for`
      unfoldable pub for_of : Place → Parse Tokens StmtTree
      for_of at ts = and_then (in_parens depth for_head ts) (λ h ts. and_then (block_of inner ts) (λ b. done (s.for at h.0 h.1.0 h.1.1 b)))

      abbrev pub keyword_stmt : Place → Keyword → Parse Tokens StmtTree
      keyword_stmt at k.If ts = and_then (branch_of at (after ts)) (λ i. done (s.branch i))
      keyword_stmt at k.While ts = while_of at (after ts)
      keyword_stmt at k.For ts = for_of at (after ts)
      keyword_stmt at k.Return ts = return_stmt depth at (after ts)
      keyword_stmt at k.Delete ts = delete_stmt depth at (after ts)
      keyword_stmt at _ ts = start_stmt depth ts

      -- at `::` behind a name
      abbrev pub std_by : Bool → Place → Parse Tokens StmtTree
      std_by true at ts = and_then (std_stmt most d depth at (after ts)) (ended_by sg.Semicolon)
      std_by false at ts = failed Syntax ts

      -- behind a name
      unfoldable pub name_stmt : Placed NameId → Parse Tokens StmtTree
      name_stmt n ts =
          if sees sg.ColonColon ts then std_by (nat_eq n.item.0 d.std.0) n.at ts else and_then (start_behind most depth n ts) ended_start

      abbrev pub sign_stmt : Sign → Parse Tokens StmtTree
      sign_stmt sg.OpenBrace ts = and_then (block_of inner ts) (λ b. done (s.block b))
      sign_stmt _ ts = start_stmt depth ts

      abbrev pub stmt_at : Place → Word → Parse Tokens StmtTree
      stmt_at at (w.keyword word) ts = keyword_stmt at word ts
      stmt_at at (w.name n) ts = name_stmt (record { at = at; item = record { 0 = n } }) (after ts)
      stmt_at at (w.sign found) ts = sign_stmt found ts
      stmt_at at _ ts = failed Syntax ts

      abbrev pub stmt_next : Option (Placed Word) → Parse Tokens StmtTree
      stmt_next None ts = failed Syntax ts
      stmt_next (Some t) ts = stmt_at t.at t.item ts

      unfoldable pub stmt_of_depth : Parse Tokens StmtTree
      stmt_of_depth ts = stmt_next (next ts) ts

    -- ---- statements in which braces, parentheses and `else if` nest no deeper than this

    unfoldable mutual
      pub stmt : ℕ → Parse Tokens StmtTree
      stmt zero = stmt_of_depth zero None None
      stmt (suc depth) = stmt_of_depth (suc depth) (Some (λ ts. stmt depth ts)) (Some (λ at ts. branch depth at ts))

      -- behind `if`
      pub branch : ℕ → Place → Parse Tokens IfTree
      branch zero = branch_of zero None None
      branch (suc depth) = branch_of (suc depth) (Some (λ ts. stmt depth ts)) (Some (λ at ts. branch depth at ts))

    abbrev pub inner_stmt : ℕ → Option (Parse Tokens StmtTree)
    inner_stmt zero = None
    inner_stmt (suc depth) = Some (λ ts. stmt depth ts)

    abbrev pub inner_branch : ℕ → Option (Place → Parse Tokens IfTree)
    inner_branch zero = None
    inner_branch (suc depth) = Some (λ at ts. branch depth at ts)

    -- statements in braces
    abbrev pub block : ℕ → Parse Tokens BlockTree
    block depth = block_of (inner_stmt depth)
