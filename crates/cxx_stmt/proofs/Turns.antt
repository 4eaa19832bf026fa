-- One turn of each loop: what was found so far stands before what is still to come.
use Rattle.std.proofs.Common.{◌≡◌, ℕ, zero, suc, ◌≤◌, ◌<◌, true, false, List, [], ◌∷◌, ◌++◌, length, Option, Some, None, option_map, ◌-◌, subst, refl, sym, ap, ◌∙◌, arith, append-nil}
use Rattle.agxx_base.specs.declared.place.Place.{Place}
use Rattle.agxx_base.specs.declared.vocabulary.Keyword.{Keyword}
use Rattle.agxx_base.specs.declared.vocabulary.Keyword.TheVariants as k
use Rattle.agxx_base.specs.declared.vocabulary.Sign.TheVariants as sg
use Rattle.cxx_expr.specs.declared.stop.Stop.{Stop}
use Rattle.cxx_expr.specs.Tokens.{Tokens, sees, next, after}
use Rattle.cxx_expr.specs.Outcome.{Outcome, done, failed, Parse}
use Rattle.cxx_expr.specs.Descent.{front_of}
use Rattle.cxx_expr.proofs.Turns.{true-sees, length-after, front_of-front_of}
use Rattle.cxx_tree.specs.declared.expr.Expr.{Expr}
use Rattle.cxx_tree.specs.declared.stmt.Stmt.{Stmt}
use Rattle.cxx_tree.specs.declared.stmt.Stmt.TheVariants as stmt_of
use Rattle.cxx_tree.specs.declared.stmt.Stmt.TheVariants.{rolls-If}
use Rattle.cxx_tree.specs.declared.stmt.Block.{Block, roll-Block}
use Rattle.cxx_tree.specs.declared.stmt.If.{If, roll-If}
use Rattle.cxx_tree.specs.declared.stmt.Else.{Else}
use Rattle.cxx_tree.specs.declared.stmt.While.{While}
use Rattle.cxx_tree.specs.declared.stmt.For.{For}
use Rattle.cxx_tree.specs.declared.stmt.Else.TheOpen.{Block-F, Stmt-F}
use Rattle.cxx_tree.specs.declared.stmt.Else.TheFolds.{fold-roll-Block, fold-roll-If, fold-roll-Stmt}
use Rattle.cxx_tree.specs.ExprTree.{ExprTree, expr_tree}
use Rattle.cxx_tree.specs.StmtTree as s
use Rattle.cxx_tree.specs.StmtTree.{PrintedTree, StmtTree, BlockTree, IfTree, ElseTree, else_step, stmt_step, block_step, for_step, if_step, while_step, listed_stmts, stmts_tree, stmt_tree, block_tree, if_tree, else_tree, else_or_none}
use Rattle.cxx_stmt.specs.Parts.{sign_at, some_from, braced, braced_from}
use Rattle.cxx_stmt.specs.Streams.{operands_from}
use Rattle.cxx_stmt.specs.declared.dialect.Dialect.{Dialect}
use Rattle.cxx_stmt.specs.Statements.{stmt, branch, stmt_next, stmt_of_depth, block, block_of, branch_of, condition, otherwise, keyword_stmt, inner_stmt, inner_branch}

-- ---- parts with commas between

some_from-fail : {A : Type 0} (part : Parse Tokens A) (n : ℕ) (ts rest : Tokens) (why : Stop) → length ts < n → part ts ≡ failed why rest → some_from part n ts ≡ failed why rest
unfolding some_from
some_from-fail part zero ts rest why h f = absurd (omega arith)
some_from-fail part (suc n) ts rest why h f = rw f refl

some_from-last : {A : Type 0} (part : Parse Tokens A) (n : ℕ) (ts rest : Tokens) (x : A) → length ts < n → part ts ≡ done x rest → sees sg.Comma rest ≡ false
    → some_from part n ts ≡ done (x ∷ []) rest
unfolding some_from
some_from-last part zero ts rest x h f e = absurd (omega arith)
some_from-last part (suc n) ts rest x h f e = rw (f, e) refl

some_from-more : {A : Type 0} (part : Parse Tokens A) (n : ℕ) (ts rest next : Tokens) (x : A)
    → length ts < n → part ts ≡ done x rest → length rest ≤ length ts → sees sg.Comma rest ≡ true → next ≡ after rest
    → (m : ℕ) × (length next < m) × (some_from part n ts ≡ front_of (x ∷ []) (some_from part m next))
unfolding some_from
some_from-more part zero ts rest next x h f le e a = absurd (omega arith)
some_from-more part (suc n) ts rest next x h f le e a = (n, omega (arith, h, le, true-sees sg.Comma rest e, length-after rest, ap length a), rw (f, e, ← a) refl)

pub some-fail : {A : Type 0} (part : Parse Tokens A) (o : Outcome Tokens (List A)) (found : List A) (n : ℕ) (ts rest : Tokens) (why : Stop)
    → o ≡ front_of found (some_from part n ts) → length ts < n → part ts ≡ failed why rest → o ≡ failed why rest
some-fail part o found n ts rest why e h f = e ∙ ap (front_of found) (some_from-fail part n ts rest why h f)

pub some-last : {A : Type 0} (part : Parse Tokens A) (o : Outcome Tokens (List A)) (found more : List A) (n : ℕ) (ts rest : Tokens) (x : A)
    → o ≡ front_of found (some_from part n ts) → length ts < n → part ts ≡ done x rest → sees sg.Comma rest ≡ false → found ++ x ∷ [] ≡ more → o ≡ done more rest
some-last part o found more n ts rest x e h f s m = e ∙ ap (front_of found) (some_from-last part n ts rest x h f s) ∙ ap (λ xs. done xs rest) m

pub some-more : {A : Type 0} (part : Parse Tokens A) (o : Outcome Tokens (List A)) (found more : List A) (n : ℕ) (ts rest next : Tokens) (x : A)
    → o ≡ front_of found (some_from part n ts) → length ts < n → part ts ≡ done x rest → length rest ≤ length ts → sees sg.Comma rest ≡ true → next ≡ after rest
    → found ++ x ∷ [] ≡ more → (m : ℕ) × (length next < m) × (o ≡ front_of more (some_from part m next))
some-more part o found more n ts rest next x e h f le s a p =
    let turn = some_from-more part n ts rest next x h f le s a in (
      turn.0,
      turn.1,
      e ∙ ap (front_of found) turn.2 ∙ front_of-front_of found (x ∷ []) (some_from part turn.0 next) ∙ ap (λ xs. front_of xs (some_from part turn.0 next)) p,
    )

-- ---- operands, each behind a sign

operands_from-fail : (part : Parse Tokens PrintedTree) (n : ℕ) (ts next rest : Tokens) (why : Stop) → length ts < n → sees sg.ShiftLeft ts ≡ true → next ≡ after ts → part next ≡ failed why rest
    → operands_from part n ts ≡ failed why rest
unfolding operands_from
operands_from-fail part zero ts next rest why h e a f = absurd (omega arith)
operands_from-fail part (suc n) ts next rest why h e a f = rw (e, ← a, f) refl

operands_from-last : (part : Parse Tokens PrintedTree) (n : ℕ) (ts : Tokens) → length ts < n → sees sg.ShiftLeft ts ≡ false → operands_from part n ts ≡ done [] ts
unfolding operands_from
operands_from-last part zero ts h e = absurd (omega arith)
operands_from-last part (suc n) ts h e = rw e refl

operands_from-more : (part : Parse Tokens PrintedTree) (n : ℕ) (ts next rest : Tokens) (x : PrintedTree)
    → length ts < n → sees sg.ShiftLeft ts ≡ true → next ≡ after ts → part next ≡ done x rest → length rest ≤ length next
    → (m : ℕ) × (length rest < m) × (operands_from part n ts ≡ front_of (x ∷ []) (operands_from part m rest))
unfolding operands_from
operands_from-more part zero ts next rest x h e a f le = absurd (omega arith)
operands_from-more part (suc n) ts next rest x h e a f le = (n, omega (arith, h, le, true-sees sg.ShiftLeft ts e, length-after ts, ap length a), rw (e, ← a, f) refl)

pub operands-fail : (part : Parse Tokens PrintedTree) (o : Outcome Tokens (List PrintedTree)) (found : List PrintedTree) (n : ℕ) (ts next rest : Tokens) (why : Stop)
    → o ≡ front_of found (operands_from part n ts) → length ts < n → sees sg.ShiftLeft ts ≡ true → next ≡ after ts → part next ≡ failed why rest → o ≡ failed why rest
operands-fail part o found n ts next rest why e h s a f = e ∙ ap (front_of found) (operands_from-fail part n ts next rest why h s a f)

pub operands-last : (part : Parse Tokens PrintedTree) (o : Outcome Tokens (List PrintedTree)) (found : List PrintedTree) (n : ℕ) (ts : Tokens)
    → o ≡ front_of found (operands_from part n ts) → length ts < n → sees sg.ShiftLeft ts ≡ false → o ≡ done found ts
operands-last part o found n ts e h s = e ∙ ap (front_of found) (operands_from-last part n ts h s) ∙ ap (λ xs. done xs ts) (append-nil found)

pub operands-more : (part : Parse Tokens PrintedTree) (o : Outcome Tokens (List PrintedTree)) (found more : List PrintedTree) (n : ℕ) (ts next rest : Tokens) (x : PrintedTree)
    → o ≡ front_of found (operands_from part n ts) → length ts < n → sees sg.ShiftLeft ts ≡ true → next ≡ after ts → part next ≡ done x rest → length rest ≤ length next
    → found ++ x ∷ [] ≡ more → (m : ℕ) × (length rest < m) × (o ≡ front_of more (operands_from part m rest))
operands-more part o found more n ts next rest x e h s a f le p =
    let turn = operands_from-more part n ts next rest x h s a f le in (
      turn.0,
      turn.1,
      e ∙ ap (front_of found) turn.2 ∙ front_of-front_of found (x ∷ []) (operands_from part turn.0 rest) ∙ ap (λ xs. front_of xs (operands_from part turn.0 rest)) p,
    )

-- ---- parts up to a closing brace

braced_from-fail : {A : Type 0} (part : Parse Tokens A) (n : ℕ) (ts rest : Tokens) (why : Stop) → length ts < n → sees sg.CloseBrace ts ≡ false → part ts ≡ failed why rest → braced_from part n ts ≡ failed why rest
unfolding braced_from
braced_from-fail part zero ts rest why h e f = absurd (omega arith)
braced_from-fail part (suc n) ts rest why h e f = rw (e, f) refl

braced_from-last : {A : Type 0} (part : Parse Tokens A) (n : ℕ) (ts : Tokens) → length ts < n → sees sg.CloseBrace ts ≡ true → braced_from part n ts ≡ done [] (after ts)
unfolding braced_from
braced_from-last part zero ts h e = absurd (omega arith)
braced_from-last part (suc n) ts h e = rw e refl

braced_from-more : {A : Type 0} (part : Parse Tokens A) (n : ℕ) (ts rest : Tokens) (x : A) → length ts < n → sees sg.CloseBrace ts ≡ false → part ts ≡ done x rest → length rest < length ts
    → (m : ℕ) × (length rest < m) × (braced_from part n ts ≡ front_of (x ∷ []) (braced_from part m rest))
unfolding braced_from
braced_from-more part zero ts rest x h e f lt = absurd (omega arith)
braced_from-more part (suc n) ts rest x h e f lt = (n, omega arith, rw (e, f) refl)

pub braced-fail : {A : Type 0} (part : Parse Tokens A) (o : Outcome Tokens (List A)) (found : List A) (n : ℕ) (ts rest : Tokens) (why : Stop)
    → o ≡ front_of found (braced_from part n ts) → length ts < n → sees sg.CloseBrace ts ≡ false → part ts ≡ failed why rest → o ≡ failed why rest
braced-fail part o found n ts rest why e h s f = e ∙ ap (front_of found) (braced_from-fail part n ts rest why h s f)

pub braced-last : {A : Type 0} (part : Parse Tokens A) (o : Outcome Tokens (List A)) (found : List A) (n : ℕ) (ts next : Tokens)
    → o ≡ front_of found (braced_from part n ts) → length ts < n → sees sg.CloseBrace ts ≡ true → next ≡ after ts → o ≡ done found next
braced-last part o found n ts next e h s a = e ∙ ap (front_of found) (braced_from-last part n ts h s) ∙ ap (λ xs. done xs (after ts)) (append-nil found) ∙ ap (done found) (sym a)

pub braced-more : {A : Type 0} (part : Parse Tokens A) (o : Outcome Tokens (List A)) (found more : List A) (n : ℕ) (ts rest : Tokens) (x : A)
    → o ≡ front_of found (braced_from part n ts) → length ts < n → sees sg.CloseBrace ts ≡ false → part ts ≡ done x rest → length rest < length ts
    → found ++ x ∷ [] ≡ more → (m : ℕ) × (length rest < m) × (o ≡ front_of more (braced_from part m rest))
braced-more part o found more n ts rest x e h s f lt p =
    let turn = braced_from-more part n ts rest x h s f lt in (
      turn.0,
      turn.1,
      e ∙ ap (front_of found) turn.2 ∙ front_of-front_of found (x ∷ []) (braced_from part turn.0 rest) ∙ ap (λ xs. front_of xs (braced_from part turn.0 rest)) p,
    )

-- ---- statements at a depth

pub stmt-is : (most : ℕ) (d : Dialect) (depth : ℕ) (ts : Tokens)
    → stmt most d depth ts ≡ stmt_next most d depth (inner_stmt most d depth) (inner_branch most d depth) (next ts) ts
unfolding stmt stmt_of_depth
stmt-is most d zero ts = refl
stmt-is most d (suc depth) ts = refl

pub branch-is : (most : ℕ) (d : Dialect) (depth : ℕ) (at : Place) (ts : Tokens)
    → branch most d depth at ts ≡ branch_of most d depth (inner_stmt most d depth) (inner_branch most d depth) at ts
unfolding branch
branch-is most d zero at ts = refl
branch-is most d (suc depth) at ts = refl

pub ruleset by_depth = (stmt-is, branch-is)

pub block-failed : (most : ℕ) (d : Dialect) (depth : ℕ) (ts behind rest : Tokens) (at : Place) (why : Stop)
    → 0 < depth → Some at ≡ sign_at sg.OpenBrace ts → behind ≡ after ts → braced (λ ts. stmt most d (depth - 1) ts) behind ≡ failed why rest → block most d depth ts ≡ failed why rest
unfolding block_of
block-failed most d zero ts behind rest at why h s a f = absurd (omega arith)
block-failed most d (suc depth) ts behind rest at why h s a f =
    let down : suc depth - 1 ≡ depth = omega arith in
    let f' : braced (λ ts. stmt most d depth ts) behind ≡ failed why rest = subst (λ n. braced (λ ts. stmt most d n ts) behind ≡ failed why rest) down f in
    rw (← s, ← a, f') refl

pub block-done : (most : ℕ) (d : Dialect) (depth : ℕ) (ts behind rest : Tokens) (at : Place) (xs : List StmtTree)
    → 0 < depth → Some at ≡ sign_at sg.OpenBrace ts → behind ≡ after ts → braced (λ ts. stmt most d (depth - 1) ts) behind ≡ done xs rest
    → block most d depth ts ≡ done (s.braces at (listed_stmts xs)) rest
unfolding block_of
block-done most d zero ts behind rest at xs h s a f = absurd (omega arith)
block-done most d (suc depth) ts behind rest at xs h s a f =
    let down : suc depth - 1 ≡ depth = omega arith in
    let f' : braced (λ ts. stmt most d depth ts) behind ≡ done xs rest = subst (λ n. braced (λ ts. stmt most d n ts) behind ≡ done xs rest) down f in
    rw (← s, ← a, f') refl

pub branch-done : (most : ℕ) (d : Dialect) (depth : ℕ) (at : Place) (ts body behind rest : Tokens) (c : ExprTree) (b : BlockTree) (o : ElseTree)
    → condition most depth ts ≡ done c body → block most d depth body ≡ done b behind → otherwise most d depth (inner_stmt most d depth) (inner_branch most d depth) behind ≡ done o rest
    → branch most d depth at ts ≡ done (s.chooses at c b o) rest
unfolding branch_of
branch-done most d depth at ts body behind rest c b o e f g = branch-is most d depth at ts ∙ rw (e, f, g) refl

-- at `if`

pub if-failed : (most : ℕ) (d : Dialect) (depth : ℕ) (at : Place) (word : Keyword) (ts behind rest : Tokens) (why : Stop)
    → word ≡ k.If → behind ≡ after ts → branch most d depth at behind ≡ failed why rest → keyword_stmt most d depth (inner_stmt most d depth) (inner_branch most d depth) at word ts ≡ failed why rest
if-failed most d depth at word ts behind rest why w a f = rw (w, ← a, ← branch-is most d depth at behind, f) refl

pub if-done : (most : ℕ) (d : Dialect) (depth : ℕ) (at : Place) (word : Keyword) (ts behind rest : Tokens) (i : IfTree)
    → word ≡ k.If → behind ≡ after ts → branch most d depth at behind ≡ done i rest → keyword_stmt most d depth (inner_stmt most d depth) (inner_branch most d depth) at word ts ≡ done (s.branch i) rest
if-done most d depth at word ts behind rest i w a f = rw (w, ← a, ← branch-is most d depth at behind, f) refl

-- ---- how trees with lists and parts that may be missing are seen

pub block-is : (r : Block-F Else Stmt Block For If While) → block_tree (roll-Block r) ≡ s.braces r.at (stmts_tree r.stmts)
block-is r = fold-roll-Block ElseTree StmtTree BlockTree StmtTree IfTree StmtTree else_step stmt_step block_step for_step if_step while_step r

pub if-is : (at : Place) (c : Expr) (b : Block) (o : Option Else)
    → if_tree (roll-If (record { at = at; condition = c; body = b; otherwise = o })) ≡ s.chooses at (expr_tree c) (block_tree b) (else_or_none (option_map else_tree o))
if-is at c b None = fold-roll-If ElseTree StmtTree BlockTree StmtTree IfTree StmtTree else_step stmt_step block_step for_step if_step while_step (record { at = at; condition = c; body = b; otherwise = None })
if-is at c b (Some o) = fold-roll-If ElseTree StmtTree BlockTree StmtTree IfTree StmtTree else_step stmt_step block_step for_step if_step while_step (record { at = at; condition = c; body = b; otherwise = Some o })

pub if_stmt-is : (i : If) → stmt_tree (stmt_of.If i) ≡ s.branch (if_tree i)
if_stmt-is i = ap stmt_tree (sym (rolls-If i)) ∙ fold-roll-Stmt ElseTree StmtTree BlockTree StmtTree IfTree StmtTree else_step stmt_step block_step for_step if_step while_step (Stmt-F.If i)
