-- The spelling of each statement and of each block is read again.
use Rattle.std.proofs.Common.{◌≡◌, ℕ, zero, suc, true, false, List, [], ◌∷◌, ◌++◌, map, Option, refl, sym, ap, ◌∙◌, subst, append_assoc, arith}
use Rattle.std.specs.Prelude.{option_map}
use Rattle.std.specs.List.{flat_map}
use Rattle.std.proofs.lemmas.Bool.{eq-eqb}
use Rattle.agxx_base.specs.declared.place.Place.{Place}
use Rattle.agxx_base.specs.declared.vocabulary.Keyword.TheVariants as k
use Rattle.agxx_base.specs.declared.vocabulary.Sign.TheVariants as sg
use Rattle.cxx_tree.specs.declared.node.Placed.{Placed}
use Rattle.cxx_tree.specs.Words as w
use Rattle.cxx_tree.specs.Words.{Word, separated, in_parentheses, in_braces, ended, optional}
use Rattle.cxx_tree.specs.ExprTree.{ExprTree}
use Rattle.cxx_tree.specs.StmtTree as s
use Rattle.cxx_tree.specs.StmtTree.{SimpleTree, StartTree, StmtTree, StmtTrees, BlockTree, IfTree, ElseTree, listed_stmts}
use Rattle.cxx_tree.specs.Spelling.{spell_name, spell_ref, spell_expr, spell_each, spell_simple, spell_printed, spell_start, spell_stmt, spell_stmts, spell_block, spell_else}
use Rattle.cxx_tree.specs.Limits.{Opens, Every}
use Rattle.cxx_tree.specs.Fits.{expr_level, Optionally, FitsFull, FitsSimple, FitsStart, FitsStmt, FitsStmts, FitsBlock, FitsIf, FitsElse}
use Rattle.cxx_tree.specs.Blank.{no_place, blank_expr, blank_simple, blank_start, blank_stmt, blank_stmts, blank_block, blank_if, blank_else}
use Rattle.cxx_expr.specs.Tokens.{Tokens, words_of, is_sign}
use Rattle.cxx_expr.specs.Outcome.{done, Parse, and_then}
use Rattle.cxx_expr.specs.Full.{full_level}
use Rattle.cxx_expr.proofs.Fronts.{token, Ends-close}
use Rattle.cxx_stmt.specs.declared.dialect.Dialect.{Dialect}
use Rattle.cxx_stmt.specs.Dialect.{special_of, grammar, IsApart}
use Rattle.cxx_stmt.specs.Parts.{ended_by, in_parens, unless, braced}
use Rattle.cxx_stmt.specs.Simples.{simple, start}
use Rattle.cxx_stmt.specs.Streams.{std_stmt}
use Rattle.cxx_stmt.specs.Statements.{sees_else, stmt_of, block_of, opened, ForHead, start_stmt, condition, for_step, for_condition, for_head, return_stmt, delete_stmt, otherwise, branch_of, while_of, for_of, name_stmt, stmt_of_depth, stmt, branch, inner_stmt, inner_branch, block}
use Rattle.cxx_stmt.proofs.FullParts.{PlacesOf, laid, words-laid, begins, begins-append, begins-laid, begins-sees, IsRead, read-front, read-as, read-then, read-made, read-ended, read-ended-then, read-in_parens, opens-none, opens-below, read-unless, read-braced}
use Rattle.cxx_stmt.proofs.FullTypes.{is_first, first-not-close_paren, first-not-close_brace, first-not-semicolon, first-not-else}
use Rattle.cxx_stmt.proofs.FullExprs.{Ends-semicolon, first-expr, behind_name, behind-sees, read-full}
use Rattle.cxx_stmt.proofs.FullSimples.{is_start_first, read-simple, read-start, first-start, behind-start}
use Rattle.cxx_stmt.proofs.Modes.{no_advice-of}
use Rattle.cxx_stmt.proofs.FullStreams.{IsStdRead, read-std_print, read-std_thread, read-std_abort}

-- ---- how a statement begins

start-first : (words : List Word) → begins is_start_first words ≡ true → begins is_first words ≡ true
start-first [] h = cc
start-first (w.name n ∷ words) h = refl
start-first (w.number bits kind ∷ words) h = refl
start-first (w.keyword k.Else ∷ words) h = cc
start-first (w.keyword _ ∷ words) h = refl
start-first (w.sign sg.ColonColon ∷ words) h = refl
start-first (w.sign sg.PlusPlus ∷ words) h = refl
start-first (w.sign sg.MinusMinus ∷ words) h = refl
start-first (w.sign _ ∷ words) h = cc
start-first (_ ∷ words) h = cc

begins-else : (words : List Word) → begins is_first words ≡ true → (places : PlacesOf words) (rest : Tokens) → sees_else (laid words places rest) ≡ false
begins-else [] h places rest = cc
begins-else (word ∷ words) h places rest = first-not-else word h

-- ---- statements as a list

abbrev stmts_in : StmtTrees → List StmtTree
stmts_in s.no_stmts = []
stmts_in (s.more_stmts first rest) = first ∷ stmts_in rest

blank-listed : (ys : List StmtTree) → blank_stmts (listed_stmts ys) ≡ listed_stmts (map blank_stmt ys)
blank-listed [] = refl
blank-listed (y ∷ ys) = ap (s.more_stmts (blank_stmt y)) (blank-listed ys)

blank-in : (xs : StmtTrees) → listed_stmts (map blank_stmt (stmts_in xs)) ≡ blank_stmts xs
blank-in s.no_stmts = refl
blank-in (s.more_stmts first rest) = ap (s.more_stmts (blank_stmt first)) (blank-in rest)

blank-stmt_of : (x : StartTree) → blank_stmt (stmt_of x) ≡ stmt_of (blank_start x)
blank-stmt_of (s.start_local l) = refl
blank-stmt_of (s.start_simple i) = refl

-- what stands in the head of a `for`
abbrev blank_head : ForHead → ForHead
blank_head h = (option_map blank_start h.0, (option_map blank_expr h.1.0, option_map blank_simple h.1.1))

module _ (d : Dialect) (apart : IsApart d) (most : ℕ) where
  spell_each-in : (xs : StmtTrees) → spell_stmts (special_of d) xs ≡ flat_map (spell_stmt (special_of d)) (stmts_in xs)
  spell_each-in s.no_stmts = refl
  spell_each-in (s.more_stmts first rest) = ap (λ q. spell_stmt (special_of d) first ++ q) (spell_each-in rest)

  each-every : (depth : ℕ) (xs : StmtTrees) → FitsStmts (grammar d) most depth xs → Every (FitsStmt (grammar d) most depth) (stmts_in xs)
  each-every depth s.no_stmts fits = tt
  each-every depth (s.more_stmts first rest) fits = (fits.0, each-every depth rest fits.1)

  start-first-of : (depth : ℕ) (x : StartTree) → FitsStart (grammar d) most depth x → begins is_first (spell_start (special_of d) x) ≡ true
  start-first-of depth x fits = start-first (spell_start (special_of d) x) (first-start (special_of d) (grammar d) (no_advice-of d) most depth x fits)

  ended-first : (depth : ℕ) (x : StartTree) → FitsStart (grammar d) most depth x → begins is_first (ended (spell_start (special_of d) x)) ≡ true
  ended-first depth x fits = begins-append is_first (spell_start (special_of d) x) (w.sign sg.Semicolon ∷ []) (start-first-of depth x fits)

  first-stmt : (depth : ℕ) (t : StmtTree) → FitsStmt (grammar d) most depth t → begins is_first (spell_stmt (special_of d) t) ≡ true
  first-stmt depth (s.block (s.braces at stmts)) fits = refl
  first-stmt depth (s.local l) fits = ended-first depth (s.start_local l) fits
  first-stmt depth (s.simple i) fits = ended-first depth (s.start_simple i) fits
  first-stmt depth (s.branch (s.chooses at c b o)) fits = refl
  first-stmt depth (s.while at c b) fits = refl
  first-stmt depth (s.for at start c step b) fits = refl
  first-stmt depth (s.return at value) fits = refl
  first-stmt depth (s.delete at pointer) fits = refl
  first-stmt depth (s.print q) fits = refl
  first-stmt depth (s.thread t) fits = refl
  first-stmt depth (s.abort at) fits = refl

  -- ---- what is shown, at each depth

  abbrev AreStmtsRead : ℕ → Type 0
  AreStmtsRead depth =
      (t : StmtTree) (rest : Tokens) → FitsStmt (grammar d) most depth t → sees_else rest ≡ false → IsRead blank_stmt (stmt most d depth) (spell_stmt (special_of d) t) (blank_stmt t) rest

  -- the words behind `if`
  abbrev spell_choice : IfTree → List Word
  spell_choice (s.chooses at c b o) = in_parentheses (spell_expr (special_of d) c) ++ (spell_block (special_of d) b ++ spell_else (special_of d) o)

  abbrev AreIfsRead : ℕ → Type 0
  AreIfsRead depth =
      (i : IfTree) (at : Place) (rest : Tokens) → FitsIf (grammar d) most depth i → sees_else rest ≡ false → IsRead blank_if (branch most d depth at) (spell_choice i) (blank_if i) rest

  -- one depth further in
  abbrev Inside : (ℕ → Type 0) → ℕ → Type 0
  Inside Holds depth = (below : ℕ) → depth ≡ suc below → Holds below

  -- ---- blocks

  read-stmts : (depth : ℕ) → AreStmtsRead depth → (xs : StmtTrees) (rest : Tokens) → FitsStmts (grammar d) most depth xs
      → IsRead (λ ys. blank_stmts (listed_stmts ys)) (braced (λ ts. stmt most d depth ts)) (spell_stmts (special_of d) xs ++ w.sign sg.CloseBrace ∷ []) (blank_stmts xs) rest
  read-stmts depth F xs rest fits =
      let special = special_of d in
      let spelled : StmtTree → List Word = λ t. spell_stmt special t in
      let blank : List StmtTree → StmtTrees = λ ys. blank_stmts (listed_stmts ys) in
      let parse : Parse Tokens StmtTree = λ ts. stmt most d depth ts in
      let close : List Word = w.sign sg.CloseBrace ∷ [] in
      let list : IsRead (map blank_stmt) (braced parse) (flat_map spelled (stmts_in xs) ++ close) (map blank_stmt (stmts_in xs)) rest =
      read-braced spelled (FitsStmt (grammar d) most depth) blank_stmt parse (λ ts. sees_else ts ≡ false) (λ t rest fits last. F t rest fits last) (λ at ts. refl)
      (λ t fits places ts. begins-else (spelled t) (first-stmt depth t fits) places ts) is_first first-not-close_brace (λ t fits. first-stmt depth t fits) (stmts_in xs) rest (each-every depth xs fits) in
      let tree = read-as (map blank_stmt) blank (braced parse) (flat_map spelled (stmts_in xs) ++ close) (map blank_stmt (stmts_in xs)) (blank_stmts xs) rest list (λ ys h. blank-listed ys ∙ ap listed_stmts h ∙ blank-in xs) in
      subst (λ words. IsRead blank (braced parse) words (blank_stmts xs) rest) (ap (λ q. q ++ close) (sym (spell_each-in xs))) tree

  read-block_of : (depth : ℕ) → Inside AreStmtsRead depth → (b : BlockTree) (rest : Tokens) → FitsBlock (grammar d) most depth b
      → IsRead blank_block (block_of (inner_stmt most d depth)) (spell_block (special_of d) b) (blank_block b) rest
  unfolding block_of
  read-block_of zero F (s.braces at stmts) rest fits = absurd (opens-none (λ below. FitsStmts (grammar d) most below stmts) fits)
  read-block_of (suc n) F (s.braces at stmts) rest fits = λ places.
      let made : Place → List StmtTree → BlockTree = λ at xs. s.braces at (listed_stmts xs) in
      read-made (λ ys. blank_stmts (listed_stmts ys)) blank_block (braced (λ ts. stmt most d n ts)) (made places.0) (spell_stmts (special_of d) stmts ++ w.sign sg.CloseBrace ∷ []) (blank_stmts stmts) (s.braces no_place (blank_stmts stmts)) rest
      (read-stmts n (F n refl) stmts rest (opens-below n (λ below. FitsStmts (grammar d) most below stmts) fits)) (λ ys h. ap (s.braces no_place) h) places.1

  -- ---- what stands in parentheses and before semicolons

  read-condition : (depth : ℕ) (c : ExprTree) (rest : Tokens) → Opens depth (λ below. FitsFull (grammar d) most below expr_level c)
      → IsRead blank_expr (condition most depth) (in_parentheses (spell_expr (special_of d) c)) (blank_expr c) rest
  unfolding condition
  read-condition depth c rest fits =
      read-in_parens blank_expr depth (λ below. full_level most below expr_level) (λ below. FitsFull (grammar d) most below expr_level c) (spell_expr (special_of d) c) (blank_expr c) rest fits
      (λ below v at. read-full (special_of d) (grammar d) (no_advice-of d) most below expr_level c (token at (w.sign sg.CloseParen) ∷ rest) v (Ends-close expr_level at rest))

  -- an expression that may be missing, before a semicolon
  read-value : (depth : ℕ) (v : Option ExprTree) (at : Place) (rest : Tokens) → Optionally (FitsFull (grammar d) most depth expr_level) v
      → IsRead (option_map blank_expr) (unless sg.Semicolon (full_level most depth expr_level)) (optional (spell_expr (special_of d)) v) (option_map blank_expr v) (token at (w.sign sg.Semicolon) ∷ rest)
  read-value depth v at rest fits =
      let end : Tokens = token at (w.sign sg.Semicolon) ∷ rest in
      read-unless blank_expr sg.Semicolon (full_level most depth expr_level) (spell_expr (special_of d)) blank_expr (FitsFull (grammar d) most depth expr_level) v at rest
      (λ t v. read-full (special_of d) (grammar d) (no_advice-of d) most depth expr_level t end v (Ends-semicolon expr_level at rest))
      (λ t v places. begins-sees is_first sg.Semicolon first-not-semicolon (spell_expr (special_of d) t) (first-expr (special_of d) t) places end) fits

  read-for_start : (below : ℕ) (x : Option StartTree) (at : Place) (rest : Tokens) → Optionally (FitsStart (grammar d) most below) x
      → IsRead (option_map blank_start) (unless sg.Semicolon (start most below)) (optional (spell_start (special_of d)) x) (option_map blank_start x) (token at (w.sign sg.Semicolon) ∷ rest)
  read-for_start below x at rest fits =
      let end : Tokens = token at (w.sign sg.Semicolon) ∷ rest in
      read-unless blank_start sg.Semicolon (start most below) (spell_start (special_of d)) blank_start (FitsStart (grammar d) most below) x at rest
      (λ x v. read-start (special_of d) (grammar d) (no_advice-of d) most below x at rest v)
      (λ x v places. begins-sees is_first sg.Semicolon first-not-semicolon (spell_start (special_of d) x) (start-first-of below x v) places end) fits

  read-for_step : (below : ℕ) (start : Option StartTree) (c : Option ExprTree) (start' : Option StartTree) (c' : Option ExprTree) (step : Option SimpleTree) (at : Place) (rest : Tokens)
      → option_map blank_start start' ≡ option_map blank_start start → option_map blank_expr c' ≡ option_map blank_expr c → Optionally (FitsSimple (grammar d) most below) step
      → IsRead blank_head (for_step most below start' c') (optional (spell_simple (special_of d)) step) (blank_head (start, (c, step))) (token at (w.sign sg.CloseParen) ∷ rest)
  unfolding for_step
  read-for_step below start c start' c' step at rest h i fits =
      let end : Tokens = token at (w.sign sg.CloseParen) ∷ rest in
      let made : Option StartTree → Option ExprTree → Option SimpleTree → ForHead = λ a b c. (a, (b, c)) in
      let parts = read-unless blank_simple sg.CloseParen (simple most below) (spell_simple (special_of d)) blank_simple (FitsSimple (grammar d) most below) step at rest
      (λ i v. read-simple (special_of d) (grammar d) (no_advice-of d) most below i end v (Ends-close expr_level at rest))
      (λ i v places. begins-sees is_first sg.CloseParen first-not-close_paren (spell_simple (special_of d) i) (start-first-of below (s.start_simple i) v) places end) fits in
      read-made (option_map blank_simple) blank_head (unless sg.CloseParen (simple most below)) (made start' c') (optional (spell_simple (special_of d)) step) (option_map blank_simple step) (blank_head (start, (c, step))) end parts
      (λ found e. ap (λ q. made q (option_map blank_expr c') (option_map blank_simple found)) h ∙ ap (λ q. made (option_map blank_start start) q (option_map blank_simple found)) i
      ∙ ap (made (option_map blank_start start) (option_map blank_expr c)) e)

  read-for_condition : (below : ℕ) (start : Option StartTree) (start' : Option StartTree) (c : Option ExprTree) (step : Option SimpleTree) (at : Place) (rest : Tokens)
      → option_map blank_start start' ≡ option_map blank_start start → Optionally (FitsFull (grammar d) most below expr_level) c → Optionally (FitsSimple (grammar d) most below) step
      → IsRead blank_head (for_condition most below start') (ended (optional (spell_expr (special_of d)) c) ++ optional (spell_simple (special_of d)) step) (blank_head (start, (c, step))) (token at (w.sign sg.CloseParen) ∷ rest)
  unfolding for_condition
  read-for_condition below start start' c step at rest h fits v =
      read-ended-then (option_map blank_expr) blank_head (unless sg.Semicolon (full_level most below expr_level)) sg.Semicolon (for_step most below start') (optional (spell_expr (special_of d)) c)
      (optional (spell_simple (special_of d)) step) (option_map blank_expr c) (blank_head (start, (c, step))) (token at (w.sign sg.CloseParen) ∷ rest)
      (λ at ts. read-value below c at ts fits) (λ found e. read-for_step below start c start' found step at rest h e v)

  read-for_head : (below : ℕ) (start : Option StartTree) (c : Option ExprTree) (step : Option SimpleTree) (at : Place) (rest : Tokens)
      → Optionally (FitsStart (grammar d) most below) start → Optionally (FitsFull (grammar d) most below expr_level) c → Optionally (FitsSimple (grammar d) most below) step
      → IsRead blank_head (for_head most below) (ended (optional (spell_start (special_of d)) start) ++ (ended (optional (spell_expr (special_of d)) c) ++ optional (spell_simple (special_of d)) step))
      (blank_head (start, (c, step))) (token at (w.sign sg.CloseParen) ∷ rest)
  unfolding for_head
  read-for_head below x c step at rest u v q =
      read-ended-then (option_map blank_start) blank_head (unless sg.Semicolon (start most below)) sg.Semicolon (for_condition most below) (optional (spell_start (special_of d)) x)
      (ended (optional (spell_expr (special_of d)) c) ++ optional (spell_simple (special_of d)) step) (option_map blank_start x) (blank_head (x, (c, step))) (token at (w.sign sg.CloseParen) ∷ rest)
      (λ at ts. read-for_start below x at ts u) (λ found e. read-for_condition below x found c step at rest e v q)

  read-return : (depth : ℕ) (from at : Place) (v : Option ExprTree) (rest : Tokens) → Optionally (FitsFull (grammar d) most depth expr_level) v
      → IsRead blank_stmt (return_stmt most depth from) (ended (optional (spell_expr (special_of d)) v)) (blank_stmt (s.return at v)) rest
  unfolding return_stmt
  read-return depth from at v rest fits =
      read-ended (option_map blank_expr) blank_stmt (unless sg.Semicolon (full_level most depth expr_level)) sg.Semicolon (s.return from) (optional (spell_expr (special_of d)) v) (option_map blank_expr v) (blank_stmt (s.return at v)) rest
      (λ at. read-value depth v at rest fits) (λ found e. ap (s.return no_place) e)

  read-delete : (depth : ℕ) (from at : Place) (t : ExprTree) (rest : Tokens) → FitsFull (grammar d) most depth expr_level t
      → IsRead blank_stmt (delete_stmt most depth from) (ended (spell_expr (special_of d) t)) (blank_stmt (s.delete at t)) rest
  unfolding delete_stmt
  read-delete depth from at t rest fits =
      read-ended blank_expr blank_stmt (full_level most depth expr_level) sg.Semicolon (s.delete from) (spell_expr (special_of d) t) (blank_expr t) (blank_stmt (s.delete at t)) rest
      (λ at. read-full (special_of d) (grammar d) (no_advice-of d) most depth expr_level t (token at (w.sign sg.Semicolon) ∷ rest) fits (Ends-semicolon expr_level at rest)) (λ found e. ap (s.delete no_place) e)

  read-start_stmt : (depth : ℕ) (x : StartTree) (rest : Tokens) → FitsStart (grammar d) most depth x → IsRead blank_stmt (start_stmt most depth) (ended (spell_start (special_of d) x)) (blank_stmt (stmt_of x)) rest
  read-start_stmt depth x rest fits =
      read-ended blank_start blank_stmt (start most depth) sg.Semicolon stmt_of (spell_start (special_of d) x) (blank_start x) (blank_stmt (stmt_of x)) rest
      (λ at. read-start (special_of d) (grammar d) (no_advice-of d) most depth x at rest fits) (λ found e. blank-stmt_of found ∙ ap stmt_of e ∙ sym (blank-stmt_of x))

  -- behind `else`, at an `if`
  read-else_if : (depth : ℕ) → Inside AreIfsRead depth → (i : IfTree) (at : Place) (t : Placed Word) (rest : Tokens) → Opens depth (λ below. FitsIf (grammar d) most below i) → sees_else rest ≡ false
      → (places : PlacesOf (spell_choice i)) → (found : ElseTree) × (blank_else found ≡ blank_else (s.else_if i))
      × (opened (inner_branch most d depth) (λ p ts. and_then (p at ts) (λ i. done (s.else_if i))) (t ∷ laid (spell_choice i) places rest) ≡ done found rest)
  read-else_if zero B i at t rest fits last places = absurd (opens-none (λ below. FitsIf (grammar d) most below i) fits)
  read-else_if (suc n) B i at t rest fits last places =
      let r = B n refl i at rest (opens-below n (λ below. FitsIf (grammar d) most below i) fits) last places in
      (s.else_if r.0, ap s.else_if r.1, ap (λ o. and_then o (λ i. done (s.else_if i))) r.2)

  -- ---- the rules

  abbrev by_depth : ℕ → Parse Tokens StmtTree
  by_depth depth = stmt_of_depth most d depth (inner_stmt most d depth) (inner_branch most d depth)

  module _ (depth : ℕ) (F : Inside AreStmtsRead depth) (B : Inside AreIfsRead depth) where
    abbrev IsByDepth : List Word → StmtTree → Tokens → Type 0
    IsByDepth words t rest = IsRead blank_stmt (by_depth depth) words (blank_stmt t) rest

    stmt-start : (ts : Tokens) → begins is_start_first (words_of ts) ≡ true → behind_name (is_sign sg.ColonColon) (words_of ts) ≡ false → by_depth depth ts ≡ start_stmt most depth ts
    unfolding stmt_of_depth name_stmt start
    stmt-start [] h i = cc
    stmt-start (t ∷ ts) h i = by_word t.at t.item h i
      where
        by_word : (at : Place) (word : Word) → is_start_first word ≡ true → behind_name (is_sign sg.ColonColon) (word ∷ words_of ts) ≡ false → by_depth depth (token at word ∷ ts) ≡ start_stmt most depth (token at word ∷ ts)
        by_word at (w.name n) h i = rw (behind-sees sg.ColonColon n ts i) refl
        by_word at (w.sign sg.ColonColon) h i = refl
        by_word at (w.sign sg.PlusPlus) h i = refl
        by_word at (w.sign sg.MinusMinus) h i = refl
        by_word at (w.sign _) h i = cc
        by_word at (w.keyword (k.Number kind)) h i = refl
        by_word at (w.keyword k.Int) h i = refl
        by_word at (w.keyword k.Unsigned) h i = refl
        by_word at (w.keyword k.Void) h i = refl
        by_word at (w.keyword k.This) h i = refl
        by_word at (w.keyword _) h i = cc
        by_word at _ h i = cc

    start-by_depth : (x : StartTree) (rest : Tokens) → FitsStart (grammar d) most depth x → IsByDepth (ended (spell_start (special_of d) x)) (stmt_of x) rest
    start-by_depth x rest fits places =
        let part : List Word = spell_start (special_of d) x in
        let end : List Word = w.sign sg.Semicolon ∷ [] in
        let r = read-start_stmt depth x rest fits places in
        let first : begins is_start_first (ended part) ≡ true = begins-append is_start_first part end (first-start (special_of d) (grammar d) (no_advice-of d) most depth x fits) in
        let second : behind_name (is_sign sg.ColonColon) (words_of (laid (ended part) places rest)) ≡ false =
        ap (behind_name (is_sign sg.ColonColon)) (words-laid (ended part) places rest ∙ append_assoc part end (words_of rest))
        ∙ behind-start (special_of d) (grammar d) (no_advice-of d) most depth x fits (end ++ words_of rest) in
        (r.0, r.1, stmt-start (laid (ended part) places rest) (begins-laid is_start_first (ended part) first places rest) second ∙ r.2)

    stmt-std : (p q : Place) (ts : Tokens) → by_depth depth (token p (w.name d.std.0) ∷ token q (w.sign sg.ColonColon) ∷ ts) ≡ and_then (std_stmt most d depth p ts) (ended_by sg.Semicolon)
    unfolding stmt_of_depth name_stmt
    stmt-std p q ts = rw (eq-eqb d.std.0 d.std.0 refl) refl

    std-by_depth : (words : List Word) (t : StmtTree) (rest : Tokens) → ((from at : Place) → IsStdRead d most depth apart from words t (token at (w.sign sg.Semicolon) ∷ rest))
        → IsByDepth (w.name d.std.0 ∷ w.sign sg.ColonColon ∷ ended words) t rest
    std-by_depth words t rest R places =
        let r = read-ended blank_stmt blank_stmt (std_stmt most d depth places.0) sg.Semicolon (λ q. q) words (blank_stmt t) (blank_stmt t) rest (R places.0) (λ found e. e) places.1.1 in
        (r.0, r.1, stmt-std places.0 places.1.0 (laid (ended words) places.1.1 rest) ∙ r.2)

    abbrev inner : Option (Parse Tokens StmtTree)
    inner = inner_stmt most d depth

    abbrev inner_if : Option (Place → Parse Tokens IfTree)
    inner_if = inner_branch most d depth

    read-otherwise : (o : ElseTree) (rest : Tokens) → FitsElse (grammar d) most depth o → sees_else rest ≡ false
        → IsRead blank_else (otherwise most d depth inner inner_if) (spell_else (special_of d) o) (blank_else o) rest
    unfolding otherwise
    read-otherwise s.no_else rest fits last places = (s.no_else, refl, rw last refl)
    read-otherwise (s.else_if (s.chooses at c b o)) rest fits last places = read-else_if depth B (s.chooses at c b o) places.1.0 (token places.1.0 (w.keyword k.If)) rest fits last places.1.1
    read-otherwise (s.else_block (s.braces at stmts)) rest fits last places =
        let b : BlockTree = s.braces at stmts in
        read-made blank_block blank_else (block_of inner) s.else_block (spell_block (special_of d) b) (blank_block b) (s.else_block (blank_block b)) rest (read-block_of depth F b rest fits) (λ found e. ap s.else_block e) places.1

    read-branch_of : (i : IfTree) (from : Place) (rest : Tokens) → FitsIf (grammar d) most depth i → sees_else rest ≡ false
        → IsRead blank_if (branch_of most d depth inner inner_if from) (spell_choice i) (blank_if i) rest
    unfolding branch_of
    read-branch_of (s.chooses at c b o) from rest fits last =
        let made : ExprTree → BlockTree → ElseTree → IfTree = λ c b o. s.chooses from c b o in
        let blank : ExprTree → BlockTree → ElseTree → IfTree = λ c b o. s.chooses no_place c b o in
        let whole : IfTree = blank_if (s.chooses at c b o) in
        let block_words : List Word = spell_block (special_of d) b in
        let else_words : List Word = spell_else (special_of d) o in
        let behind : ExprTree → BlockTree → Parse Tokens IfTree = λ c b ts. and_then (otherwise most d depth inner inner_if ts) (λ o. done (made c b o)) in
        read-then blank_expr blank_if (condition most depth) (λ c ts. and_then (block_of inner ts) (behind c)) (in_parentheses (spell_expr (special_of d) c)) (block_words ++ else_words) (blank_expr c) whole rest
        (λ places. read-condition depth c (laid (block_words ++ else_words) places rest) fits.0)
        (λ c' h. read-then blank_block blank_if (block_of inner) (behind c') block_words else_words (blank_block b) whole rest
        (λ places. read-block_of depth F b (laid else_words places rest) fits.1)
        (λ b' i. read-made blank_else blank_if (otherwise most d depth inner inner_if) (made c' b') else_words (blank_else o) whole rest (read-otherwise o rest fits.2 last)
        (λ o' j. ap (λ q. blank q (blank_block b') (blank_else o')) h ∙ ap (λ q. blank (blank_expr c) q (blank_else o')) i ∙ ap (blank (blank_expr c) (blank_block b)) j)))

    read-while_of : (from at : Place) (c : ExprTree) (b : BlockTree) (rest : Tokens) → Opens depth (λ below. FitsFull (grammar d) most below expr_level c) → FitsBlock (grammar d) most depth b
        → IsRead blank_stmt (while_of most d depth inner inner_if from) (in_parentheses (spell_expr (special_of d) c) ++ spell_block (special_of d) b) (blank_stmt (s.while at c b)) rest
    unfolding while_of
    read-while_of from at c b rest u v =
        let words : List Word = spell_block (special_of d) b in
        let made : ExprTree → BlockTree → StmtTree = λ c b. s.while from c b in
        read-then blank_expr blank_stmt (condition most depth) (λ c ts. and_then (block_of inner ts) (λ b. done (made c b))) (in_parentheses (spell_expr (special_of d) c)) words (blank_expr c) (blank_stmt (s.while at c b)) rest
        (λ places. read-condition depth c (laid words places rest) u)
        (λ c' h. read-made blank_block blank_stmt (block_of inner) (made c') words (blank_block b) (blank_stmt (s.while at c b)) rest (read-block_of depth F b rest v)
        (λ b' i. ap (λ q. s.while no_place q (blank_block b')) h ∙ ap (s.while no_place (blank_expr c)) i))

    abbrev spell_head : Option StartTree → Option ExprTree → Option SimpleTree → List Word
    spell_head x c step = ended (optional (spell_start (special_of d)) x) ++ (ended (optional (spell_expr (special_of d)) c) ++ optional (spell_simple (special_of d)) step)

    abbrev FitsHead : Option StartTree → Option ExprTree → Option SimpleTree → ℕ → Type 0
    FitsHead x c step below = Optionally (FitsStart (grammar d) most below) x × Optionally (FitsFull (grammar d) most below expr_level) c × Optionally (FitsSimple (grammar d) most below) step

    read-for_of : (from at : Place) (x : Option StartTree) (c : Option ExprTree) (step : Option SimpleTree) (b : BlockTree) (rest : Tokens) → Opens depth (FitsHead x c step) → FitsBlock (grammar d) most depth b
        → IsRead blank_stmt (for_of most d depth inner inner_if from) (in_parentheses (spell_head x c step) ++ spell_block (special_of d) b) (blank_stmt (s.for at x c step b)) rest
    unfolding for_of
    read-for_of from at x c step b rest u v =
        let words : List Word = spell_block (special_of d) b in
        let made : ForHead → BlockTree → StmtTree = λ h b. s.for from h.0 h.1.0 h.1.1 b in
        let blank : ForHead → BlockTree → StmtTree = λ h b. s.for no_place h.0 h.1.0 h.1.1 b in
        let head : ForHead = (x, (c, step)) in
        read-then blank_head blank_stmt (in_parens depth (for_head most)) (λ h ts. and_then (block_of inner ts) (λ b. done (made h b))) (in_parentheses (spell_head x c step)) words (blank_head head) (blank_stmt (s.for at x c step b)) rest
        (λ places. read-in_parens blank_head depth (for_head most) (FitsHead x c step) (spell_head x c step) (blank_head head) (laid words places rest) u
        (λ below h at. read-for_head below x c step at (laid words places rest) h.0 h.1 h.2))
        (λ head' h. read-made blank_block blank_stmt (block_of inner) (made head') words (blank_block b) (blank_stmt (s.for at x c step b)) rest (read-block_of depth F b rest v)
        (λ b' i. ap (λ q. blank q (blank_block b')) h ∙ ap (blank (blank_head head)) i))

    read-stmt_of_depth : (t : StmtTree) (rest : Tokens) → FitsStmt (grammar d) most depth t → sees_else rest ≡ false → IsByDepth (spell_stmt (special_of d) t) t rest
    unfolding stmt_of_depth
    read-stmt_of_depth (s.block (s.braces at stmts)) rest fits last =
        let b : BlockTree = s.braces at stmts in
        read-made blank_block blank_stmt (block_of inner) s.block (spell_block (special_of d) b) (blank_block b) (s.block (blank_block b)) rest (read-block_of depth F b rest fits) (λ found e. ap s.block e)
    read-stmt_of_depth (s.local l) rest fits last = start-by_depth (s.start_local l) rest fits
    read-stmt_of_depth (s.simple i) rest fits last = start-by_depth (s.start_simple i) rest fits
    read-stmt_of_depth (s.branch (s.chooses at c b o)) rest fits last = λ places.
        let i : IfTree = s.chooses at c b o in
        read-made blank_if blank_stmt (branch_of most d depth inner inner_if places.0) s.branch (spell_choice i) (blank_if i) (s.branch (blank_if i)) rest (read-branch_of i places.0 rest fits last) (λ found e. ap s.branch e) places.1
    read-stmt_of_depth (s.while at c b) rest fits last = λ places. read-while_of places.0 at c b rest fits.0 fits.1 places.1
    read-stmt_of_depth (s.for at x c step b) rest fits last = λ places. read-for_of places.0 at x c step b rest fits.0 fits.1 places.1
    read-stmt_of_depth (s.return at v) rest fits last = λ places. read-return depth places.0 at v rest fits places.1
    read-stmt_of_depth (s.delete at t) rest fits last = λ places. read-delete depth places.0 at t rest fits places.1
    read-stmt_of_depth (s.print q) rest fits last =
        std-by_depth (w.name d.cout.0 ∷ flat_map (spell_printed (special_of d)) q.operands) (s.print q) rest (λ from at. read-std_print d most depth apart q from at rest fits.0 fits.1)
    read-stmt_of_depth (s.thread t) rest fits last =
        std-by_depth (w.name d.thread.0 ∷ (spell_name t.name ++ in_parentheses (separated (spell_ref t.function ∷ spell_each (special_of d) t.arguments)))) (s.thread t) rest
        (λ from at. read-std_thread d most depth apart t from (token at (w.sign sg.Semicolon) ∷ rest) fits)
    read-stmt_of_depth (s.abort at) rest fits last =
        std-by_depth (w.name d.abort.0 ∷ in_parentheses []) (s.abort at) rest (λ from p. read-std_abort d most depth apart from at (token p (w.sign sg.Semicolon) ∷ rest) fits.0 fits.1)

  stmt-is : (depth : ℕ) (ts : Tokens) → stmt most d depth ts ≡ by_depth depth ts
  unfolding stmt
  stmt-is zero ts = refl
  stmt-is (suc n) ts = refl

  branch-is : (depth : ℕ) (at : Place) (ts : Tokens) → branch most d depth at ts ≡ branch_of most d depth (inner_stmt most d depth) (inner_branch most d depth) at ts
  unfolding branch
  branch-is zero at ts = refl
  branch-is (suc n) at ts = refl

  rules : (depth : ℕ) → Inside AreStmtsRead depth → Inside AreIfsRead depth → AreStmtsRead depth × AreIfsRead depth
  rules depth F B = (
    λ t rest fits last places. let r = read-stmt_of_depth depth F B t rest fits last places in (r.0, r.1, stmt-is depth (laid (spell_stmt (special_of d) t) places rest) ∙ r.2),
    λ i at rest fits last places. let r = read-branch_of depth F B i at rest fits last places in (r.0, r.1, branch-is depth at (laid (spell_choice i) places rest) ∙ r.2),
  )

  all-read : (depth : ℕ) → AreStmtsRead depth × AreIfsRead depth
  all-read zero = rules zero (λ below h. absurd (omega (arith, h))) (λ below h. absurd (omega (arith, h)))
  all-read (suc n) =
      let inside = all-read n in
      rules (suc n) (λ below h. let same : n ≡ below = omega (arith, h) in subst AreStmtsRead same inside.0) (λ below h. let same : n ≡ below = omega (arith, h) in subst AreIfsRead same inside.1)

  -- ---- what the layer above builds on

  pub read-stmt : (depth : ℕ) (t : StmtTree) (rest : Tokens) → FitsStmt (grammar d) most depth t → sees_else rest ≡ false → IsRead blank_stmt (stmt most d depth) (spell_stmt (special_of d) t) (blank_stmt t) rest
  read-stmt depth = (all-read depth).0

  pub read-block : (depth : ℕ) (b : BlockTree) (rest : Tokens) → FitsBlock (grammar d) most depth b → IsRead blank_block (block most d depth) (spell_block (special_of d) b) (blank_block b) rest
  read-block depth b rest fits = read-block_of depth (λ below h. (all-read below).0) b rest fits

  pub stmt-full : (depth : ℕ) (t : StmtTree) (front rest : Tokens) → FitsStmt (grammar d) most depth t → words_of front ≡ spell_stmt (special_of d) t → sees_else rest ≡ false
      → (t' : StmtTree) × (blank_stmt t' ≡ blank_stmt t) × (stmt most d depth (front ++ rest) ≡ done t' rest)
  stmt-full depth t front rest fits e last = read-front blank_stmt (stmt most d depth) (spell_stmt (special_of d) t) (blank_stmt t) rest (read-stmt depth t rest fits last) front e

  pub block-full : (depth : ℕ) (b : BlockTree) (front rest : Tokens) → FitsBlock (grammar d) most depth b → words_of front ≡ spell_block (special_of d) b
      → (b' : BlockTree) × (blank_block b' ≡ blank_block b) × (block most d depth (front ++ rest) ≡ done b' rest)
  block-full depth b front rest fits e = read-front blank_block (block most d depth) (spell_block (special_of d) b) (blank_block b) rest (read-block depth b rest fits) front e
