-- Statements are read right.
use Rattle.std.proofs.Common.{◌≡◌, ℕ, zero, suc, ◌≤◌, ◌<◌, Bool, true, false, nat_eq, List, [], ◌∷◌, ◌++◌, length, length-append, Option, Some, None, inl, inr, refl, sym, ap, ◌∙◌, subst, append_assoc, append-nil, arith}
use Rattle.std.specs.List.{flat_map}
use Rattle.std.proofs.lemmas.Bool.{eqb-true}
use Rattle.agxx_base.specs.declared.place.Place.{Place}
use Rattle.agxx_base.specs.declared.ids.NameId.{NameId}
use Rattle.agxx_base.specs.declared.vocabulary.Keyword.{Keyword}
use Rattle.agxx_base.specs.declared.vocabulary.Keyword.TheVariants as k
use Rattle.agxx_base.specs.declared.vocabulary.Sign.{Sign}
use Rattle.agxx_base.specs.declared.vocabulary.Sign.TheVariants as sg
use Rattle.agxx_base.specs.declared.vocabulary.SpecialName.{SpecialName}
use Rattle.agxx_base.specs.declared.vocabulary.SpecialName.TheVariants as sn
use Rattle.cxx_tree.specs.declared.node.Placed.{Placed}
use Rattle.cxx_tree.specs.declared.expr.Left.TheVariants as left_of
use Rattle.cxx_tree.specs.Words as w
use Rattle.cxx_tree.specs.Words.{Word, in_parentheses, ended, optional}
use Rattle.cxx_tree.specs.ExprTree.{ExprTree}
use Rattle.cxx_tree.specs.StmtTree as s
use Rattle.cxx_tree.specs.StmtTree.{SimpleTree, StartTree, StmtTree, BlockTree, IfTree, ElseTree, listed_stmts}
use Rattle.cxx_tree.specs.Spelling.{spell_name, spell_std, spell_expr, spell_local, spell_simple, spell_print, spell_thread, spell_start, spell_stmt, spell_stmts, spell_block, spell_else}
use Rattle.cxx_tree.specs.Limits.{Grammar, HasAdviceForms, Every}
use Rattle.cxx_tree.specs.Fits.{expr_level, Optionally, FitsFull, FitsStart, FitsStmt, FitsStmts, FitsBlock, FitsIf, FitsElse}
use Rattle.cxx_tree.proofs.Larger.{stmts-larger, if-larger}
use Rattle.cxx_expr.specs.Tokens.{Tokens, sees, after}
use Rattle.cxx_expr.specs.Outcome.{done, Parse, and_then}
use Rattle.cxx_expr.specs.Full.{full_level}
use Rattle.cxx_expr.proofs.Good.{Goods, head, sees-head}
use Rattle.cxx_expr.proofs.States.{tokens}
use Rattle.cxx_stmt.specs.declared.dialect.Dialect.{Dialect}
use Rattle.cxx_stmt.specs.Dialect.{special_of, grammar}
use Rattle.cxx_stmt.specs.Parts.{ended_by, braced}
use Rattle.cxx_stmt.specs.Simples.{plain_ref, start}
use Rattle.cxx_stmt.specs.Streams.{std_stmt}
use Rattle.cxx_stmt.specs.Statements.{is_else, sees_else, if_word, if_at, stmt_of, ended_start, block_by, block_of, start_stmt, condition, for_step, for_condition, for_head, return_stmt, delete_stmt, behind_else, otherwise, branch_of, while_of, for_of, keyword_stmt, std_by, name_stmt, sign_stmt, stmt_at, stmt_next, stmt_of_depth, stmt, branch, inner_stmt, inner_branch, block}
use Rattle.cxx_stmt.proofs.Sorts as kind
use Rattle.cxx_stmt.proofs.Sorts.{Kind, sort, Begins, parens, maybe, blocks_of}
use Rattle.cxx_stmt.proofs.GoodParts.{Here, Behind, goods, here_kind, here_same, here_look, here_if, here_map, here_past, here_sign, behind_done, behind_fail, behind_part, behind_through, behind_made, behind_map, behind_two, behind_three, behind_next, behind_at, behind_sign, behind_ended, behind_ended_then, behind_unless, behind_parens}
use Rattle.cxx_stmt.proofs.GoodLists.{good_braced}
use Rattle.cxx_stmt.proofs.GoodArguments.{good_expr}
use Rattle.cxx_stmt.proofs.GoodSimples.{good_simple, good_start, good_start_behind}
use Rattle.cxx_stmt.proofs.Modes.{no_advice-of}
use Rattle.cxx_stmt.proofs.GoodStreams.{unended, unended-spelled, good_std_stmt}

-- ---- words

else-head : (a b : Tokens) → head a ≡ head b → sees_else a ≡ sees_else b
else-head [] [] e = refl
else-head [] (y ∷ b) e = cc
else-head (x ∷ a) [] e = cc
else-head (x ∷ a) (y ∷ b) e = let i : x ≡ y = cc in ap (λ (t : Placed Word). is_else t.item) i

else-is : (ts : Tokens) → sees_else ts ≡ true → (at : Place) × (ts ≡ record { at = at; item = w.keyword k.Else } ∷ after ts)
else-is [] e = cc
else-is (t ∷ ts) e = by_word t.at t.item e
  where
    by_word : (at : Place) (word : Word) → is_else word ≡ true → (at' : Place) × (record { at = at; item = word } ∷ ts ≡ record { at = at'; item = w.keyword k.Else } ∷ ts)
    by_word at (w.keyword k.Else) e = (at, refl)
    by_word at _ e = cc

if-head : (a b : Tokens) → head a ≡ head b → if_at a ≡ if_at b
if-head [] [] e = refl
if-head [] (y ∷ b) e = cc
if-head (x ∷ a) [] e = cc
if-head (x ∷ a) (y ∷ b) e = let i : x ≡ y = cc in ap (λ (t : Placed Word). if_word t.at t.item) i

if-is : (ts : Tokens) (at : Place) → if_at ts ≡ Some at → ts ≡ record { at = at; item = w.keyword k.If } ∷ after ts
if-is [] at e = cc
if-is (t ∷ ts) at e = by_word t.at t.item e
  where
    by_word : (here : Place) (word : Word) → if_word here word ≡ Some at → record { at = here; item = word } ∷ ts ≡ record { at = at; item = w.keyword k.If } ∷ ts
    by_word here (w.keyword k.If) e = let i : here ≡ at = cc in ap (λ (q : Place). record { at = q; item = w.keyword k.If } ∷ ts) i
    by_word here _ e = cc

module _ (special : SpecialName → ℕ) (g : Grammar) where
  -- ---- trees

  stmt_of-spelled : (x : StartTree) → spell_stmt special (stmt_of x) ≡ spell_start special x ++ w.sign sg.Semicolon ∷ []
  stmt_of-spelled (s.start_local l) = refl
  stmt_of-spelled (s.start_simple i) = refl

  stmt_of-fits : (m n : ℕ) (x : StartTree) → FitsStart g m n x → FitsStmt g m n (stmt_of x)
  stmt_of-fits m n (s.start_local l) v = v
  stmt_of-fits m n (s.start_simple i) v = v

  stmts-spelled : (xs : List StmtTree) → spell_stmts special (listed_stmts xs) ≡ flat_map (spell_stmt special) xs
  stmts-spelled [] = refl
  stmts-spelled (x ∷ xs) = ap (λ q. spell_stmt special x ++ q) (stmts-spelled xs)

  stmts-fit : (m n : ℕ) (xs : List StmtTree) → Every (FitsStmt g m n) xs → FitsStmts g m n (listed_stmts xs)
  stmts-fit m n [] v = tt
  stmts-fit m n (x ∷ xs) v = (v.0, stmts-fit m n xs v.1)

  ended-eats : (part : List Word) → 0 < length (ended part)
  ended-eats part = omega (arith, length-append part (w.sign sg.Semicolon ∷ []))

  if-eats : (i : IfTree) → 0 < length ((kind.ifs special g).spelled i)
  if-eats (s.chooses at c b o) = omega arith

  block-eats : (b : BlockTree) → 0 < length (spell_block special b)
  block-eats (s.braces at xs) = omega arith

  stmt-eats : (t : StmtTree) → 0 < length (spell_stmt special t)
  stmt-eats (s.block b) = block-eats b
  stmt-eats (s.local l) = ended-eats (spell_local special l)
  stmt-eats (s.simple i) = ended-eats (spell_simple special i)
  stmt-eats (s.branch i) = if-eats i
  stmt-eats (s.while at c b) = omega arith
  stmt-eats (s.for at start c step b) = omega arith
  stmt-eats (s.return at v) = omega arith
  stmt-eats (s.delete at v) = omega arith
  stmt-eats (s.print q) = ended-eats (spell_print special q)
  stmt-eats (s.thread t) = ended-eats (spell_thread special t)
  stmt-eats (s.abort at) = ended-eats (spell_std special sn.Abort ++ in_parentheses [])

  -- a block by what stands in its braces, at the depth there
  abbrev FitInside : ℕ → ℕ → BlockTree → Type 0
  FitInside m n (s.braces at xs) = FitsStmts g m n xs

  inside-larger : (m more : ℕ) → m ≤ more → (n deeper : ℕ) → n ≤ deeper → (b : BlockTree) → FitInside m n b → FitInside more deeper b
  inside-larger m more le n deeper le' (s.braces at xs) v = stmts-larger g m more le n deeper le' xs v

  abbrev insides : Kind BlockTree
  insides = record {
    spelled = spell_block special;
    Fits = FitInside;
    grows = λ m more n deeper le le' b v. inside-larger m more le n deeper le' b v;
    least = kind.empty_block special g;
    is_least = (0, 0, tt);
  }

  inside-fits : (m n : ℕ) (b : BlockTree) → FitInside m n b → FitsBlock g m (suc n) b
  inside-fits m n (s.braces at xs) v = (n, refl, v)

  -- `else if` by what stands behind `else`, at the depth there
  abbrev FitBranch : ℕ → ℕ → ElseTree → Type 0
  FitBranch m n s.no_else = ⊥
  FitBranch m n (s.else_if i) = FitsIf g m n i
  FitBranch m n (s.else_block b) = ⊥

  branch-larger : (m more : ℕ) → m ≤ more → (n deeper : ℕ) → n ≤ deeper → (t : ElseTree) → FitBranch m n t → FitBranch more deeper t
  branch-larger m more le n deeper le' s.no_else v = v
  branch-larger m more le n deeper le' (s.else_if i) v = if-larger g m more le n deeper le' i v
  branch-larger m more le n deeper le' (s.else_block b) v = v

  abbrev branches : Kind ElseTree
  branches = record {
    spelled = spell_else special;
    Fits = FitBranch;
    grows = λ m more n deeper le le' t v. branch-larger m more le n deeper le' t v;
    least = s.else_if (kind.ifs special g).least;
    is_least = (kind.ifs special g).is_least;
  }

  branch-fits : (m n : ℕ) (t : ElseTree) → FitBranch m n t → FitsElse g m (suc n) t
  branch-fits m n s.no_else v = absurd v
  branch-fits m n (s.else_if i) v = (n, refl, v)
  branch-fits m n (s.else_block b) v = absurd v

  -- ---- a semicolon behind what was read

  good_ended_start : {pre : List Word} {most depth : ℕ} {p p' : Parse Tokens StartTree} → Behind pre (kind.starts special g) most depth p p'
      → Behind pre (kind.stmts special g) most depth (λ ts. and_then (p ts) ended_start) (λ ts. and_then (p' ts) ended_start)
  good_ended_start {most = most} {depth = depth} G =
      behind_through (kind.starts special g)
      (λ m n le le' x v. (stmt_of x, w.sign sg.Semicolon ∷ [], (m, n, stmt_of-fits m n x v), stmt_of-spelled x)) G
      (λ x v. behind_ended sg.Semicolon (stmt_of x) (stmt_of-fits most depth x v) (stmt_of-spelled x))

  module _ (no_advice : HasAdviceForms g → ⊥) (most more : ℕ) (le : most ≤ more) where
    abbrev fulls : Kind ExprTree
    fulls = kind.fulls special g expr_level

    good_condition : (depth deeper : ℕ) → depth ≤ deeper → Behind [] (parens fulls) most depth (condition most depth) (condition more deeper)
    unfolding condition
    good_condition depth deeper le' =
        behind_parens {K = fulls} (λ below. full_level most below expr_level) (λ below. full_level more below expr_level) le'
        (λ below under i i' le''. good_expr special g no_advice most more below under le le'' expr_level)

    module _ (depth deeper : ℕ) (le' : depth ≤ deeper) where
      good_any_expr : Behind [] fulls most depth (full_level most depth expr_level) (full_level more deeper expr_level)
      good_any_expr = good_expr special g no_advice most more depth deeper le le' expr_level

      -- ---- the head of a `for`

      abbrev ended_start_words : Option StartTree → List Word
      ended_start_words start = ended (optional (spell_start special) start)

      abbrev ended_condition_words : Option ExprTree → List Word
      ended_condition_words condition = ended (optional (spell_expr special) condition)

      good_for_step : (start : Option StartTree) (condition : Option ExprTree) → Optionally (FitsStart g most depth) start → Optionally (FitsFull g most depth expr_level) condition
          → Behind (ended_start_words start ++ ended_condition_words condition) (kind.heads special g) most depth (for_step most depth start condition) (for_step more deeper start condition)
      unfolding for_step
      good_for_step start condition u v =
          behind_map (maybe (kind.simples special g)) (λ step. (start, (condition, step)))
          (λ m n le le' step x. ((maybe (kind.starts special g)).grows most m depth n le le' start u, (maybe fulls).grows most m depth n le le' condition v, x))
          (λ step. sym (append_assoc (ended_start_words start) (ended_condition_words condition) (optional (spell_simple special) step)))
          (behind_unless sg.CloseParen (good_simple special g no_advice most more depth deeper le le'))

      -- a head that ends with its condition
      condition-text : (start : Option StartTree) (condition : Option ExprTree)
          → ended_start_words start ++ (ended_condition_words condition ++ []) ≡ (ended_start_words start ++ optional (spell_expr special) condition) ++ w.sign sg.Semicolon ∷ []
      condition-text start condition =
          ap (λ q. ended_start_words start ++ q) (append-nil (ended_condition_words condition)) ∙ sym (append_assoc (ended_start_words start) (optional (spell_expr special) condition) (w.sign sg.Semicolon ∷ []))

      good_for_condition : (start : Option StartTree) → Optionally (FitsStart g most depth) start
          → Behind (ended_start_words start) (kind.heads special g) most depth (for_condition most depth start) (for_condition more deeper start)
      unfolding for_condition
      good_for_condition start u =
          behind_part (maybe fulls)
          (λ m n le le' condition v. (
            (start, (condition, None)),
            w.sign sg.Semicolon ∷ [],
            (m, n, ((maybe (kind.starts special g)).grows most m depth n le le' start u, v, tt)),
            condition-text start condition,
          ))
          (behind_unless sg.Semicolon good_any_expr)
          (λ condition v. behind_ended_then sg.Semicolon condition
          ((start, (condition, None)), [], (most, depth, (u, v, tt)), condition-text start condition ∙ sym (append-nil ((ended_start_words start ++ optional (spell_expr special) condition) ++ w.sign sg.Semicolon ∷ [])))
          (λ ts. subst (λ pre. Here pre (kind.heads special g) most depth (for_step most depth start condition) (for_step more deeper start condition) ts)
          (sym (append_assoc (ended_start_words start) (optional (spell_expr special) condition) (w.sign sg.Semicolon ∷ []))) (good_for_step start condition u v ts)))

      good_for_head : Behind [] (kind.heads special g) most depth (for_head most depth) (for_head more deeper)
      unfolding for_head
      good_for_head =
          behind_part (maybe (kind.starts special g))
          (λ m n le le' start u. (
            (start, (None, None)),
            w.sign sg.Semicolon ∷ w.sign sg.Semicolon ∷ [],
            (m, n, (u, tt, tt)),
            append_assoc (optional (spell_start special) start) (w.sign sg.Semicolon ∷ []) (w.sign sg.Semicolon ∷ []),
          ))
          (behind_unless sg.Semicolon (good_start special g no_advice most more depth deeper le le'))
          (λ start u. behind_ended_then sg.Semicolon start ((start, (None, None)), w.sign sg.Semicolon ∷ [], (most, depth, (u, tt, tt)), refl) (good_for_condition start u))

      -- ---- statements without statements in them

      good_start_stmt : Behind [] (kind.stmts special g) most depth (start_stmt most depth) (start_stmt more deeper)
      good_start_stmt = good_ended_start (good_start special g no_advice most more depth deeper le le')

      good_return : (at : Place) → Behind (w.keyword k.Return ∷ []) (kind.stmts special g) most depth (return_stmt most depth at) (return_stmt more deeper at)
      unfolding return_stmt
      good_return at =
          behind_two (maybe fulls) (kind.signs sg.Semicolon) (λ v u. s.return at v) (λ m n le le' v u x y. x) (λ v u. refl) (behind_unless sg.Semicolon good_any_expr) (behind_sign sg.Semicolon)

      good_delete : (at : Place) → Behind (w.keyword k.Delete ∷ []) (kind.stmts special g) most depth (delete_stmt most depth at) (delete_stmt more deeper at)
      unfolding delete_stmt
      good_delete at = behind_two fulls (kind.signs sg.Semicolon) (λ v u. s.delete at v) (λ m n le le' v u x y. x) (λ v u. refl) good_any_expr (behind_sign sg.Semicolon)

-- ---- statements with statements in them

-- What stands one depth further in is read right, and a deeper parser reads it again.
abbrev IsInner : {P : Type 0} → (ℕ → P → P → Type 0) → ℕ → Option P → Option P → Type 0
IsInner Holds depth None q = Unit {0}
IsInner Holds depth (Some p) None = ⊥
IsInner Holds depth (Some p) (Some p') = (below : ℕ) × (depth ≡ suc below) × Holds below p p'

module _ (d : Dialect) (most more : ℕ) (le : most ≤ more) where
  abbrev special : SpecialName → ℕ
  special = special_of d

  abbrev g : Grammar
  g = grammar d

  abbrev none : HasAdviceForms g → ⊥
  none = no_advice-of d

  abbrev GoodStmt : ℕ → Parse Tokens StmtTree → Parse Tokens StmtTree → Type 0
  GoodStmt below p p' = Behind [] (kind.stmts special g) most below p p'

  abbrev GoodIf : ℕ → (Place → Parse Tokens IfTree) → (Place → Parse Tokens IfTree) → Type 0
  GoodIf below p p' = (at : Place) → Behind (w.keyword k.If ∷ []) (kind.ifs special g) most below (p at) (p' at)

  module _ (depth : ℕ) (inner inner' : Option (Parse Tokens StmtTree)) (is : IsInner GoodStmt depth inner inner') where
    good_braces : (at : Place) (below : ℕ) (p p' : Parse Tokens StmtTree) → GoodStmt below p p'
        → Behind (w.sign sg.OpenBrace ∷ []) (insides special g) most below (λ ts. and_then (braced p ts) (λ xs. done (s.braces at (listed_stmts xs)))) (λ ts. and_then (braced p' ts) (λ xs. done (s.braces at (listed_stmts xs))))
    good_braces at below p p' G =
        behind_map (blocks_of (kind.stmts special g)) (λ xs. s.braces at (listed_stmts xs)) (λ m n le le' xs v. stmts-fit special g m n xs v)
        (λ xs. ap (λ q. w.sign sg.OpenBrace ∷ (q ++ w.sign sg.CloseBrace ∷ [])) (stmts-spelled special g xs))
        (good_braced (kind.stmts special g) most below p p' (λ t v. stmt-eats special g t) G)

    good_block_at : (inner inner' : Option (Parse Tokens StmtTree)) → IsInner GoodStmt depth inner inner' → (at : Place) (ts : Tokens)
        → Here [] (kind.blocks special g) most depth (block_by inner (Some at)) (block_by inner' (Some at)) (record { at = at; item = w.sign sg.OpenBrace } ∷ ts)
    good_block_at None q is at ts = record { good = tt }
    good_block_at (Some p) None is at ts = absurd is
    good_block_at (Some p) (Some p') is at ts =
        here_past (record { at = at; item = w.sign sg.OpenBrace })
        (here_kind (λ b v. subst (λ n. FitsBlock g most n b) (sym is.1) (inside-fits special g most is.0 b v)) (λ b v. (v.0, suc v.1, inside-fits special g v.0 v.1 b v.2)) (λ b. refl)
        (good_braces at is.0 p p' is.2 ts))

    good_block_of : Behind [] (kind.blocks special g) most depth (block_of inner) (block_of inner')
    unfolding block_of
    good_block_of = behind_at sg.OpenBrace (block_by inner) (block_by inner') (λ at ts. good_block_at inner inner' is at ts) (behind_fail (inl refl))

    module _ (deeper : ℕ) (le' : depth ≤ deeper) (inner_if inner_if' : Option (Place → Parse Tokens IfTree)) (is_if : IsInner GoodIf depth inner_if inner_if') where
      -- ---- behind `else`

      good_else_block : Behind (w.keyword k.Else ∷ []) (kind.elses special g) most depth (behind_else most d depth inner inner_if None) (behind_else more d deeper inner' inner_if' None)
      good_else_block = behind_map (kind.blocks special g) s.else_block (λ m n le le' b v. v) (λ b. refl) good_block_of

      good_else_if : (inner_if inner_if' : Option (Place → Parse Tokens IfTree)) → IsInner GoodIf depth inner_if inner_if' → (at : Place) (ts : Tokens)
          → Here (w.keyword k.Else ∷ []) (kind.elses special g) most depth (behind_else most d depth inner inner_if (Some at)) (behind_else more d deeper inner' inner_if' (Some at)) (record { at = at; item = w.keyword k.If } ∷ ts)
      good_else_if None q is at ts = record { good = tt }
      good_else_if (Some p) None is at ts = absurd is
      good_else_if (Some p) (Some p') is at ts =
          here_kind {KA = branches special g} (λ t v. subst (λ n. FitsElse g most n t) (sym is.1) (branch-fits special g most is.0 t v)) (λ t v. (v.0, suc v.1, branch-fits special g v.0 v.1 t v.2)) (λ t. refl)
          (here_map (kind.ifs special g) {depth = is.0} s.else_if (λ m n le le' i v. v) (λ i. refl) (here_past (record { at = at; item = w.keyword k.If }) (is.2 at ts)))

      good_behind_else : Behind (w.keyword k.Else ∷ []) (kind.elses special g) most depth (λ ts. behind_else most d depth inner inner_if (if_at ts) ts) (λ ts. behind_else more d deeper inner' inner_if' (if_at ts) ts)
      good_behind_else ts = go (if_at ts) refl
        where
          rule : Option Place → Parse Tokens ElseTree
          rule = behind_else most d depth inner inner_if

          rule' : Option Place → Parse Tokens ElseTree
          rule' = behind_else more d deeper inner' inner_if'

          go : (o : Option Place) → if_at ts ≡ o → Here (w.keyword k.Else ∷ []) (kind.elses special g) most depth (λ ts. rule (if_at ts) ts) (λ ts. rule' (if_at ts) ts) ts
          go None i = here_look if_at if-head rule rule' None i (good_else_block ts)
          go (Some at) i =
              here_look if_at if-head rule rule' (Some at) i
              (subst (Here (w.keyword k.Else ∷ []) (kind.elses special g) most depth (rule (Some at)) (rule' (Some at))) (sym (if-is ts at i)) (good_else_if inner_if inner_if' is_if at (after ts)))

      good_otherwise : Behind [] (kind.elses special g) most depth (otherwise most d depth inner inner_if) (otherwise more d deeper inner' inner_if')
      unfolding otherwise
      good_otherwise ts =
          here_if sees_else else-head
          (λ i. let e = else-is ts i in
          subst (Here [] (kind.elses special g) most depth (λ ts. behind_else most d depth inner inner_if (if_at (after ts)) (after ts)) (λ ts. behind_else more d deeper inner' inner_if' (if_at (after ts)) (after ts))) (sym e.1)
          (here_past (record { at = e.0; item = w.keyword k.Else }) (good_behind_else (after ts))))
          (λ i. behind_done s.no_else tt refl ts)

      -- ---- the rules

      good_branch_of : (at : Place) → Behind (w.keyword k.If ∷ []) (kind.ifs special g) most depth (branch_of most d depth inner inner_if at) (branch_of more d deeper inner' inner_if' at)
      unfolding branch_of
      good_branch_of at =
          behind_three (parens (fulls special g none most more le)) (kind.blocks special g) (kind.elses special g) (λ c b o. s.chooses at c b o) (λ m n le le' c b o u v x. (u, v, x)) (λ c b o. refl)
          (good_condition special g none most more le depth deeper le') good_block_of good_otherwise

      good_while : (at : Place) → Behind (w.keyword k.While ∷ []) (kind.stmts special g) most depth (while_of most d depth inner inner_if at) (while_of more d deeper inner' inner_if' at)
      unfolding while_of
      good_while at =
          behind_two (parens (fulls special g none most more le)) (kind.blocks special g) (λ c b. s.while at c b) (λ m n le le' c b u v. (u, v)) (λ c b. refl)
          (good_condition special g none most more le depth deeper le') good_block_of

      good_for : (at : Place) → Behind (w.keyword k.For ∷ []) (kind.stmts special g) most depth (for_of most d depth inner inner_if at) (for_of more d deeper inner' inner_if' at)
      unfolding for_of
      good_for at =
          behind_two (parens (kind.heads special g)) (kind.blocks special g) (λ h b. s.for at h.0 h.1.0 h.1.1 b) (λ m n le le' h b u v. (u, v)) (λ h b. refl)
          (behind_parens {K = kind.heads special g} (for_head most) (for_head more) le' (λ below under i i' le''. good_for_head special g none most more le below under le'')) good_block_of

      good_plain : Behind [] (kind.stmts special g) most depth (start_stmt most depth) (start_stmt more deeper)
      good_plain = good_start_stmt special g none most more le depth deeper le'

      good_keyword : (at : Place) (word : Keyword) (ts : Tokens)
          → Here [] (kind.stmts special g) most depth (keyword_stmt most d depth inner inner_if at word) (keyword_stmt more d deeper inner' inner_if' at word) (record { at = at; item = w.keyword word } ∷ ts)
      good_keyword at k.If ts = here_past (record { at = at; item = w.keyword k.If }) (behind_made (kind.ifs special g) s.branch (λ m n le le' i v. v) (λ i. refl) (good_branch_of at) ts)
      good_keyword at k.While ts = here_past (record { at = at; item = w.keyword k.While }) (good_while at ts)
      good_keyword at k.For ts = here_past (record { at = at; item = w.keyword k.For }) (good_for at ts)
      good_keyword at k.Return ts = here_past (record { at = at; item = w.keyword k.Return }) (good_return special g none most more le depth deeper le' at ts)
      good_keyword at k.Delete ts = here_past (record { at = at; item = w.keyword k.Delete }) (good_delete special g none most more le depth deeper le' at ts)
      good_keyword at _ ts = good_plain _

      -- behind a name
      name-begins : (n : Placed NameId) → Begins (kind.stmts special g) (spell_name n)
      name-begins n =
          (s.simple (s.bump (record { left = left_of.Name (plain_ref n); sign = n.at; adds = true; in_front = false })), w.sign sg.PlusPlus ∷ w.sign sg.Semicolon ∷ [], (0, 0, tt), refl)

      good_std : (at : Place) → Behind (w.name d.std.0 ∷ w.sign sg.ColonColon ∷ []) (kind.stmts special g) most depth (λ ts. and_then (std_stmt most d depth at ts) (ended_by sg.Semicolon)) (λ ts. and_then (std_stmt more d deeper at ts) (ended_by sg.Semicolon))
      good_std at =
          behind_through (unended special g) (λ m n le le' t v. (t, w.sign sg.Semicolon ∷ [], (m, n, v.1), unended-spelled special g t v.0)) (good_std_stmt d most more depth deeper le le' at)
          (λ t v. behind_ended sg.Semicolon t v.1 (unended-spelled special g t v.0))

      good_std_by : (n : Placed NameId) (b : Bool) → nat_eq n.item.0 d.std.0 ≡ b → (ts : Tokens) → sees sg.ColonColon ts ≡ true
          → Here (spell_name n) (kind.stmts special g) most depth (std_by most d depth inner inner_if b n.at) (std_by more d deeper inner' inner_if' b n.at) ts
      good_std_by n true i ts c =
          here_sign sg.ColonColon c
          (subst (λ m. Here (w.name m ∷ w.sign sg.ColonColon ∷ []) (kind.stmts special g) most depth (λ ts. and_then (std_stmt most d depth n.at ts) (ended_by sg.Semicolon)) (λ ts. and_then (std_stmt more d deeper n.at ts) (ended_by sg.Semicolon)) (after ts))
          (sym (eqb-true n.item.0 d.std.0 i)) (good_std n.at (after ts)))
      good_std_by n false i ts c = behind_fail (inr (name-begins n)) ts

      good_name_stmt : (n : Placed NameId) → Behind (spell_name n) (kind.stmts special g) most depth (name_stmt most d depth inner inner_if n) (name_stmt more d deeper inner' inner_if' n)
      unfolding name_stmt
      good_name_stmt n ts =
          here_if (sees sg.ColonColon) (sees-head sg.ColonColon) (λ c. good_std_by n (nat_eq n.item.0 d.std.0) refl ts c)
          (λ c. good_ended_start special g (good_start_behind special g none most more depth deeper le le' n) ts)

      good_sign_stmt : (found : Sign) → Behind [] (kind.stmts special g) most depth (sign_stmt most d depth inner inner_if found) (sign_stmt more d deeper inner' inner_if' found)
      good_sign_stmt sg.OpenBrace = behind_made (kind.blocks special g) s.block (λ m n le le' b v. v) (λ b. refl) good_block_of
      good_sign_stmt _ = good_plain

      good_stmt_word : (at : Place) (word : Word) (ts : Tokens)
          → Here [] (kind.stmts special g) most depth (stmt_at most d depth inner inner_if at word) (stmt_at more d deeper inner' inner_if' at word) (record { at = at; item = word } ∷ ts)
      good_stmt_word at (w.keyword word) ts = good_keyword at word ts
      good_stmt_word at (w.name n) ts = here_past (record { at = at; item = w.name n }) (good_name_stmt (record { at = at; item = record { 0 = n } }) ts)
      good_stmt_word at (w.sign found) ts = good_sign_stmt found _
      good_stmt_word at _ ts = behind_fail (inl refl) _

      good_stmt_of : Behind [] (kind.stmts special g) most depth (stmt_of_depth most d depth inner inner_if) (stmt_of_depth more d deeper inner' inner_if')
      unfolding stmt_of_depth
      good_stmt_of =
          behind_next (stmt_next most d depth inner inner_if) (stmt_next more d deeper inner' inner_if') (behind_fail (inl refl) []) (λ t ts. good_stmt_word t.at t.item ts)

  -- ---- at each depth

  stmt-is : (m depth : ℕ) (ts : Tokens) → stmt m d depth ts ≡ stmt_of_depth m d depth (inner_stmt m d depth) (inner_branch m d depth) ts
  unfolding stmt
  stmt-is m zero ts = refl
  stmt-is m (suc depth) ts = refl

  branch-is : (m depth : ℕ) (at : Place) (ts : Tokens) → branch m d depth at ts ≡ branch_of m d depth (inner_stmt m d depth) (inner_branch m d depth) at ts
  unfolding branch
  branch-is m zero at ts = refl
  branch-is m (suc depth) at ts = refl

  mutual
    stmt_at_depth : (depth deeper : ℕ) → depth ≤ deeper → Behind [] (kind.stmts special g) most depth (stmt most d depth) (stmt more d deeper)
    stmt_at_depth zero deeper le' ts =
        here_same (stmt-is most zero ts) (λ other h. stmt-is more deeper other) (good_stmt_of zero None (inner_stmt more d deeper) tt deeper le' None (inner_branch more d deeper) tt ts)
    stmt_at_depth (suc depth) zero le' ts = absurd (omega (arith, le'))
    stmt_at_depth (suc depth) (suc deeper) le' ts =
        here_same (stmt-is most (suc depth) ts) (λ other h. stmt-is more (suc deeper) other)
        (good_stmt_of (suc depth) (inner_stmt most d (suc depth)) (inner_stmt more d (suc deeper)) (depth, refl, stmt_at_depth depth deeper (omega (arith, le'))) (suc deeper) le'
        (inner_branch most d (suc depth)) (inner_branch more d (suc deeper)) (depth, refl, branch_at_depth depth deeper (omega (arith, le'))) ts)

    branch_at_depth : (depth deeper : ℕ) → depth ≤ deeper → (at : Place) → Behind (w.keyword k.If ∷ []) (kind.ifs special g) most depth (branch most d depth at) (branch more d deeper at)
    branch_at_depth zero deeper le' at ts =
        here_same (branch-is most zero at ts) (λ other h. branch-is more deeper at other) (good_branch_of zero None (inner_stmt more d deeper) tt deeper le' None (inner_branch more d deeper) tt at ts)
    branch_at_depth (suc depth) zero le' at ts = absurd (omega (arith, le'))
    branch_at_depth (suc depth) (suc deeper) le' at ts =
        here_same (branch-is most (suc depth) at ts) (λ other h. branch-is more (suc deeper) at other)
        (good_branch_of (suc depth) (inner_stmt most d (suc depth)) (inner_stmt more d (suc deeper)) (depth, refl, stmt_at_depth depth deeper (omega (arith, le'))) (suc deeper) le'
        (inner_branch most d (suc depth)) (inner_branch more d (suc deeper)) (depth, refl, branch_at_depth depth deeper (omega (arith, le'))) at ts)

  inner_is : (depth deeper : ℕ) → depth ≤ deeper → IsInner GoodStmt depth (inner_stmt most d depth) (inner_stmt more d deeper)
  inner_is zero deeper le' = tt
  inner_is (suc depth) zero le' = absurd (omega (arith, le'))
  inner_is (suc depth) (suc deeper) le' = (depth, refl, stmt_at_depth depth deeper (omega (arith, le')))

  -- Each answer of the parser of a statement is right, and one with higher limits gives it again.
  pub good_stmt : (depth deeper : ℕ) → depth ≤ deeper → Goods tokens (sort (kind.stmts (special_of d) (grammar d)) most depth) (stmt most d depth) (stmt more d deeper)
  good_stmt depth deeper le' = goods {K = kind.stmts special g} (stmt_at_depth depth deeper le')

  pub block_at_depth : (depth deeper : ℕ) → depth ≤ deeper → Behind [] (kind.blocks (special_of d) (grammar d)) most depth (block most d depth) (block more d deeper)
  block_at_depth depth deeper le' = good_block_of depth (inner_stmt most d depth) (inner_stmt more d deeper) (inner_is depth deeper le')

  pub good_block : (depth deeper : ℕ) → depth ≤ deeper → Goods tokens (sort (kind.blocks (special_of d) (grammar d)) most depth) (block most d depth) (block more d deeper)
  good_block depth deeper le' = goods {K = kind.blocks special g} (block_at_depth depth deeper le')
