-- Prints, threads and `std::abort()` are read right.
use Rattle.std.proofs.Common.{◌≡◌, ◌≢◌, ℕ, zero, suc, ◌+◌, ◌≤◌, ◌<◌, Bool, true, false, ◌&&◌, if◌then◌else◌, List, [], ◌∷◌, ◌++◌, length, length-append, inl, inr, refl, sym, ap, ◌∙◌, subst, append-nil, arith}
use Rattle.std.specs.List.{flat_map}
use Rattle.std.proofs.lemmas.Bool.{eq-eqb}
use Rattle.agxx_base.specs.declared.place.Place.{Place}
use Rattle.agxx_base.specs.declared.vocabulary.Sign.TheVariants as sg
use Rattle.agxx_base.specs.declared.vocabulary.SpecialName.{SpecialName}
use Rattle.agxx_base.specs.declared.vocabulary.SpecialName.TheVariants as sn
use Rattle.cxx_tree.specs.declared.node.Placed.{Placed}
use Rattle.cxx_tree.specs.declared.expr.Ref.{Ref}
use Rattle.cxx_tree.specs.declared.expr.Left.TheVariants as left_of
use Rattle.cxx_tree.specs.Words as w
use Rattle.cxx_tree.specs.Words.{Word, separated, each_after_comma, in_parentheses, ended}
use Rattle.cxx_tree.specs.ExprTree as e
use Rattle.cxx_tree.specs.ExprTree.{ExprTree, listed_exprs}
use Rattle.cxx_tree.specs.StmtTree as s
use Rattle.cxx_tree.specs.StmtTree.{PrintedTree, StmtTree}
use Rattle.cxx_tree.specs.Spelling.{spell_ref, spell_quoted, spell_std, spell_expr, spell_each, spell_printed, spell_print, spell_thread, spell_stmt}
use Rattle.cxx_tree.specs.Limits.{Grammar, HasAdviceForms, HasWovenForms, Every}
use Rattle.cxx_tree.specs.Fits.{sum_level, expr_level, FitsEach, FitsPrinted, FitsStmt}
use Rattle.cxx_tree.proofs.Larger.{all-larger, each-larger, printed-larger, stmt-larger}
use Rattle.cxx_expr.specs.declared.stop.Stop.TheVariants.{Syntax, Deep, Memory}
use Rattle.cxx_expr.specs.Tokens.{Tokens, sees, after}
use Rattle.cxx_expr.specs.Outcome.{Outcome, done, failed, Parse, and_then}
use Rattle.cxx_expr.specs.Lefts.{node_at}
use Rattle.cxx_expr.specs.Descent.{front_of}
use Rattle.cxx_expr.proofs.Good.{Sort, Good, head, sees-head, good_shift, good_if, good_then, good_done, good_as, good_again}
use Rattle.cxx_expr.proofs.States.{tokens, sees-sign}
use Rattle.cxx_expr.proofs.Names.{default_ref}
use Rattle.cxx_expr.proofs.Turns.{length-after, true-sees}
use Rattle.cxx_expr.proofs.Fronts.{Ends-nil}
use Rattle.cxx_expr.proofs.FullLaws.{full-full}
use Rattle.cxx_stmt.specs.declared.dialect.Dialect.{Dialect}
use Rattle.cxx_stmt.specs.Dialect.{special_of, is_woven, grammar}
use Rattle.cxx_stmt.specs.Parts.{is_name, sees_name}
use Rattle.cxx_stmt.specs.Streams.{endl, sees_std, operands_from, abort, value, operand_at, operand_next, operand, operands, print, started, thread, std_stmt}
use Rattle.cxx_stmt.proofs.Sorts as kind
use Rattle.cxx_stmt.proofs.Sorts.{Kind, Begins, sort, parens, nothing, tails, Some_hold, some-every, some-larger}
use Rattle.cxx_stmt.proofs.Modes.{no_advice-of, woven_forms-of}
use Rattle.cxx_stmt.proofs.GoodParts.{Here, Behind, here_if, here_past, here_name, name-is, name-head, behind_done, behind_fail, behind_map, behind_two, behind_next, behind_if_name, behind_parens, good_no_parts}
use Rattle.cxx_stmt.proofs.GoodLists.{good_others}
use Rattle.cxx_stmt.proofs.GoodTypes.{good_names}
use Rattle.cxx_stmt.proofs.GoodArguments.{each-spelled, each-fits, good_placed_ref, good_expr, good_expressions}

both-true : (a b : Bool) → a && b ≡ true → (a ≡ true) × (b ≡ true)
both-true true b e = (refl, e)
both-true false b e = cc

-- ---- operands of prints

module _ (special : SpecialName → ℕ) (g : Grammar) where
  -- without the sign before it
  abbrev bare : PrintedTree → List Word
  bare (s.text q) = spell_quoted q
  bare (s.endl at) = spell_std special sn.Endl
  bare (s.value v) = spell_expr special v

  printed-bare : (x : PrintedTree) → spell_printed special x ≡ w.sign sg.ShiftLeft ∷ bare x
  printed-bare (s.text q) = refl
  printed-bare (s.endl at) = refl
  printed-bare (s.value v) = refl

  abbrev printed : Kind PrintedTree
  printed = record {
    spelled = bare;
    Fits = FitsPrinted g;
    grows = λ m more n deeper le le' x v. printed-larger g m more le n deeper le' x v;
    least = s.endl kind.no_place;
    is_least = (0, 0, tt);
  }

  -- operands with the signs before them
  abbrev all_operands : Kind (List PrintedTree)
  all_operands = record {
    spelled = λ xs. flat_map (spell_printed special) xs;
    Fits = λ m n. Every (FitsPrinted g m n);
    grows = λ m more n deeper le le'. all-larger (printed-larger g m more le n deeper le');
    least = [];
    is_least = (0, 0, tt);
  }

  -- at least one
  abbrev some_operands : Kind (List PrintedTree)
  some_operands = record {
    spelled = λ xs. flat_map (spell_printed special) xs;
    Fits = λ m n. Some_hold (FitsPrinted g m n);
    grows = λ m more n deeper le le'. some-larger (printed-larger g m more le n deeper le');
    least = s.endl kind.no_place ∷ [];
    is_least = (0, 0, (tt, tt));
  }

-- ---- statements that begin with `std ::`, without the semicolon

abbrev pub IsStd : StmtTree → Type 0
IsStd (s.print q) = Unit {0}
IsStd (s.thread t) = Unit {0}
IsStd (s.abort at) = Unit {0}
IsStd _ = ⊥

pub some-not-nil : {A : Type 0} (Holds : A → Type 0) (xs : List A) → Some_hold Holds xs → xs ≢ []
some-not-nil Holds [] v = absurd v
some-not-nil Holds (x ∷ xs) v = λ i. cc

module _ (special : SpecialName → ℕ) (g : Grammar) where
  -- a thread's function and the arguments
  abbrev thread_parts : Kind (Ref × List ExprTree)
  thread_parts = record {
    spelled = λ x. separated (spell_ref x.0 ∷ spell_each special (listed_exprs x.1));
    Fits = λ m n x. FitsEach g m n (listed_exprs x.1);
    grows = λ m more n deeper le le' x v. each-larger g m more le n deeper le' (listed_exprs x.1) v;
    least = (default_ref, []);
    is_least = (0, 0, tt);
  }

  abbrev spell_unended : StmtTree → List Word
  spell_unended (s.print q) = spell_print special q
  spell_unended (s.thread t) = spell_thread special t
  spell_unended (s.abort at) = spell_std special sn.Abort ++ in_parentheses []
  spell_unended _ = []

  abbrev pub unended : Kind StmtTree
  unended = record {
    spelled = spell_unended;
    Fits = λ m n t. IsStd t × FitsStmt g m n t;
    grows = λ m more n deeper le le' t v. (v.0, stmt-larger g m more le n deeper le' t v.1);
    least = s.print (record { at = kind.no_place; operands = s.endl kind.no_place ∷ [] });
    is_least = (0, 0, (tt, (some-not-nil (FitsPrinted g 0 0) (s.endl kind.no_place ∷ []) (tt, tt), (tt, tt))));
  }

  pub unended-spelled : (t : StmtTree) → IsStd t → spell_stmt special t ≡ ended (spell_unended t)
  unended-spelled (s.print q) v = refl
  unended-spelled (s.thread t) v = refl
  unended-spelled (s.abort at) v = refl
  unended-spelled _ v = absurd v

module _ (d : Dialect) where
  abbrev special : SpecialName → ℕ
  special = special_of d

  abbrev g : Grammar
  g = grammar d

  abbrev no_forms : HasAdviceForms g → ⊥
  no_forms = no_advice-of d

  std-tail : (t : Placed Word) (a b : Tokens) → head a ≡ head b → sees_std d (t ∷ a) ≡ sees_std d (t ∷ b)
  std-tail t a b e = ap (λ q. is_name d.std.0 t.item && q) (sees-head sg.ColonColon a b e)

  -- the decision for a sum stays, before other words that begin as what is left
  std-front : (front rest other : Tokens) → sees_std d (front ++ rest) ≡ false → head other ≡ head rest → (front ≡ [] → sees_std d other ≡ false) → sees_std d (front ++ other) ≡ false
  std-front [] rest other e h go = go refl
  std-front (t ∷ []) rest other e h go = std-tail t other rest h ∙ e
  std-front (t ∷ u ∷ front) rest other e h go = e

  good_started : (most more depth deeper : ℕ) → most ≤ more → depth ≤ deeper → Behind [] (thread_parts special g) most depth (started most depth) (started more deeper)
  unfolding started
  good_started most more depth deeper le le' =
      behind_two kind.refs (tails (kind.fulls special g expr_level)) (λ r xs. (r, xs)) (λ m n le le' r xs v u. each-fits special g m n xs u)
      (λ r xs. ap (λ q. spell_ref r ++ each_after_comma q) (each-spelled special g xs)) good_placed_ref
      (good_others (kind.fulls special g expr_level) (good_expressions special g no_forms most more depth deeper le le'))

  module _ (most more depth deeper : ℕ) (le : most ≤ more) (le' : depth ≤ deeper) where
    abbrev K : Sort PrintedTree
    K = sort (printed special g) most depth

    good_value : Behind [] (printed special g) most depth (value most depth) (value more deeper)
    good_value = behind_map (kind.fulls special g sum_level) s.value (λ m n le le' v u. u) (λ v. refl) (good_expr special g no_forms most more depth deeper le le' sum_level)

    -- `std` alone is a sum
    value-std : (at : Place) → (x : PrintedTree) × (value more deeper (record { at = at; item = w.name d.std.0 } ∷ []) ≡ done x [])
    value-std at =
        let tree : ExprTree = e.left (left_of.Name (record { node = node_at at; global = false; name = record { at = at; item = record { 0 = d.std.0 } } })) in
        let r = full-full special g no_forms more deeper sum_level tree (record { at = at; item = w.name d.std.0 } ∷ []) [] (tt, omega arith) refl (Ends-nil sum_level) in
        (s.value r.0, ap (λ o. and_then o (λ v. done (s.value v))) r.2)

    -- something is read of a sum that begins with `std`
    std-stands : (other : Tokens) (o : Tokens → Outcome Tokens PrintedTree) → ((x : PrintedTree) (at : Place) → o (record { at = at; item = w.name d.std.0 } ∷ []) ≡ done x [] → ⊥)
        → ((q : Tokens) → head q ≡ head other → value more deeper q ≡ o q) → sees_std d other ≡ false
    std-stands other o never again = go (sees_name d.std.0 other) refl
      where
        go : (b : Bool) → sees_name d.std.0 other ≡ b → sees_std d other ≡ false
        go true i =
            let n = name-is d.std.0 other i in
            let x = value-std n.0 in
            absurd (never x.0 n.0 (sym (again (record { at = n.0; item = w.name d.std.0 } ∷ []) (ap head (sym n.1))) ∙ x.1))
        go false i = ap (λ q. q && sees sg.ColonColon (after other)) i

    abbrev choice : ℕ → ℕ → Place → Parse Tokens PrintedTree
    choice most depth at ts = if sees_std d ts then endl d at (after (after ts)) else value most depth ts

    choice-value : (at : Place) (other : Tokens) → sees_std d other ≡ false → choice more deeper at other ≡ value more deeper other
    choice-value at other e = rw e refl

    good_sum : (at : Place) (ts : Tokens) (o : Outcome Tokens PrintedTree) → sees_std d ts ≡ false → Good tokens [] K (λ q r. value more deeper q ≡ r) ts o → Good tokens [] K (λ q r. choice more deeper at q ≡ r) ts o
    good_sum at ts (done a rest) e g = record {
      front = g.front;
      whole = g.whole;
      valid = g.valid;
      text = g.text;
      again = λ other h.
          choice-value at (g.front ++ other)
          (std-front g.front rest other (ap (sees_std d) (sym g.whole) ∙ e) h (λ nil. std-stands other (λ q. done a q) (λ x place i. cc) (λ q i. subst (λ f. value more deeper (f ++ q) ≡ done a q) nil (g.again q (i ∙ h)))))
          ∙ g.again other h;
    }
    good_sum at ts (failed Syntax rest) e g = record {
      front = g.front;
      whole = g.whole;
      viable = g.viable;
      again = λ other h.
          choice-value at (g.front ++ other)
          (std-front g.front rest other (ap (sees_std d) (sym g.whole) ∙ e) h (λ nil. std-stands other (λ q. failed Syntax q) (λ x place i. cc) (λ q i. subst (λ f. value more deeper (f ++ q) ≡ failed Syntax q) nil (g.again q (i ∙ h)))))
          ∙ g.again other h;
    }
    good_sum at ts (failed Deep rest) e g = tt
    good_sum at ts (failed Memory rest) e g = g

    -- behind `std ::`
    good_endl : (at : Place) → Behind (w.name d.std.0 ∷ w.sign sg.ColonColon ∷ []) (printed special g) most depth (endl d at) (endl d at)
    good_endl at = behind_if_name d.endl.0 (behind_done (s.endl at) tt refl) (behind_fail (inr (s.endl at, w.name d.endl.0 ∷ [], (0, 0, tt), refl)))

    abbrev std_token : Place → Placed Word
    std_token at = record { at = at; item = w.name d.std.0 }

    abbrev colons : Place → Placed Word
    colons at = record { at = at; item = w.sign sg.ColonColon }

    std-is : (ts : Tokens) → sees_std d ts ≡ true → (p : Place) × (q : Place) × (ts ≡ std_token p ∷ colons q ∷ after (after ts))
    std-is ts e =
        let b = both-true (sees_name d.std.0 ts) (sees sg.ColonColon (after ts)) e in
        let n = name-is d.std.0 ts b.0 in
        let c = sees-sign sg.ColonColon (after ts) b.1 in
        (n.0, c.0, n.1 ∙ ap (λ q. std_token n.0 ∷ q) c.1)

    choice-std : (m n : ℕ) (at p q : Place) (other : Tokens) → choice m n at (std_token p ∷ colons q ∷ other) ≡ endl d at other
    choice-std m n at p q other = rw (eq-eqb d.std.0 d.std.0 refl) refl

    good_std : (at p q : Place) (rest : Tokens) → Here [] (printed special g) most depth (choice most depth at) (choice more deeper at) (std_token p ∷ colons q ∷ rest)
    good_std at p q rest = record {
      good = subst (Good tokens [] K (λ x r. choice more deeper at x ≡ r) (std_token p ∷ colons q ∷ rest)) (sym (choice-std most depth at p q rest))
          (good_shift tokens [] K (λ x r. choice more deeper at (std_token p ∷ x) ≡ r) (λ x r. choice more deeper at x ≡ r) (std_token p) (colons q ∷ rest) (endl d at rest) (λ x r a. a)
          (good_shift tokens (w.name d.std.0 ∷ []) K (λ x r. endl d at x ≡ r) (λ x r. choice more deeper at (std_token p ∷ x) ≡ r) (colons q) rest (endl d at rest)
          (λ x r a. choice-std more deeper at p q x ∙ a) (good_endl at rest).good));
    }

    good_choice : (at : Place) → Behind [] (printed special g) most depth (choice most depth at) (choice more deeper at)
    good_choice at ts = go (sees_std d ts) refl
      where
        go : (b : Bool) → sees_std d ts ≡ b → Here [] (printed special g) most depth (choice most depth at) (choice more deeper at) ts
        go true e =
            let i = std-is ts e in
            subst (Here [] (printed special g) most depth (choice most depth at) (choice more deeper at)) (sym i.2) (good_std at i.0 i.1 (after (after ts)))
        go false e = record { good = subst (Good tokens [] K (λ q r. choice more deeper at q ≡ r) ts) (rw e refl) (good_sum at ts (value most depth ts) e (good_value ts).good) }

    good_operand_at : (at : Place) (word : Word) (ts : Tokens)
        → Here [] (printed special g) most depth (operand_at most d depth at word) (operand_at more d deeper at word) (record { at = at; item = word } ∷ ts)
    good_operand_at at (w.text bytes) ts = here_past (record { at = at; item = w.text bytes }) (behind_done (s.text (record { at = at; bytes = bytes })) tt refl ts)
    good_operand_at at _ ts = good_choice at _

    good_operand : Behind [] (printed special g) most depth (operand most d depth) (operand more d deeper)
    unfolding operand
    good_operand = behind_next (operand_next most d depth) (operand_next more d deeper) (behind_fail (inl refl) []) (λ t ts. good_operand_at t.at t.item ts)

    -- ---- prints

    abbrev F : Kind (List PrintedTree)
    F = some_operands special g

    abbrev T : Kind (List PrintedTree)
    T = all_operands special g

    abbrev part : Parse Tokens PrintedTree
    part = operand most d depth

    abbrev part' : Parse Tokens PrintedTree
    part' = operand more d deeper

    abbrev AgO : Tokens → Outcome Tokens (List PrintedTree) → Type 0
    AgO ts r = (m : ℕ) → length ts < m → operands_from part' m ts ≡ r

    -- behind an operand
    abbrev AgB : PrintedTree → Tokens → Outcome Tokens (List PrintedTree) → Type 0
    AgB x ts r = (m : ℕ) → length ts < m → front_of (x ∷ []) (operands_from part' m ts) ≡ r

    -- behind `<<`
    abbrev AgP : Tokens → Outcome Tokens (List PrintedTree) → Type 0
    AgP ts r = (m : ℕ) → length ts < m → and_then (part' ts) (λ x ts. front_of (x ∷ []) (operands_from part' m ts)) ≡ r

    abbrev shift : List Word
    shift = w.sign sg.ShiftLeft ∷ []

    abbrev spelled_behind : PrintedTree → List Word
    spelled_behind x = shift ++ bare special g x

    cons-spelled : (x : PrintedTree) (xs : List PrintedTree) → F.spelled (x ∷ xs) ≡ spelled_behind x ++ T.spelled xs
    cons-spelled x xs = ap (λ q. q ++ T.spelled xs) (printed-bare special g x)

    good_operand_behind : (n : ℕ) (x : PrintedTree) (rest : Tokens) → FitsPrinted g most depth x → Good tokens [] (sort T most depth) AgO rest (operands_from part n rest)
        → Good tokens (spelled_behind x) (sort F most depth) (AgB x) rest (front_of (x ∷ []) (operands_from part n rest))
    good_operand_behind n x rest v G =
        good_then tokens (spelled_behind x) (sort T most depth) (sort F most depth) AgO (λ xs q r. done (x ∷ xs) q ≡ r) (AgB x)
        (λ xs front other r a f m lt. ap (front_of (x ∷ [])) (a m lt) ∙ f) (λ q us a m lt. ap (front_of (x ∷ [])) (a m lt)) [] (0, 0, tt)
        (λ xs u. (
          x ∷ xs,
          [],
          (
            most + u.0,
            depth + u.1,
            (
              printed-larger g most (most + u.0) (omega arith) depth (depth + u.1) (omega arith) x v,
              T.grows u.0 (most + u.0) u.1 (depth + u.1) (omega arith) (omega arith) xs u.2,
            ),
          ),
          cons-spelled x xs ∙ sym (append-nil (spelled_behind x ++ T.spelled xs)),
        ))
        (λ xs. done (x ∷ xs)) rest (operands_from part n rest) G
        (λ xs q front u t e. good_done tokens (spelled_behind x ++ T.spelled xs) (sort F most depth) (λ q r. done (x ∷ xs) q ≡ r) q (x ∷ xs) (v, u) (cons-spelled x xs) (λ other h. refl))

    good_shifted : (n : ℕ) (ts : Tokens) → length ts < n → ((rest : Tokens) → length rest < n → Good tokens [] (sort T most depth) AgO rest (operands_from part n rest))
        → Good tokens shift (sort F most depth) AgP ts (and_then (part ts) (λ x ts. front_of (x ∷ []) (operands_from part n ts)))
    good_shifted n ts h go =
        good_then tokens shift K (sort F most depth) (λ q r. part' q ≡ r) AgB AgP
        (λ x front other r a f m lt. ap (λ o. and_then o (λ x ts. front_of (x ∷ []) (operands_from part' m ts))) a ∙ f m (omega (arith, lt, length-append front other)))
        (λ q rest a m lt. ap (λ o. and_then o (λ x ts. front_of (x ∷ []) (operands_from part' m ts))) a)
        (s.endl kind.no_place) (0, 0, tt)
        (λ x v. (x ∷ [], [], (v.0, v.1, (v.2, tt)), cons-spelled x []))
        (λ x ts. front_of (x ∷ []) (operands_from part n ts)) ts (part ts) (good_operand ts).good
        (λ x rest front v t e. good_operand_behind n x rest v (go rest (omega (arith, h, ap length e, length-append front rest))))

    -- at `<<`
    good_at_shift : (n : ℕ) (ts : Tokens) → length (after ts) < n → sees sg.ShiftLeft ts ≡ true → ((rest : Tokens) → length rest < n → Good tokens [] (sort T most depth) AgO rest (operands_from part n rest))
        → Good tokens [] (sort F most depth) (λ q r. AgP (after q) r) ts (and_then (part (after ts)) (λ x ts. front_of (x ∷ []) (operands_from part n ts)))
    good_at_shift n ts h i go =
        let b = sees-sign sg.ShiftLeft ts i in
        subst (λ q. Good tokens [] (sort F most depth) (λ q r. AgP (after q) r) q (and_then (part (after ts)) (λ x ts. front_of (x ∷ []) (operands_from part n ts)))) (sym b.1)
        (good_shift tokens [] (sort F most depth) AgP (λ q r. AgP (after q) r) (record { at = b.0; item = w.sign sg.ShiftLeft }) (after ts) (and_then (part (after ts)) (λ x ts. front_of (x ∷ []) (operands_from part n ts)))
        (λ q r a. a) (good_shifted n (after ts) h go))

    operands-more : (p : Parse Tokens PrintedTree) (n : ℕ) (ts : Tokens) → sees sg.ShiftLeft ts ≡ true → operands_from p (suc n) ts ≡ and_then (p (after ts)) (λ x ts. front_of (x ∷ []) (operands_from p n ts))
    unfolding operands_from
    operands-more p n ts i = rw i refl

    again_more : (q : Tokens) (r : Outcome Tokens (List PrintedTree)) → sees sg.ShiftLeft q ≡ true → AgP (after q) r → AgO q r
    again_more q r i a zero lt = absurd (omega (arith, lt))
    again_more q r i a (suc m) lt = operands-more part' m q i ∙ a m (omega (arith, lt, length-after q, true-sees sg.ShiftLeft q i))

    again_none : (q : Tokens) → sees sg.ShiftLeft q ≡ false → AgO q (done [] q)
    unfolding operands_from
    again_none q i zero lt = absurd (omega (arith, lt))
    again_none q i (suc m) lt = rw i refl

    good_operands_from : (n : ℕ) (ts : Tokens) → length ts < n → Good tokens [] (sort T most depth) AgO ts (operands_from part n ts)
    unfolding operands_from
    good_operands_from zero ts h = absurd (omega (arith, h))
    good_operands_from (suc n) ts h =
        good_if tokens sg.ShiftLeft [] (sort T most depth) (λ q r. AgP (after q) r) (λ q r. done [] q ≡ r) AgO ts (and_then (part (after ts)) (λ x ts. front_of (x ∷ []) (operands_from part n ts))) (done [] ts)
        (λ q r i a. again_more q r i a) (λ q r i a. subst (AgO q) a (again_none q i))
        (λ i. good_as tokens [] (sort F most depth) (sort T most depth) (λ q r. AgP (after q) r) F.least F.is_least (λ xs v. some-every (FitsPrinted g most depth) xs v)
        (λ xs v. (v.0, v.1, some-every (FitsPrinted g v.0 v.1) xs v.2)) (λ xs v. refl) ts (and_then (part (after ts)) (λ x ts. front_of (x ∷ []) (operands_from part n ts)))
        (good_at_shift n ts (omega (arith, h, length-after ts, true-sees sg.ShiftLeft ts i)) i (good_operands_from n)))
        (λ i. good_done tokens [] (sort T most depth) (λ q r. done [] q ≡ r) ts [] tt refl (λ other h. refl))

    good_operands_at : (ts : Tokens) → sees sg.ShiftLeft ts ≡ true → Here [] F most depth (λ ts. operands_from part (suc (length ts)) ts) (λ ts. operands_from part' (suc (length ts)) ts) ts
    good_operands_at ts i = record {
      good = subst (Good tokens [] (sort F most depth) (λ q r. operands_from part' (suc (length q)) q ≡ r) ts) (sym (operands-more part (length ts) ts i))
          (good_again tokens [] (sort F most depth) (λ q r. AgP (after q) r) (λ q r. operands_from part' (suc (length q)) q ≡ r) ts (and_then (part (after ts)) (λ x rest. front_of (x ∷ []) (operands_from part (length ts) rest)))
          (λ q r h a. again_more q r (sees-head sg.ShiftLeft q ts h ∙ i) a (suc (length q)) (omega arith))
          (good_at_shift (length ts) ts (omega (arith, length-after ts, true-sees sg.ShiftLeft ts i)) i (good_operands_from (length ts))));
    }

    good_operands : Behind [] F most depth (operands most d depth) (operands more d deeper)
    unfolding operands
    good_operands ts = here_if (sees sg.ShiftLeft) (sees-head sg.ShiftLeft) (λ i. good_operands_at ts i) (λ i. behind_fail (inl refl) ts)

    -- ---- all of them

    good_print : (at : Place) → Behind (spell_std special sn.Cout) (unended special g) most depth (print most d depth at) (print more d deeper at)
    unfolding print
    good_print at = behind_map F (λ xs. s.print (record { at = at; operands = xs })) (λ m n le le' xs v. (tt, (some-not-nil (FitsPrinted g m n) xs v, some-every (FitsPrinted g m n) xs v))) (λ xs. refl) good_operands

    good_abort : (at : Place) → HasWovenForms g → Behind (spell_std special sn.Abort) (unended special g) most depth (abort depth at) (abort deeper at)
    unfolding abort
    good_abort at has = behind_map (parens nothing) (λ u. s.abort at) (λ m n le le' u v. (tt, (has, v))) (λ u. refl) (good_no_parts most depth deeper le')

    good_thread : (at : Place) → Behind (spell_std special sn.Thread) (unended special g) most depth (thread most depth at) (thread more deeper at)
    unfolding thread
    good_thread at =
        behind_two kind.names (parens (thread_parts special g)) (λ n x. s.thread (record { at = at; name = n; function = x.0; arguments = listed_exprs x.1 })) (λ m n le le' a x v u. (tt, u))
        (λ n x. refl) good_names
        (behind_parens {K = thread_parts special g} (started most) (started more) le' (λ below under i i' le''. good_started most more below under le le''))

    std-begins : (at : Place) → Begins (unended special g) (w.name d.std.0 ∷ w.sign sg.ColonColon ∷ [])
    std-begins at = ((unended special g).least, w.name d.cout.0 ∷ flat_map (spell_printed special) (s.endl kind.no_place ∷ []), (unended special g).is_least, refl)

    -- behind `std ::`
    pub good_std_stmt : (at : Place) → Behind (w.name d.std.0 ∷ w.sign sg.ColonColon ∷ []) (unended (special_of d) (grammar d)) most depth (std_stmt most d depth at) (std_stmt more d deeper at)
    unfolding std_stmt
    good_std_stmt at =
        behind_if_name d.thread.0 (good_thread at)
        (behind_if_name d.cout.0 (good_print at)
        (λ ts. here_if (λ q. is_woven d.mode && sees_name d.abort.0 q) (λ a b i. ap (λ q. is_woven d.mode && q) (name-head d.abort.0 a b i))
        (λ i. let b = both-true (is_woven d.mode) (sees_name d.abort.0 ts) i in here_name d.abort.0 b.1 (good_abort at (woven_forms-of d.mode b.0) (after ts)))
        (λ i. behind_fail (inr (std-begins at)) ts)))
