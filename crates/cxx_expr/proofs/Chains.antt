-- Operators of one level are read right, if their operands are.
use Rattle.std.proofs.Common.{◌≡◌, ℕ, zero, suc, ◌+◌, ◌-◌, ◌≤◌, List, [], ◌∷◌, ◌++◌, length, length-append, Option, Some, None, refl, sym, ap, ◌∙◌, subst, append_assoc, append-nil, arith}
use Rattle.agxx_base.specs.declared.vocabulary.SpecialName.{SpecialName}
use Rattle.cxx_tree.specs.declared.node.Placed.{Placed}
use Rattle.cxx_tree.specs.declared.operator.BinOp.{BinOp}
use Rattle.cxx_tree.specs.Words as w
use Rattle.cxx_tree.specs.Words.{Word}
use Rattle.cxx_tree.specs.ExprTree.{ExprTree}
use Rattle.cxx_tree.specs.Spelling.{binary_sign}
use Rattle.cxx_tree.specs.Limits.{Grammar}
use Rattle.cxx_tree.specs.Fits.{level_of}
use Rattle.cxx_tree.proofs.Larger.{expr-larger}
use Rattle.cxx_expr.specs.Tokens.{Tokens, after}
use Rattle.cxx_expr.specs.Outcome.{Outcome, Parse, and_then}
use Rattle.cxx_expr.specs.Within.{Within, operator_taken, operator_taken_by}
use Rattle.cxx_expr.specs.Descent.{operator, joined, chain}
use Rattle.cxx_expr.proofs.Turns.{chain-stop}
use Rattle.cxx_expr.proofs.Good.{Sort, Good, Goods, good_done, good_shift, good_then}
use Rattle.cxx_expr.proofs.States.{within, before, joins}
use Rattle.cxx_expr.proofs.Operators.{binary_token, charge-binary, operator-again, operator-is, operator-head}
use Rattle.cxx_expr.proofs.Sorts.{default, exprs}

module _ (special : SpecialName → ℕ) (g : Grammar) (depth l : ℕ) (p p' : Parse Within ExprTree) (G : Goods within (exprs special g depth l) p p') where
  abbrev K : Sort ExprTree
  K = exprs special g depth (suc l)

  abbrev AgC : ExprTree → Within → Outcome Within ExprTree → Type 0
  AgC sofar s r = (m : ℕ) → length s.words ≤ m → chain p' (suc l) m sofar s ≡ r

  abbrev AgO : ExprTree → Placed BinOp → Within → Outcome Within ExprTree → Type 0
  AgO sofar o s r = (m : ℕ) → length s.words ≤ m → and_then (p' s) (λ second. chain p' (suc l) m (joined o sofar second)) ≡ r

  fits_joined : (d : ℕ) (o : Placed BinOp) (sofar second : ExprTree) → level_of o.item ≡ suc l → (exprs special g d (suc l)).IsOne sofar → (exprs special g d l).IsOne second
      → (exprs special g d (suc l)).IsOne (joined o sofar second)
  fits_joined d o sofar second e u v =
      (omega (arith, e), subst (λ n. (exprs special g d n).IsOne sofar) (sym e) u, let s : l ≡ level_of o.item - 1 = omega (arith, e) in subst (λ n. (exprs special g d n).IsOne second) s v)

  step_chain : (sofar : ExprTree) (o : Placed BinOp) (s : Within) (r : Outcome Within ExprTree) → level_of o.item ≡ suc l → AgO sofar o s r → AgC sofar (before (binary_token o ∷ []) s) r
  unfolding chain
  step_chain sofar o s r e a zero lt = absurd (omega (arith, lt))
  step_chain sofar o s r e a (suc m) lt = rw (operator-again (suc l) o s.words e, charge-binary o.item s.operators) (a m (omega (arith, lt)))

  stop_chain : (n : ℕ) (sofar : ExprTree) (s : Within) → K.IsOne sofar → operator (suc l) s.words ≡ None → Good within (K.spelled sofar) K (AgC sofar) s (chain p (suc l) n sofar s)
  stop_chain n sofar s v e =
      subst (Good within (K.spelled sofar) K (AgC sofar) s) (sym (chain-stop p (suc l) n sofar s (sym e)))
      (good_done within (K.spelled sofar) K (AgC sofar) s sofar v refl (λ other h m lt. chain-stop p' (suc l) m sofar other (sym (operator-head (suc l) other.words s.words h ∙ e))))

  spelled : (o : Placed BinOp) (sofar second : ExprTree) → K.spelled (joined o sofar second) ≡ (K.spelled sofar ++ w.sign (binary_sign o.item) ∷ []) ++ K.spelled second
  spelled o sofar second = sym (append_assoc (K.spelled sofar) (w.sign (binary_sign o.item) ∷ []) (K.spelled second))

  -- behind the operator
  good_second : (n : ℕ) (sofar : ExprTree) (s : Within) (o : Placed BinOp) → K.IsOne sofar → level_of o.item ≡ suc l
      → ((second : ExprTree) (rest : Within) → K.IsOne (joined o sofar second) → length rest.words ≤ length s.words
      → Good within (K.spelled (joined o sofar second)) K (AgC (joined o sofar second)) rest (chain p (suc l) n (joined o sofar second) rest))
      → Good within (K.spelled sofar ++ w.sign (binary_sign o.item) ∷ []) K (AgO sofar o) s (and_then (p s) (λ second. chain p (suc l) n (joined o sofar second)))
  good_second n sofar s o v e go =
      let pre : List Word = K.spelled sofar ++ w.sign (binary_sign o.item) ∷ [] in
      good_then within pre (exprs special g depth l) K (λ q r. p' q ≡ r) (λ second. AgC (joined o sofar second)) (AgO sofar o)
      (λ second front other r q f m lt. rw q (f m (omega (arith, lt, length-append front other.words))))
      (λ q rest i m lt. rw i refl)
      default (0, tt)
      (λ second u. (
        joined o sofar second,
        [],
        (depth + u.0, fits_joined (depth + u.0) o sofar second e (expr-larger g depth (depth + u.0) (omega arith) (suc l) sofar v) (expr-larger g u.0 (depth + u.0) (omega arith) l second u.1)),
        spelled o sofar second ∙ sym (append-nil (pre ++ K.spelled second)),
      ))
      (λ second. chain p (suc l) n (joined o sofar second)) s (p s) (G s)
      (λ second rest front u i q. subst (λ t. Good within t K (AgC (joined o sofar second)) rest (chain p (suc l) n (joined o sofar second) rest)) (spelled o sofar second)
      (go second rest (fits_joined depth o sofar second e v u) (omega (arith, ap (λ q. length q.words) q, length-append front rest.words))))

  good_taken : (n : ℕ) (sofar : ExprTree) (k : ℕ) (ts : Tokens) (o : Placed BinOp) → K.IsOne sofar → ts ≡ binary_token o ∷ after ts → level_of o.item ≡ suc l
      → ((second : ExprTree) (rest : Within) → K.IsOne (joined o sofar second) → length rest.words ≤ length (after ts)
      → Good within (K.spelled (joined o sofar second)) K (AgC (joined o sofar second)) rest (chain p (suc l) n (joined o sofar second) rest))
      → Good within (K.spelled sofar) K (AgC sofar) (joins ts k) (and_then (operator_taken_by k ts) (λ u q. and_then (p q) (λ second. chain p (suc l) n (joined o sofar second))))
  good_taken n sofar zero ts o v i e go = tt
  good_taken n sofar (suc k) ts o v i e go =
      let s : Within = joins (after ts) k in
      let is : joins ts (suc k) ≡ before (binary_token o ∷ []) s = ap (λ q. joins q (suc k)) i ∙ ap (joins (binary_token o ∷ after ts)) (sym (charge-binary o.item k)) in
      subst (λ q. Good within (K.spelled sofar) K (AgC sofar) q (and_then (p s) (λ second. chain p (suc l) n (joined o sofar second)))) (sym is)
      (good_shift within (K.spelled sofar) K (AgO sofar o) (AgC sofar) (binary_token o) s (and_then (p s) (λ second. chain p (suc l) n (joined o sofar second)))
      (λ q r a. step_chain sofar o q r e a) (good_second n sofar s o v e go))

  chain-go : (n : ℕ) (sofar : ExprTree) (s : Within) (o : Placed BinOp) → operator (suc l) s.words ≡ Some o
      → chain p (suc l) (suc n) sofar s ≡ and_then (operator_taken s) (λ u q. and_then (p q) (λ second. chain p (suc l) n (joined o sofar second)))
  unfolding chain
  chain-go n sofar s o e = rw e refl

  turn_chain : (n : ℕ) (sofar : ExprTree) (s : Within) → length s.words ≤ suc n → K.IsOne sofar
      → ((t : ExprTree) (q : Within) → length q.words ≤ n → K.IsOne t → Good within (K.spelled t) K (AgC t) q (chain p (suc l) n t q))
      → (o : Option (Placed BinOp)) → operator (suc l) s.words ≡ o → Good within (K.spelled sofar) K (AgC sofar) s (chain p (suc l) (suc n) sofar s)
  turn_chain n sofar s h v go None e = stop_chain (suc n) sofar s v e
  turn_chain n sofar s h v go (Some o) e =
      let i = operator-is (suc l) s.words o e in
      subst (Good within (K.spelled sofar) K (AgC sofar) s) (sym (chain-go n sofar s o e))
      (good_taken n sofar s.operators s.words o v i.0 i.1 (λ second rest u q. go (joined o sofar second) rest (omega (arith, h, q, ap length i.0)) u))

  none-left : (sofar : ExprTree) (k : ℕ) (ts : Tokens) → length ts ≤ 0 → operator (suc l) ts ≡ None
  none-left sofar k [] h = refl
  none-left sofar k (t ∷ ts) h = absurd (omega (arith, h))

  pub good_chain : (n : ℕ) (sofar : ExprTree) (s : Within) → length s.words ≤ n → K.IsOne sofar → Good within (K.spelled sofar) K (AgC sofar) s (chain p (suc l) n sofar s)
  good_chain zero sofar s h v = stop_chain zero sofar s v (none-left sofar s.operators s.words h)
  good_chain (suc n) sofar s h v = turn_chain n sofar s h v (good_chain n) (operator (suc l) s.words) refl
