-- Lists of arguments are read right, if each argument is.
use Rattle.std.proofs.Common.{◌≡◌, ℕ, zero, suc, ◌+◌, ◌≤◌, ◌<◌, true, List, [], ◌∷◌, ◌++◌, length, length-append, refl, sym, ap, ◌∙◌, subst, append-nil, arith}
use Rattle.agxx_base.specs.declared.vocabulary.Sign.TheVariants as sg
use Rattle.agxx_base.specs.declared.vocabulary.SpecialName.{SpecialName}
use Rattle.cxx_tree.specs.Words as w
use Rattle.cxx_tree.specs.Words.{Word}
use Rattle.cxx_tree.specs.ExprTree.{ExprTree, listed_exprs}
use Rattle.cxx_tree.specs.Limits.{Grammar}
use Rattle.cxx_tree.specs.Fits.{expr_level}
use Rattle.cxx_tree.proofs.Larger.{expr-larger, all_exprs-larger}
use Rattle.cxx_expr.specs.declared.stop.Stop.TheVariants.{Syntax}
use Rattle.cxx_expr.specs.Tokens.{Tokens, sees}
use Rattle.cxx_expr.specs.Outcome.{Outcome, done, failed, Parse, expect}
use Rattle.cxx_expr.specs.Within.{Within, on_words, advanced}
use Rattle.cxx_expr.specs.Descent.{front_of, closed, items_more, items_from, items}
use Rattle.cxx_expr.proofs.Turns.{length-after, true-sees}
use Rattle.cxx_expr.proofs.Good.{Sort, Good, Goods, good_done, good_shift, good_then, good_if, good_bind, good_as}
use Rattle.cxx_expr.proofs.States.{within, before, signs, sees-before, good_expect, good_on_words}
use Rattle.cxx_expr.proofs.Sorts.{default, exprs, lists, tails, somes, SomeFit-all, spell-cons, spell-tail}

-- the parenthesis that ends x
pub good_closed : {B : Type 0} (pre : List Word) (K : Sort B) (x : B) → K.IsOne x → K.spelled x ≡ pre ++ w.sign sg.CloseParen ∷ [] → (s : Within)
    → Good within pre K (λ q r. closed x q ≡ r) s (closed x s)
good_closed pre K x v t s =
    good_bind within pre (signs sg.CloseParen) K (on_words (expect sg.CloseParen)) (λ u. done x) tt tt
    (λ u i. (x, [], K.is_some x v, t ∙ sym (append-nil (pre ++ w.sign sg.CloseParen ∷ []))))
    (λ u. done x) s (on_words (expect sg.CloseParen) s)
    (good_on_words (signs sg.CloseParen) (expect sg.CloseParen) (expect sg.CloseParen) (λ u. ((λ n. refl), tt)) (good_expect sg.CloseParen) s)
    (λ u rest i. good_done within (pre ++ w.sign sg.CloseParen ∷ []) K (λ q r. done x q ≡ r) rest x v t (λ other h. refl))

module _ (special : SpecialName → ℕ) (g : Grammar) (below : ℕ) (p p' : Parse Within ExprTree) (G : Goods within (exprs special g below expr_level) p p') where
  abbrev E : Sort ExprTree
  E = exprs special g below expr_level

  abbrev L : Sort (List ExprTree)
  L = lists special g below

  abbrev T : Sort (List ExprTree)
  T = tails special g below

  abbrev F : Sort (List ExprTree)
  F = somes special g below

  abbrev AgI : Within → Outcome Within (List ExprTree) → Type 0
  AgI s r = (m : ℕ) → length s.words < m → items_from p' m s ≡ r

  abbrev AgM : ExprTree → Within → Outcome Within (List ExprTree) → Type 0
  AgM x s r = (m : ℕ) → length s.words ≤ m → front_of (x ∷ []) (items_more (λ q. items_from p' m q) s) ≡ r

  abbrev AgR : Within → Outcome Within (List ExprTree) → Type 0
  AgR s r = (m : ℕ) → length s.words ≤ m → items_more (λ q. items_from p' m q) s ≡ r

  step_item : (x : ExprTree) (front : Tokens) (other : Within) (r : Outcome Within (List ExprTree)) → p' (before front other) ≡ done x other → AgM x other r → AgI (before front other) r
  unfolding items_from
  step_item x front other r e f zero lt = absurd (omega arith)
  step_item x front other r e f (suc m) lt = rw e (f m (omega (arith, lt, length-append front other.words)))

  stop_item : (s rest : Within) → p' s ≡ failed Syntax rest → AgI s (failed Syntax rest)
  unfolding items_from
  stop_item s rest e zero lt = absurd (omega arith)
  stop_item s rest e (suc m) lt = rw e refl

  -- at a comma or the parenthesis
  good_more : (n : ℕ) (rest : Within) → (sees sg.Comma rest.words ≡ true → Good within [] F AgI (advanced rest) (items_from p n (advanced rest)))
      → Good within [] T AgR rest (items_more (λ q. items_from p n q) rest)
  good_more n rest others =
      good_if within sg.Comma [] T AgR (λ q r. closed [] q ≡ r) AgR rest (items_from p n (advanced rest)) (closed [] rest)
      (λ q r s a. a) (λ q r s a m lt. rw s a)
      (λ s. let b = sees-before sg.Comma (λ n. refl) rest s in
      subst (λ q. Good within [] T AgR q (items_from p n (advanced rest))) (sym b.1)
      (good_shift within [] T AgI AgR (record { at = b.0; item = w.sign sg.Comma }) (advanced rest) (items_from p n (advanced rest))
      (λ q r a m lt. a m (omega (arith, lt)))
      (good_as within (w.sign sg.Comma ∷ []) F T AgI (default ∷ []) (0, (tt, tt))
      (λ xs v. SomeFit-all special g below xs v) (λ xs v. (v.0, SomeFit-all special g v.0 xs v.1)) (λ xs v. spell-tail special g v.0 xs v.1)
      (advanced rest) (items_from p n (advanced rest)) (others s))))
      (λ s. good_closed [] T [] tt refl rest)

  -- after an item
  next_item : (n : ℕ) (x : ExprTree) (rest : Within) → E.IsOne x → (sees sg.Comma rest.words ≡ true → Good within [] F AgI (advanced rest) (items_from p n (advanced rest)))
      → Good within (E.spelled x) F (AgM x) rest (front_of (x ∷ []) (items_more (λ q. items_from p n q) rest))
  next_item n x rest v others =
      good_then within (E.spelled x) T F AgR (λ ys q r. done (x ∷ ys) q ≡ r) (AgM x)
      (λ ys front other r a f m lt. ap (front_of (x ∷ [])) (a m lt) ∙ f) (λ q us a m lt. ap (front_of (x ∷ [])) (a m lt)) [] (0, tt)
      (λ ys u. (
        x ∷ ys,
        [],
        (below + u.0, (expr-larger g below (below + u.0) (omega arith) expr_level x v, all_exprs-larger g u.0 (below + u.0) (omega arith) (listed_exprs ys) u.1)),
        spell-cons special g x ys ∙ sym (append-nil (E.spelled x ++ T.spelled ys)),
      ))
      (λ ys. done (x ∷ ys)) rest (items_more (λ q. items_from p n q) rest)
      (good_more n rest others)
      (λ ys q front u t e. good_done within (E.spelled x ++ T.spelled ys) F (λ q r. done (x ∷ ys) q ≡ r) q (x ∷ ys) (v, u) (spell-cons special g x ys) (λ other h. refl))

  good_items_from : (n : ℕ) (s : Within) → length s.words < n → Good within [] F AgI s (items_from p n s)
  unfolding items_from
  good_items_from zero s h = absurd (omega (arith, h))
  good_items_from (suc n) s h =
      good_then within [] E F (λ q r. p' q ≡ r) AgM AgI step_item stop_item default (0, tt)
      (λ x v. (x ∷ [], w.sign sg.CloseParen ∷ [], (v.0, (v.1, tt)), ap (λ q. q ++ w.sign sg.CloseParen ∷ []) (append-nil (E.spelled x))))
      (λ x rest. front_of (x ∷ []) (items_more (λ q. items_from p n q) rest)) s (p s) (G s)
      (λ x rest front v t e. next_item n x rest v (λ c. good_items_from n (advanced rest)
      (omega (arith, h, ap (λ q. length q.words) e, length-append front rest.words, length-after rest.words, true-sees sg.Comma rest.words c))))

  pub good_items : Goods within L (items p) (items p')
  unfolding items
  good_items s =
      good_if within sg.CloseParen [] L (λ q r. done [] (advanced q) ≡ r) AgI (λ q r. items p' q ≡ r) s (done [] (advanced s)) (items_from p (suc (length s.words)) s)
      (λ q r i a. rw i a)
      (λ q r i a. rw i (a (suc (length q.words)) (omega arith)))
      (λ i. let b = sees-before sg.CloseParen (λ n. refl) s i in
      subst (λ q. Good within [] L (λ q r. done [] (advanced q) ≡ r) q (done [] (advanced s))) (sym b.1)
      (good_shift within [] L (λ q r. done [] q ≡ r) (λ q r. done [] (advanced q) ≡ r) (record { at = b.0; item = w.sign sg.CloseParen }) (advanced s) (done [] (advanced s)) (λ q r a. a)
      (good_done within (w.sign sg.CloseParen ∷ []) L (λ q r. done [] q ≡ r) (advanced s) [] tt refl (λ other h. refl))))
      (λ i. good_as within [] F L AgI (default ∷ []) (0, (tt, tt)) (λ xs v. SomeFit-all special g below xs v) (λ xs v. (v.0, SomeFit-all special g v.0 xs v.1)) (λ xs v. refl) s (items_from p (suc (length s.words)) s)
      (good_items_from (suc (length s.words)) s (omega arith)))
