-- Lists are read right, if each part of them is.
use Rattle.std.proofs.Common.{◌≡◌, ℕ, zero, suc, ◌+◌, ◌≤◌, ◌<◌, true, false, List, [], ◌∷◌, ◌++◌, length, length-append, refl, sym, ap, ◌∙◌, subst, append_assoc, append-nil, arith}
use Rattle.std.specs.List.{flat_map}
use Rattle.std.proofs.lemmas.List.{length-map}
use Rattle.agxx_base.specs.declared.vocabulary.Sign.TheVariants as sg
use Rattle.cxx_tree.specs.declared.node.Placed.{Placed}
use Rattle.cxx_tree.specs.Words as w
use Rattle.cxx_tree.specs.Words.{Word, separated, each_after_comma}
use Rattle.cxx_expr.specs.declared.stop.Stop.TheVariants.{Syntax, Deep, Memory}
use Rattle.cxx_expr.specs.Tokens.{Tokens, words_of, sees, after}
use Rattle.cxx_expr.specs.Outcome.{Outcome, done, failed, Parse, and_then}
use Rattle.cxx_expr.specs.Descent.{front_of}
use Rattle.cxx_expr.proofs.Turns.{length-after, true-sees}
use Rattle.cxx_expr.proofs.Good.{Sort, Good, sees-head, good_done, good_shift, good_again, good_then, good_if, good_as}
use Rattle.cxx_expr.proofs.States.{tokens, sees-sign}
use Rattle.cxx_stmt.specs.Parts.{others, some_from, some, any, braced_from, braced}
use Rattle.cxx_stmt.proofs.Sorts.{Kind, sort, lists, somes, tails, blocks_of, some-every}
use Rattle.cxx_stmt.proofs.GoodParts.{Behind, here_kind, here_if, behind_done}

module _ {A : Type 0} (K : Kind A) (most depth : ℕ) where
  abbrev F : Sort (List A)
  F = sort (somes K) most depth

  abbrev T : Sort (List A)
  T = sort (tails K) most depth

  tail-spelled : (xs : List A) (m n : ℕ) → (somes K).Fits m n xs → (tails K).spelled xs ≡ w.sign sg.Comma ∷ (somes K).spelled xs
  tail-spelled [] m n v = absurd v
  tail-spelled (x ∷ xs) m n v = refl

  -- at a comma or not
  good_others_by : (AgN AgO : Tokens → Outcome Tokens (List A) → Type 0) (more : Parse Tokens (List A)) (ts : Tokens)
      → ((q : Tokens) (r : Outcome Tokens (List A)) → sees sg.Comma q ≡ true → AgN (after q) r → AgO q r) → ((q : Tokens) → sees sg.Comma q ≡ false → AgO q (done [] q))
      → (sees sg.Comma ts ≡ true → Good tokens [] F AgN (after ts) (more (after ts))) → Good tokens [] T AgO ts (others more ts)
  good_others_by AgN AgO more ts again none go =
      good_if tokens sg.Comma [] T (λ q r. AgN (after q) r) (λ q r. done [] q ≡ r) AgO ts (more (after ts)) (done [] ts)
      (λ q r s a. again q r s a) (λ q r s a. subst (AgO q) a (none q s))
      (λ s. let b = sees-sign sg.Comma ts s in
      subst (λ q. Good tokens [] T (λ q r. AgN (after q) r) q (more (after ts))) (sym b.1)
      (good_shift tokens [] T AgN (λ q r. AgN (after q) r) (record { at = b.0; item = w.sign sg.Comma }) (after ts) (more (after ts)) (λ q r a. a)
      (good_as tokens (w.sign sg.Comma ∷ []) F T AgN (somes K).least (somes K).is_least (λ xs v. some-every (K.Fits most depth) xs v) (λ xs v. (v.0, v.1, some-every (K.Fits v.0 v.1) xs v.2))
      (λ xs v. tail-spelled xs v.0 v.1 v.2) (after ts) (more (after ts)) (go s))))
      (λ s. good_done tokens [] T (λ q r. done [] q ≡ r) ts [] tt refl (λ other h. refl))

  module _ (p p' : Parse Tokens A) (G : Behind [] K most depth p p') where
    abbrev E : Sort A
    E = sort K most depth

    abbrev AgI : Tokens → Outcome Tokens (List A) → Type 0
    AgI ts r = (m : ℕ) → length ts < m → some_from p' m ts ≡ r

    abbrev AgM : A → Tokens → Outcome Tokens (List A) → Type 0
    AgM x ts r = (m : ℕ) → length ts ≤ m → front_of (x ∷ []) (others (λ q. some_from p' m q) ts) ≡ r

    abbrev AgR : Tokens → Outcome Tokens (List A) → Type 0
    AgR ts r = (m : ℕ) → length ts ≤ m → others (λ q. some_from p' m q) ts ≡ r

    step_item : (x : A) (front other : Tokens) (r : Outcome Tokens (List A)) → p' (front ++ other) ≡ done x other → AgM x other r → AgI (front ++ other) r
    unfolding some_from
    step_item x front other r e f zero lt = absurd (omega arith)
    step_item x front other r e f (suc m) lt = rw e (f m (omega (arith, lt, length-append front other)))

    stop_item : (ts rest : Tokens) → p' ts ≡ failed Syntax rest → AgI ts (failed Syntax rest)
    unfolding some_from
    stop_item ts rest e zero lt = absurd (omega arith)
    stop_item ts rest e (suc m) lt = rw e refl

    -- after an item
    good_rest : (n : ℕ) (x : A) (rest : Tokens) → K.Fits most depth x → (sees sg.Comma rest ≡ true → Good tokens [] F AgI (after rest) (some_from p n (after rest)))
        → Good tokens (K.spelled x) F (AgM x) rest (front_of (x ∷ []) (others (λ q. some_from p n q) rest))
    good_rest n x rest v go =
        good_then tokens (K.spelled x) T F AgR (λ ys q r. done (x ∷ ys) q ≡ r) (AgM x)
        (λ ys front other r a f m lt. ap (front_of (x ∷ [])) (a m lt) ∙ f) (λ q us a m lt. ap (front_of (x ∷ [])) (a m lt)) [] (0, 0, tt)
        (λ ys u. (
          x ∷ ys,
          [],
          (
            most + u.0,
            depth + u.1,
            (
              K.grows most (most + u.0) depth (depth + u.1) (omega arith) (omega arith) x v,
              (tails K).grows u.0 (most + u.0) u.1 (depth + u.1) (omega arith) (omega arith) ys u.2,
            ),
          ),
          sym (append-nil (K.spelled x ++ T.spelled ys)),
        ))
        (λ ys. done (x ∷ ys)) rest (others (λ q. some_from p n q) rest)
        (good_others_by AgI AgR (λ q. some_from p n q) rest (λ q r s a m lt. rw s (a m (omega (arith, lt, length-after q, true-sees sg.Comma q s)))) (λ q s m lt. rw s refl) go)
        (λ ys q front u t e. good_done tokens (K.spelled x ++ T.spelled ys) F (λ q r. done (x ∷ ys) q ≡ r) q (x ∷ ys) (v, u) refl (λ other h. refl))

    good_some_from : (n : ℕ) (ts : Tokens) → length ts < n → Good tokens [] F AgI ts (some_from p n ts)
    unfolding some_from
    good_some_from zero ts h = absurd (omega (arith, h))
    good_some_from (suc n) ts h =
        good_then tokens [] E F (λ q r. p' q ≡ r) AgM AgI step_item stop_item K.least K.is_least
        (λ x v. (x ∷ [], [], (v.0, v.1, (v.2, tt)), refl))
        (λ x rest. front_of (x ∷ []) (others (λ q. some_from p n q) rest)) ts (p ts) (G ts).good
        (λ x rest front v t e. good_rest n x rest v (λ c. good_some_from n (after rest)
        (omega (arith, h, ap length e, length-append front rest, length-after rest, true-sees sg.Comma rest c))))

    pub good_some : Behind [] (somes K) most depth (some p) (some p')
    good_some ts = record {
      good = good_again tokens [] F AgI (λ q r. some p' q ≡ r) ts (some p ts) (λ q r h a. a (suc (length q)) (omega arith)) (good_some_from (suc (length ts)) ts (omega arith));
    }

    pub good_any : Behind [] (lists K) most depth (any p) (any p')
    good_any ts =
        here_if (sees sg.CloseParen) (sees-head sg.CloseParen) (λ e. behind_done [] tt refl ts)
        (λ e. here_kind (λ xs v. some-every (K.Fits most depth) xs v) (λ xs v. (v.0, v.1, some-every (K.Fits v.0 v.1) xs v.2)) (λ xs. refl) (good_some ts))

-- none, or a comma and more
pub good_others : {A : Type 0} (K : Kind A) {most depth : ℕ} {more more' : Parse Tokens (List A)} → Behind [] (somes K) most depth more more' → Behind [] (tails K) most depth (others more) (others more')
good_others K {most = most} {depth = depth} {more = more} {more' = more'} G ts = record {
  good = good_others_by K most depth (λ q r. more' q ≡ r) (λ q r. others more' q ≡ r) more ts (λ q r s a. rw s a) (λ q s. rw s refl) (λ s. (G (after ts)).good);
}

-- parts up to a brace
abbrev close : List Word
close = w.sign sg.CloseBrace ∷ []

module _ {A : Type 0} (K : Kind A) (most depth : ℕ) (p p' : Parse Tokens A) (eats : (a : A) → K.Fits most depth a → 0 < length (K.spelled a)) (G : Behind [] K most depth p p') where
  abbrev B : Sort (List A)
  B = sort (blocks_of K) most depth

  abbrev AgB : Tokens → Outcome Tokens (List A) → Type 0
  AgB ts r = (m : ℕ) → length ts < m → braced_from p' m ts ≡ r

  -- behind a part
  abbrev AgQ : A → Tokens → Outcome Tokens (List A) → Type 0
  AgQ x ts r = (m : ℕ) → length ts < m → front_of (x ∷ []) (braced_from p' m ts) ≡ r

  -- at a part
  abbrev AgP : Tokens → Outcome Tokens (List A) → Type 0
  AgP ts r = (m : ℕ) → length ts ≤ m → and_then (p' ts) (λ x ts. front_of (x ∷ []) (braced_from p' m ts)) ≡ r

  -- words were read
  abbrev Eats : Tokens → Outcome Tokens A → Type 0
  Eats ts (done a rest) = length rest < length ts
  Eats ts (failed why rest) = Unit {0}

  eats_front : (x : A) (front : Tokens) → K.Fits most depth x → K.spelled x ≡ words_of front → 0 < length front
  eats_front x front v t = omega (arith, eats x v, ap length t, length-map front (λ (q : Placed Word). q.item))

  good_eats : (ts : Tokens) (o : Outcome Tokens A) → Good tokens [] (sort K most depth) (λ q r. p' q ≡ r) ts o → Good tokens [] (sort K most depth) (λ q r. (p' q ≡ r) × Eats q r) ts o
  good_eats ts (done a rest) g = record {
    front = g.front;
    whole = g.whole;
    valid = g.valid;
    text = g.text;
    again = λ other e. (g.again other e, omega (arith, eats_front a g.front g.valid g.text, length-append g.front other));
  }
  good_eats ts (failed Syntax rest) g = record { front = g.front; whole = g.whole; viable = g.viable; again = λ other e. (g.again other e, tt) }
  good_eats ts (failed Deep rest) g = tt
  good_eats ts (failed Memory rest) g = g

  good_behind : (n : ℕ) (x : A) (rest : Tokens) → K.Fits most depth x → Good tokens [] B AgB rest (braced_from p n rest) → Good tokens (K.spelled x) B (AgQ x) rest (front_of (x ∷ []) (braced_from p n rest))
  good_behind n x rest v g =
      good_then tokens (K.spelled x) B B AgB (λ ys q r. done (x ∷ ys) q ≡ r) (AgQ x)
      (λ ys front other r a f m lt. ap (front_of (x ∷ [])) (a m lt) ∙ f) (λ q us a m lt. ap (front_of (x ∷ [])) (a m lt)) [] (0, 0, tt)
      (λ ys u. (
        x ∷ ys,
        [],
        (
          most + u.0,
          depth + u.1,
          (
            K.grows most (most + u.0) depth (depth + u.1) (omega arith) (omega arith) x v,
            (blocks_of K).grows u.0 (most + u.0) u.1 (depth + u.1) (omega arith) (omega arith) ys u.2,
          ),
        ),
        append_assoc (K.spelled x) (flat_map K.spelled ys) close ∙ sym (append-nil (K.spelled x ++ B.spelled ys)),
      ))
      (λ ys. done (x ∷ ys)) rest (braced_from p n rest) g
      (λ ys q front u t e. good_done tokens (K.spelled x ++ B.spelled ys) B (λ q r. done (x ∷ ys) q ≡ r) q (x ∷ ys) (v, u) (append_assoc (K.spelled x) (flat_map K.spelled ys) close) (λ other h. refl))

  good_first : (n : ℕ) (ts : Tokens) → length ts ≤ n → ((rest : Tokens) → length rest < n → Good tokens [] B AgB rest (braced_from p n rest))
      → Good tokens [] B AgP ts (and_then (p ts) (λ x ts. front_of (x ∷ []) (braced_from p n ts)))
  good_first n ts h go =
      good_then tokens [] (sort K most depth) B (λ q r. (p' q ≡ r) × Eats q r) AgQ AgP
      (λ x front other r a f m lt. ap (λ o. and_then o (λ x ts. front_of (x ∷ []) (braced_from p' m ts))) a.0 ∙ f m (omega (arith, lt, a.1)))
      (λ q rest a m lt. ap (λ o. and_then o (λ x ts. front_of (x ∷ []) (braced_from p' m ts))) a.0)
      K.least K.is_least
      (λ x v. (x ∷ [], close, (v.0, v.1, (v.2, tt)), append_assoc (K.spelled x) [] close))
      (λ x ts. front_of (x ∷ []) (braced_from p n ts)) ts (p ts) (good_eats ts (p ts) (G ts).good)
      (λ x rest front v t e. good_behind n x rest v (go rest (omega (arith, h, ap length e, length-append front rest, eats_front x front v t))))

  braced-close : (m : ℕ) (q : Tokens) → length q < m → sees sg.CloseBrace q ≡ true → braced_from p' m q ≡ done [] (after q)
  unfolding braced_from
  braced-close zero q lt s = absurd (omega arith)
  braced-close (suc m) q lt s = rw s refl

  braced-more : (m : ℕ) (q : Tokens) (r : Outcome Tokens (List A)) → length q < m → sees sg.CloseBrace q ≡ false → AgP q r → braced_from p' m q ≡ r
  unfolding braced_from
  braced-more zero q r lt s a = absurd (omega arith)
  braced-more (suc m) q r lt s a = rw s (a m (omega (arith, lt)))

  good_braced_from : (n : ℕ) (ts : Tokens) → length ts < n → Good tokens [] B AgB ts (braced_from p n ts)
  unfolding braced_from
  good_braced_from zero ts h = absurd (omega (arith, h))
  good_braced_from (suc n) ts h =
      good_if tokens sg.CloseBrace [] B (λ q r. done [] (after q) ≡ r) AgP AgB ts (done [] (after ts)) (and_then (p ts) (λ x ts. front_of (x ∷ []) (braced_from p n ts)))
      (λ q r s a m lt. braced-close m q lt s ∙ a) (λ q r s a m lt. braced-more m q r lt s a)
      (λ s. let b = sees-sign sg.CloseBrace ts s in
      subst (λ q. Good tokens [] B (λ q r. done [] (after q) ≡ r) q (done [] (after ts))) (sym b.1)
      (good_shift tokens [] B (λ q r. done [] q ≡ r) (λ q r. done [] (after q) ≡ r) (record { at = b.0; item = w.sign sg.CloseBrace }) (after ts) (done [] (after ts)) (λ q r a. a)
      (good_done tokens (w.sign sg.CloseBrace ∷ []) B (λ q r. done [] q ≡ r) (after ts) [] tt refl (λ other h. refl))))
      (λ s. good_first n ts (omega (arith, h)) (λ rest lt. good_braced_from n rest lt))

  pub good_braced : Behind [] (blocks_of K) most depth (braced p) (braced p')
  good_braced ts = record {
    good = good_again tokens [] B AgB (λ q r. braced p' q ≡ r) ts (braced p ts) (λ q r h a. a (suc (length q)) (omega arith)) (good_braced_from (suc (length ts)) ts (omega arith));
  }
