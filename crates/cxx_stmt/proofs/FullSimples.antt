-- The spelling of each local and of each simple statement is read again.
use Rattle.std.proofs.Common.{◌≡◌, ℕ, Bool, true, false, List, [], ◌∷◌, ◌++◌, Option, Some, None, ◌⊎◌, inl, inr, refl, sym, ap, ◌∙◌, subst, append_assoc}
use Rattle.std.specs.Prelude.{option_map}
use Rattle.agxx_base.specs.declared.place.Place.{Place}
use Rattle.agxx_base.specs.declared.ids.NameId.{NameId}
use Rattle.agxx_base.specs.declared.vocabulary.Keyword.TheVariants as k
use Rattle.agxx_base.specs.declared.vocabulary.Sign.{Sign}
use Rattle.agxx_base.specs.declared.vocabulary.Sign.TheVariants as sg
use Rattle.agxx_base.specs.declared.vocabulary.SpecialName.{SpecialName}
use Rattle.cxx_tree.specs.declared.node.Node.{Node}
use Rattle.cxx_tree.specs.declared.node.Placed.{Placed}
use Rattle.cxx_tree.specs.declared.operator.BinOp.{BinOp}
use Rattle.cxx_tree.specs.declared.operator.BinOp.TheVariants as op
use Rattle.cxx_tree.specs.declared.expr.Base.{Base}
use Rattle.cxx_tree.specs.declared.expr.Base.TheVariants as base_of
use Rattle.cxx_tree.specs.declared.expr.Left.{Left}
use Rattle.cxx_tree.specs.declared.expr.Left.TheVariants as left_of
use Rattle.cxx_tree.specs.declared.expr.Callee.{Callee}
use Rattle.cxx_tree.specs.declared.expr.Callee.TheVariants as callee_of
use Rattle.cxx_tree.specs.declared.program.TypeName.{TypeName}
use Rattle.cxx_tree.specs.declared.program.TypeName.TheVariants as type_of
use Rattle.cxx_tree.specs.Words as w
use Rattle.cxx_tree.specs.Words.{Word, optional}
use Rattle.cxx_tree.specs.ExprTree as e
use Rattle.cxx_tree.specs.ExprTree.{ExprTree, ExprTrees, listed_exprs}
use Rattle.cxx_tree.specs.StmtTree as s
use Rattle.cxx_tree.specs.StmtTree.{InitialTree, LocalTree, SimpleTree, StartTree}
use Rattle.cxx_tree.specs.Spelling.{assign_sign, bump_sign, spell_name, spell_ref, spell_callee, spell_left, spell_type, spell_expr, spell_arguments, spell_initial, spell_local, spell_simple, spell_start}
use Rattle.cxx_tree.specs.Limits.{Grammar, HasAdviceForms}
use Rattle.cxx_tree.specs.Fits.{expr_level, IsAssignable, IsPlainType, Optionally, FitsLeft, FitsFull, FitsArguments, FitsSimple, FitsStart}
use Rattle.cxx_tree.specs.Blank.{no_place, no_node, blank_placed, blank_left, blank_callee, blank_expr, blank_initial, blank_local, blank_simple, blank_start}
use Rattle.cxx_expr.specs.Tokens.{Tokens, words_of, is_sign, sees}
use Rattle.cxx_expr.specs.Outcome.{Outcome, done, failed, Parse, and_then}
use Rattle.cxx_expr.specs.Lefts.{node_at, name, reference, selected_of, target, left_by}
use Rattle.cxx_expr.specs.Full.{full_level}
use Rattle.cxx_expr.proofs.Fronts.{token, Ends, Ends-nil}
use Rattle.cxx_expr.proofs.Names.{member_of}
use Rattle.cxx_stmt.specs.Parts.{arguments}
use Rattle.cxx_stmt.specs.Types.{pointer_to}
use Rattle.cxx_stmt.specs.Simples.{callee, placed_callee, left_at, bump_tree, assigned, changed, simple_behind, simple, initial, local_of, start_local_of, start_simple_of, plain_ref, start_behind, start}
use Rattle.cxx_expr.proofs.Complete.{blank-left_by}
use Rattle.cxx_stmt.proofs.FullParts.{laid, words-laid, begins, begins-append, begins-laid, begins-sees, Excludes, IsRead, read-then, read-made}
use Rattle.cxx_stmt.proofs.FullTypes.{blank_placed_callee, read-name, read-callee}
use Rattle.cxx_stmt.proofs.FullExprs.{blank_listed, behind_name, behind-sees, behind-callee, Ends-semicolon, read-full, read-arguments}

-- ---- what stands behind the callee or the left side of a simple statement

abbrev is_behind_sign : Sign → Bool
is_behind_sign sg.OpenParen = true
is_behind_sign sg.Assign = true
is_behind_sign sg.PlusAssign = true
is_behind_sign sg.MinusAssign = true
is_behind_sign sg.StarAssign = true
is_behind_sign sg.SlashAssign = true
is_behind_sign sg.PercentAssign = true
is_behind_sign sg.PlusPlus = true
is_behind_sign sg.MinusMinus = true
is_behind_sign _ = false

abbrev is_behind : Word → Bool
is_behind (w.sign found) = is_behind_sign found
is_behind _ = false

behind-not-dot : Excludes is_behind (is_sign sg.Dot)
behind-not-dot (w.sign sg.Dot) h = cc
behind-not-dot (w.sign _) h = refl
behind-not-dot _ h = refl

behind-not-arrow : Excludes is_behind (is_sign sg.Arrow)
behind-not-arrow (w.sign sg.Arrow) h = cc
behind-not-arrow (w.sign _) h = refl
behind-not-arrow _ h = refl

behind-not-star : Excludes is_behind (is_sign sg.Star)
behind-not-star (w.sign sg.Star) h = cc
behind-not-star (w.sign _) h = refl
behind-not-star _ h = refl

behind-not-colons : Excludes is_behind (is_sign sg.ColonColon)
behind-not-colons (w.sign sg.ColonColon) h = cc
behind-not-colons (w.sign _) h = refl
behind-not-colons _ h = refl

behind-assign_sign : (o : Option BinOp) → IsAssignable o → is_behind (w.sign (assign_sign o)) ≡ true
behind-assign_sign None v = refl
behind-assign_sign (Some op.Add) v = refl
behind-assign_sign (Some op.Subtract) v = refl
behind-assign_sign (Some op.Multiply) v = refl
behind-assign_sign (Some op.Divide) v = refl
behind-assign_sign (Some op.Remainder) v = refl
behind-assign_sign (Some _) v = absurd v

behind-bump_sign : (adds : Bool) → is_behind (w.sign (bump_sign adds)) ≡ true
behind-bump_sign true = refl
behind-bump_sign false = refl

-- ---- how a simple statement begins

abbrev is_callee_first : Word → Bool
is_callee_first (w.name n) = true
is_callee_first (w.sign sg.ColonColon) = true
is_callee_first (w.keyword k.This) = true
is_callee_first _ = false

callee_first-ref : (global : Bool) (n : Node) (x : Placed NameId) → begins is_callee_first (spell_ref (record { node = n; global = global; name = x })) ≡ true
callee_first-ref true n x = refl
callee_first-ref false n x = refl

callee_first : (c : Callee) → begins is_callee_first (spell_callee c) ≡ true
callee_first (callee_of.Bare r) = callee_first-ref r.global r.node r.name
callee_first (callee_of.Member m) = by_base m.base m.name
  where
    by_base : (base : Base) (x : Placed NameId) → begins is_callee_first (spell_callee (member_of base x)) ≡ true
    by_base base_of.This x = refl
    by_base (base_of.Dot r) x =
        begins-append is_callee_first (spell_ref r ++ w.sign sg.Dot ∷ []) (spell_name x) (begins-append is_callee_first (spell_ref r) (w.sign sg.Dot ∷ []) (callee_first-ref r.global r.node r.name))
    by_base (base_of.Arrow r) x =
        begins-append is_callee_first (spell_ref r ++ w.sign sg.Arrow ∷ []) (spell_name x) (begins-append is_callee_first (spell_ref r) (w.sign sg.Arrow ∷ []) (callee_first-ref r.global r.node r.name))

abbrev is_simple_first : Word → Bool
is_simple_first (w.sign sg.PlusPlus) = true
is_simple_first (w.sign sg.MinusMinus) = true
is_simple_first word = is_callee_first word

callee-simple : (words : List Word) → begins is_callee_first words ≡ true → begins is_simple_first words ≡ true
callee-simple [] h = cc
callee-simple (w.sign sg.PlusPlus ∷ words) h = refl
callee-simple (w.sign sg.MinusMinus ∷ words) h = refl
callee-simple (w.sign _ ∷ words) h = h
callee-simple (_ ∷ words) h = h

abbrev pub is_start_first : Word → Bool
is_start_first (w.keyword (k.Number kind)) = true
is_start_first (w.keyword k.Int) = true
is_start_first (w.keyword k.Unsigned) = true
is_start_first (w.keyword k.Void) = true
is_start_first word = is_simple_first word

simple-start_first : (words : List Word) → begins is_simple_first words ≡ true → begins is_start_first words ≡ true
simple-start_first [] h = cc
simple-start_first (w.keyword (k.Number kind) ∷ words) h = refl
simple-start_first (w.keyword k.Int ∷ words) h = refl
simple-start_first (w.keyword k.Unsigned ∷ words) h = refl
simple-start_first (w.keyword k.Void ∷ words) h = refl
simple-start_first (w.keyword _ ∷ words) h = h
simple-start_first (_ ∷ words) h = h

-- ---- simple statements

module _ (special : SpecialName → ℕ) (g : Grammar) (no_advice : HasAdviceForms g → ⊥) (most depth : ℕ) where
  -- the left side as a callee
  abbrev IsCallee : Left → Type 0
  IsCallee l = (c : Callee) × (spell_left special l ≡ spell_callee c) × (blank_left l ≡ left_by no_node (blank_callee c))

  left_callee : (l : Left) → FitsLeft g depth l → IsCallee l
  left_callee (left_of.Name r) v = (callee_of.Bare r, refl, refl)
  left_callee (left_of.Member n m) v = (callee_of.Member m, refl, refl)
  left_callee (left_of.Result n) v = absurd (no_advice v.0)

  left-same : (l : Left) (c : Callee) → blank_left l ≡ left_by no_node (blank_callee c) → (found : Placed Callee) → blank_callee found.item ≡ blank_callee c → blank_left (left_at found) ≡ blank_left l
  left-same l c h found i = blank-left_by (node_at found.at) found.item ∙ ap (left_by no_node) i ∙ sym h

  -- a simple statement that begins with its callee or its left side
  record Behind (t : SimpleTree) (rest : Tokens) : Type 0 where
    front : Callee
    words : List Word
    spelled : spell_simple special t ≡ spell_callee front ++ words
    first : begins is_behind words ≡ true
    reads : (found : Placed Callee) → blank_callee found.item ≡ blank_callee front → IsRead blank_simple (simple_behind most depth found) words (blank_simple t) rest

  -- or with `++` or `--`
  record InFront (t : SimpleTree) (rest : Tokens) : Type 0 where
    adds : Bool
    words : List Word
    spelled : spell_simple special t ≡ w.sign (bump_sign adds) ∷ words
    reads : IsRead blank_simple (simple most depth) (w.sign (bump_sign adds) ∷ words) (blank_simple t) rest

  assign-behind : (c : Placed Callee) (o : Option BinOp) → IsAssignable o → (at : Place) (ts : Tokens)
      → simple_behind most depth c (token at (w.sign (assign_sign o)) ∷ ts) ≡ assigned most depth (left_at c) (record { at = at; item = o }) (token at (w.sign (assign_sign o)) ∷ ts)
  unfolding simple_behind changed
  assign-behind c None v at ts = refl
  assign-behind c (Some op.Add) v at ts = refl
  assign-behind c (Some op.Subtract) v at ts = refl
  assign-behind c (Some op.Multiply) v at ts = refl
  assign-behind c (Some op.Divide) v at ts = refl
  assign-behind c (Some op.Remainder) v at ts = refl
  assign-behind c (Some _) v at ts = absurd v

  abbrev assign_made : Left → Placed (Option BinOp) → ExprTree → SimpleTree
  assign_made l o v = s.assign (record { left = l; sign = o; value = v })

  read-assigned : (l : Left) (o : Placed (Option BinOp)) (l' : Left) (o' : Placed (Option BinOp)) (v : ExprTree) (word : Word) (rest : Tokens) → FitsFull g most depth expr_level v → Ends expr_level rest
      → blank_left l' ≡ blank_left l → blank_placed o' ≡ blank_placed o → IsRead blank_simple (assigned most depth l' o') (word ∷ spell_expr special v) (blank_simple (assign_made l o v)) rest
  unfolding assigned
  read-assigned l o l' o' v word rest fits ends i j places =
      read-made blank_expr blank_simple (full_level most depth expr_level) (assign_made l' o') (spell_expr special v) (blank_expr v) (blank_simple (assign_made l o v)) rest (read-full special g no_advice most depth expr_level v rest fits ends)
      (λ found h. ap (λ q. assign_made q (blank_placed o') (blank_expr found)) i ∙ ap (λ q. assign_made (blank_left l) q (blank_expr found)) j ∙ ap (assign_made (blank_left l) (blank_placed o)) h) places.1

  behind-assign : (l : Left) (o : Placed (Option BinOp)) (v : ExprTree) (rest : Tokens) → FitsLeft g depth l → IsAssignable o.item → FitsFull g most depth expr_level v → Ends expr_level rest → Behind (assign_made l o v) rest
  behind-assign l o v rest fits assignable full ends =
      let c = left_callee l fits in
      let more : List Word = w.sign (assign_sign o.item) ∷ spell_expr special v in
      record {
        front = c.0;
        words = more;
        spelled = ap (λ q. q ++ more) c.1;
        first = behind-assign_sign o.item assignable;
        reads = λ found i places.
            let placed : Placed (Option BinOp) = record { at = places.0; item = o.item } in
            let r = read-assigned l o (left_at found) placed v (w.sign (assign_sign o.item)) rest full ends (left-same l c.0 c.2 found i) refl places in
            (r.0, r.1, assign-behind found o.item assignable places.0 (laid (spell_expr special v) places.1 rest) ∙ r.2);
      }

  abbrev bumps : Left → Place → Bool → Bool → SimpleTree
  bumps l at adds in_front = s.bump (record { left = l; sign = at; adds = adds; in_front = in_front })

  bump-behind : (c : Placed Callee) (adds : Bool) (at : Place) (ts : Tokens)
      → simple_behind most depth c (token at (w.sign (bump_sign adds)) ∷ ts) ≡ done (bump_tree (left_at c) (record { at = at; item = adds }) false) ts
  unfolding simple_behind changed
  bump-behind c true at ts = refl
  bump-behind c false at ts = refl

  behind-bump : (l : Left) (at : Place) (adds : Bool) (rest : Tokens) → FitsLeft g depth l → Behind (bumps l at adds false) rest
  behind-bump l at adds rest fits =
      let c = left_callee l fits in
      let more : List Word = w.sign (bump_sign adds) ∷ [] in
      record {
        front = c.0;
        words = more;
        spelled = ap (λ q. q ++ more) c.1;
        first = behind-bump_sign adds;
        reads = λ found i places. (
          bump_tree (left_at found) (record { at = places.0; item = adds }) false,
          ap (λ q. bumps q no_place adds false) (left-same l c.0 c.2 found i),
          bump-behind found adds places.0 rest,
        );
      }

  call-behind : (c : Placed Callee) (at : Place) (ts : Tokens) (xs : List ExprTree) (rest : Tokens) → arguments most depth (token at (w.sign sg.OpenParen) ∷ ts) ≡ done xs rest
      → simple_behind most depth c (token at (w.sign sg.OpenParen) ∷ ts) ≡ done (s.call_stmt (e.calls (node_at c.at) c.item (listed_exprs xs))) rest
  unfolding simple_behind
  call-behind c at ts xs rest h = rw h refl

  behind-call : (n : Node) (c : Callee) (xs : ExprTrees) (rest : Tokens) → FitsArguments g most depth xs → Behind (s.call_stmt (e.calls n c xs)) rest
  behind-call n c xs rest fits = record {
    front = c;
    words = spell_arguments special xs;
    spelled = refl;
    first = refl;
    reads = λ found i places.
        let r = read-arguments special g no_advice most depth xs rest fits places in (
          s.call_stmt (e.calls (node_at found.at) found.item (listed_exprs r.0)),
          ap (λ q. s.call_stmt (e.calls no_node q (blank_listed r.0))) i ∙ ap (λ q. s.call_stmt (e.calls no_node (blank_callee c) q)) r.1,
          call-behind found places.0 _ r.0 rest r.2,
        );
  }

  simple-bump : (adds : Bool) (at : Place) (ts : Tokens)
      → simple most depth (token at (w.sign (bump_sign adds)) ∷ ts) ≡ and_then (callee ts) (λ c. done (bump_tree (left_at c) (record { at = at; item = adds }) true))
  unfolding simple
  simple-bump true at ts = refl
  simple-bump false at ts = refl

  in_front-bump : (l : Left) (at : Place) (adds : Bool) (rest : Tokens) → FitsLeft g depth l → Ends expr_level rest → InFront (bumps l at adds true) rest
  in_front-bump l at adds rest fits ends =
      let c = left_callee l fits in
      record {
        adds = adds;
        words = spell_callee c.0;
        spelled = ap (λ q. w.sign (bump_sign adds) ∷ q) c.1;
        reads = λ places.
            let placed : Placed Bool = record { at = places.0; item = adds } in
            let r = read-made blank_placed_callee blank_simple callee (λ c. bump_tree (left_at c) placed true) (spell_callee c.0) (blank_callee c.0) (blank_simple (bumps l at adds true)) rest
            (read-callee c.0 rest ends.dot ends.arrow) (λ found i. ap (λ q. bumps q no_place adds true) (left-same l c.0 c.2 found i)) places.1 in
            (r.0, r.1, simple-bump adds places.0 (laid (spell_callee c.0) places.1 rest) ∙ r.2);
      }

  by_front : (l : Left) (at : Place) (adds in_front : Bool) (rest : Tokens) → FitsLeft g depth l → Ends expr_level rest → Behind (bumps l at adds in_front) rest ⊎ InFront (bumps l at adds in_front) rest
  by_front l at adds true rest fits ends = inr (in_front-bump l at adds rest fits ends)
  by_front l at adds false rest fits ends = inl (behind-bump l at adds rest fits)

  begun : (t : SimpleTree) (rest : Tokens) → FitsSimple g most depth t → Ends expr_level rest → Behind t rest ⊎ InFront t rest
  begun (s.assign a) rest fits ends = inl (behind-assign a.left a.sign a.value rest fits.0 fits.1 fits.2 ends)
  begun (s.bump b) rest fits ends = by_front b.left b.sign b.adds b.in_front rest fits ends
  begun (s.call_stmt (e.calls n c xs)) rest fits ends = inl (behind-call n c xs rest fits)
  begun (s.proceed at) rest fits ends = absurd (no_advice fits.0)

  simple-callee : (ts : Tokens) → begins is_callee_first (words_of ts) ≡ true → simple most depth ts ≡ and_then (callee ts) (simple_behind most depth)
  unfolding simple
  simple-callee [] h = cc
  simple-callee (t ∷ ts) h = by_word t.at t.item h
    where
      by_word : (at : Place) (word : Word) → is_callee_first word ≡ true → simple most depth (token at word ∷ ts) ≡ and_then (callee (token at word ∷ ts)) (simple_behind most depth)
      by_word at (w.name n) h = refl
      by_word at (w.sign sg.ColonColon) h = refl
      by_word at (w.sign _) h = cc
      by_word at (w.keyword k.This) h = refl
      by_word at (w.keyword _) h = cc
      by_word at _ h = cc

  read-behind : (t : SimpleTree) (rest : Tokens) → Behind t rest → IsRead blank_simple (simple most depth) (spell_simple special t) (blank_simple t) rest
  read-behind t rest b =
      let words : List Word = spell_callee b.front ++ b.words in
      let parts : IsRead blank_simple (λ ts. and_then (callee ts) (simple_behind most depth)) words (blank_simple t) rest =
      read-then blank_placed_callee blank_simple callee (simple_behind most depth) (spell_callee b.front) b.words (blank_callee b.front) (blank_simple t) rest
      (λ places. read-callee b.front (laid b.words places rest) (begins-sees is_behind sg.Dot behind-not-dot b.words b.first places rest) (begins-sees is_behind sg.Arrow behind-not-arrow b.words b.first places rest)) b.reads in
      let first : begins is_callee_first words ≡ true = begins-append is_callee_first (spell_callee b.front) b.words (callee_first b.front) in
      let whole : IsRead blank_simple (simple most depth) words (blank_simple t) rest =
      λ places. let r = parts places in (r.0, r.1, simple-callee (laid words places rest) (begins-laid is_callee_first words first places rest) ∙ r.2) in
      subst (λ q. IsRead blank_simple (simple most depth) q (blank_simple t) rest) (sym b.spelled) whole

  -- a simple statement, before anything that doesn't go on with an expression
  pub read-simple : (t : SimpleTree) (rest : Tokens) → FitsSimple g most depth t → Ends expr_level rest → IsRead blank_simple (simple most depth) (spell_simple special t) (blank_simple t) rest
  read-simple t rest fits ends = elim (begun t rest fits ends) [
    | inl b ↦ read-behind t rest b
    | inr f ↦ subst (λ q. IsRead blank_simple (simple most depth) q (blank_simple t) rest) (sym f.spelled) f.reads
  ]

  -- ---- how a simple statement begins

  pub first-simple : (t : SimpleTree) → FitsSimple g most depth t → begins is_simple_first (spell_simple special t) ≡ true
  first-simple t fits = by_begun (begun t [] fits (Ends-nil expr_level))
    where
      by_bump : (adds : Bool) (words : List Word) → begins is_simple_first (w.sign (bump_sign adds) ∷ words) ≡ true
      by_bump true words = refl
      by_bump false words = refl

      by_begun : Behind t [] ⊎ InFront t [] → begins is_simple_first (spell_simple special t) ≡ true
      by_begun (inl b) = ap (begins is_simple_first) b.spelled ∙ callee-simple (spell_callee b.front ++ b.words) (begins-append is_callee_first (spell_callee b.front) b.words (callee_first b.front))
      by_begun (inr f) = ap (begins is_simple_first) f.spelled ∙ by_bump f.adds f.words

  -- a name at its beginning is followed by no sign but those of a selection, a call or an assignment
  behind-simple : (is : Word → Bool) → is (w.sign sg.Dot) ≡ false → is (w.sign sg.Arrow) ≡ false → Excludes is_behind is → (t : SimpleTree) → FitsSimple g most depth t → (more : List Word)
      → behind_name is (spell_simple special t ++ more) ≡ false
  behind-simple is dot arrow other t fits more = by_begun (begun t [] fits (Ends-nil expr_level))
    where
      by_words : (c : Callee) (words : List Word) → begins is_behind words ≡ true → behind_name is (spell_callee c ++ (words ++ more)) ≡ false
      by_words c [] h = cc
      by_words c (word ∷ words) h = behind-callee is dot arrow c word (words ++ more) (other word h)

      by_begun : Behind t [] ⊎ InFront t [] → behind_name is (spell_simple special t ++ more) ≡ false
      by_begun (inl b) = ap (λ q. behind_name is (q ++ more)) b.spelled ∙ ap (behind_name is) (append_assoc (spell_callee b.front) b.words more) ∙ by_words b.front b.words b.first
      by_begun (inr f) = ap (λ q. behind_name is (q ++ more)) f.spelled

  -- ---- locals

  read-initial : (i : Option InitialTree) (at : Place) (rest : Tokens) → Optionally (λ (i : InitialTree). FitsFull g most depth expr_level i.value) i
      → IsRead (option_map blank_initial) (initial most depth) (optional (spell_initial special) i) (option_map blank_initial i) (token at (w.sign sg.Semicolon) ∷ rest)
  unfolding initial
  read-initial None at rest fits places = (None, refl, refl)
  read-initial (Some i) at rest fits places =
      let end : Tokens = token at (w.sign sg.Semicolon) ∷ rest in
      let made : Place → ExprTree → Option InitialTree = λ at v. Some (record { sign = at; value = v }) in
      read-made blank_expr (option_map blank_initial) (full_level most depth expr_level) (made places.0) (spell_expr special i.value) (blank_expr i.value) (option_map blank_initial (Some i)) end
      (read-full special g no_advice most depth expr_level i.value end fits (Ends-semicolon expr_level at rest)) (λ found h. ap (made no_place) h) places.1

  -- behind the type of a local
  read-local_of : (t : Placed TypeName) (l : LocalTree) (at : Place) (rest : Tokens) → blank_placed t ≡ blank_placed l.type_name → Optionally (λ (i : InitialTree). FitsFull g most depth expr_level i.value) l.initial
      → IsRead blank_local (local_of most depth t) (spell_name l.name ++ optional (spell_initial special) l.initial) (blank_local l) (token at (w.sign sg.Semicolon) ∷ rest)
  unfolding local_of
  read-local_of t l at rest h fits =
      let end : Tokens = token at (w.sign sg.Semicolon) ∷ rest in
      let made : Placed TypeName → Placed NameId → Option InitialTree → LocalTree = λ t n i. record { type_name = t; name = n; initial = i } in
      let behind : Placed NameId → Parse Tokens LocalTree = λ n ts. and_then (initial most depth ts) (λ i. done (made t n i)) in
      read-then blank_placed blank_local name behind (spell_name l.name) (optional (spell_initial special) l.initial) (blank_placed l.name) (blank_local l) end
      (λ places. read-name l.name (laid (optional (spell_initial special) l.initial) places end))
      (λ n e. read-made (option_map blank_initial) blank_local (initial most depth) (made t n) (optional (spell_initial special) l.initial) (option_map blank_initial l.initial) (blank_local l) end
      (read-initial l.initial at rest fits)
      (λ i j. ap (λ q. made q (blank_placed n) (option_map blank_initial i)) h ∙ ap (λ q. made (blank_placed l.type_name) q (option_map blank_initial i)) e ∙ ap (made (blank_placed l.type_name) (blank_placed l.name)) j))

  read-start_local : (t : Placed TypeName) (l : LocalTree) (at : Place) (rest : Tokens) → blank_placed t ≡ blank_placed l.type_name → Optionally (λ (i : InitialTree). FitsFull g most depth expr_level i.value) l.initial
      → IsRead blank_start (start_local_of most depth t) (spell_name l.name ++ optional (spell_initial special) l.initial) (s.start_local (blank_local l)) (token at (w.sign sg.Semicolon) ∷ rest)
  read-start_local t l at rest h fits =
      read-made blank_local blank_start (local_of most depth t) s.start_local (spell_name l.name ++ optional (spell_initial special) l.initial) (blank_local l) (s.start_local (blank_local l)) (token at (w.sign sg.Semicolon) ∷ rest)
      (read-local_of t l at rest h fits) (λ found e. ap s.start_local e)

  -- ---- a local or a simple statement

  name-simple : (at : Place) (n : ℕ) (ts : Tokens) → sees sg.Star ts ≡ false → start_behind most depth (record { at = at; item = record { 0 = n } }) ts ≡ start_simple_of most depth (token at (w.name n) ∷ ts)
  unfolding start_behind simple callee target reference name
  name-simple at n ts h = rw h (by_outcome (selected_of (plain_ref (record { at = at; item = record { 0 = n } })) ts))
    where
      by_outcome : (o : Outcome Tokens Callee)
          → and_then o (λ c ts. and_then (simple_behind most depth (placed_callee at c) ts) (λ i. done (s.start_simple i))) ≡ and_then (and_then (and_then o (λ c. done (placed_callee at c))) (simple_behind most depth)) (λ i. done (s.start_simple i))
      by_outcome (done c rest) = refl
      by_outcome (failed why rest) = refl

  start-simple : (ts : Tokens) → begins is_simple_first (words_of ts) ≡ true → behind_name (is_sign sg.Star) (words_of ts) ≡ false → start most depth ts ≡ start_simple_of most depth ts
  unfolding start
  start-simple [] h i = cc
  start-simple (t ∷ ts) h i = by_word t.at t.item h i
    where
      by_word : (at : Place) (word : Word) → is_simple_first word ≡ true → behind_name (is_sign sg.Star) (word ∷ words_of ts) ≡ false → start most depth (token at word ∷ ts) ≡ start_simple_of most depth (token at word ∷ ts)
      by_word at (w.name n) h i = name-simple at n ts (behind-sees sg.Star n ts i)
      by_word at (w.sign sg.ColonColon) h i = refl
      by_word at (w.sign sg.PlusPlus) h i = refl
      by_word at (w.sign sg.MinusMinus) h i = refl
      by_word at (w.sign _) h i = cc
      by_word at (w.keyword k.This) h i = refl
      by_word at (w.keyword _) h i = cc
      by_word at _ h i = cc

  abbrev of_simple : SimpleTree → Tokens → Type 0
  of_simple t rest = IsRead blank_start (start most depth) (spell_simple special t) (s.start_simple (blank_simple t)) rest

  simple-start : (t : SimpleTree) (rest : Tokens) → FitsSimple g most depth t → Ends expr_level rest → of_simple t rest
  simple-start t rest fits ends places =
      let words : List Word = spell_simple special t in
      let r = read-made blank_simple blank_start (simple most depth) s.start_simple words (blank_simple t) (s.start_simple (blank_simple t)) rest (read-simple t rest fits ends) (λ found h. ap s.start_simple h) places in
      let second : behind_name (is_sign sg.Star) (words_of (laid words places rest)) ≡ false =
      ap (behind_name (is_sign sg.Star)) (words-laid words places rest) ∙ behind-simple (is_sign sg.Star) refl refl behind-not-star t fits (words_of rest) in
      (r.0, r.1, start-simple (laid words places rest) (begins-laid is_simple_first words (first-simple t fits) places rest) second ∙ r.2)

  local-start : (t : TypeName) (p : Place) (n : Placed NameId) (i : Option InitialTree) (at : Place) (rest : Tokens) → IsPlainType t → Optionally (λ (i : InitialTree). FitsFull g most depth expr_level i.value) i
      → IsRead blank_start (start most depth) (spell_local special (record { type_name = record { at = p; item = t }; name = n; initial = i }))
      (s.start_local (blank_local (record { type_name = record { at = p; item = t }; name = n; initial = i }))) (token at (w.sign sg.Semicolon) ∷ rest)
  unfolding start start_behind
  local-start (type_of.Num kind) p n i at rest v fits places =
      let l : LocalTree = record { type_name = record { at = p; item = type_of.Num kind }; name = n; initial = i } in
      read-start_local (record { at = places.0; item = type_of.Num kind }) l at rest refl fits places.1
  local-start type_of.Int p n i at rest v fits places =
      let l : LocalTree = record { type_name = record { at = p; item = type_of.Int }; name = n; initial = i } in
      read-start_local (record { at = places.0; item = type_of.Int }) l at rest refl fits places.1
  local-start type_of.Unsigned p n i at rest v fits places =
      let l : LocalTree = record { type_name = record { at = p; item = type_of.Unsigned }; name = n; initial = i } in
      read-start_local (record { at = places.0; item = type_of.Unsigned }) l at rest refl fits places.1
  local-start type_of.Void p n i at rest v fits places =
      let l : LocalTree = record { type_name = record { at = p; item = type_of.Void }; name = n; initial = i } in
      read-start_local (record { at = places.0; item = type_of.Void }) l at rest refl fits places.1
  local-start (type_of.Pointer class) p n i at rest v fits places =
      let l : LocalTree = record { type_name = record { at = p; item = type_of.Pointer class }; name = n; initial = i } in
      read-start_local (pointer_to (record { at = places.0; item = class })) l at rest refl fits places.1.1
  local-start type_of.Mutex p n i at rest v fits places = absurd v

  -- a local or a simple statement, before its semicolon
  pub read-start : (x : StartTree) (at : Place) (rest : Tokens) → FitsStart g most depth x → IsRead blank_start (start most depth) (spell_start special x) (blank_start x) (token at (w.sign sg.Semicolon) ∷ rest)
  read-start (s.start_local l) at rest fits = local-start l.type_name.item l.type_name.at l.name l.initial at rest fits.0 fits.1
  read-start (s.start_simple t) at rest fits = simple-start t (token at (w.sign sg.Semicolon) ∷ rest) fits (Ends-semicolon expr_level at rest)

  -- ---- how they begin

  pub first-start : (x : StartTree) → FitsStart g most depth x → begins is_start_first (spell_start special x) ≡ true
  first-start (s.start_local l) fits = by_type l.type_name.item fits.0
    where
      by_type : (t : TypeName) → IsPlainType t → begins is_start_first ((spell_type special t ++ spell_name l.name) ++ optional (spell_initial special) l.initial) ≡ true
      by_type (type_of.Num kind) v = refl
      by_type type_of.Int v = refl
      by_type type_of.Unsigned v = refl
      by_type type_of.Void v = refl
      by_type (type_of.Pointer class) v = refl
      by_type type_of.Mutex v = absurd v
  first-start (s.start_simple t) fits = simple-start_first (spell_simple special t) (first-simple t fits)

  -- a name at the beginning is not followed by `::`
  pub behind-start : (x : StartTree) → FitsStart g most depth x → (more : List Word) → behind_name (is_sign sg.ColonColon) (spell_start special x ++ more) ≡ false
  behind-start (s.start_local l) fits more = by_type l.type_name.item fits.0
    where
      by_type : (t : TypeName) → IsPlainType t → behind_name (is_sign sg.ColonColon) (((spell_type special t ++ spell_name l.name) ++ optional (spell_initial special) l.initial) ++ more) ≡ false
      by_type (type_of.Num kind) v = refl
      by_type type_of.Int v = refl
      by_type type_of.Unsigned v = refl
      by_type type_of.Void v = refl
      by_type (type_of.Pointer class) v = refl
      by_type type_of.Mutex v = absurd v
  behind-start (s.start_simple t) fits more = behind-simple (is_sign sg.ColonColon) refl refl behind-not-colons t fits more
