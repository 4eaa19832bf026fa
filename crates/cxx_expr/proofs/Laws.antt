-- Each rule of the grammar answers right, if what stands in parentheses does.
use Rattle.std.proofs.Common.{◌≡◌, ℕ, zero, suc, ◌≤◌, true, false, List, [], ◌∷◌, ◌++◌, length, Option, Some, None, inl, refl, sym, ap, ◌∙◌, subst, append-nil, arith}
use Rattle.agxx_base.specs.declared.place.Place.{Place}
use Rattle.agxx_base.specs.declared.ids.NameId.{NameId}
use Rattle.agxx_base.specs.declared.vocabulary.Keyword.{Keyword}
use Rattle.agxx_base.specs.declared.vocabulary.Keyword.TheVariants as k
use Rattle.agxx_base.specs.declared.vocabulary.Sign.{Sign}
use Rattle.agxx_base.specs.declared.vocabulary.Sign.TheVariants as sg
use Rattle.agxx_base.specs.declared.vocabulary.SpecialName.{SpecialName}
use Rattle.cxx_tree.specs.declared.node.Node.{Node}
use Rattle.cxx_tree.specs.declared.node.Placed.{Placed}
use Rattle.cxx_tree.specs.declared.operator.UnOp.{UnOp}
use Rattle.cxx_tree.specs.declared.expr.Base.TheVariants as base_of
use Rattle.cxx_tree.specs.declared.expr.Callee.{Callee}
use Rattle.cxx_tree.specs.declared.expr.Callee.TheVariants as callee_of
use Rattle.cxx_tree.specs.declared.program.TypeName.{TypeName}
use Rattle.cxx_tree.specs.declared.program.TypeName.TheVariants as type_of
use Rattle.cxx_tree.specs.Words as w
use Rattle.cxx_tree.specs.Words.{Word}
use Rattle.cxx_tree.specs.ExprTree as e
use Rattle.cxx_tree.specs.ExprTree.{ExprTree, listed_exprs}
use Rattle.cxx_tree.specs.Spelling.{unary_sign, spell_name, spell_callee, spell_left, spell_type, spell_base}
use Rattle.cxx_tree.specs.Limits.{Grammar, Opens}
use Rattle.cxx_tree.specs.Fits.{expr_level, FitsLeft, IsNumberType}
use Rattle.cxx_expr.specs.declared.stop.Stop.TheVariants.{Syntax}
use Rattle.cxx_expr.specs.Tokens.{Tokens, sees, after}
use Rattle.cxx_expr.specs.Outcome.{done, failed, Parse, and_then}
use Rattle.cxx_expr.specs.Lefts.{node_at, name, target, selected, left_by}
use Rattle.cxx_expr.specs.Within.{Within, on_words, advanced, operator_taken_by}
use Rattle.cxx_expr.specs.Descent.{closed, items, prefix_operator, opened_by, enclosed, arguments, called, named, grouped, converted, own, created_with, created, keyword_by, sign_by, primary_by, primary_of, primary, operated, unary, chain, level, expr, inner_at}
use Rattle.cxx_expr.proofs.Turns.{expr-is, by_prefix, unary-is, unary-primary, unary-prefix}
use Rattle.cxx_expr.proofs.Good.{Sort, Good, Goods, IsViable, head, good_done, good_fail, good_shift, good_again, good_if, good_bind, good_through, good_as}
use Rattle.cxx_expr.proofs.States.{within, before, joins, charge, sees-before, good_lifted, good_on_words}
use Rattle.cxx_expr.proofs.Names.{names, callees, default_name, good_name, good_selected, good_target, free-callee}
use Rattle.cxx_expr.proofs.Operators.{unary_token, charge-unary, prefix-again, prefix-is, prefix-head}
use Rattle.cxx_expr.proofs.Sorts.{default, exprs, enclosures, lists, Fits-weaken}
use Rattle.cxx_expr.proofs.Arguments.{good_closed, good_items}
use Rattle.cxx_expr.proofs.Chains.{good_chain}

pub left_by-spelled : (special : SpecialName → ℕ) (n : Node) (c : Callee) → spell_left special (left_by n c) ≡ spell_callee c
left_by-spelled special n (callee_of.Bare r) = refl
left_by-spelled special n (callee_of.Member s) = refl

pub left_by-fits : (g : Grammar) (depth : ℕ) (n : Node) (c : Callee) → FitsLeft g depth (left_by n c)
left_by-fits g depth n (callee_of.Bare r) = tt
left_by-fits g depth n (callee_of.Member s) = tt

primary-head : (inner : Option (Parse Within ExprTree)) (s : Within) (ts : Tokens) → head s.words ≡ head ts → primary inner s ≡ primary_of inner ts s
unfolding primary
primary-head inner s ts h = by_tokens s.words ts h
  where
    by_tokens : (a b : Tokens) → head a ≡ head b → primary_of inner a s ≡ primary_of inner b s
    by_tokens [] [] h = refl
    by_tokens [] (y ∷ b) h = cc
    by_tokens (x ∷ a) [] h = cc
    by_tokens (x ∷ a) (y ∷ b) h = let i : x ≡ y = cc in ap (λ t. primary_by inner t.at t.item s) i

pub unary-again : (inner : Option (Parse Within ExprTree)) (o : Placed UnOp) (s : Within) → unary inner (before (unary_token o ∷ []) s) ≡ operated o (unary inner s)
unary-again inner o s =
    unary-prefix inner (before (unary_token o ∷ []) s) o (sym (prefix-again o s.words))
    ∙ ap (λ n. and_then (operator_taken_by n (unary_token o ∷ s.words)) (λ u q. operated o (unary inner q))) (charge-unary o.item s.operators)

module _ (special : SpecialName → ℕ) (g : Grammar) where
  -- what stands in parentheses is read right, and a deeper parser reads it again
  abbrev pub IsInner : ℕ → Option (Parse Within ExprTree) → Option (Parse Within ExprTree) → Type 0
  IsInner depth None q = Unit {0}
  IsInner depth (Some p) None = ⊥
  IsInner depth (Some p) (Some p') = (below : ℕ) × (depth ≡ suc below) × Goods within (exprs special g below expr_level) p p'

  abbrev paren : Place → Placed Word
  paren at = record { at = at; item = w.sign sg.OpenParen }

  good_opened : (depth : ℕ) (inner inner' : Option (Parse Within ExprTree)) → IsInner depth inner inner' → (at : Place) (s : Within)
      → Good within [] (enclosures special g depth) (λ q r. opened_by inner' (λ p q. and_then (p q) closed) q ≡ r) (before (paren at ∷ []) (advanced s)) (opened_by inner (λ p q. and_then (p q) closed) s)
  good_opened depth None q is at s = tt
  good_opened depth (Some p) None is at s = absurd is
  good_opened depth (Some p) (Some p') is at s =
      good_shift within [] (enclosures special g depth) (λ q r. and_then (p' q) closed ≡ r) (λ q r. and_then (p' (advanced q)) closed ≡ r) (paren at) (advanced s) (and_then (p (advanced s)) closed) (λ q r a. a)
      (good_bind within (w.sign sg.OpenParen ∷ []) (exprs special g is.0 expr_level) (enclosures special g depth) p' closed default (0, tt)
      (λ t v. (t, w.sign sg.CloseParen ∷ [], v, refl))
      closed (advanced s) (p (advanced s)) (is.2 (advanced s))
      (λ t rest v. good_closed (w.sign sg.OpenParen ∷ (exprs special g is.0 expr_level).spelled t) (enclosures special g depth) t (is.0, is.1, v) refl rest))

  good_enclosed : (depth : ℕ) (inner inner' : Option (Parse Within ExprTree)) → IsInner depth inner inner' → Goods within (enclosures special g depth) (enclosed inner) (enclosed inner')
  unfolding enclosed
  good_enclosed depth inner inner' is s =
      good_if within sg.OpenParen [] (enclosures special g depth) (λ q r. opened_by inner' (λ p q. and_then (p q) closed) q ≡ r) (λ q r. failed Syntax q ≡ r) (λ q r. enclosed inner' q ≡ r) s
      (opened_by inner (λ p q. and_then (p q) closed) s) (failed Syntax s)
      (λ q r i a. rw i a) (λ q r i a. rw i a)
      (λ i. let b = sees-before sg.OpenParen (λ n. refl) s i in
      subst (λ q. Good within [] (enclosures special g depth) (λ q r. opened_by inner' (λ p q. and_then (p q) closed) q ≡ r) q (opened_by inner (λ p q. and_then (p q) closed) s)) (sym b.1)
      (good_opened depth inner inner' is b.0 s))
      (λ i. good_fail within [] (enclosures special g depth) (λ q r. failed Syntax q ≡ r) s (inl refl) (λ other h. refl))

  -- arguments, with both parentheses
  abbrev A : ℕ → Sort (List ExprTree)
  A depth = record {
    spelled = λ xs. w.sign sg.OpenParen ∷ (lists special g depth).spelled xs;
    IsOne = λ xs. Opens depth (λ below. (lists special g below).IsOne xs);
    IsSome = (lists special g depth).IsSome;
    is_some = λ xs v. (v.0, v.2);
  }

  good_list : (depth : ℕ) (inner inner' : Option (Parse Within ExprTree)) → IsInner depth inner inner' → (at : Place) (s : Within)
      → Good within [] (A depth) (λ q r. opened_by inner' items q ≡ r) (before (paren at ∷ []) (advanced s)) (opened_by inner items s)
  good_list depth None q is at s = tt
  good_list depth (Some p) None is at s = absurd is
  good_list depth (Some p) (Some p') is at s =
      good_shift within [] (A depth) (λ q r. items p' q ≡ r) (λ q r. items p' (advanced q) ≡ r) (paren at) (advanced s) (items p (advanced s)) (λ q r a. a)
      (good_as within (w.sign sg.OpenParen ∷ []) (lists special g is.0) (A depth) (λ q r. items p' q ≡ r) [] (0, tt) (λ xs v. (is.0, is.1, v)) (λ xs v. v) (λ xs v. refl) (advanced s) (items p (advanced s))
      (good_items special g is.0 p p' is.2 (advanced s)))

  good_arguments : (depth : ℕ) (inner inner' : Option (Parse Within ExprTree)) → IsInner depth inner inner' → (s : Within) → sees sg.OpenParen s.words ≡ true
      → Good within [] (A depth) (λ q r. arguments inner' q ≡ r) s (arguments inner s)
  unfolding arguments
  good_arguments depth inner inner' is s i =
      let b = sees-before sg.OpenParen (λ n. refl) s i in
      subst (λ q. Good within [] (A depth) (λ q r. opened_by inner' items q ≡ r) q (opened_by inner items s)) (sym b.1) (good_list depth inner inner' is b.0 s)

  module _ (depth : ℕ) (inner inner' : Option (Parse Within ExprTree)) (is : IsInner depth inner inner') where
    abbrev K : Sort ExprTree
    K = exprs special g depth 0

    abbrev call_by : Node → Callee → List ExprTree → ExprTree
    call_by n callee xs = e.call (e.calls n callee (listed_exprs xs))

    good_called : (n : Node) (callee : Callee) (s : Within) → Good within (spell_callee callee) K (λ q r. called inner' n callee q ≡ r) s (called inner n callee s)
    unfolding called
    good_called n callee s =
        good_if within sg.OpenParen (spell_callee callee) K (λ q r. and_then (arguments inner' q) (λ xs. done (call_by n callee xs)) ≡ r) (λ q r. done (e.left (left_by n callee)) q ≡ r) (λ q r. called inner' n callee q ≡ r) s
        (and_then (arguments inner s) (λ xs. done (call_by n callee xs))) (done (e.left (left_by n callee)) s)
        (λ q r i a. rw i a) (λ q r i a. rw i a)
        (λ i. good_bind within (spell_callee callee) (A depth) K (arguments inner') (λ xs. done (call_by n callee xs)) [] (0, tt)
        (λ xs v. (call_by n callee xs, [], (suc v.0, (v.0, refl, v.1)), sym (append-nil (spell_callee callee ++ (A depth).spelled xs))))
        (λ xs. done (call_by n callee xs)) s (arguments inner s) (good_arguments depth inner inner' is s i)
        (λ xs rest v. good_done within (spell_callee callee ++ (A depth).spelled xs) K (λ q r. done (call_by n callee xs) q ≡ r) rest (call_by n callee xs) v refl (λ other h. refl)))
        (λ i. good_done within (spell_callee callee) K (λ q r. done (e.left (left_by n callee)) q ≡ r) s (e.left (left_by n callee)) (left_by-fits g depth n callee) (left_by-spelled special n callee) (λ other h. refl))

    left_viable : (n : Node) (c : Callee) → IsViable K (spell_callee c)
    left_viable n c = (e.left (left_by n c), [], (0, left_by-fits g 0 n c), left_by-spelled special n c ∙ sym (append-nil (spell_callee c)))

    good_named : (at : Place) → Goods within K (named inner at) (named inner' at)
    unfolding named
    good_named at s =
        good_through within [] callees K (on_words (target at)) (called inner' (node_at at)) (λ c v. left_viable (node_at at) c)
        (called inner (node_at at)) s (on_words (target at) s) (good_on_words callees (target at) (target at) free-callee (good_target at) s)
        (λ c rest v. good_called (node_at at) c rest)

    good_grouped : (at : Place) → Goods within K (grouped inner at) (grouped inner' at)
    unfolding grouped
    good_grouped at s =
        good_bind within [] (enclosures special g depth) K (enclosed inner') (λ t. done (e.paren (node_at at) t)) default (0, tt)
        (λ t v. (e.paren (node_at at) t, [], (suc v.0, (v.0, refl, v.1)), sym (append-nil ((enclosures special g depth).spelled t))))
        (λ t. done (e.paren (node_at at) t)) s (enclosed inner s) (good_enclosed depth inner inner' is s)
        (λ t rest v. good_done within ((enclosures special g depth).spelled t) K (λ q r. done (e.paren (node_at at) t) q ≡ r) rest (e.paren (node_at at) t) v refl (λ other h. refl))

    good_converted : (at : Place) (n : TypeName) → IsNumberType n → (s : Within) → Good within (spell_type special n) K (λ q r. converted inner' at n q ≡ r) s (converted inner at n s)
    unfolding converted
    good_converted at n num s =
        good_bind within (spell_type special n) (enclosures special g depth) K (enclosed inner') (λ t. done (e.cast (node_at at) n t)) default (0, tt)
        (λ t v. (e.cast (node_at at) n t, [], (suc v.0, (num, (v.0, refl, v.1))), sym (append-nil (spell_type special n ++ (enclosures special g depth).spelled t))))
        (λ t. done (e.cast (node_at at) n t)) s (enclosed inner s) (good_enclosed depth inner inner' is s)
        (λ t rest v. good_done within (spell_type special n ++ (enclosures special g depth).spelled t) K (λ q r. done (e.cast (node_at at) n t) q ≡ r) rest (e.cast (node_at at) n t) (num, v) refl (λ other h. refl))

    good_own : (at : Place) (s : Within) → Good within (w.keyword k.This ∷ []) K (λ q r. own inner' at q ≡ r) s (own inner at s)
    unfolding own
    good_own at s =
        good_if within sg.Arrow (w.keyword k.This ∷ []) K (λ q r. and_then (on_words (selected base_of.This) (advanced q)) (called inner' (node_at at)) ≡ r) (λ q r. done (e.this (node_at at)) q ≡ r) (λ q r. own inner' at q ≡ r) s
        (and_then (on_words (selected base_of.This) (advanced s)) (called inner (node_at at))) (done (e.this (node_at at)) s)
        (λ q r i a. rw i a) (λ q r i a. rw i a)
        (λ i. let b = sees-before sg.Arrow (λ n. refl) s i in
        subst (λ q. Good within (w.keyword k.This ∷ []) K (λ q r. and_then (on_words (selected base_of.This) (advanced q)) (called inner' (node_at at)) ≡ r) q (and_then (on_words (selected base_of.This) (advanced s)) (called inner (node_at at)))) (sym b.1)
        (good_shift within (w.keyword k.This ∷ []) K (λ q r. and_then (on_words (selected base_of.This) q) (called inner' (node_at at)) ≡ r) (λ q r. and_then (on_words (selected base_of.This) (advanced q)) (called inner' (node_at at)) ≡ r)
        (record { at = b.0; item = w.sign sg.Arrow }) (advanced s) (and_then (on_words (selected base_of.This) (advanced s)) (called inner (node_at at))) (λ q r a. a)
        (good_through within (spell_base base_of.This) callees K (on_words (selected base_of.This)) (called inner' (node_at at)) (λ c v. left_viable (node_at at) c)
        (called inner (node_at at)) (advanced s) (on_words (selected base_of.This) (advanced s))
        (good_lifted (spell_base base_of.This) callees (selected base_of.This) free-callee s.operators (after s.words) (selected base_of.This (after s.words)) (good_selected base_of.This (after s.words)))
        (λ c rest v. good_called (node_at at) c rest))))
        (λ i. good_done within (w.keyword k.This ∷ []) K (λ q r. done (e.this (node_at at)) q ≡ r) s (e.this (node_at at)) tt refl (λ other h. refl))

    abbrev new_by : Place → Placed NameId → List ExprTree → ExprTree
    new_by at class xs = e.new_with (node_at at) class (listed_exprs xs)

    good_created_with : (at : Place) (class : Placed NameId) (s : Within) → Good within (w.keyword k.New ∷ spell_name class) K (λ q r. created_with inner' at class q ≡ r) s (created_with inner at class s)
    unfolding created_with
    good_created_with at class s =
        good_if within sg.OpenParen (w.keyword k.New ∷ spell_name class) K (λ q r. and_then (arguments inner' q) (λ xs. done (new_by at class xs)) ≡ r) (λ q r. done (e.new (node_at at) class) q ≡ r) (λ q r. created_with inner' at class q ≡ r) s
        (and_then (arguments inner s) (λ xs. done (new_by at class xs))) (done (e.new (node_at at) class) s)
        (λ q r i a. rw i a) (λ q r i a. rw i a)
        (λ i. good_bind within (w.keyword k.New ∷ spell_name class) (A depth) K (arguments inner') (λ xs. done (new_by at class xs)) [] (0, tt)
        (λ xs v. (new_by at class xs, [], (suc v.0, (v.0, refl, v.1)), sym (append-nil ((w.keyword k.New ∷ spell_name class) ++ (A depth).spelled xs))))
        (λ xs. done (new_by at class xs)) s (arguments inner s) (good_arguments depth inner inner' is s i)
        (λ xs rest v. good_done within ((w.keyword k.New ∷ spell_name class) ++ (A depth).spelled xs) K (λ q r. done (new_by at class xs) q ≡ r) rest (new_by at class xs) v refl (λ other h. refl)))
        (λ i. good_done within (w.keyword k.New ∷ spell_name class) K (λ q r. done (e.new (node_at at) class) q ≡ r) s (e.new (node_at at) class) tt refl (λ other h. refl))

    good_created : (at : Place) (s : Within) → Good within (w.keyword k.New ∷ []) K (λ q r. created inner' at q ≡ r) s (created inner at s)
    unfolding created
    good_created at s =
        good_bind within (w.keyword k.New ∷ []) names K (on_words name) (created_with inner' at) default_name tt
        (λ class v. (e.new (node_at at) class, [], (0, tt), refl))
        (created_with inner at) s (on_words name s) (good_on_words names name name (λ n. ((λ m. refl), tt)) good_name s)
        (λ class rest v. good_created_with at class rest)

    refuses : (s : Within) → Good within [] K (λ q r. failed Syntax q ≡ r) s (failed Syntax s)
    refuses s = good_fail within [] K (λ q r. failed Syntax q ≡ r) s (inl refl) (λ other h. refl)

    -- the word is an operand alone
    reads : (at : Place) (word : Word) (t : ExprTree) → K.IsOne t → K.spelled t ≡ word ∷ [] → ((n : ℕ) → charge word n ≡ n) → (ts : Tokens) (n : ℕ)
        → Good within [] K (λ q r. done t (advanced q) ≡ r) (before (record { at = at; item = word } ∷ []) (joins ts n)) (done t (joins ts n))
    reads at word t v spelled free ts n =
        good_shift within [] K (λ q r. done t q ≡ r) (λ q r. done t (advanced q) ≡ r) (record { at = at; item = word }) (joins ts n) (done t (joins ts n))
        (λ q r a. ap (λ m. done t (joins q.words m)) (free q.operators) ∙ a)
        (good_done within (word ∷ []) K (λ q r. done t q ≡ r) (joins ts n) t v spelled (λ other h. refl))

    -- a word that is passed, and what is behind it
    passes : (at : Place) (word : Word) (rule rule' : Parse Within ExprTree) → ((n : ℕ) → charge word n ≡ n) → (ts : Tokens) (n : ℕ)
        → Good within (word ∷ []) K (λ q r. rule' q ≡ r) (joins ts n) (rule (joins ts n))
        → Good within [] K (λ q r. rule' (advanced q) ≡ r) (before (record { at = at; item = word } ∷ []) (joins ts n)) (rule (joins ts n))
    passes at word rule rule' free ts n =
        good_shift within [] K (λ q r. rule' q ≡ r) (λ q r. rule' (advanced q) ≡ r) (record { at = at; item = word }) (joins ts n) (rule (joins ts n))
        (λ q r a. ap (λ m. rule' (joins q.words m)) (free q.operators) ∙ a)

    good_keyword : (at : Place) (word : Keyword) (ts : Tokens) (n : ℕ)
        → Good within [] K (λ q r. keyword_by inner' at word q ≡ r) (joins (record { at = at; item = w.keyword word } ∷ ts) n) (keyword_by inner at word (joins (record { at = at; item = w.keyword word } ∷ ts) n))
    good_keyword at k.True ts n = reads at (w.keyword k.True) (e.flag (node_at at) true) tt refl (λ m. refl) ts n
    good_keyword at k.False ts n = reads at (w.keyword k.False) (e.flag (node_at at) false) tt refl (λ m. refl) ts n
    good_keyword at k.Nullptr ts n = reads at (w.keyword k.Nullptr) (e.null (node_at at)) tt refl (λ m. refl) ts n
    good_keyword at k.This ts n = passes at (w.keyword k.This) (own inner at) (own inner' at) (λ m. refl) ts n (good_own at (joins ts n))
    good_keyword at k.New ts n = passes at (w.keyword k.New) (created inner at) (created inner' at) (λ m. refl) ts n (good_created at (joins ts n))
    good_keyword at k.Int ts n = passes at (w.keyword k.Int) (converted inner at type_of.Int) (converted inner' at type_of.Int) (λ m. refl) ts n (good_converted at type_of.Int tt (joins ts n))
    good_keyword at k.Unsigned ts n = passes at (w.keyword k.Unsigned) (converted inner at type_of.Unsigned) (converted inner' at type_of.Unsigned) (λ m. refl) ts n (good_converted at type_of.Unsigned tt (joins ts n))
    good_keyword at (k.Number kind) ts n = passes at (w.keyword (k.Number kind)) (converted inner at (type_of.Num kind)) (converted inner' at (type_of.Num kind)) (λ m. refl) ts n (good_converted at (type_of.Num kind) tt (joins ts n))
    good_keyword at _ ts n = refuses _

    good_sign : (at : Place) (x : Sign) (ts : Tokens) (n : ℕ)
        → Good within [] K (λ q r. sign_by inner' at x q ≡ r) (joins (record { at = at; item = w.sign x } ∷ ts) n) (sign_by inner at x (joins (record { at = at; item = w.sign x } ∷ ts) n))
    good_sign at sg.ColonColon ts n = good_named at _
    good_sign at sg.OpenParen ts n = good_grouped at _
    good_sign at _ ts n = refuses _

    good_word : (at : Place) (word : Word) (ts : Tokens) (n : ℕ)
        → Good within [] K (λ q r. primary_by inner' at word q ≡ r) (joins (record { at = at; item = word } ∷ ts) n) (primary_by inner at word (joins (record { at = at; item = word } ∷ ts) n))
    good_word at (w.number bits kind) ts n = reads at (w.number bits kind) (e.lit (node_at at) (record { bits = bits; kind = kind })) tt refl (λ m. refl) ts n
    good_word at (w.name x) ts n = good_named at _
    good_word at (w.keyword word) ts n = good_keyword at word ts n
    good_word at (w.sign x) ts n = good_sign at x ts n
    good_word at _ ts n = refuses _

    good_tokens : (ts : Tokens) (n : ℕ) → Good within [] K (λ q r. primary inner' q ≡ r) (joins ts n) (primary_of inner ts (joins ts n))
    good_tokens [] n = good_fail within [] K (λ q r. primary inner' q ≡ r) (joins [] n) (inl refl) (λ other h. primary-head inner' other [] h)
    good_tokens (t ∷ ts) n =
        good_again within [] K (λ q r. primary_by inner' t.at t.item q ≡ r) (λ q r. primary inner' q ≡ r) (joins (t ∷ ts) n) (primary_by inner t.at t.item (joins (t ∷ ts) n))
        (λ q r h a. primary-head inner' q (t ∷ ts) h ∙ a) (good_word t.at t.item ts n)

    good_primary : Goods within K (primary inner) (primary inner')
    unfolding primary
    good_primary s = good_tokens s.words s.operators

    good_operated : (o : Placed UnOp) (k : ℕ) (ts : Tokens) → ts ≡ unary_token o ∷ after ts → Good within [] K (λ q r. unary inner' q ≡ r) (joins (after ts) k) (unary inner (joins (after ts) k))
        → Good within [] K (λ q r. unary inner' q ≡ r) (joins ts (suc k)) (operated o (unary inner (joins (after ts) k)))
    good_operated o k ts i below =
        let s : Within = joins (after ts) k in
        let whole : joins ts (suc k) ≡ before (unary_token o ∷ []) s = ap (λ q. joins q (suc k)) i ∙ ap (joins (unary_token o ∷ after ts)) (sym (charge-unary o.item k)) in
        let tree : ExprTree → ExprTree = λ t. e.unary (node_at o.at) o.item t in
        subst (λ q. Good within [] K (λ q r. unary inner' q ≡ r) q (operated o (unary inner s))) (sym whole)
        (good_shift within [] K (λ q r. operated o (unary inner' q) ≡ r) (λ q r. unary inner' q ≡ r) (unary_token o) s (operated o (unary inner s)) (λ q r a. unary-again inner' o q ∙ a)
        (good_bind within (w.sign (unary_sign o.item) ∷ []) K K (unary inner') (λ t. done (tree t)) default (0, tt)
        (λ t v. (tree t, [], v, sym (append-nil (K.spelled (tree t)))))
        (λ t. done (tree t)) s (unary inner s) below
        (λ t rest v. good_done within (K.spelled (tree t)) K (λ q r. done (tree t) q ≡ r) rest (tree t) v refl (λ other h. refl))))

    good_unary_by : (n : ℕ) (ts : Tokens) → ((k : ℕ) → n ≡ suc k → Good within [] K (λ q r. unary inner' q ≡ r) (joins (after ts) k) (unary inner (joins (after ts) k)))
        → (o : Option (Placed UnOp)) → prefix_operator ts ≡ o → Good within [] K (λ q r. unary inner' q ≡ r) (joins ts n) (by_prefix inner n ts o)
    good_unary_by n ts below None i =
        good_again within [] K (λ q r. primary inner' q ≡ r) (λ q r. unary inner' q ≡ r) (joins ts n) (primary inner (joins ts n))
        (λ q r h a. unary-primary inner' q (sym (prefix-head q.words ts h ∙ i)) ∙ a) (good_primary (joins ts n))
    good_unary_by zero ts below (Some o) i = tt
    good_unary_by (suc k) ts below (Some o) i = good_operated o k ts (prefix-is ts o i) (below k refl)

    good_unary_from : (n : ℕ) (ts : Tokens) → Good within [] K (λ q r. unary inner' q ≡ r) (joins ts n) (unary inner (joins ts n))
    good_unary_from zero ts =
        subst (Good within [] K (λ q r. unary inner' q ≡ r) (joins ts zero)) (sym (unary-is inner (joins ts zero) (prefix_operator ts) refl))
        (good_unary_by zero ts (λ k h. absurd (omega (arith, h))) (prefix_operator ts) refl)
    good_unary_from (suc n) ts =
        subst (Good within [] K (λ q r. unary inner' q ≡ r) (joins ts (suc n))) (sym (unary-is inner (joins ts (suc n)) (prefix_operator ts) refl))
        (good_unary_by (suc n) ts (λ k h. let same : n ≡ k = omega (arith, h) in subst (λ m. Good within [] K (λ q r. unary inner' q ≡ r) (joins (after ts) m) (unary inner (joins (after ts) m))) same (good_unary_from n (after ts))) (prefix_operator ts) refl)

    good_unary : Goods within K (unary inner) (unary inner')
    good_unary s = good_unary_from s.operators s.words

    good_level : (l : ℕ) → Goods within (exprs special g depth l) (level inner l) (level inner' l)
    unfolding level
    good_level zero s = good_unary s
    good_level (suc l) s =
        good_bind within [] (exprs special g depth l) (exprs special g depth (suc l)) (level inner' l) (λ first q. chain (λ q. level inner' l q) (suc l) (length q.words) first q) default (0, tt)
        (λ t v. (t, [], (v.0, Fits-weaken g v.0 l t v.1), sym (append-nil ((exprs special g depth l).spelled t))))
        (λ first q. chain (λ q. level inner l q) (suc l) (length q.words) first q) s (level inner l s) (good_level l s)
        (λ t rest v. good_again within ((exprs special g depth l).spelled t) (exprs special g depth (suc l)) (λ q r. (m : ℕ) → length q.words ≤ m → chain (level inner' l) (suc l) m t q ≡ r)
        (λ q r. chain (λ q. level inner' l q) (suc l) (length q.words) t q ≡ r) rest (chain (λ q. level inner l q) (suc l) (length rest.words) t rest) (λ q r h a. a (length q.words) (omega arith))
        (good_chain special g depth l (level inner l) (level inner' l) (good_level l) (length rest.words) t rest (omega arith) (Fits-weaken g depth l t v)))

  inner_is : (depth deeper : ℕ) → depth ≤ deeper → ((d d' : ℕ) → d ≤ d' → Goods within (exprs special g d expr_level) (expr d) (expr d')) → IsInner depth (inner_at depth) (inner_at deeper)
  inner_is zero deeper h G = tt
  inner_is (suc depth) zero h G = absurd (omega (arith, h))
  inner_is (suc depth) (suc deeper) h G = (depth, refl, G depth deeper (omega (arith, h)))

  goods_as : (depth : ℕ) (p p' q q' : Parse Within ExprTree) → ((s : Within) → q s ≡ p s) → ((s : Within) → q' s ≡ p' s) → Goods within (exprs special g depth expr_level) p p' → Goods within (exprs special g depth expr_level) q q'
  goods_as depth p p' q q' i i' G s =
      subst (Good within [] (exprs special g depth expr_level) (λ q r. q' q ≡ r) s) (sym (i s))
      (good_again within [] (exprs special g depth expr_level) (λ q r. p' q ≡ r) (λ q r. q' q ≡ r) s (p s) (λ q r h a. i' q ∙ a) (G s))

  -- Each answer of the parser is right, and a parser that goes deeper gives it again.
  pub good_expr : (depth deeper : ℕ) → depth ≤ deeper → Goods within (exprs special g depth expr_level) (expr depth) (expr deeper)
  good_expr zero deeper h = goods_as zero (level None expr_level) (level (inner_at deeper) expr_level) (expr zero) (expr deeper) (expr-is zero) (expr-is deeper) (good_level zero None (inner_at deeper) tt expr_level)
  good_expr (suc depth) zero h = absurd (omega (arith, h))
  good_expr (suc depth) (suc deeper) h =
      goods_as (suc depth) (level (inner_at (suc depth)) expr_level) (level (inner_at (suc deeper)) expr_level) (expr (suc depth)) (expr (suc deeper)) (expr-is (suc depth)) (expr-is (suc deeper))
      (good_level (suc depth) (inner_at (suc depth)) (inner_at (suc deeper)) (depth, refl, good_expr depth deeper (omega (arith, h))) expr_level)

  -- and so at each level
  pub good_level_at : (depth deeper l : ℕ) → depth ≤ deeper → Goods within (exprs special g depth l) (level (inner_at depth) l) (level (inner_at deeper) l)
  good_level_at depth deeper l h = good_level depth (inner_at depth) (inner_at deeper) (inner_is depth deeper h good_expr) l
