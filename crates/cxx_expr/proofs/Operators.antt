-- Signs that are operators: each operator has its sign, and what a sign is doesn't depend on where it stands.
use Rattle.std.proofs.Common.{◌≡◌, ◌≢◌, ℕ, suc, Bool, true, false, cond, [], ◌∷◌, Option, Some, None, inl, inr, refl, sym, ap, ◌∙◌}
use Rattle.std.specs.Prelude.{nat_eq}
use Rattle.std.proofs.lemmas.Bool.{eqb-true}
use Rattle.std.proofs.lemmas.Bool.Decides.{eqb_tells}
use Rattle.agxx_base.specs.declared.place.Place.{Place}
use Rattle.agxx_base.specs.declared.vocabulary.Sign.{Sign}
use Rattle.agxx_base.specs.declared.vocabulary.Sign.TheVariants as sg
use Rattle.cxx_tree.specs.declared.node.Placed.{Placed}
use Rattle.cxx_tree.specs.declared.operator.BinOp.{BinOp}
use Rattle.cxx_tree.specs.declared.operator.BinOp.TheVariants as op
use Rattle.cxx_tree.specs.declared.operator.UnOp.{UnOp}
use Rattle.cxx_tree.specs.declared.operator.UnOp.TheVariants as un
use Rattle.cxx_tree.specs.Words as w
use Rattle.cxx_tree.specs.Words.{Word}
use Rattle.cxx_tree.specs.Spelling.{binary_sign, unary_sign}
use Rattle.cxx_tree.specs.Fits.{level_of}
use Rattle.cxx_expr.specs.Operators.{binary_of, unary_of}
use Rattle.cxx_expr.specs.Tokens.{Tokens, after}
use Rattle.cxx_expr.specs.Descent.{operator_by, operator_at, operator, prefix_by, prefix_at, prefix_operator}
use Rattle.cxx_expr.proofs.Good.{head}
use Rattle.cxx_expr.proofs.States.{charge}

abbrev pub binary_token : Placed BinOp → Placed Word
binary_token o = record { at = o.at; item = w.sign (binary_sign o.item) }

abbrev pub unary_token : Placed UnOp → Placed Word
unary_token o = record { at = o.at; item = w.sign (unary_sign o.item) }

pub binary_of-sign : (o : BinOp) → binary_of (binary_sign o) ≡ Some o
binary_of-sign op.Or = refl
binary_of-sign op.And = refl
binary_of-sign op.BitOr = refl
binary_of-sign op.BitXor = refl
binary_of-sign op.BitAnd = refl
binary_of-sign op.Equal = refl
binary_of-sign op.NotEqual = refl
binary_of-sign op.Less = refl
binary_of-sign op.LessEqual = refl
binary_of-sign op.Greater = refl
binary_of-sign op.GreaterEqual = refl
binary_of-sign op.ShiftLeft = refl
binary_of-sign op.ShiftRight = refl
binary_of-sign op.Add = refl
binary_of-sign op.Subtract = refl
binary_of-sign op.Multiply = refl
binary_of-sign op.Divide = refl
binary_of-sign op.Remainder = refl

binary_of-is : (s : Sign) (o : BinOp) → binary_of s ≡ Some o → s ≡ binary_sign o
binary_of-is sg.OrOr o e = let i : op.Or ≡ o = cc in ap binary_sign i
binary_of-is sg.AndAnd o e = let i : op.And ≡ o = cc in ap binary_sign i
binary_of-is sg.Or o e = let i : op.BitOr ≡ o = cc in ap binary_sign i
binary_of-is sg.Caret o e = let i : op.BitXor ≡ o = cc in ap binary_sign i
binary_of-is sg.And o e = let i : op.BitAnd ≡ o = cc in ap binary_sign i
binary_of-is sg.EqualEqual o e = let i : op.Equal ≡ o = cc in ap binary_sign i
binary_of-is sg.NotEqual o e = let i : op.NotEqual ≡ o = cc in ap binary_sign i
binary_of-is sg.Less o e = let i : op.Less ≡ o = cc in ap binary_sign i
binary_of-is sg.LessEqual o e = let i : op.LessEqual ≡ o = cc in ap binary_sign i
binary_of-is sg.Greater o e = let i : op.Greater ≡ o = cc in ap binary_sign i
binary_of-is sg.GreaterEqual o e = let i : op.GreaterEqual ≡ o = cc in ap binary_sign i
binary_of-is sg.ShiftLeft o e = let i : op.ShiftLeft ≡ o = cc in ap binary_sign i
binary_of-is sg.ShiftRight o e = let i : op.ShiftRight ≡ o = cc in ap binary_sign i
binary_of-is sg.Plus o e = let i : op.Add ≡ o = cc in ap binary_sign i
binary_of-is sg.Minus o e = let i : op.Subtract ≡ o = cc in ap binary_sign i
binary_of-is sg.Star o e = let i : op.Multiply ≡ o = cc in ap binary_sign i
binary_of-is sg.Slash o e = let i : op.Divide ≡ o = cc in ap binary_sign i
binary_of-is sg.Percent o e = let i : op.Remainder ≡ o = cc in ap binary_sign i
binary_of-is _ o e = cc

pub unary_of-sign : (o : UnOp) → unary_of (unary_sign o) ≡ Some o
unary_of-sign un.Negate = refl
unary_of-sign un.Not = refl
unary_of-sign un.Complement = refl
unary_of-sign un.AddressOf = refl

unary_of-is : (s : Sign) (o : UnOp) → unary_of s ≡ Some o → s ≡ unary_sign o
unary_of-is sg.Minus o e = let i : un.Negate ≡ o = cc in ap unary_sign i
unary_of-is sg.Not o e = let i : un.Not ≡ o = cc in ap unary_sign i
unary_of-is sg.Tilde o e = let i : un.Complement ≡ o = cc in ap unary_sign i
unary_of-is sg.And o e = let i : un.AddressOf ≡ o = cc in ap unary_sign i
unary_of-is _ o e = cc

pub charge-binary : (o : BinOp) (n : ℕ) → charge (w.sign (binary_sign o)) n ≡ suc n
charge-binary o n = rw (binary_of-sign o) refl

pub charge-unary : (o : UnOp) (n : ℕ) → charge (w.sign (unary_sign o)) n ≡ suc n
charge-unary un.Negate n = refl
charge-unary un.Not n = refl
charge-unary un.Complement n = refl
charge-unary un.AddressOf n = refl

same-level : (a b : ℕ) → a ≡ b → nat_eq a b ≡ true
same-level a b e = elim (eqb_tells a b) [ inl y ↦ y.0 | inr n ↦ absurd (n.1 e) ]

pub other-level : (a b : ℕ) → a ≢ b → nat_eq a b ≡ false
other-level a b h = elim (eqb_tells a b) [ inl y ↦ absurd (h y.1) | inr n ↦ n.0 ]

-- ---- operators between operands

pub operator-again : (l : ℕ) (o : Placed BinOp) (ts : Tokens) → level_of o.item ≡ l → operator l (binary_token o ∷ ts) ≡ Some o
operator-again l o ts e = rw (binary_of-sign o.item, same-level (level_of o.item) l e) refl

pub operator-above : (l : ℕ) (o : Placed BinOp) (ts : Tokens) → level_of o.item ≢ l → operator l (binary_token o ∷ ts) ≡ None
operator-above l o ts e = rw (binary_of-sign o.item, other-level (level_of o.item) l e) refl

chosen : {A : Type 0} (b : Bool) (x o : A) → cond b (Some x) None ≡ Some o → (b ≡ true) × (x ≡ o)
chosen true x o e = (refl, cc)
chosen false x o e = cc

operator_by-is : (l : ℕ) (at : Place) (x : Option BinOp) (o : Placed BinOp) → operator_by l at x ≡ Some o → (at ≡ o.at) × (x ≡ Some o.item) × (level_of o.item ≡ l)
operator_by-is l at None o e = cc
operator_by-is l at (Some b) o e =
    let c = chosen (nat_eq (level_of b) l) (record { at = at; item = b }) o e in
    (ap (λ q. q.at) c.1, ap (λ q. Some q.item) c.1, ap (λ q. level_of q.item) (sym c.1) ∙ eqb-true (level_of b) l c.0)

operator_at-is : (l : ℕ) (at : Place) (word : Word) (o : Placed BinOp) → operator_at l at word ≡ Some o → (at ≡ o.at) × (word ≡ w.sign (binary_sign o.item)) × (level_of o.item ≡ l)
operator_at-is l at (w.sign s) o e = let h = operator_by-is l at (binary_of s) o e in (h.0, ap w.sign (binary_of-is s o.item h.1), h.2)
operator_at-is l at _ o e = cc

pub operator-is : (l : ℕ) (ts : Tokens) (o : Placed BinOp) → operator l ts ≡ Some o → (ts ≡ binary_token o ∷ after ts) × (level_of o.item ≡ l)
operator-is l [] o e = cc
operator-is l (t ∷ ts) o e =
    let h = operator_at-is l t.at t.item o e in
    let made : Place → Word → Placed Word = λ at word. record { at = at; item = word } in
    (ap (λ at. made at t.item ∷ ts) h.0 ∙ ap (λ word. made o.at word ∷ ts) h.1, h.2)

pub operator-head : (l : ℕ) (a b : Tokens) → head a ≡ head b → operator l a ≡ operator l b
operator-head l [] [] h = refl
operator-head l [] (y ∷ b) h = cc
operator-head l (x ∷ a) [] h = cc
operator-head l (x ∷ a) (y ∷ b) h = let i : x ≡ y = cc in ap (λ t. operator_at l t.at t.item) i

-- ---- operators before an operand

pub prefix-again : (o : Placed UnOp) (ts : Tokens) → prefix_operator (unary_token o ∷ ts) ≡ Some o
prefix-again o ts = rw (unary_of-sign o.item) refl

prefix_at-is : (at : Place) (word : Word) (o : Placed UnOp) → prefix_at at word ≡ Some o → (at ≡ o.at) × (word ≡ w.sign (unary_sign o.item))
prefix_at-is at (w.sign s) o e = by_option (unary_of s) refl e
  where
    by_option : (x : Option UnOp) → unary_of s ≡ x → prefix_by at x ≡ Some o → (at ≡ o.at) × (w.sign s ≡ w.sign (unary_sign o.item))
    by_option None i e = cc
    by_option (Some u) i e =
        let c : record { at = at; item = u } ≡ o = cc in
        (ap (λ q. q.at) c, ap w.sign (unary_of-is s u i ∙ ap (λ q. unary_sign q.item) c))
prefix_at-is at _ o e = cc

pub prefix-is : (ts : Tokens) (o : Placed UnOp) → prefix_operator ts ≡ Some o → ts ≡ unary_token o ∷ after ts
prefix-is [] o e = cc
prefix-is (t ∷ ts) o e =
    let h = prefix_at-is t.at t.item o e in
    let made : Place → Word → Placed Word = λ at word. record { at = at; item = word } in
    ap (λ at. made at t.item ∷ ts) h.0 ∙ ap (λ word. made o.at word ∷ ts) h.1

pub prefix-head : (a b : Tokens) → head a ≡ head b → prefix_operator a ≡ prefix_operator b
prefix-head [] [] h = refl
prefix-head [] (y ∷ b) h = cc
prefix-head (x ∷ a) [] h = cc
prefix-head (x ∷ a) (y ∷ b) h = let i : x ≡ y = cc in ap (λ t. prefix_at t.at t.item) i
