-- The spelling of each name and reference is read again.
use Rattle.std.proofs.Common.{◌≡◌, Bool, true, false, [], ◌∷◌, ◌++◌, refl, sym, ap, ◌∙◌, subst, append_assoc}
use Rattle.agxx_base.specs.declared.place.Place.{Place}
use Rattle.agxx_base.specs.declared.ids.NameId.{NameId}
use Rattle.agxx_base.specs.declared.vocabulary.Sign.TheVariants as sg
use Rattle.cxx_tree.specs.declared.node.Node.{Node}
use Rattle.cxx_tree.specs.declared.node.Placed.{Placed}
use Rattle.cxx_tree.specs.declared.expr.Ref.{Ref}
use Rattle.cxx_tree.specs.declared.expr.Base.{Base}
use Rattle.cxx_tree.specs.declared.expr.Base.TheVariants as base_of
use Rattle.cxx_tree.specs.declared.expr.Callee.{Callee}
use Rattle.cxx_tree.specs.declared.expr.Callee.TheVariants as callee_of
use Rattle.cxx_tree.specs.Words as w
use Rattle.cxx_tree.specs.Words.{Word}
use Rattle.cxx_tree.specs.Spelling.{spell_name, spell_ref}
use Rattle.cxx_tree.specs.Blank.{blank_placed, blank_ref, blank_base, blank_callee}
use Rattle.cxx_expr.specs.Tokens.{Tokens, words_of, sees}
use Rattle.cxx_expr.specs.Outcome.{done}
use Rattle.cxx_expr.specs.Lefts.{node_at, name, reference, selected, selected_of, target}
use Rattle.cxx_expr.proofs.Names.{member_of}
use Rattle.cxx_expr.proofs.Fronts.{token, front_append, front_one, front_two}

-- a name, as it is read
abbrev pub read_name : Place → Placed NameId → Placed NameId
read_name at n = record { at = at; item = n.item }

pub name-full : (n : Placed NameId) (at : Place) (ts : Tokens) → name (token at (w.name n.item.0) ∷ ts) ≡ done (read_name at n) ts
unfolding name
name-full n at ts = refl

-- r is read again
abbrev pub IsRefRead : Ref → Place → Tokens → Tokens → Type 0
IsRefRead r at front ts = (r' : Ref) × (blank_ref r' ≡ blank_ref r) × (reference at (front ++ ts) ≡ done r' ts)

ref-full-by : (global : Bool) (n : Node) (x : Placed NameId) (front : Tokens) → words_of front ≡ spell_ref (record { node = n; global = global; name = x }) → (at : Place) (ts : Tokens)
    → IsRefRead (record { node = n; global = global; name = x }) at front ts
unfolding reference name
ref-full-by true n x front e at ts =
    let h = front_two (w.sign sg.ColonColon) (w.name x.item.0) front e in
    subst (λ q. IsRefRead (record { node = n; global = true; name = x }) at q ts) (sym h.2)
    (record { node = node_at at; global = true; name = read_name h.1 x }, refl, refl)
ref-full-by false n x front e at ts =
    let h = front_one (w.name x.item.0) front e in
    subst (λ q. IsRefRead (record { node = n; global = false; name = x }) at q ts) (sym h.1)
    (record { node = node_at at; global = false; name = read_name h.0 x }, refl, refl)

pub ref-full : (r : Ref) (front : Tokens) → words_of front ≡ spell_ref r → (at : Place) (ts : Tokens) → IsRefRead r at front ts
ref-full r front e at ts = ref-full-by r.global r.node r.name front e at ts

selected-full : (base : Base) (x : Placed NameId) (at : Place) (ts : Tokens) → selected base (token at (w.name x.item.0) ∷ ts) ≡ done (member_of base (read_name at x)) ts
unfolding selected name
selected-full base x at ts = refl

pub own-full : (x : Placed NameId) (at : Place) (ts : Tokens) → selected base_of.This (token at (w.name x.item.0) ∷ ts) ≡ done (member_of base_of.This (read_name at x)) ts
own-full x at ts = selected-full base_of.This x at ts

-- what begins with a reference is read again
abbrev pub IsTargetRead : Callee → Place → Tokens → Tokens → Type 0
IsTargetRead c at front ts = (c' : Callee) × (blank_callee c' ≡ blank_callee c) × (target at (front ++ ts) ≡ done c' ts)

target-by : (at : Place) (front ts : Tokens) (r : Ref) (c : Callee) (rest : Tokens) → reference at (front ++ ts) ≡ done r ts → selected_of r ts ≡ done c rest → target at (front ++ ts) ≡ done c rest
unfolding target
target-by at front ts r c rest e f = rw (e, f) refl

pub target-bare : (r : Ref) (front : Tokens) → words_of front ≡ spell_ref r → (at : Place) (ts : Tokens) → sees sg.Dot ts ≡ false → sees sg.Arrow ts ≡ false → IsTargetRead (callee_of.Bare r) at front ts
unfolding selected_of
target-bare r front e at ts d a =
    let h = ref-full r front e at ts in
    (callee_of.Bare h.0, ap callee_of.Bare h.1, target-by at front ts h.0 (callee_of.Bare h.0) ts h.2 (rw (d, a) refl))

target-member : (r : Ref) (x : Placed NameId) (base : Ref → Base) (word : Word) (front : Tokens) → words_of front ≡ (spell_ref r ++ word ∷ []) ++ spell_name x
    → ((q q' : Ref) → blank_ref q ≡ blank_ref q' → blank_base (base q) ≡ blank_base (base q'))
    → ((q : Ref) (p p' : Place) (ts : Tokens) → selected_of q (token p word ∷ token p' (w.name x.item.0) ∷ ts) ≡ done (member_of (base q) (read_name p' x)) ts)
    → (at : Place) (ts : Tokens) → IsTargetRead (member_of (base r) x) at front ts
target-member r x base word front e same go at ts =
    let s = front_append (spell_ref r) (word ∷ spell_name x) front (e ∙ append_assoc (spell_ref r) (word ∷ []) (spell_name x)) in
    let t = front_two word (w.name x.item.0) s.1 s.4 in
    let whole : front ++ ts ≡ s.0 ++ (token t.0 word ∷ token t.1 (w.name x.item.0) ∷ ts) = ap (λ q. q ++ ts) (s.2 ∙ ap (λ q. s.0 ++ q) t.2) ∙ append_assoc s.0 (token t.0 word ∷ token t.1 (w.name x.item.0) ∷ []) ts in
    let h = ref-full r s.0 s.3 at (token t.0 word ∷ token t.1 (w.name x.item.0) ∷ ts) in (
      member_of (base h.0) (read_name t.1 x),
      ap (λ b. callee_of.Member (record { base = b; name = blank_placed x })) (same h.0 r h.1),
      ap (target at) whole ∙ target-by at s.0 (token t.0 word ∷ token t.1 (w.name x.item.0) ∷ ts) h.0 (member_of (base h.0) (read_name t.1 x)) ts h.2 (go h.0 t.0 t.1 ts),
    )

after-dot : (x : Placed NameId) (q : Ref) (p p' : Place) (ts : Tokens) → selected_of q (token p (w.sign sg.Dot) ∷ token p' (w.name x.item.0) ∷ ts) ≡ done (member_of (base_of.Dot q) (read_name p' x)) ts
unfolding selected_of
after-dot x q p p' ts = selected-full (base_of.Dot q) x p' ts

after-arrow : (x : Placed NameId) (q : Ref) (p p' : Place) (ts : Tokens) → selected_of q (token p (w.sign sg.Arrow) ∷ token p' (w.name x.item.0) ∷ ts) ≡ done (member_of (base_of.Arrow q) (read_name p' x)) ts
unfolding selected_of
after-arrow x q p p' ts = selected-full (base_of.Arrow q) x p' ts

pub target-dot : (r : Ref) (x : Placed NameId) (front : Tokens) → words_of front ≡ (spell_ref r ++ w.sign sg.Dot ∷ []) ++ spell_name x → (at : Place) (ts : Tokens) → IsTargetRead (member_of (base_of.Dot r) x) at front ts
target-dot r x front e = target-member r x base_of.Dot (w.sign sg.Dot) front e (λ q q' i. ap base_of.Dot i) (after-dot x)

pub target-arrow : (r : Ref) (x : Placed NameId) (front : Tokens) → words_of front ≡ (spell_ref r ++ w.sign sg.Arrow ∷ []) ++ spell_name x → (at : Place) (ts : Tokens) → IsTargetRead (member_of (base_of.Arrow r) x) at front ts
target-arrow r x front e = target-member r x base_of.Arrow (w.sign sg.Arrow) front e (λ q q' i. ap base_of.Arrow i) (after-arrow x)
