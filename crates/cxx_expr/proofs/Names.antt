-- The rules for names and references answer right.
use Rattle.std.proofs.Common.{◌≡◌, Bool, true, false, cond, List, [], ◌∷◌, ◌++◌, Option, Some, None, inl, refl, sym, ap, ◌∙◌, subst, append-nil}
use Rattle.agxx_base.specs.declared.place.Place.{Place}
use Rattle.agxx_base.specs.declared.ids.NameId.{NameId}
use Rattle.agxx_base.specs.declared.vocabulary.Sign.TheVariants as sg
use Rattle.cxx_tree.specs.declared.node.Placed.{Placed}
use Rattle.cxx_tree.specs.declared.expr.Ref.{Ref}
use Rattle.cxx_tree.specs.declared.expr.Base.{Base}
use Rattle.cxx_tree.specs.declared.expr.Base.TheVariants as base_of
use Rattle.cxx_tree.specs.declared.expr.Callee.{Callee}
use Rattle.cxx_tree.specs.declared.expr.Callee.TheVariants as callee_of
use Rattle.cxx_tree.specs.Words as w
use Rattle.cxx_tree.specs.Words.{Word}
use Rattle.cxx_tree.specs.Spelling.{spell_name, spell_ref, spell_base, spell_callee}
use Rattle.cxx_expr.specs.declared.stop.Stop.TheVariants.{Syntax}
use Rattle.cxx_expr.specs.Tokens.{Tokens, sees, after}
use Rattle.cxx_expr.specs.Outcome.{Outcome, done, failed, and_then}
use Rattle.cxx_expr.specs.Lefts.{node_at, name_by, name, reference, selected, selected_of, target}
use Rattle.cxx_expr.proofs.Good.{Sort, Good, Goods, head, sees-head, good_done, good_fail, good_shift, good_again, good_if, good_bind}
use Rattle.cxx_expr.proofs.States.{tokens, each, IsFree, sees-sign}

abbrev pub default_name : Placed NameId
default_name = record { at = record { file = 0; line = 0; column = 0 }; item = record { 0 = 0 } }

abbrev pub names : Sort (Placed NameId)
names = each spell_name

abbrev pub refs : Sort Ref
refs = each spell_ref

abbrev pub callees : Sort Callee
callees = each spell_callee

-- ---- a name

abbrev is_name_word : Word → Bool
is_name_word (w.name n) = true
is_name_word _ = false

abbrev is_name : Option (Placed Word) → Bool
is_name None = false
is_name (Some t) = is_name_word t.item

name-fail-by : (word : Word) (at : Place) (ts : Tokens) → is_name_word word ≡ false → name_by word at ts ≡ failed Syntax ts
name-fail-by (w.name n) at ts e = cc
name-fail-by _ at ts e = refl

name-fail : (ts : Tokens) → is_name (head ts) ≡ false → name ts ≡ failed Syntax ts
unfolding name
name-fail [] e = refl
name-fail (t ∷ ts) e = name-fail-by t.item t.at (t ∷ ts) e

refuses_name : (ts : Tokens) → is_name (head ts) ≡ false → Good tokens [] names (λ q r. name q ≡ r) ts (failed Syntax ts)
refuses_name ts e = good_fail tokens [] names (λ q r. name q ≡ r) ts (inl refl) (λ other h. name-fail other (ap is_name h ∙ e))

good_name_by : (word : Word) (at : Place) (ts : Tokens) → Good tokens [] names (λ q r. name q ≡ r) (record { at = at; item = word } ∷ ts) (name_by word at (record { at = at; item = word } ∷ ts))
unfolding name
good_name_by (w.name n) at ts = record { front = record { at = at; item = w.name n } ∷ []; whole = refl; valid = tt; text = refl; again = λ other e. refl }
good_name_by _ at ts = refuses_name _ refl

pub good_name : Goods tokens names name name
unfolding name
good_name [] = refuses_name [] refl
good_name (t ∷ ts) = good_name_by t.item t.at ts

-- ---- a reference

abbrev pub ref_of : Place → Bool → Placed NameId → Ref
ref_of at global n = record { node = node_at at; global = global; name = n }

good_plain : (at : Place) (global : Bool) (pre : List Word) → ((n : Placed NameId) → spell_ref (ref_of at global n) ≡ pre ++ spell_name n) → (ts : Tokens)
    → Good tokens pre refs (λ q r. and_then (name q) (λ n. done (ref_of at global n)) ≡ r) ts (and_then (name ts) (λ n. done (ref_of at global n)))
good_plain at global pre spelled ts =
    good_bind tokens pre names refs name (λ n. done (ref_of at global n)) default_name tt
    (λ n v. (ref_of at global n, [], tt, spelled n ∙ sym (append-nil (pre ++ spell_name n))))
    (λ n. done (ref_of at global n)) ts (name ts) (good_name ts)
    (λ n rest v. good_done tokens (pre ++ spell_name n) refs (λ q r. done (ref_of at global n) q ≡ r) rest (ref_of at global n) tt (spelled n) (λ other h. refl))

-- what a reference is, by whether `::` comes next
reference-by : (at : Place) (b : Bool) (ts : Tokens) → sees sg.ColonColon ts ≡ b → reference at ts ≡ and_then (name (cond b (after ts) ts)) (λ n. done (ref_of at b n))
unfolding reference
reference-by at b ts e = rw e refl

pub good_reference : (at : Place) → Goods tokens refs (reference at) (reference at)
good_reference at ts = go (sees sg.ColonColon ts) refl
  where
    go : (b : Bool) → sees sg.ColonColon ts ≡ b → Good tokens [] refs (λ q r. reference at q ≡ r) ts (reference at ts)
    go true e =
        let g = sees-sign sg.ColonColon ts e in
        subst (Good tokens [] refs (λ q r. reference at q ≡ r) ts) (sym (reference-by at true ts e))
        (subst (λ q. Good tokens [] refs (λ q r. reference at q ≡ r) q (and_then (name (after ts)) (λ n. done (ref_of at true n)))) (sym g.1)
        (good_shift tokens [] refs (λ q r. and_then (name q) (λ n. done (ref_of at true n)) ≡ r) (λ q r. reference at q ≡ r) (record { at = g.0; item = w.sign sg.ColonColon }) (after ts)
        (and_then (name (after ts)) (λ n. done (ref_of at true n))) (λ q r a. reference-by at true (record { at = g.0; item = w.sign sg.ColonColon } ∷ q) refl ∙ a)
        (good_plain at true (w.sign sg.ColonColon ∷ []) (λ n. refl) (after ts))))
    go false e =
        subst (Good tokens [] refs (λ q r. reference at q ≡ r) ts) (sym (reference-by at false ts e))
        (good_again tokens [] refs (λ q r. and_then (name q) (λ n. done (ref_of at false n)) ≡ r) (λ q r. reference at q ≡ r) ts (and_then (name ts) (λ n. done (ref_of at false n)))
        (λ q r h a. reference-by at false q (sees-head sg.ColonColon q ts h ∙ e) ∙ a) (good_plain at false [] (λ n. refl) ts))

-- ---- what begins with a reference

abbrev pub member_of : Base → Placed NameId → Callee
member_of base n = callee_of.Member (record { base = base; name = n })

pub good_selected : (base : Base) (ts : Tokens) → Good tokens (spell_base base) callees (λ q r. selected base q ≡ r) ts (selected base ts)
unfolding selected
good_selected base ts =
    good_bind tokens (spell_base base) names callees name (λ n. done (member_of base n)) default_name tt
    (λ n v. (member_of base n, [], tt, sym (append-nil (spell_base base ++ spell_name n))))
    (λ n. done (member_of base n)) ts (name ts) (good_name ts)
    (λ n rest v. good_done tokens (spell_base base ++ spell_name n) callees (λ q r. done (member_of base n) q ≡ r) rest (member_of base n) tt refl (λ other h. refl))

abbrev after_ref : Ref → Tokens → Outcome Tokens Callee
after_ref r ts = cond (sees sg.Arrow ts) (selected (base_of.Arrow r) (after ts)) (done (callee_of.Bare r) ts)

good_after_ref : (r : Ref) (ts : Tokens) → Good tokens (spell_ref r) callees (λ q r'. after_ref r q ≡ r') ts (after_ref r ts)
good_after_ref r ts =
    good_if tokens sg.Arrow (spell_ref r) callees (λ q o. selected (base_of.Arrow r) (after q) ≡ o) (λ q o. done (callee_of.Bare r) q ≡ o) (λ q o. after_ref r q ≡ o) ts
    (selected (base_of.Arrow r) (after ts)) (done (callee_of.Bare r) ts)
    (λ q o s a. rw s a) (λ q o s a. rw s a)
    (λ s. let g = sees-sign sg.Arrow ts s in
    subst (λ q. Good tokens (spell_ref r) callees (λ q o. selected (base_of.Arrow r) (after q) ≡ o) q (selected (base_of.Arrow r) (after ts))) (sym g.1)
    (good_shift tokens (spell_ref r) callees (λ q o. selected (base_of.Arrow r) q ≡ o) (λ q o. selected (base_of.Arrow r) (after q) ≡ o) (record { at = g.0; item = w.sign sg.Arrow }) (after ts)
    (selected (base_of.Arrow r) (after ts)) (λ q o a. a) (good_selected (base_of.Arrow r) (after ts))))
    (λ s. good_done tokens (spell_ref r) callees (λ q o. done (callee_of.Bare r) q ≡ o) ts (callee_of.Bare r) tt refl (λ other h. refl))

pub good_selected_of : (r : Ref) (ts : Tokens) → Good tokens (spell_ref r) callees (λ q o. selected_of r q ≡ o) ts (selected_of r ts)
unfolding selected_of
good_selected_of r ts =
    good_if tokens sg.Dot (spell_ref r) callees (λ q o. selected (base_of.Dot r) (after q) ≡ o) (λ q o. after_ref r q ≡ o) (λ q o. selected_of r q ≡ o) ts
    (selected (base_of.Dot r) (after ts)) (after_ref r ts)
    (λ q o s a. rw s a) (λ q o s a. rw s a)
    (λ s. let g = sees-sign sg.Dot ts s in
    subst (λ q. Good tokens (spell_ref r) callees (λ q o. selected (base_of.Dot r) (after q) ≡ o) q (selected (base_of.Dot r) (after ts))) (sym g.1)
    (good_shift tokens (spell_ref r) callees (λ q o. selected (base_of.Dot r) q ≡ o) (λ q o. selected (base_of.Dot r) (after q) ≡ o) (record { at = g.0; item = w.sign sg.Dot }) (after ts)
    (selected (base_of.Dot r) (after ts)) (λ q o a. a) (good_selected (base_of.Dot r) (after ts))))
    (λ s. good_after_ref r ts)

abbrev pub default_ref : Ref
default_ref = ref_of (record { file = 0; line = 0; column = 0 }) false default_name

pub good_target : (at : Place) → Goods tokens callees (target at) (target at)
unfolding target
good_target at ts =
    good_bind tokens [] refs callees (reference at) selected_of default_ref tt
    (λ r v. (callee_of.Bare r, [], tt, sym (append-nil (spell_ref r))))
    selected_of ts (reference at ts) (good_reference at ts)
    (λ r rest v. good_selected_of r rest)

-- ---- they have no operators

pub free-append : (a b : List Word) → IsFree a → IsFree b → IsFree (a ++ b)
free-append [] b f g = g
free-append (word ∷ a) b f g = (f.0, free-append a b f.1 g)

free-ref-by : (at : Place) (b : Bool) (n : Placed NameId) (r : Ref) → r ≡ record { node = r.node; global = b; name = n } → IsFree (spell_ref r)
free-ref-by at true n r e = subst (λ q. IsFree (spell_ref q)) (sym e) ((λ m. refl), ((λ m. refl), tt))
free-ref-by at false n r e = subst (λ q. IsFree (spell_ref q)) (sym e) ((λ m. refl), tt)

pub free-ref : (r : Ref) → IsFree (spell_ref r)
free-ref r = free-ref-by r.node.at r.global r.name r refl

free-base : (base : Base) → IsFree (spell_base base)
free-base base_of.This = ((λ m. refl), ((λ m. refl), tt))
free-base (base_of.Dot r) = free-append (spell_ref r) _ (free-ref r) ((λ m. refl), tt)
free-base (base_of.Arrow r) = free-append (spell_ref r) _ (free-ref r) ((λ m. refl), tt)

pub free-callee : (c : Callee) → IsFree (spell_callee c)
free-callee (callee_of.Bare r) = free-ref r
free-callee (callee_of.Member s) = free-append (spell_base s.base) _ (free-base s.base) ((λ m. refl), tt)
