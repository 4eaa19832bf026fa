-- What a walk has noted of nodes stays as it is: it notes more, and changes only nodes that mean nothing.
use Rattle.std.proofs.Common.{◌≡◌, ◌≢◌, refl, sym, ap, ◌∙◌, ℕ, ◌≤◌, ◌<◌, Bool, true, false, nat_eq, List, [], ◌∷◌, ◌++◌, length, get_or, slice_get, slice_set, Option, Some, None, arith, length-append}
use Rattle.std.specs.Option.{unwrap_or}
use Rattle.std.proofs.lemmas.Bool.{eqb-true, eq-eqb}
use Rattle.std.proofs.lemmas.List.{length-set, get_or_append_left, get_or-append-add, get_or-set_same, get_or-set_other}
use Rattle.std.proofs.lemmas.Option.{unwrap_or-slice_get}
use Rattle.agxx_base.specs.declared.place.Place.{Place}
use Rattle.agxx_base.specs.declared.rule.Rule.{Rule}
use Rattle.cxx_tree.specs.declared.program.TypeName.TheVariants.{Void}
use Rattle.cxx_types.specs.declared.entry.Entry.{Entry}
use Rattle.cxx_types.specs.declared.entry.Meaning.{Meaning}
use Rattle.cxx_types.specs.declared.entry.Meaning.TheVariants.{Other}
use Rattle.cxx_types.specs.State.{State}
use Rattle.cxx_types.specs.Checking.{required}
use Rattle.cxx_types.specs.Typing.{meaning_by}

abbrev pub blank : Entry
blank = record { type_name = Void; meaning = Other }

abbrev pub meaning_at : List Entry → ℕ → Meaning
meaning_at es i = (get_or es i blank).meaning

by-default : (o : Option Entry) → meaning_by o ≡ (unwrap_or o blank).meaning
by-default None = refl
by-default (Some x) = refl

pub known_at : (es : List Entry) (i : ℕ) → meaning_by (slice_get es i) ≡ meaning_at es i
known_at es i = by-default (slice_get es i) ∙ ap (λ (x : Entry). x.meaning) (unwrap_or-slice_get es i blank)

-- later entries mean the same as far as these go
pub record Kept (es later : List Entry) : Type 0 where
  pub longer : length es ≤ length later
  pub same : (i : ℕ) → i < length es → meaning_at later i ≡ meaning_at es i

pub kept_self : (es : List Entry) → Kept es es
kept_self es = record { longer = omega arith; same = λ i h. refl }

pub kept_through : {a b c : List Entry} → Kept a b → Kept b c → Kept a c
kept_through {a} {b} {c} k l = record {
  longer = let x = k.longer in let y = l.longer in omega arith;
  same = λ i h. let x = k.longer in l.same i (omega arith) ∙ k.same i h;
}

pub kept_more : (es : List Entry) (e : Entry) → Kept es (es ++ e ∷ [])
kept_more es e = record {
  longer = omega (arith, length-append es (e ∷ []));
  same = λ i h. ap (λ (x : Entry). x.meaning) (get_or_append_left es (e ∷ []) blank i h);
}

-- what is noted last
pub last_means : (es : List Entry) (e : Entry) → meaning_at (es ++ e ∷ []) (length es) ≡ e.meaning
last_means es e = ap (λ (x : Entry). x.meaning) (ap (λ i. get_or (es ++ e ∷ []) i blank) (omega arith) ∙ get_or-append-add es (e ∷ []) 0 blank)

set-behind : (es : List Entry) (i : ℕ) (x : Entry) (n : ℕ) → n ≤ i → n ≤ length es → (j : ℕ) → j < n → meaning_at (slice_set es i x) j ≡ meaning_at es j
set-behind es i x n h long j inside =
    let other : j ≢ i = λ e. absurd (omega (arith, e)) in
    ap (λ (y : Entry). y.meaning) (get_or-set_other es i j x blank other)

pub kept_set : (es later : List Entry) (i : ℕ) (x : Entry) → length es ≤ i → Kept es later → Kept es (slice_set later i x)
kept_set es later i x h k = record {
  longer = let l = k.longer in omega (arith, length-set later i x);
  same = λ j inside. set-behind later i x (length es) h k.longer j inside ∙ k.same j inside;
}

-- a node that means nothing goes on to mean nothing
pub kept_blank : (es : List Entry) (i : ℕ) (x : Entry) → x.meaning ≡ Other → meaning_at es i ≡ Other → Kept es (slice_set es i x)
kept_blank es i x new old = record { longer = omega (arith, length-set es i x); same = λ j inside. by (nat_eq j i) refl inside }
  where
    by : {j : ℕ} (b : Bool) → nat_eq j i ≡ b → j < length es → meaning_at (slice_set es i x) j ≡ meaning_at es j
    by {j} true e inside =
        let same : j ≡ i = eqb-true j i e in
        ap (λ n. meaning_at (slice_set es i x) n) same
        ∙ (ap (λ (y : Entry). y.meaning) (get_or-set_same es i x blank (omega (arith, same, inside)))
        ∙ (new ∙ (sym old ∙ ap (λ n. meaning_at es n) (sym same))))
    by {j} false e inside =
        let other : j ≢ i = λ s. absurd (differ (sym e ∙ eq-eqb j i s)) in
        ap (λ (y : Entry). y.meaning) (get_or-set_other es i j x blank other)
      where
        differ : false ≡ true → ⊥
        differ h = cc

-- ---- states

pub required_entries : (r : Rule) (at : Place) (holds : Bool) (s : State) → (required r at holds s).entries ≡ s.entries
required_entries r at true s = refl
required_entries r at false s = refl

pub more_kept : {es : List Entry} (later : List Entry) (e : Entry) → Kept es later → Kept es (later ++ e ∷ [])
more_kept later e k = kept_through k (kept_more later e)
