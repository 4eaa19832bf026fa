-- What an insertion into a map amounts to.
use Rattle.std.proofs.Common.{◌≡◌, ℕ, nat_eq, Bool, true, false, cond, List, [], ◌∷◌, ◌++◌, Some, None, refl, ap}
use Rattle.indexmap.specs.IndexMap.{insert_entry}
use Rattle.step_machine.specs.Entries.{entry, with_entry}

module _ {V : Type 0} (key : ℕ) (thing : V) where
  -- an entry is set
  pub inserted : (es : List (ℕ × V)) → insert_entry nat_eq es key thing ≡ with_entry es key thing
  inserted [] = refl
  inserted (e ∷ es) = ap (λ rest. cond (nat_eq key e.0) ((e.0, thing) ∷ es) (e ∷ rest)) (inserted es)

  append_head : (same : Bool) (e : ℕ × V) (es set : List (ℕ × V)) → cond same (Some e.1) (entry es key) ≡ None →
      (entry es key ≡ None → set ≡ es ++ (key, thing) ∷ []) →
      cond same ((e.0, thing) ∷ es) (e ∷ set) ≡ e ∷ (es ++ (key, thing) ∷ [])
  append_head true e es set absent rest = cc
  append_head false e es set absent rest = ap (λ tail. e ∷ tail) (rest absent)

  -- an entry that is new goes to the end
  pub appended : (es : List (ℕ × V)) → entry es key ≡ None → with_entry es key thing ≡ es ++ (key, thing) ∷ []
  appended [] absent = refl
  appended (e ∷ es) absent = append_head (nat_eq key e.0) e es (with_entry es key thing) absent (appended es)
