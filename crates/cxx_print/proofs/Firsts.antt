-- A list of which the first part is printed in another way than the others, and what is seen in another way.
use Rattle.std.proofs.Common.{◌≡◌, ℕ, ◌+◌, ◌-◌, ◌<◌, ◌≤◌, List, ◌∷◌, length, get_or, take, drop, Option, subst, sym, ap, ◌∙◌}
use Rattle.std.proofs.lemmas.List.{take_rest}
use Rattle.agxx_base.proofs.Lists.{at-turn}
use Rattle.cxx_print.specs.Document.{Document, ◌⨾◌}
use Rattle.cxx_print.specs.Printing.{State, Prints}
use Rattle.cxx_print.proofs.Printed.{prints-both, prints-some, prints-some-owned}

module _ {S : Type 0} {taken : S → Option (List ℕ)} {faults : S → ℕ} where
  pub prints-first : {X : Type 0} {a b : State × S} (D : List X → Document) (E : X → List X → Document) (d : X) (xs : List X) → 1 ≤ length xs → ((x : X) (ys : List X) → D (x ∷ ys) ≡ E x ys) → Prints taken faults a b (E (get_or xs 0 d) (take (length xs - 1) (drop 1 xs))) → Prints taken faults a b (D xs)
  prints-first {a = a} {b = b} D E d xs some each h =
      prints-some D E d xs some each (subst (λ ys. Prints taken faults a b (E (get_or xs 0 d) ys)) (take_rest xs 1) h)

  pub prints-first-owned : {X : Type 0} {a b : State × S} (D : List X → Document) (E : X → List X → Document) (xs : List X) (x : X) → 1 ≤ length xs → x ≡ get_or xs 0 x → ((x : X) (ys : List X) → D (x ∷ ys) ≡ E x ys) → Prints taken faults a b (E x (take (length xs - 1) (drop 1 xs))) → Prints taken faults a b (D xs)
  prints-first-owned {a = a} {b = b} D E xs x some at each h =
      prints-some-owned D E xs x some at each (subst (λ ys. Prints taken faults a b (E x ys)) (take_rest xs 1) h)

  -- a loop whose next turn prints the parts in another way
  pub prints-next : {X : Type 0} {s a b : State × S} {all item : Document} (D E : List X → Document) (xs : List X) (i : ℕ) (x : X) → i < length xs → x ≡ get_or xs i x → ((ys : List X) → D (x ∷ ys) ≡ item ⨾ E ys) → ((u : State × S) → Prints taken faults a u (D (drop i xs)) → Prints taken faults s u all) → Prints taken faults a b item → (u : State × S) → Prints taken faults b u (E (drop (i + 1) xs)) → Prints taken faults s u all
  prints-next {a = a} D E xs i x inside at each before step u h =
      before u (subst (λ d. Prints taken faults a u d) (sym (ap D (at-turn xs i x inside at) ∙ each (drop (i + 1) xs))) (prints-both step h))

  pub prints-view : {T : Type 0} {a b : State × S} (D : T → Document) (t v : T) → t ≡ v → Prints taken faults a b (D v) → Prints taken faults a b (D t)
  prints-view {a = a} {b = b} D t v same h = subst (λ x. Prints taken faults a b (D x)) (sym same) h
