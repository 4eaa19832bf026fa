-- What printing adds to a text.
use Rattle.std.proofs.Common.{◌≡◌, ℕ, zero, suc, ◌+◌, ◌-◌, ◌≤◌, ◌^◌, min, true, false, List, [], ◌∷◌, ◌++◌, length, get_or, take, drop, ◌<◌, sub-one, Option, None, Some, Result, Ok, Err, is_err, unwrap_or, refl, sym, ap, subst, ◌∙◌, append_assoc, length-append, length-drop, arith}
use Rattle.std.proofs.lemmas.List.{take-append-le, drop-append-le, append-nil, take-append-drop, take_all, drop_all, drop_more}
use Rattle.std.proofs.Math.Seq.{take-add}
use Rattle.agxx_base.specs.Causes.{Rose}
use Rattle.agxx_base.specs.Sink.{appended, WritesWhole}
use Rattle.agxx_base.proofs.Lists.{at-turn}
use Rattle.agxx_base.proofs.Sinks.{appended-appended}
use Rattle.cxx_print.specs.Document.{Part, Document, nothing, one, ◌⨾◌, margin, indented, parts_before, parts_of}
use Rattle.cxx_print.specs.Texts.{part_text, text_of_parts}
use Rattle.cxx_print.specs.Printing.{State, IsAt, Appends, Prints, begun, text_with, with_byte}

-- one more byte is held
pub at-byte : (began taken : Option (List ℕ)) (first faults : ℕ) (text : List ℕ) (s : State) (b : ℕ) → IsAt began first text s taken faults → IsAt began first (text ++ b ∷ []) (with_byte s b) taken faults
at-byte began taken first faults text s b h = record {
  count = omega (arith, h.count, length-append text (b ∷ []));
  later = h.later;
  given = h.given;
  front = omega (arith, h.front, length-append text (b ∷ []));
  taken_is = h.taken_is ∙ ap (appended began) (sym (take-append-le h.given text (b ∷ []) h.front));
  rest = λ sound. ap (λ held. held ++ b ∷ []) (h.rest sound) ∙ sym (drop-append-le h.given text (b ∷ []) h.front);
  rose = h.rose;
}

-- what was held once the sink has failed is lost
pub at-lost : (began taken : Option (List ℕ)) (first faults : ℕ) (text : List ℕ) (s : State) → s.failed ≡ true → IsAt began first text s taken faults → IsAt began first text (record s { held = []; failed = true }) taken faults
at-lost began taken first faults text s failed h = record {
  count = h.count;
  later = h.later;
  given = h.given;
  front = h.front;
  taken_is = h.taken_is;
  rest = λ sound. absurd (differ sound);
  rose = λ _. h.rose failed;
}
  where
    differ : true ≡ false → ⊥
    differ e = cc

-- what was held is written
pub at-written : {T E : Type 0} (began taken now : Option (List ℕ)) (first faults later : ℕ) (text bytes : List ℕ) (s : State) (r : Result T E) → s.failed ≡ false → bytes ≡ s.held → WritesWhole taken now bytes faults later r → IsAt began first text s taken faults → IsAt began first text (record s { held = []; failed = is_err r }) now later
at-written began taken now first faults later text bytes s (Ok u) sound same w h =
    let held : bytes ≡ drop h.given text = same ∙ h.rest sound in
    record {
      count = h.count;
      later = omega (arith, h.later, w.later);
      given = length text;
      front = omega arith;
      taken_is =
          w.all ∙ ap (λ t. appended t bytes) h.taken_is ∙ appended-appended began (take h.given text) bytes ∙ ap (λ rest. appended began (take h.given text ++ rest)) held ∙ ap (appended began) (take-append-drop h.given text ∙ sym (take_all (length text) text (omega arith)));
      rest = λ _. sym (drop_all (length text) text (omega arith));
      rose = λ failed. absurd (differ failed);
    }
  where
    differ : false ≡ true → ⊥
    differ e = cc
at-written began taken now first faults later text bytes s (Err e) sound same w h =
    let held : bytes ≡ drop h.given text = same ∙ h.rest sound in
    let part = w.prefix in
    record {
      count = h.count;
      later = omega (arith, h.later, w.later);
      given = h.given + part.0;
      front = omega (arith, h.front, part.1, ap length held, length-drop h.given text);
      taken_is =
          part.2 ∙ ap (λ t. appended t (take part.0 bytes)) h.taken_is ∙ appended-appended began (take h.given text) (take part.0 bytes) ∙ ap (λ rest. appended began (take h.given text ++ take part.0 rest)) held ∙ ap (appended began) (sym (take-add h.given part.0 text));
      rest = λ sound. absurd (differ sound);
      rose = λ _. rose first faults later h.later w.failed;
    }
  where
    differ : true ≡ false → ⊥
    differ e = cc

    rose : (first faults later : ℕ) → first ≤ faults → Rose faults later → Rose first later
    rose first faults later a b = omega arith

module _ {S : Type 0} {taken : S → Option (List ℕ)} {faults : S → ℕ} where
  pub appends-nothing : {a : State × S} → Appends taken faults a a []
  appends-nothing {a = a} = record {
    names = refl;
    goes = λ began first text h. subst (λ t. IsAt began first t a.0 (taken a.1) (faults a.1)) (sym (append-nil text)) h;
  }

  pub appends-both : {a b c : State × S} {xs ys : List ℕ} → Appends taken faults a b xs → Appends taken faults b c ys → Appends taken faults a c (xs ++ ys)
  appends-both {c = c} {xs = xs} {ys = ys} front rear = record {
    names = rear.names ∙ front.names;
    goes = λ began first text h. subst (λ t. IsAt began first t c.0 (taken c.1) (faults c.1)) (append_assoc text xs ys) (rear.goes began first (text ++ xs) (front.goes began first text h));
  }

  pub prints-nothing : {a : State × S} → Prints taken faults a a nothing
  prints-nothing = record { names = refl; goes = λ began first text h. h }

  pub prints-one : {a b : State × S} {bytes : List ℕ} (part : Part) → Appends taken faults a b bytes → bytes ≡ part_text a.0.names part → Prints taken faults a b (one part)
  prints-one {a = a} {b = b} {bytes = bytes} part added same = record {
    names = added.names;
    goes = λ began first text h. subst (λ bs. IsAt began first (text ++ bs) b.0 (taken b.1) (faults b.1)) same (added.goes began first text h);
  }

  pub prints-both : {a b c : State × S} {d e : Document} → Prints taken faults a b d → Prints taken faults b c e → Prints taken faults a c (d ⨾ e)
  prints-both {a = a} {c = c} {d = d} {e = e} front rear = record {
    names = rear.names ∙ front.names;
    goes = λ began first text h. subst (λ names. IsAt began first (text_with names (text_with a.0.names text d) e) c.0 (taken c.1) (faults c.1)) front.names (rear.goes began first (text_with a.0.names text d) (front.goes began first text h));
  }

  -- what was held once the sink has failed is lost
  pub appends-lost : (s : State) (o : S) → s.failed ≡ true → Appends taken faults (s, o) (record s { held = []; failed = true }, o) []
  appends-lost s o failed = record {
    names = refl;
    goes = λ began first text h. subst (λ t. IsAt began first t (record s { held = []; failed = true }) (taken o) (faults o)) (sym (append-nil text)) (at-lost began (taken o) first (faults o) text s failed h);
  }

  -- what was held is written
  pub appends-written : {T E : Type 0} (s : State) (o p : S) (r : Result T E) → s.failed ≡ false → WritesWhole (taken o) (taken p) s.held (faults o) (faults p) r → Appends taken faults (s, o) (record s { held = []; failed = is_err r }, p) []
  appends-written s o p r sound w = record {
    names = refl;
    goes = λ began first text h. subst (λ t. IsAt began first t (record s { held = []; failed = is_err r }) (taken p) (faults p)) (sym (append-nil text)) (at-written began (taken o) (taken p) first (faults o) (faults p) text s.held s r sound refl w h);
  }

  -- one more byte is held
  pub appends-byte : (s : State) (o : S) (b : ℕ) → Appends taken faults (s, o) (with_byte s b, o) (b ∷ [])
  appends-byte s o b = record {
    names = refl;
    goes = λ began first text h. at-byte began (taken o) first (faults o) text s b h;
  }

  -- a loop over bytes: what it leads to from here, it leads to from the next turn, and at its end it is there
  pub appends-turn : {s a b : State × S} {all item : List ℕ} (D : List ℕ → List ℕ) (xs : List ℕ) (i : ℕ) → i < length xs → ((ys : List ℕ) → D (get_or xs i 0 ∷ ys) ≡ item ++ D ys) → ((u : State × S) → Appends taken faults a u (D (drop i xs)) → Appends taken faults s u all) → Appends taken faults a b item → (u : State × S) → Appends taken faults b u (D (drop (i + 1) xs)) → Appends taken faults s u all
  appends-turn {a = a} D xs i inside each before step u h =
      before u (subst (λ bytes. Appends taken faults a u bytes) (sym (ap D (drop_more xs i 0 inside) ∙ each (drop (i + 1) xs))) (appends-both step h))

  pub appends-done : {s a : State × S} {all : List ℕ} (D : List ℕ → List ℕ) (xs : List ℕ) (i : ℕ) → length xs ≤ i → D [] ≡ [] → ((u : State × S) → Appends taken faults a u (D (drop i xs)) → Appends taken faults s u all) → Appends taken faults s a all
  appends-done {a = a} D xs i past empty before =
      before a (subst (λ bytes. Appends taken faults a a bytes) (sym (ap D (drop_all i xs past) ∙ empty)) appends-nothing)

  -- the same of a loop over parts of a tree
  pub prints-turn : {X : Type 0} {s a b : State × S} {all item : Document} (D : List X → Document) (xs : List X) (i : ℕ) (x : X) → i < length xs → x ≡ get_or xs i x → ((ys : List X) → D (x ∷ ys) ≡ item ⨾ D ys) → ((u : State × S) → Prints taken faults a u (D (drop i xs)) → Prints taken faults s u all) → Prints taken faults a b item → (u : State × S) → Prints taken faults b u (D (drop (i + 1) xs)) → Prints taken faults s u all
  prints-turn {a = a} D xs i x inside at each before step u h =
      before u (subst (λ d. Prints taken faults a u d) (sym (ap D (at-turn xs i x inside at) ∙ each (drop (i + 1) xs))) (prints-both step h))

  pub prints-done : {X : Type 0} {s a : State × S} {all : Document} (D : List X → Document) (xs : List X) (i : ℕ) → length xs ≤ i → D [] ≡ nothing → ((u : State × S) → Prints taken faults a u (D (drop i xs)) → Prints taken faults s u all) → Prints taken faults s a all
  prints-done {a = a} D xs i past empty before =
      before a (subst (λ d. Prints taken faults a a d) (sym (ap D (drop_all i xs past) ∙ empty)) prints-nothing)

  -- the same of a loop over parts that are copied
  pub prints-turn-copied : {X : Type 0} {s a b : State × S} {all : Document} (D : List X → Document) (F : X → Document) (xs : List X) (i : ℕ) (d : X) → i < length xs → ((x : X) (ys : List X) → D (x ∷ ys) ≡ F x ⨾ D ys) → ((u : State × S) → Prints taken faults a u (D (drop i xs)) → Prints taken faults s u all) → Prints taken faults a b (F (get_or xs i d)) → (u : State × S) → Prints taken faults b u (D (drop (i + 1) xs)) → Prints taken faults s u all
  prints-turn-copied {a = a} D F xs i d inside each before step u h =
      before u (subst (λ doc. Prints taken faults a u doc) (sym (ap D (drop_more xs i d inside) ∙ each (get_or xs i d) (drop (i + 1) xs))) (prints-both step h))

  -- a list that isn't empty
  pub prints-some : {X : Type 0} {a b : State × S} (D : List X → Document) (E : X → List X → Document) (d : X) (xs : List X) → 1 ≤ length xs → ((x : X) (ys : List X) → D (x ∷ ys) ≡ E x ys) → Prints taken faults a b (E (get_or xs 0 d) (drop 1 xs)) → Prints taken faults a b (D xs)
  prints-some D E d [] some each h = absurd (omega (arith, some))
  prints-some {a = a} {b = b} D E d (x ∷ ys) some each h = subst (λ doc. Prints taken faults a b doc) (sym (each x ys)) h

  pub prints-some-owned : {X : Type 0} {a b : State × S} (D : List X → Document) (E : X → List X → Document) (xs : List X) (x : X) → 1 ≤ length xs → x ≡ get_or xs 0 x → ((x : X) (ys : List X) → D (x ∷ ys) ≡ E x ys) → Prints taken faults a b (E x (drop 1 xs)) → Prints taken faults a b (D xs)
  prints-some-owned {a = a} {b = b} D E xs x some at each h =
      prints-some D E x xs some each (subst (λ y. Prints taken faults a b (E y (drop 1 xs))) at h)

  pub prints-same : {X : Type 0} {a b : State × S} (D E : List X → Document) (xs : List X) → 1 ≤ length xs → ((x : X) (ys : List X) → D (x ∷ ys) ≡ E (x ∷ ys)) → Prints taken faults a b (E xs) → Prints taken faults a b (D xs)
  prints-same D E [] some each h = absurd (omega (arith, some))
  prints-same {a = a} {b = b} D E (x ∷ ys) some each h = subst (λ doc. Prints taken faults a b doc) (sym (each x ys)) h

  -- a loop that prints the margin of one level after another
  pub margins-turn : {s a b : State × S} {all : Document} (n : ℕ) → 0 < n → ((u : State × S) → Prints taken faults a u (indented n) → Prints taken faults s u all) → Prints taken faults a b (one margin) → (u : State × S) → Prints taken faults b u (indented (n - 1)) → Prints taken faults s u all
  margins-turn zero some before step u h = absurd (omega (arith, some))
  margins-turn (suc n) some before step u h = before u (prints-both step (rw sub-one at h))

  pub margins-done : {s a : State × S} {all : Document} (n : ℕ) → n ≤ 0 → ((u : State × S) → Prints taken faults a u (indented n) → Prints taken faults s u all) → Prints taken faults s a all
  margins-done {a = a} zero none before = before a prints-nothing
  margins-done (suc n) none before = absurd (omega (arith, none))

-- the text of a document is that of its parts
pub text-with : (names : List (List ℕ)) (text : List ℕ) (d : Document) (rest : List Part) → text_with names text d ++ text_of_parts names rest ≡ text ++ text_of_parts names (parts_before d rest)
text-with names text nothing rest = refl
text-with names text (one part) rest = append_assoc text (part_text names part) (text_of_parts names rest)
text-with names text (first ⨾ second) rest =
    text-with names (text_with names text first) second rest ∙ text-with names text first (parts_before second rest)

pub text-is : (names : List (List ℕ)) (d : Document) → text_with names [] d ≡ text_of_parts names (parts_of d)
text-is names d = sym (append-nil (text_with names [] d)) ∙ text-with names [] d []

nothing-appended : (began : Option (List ℕ)) → began ≡ appended began []
nothing-appended None = refl
nothing-appended (Some had) = ap Some (sym (append-nil had))

at-start : (began : Option (List ℕ)) (first : ℕ) (names : List (List ℕ)) → IsAt began first [] (begun names) began first
at-start began first names = record {
  count = refl;
  later = omega arith;
  given = 0;
  front = omega arith;
  taken_is = nothing-appended began;
  rest = λ _. refl;
  rose = λ failed. absurd (differ failed);
}
  where
    differ : false ≡ true → ⊥
    differ e = cc

module _ {S : Type 0} {taken : S → Option (List ℕ)} {faults : S → ℕ} where
  -- the text of a document that a printer began with
  at-end : (names : List (List ℕ)) (o p : S) (s : State) (d : Document) → Prints taken faults (begun names, o) (s, p) d → IsAt (taken o) (faults o) (text_of_parts names (parts_of d)) s (taken p) (faults p)
  at-end names o p s d printed = subst (λ t. IsAt (taken o) (faults o) t s (taken p) (faults p)) (text-is names d) (printed.goes (taken o) (faults o) [] (at-start (taken o) (faults o) names))

  -- its bytes are counted
  pub counted : (names : List (List ℕ)) (o p : S) (s : State) (d : Document) → Prints taken faults (begun names, o) (s, p) d → s.count ≡ min (length (text_of_parts names (parts_of d))) (2 ^ 64 - 1)
  counted names o p s d printed = (at-end names o p s d printed).count

  -- and written, once no byte is held
  pub written : {T E : Type 0} (names : List (List ℕ)) (o p q : S) (s t : State) (d : Document) (r : Result T E) → Prints taken faults (begun names, o) (s, p) d → Appends taken faults (s, p) (t, q) [] → t.held ≡ [] → is_err r ≡ t.failed → WritesWhole (taken o) (taken q) (text_of_parts names (parts_of d)) (faults o) (faults q) r
  written names o p q s t d (Ok u) printed flushed none sound =
      let h : IsAt (taken o) (faults o) (text_of_parts names (parts_of d)) t (taken q) (faults q) =
      subst (λ text. IsAt (taken o) (faults o) text t (taken q) (faults q)) (append-nil (text_of_parts names (parts_of d))) (flushed.goes (taken o) (faults o) (text_of_parts names (parts_of d)) (at-end names o p s d printed)) in
      let over : drop h.given (text_of_parts names (parts_of d)) ≡ [] = sym (h.rest (sym sound)) ∙ none in
      record {
        later = h.later;
        all = h.taken_is ∙ ap (appended (taken o)) (take_all h.given (text_of_parts names (parts_of d)) (omega (arith, ap length over, length-drop h.given (text_of_parts names (parts_of d)))));
        prefix = tt;
        failed = tt;
      }
  written names o p q s t d (Err e) printed flushed none failed =
      let h : IsAt (taken o) (faults o) (text_of_parts names (parts_of d)) t (taken q) (faults q) =
      subst (λ text. IsAt (taken o) (faults o) text t (taken q) (faults q)) (append-nil (text_of_parts names (parts_of d))) (flushed.goes (taken o) (faults o) (text_of_parts names (parts_of d)) (at-end names o p s d printed)) in
      record { later = h.later; all = tt; prefix = (h.given, h.front, h.taken_is); failed = h.rose (sym failed) }

-- what a sink in memory has taken, that was empty
pub taken-all : (had got text : List ℕ) → had ≡ [] → Some got ≡ appended (Some had) text → got ≡ text
taken-all had got text empty all = ap (λ taken. unwrap_or taken []) all ∙ ap (λ bytes. bytes ++ text) empty

pub ruleset printing = (prints-nothing, appends-nothing)
