-- There are no more distinct names than numbers that cover them.
use Rattle.std.proofs.Common.{◌≡◌, ◌⊎◌, inl, inr, refl, sym, ap, ◌∙◌, subst, ℕ, zero, suc, ◌+◌, ◌≤◌, arith, Bool, true, false, List, [], ◌∷◌, ◌++◌, map, length, Option, Some, None, is_some, nat_eq, if◌then◌else◌, cond, slice_get, length-append}
use Rattle.std.proofs.lemmas.Option.{none-some}
use Rattle.std.proofs.lemmas.Bool.{eqb-true}
use Rattle.agxx_base.specs.declared.ids.NameId.{NameId}
use Rattle.agxx_base.specs.declared.place.Place.{Place}
use Rattle.cxx_tree.specs.declared.node.Placed.{Placed}
use Rattle.cxx_tree.specs.Limits.{Every}
use Rattle.cxx_names.specs.Tables.{named, with_name, thing_at, thing_by}
use Rattle.cxx_distinct.specs.Sights.{seen, first_sights}
use Rattle.woven_rules.proofs.Tables.{named-new, named-still}

-- ---- lists

abbrev pub Elem : ℕ → List ℕ → Type 0
Elem k [] = ⊥
Elem k (c ∷ cs) = (k ≡ c) ⊎ Elem k cs

pub elem-front : (k : ℕ) (xs ys : List ℕ) → Elem k xs → Elem k (xs ++ ys)
elem-front k [] ys is = absurd is
elem-front k (x ∷ xs) ys (inl e) = inl e
elem-front k (x ∷ xs) ys (inr later) = inr (elem-front k xs ys later)

pub elem-back : (k : ℕ) (xs ys : List ℕ) → Elem k ys → Elem k (xs ++ ys)
elem-back k [] ys is = is
elem-back k (x ∷ xs) ys is = inr (elem-back k xs ys is)

no-slice : {A : Type 0} (es : List A) (k : ℕ) → length es ≤ k → slice_get es k ≡ None
no-slice [] k low = refl
no-slice (e ∷ es) zero low = absurd (omega arith)
no-slice (e ∷ es) (suc k) low = no-slice es k (omega arith)

slice-short : {A : Type 0} (es : List A) (k : ℕ) → slice_get es k ≡ None → length es ≤ k
slice-short [] k none = omega arith
slice-short (e ∷ es) zero none = absurd (none-some e (sym none))
slice-short (e ∷ es) (suc k) none = let rest = slice-short es k none in omega arith

pub none-past : {A : Type 0} (es : List (ℕ × A)) (k : ℕ) → length es ≤ k → thing_at es k ≡ None
none-past es k low = ap thing_by (no-slice es k low)

nothing-by : {A : Type 0} (o : Option (ℕ × A)) → thing_by o ≡ None → o ≡ None
nothing-by None e = refl
nothing-by (Some x) e = absurd (none-some x.1 (sym e))

pub few-sights : {A : Type 0} (es : List (ℕ × A)) (k : ℕ) → thing_at es k ≡ None → length es ≤ k
few-sights es k none = slice-short es k (nothing-by (slice_get es k) none)

-- ---- names that are not seen yet

abbrev one_unless : Bool → ℕ
one_unless true = 0
one_unless false = 1

-- how many of these numbers are not named
abbrev missing : List (ℕ × Place) → List ℕ → ℕ
missing t [] = 0
missing t (c ∷ cs) = one_unless (is_some (named t c)) + missing t cs

missing-few : (t : List (ℕ × Place)) (cs : List ℕ) → missing t cs ≤ length cs
missing-few t [] = omega arith
missing-few t (c ∷ cs) = by (is_some (named t c)) (missing-few t cs)
  where
    by : (b : Bool) → missing t cs ≤ length cs → one_unless b + missing t cs ≤ suc (length cs)
    by true rest = omega arith
    by false rest = omega arith

-- what is named goes on being so
still-less : (t : List (ℕ × Place)) (k : ℕ) (v : Place) (c : ℕ)
    → one_unless (is_some (named (with_name t k v) c)) ≤ one_unless (is_some (named t c))
still-less t k v c = by (named t c) refl
  where
    at-most-one : (b : Bool) → one_unless b ≤ 1
    at-most-one true = omega arith
    at-most-one false = omega arith

    by : (o : Option Place) → named t c ≡ o
        → one_unless (is_some (named (with_name t k v) c)) ≤ one_unless (is_some (named t c))
    by None e =
        subst (λ o. one_unless (is_some (named (with_name t k v) c)) ≤ one_unless (is_some o)) (sym e)
        (at-most-one (is_some (named (with_name t k v) c)))
    by (Some x) e =
        subst (λ o. one_unless (is_some o) ≤ one_unless (is_some (named t c))) (sym (named-still t k v c x e))
        (omega arith)

missing-less : (t : List (ℕ × Place)) (k : ℕ) (v : Place) (cs : List ℕ) → missing (with_name t k v) cs ≤ missing t cs
missing-less t k v [] = omega arith
missing-less t k v (c ∷ cs) = let here = still-less t k v c in let rest = missing-less t k v cs in omega arith

-- where a name is new, one less is missing
missing-drops : (t : List (ℕ × Place)) (k : ℕ) (v : Place) (cs : List ℕ) → named t k ≡ None → Elem k cs
    → suc (missing (with_name t k v) cs) ≤ missing t cs
missing-drops t k v [] none is = absurd is
missing-drops t k v (c ∷ cs) none (inl e) =
    let rest = missing-less t k v cs in
    let before : one_unless (is_some (named t c)) ≡ 1 =
    ap (λ j. one_unless (is_some (named t j))) (sym e) ∙ ap (λ o. one_unless (is_some o)) none in
    let after : one_unless (is_some (named (with_name t k v) c)) ≡ 0 =
    ap (λ j. one_unless (is_some (named (with_name t k v) j))) (sym e)
    ∙ ap (λ o. one_unless (is_some o)) (named-new t k v none) in
    omega arith
missing-drops t k v (c ∷ cs) none (inr later) = let here = still-less t k v c in let rest =
    missing-drops t k v cs none later in omega arith

pub seen-few : (cs : List ℕ) (ns : List (Placed NameId)) (t : List (ℕ × Place))
    → Every (λ (x : Placed NameId). Elem x.item.0 cs) ns → length (seen t ns) ≤ length t + missing t cs
seen-few cs [] t all = omega arith
seen-few cs (x ∷ ns) t all = by (named t x.item.0) refl (seen-few cs ns (with_name t x.item.0 x.at) all.1)
  where
    after : List (ℕ × Place)
    after = with_name t x.item.0 x.at

    by : (o : Option Place) → named t x.item.0 ≡ o → length (seen after ns) ≤ length after + missing after cs
        → length (seen after ns) ≤ length t + missing t cs
    by None e rest =
        let longer : length after ≡ suc (length t) =
        ap (λ o. length (if is_some o then t else t ++ (x.item.0, x.at) ∷ [])) e
        ∙ (length-append t ((x.item.0, x.at) ∷ []) ∙ omega arith) in
        let less = missing-drops t x.item.0 x.at cs e all.0 in
        omega arith
    by (Some y) e rest =
        let same : length after ≡ length t =
        ap (λ o. length (if is_some o then t else t ++ (x.item.0, x.at) ∷ [])) e in
        let less = missing-less t x.item.0 x.at cs in
        omega arith

-- names that are covered are no more than what covers them
pub sights-few : (cs : List ℕ) (ns : List (Placed NameId)) → Every (λ (x : Placed NameId). Elem x.item.0 cs) ns
    → length (first_sights ns) ≤ length cs
sights-few cs ns all = let most = seen-few cs ns [] all in let few = missing-few [] cs in omega arith

-- ---- names are among their sights

abbrev numbers : List (ℕ × Place) → List ℕ
numbers t = map (λ (e : ℕ × Place). e.0) t

elem-named : (t : List (ℕ × Place)) (k : ℕ) (v : Place) → named t k ≡ Some v → Elem k (numbers t)
elem-named [] k v is = absurd (none-some v is)
elem-named (e ∷ es) k v is = by (nat_eq k e.0) refl (λ later. elem-named es k v later)
  where
    by : (b : Bool) → nat_eq k e.0 ≡ b → (named es k ≡ Some v → Elem k (numbers es)) → Elem k (e.0 ∷ numbers es)
    by true same rest = inl (eqb-true k e.0 same)
    by false other rest = inr (rest (sym (ap (λ b. cond b (Some e.1) (named es k)) other) ∙ is))

seen-still : (ns : List (Placed NameId)) (t : List (ℕ × Place)) (k : ℕ) (v : Place) → named t k ≡ Some v
    → named (seen t ns) k ≡ Some v
seen-still [] t k v is = is
seen-still (x ∷ ns) t k v is = seen-still ns (with_name t x.item.0 x.at) k v (named-still t x.item.0 x.at k v is)

seen-elem : (ns : List (Placed NameId)) (t : List (ℕ × Place))
    → Every (λ (x : Placed NameId). Elem x.item.0 (numbers (seen t ns))) ns
seen-elem [] t = tt
seen-elem (x ∷ ns) t =
    (by (named t x.item.0) refl, seen-elem ns (with_name t x.item.0 x.at))
  where
    after : List (ℕ × Place)
    after = with_name t x.item.0 x.at

    by : (o : Option Place) → named t x.item.0 ≡ o → Elem x.item.0 (numbers (seen after ns))
    by None e =
        elem-named (seen after ns) x.item.0 x.at (seen-still ns after x.item.0 x.at (named-new t x.item.0 x.at e))
    by (Some y) e =
        elem-named (seen after ns) x.item.0 y
        (seen-still ns after x.item.0 y (named-still t x.item.0 x.at x.item.0 y e))

-- the numbers of distinct names
abbrev pub distinct_numbers : List (Placed NameId) → List ℕ
distinct_numbers ns = numbers (first_sights ns)

pub names-elem : (ns : List (Placed NameId)) → Every (λ (x : Placed NameId). Elem x.item.0 (distinct_numbers ns)) ns
names-elem ns = seen-elem ns []

length-numbers : (t : List (ℕ × Place)) → length (numbers t) ≡ length t
length-numbers [] = refl
length-numbers (e ∷ es) = ap suc (length-numbers es)

pub distinct-few : (ns : List (Placed NameId)) → length (distinct_numbers ns) ≡ length (first_sights ns)
distinct-few ns = length-numbers (first_sights ns)
