-- Names that are taken one by one.
use Rattle.std.proofs.Common.{◌≡◌, ℕ, Bool, true, false, ◌||◌, List, [], ◌∷◌, ◌++◌, fold, refl, sym, ap, ◌∙◌, subst, append_assoc, append-nil, true≢false}
use Rattle.std.specs.List.{AllByRecursion, IsDistinct as KeysDiffer}
use Rattle.std.specs.Str.{bytes_eq}
use Rattle.std.proofs.lemmas.List.Folds.{list_any-append}
use Rattle.std.proofs.lemmas.Map.Made.{AllPairs-from_IsDistinct, IsDistinct-from_AllPairs}
use Rattle.std.proofs.lemmas.Slice.Eq.{bytes_eq-Decides}
use Rattle.agxx_base.specs.Names.{is_known, interned}
use Rattle.agxx_base.proofs.Interning.{interned-new, interned-known}
use Rattle.ah_parse.specs.GuardFiles.{AreApart, GrowsTo}

-- each name is new where it comes
abbrev pub AreNew : List (List ℕ) → List (List ℕ) → Type 0
AreNew taken [] = Unit {0}
AreNew taken (name ∷ names) = (is_known taken name ≡ false) × AreNew (interned taken name) names

none-of : (a b : Bool) → a ≡ false → b ≡ false → (a || (b || false)) ≡ false
none-of a b is too = rw (is, too) refl

both-none : (a b : Bool) → (a || (b || false)) ≡ false → (a ≡ false) × (b ≡ false)
both-none true b e = absurd (true≢false e)
both-none false true e = absurd (true≢false e)
both-none false false e = (refl, refl)

differ-sym : (one other : List ℕ) → bytes_eq one other ≡ false → bytes_eq other one ≡ false
differ-sym one other e = by (bytes_eq other one) refl
  where
    by : (same : Bool) → bytes_eq other one ≡ same → same ≡ false
    by false is = refl
    by true is = absurd (true≢false (sym ((bytes_eq-Decides one other).1 (sym ((bytes_eq-Decides other one).0 is))) ∙ e))

known-more : (taken : List (List ℕ)) (new name : List ℕ) → is_known taken new ≡ false → is_known (interned taken new) name ≡ (is_known taken name || (bytes_eq name new || false))
known-more taken new name fresh = ap (λ names. is_known names name) (interned-new taken new fresh) ∙ list_any-append (bytes_eq name) taken (new ∷ [])

all-fresh : (taken : List (List ℕ)) (new : List ℕ) (names : List (List ℕ)) → is_known taken new ≡ false → AllByRecursion (λ name. is_known taken name ≡ false) names → AllByRecursion (λ name. bytes_eq new name ≡ false) names
    → AllByRecursion (λ name. is_known (interned taken new) name ≡ false) names
all-fresh taken new [] fresh all differ = tt
all-fresh taken new (name ∷ names) fresh all differ =
    (known-more taken new name fresh ∙ none-of _ _ all.0 (differ-sym new name differ.0), all-fresh taken new names fresh all.1 differ.1)

all-apart : (taken : List (List ℕ)) (new : List ℕ) (names : List (List ℕ)) → is_known taken new ≡ false → AllByRecursion (λ name. is_known (interned taken new) name ≡ false) names
    → AllByRecursion (λ name. is_known taken name ≡ false) names × AllByRecursion (λ name. bytes_eq new name ≡ false) names
all-apart taken new [] fresh all = (tt, tt)
all-apart taken new (name ∷ names) fresh all =
    let both = both-none (is_known taken name) (bytes_eq name new) (sym (known-more taken new name fresh) ∙ all.0) in
    let rest = all-apart taken new names fresh all.1 in
    ((both.0, rest.0), (differ-sym name new both.1, rest.1))

new-by : (taken names : List (List ℕ)) → KeysDiffer bytes_eq names → AllByRecursion (λ name. is_known taken name ≡ false) names → AreNew taken names
unfolding KeysDiffer
new-by taken [] differ all = tt
new-by taken (name ∷ names) differ all = (all.0, new-by (interned taken name) names differ.1 (all-fresh taken name names all.0 all.1 differ.0))

apart-by : (taken names : List (List ℕ)) → AreNew taken names → KeysDiffer bytes_eq names × AllByRecursion (λ name. is_known taken name ≡ false) names
unfolding KeysDiffer
apart-by taken [] new = (tt, tt)
apart-by taken (name ∷ names) new =
    let rest = apart-by (interned taken name) names new.1 in
    let all = all-apart taken name names new.0 rest.1 in
    ((all.1, rest.0), (new.0, all.0))

-- Names that come new are those that differ from each other and from the ones that are taken.
pub new-from_apart : (taken names : List (List ℕ)) → AreApart taken names → AreNew taken names
new-from_apart taken names apart = new-by taken names (IsDistinct-from_AllPairs bytes_eq-Decides names apart.0) apart.1

pub apart-from_new : (taken names : List (List ℕ)) → AreNew taken names → AreApart taken names
apart-from_new taken names new =
    let by = apart-by taken names new in
    (AllPairs-from_IsDistinct bytes_eq-Decides names by.0, by.1)

pub new-on : (taken names : List (List ℕ)) (name : List ℕ) → AreNew taken names → is_known (fold interned taken names) name ≡ false → AreNew taken (names ++ name ∷ [])
new-on taken [] name new fresh = (fresh, tt)
new-on taken (n ∷ ns) name new fresh = (new.0, new-on (interned taken n) ns name new.1 fresh)

pub new-behind : (taken names more : List (List ℕ)) (name : List ℕ) → AreNew taken (names ++ name ∷ more) → is_known (fold interned taken names) name ≡ false
new-behind taken [] more name new = new.0
new-behind taken (n ∷ ns) more name new = new-behind (interned taken n) ns more name new.1

-- ---- growing

pub stays : (taken : List (List ℕ)) → GrowsTo taken taken
stays taken = ([], sym (append-nil taken))

grows-one : (taken : List (List ℕ)) (name : List ℕ) → GrowsTo taken (interned taken name)
grows-one taken name = by (is_known taken name) refl
  where
    by : (known : Bool) → is_known taken name ≡ known → GrowsTo taken (interned taken name)
    by true e = subst (GrowsTo taken) (sym (interned-known taken name e)) (stays taken)
    by false e = (name ∷ [], interned-new taken name e)

pub grows_on : (old now new : List (List ℕ)) → GrowsTo old now → GrowsTo now new → GrowsTo old new
grows_on old now new one other = (one.0 ++ other.0, other.1 ∙ ap (λ ns. ns ++ other.0) one.1 ∙ append_assoc old one.0 other.0)

pub grows_by : (taken new : List (List ℕ)) (name : List ℕ) → new ≡ interned taken name → GrowsTo taken new
grows_by taken new name is = subst (GrowsTo taken) (sym is) (grows-one taken name)
