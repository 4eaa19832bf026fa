-- The names that are generated for a part are told by their beginnings and by what stands behind these.
use Rattle.std.proofs.Common.{◌≡◌, ◌≢◌, refl, sym, ap, ◌∙◌, ℕ, zero, suc, ◌<◌, ◌^◌, arith, true, List, [], ◌∷◌, ◌++◌, length, drop, get_or, Some, slice_get, codes, decimal}
use Rattle.std.specs.Str.Parse.{AllDigits}
use Rattle.std.proofs.lemmas.Str.Parse.{digit_from_value}
use Rattle.std.proofs.lemmas.Fmt.{decimal_injective, decimal_is_IsNumeral}
use Rattle.std.specs.Prelude.{slice_index_or}
use Rattle.std.specs.Option.{unwrap_or}
use Rattle.std.proofs.lemmas.Option.{none-some, same_Some}
use Rattle.agxx_base.specs.declared.ids.NameId.{NameId}
use Rattle.agxx_base.specs.Names.{IsDistinct, is_known}
use Rattle.cxx_tree.specs.declared.program.Member.{Member}
use Rattle.cxx_make.specs.Generated.{text_of, named}
use Rattle.codec.specs.Copies as copies
use Rattle.hamming_gen.specs.HammingNames as hamming
use Rattle.entry_count.specs.PartCode as part
use Rattle.entry_count.specs.PartCode.{beginning}
use Rattle.protect_laws.proofs.Known.{named-text}
use Rattle.protect_laws.specs.Strip.{begins_generated}
use Rattle.woven_rules.proofs.Named.{other, named-foreign, IsOwn}

pub data Tag : Type 0 where
  counter : Tag
  lock : Tag
  repair : Tag
  renew : Tag
  enter : Tag
  leave : Tag
  first : Tag
  second : Tag
  check : ℕ → Tag
  parity : Tag

-- what a name with this tag begins with
abbrev pub lead : Tag → List ℕ
lead counter = codes "__gop_n_"
lead lock = codes "__gop_l_"
lead repair = codes "__gop_repair_"
lead renew = codes "__gop_renew_"
lead enter = codes "__gop_enter_"
lead leave = codes "__gop_leave_"
lead first = codes "__gop_c1_"
lead second = codes "__gop_c2_"
lead (check j) = codes "__gop_h_" ++ (decimal j ++ codes "_")
lead parity = codes "__gop_p_"

-- numbers of check words are small
abbrev pub IsSmall : Tag → Type 0
IsSmall counter = Unit {0}
IsSmall lock = Unit {0}
IsSmall repair = Unit {0}
IsSmall renew = Unit {0}
IsSmall enter = Unit {0}
IsSmall leave = Unit {0}
IsSmall first = Unit {0}
IsSmall second = Unit {0}
IsSmall (check j) = j < 2 ^ 64
IsSmall parity = Unit {0}

-- tags of what codes add
abbrev pub IsExtra : Tag → Type 0
IsExtra counter = ⊥
IsExtra lock = ⊥
IsExtra repair = ⊥
IsExtra renew = ⊥
IsExtra enter = ⊥
IsExtra leave = ⊥
IsExtra first = Unit {0}
IsExtra second = Unit {0}
IsExtra (check j) = Unit {0}
IsExtra parity = Unit {0}

-- those of check words and parity words
abbrev pub IsCheck : Tag → Type 0
IsCheck counter = ⊥
IsCheck lock = ⊥
IsCheck repair = ⊥
IsCheck renew = ⊥
IsCheck enter = ⊥
IsCheck leave = ⊥
IsCheck first = ⊥
IsCheck second = ⊥
IsCheck (check j) = Unit {0}
IsCheck parity = Unit {0}

pub leads-generated : (a : Tag) (u : List ℕ) → begins_generated (lead a ++ u) ≡ true
leads-generated counter u = refl
leads-generated lock u = refl
leads-generated repair u = refl
leads-generated renew u = refl
leads-generated enter u = refl
leads-generated leave u = refl
leads-generated first u = refl
leads-generated second u = refl
leads-generated (check j) u = refl
leads-generated parity u = refl

-- digits, and what stands behind the first byte that is none
digits-back : (xs ys u v : List ℕ) → AllDigits 10 xs → AllDigits 10 ys
    → (xs ++ codes "_") ++ u ≡ (ys ++ codes "_") ++ v → (xs ≡ ys) × (u ≡ v)
digits-back [] [] u v some also e = (refl, ap (drop 1) e)
digits-back [] (y ∷ ys) u v some also e =
    let same : 95 ≡ y = ap (λ l. get_or l 0 0) e in
    let low = digit_from_value y also.0 in
    absurd (omega arith)
digits-back (x ∷ xs) [] u v some also e =
    let same : x ≡ 95 = ap (λ l. get_or l 0 0) e in
    let low = digit_from_value x some.0 in
    absurd (omega arith)
digits-back (x ∷ xs) (y ∷ ys) u v some also e =
    let rest = digits-back xs ys u v some.1 also.1 (ap (drop 1) e) in
    (ap (λ z. z ∷ xs) (ap (λ l. get_or l 0 0) e) ∙ ap (λ zs. y ∷ zs) rest.0, rest.1)

check-back : (i j : ℕ) (u v : List ℕ) → i < 2 ^ 64 → j < 2 ^ 64 → lead (check i) ++ u ≡ lead (check j) ++ v
    → (check i ≡ check j) × (u ≡ v)
check-back i j u v low also e =
    let both =
    digits-back (decimal i) (decimal j) u v (decimal_is_IsNumeral i low).0.1 (decimal_is_IsNumeral j also).0.1
    (ap (drop 8) e) in
    (ap check (decimal_injective i j low also both.0), both.1)

-- texts that are the same have one tag, and the same behind it
lead-back : (a b : Tag) (u v : List ℕ) → IsSmall a → IsSmall b → lead a ++ u ≡ lead b ++ v → (a ≡ b) × (u ≡ v)
lead-back counter counter u v low also e = (refl, ap (drop 8) e)
lead-back counter lock u v low also e = absurd (other 6 (lead counter ++ u) (lead lock ++ v) (λ x. omega arith) e)
lead-back counter repair u v low also e = absurd (other 6 (lead counter ++ u) (lead repair ++ v) (λ x. omega arith) e)
lead-back counter renew u v low also e = absurd (other 6 (lead counter ++ u) (lead renew ++ v) (λ x. omega arith) e)
lead-back counter enter u v low also e = absurd (other 6 (lead counter ++ u) (lead enter ++ v) (λ x. omega arith) e)
lead-back counter leave u v low also e = absurd (other 6 (lead counter ++ u) (lead leave ++ v) (λ x. omega arith) e)
lead-back counter first u v low also e = absurd (other 6 (lead counter ++ u) (lead first ++ v) (λ x. omega arith) e)
lead-back counter second u v low also e = absurd (other 6 (lead counter ++ u) (lead second ++ v) (λ x. omega arith) e)
lead-back counter (check j) u v low also e =
    absurd (other 6 (lead counter ++ u) (lead (check j) ++ v) (λ x. omega arith) e)
lead-back counter parity u v low also e = absurd (other 6 (lead counter ++ u) (lead parity ++ v) (λ x. omega arith) e)
lead-back lock counter u v low also e = absurd (other 6 (lead lock ++ u) (lead counter ++ v) (λ x. omega arith) e)
lead-back lock lock u v low also e = (refl, ap (drop 8) e)
lead-back lock repair u v low also e = absurd (other 6 (lead lock ++ u) (lead repair ++ v) (λ x. omega arith) e)
lead-back lock renew u v low also e = absurd (other 6 (lead lock ++ u) (lead renew ++ v) (λ x. omega arith) e)
lead-back lock enter u v low also e = absurd (other 6 (lead lock ++ u) (lead enter ++ v) (λ x. omega arith) e)
lead-back lock leave u v low also e = absurd (other 7 (lead lock ++ u) (lead leave ++ v) (λ x. omega arith) e)
lead-back lock first u v low also e = absurd (other 6 (lead lock ++ u) (lead first ++ v) (λ x. omega arith) e)
lead-back lock second u v low also e = absurd (other 6 (lead lock ++ u) (lead second ++ v) (λ x. omega arith) e)
lead-back lock (check j) u v low also e = absurd (other 6 (lead lock ++ u) (lead (check j) ++ v) (λ x. omega arith) e)
lead-back lock parity u v low also e = absurd (other 6 (lead lock ++ u) (lead parity ++ v) (λ x. omega arith) e)
lead-back repair counter u v low also e = absurd (other 6 (lead repair ++ u) (lead counter ++ v) (λ x. omega arith) e)
lead-back repair lock u v low also e = absurd (other 6 (lead repair ++ u) (lead lock ++ v) (λ x. omega arith) e)
lead-back repair repair u v low also e = (refl, ap (drop 13) e)
lead-back repair renew u v low also e = absurd (other 8 (lead repair ++ u) (lead renew ++ v) (λ x. omega arith) e)
lead-back repair enter u v low also e = absurd (other 6 (lead repair ++ u) (lead enter ++ v) (λ x. omega arith) e)
lead-back repair leave u v low also e = absurd (other 6 (lead repair ++ u) (lead leave ++ v) (λ x. omega arith) e)
lead-back repair first u v low also e = absurd (other 6 (lead repair ++ u) (lead first ++ v) (λ x. omega arith) e)
lead-back repair second u v low also e = absurd (other 6 (lead repair ++ u) (lead second ++ v) (λ x. omega arith) e)
lead-back repair (check j) u v low also e =
    absurd (other 6 (lead repair ++ u) (lead (check j) ++ v) (λ x. omega arith) e)
lead-back repair parity u v low also e = absurd (other 6 (lead repair ++ u) (lead parity ++ v) (λ x. omega arith) e)
lead-back renew counter u v low also e = absurd (other 6 (lead renew ++ u) (lead counter ++ v) (λ x. omega arith) e)
lead-back renew lock u v low also e = absurd (other 6 (lead renew ++ u) (lead lock ++ v) (λ x. omega arith) e)
lead-back renew repair u v low also e = absurd (other 8 (lead renew ++ u) (lead repair ++ v) (λ x. omega arith) e)
lead-back renew renew u v low also e = (refl, ap (drop 12) e)
lead-back renew enter u v low also e = absurd (other 6 (lead renew ++ u) (lead enter ++ v) (λ x. omega arith) e)
lead-back renew leave u v low also e = absurd (other 6 (lead renew ++ u) (lead leave ++ v) (λ x. omega arith) e)
lead-back renew first u v low also e = absurd (other 6 (lead renew ++ u) (lead first ++ v) (λ x. omega arith) e)
lead-back renew second u v low also e = absurd (other 6 (lead renew ++ u) (lead second ++ v) (λ x. omega arith) e)
lead-back renew (check j) u v low also e =
    absurd (other 6 (lead renew ++ u) (lead (check j) ++ v) (λ x. omega arith) e)
lead-back renew parity u v low also e = absurd (other 6 (lead renew ++ u) (lead parity ++ v) (λ x. omega arith) e)
lead-back enter counter u v low also e = absurd (other 6 (lead enter ++ u) (lead counter ++ v) (λ x. omega arith) e)
lead-back enter lock u v low also e = absurd (other 6 (lead enter ++ u) (lead lock ++ v) (λ x. omega arith) e)
lead-back enter repair u v low also e = absurd (other 6 (lead enter ++ u) (lead repair ++ v) (λ x. omega arith) e)
lead-back enter renew u v low also e = absurd (other 6 (lead enter ++ u) (lead renew ++ v) (λ x. omega arith) e)
lead-back enter enter u v low also e = (refl, ap (drop 12) e)
lead-back enter leave u v low also e = absurd (other 6 (lead enter ++ u) (lead leave ++ v) (λ x. omega arith) e)
lead-back enter first u v low also e = absurd (other 6 (lead enter ++ u) (lead first ++ v) (λ x. omega arith) e)
lead-back enter second u v low also e = absurd (other 6 (lead enter ++ u) (lead second ++ v) (λ x. omega arith) e)
lead-back enter (check j) u v low also e =
    absurd (other 6 (lead enter ++ u) (lead (check j) ++ v) (λ x. omega arith) e)
lead-back enter parity u v low also e = absurd (other 6 (lead enter ++ u) (lead parity ++ v) (λ x. omega arith) e)
lead-back leave counter u v low also e = absurd (other 6 (lead leave ++ u) (lead counter ++ v) (λ x. omega arith) e)
lead-back leave lock u v low also e = absurd (other 7 (lead leave ++ u) (lead lock ++ v) (λ x. omega arith) e)
lead-back leave repair u v low also e = absurd (other 6 (lead leave ++ u) (lead repair ++ v) (λ x. omega arith) e)
lead-back leave renew u v low also e = absurd (other 6 (lead leave ++ u) (lead renew ++ v) (λ x. omega arith) e)
lead-back leave enter u v low also e = absurd (other 6 (lead leave ++ u) (lead enter ++ v) (λ x. omega arith) e)
lead-back leave leave u v low also e = (refl, ap (drop 12) e)
lead-back leave first u v low also e = absurd (other 6 (lead leave ++ u) (lead first ++ v) (λ x. omega arith) e)
lead-back leave second u v low also e = absurd (other 6 (lead leave ++ u) (lead second ++ v) (λ x. omega arith) e)
lead-back leave (check j) u v low also e =
    absurd (other 6 (lead leave ++ u) (lead (check j) ++ v) (λ x. omega arith) e)
lead-back leave parity u v low also e = absurd (other 6 (lead leave ++ u) (lead parity ++ v) (λ x. omega arith) e)
lead-back first counter u v low also e = absurd (other 6 (lead first ++ u) (lead counter ++ v) (λ x. omega arith) e)
lead-back first lock u v low also e = absurd (other 6 (lead first ++ u) (lead lock ++ v) (λ x. omega arith) e)
lead-back first repair u v low also e = absurd (other 6 (lead first ++ u) (lead repair ++ v) (λ x. omega arith) e)
lead-back first renew u v low also e = absurd (other 6 (lead first ++ u) (lead renew ++ v) (λ x. omega arith) e)
lead-back first enter u v low also e = absurd (other 6 (lead first ++ u) (lead enter ++ v) (λ x. omega arith) e)
lead-back first leave u v low also e = absurd (other 6 (lead first ++ u) (lead leave ++ v) (λ x. omega arith) e)
lead-back first first u v low also e = (refl, ap (drop 9) e)
lead-back first second u v low also e = absurd (other 7 (lead first ++ u) (lead second ++ v) (λ x. omega arith) e)
lead-back first (check j) u v low also e =
    absurd (other 6 (lead first ++ u) (lead (check j) ++ v) (λ x. omega arith) e)
lead-back first parity u v low also e = absurd (other 6 (lead first ++ u) (lead parity ++ v) (λ x. omega arith) e)
lead-back second counter u v low also e = absurd (other 6 (lead second ++ u) (lead counter ++ v) (λ x. omega arith) e)
lead-back second lock u v low also e = absurd (other 6 (lead second ++ u) (lead lock ++ v) (λ x. omega arith) e)
lead-back second repair u v low also e = absurd (other 6 (lead second ++ u) (lead repair ++ v) (λ x. omega arith) e)
lead-back second renew u v low also e = absurd (other 6 (lead second ++ u) (lead renew ++ v) (λ x. omega arith) e)
lead-back second enter u v low also e = absurd (other 6 (lead second ++ u) (lead enter ++ v) (λ x. omega arith) e)
lead-back second leave u v low also e = absurd (other 6 (lead second ++ u) (lead leave ++ v) (λ x. omega arith) e)
lead-back second first u v low also e = absurd (other 7 (lead second ++ u) (lead first ++ v) (λ x. omega arith) e)
lead-back second second u v low also e = (refl, ap (drop 9) e)
lead-back second (check j) u v low also e =
    absurd (other 6 (lead second ++ u) (lead (check j) ++ v) (λ x. omega arith) e)
lead-back second parity u v low also e = absurd (other 6 (lead second ++ u) (lead parity ++ v) (λ x. omega arith) e)
lead-back (check i) counter u v low also e =
    absurd (other 6 (lead (check i) ++ u) (lead counter ++ v) (λ x. omega arith) e)
lead-back (check i) lock u v low also e = absurd (other 6 (lead (check i) ++ u) (lead lock ++ v) (λ x. omega arith) e)
lead-back (check i) repair u v low also e =
    absurd (other 6 (lead (check i) ++ u) (lead repair ++ v) (λ x. omega arith) e)
lead-back (check i) renew u v low also e =
    absurd (other 6 (lead (check i) ++ u) (lead renew ++ v) (λ x. omega arith) e)
lead-back (check i) enter u v low also e =
    absurd (other 6 (lead (check i) ++ u) (lead enter ++ v) (λ x. omega arith) e)
lead-back (check i) leave u v low also e =
    absurd (other 6 (lead (check i) ++ u) (lead leave ++ v) (λ x. omega arith) e)
lead-back (check i) first u v low also e =
    absurd (other 6 (lead (check i) ++ u) (lead first ++ v) (λ x. omega arith) e)
lead-back (check i) second u v low also e =
    absurd (other 6 (lead (check i) ++ u) (lead second ++ v) (λ x. omega arith) e)
lead-back (check i) (check j) u v low also e = check-back i j u v low also e
lead-back (check i) parity u v low also e =
    absurd (other 6 (lead (check i) ++ u) (lead parity ++ v) (λ x. omega arith) e)
lead-back parity counter u v low also e = absurd (other 6 (lead parity ++ u) (lead counter ++ v) (λ x. omega arith) e)
lead-back parity lock u v low also e = absurd (other 6 (lead parity ++ u) (lead lock ++ v) (λ x. omega arith) e)
lead-back parity repair u v low also e = absurd (other 6 (lead parity ++ u) (lead repair ++ v) (λ x. omega arith) e)
lead-back parity renew u v low also e = absurd (other 6 (lead parity ++ u) (lead renew ++ v) (λ x. omega arith) e)
lead-back parity enter u v low also e = absurd (other 6 (lead parity ++ u) (lead enter ++ v) (λ x. omega arith) e)
lead-back parity leave u v low also e = absurd (other 6 (lead parity ++ u) (lead leave ++ v) (λ x. omega arith) e)
lead-back parity first u v low also e = absurd (other 6 (lead parity ++ u) (lead first ++ v) (λ x. omega arith) e)
lead-back parity second u v low also e = absurd (other 6 (lead parity ++ u) (lead second ++ v) (λ x. omega arith) e)
lead-back parity (check j) u v low also e =
    absurd (other 6 (lead parity ++ u) (lead (check j) ++ v) (λ x. omega arith) e)
lead-back parity parity u v low also e = (refl, ap (drop 8) e)

-- ---- numbers of texts

index-at : (xs : List (List ℕ)) (i : ℕ) (x e : List ℕ) → slice_get xs i ≡ Some x → slice_index_or xs i e ≡ x
index-at [] i x e at = absurd (none-some x at)
index-at (y ∷ xs) zero x e at = same_Some y x at
index-at (y ∷ xs) (suc i) x e at = index-at xs i x e at

within : (xs : List (List ℕ)) (i : ℕ) (x : List ℕ) → slice_get xs i ≡ Some x → i < length xs
within [] i x at = absurd (none-some x at)
within (y ∷ xs) zero x at = omega arith
within (y ∷ xs) (suc i) x at = let rest = within xs i x at in omega arith

distinct-at : (xs : List (List ℕ)) → IsDistinct xs → (i j : ℕ) (x : List ℕ) → slice_get xs i ≡ Some x
    → slice_get xs j ≡ Some x → i ≡ j
distinct-at xs distinct i j x e f =
    let low : i < j → ⊥ =
    λ less. distinct i j x less (within xs j x f) (index-at xs i x x e ∙ sym (index-at xs j x x f)) in
    let high : j < i → ⊥ =
    λ less. distinct j i x less (within xs i x e) (index-at xs j x x f ∙ sym (index-at xs i x x e)) in
    omega arith

module _ (names : List (List ℕ)) where
  abbrev pub tagged : Tag → NameId → NameId
  tagged a id = named names (lead a ++ text_of names id)

  abbrev pub IsKnown : Tag → NameId → Type 0
  IsKnown a id = is_known names (lead a ++ text_of names id) ≡ true

  pub tagged-back : (a b : Tag) (i j : NameId) → IsSmall a → IsSmall b → IsKnown a i → IsKnown b j
      → (tagged a i).0 ≡ (tagged b j).0 → (a ≡ b) × (text_of names i ≡ text_of names j)
  tagged-back a b i j low high known also e =
      lead-back a b (text_of names i) (text_of names j) low high
      (sym (named-text names (lead a ++ text_of names i) known)
      ∙ (ap (λ k. text_of names (record { 0 = k })) e ∙ named-text names (lead b ++ text_of names j) also))

  pub tagged-foreign : (before : List (List ℕ)) (a : Tag) (i : NameId) → IsKnown a i → (j : ℕ) → IsOwn before names j
      → j ≢ (tagged a i).0
  tagged-foreign before a i known j own =
      named-foreign names before (lead a ++ text_of names i) (leads-generated a (text_of names i)) known j own

  there : (xs : List (List ℕ)) (k : ℕ) → k < length xs → slice_get xs k ≡ Some (unwrap_or (slice_get xs k) [])
  there [] k below = absurd (omega arith)
  there (x ∷ xs) zero below = refl
  there (x ∷ xs) (suc k) below = there xs k (omega arith)

  pub same-id : IsDistinct names → (i j : NameId) → i.0 < length names → j.0 < length names
      → text_of names i ≡ text_of names j → i.0 ≡ j.0
  same-id distinct i j low high e =
      distinct-at names distinct i.0 j.0 (text_of names i) (there names i.0 low)
      (there names j.0 high ∙ ap Some (sym e))

  -- ---- the names of a part

  pub counter-is : (class : NameId) → part.counter names class ≡ tagged counter class
  unfolding beginning
  counter-is class = refl

  pub lock-is : (class : NameId) → part.mutex names class ≡ tagged lock class
  unfolding beginning
  lock-is class = refl

  pub repair-is : (class : NameId) → part.repair names class ≡ tagged repair class
  unfolding beginning
  repair-is class = refl

  pub renew-is : (class : NameId) → part.renew names class ≡ tagged renew class
  unfolding beginning
  renew-is class = refl

  pub enter-is : (class : NameId) → part.enter names class ≡ tagged enter class
  unfolding beginning
  enter-is class = refl

  pub leave-is : (class : NameId) → part.leave names class ≡ tagged leave class
  unfolding beginning
  leave-is class = refl

  pub first-is : (m : Member) → copies.first_copy names m ≡ tagged first m.name.item
  first-is m = refl

  pub second-is : (m : Member) → copies.second_copy names m ≡ tagged second m.name.item
  second-is m = refl

  pub check-is : (class : NameId) (j : ℕ) → hamming.check_name names class j ≡ tagged (check j) class
  check-is class j = refl

  pub parity-is : (class : NameId) → hamming.parity_name names class ≡ tagged parity class
  parity-is class = refl
