-- The names that two copies generate are names of nothing else.
use Rattle.std.proofs.Common.{◌≡◌, ◌≢◌, ℕ, zero, suc, ◌+◌, ◌*◌, ◌^◌, ◌<◌, false, List, [], ◌∷◌, ◌++◌, map, length, get_or, drop, codes, refl, sym, subst, ap, ap₂, ◌∙◌, arith, length-append, decimal}
use Rattle.std.specs.List.{All}
use Rattle.std.proofs.lemmas.Fmt.{decimal_injective}
use Rattle.agxx_base.specs.Names.{IsDistinct}
use Rattle.agxx_base.specs.declared.kind.NumKind.{NumKind}
use Rattle.agxx_base.specs.declared.kind.NumKind.TheVariants as kind
use Rattle.cxx_arith.specs.Kinds.{is_signed}
use Rattle.cxx_tree.specs.declared.program.Member.{Member}
use Rattle.cxx_tree.specs.declared.program.TypeName.{TypeName}
use Rattle.cxx_tree.specs.declared.program.TypeName.TheVariants as type_of
use Rattle.codec.specs.declared.part.Part.{Part}
use Rattle.codec.specs.Part.{unsigned_kind, unsigned_type, unsigned_of, member_names, texts_of, place_of}
use Rattle.cxx_make.specs.Generated.{named, text_of}
use Rattle.codec.specs.Copies.{vote_texts, first_member, second_member, copies}
use Rattle.entry_count.specs.PartCode.{beginning, part_texts}
use Rattle.codec_laws.specs.Names.{IsGenerated, IsPlain, member_kinds, types_of, CopiesNamesDiffer}
use Rattle.codec_laws.proofs.Lists.{drop-first}
use Rattle.codec_laws.proofs.Each.{Each, Apart, each-all, all-each, each-both, each-as, each-map, apart-pairs, pairs-apart, apart-both, apart-map}

abbrev first_text : List ℕ → List ℕ
first_text m = codes "__gop_c1_" ++ m

abbrev second_text : List ℕ → List ℕ
second_text m = codes "__gop_c2_" ++ m

abbrev vote_text : ℕ → List ℕ
vote_text i = codes "__gop_m_" ++ decimal i

-- the texts of the names of a part's counter, lock and functions, as they are spelled
abbrev told : List ℕ → List (List ℕ)
told class =
    (codes "__gop_n_" ++ class) ∷ (codes "__gop_l_" ++ class) ∷ (codes "__gop_repair_" ++ class)
    ∷ (codes "__gop_renew_" ++ class) ∷ (codes "__gop_enter_" ++ class) ∷ (codes "__gop_leave_" ++ class) ∷ []

told-is : (class : List ℕ) → told class ≡ part_texts class
unfolding beginning
told-is class = refl

-- texts differ where they have other bytes at some place
other : (i : ℕ) (a b : List ℕ) → get_or a i 0 ≢ get_or b i 0 → a ≢ b
other i a b h e = h (ap (λ l. get_or l i 0) e)

-- ---- the copies

first-back : (m n : List ℕ) → first_text m ≡ first_text n → m ≡ n
first-back m n e = ap (drop 9) e

second-back : (m n : List ℕ) → second_text m ≡ second_text n → m ≡ n
second-back m n e = ap (drop 9) e

first-second : (m n : List ℕ) → first_text m ≢ second_text n
first-second m n = other 7 (first_text m) (second_text n) (λ e. omega arith)

copies-apart : (ms : List (List ℕ)) → Apart ms → Apart (map first_text ms ++ map second_text ms)
copies-apart ms h =
    apart-both (map first_text ms) (map second_text ms) (apart-map first_text first-back ms h)
    (apart-map second_text second-back ms h)
    (each-map first_text (λ x. Each (λ y. x ≢ y) (map second_text ms))
    (λ m. each-map second_text (λ y. first_text m ≢ y) (first-second m) ms) ms)

-- ---- the votes

vote-later : (i j k : ℕ) → i < j → j + k < 2 ^ 64 → Each (λ y. vote_text i ≢ y) (vote_texts j k)
vote-later i j zero l h = tt
vote-later i j (suc k) l h = (
  λ e. (let same : i ≡ j = decimal_injective i j (omega arith) (omega arith) (ap (drop 8) e) in omega arith),
  vote-later i (suc j) k (omega arith) (omega arith),
)

votes-apart : (i k : ℕ) → i + k < 2 ^ 64 → Apart (vote_texts i k)
votes-apart i zero h = tt
votes-apart i (suc k) h = (vote-later i (suc i) k (omega arith) (omega arith), votes-apart (suc i) k (omega arith))

votes-each : (P : List ℕ → Type 0) → ((i : ℕ) → P (vote_text i)) → (i k : ℕ) → Each P (vote_texts i k)
votes-each P f i zero = tt
votes-each P f i (suc k) = (f i, votes-each P f (suc i) k)

-- ---- those of the part

part-apart : (class : List ℕ) → Apart (told class)
part-apart class = (
  (
    other 6 _ _ (λ e. omega arith),
    (
      other 6 _ _ (λ e. omega arith),
      (other 6 _ _ (λ e. omega arith), (other 6 _ _ (λ e. omega arith), (other 6 _ _ (λ e. omega arith), tt))),
    ),
  ),
  (
    (
      other 6 _ _ (λ e. omega arith),
      (
        other 6 _ _ (λ e. omega arith),
        (other 6 _ _ (λ e. omega arith), (other 7 _ _ (λ e. omega arith), tt)),
      ),
    ),
    (
      (other 8 _ _ (λ e. omega arith), (other 6 _ _ (λ e. omega arith), (other 6 _ _ (λ e. omega arith), tt))),
      (
        (other 6 _ _ (λ e. omega arith), (other 6 _ _ (λ e. omega arith), tt)),
        (
          (other 6 _ _ (λ e. omega arith), tt),
          (
            tt,
            tt,
          ),
        ),
      ),
    ),
  ),
)

-- a text that begins otherwise than each of them
from-part : (class text : List ℕ) → ((rest : List ℕ) → text ≢ codes "__gop_n_" ++ rest)
    → ((rest : List ℕ) → text ≢ codes "__gop_l" ++ rest)
    → ((rest : List ℕ) → text ≢ codes "__gop_re" ++ rest) → ((rest : List ℕ) → text ≢ codes "__gop_e" ++ rest)
    → Each (λ y. text ≢ y) (told class)
from-part class text n l r e = (
  n class,
  (
    l (codes "_" ++ class),
    (
      r (codes "pair_" ++ class),
      (r (codes "new_" ++ class), (e (codes "nter_" ++ class), (l (codes "eave_" ++ class), tt))),
    ),
  ),
)

first-part : (class m : List ℕ) → Each (λ y. first_text m ≢ y) (told class)
first-part class m =
    from-part class (first_text m) (λ r. other 6 _ _ (λ e. omega arith)) (λ r. other 6 _ _ (λ e. omega arith))
    (λ r. other 6 _ _ (λ e. omega arith)) (λ r. other 6 _ _ (λ e. omega arith))

second-part : (class m : List ℕ) → Each (λ y. second_text m ≢ y) (told class)
second-part class m =
    from-part class (second_text m) (λ r. other 6 _ _ (λ e. omega arith)) (λ r. other 6 _ _ (λ e. omega arith))
    (λ r. other 6 _ _ (λ e. omega arith)) (λ r. other 6 _ _ (λ e. omega arith))

vote-part : (class : List ℕ) (i : ℕ) → Each (λ y. vote_text i ≢ y) (told class)
vote-part class i =
    from-part class (vote_text i) (λ r. other 6 _ _ (λ e. omega arith)) (λ r. other 6 _ _ (λ e. omega arith))
    (λ r. other 6 _ _ (λ e. omega arith)) (λ r. other 6 _ _ (λ e. omega arith))

-- ---- all of them

abbrev locals : ℕ → List ℕ → List (List ℕ)
locals k class = vote_texts 1 k ++ told class

locals-apart : (k : ℕ) (class : List ℕ) → k < 2 ^ 32 → Apart (locals k class)
locals-apart k class h =
    apart-both (vote_texts 1 k) (told class) (votes-apart 1 k (omega arith)) (part-apart class)
    (votes-each (λ x. Each (λ y. x ≢ y) (told class)) (vote-part class) 1 k)

words-locals : (k : ℕ) (class : List ℕ) (ms : List (List ℕ))
    → Each (λ x. Each (λ y. x ≢ y) (locals k class)) (map first_text ms ++ map second_text ms)
words-locals k class ms =
    each-both (λ x. Each (λ y. x ≢ y) (locals k class)) (map first_text ms) (map second_text ms)
    (each-map first_text (λ x. Each (λ y. x ≢ y) (locals k class))
    (λ m. each-both (λ y. first_text m ≢ y) (vote_texts 1 k) (told class)
    (votes-each (λ y. first_text m ≢ y) (λ i. other 6 _ _ (λ e. omega arith)) 1 k) (first-part class m)) ms)
    (each-map second_text (λ x. Each (λ y. x ≢ y) (locals k class))
    (λ m. each-both (λ y. second_text m ≢ y) (vote_texts 1 k) (told class)
    (votes-each (λ y. second_text m ≢ y) (λ i. other 6 _ _ (λ e. omega arith)) 1 k) (second-part class m)) ms)

abbrev all_texts : ℕ → List ℕ → List (List ℕ) → List (List ℕ)
all_texts k class ms = (map first_text ms ++ map second_text ms) ++ locals k class

all-generated : (k : ℕ) (class : List ℕ) (ms : List (List ℕ)) → Each IsGenerated (all_texts k class ms)
all-generated k class ms =
    each-both IsGenerated (map first_text ms ++ map second_text ms) (locals k class)
    (each-both IsGenerated (map first_text ms) (map second_text ms)
    (each-map first_text IsGenerated (λ m. (codes "c1_" ++ m, refl)) ms)
    (each-map second_text IsGenerated (λ m. (codes "c2_" ++ m, refl)) ms))
    (each-both IsGenerated (vote_texts 1 k) (told class)
    (votes-each IsGenerated (λ i. (codes "m_" ++ decimal i, refl)) 1 k) (
      (codes "n_" ++ class, refl),
      (
        (codes "l_" ++ class, refl),
        (
          (codes "repair_" ++ class, refl),
          (
            (codes "renew_" ++ class, refl),
            ((codes "enter_" ++ class, refl), ((codes "leave_" ++ class, refl), tt)),
          ),
        ),
      ),
    ))

all-apart : (k : ℕ) (class : List ℕ) (ms : List (List ℕ)) → k < 2 ^ 32 → Apart ms → Apart (all_texts k class ms)
all-apart k class ms h a =
    apart-both (map first_text ms ++ map second_text ms) (locals k class) (copies-apart ms a)
    (locals-apart k class h) (words-locals k class ms)

plain-apart : (x y : List ℕ) → IsPlain x → IsGenerated y → x ≢ y
plain-apart x y p g e = p g.0 (e ∙ g.1)

distinct : (class : List ℕ) (ms : List (List ℕ)) → length ms < 2 ^ 32 → IsDistinct ms → All IsPlain ms
    → IsDistinct (ms ++ all_texts (length ms) class ms)
distinct class ms h d p =
    let a : Apart ms = pairs-apart ms d in
    apart-pairs (ms ++ all_texts (length ms) class ms)
    (apart-both ms (all_texts (length ms) class ms) a (all-apart (length ms) class ms h a)
    (each-as IsPlain (λ x. Each (λ y. x ≢ y) (all_texts (length ms) class ms))
    (λ x q. each-as IsGenerated (λ y. x ≢ y) (λ y g. plain-apart x y q g) (all_texts (length ms) class ms)
    (all-generated (length ms) class ms))
    ms (all-each IsPlain ms p)))

-- ---- the members

module _ (texts : List (List ℕ)) (p : Part) where
  append-map : {X Y : Type 0} (f : X → Y) (xs ys : List X) → map f (xs ++ ys) ≡ map f xs ++ map f ys
  append-map f [] ys = refl
  append-map f (x ∷ xs) ys = ap (λ l. f x ∷ l) (append-map f xs ys)

  length-map : {X Y : Type 0} (f : X → Y) (xs : List X) → length (map f xs) ≡ length xs
  length-map f [] = refl
  length-map f (x ∷ xs) = ap (λ n. suc n) (length-map f xs)

  first-names : (ms : List Member) → member_names (map (first_member texts (place_of p)) ms)
      ≡ map (named texts) (map first_text (texts_of texts ms))
  first-names [] = refl
  first-names (m ∷ ms) = ap (λ l. named texts (first_text (text_of texts m.name.item)) ∷ l) (first-names ms)

  second-names : (ms : List Member) → member_names (map (second_member texts (place_of p)) ms)
      ≡ map (named texts) (map second_text (texts_of texts ms))
  second-names [] = refl
  second-names (m ∷ ms) = ap (λ l. named texts (second_text (text_of texts m.name.item)) ∷ l) (second-names ms)

  pub member-names : member_names (copies.members texts p)
      ≡ map (named texts) (map first_text (texts_of texts p.members) ++ map second_text (texts_of texts p.members))
  member-names =
      append-map (λ (m : Member). m.name.item) (map (first_member texts (place_of p)) p.members)
      (map (second_member texts (place_of p)) p.members)
      ∙ ap₂ (λ a b. a ++ b) (first-names p.members) (second-names p.members)
      ∙ sym (append-map (named texts) (map first_text (texts_of texts p.members))
      (map second_text (texts_of texts p.members)))

  first-types : (ms : List Member) → types_of (map (first_member texts (place_of p)) ms)
      ≡ map type_of.Num (map unsigned_of ms)
  first-types [] = refl
  first-types (m ∷ ms) = ap (λ l. type_of.Num (unsigned_of m) ∷ l) (first-types ms)

  second-types : (ms : List Member) → types_of (map (second_member texts (place_of p)) ms)
      ≡ map type_of.Num (map unsigned_of ms)
  second-types [] = refl
  second-types (m ∷ ms) = ap (λ l. type_of.Num (unsigned_of m) ∷ l) (second-types ms)

  pub member-types : types_of (copies.members texts p)
      ≡ map type_of.Num (drop (length p.members) (copies.kinds (member_kinds p)))
  member-types =
      append-map (λ (m : Member). m.type_name.item) (map (first_member texts (place_of p)) p.members)
      (map (second_member texts (place_of p)) p.members)
      ∙ ap₂ (λ a b. a ++ b) (first-types p.members) (second-types p.members)
      ∙ sym (append-map type_of.Num (member_kinds p) (member_kinds p))
      ∙ ap (map type_of.Num) (sym (drop-first (member_kinds p) (member_kinds p ++ member_kinds p)
      (length p.members) (length-map unsigned_of p.members)))

  pub member-count : length (copies.members texts p) ≡ 2 * length p.members
  member-count =
      length-append (map (first_member texts (place_of p)) p.members) (map (second_member texts (place_of p)) p.members)
      ∙ (let a : length (map (first_member texts (place_of p)) p.members) ≡ length p.members = length-map _ p.members in
      let b : length (map (second_member texts (place_of p)) p.members)
      ≡ length p.members = length-map _ p.members in omega arith)

  unsigned-kind : (k : NumKind) → is_signed (unsigned_kind k) ≡ false
  unsigned-kind kind.Bool = refl
  unsigned-kind kind.I8 = refl
  unsigned-kind kind.U8 = refl
  unsigned-kind kind.I16 = refl
  unsigned-kind kind.U16 = refl
  unsigned-kind kind.I32 = refl
  unsigned-kind kind.U32 = refl
  unsigned-kind kind.I64 = refl
  unsigned-kind kind.U64 = refl

  unsigned-type : (t : TypeName) → is_signed (unsigned_type t) ≡ false
  unsigned-type (type_of.Num k) = unsigned-kind k
  unsigned-type type_of.Int = refl
  unsigned-type type_of.Unsigned = refl
  unsigned-type type_of.Void = refl
  unsigned-type (type_of.Pointer class) = refl
  unsigned-type type_of.Mutex = refl

  pub unsigned : Each (λ k. is_signed k ≡ false) (copies.kinds (member_kinds p))
  unsigned = each-both (λ k. is_signed k ≡ false) (member_kinds p) (member_kinds p ++ member_kinds p) once
      (each-both (λ k. is_signed k ≡ false) (member_kinds p) (member_kinds p) once once)
    where
      once : Each (λ k. is_signed k ≡ false) (member_kinds p)
      once = each-map unsigned_of (λ k. is_signed k ≡ false) (λ m. unsigned-type m.type_name.item) p.members

-- the same texts with these ones for the part
abbrev all_with : ℕ → List (List ℕ) → List (List ℕ) → List (List ℕ)
all_with k ps ms = (map first_text ms ++ map second_text ms) ++ (vote_texts 1 k ++ ps)

pub copies-names-differ : CopiesNamesDiffer
copies-names-differ = record {
  two = λ k. refl;
  differ = record {
    generated = λ class ms. subst (λ ps. All IsGenerated (all_with (length ms) ps ms)) (told-is class)
        (each-all IsGenerated (all_texts (length ms) class ms) (all-generated (length ms) class ms));
    distinct = λ class ms few differ plain. subst (λ ps. IsDistinct (ms ++ all_with (length ms) ps ms)) (told-is class)
        (distinct class ms few differ plain);
    names = member-names;
    kinds = member-types;
    unsigned = λ p. each-all (λ k. is_signed k ≡ false) (copies.kinds (member_kinds p)) (unsigned [] p);
    count = member-count;
  };
}
