-- The names that check words generate are names of nothing else.
use Rattle.std.proofs.Common.{◌≡◌, ◌≢◌, ℕ, zero, suc, ◌+◌, ◌^◌, ◌<◌, ◌≤◌, Bool, true, false, ◌&&◌, nat_eq, if◌then◌else◌, List, [], ◌∷◌, ◌++◌, map, length, drop, replicate, codes, refl, sym, subst, ap, ◌∙◌, arith, append_assoc, length-append, decimal}
use Rattle.std.specs.List.{All, range_with_len}
use Rattle.std.proofs.lemmas.Fmt.{decimal_injective}
use Rattle.std.proofs.lemmas.List.{append_cancel_left, append_cancel_right, length-map}
use Rattle.std.proofs.lemmas.Bool.{false≢true, and_parts}
use Rattle.agxx_base.specs.Names.{IsDistinct}
use Rattle.agxx_base.specs.declared.kind.NumKind.TheVariants as kind
use Rattle.cxx_arith.specs.Kinds.{is_signed}
use Rattle.agxx_base.specs.declared.place.Place.{Place}
use Rattle.cxx_tree.specs.declared.program.Member.{Member}
use Rattle.cxx_tree.specs.declared.program.TypeName.{TypeName}
use Rattle.cxx_tree.specs.declared.program.TypeName.TheVariants as type_of
use Rattle.codec.specs.declared.part.Part.{Part}
use Rattle.codec.specs.Part.{unsigned_type, unsigned_of, member_names, member_texts, place_of}
use Rattle.cxx_make.specs.Generated.{named, text_of}
use Rattle.entry_count.specs.PartCode.{beginning, part_texts}
use Rattle.hamming_gen.specs.Positions.{check_words}
use Rattle.hamming_gen.specs.HammingWords.{extra_words}
use Rattle.hamming_gen.specs.HammingNames.{check_text, check_texts, check_name, parity_text, parity_name, added_texts, numbered_texts}
use Rattle.hamming_gen.specs.HammingTrees.{word_member}
use Rattle.hamming_gen.specs.Hamming.{hamming}
use Rattle.codec_laws.specs.Names.{IsGenerated, IsPlain, member_kinds, types_of}
use Rattle.codec_laws.specs.Elaboration.{number_kind_of}
use Rattle.codec_laws.proofs.Arithmetic.{unsigned}
use Rattle.codec_laws.proofs.Elaboration.{unsigned-is}
use Rattle.codec_laws.proofs.Lists.{drop-first}
use Rattle.codec_laws.proofs.Each.{Each, Apart, each-all, all-each, each-both, each-as, each-map, apart-pairs, pairs-apart, apart-both}
use Rattle.hamming_laws.proofs.PositionsOfWords.{check-least}
use Rattle.hamming_laws.proofs.Places.{length-range}
use Rattle.hamming_blocks.specs.Names.{HammingNamesDiffer}

-- ---- beginnings that differ at some place where both have one

abbrev clash : List ℕ → List ℕ → Bool
clash [] q = false
clash (x ∷ p) [] = false
clash (x ∷ p) (y ∷ q) = if nat_eq x y then clash p q else true

abbrev head : List ℕ → ℕ
head [] = 0
head (z ∷ l) = z

clash-differ : (p q a b : List ℕ) → clash p q ≡ true → p ++ a ≢ q ++ b
clash-differ [] q a b h e = absurd (false≢true h)
clash-differ (x ∷ p) [] a b h e = absurd (false≢true h)
clash-differ (x ∷ p) (y ∷ q) a b h e = by (nat_eq x y) refl h (λ g. clash-differ p q a b g (ap (drop 1) e))
  where
    by : (same : Bool) → nat_eq x y ≡ same → (if same then clash p q else true) ≡ true → (clash p q ≡ true → ⊥) → ⊥
    by true s g rest = rest g
    by false s g rest = grind (arith, s, ap head e)

-- ---- texts in groups, each with a beginning of its own

abbrev start_of : List ℕ → List ℕ
start_of mark = codes "__gop_" ++ mark

abbrev Begins : List ℕ → List ℕ → Type 0
Begins mark text = (rest : List ℕ) × (text ≡ start_of mark ++ rest)

-- texts that begin so, and differ where there are few
record Group (Few : Type 0) : Type 0 where
  mark : List ℕ
  texts : List (List ℕ)
  begins : Each (Begins mark) texts
  apart : Few → Apart texts

module _ (Few : Type 0) where
  abbrev gathered : List (Group Few) → List (List ℕ)
  gathered [] = []
  gathered (g ∷ gs) = g.texts ++ gathered gs

  abbrev clashes : List ℕ → List (Group Few) → Bool
  clashes mark [] = true
  clashes mark (g ∷ gs) = clash (start_of mark) (start_of g.mark) && clashes mark gs

  abbrev all_clash : List (Group Few) → Bool
  all_clash [] = true
  all_clash (g ∷ gs) = clashes g.mark gs && all_clash gs

  text-apart : (mark other text : List ℕ) (ys : List (List ℕ)) → clash (start_of mark) (start_of other) ≡ true
      → Begins mark text → Each (Begins other) ys → Each (λ y. text ≢ y) ys
  text-apart mark other text ys c b h =
      each-as (Begins other) (λ y. text ≢ y)
      (λ y d e. clash-differ (start_of mark) (start_of other) b.0 d.0 c (sym b.1 ∙ e ∙ d.1)) ys h

  text-apart-all : (mark text : List ℕ) (gs : List (Group Few)) → clashes mark gs ≡ true → Begins mark text
      → Each (λ y. text ≢ y) (gathered gs)
  text-apart-all mark text [] c b = tt
  text-apart-all mark text (g ∷ gs) c b =
      let parts = and_parts (clash (start_of mark) (start_of g.mark)) (clashes mark gs) c in
      each-both (λ y. text ≢ y) g.texts (gathered gs) (text-apart mark g.mark text g.texts parts.0 b g.begins)
      (text-apart-all mark text gs parts.1 b)

  groups-apart : (gs : List (Group Few)) → all_clash gs ≡ true → Few → Apart (gathered gs)
  groups-apart [] c h = tt
  groups-apart (g ∷ gs) c h =
      let parts = and_parts (clashes g.mark gs) (all_clash gs) c in
      apart-both g.texts (gathered gs) (g.apart h) (groups-apart gs parts.1 h)
      (each-as (Begins g.mark) (λ x. Each (λ y. x ≢ y) (gathered gs))
      (λ x b. text-apart-all g.mark x gs parts.0 b) g.texts g.begins)

  groups-generated : (gs : List (Group Few)) → Each IsGenerated (gathered gs)
  groups-generated [] = tt
  groups-generated (g ∷ gs) =
      each-both IsGenerated g.texts (gathered gs)
      (each-as (Begins g.mark) IsGenerated
      (λ text d. (g.mark ++ d.0, d.1 ∙ append_assoc (codes "__gop_") g.mark d.0)) g.texts g.begins)
      (groups-generated gs)

-- ---- texts with numbers

module _ (text : ℕ → List ℕ) (back : (i j : ℕ) → i < 2 ^ 64 → j < 2 ^ 64 → text i ≡ text j → i ≡ j) where
  later-differs : (i j n : ℕ) → i < j → j + n < 2 ^ 64 → Each (λ y. text i ≢ y) (map text (range_with_len j n))
  later-differs i j zero l h = tt
  later-differs i j (suc n) l h = (
    λ e. (let same : i ≡ j = back i j (omega arith) (omega arith) e in omega arith),
    later-differs i (j + 1) n (omega arith) (omega arith),
  )

  numbers-apart : (j n : ℕ) → j + n < 2 ^ 64 → Apart (map text (range_with_len j n))
  numbers-apart j zero h = tt
  numbers-apart j (suc n) h = (
    later-differs j (j + 1) n (omega arith) (omega arith),
    numbers-apart (j + 1) n (omega arith),
  )

numbered-back : (start : List ℕ) (i j : ℕ) → i < 2 ^ 64 → j < 2 ^ 64 → start ++ decimal i ≡ start ++ decimal j
    → i ≡ j
numbered-back start i j p q e = decimal_injective i j p q (append_cancel_left start (decimal i) (decimal j) e)

check-is : (class : List ℕ) (j : ℕ) → check_text class j ≡ codes "__gop_h_" ++ (decimal j ++ (codes "_" ++ class))
check-is class j =
    append_assoc (codes "__gop_h_") (decimal j ++ codes "_") class
    ∙ ap (λ l. codes "__gop_h_" ++ l) (append_assoc (decimal j) (codes "_") class)

check-back : (class : List ℕ) (i j : ℕ) → i < 2 ^ 64 → j < 2 ^ 64 → check_text class i ≡ check_text class j → i ≡ j
check-back class i j p q e =
    decimal_injective i j p q
    (append_cancel_right (decimal i) (decimal j) (codes "_" ++ class)
    (append_cancel_left (codes "__gop_h_") (decimal i ++ (codes "_" ++ class)) (decimal j ++ (codes "_" ++ class))
    (sym (check-is class i) ∙ e ∙ check-is class j)))

module _ (Few : Type 0) where
  abbrev numbered : (mark : List ℕ) (i n : ℕ) → (Few → i + n < 2 ^ 64) → Group Few
  numbered mark i n few = record {
    mark = mark;
    texts = numbered_texts (start_of mark) i n;
    begins = each-map (λ k. start_of mark ++ decimal k) (Begins mark) (λ k. (decimal k, refl)) (range_with_len i n);
    apart = λ h. numbers-apart (λ k. start_of mark ++ decimal k) (numbered-back (start_of mark)) i n (few h);
  }

  abbrev checks : (class : List ℕ) (r : ℕ) → (Few → 0 + r < 2 ^ 64) → Group Few
  checks class r few = record {
    mark = codes "h_";
    texts = check_texts class r;
    begins = each-map (check_text class) (Begins (codes "h_"))
        (λ j. (decimal j ++ (codes "_" ++ class), check-is class j)) (range_with_len 0 r);
    apart = λ h. numbers-apart (check_text class) (check-back class) 0 r (few h);
  }

  abbrev alone : List ℕ → List ℕ → Group Few
  alone mark rest = record {
    mark = mark;
    texts = (start_of mark ++ rest) ∷ [];
    begins = ((rest, refl), tt);
    apart = λ h. (tt, tt);
  }

-- ---- all of a part, of k members and r check words

module _ (k r : ℕ) where
  abbrev Few : Type 0
  Few = (k < 2 ^ 32) × (r < 2 ^ 32)

  under : (i n : ℕ) → i < 2 → n < 2 ^ 32 → i + n < 2 ^ 64
  under i n l h = omega arith

  abbrev groups : List ℕ → List (Group Few)
  groups class =
      checks Few class r (λ h. under 0 r (omega arith) h.1)
      ∷ alone Few (codes "p_") class
      ∷ numbered Few (codes "x_") 1 k (λ h. under 1 k (omega arith) h.0)
      ∷ numbered Few (codes "s_") 0 r (λ h. under 0 r (omega arith) h.1)
      ∷ alone Few (codes "q") []
      ∷ alone Few (codes "y") []
      ∷ numbered Few (codes "e_") 1 k (λ h. under 1 k (omega arith) h.0)
      ∷ numbered Few (codes "f_") 0 r (λ h. under 0 r (omega arith) h.1)
      ∷ alone Few (codes "b") []
      ∷ alone Few (codes "n_") class
      ∷ alone Few (codes "l_") class
      ∷ alone Few (codes "repair_") class
      ∷ alone Few (codes "renew_") class
      ∷ alone Few (codes "enter_") class
      ∷ alone Few (codes "leave_") class
      ∷ []

  groups-clash : (class : List ℕ) → all_clash Few (groups class) ≡ true
  groups-clash class = refl

abbrev all_texts : ℕ → ℕ → List ℕ → List (List ℕ)
all_texts k r class =
    (check_texts class r ++ parity_text class ∷ [])
    ++ (((numbered_texts (codes "__gop_x_") 1 k
    ++ (numbered_texts (codes "__gop_s_") 0 r ++ codes "__gop_q" ∷ codes "__gop_y" ∷ []))
    ++ (numbered_texts (codes "__gop_e_") 1 k ++ (numbered_texts (codes "__gop_f_") 0 r ++ codes "__gop_b" ∷ [])))
    ++ part_texts class)

parted : {A : Type 0} (h x s e f t : List A) (p q y b : A)
    → h ++ p ∷ (x ++ (s ++ q ∷ y ∷ (e ++ (f ++ b ∷ t))))
    ≡ (h ++ p ∷ []) ++ (((x ++ (s ++ q ∷ y ∷ [])) ++ (e ++ (f ++ b ∷ []))) ++ t)
parted h x s e f t p q y b = simp append_assoc

gathered-is : (k r : ℕ) (class : List ℕ) → gathered (Few k r) (groups k r class) ≡ all_texts k r class
unfolding beginning
gathered-is k r class =
    parted (check_texts class r) (numbered_texts (codes "__gop_x_") 1 k) (numbered_texts (codes "__gop_s_") 0 r)
    (numbered_texts (codes "__gop_e_") 1 k) (numbered_texts (codes "__gop_f_") 0 r) (part_texts class)
    (parity_text class) (codes "__gop_q") (codes "__gop_y") (codes "__gop_b")

checks-few : (k : ℕ) → k < 2 ^ 32 → check_words k < 2 ^ 32
checks-few k h = let few : check_words k ≤ 33 = check-least k 33 (omega arith) in omega arith

texts-apart : (k : ℕ) (class : List ℕ) → k < 2 ^ 32 → Apart (all_texts k (check_words k) class)
texts-apart k class h =
    let r = check_words k in
    subst Apart (gathered-is k r class)
    (groups-apart (Few k r) (groups k r class) (groups-clash k r class) (h, checks-few k h))

texts-generated : (k : ℕ) (class : List ℕ) → Each IsGenerated (all_texts k (check_words k) class)
texts-generated k class =
    let r = check_words k in
    subst (Each IsGenerated) (gathered-is k r class) (groups-generated (Few k r) (groups k r class))

plain-apart : (x y : List ℕ) → IsPlain x → IsGenerated y → x ≢ y
plain-apart x y p g e = p g.0 (e ∙ g.1)

distinct : (class : List ℕ) (ms : List (List ℕ)) → length ms < 2 ^ 32 → IsDistinct ms → All IsPlain ms
    → IsDistinct (ms ++ all_texts (length ms) (check_words (length ms)) class)
distinct class ms h d p =
    let all = all_texts (length ms) (check_words (length ms)) class in
    apart-pairs (ms ++ all)
    (apart-both ms all (pairs-apart ms d) (texts-apart (length ms) class h)
    (each-as IsPlain (λ x. Each (λ y. x ≢ y) all)
    (λ x q. each-as IsGenerated (λ y. x ≢ y) (λ y g. plain-apart x y q g) all
    (texts-generated (length ms) class))
    ms (all-each IsPlain ms p)))

-- ---- the members

module _ (texts : List (List ℕ)) (p : Part) where
  abbrev at : Place
  at = place_of p

  abbrev r : ℕ
  r = check_words (length p.members)

  abbrev check_member : ℕ → Member
  check_member j = word_member at (check_name texts p.class.item j)

  abbrev last : Member
  last = word_member at (parity_name texts p.class.item)

  names-of : (j n : ℕ) → member_names (map check_member (range_with_len j n) ++ last ∷ [])
      ≡ map (named texts) (map (check_text (text_of texts p.class.item)) (range_with_len j n)
      ++ parity_text (text_of texts p.class.item) ∷ [])
  names-of j zero = refl
  names-of j (suc n) =
      ap (λ l. named texts (check_text (text_of texts p.class.item) j) ∷ l) (names-of (j + 1) n)

  members-few : length (member_texts texts p) ≡ length p.members
  members-few =
      length-map (member_names p.members) (text_of texts) ∙ length-map p.members (λ (m : Member). m.name.item)

  the-names : member_names (hamming.members texts p) ≡ map (named texts)
      (hamming.extra_texts (text_of texts p.class.item) (member_texts texts p))
  the-names =
      names-of 0 r ∙ ap (λ k. map (named texts) (added_texts (text_of texts p.class.item) k)) (sym members-few)

  types-are : (j n : ℕ) → types_of (map check_member (range_with_len j n) ++ last ∷ [])
      ≡ map type_of.Num (replicate (n + 1) kind.U64)
  types-are j zero = refl
  types-are j (suc n) =
      ap (λ l. type_of.Num kind.U64 ∷ l) (types-are (j + 1) n)
      ∙ ap (λ m. map type_of.Num (replicate m kind.U64)) (let e : suc (n + 1) ≡ suc n + 1 = omega arith in e)

  kinds-few : length (member_kinds p) ≡ length p.members
  kinds-few = length-map p.members unsigned_of

  the-types : types_of (hamming.members texts p)
      ≡ map type_of.Num (drop (length p.members) (hamming.kinds (member_kinds p)))
  the-types =
      types-are 0 r
      ∙ ap (λ k. map type_of.Num (replicate (extra_words k) kind.U64)) (sym kinds-few)
      ∙ ap (map type_of.Num) (sym (drop-first (member_kinds p)
      (replicate (extra_words (length (member_kinds p))) kind.U64) (length p.members) kinds-few))

  the-count : length (hamming.members texts p) ≡ hamming.extra_words (length p.members)
  the-count =
      length-append (map check_member (range_with_len 0 r)) (last ∷ [])
      ∙ ap (λ n. n + 1) (length-map (range_with_len 0 r) check_member ∙ length-range 0 r)

unsigned-type : (t : TypeName) → is_signed (unsigned_type t) ≡ false
unsigned-type t = ap is_signed (unsigned-is t) ∙ unsigned (number_kind_of t)

all-unsigned : (n : ℕ) → Each (λ k. is_signed k ≡ false) (replicate n kind.U64)
all-unsigned zero = tt
all-unsigned (suc n) = (refl, all-unsigned n)

pub hamming-names-differ : HammingNamesDiffer
hamming-names-differ = record {
  one_more = λ k. refl;
  differ = record {
    generated = λ class ms. each-all IsGenerated (all_texts (length ms) (check_words (length ms)) class)
        (texts-generated (length ms) class);
    distinct = distinct;
    names = the-names;
    kinds = the-types;
    unsigned = λ p. each-all (λ k. is_signed k ≡ false) (hamming.kinds (member_kinds p))
        (each-both (λ k. is_signed k ≡ false) (member_kinds p)
        (replicate (extra_words (length (member_kinds p))) kind.U64)
        (each-map unsigned_of (λ k. is_signed k ≡ false) (λ m. unsigned-type m.type_name.item) p.members)
        (all-unsigned (extra_words (length (member_kinds p)))));
    count = the-count;
  };
}
