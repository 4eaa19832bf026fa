-- The names of the locals with which check words are repaired and renewed: none is that of another, of a class or of a
-- word of a part.
use Rattle.std.proofs.Common.{◌≡◌, ◌≢◌, refl, sym, ap, ◌∙◌, ℕ, zero, suc, ◌+◌, ◌<◌, ◌^◌, arith, true, List, [], ◌∷◌, ◌++◌, get_or, drop, None, codes, decimal}
use Rattle.std.proofs.lemmas.Fmt.{decimal_injective}
use Rattle.agxx_base.specs.Names.{is_known}
use Rattle.agxx_base.specs.declared.ids.NameId.{NameId}
use Rattle.cxx_tree.specs.Limits.{Every}
use Rattle.cxx_names.specs.Declarations as d
use Rattle.cxx_names.specs.Declarations.{class_named}
use Rattle.cxx_make.specs.Generated.{named, numbered}
use Rattle.hamming_gen.specs.HammingNames.{numbered_texts, sum_texts, fault_texts}
use Rattle.protect_laws.proofs.Known.{every-by}
use Rattle.protect_laws.specs.Strip.{begins_generated, AreKnown}
use Rattle.woven_rules.proofs.Wider.{class-same}
use Rattle.woven_rules.proofs.Named.{named-foreign, named-differ}
use Rattle.woven_rules.proofs.Keys.{every-both}
use Rattle.woven_rules.proofs.HammingBodies.{Apart}
use Rattle.woven_rules.proofs.PartLocals.{group, faults, locals}
use Rattle.woven_rules.proofs.Found.{no-class}
use Rattle.woven_rules.proofs.World.{Setting, Own, source_of, woven_of, Facts}

module _ (s : Setting) (f' : Facts s) where
  abbrev names : List (List ℕ)
  names = s.names

  -- the name of a generated text with this byte behind `__gop_`
  pub record HasLetter (c : ℕ) (n : NameId) : Type 0 where
    pub text : List ℕ
    pub is : n ≡ named names text
    pub known : is_known names text ≡ true
    pub generated : begins_generated text ≡ true
    pub letter : get_or text 6 0 ≡ c

  pub letters-differ : (c e : ℕ) (m n : NameId) → HasLetter c m → HasLetter e n → e ≢ c → n.0 ≢ m.0
  letters-differ c e m n first second differ same =
      let number = λ (x : NameId). x.0 in
      named-differ names second.text first.text second.known first.known
      (λ texts. differ (sym second.letter ∙ (ap (λ t. get_or t 6 0) texts ∙ first.letter)))
      (sym (ap number second.is) ∙ (same ∙ ap number first.is))

  pub letter-foreign : (c : ℕ) (n : NameId) → HasLetter c n → (j : ℕ) → Own s j → j ≢ n.0
  letter-foreign c n has j own same =
      named-foreign names s.before has.text has.generated has.known j own (same ∙ ap (λ (x : NameId). x.0) has.is)

  pub letter-no-class : (c : ℕ) (n : NameId) → HasLetter c n → class_named (woven_of s) n.0 ≡ None
  letter-no-class c n has =
      class-same (Own s) (source_of s) (woven_of s) f'.wide n.0
      ∙ no-class (Own s) s.before n.0 (λ j own. letter-foreign c n has j own) d.empty refl s.ds f'.own

  -- a name of a local: its letter is neither that of check words nor that of parity words
  pub record IsLocalName (n : NameId) : Type 0 where
    pub code : ℕ
    pub has : HasLetter code n
    pub no_check : code ≢ 104
    pub no_parity : code ≢ 112

  -- a name with another letter
  pub record HasOther (c : ℕ) (n : NameId) : Type 0 where
    pub code : ℕ
    pub has : HasLetter code n
    pub differ : code ≢ c

  local-names : (c : ℕ) → c ≢ 104 → c ≢ 112 → (ns : List NameId) → Every (HasLetter c) ns → Every IsLocalName ns
  local-names c no_check no_parity ns has =
      every-by (HasLetter c) IsLocalName
      (λ n is. record { code = c; has = is; no_check = no_check; no_parity = no_parity }) ns has

  others : (c e : ℕ) → e ≢ c → (ns : List NameId) → Every (HasLetter e) ns → Every (HasOther c) ns
  others c e differ ns has =
      every-by (HasLetter e) (HasOther c) (λ n is. record { code = e; has = is; differ = differ }) ns has

  apart-both : (ns ms : List NameId) → Apart ns → Apart ms
      → Every (λ (n : NameId). Every (λ (m : NameId). m.0 ≢ n.0) ms) ns → Apart (ns ++ ms)
  apart-both [] ms one two cross = two
  apart-both (n ∷ ns) ms one two cross =
      (every-both (λ (m : NameId). m.0 ≢ n.0) ns ms one.0 cross.0, apart-both ns ms one.1 two cross.1)

  letters-cross : (c : ℕ) (ns ms : List NameId) → Every (HasLetter c) ns → Every (HasOther c) ms
      → Every (λ (n : NameId). Every (λ (m : NameId). m.0 ≢ n.0) ms) ns
  letters-cross c ns ms has other =
      every-by (HasLetter c) (λ (n : NameId). Every (λ (m : NameId). m.0 ≢ n.0) ms)
      (λ n is. every-by (HasOther c) (λ (m : NameId). m.0 ≢ n.0)
      (λ m o. letters-differ c o.code n m is o.has o.differ) ms other) ns has

  -- ---- names with numbers

  module _ (begins : List ℕ) where
    group-letters : (c : ℕ) → ((u : List ℕ) → begins_generated (begins ++ u) ≡ true)
        → ((u : List ℕ) → get_or (begins ++ u) 6 0 ≡ c) → (i n : ℕ) → AreKnown names (numbered_texts begins i n)
        → Every (HasLetter c) (group names begins i n)
    group-letters c generated letter i zero known = tt
    group-letters c generated letter i (suc n) known = (
      record {
        text = begins ++ decimal i;
        is = refl;
        known = known.0;
        generated = generated (decimal i);
        letter =
            letter (decimal i);
      },
      group-letters c generated letter (i + 1) n known.1,
    )

    module _ (cancel : (u v : List ℕ) → begins ++ u ≡ begins ++ v → u ≡ v) where
      one-apart : (i j n : ℕ) → i < j → j + n < 2 ^ 64 → is_known names (begins ++ decimal i) ≡ true
          → AreKnown names (numbered_texts begins j n)
          → Every (λ (m : NameId). m.0 ≢ (numbered names begins i).0) (group names begins j n)
      one-apart i j zero less low here known = tt
      one-apart i j (suc n) less low here known = (
        named-differ names (begins ++ decimal j) (begins ++ decimal i) known.0 here
            (λ e. (let same : j ≡ i = decimal_injective j i (omega arith) (omega arith)
            (cancel (decimal j) (decimal i) e) in absurd (omega arith))),
        one-apart i (j + 1) n (omega arith) (omega arith) here known.1,
      )

      group-apart : (i n : ℕ) → i + n < 2 ^ 64 → AreKnown names (numbered_texts begins i n)
          → Apart (group names begins i n)
      group-apart i zero low known = tt
      group-apart i (suc n) low known = (
        one-apart i (i + 1) n (omega arith) (omega arith) known.0 known.1,
        group-apart (i + 1) n (omega arith)
            known.1,
      )

  -- ---- all locals for so many members and check words

  front-known : (xs ys : List (List ℕ)) → AreKnown names (xs ++ ys) → AreKnown names xs
  front-known [] ys all = tt
  front-known (x ∷ xs) ys all = (all.0, front-known xs ys all.1)

  back-known : (xs ys : List (List ℕ)) → AreKnown names (xs ++ ys) → AreKnown names ys
  back-known [] ys all = all
  back-known (x ∷ xs) ys all = back-known xs ys all.1

  module _ (k r : ℕ) where
    module _ (few : k < 2 ^ 32) (few_checks : r < 2 ^ 32) (known : AreKnown names (sum_texts k r ++ fault_texts k r))
      where
        sums-known : AreKnown names (sum_texts k r)
        sums-known = front-known (sum_texts k r) (fault_texts k r) known

        faults-known : AreKnown names (fault_texts k r)
        faults-known = back-known (sum_texts k r) (fault_texts k r) known

        words-known : AreKnown names (numbered_texts (codes "__gop_x_") 1 k)
        words-known = front-known (numbered_texts (codes "__gop_x_") 1 k) _ sums-known

        checks-known : AreKnown names (numbered_texts (codes "__gop_s_") 0 r ++ codes "__gop_q" ∷ codes "__gop_y" ∷ [])
        checks-known = back-known (numbered_texts (codes "__gop_x_") 1 k) _ sums-known

        totals-known : AreKnown names (codes "__gop_q" ∷ codes "__gop_y" ∷ [])
        totals-known = back-known (numbered_texts (codes "__gop_s_") 0 r) _ checks-known

        last-known : AreKnown names (numbered_texts (codes "__gop_f_") 0 r ++ codes "__gop_b" ∷ [])
        last-known = back-known (numbered_texts (codes "__gop_e_") 1 k) _ faults-known

        word-letters : Every (HasLetter 120) (group names (codes "__gop_x_") 1 k)
        word-letters = group-letters (codes "__gop_x_") 120 (λ u. refl) (λ u. refl) 1 k words-known

        sum-letters : Every (HasLetter 115) (group names (codes "__gop_s_") 0 r)
        sum-letters =
            group-letters (codes "__gop_s_") 115 (λ u. refl) (λ u. refl) 0 r
            (front-known (numbered_texts (codes "__gop_s_") 0 r) _ checks-known)

        total-letter : HasLetter 113 (named names (codes "__gop_q"))
        total-letter =
            record { text = codes "__gop_q"; is = refl; known = totals-known.0; generated = refl; letter = refl }

        uneven-letter : HasLetter 121 (named names (codes "__gop_y"))
        uneven-letter =
            record { text = codes "__gop_y"; is = refl; known = totals-known.1.0; generated = refl; letter = refl }

        fault-letters : Every (HasLetter 101) (group names (codes "__gop_e_") 1 k)
        fault-letters =
            group-letters (codes "__gop_e_") 101 (λ u. refl) (λ u. refl) 1 k
            (front-known (numbered_texts (codes "__gop_e_") 1 k) _ faults-known)

        check-letters : Every (HasLetter 102) (group names (codes "__gop_f_") 0 r)
        check-letters =
            group-letters (codes "__gop_f_") 102 (λ u. refl) (λ u. refl) 0 r
            (front-known (numbered_texts (codes "__gop_f_") 0 r) _ last-known)

        beyond-letter : HasLetter 98 (named names (codes "__gop_b"))
        beyond-letter =
            record {
              text = codes "__gop_b";
              is = refl;
              known =
                  (back-known (numbered_texts (codes "__gop_f_") 0 r) _ last-known).0;
              generated = refl;
              letter = refl;
            }

        -- ---- names with other letters

        abbrev last : List NameId
        last = group names (codes "__gop_f_") 0 r ++ named names (codes "__gop_b") ∷ []

        abbrev totals : List NameId
        totals = named names (codes "__gop_q") ∷ named names (codes "__gop_y") ∷ (faults names k r)

        last-other : (c : ℕ) → 102 ≢ c → 98 ≢ c → Every (HasOther c) last
        last-other c two one =
            every-both (HasOther c) (group names (codes "__gop_f_") 0 r) (named names (codes "__gop_b") ∷ [])
            (others c 102 two (group names (codes "__gop_f_") 0 r) check-letters)
            (record { code = 98; has = beyond-letter; differ = one }, tt)

        faults-other : (c : ℕ) → 101 ≢ c → 102 ≢ c → 98 ≢ c → Every (HasOther c) (faults names k r)
        faults-other c three two one =
            every-both (HasOther c) (group names (codes "__gop_e_") 1 k) last
            (others c 101 three (group names (codes "__gop_e_") 1 k) fault-letters) (last-other c two one)

        totals-other : (c : ℕ) → 113 ≢ c → 121 ≢ c → 101 ≢ c → 102 ≢ c → 98 ≢ c → Every (HasOther c) totals
        totals-other c five four three two one = (
          record { code = 113; has = total-letter; differ = five },
          (record { code = 121; has = uneven-letter; differ = four }, faults-other c three two one),
        )

        sums-other : (c : ℕ) → 115 ≢ c → 113 ≢ c → 121 ≢ c → 101 ≢ c → 102 ≢ c → 98 ≢ c
            → Every (HasOther c) (group names (codes "__gop_s_") 0 r ++ totals)
        sums-other c six five four three two one =
            every-both (HasOther c) (group names (codes "__gop_s_") 0 r) totals
            (others c 115 six (group names (codes "__gop_s_") 0 r) sum-letters)
            (totals-other c five four three two one)

        -- ---- none stands twice

        last-apart : Apart last
        last-apart =
            apart-both (group names (codes "__gop_f_") 0 r) (named names (codes "__gop_b") ∷ [])
            (group-apart (codes "__gop_f_") (λ u v e. ap (drop 8) e) 0 r (omega arith)
            (front-known (numbered_texts (codes "__gop_f_") 0 r) _ last-known)) (tt, tt)
            (letters-cross 102 (group names (codes "__gop_f_") 0 r) (named names (codes "__gop_b") ∷ []) check-letters
            (record { code = 98; has = beyond-letter; differ = λ e. omega arith }, tt))

        faults-apart : Apart (faults names k r)
        faults-apart =
            apart-both (group names (codes "__gop_e_") 1 k) last
            (group-apart (codes "__gop_e_") (λ u v e. ap (drop 8) e) 1 k (omega arith)
            (front-known (numbered_texts (codes "__gop_e_") 1 k) _ faults-known)) last-apart
            (letters-cross 101 (group names (codes "__gop_e_") 1 k) last fault-letters
            (last-other 101 (λ e. omega arith) (λ e. omega arith)))

        other-apart : (c : ℕ) (n : NameId) → HasLetter c n → (ns : List NameId) → Every (HasOther c) ns
            → Every (λ (m : NameId). m.0 ≢ n.0) ns
        other-apart c n has ns other =
            every-by (HasOther c) (λ (m : NameId). m.0 ≢ n.0) (λ m o. letters-differ c o.code n m has o.has o.differ) ns
            other

        totals-apart : Apart totals
        totals-apart = (
          (
            letters-differ 113 121 (named names (codes "__gop_q")) (named names (codes "__gop_y")) total-letter
                uneven-letter (λ e. omega arith),
            other-apart 113 (named names (codes "__gop_q")) total-letter (faults names k r)
                (faults-other 113 (λ e. omega arith) (λ e. omega arith) (λ e. omega arith)),
          ),
          (
            other-apart 121 (named names (codes "__gop_y")) uneven-letter (faults names k r)
                (faults-other 121 (λ e. omega arith) (λ e. omega arith) (λ e. omega arith)),
            faults-apart,
          ),
        )

        sums-apart : Apart (group names (codes "__gop_s_") 0 r ++ totals)
        sums-apart =
            apart-both (group names (codes "__gop_s_") 0 r) totals
            (group-apart (codes "__gop_s_") (λ u v e. ap (drop 8) e) 0 r (omega arith)
            (front-known (numbered_texts (codes "__gop_s_") 0 r) _ checks-known)) totals-apart
            (letters-cross 115 (group names (codes "__gop_s_") 0 r) totals sum-letters
            (totals-other 115 (λ e. omega arith) (λ e. omega arith) (λ e. omega arith) (λ e. omega arith)
            (λ e. omega arith)))

        pub locals-apart : Apart (locals names k r)
        locals-apart =
            apart-both (group names (codes "__gop_x_") 1 k) (group names (codes "__gop_s_") 0 r ++ totals)
            (group-apart (codes "__gop_x_") (λ u v e. ap (drop 8) e) 1 k (omega arith) words-known) sums-apart
            (letters-cross 120 (group names (codes "__gop_x_") 1 k) (group names (codes "__gop_s_") 0 r ++ totals)
            word-letters
            (sums-other 120 (λ e. omega arith) (λ e. omega arith) (λ e. omega arith) (λ e. omega arith)
            (λ e. omega arith) (λ e. omega arith)))

        -- ---- and each is a local's

        pub locals-are-local : Every IsLocalName (locals names k r)
        locals-are-local =
            every-both IsLocalName (group names (codes "__gop_x_") 1 k) (group names (codes "__gop_s_") 0 r ++ totals)
            (local-names 120 (λ e. omega arith) (λ e. omega arith) (group names (codes "__gop_x_") 1 k)
            word-letters)
            (every-both IsLocalName (group names (codes "__gop_s_") 0 r) totals
            (local-names 115 (λ e. omega arith) (λ e. omega arith) (group names (codes "__gop_s_") 0 r) sum-letters) (
              record { code = 113; has = total-letter; no_check = λ e. omega arith; no_parity = λ e. omega arith },
              (
                record { code = 121; has = uneven-letter; no_check = λ e. omega arith; no_parity = λ e. omega arith },
                every-both IsLocalName (group names (codes "__gop_e_") 1 k) last
                    (local-names 101 (λ e. omega arith) (λ e. omega arith) (group names (codes "__gop_e_") 1 k)
                    fault-letters)
                    (every-both IsLocalName (group names (codes "__gop_f_") 0 r) (named names (codes "__gop_b") ∷ [])
                    (local-names 102 (λ e. omega arith) (λ e. omega arith) (group names (codes "__gop_f_") 0 r)
                    check-letters) (
                      record {
                        code = 98;
                        has = beyond-letter;
                        no_check = λ e. omega arith;
                        no_parity = λ e. omega arith;
                      },
                      tt,
                    )),
              ),
            ))
