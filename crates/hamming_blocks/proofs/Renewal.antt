-- The block of renewal runs by itself: the added words become what masks over whole words make of the members.
use Rattle.std.proofs.Common.{◌≡◌, ℕ, ◌+◌, ◌*◌, ◌^◌, ◌<◌, true, Some, List, [], ◌∷◌, ◌++◌, map, length, bit_xor, refl, sym, ap, ap₂, subst, ◌∙◌, append_assoc, length-append}
use Rattle.std.proofs.lemmas.List.{length-map}
use Rattle.agxx_base.specs.declared.ids.ClassId.{ClassId}
use Rattle.agxx_base.specs.declared.place.Place.{Place}
use Rattle.cxx_tree.specs.declared.operator.BinOp.TheVariants as op
use Rattle.step_machine.specs.declared.datum.Datum.{Datum}
use Rattle.step_machine.specs.Setting.{is_of, word_number}
use Rattle.step_machine.specs.Frame.{Frame}
use Rattle.codec_laws.specs.Values.{Fit}
use Rattle.codec_laws.specs.Solo.{Alone}
use Rattle.codec_laws.proofs.Each.{Apart}
use Rattle.hamming_laws.specs.Masks as m
use Rattle.hamming_laws.specs.Masks.{MemberNumber, CheckNumber}
use Rattle.hamming_laws.proofs.Operations.{all_joined-xor-under}
use Rattle.hamming_blocks.specs.Blocks as b
use Rattle.hamming_blocks.specs.Blocks.{CheckedMember, Check, CheckedPart, check_of, word_of, local_names}
use Rattle.hamming_blocks.proofs.Words.{word-xor}
use Rattle.hamming_blocks.proofs.Gives.{Holds, Gives, AllGive, gives-all-joined, gives-under, give-both, locals-give}
use Rattle.hamming_blocks.proofs.Phases.{new-front, new-to-none, RunsAll, runs-both, Declared, runs-declared, declares-all, Laid, assigns-one, assigns-all}
use Rattle.hamming_blocks.proofs.Numbered.{numbers, check_values, length-check_values, member_words-are}
use Rattle.hamming_blocks.proofs.Parts.{words_of, sums_of, own-give, extends-later, renew-checks-put, renewed-under}

module _ (a : Alone) (f : Frame) (own-object : f.this ≡ Some a.object) (at : Place) (class : ClassId)
    (of : is_of a.setting (Some a.live) (Some class) ≡ true) (p : CheckedPart) (xs hs : List ℕ) (parity : ℕ)
    (members : Laid a f own-object at class of 0 (map (λ (m : CheckedMember). m.member) p.members))
    (checks : Laid a f own-object at class of (length xs) (map check_of p.checks))
    (last : word_number a.setting class p.parity ≡ a.from + length (xs ++ hs))
    (fit : Fit (map (λ (m : CheckedMember). m.member.kind) p.members) xs) (long : length xs ≡ length p.members)
    (as-long : length hs ≡ length p.checks) (apart : Apart (local_names p)) where
  abbrev k : ℕ
  k = length p.members

  abbrev r : ℕ
  r = length p.checks

  abbrev ns : List MemberNumber
  ns = numbers p.members xs

  abbrev ks : List CheckNumber
  ks = check_values p.checks hs

  abbrev ws : List ℕ
  ws = xs ++ (hs ++ parity ∷ [])

  abbrev renewed : List ℕ
  renewed = m.renewed_checks ns ks

  abbrev new-parity : ℕ
  new-parity = m.renewed_parity ns ks

  abbrev left : List ℕ
  left =
      sums_of p.checks
      ++ p.total ∷ p.uneven ∷ (map (λ (m : CheckedMember). m.fault) p.members
      ++ (map (λ (c : Check). c.fault) p.checks ++ p.beyond ∷ []))

  extends : (ls : List (ℕ × Datum))
      → Declared a f own-object ((5 + 2) * k) (map (b.extend at class) p.members) ls ws ((words_of p.members, xs) ∷ [])
  extends ls =
      declares-all a f own-object at (λ (m : CheckedMember). m.word) (b.extended at class) 5 ws p.members xs [] ls tt
      (new-front [] (words_of p.members) left (new-to-none (local_names p) apart))
      (extends-later a f own-object at class of p.members xs [] (hs ++ parity ∷ []) ws 0 refl members refl fit)

  renewed-long : length renewed ≡ length hs
  renewed-long =
      length-map ks (λ (c : CheckNumber). m.all_joined bit_xor (m.covered c.position ns))
      ∙ length-check_values p.checks hs as-long ∙ sym as-long

  renews-checks : (ls : List (ℕ × Datum)) → Holds ls (words_of p.members) xs
      → RunsAll a f own-object ((1 + 3 * k + 2) * r) (map (b.renew_check at class p) p.checks) ls ws ls
      (xs ++ (renewed ++ parity ∷ []))
  renews-checks ls h =
      assigns-all a f own-object at class of check_of
      (λ (c : Check). b.all_joined at op.BitXor (b.covered at c.position p.members)) (1 + 3 * k) ls p.checks hs
      renewed xs (parity ∷ []) (length xs) refl checks
      (renew-checks-put a f own-object at class of p xs p.checks hs (length xs) ls as-long h)

  all-words : (ls : List (ℕ × Datum)) → Holds ls (words_of p.members) xs
      → AllGive a f own-object (b.all_words at class p) ls (xs ++ (renewed ++ parity ∷ [])) (renewed ++ xs)
  all-words ls h =
      give-both a f own-object (map (λ (c : Check). b.own_word at class c.name) p.checks)
      (map (λ (m : CheckedMember). b.local m.word) p.members) ls (xs ++ (renewed ++ parity ∷ [])) renewed xs
      (own-give a f own-object at class of p.checks renewed xs (parity ∷ []) (xs ++ (renewed ++ parity ∷ []))
      (length xs) ls refl checks refl (renewed-long ∙ as-long)
      (renewed-under a f own-object at class of p xs p.checks hs ls h))
      (locals-give a f own-object (λ (m : CheckedMember). m.word) p.members ls (xs ++ (renewed ++ parity ∷ [])) xs h)

  all-long : length (b.all_words at class p) ≡ r + k
  all-long =
      length-append (map (λ (c : Check). b.own_word at class c.name) p.checks)
      (map (λ (m : CheckedMember). b.local m.word) p.members)
      ∙ ap₂ (λ x y. x + y) (length-map p.checks (λ (c : Check). b.own_word at class c.name))
      (length-map p.members (λ (m : CheckedMember). b.local m.word))

  parity-is : m.all_joined bit_xor (renewed ++ xs) ≡ new-parity
  parity-is = ap (λ l. m.all_joined bit_xor (renewed ++ l)) (sym (member_words-are p.members xs long))

  renews-parity : (ls : List (ℕ × Datum)) → Holds ls (words_of p.members) xs
      → RunsAll a f own-object (1 + 3 * (r + k) + 2) (b.renew_parity at class p ∷ []) ls
      (xs ++ (renewed ++ parity ∷ [])) ls (xs ++ (renewed ++ new-parity ∷ []))
  renews-parity ls h =
      let e = b.all_joined at op.BitXor (b.all_words at class p) in
      let front = xs ++ renewed in
      let value = m.all_joined bit_xor (renewed ++ xs) in
      let size : length front ≡ length (xs ++ hs) =
      length-append xs renewed ∙ ap (λ n. length xs + n) renewed-long ∙ sym (length-append xs hs) in
      let low : value < 2 ^ 64 =
      all_joined-xor-under 64 (renewed ++ xs)
      (gives-under a f own-object (b.all_words at class p) ls (xs ++ (renewed ++ parity ∷ [])) (renewed ++ xs)
      (all-words ls h)) in
      let gives : Gives a f own-object (1 + 3 * (r + k)) e ls (front ++ parity ∷ []) value =
      subst (λ l. Gives a f own-object (1 + 3 * (r + k)) e ls l value) (sym (append_assoc xs renewed (parity ∷ [])))
      (subst (λ n. Gives a f own-object (1 + 3 * n) e ls (xs ++ (renewed ++ parity ∷ [])) value) all-long
      (gives-all-joined a f own-object at op.BitXor bit_xor word-xor (b.all_words at class p) ls
      (xs ++ (renewed ++ parity ∷ [])) (renewed ++ xs) (all-words ls h))) in
      subst (λ l. RunsAll a f own-object (1 + 3 * (r + k) + 2) (b.renew_parity at class p ∷ []) ls l ls
      (xs ++ (renewed ++ new-parity ∷ []))) (append_assoc xs renewed (parity ∷ []))
      (subst (λ l. RunsAll a f own-object (1 + 3 * (r + k) + 2) (b.renew_parity at class p ∷ []) ls
      (front ++ parity ∷ []) ls l) (append_assoc xs renewed (new-parity ∷ []))
      (subst (λ v. RunsAll a f own-object (1 + 3 * (r + k) + 2) (b.renew_parity at class p ∷ []) ls
      (front ++ parity ∷ []) ls (front ++ v ∷ [])) parity-is
      (assigns-one a f own-object at class of (1 + 3 * (r + k)) (word_of p.parity) e ls front []
      (length (xs ++ hs)) parity value size last low gives)))

  pub renews : (ls : List (ℕ × Datum)) → (us : List (ℕ × Datum))
      × RunsAll a f own-object ((5 + 2) * k + ((1 + 3 * k + 2) * r + (1 + 3 * (r + k) + 2)))
      (map (b.extend at class) p.members ++ (map (b.renew_check at class p) p.checks ++ b.renew_parity at class p ∷ []))
      ls ws us (xs ++ (renewed ++ new-parity ∷ []))
  renews ls =
      runs-declared a f own-object ((5 + 2) * k) ((1 + 3 * k + 2) * r + (1 + 3 * (r + k) + 2))
      (map (b.extend at class) p.members) (map (b.renew_check at class p) p.checks ++ b.renew_parity at class p ∷ []) ls
      ws (xs ++ (renewed ++ new-parity ∷ [])) ((words_of p.members, xs) ∷ []) (extends ls) (λ us h. (
        us,
        runs-both a f own-object ((1 + 3 * k + 2) * r) (1 + 3 * (r + k) + 2) (map (b.renew_check at class p) p.checks)
            (b.renew_parity at class p ∷ []) us us us ws (xs ++ (renewed ++ parity ∷ []))
            (xs ++ (renewed ++ new-parity ∷ [])) (renews-checks us h.0) (renews-parity us h.0),
      ))
