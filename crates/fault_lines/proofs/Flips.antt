-- A flip changes words alone, and makes no flip admissible.
use Rattle.std.proofs.Common.{◌≡◌, ℕ, nat_lt, if◌then◌else◌, List, [], ◌∷◌, Bool, true, false, not, ◌&&◌, Option, Some, None, option_map, refl, ap, sym, ◌∙◌}
use Rattle.agxx_base.specs.declared.ids.ClassId.{ClassId}
use Rattle.cxx_arith.specs.Kinds.{width}
use Rattle.flip_plan.specs.declared.flip.PlannedFlip.{PlannedFlip}
use Rattle.step_machine.specs.Total.{Total, same, stored}
use Rattle.step_machine.specs.Flips.{FlippedOf, flipped_of, flipped_of_by, with_bits_of, inverted, is_bit}
use Rattle.fault_model.specs.Parts.{PartWord}
use Rattle.fault_model.specs.Inside.{is_inside}
use Rattle.fault_model.specs.Admissible.{Hit, Hits, goes_with, is_admissible, is_admissible_at, part_word_of, hits_by, hits_after}
use Rattle.fault_model.specs.Progress.{Progress, with_flip}
use Rattle.fault_lines.specs.Lines.{IsOn, Inverts}

-- ---- what a flip leaves

-- all but the words
abbrev pub rest : Total → Total
rest m = record m { word = λ o w. None }

rest-by : (found : Option ℕ) (o w bit : ℕ) (m : Total) → rest (flipped_of_by found o w bit m).0 ≡ rest m
rest-by None o w bit m = refl
rest-by (Some bits) o w bit m = go (is_bit m.setting (m.class o) w bit)
  where
    go : (b : Bool) → rest (if◌then◌else◌ {A = FlippedOf} b (with_bits_of o w (inverted bits bit) m, true) (m, false)).0 ≡ rest m
    go true = refl
    go false = refl

pub rest-flipped : (o w bit : ℕ) (m : Total) → rest (flipped_of o w bit m).0 ≡ rest m
unfolding flipped_of
rest-flipped o w bit m = rest-by (m.word o w) o w bit m

pub rest-flip : (f : PlannedFlip) (p : Progress) → rest (with_flip f p).total ≡ rest p.total
rest-flip f p = rest-flipped f.object.0 f.word f.bit p.total

-- ---- which words are there

abbrev is-there : Option ℕ → Bool
is-there None = false
is-there (Some bits) = true

there-stored : (word : ℕ → ℕ → Option ℕ) (o w bits p v : ℕ) → is-there (stored word o w bits p v) ≡ is-there (word p v)
there-stored word o w bits p v = go (same p o) (same v w) (word p v)
  where
    go : (b c : Bool) (x : Option ℕ) → is-there (if b then (if c then option_map (λ _. bits) x else x) else x) ≡ is-there x
    go true true None = refl
    go true true (Some old) = refl
    go true false x = refl
    go false c x = refl

there-by : (found : Option ℕ) (o w bit : ℕ) (m : Total) (p v : ℕ) → is-there ((flipped_of_by found o w bit m).0.word p v) ≡ is-there (m.word p v)
there-by None o w bit m p v = refl
there-by (Some bits) o w bit m p v = go (is_bit m.setting (m.class o) w bit)
  where
    go : (b : Bool) → is-there ((if◌then◌else◌ {A = FlippedOf} b (with_bits_of o w (inverted bits bit) m, true) (m, false)).0.word p v) ≡ is-there (m.word p v)
    go true = there-stored m.word o w (inverted bits bit) p v
    go false = refl

there-flipped : (o w bit : ℕ) (m : Total) (p v : ℕ) → is-there ((flipped_of o w bit m).0.word p v) ≡ is-there (m.word p v)
unfolding flipped_of
there-flipped o w bit m p v = there-by (m.word o w) o w bit m p v

changes-by : (found : Option ℕ) (o w bit : ℕ) (m : Total) → (flipped_of_by found o w bit m).1 ≡ (is-there found && is_bit m.setting (m.class o) w bit)
changes-by None o w bit m = refl
changes-by (Some bits) o w bit m = go (is_bit m.setting (m.class o) w bit)
  where
    go : (b : Bool) → (if◌then◌else◌ {A = FlippedOf} b (with_bits_of o w (inverted bits bit) m, true) (m, false)).1 ≡ b
    go true = refl
    go false = refl

changes-flipped : (o w bit : ℕ) (m : Total) → (flipped_of o w bit m).1 ≡ (is-there (m.word o w) && is_bit m.setting (m.class o) w bit)
unfolding flipped_of
changes-flipped o w bit m = changes-by (m.word o w) o w bit m

-- a flip changes a bit after another flip where it would have before
pub changes-after : (f g : PlannedFlip) (p : Progress)
    → (flipped_of f.object.0 f.word f.bit (with_flip g p).total).1 ≡ (flipped_of f.object.0 f.word f.bit p.total).1
changes-after f g p =
    changes-flipped f.object.0 f.word f.bit (with_flip g p).total
    ∙ ap (λ b. b && is_bit (with_flip g p).total.setting ((with_flip g p).total.class f.object.0) f.word f.bit)
    (there-flipped g.object.0 g.word g.bit p.total f.object.0 f.word)
    ∙ ap (λ (n : Total). is-there (p.total.word f.object.0 f.word) && is_bit n.setting (n.class f.object.0) f.word f.bit) (rest-flip g p)
    ∙ sym (changes-flipped f.object.0 f.word f.bit p.total)

-- ---- what is admissible

-- whether a part is free for a flip: nobody is inside, and it has no hit
abbrev pub is-none : List Hit → Bool
is-none [] = true
is-none (hit ∷ hits) = false

abbrev pub is-free : Total → Hits → ℕ → ClassId → Bool
is-free m hits o class = not (is_inside m o class) && is-none (hits o class)

goes-none : (hits : List Hit) (bit : ℕ) → goes_with true hits bit ≡ is-none hits
goes-none [] bit = refl
goes-none (hit ∷ hits) bit = refl

pub admissible-free : (m : Total) (hits : Hits) (o bit : ℕ) (w : PartWord)
    → is_admissible_at m hits o bit (Some w) ≡ (nat_lt bit (width w.word.kind) && is-free m hits o w.class)
admissible-free m hits o bit w =
    ap (λ b. nat_lt bit (width w.word.kind) && (not (is_inside m o w.class) && b)) (goes-none (hits o w.class) bit)

-- ---- what isn't admissible stays so

fuller : (g : PlannedFlip) (found : Option PartWord) (hits : Hits) (o : ℕ) (class : ClassId)
    → is-none (hits o class) ≡ false → is-none (hits_by g found hits o class) ≡ false
fuller g None hits o class e = e
fuller g (Some w) hits o class e = go (same o g.object.0 && same class.0 w.class.0)
  where
    go : (b : Bool) → is-none (if b then record { word = g.word; bit = g.bit } ∷ hits o class else hits o class) ≡ false
    go true = refl
    go false = e

still-taken : (b : Bool) (m : Total) (g : PlannedFlip) (hits : Hits) (o : ℕ) (class : ClassId)
    → is-free m hits o class ≡ false → is-free m (hits_after b m g hits) o class ≡ false
still-taken false m g hits o class e = e
still-taken true m g hits o class e = go (is_inside m o class) e
  where
    go : (b : Bool) → (not b && is-none (hits o class)) ≡ false
        → (not b && is-none (if b then [] else hits_by g (part_word_of m g) hits o class)) ≡ false
    go true q = refl
    go false q = fuller g (part_word_of m g) hits o class q

still-blocked-at : (b : Bool) (m : Total) (g : PlannedFlip) (hits : Hits) (o bit : ℕ) (found : Option PartWord)
    → is_admissible_at m hits o bit found ≡ false → is_admissible_at m (hits_after b m g hits) o bit found ≡ false
still-blocked-at b m g hits o bit None e = refl
still-blocked-at b m g hits o bit (Some w) e =
    admissible-free m (hits_after b m g hits) o bit w
    ∙ go (nat_lt bit (width w.word.kind)) (sym (admissible-free m hits o bit w) ∙ e)
  where
    go : (c : Bool) → (c && is-free m hits o w.class) ≡ false → (c && is-free m (hits_after b m g hits) o w.class) ≡ false
    go true q = still-taken b m g hits o w.class q
    go false q = refl

pub blocked-flip : (g : PlannedFlip) (p : Progress) (f : PlannedFlip) → is_admissible p.total p.hits f ≡ false
    → is_admissible (with_flip g p).total (with_flip g p).hits f ≡ false
blocked-flip g p f e =
    ap (λ (n : Total). is_admissible n (with_flip g p).hits f) (rest-flip g p)
    ∙ still-blocked-at (flipped_of g.object.0 g.word g.bit p.total).1 p.total g p.hits f.object.0 f.bit (part_word_of p.total f) e

-- ---- on the parts of objects

pub on-after : (class : ClassId) (g : PlannedFlip) (p : Progress) (f : PlannedFlip) → IsOn p.total class f → IsOn (with_flip g p).total class f
on-after class g p f h = record {
  word = h.word;
  is_word = ap (λ (n : Total). part_word_of n f) (rest-flip g p) ∙ h.is_word;
  of_class = h.of_class;
  is_bit = h.is_bit;
}

pub inverts-after : (g : PlannedFlip) (p : Progress) (f : PlannedFlip) → Inverts p.total f → Inverts (with_flip g p).total f
inverts-after g p f h = λ hits a.
    changes-after f g p ∙ h hits (sym (ap (λ (n : Total). is_admissible n hits f) (rest-flip g p)) ∙ a)
