-- Steps of what enters and leaves a part, whatever its words are.
use Rattle.std.proofs.Common.{◌≡◌, ℕ, suc, ◌+◌, ◌-◌, ◌%◌, ◌^◌, ◌<◌, Bool, true, false, ◌&&◌, List, [], ◌∷◌, ◌++◌, length, slice_get, Some, Ok, refl, ap, ◌∙◌, arith}
use Rattle.std.specs.Prelude.{nat_le, nat_lt, if◌then◌else◌}
use Rattle.std.proofs.lemmas.Bool.{le-leb}
use Rattle.std.proofs.lemmas.Int.{ints}
use Rattle.agxx_base.specs.declared.ids.ClassId.{ClassId}
use Rattle.agxx_base.specs.declared.kind.NumKind.TheVariants as kind
use Rattle.agxx_base.specs.declared.place.Place.{Place}
use Rattle.cxx_tree.specs.declared.operator.BinOp.{BinOp}
use Rattle.cxx_tree.specs.declared.operator.BinOp.TheVariants as op
use Rattle.cxx_arith.specs.Numbers.{flag}
use Rattle.cxx_core.specs.CoreExpr as c
use Rattle.cxx_core.specs.CoreExpr.{CoreCallee, CoreLeft}
use Rattle.cxx_core.specs.CoreStmt as cs
use Rattle.step_machine.specs.declared.datum.Datum.{Datum}
use Rattle.step_machine.specs.declared.datum.Datum.TheVariants as datum
use Rattle.step_machine.specs.Data.{bits_of}
use Rattle.step_machine.specs.Setting.{word_number}
use Rattle.step_machine.specs.Item as it
use Rattle.step_machine.specs.Item.{Item, stmts_on}
use Rattle.step_machine.specs.Frame.{Frame, popped, top}
use Rattle.step_machine.specs.Effects as on
use Rattle.step_machine.specs.Effects.{stays}
use Rattle.step_machine.specs.ActValues.{two_of}
use Rattle.step_machine.specs.ActMembers.{is_other, class_now, read_of, put_of}
use Rattle.step_machine.specs.Act.{act}
use Rattle.step_machine.specs.Total.{same}
use Rattle.step_machine.proofs.Same.{same-self}
use Rattle.codec_laws.specs.Solo.{Alone, strays, is_block_item, solo_changed, solo_word, solo_class, solo_reads}
use Rattle.codec_laws.proofs.Steps.{by-act, read-law, put-law}
use Rattle.steady_laws.specs.EntryBlocks as b
use Rattle.steady_laws.specs.Steady.{Steady, IsStuck, IsCounted, to_do, a_count, EnterIsSteady, LeaveIsSteady, RestIsSteady, BlocksAreSteady}

-- ---- numbers

abbrev bits32 : ℕ
bits32 = 2 ^ 32

added : (n : ℕ) → n < 2 ^ 32 → two_of op.Add (a_count n) (a_count 1) ≡ Ok (a_count ((n + 1) % 2 ^ 32))
added n small = grind (arith, ints)

taken : (n : ℕ) → 0 < n → n < 2 ^ 32 → two_of op.Subtract (a_count n) (a_count 1) ≡ Ok (a_count (n - 1))
taken n above small = grind (arith, ints)

not-zero : (n : ℕ) → 0 < n → n < 2 ^ 32 → two_of op.Equal (a_count n) (a_count 0) ≡ Ok (datum.Number (flag false))
not-zero n above small = grind (arith, ints)

-- ---- the word behind others

last-there : (ws : List ℕ) (count : ℕ) → slice_get (ws ++ count ∷ []) (length ws) ≡ Some count
last-there [] count = refl
last-there (w ∷ ws) count = last-there ws count

if-both : {A : Type 0} (p q : Bool) (x y z : A) → p ≡ true → q ≡ true → (if p then (if q then x else y) else z) ≡ x
if-both p q x y z one two = rw (one, two) refl

if-last : {A : Type 0} (p q r : Bool) (x y : A) → r ≡ false → (if p && (q && r) then x else y) ≡ y
if-last true true r x y last = rw last refl
if-last true false r x y last = refl
if-last false q r x y last = refl

not-below : (n : ℕ) → nat_lt n n ≡ false
not-below n = grind arith

module _ (a : Alone) (class : ClassId) (counter words : ℕ) (counted : IsCounted a class counter words) where
  not-other : is_other a.setting class (class_now (solo_class a) (Some a.object)) ≡ false
  not-other = rw (same-self a.object) (rw counted.is_of refl)

  count-there : (ws : List ℕ) → length ws ≡ words → solo_word a ws a.object (word_number a.setting class counter)
      ≡ Some a.count
  count-there ws long =
      ap (solo_word a ws a.object) counted.number ∙ if-both (same a.object a.object) (nat_le a.from (a.from + words)) _
      _ _ (same-self a.object) (le-leb a.from (a.from + words) (omega arith))
      ∙ ap (slice_get (ws ++ a.count ∷ [])) (let d : a.from + words - a.from ≡ length ws = omega arith in d)
      ∙ last-there ws a.count

  store-strays : (fs : List Frame) (ws : List ℕ) (bits : ℕ) → length ws ≡ words
      → solo_changed a fs ws (on.store a.object (a.from + words) bits) ≡ strays
  store-strays fs ws bits long =
      if-last (same a.object a.object) (nat_le a.from (a.from + words)) (nat_lt (a.from + words - a.from) (length ws)) _
      _ (ap (λ k. nat_lt k (length ws)) (let d : a.from + words - a.from ≡ length ws = omega arith in d)
      ∙ not-below (length ws))

module _ (a : Alone) (words : ℕ) where
  -- a step that reads no word of the part
  one-step : (k : ℕ) (i : Item) (f after : Frame) (is : List Item) (target : List Frame) → is_block_item i ≡ true
      → ((ws : List ℕ) → length ws ≡ words → act a.setting (solo_reads a ws) 0 i (record f { items = is })
      ≡ stays after)
      → Steady a words k (after ∷ []) target → Steady a words (suc k) (record f { items = i ∷ is } ∷ []) target
  one-step k i f after is target block does rest =
      (after ∷ [], (λ ws long. by-act a ws i f is block after (does ws long)), rest)

module _ (a : Alone) (at : Place) (class : ClassId) (counter mutex words : ℕ) (f : Frame)
    (counted : IsCounted a class counter words) (own : f.this ≡ Some a.object) where
  abbrev fr : List Datum → List Item → Frame
  fr vs is = record f { values = vs; items = is }

  abbrev count : CoreLeft
  count = b.count at class counter mutex

  -- ---- a value of the counter and a number

  with-count : (o : BinOp) (n : ℕ) (r : Datum) → two_of o (a_count a.count) (a_count n) ≡ Ok r
      → (k : ℕ) (vs : List Datum) (is : List Item) (target : List Frame) → Steady a words k (fr (r ∷ vs) is ∷ []) target
      → Steady a words (suc (suc (suc (suc k)))) (fr vs (it.expr (b.with_count at class counter mutex o n) ∷ is) ∷ [])
      target
  with-count o n r is_r k vs is target rest =
      let one = it.expr (c.read count) in
      let other = it.expr (b.number at class counter mutex n) in
      let last = it.op_two at o in
      one-step a words (suc (suc (suc k))) (it.expr (b.with_count at class counter mutex o n)) (fr vs is)
      (fr vs (one ∷ other ∷ last ∷ is)) is target refl (λ ws long. refl)
      (one-step a words (suc (suc k)) one (fr vs is) (fr (a_count a.count ∷ vs) (other ∷ last ∷ is)) (other ∷ last ∷ is)
      target refl (λ ws long. reads ws long vs (other ∷ last ∷ is))
      (one-step a words (suc k) other (fr (a_count a.count ∷ vs) is) (fr (a_count n ∷ a_count a.count ∷ vs) (last ∷ is))
      (last ∷ is) target refl (λ ws long. refl) (one-step a words k last (fr (a_count n ∷ a_count a.count ∷ vs) is)
      (fr (r ∷ vs) is) is target refl (λ ws long. rw is_r refl) rest)))
    where
      reads : (ws : List ℕ) → length ws ≡ words → (us : List Datum) (js : List Item)
          → act a.setting (solo_reads a ws) 0 (it.expr (c.read count)) (fr us js) ≡ stays (fr (a_count a.count ∷ us) js)
      reads ws long us js =
          ap (λ o. read_of a.setting (solo_reads a ws) at class counter kind.U32 o (fr us js)) own
          ∙ read-law a.setting (solo_reads a ws) at class counter kind.U32 a.object (fr us js) a.count
          (not-other a class counter words counted) (count-there a class counter words counted ws long)

  counts-steady : (o : BinOp) (r : Datum) → two_of o (a_count a.count) (a_count 1) ≡ Ok r
      → (k : ℕ) (vs : List Datum) (is : List Item) (target : List Frame)
      → Steady a words k (fr (r ∷ vs) (it.put count ∷ is) ∷ []) target
      → Steady a words (suc (suc (suc (suc (suc k))))) (fr vs (it.stmt (b.counts at class counter mutex o) ∷ is) ∷ [])
      target
  counts-steady o r is_r k vs is target rest =
      let value = it.expr (b.with_count at class counter mutex o 1) in
      one-step a words (suc (suc (suc (suc k)))) (it.stmt (b.counts at class counter mutex o)) (fr vs is)
      (fr vs (value ∷ it.put count ∷ is)) is target refl (λ ws long. refl)
      (with-count o 1 r is_r k vs (it.put count ∷ is) target rest)

  when-steady : (called : CoreCallee) (k : ℕ) (vs : List Datum) (is : List Item) (target : List Frame)
      → Steady a words k (fr vs is ∷ []) target
      → Steady a words (suc (suc (suc (suc (suc (suc k))))))
      (fr vs (it.stmt (b.when_zero at class counter mutex called) ∷ is) ∷ []) target
  when-steady called k vs is target rest =
      let test = it.expr (b.with_count at class counter mutex op.Equal 0) in
      let chooses = it.branch (cs.more_stmts (cs.run (c.call called c.no_exprs)) cs.no_stmts) cs.no_stmts in
      let no = datum.Number (flag false) in
      one-step a words (suc (suc (suc (suc (suc k))))) (it.stmt (b.when_zero at class counter mutex called)) (fr vs is)
      (fr vs (test ∷ chooses ∷ is)) is target refl (λ ws long. refl)
      (with-count op.Equal 0 no (not-zero a.count counted.above counted.small) (suc k) vs (chooses ∷ is) target
      (one-step a words k chooses (fr (no ∷ vs) is) (fr vs is) is target refl (λ ws long. refl) rest))

  stuck : (items : List Item) → IsStuck a words (to_do (it.put count ∷ items) f)
  stuck items ws long =
      let g : Frame = record f { items = items } in
      let bits = bits_of kind.U32 (top g) in
      let put = ap (λ o. put_of a.setting (solo_reads a ws) at class counter kind.U32 o g) own
      ∙ put-law a.setting (solo_reads a ws) at class counter kind.U32 a.object g a.count
      (not-other a class counter words counted) (count-there a class counter words counted ws long)
      ∙ ap (λ w. on.goes (popped g) (on.change (on.store a.object w bits))) counted.number in
      (rw put refl) ∙ store-strays a class counter words counted (popped g ∷ []) ws bits long

pub blocks-are-steady : BlocksAreSteady
blocks-are-steady =
    record {
      enter = enters;
      leave = leaves;
      rest = rests;
      store_is_stuck =
          λ a at class counter mutex words f items counted own.
          stuck a at class counter mutex words f counted own items;
      release_is_stuck = λ a at class counter mutex words f items ws long. refl;
    }
  where
    enters : (a : Alone) (at : Place) (class : ClassId) (counter mutex words : ℕ) (called : CoreCallee) (f : Frame)
        (items : List Item)
        → IsCounted a class counter words → f.this ≡ Some a.object
        → EnterIsSteady a at class counter mutex words called f items
    enters a at class counter mutex words called f items counted own =
        let on_store = it.put (b.count at class counter mutex) ∷ stmts_on (b.free_lock at class counter mutex) items in
        let sum = a_count ((a.count + 1) % 2 ^ 32) in
        when-steady a at class counter mutex words f counted own called 5 f.values
        (it.stmt (b.counts at class counter mutex op.Add) ∷ stmts_on (b.free_lock at class counter mutex) items) _
        (counts-steady a at class counter mutex words f counted own op.Add sum (added a.count counted.small) 0 f.values
        (stmts_on (b.free_lock at class counter mutex) items)
        (record f { values = sum ∷ f.values; items = on_store } ∷ []) refl)

    leaves : (a : Alone) (at : Place) (class : ClassId) (counter mutex words : ℕ) (called : CoreCallee) (f : Frame)
        (items : List Item)
        → IsCounted a class counter words → f.this ≡ Some a.object
        → LeaveIsSteady a at class counter mutex words called f items
    leaves a at class counter mutex words called f items counted own =
        let rest = stmts_on (b.leave_counted at class counter mutex called) items in
        let less = a_count (a.count - 1) in
        counts-steady a at class counter mutex words f counted own op.Subtract less
        (taken a.count counted.above counted.small) 0 f.values rest
        (record f { values = less ∷ f.values; items = it.put (b.count at class counter mutex) ∷ rest } ∷ []) refl

    rests : (a : Alone) (at : Place) (class : ClassId) (counter mutex words : ℕ) (called : CoreCallee) (f : Frame)
        (items : List Item)
        → IsCounted a class counter words → f.this ≡ Some a.object
        → RestIsSteady a at class counter mutex words called f items
    rests a at class counter mutex words called f items counted own =
        let rest = stmts_on (b.free_lock at class counter mutex) items in
        when-steady a at class counter mutex words f counted own called 0 f.values rest (record f { items = rest } ∷ [])
        refl
