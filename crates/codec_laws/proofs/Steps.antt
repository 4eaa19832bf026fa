-- Steps of blocks that run by themselves.
use Rattle.std.proofs.Common.{◌≡◌, ℕ, zero, suc, ◌+◌, ◌-◌, ◌<◌, Bool, true, false, ◌&&◌, List, [], ◌∷◌, ◌++◌, length, get_or, slice_get, slice_set, Some, Ok, refl, ap, subst, ◌∙◌, arith}
use Rattle.std.specs.Prelude.{nat_le, nat_lt, if◌then◌else◌}
use Rattle.agxx_base.specs.declared.ids.ClassId.{ClassId}
use Rattle.agxx_base.specs.declared.kind.NumKind.{NumKind}
use Rattle.agxx_base.specs.declared.place.Place.{Place}
use Rattle.cxx_tree.specs.declared.operator.BinOp.{BinOp}
use Rattle.cxx_names.specs.declared.types.ValueType.{ValueType}
use Rattle.cxx_core.specs.CoreExpr as c
use Rattle.cxx_core.specs.CoreExpr.{CoreExpr, CoreLeft}
use Rattle.cxx_core.specs.CoreStmt as cs
use Rattle.step_machine.specs.declared.datum.Datum.{Datum}
use Rattle.step_machine.specs.Data.{from_bits_of, bits_of, converted, of_kind}
use Rattle.step_machine.specs.Entries.{entry, with_entry}
use Rattle.step_machine.specs.Setting.{Setting, is_of, word_number}
use Rattle.step_machine.specs.Item as it
use Rattle.step_machine.specs.Item.{Item}
use Rattle.step_machine.specs.Frame.{Frame, pushed, popped, top}
use Rattle.step_machine.specs.Effects as on
use Rattle.step_machine.specs.Effects.{Act, stays}
use Rattle.step_machine.specs.Reads.{Reads}
use Rattle.step_machine.specs.ActValues.{two_of}
use Rattle.step_machine.specs.ActMembers.{or_zero, is_other, class_now, read_of, put_of}
use Rattle.step_machine.specs.Act.{act}
use Rattle.step_machine.specs.Total.{same}
use Rattle.step_machine.proofs.Same.{same-self}
use Rattle.std.proofs.lemmas.Bool.{le-leb, lt-ltb}
use Rattle.std.proofs.lemmas.Option.{slice_get_within, slice_get-get_or}
use Rattle.codec_laws.specs.Solo.{Alone, SoloNext, goes, dies, strays, is_block_item, solo_changed, solo_word, solo_class, solo_reads, solo_step, solo_on, solo}

-- ---- several steps

module _ (step : List Frame → List ℕ → SoloNext) where
  pub at-once : (fs fs' : List Frame) (ws ws' : List ℕ) → step fs ws ≡ goes fs' ws' → solo step 1 fs ws ≡ goes fs' ws'
  at-once fs fs' ws ws' e = rw e refl

  pub one-more : (n : ℕ) (fs fs' : List Frame) (ws ws' : List ℕ) (end : SoloNext) → step fs ws ≡ goes fs' ws'
      → solo step n fs' ws' ≡ end → solo step (suc n) fs ws ≡ end
  one-more n fs fs' ws ws' end e g = ap (solo_on (solo step n)) e ∙ g

  after-one : (r : SoloNext) (n m : ℕ) (fs' : List Frame) (ws' : List ℕ) (end : SoloNext)
      → ((gs : List Frame) (us : List ℕ) → solo step n gs us ≡ goes fs' ws' → solo step (n + m) gs us ≡ end)
      → solo_on (solo step n) r ≡ goes fs' ws' → solo_on (solo step (n + m)) r ≡ end
  after-one (goes gs us) n m fs' ws' end later e = later gs us e
  after-one dies n m fs' ws' end later e = absurd (cc)
  after-one strays n m fs' ws' end later e = absurd (cc)

  pub and-more : (n m : ℕ) (fs fs' : List Frame) (ws ws' : List ℕ) (end : SoloNext)
      → solo step n fs ws ≡ goes fs' ws' → solo step m fs' ws' ≡ end → solo step (n + m) fs ws ≡ end
  and-more zero m fs fs' ws ws' end e g =
      let a : fs' ≡ fs = cc in
      let b : ws' ≡ ws = cc in
      subst (λ k. solo step k fs ws ≡ end) (let d : m ≡ 0 + m = omega arith in d)
      (subst (λ us. solo step m fs us ≡ end) b (subst (λ gs. solo step m gs ws' ≡ end) a g))
  and-more (suc n) m fs fs' ws ws' end e g =
      subst (λ k. solo step k fs ws ≡ end) (let d : suc (n + m) ≡ suc n + m = omega arith in d)
      (after-one (step fs ws) n m fs' ws' end (λ gs us h. and-more n m gs fs' us ws' end h g) e)

-- ---- the part's words

get-more : (ws : List ℕ) (count i bits : ℕ) → slice_get ws i ≡ Some bits → slice_get (ws ++ count ∷ []) i ≡ Some bits
get-more [] count i bits e = absurd (cc)
get-more (w ∷ ws) count zero bits e = e
get-more (w ∷ ws) count (suc i) bits e = get-more ws count i bits e

if-both : {A : Type 0} (b c : Bool) (x y z : A) → b ≡ true → c ≡ true → (if b then (if c then x else y) else z) ≡ x
if-both b c x y z p q = rw (p, q) refl

if-all : {A : Type 0} (b c d : Bool) (x y : A) → b ≡ true → c ≡ true → d ≡ true → (if b && (c && d) then x else y) ≡ x
if-all b c d x y p q r = rw (p, q, r) refl

module _ (a : Alone) where
  pub solo-word-of : (ws : List ℕ) (i bits : ℕ) → slice_get ws i ≡ Some bits → solo_word a ws a.object (a.from + i)
      ≡ Some bits
  solo-word-of ws i bits e =
      if-both (same a.object a.object) (nat_le a.from (a.from + i)) _ _ _ (same-self a.object)
      (le-leb a.from (a.from + i) (omega arith))
      ∙ ap (slice_get (ws ++ a.count ∷ [])) (let d : a.from + i - a.from ≡ i = omega arith in d)
      ∙ get-more ws a.count i bits e

  changed-of : (fs : List Frame) (ws : List ℕ) (i bits : ℕ) → i < length ws
      → solo_changed a fs ws (on.store a.object (a.from + i) bits) ≡ goes fs (slice_set ws i bits)
  changed-of fs ws i bits h =
      if-all (same a.object a.object) (nat_le a.from (a.from + i)) (nat_lt (a.from + i - a.from) (length ws)) _ _
      (same-self a.object) (le-leb a.from (a.from + i) (omega arith))
      (lt-ltb (a.from + i - a.from) (length ws) (omega arith))
      ∙ ap (λ j. goes fs (slice_set ws j bits)) (let d : a.from + i - a.from ≡ i = omega arith in d)

  -- ---- a step, by what its item does

  module _ (ws : List ℕ) (i : Item) (f : Frame) (is : List Item) (block : is_block_item i ≡ true) where
    pub by-act : (f' : Frame) → act a.setting (solo_reads a ws) 0 i (record f { items = is }) ≡ stays f'
        → solo_step a (record f { items = i ∷ is } ∷ []) ws ≡ goes (f' ∷ []) ws
    by-act f' e = rw (block, e) refl

    pub by-store : (f' : Frame) (j bits : ℕ) → j < length ws
        → act a.setting (solo_reads a ws) 0 i (record f { items = is })
        ≡ on.goes f' (on.change (on.store a.object (a.from + j) bits))
        → solo_step a (record f { items = i ∷ is } ∷ []) ws ≡ goes (f' ∷ []) (slice_set ws j bits)
    by-store f' j bits h e = (rw (block, e) refl) ∙ changed-of (f' ∷ []) ws j bits h

-- ---- members, whatever is read

module _ (s : Setting) (r : Reads) (at : Place) (class : ClassId) (name : ℕ) (k : NumKind) (o : ℕ) (f : Frame) where
  pub read-law : (bits : ℕ) → is_other s class (class_now r.class (Some o)) ≡ false
      → r.word o (word_number s class name) ≡ Some bits
      → read_of s r at class name k (Some o) f ≡ stays (pushed (from_bits_of k bits) f)
  read-law bits other word = rw (other, word) refl

  pub put-law : (bits : ℕ) → is_other s class (class_now r.class (Some o)) ≡ false
      → r.word o (word_number s class name) ≡ Some bits
      → put_of s r at class name k (Some o) f ≡ on.goes (popped f)
      (on.change (on.store o (word_number s class name) (bits_of k (top f))))
  put-law bits other word = rw (other, word) refl

-- ---- frames of a function on the object

module _ (a : Alone) (f : Frame) (own : f.this ≡ Some a.object) where
  abbrev pub fr : List (ℕ × Datum) → List Datum → List Item → Frame
  fr ls vs is = record f { locals = ls; values = vs; items = is }

  abbrev th : List (ℕ × Datum) → List Datum → List Item → List Frame
  th ls vs is = fr ls vs is ∷ []

  -- in so many steps an expression comes to this value, which leaves all else
  abbrev pub Evals : ℕ → CoreExpr → List (ℕ × Datum) → List ℕ → Datum → Type 0
  Evals n e ls ws v = (vs : List Datum) (is : List Item) → solo (solo_step a) n (fr ls vs (it.expr e ∷ is) ∷ []) ws
      ≡ goes (fr ls (v ∷ vs) is ∷ []) ws

  -- in so many steps a statement leaves these locals and words
  abbrev pub Runs : ℕ → cs.CoreStmt → List (ℕ × Datum) → List ℕ → List (ℕ × Datum) → List ℕ → Type 0
  Runs n x ls ws ls' ws' = (vs : List Datum) (is : List Item)
      → solo (solo_step a) n (fr ls vs (it.stmt x ∷ is) ∷ []) ws ≡ goes (fr ls' vs is ∷ []) ws'

  pub evals-local : (name : ℕ) (t : ValueType) (ls : List (ℕ × Datum)) (ws : List ℕ) (v : Datum) → entry ls name
      ≡ Some v
      → Evals 1 (c.read (c.variable (c.local name t))) ls ws v
  evals-local name t ls ws v e vs is =
      at-once (solo_step a) (th ls vs (it.expr (c.read (c.variable (c.local name t))) ∷ is)) (th ls (v ∷ vs) is) ws ws
      (by-act a ws (it.expr (c.read (c.variable (c.local name t)))) (fr ls vs is) is refl (fr ls (v ∷ vs) is)
      (ap (λ x. stays (fr ls (or_zero t x ∷ vs) is)) e))

  pub evals-cast : (n : ℕ) (k : NumKind) (t : ValueType) (e : CoreExpr) (ls : List (ℕ × Datum)) (ws : List ℕ)
      (v : Datum) → Evals n e ls ws v
      → Evals (suc (n + 1)) (c.cast k t e) ls ws (of_kind k v)
  evals-cast n k t e ls ws v h vs is =
      one-more (solo_step a) (n + 1) (th ls vs (it.expr (c.cast k t e) ∷ is))
      (th ls vs (it.expr e ∷ it.cast k ∷ is)) ws ws _ refl
      (and-more (solo_step a) n 1 (th ls vs (it.expr e ∷ it.cast k ∷ is)) (th ls (v ∷ vs) (it.cast k ∷ is)) ws ws _
      (h vs (it.cast k ∷ is))
      (at-once (solo_step a) (th ls (v ∷ vs) (it.cast k ∷ is)) (th ls (of_kind k v ∷ vs) is) ws ws refl))

  pub evals-binary : (n m : ℕ) (at : Place) (o : BinOp) (t u : ValueType) (x y : CoreExpr) (ls : List (ℕ × Datum))
      (ws : List ℕ) (v w r : Datum)
      → Evals n x ls ws v → Evals m y ls ws w → two_of o v w ≡ Ok r
      → Evals (suc (n + (m + 1))) (c.binary at o t u x y) ls ws r
  evals-binary n m at o t u x y ls ws v w r h g e vs is =
      one-more (solo_step a) (n + (m + 1)) (th ls vs (it.expr (c.binary at o t u x y) ∷ is))
      (th ls vs (it.expr x ∷ it.expr y ∷ it.op_two at o ∷ is)) ws ws _ refl
      (and-more (solo_step a) n (m + 1) (th ls vs (it.expr x ∷ it.expr y ∷ it.op_two at o ∷ is))
      (th ls (v ∷ vs) (it.expr y ∷ it.op_two at o ∷ is)) ws ws _ (h vs (it.expr y ∷ it.op_two at o ∷ is))
      (and-more (solo_step a) m 1 (th ls (v ∷ vs) (it.expr y ∷ it.op_two at o ∷ is))
      (th ls (w ∷ v ∷ vs) (it.op_two at o ∷ is)) ws ws _ (g (v ∷ vs) (it.op_two at o ∷ is))
      (at-once (solo_step a) (th ls (w ∷ v ∷ vs) (it.op_two at o ∷ is)) (th ls (r ∷ vs) is) ws ws
      (by-act a ws (it.op_two at o) (fr ls (w ∷ v ∷ vs) is) is refl (fr ls (r ∷ vs) is) (rw e refl)))))

  pub runs-declare : (n : ℕ) (name : ℕ) (t : ValueType) (e : CoreExpr) (ls : List (ℕ × Datum)) (ws : List ℕ)
      (v : Datum) → Evals n e ls ws v
      → Runs (suc (n + 1)) (cs.declare name t (Some (cs.value e))) ls ws (with_entry ls name (converted t v)) ws
  runs-declare n name t e ls ws v h vs is =
      one-more (solo_step a) (n + 1) (th ls vs (it.stmt (cs.declare name t (Some (cs.value e))) ∷ is))
      (th ls vs (it.expr e ∷ it.bind name t ∷ is)) ws ws _ refl
      (and-more (solo_step a) n 1 (th ls vs (it.expr e ∷ it.bind name t ∷ is))
      (th ls (v ∷ vs) (it.bind name t ∷ is)) ws ws _ (h vs (it.bind name t ∷ is))
      (at-once (solo_step a) (th ls (v ∷ vs) (it.bind name t ∷ is))
      (th (with_entry ls name (converted t v)) vs is) ws ws refl))

  -- ---- members of the part

  module _ (at : Place) (class : ClassId) (of : is_of a.setting (Some a.live) (Some class) ≡ true) (name : ℕ)
      (k : NumKind) (i : ℕ) (number : word_number a.setting class name ≡ a.from + i) where
    not-other : is_other a.setting class (class_now (solo_class a) (Some a.object)) ≡ false
    not-other = rw (same-self a.object) (rw of refl)

    word-there : (ws : List ℕ) (bits : ℕ) → slice_get ws i ≡ Some bits
        → solo_word a ws a.object (word_number a.setting class name) ≡ Some bits
    word-there ws bits e = ap (solo_word a ws a.object) number ∙ solo-word-of a ws i bits e

    pub evals-member : (ls : List (ℕ × Datum)) (ws : List ℕ) (bits : ℕ) → slice_get ws i ≡ Some bits
        → Evals 1 (c.read (c.member at c.own class name k)) ls ws (from_bits_of k bits)
    evals-member ls ws bits e vs is =
        at-once (solo_step a) (th ls vs (it.expr (c.read (c.member at c.own class name k)) ∷ is))
        (th ls (from_bits_of k bits ∷ vs) is) ws ws
        (by-act a ws (it.expr (c.read (c.member at c.own class name k))) (fr ls vs is) is refl
        (fr ls (from_bits_of k bits ∷ vs) is)
        (ap (λ o. read_of a.setting (solo_reads a ws) at class name k o (fr ls vs is)) own
        ∙ read-law a.setting (solo_reads a ws) at class name k a.object (fr ls vs is) bits not-other
        (word-there ws bits e)))

    abbrev puts : Item
    puts = it.put (c.member at c.own class name k)

    assign-over : (n : ℕ) (e : CoreExpr) (ls : List (ℕ × Datum)) (ws : List ℕ) (v : Datum) (old : ℕ)
        → Evals n e ls ws v → slice_get ws i ≡ Some old
        → Runs (suc (n + 1)) (cs.assign (c.member at c.own class name k) e) ls ws ls (slice_set ws i (bits_of k v))
    assign-over n e ls ws v old h g vs is =
        one-more (solo_step a) (n + 1) (th ls vs (it.stmt (cs.assign (c.member at c.own class name k) e) ∷ is))
        (th ls vs (it.expr e ∷ puts ∷ is)) ws ws _ refl
        (and-more (solo_step a) n 1 (th ls vs (it.expr e ∷ puts ∷ is)) (th ls (v ∷ vs) (puts ∷ is)) ws ws _
        (h vs (puts ∷ is))
        (at-once (solo_step a) (th ls (v ∷ vs) (puts ∷ is)) (th ls vs is) ws (slice_set ws i (bits_of k v))
        (by-store a ws puts (fr ls (v ∷ vs) is) is refl (fr ls vs is) i (bits_of k v) (slice_get_within ws i old g)
        (ap (λ o. put_of a.setting (solo_reads a ws) at class name k o (fr ls (v ∷ vs) is)) own
        ∙ put-law a.setting (solo_reads a ws) at class name k a.object (fr ls (v ∷ vs) is) old not-other
        (word-there ws old g)
        ∙ ap (λ w. on.goes (fr ls vs is) (on.change (on.store a.object w (bits_of k v)))) number))))

    -- with the bits that come of the value
    pub runs-assign : (n : ℕ) (e : CoreExpr) (ls : List (ℕ × Datum)) (ws : List ℕ) (v : Datum) (bits : ℕ)
        → Evals n e ls ws v → i < length ws → bits_of k v ≡ bits
        → Runs (suc (n + 1)) (cs.assign (c.member at c.own class name k) e) ls ws ls (slice_set ws i bits)
    runs-assign n e ls ws v bits h l b vs is =
        assign-over n e ls ws v (get_or ws i 0) h (slice_get-get_or ws i 0 l) vs is
        ∙ ap (λ x. goes (th ls vs is) (slice_set ws i x)) b
