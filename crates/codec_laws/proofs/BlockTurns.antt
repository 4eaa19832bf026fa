-- Steps of blocks among other threads.
use Rattle.std.proofs.Common.{◌≡◌, ℕ, suc, ◌+◌, ◌-◌, ◌<◌, ◌≤◌, Bool, true, false, ◌&&◌, List, [], ◌∷◌, ◌++◌, map, length, get_or, slice_get, slice_set, Some, None, refl, sym, ap, ap₂, subst, ◌∙◌, arith}
use Rattle.std.specs.Prelude.{nat_le, nat_lt, if◌then◌else◌}
use Rattle.std.proofs.lemmas.Bool.{leb-true, ltb-true}
use Rattle.std.proofs.lemmas.Option.{slice_get_within, slice_get-get_or}
use Rattle.agxx_base.specs.declared.ids.ClassId.{ClassId}
use Rattle.agxx_base.specs.declared.place.Place.{Place}
use Rattle.cxx_core.specs.CoreExpr as c
use Rattle.cxx_core.specs.CoreExpr.{CoreExpr}
use Rattle.cxx_core.specs.CoreStmt as cs
use Rattle.cxx_core.specs.CoreStmt.{CoreStmt}
use Rattle.cxx_core.specs.CoreProgram.{CoreWord}
use Rattle.step_machine.specs.declared.outcome.State.TheVariants as state
use Rattle.step_machine.specs.Setting.{word_number}
use Rattle.step_machine.specs.Item as it
use Rattle.step_machine.specs.Item.{Item}
use Rattle.step_machine.specs.Frame.{Frame}
use Rattle.step_machine.specs.Effects as on
use Rattle.step_machine.specs.Effects.{Act, did, stays, stops}
use Rattle.step_machine.specs.Inserted.{is_inserted}
use Rattle.step_machine.specs.Act.{act}
use Rattle.step_machine.specs.Turn.{Thread, settled}
use Rattle.step_machine.specs.Total.{Total, same, reads, off_thread, after_of, next_if, turn_of, landed_of, next_of}
use Rattle.step_machine.proofs.Same.{same-eq, same-self}
use Rattle.codec_laws.specs.Solo.{Alone, goes, dies, strays, is_block_item, is_block_expr, is_block_stmt, solo_word, solo_class, solo_reads, solo_changed, solo_turn, solo_step}
use Rattle.codec_laws.specs.Blocks.{Copied, first_of, second_of, part_words, repair_block, renew_block}
use Rattle.codec_laws.specs.BlockRuns.{IsLaid}
use Rattle.codec_laws.specs.OfPart.{PartExpr, PartStmt, PartStmts, PartItem, IsWord}
use Rattle.codec_laws.specs.BlockTurns.{StandsIn, with_frames, BlockTurn, reads_only, stores_one, IsLocal, BlocksTurn}
use Rattle.codec_laws.proofs.Lists.{get-front, get-back, more-seam}
use Rattle.codec_laws.proofs.Steps.{solo-word-of}
use Rattle.codec_laws.proofs.PartActs.{Acts, goes_on, stores, stops_at, halts, acts, acts-same}

-- ---- such items are items of blocks

module _ (Names : ClassId → ℕ → Type 0) where
  block-expr : (e : CoreExpr) → PartExpr Names e → is_block_expr e ≡ true
  block-expr (c.number v) h = refl
  block-expr (c.read (c.variable (c.local name t))) h = refl
  block-expr (c.read (c.variable (c.global is_global name t))) h = absurd h
  block-expr (c.read (c.member at c.own class name k)) h = refl
  block-expr (c.read (c.member at c.by_this class name k)) h = absurd h
  block-expr (c.read (c.member at (c.by_object other other_class) class name k)) h = absurd h
  block-expr (c.read (c.member at (c.by_pointer v) class name k)) h = absurd h
  block-expr (c.unary at o t x) h = refl
  block-expr (c.binary at o t u x y) h = refl
  block-expr (c.cast k t x) h = refl
  block-expr e h = absurd h

  block-stmt : (x : CoreStmt) → PartStmt Names x → is_block_stmt x ≡ true
  block-stmt (cs.declare name t (Some (cs.value e))) h = refl
  block-stmt (cs.assign l e) h = refl
  block-stmt (cs.branch e x y) h = refl
  block-stmt cs.abort h = refl
  block-stmt x h = absurd h

  block-item : (i : Item) → PartItem Names i → is_block_item i ≡ true
  block-item (it.stmt x) h = block-stmt x h
  block-item (it.expr e) h = block-expr e h
  block-item (it.op_one at o) h = refl
  block-item (it.op_two at o) h = refl
  block-item (it.cast k) h = refl
  block-item (it.bind name t) h = refl
  block-item (it.put (c.variable (c.local name t))) h = refl
  block-item (it.put (c.variable (c.global is_global name t))) h = absurd h
  block-item (it.put (c.member at c.own class name k)) h = refl
  block-item (it.put (c.member at c.by_this class name k)) h = absurd h
  block-item (it.put (c.member at (c.by_object other other_class) class name k)) h = absurd h
  block-item (it.put (c.member at (c.by_pointer v) class name k)) h = absurd h
  block-item (it.branch x y) h = refl
  block-item i h = absurd h

-- ---- a store that goes on is one in the part

record Stored (a : Alone) (fs : List Frame) (ws : List ℕ) (o w bits : ℕ) (after : List Frame)
    (ws_after : List ℕ) : Type 0 where
  object : o ≡ a.object
  place : ℕ
  within : place < length ws
  word : w ≡ a.from + place
  frames : after ≡ fs
  words : ws_after ≡ slice_set ws place bits

stored-in : (a : Alone) (fs : List Frame) (ws : List ℕ) (o w bits : ℕ) (after : List Frame) (ws_after : List ℕ)
    → solo_changed a fs ws (on.store o w bits) ≡ goes after ws_after
    → Stored a fs ws o w bits after ws_after
stored-in a fs ws o w bits after ws_after = by (same o a.object) (nat_le a.from w)
    (nat_lt (w - a.from) (length ws)) refl refl refl
  where
    by : (p q r : Bool) → same o a.object ≡ p → nat_le a.from w ≡ q → nat_lt (w - a.from) (length ws) ≡ r
        → (if p && (q && r) then goes fs (slice_set ws (w - a.from) bits) else strays) ≡ goes after ws_after
        → Stored a fs ws o w bits after ws_after
    by true true true p q r e = record {
      object = same-eq o a.object p;
      place = w - a.from;
      within = ltb-true (w - a.from) (length ws) r;
      word = (let l : a.from ≤ w = leb-true a.from w q in omega arith);
      frames = cc;
      words = cc;
    }
    by true true false p q r e = absurd (cc)
    by true false r' p q r e = absurd (cc)
    by false q' r' p q r e = absurd (cc)

-- ---- the machine's turn

module _ (m : Total) (t : ℕ) (f : Frame) (i : Item) (is : List Item) (rest : Thread)
    (running : m.state ≡ state.Running) (frames : m.frames t ≡ record f { items = i ∷ is } ∷ rest) where
  next-by : (x : Act) → act m.setting (reads (with_frames t rest m) t) t i (record f { items = is }) ≡ x
      → next_of m t ≡ landed_of m t (is_inserted m.setting i (record f { items = is }))
      (let d = did (record f { items = is }) x in settled i rest d.0 d.1)
  next-by x e =
      ap (λ s. next_if s m t) running ∙ ap (λ fs. turn_of m t (off_thread fs)) frames
      ∙ ap (λ y. landed_of m t (is_inserted m.setting i (record f { items = is }))
      (let d = did (record f { items = is }) y in settled i rest d.0 d.1)) e

module _ (a : Alone) (class : ClassId) (words : List CoreWord) (m : Total) (t : ℕ) (f : Frame) (i : Item)
    (is : List Item) (rest : Thread) (ws : List ℕ) (after : List Frame) (ws_after : List ℕ)
    (laid : IsLaid a class words) (long : length ws ≡ length words) (stands : StandsIn a m ws)
    (own : f.this ≡ Some a.object) (part : PartItem (IsWord class words) i)
    (frames : m.frames t ≡ record f { items = i ∷ is } ∷ rest)
    (step : solo_step a (record f { items = i ∷ is } ∷ []) ws ≡ goes after ws_after) where
  abbrev f0 : Frame
  f0 = record f { items = is }

  abbrev Names : ClassId → ℕ → Type 0
  Names = IsWord class words

  class-same : m.class a.object ≡ solo_class a a.object
  class-same = stands.live ∙ ap (λ b. if b then Some a.live else None) (sym (same-self a.object))

  word-same : (owner : ClassId) (name : ℕ) → Names owner name → m.word a.object (word_number a.setting owner name)
      ≡ solo_word a ws a.object (word_number a.setting owner name)
  word-same owner name h =
      let there : word_number a.setting owner name ≡ a.from + h.place =
      ap₂ (λ o n. word_number a.setting o n) h.owner_is (sym h.name_is) ∙ laid.numbers h.place h.word h.word_is in
      let in-words : h.place < length words = slice_get_within words h.place h.word h.word_is in
      let found : slice_get ws h.place ≡ Some (get_or ws h.place 0) = slice_get-get_or ws h.place 0 (omega arith) in
      ap (m.word a.object) there ∙ stands.words h.place (get_or ws h.place 0) found
      ∙ sym (solo-word-of a ws h.place (get_or ws h.place 0) found) ∙ ap (solo_word a ws a.object) (sym there)

  machine-act : act m.setting (reads (with_frames t rest m) t) t i f0 ≡ act a.setting (solo_reads a ws) 0 i f0
  machine-act =
      ap (λ s. act s (reads (with_frames t rest m) t) t i f0) stands.setting
      ∙ acts-same Names a.setting (reads (with_frames t rest m) t)
      (solo_reads a ws) t 0 a.object class-same word-same i f0 own part

  solo-by : (x : Act) → act a.setting (solo_reads a ws) 0 i f0 ≡ x
      → solo_turn a ws (let d = did f0 x in settled i [] d.0 d.1) ≡ goes after ws_after
  solo-by x e =
      ap (λ y. solo_turn a ws (let d = did f0 y in settled i [] d.0 d.1)) (sym e)
      ∙ ap (λ b. if b then solo_turn a ws (let d = did f0
      (act a.setting (solo_reads a ws) 0 i f0) in settled i [] d.0 d.1) else strays)
      (sym (block-item Names i part)) ∙ step

  by-act : Acts Names f0 (act a.setting (solo_reads a ws) 0 i f0) → IsLocal Names f is after
      × BlockTurn a m t rest ws after ws_after
  by-act (goes_on first g e items of_part this) =
      let s : goes (g ∷ []) ws ≡ goes after ws_after = solo-by (stays g) e in
      let only : after ≡ g ∷ [] = cc in
      let n : (next_of m t).0 ≡ after_of t on.went (with_frames t (g ∷ rest) m) = ap (λ x. x.0)
      (next-by m t f i is rest stands.running frames (stays g) (machine-act ∙ e)) in (
        record { frame = g; only = only; first = first; items = items; of_part = of_part; this = this },
        reads_only (n ∙ ap (λ fs. after_of t on.went (with_frames t (fs ++ rest) m)) (sym only)) (cc),
      )
  by-act (stores g o w bits e items this) =
      let s = stored-in a (g ∷ []) ws o w bits after ws_after (solo-by (on.goes g (on.change (on.store o w bits))) e) in
      let n : (next_of m t).0 ≡ after_of t (on.changed (on.store o w bits)) (with_frames t (g ∷ rest) m) =
      ap (λ x. x.0) (next-by m t f i is rest stands.running frames (on.goes g (on.change (on.store o w bits)))
      (machine-act ∙ e)) in (
        record { frame = g; only = s.frames; first = []; items = items; of_part = tt; this = this },
        stores_one s.place bits s.within
            (n ∙ ap₂ (λ p q. after_of t (on.changed (on.store p q bits)) (with_frames t (g ∷ rest) m)) s.object s.word
            ∙ ap (λ fs. after_of t (on.changed (on.store a.object (a.from + s.place) bits))
            (with_frames t (fs ++ rest) m)) (sym s.frames)) s.words,
      )
  by-act (stops_at cause at e) = absurd (let s : strays ≡ goes after ws_after = solo-by (stops cause at) e in cc)
  by-act (halts g o owner e) = absurd (let s : dies
      ≡ goes after ws_after = solo-by (on.goes g (on.halt o owner)) e in cc)

  turns : IsLocal Names f is after × BlockTurn a m t rest ws after ws_after
  turns = by-act (acts Names a.setting (solo_reads a ws) 0 i f0 part)

-- ---- the blocks of two copies

module _ (at : Place) (class : ClassId) where
  -- the words of a part among others
  record AmongWords (words : List CoreWord) (m : Copied) : Type 0 where
    member : IsWord class words class m.member.name
    first : IsWord class words class m.first
    second : IsWord class words class m.second

  abbrev AllAmong : List CoreWord → List Copied → Type 0
  AllAmong words [] = Unit {0}
  AllAmong words (m ∷ ms) = AmongWords words m × AllAmong words ms

  repair-local : (words : List CoreWord) (ms : List Copied) → AllAmong words ms
      → PartStmts (IsWord class words) (repair_block at class ms)
  repair-local words [] h = tt
  repair-local words (m ∷ ms) h =
      let r = h.0 in (
        ((((r.member, r.first), (r.member, r.second)), (r.first, r.second))),
        ((r.member, tt), ((r.first, tt), ((r.second, tt), repair-local words ms h.1))),
      )

  renew-local : (words : List CoreWord) (ms : List Copied) → AllAmong words ms
      → PartStmts (IsWord class words) (renew_block at class ms)
  renew-local words [] h = tt
  renew-local words (m ∷ ms) h = let r = h.0 in ((r.first, r.member), ((r.second, r.member), renew-local words ms h.1))

  -- ---- each member and copy is a word

  pub before-others : (b d : List CoreWord) (name : ℕ) → IsWord class b class name → IsWord class (b ++ d) class name
  before-others b d name h = record {
    owner_is = refl;
    place = h.place;
    word = h.word;
    word_is = get-front b d
        h.place h.word h.word_is;
    name_is = h.name_is;
  }

  pub behind : (a b : List CoreWord) (name : ℕ) → IsWord class b class name → IsWord class (a ++ b) class name
  behind a b name h =
      record {
        owner_is = refl;
        place = length a + h.place;
        word = h.word;
        word_is = get-back a b
            (length a) h.place refl ∙ h.word_is;
        name_is = h.name_is;
      }

  pub here : (w : CoreWord) (ws : List CoreWord) → IsWord class (w ∷ ws) class w.name
  here w ws = record { owner_is = refl; place = 0; word = w; word_is = refl; name_is = refl }

  module _ (g : Copied → CoreWord) where
    -- of the list's end
    each-word : (before ms : List Copied) (m : Copied) → IsWord class (map g (before ++ m ∷ ms)) class (g m).name
    each-word [] ms m = here (g m) (map g ms)
    each-word (b ∷ before) ms m =
        let h = each-word before ms m in
        record { owner_is = refl; place = suc h.place; word = h.word; word_is = h.word_is; name_is = h.name_is }

  among-from : (before ms all : List Copied) → all ≡ before ++ ms → AllAmong (part_words all) ms
  among-from before [] all e = tt
  among-from before (m ∷ ms) all e = (
    subst (λ l. AmongWords (part_words l) m) (sym e) (record {
      member = before-others (map (λ (q : Copied). q.member) (before ++ m ∷ ms))
          (map first_of (before ++ m ∷ ms) ++ map second_of (before ++ m ∷ ms)) m.member.name
          (each-word (λ (q : Copied). q.member) before ms m);
      first = behind (map (λ (q : Copied). q.member) (before ++ m ∷ ms))
          (map first_of (before ++ m ∷ ms) ++ map second_of (before ++ m ∷ ms)) m.first
          (before-others (map first_of (before ++ m ∷ ms)) (map second_of (before ++ m ∷ ms)) m.first
          (each-word first_of before ms m));
      second = behind (map (λ (q : Copied). q.member) (before ++ m ∷ ms))
          (map first_of (before ++ m ∷ ms) ++ map second_of (before ++ m ∷ ms)) m.second
          (behind (map first_of (before ++ m ∷ ms)) (map second_of (before ++ m ∷ ms)) m.second
          (each-word second_of before ms m));
    }),
    among-from (before ++ m ∷ []) ms all (e ∙ sym (more-seam before ms m)),
  )

pub blocks-turn : BlocksTurn
blocks-turn = record {
  repair_is_local = λ at class ms. repair-local at class (part_words ms) ms (among-from at class [] ms ms refl);
  renew_is_local = λ at class ms. renew-local at class (part_words ms) ms (among-from at class [] ms ms refl);
  turns = turns;
}
