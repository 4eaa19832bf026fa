-- Lists of statements that run by themselves: declarations of new locals, and assignments to words one behind another.
use Rattle.std.proofs.Common.{◌≡◌, ◌≢◌, ℕ, suc, ◌+◌, ◌*◌, ◌^◌, ◌<◌, ◌≤◌, true, Some, List, [], ◌∷◌, ◌++◌, map, length, refl, sym, ap, subst, ◌∙◌, arith, length-append}
use Rattle.std.specs.Prelude.{if◌then◌else◌}
use Rattle.std.proofs.Common.{ne_eqb}
use Rattle.agxx_base.specs.declared.ids.ClassId.{ClassId}
use Rattle.agxx_base.specs.declared.place.Place.{Place}
use Rattle.cxx_arith.specs.Kinds.{width}
use Rattle.cxx_core.specs.CoreExpr.{CoreExpr}
use Rattle.cxx_core.specs.CoreStmt.{CoreStmt}
use Rattle.cxx_core.specs.CoreProgram.{CoreWord}
use Rattle.cxx_core.specs.StmtView.{listed_stmts}
use Rattle.step_machine.specs.declared.datum.Datum.{Datum}
use Rattle.step_machine.specs.Entries.{entry, with_entry}
use Rattle.step_machine.specs.Setting.{is_of, word_number}
use Rattle.step_machine.specs.Item.{Item, stmt, stmts_on}
use Rattle.step_machine.specs.Frame.{Frame}
use Rattle.step_machine.proofs.Same.{same-self, nat-same, entry-with}
use Rattle.codec_laws.specs.Solo.{Alone, goes, dies, solo, solo_step}
use Rattle.codec_laws.proofs.Lists.{set-seam, more-seam, length-more}
use Rattle.codec_laws.proofs.Each.{Each, Apart}
use Rattle.codec_laws.proofs.Steps.{and-more, fr, runs-declare, runs-assign}
use Rattle.hamming_blocks.specs.Blocks as b
use Rattle.hamming_blocks.specs.Blocks.{word_type}
use Rattle.hamming_blocks.proofs.Words.{word, word-stays, put-bits}
use Rattle.hamming_blocks.proofs.Gives.{Holds, Gives}

-- ---- locals that were declared before, in groups

abbrev pub Known : Type 0
Known = List (List ℕ × List ℕ)

abbrev pub AllHold : List (ℕ × Datum) → Known → Type 0
AllHold ls [] = Unit {0}
AllHold ls (g ∷ gs) = Holds ls g.0 g.1 × AllHold ls gs

-- a name is none of theirs
abbrev pub IsNew : Known → ℕ → Type 0
IsNew gs name = Each (λ (g : List ℕ × List ℕ). Each (λ n. n ≢ name) g.0) gs

pub record AreNew (gs : Known) (names : List ℕ) : Type 0 where
  pub new : Each (IsNew gs) names
  pub apart : Apart names

-- ---- names that are new

pub each-front : {X : Type 0} (P : X → Type 0) (xs ys : List X) → Each P (xs ++ ys) → Each P xs
each-front P [] ys h = tt
each-front P (x ∷ xs) ys h = (h.0, each-front P xs ys h.1)

pub each-back : {X : Type 0} (P : X → Type 0) (xs ys : List X) → Each P (xs ++ ys) → Each P ys
each-back P [] ys h = h
each-back P (x ∷ xs) ys h = each-back P xs ys h.1

apart-front : {X : Type 0} (xs ys : List X) → Apart (xs ++ ys) → Apart xs
apart-front [] ys h = tt
apart-front (x ∷ xs) ys h = (each-front (λ y. x ≢ y) xs ys h.0, apart-front xs ys h.1)

pub apart-back : {X : Type 0} (xs ys : List X) → Apart (xs ++ ys) → Apart ys
apart-back [] ys h = h
apart-back (x ∷ xs) ys h = apart-back xs ys h.1

pub new-front : (gs : Known) (xs ys : List ℕ) → AreNew gs (xs ++ ys) → AreNew gs xs
new-front gs xs ys h = record {
  new = each-front (IsNew gs) xs ys h.new;
  apart = apart-front xs ys h.apart;
}

cross : (xs ys : List ℕ) → Apart (xs ++ ys) → Each (λ y. Each (λ x. x ≢ y) xs) ys
cross [] ys h = nothing ys
  where
    nothing : (ys : List ℕ) → Each (λ y. Each (λ x. x ≢ y) []) ys
    nothing [] = tt
    nothing (y ∷ ys) = (tt, nothing ys)
cross (x ∷ xs) ys h = both ys (each-back (λ y. x ≢ y) xs ys h.0) (cross xs ys h.1)
  where
    both : (ys : List ℕ) → Each (λ y. x ≢ y) ys → Each (λ y. Each (λ z. z ≢ y) xs) ys
        → Each (λ y. Each (λ z. z ≢ y) (x ∷ xs)) ys
    both [] p q = tt
    both (y ∷ ys) p q = ((p.0, q.0), both ys p.1 q.1)

pub new-back : (gs : Known) (xs vs ys : List ℕ) → AreNew gs (xs ++ ys) → AreNew ((xs, vs) ∷ gs) ys
new-back gs xs vs ys h = record {
  new = both ys (cross xs ys h.apart) (each-back (IsNew gs) xs ys h.new);
  apart = apart-back xs ys h.apart;
}
  where
    both : (ys : List ℕ) → Each (λ y. Each (λ x. x ≢ y) xs) ys → Each (IsNew gs) ys
        → Each (IsNew ((xs, vs) ∷ gs)) ys
    both [] p q = tt
    both (y ∷ ys) p q = ((p.0, q.0), both ys p.1 q.1)

pub new-to-none : (names : List ℕ) → Apart names → AreNew [] names
new-to-none names h = record { new = nothing names; apart = h }
  where
    nothing : (names : List ℕ) → Each (IsNew []) names
    nothing [] = tt
    nothing (n ∷ names) = (tt, nothing names)

-- ---- a declaration keeps what others hold

entry-there : (ls : List (ℕ × Datum)) (name : ℕ) (v : Datum) → entry (with_entry ls name v) name ≡ Some v
entry-there ls name v = entry-with ls name v name ∙ ap (λ b. if b then Some v else entry ls name) (same-self name)

entry-other : (ls : List (ℕ × Datum)) (name other : ℕ) (v : Datum) → other ≢ name
    → entry (with_entry ls name v) other ≡ entry ls other
entry-other ls name other v n =
    entry-with ls name v other
    ∙ ap (λ b. if b then Some v else entry ls other) (sym (nat-same other name) ∙ ne_eqb other name n)

holds-other : (ls : List (ℕ × Datum)) (name : ℕ) (v : Datum) (names vs : List ℕ) → Each (λ n. n ≢ name) names
    → Holds ls names vs → Holds (with_entry ls name v) names vs
holds-other ls name v [] [] n h = tt
holds-other ls name v [] (w ∷ vs) n h = absurd h
holds-other ls name v (other ∷ names) [] n h = absurd h
holds-other ls name v (other ∷ names) (w ∷ vs) n h =
    (entry-other ls name other v n.0 ∙ h.0, h.1, holds-other ls name v names vs n.1 h.2)

all-hold-other : (ls : List (ℕ × Datum)) (name : ℕ) (v : Datum) (gs : Known) → IsNew gs name → AllHold ls gs
    → AllHold (with_entry ls name v) gs
all-hold-other ls name v [] n h = tt
all-hold-other ls name v (g ∷ gs) n h =
    (holds-other ls name v g.0 g.1 n.0 h.0, all-hold-other ls name v gs n.1 h.1)

stmts-both : (ss ts : List CoreStmt) (is : List Item)
    → stmts_on (listed_stmts (ss ++ ts)) is ≡ stmts_on (listed_stmts ss) (stmts_on (listed_stmts ts) is)
stmts-both [] ts is = refl
stmts-both (s ∷ ss) ts is = ap (λ l. stmt s ∷ l) (stmts-both ss ts is)

module _ (a : Alone) (f : Frame) (own-object : f.this ≡ Some a.object) where
  abbrev pub th : List (ℕ × Datum) → List Datum → List Item → List Frame
  th ls vs is = fr a f own-object ls vs is ∷ []

  -- in at most so many steps statements leave these locals and words
  abbrev pub RunsAll : ℕ → List CoreStmt → List (ℕ × Datum) → List ℕ → List (ℕ × Datum) → List ℕ → Type 0
  RunsAll most ss ls ws ls' ws' =
      (n : ℕ) × (n ≤ most) × ((vs : List Datum) (is : List Item)
      → solo (solo_step a) n (th ls vs (stmts_on (listed_stmts ss) is)) ws ≡ goes (th ls' vs is) ws')

  -- in at most so many steps statements halt
  abbrev pub HaltsAll : ℕ → List CoreStmt → List (ℕ × Datum) → List ℕ → Type 0
  HaltsAll most ss ls ws =
      (n : ℕ) × (n ≤ most) × ((vs : List Datum) (is : List Item)
      → solo (solo_step a) n (th ls vs (stmts_on (listed_stmts ss) is)) ws ≡ dies)

  pub runs-none : (ls : List (ℕ × Datum)) (ws : List ℕ) → RunsAll 0 [] ls ws ls ws
  runs-none ls ws = (0, omega arith, λ vs is. refl)

  pub runs-both : (m n : ℕ) (ss ts : List CoreStmt) (ls ls' ls'' : List (ℕ × Datum)) (ws ws' ws'' : List ℕ)
      → RunsAll m ss ls ws ls' ws' → RunsAll n ts ls' ws' ls'' ws'' → RunsAll (m + n) (ss ++ ts) ls ws ls'' ws''
  runs-both m n ss ts ls ls' ls'' ws ws' ws'' g h = (
    g.0 + h.0,
    omega (arith, g.1, h.1),
    λ vs is. ap (λ l. solo (solo_step a) (g.0 + h.0) (th ls vs l) ws) (stmts-both ss ts is)
        ∙ and-more (solo_step a) g.0 h.0 (th ls vs (stmts_on (listed_stmts ss) (stmts_on (listed_stmts ts) is)))
        (th ls' vs (stmts_on (listed_stmts ts) is)) ws ws' (goes (th ls'' vs is) ws'')
        (g.2 vs (stmts_on (listed_stmts ts) is)) (h.2 vs is),
  )

  pub halts-later : (m n : ℕ) (ss ts : List CoreStmt) (ls ls' : List (ℕ × Datum)) (ws ws' : List ℕ)
      → RunsAll m ss ls ws ls' ws' → HaltsAll n ts ls' ws' → HaltsAll (m + n) (ss ++ ts) ls ws
  halts-later m n ss ts ls ls' ws ws' g h = (
    g.0 + h.0,
    omega (arith, g.1, h.1),
    λ vs is. ap (λ l. solo (solo_step a) (g.0 + h.0) (th ls vs l) ws) (stmts-both ss ts is)
        ∙ and-more (solo_step a) g.0 h.0 (th ls vs (stmts_on (listed_stmts ss) (stmts_on (listed_stmts ts) is)))
        (th ls' vs (stmts_on (listed_stmts ts) is)) ws ws' dies
        (g.2 vs (stmts_on (listed_stmts ts) is)) (h.2 vs is),
  )

  pub runs-within : (m n : ℕ) (ss : List CoreStmt) (ls ls' : List (ℕ × Datum)) (ws ws' : List ℕ) → m ≤ n
      → RunsAll m ss ls ws ls' ws' → RunsAll n ss ls ws ls' ws'
  runs-within m n ss ls ls' ws ws' l g = (g.0, omega (arith, g.1), g.2)

  pub halts-within : (m n : ℕ) (ss : List CoreStmt) (ls : List (ℕ × Datum)) (ws : List ℕ) → m ≤ n
      → HaltsAll m ss ls ws → HaltsAll n ss ls ws
  halts-within m n ss ls ws l g = (g.0, omega (arith, g.1), g.2)

  pub halts-first : (m : ℕ) (ss ts : List CoreStmt) (ls : List (ℕ × Datum)) (ws : List ℕ)
      → HaltsAll m ss ls ws → HaltsAll m (ss ++ ts) ls ws
  halts-first m ss ts ls ws h = (
    h.0,
    h.1,
    λ vs is. ap (λ l. solo (solo_step a) h.0 (th ls vs l) ws) (stmts-both ss ts is)
        ∙ h.2 vs (stmts_on (listed_stmts ts) is),
  )

  -- what is known once statements have run that change no word
  pub record Declared (most : ℕ) (ss : List CoreStmt) (ls : List (ℕ × Datum)) (ws : List ℕ) (gs : Known) : Type 0 where
    pub locals : List (ℕ × Datum)
    pub runs : RunsAll most ss ls ws locals ws
    pub hold : AllHold locals gs

  pub declared-both : (m n : ℕ) (ss ts : List CoreStmt) (ls : List (ℕ × Datum)) (ws : List ℕ) (gs hs : Known)
      → Declared m ss ls ws gs → ((us : List (ℕ × Datum)) → AllHold us gs → Declared n ts us ws hs)
      → Declared (m + n) (ss ++ ts) ls ws hs
  declared-both m n ss ts ls ws gs hs d more =
      let e = more d.locals d.hold in
      record {
        locals = e.locals;
        runs = runs-both m n ss ts ls d.locals e.locals ws ws ws d.runs e.runs;
        hold = e.hold;
      }

  pub runs-declared : (m n : ℕ) (ss ts : List CoreStmt) (ls : List (ℕ × Datum)) (ws ws' : List ℕ) (gs : Known)
      → Declared m ss ls ws gs
      → ((us : List (ℕ × Datum)) → AllHold us gs → (us' : List (ℕ × Datum)) × RunsAll n ts us ws us' ws')
      → (ls' : List (ℕ × Datum)) × RunsAll (m + n) (ss ++ ts) ls ws ls' ws'
  runs-declared m n ss ts ls ws ws' gs d more =
      let e = more d.locals d.hold in (e.0, runs-both m n ss ts ls d.locals e.0 ws ws ws' d.runs e.1)

  pub halts-declared : (m n : ℕ) (ss ts : List CoreStmt) (ls : List (ℕ × Datum)) (ws : List ℕ) (gs : Known)
      → Declared m ss ls ws gs → ((us : List (ℕ × Datum)) → AllHold us gs → HaltsAll n ts us ws)
      → HaltsAll (m + n) (ss ++ ts) ls ws
  halts-declared m n ss ts ls ws gs d more =
      halts-later m n ss ts ls d.locals ws ws d.runs (more d.locals d.hold)

  -- ---- declarations

  module _ (at : Place) where
    declares-one : (most name : ℕ) (e : CoreExpr) (ls : List (ℕ × Datum)) (ws : List ℕ) (v : ℕ) → v < 2 ^ 64
        → Gives a f own-object most e ls ws v
        → RunsAll (most + 2) (b.word_local at name e ∷ []) ls ws (with_entry ls name (word v)) ws
    declares-one most name e ls ws v p g = (
      suc (g.0 + 1),
      omega (arith, g.1),
      λ vs is. subst (λ d. solo (solo_step a) (suc (g.0 + 1)) (th ls vs (stmt (b.word_local at name e) ∷ is)) ws
          ≡ goes (th (with_entry ls name d) vs is) ws) (word-stays v p)
          (runs-declare a f own-object g.0 name word_type e ls ws (word v) g.2 vs is),
    )

    pub declares : (most name : ℕ) (e : CoreExpr) (gs : Known) (ls : List (ℕ × Datum)) (ws : List ℕ) (v : ℕ)
        → v < 2 ^ 64 → AllHold ls gs → IsNew gs name → Gives a f own-object most e ls ws v
        → Declared (most + 2) (b.word_local at name e ∷ []) ls ws ((name ∷ [], v ∷ []) ∷ gs)
    declares most name e gs ls ws v p h n g = record {
      locals = with_entry ls name (word v);
      runs = declares-one most name e ls ws v p g;
      hold = ((entry-there ls name (word v), p, tt), all-hold-other ls name (word v) gs n h);
    }

    module _ {X : Type 0} (name : X → ℕ) (value : X → CoreExpr) (most : ℕ) (ws : List ℕ) where
      -- each expression gives its word where these locals are known
      abbrev pub AllLater : Known → List X → List ℕ → Type 0
      AllLater gs [] [] = Unit {0}
      AllLater gs (x ∷ xs) (v ∷ vs) =
          ((ls : List (ℕ × Datum)) → AllHold ls gs → Gives a f own-object most (value x) ls ws v) × (v < 2 ^ 64)
          × AllLater gs xs vs
      AllLater gs xs vs = ⊥

      more-known : (g : List ℕ × List ℕ) (gs : Known) (xs : List X) (vs : List ℕ) → AllLater gs xs vs
          → AllLater (g ∷ gs) xs vs
      more-known g gs [] [] h = tt
      more-known g gs [] (v ∷ vs) h = absurd h
      more-known g gs (x ∷ xs) [] h = absurd h
      more-known g gs (x ∷ xs) (v ∷ vs) h = ((λ ls k. h.0 ls k.1), h.1, more-known g gs xs vs h.2)

      pub declares-all : (xs : List X) (vs : List ℕ) (gs : Known) (ls : List (ℕ × Datum)) → AllHold ls gs
          → AreNew gs (map name xs) → AllLater gs xs vs
          → Declared ((most + 2) * length xs) (map (λ x. b.word_local at (name x) (value x)) xs) ls ws
          ((map name xs, vs) ∷ gs)
      declares-all [] [] gs ls h n g = record {
        locals = ls;
        runs = runs-within 0 ((most + 2) * 0) [] ls ls ws ws (omega arith) (runs-none ls ws);
        hold = (tt, h);
      }
      declares-all [] (v ∷ vs) gs ls h n g = absurd g
      declares-all (x ∷ xs) [] gs ls h n g = absurd g
      declares-all (x ∷ xs) (v ∷ vs) gs ls h n g =
          let one = declares most (name x) (value x) gs ls ws v g.1 h n.new.0 (g.0 ls h) in
          let more = declares-all xs vs ((name x ∷ [], v ∷ []) ∷ gs) one.locals one.hold
          (new-back gs (name x ∷ []) (v ∷ []) (map name xs) n)
          (more-known (name x ∷ [], v ∷ []) gs xs vs g.2) in
          record {
            locals = more.locals;
            runs = runs-within (most + 2 + (most + 2) * length xs) ((most + 2) * suc (length xs))
                (map (λ y. b.word_local at (name y) (value y)) (x ∷ xs)) ls more.locals ws ws (omega arith)
                (runs-both (most + 2) ((most + 2) * length xs) (b.word_local at (name x) (value x) ∷ [])
                (map (λ y. b.word_local at (name y) (value y)) xs) ls one.locals more.locals ws ws ws one.runs
                more.runs);
            hold = ((more.hold.1.0.0, more.hold.1.0.1, more.hold.0), more.hold.1.1);
          }

    -- ---- assignments

    module _ (class : ClassId) (of : is_of a.setting (Some a.live) (Some class) ≡ true) where
      -- words stand one behind another from this place on
      abbrev pub Laid : ℕ → List CoreWord → Type 0
      Laid i [] = Unit {0}
      Laid i (w ∷ words) = (word_number a.setting class w.name ≡ a.from + i) × Laid (suc i) words

      pub assigns-one : (most : ℕ) (w : CoreWord) (e : CoreExpr) (ls : List (ℕ × Datum)) (r rest : List ℕ)
          (i old v : ℕ) → length r ≡ i → word_number a.setting class w.name ≡ a.from + i → v < 2 ^ width w.kind
          → Gives a f own-object most e ls (r ++ old ∷ rest) v
          → RunsAll (most + 2) (b.assign at class w e ∷ []) ls (r ++ old ∷ rest) ls (r ++ v ∷ rest)
      assigns-one most w e ls r rest i old v p number fit g = (
        suc (g.0 + 1),
        omega (arith, g.1),
        λ vs is. runs-assign a f own-object at class of w.name w.kind i number g.0 e ls (r ++ old ∷ rest) (word v) v
            g.2 (let all : length (r ++ old ∷ rest) ≡ length r + suc (length rest) = length-append r (old ∷ rest) in
            omega (arith, all, p)) (put-bits w.kind v fit) vs is
            ∙ ap (λ l. goes (th ls vs is) l) (set-seam r rest old v i p),
      )

      module _ {X : Type 0} (target : X → CoreWord) (value : X → CoreExpr) (most : ℕ) (ls : List (ℕ × Datum)) where
        -- each expression gives its word where the words from its own on are the old ones
        abbrev pub AllPut : ℕ → List X → List ℕ → List ℕ → Type 0
        AllPut i [] [] [] = Unit {0}
        AllPut i (x ∷ xs) (old ∷ olds) (v ∷ vs) =
            ((r rest : List ℕ) → length r ≡ i → Gives a f own-object most (value x) ls (r ++ old ∷ rest) v)
            × (v < 2 ^ width (target x).kind) × AllPut (suc i) xs olds vs
        AllPut i xs olds vs = ⊥

        pub assigns-all : (xs : List X) (olds vs r rest : List ℕ) (i : ℕ) → length r ≡ i → Laid i (map target xs)
            → AllPut i xs olds vs
            → RunsAll ((most + 2) * length xs) (map (λ x. b.assign at class (target x) (value x)) xs) ls
            (r ++ (olds ++ rest)) ls (r ++ (vs ++ rest))
        assigns-all [] [] [] r rest i p laid g =
            runs-within 0 ((most + 2) * 0) [] ls ls (r ++ rest) (r ++ rest) (omega arith) (runs-none ls (r ++ rest))
        assigns-all [] (old ∷ olds) vs r rest i p laid g = absurd g
        assigns-all [] [] (v ∷ vs) r rest i p laid g = absurd g
        assigns-all (x ∷ xs) [] vs r rest i p laid g = absurd g
        assigns-all (x ∷ xs) (old ∷ olds) [] r rest i p laid g = absurd g
        assigns-all (x ∷ xs) (old ∷ olds) (v ∷ vs) r rest i p laid g =
            let one = assigns-one most (target x) (value x) ls r (olds ++ rest) i old v p laid.0 g.1
            (g.0 r (olds ++ rest) p) in
            let more = assigns-all xs olds vs (r ++ v ∷ []) rest (suc i) (length-more r v i p) laid.1 g.2 in
            let tail = map (λ y. b.assign at class (target y) (value y)) xs in
            runs-within (most + 2 + (most + 2) * length xs) ((most + 2) * suc (length xs))
            (b.assign at class (target x) (value x) ∷ tail) ls ls (r ++ (old ∷ (olds ++ rest)))
            (r ++ (v ∷ (vs ++ rest))) (omega arith)
            (runs-both (most + 2) ((most + 2) * length xs) (b.assign at class (target x) (value x) ∷ []) tail ls ls ls
            (r ++ (old ∷ (olds ++ rest))) (r ++ (v ∷ (olds ++ rest))) (r ++ (v ∷ (vs ++ rest))) one
            (subst (λ l. RunsAll ((most + 2) * length xs) tail ls l ls (r ++ (v ∷ (vs ++ rest))))
            (more-seam r (olds ++ rest) v)
            (subst (λ l. RunsAll ((most + 2) * length xs) tail ls ((r ++ v ∷ []) ++ (olds ++ rest)) ls l)
            (more-seam r (vs ++ rest) v) more)))
