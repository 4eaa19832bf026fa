-- Expressions of blocks that run by themselves, with how many steps they take at most.
use Rattle.std.proofs.Common.{◌≡◌, ℕ, suc, ◌+◌, ◌*◌, ◌^◌, ◌<◌, ◌≤◌, true, Some, List, [], ◌∷◌, ◌++◌, map, length, slice_get, refl, ap, subst, arith}
use Rattle.agxx_base.specs.declared.ids.ClassId.{ClassId}
use Rattle.agxx_base.specs.declared.kind.NumKind.TheVariants as num
use Rattle.agxx_base.specs.declared.place.Place.{Place}
use Rattle.cxx_tree.specs.declared.operator.BinOp.{BinOp}
use Rattle.cxx_tree.specs.declared.operator.UnOp.TheVariants as un
use Rattle.cxx_arith.specs.Kinds.{width}
use Rattle.cxx_names.specs.declared.types.ValueType.TheVariants as type
use Rattle.cxx_core.specs.CoreExpr as c
use Rattle.cxx_core.specs.CoreExpr.{CoreExpr}
use Rattle.step_machine.specs.declared.datum.Datum.{Datum}
use Rattle.step_machine.specs.Data.{from_bits_of, of_kind}
use Rattle.step_machine.specs.Entries.{entry}
use Rattle.step_machine.specs.Setting.{is_of, word_number}
use Rattle.step_machine.specs.Item as it
use Rattle.step_machine.specs.Item.{Item}
use Rattle.step_machine.specs.Frame.{Frame}
use Rattle.step_machine.specs.ActValues.{resulting}
use Rattle.codec_laws.specs.Solo.{Alone, solo_step}
use Rattle.codec_laws.specs.Blocks.{own}
use Rattle.codec_laws.proofs.Steps.{at-once, one-more, and-more, by-act, fr, Evals, evals-local, evals-cast, evals-binary, evals-member}
use Rattle.hamming_laws.specs.Masks as m
use Rattle.hamming_laws.specs.Masks.{complement}
use Rattle.hamming_blocks.specs.Blocks as b
use Rattle.hamming_blocks.specs.Blocks.{word_type}
use Rattle.hamming_blocks.proofs.Words.{word, IsWordOp, word-complement, extended-is}

-- ---- locals and what they hold

-- each of these locals holds a word
abbrev pub Holds : List (ℕ × Datum) → List ℕ → List ℕ → Type 0
Holds ls [] [] = Unit {0}
Holds ls (name ∷ names) (v ∷ vs) = (entry ls name ≡ Some (word v)) × (v < 2 ^ 64) × Holds ls names vs
Holds ls names vs = ⊥

module _ (a : Alone) (f : Frame) (own-object : f.this ≡ Some a.object) where
  abbrev th : List (ℕ × Datum) → List Datum → List Item → List Frame
  th ls vs is = fr a f own-object ls vs is ∷ []

  -- in at most so many steps an expression gives this word, which leaves all else
  abbrev pub Gives : ℕ → CoreExpr → List (ℕ × Datum) → List ℕ → ℕ → Type 0
  Gives most e ls ws v = (n : ℕ) × (n ≤ most) × Evals a f own-object n e ls ws (word v)

  -- each of these expressions gives its word in one step
  abbrev pub AllGive : List CoreExpr → List (ℕ × Datum) → List ℕ → List ℕ → Type 0
  AllGive [] ls ws [] = Unit {0}
  AllGive (e ∷ es) ls ws (v ∷ vs) = Gives 1 e ls ws v × (v < 2 ^ 64) × AllGive es ls ws vs
  AllGive es ls ws vs = ⊥

  pub gives-more : (m n : ℕ) (e : CoreExpr) (ls : List (ℕ × Datum)) (ws : List ℕ) (v : ℕ) → m ≤ n
      → Gives m e ls ws v → Gives n e ls ws v
  gives-more m n e ls ws v l g = (g.0, omega (arith, g.1), g.2)

  pub gives-local : (name : ℕ) (ls : List (ℕ × Datum)) (ws : List ℕ) (v : ℕ) → entry ls name ≡ Some (word v)
      → Gives 1 (b.local name) ls ws v
  gives-local name ls ws v e = (1, omega arith, evals-local a f own-object name word_type ls ws (word v) e)

  pub evals-number : (n : ℕ) (ls : List (ℕ × Datum)) (ws : List ℕ)
      → Evals a f own-object 1 (b.number n) ls ws (word n)
  evals-number n ls ws vs is =
      at-once (solo_step a) (th ls vs (it.expr (b.number n) ∷ is)) (th ls (word n ∷ vs) is) ws ws refl

  pub gives-number : (n : ℕ) (ls : List (ℕ × Datum)) (ws : List ℕ) → Gives 1 (b.number n) ls ws n
  gives-number n ls ws = (1, omega arith, evals-number n ls ws)

  pub gives-both : (at : Place) (o : BinOp) (op : ℕ → ℕ → ℕ) (law : IsWordOp o op) (m n : ℕ) (x y : CoreExpr)
      (ls : List (ℕ × Datum)) (ws : List ℕ) (v w : ℕ) → v < 2 ^ 64 → w < 2 ^ 64 → Gives m x ls ws v
      → Gives n y ls ws w → Gives (m + n + 2) (b.both at o x y) ls ws (op v w)
  gives-both at o op law m n x y ls ws v w p q g h = (
    suc (g.0 + (h.0 + 1)),
    omega (arith, g.1, h.1),
    evals-binary a f own-object g.0 h.0 at o word_type word_type x y ls ws (word v) (word w) (word (op v w)) g.2 h.2
        (law.gives v w p q),
  )

  pub gives-inverted : (at : Place) (m : ℕ) (x : CoreExpr) (ls : List (ℕ × Datum)) (ws : List ℕ) (v : ℕ)
      → v < 2 ^ 64 → Gives m x ls ws v → Gives (m + 2) (b.inverted at x) ls ws (complement v)
  gives-inverted at m x ls ws v p g = (
    suc (g.0 + 1),
    omega (arith, g.1),
    λ vs is. one-more (solo_step a) (g.0 + 1) (th ls vs (it.expr (b.inverted at x) ∷ is))
        (th ls vs (it.expr x ∷ it.op_one at un.Complement ∷ is)) ws ws _ refl
        (and-more (solo_step a) g.0 1 (th ls vs (it.expr x ∷ it.op_one at un.Complement ∷ is))
        (th ls (word v ∷ vs) (it.op_one at un.Complement ∷ is)) ws ws _ (g.2 vs (it.op_one at un.Complement ∷ is))
        (at-once (solo_step a) (th ls (word v ∷ vs) (it.op_one at un.Complement ∷ is))
        (th ls (word (complement v) ∷ vs) is) ws ws
        (by-act a ws (it.op_one at un.Complement) (fr a f own-object ls (word v ∷ vs) is) is refl
        (fr a f own-object ls (word (complement v) ∷ vs) is)
        (ap (λ r. resulting r at (fr a f own-object ls (word v ∷ vs) is) (fr a f own-object ls vs is))
        (word-complement v p))))),
  )

  -- ---- chains

  pub gives-joined : (at : Place) (o : BinOp) (op : ℕ → ℕ → ℕ) (law : IsWordOp o op) (n : ℕ) (first : CoreExpr)
      (es : List CoreExpr) (ls : List (ℕ × Datum)) (ws : List ℕ) (v : ℕ) (vs : List ℕ) → v < 2 ^ 64
      → Gives n first ls ws v → AllGive es ls ws vs
      → Gives (n + 3 * length es) (b.joined at o first es) ls ws (m.joined op v vs)
  gives-joined at o op law n first [] ls ws v [] p g h = gives-more n (n + 3 * 0) first ls ws v (omega arith) g
  gives-joined at o op law n first [] ls ws v (w ∷ vs) p g h = absurd h
  gives-joined at o op law n first (e ∷ es) ls ws v [] p g h = absurd h
  gives-joined at o op law n first (e ∷ es) ls ws v (w ∷ vs) p g h =
      gives-more (n + 1 + 2 + 3 * length es) (n + 3 * suc (length es)) (b.joined at o (b.both at o first e) es) ls ws
      (m.joined op (op v w) vs) (omega arith)
      (gives-joined at o op law (n + 1 + 2) (b.both at o first e) es ls ws (op v w) vs (law.under v w p h.1)
      (gives-both at o op law n 1 first e ls ws v w p h.1 g h.0) h.2)

  pub gives-all-joined : (at : Place) (o : BinOp) (op : ℕ → ℕ → ℕ) (law : IsWordOp o op) (es : List CoreExpr)
      (ls : List (ℕ × Datum)) (ws : List ℕ) (vs : List ℕ) → AllGive es ls ws vs
      → Gives (1 + 3 * length es) (b.all_joined at o es) ls ws (m.all_joined op vs)
  gives-all-joined at o op law [] ls ws [] h = gives-more 1 (1 + 3 * 0) (b.number 0) ls ws 0 (omega arith)
      (gives-number 0 ls ws)
  gives-all-joined at o op law [] ls ws (w ∷ vs) h = absurd h
  gives-all-joined at o op law (e ∷ es) ls ws [] h = absurd h
  gives-all-joined at o op law (e ∷ es) ls ws (v ∷ vs) h =
      gives-more (1 + 3 * length es) (1 + 3 * suc (length es)) (b.joined at o e es) ls ws (m.joined op v vs)
      (omega arith) (gives-joined at o op law 1 e es ls ws v vs h.1 h.0 h.2)

  pub give-both : (es gs : List CoreExpr) (ls : List (ℕ × Datum)) (ws : List ℕ) (vs us : List ℕ)
      → AllGive es ls ws vs → AllGive gs ls ws us → AllGive (es ++ gs) ls ws (vs ++ us)
  give-both [] gs ls ws [] us h g = g
  give-both [] gs ls ws (v ∷ vs) us h g = absurd h
  give-both (e ∷ es) gs ls ws [] us h g = absurd h
  give-both (e ∷ es) gs ls ws (v ∷ vs) us h g = (h.0, h.1, give-both es gs ls ws vs us h.2 g)

  pub gives-under : (es : List CoreExpr) (ls : List (ℕ × Datum)) (ws : List ℕ) (vs : List ℕ) → AllGive es ls ws vs
      → m.AllUnder (2 ^ 64) vs
  gives-under [] ls ws [] h = tt
  gives-under [] ls ws (v ∷ vs) h = absurd h
  gives-under (e ∷ es) ls ws [] h = absurd h
  gives-under (e ∷ es) ls ws (v ∷ vs) h = (h.1, gives-under es ls ws vs h.2)

  pub locals-give : {X : Type 0} (name : X → ℕ) (xs : List X) (ls : List (ℕ × Datum)) (ws : List ℕ) (vs : List ℕ)
      → Holds ls (map name xs) vs → AllGive (map (λ x. b.local (name x)) xs) ls ws vs
  locals-give name [] ls ws [] h = tt
  locals-give name [] ls ws (v ∷ vs) h = absurd h
  locals-give name (x ∷ xs) ls ws [] h = absurd h
  locals-give name (x ∷ xs) ls ws (v ∷ vs) h =
      (gives-local (name x) ls ws v h.0, h.1, locals-give name xs ls ws vs h.2)

  -- ---- words of the part

  module _ (at : Place) (class : ClassId) (of : is_of a.setting (Some a.live) (Some class) ≡ true) where
    pub gives-own : (i name : ℕ) (ls : List (ℕ × Datum)) (ws : List ℕ) (v : ℕ)
        → word_number a.setting class name ≡ a.from + i → slice_get ws i ≡ Some v
        → Gives 1 (b.own_word at class name) ls ws v
    gives-own i name ls ws v number value = (
      1,
      omega arith,
      evals-member a f own-object at class of name num.U64 i number ls ws v value,
    )

    pub gives-extended : (i : ℕ) (x : b.CheckedMember) (ls : List (ℕ × Datum)) (ws : List ℕ) (v : ℕ)
        → word_number a.setting class x.member.name ≡ a.from + i → slice_get ws i ≡ Some v
        → v < 2 ^ width x.member.kind → Gives 5 (b.extended at class x) ls ws v
    gives-extended i x ls ws v number value fit = (
      5,
      omega arith,
      subst (λ d. Evals a f own-object 5 (b.extended at class x) ls ws d) (extended-is x.member.kind v fit)
          (evals-cast a f own-object 3 num.U64 (type.Number (b.kind_of x))
          (c.cast (b.kind_of x) (type.Number x.member.kind) (own at class x.member)) ls ws
          (of_kind (b.kind_of x) (from_bits_of x.member.kind v))
          (evals-cast a f own-object 1 (b.kind_of x) (type.Number x.member.kind) (own at class x.member) ls ws
          (from_bits_of x.member.kind v)
          (evals-member a f own-object at class of x.member.name x.member.kind i number ls ws v value))),
    )
