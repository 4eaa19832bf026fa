-- What an item that names nothing but its part does: its frame goes on, stores a word, stops or halts.
use Rattle.std.proofs.Common.{◌≡◌, ℕ, Bool, true, false, List, [], ◌∷◌, ◌++◌, Option, Some, None, Result, Ok, Err, refl, sym, ap, ◌∙◌}
use Rattle.std.specs.Prelude.{if◌then◌else◌}
use Rattle.agxx_base.specs.declared.ids.ClassId.{ClassId}
use Rattle.agxx_base.specs.declared.kind.NumKind.{NumKind}
use Rattle.agxx_base.specs.declared.place.Place.{Place}
use Rattle.cxx_arith.specs.declared.value.ArithStop.{ArithStop}
use Rattle.cxx_core.specs.CoreExpr as c
use Rattle.cxx_core.specs.CoreExpr.{CoreExpr, CoreLeft}
use Rattle.cxx_core.specs.CoreStmt as cs
use Rattle.cxx_core.specs.CoreStmt.{CoreStmt, CoreStmts}
use Rattle.step_machine.specs.declared.datum.Datum.{Datum}
use Rattle.step_machine.specs.declared.outcome.Stop.{Stop}
use Rattle.step_machine.specs.Setting.{Setting, word_number}
use Rattle.step_machine.specs.Item as it
use Rattle.step_machine.specs.Item.{Item, stmts_on}
use Rattle.step_machine.specs.Frame.{Frame, top}
use Rattle.step_machine.specs.Data.{is_true}
use Rattle.step_machine.specs.Effects as on
use Rattle.step_machine.specs.Effects.{Act, stays, stops}
use Rattle.step_machine.specs.Reads.{Reads}
use Rattle.step_machine.specs.ActValues.{resulting}
use Rattle.step_machine.specs.ActMembers.{is_other, class_now, read_word, read_member, read_of, put_word, put_member, put_of}
use Rattle.step_machine.specs.Act.{act}
use Rattle.codec_laws.specs.OfPart.{PartExpr, PartStmt, PartStmts, PartItem, PartItems}

module _ (Names : ClassId → ℕ → Type 0) where
  pub data Acts (f : Frame) (x : Act) : Type 0 where
    goes_on : (first : List Item) (g : Frame) → x ≡ stays g → g.items ≡ first ++ f.items → PartItems Names first
        → g.this ≡ f.this → Acts f x
    stores : (g : Frame) (o w bits : ℕ) → x ≡ on.goes g (on.change (on.store o w bits)) → g.items ≡ f.items
        → g.this ≡ f.this → Acts f x
    stops_at : (cause : Stop) (at : Place) → x ≡ stops cause at → Acts f x
    halts : (g : Frame) (o : Option ℕ) (class : Option ClassId) → x ≡ on.goes g (on.halt o class) → Acts f x

  -- ---- statements as items

  items_of : CoreStmts → List Item
  items_of cs.no_stmts = []
  items_of (cs.more_stmts s ss) = it.stmt s ∷ items_of ss

  items-on : (ss : CoreStmts) (is : List Item) → stmts_on ss is ≡ items_of ss ++ is
  unfolding items_of
  items-on cs.no_stmts is = refl
  items-on (cs.more_stmts s ss) is = ap (λ l. it.stmt s ∷ l) (items-on ss is)

  items-part : (ss : CoreStmts) → PartStmts Names ss → PartItems Names (items_of ss)
  unfolding items_of
  items-part cs.no_stmts h = tt
  items-part (cs.more_stmts s ss) h = (h.0, items-part ss h.1)

  -- ---- results, members

  of-result : (r : Result Datum ArithStop) (at : Place) (f below : Frame) → below.items ≡ f.items → below.this
      ≡ f.this → Acts f (resulting r at f below)
  of-result (Err why) at f below e g = stops_at _ at refl
  of-result (Ok v) at f below e g = goes_on [] _ refl e tt g

  of-read-word : (at : Place) (k : NumKind) (w : Option ℕ) (f : Frame) → Acts f (read_word at k w f)
  of-read-word at k None f = stops_at _ at refl
  of-read-word at k (Some bits) f = goes_on [] _ refl refl tt refl

  of-read-member : (word : ℕ → ℕ → Option ℕ) (at : Place) (k : NumKind) (w : ℕ) (o : Option ℕ) (f : Frame)
      → Acts f (read_member word at k w o f)
  of-read-member word at k w None f = stops_at _ at refl
  of-read-member word at k w (Some o) f = of-read-word at k (word o w) f

  of-read-by : (b : Bool) (word : ℕ → ℕ → Option ℕ) (at : Place) (k : NumKind) (w : ℕ) (o : Option ℕ) (f : Frame)
      → Acts f (if b then stays f else read_member word at k w o f)
  of-read-by true word at k w o f = goes_on [] f refl refl tt refl
  of-read-by false word at k w o f = of-read-member word at k w o f

  of-put-word : (at : Place) (k : NumKind) (o w : ℕ) (old : Option ℕ) (f : Frame) → Acts f (put_word at k o w old f)
  of-put-word at k o w None f = stops_at _ at refl
  of-put-word at k o w (Some old) f = stores _ o w _ refl refl refl

  of-put-member : (word : ℕ → ℕ → Option ℕ) (at : Place) (k : NumKind) (w : ℕ) (o : Option ℕ) (f : Frame)
      → Acts f (put_member word at k w o f)
  of-put-member word at k w None f = stops_at _ at refl
  of-put-member word at k w (Some o) f = of-put-word at k o w (word o w) f

  of-put-by : (b : Bool) (word : ℕ → ℕ → Option ℕ) (at : Place) (k : NumKind) (w : ℕ) (o : Option ℕ) (f : Frame)
      → Acts f (if b then stays f else put_member word at k w o f)
  of-put-by true word at k w o f = goes_on [] f refl refl tt refl
  of-put-by false word at k w o f = of-put-member word at k w o f

  -- ---- items

  module _ (s : Setting) (r : Reads) (t : ℕ) where
    of-expr : (e : CoreExpr) (f : Frame) → PartExpr Names e → Acts f (act s r t (it.expr e) f)
    of-expr (c.number v) f h = goes_on [] _ refl refl tt refl
    of-expr (c.read (c.variable (c.local name u))) f h = goes_on [] _ refl refl tt refl
    of-expr (c.read (c.variable (c.global is_global name u))) f h = absurd h
    of-expr (c.read (c.member at c.own class name k)) f h = of-read-by
        (is_other s class (class_now r.class f.this)) r.word at k (word_number s class name) f.this f
    of-expr (c.read (c.member at c.by_this class name k)) f h = absurd h
    of-expr (c.read (c.member at (c.by_object other other_class) class name k)) f h = absurd h
    of-expr (c.read (c.member at (c.by_pointer v) class name k)) f h = absurd h
    of-expr (c.unary at o u x) f h = goes_on (it.expr x ∷ it.op_one at o ∷ []) _ refl refl (h, (tt, tt)) refl
    of-expr (c.binary at o u v x y) f h = goes_on (it.expr x ∷ it.expr y ∷ it.op_two at o ∷ []) _ refl refl
        (h.0, (h.1, (tt, tt))) refl
    of-expr (c.cast k u x) f h = goes_on (it.expr x ∷ it.cast k ∷ []) _ refl refl (h, (tt, tt)) refl
    of-expr e f h = absurd h

    of-stmt : (x : CoreStmt) (f : Frame) → PartStmt Names x → Acts f (act s r t (it.stmt x) f)
    of-stmt (cs.declare name u (Some (cs.value e))) f h = goes_on (it.expr e ∷ it.bind name u ∷ []) _ refl refl
        (h, (tt, tt)) refl
    of-stmt (cs.assign l e) f h = goes_on (it.expr e ∷ it.put l ∷ []) _ refl refl (h.1, (h.0, tt)) refl
    of-stmt (cs.branch e x y) f h = goes_on (it.expr e ∷ it.branch x y ∷ []) _ refl refl (h.0, ((h.1, h.2), tt)) refl
    of-stmt cs.abort f h = halts f _ _ refl
    of-stmt x f h = absurd h

    of-branch : (b : Bool) (x y : CoreStmts) (f : Frame) → PartStmts Names x → PartStmts Names y
        → (first : List Item) × (stmts_on (if b then x else y) f.items ≡ first ++ f.items) × PartItems Names first
    of-branch true x y f h g = (items_of x, items-on x f.items, items-part x h)
    of-branch false x y f h g = (items_of y, items-on y f.items, items-part y g)

    pub acts : (i : Item) (f : Frame) → PartItem Names i → Acts f (act s r t i f)
    acts (it.stmt x) f h = of-stmt x f h
    acts (it.expr e) f h = of-expr e f h
    acts (it.op_one at o) f h = of-result _ at f _ refl refl
    acts (it.op_two at o) f h = of-result _ at f _ refl refl
    acts (it.cast k) f h = goes_on [] _ refl refl tt refl
    acts (it.bind name u) f h = goes_on [] _ refl refl tt refl
    acts (it.put (c.variable (c.local name u))) f h = goes_on [] _ refl refl tt refl
    acts (it.put (c.variable (c.global is_global name u))) f h = absurd h
    acts (it.put (c.member at c.own class name k)) f h = of-put-by
        (is_other s class (class_now r.class f.this)) r.word at k (word_number s class name) f.this f
    acts (it.put (c.member at c.by_this class name k)) f h = absurd h
    acts (it.put (c.member at (c.by_object other other_class) class name k)) f h = absurd h
    acts (it.put (c.member at (c.by_pointer v) class name k)) f h = absurd h
    acts (it.branch x y) f h = let b = of-branch (is_true (top f)) x y f h.0 h.1 in goes_on b.0 _ refl b.1 b.2 refl
    acts i f h = absurd h

  -- ---- it is the same whatever is read, where the part's words and the object's class are

  module _ (s : Setting) (r q : Reads) (t u o : ℕ) (class_same : r.class o ≡ q.class o)
      (word_same : (class : ClassId) (name : ℕ) → Names class name → r.word o (word_number s class name)
      ≡ q.word o (word_number s class name)) where
    read-same : (at : Place) (class : ClassId) (name : ℕ) (k : NumKind) (f : Frame) → Names class name
        → read_of s r at class name k (Some o) f ≡ read_of s q at class name k (Some o) f
    read-same at class name k f h =
        ap (λ c. if is_other s class c then stays f else read_word at k (r.word o (word_number s class name)) f)
        class_same
        ∙ ap (λ w. if is_other s class (q.class o) then stays f else read_word at k w f) (word_same class name h)

    put-same : (at : Place) (class : ClassId) (name : ℕ) (k : NumKind) (f : Frame) → Names class name
        → put_of s r at class name k (Some o) f ≡ put_of s q at class name k (Some o) f
    put-same at class name k f h =
        ap (λ c. if is_other s class c then stays f else put_word at k o (word_number s class name)
        (r.word o (word_number s class name)) f) class_same
        ∙ ap (λ w. if is_other s class (q.class o) then stays f else put_word at k o
        (word_number s class name) w f) (word_same class name h)

    same-expr : (e : CoreExpr) (f : Frame) → f.this ≡ Some o → PartExpr Names e → act s r t (it.expr e) f
        ≡ act s q u (it.expr e) f
    same-expr (c.number v) f own h = refl
    same-expr (c.read (c.variable (c.local name x))) f own h = refl
    same-expr (c.read (c.variable (c.global is_global name x))) f own h = absurd h
    same-expr (c.read (c.member at c.own class name k)) f own h =
        ap (λ p. read_of s r at class name k p f) own ∙ read-same at class name k f h
        ∙ ap (λ p. read_of s q at class name k p f) (sym own)
    same-expr (c.read (c.member at c.by_this class name k)) f own h = absurd h
    same-expr (c.read (c.member at (c.by_object other other_class) class name k)) f own h = absurd h
    same-expr (c.read (c.member at (c.by_pointer v) class name k)) f own h = absurd h
    same-expr (c.unary at y x z) f own h = refl
    same-expr (c.binary at y x z v w) f own h = refl
    same-expr (c.cast k x y) f own h = refl
    same-expr e f own h = absurd h

    same-stmt : (x : CoreStmt) (f : Frame) → PartStmt Names x → act s r t (it.stmt x) f ≡ act s q u (it.stmt x) f
    same-stmt (cs.declare name x (Some (cs.value e))) f h = refl
    same-stmt (cs.assign l e) f h = refl
    same-stmt (cs.branch e x y) f h = refl
    same-stmt cs.abort f h = refl
    same-stmt x f h = absurd h

    pub acts-same : (i : Item) (f : Frame) → f.this ≡ Some o → PartItem Names i → act s r t i f ≡ act s q u i f
    acts-same (it.stmt x) f own h = same-stmt x f h
    acts-same (it.expr e) f own h = same-expr e f own h
    acts-same (it.op_one at x) f own h = refl
    acts-same (it.op_two at x) f own h = refl
    acts-same (it.cast k) f own h = refl
    acts-same (it.bind name x) f own h = refl
    acts-same (it.put (c.variable (c.local name x))) f own h = refl
    acts-same (it.put (c.variable (c.global is_global name x))) f own h = absurd h
    acts-same (it.put (c.member at c.own class name k)) f own h =
        ap (λ p. put_of s r at class name k p f) own ∙ put-same at class name k f h
        ∙ ap (λ p. put_of s q at class name k p f) (sym own)
    acts-same (it.put (c.member at c.by_this class name k)) f own h = absurd h
    acts-same (it.put (c.member at (c.by_object other other_class) class name k)) f own h = absurd h
    acts-same (it.put (c.member at (c.by_pointer v) class name k)) f own h = absurd h
    acts-same (it.branch x y) f own h = refl
    acts-same i f own h = absurd h
