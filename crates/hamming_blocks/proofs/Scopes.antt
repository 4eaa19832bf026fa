-- Declarations and assignments of words of 64 bits, in core form.
use Rattle.std.proofs.Common.{◌≡◌, ◌≢◌, ℕ, ◌≤◌, Bool, true, false, cond, nat_eq, Some, None, List, [], ◌∷◌, ◌++◌, map, length, refl, sym, ap, ap₂, ◌∙◌, arith, append_assoc}
use Rattle.std.specs.Prelude.{if◌then◌else◌, is_some}
use Rattle.agxx_base.specs.declared.ids.ClassId.{ClassId}
use Rattle.agxx_base.specs.declared.ids.NameId.{NameId}
use Rattle.agxx_base.specs.declared.kind.NumKind.TheVariants as num
use Rattle.agxx_base.specs.declared.place.Place.{Place}
use Rattle.cxx_tree.specs.declared.operator.BinOp.{BinOp}
use Rattle.cxx_tree.specs.declared.operator.BinOp.TheVariants as op
use Rattle.cxx_tree.specs.declared.operator.UnOp.TheVariants as un
use Rattle.cxx_tree.specs.ExprTree.{ExprTree}
use Rattle.cxx_tree.specs.StmtTree as s
use Rattle.cxx_tree.specs.StmtTree.{StmtTree}
use Rattle.cxx_names.specs.declared.types.Thing.{Thing}
use Rattle.cxx_names.specs.declared.types.Thing.TheVariants as thing
use Rattle.cxx_names.specs.Tables.{named, with_name}
use Rattle.cxx_core.specs.CoreExpr.{CoreExpr, binary_type, type_of}
use Rattle.cxx_core.specs.CoreStmt as cs
use Rattle.cxx_core.specs.CoreStmt.{CoreStmt, CoreStmts}
use Rattle.cxx_core.specs.CoreProgram.{CoreWord}
use Rattle.cxx_core.specs.StmtView.{listed_stmts}
use Rattle.cxx_core.specs.Meanings.{Scope, Within}
use Rattle.cxx_core.specs.ElaboratedExpr.{core_expr, unary_by, binary_by, binary_as}
use Rattle.cxx_core.specs.ElaboratedStmt.{is_name, source_as, core_stmts, assign_as}
use Rattle.cxx_make.specs.Made as made
use Rattle.hamming_gen.specs.HammingTrees as t
use Rattle.codec_laws.specs.Elaboration.{IsMember}
use Rattle.codec_laws.proofs.Each.{Each, Apart}
use Rattle.codec_laws.proofs.Elaboration.{left-member, read-member, read-local, with-there, with-other}
use Rattle.hamming_blocks.specs.Blocks as b
use Rattle.hamming_blocks.specs.Blocks.{word_type, word_of}

abbrev word_thing : Thing
word_thing = thing.Value word_type

-- ---- operators on words

pub record IsSign (o : BinOp) : Type 0 where
  pub joins : (at : Place) (x y : CoreExpr) → binary_by at o (Some word_type) (Some word_type) x y ≡ b.both at o x y
  pub word : binary_type o word_type word_type ≡ Some word_type

pub sign-and : IsSign op.BitAnd
sign-and = record { joins = λ at x y. refl; word = refl }

pub sign-or : IsSign op.BitOr
sign-or = record { joins = λ at x y. refl; word = refl }

pub sign-xor : IsSign op.BitXor
sign-xor = record { joins = λ at x y. refl; word = refl }

-- ---- names in scope

abbrev pub Groups : Type 0
Groups = List (List ℕ)

abbrev pub IsLocal : Scope → ℕ → Type 0
IsLocal scope name = named scope name ≡ Some word_thing

abbrev pub IsFree : Scope → ℕ → Type 0
IsFree scope name = named scope name ≡ None

named-kept : (scope more : Scope) (name : ℕ) (v : Thing) → named scope name ≡ Some v
    → named (scope ++ more) name ≡ Some v
named-kept [] more name v e = absurd (cc)
named-kept (x ∷ scope) more name v e = by (nat_eq name x.0) (λ g. named-kept scope more name v g) e
  where
    by : (y : Bool) → (named scope name ≡ Some v → named (scope ++ more) name ≡ Some v)
        → cond y (Some x.1) (named scope name) ≡ Some v → cond y (Some x.1) (named (scope ++ more) name) ≡ Some v
    by true later g = g
    by false later g = later g

with-kept : (scope : Scope) (name : ℕ) (u : Thing) (other : ℕ) (v : Thing) → named scope other ≡ Some v
    → named (with_name scope name u) other ≡ Some v
with-kept scope name u other v e = by (is_some (named scope name))
  where
    by : (y : Bool) → named (if y then scope else scope ++ (name, u) ∷ []) other ≡ Some v
    by true = e
    by false = named-kept scope ((name, u) ∷ []) other v e

-- ---- statements one behind another

abbrev pub put : List CoreStmt → CoreStmts → CoreStmts
put [] rest = rest
put (x ∷ xs) rest = cs.more_stmts x (put xs rest)

put-both : (xs ys : List CoreStmt) (rest : CoreStmts) → put (xs ++ ys) rest ≡ put xs (put ys rest)
put-both [] ys rest = refl
put-both (x ∷ xs) ys rest = ap (cs.more_stmts x) (put-both xs ys rest)

pub put-all : (xs : List CoreStmt) → put xs cs.no_stmts ≡ listed_stmts xs
put-all [] = refl
put-all (x ∷ xs) = ap (cs.more_stmts x) (put-all xs)

module _ (w : Within) (at : Place) (class : ClassId) (words : List CoreWord) where
  -- statements are these in core form, and then this is in scope
  abbrev pub Comes : Scope → List StmtTree → Scope → List CoreStmt → Type 0
  Comes scope trees after stmts =
      (more : List StmtTree) → core_stmts w scope (s.listed_stmts (trees ++ more))
      ≡ put stmts (core_stmts w after (s.listed_stmts more))

  pub comes-both : (scope after last : Scope) (xs ys : List StmtTree) (cs ds : List CoreStmt)
      → Comes scope xs after cs → Comes after ys last ds → Comes scope (xs ++ ys) last (cs ++ ds)
  comes-both scope after last xs ys cs ds g h more =
      ap (λ l. core_stmts w scope (s.listed_stmts l)) (append_assoc xs ys more) ∙ g (ys ++ more)
      ∙ ap (put cs) (h more) ∙ sym (put-both cs ds (core_stmts w last (s.listed_stmts more)))

  -- locals of these groups are in scope, and no word's name is
  abbrev pub Stand : Scope → Groups → Type 0
  Stand scope gs = Each (λ g. Each (IsLocal scope) g) gs × Each (λ (v : CoreWord). IsFree scope v.name) words

  -- names that are left: they are free, differ, and are no word's
  abbrev pub Left : Scope → List ℕ → Type 0
  Left scope names =
      Each (IsFree scope) names × Apart names × Each (λ n. Each (λ (v : CoreWord). v.name ≢ n) words) names

  -- ---- expressions

  abbrev pub Core : Scope → ExprTree → CoreExpr → Type 0
  Core scope tree core = (core_expr w scope tree ≡ core) × (type_of core ≡ Some word_type)

  -- it is no name of a local alone
  abbrev pub Value : Scope → ExprTree → CoreExpr → Type 0
  Value scope tree core = Core scope tree core × (source_as (is_name tree) core ≡ cs.value core)

  pub core-local : (scope : Scope) (name : NameId) → IsLocal scope name.0
      → Core scope (made.variable at name) (b.local name.0)
  core-local scope name h = (read-local w at class scope name.0 num.U64 h, refl)

  pub core-own : (scope : Scope) (name : NameId) → IsFree scope name.0 → IsMember w at class (word_of name.0)
      → Value scope (made.variable at name) (b.own_word at class name.0)
  core-own scope name free h = ((read-member w at class scope (word_of name.0) free h, refl), refl)

  pub core-binary : (o : BinOp) (sign : IsSign o) (scope : Scope) (x y : ExprTree) (u v : CoreExpr) → Core scope x u
      → Core scope y v → Value scope (made.binary at o x y) (b.both at o u v)
  core-binary o sign scope x y u v g h = (
    (
      ap₂ (λ p q. binary_as at o p q) g.0 h.0 ∙ ap₂ (λ p q. binary_by at o p q u v) g.1 h.1 ∙ sign.joins at u v,
      sign.word,
    ),
    refl,
  )

  pub core-inverted : (scope : Scope) (x : ExprTree) (u : CoreExpr) → Core scope x u
      → Core scope (made.unary at un.Complement x) (b.inverted at u)
  core-inverted scope x u g = (
    ap (λ p. unary_by at un.Complement (type_of p) p) g.0 ∙ ap (λ p. unary_by at un.Complement p u) g.1,
    refl,
  )

  abbrev pub Cores : Scope → List NameId → List CoreExpr → Type 0
  Cores scope [] [] = Unit {0}
  Cores scope (n ∷ ns) (u ∷ us) = Core scope (made.variable at n) u × Cores scope ns us
  Cores scope ns us = ⊥

  pub cores-both : (scope : Scope) (ns ms : List NameId) (us vs : List CoreExpr) → Cores scope ns us
      → Cores scope ms vs → Cores scope (ns ++ ms) (us ++ vs)
  cores-both scope [] ms [] vs g h = h
  cores-both scope [] ms (u ∷ us) vs g h = absurd g
  cores-both scope (n ∷ ns) ms [] vs g h = absurd g
  cores-both scope (n ∷ ns) ms (u ∷ us) vs g h = (g.0, cores-both scope ns ms us vs g.1 h)

  pub core-joined : (o : BinOp) (sign : IsSign o) (scope : Scope) (x : ExprTree) (u : CoreExpr) (ns : List NameId)
      (us : List CoreExpr) → Core scope x u → Cores scope ns us → Core scope (t.joined at o x ns) (b.joined at o u us)
  core-joined o sign scope x u [] [] g h = g
  core-joined o sign scope x u [] (v ∷ us) g h = absurd h
  core-joined o sign scope x u (n ∷ ns) [] g h = absurd h
  core-joined o sign scope x u (n ∷ ns) (v ∷ us) g h =
      core-joined o sign scope (made.binary at o x (made.variable at n)) (b.both at o u v) ns us
      (core-binary o sign scope x (made.variable at n) u v g h.0).0 h.1

  pub value-joined : (o : BinOp) (sign : IsSign o) (scope : Scope) (x : ExprTree) (u : CoreExpr) (ns : List NameId)
      (us : List CoreExpr) → Value scope x u → Cores scope ns us
      → Value scope (t.joined at o x ns) (b.joined at o u us)
  value-joined o sign scope x u [] [] g h = g
  value-joined o sign scope x u [] (v ∷ us) g h = absurd h
  value-joined o sign scope x u (n ∷ ns) [] g h = absurd h
  value-joined o sign scope x u (n ∷ ns) (v ∷ us) g h =
      value-joined o sign scope (made.binary at o x (made.variable at n)) (b.both at o u v) ns us
      (core-binary o sign scope x (made.variable at n) u v g.0 h.0) h.1

  pub core-all-joined : (o : BinOp) (sign : IsSign o) (scope : Scope) (ns : List NameId) (us : List CoreExpr)
      → Cores scope ns us → Core scope (t.all_joined at o ns) (b.all_joined at o us)
  core-all-joined o sign scope [] [] h = (refl, refl)
  core-all-joined o sign scope [] (v ∷ us) h = absurd h
  core-all-joined o sign scope (n ∷ ns) [] h = absurd h
  core-all-joined o sign scope (n ∷ ns) (v ∷ us) h =
      core-joined o sign scope (made.variable at n) v ns us h.0 h.1

  -- of two at least
  pub value-all-joined : (o : BinOp) (sign : IsSign o) (scope : Scope) (ns : List NameId) (us : List CoreExpr)
      → 2 ≤ length ns → Cores scope ns us → Value scope (t.all_joined at o ns) (b.all_joined at o us)
  value-all-joined o sign scope [] us l h = absurd (omega arith)
  value-all-joined o sign scope (n ∷ []) us l h = absurd (omega arith)
  value-all-joined o sign scope (n ∷ k ∷ ns) [] l h = absurd h
  value-all-joined o sign scope (n ∷ k ∷ ns) (v ∷ []) l h = absurd h.1
  value-all-joined o sign scope (n ∷ k ∷ ns) (u ∷ v ∷ us) l h =
      value-joined o sign scope (made.binary at o (made.variable at n) (made.variable at k)) (b.both at o u v) ns us
      (core-binary o sign scope (made.variable at n) (made.variable at k) u v h.0 h.1.0) h.1.1

  -- ---- declarations

  pub record Declares (scope : Scope) (trees : List StmtTree) (stmts : List CoreStmt) (gs : Groups)
      (names : List ℕ) : Type 0 where
    pub after : Scope
    pub comes : Comes scope trees after stmts
    pub stand : Stand after gs
    pub left : Left after names

  pub declares-both : (scope : Scope) (xs ys : List StmtTree) (cs ds : List CoreStmt) (gs hs : Groups)
      (left last : List ℕ) → (g : Declares scope xs cs gs left)
      → ((next : Scope) → Stand next gs → Left next left → Declares next ys ds hs last)
      → Declares scope (xs ++ ys) (cs ++ ds) hs last
  declares-both scope xs ys cs ds gs hs left last g h =
      let k = h g.after g.stand g.left in
      record {
        after = k.after;
        comes = comes-both scope g.after k.after xs ys cs ds g.comes k.comes;
        stand = k.stand;
        left = k.left;
      }

  module _ (scope : Scope) (name : ℕ) (free : IsFree scope name) where
    abbrev after : Scope
    after = with_name scope name word_thing

    locals-kept : (g : List ℕ) → Each (IsLocal scope) g → Each (IsLocal after) g
    locals-kept [] h = tt
    locals-kept (n ∷ g) h = (with-kept scope name word_thing n word_thing h.0, locals-kept g h.1)

    groups-kept : (gs : Groups) → Each (λ g. Each (IsLocal scope) g) gs → Each (λ g. Each (IsLocal after) g) gs
    groups-kept [] h = tt
    groups-kept (g ∷ gs) h = (locals-kept g h.0, groups-kept gs h.1)

    words-kept : (vs : List CoreWord) → Each (λ (v : CoreWord). IsFree scope v.name) vs
        → Each (λ (v : CoreWord). v.name ≢ name) vs → Each (λ (v : CoreWord). IsFree after v.name) vs
    words-kept [] h n = tt
    words-kept (v ∷ vs) h n =
        (with-other w at class scope name word_thing free v.name h.0 n.0, words-kept vs h.1 n.1)

    names-kept : (names : List ℕ) → Each (IsFree scope) names → Each (λ n. name ≢ n) names
        → Each (IsFree after) names
    names-kept [] h n = tt
    names-kept (x ∷ names) h n =
        (with-other w at class scope name word_thing free x h.0 (λ e. n.0 (sym e)), names-kept names h.1 n.1)

  pub declares-one : (name : NameId) (tree : ExprTree) (core : CoreExpr) (gs : Groups) (scope : Scope)
      (left : List ℕ) → Stand scope gs → Left scope (name.0 ∷ left) → Value scope tree core
      → Declares scope (t.word_local at name tree ∷ []) (b.word_local at name.0 core ∷ []) ((name.0 ∷ []) ∷ gs) left
  declares-one name tree core gs scope left stand names v = record {
    after = with_name scope name.0 word_thing;
    comes = λ more. ap (λ e. cs.more_stmts (cs.declare name.0 word_type (Some e))
        (core_stmts w (with_name scope name.0 word_thing) (s.listed_stmts more)))
        (ap (source_as (is_name tree)) v.0.0 ∙ v.1);
    stand = (
      ((with-there w at class scope name.0 word_thing names.0.0, tt), groups-kept scope name.0 names.0.0 gs stand.0),
      words-kept scope name.0 names.0.0 words stand.1 names.2.0,
    );
    left = (names-kept scope name.0 names.0.0 left names.0.1 names.1.0, names.1.1, names.2.1);
  }

  module _ {X Y : Type 0} (form : X → Y) (name : Y → ℕ) (tree : X → ExprTree) (core : Y → CoreExpr) where
    abbrev pub Later : Groups → List X → Type 0
    Later gs [] = Unit {0}
    Later gs (x ∷ xs) = ((scope : Scope) → Stand scope gs → Value scope (tree x) (core (form x))) × Later gs xs

    more-later : (g : List ℕ) (gs : Groups) (xs : List X) → Later gs xs → Later (g ∷ gs) xs
    more-later g gs [] h = tt
    more-later g gs (x ∷ xs) h = ((λ scope k. h.0 scope (k.0.1, k.1)), more-later g gs xs h.1)

    pub declares-all : (xs : List X) (gs : Groups) (scope : Scope) (left : List ℕ) → Stand scope gs
        → Left scope (map name (map form xs) ++ left) → Later gs xs
        → Declares scope (map (λ x. t.word_local at (record { 0 = name (form x) }) (tree x)) xs)
        (map (λ y. b.word_local at (name y) (core y)) (map form xs)) (map name (map form xs) ∷ gs) left
    declares-all [] gs scope left stand names h = record {
      after = scope;
      comes = λ more. refl;
      stand = ((tt, stand.0), stand.1);
      left = names;
    }
    declares-all (x ∷ xs) gs scope left stand names h =
        let rest = map name (map form xs) in
        let one = declares-one (record { 0 = name (form x) }) (tree x) (core (form x)) gs scope (rest ++ left) stand
        names (h.0 scope stand) in
        let all = declares-all xs ((name (form x) ∷ []) ∷ gs) one.after left one.stand one.left
        (more-later (name (form x) ∷ []) gs xs h.1) in
        record {
          after = all.after;
          comes = comes-both scope one.after all.after
              (t.word_local at (record { 0 = name (form x) }) (tree x) ∷ [])
              (map (λ y. t.word_local at (record { 0 = name (form y) }) (tree y)) xs)
              (b.word_local at (name (form x)) (core (form x)) ∷ [])
              (map (λ y. b.word_local at (name y) (core y)) (map form xs)) one.comes all.comes;
          stand = (((all.stand.0.1.0.0, all.stand.0.0), all.stand.0.1.1), all.stand.1);
          left = all.left;
        }

  -- ---- assignments

  pub assigns-one : (word : CoreWord) (tree : ExprTree) (core : CoreExpr) (scope : Scope) → IsFree scope word.name
      → IsMember w at class word → core_expr w scope tree ≡ core
      → Comes scope (made.assign at (record { 0 = word.name }) tree ∷ []) scope (b.assign at class word core ∷ [])
  assigns-one word tree core scope free is e more =
      ap₂ (λ l u. cs.more_stmts (assign_as at l u) (core_stmts w scope (s.listed_stmts more)))
      (left-member w at class scope word free is) e

  module _ {X Y : Type 0} (form : X → Y) (word : Y → CoreWord) (tree : X → ExprTree) (core : Y → CoreExpr)
      (scope : Scope) where
    abbrev pub Puts : List X → Type 0
    Puts [] = Unit {0}
    Puts (x ∷ xs) =
        IsFree scope (word (form x)).name × IsMember w at class (word (form x))
        × (core_expr w scope (tree x) ≡ core (form x)) × Puts xs

    pub assigns-all : (xs : List X) → Puts xs
        → Comes scope (map (λ x. made.assign at (record { 0 = (word (form x)).name }) (tree x)) xs) scope
        (map (λ y. b.assign at class (word y) (core y)) (map form xs))
    assigns-all [] h = λ more. refl
    assigns-all (x ∷ xs) h =
        comes-both scope scope scope (made.assign at (record { 0 = (word (form x)).name }) (tree x) ∷ [])
        (map (λ y. made.assign at (record { 0 = (word (form y)).name }) (tree y)) xs)
        (b.assign at class (word (form x)) (core (form x)) ∷ [])
        (map (λ y. b.assign at class (word y) (core y)) (map form xs))
        (assigns-one (word (form x)) (tree x) (core (form x)) scope h.0 h.1 h.2) (assigns-all xs h.3)
