-- The statements that are generated for two copies, in core form.
use Rattle.std.proofs.Common.{◌≡◌, ◌≢◌, ℕ, suc, Bool, true, false, cond, List, [], ◌∷◌, ◌++◌, Option, Some, None, refl, ap, ◌∙◌, eq-eqb, ne_eqb}
use Rattle.std.specs.Prelude.{if◌then◌else◌, is_some, nat_eq}
use Rattle.agxx_base.specs.declared.ids.ClassId.{ClassId}
use Rattle.agxx_base.specs.declared.kind.NumKind.{NumKind}
use Rattle.agxx_base.specs.declared.place.Place.{Place}
use Rattle.cxx_tree.specs.declared.operator.BinOp.TheVariants as op
use Rattle.cxx_tree.specs.declared.program.Member.{Member}
use Rattle.cxx_tree.specs.declared.program.TypeName.{TypeName}
use Rattle.cxx_tree.specs.declared.program.TypeName.TheVariants as type_of
use Rattle.cxx_tree.specs.StmtTree.{listed_stmts}
use Rattle.cxx_names.specs.declared.types.ValueType.TheVariants as type
use Rattle.cxx_names.specs.declared.types.Thing.{Thing}
use Rattle.cxx_names.specs.declared.types.Thing.TheVariants as thing
use Rattle.cxx_names.specs.declared.types.Variable.{Variable}
use Rattle.cxx_names.specs.Tables.{named, with_name}
use Rattle.cxx_core.specs.CoreExpr as c
use Rattle.cxx_core.specs.CoreExpr.{CoreExpr, CoreLeft}
use Rattle.cxx_core.specs.CoreStmt as cs
use Rattle.cxx_core.specs.CoreStmt.{CoreStmt, CoreStmts}
use Rattle.cxx_core.specs.CoreProgram.{CoreWord}
use Rattle.cxx_core.specs.Meanings.{Scope, Within, variable_at, left_by, left_at}
use Rattle.cxx_core.specs.ElaboratedExpr.{core_expr, read_as, binary_as, cast_as}
use Rattle.cxx_core.specs.ElaboratedStmt.{core_stmts, assign_as}
use Rattle.cxx_make.specs.Made as made
use Rattle.codec.specs.Part.{unsigned_kind, unsigned_type, unsigned_of}
use Rattle.codec.specs.Copies as copies
use Rattle.codec_laws.specs.Blocks.{Copied, first_of, second_of, own_left, own, repair_block, renew_block}
use Rattle.codec_laws.specs.Elaboration.{number_kind_of, copied, all_copied, IsMember, AreMembers, AllNewTo, AreFound, CopiesElaborate}

pub unsigned-is : (t : TypeName) → unsigned_type t ≡ unsigned_kind (number_kind_of t)
unsigned-is (type_of.Num k) = refl
unsigned-is type_of.Int = refl
unsigned-is type_of.Unsigned = refl
unsigned-is type_of.Void = refl
unsigned-is (type_of.Pointer class) = refl
unsigned-is type_of.Mutex = refl

module _ (w : Within) (at : Place) (class : ClassId) where
  -- a name that stands for nothing in the scope means what it means without locals
  in-scope : (scope : Scope) (name : ℕ) (v : Variable) → named scope name ≡ None
      → variable_at w [] (made.ref at (record { 0 = name })) ≡ Some v
      → variable_at w scope (made.ref at (record { 0 = name })) ≡ Some v
  in-scope scope name v new e = (rw new refl) ∙ e

  pub left-member : (scope : Scope) (word : CoreWord) → named scope word.name ≡ None → IsMember w at class word
      → left_at w scope (made.left at (record { 0 = word.name })) ≡ Some (own_left at class word)
  left-member scope word new h = ap (left_by (made.ref at (record { 0 = word.name })))
      (in-scope scope word.name _ new h.1)

  left-local : (scope : Scope) (name : ℕ) (k : NumKind) → named scope name ≡ Some (thing.Value (type.Number k))
      → left_at w scope (made.left at (record { 0 = name })) ≡ Some (c.variable (c.local name (type.Number k)))
  left-local scope name k e = rw e refl

  pub read-member : (scope : Scope) (word : CoreWord) → named scope word.name ≡ None → IsMember w at class word
      → core_expr w scope (made.variable at (record { 0 = word.name })) ≡ own at class word
  read-member scope word new h = ap (read_as at) (left-member scope word new h)

  pub read-local : (scope : Scope) (name : ℕ) (k : NumKind) → named scope name ≡ Some (thing.Value (type.Number k))
      → core_expr w scope (made.variable at (record { 0 = name })) ≡ c.read (c.variable (c.local name (type.Number k)))
  read-local scope name k e = ap (read_as at) (left-local scope name k e)

  -- the vote, and the statements of a member, over the core form of what they name
  abbrev vote-over : NumKind → CoreExpr → CoreExpr → CoreExpr → CoreExpr
  vote-over k x y z =
      binary_as at op.BitOr (binary_as at op.BitOr (binary_as at op.BitAnd (cast_as at (Some k) x) y)
      (binary_as at op.BitAnd (cast_as at (Some k) x) z))
      (binary_as at op.BitAnd y z)

  abbrev repair-over : ℕ → NumKind → CoreExpr → Option CoreLeft → Option CoreLeft → Option CoreLeft → CoreExpr
      → CoreStmts → CoreStmts
  repair-over vote k e x y z v rest =
      cs.more_stmts (cs.declare vote (type.Number k) (Some (cs.value e)))
      (cs.more_stmts (assign_as at x v) (cs.more_stmts (assign_as at y v) (cs.more_stmts (assign_as at z v) rest)))

  -- ---- what is in scope

  record NewIn (scope : Scope) (m : Copied) : Type 0 where
    member : named scope m.member.name ≡ None
    first : named scope m.first ≡ None
    second : named scope m.second ≡ None
    vote : named scope m.vote ≡ None

  abbrev AllNewIn : Scope → List Copied → Type 0
  AllNewIn scope [] = Unit {0}
  AllNewIn scope (m ∷ ms) = NewIn scope m × AllNewIn scope ms

  new-in-none : (ms : List Copied) → AllNewIn [] ms
  new-in-none [] = tt
  new-in-none (m ∷ ms) = (record { member = refl; first = refl; second = refl; vote = refl }, new-in-none ms)

  at-end : (scope : Scope) (name : ℕ) (t : Thing) → named scope name ≡ None → with_name scope name t
      ≡ scope ++ (name, t) ∷ []
  at-end scope name t e = ap (λ o. if is_some o then scope else scope ++ (name, t) ∷ []) e

  named-end : (scope : Scope) (name : ℕ) (t : Thing) → named scope name ≡ None
      → named (scope ++ (name, t) ∷ []) name ≡ Some t
  named-end [] name t e = ap (λ b. cond b (Some t) None) (eq-eqb name name refl)
  named-end (x ∷ scope) name t e = by (nat_eq name x.0) (λ later. named-end scope name t later) e
    where
      by : (b : Bool) → (named scope name ≡ None → named (scope ++ (name, t) ∷ []) name ≡ Some t)
          → cond b (Some x.1) (named scope name) ≡ None → cond b (Some x.1) (named (scope ++ (name, t) ∷ []) name)
          ≡ Some t
      by true later e = absurd (cc)
      by false later e = later e

  named-other : (scope : Scope) (name other : ℕ) (t : Thing) → named scope other ≡ None → other ≢ name
      → named (scope ++ (name, t) ∷ []) other ≡ None
  named-other [] name other t e n = ap (λ b. cond b (Some t) None) (ne_eqb other name n)
  named-other (x ∷ scope) name other t e n = by (nat_eq other x.0) (λ later. named-other scope name other t later n) e
    where
      by : (b : Bool) → (named scope other ≡ None → named (scope ++ (name, t) ∷ []) other ≡ None)
          → cond b (Some x.1) (named scope other) ≡ None
          → cond b (Some x.1) (named (scope ++ (name, t) ∷ []) other) ≡ None
      by true later e = e
      by false later e = later e

  module _ (scope : Scope) (name : ℕ) (t : Thing) (new : named scope name ≡ None) where
    pub with-there : named (with_name scope name t) name ≡ Some t
    with-there = ap (λ s. named s name) (at-end scope name t new) ∙ named-end scope name t new

    pub with-other : (other : ℕ) → named scope other ≡ None → other ≢ name → named (with_name scope name t) other ≡ None
    with-other other e n = ap (λ s. named s other) (at-end scope name t new) ∙ named-other scope name other t e n

    all-with : (ms : List Copied) → AllNewIn scope ms → AllNewTo w at class name ms
        → AllNewIn (with_name scope name t) ms
    all-with [] h n = tt
    all-with (m ∷ ms) h n =
        let q = h.0 in
        let r = n.0 in (
          record {
            member = with-other m.member.name q.member r.member;
            first = with-other m.first q.first r.first;
            second = with-other m.second q.second r.second;
            vote = with-other m.vote q.vote r.vote;
          },
          all-with ms h.1 n.1,
        )

  -- ---- one member, and all

  module _ (names : List (List ℕ)) where
    abbrev final : Copied → NumKind → CoreStmts → CoreStmts
    final x k rest =
        repair-over x.vote k (vote-over k (own at class x.member) (own at class (first_of x))
        (own at class (second_of x)))
        (Some (own_left at class x.member)) (Some (own_left at class (first_of x)))
        (Some (own_left at class (second_of x)))
        (c.read (c.variable (c.local x.vote (type.Number k)))) rest

    vote-expr : (scope : Scope) (i : ℕ) (m : Member) → NewIn scope (copied names i m)
        → AreMembers w at class (copied names i m)
        → core_expr w scope (copies.vote_of names at m)
        ≡ vote-over (unsigned_of m) (own at class (copied names i m).member)
        (own at class (first_of (copied names i m))) (own at class (second_of (copied names i m)))
    vote-expr scope i m new h =
        let x = copied names i m in
        ap (λ e. vote-over (unsigned_of m) e (core_expr w scope (made.variable at (copies.first_copy names m)))
        (core_expr w scope (made.variable at (copies.second_copy names m))))
        (read-member scope x.member new.member h.member)
        ∙ ap (λ e. vote-over (unsigned_of m) (own at class x.member) e
        (core_expr w scope (made.variable at (copies.second_copy names m))))
        (read-member scope (first_of x) new.first h.first)
        ∙ ap (λ e. vote-over (unsigned_of m) (own at class x.member) (own at class (first_of x)) e)
        (read-member scope (second_of x) new.second h.second)

    repair-core : (scope : Scope) (i : ℕ) (ms : List Member) → AllNewIn scope (all_copied names i ms)
        → AreFound w at class (all_copied names i ms)
        → core_stmts w scope (listed_stmts (copies.repair_from names at i ms))
        ≡ repair_block at class (all_copied names i ms)
    repair-core scope i [] new h = refl
    repair-core scope i (m ∷ ms) new h =
        let x = copied names i m in
        let k = unsigned_of m in
        let t = thing.Value (type.Number k) in
        let later = with_name scope x.vote t in
        let n = new.0 in
        let f = h.0 in
        let lm = left-member later x.member (with-other scope x.vote t n.vote x.member.name n.member h.1) f.member in
        let lf = left-member later (first_of x) (with-other scope x.vote t n.vote x.first n.first h.2) f.first in
        let ls = left-member later (second_of x) (with-other scope x.vote t n.vote x.second n.second h.3) f.second in
        let v = read-local later x.vote k (with-there scope x.vote t n.vote) in
        let rest = repair-core later (suc i) ms (all-with scope x.vote t n.vote
        (all_copied names (suc i) ms) new.1 h.4) h.5 in
        let local = c.read (c.variable (c.local x.vote (type.Number k))) in
        let tail = core_stmts w later (listed_stmts (copies.repair_from names at (suc i) ms)) in
        ap (λ e. repair-over x.vote k e (left_at w later (made.left at m.name.item))
        (left_at w later (made.left at (copies.first_copy names m)))
        (left_at w later (made.left at (copies.second_copy names m)))
        (core_expr w later (made.variable at (copies.vote names i))) tail) (vote-expr scope i m n f)
        ∙ ap (λ l. repair-over x.vote k (vote-over k (own at class x.member) (own at class (first_of x))
        (own at class (second_of x))) l (left_at w later (made.left at (copies.first_copy names m)))
        (left_at w later (made.left at (copies.second_copy names m)))
        (core_expr w later (made.variable at (copies.vote names i))) tail) lm
        ∙ ap (λ l. repair-over x.vote k (vote-over k (own at class x.member) (own at class (first_of x))
        (own at class (second_of x))) (Some (own_left at class x.member)) l
        (left_at w later (made.left at (copies.second_copy names m)))
        (core_expr w later (made.variable at (copies.vote names i))) tail) lf
        ∙ ap (λ l. repair-over x.vote k (vote-over k (own at class x.member) (own at class (first_of x))
        (own at class (second_of x))) (Some (own_left at class x.member)) (Some (own_left at class (first_of x))) l
        (core_expr w later (made.variable at (copies.vote names i))) tail) ls
        ∙ ap (λ e. repair-over x.vote k (vote-over k (own at class x.member) (own at class (first_of x))
        (own at class (second_of x))) (Some (own_left at class x.member)) (Some (own_left at class (first_of x)))
        (Some (own_left at class (second_of x))) e tail) v
        ∙ ap (final x k) rest
        ∙ ap (λ q. final x q (repair_block at class (all_copied names (suc i) ms))) (unsigned-is m.type_name.item)

    abbrev renew-over : Option CoreLeft → Option CoreLeft → CoreExpr → CoreStmts → CoreStmts
    renew-over y z v rest = cs.more_stmts (assign_as at y v) (cs.more_stmts (assign_as at z v) rest)

    renew-core : (i : ℕ) (ms : List Member) → AreFound w at class (all_copied names i ms)
        → core_stmts w [] (listed_stmts (copies.renew_each names at ms)) ≡ renew_block at class (all_copied names i ms)
    renew-core i [] h = refl
    renew-core i (m ∷ ms) h =
        let x = copied names i m in
        let f = h.0 in
        let tail = core_stmts w [] (listed_stmts (copies.renew_each names at ms)) in
        let value = core_expr w [] (made.variable at m.name.item) in
        ap (λ l. renew-over l (left_at w [] (made.left at (copies.second_copy names m))) value tail)
        (left-member [] (first_of x) refl f.first)
        ∙ ap (λ l. renew-over (Some (own_left at class (first_of x))) l value tail)
        (left-member [] (second_of x) refl f.second)
        ∙ ap (λ e. renew-over (Some (own_left at class (first_of x)))
        (Some (own_left at class (second_of x))) e tail) (read-member [] x.member refl f.member)
        ∙ ap (renew-over (Some (own_left at class (first_of x))) (Some (own_left at class (second_of x)))
        (own at class x.member)) (renew-core (suc i) ms h.5)

pub copies-elaborate : CopiesElaborate
copies-elaborate = record {
  repair = λ names w at class ms h. repair-core w at class names [] 1 ms
      (new-in-none w at class (all_copied names 1 ms)) h;
  renew = λ names w at class ms h. renew-core w at class names 1 ms h;
}
