-- What is generated to enter and leave a part, in core form.
use Rattle.std.proofs.Common.{◌≡◌, ℕ, true, false, List, [], Some, refl, ap, ◌∙◌, codes}
use Rattle.std.specs.Str.{bytes_eq}
use Rattle.std.proofs.lemmas.Slice.Eq.{bytes_eq-Decides}
use Rattle.agxx_base.specs.Names.{is_known, number_of}
use Rattle.agxx_base.proofs.Interning.{at-number}
use Rattle.agxx_base.specs.declared.ids.ClassId.{ClassId}
use Rattle.agxx_base.specs.declared.ids.NameId.{NameId}
use Rattle.agxx_base.specs.declared.place.Place.{Place}
use Rattle.cxx_tree.specs.declared.operator.BinOp.{BinOp}
use Rattle.cxx_tree.specs.declared.operator.BinOp.TheVariants as op
use Rattle.cxx_tree.specs.declared.expr.Callee.TheVariants as callee_of
use Rattle.cxx_tree.specs.StmtTree.{listed_stmts}
use Rattle.cxx_names.specs.Declarations.{is_text}
use Rattle.cxx_core.specs.CoreExpr as c
use Rattle.cxx_core.specs.CoreExpr.{CoreCallee, CoreExpr}
use Rattle.cxx_core.specs.CoreStmt as cs
use Rattle.cxx_core.specs.CoreStmt.{CoreStmt}
use Rattle.cxx_core.specs.Meanings.{Within, variable_at, callee_at, left_by, left_at, mutex_stmt, on_variable}
use Rattle.cxx_core.specs.ElaboratedExpr.{core_expr, read_as, binary_as}
use Rattle.cxx_core.specs.ElaboratedStmt.{core_stmt, core_stmts}
use Rattle.cxx_make.specs.Made as made
use Rattle.cxx_make.specs.Generated.{named}
use Rattle.entry_count.specs.PartCode as part
use Rattle.steady_laws.specs.EntryBlocks as b
use Rattle.steady_laws.specs.Elaboration.{IsPartThere, EntryElaborates}

module _ (names : List (List ℕ)) where
  known-text : (text : List ℕ) → is_known names text ≡ true → is_text names (number_of names text) text ≡ true
  known-text text known = rw (at-number names text known) ((bytes_eq-Decides text text).1 refl)

  other-text : (text other : List ℕ) → is_known names text ≡ true → bytes_eq text other ≡ false
      → is_text names (number_of names text) other ≡ false
  other-text text other known differ = rw (at-number names text known) differ

module _ (w : Within) (at : Place) (class : ClassId) (name : NameId) (there : IsPartThere w at class name) where
  abbrev counter : ℕ
  counter = (part.counter w.names name).0

  abbrev mutex : ℕ
  mutex = (part.mutex w.names name).0

  -- ---- the lock

  on-mutex : (word : ℕ) (call : CoreStmt)
      → on_variable w at (made.ref at (part.mutex w.names name)) word
      (variable_at w [] (made.ref at (part.mutex w.names name))) call
      ≡ mutex_stmt w at (cs.member_mutex class mutex) word
  on-mutex word call = ap (λ v. on_variable w at (made.ref at (part.mutex w.names name)) word v call) there.mutex_is

  takes : core_stmt w [] (part.take_lock w.names at name) ≡ b.take_lock at class counter mutex
  unfolding part.take_lock
  takes = on-mutex (named w.names (codes "lock")).0 _ ∙ rw (known-text w.names (codes "lock") there.lock_known) refl

  frees : core_stmt w [] (part.free_lock w.names at name) ≡ cs.unlock at (cs.member_mutex class mutex)
  unfolding part.free_lock
  frees =
      on-mutex (named w.names (codes "unlock")).0 _ ∙ rw (
        other-text w.names (codes "unlock") (codes "lock") there.unlock_known refl,
        known-text w.names (codes "unlock")
            there.unlock_known,
      ) refl

  -- ---- the counter

  left-is : left_at w [] (made.left at (part.counter w.names name)) ≡ Some (b.count at class counter mutex)
  left-is = ap (left_by (made.ref at (part.counter w.names name))) there.counter_is

  read-is : core_expr w [] (made.variable at (part.counter w.names name)) ≡ c.read (b.count at class counter mutex)
  read-is = ap (read_as at) left-is

  counts-is : (o : BinOp) → binary_as at o (c.read (b.count at class counter mutex)) (b.number at class counter mutex 1)
      ≡ b.with_count at class counter mutex o 1
      → core_stmt w [] (part.counts w.names at name o) ≡ b.counts at class counter mutex o
  unfolding part.counts
  counts-is o binary = rw (left-is, binary) refl

  when-is : (function : NameId) (called : CoreCallee) → callee_at w [] at (callee_of.Bare (made.ref at function))
      ≡ Some called
      → core_stmt w [] (part.when_zero w.names at name function) ≡ b.when_zero at class counter mutex called
  unfolding part.when_zero part.is_zero
  when-is function called is = rw (read-is, is) refl

  -- ---- both functions

  enters : (called : CoreCallee) → callee_at w [] at (callee_of.Bare (made.ref at (part.repair w.names name)))
      ≡ Some called
      → core_stmts w [] (listed_stmts (part.enter_body w.names at name)) ≡ b.enter_block at class counter mutex called
  unfolding part.enter_body part.repairs part.counts part.free_lock part.take_lock part.when_zero
  enters called is = rw (takes, when-is (part.repair w.names name) called is, counts-is op.Add refl, frees) refl

  leaves : (called : CoreCallee) → callee_at w [] at (callee_of.Bare (made.ref at (part.renew w.names name)))
      ≡ Some called
      → core_stmts w [] (listed_stmts (part.leave_body w.names at name)) ≡ b.leave_block at class counter mutex called
  unfolding part.leave_body part.renews part.counts part.free_lock part.take_lock part.when_zero
  leaves called is = rw (takes, counts-is op.Subtract refl, when-is (part.renew w.names name) called is, frees) refl

pub entry-elaborates : EntryElaborates
entry-elaborates = record {
  enter = λ w at class name called there is. enters w at class name there called is;
  leave = λ w at class name called there is. leaves w at class name there called is;
}
