-- The functions that are generated to enter and leave a part are, in a function of the class, the blocks in core form.
use Rattle.std.specs.Prelude.{◌≡◌, true, [], Some, codes}
use Rattle.agxx_base.specs.Names.{is_known}
use Rattle.agxx_base.specs.declared.ids.ClassId.{ClassId}
use Rattle.agxx_base.specs.declared.ids.NameId.{NameId}
use Rattle.agxx_base.specs.declared.place.Place.{Place}
use Rattle.cxx_tree.specs.declared.program.Access.{Access}
use Rattle.cxx_tree.specs.declared.expr.Callee.TheVariants as callee_of
use Rattle.cxx_tree.specs.StmtTree.{listed_stmts}
use Rattle.cxx_names.specs.declared.types.Thing.TheVariants as thing
use Rattle.cxx_names.specs.declared.types.Variable.TheVariants as variable_of
use Rattle.cxx_core.specs.CoreExpr.{CoreCallee}
use Rattle.cxx_core.specs.Meanings.{Within, variable_at, callee_at}
use Rattle.cxx_core.specs.ElaboratedStmt.{core_stmts}
use Rattle.cxx_make.specs.Made as made
use Rattle.entry_count.specs.PartCode.{counter, mutex, repair, renew, enter_body, leave_body}
use Rattle.steady_laws.specs.EntryBlocks.{count_type, enter_block, leave_block}

-- what the names of the part of a class mean where no local is in scope: a member and a mutex of the class; and the
-- functions of mutexes have numbers
pub record IsPartThere (w : Within) (at : Place) (class : ClassId) (name : NameId) : Type 0 where
  pub counter_access : Access
  pub counter_is : variable_at w [] (made.ref at (counter w.names name))
      ≡ Some (variable_of.Member class counter_access (thing.Value count_type))
  pub mutex_access : Access
  pub mutex_is : variable_at w [] (made.ref at (mutex w.names name))
      ≡ Some (variable_of.Member class mutex_access thing.Mutex)
  pub lock_known : is_known w.names (codes "lock") ≡ true
  pub unlock_known : is_known w.names (codes "unlock") ≡ true

pub record EntryElaborates : Type 0 where
  pub enter : (w : Within) (at : Place) (class : ClassId) (name : NameId) (called : CoreCallee)
      → IsPartThere w at class name → callee_at w [] at (callee_of.Bare (made.ref at (repair w.names name)))
      ≡ Some called
      → core_stmts w [] (listed_stmts (enter_body w.names at name))
      ≡ enter_block at class (counter w.names name).0 (mutex w.names name).0 called
  pub leave : (w : Within) (at : Place) (class : ClassId) (name : NameId) (called : CoreCallee)
      → IsPartThere w at class name → callee_at w [] at (callee_of.Bare (made.ref at (renew w.names name)))
      ≡ Some called
      → core_stmts w [] (listed_stmts (leave_body w.names at name))
      ≡ leave_block at class (counter w.names name).0 (mutex w.names name).0 called
