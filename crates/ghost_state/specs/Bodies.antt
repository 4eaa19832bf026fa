-- Bodies as they are unfolded to items: weaving a body and unfolding it come to the same in either order.
use Rattle.std.specs.Prelude.{◌≡◌, ℕ, ◌+◌, List, [], ◌∷◌, ◌++◌, reverse}
use Rattle.agxx_base.specs.declared.ids.ClassId.{ClassId}
use Rattle.cxx_core.specs.CoreStmt as cs
use Rattle.cxx_core.specs.CoreStmt.{CoreStmts}
use Rattle.cxx_core.specs.CoreProgram.{CoreProgram}
use Rattle.step_machine.specs.Item.{Item, stmts_on}
use Rattle.ghost_state.specs.CoreCodes.{Codes}
use Rattle.ghost_state.specs.Names.{Naming}
use Rattle.ghost_state.specs.ProtectedCore.{returns, ends_in_return, wrapped_stmts, wrapped}
use Rattle.ghost_state.specs.GhostFrames.{GhostItem, stmt, source_body, woven_body, woven_rest, enters_on}

-- statements that so many returns of a value stand before
abbrev pub ghost_stmts : ℕ → CoreStmts → List GhostItem
ghost_stmts n cs.no_stmts = []
ghost_stmts n (cs.more_stmts s ss) = stmt n s ∷ ghost_stmts (n + returns s) ss

pub record BodiesUnfold : Type 0 where
  pub in_source : (n : ℕ) (ss : CoreStmts) (is : List Item) → source_body (ghost_stmts n ss) is ≡ stmts_on ss is
  pub in_woven : (names : Naming) (g : Codes) (p : CoreProgram) (out : List ClassId) (n : ℕ) (ss : CoreStmts) (is : List Item)
      → woven_body names g p out (ghost_stmts n ss) is ≡ stmts_on (wrapped_stmts names g p out n cs.no_stmts ss) is
  -- of a block that others stand behind
  pub source_parts : (a b : List GhostItem) (is : List Item) → source_body (a ++ b) is ≡ source_body a (source_body b is)
  pub woven_parts : (names : Naming) (g : Codes) (p : CoreProgram) (out : List ClassId) (a b : List GhostItem) (is : List Item)
      → woven_body names g p out (a ++ b) is ≡ woven_body names g p out a (woven_body names g p out b is)
  -- a whole body: its parts are entered, and left where it ends
  pub whole : (names : Naming) (g : Codes) (p : CoreProgram) (parts : List ClassId) (body : CoreStmts) (is : List Item)
      → stmts_on (wrapped names g p parts body) is
      ≡ enters_on names g p parts (woven_rest names g p (reverse parts) (ghost_stmts 0 body) (ends_in_return body) is)
