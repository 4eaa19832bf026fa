-- Weaving a body and unfolding it to items, in either order.
use Rattle.std.proofs.Common.{◌≡◌, ℕ, ◌+◌, List, [], ◌∷◌, ◌++◌, refl, sym, ap, ◌∙◌}
use Rattle.std.specs.Prelude.{Bool, true, false, reverse, Some}
use Rattle.agxx_base.specs.declared.ids.ClassId.{ClassId}
use Rattle.agxx_base.specs.declared.place.Place.{Place}
use Rattle.cxx_names.specs.declared.types.ValueType.{ValueType}
use Rattle.cxx_core.specs.CoreStmt as cs
use Rattle.cxx_core.specs.CoreStmt.{CoreStmt, CoreStmts}
use Rattle.cxx_core.specs.CoreProgram.{CoreProgram}
use Rattle.step_machine.specs.Item as it
use Rattle.step_machine.specs.Item.{Item, stmts_on}
use Rattle.ghost_state.specs.CoreCodes.{Codes}
use Rattle.ghost_state.specs.Names.{Naming}
use Rattle.ghost_state.specs.ProtectedCore.{returns, ends_in_return, enters, leaves, at_end, wrapped_stmts, wrapped_stmt, wrapped, leave_callee, enter_callee}
use Rattle.ghost_state.specs.EntryFrames.{as_stmt, call_on}
use Rattle.ghost_state.specs.GhostFrames.{GhostItem, source_item, source_body, woven_item, woven_body, woven_rest, closing, enters_on, leaves_on}
use Rattle.ghost_state.specs.Bodies.{ghost_stmts, BodiesUnfold}

source-unfolds : (n : ℕ) (ss : CoreStmts) (is : List Item) → source_body (ghost_stmts n ss) is ≡ stmts_on ss is
source-unfolds n cs.no_stmts is = refl
source-unfolds n (cs.more_stmts s ss) is = ap (λ l. it.stmt s ∷ l) (source-unfolds (n + returns s) ss is)

source-parts : (a b : List GhostItem) (is : List Item) → source_body (a ++ b) is ≡ source_body a (source_body b is)
source-parts [] b is = refl
source-parts (i ∷ a) b is = ap (source_item i) (source-parts a b is)

module _ (names : Naming) (g : Codes) (p : CoreProgram) where
  leaves-unfold : (out : List ClassId) (ss : CoreStmts) (is : List Item) → stmts_on (leaves names g p out ss) is ≡ leaves_on names g p out (stmts_on ss is)
  leaves-unfold [] ss is = refl
  leaves-unfold (class ∷ out) ss is = ap (call_on as_stmt (leave_callee names g p class)) (leaves-unfold out ss is)

  enters-unfold : (parts : List ClassId) (ss : CoreStmts) (is : List Item) → stmts_on (enters names g p parts ss) is ≡ enters_on names g p parts (stmts_on ss is)
  enters-unfold [] ss is = refl
  enters-unfold (class ∷ parts) ss is = ap (call_on as_stmt (enter_callee names g p class)) (enters-unfold parts ss is)

  returns-unfold : (out : List ClassId) (n : ℕ) (at : Place) (t : ValueType) (source : cs.CoreSource) (rest : CoreStmts) (is : List Item)
      → stmts_on (wrapped_stmt names g p out n rest (cs.return_value at t source)) is ≡ stmts_on (wrapped_stmt names g p out n cs.no_stmts (cs.return_value at t source)) (stmts_on rest is)
  returns-unfold [] n at t source rest is = refl
  returns-unfold (class ∷ out) n at t source rest is =
      let given = cs.return_value at t (cs.copy (names.result n) t) in
      ap (λ l. it.stmt (cs.declare (names.result n) t (Some source)) ∷ l)
      (leaves-unfold (class ∷ out) (cs.more_stmts given rest) is
      ∙ sym (leaves-unfold (class ∷ out) (cs.more_stmts given cs.no_stmts) (stmts_on rest is)))

  module _ (out : List ClassId) where
    stmt-unfolds : (n : ℕ) (rest : CoreStmts) (s : CoreStmt) (is : List Item)
        → stmts_on (wrapped_stmt names g p out n rest s) is ≡ stmts_on (wrapped_stmt names g p out n cs.no_stmts s) (stmts_on rest is)
    stmt-unfolds n rest (cs.return at) is =
        leaves-unfold out (cs.more_stmts (cs.return at) rest) is
        ∙ sym (leaves-unfold out (cs.more_stmts (cs.return at) cs.no_stmts) (stmts_on rest is))
    stmt-unfolds n rest (cs.return_value at t source) is = returns-unfold out n at t source rest is
    stmt-unfolds n rest s is = refl

    woven-unfolds : (n : ℕ) (after ss : CoreStmts) (is : List Item)
        → stmts_on (wrapped_stmts names g p out n after ss) is ≡ woven_body names g p out (ghost_stmts n ss) (stmts_on after is)
    woven-unfolds n after cs.no_stmts is = refl
    woven-unfolds n after (cs.more_stmts s ss) is =
        stmt-unfolds n (wrapped_stmts names g p out (n + returns s) after ss) s is
        ∙ ap (stmts_on (wrapped_stmt names g p out n cs.no_stmts s)) (woven-unfolds (n + returns s) after ss is)

    woven-parts : (a b : List GhostItem) (is : List Item) → woven_body names g p out (a ++ b) is ≡ woven_body names g p out a (woven_body names g p out b is)
    woven-parts [] b is = refl
    woven-parts (i ∷ a) b is = ap (woven_item names g p out i) (woven-parts a b is)

    end-unfolds : (closed : Bool) (is : List Item) → stmts_on (at_end names g p out closed) is ≡ closing names g p out closed is
    end-unfolds true is = refl
    end-unfolds false is = leaves-unfold out cs.no_stmts is

  whole-unfolds : (parts : List ClassId) (body : CoreStmts) (is : List Item)
      → stmts_on (wrapped names g p parts body) is ≡ enters_on names g p parts (woven_rest names g p (reverse parts) (ghost_stmts 0 body) (ends_in_return body) is)
  whole-unfolds parts body is =
      enters-unfold parts (wrapped_stmts names g p (reverse parts) 0 (at_end names g p (reverse parts) (ends_in_return body)) body) is
      ∙ ap (enters_on names g p parts) (woven-unfolds (reverse parts) 0 (at_end names g p (reverse parts) (ends_in_return body)) body is
      ∙ ap (woven_body names g p (reverse parts) (ghost_stmts 0 body)) (end-unfolds (reverse parts) (ends_in_return body) is))

pub bodies-unfold : BodiesUnfold
bodies-unfold = record {
  in_source = source-unfolds;
  in_woven = λ names g p out n ss is. sym (woven-unfolds names g p out n cs.no_stmts ss is);
  source_parts = source-parts;
  woven_parts = woven-parts;
  whole = whole-unfolds;
}
