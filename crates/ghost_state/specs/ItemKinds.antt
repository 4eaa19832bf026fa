-- What an item looks at and changes, by which the lemmas on turns of the source are cut.
use Rattle.cxx_core.specs.CoreExpr as c
use Rattle.cxx_core.specs.CoreExpr.{CoreExpr, CoreLeft}
use Rattle.cxx_core.specs.CoreStmt as cs
use Rattle.cxx_core.specs.CoreStmt.{CoreStmt}
use Rattle.step_machine.specs.Item as it
use Rattle.step_machine.specs.Item.{Item}

pub data ItemKind : Type 0 where
  -- looks at its frame alone
  frame_only : ItemKind
  unfolds : ItemKind
  member : ItemKind
  global : ItemKind
  printing : ItemKind
  calling : ItemKind
  making : ItemKind
  deleting : ItemKind
  spawning : ItemKind
  joining : ItemKind
  locking : ItemKind
  returning : ItemKind
  leaving_frame : ItemKind
  finishing : ItemKind

abbrev pub left_kind : CoreLeft → ItemKind
left_kind (c.variable (c.local name t)) = frame_only
left_kind (c.variable (c.global is_global name t)) = global
left_kind (c.member at o class name k) = member

abbrev pub expr_kind : CoreExpr → ItemKind
expr_kind (c.read l) = left_kind l
expr_kind e = frame_only

abbrev pub stmt_kind : CoreStmt → ItemKind
stmt_kind (cs.join at name) = joining
stmt_kind (cs.lock at m) = locking
stmt_kind (cs.unlock at m) = locking
stmt_kind (cs.return at) = returning
stmt_kind (cs.return_value at t x) = returning
stmt_kind s = unfolds

abbrev pub item_kind : Item → ItemKind
item_kind (it.make at o class es) = calling
item_kind (it.build at o class) = calling
item_kind (it.unmake at o class) = deleting
item_kind it.run = calling
item_kind it.finish = finishing
item_kind (it.stmt s) = stmt_kind s
item_kind (it.expr e) = expr_kind e
item_kind (it.put l) = left_kind l
item_kind (it.print at) = printing
item_kind (it.show at text) = printing
item_kind (it.branch a b) = unfolds
item_kind (it.loop e body) = unfolds
item_kind (it.for_test e step body) = unfolds
item_kind (it.for_loop e step body) = unfolds
item_kind (it.call f) = calling
item_kind (it.new at class) = making
item_kind (it.delete at class) = deleting
item_kind (it.spawn at name f) = spawning
item_kind (it.up at f) = calling
item_kind (it.down at f) = calling
item_kind (it.keep t) = returning
item_kind (it.leave at) = leaving_frame
item_kind (it.end at ending) = leaving_frame
item_kind i = frame_only
