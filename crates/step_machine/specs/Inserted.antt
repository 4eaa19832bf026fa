-- Which steps are inserted: two tests on the item of a step and its frame, one for what protection made and one for what
-- weaving advice made, both by the names that generated code has. Each other step is a source step.
use Rattle.std.specs.Prelude.{ℕ, ◌||◌, ◌&&◌, not, Bool, true, false, List, [], ◌∷◌, length, drop, Option, Some, None, codes, nat_le, slice_get}
use Rattle.std.specs.List.{list_any, list_all}
use Rattle.cxx_names.specs.Declarations.{is_text}
use Rattle.cxx_core.specs.CoreExpr as c
use Rattle.cxx_core.specs.CoreExpr.{CoreExpr, CoreCallee, CoreLeft}
use Rattle.cxx_core.specs.CoreStmt as cs
use Rattle.cxx_core.specs.CoreStmt.{CoreStmt, CoreSource}
use Rattle.step_machine.specs.Setting.{Setting, begins}
use Rattle.step_machine.specs.Item as it
use Rattle.step_machine.specs.Item.{Item}
use Rattle.step_machine.specs.Frame.{Frame}

-- ---- names with a number at their end

abbrev pub is_digit : ℕ → Bool
is_digit byte = nat_le 48 byte && nat_le byte 57

-- a decimal number from 1 on
abbrev pub is_ordinal : List ℕ → Bool
is_ordinal [] = false
is_ordinal (first ∷ rest) = nat_le 49 first && (is_digit first && list_all is_digit rest)

abbrev pub ends_in_ordinal : Option (List ℕ) → ℕ → Bool
ends_in_ordinal None skipped = false
ends_in_ordinal (Some text) skipped = is_ordinal (drop skipped text)

-- whether a name is this beginning with a number
abbrev pub is_numbered : Setting → ℕ → List ℕ → Bool
is_numbered s name beginning =
    begins s.names name beginning && ends_in_ordinal (slice_get s.names name) (length beginning)

-- ---- plain names

-- the name that is read, where it stands alone; parentheses around it are no part of the core form
abbrev pub plain_name : CoreLeft → Option ℕ
plain_name (c.variable (c.local name t)) = Some name
plain_name (c.variable (c.global true name t)) = None
plain_name (c.variable (c.global false name t)) = Some name
plain_name (c.member at c.own class name k) = Some name
plain_name _ = None

abbrev pub expr_name : CoreExpr → Option ℕ
expr_name (c.read l) = plain_name l
expr_name _ = None

-- the name whose value is bound or returned, whatever it is the name of
abbrev pub source_name : CoreSource → Option ℕ
source_name (cs.copy from t) = Some from
source_name (cs.value e) = expr_name e

-- whether there is a name, and it is this beginning with a number
abbrev pub is_numbered_by : Setting → Option ℕ → List ℕ → Bool
is_numbered_by s None beginning = false
is_numbered_by s (Some name) beginning = is_numbered s name beginning

-- ---- what protection made

abbrev pub calls_generated : Setting → CoreCallee → Bool
calls_generated s callee = begins s.names callee.name (codes "__gop_")

abbrev pub expr_by_protection : Setting → CoreExpr → Bool
expr_by_protection s (c.call callee es) = calls_generated s callee
expr_by_protection s _ = false

abbrev pub stmt_by_protection : Setting → CoreStmt → Bool
stmt_by_protection s (cs.run e) = expr_by_protection s e
stmt_by_protection s (cs.return_value at t source) = is_numbered_by s (source_name source) (codes "__gop_r_")
stmt_by_protection s _ = false

abbrev pub item_by_protection : Setting → Item → Bool
item_by_protection s (it.stmt x) = stmt_by_protection s x
item_by_protection s (it.expr e) = expr_by_protection s e
item_by_protection s (it.call callee) = calls_generated s callee
item_by_protection s _ = false

abbrev pub by_protection : Setting → Item → Frame → Bool
by_protection s i f = f.is_generated || item_by_protection s i

-- ---- what weaving advice made

-- the parameter of a level
abbrev pub is_level_parameter : Setting → Option ℕ → Bool
is_level_parameter s name = is_numbered_by s name (codes "__ag_a")

-- a level at a construction or destruction
abbrev pub calls_body_level : Setting → CoreCallee → Bool
calls_body_level s callee = not callee.is_global && is_numbered s callee.name (codes "__ag_c_")

abbrev pub expr_by_advice : Setting → CoreExpr → Bool
expr_by_advice s (c.read l) = is_level_parameter s (plain_name l)
expr_by_advice s (c.call callee es) = calls_body_level s callee
expr_by_advice s _ = false

abbrev pub runs_body_level : Setting → CoreExpr → Bool
runs_body_level s (c.call callee es) = calls_body_level s callee
runs_body_level s _ = false

abbrev pub stmt_by_advice : Setting → CoreStmt → Bool
stmt_by_advice s (cs.run e) = runs_body_level s e
stmt_by_advice s (cs.declare name t None) = is_text s.names name (codes "__ag_r")
stmt_by_advice s (cs.declare name t (Some source)) =
    is_level_parameter s (source_name source) && not (begins s.names name (codes "__gop_r_"))
stmt_by_advice s _ = false

-- an item that stands above such a call belongs to its arguments
abbrev pub is_body_level_call : Setting → Item → Bool
is_body_level_call s (it.call callee) = calls_body_level s callee
is_body_level_call s _ = false

abbrev pub item_by_advice : Setting → Item → Bool
item_by_advice s (it.stmt x) = stmt_by_advice s x
item_by_advice s (it.expr e) = expr_by_advice s e
item_by_advice s _ = false

abbrev pub by_advice : Setting → Item → Frame → Bool
by_advice s i f = item_by_advice s i || list_any (is_body_level_call s) f.items

-- ---- both

-- a step of an item that was taken off a frame
abbrev pub is_inserted : Setting → Item → Frame → Bool
is_inserted s i f = by_protection s i f || by_advice s i f
