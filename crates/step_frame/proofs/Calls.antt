-- Which calls are left to do, by entries and by items.
use Rattle.std.proofs.Common.{◌≡◌, Bool, true, false, cond, ◌||◌, List, [], ◌∷◌, map, refl, ap, sym, ◌∙◌}
use Rattle.std.specs.List.{list_any}
use Rattle.cxx_core.specs.CoreExpr as c
use Rattle.cxx_core.specs.CoreExpr.{CoreExprs}
use Rattle.cxx_core.specs.CoreStmt as cs
use Rattle.cxx_core.specs.CoreStmt.{CoreStmts, CorePrinted}
use Rattle.cxx_core.specs.ExprView.{exprs_core}
use Rattle.cxx_core.specs.StmtView.{stmts_core, printed_core}
use Rattle.step_machine.specs.Setting.{Setting}
use Rattle.step_machine.specs.Inserted.{is_body_level_call}
use Rattle.step_machine.specs.Item.{Item, stmts_on, exprs_on, printed_on}
use Rattle.step_frame.specs.declared.agenda.Entry.{Entry}
use Rattle.step_frame.specs.declared.agenda.Entry.TheVariants as entry
use Rattle.step_frame.specs.Works.{item_of}
use Rattle.step_frame.specs.Agendas.{entry_on, entries_on, is_call, any_call}

abbrev calls : Setting → List Item → Bool
calls s is = list_any (is_body_level_call s) is

in_stmts : (s : Setting) (ss : CoreStmts) (is : List Item) → calls s (stmts_on ss is) ≡ calls s is
in_stmts s cs.no_stmts is = refl
in_stmts s (cs.more_stmts x xs) is = in_stmts s xs is

in_exprs : (s : Setting) (es : CoreExprs) (is : List Item) → calls s (exprs_on es is) ≡ calls s is
in_exprs s c.no_exprs is = refl
in_exprs s (c.more_exprs x xs) is = in_exprs s xs is

in_printed : (s : Setting) (qs : List CorePrinted) (is : List Item) → calls s (printed_on qs is) ≡ calls s is
in_printed s [] is = refl
in_printed s (cs.text at bytes ∷ qs) is = in_printed s qs is
in_printed s (cs.endl at ∷ qs) is = in_printed s qs is
in_printed s (cs.operand at k e ∷ qs) is = in_printed s qs is
in_printed s (cs.unprintable at ∷ qs) is = in_printed s qs is

or_is : (a b : Bool) → (a || b) ≡ cond a true b
or_is true b = refl
or_is false b = refl

in_entry : (s : Setting) (e : Entry) (is : List Item) → calls s (entry_on e is) ≡ cond (is_call s e) true (calls s is)
in_entry s (entry.One w) is = or_is (is_body_level_call s (item_of w)) (calls s is)
in_entry s (entry.Stmts ss) is = in_stmts s (stmts_core ss.now) is
in_entry s (entry.Exprs es) is = in_exprs s (exprs_core es.now) is
in_entry s (entry.Printed qs) is = in_printed s (map printed_core qs.now) is

pub calls_are : (s : Setting) (es : List Entry) → any_call s es ≡ list_any (is_body_level_call s) (entries_on es)
calls_are s [] = refl
calls_are s (e ∷ es) = ap (cond (is_call s e) true) (calls_are s es) ∙ sym (in_entry s e (entries_on es))
