-- The items that entries of an agenda stand for.
use Rattle.std.specs.Prelude.{◌≡◌, List, [], ◌∷◌, map, Bool, true, false, Option, MatchOption, if◌then◌else◌}
use Rattle.cxx_core.specs.ExprView.{exprs_core}
use Rattle.cxx_core.specs.StmtView.{stmts_core, printed_core}
use Rattle.step_machine.specs.Setting.{Setting}
use Rattle.step_machine.specs.Inserted.{is_body_level_call}
use Rattle.step_machine.specs.Item.{Item, stmts_on, exprs_on, printed_on}
use Rattle.step_frame.specs.declared.agenda.Entry.{Entry}
use Rattle.step_frame.specs.declared.agenda.Entry.TheVariants as entry
use Rattle.step_frame.specs.declared.work.Work.{Work}
use Rattle.step_frame.specs.Works.{item_of}

abbrev pub entry_on : Entry → List Item → List Item
entry_on (entry.One w) is = item_of w ∷ is
entry_on (entry.Stmts ss) is = stmts_on (stmts_core ss.now) is
entry_on (entry.Exprs es) is = exprs_on (exprs_core es.now) is
entry_on (entry.Printed qs) is = printed_on (map printed_core qs.now) is

-- the first at the head
abbrev pub entries_on : List Entry → List Item
entries_on [] = []
entries_on (e ∷ es) = entry_on e (entries_on es)

-- what is left to do before and after the next item was taken, if there is one
abbrev pub IsNext : List Item → List Item → Option Work → Type 0
IsNext old new next = MatchOption next ((old ≡ []) × (new ≡ [])) (λ w. old ≡ item_of w ∷ new)

-- what was taken off an entry that stood on others, and what stands now
abbrev pub IsFirst : Entry → List Entry → List Entry → Option Work → Type 0
IsFirst e old new first =
    MatchOption first ((entry_on e (entries_on old) ≡ entries_on old) × (new ≡ old))
    (λ w. entry_on e (entries_on old) ≡ item_of w ∷ entries_on new)

-- whether an entry is a call of a level at a construction or destruction
abbrev pub is_call : Setting → Entry → Bool
is_call s (entry.One w) = is_body_level_call s (item_of w)
is_call s _ = false

abbrev pub any_call : Setting → List Entry → Bool
any_call s [] = false
any_call s (e ∷ es) = if is_call s e then true else any_call s es
