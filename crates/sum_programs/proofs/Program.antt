-- A whole program: its core form, its start and its end.
use Rattle.std.proofs.Common.{◌≡◌, ℕ, ◌+◌, Bool, true, false, cond, List, [], ◌∷◌, Some, None, refl, ap, sym, subst, ◌∙◌, arith, eq-eqb, pos}
use Rattle.std.specs.Prelude.{nat_eq, nat_lt, ◌||◌, if◌then◌else◌, codes, sum_by, Option}
use Rattle.std.specs.List.{starts_with}
use Rattle.std.specs.Str.{bytes_eq}
use Rattle.std.proofs.lemmas.List.Folds.{find_at}
use Rattle.std.specs.List.{find}
use Rattle.std.proofs.lemmas.Slice.Eq.{bytes_eq-Decides}
use Rattle.agxx_base.specs.Names.{number_of}
use Rattle.agxx_base.specs.declared.kind.NumKind.TheVariants as num
use Rattle.cxx_tree.specs.StmtTree as s
use Rattle.cxx_names.specs.declared.types.ValueType.{ValueType}
use Rattle.cxx_names.specs.declared.declarations.Declared.{Declared}
use Rattle.cxx_names.specs.Declarations.{declared}
use Rattle.cxx_core.specs.CoreExpr as c
use Rattle.cxx_core.specs.CoreStmt as cs
use Rattle.cxx_core.specs.CoreStmt.{CoreStmts}
use Rattle.cxx_core.specs.CoreProgram as cp
use Rattle.cxx_core.specs.CoreProgram.{CoreFunction, CoreProgram}
use Rattle.cxx_core.specs.Meanings.{Within, type_named}
use Rattle.cxx_core.specs.ElaboratedStmt.{core_stmts, core_block}
use Rattle.cxx_core.specs.ElaboratedProgram.{core_program, outside}
use Rattle.step_machine.specs.Setting.{Setting, begins_by, begins}
use Rattle.step_machine.specs.Item as it
use Rattle.step_machine.specs.Item.{Item, stmts_on}
use Rattle.step_machine.specs.Item.{function_items}
use Rattle.agxx_base.specs.declared.place.Place.{Place}
use Rattle.cxx_arith.specs.declared.value.Value.{Value}
use Rattle.step_machine.specs.declared.datum.Datum.{Datum}
use Rattle.step_machine.specs.declared.outcome.State.{State}
use Rattle.step_machine.specs.declared.outcome.State.TheVariants as state
use Rattle.step_machine.specs.declared.outcome.Stop.TheVariants as stop
use Rattle.step_machine.specs.Frame.{Frame}
use Rattle.step_machine.specs.Effects as on
use Rattle.step_machine.specs.Effects.{Act, goes, stops}
use Rattle.step_machine.specs.ActEnter.{depth_limit}
use Rattle.step_machine.specs.Machine.{Machine}
use Rattle.step_machine.specs.Start.{start}
use Rattle.sum_programs.proofs.Turns.{IsAlone, Goes, onward}
use Rattle.sum_programs.proofs.Steps.{frame, in_main, int32, one, acting, literal}
use Rattle.sum_programs.specs.SumPrograms as p
use Rattle.sum_programs.specs.SumPrograms.{MainType, int, Print, SumProgram, type_of_main, main_tree, tree_of, prints_before, return_tree, printed, steps_of, steps_of_print}
use Rattle.sum_programs.specs.Laws.{setting_of, IsInLimits}
use Rattle.sum_programs.proofs.Sums.{int_type, operands-are, prints_on, prints}

-- ---- the name of `main` isn't one that protection makes

abbrev main_text : List ℕ
main_text = codes "main"

main-plain : (text : List ℕ) → main_text ≡ text → starts_with nat_eq text (codes "__gop_") ≡ false
main-plain text h = ap (λ x. starts_with nat_eq x (codes "__gop_")) (sym h)

found-plain : (names : List (List ℕ)) → begins_by (find (bytes_eq main_text) names) (codes "__gop_") ≡ false
found-plain [] = refl
found-plain (text ∷ names) = go (bytes_eq main_text text) refl (found-plain names)
  where
    go : (b : Bool) → bytes_eq main_text text ≡ b → begins_by (find (bytes_eq main_text) names) (codes "__gop_") ≡ false → begins_by (cond b (Some text) (find (bytes_eq main_text) names)) (codes "__gop_") ≡ false
    go true h more = main-plain text ((bytes_eq-Decides main_text text).0 h)
    go false h more = more

main-begins : (names : List (List ℕ)) → begins names (number_of names main_text) (codes "__gop_") ≡ false
main-begins names = ap (λ x. begins_by x (codes "__gop_")) (sym (find_at (bytes_eq main_text) names)) ∙ found-plain names

-- ---- the core program

result-is : (d : Declared) (r : MainType) → type_named d (type_of_main r) ≡ Some int_type
result-is d int = refl
result-is d p.int32 = refl

abbrev within : List (List ℕ) → SumProgram → Within
within names d = record (outside names (declared names (tree_of names d))) { result = Some int_type }

abbrev main_function : List (List ℕ) → SumProgram → Option ValueType → CoreFunction
main_function names d result = record {
  number = 0;
  name = (main_tree names d).name;
  class = None;
  kind = cp.plain;
  params = [];
  result = result;
  base = None;
  base_arguments = c.no_exprs;
  body = core_block (record (outside names (declared names (tree_of names d))) { result = result }) [] (main_tree names d).body;
}

abbrev core_of : List (List ℕ) → SumProgram → Option ValueType → Option ℕ → CoreProgram
core_of names d result main = record { functions = main_function names d result ∷ []; classes = []; globals = []; main = main }

main-is : (names : List (List ℕ)) (d : SumProgram) → (core_program names (tree_of names d)).main ≡ Some 0
main-is names d = rw (eq-eqb (number_of names main_text) (number_of names main_text) refl)

core-is : (names : List (List ℕ)) (d : SumProgram) → core_program names (tree_of names d) ≡ core_of names d (Some int_type) (Some 0)
core-is names d =
    ap (λ r. core_of names d r (core_program names (tree_of names d)).main) (result-is (declared names (tree_of names d)) d.result)
    ∙ ap (core_of names d (Some int_type)) (main-is names d)

-- the items of its body
body-items : (w : Within) (last : s.StmtTrees) (qs : List Print) (items : List Item)
    → stmts_on (core_stmts w [] (prints_before last qs)) items ≡ prints_on qs (stmts_on (core_stmts w [] last) items)
body-items w last [] items = refl
body-items w last (q ∷ qs) items = λ i. it.stmt (cs.print (operands-are w [] q.operands i)) ∷ body-items w last qs items i

-- ---- the run

abbrev pub set_to : List (List ℕ) → SumProgram → Setting
set_to names d = record { names = names; program = core_of names d (Some int_type) (Some 0) }

pub setting-is : (names : List (List ℕ)) (d : SumProgram) → setting_of names (tree_of names d) ≡ set_to names d
setting-is names d = ap (λ x. record { names = names; program = x }) (core-is names d)

-- `return 0;` and the end of the body
abbrev last_items : SumProgram → List Item
last_items d =
    it.stmt (cs.return_value d.return_at int_type (cs.value (c.number (record { kind = num.I32; bits = 0 })))) ∷ it.end d.main_at it.lacks_value ∷ []

abbrev main_items : SumProgram → List Item
main_items d = prints_on d.prints (last_items d)

items-are : (names : List (List ℕ)) (d : SumProgram) → function_items (main_function names d (Some int_type)) it.lacks_value ≡ main_items d
items-are names d = body-items (within names d) (return_tree d) d.prints (it.end d.main_at it.lacks_value ∷ [])

-- the frame in which a run starts, at `main` and behind it
abbrev base : List Datum → List Item → Frame
base values items = record {
  function = None;
  is_generated = false;
  this = None;
  locals = [];
  threads = [];
  values = values;
  kept = None;
  items = items;
}

abbrev entered : Bool → List Item → Frame
entered is_generated items = record (frame [] items) { is_generated = is_generated }

abbrev enters_if : Bool → SumProgram → List Item → Act
enters_if is_generated d items =
    if is_generated || nat_lt 1 depth_limit then goes (base [] (it.finish ∷ [])) (on.enter (entered is_generated items)) else stops stop.Depth d.main_at

abbrev below : List Frame
below = base [] (it.finish ∷ []) ∷ []

begun : (names : List (List ℕ)) (d : SumProgram) → Goes (start (set_to names d)) 1 (in_main (set_to names d) below [] (main_items d) [])
begun names d =
    one (start (set_to names d)) (in_main (set_to names d) below [] (main_items d) []) false (record { running = refl; lone = λ t. refl }) refl
    (ap (λ b. acting (start (set_to names d)) (base [] (it.finish ∷ [])) it.run [] (enters_if b d (function_items (main_function names d (Some int_type)) it.lacks_value))) (main-begins names)
    ∙ ap (λ items. acting (start (set_to names d)) (base [] (it.finish ∷ [])) it.run [] (enters_if false d items)) (items-are names d))

-- ---- its end

module _ (s : Setting) (return_at end_at : Place) (output : List ℕ) where
  abbrev end_items : List Item
  end_items = it.end end_at it.lacks_value ∷ []

  abbrev with_frames : List Frame → State → Machine
  with_frames fs state = record {
    setting = s;
    threads = fs ∷ [];
    world = record { objects = []; variables = []; holders = []; output = output };
    state = state;
  }

  abbrev zero_value : Value
  zero_value = record { kind = num.I32; bits = 0 }

  abbrev returning : Machine
  returning = in_main s below [] (it.stmt (cs.return_value return_at int_type (cs.value (c.number zero_value))) ∷ end_items) output

  abbrev keeping : Machine
  keeping = in_main s below (int32 0 ∷ []) (it.keep int_type ∷ it.leave return_at ∷ end_items) output

  abbrev leaving : Machine
  leaving = with_frames (record (frame [] (it.leave return_at ∷ end_items)) { kept = Some (int32 0) } ∷ below) state.Running

  abbrev finishing : Machine
  finishing = with_frames (base (int32 0 ∷ []) (it.finish ∷ []) ∷ []) state.Running

  abbrev pub finished : Machine
  finished = with_frames (base (int32 0 ∷ []) [] ∷ []) (state.Ended (pos 0))

  alone : (fs : List Frame) → IsAlone (with_frames fs state.Running)
  alone fs = record { running = refl; lone = λ t. refl }

  ended : Goes returning 5 finished
  ended =
      onward (one returning (in_main s below [] (it.expr (c.number zero_value) ∷ it.keep int_type ∷ it.leave return_at ∷ end_items) output) false (alone _) refl refl)
      (onward (literal s below (it.keep int_type ∷ it.leave return_at ∷ end_items) output refl zero_value [])
      (onward (one keeping leaving false (alone _) refl refl)
      (onward (one leaving finishing false (alone _) refl refl)
      (one finishing finished false (alone _) refl refl))))

-- ---- the whole run

abbrev pub at_end : List (List ℕ) → SumProgram → Machine
at_end names d = finished (set_to names d) d.return_at d.main_at (printed d)

all-steps : (n : ℕ) → 1 + (n + 5) ≡ n + 6
all-steps n = omega arith

pub whole : (names : List (List ℕ)) (d : SumProgram) → IsInLimits d → Goes (start (set_to names d)) (steps_of d) (at_end names d)
whole names d h =
    subst (λ n. Goes (start (set_to names d)) n (at_end names d)) (all-steps (sum_by steps_of_print d.prints))
    (onward (begun names d)
    (onward (prints (set_to names d) below d.prints (last_items d) [] refl h.sums (omega (arith, h.output)))
    (ended (set_to names d) d.return_at d.main_at (printed d))))
