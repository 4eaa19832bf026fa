-- A world that gets the globals one by one is that of the start.
use Rattle.std.proofs.Common.{◌≡◌, ℕ, suc, ◌≤◌, Bool, true, false, cond, List, [], ◌∷◌, ◌++◌, length, Some, refl, ap, sym, ◌∙◌, arith, length-append}
use Rattle.std.proofs.lemmas.Bool.Decides.{nat_tests}
use Rattle.std.specs.Prelude.{is_some}
use Rattle.std.proofs.lemmas.List.{append_assoc, append-nil}
use Rattle.cxx_names.specs.Tables.{with_name}
use Rattle.cxx_core.specs.CoreProgram as cp
use Rattle.cxx_core.specs.CoreProgram.{CoreGlobal}
use Rattle.step_machine.specs.declared.datum.Datum.{Datum}
use Rattle.step_machine.specs.declared.datum.Datum.TheVariants as datum
use Rattle.step_machine.specs.Entries.{entry}
use Rattle.step_machine.specs.Setting.{Setting, word_count}
use Rattle.step_machine.specs.World.{World, Object, new_object}
use Rattle.step_machine.specs.Start.{objects_of, variables_from, start_world}
use Rattle.step_world.specs.Objects.{is_full}
use Rattle.step_world.specs.Worlds.{empty_world}
use Rattle.step_engine.specs.Starts.{with_variable, with_global, with_globals, object_count}

abbrev both : Setting → World → List CoreGlobal → World
both s w gs = record w { objects = w.objects ++ objects_of s gs; variables = variables_from w.variables gs }

chosen : (b : Bool) (w : World) (vs : List (ℕ × Datum)) → cond b w (record w { variables = vs }) ≡ record w { variables = cond b w.variables vs }
chosen true w vs = refl
chosen false w vs = refl

variable_is : (name : ℕ) (v : Datum) (w : World) → with_variable name v w ≡ record w { variables = with_name w.variables name v }
variable_is name v w = chosen (is_some (entry w.variables name)) w (w.variables ++ (name, v) ∷ [])

pub each : (s : Setting) (gs : List CoreGlobal) (w : World) → with_globals s gs w ≡ both s w gs
each s [] w = ap (λ os. record w { objects = os }) (sym (append-nil w.objects))
each s (cp.number name v ∷ gs) w =
    each s gs (with_global s (cp.number name v) w) ∙ ap (λ x. both s x gs) (variable_is name (datum.Number v) w)
each s (cp.pointer name class ∷ gs) w =
    each s gs (with_global s (cp.pointer name class) w) ∙ ap (λ x. both s x gs) (variable_is name datum.Null w)
each s (cp.object at name class arguments ∷ gs) w =
    each s gs (with_global s (cp.object at name class arguments) w)
    ∙ ap (λ os. record w { objects = os; variables = variables_from w.variables gs })
    (append_assoc w.objects (new_object class (word_count s (Some class)) ∷ []) (objects_of s gs))
each s (cp.mutex name ∷ gs) w = each s gs w
each s (cp.wrong at ∷ gs) w = each s gs w

pub start_is : (s : Setting) → with_globals s s.program.globals empty_world ≡ start_world s
start_is s = each s s.program.globals empty_world

-- one object more, where there is room for it
pub few_more : (os : List Object) (o : Object) → is_full os ≡ false → length (os ++ o ∷ []) ≤ 65536
few_more os o h = grind (arith, nat_tests, length-append)

counted : (s : Setting) (gs : List CoreGlobal) → length (objects_of s gs) ≡ object_count gs
counted s [] = refl
counted s (cp.number name v ∷ gs) = counted s gs
counted s (cp.pointer name class ∷ gs) = counted s gs
counted s (cp.object at name class arguments ∷ gs) = ap suc (counted s gs)
counted s (cp.mutex name ∷ gs) = counted s gs
counted s (cp.wrong at ∷ gs) = counted s gs

-- how many global objects there are, where they were all made
pub few_at_start : (s : Setting) (w : World) → w ≡ with_globals s s.program.globals empty_world → length w.objects ≤ 65536 → object_count s.program.globals ≤ 65536
few_at_start s w e h =
    let made : length w.objects ≡ object_count s.program.globals = ap (λ (x : World). length x.objects) (e ∙ start_is s) ∙ counted s s.program.globals in
    omega (arith, made)
