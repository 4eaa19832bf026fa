-- A protected class as weaving writes it, on whose object two threads are at work, and what plans make of it.
use Rattle.std.specs.Prelude.{◌≡◌, ℕ, Bool, true, false, List, [], ◌∷◌, ◌++◌, map, length, codes}
use Rattle.agxx_base.specs.declared.ids.ClassId.{ClassId}
use Rattle.cxx_tree.specs.declared.expr.Base.TheVariants as base_of
use Rattle.cxx_tree.specs.declared.program.TypeName.TheVariants as type_name
use Rattle.cxx_tree.specs.ExprTree as e
use Rattle.cxx_tree.specs.StmtTree as s
use Rattle.cxx_tree.specs.ProgramTree as p
use Rattle.cxx_core.specs.Examples.{at, placed, name, ref, literal, calling, in_braces, program_of}
use Rattle.flip_plan.specs.declared.flip.PlannedFlip.{PlannedFlip}
use Rattle.flip_plan.specs.Plans.{Run, PlanMeaning, turn_of}
use Rattle.step_machine.specs.declared.outcome.State.{State}
use Rattle.step_machine.specs.Item.{line_end}
use Rattle.step_machine.specs.Setting.{Setting}
use Rattle.step_machine.specs.Start.{start}
use Rattle.step_machine.specs.Runs.{Counts}
use Rattle.step_machine.specs.Total.{Total, reading}
use Rattle.step_machine.specs.Examples.{setting_of, ends, printing, new_line, returning, main_of, object, unsigned_literal, get_call}
use Rattle.step_machine.specs.WovenExample as woven
use Rattle.fault_model.specs.declared.verdict.Verdict.{Verdict}
use Rattle.fault_model.specs.declared.verdict.Verdict.TheVariants.{Admissible, First}
use Rattle.fault_model.specs.Inside.{is_inside}
use Rattle.fault_model.specs.Engaged.{is_engaged}
use Rattle.fault_model.specs.PlanLines.{PlanLine, flip, free, FaultPlan}
use Rattle.fault_model.specs.Admissible.{is_admissible}
use Rattle.fault_model.specs.Progress.{Progress, with_flip, planned_of}

-- class Cell { .. };     as it is woven with copies
-- Cell c;
-- void work() { c.put(7u); }
-- int main() {
--     std::thread a(work);
--     c.put(5u);
--     a.join();
--     std::cout << c.get() << "\n";
--     return 0;
-- }
abbrev pub names : List (List ℕ)
names = woven.names ++ codes "work" ∷ codes "a" ∷ codes "join" ∷ []

abbrev pub putting : ℕ → ℕ → s.StmtTree
putting line n = calling (base_of.Dot (ref false line 5)) line 2 (e.more_exprs (unsigned_literal line n) e.no_exprs)

-- with this class
abbrev pub setting_with : p.ClassTree → Setting
setting_with class = setting_of names (program_of (
    p.class class
    ∷ object 54 0 5
    ∷ p.free_function (record {
      result = placed 55 type_name.Void;
      name = name 55 19;
      params = [];
      body = in_braces 55 (putting 55 7 ∷ []);
    })
    ∷ main_of 56 6 (
    s.thread (record { at = at 57; name = name 57 20; function = ref false 57 19; arguments = e.no_exprs })
    ∷ putting 58 5
    ∷ calling (base_of.Dot (ref false 59 20)) 59 21 e.no_exprs
    ∷ printing 60 (s.value get_call ∷ new_line 60 ∷ [])
    ∷ returning 61 (literal 61 0)
    ∷ [])
    ∷ []))

abbrev pub two_threads : Setting
two_threads = setting_with woven.class_cell

-- ---- whose turn it is

abbrev pub turns_of : ℕ → ℕ → Run
turns_of thread count = record { thread = thread; count = count }

-- Thread 0 constructs the object, starts thread 1 and is in its call that enters, with the lock. Thread 1 comes to it and is
-- blocked. Both are inside then; thread 1 leaves first.
abbrev pub schedule : PlanMeaning
schedule = record {
  limit = 1000;
  turns =
      turns_of 0 96 ∷ turns_of 1 8 ∷ turns_of 0 47 ∷ turns_of 1 38 ∷ turns_of 0 300 ∷ [];
  cycle = [];
  flips = [];
}

abbrev pub plan_with : List PlanLine → FaultPlan
plan_with lines = record { limit = 1000; turn = turn_of schedule; lines = lines }

abbrev pub begun : Total
begun = reading (start two_threads)

-- after so many turns
abbrev pub run_with : List PlanLine → ℕ → Progress
run_with lines n = planned_of (plan_with lines) begun n

-- ---- flips in object 0, whose words are the member 0, its copies 1 and 2, and the counter 3

abbrev pub a_flip : ℕ → ℕ → ℕ → ℕ → ℕ → PlannedFlip
a_flip number moment o word bit =
    record { moment = moment; object = record { 0 = o }; word = word; bit = bit; number = number; waits = false }

abbrev pub a_free : ℕ → ℕ → ℕ → ℕ → ℕ → PlanLine
a_free number moment o word bit = free (record (a_flip number moment o word bit) { waits = true })

abbrev pub class_cell : ClassId
class_cell = record { 0 = 0 }

-- ---- what they come to

-- whether somebody is inside the part of object 0, and whether a frame is engaged in it
abbrev pub stays_in : Progress → Bool × Bool
stays_in p = (is_inside p.total 0 class_cell, is_engaged p.total 0 class_cell)

abbrev pub IsSeen : ℕ → Bool → Bool → Type 0
IsSeen n inside engaged = stays_in (run_with [] n) ≡ (inside, engaged)

pub record Stays : Type 0 where
  pub at_start : IsSeen 0 false false
  -- in the constructor, which enters, and then leaves
  pub constructing : IsSeen 1 true false
  pub has_entered : IsSeen 54 true true
  pub has_left : IsSeen 57 true false
  pub constructed : IsSeen 83 false false
  -- thread 0 has the lock, and thread 1 asks for it
  pub entering : IsSeen 104 true false
  -- thread 0 has entered
  pub first_entered : IsSeen 151 true true
  -- thread 1 was inside too and has left
  pub second_left : IsSeen 188 true true
  -- thread 0 leaves, and has left
  pub leaving : IsSeen 195 true false
  pub nobody : IsSeen 221 false false

-- the inserted steps in a row of threads 0 and 1
abbrev pub rows_in : Progress → ℕ × ℕ
rows_in p = (p.in_a_row 0, p.in_a_row 1)

abbrev pub IsInARow : ℕ → ℕ → ℕ → Type 0
IsInARow n first second = rows_in (run_with [] n) ≡ (first, second)

pub record Rows : Type 0 where
  pub at_start : IsInARow 0 0 0
  -- an enter and a leave, and then the end of the constructor
  pub in_constructor : IsInARow 82 81 0
  pub constructed : IsInARow 83 0 0
  -- thread 1 before a blocked turn, and after it
  pub asks : IsInARow 103 6 3
  pub blocked : IsInARow 104 6 3
  -- an enter that finds nobody, and one that finds somebody
  pub first_entered : IsInARow 151 53 3
  pub second_entered : IsInARow 166 53 18
  pub second_left : IsInARow 187 53 18

abbrev pub admissible_in : Progress → List PlannedFlip → List Bool
admissible_in p flips = map (λ f. is_admissible p.total p.hits f) flips

pub record Flips : Type 0 where
  -- with nobody inside, in the first copy, in the last bit of the member and beyond it; on the counter, on a word that
  -- isn't there, and on an object that was never made
  pub with_nobody_inside :
      admissible_in (run_with [] 83) (a_flip 1 83 0 1 3 ∷ a_flip 1 83 0 0 31 ∷ a_flip 1 83 0 0 32 ∷ a_flip 1 83 0 3 0 ∷ a_flip 1 83 0 4 0 ∷ a_flip 1 83 1 0 0 ∷ [])
      ≡ true ∷ true ∷ false ∷ false ∷ false ∷ false ∷ []
  -- the second in the part, at another bit place, and one after a flip that changed no bit
  pub second_in_part : admissible_in (with_flip (a_flip 1 83 0 1 3) (run_with [] 83)) (a_flip 2 83 0 2 4 ∷ []) ≡ false ∷ []
  pub second_after_none : admissible_in (with_flip (a_flip 1 83 0 1 32) (run_with [] 83)) (a_flip 2 83 0 2 4 ∷ []) ≡ true ∷ []
  pub with_somebody_inside : admissible_in (run_with [] 151) (a_flip 1 151 0 1 3 ∷ []) ≡ false ∷ []
  pub on_dead_object : admissible_in (run_with [] 400) (a_flip 1 400 0 1 3 ∷ []) ≡ false ∷ []

-- ---- whole runs

pub record Summary : Type 0 where
  pub state : State
  pub output : List ℕ
  pub counts : Counts
  pub flips : ℕ
  pub verdict : Verdict

abbrev pub summary : Progress → Summary
summary p = record {
  state = p.total.state;
  output = p.total.output;
  counts = p.counts;
  flips = p.flips;
  verdict = p.verdict;
}

-- the run to its end, with so many flips that changed a bit
abbrev pub Comes : List PlanLine → ℕ → Verdict → Type 0
Comes lines flips verdict = summary (run_with lines 402) ≡ record {
  state = ends 0;
  output = codes "5" ++ line_end;
  counts = record { source = 39; inserted = 361; blocked = 1; idle = 0 };
  flips = flips;
  verdict = verdict;
}

-- both in one part
abbrev pub two_free : List PlanLine
two_free = a_free 1 0 0 1 3 ∷ a_free 2 0 0 2 4 ∷ []

pub record WholeRuns : Type 0 where
  -- one flip between two stays
  pub of_one : Comes (flip (a_flip 1 222 0 1 3) ∷ []) 1 Admissible
  -- two in one part between two stays, and one while somebody is inside
  pub of_two : (run_with (flip (a_flip 1 83 0 1 3) ∷ flip (a_flip 2 83 0 2 4) ∷ []) 84).verdict ≡ First 2
  pub of_inside : (run_with (flip (a_flip 1 151 0 1 3) ∷ []) 152).verdict ≡ First 1
  -- of two `free` lines one falls at once, and one after the stay in the constructor
  pub of_free : Comes two_free 2 Admissible
  pub waits : length (run_with two_free 83).ahead ≡ 1
  pub falls : length (run_with two_free 84).ahead ≡ 0

pub record TwoThreadsRun : Type 0 where
  pub stays : Stays
  pub rows : Rows
  pub flips : Flips
  pub runs : WholeRuns
