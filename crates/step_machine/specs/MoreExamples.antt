-- Programs with threads, a mutex, objects of `new`, a base, and calls without end, and what machines make of them.
use Rattle.std.specs.Prelude.{◌≡◌, ℕ, false, List, [], ◌∷◌, ◌++◌, replicate, Some, None, codes}
use Rattle.cxx_tree.specs.declared.expr.Base.TheVariants as base_of
use Rattle.cxx_tree.specs.declared.expr.Callee.TheVariants as callee_of
use Rattle.cxx_tree.specs.declared.operator.BinOp.TheVariants as op
use Rattle.cxx_tree.specs.declared.program.Access.TheVariants.{Public}
use Rattle.cxx_tree.specs.declared.program.ClassWord.TheVariants.{Class, Struct}
use Rattle.cxx_tree.specs.declared.program.TypeName.TheVariants as type_name
use Rattle.cxx_tree.specs.ExprTree as e
use Rattle.cxx_tree.specs.StmtTree as s
use Rattle.cxx_tree.specs.ProgramTree as p
use Rattle.cxx_core.specs.Examples.{at, node, placed, name, ref, pointer_to, reading, literal, calling, starting_with, in_braces, program_of}
use Rattle.step_machine.specs.declared.outcome.State.TheVariants as state
use Rattle.step_machine.specs.declared.outcome.Stop.TheVariants as stop
use Rattle.step_machine.specs.Item.{line_end}
use Rattle.step_machine.specs.Setting.{Setting}
use Rattle.step_machine.specs.Runs.{Ran, run}
use Rattle.step_machine.specs.Examples.{setting_of, ComesTo, ends, printing, new_line, returning, main_of, word_type, empty_ctor, empty_dtor, object, member, unsigned_literal}
use Rattle.step_machine.specs.WovenExample.{function, word, setting_to, between}

-- class Cell {
--     uint32_t v;
-- public:
--     void add(uint32_t x) { v = v + x; }
--     uint32_t get() { return v; }
--     Cell() { }
--     ~Cell() { }
-- };
abbrev pub class_cell : p.ClassTree
class_cell = record {
  at = at 1;
  word = Class;
  name = name 1 0;
  base = None;
  items =
      word 2 1
      ∷ p.label (at 3) Public
      ∷ function 4 2 (record { type_name = word_type 4; name = name 4 3 } ∷ [])
      (setting_to 4 1 (between 4 op.Add (reading 4 1) (reading 4 3)) ∷ [])
      ∷ p.function (record {
        result = word_type 5;
        name = name 5 4;
        params = [];
        body = in_braces 5 (returning 5 (reading 5 1) ∷ []);
      })
      ∷ empty_ctor 1 0
      ∷ empty_dtor 1 0
      ∷ [];
}

-- the names by their numbers
abbrev pub names : List (List ℕ)
names =
    codes "Cell" ∷ codes "v" ∷ codes "add" ∷ codes "x" ∷ codes "get" ∷ codes "c" ∷ codes "main" ∷ codes "work" ∷ codes "a" ∷ codes "b"
    ∷ codes "join" ∷ codes "p" ∷ codes "lock" ∷ []

abbrev pub one_expr : e.ExprTree → e.ExprTrees
one_expr only = e.more_exprs only e.no_exprs

-- ---- two threads

-- Cell c;
-- void work() { c.add(1u); }
-- int main() {
--     std::thread a(work);
--     std::thread b(work);
--     a.join();
--     b.join();
--     std::cout << c.get() << "\n";
--     return 0;
-- }
abbrev pub starting : ℕ → ℕ → s.StmtTree
starting line t = s.thread (record { at = at line; name = name line t; function = ref false line 7; arguments = e.no_exprs })

abbrev pub joining : ℕ → ℕ → s.StmtTree
joining line t = calling (base_of.Dot (ref false line t)) line 10 e.no_exprs

abbrev pub work : p.DeclTree
work = p.free_function (record {
  result = placed 10 type_name.Void;
  name = name 10 7;
  params = [];
  body = in_braces 10 (calling (base_of.Dot (ref false 10 5)) 10 2 (one_expr (unsigned_literal 10 1)) ∷ []);
})

-- `c.get()`
abbrev pub get_call : ℕ → e.ExprTree
get_call line = e.call (e.calls (node line) (callee_of.Member (record { base = base_of.Dot (ref false line 5); name = name line 4 })) e.no_exprs)

abbrev pub pair : Setting
pair = setting_of names (program_of (
    p.class class_cell
    ∷ object 9 0 5
    ∷ work
    ∷ main_of 11 6 (
    starting 12 8
    ∷ starting 13 9
    ∷ joining 14 8
    ∷ joining 15 9
    ∷ printing 16 (s.value (get_call 16) ∷ new_line 16 ∷ [])
    ∷ returning 17 (literal 17 0)
    ∷ [])
    ∷ []))

-- thread 0 waits twice for thread 1, which has a turn after its end, and once for thread 2
abbrev pub pair_turns : List ℕ
pair_turns = replicate 9 0 ++ replicate 13 1 ++ replicate 2 0 ++ replicate 12 2 ++ replicate 17 0

abbrev pub pair_ran : Ran
pair_ran = run pair pair_turns

pub record PairRuns : Type 0 where
  pub state : pair_ran.0.state ≡ ends 0
  pub output : pair_ran.0.world.output ≡ codes "2" ++ line_end
  pub counts : pair_ran.1 ≡ record { source = 49; inserted = 0; blocked = 3; idle = 1 }

-- ---- an object of `new`

-- int main() {
--     Cell* p = new Cell();
--     p->add(3u);
--     delete p;
--     delete p;
--     return 0;
-- }
abbrev pub deleting : ℕ → s.StmtTree
deleting line = s.delete (at line) (reading line 11)

abbrev pub twice_deleted : Setting
twice_deleted = setting_of names (program_of (
    p.class class_cell
    ∷ main_of 9 6 (
    s.local (record {
      type_name = pointer_to 10 0;
      name = name 10 11;
      initial = starting_with 10 (e.new_with (node 10) (name 10 0) e.no_exprs);
    })
    ∷ calling (base_of.Arrow (ref false 11 11)) 11 2 (one_expr (unsigned_literal 11 3))
    ∷ deleting 12
    ∷ deleting 13
    ∷ returning 14 (literal 14 0)
    ∷ [])
    ∷ []))

-- ---- a function without end

-- void work() { work(); }
-- int main() { work(); return 0; }
abbrev pub calling_work : ℕ → s.StmtTree
calling_work line = s.simple (s.call_stmt (e.calls (node line) (callee_of.Bare (ref false line 7)) e.no_exprs))

abbrev pub too_deep : Setting
too_deep = setting_of names (program_of (
    p.free_function (record {
      result = placed 1 type_name.Void;
      name = name 1 7;
      params = [];
      body = in_braces 1 (calling_work 1 ∷ []);
    })
    ∷ main_of 2 6 (calling_work 2 ∷ returning 2 (literal 2 0) ∷ [])
    ∷ []))

-- ---- a mutex taken twice

-- std::mutex a;
-- int main() { a.lock(); a.lock(); return 0; }
abbrev pub locking : ℕ → s.StmtTree
locking line = calling (base_of.Dot (ref false line 8)) line 12 e.no_exprs

abbrev pub locked_twice : Setting
locked_twice = setting_of names (program_of (
    p.global (p.mutex (at 1) (name 1 8))
    ∷ main_of 2 6 (locking 3 ∷ locking 4 ∷ returning 5 (literal 5 0) ∷ [])
    ∷ []))

-- ---- a base

-- struct Cell {
--     uint32_t v;
--     Cell(uint32_t x) { v = x; }
--     ~Cell() { }
-- };
-- struct p : public Cell {
--     uint32_t a;
--     p() : Cell(5) { a = 4; }
--     ~p() { }
-- };
-- p c;
-- int main() { std::cout << c.v << c.a; return 0; }
abbrev pub base_class : p.ClassTree
base_class = record {
  at = at 1;
  word = Struct;
  name = name 1 0;
  base = None;
  items =
      word 2 1
      ∷ p.ctor (record {
        name = name 3 0;
        params = record { type_name = word_type 3; name = name 3 3 } ∷ [];
        inits = [];
        body = in_braces 3 (setting_to 3 1 (reading 3 3) ∷ []);
      })
      ∷ empty_dtor 4 0
      ∷ [];
}

abbrev pub derived_class : p.ClassTree
derived_class = record {
  at = at 6;
  word = Struct;
  name = name 6 11;
  base = Some (name 6 0);
  items =
      word 7 8
      ∷ p.ctor (record {
        name = name 8 11;
        params = [];
        inits = record { name = name 8 0; arguments = one_expr (literal 8 5) } ∷ [];
        body = in_braces 8 (setting_to 8 8 (literal 8 4) ∷ []);
      })
      ∷ empty_dtor 9 11
      ∷ [];
}

abbrev pub with_base : Setting
with_base = setting_of names (program_of (
    p.class base_class
    ∷ p.class derived_class
    ∷ object 11 11 5
    ∷ main_of 12 6 (
    printing 12 (s.value (member 12 5 1) ∷ s.value (member 12 5 8) ∷ [])
    ∷ returning 12 (literal 12 0)
    ∷ [])
    ∷ []))

pub record MoreExamplesRun : Type 0 where
  pub of_pair : PairRuns
  pub of_deleted : ComesTo twice_deleted 25 (state.Stopped stop.Dead (at 13)) []
  -- 199 calls of three steps each, of which the last one stops
  pub of_too_deep : ComesTo too_deep 598 (state.Stopped stop.Depth (at 1)) []
  pub of_locked_twice : ComesTo locked_twice 3 (state.Stopped stop.SelfLock (at 4)) []
  pub of_base : ComesTo with_base 26 (ends 0) (codes "54")
