-- Small programs in normal form, and what a machine makes of them whose thread 0 alone takes turns.
use Rattle.std.specs.Prelude.{◌≡◌, ℕ, ◌+◌, false, List, [], ◌∷◌, ◌++◌, replicate, Some, None, codes, pos}
use Rattle.agxx_base.specs.declared.kind.NumKind.TheVariants as kind
use Rattle.agxx_base.specs.declared.place.Place.{Place}
use Rattle.cxx_tree.specs.declared.node.Placed.{Placed}
use Rattle.cxx_tree.specs.declared.expr.Base.TheVariants as base_of
use Rattle.cxx_tree.specs.declared.expr.Left.TheVariants as left_of
use Rattle.cxx_tree.specs.declared.expr.Callee.TheVariants as callee_of
use Rattle.cxx_tree.specs.declared.operator.BinOp.TheVariants as op
use Rattle.cxx_tree.specs.declared.program.Access.TheVariants.{Public}
use Rattle.cxx_tree.specs.declared.program.ClassWord.TheVariants.{Class, Struct}
use Rattle.cxx_tree.specs.declared.program.TypeName.{TypeName}
use Rattle.cxx_tree.specs.declared.program.TypeName.TheVariants as type_name
use Rattle.cxx_tree.specs.ExprTree as e
use Rattle.cxx_tree.specs.StmtTree as s
use Rattle.cxx_tree.specs.ProgramTree as p
use Rattle.cxx_core.specs.Examples.{at, node, placed, name, ref, reading, literal, selector, calling, assigning, in_braces, program_of}
use Rattle.cxx_core.specs.ElaboratedProgram.{core_program}
use Rattle.step_machine.specs.declared.outcome.State.{State}
use Rattle.step_machine.specs.declared.outcome.State.TheVariants as state
use Rattle.step_machine.specs.declared.outcome.Stop.TheVariants as stop
use Rattle.step_machine.specs.Item.{line_end}
use Rattle.step_machine.specs.Setting.{Setting}
use Rattle.step_machine.specs.Runs.{Ran, run}

-- ---- what is said of them

abbrev pub setting_of : List (List ℕ) → p.ProgramTree → Setting
setting_of names program = record { names = names; program = core_program names program }

-- so many turns of thread 0
abbrev pub alone : Setting → ℕ → Ran
alone setting turns = run setting (replicate turns 0)

-- the run is over after so many source steps, has come to this, and has printed this
pub record ComesTo (setting : Setting) (steps : ℕ) (outcome : State) (text : List ℕ) : Type 0 where
  pub state : (alone setting (steps + 2)).0.state ≡ outcome
  pub output : (alone setting (steps + 2)).0.world.output ≡ text
  pub counts : (alone setting (steps + 2)).1 ≡ record { source = steps; inserted = 0; blocked = 0; idle = 2 }

-- ---- what they are written with

abbrev pub printing : ℕ → List s.PrintedTree → s.StmtTree
printing line operands = s.print (record { at = at line; operands = operands })

abbrev pub new_line : ℕ → s.PrintedTree
new_line line = s.text (record { at = at line; bytes = line_end })

abbrev pub returning : ℕ → e.ExprTree → s.StmtTree
returning line value = s.return (at line) (Some value)

abbrev pub main_of : ℕ → ℕ → List s.StmtTree → p.DeclTree
main_of line n body = p.free_function (record {
  result = placed line type_name.Int;
  name = name line n;
  params = [];
  body = in_braces line body;
})

abbrev pub word_type : ℕ → Placed TypeName
word_type line = placed line (type_name.Num kind.U32)

abbrev pub empty_ctor : ℕ → ℕ → p.ItemTree
empty_ctor line n = p.ctor (record { name = name line n; params = []; inits = []; body = in_braces line [] })

abbrev pub empty_dtor : ℕ → ℕ → p.ItemTree
empty_dtor line n = p.dtor (record { at = at line; name = name line n; body = in_braces line [] })

abbrev pub object : ℕ → ℕ → ℕ → p.DeclTree
object line class n = p.global (p.object (record { class = name line class; name = name line n; arguments = e.no_exprs }))

-- `o.m`
abbrev pub member : ℕ → ℕ → ℕ → e.ExprTree
member line o m = e.left (left_of.Member (node line) (selector (base_of.Dot (ref false line o)) line m))

-- ---- a sum

-- int main() {
--     std::cout << 2 + 3 << "\n";
--     return 0;
-- }
abbrev pub sum : Setting
sum = setting_of (codes "main" ∷ []) (program_of (
    main_of 1 0 (
    printing 2 (s.value (e.binary (node 2) (placed 2 op.Add) (literal 2 2) (literal 2 3)) ∷ new_line 2 ∷ [])
    ∷ returning 3 (literal 3 0)
    ∷ [])
    ∷ []))

-- ---- a sum that overflows

-- int main() { std::cout << 2147483647 + 1; }
abbrev pub plus_sign : Place
plus_sign = record { file = 0; line = 1; column = 38 }

abbrev pub overflow : Setting
overflow = setting_of (codes "main" ∷ []) (program_of (
    main_of 1 0 (
    printing 1 (
    s.value (e.binary (node 1) (record { at = plus_sign; item = op.Add }) (literal 1 2147483647) (literal 1 1))
    ∷ [])
    ∷ returning 1 (literal 1 0)
    ∷ [])
    ∷ []))

-- ---- an object

-- struct A {
--     uint32_t v;
--     A() { }
--     ~A() { }
-- };
-- A a;
-- int main() { return a.v; }
abbrev pub with_object : Setting
with_object = setting_of (codes "A" ∷ codes "v" ∷ codes "a" ∷ codes "main" ∷ []) (program_of (
    p.class (record {
      at = at 1;
      word = Struct;
      name = name 1 0;
      base = None;
      items = p.member (record { type_name = word_type 2; name = name 2 1 }) ∷ empty_ctor 1 0 ∷ empty_dtor 1 0 ∷ [];
    })
    ∷ object 6 0 2
    ∷ main_of 7 3 (returning 7 (member 7 2 1) ∷ [])
    ∷ []))

-- ---- functions of an object

-- class Cell {
--     uint32_t v;
-- public:
--     void put(uint32_t x) { v = x; }
--     uint32_t get() { return v; }
--     Cell() { }
--     ~Cell() { }
-- };
-- Cell c;
-- int main() {
--     c.put(7u);
--     std::cout << c.get() << "\n";
--     return 0;
-- }
abbrev pub cell_names : List (List ℕ)
cell_names =
    codes "Cell" ∷ codes "v" ∷ codes "put" ∷ codes "x" ∷ codes "get" ∷ codes "c" ∷ codes "main" ∷ []

abbrev pub unsigned_literal : ℕ → ℕ → e.ExprTree
unsigned_literal line n = e.lit (node line) (record { bits = n; kind = kind.U32 })

abbrev pub class_cell : p.ClassTree
class_cell = record {
  at = at 1;
  word = Class;
  name = name 1 0;
  base = None;
  items =
      p.member (record { type_name = word_type 2; name = name 2 1 })
      ∷ p.label (at 3) Public
      ∷ p.function (record {
        result = placed 4 type_name.Void;
        name = name 4 2;
        params = record { type_name = word_type 4; name = name 4 3 } ∷ [];
        body = in_braces 4 (assigning 4 (left_of.Name (ref false 4 1)) None (reading 4 3) ∷ []);
      })
      ∷ p.function (record {
        result = word_type 5;
        name = name 5 4;
        params = [];
        body = in_braces 5 (returning 5 (reading 5 1) ∷ []);
      })
      ∷ empty_ctor 1 0
      ∷ empty_dtor 1 0
      ∷ [];
}

-- `c.get()`
abbrev pub get_call : e.ExprTree
get_call = e.call (e.calls (node 12) (callee_of.Member (selector (base_of.Dot (ref false 12 5)) 12 4)) e.no_exprs)

abbrev pub cell : Setting
cell = setting_of cell_names (program_of (
    p.class class_cell
    ∷ object 9 0 5
    ∷ main_of 10 6 (
    calling (base_of.Dot (ref false 11 5)) 11 2 (e.more_exprs (unsigned_literal 11 7) e.no_exprs)
    ∷ printing 12 (s.value get_call ∷ new_line 12 ∷ [])
    ∷ returning 13 (literal 13 0)
    ∷ [])
    ∷ []))

-- ---- what they come to

abbrev pub ends : ℕ → State
ends value = state.Ended (pos value)

pub record ExamplesRun : Type 0 where
  pub of_sum : ComesTo sum 13 (ends 0) (codes "5" ++ line_end)
  pub of_overflow : ComesTo overflow 6 (state.Stopped stop.Overflow plus_sign) []
  pub of_object : ComesTo with_object 10 (ends 0) []
  pub of_cell : ComesTo cell 27 (ends 0) (codes "7" ++ line_end)
