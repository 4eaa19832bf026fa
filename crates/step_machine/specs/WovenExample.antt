-- A program with a protected class as weaving writes it, with its text, and what a machine makes of it whose thread 0 alone
-- takes turns: the source steps are those of the program without protection, and what protection made takes the others.
use Rattle.std.specs.Prelude.{◌≡◌, ℕ, ◌+◌, false, List, [], ◌∷◌, ◌++◌, None, codes}
use Rattle.agxx_base.specs.declared.kind.NumKind.TheVariants as kind
use Rattle.cxx_tree.specs.declared.expr.Base.TheVariants as base_of
use Rattle.cxx_tree.specs.declared.expr.Left.TheVariants as left_of
use Rattle.cxx_tree.specs.declared.expr.Callee.TheVariants as callee_of
use Rattle.cxx_tree.specs.declared.operator.BinOp.{BinOp}
use Rattle.cxx_tree.specs.declared.operator.BinOp.TheVariants as op
use Rattle.cxx_tree.specs.declared.program.Access.TheVariants.{Public}
use Rattle.cxx_tree.specs.declared.program.ClassWord.TheVariants.{Class}
use Rattle.cxx_tree.specs.declared.program.TypeName.TheVariants as type_name
use Rattle.cxx_tree.specs.declared.program.Param.{Param}
use Rattle.cxx_tree.specs.ExprTree as e
use Rattle.cxx_tree.specs.StmtTree as s
use Rattle.cxx_tree.specs.ProgramTree as p
use Rattle.cxx_core.specs.Examples.{at, node, placed, name, ref, reading, literal, calling, starting_with, assigning, in_braces, program_of}
use Rattle.step_machine.specs.Item.{line_end}
use Rattle.step_machine.specs.Setting.{Setting}
use Rattle.step_machine.specs.Runs.{Ran}
use Rattle.step_machine.specs.Examples.{setting_of, alone, ends, printing, new_line, returning, main_of, word_type, object, unsigned_literal, get_call}

-- class Cell {
--     uint32_t v;
-- public:
--     void put(uint32_t x) {
--         __gop_enter_Cell();
--         v = x;
--         __gop_leave_Cell();
--     }
--     uint32_t get() {
--         __gop_enter_Cell();
--         uint32_t __gop_r_1 = v;
--         __gop_leave_Cell();
--         return __gop_r_1;
--     }
--     Cell() {
--         __gop_enter_Cell();
--         __gop_leave_Cell();
--     }
--     ~Cell() {
--         __gop_enter_Cell();
--         __gop_leave_Cell();
--     }
--     uint32_t __gop_c1_v;
--     uint32_t __gop_c2_v;
--     uint32_t __gop_n_Cell;
--     std::mutex __gop_l_Cell;
--     void __gop_repair_Cell() {
--         uint32_t __gop_m_1 = (uint32_t(v) & __gop_c1_v) | (uint32_t(v) & __gop_c2_v) | (__gop_c1_v & __gop_c2_v);
--         v = __gop_m_1;
--         __gop_c1_v = __gop_m_1;
--         __gop_c2_v = __gop_m_1;
--     }
--     void __gop_renew_Cell() {
--         __gop_c1_v = v;
--         __gop_c2_v = v;
--     }
--     void __gop_enter_Cell() {
--         __gop_l_Cell.lock();
--         if (__gop_n_Cell == 0u) {
--             __gop_repair_Cell();
--         }
--         __gop_n_Cell = __gop_n_Cell + 1u;
--         __gop_l_Cell.unlock();
--     }
--     void __gop_leave_Cell() {
--         __gop_l_Cell.lock();
--         __gop_n_Cell = __gop_n_Cell - 1u;
--         if (__gop_n_Cell == 0u) {
--             __gop_renew_Cell();
--         }
--         __gop_l_Cell.unlock();
--     }
-- };
-- Cell c;
-- int main() {
--     c.put(7u);
--     std::cout << c.get() << "\n";
--     return 0;
-- }
abbrev pub names : List (List ℕ)
names =
    codes "Cell" ∷ codes "v" ∷ codes "put" ∷ codes "x" ∷ codes "get" ∷ codes "c" ∷ codes "main" ∷ codes "__gop_enter_Cell"
    ∷ codes "__gop_leave_Cell" ∷ codes "__gop_r_1" ∷ codes "__gop_c1_v" ∷ codes "__gop_c2_v" ∷ codes "__gop_n_Cell"
    ∷ codes "__gop_l_Cell" ∷ codes "__gop_repair_Cell" ∷ codes "__gop_m_1" ∷ codes "__gop_renew_Cell" ∷ codes "lock"
    ∷ codes "unlock" ∷ []

-- ---- what its lines are written with

-- `f();`
abbrev pub running : ℕ → ℕ → s.StmtTree
running line f = s.simple (s.call_stmt (e.calls (node line) (callee_of.Bare (ref false line f)) e.no_exprs))

-- `m.f();`
abbrev pub on_mutex : ℕ → ℕ → s.StmtTree
on_mutex line f = calling (base_of.Dot (ref false line 13)) line f e.no_exprs

-- `a = b;`
abbrev pub setting_to : ℕ → ℕ → e.ExprTree → s.StmtTree
setting_to line a b = assigning line (left_of.Name (ref false line a)) None b

abbrev pub between : ℕ → BinOp → e.ExprTree → e.ExprTree → e.ExprTree
between line o a b = e.binary (node line) (placed line o) a b

-- `uint32_t a = b;`
abbrev pub declaring : ℕ → ℕ → e.ExprTree → s.StmtTree
declaring line a b = s.local (record { type_name = word_type line; name = name line a; initial = starting_with line b })

-- `if (__gop_n_Cell == 0u) { f(); }`
abbrev pub if_nobody : ℕ → ℕ → s.StmtTree
if_nobody line f =
    s.branch (s.chooses (at line) (between line op.Equal (reading line 12) (unsigned_literal line 0)) (in_braces line (running line f ∷ [])) s.no_else)

abbrev pub function : ℕ → ℕ → List Param → List s.StmtTree → p.ItemTree
function line f params body = p.function (record {
  result = placed line type_name.Void;
  name = name line f;
  params = params;
  body = in_braces line body;
})

abbrev pub word : ℕ → ℕ → p.ItemTree
word line n = p.member (record { type_name = word_type line; name = name line n })

-- ---- the class

-- `(uint32_t(v) & c)`
abbrev pub masked : ℕ → ℕ → e.ExprTree
masked line c =
    e.paren (node line) (between line op.BitAnd (e.cast (node line) (type_name.Num kind.U32) (reading line 1)) (reading line c))

abbrev pub majority : ℕ → e.ExprTree
majority line =
    between line op.BitOr (between line op.BitOr (masked line 10) (masked line 11))
    (e.paren (node line) (between line op.BitAnd (reading line 10) (reading line 11)))

abbrev pub in_and_out : ℕ → List s.StmtTree
in_and_out line = running line 7 ∷ running (line + 1) 8 ∷ []

abbrev pub class_cell : p.ClassTree
class_cell = record {
  at = at 1;
  word = Class;
  name = name 1 0;
  base = None;
  items =
      word 2 1
      ∷ p.label (at 3) Public
      ∷ function 4 2 (record { type_name = word_type 4; name = name 4 3 } ∷ [])
      (running 5 7 ∷ setting_to 6 1 (reading 6 3) ∷ running 7 8 ∷ [])
      ∷ p.function (record {
        result = word_type 9;
        name = name 9 4;
        params = [];
        body = in_braces 9 (
            running 10 7 ∷ declaring 11 9 (reading 11 1) ∷ running 12 8 ∷ returning 13 (reading 13 9) ∷ []);
      })
      ∷ p.ctor (record { name = name 15 0; params = []; inits = []; body = in_braces 15 (in_and_out 16) })
      ∷ p.dtor (record { at = at 19; name = name 19 0; body = in_braces 19 (in_and_out 20) })
      ∷ word 23 10
      ∷ word 24 11
      ∷ word 25 12
      ∷ p.member (record { type_name = placed 26 type_name.Mutex; name = name 26 13 })
      ∷ function 27 14 []
      (declaring 28 15 (majority 28) ∷ setting_to 29 1 (reading 29 15) ∷ setting_to 30 10 (reading 30 15) ∷ setting_to 31 11 (reading 31 15) ∷ [])
      ∷ function 33 16 [] (setting_to 34 10 (reading 34 1) ∷ setting_to 35 11 (reading 35 1) ∷ [])
      ∷ function 37 7 []
      (on_mutex 38 17 ∷ if_nobody 39 14 ∷ setting_to 42 12 (between 42 op.Add (reading 42 12) (unsigned_literal 42 1)) ∷ on_mutex 43 18 ∷ [])
      ∷ function 45 8 []
      (on_mutex 46 17 ∷ setting_to 47 12 (between 47 op.Subtract (reading 47 12) (unsigned_literal 47 1)) ∷ if_nobody 48 16 ∷ on_mutex 51 18 ∷ [])
      ∷ [];
}

abbrev pub woven : Setting
woven = setting_of names (program_of (
    p.class class_cell
    ∷ object 54 0 5
    ∷ main_of 55 6 (
    calling (base_of.Dot (ref false 56 5)) 56 2 (e.more_exprs (unsigned_literal 56 7) e.no_exprs)
    ∷ printing 57 (s.value get_call ∷ new_line 57 ∷ [])
    ∷ returning 58 (literal 58 0)
    ∷ [])
    ∷ []))

abbrev pub ran : Ran
ran = alone woven 353

pub record WovenExampleRuns : Type 0 where
  pub state : ran.0.state ≡ ends 0
  pub output : ran.0.world.output ≡ codes "7" ++ line_end
  pub counts : ran.1 ≡ record { source = 27; inserted = 325; blocked = 0; idle = 1 }
