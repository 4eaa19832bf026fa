-- A program with a base, a thread, a print, loops and a name that stands for nothing, and its core form written out by hand.
use Rattle.std.specs.Prelude.{◌≡◌, ℕ, true, false, List, [], ◌∷◌, Option, Some, None, codes}
use Rattle.agxx_base.specs.declared.ids.ClassId.{ClassId}
use Rattle.agxx_base.specs.declared.ids.NameId.{NameId}
use Rattle.agxx_base.specs.declared.kind.NumKind.TheVariants as kind
use Rattle.cxx_tree.specs.declared.node.Placed.{Placed}
use Rattle.cxx_tree.specs.declared.expr.Base.TheVariants as base_of
use Rattle.cxx_tree.specs.declared.expr.Left.TheVariants as left_of
use Rattle.cxx_tree.specs.declared.operator.BinOp.TheVariants as op
use Rattle.cxx_tree.specs.declared.operator.UnOp.TheVariants as un
use Rattle.cxx_tree.specs.declared.program.ClassWord.TheVariants.{Struct}
use Rattle.cxx_tree.specs.declared.program.Const.TheVariants as const
use Rattle.cxx_tree.specs.declared.program.TypeName.{TypeName}
use Rattle.cxx_tree.specs.declared.program.TypeName.TheVariants as type_name
use Rattle.cxx_tree.specs.ExprTree as e
use Rattle.cxx_tree.specs.StmtTree as s
use Rattle.cxx_tree.specs.ProgramTree as p
use Rattle.cxx_names.specs.declared.types.ValueType.{ValueType}
use Rattle.cxx_names.specs.declared.types.ValueType.TheVariants as type
use Rattle.cxx_core.specs.CoreExpr as c
use Rattle.cxx_core.specs.CoreStmt as cs
use Rattle.cxx_core.specs.CoreProgram as cp
use Rattle.cxx_core.specs.CoreProgram.{CoreFunction, CoreProgram}
use Rattle.cxx_core.specs.ElaboratedProgram.{core_program}
use Rattle.cxx_core.specs.Examples.{at, node, placed, name, ref, number_type, pointer_to, reading, literal, selector, calling, starting_with, assigning, in_braces, program_of, stmts_of, int32, value_of}

-- struct B {
--     uint64_t b;
--     B(uint64_t x) { this->b = x; }
--     ~B() { }
-- };
-- struct D : public B {
--     bool d;
--     D() : B(5) { }
--     ~D() { }
-- };
-- int8_t g = -1;
-- void w(int32_t n) {
--     for (int32_t i = n; ; ++i) { std::cout << (i) << "a" << std::endl; }
-- }
-- int main() {
--     std::thread t(w, 1);
--     t.join();
--     B* p = new D();
--     if (p && !(p->b == 1)) {
--         delete p;
--     } else {
--         ::n = 2;
--     }
-- }

-- the names by their numbers
abbrev pub names : List (List ℕ)
names =
    codes "B" ∷ codes "b" ∷ codes "x" ∷ codes "D" ∷ codes "d" ∷ codes "g" ∷ codes "w" ∷ codes "n" ∷ codes "i" ∷ codes "main"
    ∷ codes "t" ∷ codes "join" ∷ codes "p" ∷ []

abbrev pub uint64 : ValueType
uint64 = type.Number kind.U64

abbrev pub word_type : ℕ → Placed TypeName
word_type line = placed line (type_name.Num kind.U64)

abbrev pub an_expr : e.ExprTree → e.ExprTrees
an_expr only = e.more_exprs only e.no_exprs

abbrev pub class_b : p.ClassTree
class_b = record {
  at = at 1;
  word = Struct;
  name = name 1 0;
  base = None;
  items =
      p.member (record { type_name = word_type 2; name = name 2 1 })
      ∷ p.ctor (record {
        name = name 3 0;
        params = record { type_name = word_type 3; name = name 3 2 } ∷ [];
        inits = [];
        body = in_braces 3 (assigning 3 (left_of.Member (node 3) (selector base_of.This 3 1)) None (reading 3 2) ∷ []);
      })
      ∷ p.dtor (record { at = at 4; name = name 4 0; body = in_braces 4 [] })
      ∷ [];
}

abbrev pub class_d : p.ClassTree
class_d = record {
  at = at 6;
  word = Struct;
  name = name 6 3;
  base = Some (name 6 0);
  items =
      p.member (record { type_name = placed 7 (type_name.Num kind.Bool); name = name 7 4 })
      ∷ p.ctor (record {
        name = name 8 3;
        params = [];
        inits = record { name = name 8 0; arguments = an_expr (literal 8 5) } ∷ [];
        body = in_braces 8 [];
      })
      ∷ p.dtor (record { at = at 9; name = name 9 3; body = in_braces 9 [] })
      ∷ [];
}

abbrev pub printing : s.StmtTree
printing = s.print (record {
  at = at 13;
  operands = s.value (e.paren (node 13) (reading 14 8)) ∷ s.text (record { at = at 15; bytes = codes "a" }) ∷ s.endl (at 16) ∷ [];
})

abbrev pub function_w : p.FunctionTree
function_w = record {
  result = placed 12 type_name.Void;
  name = name 12 6;
  params = record { type_name = number_type 12; name = name 12 7 } ∷ [];
  body = in_braces 12 (
      s.for (at 13) (Some (s.start_local (record { type_name = number_type 13; name = name 13 8; initial = starting_with 13 (reading 13 7) })))
      None (Some (s.bump (record { left = left_of.Name (ref false 13 8); sign = at 12; adds = true; in_front = true })))
      (in_braces 13 (printing ∷ []))
      ∷ []);
}

abbrev pub condition : e.ExprTree
condition =
    e.binary (node 21) (placed 22 op.And) (reading 21 12)
    (e.unary (node 23) un.Not
    (e.paren (node 23)
    (e.binary (node 23) (placed 24 op.Equal) (e.left (left_of.Member (node 23) (selector (base_of.Arrow (ref false 23 12)) 23 1))) (literal 24 1))))

abbrev pub function_main : p.FunctionTree
function_main = record {
  result = placed 17 type_name.Int;
  name = name 17 9;
  params = [];
  body = in_braces 17 (
      s.thread (record { at = at 18; name = name 18 10; function = ref false 18 6; arguments = an_expr (literal 18 1) })
      ∷ calling (base_of.Dot (ref false 19 10)) 19 11 e.no_exprs
      ∷ s.local (record { type_name = pointer_to 20 0; name = name 20 12; initial = starting_with 20 (e.new_with (node 20) (name 20 3) e.no_exprs) })
      ∷ s.branch (s.chooses (at 21) condition (in_braces 21 (s.delete (at 25) (reading 25 12) ∷ []))
      (s.else_block (in_braces 26 (assigning 27 (left_of.Name (ref true 27 7)) None (literal 27 2) ∷ []))))
      ∷ []);
}

abbrev pub program : p.ProgramTree
program = program_of (
    p.class class_b
    ∷ p.class class_d
    ∷ p.global (p.variable (record {
      type_name = placed 11 (type_name.Num kind.I8);
      name = name 11 5;
      initial = Some (placed 11 (const.Number true (record { bits = 1; kind = kind.I32 })));
    }))
    ∷ p.free_function function_w
    ∷ p.free_function function_main
    ∷ [])

-- ---- the core form

abbrev pub b_class : ClassId
b_class = record { 0 = 0 }

abbrev pub d_class : ClassId
d_class = record { 0 = 1 }

abbrev pub plain_function : ℕ → Placed NameId → Option ClassId → cp.FunctionKind → cs.CoreStmts → CoreFunction
plain_function number given class of_kind body = record {
  number = number;
  name = given;
  class = class;
  kind = of_kind;
  params = [];
  result = None;
  base = None;
  base_arguments = c.no_exprs;
  body = body;
}

abbrev pub i_variable : c.CoreLeft
i_variable = c.variable (c.local 8 int32)

abbrev pub w_core : cs.CoreStmts
w_core = stmts_of (
    cs.for (stmts_of (cs.declare 8 int32 (Some (cs.copy 7 int32)) ∷ []))
    (c.number (record { kind = kind.Bool; bits = 1 }))
    (stmts_of (cs.update (at 12) op.Add int32 int32 i_variable (value_of 1) ∷ []))
    (stmts_of (cs.print (cs.operand (at 13) kind.I32 (c.read i_variable) ∷ cs.text (at 15) (codes "a") ∷ cs.endl (at 16) ∷ []) ∷ []))
    ∷ [])

abbrev pub b_pointer : ValueType
b_pointer = type.Pointer b_class

abbrev pub p_variable : c.CoreVariable
p_variable = c.local 12 b_pointer

abbrev pub condition_core : c.CoreExpr
condition_core =
    c.and b_pointer c.truth (c.read (c.variable p_variable))
    (c.unary (at 23) un.Not c.truth
    (c.binary (at 24) op.Equal uint64 int32 (c.read (c.member (at 23) (c.by_pointer p_variable) b_class 1 kind.U64)) (value_of 1)))

abbrev pub main_core : cs.CoreStmts
main_core = stmts_of (
    cs.thread (at 18) 10 4 6 (c.more_exprs (value_of 1) c.no_exprs)
    ∷ cs.join (at 19) 10
    ∷ cs.declare 12 b_pointer (Some (cs.value (c.new (at 20) d_class c.no_exprs)))
    ∷ cs.branch condition_core (stmts_of (cs.delete (at 25) b_class (c.read (c.variable p_variable)) ∷ [])) (stmts_of (cs.wrong (at 27) ∷ []))
    ∷ [])

abbrev pub expected : CoreProgram
expected = record {
  functions =
      record (plain_function 0 (name 3 0) (Some b_class) cp.constructor
      (stmts_of (cs.assign (c.member (at 3) c.by_this b_class 1 kind.U64) (c.read (c.variable (c.local 2 uint64))) ∷ []))) {
        params = record { name = 2; type = uint64 } ∷ [];
      }
      ∷ plain_function 1 (name 4 0) (Some b_class) cp.destructor cs.no_stmts
      ∷ record (plain_function 2 (name 8 3) (Some d_class) cp.constructor cs.no_stmts) {
        base = Some 0;
        base_arguments = c.more_exprs (value_of 5) c.no_exprs;
      }
      ∷ record (plain_function 3 (name 9 3) (Some d_class) cp.destructor cs.no_stmts) { base = Some 1 }
      ∷ record (plain_function 4 (name 12 6) None cp.plain w_core) { params = record { name = 7; type = int32 } ∷ [] }
      ∷ record (plain_function 5 (name 17 9) None cp.plain main_core) { result = Some int32 }
      ∷ [];
  classes =
      record {
        name = name 1 0;
        base = None;
        words = record { name = 1; kind = kind.U64 } ∷ [];
        mutexes = [];
        constructor = Some 0;
        destructor = Some 1;
      }
      ∷ record {
        name = name 6 3;
        base = Some b_class;
        words = record { name = 4; kind = kind.Bool } ∷ [];
        mutexes = [];
        constructor = Some 2;
        destructor = Some 3;
      }
      ∷ [];
  globals = cp.number 5 (record { kind = kind.I8; bits = 255 }) ∷ [];
  main = Some 5;
}

abbrev pub WiderExampleElaborates : Type 0
WiderExampleElaborates = core_program names program ≡ expected
