-- Two small programs and their core forms, each written out by hand.
use Rattle.std.specs.Prelude.{◌≡◌, ℕ, Bool, true, false, List, [], ◌∷◌, Option, Some, None, codes}
use Rattle.agxx_base.specs.declared.ids.ClassId.{ClassId}
use Rattle.agxx_base.specs.declared.ids.NameId.{NameId}
use Rattle.agxx_base.specs.declared.kind.NumKind.TheVariants.{I32, U8}
use Rattle.agxx_base.specs.declared.place.Place.{Place}
use Rattle.cxx_tree.specs.declared.node.Node.{Node}
use Rattle.cxx_tree.specs.declared.node.Placed.{Placed}
use Rattle.cxx_tree.specs.declared.expr.Ref.{Ref}
use Rattle.cxx_tree.specs.declared.expr.Base.TheVariants as base_of
use Rattle.cxx_tree.specs.declared.expr.Base.{Base}
use Rattle.cxx_tree.specs.declared.expr.Selector.{Selector}
use Rattle.cxx_tree.specs.declared.expr.Left.{Left}
use Rattle.cxx_tree.specs.declared.expr.Left.TheVariants as left_of
use Rattle.cxx_tree.specs.declared.expr.Callee.TheVariants as callee_of
use Rattle.cxx_tree.specs.declared.operator.BinOp.{BinOp}
use Rattle.cxx_tree.specs.declared.operator.BinOp.TheVariants.{Add}
use Rattle.cxx_tree.specs.declared.operator.UnOp.TheVariants.{AddressOf}
use Rattle.cxx_tree.specs.declared.program.Access.TheVariants.{Public}
use Rattle.cxx_tree.specs.declared.program.ClassWord.TheVariants.{Class}
use Rattle.cxx_tree.specs.declared.program.TypeName.{TypeName}
use Rattle.cxx_tree.specs.declared.program.TypeName.TheVariants as type_name
use Rattle.cxx_tree.specs.ExprTree as e
use Rattle.cxx_tree.specs.StmtTree as s
use Rattle.cxx_tree.specs.ProgramTree as p
use Rattle.cxx_names.specs.declared.types.ValueType.{ValueType}
use Rattle.cxx_names.specs.declared.types.ValueType.TheVariants as type
use Rattle.cxx_core.specs.CoreExpr as c
use Rattle.cxx_core.specs.CoreStmt as cs
use Rattle.cxx_core.specs.CoreProgram as cp
use Rattle.cxx_core.specs.CoreProgram.{CoreFunction, CoreProgram}
use Rattle.cxx_core.specs.ElaboratedProgram.{core_program}

-- ---- what the programs are written with

abbrev pub at : ℕ → Place
at line = record { file = 0; line = line; column = 1 }

abbrev pub node : ℕ → Node
node line = record { at = at line; id = record { 0 = 0 } }

abbrev pub placed : {A : Type 0} → ℕ → A → Placed A
placed line item = record { at = at line; item = item }

abbrev pub name : ℕ → ℕ → Placed NameId
name line n = placed line (record { 0 = n })

abbrev pub ref : Bool → ℕ → ℕ → Ref
ref is_global line n = record { node = node line; global = is_global; name = name line n }

abbrev pub number_type : ℕ → Placed TypeName
number_type line = placed line (type_name.Num I32)

abbrev pub pointer_to : ℕ → ℕ → Placed TypeName
pointer_to line class = placed line (type_name.Pointer (record { 0 = class }))

abbrev pub reading : ℕ → ℕ → e.ExprTree
reading line n = e.left (left_of.Name (ref false line n))

abbrev pub literal : ℕ → ℕ → e.ExprTree
literal line n = e.lit (node line) (record { bits = n; kind = I32 })

abbrev pub selector : Base → ℕ → ℕ → Selector
selector base line n = record { base = base; name = name line n }

abbrev pub calling : Base → ℕ → ℕ → e.ExprTrees → s.StmtTree
calling base line n arguments = s.simple (s.call_stmt (e.calls (node line) (callee_of.Member (selector base line n)) arguments))

abbrev pub starting_with : ℕ → e.ExprTree → Option s.InitialTree
starting_with line value = Some (record { sign = at line; value = value })

abbrev pub assigning : ℕ → Left → Option BinOp → e.ExprTree → s.StmtTree
assigning line l sign value = s.simple (s.assign (record { left = l; sign = placed line sign; value = value }))

abbrev pub in_braces : ℕ → List s.StmtTree → s.BlockTree
in_braces line stmts = s.braces (at line) (s.listed_stmts stmts)

abbrev pub program_of : List p.DeclTree → p.ProgramTree
program_of decls = record { at = at 1; directives = []; decls = decls }

abbrev pub stmts_of : List cs.CoreStmt → cs.CoreStmts
stmts_of [] = cs.no_stmts
stmts_of (first ∷ rest) = cs.more_stmts first (stmts_of rest)

abbrev pub int32 : ValueType
int32 = type.Number I32

abbrev pub value_of : ℕ → c.CoreExpr
value_of n = c.number (record { kind = I32; bits = n })

-- ---- a local with the name of a global

-- int32_t x;
-- int main() {
--     uint8_t x = 7;
--     ::x = x;
--     return x;
-- }
abbrev pub shadowing : p.ProgramTree
shadowing = program_of (
    p.global (p.variable (record { type_name = number_type 1; name = name 1 0; initial = None }))
    ∷ p.free_function (record {
      result = placed 2 type_name.Int;
      name = name 2 1;
      params = [];
      body = in_braces 2 (
          s.local (record { type_name = placed 3 (type_name.Num U8); name = name 3 0; initial = starting_with 3 (literal 3 7) })
          ∷ assigning 4 (left_of.Name (ref true 4 0)) None (reading 4 0)
          ∷ s.return (at 5) (Some (reading 5 0))
          ∷ []);
    })
    ∷ [])

abbrev pub shadowing_core : CoreProgram
shadowing_core = record {
  functions = record {
    number = 0;
    name = name 2 1;
    class = None;
    kind = cp.plain;
    params = [];
    result = Some int32;
    base = None;
    base_arguments = c.no_exprs;
    body = stmts_of (
        cs.declare 0 (type.Number U8) (Some (cs.value (value_of 7)))
        ∷ cs.assign (c.variable (c.global true 0 int32)) (c.read (c.variable (c.local 0 (type.Number U8))))
        ∷ cs.return_value (at 5) int32 (cs.copy 0 (type.Number U8))
        ∷ []);
  } ∷ [];
  classes = [];
  globals = cp.number 0 (record { kind = I32; bits = 0 }) ∷ [];
  main = Some 0;
}

-- ---- an object, a pointer to it, and a mutex

-- class C {
--     int32_t m;
-- public:
--     void set(int32_t v) { m = (v); }
--     C() { }
--     ~C() { }
-- };
-- C o;
-- std::mutex l;
-- int main() {
--     C* p = &o;
--     p->set(3);
--     l.lock();
--     o.m += p->m;
--     return (p);
-- }
abbrev pub class_c : p.ClassTree
class_c = record {
  at = at 1;
  word = Class;
  name = name 1 0;
  base = None;
  items =
      p.member (record { type_name = number_type 2; name = name 2 1 })
      ∷ p.label (at 3) Public
      ∷ p.function (record {
        result = placed 4 type_name.Void;
        name = name 4 2;
        params = record { type_name = number_type 4; name = name 4 3 } ∷ [];
        body = in_braces 4 (assigning 4 (left_of.Name (ref false 4 1)) None (e.paren (node 4) (reading 4 3)) ∷ []);
      })
      ∷ p.ctor (record { name = name 5 0; params = []; inits = []; body = in_braces 5 [] })
      ∷ p.dtor (record { at = at 6; name = name 6 0; body = in_braces 6 [] })
      ∷ [];
}

abbrev pub using_objects : p.ProgramTree
using_objects = program_of (
    p.class class_c
    ∷ p.global (p.object (record { class = name 8 0; name = name 8 4; arguments = e.no_exprs }))
    ∷ p.global (p.mutex (at 9) (name 9 5))
    ∷ p.free_function (record {
      result = placed 10 type_name.Int;
      name = name 10 6;
      params = [];
      body = in_braces 10 (
          s.local (record { type_name = pointer_to 11 0; name = name 11 7; initial = starting_with 11 (e.unary (node 11) AddressOf (reading 11 4)) })
          ∷ calling (base_of.Arrow (ref false 12 7)) 12 2 (e.more_exprs (literal 12 3) e.no_exprs)
          ∷ calling (base_of.Dot (ref false 13 5)) 13 8 e.no_exprs
          ∷ assigning 14 (left_of.Member (node 14) (selector (base_of.Dot (ref false 14 4)) 14 1)) (Some Add)
          (e.left (left_of.Member (node 14) (selector (base_of.Arrow (ref false 14 7)) 14 1)))
          ∷ s.return (at 15) (Some (e.paren (node 15) (reading 15 7)))
          ∷ []);
    })
    ∷ [])

abbrev pub first_class : ClassId
first_class = record { 0 = 0 }

-- `p`
abbrev pub p_variable : c.CoreVariable
p_variable = c.local 7 (type.Pointer first_class)

abbrev pub set_function : CoreFunction
set_function = record {
  number = 0;
  name = name 4 2;
  class = Some first_class;
  kind = cp.plain;
  params = record { name = 3; type = int32 } ∷ [];
  result = None;
  base = None;
  base_arguments = c.no_exprs;
  body = stmts_of (cs.assign (c.member (at 4) c.own first_class 1 I32) (c.read (c.variable (c.local 3 int32))) ∷ []);
}

abbrev pub empty_function : ℕ → Placed NameId → cp.FunctionKind → CoreFunction
empty_function number given kind = record {
  number = number;
  name = given;
  class = Some first_class;
  kind = kind;
  params = [];
  result = None;
  base = None;
  base_arguments = c.no_exprs;
  body = cs.no_stmts;
}

abbrev pub set_callee : c.CoreCallee
set_callee = record {
  at = at 12;
  named = at 12;
  function = 0;
  name = 2;
  class = Some first_class;
  object = Some (c.by_pointer p_variable);
  is_global = false;
  result = None;
}

abbrev pub main_function : CoreFunction
main_function = record {
  number = 3;
  name = name 10 6;
  class = None;
  kind = cp.plain;
  params = [];
  result = Some int32;
  base = None;
  base_arguments = c.no_exprs;
  body = stmts_of (
      cs.declare 7 (type.Pointer first_class) (Some (cs.value (c.address 4 first_class)))
      ∷ cs.run (c.call set_callee (c.more_exprs (value_of 3) c.no_exprs))
      ∷ cs.lock (at 13) (cs.global_mutex 5)
      ∷ cs.update (at 14) Add int32 int32 (c.member (at 14) (c.by_object 4 first_class) first_class 1 I32)
      (c.read (c.member (at 14) (c.by_pointer p_variable) first_class 1 I32))
      ∷ cs.return_value (at 15) int32 (cs.value (c.read (c.variable p_variable)))
      ∷ []);
}

abbrev pub using_objects_core : CoreProgram
using_objects_core = record {
  functions = set_function ∷ empty_function 1 (name 5 0) cp.constructor ∷ empty_function 2 (name 6 0) cp.destructor ∷ main_function ∷ [];
  classes = record {
    name = name 1 0;
    base = None;
    words = record { name = 1; kind = I32 } ∷ [];
    mutexes = [];
    constructor = Some 1;
    destructor = Some 2;
  } ∷ [];
  globals = cp.object (at 8) 4 first_class c.no_exprs ∷ cp.mutex 5 ∷ [];
  main = Some 3;
}

-- the names of the first program and of the second, in the order of their numbers
abbrev pub shadowing_names : List (List ℕ)
shadowing_names = codes "x" ∷ codes "main" ∷ []

abbrev pub object_names : List (List ℕ)
object_names =
    codes "C" ∷ codes "m" ∷ codes "set" ∷ codes "v" ∷ codes "o" ∷ codes "l" ∷ codes "main" ∷ codes "p" ∷ codes "lock" ∷ []

pub record ExamplesElaborate : Type 0 where
  pub of_shadowing : core_program shadowing_names shadowing ≡ shadowing_core
  pub of_objects : core_program object_names using_objects ≡ using_objects_core
