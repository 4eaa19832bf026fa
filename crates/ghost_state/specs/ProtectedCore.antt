-- What protection makes of a core program: the same functions at the same numbers, with wrapped bodies, and behind them
-- those of the parts; the same classes, each with the words and the lock of its part behind its own.
use Rattle.std.specs.Prelude.{ℕ, zero, suc, ◌+◌, Bool, true, false, List, [], ◌∷◌, ◌++◌, map, drop, reverse, length, Option, Some, None}
use Rattle.agxx_base.specs.declared.ids.ClassId.{ClassId}
use Rattle.agxx_base.specs.declared.kind.NumKind.{NumKind}
use Rattle.agxx_base.specs.declared.kind.NumKind.TheVariants as kind
use Rattle.agxx_base.specs.declared.place.Place.{Place}
use Rattle.cxx_names.specs.declared.types.ValueType.{ValueType}
use Rattle.cxx_core.specs.CoreExpr as c
use Rattle.cxx_core.specs.CoreExpr.{CoreCallee}
use Rattle.cxx_core.specs.CoreStmt as cs
use Rattle.cxx_core.specs.CoreStmt.{CoreStmt, CoreStmts, CoreSource}
use Rattle.cxx_core.specs.CoreProgram as cp
use Rattle.cxx_core.specs.CoreProgram.{CoreFunction, CoreWord, CoreClass, CoreProgram}
use Rattle.codec.specs.Part.{unsigned_kind}
use Rattle.step_machine.specs.Setting.{line_in}
use Rattle.steady_laws.specs.EntryBlocks.{enter_block, leave_block}
use Rattle.ghost_state.specs.CoreCodes.{nowhere, BlockNames, CoreCode, Codes}
use Rattle.ghost_state.specs.Names.{Naming}

-- ---- a class and those above it

-- the class itself first
abbrev pub line_of : CoreProgram → Option ClassId → List ClassId
line_of p class = line_in p.classes (length p.classes) class

abbrev pub part_on : Option CoreCode → ClassId → List ClassId → List ClassId
part_on None class classes = classes
part_on (Some code) class classes = class ∷ classes

abbrev pub guarded : Codes → List ClassId → List ClassId
guarded g [] = []
guarded g (class ∷ classes) = part_on (g class) class (guarded g classes)

-- the parts of an object of a class, the topmost class's first
abbrev pub parts_of : Codes → CoreProgram → Option ClassId → List ClassId
parts_of g p class = guarded g (reverse (line_of p class))

-- ---- numbers of the parts' functions

abbrev pub so_many : Option CoreCode → ℕ → ℕ
so_many None n = n
so_many (Some code) n = n + 4

abbrev pub part_number_from : Codes → ℕ → ℕ → ℕ
part_number_from g first zero = first
part_number_from g first (suc k) = so_many (g (record { 0 = k })) (part_number_from g first k)

-- the number of the first function of a class's part
abbrev pub part_number : Codes → CoreProgram → ClassId → ℕ
part_number g p class = part_number_from g (length p.functions) class.0

abbrev pub repair_number : Codes → CoreProgram → ClassId → ℕ
repair_number g p class = part_number g p class

abbrev pub renew_number : Codes → CoreProgram → ClassId → ℕ
renew_number g p class = part_number g p class + 1

abbrev pub enter_number : Codes → CoreProgram → ClassId → ℕ
enter_number g p class = part_number g p class + 2

abbrev pub leave_number : Codes → CoreProgram → ClassId → ℕ
leave_number g p class = part_number g p class + 3

-- `f();` in a function of the class
abbrev pub own_callee : ClassId → ℕ → ℕ → CoreCallee
own_callee class name f = record {
  at = nowhere;
  named = nowhere;
  function = f;
  name = name;
  class = Some class;
  object = Some c.own;
  is_global = false;
  result = None;
}

abbrev pub calls : CoreCallee → CoreStmt
calls f = cs.run (c.call f c.no_exprs)

-- ---- how many values statements return

abbrev mutual
  pub returns_in : CoreStmts → ℕ
  returns_in cs.no_stmts = 0
  returns_in (cs.more_stmts s ss) = returns s + returns_in ss

  pub returns : CoreStmt → ℕ
  returns (cs.block body) = returns_in body
  returns (cs.branch e a b) = returns_in a + returns_in b
  returns (cs.while e body) = returns_in body
  returns (cs.for start e step body) = returns_in body
  returns (cs.return_value at t source) = 1
  returns s = 0

abbrev pub is_return : CoreStmt → Bool
is_return (cs.return at) = true
is_return (cs.return_value at t source) = true
is_return s = false

-- whether the last statement is a `return`, or this one where there is none
abbrev pub ends_after : Bool → CoreStmts → Bool
ends_after last cs.no_stmts = last
ends_after last (cs.more_stmts s ss) = ends_after (is_return s) ss

abbrev pub ends_in_return : CoreStmts → Bool
ends_in_return ss = ends_after false ss

-- ---- wrapping

module _ (names : Naming) (g : Codes) (p : CoreProgram) where
  abbrev pub repair_callee : ClassId → CoreCallee
  repair_callee class = own_callee class (names.repair class) (repair_number g p class)

  abbrev pub renew_callee : ClassId → CoreCallee
  renew_callee class = own_callee class (names.renew class) (renew_number g p class)

  abbrev pub enter_callee : ClassId → CoreCallee
  enter_callee class = own_callee class (names.enter class) (enter_number g p class)

  abbrev pub leave_callee : ClassId → CoreCallee
  leave_callee class = own_callee class (names.leave class) (leave_number g p class)

  abbrev pub enters : List ClassId → CoreStmts → CoreStmts
  enters [] rest = rest
  enters (class ∷ classes) rest = cs.more_stmts (calls (enter_callee class)) (enters classes rest)

  abbrev pub leaves : List ClassId → CoreStmts → CoreStmts
  leaves [] rest = rest
  leaves (class ∷ classes) rest = cs.more_stmts (calls (leave_callee class)) (leaves classes rest)

  -- a statement `return e;` that n of its kind stand before; the parts to be left, the last entered first
  abbrev pub wrapped_return : List ClassId → ℕ → Place → ValueType → CoreSource → CoreStmts → CoreStmts
  wrapped_return [] n at t source rest = cs.more_stmts (cs.return_value at t source) rest
  wrapped_return (class ∷ classes) n at t source rest =
      cs.more_stmts (cs.declare (names.result n) t (Some source))
      (leaves (class ∷ classes) (cs.more_stmts (cs.return_value at t (cs.copy (names.result n) t)) rest))

  module _ (out : List ClassId) where
    abbrev mutual
      -- statements that n such returns stand before, and what follows them
      pub wrapped_stmts : ℕ → CoreStmts → CoreStmts → CoreStmts
      wrapped_stmts n after cs.no_stmts = after
      wrapped_stmts n after (cs.more_stmts s ss) = wrapped_stmt n (wrapped_stmts (n + returns s) after ss) s

      pub wrapped_stmt : ℕ → CoreStmts → CoreStmt → CoreStmts
      wrapped_stmt n rest (cs.block body) = cs.more_stmts (cs.block (wrapped_stmts n cs.no_stmts body)) rest
      wrapped_stmt n rest (cs.branch e a b) =
          cs.more_stmts (cs.branch e (wrapped_stmts n cs.no_stmts a) (wrapped_stmts (n + returns_in a) cs.no_stmts b)) rest
      wrapped_stmt n rest (cs.while e body) = cs.more_stmts (cs.while e (wrapped_stmts n cs.no_stmts body)) rest
      wrapped_stmt n rest (cs.for start e step body) =
          cs.more_stmts (cs.for start e step (wrapped_stmts n cs.no_stmts body)) rest
      wrapped_stmt n rest (cs.return at) = leaves out (cs.more_stmts (cs.return at) rest)
      wrapped_stmt n rest (cs.return_value at t source) = wrapped_return out n at t source rest
      wrapped_stmt n rest s = cs.more_stmts s rest

    abbrev pub at_end : Bool → CoreStmts
    at_end true = cs.no_stmts
    at_end false = leaves out cs.no_stmts

  -- a body in a class with these parts
  abbrev pub wrapped : List ClassId → CoreStmts → CoreStmts
  wrapped parts body =
      enters parts (wrapped_stmts (reverse parts) 0 (at_end (reverse parts) (ends_in_return body)) body)

  abbrev pub wrapped_function : CoreFunction → CoreFunction
  wrapped_function f = record f { body = wrapped (parts_of g p f.class) f.body }

  -- ---- parts

  abbrev pub block_names : ClassId → BlockNames
  block_names class = record { added = names.added class; local = names.local class }

  abbrev pub named_from : (ℕ → ℕ) → ℕ → List NumKind → List CoreWord
  named_from name i [] = []
  named_from name i (k ∷ ks) = record { name = name i; kind = k } ∷ named_from name (suc i) ks

  -- the unsigned kinds of members
  abbrev pub member_kinds : List CoreWord → List NumKind
  member_kinds ms = map (λ (m : CoreWord). unsigned_kind m.kind) ms

  -- the words that its code adds to those of a class
  abbrev pub added_words : CoreCode → ClassId → List CoreWord → List CoreWord
  added_words code class ms = named_from (names.added class) 0 (drop (length ms) (code.kinds (member_kinds ms)))

  -- the words of the part
  abbrev pub part_words : CoreCode → ClassId → List CoreWord → List CoreWord
  part_words code class ms = ms ++ added_words code class ms

  abbrev pub counter_word : ClassId → CoreWord
  counter_word class = record { name = names.count class; kind = kind.U32 }

  abbrev pub class_by : Option CoreCode → ClassId → CoreClass → CoreClass
  class_by None class x = x
  class_by (Some code) class x =
      record x { words = part_words code class x.words ++ counter_word class ∷ []; mutexes = x.mutexes ++ names.lock class ∷ [] }

  abbrev pub classes_from : ℕ → List CoreClass → List CoreClass
  classes_from k [] = []
  classes_from k (x ∷ xs) = class_by (g (record { 0 = k })) (record { 0 = k }) x ∷ classes_from (suc k) xs

  -- ---- the functions of a part

  abbrev pub generated : ℕ → ℕ → ClassId → CoreStmts → CoreFunction
  generated n name class body = record {
    number = n;
    name = record { at = nowhere; item = record { 0 = name } };
    class = Some class;
    kind = cp.plain;
    params = [];
    result = None;
    base = None;
    base_arguments = c.no_exprs;
    body = body;
  }

  abbrev pub enter_body : ClassId → CoreStmts
  enter_body class = enter_block nowhere class (names.count class) (names.lock class) (repair_callee class)

  abbrev pub leave_body : ClassId → CoreStmts
  leave_body class = leave_block nowhere class (names.count class) (names.lock class) (renew_callee class)

  -- from this number on
  abbrev pub part_functions : ClassId → ℕ → CoreCode → List CoreWord → List CoreFunction → List CoreFunction
  part_functions class n code ms rest =
      generated n (names.repair class) class (code.repair class (block_names class) ms)
      ∷ generated (n + 1) (names.renew class) class (code.renew class (block_names class) ms)
      ∷ generated (n + 2) (names.enter class) class (enter_body class)
      ∷ generated (n + 3) (names.leave class) class (leave_body class)
      ∷ rest

  abbrev pub functions_by : Option CoreCode → ℕ → ClassId → CoreClass → List CoreFunction → List CoreFunction
  functions_by None n class x rest = rest
  functions_by (Some code) n class x rest = part_functions class n code x.words rest

  abbrev pub functions_from : ℕ → ℕ → List CoreClass → List CoreFunction
  functions_from n k [] = []
  functions_from n k (x ∷ xs) =
      functions_by (g (record { 0 = k })) n (record { 0 = k }) x
      (functions_from (so_many (g (record { 0 = k })) n) (suc k) xs)

  -- ---- the program

  abbrev pub protected_core : CoreProgram
  protected_core = record p {
    functions = map wrapped_function p.functions ++ functions_from (length p.functions) 0 p.classes;
    classes = classes_from 0 p.classes;
  }
