-- The names that stand in a program, each with its place, in text order, as a fold finds them: the names of classes,
-- bases, members, functions, parameters, locals, threads and globals, those of constructors, destructors and
-- initialisers, those of which expressions and statements speak, and the classes of pointer types. The declaration of a
-- class's name alone and a function without its body have none that count.
use Rattle.std.specs.Prelude.{List, [], ◌∷◌, ◌++◌, Option}
use Rattle.agxx_base.specs.declared.ids.NameId.{NameId}
use Rattle.agxx_base.specs.declared.place.Place.{Place}
use Rattle.cxx_tree.specs.declared.node.Placed.{Placed}
use Rattle.cxx_tree.specs.declared.expr.Base.{Base}
use Rattle.cxx_tree.specs.declared.expr.Selector.{Selector}
use Rattle.cxx_tree.specs.declared.expr.Left.{Left}
use Rattle.cxx_tree.specs.declared.expr.Callee.{Callee}
use Rattle.cxx_tree.specs.declared.program.TypeName.{TypeName}
use Rattle.cxx_tree.specs.declared.program.TypeName.TheVariants as type_name
use Rattle.cxx_tree.specs.declared.program.Param.{Param}
use Rattle.cxx_tree.specs.ExprTree as e
use Rattle.cxx_tree.specs.StmtTree as s
use Rattle.cxx_tree.specs.ProgramTree as p
use Rattle.cxx_tree.specs.Fold as of
use Rattle.cxx_tree.specs.Fold.{Fold, fold_optional, fold_each}

abbrev pub names_in_type_at : Place → TypeName → List (Placed NameId)
names_in_type_at at (type_name.Num kind) = []
names_in_type_at at type_name.Int = []
names_in_type_at at type_name.Unsigned = []
names_in_type_at at type_name.Void = []
names_in_type_at at (type_name.Pointer class) = record { at = at; item = class } ∷ []
names_in_type_at at type_name.Mutex = []

-- the class of a pointer type, where the type stands
abbrev pub names_in_type : Placed TypeName → List (Placed NameId)
names_in_type t = names_in_type_at t.at t.item

-- what a leaf gives: a name itself, and a type the class that it names
abbrev pub finds : Fold (List (Placed NameId))
finds = record { none = []; join = λ ns others. ns ++ others; node = λ n. []; name = λ n. n ∷ []; type_name = names_in_type }

-- the names in a part that may be missing
abbrev pub names_in_optional : {A : Type 0} → (A → List (Placed NameId)) → Option A → List (Placed NameId)
names_in_optional names_in = fold_optional finds names_in

-- the names in parts that follow each other
abbrev pub names_in_each : {A : Type 0} → (A → List (Placed NameId)) → List A → List (Placed NameId)
names_in_each names_in = fold_each finds names_in

-- ---- expressions

abbrev pub names_in_base : Base → List (Placed NameId)
names_in_base = of.fold_base finds

abbrev pub names_in_selector : Selector → List (Placed NameId)
names_in_selector = of.fold_selector finds

abbrev pub names_in_left : Left → List (Placed NameId)
names_in_left = of.fold_left finds

abbrev pub names_in_callee : Callee → List (Placed NameId)
names_in_callee = of.fold_callee finds

abbrev pub names_in_expr : e.ExprTree → List (Placed NameId)
names_in_expr = of.fold_expr finds

abbrev pub names_in_exprs : e.ExprTrees → List (Placed NameId)
names_in_exprs = of.fold_exprs finds

abbrev pub names_in_call : e.CallTree → List (Placed NameId)
names_in_call = of.fold_call finds

-- ---- statements

abbrev pub names_in_initial : s.InitialTree → List (Placed NameId)
names_in_initial = of.fold_initial finds

abbrev pub names_in_local : s.LocalTree → List (Placed NameId)
names_in_local = of.fold_local finds

abbrev pub names_in_simple : s.SimpleTree → List (Placed NameId)
names_in_simple = of.fold_simple finds

abbrev pub names_in_printed : s.PrintedTree → List (Placed NameId)
names_in_printed = of.fold_printed finds

abbrev pub names_in_thread : s.ThreadTree → List (Placed NameId)
names_in_thread = of.fold_thread finds

abbrev pub names_in_start : s.StartTree → List (Placed NameId)
names_in_start = of.fold_start finds

abbrev pub names_in_stmt : s.StmtTree → List (Placed NameId)
names_in_stmt = of.fold_stmt finds

abbrev pub names_in_stmts : s.StmtTrees → List (Placed NameId)
names_in_stmts = of.fold_stmts finds

abbrev pub names_in_block : s.BlockTree → List (Placed NameId)
names_in_block = of.fold_block finds

abbrev pub names_in_if : s.IfTree → List (Placed NameId)
names_in_if = of.fold_if finds

abbrev pub names_in_else : s.ElseTree → List (Placed NameId)
names_in_else = of.fold_else finds

-- ---- declarations

abbrev pub names_in_params : List Param → List (Placed NameId)
names_in_params = of.fold_params finds

abbrev pub names_in_function : p.FunctionTree → List (Placed NameId)
names_in_function = of.fold_function finds

abbrev pub names_in_init : p.InitTree → List (Placed NameId)
names_in_init = of.fold_init finds

abbrev pub names_in_ctor : p.CtorTree → List (Placed NameId)
names_in_ctor = of.fold_ctor finds

abbrev pub names_in_item : p.ItemTree → List (Placed NameId)
names_in_item = of.fold_item finds

abbrev pub names_in_class : p.ClassTree → List (Placed NameId)
names_in_class = of.fold_class finds

abbrev pub names_in_global : p.GlobalTree → List (Placed NameId)
names_in_global = of.fold_global finds

abbrev pub names_in_base_of : Option (Placed NameId) → List (Placed NameId)
names_in_base_of = fold_optional finds finds.name

-- the name of a class that is only named, and a function without its body, don't count
abbrev pub names_in_decl : p.DeclTree → List (Placed NameId)
names_in_decl (p.class c) = names_in_class c
names_in_decl (p.class_name c) = []
names_in_decl (p.free_function f) = names_in_function f
names_in_decl (p.proto f) = []
names_in_decl (p.global g) = names_in_global g

-- all names that stand in a program
abbrev pub names_in_program : p.ProgramTree → List (Placed NameId)
names_in_program q = names_in_each names_in_decl q.decls
