-- The order of declarations: a forward declaration of each class, then one of each free function but `main`, then the
-- others, without the forward declarations of the source.
use Rattle.std.specs.Prelude.{ℕ, if◌then◌else◌, List, [], ◌∷◌, ◌++◌}
use Rattle.std.specs.List.{flat_map}
use Rattle.cxx_tree.specs.declared.program.ClassName.{ClassName}
use Rattle.cxx_tree.specs.declared.program.Proto.{Proto}
use Rattle.cxx_tree.specs.ProgramTree as p
use Rattle.cxx_tree.specs.ProgramTree.{ClassTree, FunctionTree, DeclTree}
use Rattle.cxx_normal.specs.Entry.{is_main}

abbrev pub name_of_class : ClassTree → ClassName
name_of_class c = record { at = c.at; word = c.word; name = c.name }

abbrev pub prototype_of : FunctionTree → Proto
prototype_of f = record { result = f.result; name = f.name; params = f.params }

-- the forward declaration of a class
abbrev pub forward : DeclTree → List DeclTree
forward (p.class c) = p.class_name (name_of_class c) ∷ []
forward (p.class_name c) = []
forward (p.free_function f) = []
forward (p.proto f) = []
forward (p.global g) = []

-- the forward declaration of a free function
abbrev pub prototype : ℕ → DeclTree → List DeclTree
prototype main (p.class c) = []
prototype main (p.class_name c) = []
prototype main (p.free_function f) = if is_main main f then [] else p.proto (prototype_of f) ∷ []
prototype main (p.proto f) = []
prototype main (p.global g) = []

-- what isn't a forward declaration
abbrev pub kept : DeclTree → List DeclTree
kept (p.class c) = p.class c ∷ []
kept (p.class_name c) = []
kept (p.free_function f) = p.free_function f ∷ []
kept (p.proto f) = []
kept (p.global g) = p.global g ∷ []

abbrev pub ordered : ℕ → List DeclTree → List DeclTree
ordered main decls = flat_map forward decls ++ (flat_map (prototype main) decls ++ flat_map kept decls)
