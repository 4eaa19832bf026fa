-- Where `delete this` stands, in statements and in the classes of a program whose objects have a part, as lists.
use Rattle.std.specs.Prelude.{ℕ, suc, List, [], ◌∷◌, ◌++◌, if◌then◌else◌}
use Rattle.agxx_base.specs.declared.place.Place.{Place}
use Rattle.cxx_tree.specs.ExprTree as e
use Rattle.cxx_tree.specs.ExprTree.{ExprTree}
use Rattle.cxx_tree.specs.StmtTree as s
use Rattle.cxx_tree.specs.StmtTree.{StmtTree, StmtTrees, BlockTree, IfTree, ElseTree}
use Rattle.cxx_tree.specs.ProgramTree as p
use Rattle.cxx_tree.specs.ProgramTree.{ItemTree, DeclTree}
use Rattle.cxx_names.specs.declared.declarations.Declared.{Declared}
use Rattle.guards.specs.declared.guard.Guard.{Guard}
use Rattle.guard_rules.specs.Parts.{holds_part, numbered, in_each}

abbrev pub if_this : Place → ExprTree → List Place
if_this at (e.this n) = at ∷ []
if_this at _ = []

abbrev mutual
  pub deletes_in : StmtTree → List Place
  deletes_in (s.block b) = deletes_in_block b
  deletes_in (s.branch i) = deletes_in_if i
  deletes_in (s.while at x body) = deletes_in_block body
  deletes_in (s.for at first x i body) = deletes_in_block body
  deletes_in (s.delete at x) = if_this at x
  deletes_in _ = []

  pub deletes_in_stmts : StmtTrees → List Place
  deletes_in_stmts s.no_stmts = []
  deletes_in_stmts (s.more_stmts first rest) = deletes_in first ++ deletes_in_stmts rest

  pub deletes_in_block : BlockTree → List Place
  deletes_in_block (s.braces at ss) = deletes_in_stmts ss

  pub deletes_in_if : IfTree → List Place
  deletes_in_if (s.chooses at x body otherwise) = deletes_in_block body ++ deletes_in_else otherwise

  pub deletes_in_else : ElseTree → List Place
  deletes_in_else s.no_else = []
  deletes_in_else (s.else_if i) = deletes_in_if i
  deletes_in_else (s.else_block b) = deletes_in_block b

abbrev pub deletes_in_item : ItemTree → List Place
deletes_in_item (p.label at a) = []
deletes_in_item (p.member m) = []
deletes_in_item (p.function f) = deletes_in_block f.body
deletes_in_item (p.ctor k) = deletes_in_block k.body
deletes_in_item (p.dtor k) = deletes_in_block k.body

-- in the class of this number
abbrev pub deletes_in_class : List Guard → Declared → ℕ → List ItemTree → List Place
deletes_in_class guards d class items = if holds_part guards d (numbered class) then in_each deletes_in_item items else []

-- in declarations, behind so many classes
abbrev pub deletes_in_decls : List Guard → Declared → ℕ → List DeclTree → List Place
deletes_in_decls guards d classes [] = []
deletes_in_decls guards d classes (p.class k ∷ xs) = deletes_in_class guards d classes k.items ++ deletes_in_decls guards d (suc classes) xs
deletes_in_decls guards d classes (x ∷ xs) = deletes_in_decls guards d classes xs
