-- Each `delete this` in the classes of a program whose objects have a part, as they are gone through.
use Rattle.std.specs.Prelude.{ℕ, suc, List, [], ◌∷◌, Option, if◌then◌else◌}
use Rattle.agxx_base.specs.declared.fault.Refusal.{Refusal}
use Rattle.agxx_base.specs.declared.place.Place.{Place}
use Rattle.agxx_base.specs.declared.rule.Rule.TheVariants as rule
use Rattle.cxx_tree.specs.ExprTree as e
use Rattle.cxx_tree.specs.ExprTree.{ExprTree}
use Rattle.cxx_tree.specs.StmtTree as s
use Rattle.cxx_tree.specs.StmtTree.{StmtTree, StmtTrees, BlockTree, IfTree, ElseTree}
use Rattle.cxx_tree.specs.ProgramTree as p
use Rattle.cxx_tree.specs.ProgramTree.{ItemTree, DeclTree}
use Rattle.cxx_names.specs.declared.declarations.Declared.{Declared}
use Rattle.guards.specs.declared.guard.Guard.{Guard}
use Rattle.guard_rules.specs.Parts.{holds_part, numbered}
use Rattle.guard_rules.specs.Nearest.{with_violation, through_each}

abbrev pub through_pointer : Place → ExprTree → Option Refusal → Option Refusal
through_pointer at (e.this n) found = with_violation rule.P5 at found
through_pointer at _ found = found

abbrev mutual
  pub through : StmtTree → Option Refusal → Option Refusal
  through (s.block b) found = through_block b found
  through (s.branch i) found = through_if i found
  through (s.while at x body) found = through_block body found
  through (s.for at first x i body) found = through_block body found
  through (s.delete at x) found = through_pointer at x found
  through _ found = found

  pub through_stmts : StmtTrees → Option Refusal → Option Refusal
  through_stmts s.no_stmts found = found
  through_stmts (s.more_stmts first rest) found = through_stmts rest (through first found)

  pub through_block : BlockTree → Option Refusal → Option Refusal
  through_block (s.braces at ss) found = through_stmts ss found

  pub through_if : IfTree → Option Refusal → Option Refusal
  through_if (s.chooses at x body otherwise) found = through_else otherwise (through_block body found)

  pub through_else : ElseTree → Option Refusal → Option Refusal
  through_else s.no_else found = found
  through_else (s.else_if i) found = through_if i found
  through_else (s.else_block b) found = through_block b found

abbrev pub through_item : ItemTree → Option Refusal → Option Refusal
through_item (p.label at a) found = found
through_item (p.member m) found = found
through_item (p.function f) found = through_block f.body found
through_item (p.ctor k) found = through_block k.body found
through_item (p.dtor k) found = through_block k.body found

-- the class of this number
abbrev pub through_class : List Guard → Declared → ℕ → List ItemTree → Option Refusal → Option Refusal
through_class guards d class items found =
    if holds_part guards d (numbered class) then through_each through_item items found else found

-- declarations, behind so many classes
abbrev pub through_decls : List Guard → Declared → ℕ → List DeclTree → Option Refusal → Option Refusal
through_decls guards d classes [] found = found
through_decls guards d classes (p.class k ∷ xs) found = through_decls guards d (suc classes) xs (through_class guards d classes k.items found)
through_decls guards d classes (x ∷ xs) found = through_decls guards d classes xs found
