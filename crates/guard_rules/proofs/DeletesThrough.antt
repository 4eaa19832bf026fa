-- Going through a program finds each `delete this` that the lists have.
use Rattle.std.proofs.Common.{◌≡◌, refl, ℕ, suc, Bool, true, false, List, [], ◌∷◌, Option, if◌then◌else◌}
use Rattle.agxx_base.specs.declared.fault.Refusal.{Refusal}
use Rattle.agxx_base.specs.declared.place.Place.{Place}
use Rattle.agxx_base.specs.declared.rule.Rule.TheVariants as rule
use Rattle.cxx_tree.specs.ExprTree as e
use Rattle.cxx_tree.specs.ExprTree.{ExprTree}
use Rattle.cxx_tree.specs.StmtTree as s
use Rattle.cxx_tree.specs.StmtTree.{StmtTree, StmtTrees, BlockTree, IfTree, ElseTree}
use Rattle.cxx_tree.specs.ProgramTree as p
use Rattle.cxx_tree.specs.ProgramTree.{ItemTree, DeclTree}
use Rattle.cxx_names.specs.declared.declarations.Declared.{Declared}
use Rattle.guards.specs.declared.guard.Guard.{Guard}
use Rattle.guard_rules.specs.Parts.{holds_part, numbered, in_each}
use Rattle.guard_rules.specs.Nearest.{nearest}
use Rattle.guard_rules.specs.ThroughDeletes as to
use Rattle.guard_rules.proofs.DeletedThis as of
use Rattle.guard_rules.proofs.Nearest.{one_by_one, each_nearest}

pointer : (at : Place) (x : ExprTree) (o : Option Refusal) → to.through_pointer at x o ≡ nearest rule.P5 o (of.if_this at x)
pointer at (e.this n) o = refl
pointer at x o = refl

mutual
  stmt : (x : StmtTree) (o : Option Refusal) → to.through x o ≡ nearest rule.P5 o (of.deletes_in x)
  stmt (s.block b) o = block b o
  stmt (s.branch i) o = branch i o
  stmt (s.while at x body) o = block body o
  stmt (s.for at first x i body) o = block body o
  stmt (s.delete at x) o = pointer at x o
  stmt x o = refl

  stmts : (xs : StmtTrees) (o : Option Refusal) → to.through_stmts xs o ≡ nearest rule.P5 o (of.deletes_in_stmts xs)
  stmts s.no_stmts o = refl
  stmts (s.more_stmts first rest) o =
      one_by_one rule.P5 o (to.through first o) _ (of.deletes_in first) (of.deletes_in_stmts rest) (stmt first o) (stmts rest (to.through first o))

  block : (b : BlockTree) (o : Option Refusal) → to.through_block b o ≡ nearest rule.P5 o (of.deletes_in_block b)
  block (s.braces at xs) o = stmts xs o

  branch : (i : IfTree) (o : Option Refusal) → to.through_if i o ≡ nearest rule.P5 o (of.deletes_in_if i)
  branch (s.chooses at x body otherwise) o =
      one_by_one rule.P5 o (to.through_block body o) _ (of.deletes_in_block body) (of.deletes_in_else otherwise) (block body o) (otherwise-of otherwise (to.through_block body o))

  otherwise-of : (x : ElseTree) (o : Option Refusal) → to.through_else x o ≡ nearest rule.P5 o (of.deletes_in_else x)
  otherwise-of s.no_else o = refl
  otherwise-of (s.else_if i) o = branch i o
  otherwise-of (s.else_block b) o = block b o

item : (x : ItemTree) (o : Option Refusal) → to.through_item x o ≡ nearest rule.P5 o (of.deletes_in_item x)
item (p.label at a) o = refl
item (p.member m) o = refl
item (p.function f) o = block f.body o
item (p.ctor k) o = block k.body o
item (p.dtor k) o = block k.body o

if-nearest : (b : Bool) (o last : Option Refusal) (ats : List Place) → last ≡ nearest rule.P5 o ats → (if b then last else o) ≡ nearest rule.P5 o (if b then ats else [])
if-nearest true o last ats e = e
if-nearest false o last ats e = refl

class : (guards : List Guard) (d : Declared) (number : ℕ) (xs : List ItemTree) (o : Option Refusal) → to.through_class guards d number xs o ≡ nearest rule.P5 o (of.deletes_in_class guards d number xs)
class guards d number xs o =
    if-nearest (holds_part guards d (numbered number)) o _ (in_each of.deletes_in_item xs) (each_nearest rule.P5 to.through_item of.deletes_in_item item xs o)

pub decls_through : (guards : List Guard) (d : Declared) (number : ℕ) (xs : List DeclTree) (o : Option Refusal)
    → to.through_decls guards d number xs o ≡ nearest rule.P5 o (of.deletes_in_decls guards d number xs)
decls_through guards d number [] o = refl
decls_through guards d number (p.class k ∷ xs) o =
    one_by_one rule.P5 o (to.through_class guards d number k.items o) _ (of.deletes_in_class guards d number k.items) (of.deletes_in_decls guards d (suc number) xs)
    (class guards d number k.items o) (decls_through guards d (suc number) xs _)
decls_through guards d number (p.class_name k ∷ xs) o = decls_through guards d number xs o
decls_through guards d number (p.free_function f ∷ xs) o = decls_through guards d number xs o
decls_through guards d number (p.proto f ∷ xs) o = decls_through guards d number xs o
decls_through guards d number (p.global g ∷ xs) o = decls_through guards d number xs o
