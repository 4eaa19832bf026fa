-- Texts of a few trees, worked out by hand.
use Rattle.std.specs.Prelude.{ℕ, ◌≡◌, false, List, [], ◌∷◌, ◌++◌, None, codes}
use Rattle.agxx_base.specs.declared.ids.NameId.{NameId}
use Rattle.agxx_base.specs.declared.place.Place.{Place}
use Rattle.agxx_base.specs.declared.vocabulary.Header.TheVariants as header
use Rattle.cxx_tree.specs.declared.node.Node.{Node}
use Rattle.cxx_tree.specs.declared.node.Placed.{Placed}
use Rattle.cxx_tree.specs.declared.operator.UnOp.TheVariants as un
use Rattle.cxx_tree.specs.declared.expr.Left.TheVariants as left_of
use Rattle.cxx_tree.specs.declared.program.ClassWord.TheVariants as class_word_of
use Rattle.cxx_tree.specs.declared.program.Directive.TheVariants as directive_of
use Rattle.cxx_tree.specs.ExprTree as e
use Rattle.cxx_tree.specs.StmtTree as s
use Rattle.cxx_tree.specs.ProgramTree as p
use Rattle.cxx_print.specs.Document.{Document, parts_of, line}
use Rattle.cxx_print.specs.Texts.{text_of_parts}
use Rattle.cxx_print.specs.Expressions.{expr}
use Rattle.cxx_print.specs.Statements.{stmt}
use Rattle.cxx_print.specs.Programs.{text_of}

abbrev pub place : Place
place = record { file = 0; line = 1; column = 1 }

abbrev pub node : Node
node = record { at = place; id = record { 0 = 0 } }

abbrev pub names : List (List ℕ)
names = codes "a" ∷ codes "C" ∷ []

abbrev pub named : ℕ → Placed NameId
named n = record { at = place; item = record { 0 = n } }

abbrev pub a : e.ExprTree
a = e.left (left_of.Name (record { node = node; global = false; name = named 0 }))

abbrev pub text : Document → List ℕ
text d = text_of_parts names (parts_of d)

abbrev pub empty : s.BlockTree
empty = s.braces place s.no_stmts

-- two minus signs stay apart, two exclamation marks need not
abbrev pub TwoSigns : Type 0
TwoSigns =
    (text (expr (e.unary node un.Negate (e.unary node un.Negate a))) ≡ codes "- -a")
    × (text (expr (e.unary node un.Not (e.unary node un.Not a))) ≡ codes "!!a")

-- a `for` without parts in a line of its own
abbrev pub EmptyFor : Type 0
EmptyFor =
    text (line 1 (stmt 1 (s.for place None None None empty))) ≡ codes "    for (; ; ) {" ++ 10 ∷ (codes "    }" ++ 10 ∷ [])

-- an include and a class without items
abbrev pub EmptyClass : Type 0
EmptyClass =
    text_of names (record { at = place; directives = directive_of.Include header.Mutex ∷ []; decls = p.class (record { at = place; word = class_word_of.Class; name = named 1; base = None; items = [] }) ∷ [] })
    ≡ codes "#include <mutex>" ++ 10 ∷ (codes "class C {" ++ 10 ∷ (codes "};" ++ 10 ∷ []))
