-- Programs that print strings and sums of literals, and end: what they are, what they print, and how many steps they take.
use Rattle.std.specs.List.{All, flat_map}
use Rattle.std.specs.Prelude.{ℕ, ◌+◌, ◌*◌, ◌<◌, ◌^◌, List, [], ◌∷◌, map, length, sum_by, Some, codes}
use Rattle.std.specs.Fmt.{decimal}
use Rattle.agxx_base.specs.declared.kind.NumKind.TheVariants as kind
use Rattle.agxx_base.specs.declared.place.Place.{Place}
use Rattle.agxx_base.specs.Names.{number_of}
use Rattle.cxx_tree.specs.declared.node.Node.{Node}
use Rattle.cxx_tree.specs.declared.node.Placed.{Placed}
use Rattle.cxx_tree.specs.declared.node.Number.{Number}
use Rattle.cxx_tree.specs.declared.node.Quoted.{Quoted}
use Rattle.cxx_tree.specs.declared.operator.BinOp.{BinOp}
use Rattle.cxx_tree.specs.declared.operator.BinOp.TheVariants.{Add}
use Rattle.cxx_tree.specs.declared.program.Directive.{Directive}
use Rattle.cxx_tree.specs.declared.program.TypeName.{TypeName}
use Rattle.cxx_tree.specs.declared.program.TypeName.TheVariants as type_name
use Rattle.cxx_tree.specs.ExprTree as e
use Rattle.cxx_tree.specs.StmtTree as s
use Rattle.cxx_tree.specs.ProgramTree as p
use Rattle.step_machine.specs.Item.{line_end}

-- ---- the data of a program: what it prints, with the places and nodes of its text

pub record Literal : Type 0 where
  pub node : Node
  pub value : ℕ

-- a literal that is added to what stands before it
pub record Addend : Type 0 where
  -- of the sum that ends here
  pub node : Node
  -- of the `+`
  pub sign : Place
  pub literal : Literal

pub data Operand : Type 0 where
  string : Quoted → Operand
  end_line : Place → Operand
  sum : Literal → List Addend → Operand

pub record Print : Type 0 where
  pub at : Place
  pub operands : List Operand

-- the two names of the type of `main`
pub data MainType : Type 0 where
  int : MainType
  int32 : MainType

pub record SumProgram : Type 0 where
  pub at : Place
  pub directives : List Directive
  pub result : MainType
  pub result_at : Place
  pub main_at : Place
  pub body_at : Place
  pub prints : List Print
  -- of `return 0;`
  pub return_at : Place
  pub zero : Node

-- ---- the program

abbrev pub number : ℕ → Number
number value = record { bits = value; kind = kind.I32 }

abbrev pub literal_tree : Literal → e.ExprTree
literal_tree l = e.lit l.node (number l.value)

abbrev pub plus : Place → Placed BinOp
plus sign = record { at = sign; item = Add }

-- literals added to what stands before them, one after the other
abbrev pub added_tree : e.ExprTree → List Addend → e.ExprTree
added_tree before [] = before
added_tree before (a ∷ rest) = added_tree (e.binary a.node (plus a.sign) before (literal_tree a.literal)) rest

abbrev pub operand_tree : Operand → s.PrintedTree
operand_tree (string q) = s.text q
operand_tree (end_line at) = s.endl at
operand_tree (sum first rest) = s.value (added_tree (literal_tree first) rest)

abbrev pub print_tree : Print → s.StmtTree
print_tree q = s.print (record { at = q.at; operands = map operand_tree q.operands })

abbrev pub prints_before : s.StmtTrees → List Print → s.StmtTrees
prints_before last [] = last
prints_before last (q ∷ qs) = s.more_stmts (print_tree q) (prints_before last qs)

abbrev pub return_tree : SumProgram → s.StmtTrees
return_tree d = s.more_stmts (s.return d.return_at (Some (e.lit d.zero (number 0)))) s.no_stmts

abbrev pub type_of_main : MainType → TypeName
type_of_main int = type_name.Int
type_of_main int32 = type_name.Num kind.I32

abbrev pub main_tree : List (List ℕ) → SumProgram → p.FunctionTree
main_tree names d = record {
  result = record { at = d.result_at; item = type_of_main d.result };
  name = record { at = d.main_at; item = record { 0 = number_of names (codes "main") } };
  params = [];
  body = s.braces d.body_at (prints_before (return_tree d) d.prints);
}

-- where the names have these numbers
abbrev pub tree_of : List (List ℕ) → SumProgram → p.ProgramTree
tree_of names d = record { at = d.at; directives = d.directives; decls = p.free_function (main_tree names d) ∷ [] }

-- ---- what it prints

abbrev pub sum_of : Literal → List Addend → ℕ
sum_of first rest = first.value + sum_by (λ a. a.literal.value) rest

abbrev pub text_of : Operand → List ℕ
text_of (string q) = q.bytes
text_of (end_line at) = line_end
text_of (sum first rest) = decimal (sum_of first rest)

abbrev pub text_of_print : Print → List ℕ
text_of_print q = flat_map text_of q.operands

abbrev pub printed : SumProgram → List ℕ
printed d = flat_map text_of_print d.prints

-- ---- limits

-- a sum stays below 2^31, and so do its literals and all that is added up on the way
abbrev pub Fits : Operand → Type 0
Fits (string q) = Unit {0}
Fits (end_line at) = Unit {0}
Fits (sum first rest) = sum_of first rest < 2 ^ 31

abbrev pub PrintFits : Print → Type 0
PrintFits q = All Fits q.operands

-- ---- how many steps it takes

-- a literal takes one step, a `+` two and the print of a sum one
abbrev pub steps_of_operand : Operand → ℕ
steps_of_operand (string q) = 1
steps_of_operand (end_line at) = 1
steps_of_operand (sum first rest) = 2 + 3 * length rest

-- and one for the statement
abbrev pub steps_of_print : Print → ℕ
steps_of_print q = 1 + sum_by steps_of_operand q.operands

-- six for the run of `main`: one to enter it, four for `return 0;` and one to end
abbrev pub steps_of : SumProgram → ℕ
steps_of d = sum_by steps_of_print d.prints + 6
