-- Several expressions, of which the first may stand behind a comma too.
use Rattle.std.specs.Prelude.{Bool, true, false}
use Rattle.cxx_tree.specs.ExprTree.{ExprTrees}
use Rattle.cxx_print.specs.Document.{Document, ◌⨾◌}
use Rattle.cxx_print.specs.Expressions.{comma, separated, after_commas}

-- one of several parts
abbrev pub listed_part : Bool → Document → Document
listed_part true part = part
listed_part false part = comma ⨾ part

abbrev pub listed : Bool → ExprTrees → Document
listed true es = separated es
listed false es = after_commas es
