-- The node of an expression, whose place is that of the expression's first token.
use Rattle.cxx_tree.specs.declared.node.Node.{Node}
use Rattle.cxx_tree.specs.declared.expr.Left.{Left}
use Rattle.cxx_tree.specs.declared.expr.Left.TheVariants as left_of
use Rattle.cxx_tree.specs.ExprTree as e
use Rattle.cxx_tree.specs.ExprTree.{ExprTree, CallTree}

abbrev pub left_node : Left → Node
left_node (left_of.Name r) = r.node
left_node (left_of.Member n selector) = n
left_node (left_of.Result n) = n

abbrev pub call_node : CallTree → Node
call_node (e.calls n callee arguments) = n

abbrev pub expr_node : ExprTree → Node
expr_node (e.lit n number) = n
expr_node (e.flag n is_set) = n
expr_node (e.null n) = n
expr_node (e.this n) = n
expr_node (e.left l) = left_node l
expr_node (e.unary n op operand) = n
expr_node (e.binary n op a b) = n
expr_node (e.paren n inner) = n
expr_node (e.cast n type_name operand) = n
expr_node (e.call c) = call_node c
expr_node (e.new n class) = n
expr_node (e.new_with n class arguments) = n
