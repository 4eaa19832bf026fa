-- The canonical form of expressions, a line of the grammar each.
use Rattle.std.specs.Prelude.{Bool, true, false}
use Rattle.agxx_base.specs.declared.ids.NameId.{NameId}
use Rattle.agxx_base.specs.declared.vocabulary.Keyword.{Keyword}
use Rattle.agxx_base.specs.declared.vocabulary.Keyword.TheVariants as k
use Rattle.agxx_base.specs.declared.vocabulary.Sign.{Sign}
use Rattle.agxx_base.specs.declared.vocabulary.Sign.TheVariants as sg
use Rattle.agxx_base.specs.declared.vocabulary.SpecialName.{SpecialName}
use Rattle.agxx_base.specs.declared.vocabulary.SpecialName.TheVariants as sn
use Rattle.cxx_tree.specs.declared.node.Placed.{Placed}
use Rattle.cxx_tree.specs.declared.node.Number.{Number}
use Rattle.cxx_tree.specs.declared.node.Quoted.{Quoted}
use Rattle.cxx_tree.specs.declared.operator.BinOp.{BinOp}
use Rattle.cxx_tree.specs.declared.operator.UnOp.{UnOp}
use Rattle.cxx_tree.specs.declared.operator.UnOp.TheVariants as un
use Rattle.cxx_tree.specs.declared.expr.Ref.{Ref}
use Rattle.cxx_tree.specs.declared.expr.Base.{Base}
use Rattle.cxx_tree.specs.declared.expr.Base.TheVariants as base_of
use Rattle.cxx_tree.specs.declared.expr.Selector.{Selector}
use Rattle.cxx_tree.specs.declared.expr.Left.{Left}
use Rattle.cxx_tree.specs.declared.expr.Left.TheVariants as left_of
use Rattle.cxx_tree.specs.declared.expr.Callee.{Callee}
use Rattle.cxx_tree.specs.declared.expr.Callee.TheVariants as callee_of
use Rattle.cxx_tree.specs.declared.program.TypeName.{TypeName}
use Rattle.cxx_tree.specs.declared.program.TypeName.TheVariants as type_of
use Rattle.cxx_tree.specs.Words as w
use Rattle.cxx_tree.specs.Spelling.{binary_sign, unary_sign}
use Rattle.cxx_tree.specs.ExprTree as e
use Rattle.cxx_print.specs.Document.{Document, nothing, one, ◌⨾◌, word, special, blank}

abbrev pub keyword : Keyword → Document
keyword it = one (word (w.keyword it))

abbrev pub sign : Sign → Document
sign it = one (word (w.sign it))

abbrev pub name : Placed NameId → Document
name n = one (word (w.name n.item.0))

abbrev pub number : Number → Document
number n = one (word (w.number n.bits n.kind))

abbrev pub string : Quoted → Document
string q = one (word (w.text q.bytes))

abbrev pub special_name : SpecialName → Document
special_name it = one (special it)

abbrev pub gap : Document
gap = one blank

abbrev pub in_parentheses : Document → Document
in_parentheses inner = sign sg.OpenParen ⨾ inner ⨾ sign sg.CloseParen

-- a sign with a blank on each side
abbrev pub spaced : Sign → Document
spaced it = gap ⨾ sign it ⨾ gap

-- what stands behind the first of several parts
abbrev pub comma : Document
comma = sign sg.Comma ⨾ gap

-- a part with a semicolon behind it
abbrev pub ended : Document → Document
ended part = part ⨾ sign sg.Semicolon

abbrev pub flag : Bool → Document
flag true = keyword k.True
flag false = keyword k.False

-- `std`, `::` and a name
abbrev pub std_name : SpecialName → Document
std_name what = special_name sn.Std ⨾ sign sg.ColonColon ⨾ special_name what

-- `::`, where it is written
abbrev pub scope : Bool → Document
scope true = sign sg.ColonColon
scope false = nothing

abbrev pub ref : Ref → Document
ref r = scope r.global ⨾ name r.name

abbrev pub base : Base → Document
base base_of.This = keyword k.This ⨾ sign sg.Arrow
base (base_of.Dot r) = ref r ⨾ sign sg.Dot
base (base_of.Arrow r) = ref r ⨾ sign sg.Arrow

abbrev pub selector : Selector → Document
selector s = base s.base ⨾ name s.name

abbrev pub callee : Callee → Document
callee (callee_of.Bare r) = ref r
callee (callee_of.Member s) = selector s

-- two parentheses with nothing in them
abbrev pub no_arguments : Document
no_arguments = sign sg.OpenParen ⨾ sign sg.CloseParen

-- `tjp`, `->`, a name and two parentheses
abbrev pub of_join_point : SpecialName → Document
of_join_point what = keyword k.Tjp ⨾ sign sg.Arrow ⨾ special_name what ⨾ no_arguments

-- `*tjp->result()`
abbrev pub joined_result : Document
joined_result = sign sg.Star ⨾ of_join_point sn.Result

abbrev pub left : Left → Document
left (left_of.Name r) = ref r
left (left_of.Member n s) = selector s
left (left_of.Result n) = joined_result

abbrev pub pointer : NameId → Document
pointer class = one (word (w.name class.0)) ⨾ sign sg.Star

abbrev pub type_name : TypeName → Document
type_name (type_of.Num num) = keyword (k.Number num)
type_name type_of.Int = keyword k.Int
type_name type_of.Unsigned = keyword k.Unsigned
type_name type_of.Void = keyword k.Void
type_name (type_of.Pointer class) = pointer class
type_name type_of.Mutex = std_name sn.Mutex

-- a type and the name that it is declared with
abbrev pub typed : Placed TypeName → Placed NameId → Document
typed t n = type_name t.item ⨾ gap ⨾ name n

-- two signs that would be read as one
abbrev pub would_join : UnOp → UnOp → Bool
would_join un.Negate un.Negate = true
would_join un.AddressOf un.AddressOf = true
would_join other next = false

-- the unary operator with which an expression begins, before others
abbrev pub joins : UnOp → e.ExprTree → Bool
joins o (e.unary n next operand) = would_join o next
joins o (e.binary n sign a b) = joins o a
joins o other = false

-- a blank, where it is needed
abbrev pub apart : Bool → Document
apart true = gap
apart false = nothing

abbrev pub unary : UnOp → Bool → Document → Document
unary o is_apart operand = sign (unary_sign o) ⨾ apart is_apart ⨾ operand

abbrev pub binary : BinOp → Document → Document → Document
binary o a b = a ⨾ spaced (binary_sign o) ⨾ b

abbrev pub created : Placed NameId → Document
created class = keyword k.New ⨾ gap ⨾ name class

abbrev mutual
  pub expr : e.ExprTree → Document
  expr (e.lit n value) = number value
  expr (e.flag n is_set) = flag is_set
  expr (e.null n) = keyword k.Nullptr
  expr (e.this n) = keyword k.This
  expr (e.left l) = left l
  expr (e.unary n o operand) = unary o (joins o operand) (expr operand)
  expr (e.binary n o a b) = binary o.item (expr a) (expr b)
  expr (e.paren n inner) = in_parentheses (expr inner)
  expr (e.cast n to operand) = type_name to ⨾ in_parentheses (expr operand)
  expr (e.call c) = call c
  expr (e.new n class) = created class
  expr (e.new_with n class given) = created class ⨾ in_parentheses (separated given)

  -- several expressions, with commas between them
  pub separated : e.ExprTrees → Document
  separated e.no_exprs = nothing
  separated (e.more_exprs first rest) = expr first ⨾ after_commas rest

  -- several expressions, each behind a comma
  pub after_commas : e.ExprTrees → Document
  after_commas e.no_exprs = nothing
  after_commas (e.more_exprs next rest) = (comma ⨾ expr next) ⨾ after_commas rest

  pub call : e.CallTree → Document
  call (e.calls n to given) = callee to ⨾ in_parentheses (separated given)

-- what stands behind a name that is followed by arguments in parentheses
abbrev pub arguments : e.ExprTrees → Document
arguments given = in_parentheses (separated given)
