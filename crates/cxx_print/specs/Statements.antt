-- The canonical form of statements, a line of the grammar each. The level is that of the line on which a statement begins.
use Rattle.std.specs.Prelude.{ℕ, Bool, true, false, List, [], ◌∷◌, Option, Some, None}
use Rattle.agxx_base.specs.declared.vocabulary.Keyword.{Keyword}
use Rattle.agxx_base.specs.declared.vocabulary.Keyword.TheVariants as k
use Rattle.agxx_base.specs.declared.vocabulary.Sign.{Sign}
use Rattle.agxx_base.specs.declared.vocabulary.Sign.TheVariants as sg
use Rattle.agxx_base.specs.declared.vocabulary.SpecialName.TheVariants as sn
use Rattle.cxx_tree.specs.declared.stmt.Bump.{Bump}
use Rattle.cxx_tree.specs.Spelling.{assign_sign, bump_sign}
use Rattle.cxx_tree.specs.ExprTree as e
use Rattle.cxx_tree.specs.StmtTree as s
use Rattle.cxx_print.specs.Document.{Document, nothing, one, ◌⨾◌, newline, deeper, indented, line}
use Rattle.cxx_print.specs.Expressions.{keyword, sign, name, string, gap, in_parentheses, spaced, ended, std_name, ref, left, typed, no_arguments, of_join_point, expr, after_commas, call}

-- a part that may be missing
abbrev pub optional : {A : Type 0} → (A → Document) → Option A → Document
optional form None = nothing
optional form (Some part) = form part

abbrev pub initial : s.InitialTree → Document
initial i = spaced sg.Assign ⨾ expr i.value

abbrev pub local : s.LocalTree → Document
local l = typed l.type_name l.name ⨾ optional initial l.initial

abbrev pub assign : s.AssignTree → Document
assign a = left a.left ⨾ spaced (assign_sign a.sign.item) ⨾ expr a.value

-- a part with a sign in front of it, or behind it
abbrev pub beside : Bool → Sign → Document → Document
beside true it part = sign it ⨾ part
beside false it part = part ⨾ sign it

abbrev pub bump : Bump → Document
bump b = beside b.in_front (bump_sign b.adds) (left b.left)

abbrev pub simple : s.SimpleTree → Document
simple (s.assign a) = assign a
simple (s.bump b) = bump b
simple (s.call_stmt c) = call c
simple (s.proceed at) = of_join_point sn.Proceed

-- an operand of a print
abbrev pub operand : s.PrintedTree → Document
operand (s.text q) = string q
operand (s.endl at) = std_name sn.Endl
operand (s.value v) = expr v

-- operands of a print, each behind its sign
abbrev pub operands : List s.PrintedTree → Document
operands [] = nothing
operands (next ∷ rest) = (spaced sg.ShiftLeft ⨾ operand next) ⨾ operands rest

abbrev pub print : s.PrintTree → Document
print p = std_name sn.Cout ⨾ operands p.operands

-- the function of a thread, and its arguments
abbrev pub function_and_arguments : s.ThreadTree → Document
function_and_arguments t = ref t.function ⨾ after_commas t.arguments

abbrev pub started : s.ThreadTree → Document
started t = in_parentheses (function_and_arguments t)

abbrev pub thread : s.ThreadTree → Document
thread t = std_name sn.Thread ⨾ gap ⨾ name t.name ⨾ started t

abbrev pub abort : Document
abort = std_name sn.Abort ⨾ no_arguments

abbrev pub start : s.StartTree → Document
start (s.start_local l) = local l
start (s.start_simple i) = simple i

-- the value of a `return` or `delete`
abbrev pub returned : e.ExprTree → Document
returned value = gap ⨾ expr value

abbrev pub return_stmt : Option e.ExprTree → Document
return_stmt value = ended (keyword k.Return ⨾ optional returned value)

abbrev pub delete_stmt : e.ExprTree → Document
delete_stmt pointer = ended (keyword k.Delete ⨾ returned pointer)

-- a keyword, and the condition in its parentheses
abbrev pub with_condition : Keyword → e.ExprTree → Document
with_condition it condition = keyword it ⨾ gap ⨾ in_parentheses (expr condition)

-- the parts in the parentheses of a `for`
abbrev pub for_parts : Option s.StartTree → Option e.ExprTree → Option s.SimpleTree → Document
for_parts first condition step =
    ended (optional start first) ⨾ gap ⨾ ended (optional expr condition) ⨾ gap ⨾ optional simple step

abbrev pub for_head : Option s.StartTree → Option e.ExprTree → Option s.SimpleTree → Document
for_head first condition step = keyword k.For ⨾ gap ⨾ in_parentheses (for_parts first condition step)

-- `else`, behind the `}` of an `if`
abbrev pub otherwise : Document
otherwise = gap ⨾ keyword k.Else ⨾ gap

abbrev mutual
  -- a statement from the margin of its first line to the end of its last
  pub stmt : ℕ → s.StmtTree → Document
  stmt level (s.block b) = block level b
  stmt level (s.local l) = ended (local l)
  stmt level (s.simple i) = ended (simple i)
  stmt level (s.branch i) = branch level i
  stmt level (s.while at condition body) = with_condition k.While condition ⨾ gap ⨾ block level body
  stmt level (s.for at first condition step body) = for_head first condition step ⨾ gap ⨾ block level body
  stmt level (s.return at value) = return_stmt value
  stmt level (s.delete at pointer) = delete_stmt pointer
  stmt level (s.print p) = ended (print p)
  stmt level (s.thread t) = ended (thread t)
  stmt level (s.abort at) = ended abort

  -- statements, one below the other
  pub stmts : ℕ → s.StmtTrees → Document
  stmts level s.no_stmts = nothing
  stmts level (s.more_stmts first rest) = line level (stmt level first) ⨾ stmts level rest

  -- a block in a line of this level: the line ends behind `{`, and `}` begins another
  pub block : ℕ → s.BlockTree → Document
  block level (s.braces at inner) =
      sign sg.OpenBrace ⨾ one newline ⨾ stmts (deeper level) inner ⨾ indented level ⨾ sign sg.CloseBrace

  pub branch : ℕ → s.IfTree → Document
  branch level (s.chooses at condition body other) =
      with_condition k.If condition ⨾ gap ⨾ block level body ⨾ alternative level other

  -- what stands behind the `}` of an `if`
  pub alternative : ℕ → s.ElseTree → Document
  alternative level s.no_else = nothing
  alternative level (s.else_if i) = otherwise ⨾ branch level i
  alternative level (s.else_block b) = otherwise ⨾ block level b
