-- `main` gets `return 0;` at its end where its last statement isn't a `return`. The places are that of its name.
use Rattle.std.specs.Prelude.{ℕ, Bool, true, false, if◌then◌else◌, nat_eq, Some}
use Rattle.agxx_base.specs.declared.kind.NumKind.TheVariants as kind
use Rattle.agxx_base.specs.declared.place.Place.{Place}
use Rattle.cxx_tree.specs.ExprTree.{lit}
use Rattle.cxx_tree.specs.StmtTree as s
use Rattle.cxx_tree.specs.StmtTree.{StmtTree, StmtTrees, BlockTree}
use Rattle.cxx_tree.specs.ProgramTree.{FunctionTree}

abbrev pub is_return : StmtTree → Bool
is_return (s.block b) = false
is_return (s.local l) = false
is_return (s.simple i) = false
is_return (s.branch i) = false
is_return (s.while at condition body) = false
is_return (s.for at start condition step body) = false
is_return (s.return at value) = true
is_return (s.delete at pointer) = false
is_return (s.print q) = false
is_return (s.thread t) = false
is_return (s.abort at) = false

-- whether the last statement is a `return`, if one is known to end what stands before these
abbrev pub ends_with_return : Bool → StmtTrees → Bool
ends_with_return before s.no_stmts = before
ends_with_return before (s.more_stmts first rest) = ends_with_return (is_return first) rest

-- `return 0;`
abbrev pub return_zero : Place → StmtTree
return_zero at = s.return at (Some (lit (record { at = at; id = record { 0 = 0 } }) (record { bits = 0; kind = kind.I32 })))

abbrev pub followed_by : StmtTrees → StmtTree → StmtTrees
followed_by s.no_stmts last = s.more_stmts last s.no_stmts
followed_by (s.more_stmts first rest) last = s.more_stmts first (followed_by rest last)

abbrev pub returning_stmts : Place → StmtTrees → StmtTrees
returning_stmts name stmts = if ends_with_return false stmts then stmts else followed_by stmts (return_zero name)

abbrev pub returning_block : Place → BlockTree → BlockTree
returning_block name (s.braces at stmts) = s.braces at (returning_stmts name stmts)

abbrev pub is_main : ℕ → FunctionTree → Bool
is_main main f = nat_eq f.name.item.0 main

-- a free function, where main is the number of the name `main`
abbrev pub returning : ℕ → FunctionTree → FunctionTree
returning main f = if is_main main f then record f { body = returning_block f.name.at f.body } else f
