-- The initial values of global numbers and pointers.
use Rattle.std.specs.Prelude.{Bool, true, false, Option, Some, None}
use Rattle.agxx_base.specs.declared.vocabulary.Keyword.TheVariants as k
use Rattle.agxx_base.specs.declared.vocabulary.Sign.TheVariants as sg
use Rattle.cxx_tree.specs.declared.node.Placed.{Placed}
use Rattle.cxx_tree.specs.declared.program.Const.{Const}
use Rattle.cxx_tree.specs.declared.program.Const.TheVariants as const_of
use Rattle.cxx_tree.specs.Words as w
use Rattle.cxx_tree.specs.Words.{Word}
use Rattle.cxx_expr.specs.declared.stop.Stop.TheVariants.{Syntax}
use Rattle.cxx_expr.specs.Tokens.{Tokens, next, after}
use Rattle.cxx_expr.specs.Outcome.{done, failed, Parse}

-- a number, with `-` before it or not
abbrev pub number_at : Bool → Word → Parse Tokens Const
number_at negative (w.number bits kind) ts = done (const_of.Number negative (record { bits = bits; kind = kind })) (after ts)
number_at negative _ ts = failed Syntax ts

abbrev pub number_next : Bool → Option (Placed Word) → Parse Tokens Const
number_next negative None ts = failed Syntax ts
number_next negative (Some t) ts = number_at negative t.item ts

-- behind `-`
unfoldable pub negative : Parse Tokens Const
negative ts = number_next true (next ts) ts

abbrev pub constant_at : Word → Parse Tokens Const
constant_at (w.number bits kind) ts = done (const_of.Number false (record { bits = bits; kind = kind })) (after ts)
constant_at (w.keyword k.True) ts = done (const_of.Flag true) (after ts)
constant_at (w.keyword k.False) ts = done (const_of.Flag false) (after ts)
constant_at (w.keyword k.Nullptr) ts = done const_of.Null (after ts)
constant_at (w.sign sg.Minus) ts = negative (after ts)
constant_at _ ts = failed Syntax ts

abbrev pub constant_next : Option (Placed Word) → Parse Tokens Const
constant_next None ts = failed Syntax ts
constant_next (Some t) ts = constant_at t.item ts

unfoldable pub constant : Parse Tokens Const
constant ts = constant_next (next ts) ts
