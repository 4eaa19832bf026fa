-- Types, but that of a mutex, and parameters.
use Rattle.std.specs.Prelude.{ℕ, List, Option, Some, None}
use Rattle.agxx_base.specs.declared.place.Place.{Place}
use Rattle.agxx_base.specs.declared.ids.NameId.{NameId}
use Rattle.agxx_base.specs.declared.vocabulary.Keyword.{Keyword}
use Rattle.agxx_base.specs.declared.vocabulary.Keyword.TheVariants as k
use Rattle.agxx_base.specs.declared.vocabulary.Sign.TheVariants as sg
use Rattle.cxx_tree.specs.declared.node.Placed.{Placed}
use Rattle.cxx_tree.specs.declared.program.TypeName.{TypeName}
use Rattle.cxx_tree.specs.declared.program.TypeName.TheVariants as type_of
use Rattle.cxx_tree.specs.declared.program.Param.{Param}
use Rattle.cxx_tree.specs.Words as w
use Rattle.cxx_tree.specs.Words.{Word}
use Rattle.cxx_expr.specs.declared.stop.Stop.TheVariants.{Syntax}
use Rattle.cxx_expr.specs.Tokens.{Tokens, next, after}
use Rattle.cxx_expr.specs.Outcome.{done, failed, Parse, and_then, expect}
use Rattle.cxx_expr.specs.Lefts.{name}
use Rattle.cxx_stmt.specs.Parts.{in_parens, any}

-- the type that a keyword is
abbrev pub word_type : Keyword → Option TypeName
word_type (k.Number kind) = Some (type_of.Num kind)
word_type k.Int = Some type_of.Int
word_type k.Unsigned = Some type_of.Unsigned
word_type k.Void = Some type_of.Void
word_type _ = None

-- the type of pointers to objects of a class, where the class's name stands
abbrev pub pointer_to : Placed NameId → Placed TypeName
pointer_to class = record { at = class.at; item = type_of.Pointer class.item }

abbrev pub word_type_at : Place → Option TypeName → Parse Tokens (Placed TypeName)
word_type_at at None ts = failed Syntax ts
word_type_at at (Some t) ts = done (record { at = at; item = t }) (after ts)

abbrev pub type_at : Place → Word → Parse Tokens (Placed TypeName)
type_at at (w.keyword word) ts = word_type_at at (word_type word) ts
type_at at (w.name n) ts = and_then (expect sg.Star (after ts)) (λ u. done (pointer_to (record { at = at; item = record { 0 = n } })))
type_at at _ ts = failed Syntax ts

abbrev pub type_next : Option (Placed Word) → Parse Tokens (Placed TypeName)
type_next None ts = failed Syntax ts
type_next (Some t) ts = type_at t.at t.item ts

unfoldable pub plain_type : Parse Tokens (Placed TypeName)
plain_type ts = type_next (next ts) ts

unfoldable pub param : Parse Tokens Param
param ts = and_then (plain_type ts) (λ t ts. and_then (name ts) (λ n. done (record { type_name = t; name = n })))

-- parameters, with their parentheses
unfoldable pub params : ℕ → Parse Tokens (List Param)
params depth = in_parens depth (λ below. any param)
