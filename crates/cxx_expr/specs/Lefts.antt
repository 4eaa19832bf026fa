-- Names, references to names, and what may stand on the left of an assignment or be called. Nodes have the number 0.
use Rattle.std.specs.Prelude.{if◌then◌else◌, [], ◌∷◌}
use Rattle.agxx_base.specs.declared.place.Place.{Place}
use Rattle.agxx_base.specs.declared.ids.NameId.{NameId}
use Rattle.agxx_base.specs.declared.vocabulary.Sign.TheVariants as sg
use Rattle.cxx_tree.specs.declared.node.Node.{Node}
use Rattle.cxx_tree.specs.declared.node.Placed.{Placed}
use Rattle.cxx_tree.specs.declared.expr.Ref.{Ref}
use Rattle.cxx_tree.specs.declared.expr.Base.{Base}
use Rattle.cxx_tree.specs.declared.expr.Base.TheVariants as base_of
use Rattle.cxx_tree.specs.declared.expr.Left.{Left}
use Rattle.cxx_tree.specs.declared.expr.Left.TheVariants as left_of
use Rattle.cxx_tree.specs.declared.expr.Callee.{Callee}
use Rattle.cxx_tree.specs.declared.expr.Callee.TheVariants as callee_of
use Rattle.cxx_tree.specs.Words as w
use Rattle.cxx_tree.specs.Words.{Word}
use Rattle.cxx_expr.specs.declared.stop.Stop.TheVariants.{Syntax}
use Rattle.cxx_expr.specs.Tokens.{Tokens, sees, after}
use Rattle.cxx_expr.specs.Outcome.{done, failed, Parse, and_then}

-- a node as it is read
abbrev pub node_at : Place → Node
node_at at = record { at = at; id = record { 0 = 0 } }

abbrev pub name_by : Word → Place → Parse Tokens (Placed NameId)
name_by (w.name n) at ts = done (record { at = at; item = record { 0 = n } }) (after ts)
name_by _ at ts = failed Syntax ts

unfoldable pub name : Parse Tokens (Placed NameId)
name [] = failed Syntax []
name (t ∷ ts) = name_by t.item t.at (t ∷ ts)

-- behind `::`, if it comes next
abbrev pub past_colons : Tokens → Tokens
past_colons ts = if sees sg.ColonColon ts then after ts else ts

unfoldable pub reference : Place → Parse Tokens Ref
reference at ts = and_then (name (past_colons ts)) (λ n. done (record { node = node_at at; global = sees sg.ColonColon ts; name = n }))

-- a member's name, behind what stands before it
unfoldable pub selected : Base → Parse Tokens Callee
selected base ts = and_then (name ts) (λ n. done (callee_of.Member (record { base = base; name = n })))

-- the rest of what begins with a reference
unfoldable pub selected_of : Ref → Parse Tokens Callee
selected_of r ts =
    if sees sg.Dot ts then selected (base_of.Dot r) (after ts)
    else (if sees sg.Arrow ts then selected (base_of.Arrow r) (after ts) else done (callee_of.Bare r) ts)

unfoldable pub target : Place → Parse Tokens Callee
target at ts = and_then (reference at ts) selected_of

-- the same as what stands on the left of an assignment
abbrev pub left_by : Node → Callee → Left
left_by n (callee_of.Bare r) = left_of.Name r
left_by n (callee_of.Member s) = left_of.Member n s
