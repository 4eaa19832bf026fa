use Rattle.std.proofs.Common.{◌≡◌, drop, map}
use Rattle.agxx_base.specs.declared.rule.Rule.TheVariants as rule
use Rattle.cxx_tree.specs.ProgramTree.{item_tree}
use Rattle.guard_rules.specs.BoolMember.{bool_at}
use Rattle.guard_rules.specs.Parts.{places_of}
use Rattle.guard_rules.specs.Nearest.{nearest}
use Rattle.guard_rules.proofs.members.bool_in.Given as goal

abbrev pub invariant-loop-item : goal.invariant-loop-item
invariant-loop-item l =
    nearest rule.P2 l.first (places_of bool_at (map item_tree (drop l.item-index l.items))) ≡ nearest rule.P2 l.fn.found (places_of bool_at (map item_tree l.items))
