use Rattle.std.proofs.Common.{◌≡◌, ◌↔◌, drop, map}
use Rattle.cxx_tree.specs.Blank.{blank_item}
use Rattle.cxx_tree.specs.ProgramTree.{item_tree}
use Rattle.cxx_tree.proofs.equality.program.same_items.Given as goal

-- what is left of the lists is the same exactly where the whole lists are
abbrev pub invariant-loop-first : goal.invariant-loop-first
invariant-loop-first l =
    (map blank_item (map item_tree (drop l.first-index l.a)) ≡ map blank_item (map item_tree l.rest)) ↔ (map blank_item (map item_tree l.a) ≡ map blank_item (map item_tree l.fn.b))
