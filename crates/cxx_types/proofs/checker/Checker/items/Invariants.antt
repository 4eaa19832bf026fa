use Rattle.std.proofs.Common.{◌≡◌, drop, map}
use Rattle.cxx_tree.specs.ProgramTree.{item_tree}
use Rattle.cxx_types.specs.Classes.{items, none_seen}
use Rattle.cxx_types.proofs.checker.Checker.items.Given as goal

abbrev pub invariant-loop-item : goal.invariant-loop-item
invariant-loop-item l =
    items l.context l.base l.class l.seen (map item_tree (drop l.item-index l.items)) l.self ≡ items l.context l.base l.class none_seen (map item_tree l.items) l.fn.self
