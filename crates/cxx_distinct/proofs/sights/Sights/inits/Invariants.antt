use Rattle.std.proofs.Common.{◌≡◌, drop, map}
use Rattle.cxx_tree.specs.ProgramTree.{init_tree}
use Rattle.cxx_distinct.specs.NamesIn.{names_in_each, names_in_init}
use Rattle.cxx_distinct.specs.Sights.{seen}
use Rattle.cxx_distinct.proofs.sights.Sights.inits.Given as goal

-- the names that were gone through, and then those of what is left, are all
abbrev pub invariant-loop-init : goal.invariant-loop-init
invariant-loop-init l = seen l.self (names_in_each names_in_init (map init_tree (drop l.init-index l.inits))) ≡ seen l.fn.self (names_in_each names_in_init (map init_tree l.inits))
