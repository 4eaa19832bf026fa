use Rattle.std.proofs.Common.{◌≡◌, ◌++◌, drop, map}
use Rattle.cxx_tree.specs.ProgramTree.{init_tree}
use Rattle.cxx_copy.proofs.copier.Copier.inits.Given as goal

-- what was copied, and then what is left, is the whole
abbrev pub invariant-loop-init : goal.invariant-loop-init
invariant-loop-init l = map init_tree l.copies ++ map init_tree (drop l.init-index l.inits) ≡ map init_tree l.inits
