use Rattle.std.proofs.Common.{drop}
use Rattle.cxx_tree.specs.ProgramTree.{init_tree}
use Rattle.cxx_normal.specs.Numbers.{number_init}
use Rattle.cxx_normal.proofs.Loops.{IsNumbered, parts}
use Rattle.cxx_normal.proofs.numbering.Numbering.inits.Given as goal

abbrev pub invariant-loop-init : goal.invariant-loop-init
invariant-loop-init l =
    IsNumbered init_tree number_init (parts init_tree number_init l.inits l.fn.self.next) l.copies (drop l.init-index l.inits) l.self.next
