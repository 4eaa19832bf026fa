use Rattle.std.proofs.Common.{◌≡◌, ◌↔◌, drop, map}
use Rattle.cxx_tree.specs.Blank.{blank_init}
use Rattle.cxx_tree.specs.ProgramTree.{init_tree}
use Rattle.cxx_tree.proofs.equality.program.same_inits.Given as goal

-- what is left of the lists is the same exactly where the whole lists are
abbrev pub invariant-loop-first : goal.invariant-loop-first
invariant-loop-first l =
    (map blank_init (map init_tree (drop l.first-index l.a)) ≡ map blank_init (map init_tree l.rest)) ↔ (map blank_init (map init_tree l.a) ≡ map blank_init (map init_tree l.fn.b))
