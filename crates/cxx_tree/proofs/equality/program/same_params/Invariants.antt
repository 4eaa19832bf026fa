use Rattle.std.proofs.Common.{◌≡◌, ◌↔◌, drop, map}
use Rattle.cxx_tree.specs.Blank.{blank_param}
use Rattle.cxx_tree.proofs.equality.program.same_params.Given as goal

-- what is left of the lists is the same exactly where the whole lists are
abbrev pub invariant-loop-first : goal.invariant-loop-first
invariant-loop-first l =
    (map blank_param (drop l.first-index l.a) ≡ map blank_param l.rest) ↔ (map blank_param l.a ≡ map blank_param l.fn.b)
