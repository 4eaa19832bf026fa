use Rattle.std.proofs.Common.{◌≡◌, ◌↔◌, drop}
use Rattle.cxx_tree.proofs.equality.program.same_directives.Given as goal

-- what is left of the lists is the same exactly where the whole lists are
abbrev pub invariant-loop-first : goal.invariant-loop-first
invariant-loop-first l = (drop l.first-index l.a ≡ l.rest) ↔ (l.a ≡ l.fn.b)
