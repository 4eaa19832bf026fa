-- The normal form has nothing of places and numbers of nodes.
use Rattle.std.proofs.Common.{◌≡◌, ℕ, ap, sym, ◌∙◌}
use Rattle.cxx_tree.specs.ProgramTree.{ProgramTree}
use Rattle.cxx_tree.specs.Blank.{blank_program}
use Rattle.cxx_normal.specs.Normal.{rebuilt, normal_tree}
use Rattle.cxx_normal.proofs.Blanked.{program-alike}
use Rattle.normal_laws.specs.Same.{NormalRespectsSame}
use Rattle.normal_laws.proofs.Blanked.{rebuilt-blank}

normal-blank : (main : ℕ) (q : ProgramTree) → blank_program (normal_tree main q) ≡ rebuilt main (blank_program q)
normal-blank main q = program-alike (rebuilt main q) ∙ rebuilt-blank main q

pub normal-respects-same : NormalRespectsSame
normal-respects-same main a b is = normal-blank main a ∙ (ap (rebuilt main) is ∙ sym (normal-blank main b))
