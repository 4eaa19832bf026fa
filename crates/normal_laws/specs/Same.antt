-- The normal form has nothing of places and numbers of nodes.
use Rattle.std.specs.Prelude.{ℕ}
use Rattle.cxx_tree.specs.ProgramTree.{ProgramTree}
use Rattle.cxx_tree.specs.Same.{IsSame}
use Rattle.cxx_normal.specs.Normal.{normal_tree}

-- programs that are the same have normal forms that are the same
abbrev pub NormalRespectsSame : Type 0
NormalRespectsSame = (main : ℕ) (a b : ProgramTree) → IsSame a b → IsSame (normal_tree main a) (normal_tree main b)
