-- What a program keeps in its normal form.
use Rattle.std.specs.Prelude.{ℕ, List}
use Rattle.agxx_base.specs.declared.kind.Mode.{Mode}
use Rattle.cxx_tree.specs.ProgramTree.{ProgramTree}
use Rattle.cxx_tree.specs.Limits.{written, woven, limits_of}
use Rattle.cxx_tree.specs.Fits.{FitsProgram}
use Rattle.cxx_normal.specs.Normal.{normal_tree}
use Rattle.cxx_written.specs.Written.{IsWritten}

-- the normal form of a written program is written
abbrev pub NormalIsWritten : Type 0
NormalIsWritten =
    (mode : Mode) (names : List (List ℕ)) (main : ℕ) (q : ProgramTree) → IsWritten mode names q → IsWritten mode names (normal_tree main q)

-- the normal form of a program within the limits of sources is within those of woven programs
abbrev pub NormalFitsWoven : Type 0
NormalFitsWoven =
    (main : ℕ) (q : ProgramTree) → FitsProgram written (limits_of written) q → FitsProgram woven (limits_of woven) (normal_tree main q)
