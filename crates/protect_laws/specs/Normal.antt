-- A protected program is in normal form, so that the text that is written of it is read back as what it was.
use Rattle.std.specs.Prelude.{◌≡◌, ℕ, List}
use Rattle.cxx_tree.specs.ProgramTree.{ProgramTree}
use Rattle.cxx_normal.specs.Numbers.{numbered_program}
use Rattle.cxx_normal.specs.Normal.{normal_tree}
use Rattle.guards.specs.declared.guard.Guard.{Guard}
use Rattle.protect.specs.Protected.{protected}
use Rattle.protect.specs.GeneratedNames.{generated_texts}
use Rattle.protect_laws.specs.Strip.{AreKnown, HasNoneGenerated}

-- a program in normal form is protected into one whose normal form is itself, but for the numbers of nodes
abbrev pub ProtectedIsNormal : Type 0
ProtectedIsNormal =
    (main : ℕ) (names : List (List ℕ)) (guards : List Guard) (source : ProgramTree)
    → let q = normal_tree main source in
    HasNoneGenerated names q → AreKnown names (generated_texts names guards q)
    → let woven = protected names guards q in normal_tree main woven ≡ numbered_program woven
