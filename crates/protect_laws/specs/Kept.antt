-- What a program keeps when it is protected.
use Rattle.std.specs.Prelude.{ℕ, ◌≤◌, List, length, Option, Some, None}
use Rattle.cxx_tree.specs.Limits.{written, woven, limits_of, Every}
use Rattle.cxx_tree.specs.Fits.{FitsProgram}
use Rattle.cxx_tree.specs.ProgramTree.{ClassTree, ProgramTree}
use Rattle.guards.specs.declared.guard.Guard.{Guard}
use Rattle.guards.specs.declared.guard.GuardKind.{GuardKind}
use Rattle.codec.specs.declared.part.Part.{Part}
use Rattle.protect.specs.GuardedParts.{part_of}
use Rattle.protect.specs.Protected.{protected}
use Rattle.protect_laws.specs.Guarded.{classes_of}

-- a part has 120 members at most, as the rules on guards have it
abbrev pub HasFewMembers : Option (GuardKind × Part) → Type 0
HasFewMembers None = Unit {0}
HasFewMembers (Some (kind, part)) = length part.members ≤ 120

abbrev pub PartsAreSmall : List Guard → ProgramTree → Type 0
PartsAreSmall guards q = Every (λ (c : ClassTree). HasFewMembers (part_of guards c)) (classes_of q)

-- a woven program within the limits of sources is protected within those of woven programs: the parentheses of a call
-- that leaves a part are one deeper than what they stand beside, and sums of check words are of all words of a part
abbrev pub ProtectedFitsWoven : Type 0
ProtectedFitsWoven =
    (names : List (List ℕ)) (guards : List Guard) (q : ProgramTree)
    → FitsProgram woven (limits_of written) q → PartsAreSmall guards q
    → FitsProgram woven (limits_of woven) (protected names guards q)
