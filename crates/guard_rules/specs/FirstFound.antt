-- The violation that is found first as a program is gone through, rule by rule.
use Rattle.std.specs.Prelude.{ℕ, List, Option, None}
use Rattle.agxx_base.specs.declared.fault.Refusal.{Refusal}
use Rattle.agxx_base.specs.declared.rule.Rule.TheVariants as rule
use Rattle.cxx_tree.specs.ProgramTree.{DeclTree, ProgramTree}
use Rattle.cxx_names.specs.Declarations.{declared}
use Rattle.cxx_types.specs.declared.entry.Entry.{Entry}
use Rattle.guards.specs.declared.guard.Guard.{Guard}
use Rattle.guard_rules.specs.Parts.{Known, places_of}
use Rattle.guard_rules.specs.TooManyMembers.{one_too_many}
use Rattle.guard_rules.specs.GuardedTwice.{guarded_twice}
use Rattle.guard_rules.specs.Nearest.{nearest, through_each}
use Rattle.guard_rules.specs.ThroughMembers.{through_bools, through_decl}
use Rattle.guard_rules.specs.ThroughDeletes.{through_decls}

-- what is known of a program, where this is known of its nodes
abbrev pub known : List (List ℕ) → List Guard → List Entry → ProgramTree → Known
known names guards entries q = record { guards = guards; declared = declared names q; entries = entries }

abbrev pub first_by_walks : Known → List DeclTree → Option Refusal
first_by_walks k xs =
    through_decls k.guards k.declared 0 xs
    (nearest rule.P4
    (nearest rule.P3
    (through_each (through_bools k.guards) xs (through_each (through_decl k) xs None))
    (places_of (one_too_many k.guards) xs))
    (guarded_twice k.guards k.declared))

abbrev pub first_found : List (List ℕ) → List Guard → List Entry → ProgramTree → Option Refusal
first_found names guards entries q = first_by_walks (known names guards entries q) q.decls
