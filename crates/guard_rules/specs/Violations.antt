-- Which rules on protection a program violates, and where, and the violation that is told.
use Rattle.std.specs.Prelude.{ℕ, List, [], ◌∷◌, ◌++◌, Option}
use Rattle.agxx_base.specs.Refusals.{least}
use Rattle.agxx_base.specs.declared.fault.Refusal.{Refusal}
use Rattle.agxx_base.specs.declared.kind.Mode.{Mode}
use Rattle.agxx_base.specs.declared.place.Place.{Place}
use Rattle.agxx_base.specs.declared.rule.Rule.{Rule}
use Rattle.agxx_base.specs.declared.rule.Rule.TheVariants as rule
use Rattle.cxx_tree.specs.ProgramTree.{ProgramTree}
use Rattle.cxx_names.specs.Declarations.{declared}
use Rattle.cxx_types.specs.declared.typed.Typed.{Typed}
use Rattle.cxx_types.specs.Typing.{IsTypedOf}
use Rattle.guards.specs.declared.guard.Guard.{Guard}
use Rattle.guard_rules.specs.MemberReachedFromOutside.{member_reached}
use Rattle.guard_rules.specs.BoolMember.{bool_member}
use Rattle.guard_rules.specs.TooManyMembers.{too_many_members}
use Rattle.guard_rules.specs.GuardedTwice.{guarded_twice}
use Rattle.guard_rules.specs.DeletesItself.{deletes_itself}
use Rattle.guard_rules.specs.Numbered.{numbered_program}

-- a rule is violated at these places
abbrev pub refusals : Rule → List Place → List Refusal
refusals rule [] = []
refusals rule (at ∷ ats) = (record { rule = rule; place = at }) ∷ refusals rule ats

-- all violations of a program that has these guards, where names have these texts
abbrev pub violations_of_guards : List (List ℕ) → List Guard → ProgramTree → List Refusal
violations_of_guards names guards q =
    refusals rule.P1 (member_reached names guards q)
    ++ (refusals rule.P2 (bool_member guards q)
    ++ (refusals rule.P3 (too_many_members guards q)
    ++ (refusals rule.P4 (guarded_twice guards (declared names q)) ++ refusals rule.P5 (deletes_itself names guards q))))

-- the violation that is told, if there is one: the first, by place and at one place by rule
abbrev pub refusal_of_guards : List (List ℕ) → List Guard → ProgramTree → Option Refusal
refusal_of_guards names guards q = least (violations_of_guards names guards q)

-- a fact for the program, where it is a checked one whose nodes are numbered from 0 in text order, as those of a normal
-- program are
abbrev pub IfNumbered : List (List ℕ) → Typed → (ProgramTree → Type 0) → Type 0
IfNumbered names t Fact = (mode : Mode) (q : ProgramTree) → IsTypedOf names mode (numbered_program q) t → Fact (numbered_program q)
