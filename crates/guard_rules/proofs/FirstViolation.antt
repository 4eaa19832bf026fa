-- Going through a program rule by rule finds the first of all violations.
use Rattle.std.proofs.Common.{◌≡◌, sym, ap, ◌∙◌, ℕ, List, ◌++◌, Option, None}
use Rattle.agxx_base.specs.Refusals.{least, least_from}
use Rattle.agxx_base.specs.declared.fault.Refusal.{Refusal}
use Rattle.agxx_base.specs.declared.kind.Mode.{Mode}
use Rattle.agxx_base.specs.declared.place.Place.{Place}
use Rattle.agxx_base.specs.declared.rule.Rule.{Rule}
use Rattle.agxx_base.specs.declared.rule.Rule.TheVariants as rule
use Rattle.agxx_base.proofs.Leasts.{least_append}
use Rattle.cxx_tree.specs.ProgramTree.{ProgramTree, program_tree}
use Rattle.cxx_names.specs.declared.declarations.Declared.{Declared}
use Rattle.cxx_names.specs.Declarations.{declared}
use Rattle.cxx_types.specs.declared.entry.Entry.{Entry}
use Rattle.cxx_types.specs.declared.typed.Typed.{Typed}
use Rattle.cxx_types.specs.Programs.{checked}
use Rattle.cxx_types.specs.Typing.{IsTypedOf}
use Rattle.guards.specs.declared.guard.Guard.{Guard}
use Rattle.guard_rules.specs.Parts.{Known}
use Rattle.guard_rules.proofs.ReachedByNodes.{reached_in_decl, reached_in_program}
use Rattle.guard_rules.specs.BoolMember.{bools_in, bool_member}
use Rattle.guard_rules.specs.TooManyMembers.{too_many_members}
use Rattle.guard_rules.specs.GuardedTwice.{guarded_twice}
use Rattle.guard_rules.specs.DeletesItself.{deletes_itself}
use Rattle.guard_rules.specs.Nearest.{nearest, through_each}
use Rattle.guard_rules.specs.ThroughMembers.{through_bools, through_decl}
use Rattle.guard_rules.specs.ThroughDeletes.{through_decls}
use Rattle.guard_rules.specs.FirstFound.{known, first_by_walks, first_found}
use Rattle.guard_rules.specs.Numbered.{numbered_program}
use Rattle.guard_rules.specs.Violations.{refusals, refusal_of_guards}
use Rattle.guard_rules.proofs.ReachedPrograms.{members_reached}
use Rattle.guard_rules.proofs.Nearest.{nearest_least, each_nearest}
use Rattle.guard_rules.proofs.MembersThrough.{bools_through, decl_through}
use Rattle.guard_rules.proofs.DeletesThrough.{decls_through}
use Rattle.guard_rules.proofs.DeletesInPrograms.{deletes_found}

-- violations of a rule before others
then-others : (rule : Rule) (found : Option Refusal) (ats : List Place) (more : List Refusal) → least_from found (refusals rule ats ++ more) ≡ least_from (nearest rule found ats) more
then-others rule found ats more = least_append found (refusals rule ats) more ∙ ap (λ o. least_from o more) (nearest_least rule found ats)

-- where these members are reached
abbrev first_with : List (List ℕ) → List Guard → ProgramTree → List Place → Option Refusal
first_with names guards q reached =
    least
    (refusals rule.P1 reached
    ++ (refusals rule.P2 (bool_member guards q)
    ++ (refusals rule.P3 (too_many_members guards q)
    ++ (refusals rule.P4 (guarded_twice guards (declared names q)) ++ refusals rule.P5 (deletes_itself names guards q)))))

by-walks : (names : List (List ℕ)) (guards : List Guard) (entries : List Entry) (q : ProgramTree)
    → first_found names guards entries q ≡ first_with names guards q (reached_in_program (known names guards entries q) q)
by-walks names guards entries q =
    let k = known names guards entries q in
    let d = declared names q in
    let one : Option Refusal = nearest rule.P1 None (reached_in_program k q) in
    let two : Option Refusal = nearest rule.P2 one (bool_member guards q) in
    let three : Option Refusal = nearest rule.P3 two (too_many_members guards q) in
    let four : Option Refusal = nearest rule.P4 three (guarded_twice guards d) in
    let a = each_nearest rule.P1 (through_decl k) (reached_in_decl k) (decl_through k) q.decls None in
    let b = each_nearest rule.P2 (through_bools guards) (bools_in guards) (bools_through guards) q.decls (through_each (through_decl k) q.decls None) in
    sym
    (then-others rule.P1 None (reached_in_program k q) _
    ∙ (then-others rule.P2 one (bool_member guards q) _
    ∙ (then-others rule.P3 two (too_many_members guards q) _
    ∙ (then-others rule.P4 three (guarded_twice guards d) _
    ∙ (nearest_least rule.P5 four (deletes_itself names guards q)
    ∙ (ap (λ ats. nearest rule.P5 four ats) (deletes_found guards names q)
    ∙ (sym (decls_through guards d 0 q.decls four)
    ∙ ap (λ o. through_decls guards d 0 q.decls (nearest rule.P4 (nearest rule.P3 o (too_many_members guards q)) (guarded_twice guards d)))
    (ap (λ o. nearest rule.P2 o (bool_member guards q)) (sym a) ∙ sym b))))))))

-- where what is known of a program is what it declares
pub found_so : (names : List (List ℕ)) (k : Known) (q : ProgramTree) → k.declared ≡ declared names q → first_by_walks k q.decls ≡ first_found names k.guards k.entries q
found_so names k q e =
    ap (λ (d : Declared). let known_so : Known = record { guards = k.guards; declared = d; entries = k.entries } in first_by_walks known_so q.decls) e

-- what is found first in a checked program whose nodes are numbered is what is told
pub found_told : (names : List (List ℕ)) (mode : Mode) (guards : List Guard) (q : ProgramTree) (t : Typed) → IsTypedOf names mode (numbered_program q) t
    → first_found names guards t.entries (program_tree t.program) ≡ refusal_of_guards names guards (numbered_program q)
found_told names mode guards q t typed =
    let x = numbered_program q in
    ap (λ (y : ProgramTree). first_found names guards t.entries y) typed.program
    ∙ (ap (λ es. first_found names guards es x) typed.nodes
    ∙ (by-walks names guards (checked names mode x).entries x
    ∙ ap (λ ats. first_with names guards x ats) (members_reached names mode guards q)))
