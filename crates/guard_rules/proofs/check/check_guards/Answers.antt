use Rattle.std.proofs.Common.{◌∙◌, sym}
use Rattle.guard_rules.proofs.FirstViolation.{found_told}
use Rattle.guard_rules.proofs.check.check_guards.Goals as goal

pub returns-in-Ok-None-clause-kept : goal.returns-in-Ok-None-clause-kept
returns-in-Ok-None-clause-kept c =
    λ mode q typed. sym (found_told c.args.names.now mode c.args.guards.now q c.args.typed.now typed) ∙ (sym c.in-Ok-None.ensures ∙ c.in-Ok-None.field-0-is)

pub returns-in-Ok-Some-clause-refused : goal.returns-in-Ok-Some-clause-refused
returns-in-Ok-Some-clause-refused c =
    λ mode q typed. sym (found_told c.args.names.now mode c.args.guards.now q c.args.typed.now typed) ∙ (sym c.in-Ok-Some.ensures ∙ c.in-Ok-Some.field-0-is)
