use Rattle.std.proofs.Common.{◌∙◌, ap}
use Rattle.cxx_tree.specs.ProgramTree.{program_tree}
use Rattle.guard_rules.specs.FirstFound.{first_found}
use Rattle.guard_rules.proofs.check.refusal_of.Goals as goal

pub returns : goal.returns
returns c =
    c.first_of.ensures
    ∙ (ap (λ guards. first_found c.args.names.now guards c.args.typed.now.entries (program_tree c.program-2.result.now)) c.in_ok-firsts.ensures
    ∙ ap (λ q. first_found c.args.names.now c.args.guards.now c.args.typed.now.entries (program_tree q)) c.program-2.ensures)
