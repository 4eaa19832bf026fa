use Rattle.std.proofs.Common.{◌∙◌, ap, map}
use Rattle.cxx_tree.specs.ProgramTree.{decl_tree, program_tree}
use Rattle.guard_rules.specs.FirstFound.{first_by_walks}
use Rattle.guard_rules.proofs.FirstViolation.{found_so}
use Rattle.guard_rules.proofs.check.first_of.Goals as goal

pub returns : goal.returns
returns c =
    c.first.ensures
    ∙ (ap (λ xs. first_by_walks c.args.known.now (map decl_tree xs)) c.as_slice.ensures
    ∙ found_so c.args.names.now c.args.known.now (program_tree c.args.program.now) c.requires)
