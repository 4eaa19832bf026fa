use Rattle.cxx_tree.specs.ProgramTree.{program_tree}
use Rattle.agxx_main.specs.Replies.{answer_of, all_seen, ending_of}
use Rattle.agxx_main.proofs.Texts.{if-ok}
use Rattle.agxx_main.proofs.Weavings.{weaves}
use Rattle.agxx_main.proofs.weave.Weaver.weave.Goals as goal

pub returns : goal.returns
returns c =
    if-ok c.finish_sized.result _ _
    (λ r x. weaves (ending_of c.args.self.purpose.now) (all_seen c.args.self.sources) c.args.guards.now c.args.names _ (program_tree c.args.program.now) _ (answer_of r) c.in_ok-woven.ensures.names c.in_ok-woven.ensures.tree x)
    c.finish_sized.ensures
