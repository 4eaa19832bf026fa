use Rattle.std.proofs.Common.{codes}
use Rattle.agxx_base.specs.Names.{number_of}
use Rattle.cxx_normal.specs.Normal.{rebuilt}
use Rattle.cxx_tree.specs.ProgramTree.{program_tree}
use Rattle.agxx_main.specs.Replies.{answer_of, all_seen, ending_of}
use Rattle.agxx_main.specs.Weaving.{joined}
use Rattle.agxx_main.proofs.Texts.{if-ok}
use Rattle.agxx_main.proofs.Weavings.{program-answered}
use Rattle.agxx_main.proofs.weave.Weaver.judge_program.Goals as goal

pub returns : goal.returns
returns c =
    if-ok c.judge.result _ _
    (λ r x. program-answered (ending_of c.args.self.purpose.now) (all_seen c.args.self.sources) c.args.names _ (joined c.args.files.now) (program_tree c.args.program.now) _ (answer_of r) c.in_ok-normal.ensures.names c.in_ok-normal.ensures.normal
    (x (rebuilt (number_of c.normal.new.names (codes "main")) (program_tree c.args.program.now)) c.in_ok-normal.ensures.normal))
    c.judge.ensures
