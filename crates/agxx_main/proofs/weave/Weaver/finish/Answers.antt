use Rattle.cxx_print.specs.Programs.{text_of}
use Rattle.cxx_tree.specs.ProgramTree.{program_tree}
use Rattle.agxx_main.specs.Replies.{all_seen}
use Rattle.agxx_main.proofs.Weavings.{ends-run}
use Rattle.agxx_main.proofs.weave.Weaver.finish.Goals as goal

pub returns-in_ok-run_back-in-Run : goal.returns-in_ok-run_back-in-Run
returns-in_ok-run_back-in-Run c =
    ends-run c.args.self.purpose.now c.in-Run.plan (all_seen c.args.self.sources) c.args.names (program_tree c.args.program.now) (text_of c.args.names (program_tree c.args.woven)) _ c.in_ok-run_back-in-Run.field-0
    c.in-Run.is c.in_ok-text-in-Run.ensures c.in_ok-run_back-in-Run.ensures
