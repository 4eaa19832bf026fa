use Rattle.agxx_main.proofs.Dues.{ends-by}
use Rattle.agxx_main.proofs.top.agxx.Goals as goal

pub returns-clause-ends : goal.returns-clause-ends
returns-clause-ends g c =
    ends-by c.args.words.now (g.F.Files.listed c.args.files.now) _ _ _ _ _ _ _ _ c.answer.result c.deliver.result c.answer.ensures.due c.answer.ensures.some c.deliver.ensures.given c.deliver.ensures.memory
