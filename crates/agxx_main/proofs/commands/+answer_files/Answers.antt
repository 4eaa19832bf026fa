use Rattle.agxx_main.specs.Replies.{answer_of}
use Rattle.agxx_main.proofs.Texts.{if-ok}
use Rattle.agxx_main.proofs.Openings.{all-opened, first-closed, first-opened}
use Rattle.agxx_main.proofs.commands.+answer_files.Goals as goal

pub returns-in-empty-clause-due : goal.returns-in-empty-clause-due
returns-in-empty-clause-due g t c =
    if-ok c.answer_texts.result _ _ (λ r x. all-opened (g.F.Files.listed c.args.files.now) (g.F.Files.faults c.args.files.now) c.args.call.now c.args.texts c.args.left.now (answer_of r) c.in-empty.len_below x) c.answer_texts.ensures

pub returns-in-Closed-clause-due : goal.returns-in-Closed-clause-due
returns-in-Closed-clause-due g t c =
    first-closed (g.F.Files.listed c.args.files.now) (g.F.Files.faults c.args.files.now) (g.F.Files.faults c.open.new.files) c.args.left.now c.file-item.result _ c.limit.result c.args.call.now c.args.texts c.in-Closed.answer
    c.in-len1-up.len_at_least c.file-item.is c.limit.ensures c.open.ensures.later (rw c.in-Closed.is at c.in_ok-opened-in-len1-up.ensures.opening)

pub returns-in_ok-push-in-Text-clause-due : goal.returns-in_ok-push-in-Text-clause-due
returns-in_ok-push-in-Text-clause-due g t c =
    if-ok c.answer_files.result _ _
    (λ r x. first-opened (g.F.Files.listed c.args.files.now) (g.F.Files.listed c.open.new.files) (g.F.Files.faults c.args.files.now) (g.F.Files.faults c.open.new.files) (g.F.Files.faults c.answer_files.new.files)
    c.args.left.now c.file-item.result _ c.limit.result c.args.call.now c.args.texts _ c.in-Text.text (answer_of r) c.in-len1-up.len_at_least c.file-item.is c.limit.ensures c.in_ok-push-in-Text.ensures.ok c.open.ensures.listed c.open.ensures.later c.answer_files.ensures.later
    (rw c.in-Text.is at c.in_ok-opened-in-len1-up.ensures.opening) x)
    c.answer_files.ensures.due
