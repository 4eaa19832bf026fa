use Rattle.agxx_calls.proofs.Meanings.{later-none}
use Rattle.agxx_calls.proofs.words.+first_meant.Goals as goal

pub returns-else-is_meant : goal.returns-else-is_meant
returns-else-is_meant t c =
    later-none c.args.commands.now _ c.args.word.now c.args.names.now c.is_meant.result c.first_meant.result c.in-len1-up.len_at_least c.is_meant.ensures c.if-is_meant.false c.first_meant.ensures
