use Rattle.cxx_layout.proofs.Members.{next_words}
use Rattle.cxx_layout.proofs.layouts.add_own.Goals as goal

pub loop-index-preserved : goal.loop-index-preserved
loop-index-preserved c =
    next_words c.args.class c.args.members.now c.loop-index.index (c.entry.result.0.0, c.entry.result.1.now) c.loop-index.words c.add_word.new.words _ c.entry.ensures c.in_ok-add_word.ensures c.loop-index.invariant
