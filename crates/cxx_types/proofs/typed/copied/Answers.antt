use Rattle.std.proofs.Common.{rules}
use Rattle.cxx_types.proofs.Texts.{copied-turn}
use Rattle.cxx_types.proofs.typed.copied.Goals as goal

-- src/typed.rt:48:5
pub loop-index-preserved : goal.loop-index-preserved
loop-index-preserved c =
    copied-turn c.args.names.now c.loop-index.texts c.push.new.self c.loop-index.index c.text_of-text.result.now c.in_ok-from_bytes.field-0 c.loop-index.invariant c.text_of-text.ensures c.in_ok-from_bytes.ensures c.in_ok-push.ensures.ok
