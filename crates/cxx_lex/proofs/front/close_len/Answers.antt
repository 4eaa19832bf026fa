use Rattle.std.proofs.Common.{◌≡◌, false, drop, ◌∙◌, arith}
use Rattle.std.proofs.lemmas.Grind.{common_steps}
use Rattle.cxx_lex.specs.Runs.{closes}
use Rattle.cxx_lex.proofs.Closes.{close_turn}
use Rattle.cxx_lex.proofs.front.close_len.Goals as goal

pub loop-n-preserved : goal.loop-n-preserved
loop-n-preserved c =
    let open_here : closes (drop c.loop-n.n c.args.text.now) ≡ false = grind (arith, common_steps, c.closes.ensures, c.if-closes.false) in
    (omega arith, close_turn c.args.text.now c.loop-n.n c.loop-n-test.true open_here ∙ c.loop-n.invariant.1)
