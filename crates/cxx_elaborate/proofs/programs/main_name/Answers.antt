use Rattle.std.proofs.Common.{◌≡◌, sym, ◌∙◌, arith, length}
use Rattle.std.specs.Prelude.{codes}
use Rattle.cxx_elaborate.proofs.MainName.{number-here, number-later, number-none}
use Rattle.cxx_elaborate.proofs.programs.main_name.Goals as goal

pub returns-then-is_main : goal.returns-then-is_main
returns-then-is_main c =
    number-here c.args.names.now (codes "main") c.loop-index.index c.text_of.result.now c.loop-index.invariant c.text_of.ensures (sym c.is_main.ensures ∙ c.if-is_main.true)

pub loop-index-preserved : goal.loop-index-preserved
loop-index-preserved c =
    number-later c.args.names.now (codes "main") c.loop-index.index c.text_of.result.now c.loop-index.invariant c.text_of.ensures (sym c.is_main.ensures ∙ c.if-is_main.false)

pub returns-in-Ok : goal.returns-in-Ok
returns-in-Ok c =
    let end : c.loop-index.index ≡ length c.args.names.now = omega arith in
    number-none c.args.names.now (codes "main") c.loop-index.index c.in-Ok.number c.loop-index.invariant end (omega (arith, c.in-Ok.ensures))
