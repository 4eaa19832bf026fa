use Rattle.std.proofs.Common.{refl, map}
use Rattle.cxx_print.specs.Programs as form
use Rattle.cxx_tree.specs.ProgramTree.{decl_tree}
use Rattle.cxx_print.proofs.Printed.{prints-turn, prints-done}
use Rattle.cxx_print.proofs.printer.Printer.decls.Goals as goal

pub loop-decl-init : goal.loop-decl-init
loop-decl-init g c = λ u h. h

pub loop-decl-preserved : goal.loop-decl-preserved
loop-decl-preserved g c =
    prints-turn (λ ds. form.decls (map decl_tree ds)) c.args.decls.now c.loop-decl.decl-index c.decl-item.result c.loop-decl-test.true c.decl-item.is (λ ys. refl) c.loop-decl.invariant c.decl_line.ensures

pub returns : goal.returns
returns g c =
    prints-done (λ ds. form.decls (map decl_tree ds)) c.args.decls.now c.loop-decl.decl-index c.loop-decl-test.false refl c.loop-decl.invariant
