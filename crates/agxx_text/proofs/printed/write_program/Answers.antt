use Rattle.cxx_tree.specs.ProgramTree.{program_tree}
use Rattle.agxx_text.proofs.Written.{normal-text}
use Rattle.agxx_text.proofs.printed.write_program.Goals as goal

pub returns-in_ok-print-in-Normal : goal.returns-in_ok-print-in-Normal
returns-in_ok-print-in-Normal g c =
    normal-text c.args.form c.args.read.now.names c.normal.new.names (program_tree c.args.read.now.program) (program_tree c.in_ok-normal-in-Normal.normal) (g.O.Sink.taken c.args.out.now) (g.O.Sink.taken c.print-in-Normal.new.sink) c.in-Normal.is
    c.in_ok-normal-in-Normal.ensures.names c.in_ok-normal-in-Normal.ensures.normal c.in_ok-print-in-Normal.ensures.all
