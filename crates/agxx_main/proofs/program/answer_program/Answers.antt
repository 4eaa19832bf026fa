use Rattle.cxx_tree.specs.ProgramTree.{program_tree}
use Rattle.cxx_normal.specs.Normal.{with_main}
use Rattle.agxx_main.specs.RunAnswers.{mode_of, way_answer}
use Rattle.agxx_main.proofs.Texts.{if-ok, normal-answer}
use Rattle.agxx_main.proofs.program.answer_program.Goals as goal

pub returns : goal.returns
returns c =
    if-ok c.answer_normal.result _ _
    (λ a e. normal-answer (mode_of c.args.way.now) (way_answer c.args.way.now) c.args.file.now c.normal.new.names (with_main c.args.names.now) (program_tree c.args.program) (program_tree c.in_ok-normal.normal) a c.in_ok-normal.ensures.names c.in_ok-normal.ensures.normal e)
    c.answer_normal.ensures
