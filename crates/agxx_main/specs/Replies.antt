-- Answers as the program has them before they are written: a woven text is not kept in memory.
use Rattle.std.specs.Prelude.{map}
use Rattle.cxx_tree.specs.ProgramTree.{program_tree}
use Rattle.cxx_print.specs.Programs.{text_of}
use Rattle.agxx_main.specs.declared.answer.Answer.{Answer}
use Rattle.agxx_main.specs.declared.reply.Reply.{Reply}
use Rattle.agxx_main.specs.declared.reply.Reply.TheVariants as reply
use Rattle.agxx_main.specs.declared.sheet.Sheet.{Sheet as Read}
use Rattle.agxx_main.specs.declared.sheet.Sources.{Sources as Given}
use Rattle.agxx_main.specs.declared.weave.Use.{Use}
use Rattle.agxx_main.specs.declared.weave.Use.TheVariants as use_of
use Rattle.agxx_main.specs.Weaving.{Sheet, Sources, Ending, written, writes, runs, runs_source}

abbrev pub answer_of : Reply → Answer
answer_of (reply.Told answer) = answer
answer_of (reply.Woven woven) = written (text_of woven.names (program_tree woven.program))

-- ---- files, as they are lent

abbrev pub seen : Read → Sheet
seen it = record { name = it.name.now; text = it.text.now }

abbrev pub all_seen : Given → Sources
all_seen s = record { program = seen s.program; aspects = map seen s.aspects.now }

-- what becomes of a woven text
abbrev pub ending_of : Use → Ending
ending_of use_of.Write = writes
ending_of (use_of.Run plan) = runs plan.now
ending_of (use_of.Source plan) = runs_source plan.now
