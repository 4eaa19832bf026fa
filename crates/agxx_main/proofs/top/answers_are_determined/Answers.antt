use Rattle.agxx_main.proofs.Dues.{one-answer, usage-answered, command-answered, due-is-answer}
use Rattle.agxx_main.proofs.top.answers_are_determined.Goals as goal

pub returns : goal.returns
returns c = record { one = one-answer; usage = usage-answered; command = command-answered; due = due-is-answer }
