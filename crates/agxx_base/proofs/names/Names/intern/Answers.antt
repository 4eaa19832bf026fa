use Rattle.std.proofs.Common.{sym}
use Rattle.agxx_base.proofs.Interning.{at-number, number_new}
use Rattle.agxx_base.proofs.names.Names.intern.Goals as goal

pub returns-in-Some-clause-text : goal.returns-in-Some-clause-text
returns-in-Some-clause-text c =
    rw c.in-Some.ensures.number (at-number c.args.self.now c.args.text.now (sym c.in-Some.ensures.known))

pub returns-in-None-clause-number : goal.returns-in-None-clause-number
returns-in-None-clause-number c =
    simp (number_new c.args.self.now c.args.text.now (sym c.in-None.ensures.known)) c.append.ensures.number
