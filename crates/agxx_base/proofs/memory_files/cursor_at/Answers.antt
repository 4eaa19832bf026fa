use Rattle.std.proofs.Common.{refl}
use Rattle.agxx_base.proofs.Readings.{start-some, start-none}
use Rattle.agxx_base.proofs.memory_files.cursor_at.Goals as goal

pub returns-in-Some-clause-found : goal.returns-in-Some-clause-found
returns-in-Some-clause-found c = rw (start-some _ _ c.in-Some.file c.in-Some.ensures).1 refl

pub returns-in-Some-clause-left : goal.returns-in-Some-clause-left
returns-in-Some-clause-left c = rw (start-some _ _ c.in-Some.file c.in-Some.ensures).1 refl

pub returns-in-None-clause-found : goal.returns-in-None-clause-found
returns-in-None-clause-found c = rw (start-none _ _ c.in-None.ensures) refl

pub returns-in-None-clause-left : goal.returns-in-None-clause-left
returns-in-None-clause-left c = rw (start-none _ _ c.in-None.ensures) refl
