use Rattle.ah_parse.proofs.read.take_aspect.Goals as goal

pub returns-in_default-clause-found : goal.returns-in_default-clause-found
returns-in_default-clause-found c = let none = rw c.in_default.is at c.in_ok-aspect.ensures in λ aspect rest is. none aspect rest is.0
