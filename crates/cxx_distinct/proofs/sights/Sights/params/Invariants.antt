use Rattle.std.proofs.Common.{◌≡◌, drop}
use Rattle.cxx_distinct.specs.NamesIn.{names_in_params}
use Rattle.cxx_distinct.specs.Sights.{seen}
use Rattle.cxx_distinct.proofs.sights.Sights.params.Given as goal

-- the names that were gone through, and then those of what is left, are all
abbrev pub invariant-loop-param : goal.invariant-loop-param
invariant-loop-param l = seen l.self (names_in_params (drop l.param-index l.params)) ≡ seen l.fn.self (names_in_params l.params)
