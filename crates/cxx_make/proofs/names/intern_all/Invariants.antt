use Rattle.std.proofs.Common.{◌≡◌, drop}
use Rattle.cxx_make.specs.Generated.{all_interned}
use Rattle.cxx_make.proofs.names.intern_all.Given as goal

abbrev pub invariant-loop-text : goal.invariant-loop-text
invariant-loop-text l = all_interned l.names (drop l.text-index l.texts) ≡ all_interned l.fn.names l.texts
