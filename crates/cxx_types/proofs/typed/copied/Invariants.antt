use Rattle.std.proofs.Common.{◌≡◌, take}
use Rattle.cxx_types.proofs.typed.copied.Given as goal

abbrev pub invariant-loop-index : goal.invariant-loop-index
invariant-loop-index l = l.texts ≡ take l.index l.names
