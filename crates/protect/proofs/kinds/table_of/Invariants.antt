use Rattle.std.proofs.Common.{◌≡◌, drop}
use Rattle.protect.specs.Kinds.{kinds_after, kinds}
use Rattle.protect.proofs.kinds.table_of.Given as goal

-- the table so far, and then the guards that are left, make the whole one
abbrev pub invariant-loop-guard : goal.invariant-loop-guard
invariant-loop-guard l = kinds_after l.table (drop l.guard-index l.guards) ≡ kinds l.guards
