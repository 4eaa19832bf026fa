use Rattle.std.proofs.Common.{◌≡◌, [], drop}
use Rattle.protect.specs.GuardedParts.{parts_after}
use Rattle.protect.proofs.parts.parts_of.Given as goal

-- the lists so far, and then those of the classes that are left, are all
abbrev pub invariant-loop-class : goal.invariant-loop-class
invariant-loop-class l = parts_after l.kinds l.done (drop l.class-index l.classes) ≡ parts_after l.kinds [] l.classes
