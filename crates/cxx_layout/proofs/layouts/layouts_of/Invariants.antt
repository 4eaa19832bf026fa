use Rattle.std.proofs.Common.{◌≡◌, [], drop}
use Rattle.cxx_layout.specs.Layouts.{layouts_after}
use Rattle.cxx_layout.proofs.layouts.layouts_of.Given as goal

-- the layouts so far, and then those of the classes that are left, are all
abbrev pub invariant-loop-class : goal.invariant-loop-class
invariant-loop-class l = layouts_after l.done (drop l.class-index l.classes) ≡ layouts_after [] l.classes
