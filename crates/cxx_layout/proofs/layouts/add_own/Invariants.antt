use Rattle.std.proofs.Common.{◌≡◌, ◌++◌, drop}
use Rattle.cxx_layout.specs.Layouts.{own_words}
use Rattle.cxx_layout.proofs.layouts.add_own.Given as goal

-- the words so far, and then those of the members that are left, are all
abbrev pub invariant-loop-index : goal.invariant-loop-index
invariant-loop-index l = l.words ++ own_words l.class (drop l.index l.members) ≡ l.fn.words ++ own_words l.class l.members
