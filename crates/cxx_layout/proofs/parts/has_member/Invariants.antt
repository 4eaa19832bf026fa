use Rattle.std.proofs.Common.{◌≡◌, drop}
use Rattle.cxx_layout.specs.Parts.{has_member}
use Rattle.cxx_layout.proofs.parts.has_member.Given as goal

-- the members that are left have the text where any has
abbrev pub invariant-loop-index : goal.invariant-loop-index
invariant-loop-index l = has_member l.names l.text (drop l.index l.members) ≡ has_member l.names l.text l.members
