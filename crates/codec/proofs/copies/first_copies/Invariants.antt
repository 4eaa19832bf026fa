use Rattle.std.proofs.Common.{◌≡◌, ◌++◌, map, drop}
use Rattle.codec.specs.Copies as spec
use Rattle.codec.proofs.copies.first_copies.Given as goal

-- the copies so far, and then those of the members that are left, are all
abbrev pub invariant-loop-member : goal.invariant-loop-member
invariant-loop-member l =
    l.copies ++ map (spec.first_member l.names l.maker.at) (drop l.member-index l.members)
    ≡ map (spec.first_member l.names l.maker.at) l.members
