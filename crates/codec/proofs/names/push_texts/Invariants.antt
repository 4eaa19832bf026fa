use Rattle.std.proofs.Common.{◌≡◌, ◌++◌, map, drop}
use Rattle.codec.specs.Part.{texts_of}
use Rattle.codec.proofs.names.push_texts.Given as goal

-- the texts so far, and then those of the members that are left, are all
abbrev pub invariant-loop-member : goal.invariant-loop-member
invariant-loop-member l =
    l.texts ++ map (λ m. l.beginning ++ m) (texts_of l.names (drop l.member-index l.members))
    ≡ l.fn.texts ++ map (λ m. l.beginning ++ m) (texts_of l.names l.members)
