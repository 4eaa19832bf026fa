use Rattle.guard_rules.proofs.known.Known.+any_has_part.Given as goal

-- the classes that are left above it
abbrev pub decreases-any_has_part : goal.decreases-any_has_part
decreases-any_has_part l = l.left
