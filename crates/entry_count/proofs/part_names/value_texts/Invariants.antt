use Rattle.std.proofs.Common.{◌≡◌, ◌++◌, ◌+◌, ◌-◌}
use Rattle.entry_count.specs.Wrapping.{value_texts}
use Rattle.entry_count.proofs.part_names.value_texts.Given as goal

-- what was added, and then what is left, is the whole
abbrev pub invariant-loop-before : goal.invariant-loop-before
invariant-loop-before l =
    l.texts ++ value_texts (l.before + 1) (l.count - l.before) ≡ l.fn.texts ++ value_texts 1 l.count
