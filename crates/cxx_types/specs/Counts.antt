-- How many things a program may have.
use Rattle.std.specs.Prelude.{ℕ}
use Rattle.agxx_base.specs.declared.kind.Mode.{Mode}
use Rattle.agxx_base.specs.declared.kind.Mode.TheVariants as mode
use Rattle.cxx_types.specs.declared.limits.Counts.{Counts}

-- in a program that a user wrote, and in one that may have been woven
abbrev pub most : Mode → Counts
most mode.Source = record { names = 100000; classes = 256; globals = 1000; functions = 1000; members = 240; methods = 200; locals = 500; returns = 200 }
most mode.Woven = record { names = 200000; classes = 320; globals = 1100; functions = 6000; members = 1000; methods = 5000; locals = 1000; returns = 400 }

-- in both
abbrev pub most_params : ℕ
most_params = 16

abbrev pub most_ancestors : ℕ
most_ancestors = 16

-- between the quotes of a string, an escape counting as one
abbrev pub most_bytes : ℕ
most_bytes = 4096
