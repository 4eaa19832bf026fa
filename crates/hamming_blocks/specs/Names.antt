-- The names that check words generate are names of nothing else.
use Rattle.std.specs.Prelude.{◌≡◌, ℕ, ◌+◌}
use Rattle.hamming_gen.specs.Positions.{check_words}
use Rattle.hamming_gen.specs.Hamming.{hamming}
use Rattle.codec_laws.specs.Names.{NamesDiffer}

pub record HammingNamesDiffer : Type 0 where
  pub one_more : (k : ℕ) → hamming.extra_words k ≡ check_words k + 1
  pub differ : NamesDiffer hamming
