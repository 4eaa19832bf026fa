-- The words of a small class under each code.
use Rattle.std.proofs.Common.{refl}
use Rattle.std.specs.Fmt.{digits}
use Rattle.hamming_gen.specs.Positions.{check_words}
use Rattle.entry_count.specs.PartCode.{beginning, mutex_texts}
use Rattle.protect.specs.GeneratedNames.{own_texts}
use Rattle.protect.specs.Protected.{part_items}
use Rattle.protect_laws.specs.Example.{CellHasItsWords}

pub cell-has-its-words : CellHasItsWords
unfolding digits check_words beginning mutex_texts own_texts part_items
cell-has-its-words = record { copies = refl; check_words = refl }
