use Rattle.cxx_parse.specs.Numbering.{names_of, dialect_in}
use Rattle.cxx_parse.proofs.Numbers.{apart-of}
use Rattle.cxx_parse.proofs.Whole.{spelling-unique}
use Rattle.cxx_parse.proofs.read.spelling_is_unique.Goals as goal

pub returns : goal.returns
returns c mode names ts a b u v e = spelling-unique (dialect_in mode (names_of names ts)) (apart-of mode names ts) a b u v e
