use Rattle.std.proofs.Common.{◌≡◌, drop}
use Rattle.std.specs.List.{list_all}
use Rattle.cxx_lex.specs.Bytes.{is_part}
use Rattle.ah_parse.proofs.words.are_parts.Given as goal

abbrev pub invariant-loop-b : goal.invariant-loop-b
invariant-loop-b l = list_all is_part (drop l.b-index l.text) ≡ list_all is_part l.text
