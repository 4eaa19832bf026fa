use Rattle.std.proofs.Common.{◌≡◌, map, take}
use Rattle.cxx_expr.specs.Tokens.{tokens_of}
use Rattle.cxx_parse.specs.Owned.{owned_token}
use Rattle.cxx_parse.proofs.words.lent_words.Given as goal

abbrev pub invariant-loop-word : goal.invariant-loop-word
invariant-loop-word l = tokens_of l.found.items ≡ map owned_token (take l.word-index l.words)
