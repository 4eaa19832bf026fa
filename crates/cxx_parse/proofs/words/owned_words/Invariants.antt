use Rattle.std.proofs.Common.{◌≡◌, ◌++◌, map, length}
use Rattle.cxx_lex.specs.TokList.{tokens_of as lexed_tokens}
use Rattle.cxx_parse.specs.Numbering.{IsLonger, with_names, words_in}
use Rattle.cxx_parse.specs.Owned.{owned_token}
use Rattle.cxx_parse.proofs.words.owned_words.Given as goal

abbrev pub invariant-loop-left : goal.invariant-loop-left
invariant-loop-left l = record {
  kept : IsLonger l.fn.names l.names;
  names : with_names l.names (lexed_tokens l.left) ≡ with_names l.fn.names (lexed_tokens l.fn.toks);
  words : map owned_token l.found.items ++ words_in (with_names l.fn.names (lexed_tokens l.fn.toks)) (lexed_tokens l.left) ≡ words_in (with_names l.fn.names (lexed_tokens l.fn.toks)) (lexed_tokens l.fn.toks);
}

abbrev pub decreases-loop-left : goal.decreases-loop-left
decreases-loop-left l = length l.left
