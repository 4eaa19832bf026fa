use Rattle.std.proofs.Common.{◌≡◌, drop}
use Rattle.cxx_lex.specs.Words.{entry_of}
use Rattle.cxx_lex.specs.KeywordScan.{entries_of}
use Rattle.cxx_lex.proofs.keywords.among.Given as goal

abbrev pub invariant-loop-text : goal.invariant-loop-text
invariant-loop-text l = entry_of (entries_of (drop l.text-index l.entries)) l.word ≡ entry_of (entries_of l.entries) l.word
