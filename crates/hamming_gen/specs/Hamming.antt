-- Check words and a parity word: at each bit place one inverted bit is repaired, and two are told.
use Rattle.std.specs.Prelude.{length}
use Rattle.codec.specs.Codes.{Code}
use Rattle.hamming_gen.specs.HammingWords as words
use Rattle.hamming_gen.specs.HammingNames.{added_texts, local_texts}
use Rattle.hamming_gen.specs.HammingTrees.{part_members, part_repair, part_renew}

abbrev pub hamming : Code
hamming = record {
  encoded = λ kinds v. words.encoded kinds v;
  repaired = λ kinds all. words.repaired kinds all;
  beyond = λ kinds all. words.beyond kinds all;
  IsDamage = λ kinds before after. words.IsDamage kinds before after;
  extra_words = λ k. words.extra_words k;
  kinds = λ kinds. words.all_kinds kinds;
  extra_texts = λ class members. added_texts class (length members);
  local_texts = λ k. local_texts k;
  members = λ names p. part_members names p;
  repair = λ names p. part_repair names p;
  renew = λ names p. part_renew names p;
}
