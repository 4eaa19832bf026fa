-- Words that a list of tokens is made into, as the parser sees them.
use Rattle.cxx_tree.specs.declared.node.Placed.{Placed}
use Rattle.cxx_tree.specs.Words as w
use Rattle.cxx_tree.specs.Words.{Word}
use Rattle.cxx_parse.specs.declared.words.Owned.{Owned}
use Rattle.cxx_parse.specs.declared.words.Owned.TheVariants as owned

abbrev pub owned_word : Owned → Word
owned_word (owned.Name n) = w.name n.0
owned_word (owned.Number n) = w.number n.bits n.kind
owned_word (owned.Text bytes) = w.text bytes
owned_word (owned.Keyword k) = w.keyword k
owned_word (owned.Sign s) = w.sign s
owned_word (owned.Include h) = w.include h
owned_word owned.Pragma = w.pragma

abbrev pub owned_token : Placed Owned → Placed Word
owned_token t = record { at = t.at; item = owned_word t.item }
