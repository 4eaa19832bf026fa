-- Words with their places, as a parser is given them.
use Rattle.std.specs.Prelude.{Bool, false, List, [], ◌∷◌, Option, Some, None, map}
use Rattle.agxx_base.specs.declared.vocabulary.Sign.{Sign}
use Rattle.cxx_tree.specs.declared.node.Placed.{Placed}
use Rattle.cxx_tree.specs.Words as w
use Rattle.cxx_tree.specs.Words.{Word}
use Rattle.cxx_expr.specs.declared.word.Word.{Word as Given}
use Rattle.cxx_expr.specs.declared.word.Word.TheVariants as given
use Rattle.cxx_expr.specs.Signs.{same_sign}

abbrev pub Tokens : Type 0
Tokens = List (Placed Word)

abbrev pub word_of : Given → Word
word_of (given.Name n) = w.name n.0
word_of (given.Number n) = w.number n.bits n.kind
word_of (given.Text bytes) = w.text bytes.now
word_of (given.Keyword k) = w.keyword k
word_of (given.Sign s) = w.sign s
word_of (given.Include h) = w.include h
word_of given.Pragma = w.pragma

abbrev pub token_of : Placed Given → Placed Word
token_of t = record { at = t.at; item = word_of t.item }

abbrev pub tokens_of : List (Placed Given) → Tokens
tokens_of = map token_of

-- what the tokens spell
abbrev pub words_of : Tokens → List Word
words_of = map (λ t. t.item)

abbrev pub is_sign : Sign → Word → Bool
is_sign s (w.sign found) = same_sign found s
is_sign s _ = false

-- the token that comes next
abbrev pub next : Tokens → Option (Placed Word)
next [] = None
next (t ∷ ts) = Some t

-- this sign comes next
abbrev pub sees : Sign → Tokens → Bool
sees s [] = false
sees s (t ∷ ts) = is_sign s t.item

abbrev pub after : Tokens → Tokens
after [] = []
after (t ∷ ts) = ts
