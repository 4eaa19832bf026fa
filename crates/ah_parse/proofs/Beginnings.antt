-- Tokens that begin with some words.
use Rattle.std.proofs.Common.{◌≡◌, ◌<◌, ◌≤◌, List, [], ◌∷◌, ◌++◌, length, map, refl, sym, ap, ap₂, ◌∙◌, subst, arith}
use Rattle.cxx_lex.specs.Tokens.{Token}
use Rattle.ah_parse.specs.Aspects.{Word, word_of, Begins}

-- words behind words
pub begins-on : (words more : List Word) (tokens left rest : List Token) → Begins words tokens left → Begins more left rest → Begins (words ++ more) tokens rest
begins-on [] more tokens left rest is then = subst (λ ts. Begins more ts rest) (sym is) then
begins-on (word ∷ words) more [] left rest is then = absurd is
begins-on (word ∷ words) more (t ∷ ts) left rest is then = (is.0, begins-on words more ts left rest is.1 then)

pub begins-cut : (words more : List Word) (tokens rest : List Token) → Begins (words ++ more) tokens rest → (left : List Token) × Begins words tokens left × Begins more left rest
begins-cut [] more tokens rest is = (tokens, refl, is)
begins-cut (word ∷ words) more [] rest is = absurd is
begins-cut (word ∷ words) more (t ∷ ts) rest is =
    let cut = begins-cut words more ts rest is.1 in
    (cut.0, (is.0, cut.1), cut.2)

-- The rest is one.
pub begins-same : (words : List Word) (tokens one other : List Token) → Begins words tokens one → Begins words tokens other → one ≡ other
begins-same [] tokens one other is too = sym is ∙ too
begins-same (word ∷ words) [] one other is too = absurd is
begins-same (word ∷ words) (t ∷ ts) one other is too = begins-same words ts one other is.1 too.1

-- The words of the tokens are these and those of the rest.
pub begins-words : (words : List Word) (tokens rest : List Token) → Begins words tokens rest → map word_of tokens ≡ words ++ map word_of rest
begins-words [] tokens rest is = ap (map word_of) is
begins-words (word ∷ words) [] rest is = absurd is
begins-words (word ∷ words) (t ∷ ts) rest is = ap₂ (λ w ws. w ∷ ws) is.0 (begins-words words ts rest is.1)

begins-no-longer : (words : List Word) (tokens rest : List Token) → Begins words tokens rest → length rest ≤ length tokens
begins-no-longer [] tokens rest is = rw is (omega arith)
begins-no-longer (word ∷ words) [] rest is = absurd is
begins-no-longer (word ∷ words) (t ∷ ts) rest is =
    let less : length rest ≤ length ts = begins-no-longer words ts rest is.1 in
    omega arith

pub begins-shorter : (word : Word) (words : List Word) (tokens rest : List Token) → Begins (word ∷ words) tokens rest → length rest < length tokens
begins-shorter word words [] rest is = absurd is
begins-shorter word words (t ∷ ts) rest is =
    let less : length rest ≤ length ts = begins-no-longer words ts rest is.1 in
    omega arith
