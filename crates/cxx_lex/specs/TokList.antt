-- Tokens as contracts see them.
use Rattle.std.specs.Prelude.{List, map}
use Rattle.agxx_base.specs.declared.place.Place.{Place}
use Rattle.cxx_lex.specs.declared.tok.Tok.{Tok}
use Rattle.cxx_lex.specs.Tokens.{Token, token_of}

-- a text's tokens, and the place behind its last byte
pub record TokList : Type 0 where
  pub items : List Tok
  pub end : Place

abbrev pub tokens_of : List Tok → List Token
tokens_of = map token_of
