-- Strings at the front of a text.
use Rattle.std.proofs.Common.{◌≡◌, ℕ, true, List, [], ◌∷◌, ◌++◌, refl, ap}
use Rattle.std.specs.List.{list_all, flat_map}
use Rattle.agxx_base.specs.declared.kind.Mode.{Mode}
use Rattle.cxx_lex.specs.declared.tok.TokKind.TheVariants as kind
use Rattle.cxx_lex.specs.Strings.{is_character, spelling, IsString}
use Rattle.cxx_lex.specs.Tokens.{IsTokenAt}
use Rattle.cxx_lex.proofs.StringCut.{string-exact}
use Rattle.cxx_print.specs.Texts.{escaped, quoted}
use Rattle.print_laws.proofs.LexingTokens.{token-found, no-slash}

escapes : (bytes : List ℕ) → flat_map escaped bytes ≡ spelling bytes
escapes [] = refl
escapes (b ∷ bs) = ap (λ z. escaped b ++ z) (escapes bs)

-- what is written of bytes is a string of them
pub quoted-string : (bytes : List ℕ) → list_all is_character bytes ≡ true → IsString bytes (quoted bytes)
quoted-string bytes all = (all, ap (λ z. 34 ∷ (z ++ 34 ∷ [])) (escapes bytes))

pub text-token : (mode : Mode) (bytes rest : List ℕ) → list_all is_character bytes ≡ true → IsTokenAt mode kind.Text (quoted bytes) rest
text-token mode bytes rest all =
    let behind : List ℕ = (flat_map escaped bytes ++ 34 ∷ []) ++ rest in
    token-found mode kind.Text (quoted bytes) rest (no-slash 34 behind refl) (string-exact bytes (quoted bytes) rest behind (quoted-string bytes all) refl) refl
