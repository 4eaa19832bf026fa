-- Directives at the front of a text.
use Rattle.std.proofs.Common.{◌≡◌, ℕ, List, [], ◌∷◌, ◌++◌, codes, false, refl}
use Rattle.agxx_base.specs.declared.kind.Mode.{Mode}
use Rattle.agxx_base.specs.declared.vocabulary.Header.{Header}
use Rattle.cxx_lex.specs.declared.tok.TokKind.{TokKind}
use Rattle.cxx_lex.specs.declared.tok.TokKind.TheVariants as kind
use Rattle.cxx_lex.specs.Directives.{IsDirective, include, pragma}
use Rattle.cxx_lex.specs.Tokens.{clashes, IsTokenAt}
use Rattle.cxx_lex.proofs.DirectiveCut.{directive-exact}
use Rattle.cxx_print.specs.Texts.{include_text}
use Rattle.print_laws.proofs.LexingTokens.{token-found, no-slash}

directive-token : (mode : Mode) (token : TokKind) (text rest : List ℕ) → IsDirective token (35 ∷ text) → clashes token rest ≡ false → IsTokenAt mode token (35 ∷ text) rest
directive-token mode token text rest is apart =
    token-found mode token (35 ∷ text) rest (no-slash 35 (text ++ rest) refl) (directive-exact token (35 ∷ text) rest (text ++ rest) is refl) apart

pub include-token : (mode : Mode) (header : Header) (rest : List ℕ) → IsTokenAt mode (kind.Include header) (include_text header) rest
include-token mode header rest = directive-token mode (kind.Include header) _ rest (include [] (32 ∷ []) header refl refl refl refl) refl

pub pragma-token : (mode : Mode) (rest : List ℕ) → IsTokenAt mode kind.PragmaOnce (codes "#pragma once") rest
pragma-token mode rest = directive-token mode kind.PragmaOnce _ rest (pragma [] (32 ∷ []) refl refl (λ e. cc) refl refl) refl
