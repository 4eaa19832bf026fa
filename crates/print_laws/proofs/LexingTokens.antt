-- Tokens at the front of a text, by what is found there.
use Rattle.std.proofs.Common.{◌≡◌, ℕ, false, List, [], ◌∷◌, ◌++◌, length, Some, Ok, refl, subst}
use Rattle.std.specs.Prelude.{◌==◌}
use Rattle.std.proofs.Math.Seq.{take-append_seam}
use Rattle.agxx_base.specs.declared.kind.Mode.{Mode}
use Rattle.cxx_lex.specs.declared.tok.TokKind.{TokKind}
use Rattle.cxx_lex.specs.Bytes.{begins_comment}
use Rattle.cxx_lex.specs.Lexemes.{IsLexeme}
use Rattle.cxx_lex.specs.Scan.{lexeme}
use Rattle.cxx_lex.specs.Tokens.{clashes, IsTokenAt}
use Rattle.cxx_lex.proofs.Cut.{IsFound, lexeme-found}

-- what is found at the front of a text stands there
pub token-found : (mode : Mode) (token : TokKind) (text rest : List ℕ) → begins_comment (text ++ rest) ≡ false → lexeme mode (text ++ rest) ≡ Some (record { kind = Ok token; len = length text }) → clashes token rest ≡ false
    → IsTokenAt mode token text rest
token-found mode token text rest no_comment found apart =
    let is = subst (IsFound mode (text ++ rest)) found (lexeme-found mode (text ++ rest)) in
    record {
      longest = record {
        no_comment = no_comment;
        lexeme = subst (IsLexeme mode (Ok token)) (take-append_seam text rest) is.member;
        longest = is.longest;
      };
      apart = apart;
    }

-- what begins with no slash begins no comment
pub no-slash : (b : ℕ) (bs : List ℕ) → (b == 47) ≡ false → begins_comment (b ∷ bs) ≡ false
no-slash b [] e = refl
no-slash b (c ∷ cs) e = rw e refl
