use Rattle.std.proofs.Common.{◌≡◌, ◌≤◌, ℕ, length, Option, Some, None, IfSome, sym, subst, arith}
use Rattle.agxx_base.specs.declared.vocabulary.Sign.{Sign}
use Rattle.cxx_lex.specs.declared.tok.Lexeme.{Lexeme}
use Rattle.cxx_lex.specs.SignScan.{sign_or}
use Rattle.cxx_lex.proofs.signs.sign.Goals as goal

abbrev IsWithin : ℕ → Option Lexeme → Type 0
IsWithin m o = IfSome o (λ l. l.len ≤ m)

sign_or-within : (n m : ℕ) (s : Option Sign) (other answer : Option Lexeme) → n ≤ m → IsWithin m other → answer ≡ sign_or n s other → IsWithin m answer
sign_or-within n m s other answer h w e = subst (IsWithin m) (sym e) (go s)
  where
    go : (s : Option Sign) → IsWithin m (sign_or n s other)
    go None = w
    go (Some r) = h

pub returns-in-len3-up-clause-within : goal.returns-in-len3-up-clause-within
returns-in-len3-up-clause-within c =
    sign_or-within 3 (length c.args.text.now) _ _ c.sign_or-in-len3-up-3.result (omega arith)
    (sign_or-within 2 (length c.args.text.now) _ _ c.sign_or-in-len3-up-2.result (omega arith)
    (sign_or-within 1 (length c.args.text.now) _ None c.sign_or-in-len3-up.result (omega arith) tt c.sign_or-in-len3-up.ensures) c.sign_or-in-len3-up-2.ensures)
    c.sign_or-in-len3-up-3.ensures
