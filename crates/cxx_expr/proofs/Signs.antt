-- Two signs are the same where their ranks are.
use Rattle.std.proofs.Common.{◌≡◌, true, List, [], ◌∷◌, refl, sym, ap, ◌∙◌, slice_index_or}
use Rattle.std.proofs.lemmas.Bool.{eqb-true}
use Rattle.agxx_base.specs.declared.vocabulary.Sign.{Sign}
use Rattle.agxx_base.specs.declared.vocabulary.Sign.TheVariants as sg
use Rattle.cxx_expr.specs.Signs.{rank, same_sign}

abbrev signs : List Sign
signs = sg.OpenBrace ∷ sg.CloseBrace ∷ sg.OpenParen ∷ sg.CloseParen ∷ sg.Semicolon ∷ sg.Comma ∷ sg.Colon ∷ sg.ColonColon ∷ sg.Dot ∷ sg.Arrow ∷ sg.Ellipsis ∷ sg.Plus ∷ sg.Minus ∷ sg.Star ∷ sg.Slash ∷ sg.Percent ∷ sg.And ∷ sg.Or ∷ sg.Caret ∷ sg.Tilde ∷ sg.Not ∷ sg.Less ∷ sg.Greater ∷ sg.LessEqual ∷ sg.GreaterEqual ∷ sg.EqualEqual ∷ sg.NotEqual ∷ sg.AndAnd ∷ sg.OrOr ∷ sg.ShiftLeft ∷ sg.ShiftRight ∷ sg.Assign ∷ sg.PlusAssign ∷ sg.MinusAssign ∷ sg.StarAssign ∷ sg.SlashAssign ∷ sg.PercentAssign ∷ sg.PlusPlus ∷ sg.MinusMinus ∷ []

sign_at-rank : (s : Sign) → slice_index_or signs (rank s) sg.Comma ≡ s
sign_at-rank sg.OpenBrace = refl
sign_at-rank sg.CloseBrace = refl
sign_at-rank sg.OpenParen = refl
sign_at-rank sg.CloseParen = refl
sign_at-rank sg.Semicolon = refl
sign_at-rank sg.Comma = refl
sign_at-rank sg.Colon = refl
sign_at-rank sg.ColonColon = refl
sign_at-rank sg.Dot = refl
sign_at-rank sg.Arrow = refl
sign_at-rank sg.Ellipsis = refl
sign_at-rank sg.Plus = refl
sign_at-rank sg.Minus = refl
sign_at-rank sg.Star = refl
sign_at-rank sg.Slash = refl
sign_at-rank sg.Percent = refl
sign_at-rank sg.And = refl
sign_at-rank sg.Or = refl
sign_at-rank sg.Caret = refl
sign_at-rank sg.Tilde = refl
sign_at-rank sg.Not = refl
sign_at-rank sg.Less = refl
sign_at-rank sg.Greater = refl
sign_at-rank sg.LessEqual = refl
sign_at-rank sg.GreaterEqual = refl
sign_at-rank sg.EqualEqual = refl
sign_at-rank sg.NotEqual = refl
sign_at-rank sg.AndAnd = refl
sign_at-rank sg.OrOr = refl
sign_at-rank sg.ShiftLeft = refl
sign_at-rank sg.ShiftRight = refl
sign_at-rank sg.Assign = refl
sign_at-rank sg.PlusAssign = refl
sign_at-rank sg.MinusAssign = refl
sign_at-rank sg.StarAssign = refl
sign_at-rank sg.SlashAssign = refl
sign_at-rank sg.PercentAssign = refl
sign_at-rank sg.PlusPlus = refl
sign_at-rank sg.MinusMinus = refl

pub same_sign-true : (a b : Sign) → same_sign a b ≡ true → a ≡ b
same_sign-true a b e = sym (sign_at-rank a) ∙ ap (λ n. slice_index_or signs n sg.Comma) (eqb-true (rank a) (rank b) e) ∙ sign_at-rank b

pub same_sign-self : (a : Sign) → same_sign a a ≡ true
same_sign-self sg.OpenBrace = refl
same_sign-self sg.CloseBrace = refl
same_sign-self sg.OpenParen = refl
same_sign-self sg.CloseParen = refl
same_sign-self sg.Semicolon = refl
same_sign-self sg.Comma = refl
same_sign-self sg.Colon = refl
same_sign-self sg.ColonColon = refl
same_sign-self sg.Dot = refl
same_sign-self sg.Arrow = refl
same_sign-self sg.Ellipsis = refl
same_sign-self sg.Plus = refl
same_sign-self sg.Minus = refl
same_sign-self sg.Star = refl
same_sign-self sg.Slash = refl
same_sign-self sg.Percent = refl
same_sign-self sg.And = refl
same_sign-self sg.Or = refl
same_sign-self sg.Caret = refl
same_sign-self sg.Tilde = refl
same_sign-self sg.Not = refl
same_sign-self sg.Less = refl
same_sign-self sg.Greater = refl
same_sign-self sg.LessEqual = refl
same_sign-self sg.GreaterEqual = refl
same_sign-self sg.EqualEqual = refl
same_sign-self sg.NotEqual = refl
same_sign-self sg.AndAnd = refl
same_sign-self sg.OrOr = refl
same_sign-self sg.ShiftLeft = refl
same_sign-self sg.ShiftRight = refl
same_sign-self sg.Assign = refl
same_sign-self sg.PlusAssign = refl
same_sign-self sg.MinusAssign = refl
same_sign-self sg.StarAssign = refl
same_sign-self sg.SlashAssign = refl
same_sign-self sg.PercentAssign = refl
same_sign-self sg.PlusPlus = refl
same_sign-self sg.MinusMinus = refl
