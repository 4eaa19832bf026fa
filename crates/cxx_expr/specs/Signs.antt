-- Whether two signs are the same.
use Rattle.std.specs.Prelude.{ℕ, Bool, nat_eq}
use Rattle.agxx_base.specs.declared.vocabulary.Sign.{Sign}
use Rattle.agxx_base.specs.declared.vocabulary.Sign.TheVariants as sg

abbrev pub rank : Sign → ℕ
rank sg.OpenBrace = 0
rank sg.CloseBrace = 1
rank sg.OpenParen = 2
rank sg.CloseParen = 3
rank sg.Semicolon = 4
rank sg.Comma = 5
rank sg.Colon = 6
rank sg.ColonColon = 7
rank sg.Dot = 8
rank sg.Arrow = 9
rank sg.Ellipsis = 10
rank sg.Plus = 11
rank sg.Minus = 12
rank sg.Star = 13
rank sg.Slash = 14
rank sg.Percent = 15
rank sg.And = 16
rank sg.Or = 17
rank sg.Caret = 18
rank sg.Tilde = 19
rank sg.Not = 20
rank sg.Less = 21
rank sg.Greater = 22
rank sg.LessEqual = 23
rank sg.GreaterEqual = 24
rank sg.EqualEqual = 25
rank sg.NotEqual = 26
rank sg.AndAnd = 27
rank sg.OrOr = 28
rank sg.ShiftLeft = 29
rank sg.ShiftRight = 30
rank sg.Assign = 31
rank sg.PlusAssign = 32
rank sg.MinusAssign = 33
rank sg.StarAssign = 34
rank sg.SlashAssign = 35
rank sg.PercentAssign = 36
rank sg.PlusPlus = 37
rank sg.MinusMinus = 38

abbrev pub same_sign : Sign → Sign → Bool
same_sign a b = nat_eq (rank a) (rank b)
