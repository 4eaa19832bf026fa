-- The texts of the language's fixed words and signs.
use Rattle.std.specs.Prelude.{ℕ, List, [], ◌∷◌, codes}
use Rattle.agxx_base.specs.declared.vocabulary.Keyword.{Keyword}
use Rattle.agxx_base.specs.declared.vocabulary.Sign.{Sign}
use Rattle.agxx_base.specs.declared.vocabulary.Header.{Header}
use Rattle.agxx_base.specs.declared.vocabulary.SpecialName.{SpecialName}
use Rattle.agxx_base.specs.declared.vocabulary.Keyword.TheVariants as keyword
use Rattle.agxx_base.specs.declared.vocabulary.Sign.TheVariants as sign
use Rattle.agxx_base.specs.declared.vocabulary.Header.TheVariants as header
use Rattle.agxx_base.specs.declared.vocabulary.SpecialName.TheVariants as special
use Rattle.agxx_base.specs.declared.kind.NumKind.{NumKind}
use Rattle.agxx_base.specs.declared.kind.NumKind.TheVariants as num

abbrev pub kind_text : NumKind → List ℕ
kind_text num.Bool = codes "bool"
kind_text num.I8 = codes "int8_t"
kind_text num.U8 = codes "uint8_t"
kind_text num.I16 = codes "int16_t"
kind_text num.U16 = codes "uint16_t"
kind_text num.I32 = codes "int32_t"
kind_text num.U32 = codes "uint32_t"
kind_text num.I64 = codes "int64_t"
kind_text num.U64 = codes "uint64_t"

-- the text of each keyword that the language's grammar has; a reserved word has one of several
abbrev pub keyword_text : Keyword → List ℕ
keyword_text keyword.Class = codes "class"
keyword_text keyword.Struct = codes "struct"
keyword_text keyword.Public = codes "public"
keyword_text keyword.Private = codes "private"
keyword_text keyword.Protected = codes "protected"
keyword_text keyword.Virtual = codes "virtual"
keyword_text keyword.Void = codes "void"
keyword_text keyword.Int = codes "int"
keyword_text keyword.Unsigned = codes "unsigned"
keyword_text keyword.True = codes "true"
keyword_text keyword.False = codes "false"
keyword_text keyword.Nullptr = codes "nullptr"
keyword_text keyword.This = codes "this"
keyword_text keyword.New = codes "new"
keyword_text keyword.Delete = codes "delete"
keyword_text keyword.Return = codes "return"
keyword_text keyword.If = codes "if"
keyword_text keyword.Else = codes "else"
keyword_text keyword.While = codes "while"
keyword_text keyword.For = codes "for"
keyword_text keyword.Aspect = codes "aspect"
keyword_text keyword.Advice = codes "advice"
keyword_text keyword.Pointcut = codes "pointcut"
keyword_text keyword.Slice = codes "slice"
keyword_text keyword.Tjp = codes "tjp"
keyword_text (keyword.Number kind) = kind_text kind
keyword_text keyword.Reserved = []

-- the keywords of C++20 that stand nowhere in the language's grammar
abbrev pub reserved_words : List (List ℕ)
reserved_words =
    codes "alignas" ∷ codes "alignof" ∷ codes "asm" ∷ codes "auto" ∷ codes "break" ∷ codes "case" ∷ codes "catch" ∷ codes "char" ∷ codes "char8_t" ∷ codes "char16_t" ∷ codes "char32_t" ∷ codes "concept" ∷ codes "const" ∷ codes "consteval" ∷ codes "constexpr" ∷ codes "constinit" ∷ codes "const_cast" ∷ codes "continue" ∷ codes "co_await" ∷ codes "co_return" ∷ codes "co_yield" ∷ codes "decltype" ∷ codes "default" ∷ codes "do" ∷ codes "double" ∷ codes "dynamic_cast" ∷ codes "enum" ∷ codes "explicit" ∷ codes "export" ∷ codes "extern" ∷ codes "float" ∷ codes "friend" ∷ codes "goto" ∷ codes "inline" ∷ codes "long" ∷ codes "mutable" ∷ codes "namespace" ∷ codes "noexcept" ∷ codes "operator" ∷ codes "register" ∷ codes "reinterpret_cast" ∷ codes "requires" ∷ codes "short" ∷ codes "signed" ∷ codes "sizeof" ∷ codes "static" ∷ codes "static_assert" ∷ codes "static_cast" ∷ codes "switch" ∷ codes "template" ∷ codes "thread_local" ∷ codes "throw" ∷ codes "try" ∷ codes "typedef" ∷ codes "typeid" ∷ codes "typename" ∷ codes "union" ∷ codes "using" ∷ codes "volatile" ∷ codes "wchar_t" ∷ codes "and" ∷ codes "and_eq" ∷ codes "bitand" ∷ codes "bitor" ∷ codes "compl" ∷ codes "not" ∷ codes "not_eq" ∷ codes "or" ∷ codes "or_eq" ∷ codes "xor" ∷ codes "xor_eq" ∷ []

abbrev pub sign_text : Sign → List ℕ
sign_text sign.OpenBrace = codes "{"
sign_text sign.CloseBrace = codes "}"
sign_text sign.OpenParen = codes "("
sign_text sign.CloseParen = codes ")"
sign_text sign.Semicolon = codes ";"
sign_text sign.Comma = codes ","
sign_text sign.Colon = codes ":"
sign_text sign.ColonColon = codes "::"
sign_text sign.Dot = codes "."
sign_text sign.Arrow = codes "->"
sign_text sign.Ellipsis = codes "..."
sign_text sign.Plus = codes "+"
sign_text sign.Minus = codes "-"
sign_text sign.Star = codes "*"
sign_text sign.Slash = codes "/"
sign_text sign.Percent = codes "%"
sign_text sign.And = codes "&"
sign_text sign.Or = codes "|"
sign_text sign.Caret = codes "^"
sign_text sign.Tilde = codes "~"
sign_text sign.Not = codes "!"
sign_text sign.Less = codes "<"
sign_text sign.Greater = codes ">"
sign_text sign.LessEqual = codes "<="
sign_text sign.GreaterEqual = codes ">="
sign_text sign.EqualEqual = codes "=="
sign_text sign.NotEqual = codes "!="
sign_text sign.AndAnd = codes "&&"
sign_text sign.OrOr = codes "||"
sign_text sign.ShiftLeft = codes "<<"
sign_text sign.ShiftRight = codes ">>"
sign_text sign.Assign = codes "="
sign_text sign.PlusAssign = codes "+="
sign_text sign.MinusAssign = codes "-="
sign_text sign.StarAssign = codes "*="
sign_text sign.SlashAssign = codes "/="
sign_text sign.PercentAssign = codes "%="
sign_text sign.PlusPlus = codes "++"
sign_text sign.MinusMinus = codes "--"

abbrev pub header_text : Header → List ℕ
header_text header.Cstdint = codes "cstdint"
header_text header.Cstdlib = codes "cstdlib"
header_text header.Iostream = codes "iostream"
header_text header.Mutex = codes "mutex"
header_text header.Thread = codes "thread"

abbrev pub special_text : SpecialName → List ℕ
special_text special.Std = codes "std"
special_text special.Mutex = codes "mutex"
special_text special.Thread = codes "thread"
special_text special.Cout = codes "cout"
special_text special.Endl = codes "endl"
special_text special.Abort = codes "abort"
special_text special.Before = codes "before"
special_text special.After = codes "after"
special_text special.Around = codes "around"
special_text special.Order = codes "order"
special_text special.Call = codes "call"
special_text special.Execution = codes "execution"
special_text special.Construction = codes "construction"
special_text special.Destruction = codes "destruction"
special_text special.Within = codes "within"
special_text special.That = codes "that"
special_text special.Target = codes "target"
special_text special.Derived = codes "derived"
special_text special.Args = codes "args"
special_text special.Proceed = codes "proceed"
special_text special.Result = codes "result"
