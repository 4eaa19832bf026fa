-- Kinds of numbers, and how operands come to one kind.
use Rattle.std.specs.Prelude.{ℕ, Bool, true, false, nat_lt, if◌then◌else◌}
use Rattle.agxx_base.specs.declared.kind.NumKind.{NumKind}
use Rattle.agxx_base.specs.declared.kind.NumKind.TheVariants as num

-- how many bits a number of the kind has
abbrev pub width : NumKind → ℕ
width num.Bool = 1
width num.I8 = 8
width num.U8 = 8
width num.I16 = 16
width num.U16 = 16
width num.I32 = 32
width num.U32 = 32
width num.I64 = 64
width num.U64 = 64

abbrev pub is_signed : NumKind → Bool
is_signed num.Bool = false
is_signed num.I8 = true
is_signed num.U8 = false
is_signed num.I16 = true
is_signed num.U16 = false
is_signed num.I32 = true
is_signed num.U32 = false
is_signed num.I64 = true
is_signed num.U64 = false

-- operands narrower than 32 bits are promoted
abbrev pub promoted : NumKind → NumKind
promoted kind = if nat_lt (width kind) 32 then num.I32 else kind

-- of two promoted kinds the wider one, and of equal width the unsigned one
abbrev pub winner : NumKind → NumKind → NumKind
winner a b = if nat_lt (width a) (width b) then b else (if nat_lt (width b) (width a) then a else (if is_signed a then b else a))

abbrev pub common_kind : NumKind → NumKind → NumKind
common_kind a b = winner (promoted a) (promoted b)
