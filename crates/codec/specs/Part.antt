-- Parts: the members that a guarded class itself declares, and the words that its code adds.
use Rattle.std.specs.Prelude.{ℕ, List, map}
use Rattle.agxx_base.specs.declared.ids.NameId.{NameId}
use Rattle.agxx_base.specs.declared.kind.NumKind.{NumKind}
use Rattle.agxx_base.specs.declared.kind.NumKind.TheVariants as kind
use Rattle.agxx_base.specs.declared.place.Place.{Place}
use Rattle.cxx_tree.specs.declared.program.Member.{Member}
use Rattle.cxx_tree.specs.declared.program.TypeName.{TypeName}
use Rattle.cxx_tree.specs.declared.program.TypeName.TheVariants as type_of
use Rattle.cxx_make.specs.Generated.{text_of}
use Rattle.codec.specs.declared.part.Part.{Part}

-- the unsigned kind of a kind's width
abbrev pub unsigned_kind : NumKind → NumKind
unsigned_kind kind.Bool = kind.U8
unsigned_kind kind.I8 = kind.U8
unsigned_kind kind.U8 = kind.U8
unsigned_kind kind.I16 = kind.U16
unsigned_kind kind.U16 = kind.U16
unsigned_kind kind.I32 = kind.U32
unsigned_kind kind.U32 = kind.U32
unsigned_kind kind.I64 = kind.U64
unsigned_kind kind.U64 = kind.U64

-- the same of a type; no member of a part is of another than a number type
abbrev pub unsigned_type : TypeName → NumKind
unsigned_type (type_of.Num k) = unsigned_kind k
unsigned_type type_of.Int = kind.U32
unsigned_type type_of.Unsigned = kind.U32
unsigned_type type_of.Void = kind.U64
unsigned_type (type_of.Pointer class) = kind.U64
unsigned_type type_of.Mutex = kind.U64

abbrev pub unsigned_of : Member → NumKind
unsigned_of m = unsigned_type m.type_name.item

-- where all that is generated for a part stands
abbrev pub place_of : Part → Place
place_of p = p.class.at

abbrev pub member_names : List Member → List NameId
member_names ms = map (λ (m : Member). m.name.item) ms

-- the texts of the members' names
abbrev pub texts_of : List (List ℕ) → List Member → List (List ℕ)
texts_of names ms = map (text_of names) (member_names ms)

abbrev pub member_texts : List (List ℕ) → Part → List (List ℕ)
member_texts names p = texts_of names p.members
