-- The words of objects, by class. An object has the words of its class's base first, and then those that the class
-- itself declares, in text order. Each member of a number type, `bool` among them, is a word.
use Rattle.std.specs.Prelude.{ℕ, List, [], ◌∷◌, ◌++◌, length, Option, Some, None, slice_get}
use Rattle.std.specs.List.{flat_map}
use Rattle.agxx_base.specs.declared.ids.ClassId.{ClassId}
use Rattle.agxx_base.specs.declared.kind.NumKind.{NumKind}
use Rattle.agxx_base.specs.declared.kind.NumKind.TheVariants.{I32, U32}
use Rattle.cxx_tree.specs.declared.program.TypeName.{TypeName}
use Rattle.cxx_tree.specs.declared.program.TypeName.TheVariants as type_name
use Rattle.cxx_names.specs.declared.declarations.MemberInfo.{MemberInfo}
use Rattle.cxx_names.specs.declared.declarations.ClassInfo.{ClassInfo}
use Rattle.cxx_names.specs.declared.declarations.Declared.{Declared}
use Rattle.cxx_layout.specs.declared.layouts.WordInfo.{WordInfo}

-- the kind of a number type
abbrev pub kind_of : TypeName → Option NumKind
kind_of (type_name.Num kind) = Some kind
kind_of type_name.Int = Some I32
kind_of type_name.Unsigned = Some U32
kind_of type_name.Void = None
kind_of (type_name.Pointer class) = None
kind_of type_name.Mutex = None

abbrev pub word_by : ClassId → ℕ → Option NumKind → List WordInfo
word_by class name None = []
word_by class name (Some kind) = record { name = record { 0 = name }; kind = kind; class = class } ∷ []

-- a member's word, if it is one
abbrev pub word_of : ClassId → ℕ × MemberInfo → List WordInfo
word_of class m = word_by class m.0 (kind_of m.1.type_name)

-- the words that a class itself declares
abbrev pub own_words : ClassId → List (ℕ × MemberInfo) → List WordInfo
own_words class members = flat_map (word_of class) members

abbrev pub list_by : {A : Type 0} → Option (List A) → List A
list_by None = []
list_by (Some found) = found

-- the list of a class's base among the lists of the classes before it
abbrev pub inherited : {A : Type 0} → List (List A) → Option ClassId → List A
inherited lists None = []
inherited lists (Some base) = list_by (slice_get lists base.0)

-- the class whose number comes after those of the lists
abbrev pub next_class : {A : Type 0} → List A → ClassId
next_class lists = record { 0 = length lists }

-- the layouts of the classes before a class, and its own
abbrev pub with_layout : List (List WordInfo) → ClassInfo → List (List WordInfo)
with_layout done class = done ++ (inherited done class.base ++ own_words (next_class done) class.members) ∷ []

abbrev pub layouts_after : List (List WordInfo) → List ClassInfo → List (List WordInfo)
layouts_after done [] = done
layouts_after done (class ∷ classes) = layouts_after (with_layout done class) classes

-- the layouts of all classes, by their numbers
abbrev pub layouts : Declared → List (List WordInfo)
layouts d = layouts_after [] d.classes

-- the words of an object of a class, those of the class without a base first
abbrev pub layout : Declared → ClassId → Option (List WordInfo)
layout d class = slice_get (layouts d) class.0
