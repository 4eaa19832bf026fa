-- Programs that violate no rule, and what is known of them.
use Rattle.std.specs.Prelude.{◌≡◌, ℕ, List, [], Option, Some, None, Result, MatchResult, slice_get}
use Rattle.agxx_base.specs.Refusals.{IfRefused}
use Rattle.agxx_base.specs.declared.fault.Fault.{Fault}
use Rattle.agxx_base.specs.declared.fault.Refusal.{Refusal}
use Rattle.agxx_base.specs.declared.ids.ClassId.{ClassId}
use Rattle.agxx_base.specs.declared.ids.NameId.{NameId}
use Rattle.agxx_base.specs.declared.ids.NodeId.{NodeId}
use Rattle.agxx_base.specs.declared.kind.Mode.{Mode}
use Rattle.cxx_tree.specs.declared.program.TypeName.{TypeName}
use Rattle.cxx_tree.specs.declared.program.TypeName.TheVariants.{Void}
use Rattle.cxx_tree.specs.ProgramTree.{ProgramTree, program_tree}
use Rattle.cxx_names.specs.Declarations.{declared}
use Rattle.cxx_layout.specs.declared.layouts.WordInfo.{WordInfo}
use Rattle.cxx_layout.specs.Layouts.{layouts}
use Rattle.cxx_layout.specs.Parts.{all_parts}
use Rattle.cxx_types.specs.declared.entry.Entry.{Entry}
use Rattle.cxx_types.specs.declared.entry.Meaning.{Meaning}
use Rattle.cxx_types.specs.declared.entry.Meaning.TheVariants.{Other}
use Rattle.cxx_types.specs.declared.typed.Typed.{Typed}
use Rattle.cxx_types.specs.Programs.{checked}
use Rattle.cxx_types.specs.Violations.{violations_of, refusal_of}

-- the program, where names have these texts and the program is read so, violates no rule; and this is known of it
pub record IsTypedOf (names : List (List ℕ)) (mode : Mode) (q : ProgramTree) (t : Typed) : Type 0 where
  pub accepted : violations_of names mode q ≡ []
  pub program : program_tree t.program ≡ q
  pub texts : t.texts ≡ names
  pub tables : t.declared ≡ declared names q
  -- the nodes in text order, so that of a normal program a node's number is its place among them
  pub nodes : t.entries ≡ (checked names mode q).entries
  pub words : t.layouts.layouts ≡ layouts (declared names q)
  pub part_classes : t.layouts.parts ≡ all_parts names (declared names q)

-- what is made of a program: what is known of it, or the violation that is told
abbrev pub IsJudged : List (List ℕ) → Mode → ProgramTree → Result Typed Refusal → Type 0
IsJudged names mode q judged = MatchResult judged (IsTypedOf names mode q) (λ refusal. refusal_of names mode q ≡ Some refusal)

abbrev pub IsChecked : List (List ℕ) → Mode → ProgramTree → Fault → Type 0
IsChecked names mode q f = IfRefused f (λ refusal. refusal_of names mode q ≡ Some refusal)

-- ---- what is known of nodes

abbrev pub type_by : Option Entry → TypeName
type_by None = Void
type_by (Some entry) = entry.type_name

abbrev pub meaning_by : Option Entry → Meaning
meaning_by None = Other
meaning_by (Some entry) = entry.meaning

-- the type of a node, `void` where it has none of its own
abbrev pub type_of : Typed → NodeId → TypeName
type_of t node = type_by (slice_get t.entries node.0)

abbrev pub meaning_of : Typed → NodeId → Meaning
meaning_of t node = meaning_by (slice_get t.entries node.0)

-- ---- what is known of names and classes

abbrev pub text_of : Typed → NameId → Option (List ℕ)
text_of t name = slice_get t.texts name.0

abbrev pub layout_of : Typed → ClassId → Option (List WordInfo)
layout_of t class = slice_get t.layouts.layouts class.0

abbrev pub parts_of : Typed → ClassId → Option (List ClassId)
parts_of t class = slice_get t.layouts.parts class.0
