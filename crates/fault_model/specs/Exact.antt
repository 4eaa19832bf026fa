-- Exact parts: each member word holds the value that the source has for this member.
use Rattle.std.specs.Prelude.{◌≡◌, ℕ, List, [], Contains, Option, Some, None, slice_get}
use Rattle.agxx_base.specs.declared.ids.ClassId.{ClassId}
use Rattle.cxx_core.specs.CoreExpr as c
use Rattle.cxx_core.specs.CoreExpr.{CoreExpr, CoreLeft}
use Rattle.cxx_core.specs.CoreProgram.{CoreWord, CoreClass}
use Rattle.step_machine.specs.Setting.{Setting, class_at, word_number}
use Rattle.step_machine.specs.ActMembers.{object_now}
use Rattle.step_machine.specs.Item as it
use Rattle.step_machine.specs.Item.{Item}
use Rattle.step_machine.specs.Total.{Total, OffThread, off_thread}
use Rattle.fault_model.specs.Parts.{part_words}

-- ---- one member in two programs, by the texts of names

abbrev pub class_text_by : Setting → Option CoreClass → Option (List ℕ)
class_text_by s None = None
class_text_by s (Some class) = slice_get s.names class.name.item.0

abbrev pub class_text : Setting → ClassId → Option (List ℕ)
class_text s class = class_text_by s (class_at s class)

abbrev pub own_words_by : Option CoreClass → List CoreWord
own_words_by None = []
own_words_by (Some class) = class.words

abbrev pub own_words : Setting → ClassId → List CoreWord
own_words s class = own_words_by (class_at s class)

-- A word of a part, and the member of the source that it is.
pub record IsMemberOf (s source : Setting) (class of : ClassId) (word member : CoreWord) : Type 0 where
  pub word_of : Contains (part_words s class) word
  pub member_of : Contains (own_words source of) member
  pub class_name : List ℕ
  pub class_is : class_text s class ≡ Some class_name
  pub of_is : class_text source of ≡ Some class_name
  pub name : List ℕ
  pub word_is : slice_get s.names word.name ≡ Some name
  pub member_is : slice_get source.names member.name ≡ Some name

-- the part of a class of an object, by the state of the source
abbrev pub IsExact : Total → Total → ℕ → ClassId → Type 0
IsExact m source o class =
    (of : ClassId) (word member : CoreWord) → IsMemberOf m.setting source.setting class of word member
    → m.word o (word_number m.setting class word.name) ≡ source.word o (word_number source.setting of member.name)

-- ---- which member a step touches: that of the Expr or the Put of a member

pub record Touch : Type 0 where
  -- none where its pointer is null
  pub object : Option ℕ
  pub class : ClassId
  pub name : ℕ

abbrev pub touched_left : Total → OffThread → CoreLeft → Option Touch
touched_left m x (c.variable v) = None
touched_left m x (c.member at o class name k) =
    Some (record { object = object_now m.setting m.variable x.0 o; class = class; name = name })

abbrev pub touched_expr : Total → OffThread → CoreExpr → Option Touch
touched_expr m x (c.read l) = touched_left m x l
touched_expr m x _ = None

abbrev pub touched_by : Total → OffThread → Item → Option Touch
touched_by m x (it.expr e) = touched_expr m x e
touched_by m x (it.put l) = touched_left m x l
touched_by m x _ = None

abbrev pub touched_off : Total → Option OffThread → Option Touch
touched_off m None = None
touched_off m (Some x) = touched_by m x x.1

-- by the next step of a thread
abbrev pub touched : Total → ℕ → Option Touch
touched m t = touched_off m (off_thread (m.frames t))

-- A step of thread t touches a member of the part of a class of an object.
pub record TouchesPart (m : Total) (t o : ℕ) (class : ClassId) : Type 0 where
  pub touch : Touch
  pub is : touched m t ≡ Some touch
  pub object : touch.object ≡ Some o
  pub in_class : touch.class ≡ class
  pub word : CoreWord
  pub of_part : Contains (part_words m.setting class) word
  pub name : touch.name ≡ word.name
