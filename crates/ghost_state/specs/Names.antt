-- The names that protection gives, by their numbers in the table of names of the protected program.
use Rattle.std.specs.Prelude.{ℕ, suc, List, [], map, length, Option, Some, None, slice_get, unwrap_or}
use Rattle.agxx_base.specs.declared.ids.ClassId.{ClassId}
use Rattle.agxx_base.specs.declared.ids.NameId.{NameId}
use Rattle.cxx_core.specs.CoreProgram.{CoreWord, CoreClass, CoreProgram}
use Rattle.cxx_make.specs.Generated.{text_of, named}
use Rattle.entry_count.specs.PartCode.{counter, mutex, repair, renew, enter, leave}
use Rattle.cxx_make.specs.Generated.{numbered}
use Rattle.std.specs.Prelude.{codes}
use Rattle.ghost_state.specs.CoreCodes.{CoreCode, Codes}

-- of a class's part the words that its code adds, and the locals of its blocks, by their order; of a function the values
-- on their way, by the number of the `return`, from 0 on
pub record Naming : Type 0 where
  pub count : ClassId → ℕ
  pub lock : ClassId → ℕ
  pub repair : ClassId → ℕ
  pub renew : ClassId → ℕ
  pub enter : ClassId → ℕ
  pub leave : ClassId → ℕ
  pub added : ClassId → ℕ → ℕ
  pub local : ClassId → ℕ → ℕ
  pub result : ℕ → ℕ

-- ---- those of a table of names

abbrev pub name_by : Option CoreClass → NameId
name_by None = record { 0 = 0 }
name_by (Some class) = class.name.item

abbrev pub words_by : Option CoreClass → List CoreWord
words_by None = []
words_by (Some class) = class.words

module _ (texts : List (List ℕ)) (codes_of : Codes) (p : CoreProgram) where
  abbrev pub class_name : ClassId → NameId
  class_name class = name_by (slice_get p.classes class.0)

  abbrev pub member_texts : ClassId → List (List ℕ)
  member_texts class = map (λ (w : CoreWord). text_of texts (record { 0 = w.name })) (words_by (slice_get p.classes class.0))

  abbrev pub added_by : Option CoreCode → ClassId → List (List ℕ)
  added_by None class = []
  added_by (Some code) class = code.added_texts (text_of texts (class_name class)) (member_texts class)

  abbrev pub locals_by : Option CoreCode → ClassId → List (List ℕ)
  locals_by None class = []
  locals_by (Some code) class = code.local_texts (length (words_by (slice_get p.classes class.0)))

  abbrev pub naming_of : Naming
  naming_of = record {
    count = λ class. (counter texts (class_name class)).0;
    lock = λ class. (mutex texts (class_name class)).0;
    repair = λ class. (repair texts (class_name class)).0;
    renew = λ class. (renew texts (class_name class)).0;
    enter = λ class. (enter texts (class_name class)).0;
    leave = λ class. (leave texts (class_name class)).0;
    added = λ class i. (named texts (unwrap_or (slice_get (added_by (codes_of class) class) i) [])).0;
    local = λ class i. (named texts (unwrap_or (slice_get (locals_by (codes_of class) class) i) [])).0;
    result = λ n. (numbered texts (codes "__gop_r_") (suc n)).0;
  }
