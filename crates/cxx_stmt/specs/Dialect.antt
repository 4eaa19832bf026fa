-- The names that have a meaning at their place, and the forms of a dialect.
use Rattle.std.specs.Prelude.{◌≢◌, ℕ, Bool, true, false}
use Rattle.agxx_base.specs.declared.kind.Mode.{Mode}
use Rattle.agxx_base.specs.declared.kind.Mode.TheVariants as mode_of
use Rattle.agxx_base.specs.declared.vocabulary.SpecialName.{SpecialName}
use Rattle.agxx_base.specs.declared.vocabulary.SpecialName.TheVariants as sn
use Rattle.cxx_tree.specs.Limits.{Grammar, grammar_of}
use Rattle.cxx_stmt.specs.declared.dialect.Dialect.{Dialect}

-- The number of each name that has a meaning in programs. The others stand in no program.
abbrev pub special_of : Dialect → SpecialName → ℕ
special_of d sn.Std = d.std.0
special_of d sn.Mutex = d.mutex.0
special_of d sn.Thread = d.thread.0
special_of d sn.Cout = d.cout.0
special_of d sn.Endl = d.endl.0
special_of d sn.Abort = d.abort.0
special_of d _ = 0

abbrev pub is_woven : Mode → Bool
is_woven mode_of.Source = false
is_woven mode_of.Woven = true

abbrev pub grammar : Dialect → Grammar
grammar d = grammar_of d.mode

-- the names that may stand behind `std ::` at the beginning of a statement have different numbers
pub record IsApart (d : Dialect) : Type 0 where
  pub thread_cout : d.thread.0 ≢ d.cout.0
  pub thread_abort : d.thread.0 ≢ d.abort.0
  pub cout_abort : d.cout.0 ≢ d.abort.0
