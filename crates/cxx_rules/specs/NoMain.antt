-- N9: there is no free function `main` without parameters and with an int32_t as its result. The place is the program's.
use Rattle.std.specs.Prelude.{Option, None}
use Rattle.agxx_base.specs.declared.place.Place.{Place}
use Rattle.cxx_types.specs.Programs.{has_main}
use Rattle.cxx_rules.specs.Forms as form
use Rattle.cxx_rules.specs.Forms.{Form}
use Rattle.cxx_rules.specs.Unless.{unless}

abbrev pub no_main_at : Form → Option Place
no_main_at (form.program names q) = unless (has_main names q.decls) q.at
no_main_at _ = None
