-- N5: the base of a class is no class that is declared before. The place is the base's name.
use Rattle.std.specs.Prelude.{Option, Some, None, is_some}
use Rattle.agxx_base.specs.declared.place.Place.{Place}
use Rattle.cxx_rules.specs.Forms as form
use Rattle.cxx_rules.specs.Forms.{Form}
use Rattle.cxx_rules.specs.Unless.{unless}

abbrev pub base_not_declared_before_at : Form → Option Place
base_not_declared_before_at (form.head w (Some name) class) = unless (is_some class.base) name.at
base_not_declared_before_at _ = None
