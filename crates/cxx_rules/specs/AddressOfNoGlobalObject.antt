-- N7: the operand of `&` is not the name of a global object. The place is the `&`.
use Rattle.std.specs.Prelude.{Option, None, is_some}
use Rattle.agxx_base.specs.declared.place.Place.{Place}
use Rattle.cxx_rules.specs.Sites.{object_of}
use Rattle.cxx_rules.specs.Forms as form
use Rattle.cxx_rules.specs.Forms.{Form}
use Rattle.cxx_rules.specs.Unless.{unless}

abbrev pub address_of_no_global_object_at : Form → Option Place
address_of_no_global_object_at (form.address w n operand) = unless (is_some (object_of w operand)) n.at
address_of_no_global_object_at _ = None
