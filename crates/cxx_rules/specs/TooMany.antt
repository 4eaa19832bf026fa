-- N10: there are too many of something. The place is that of the first past the limit; for a string its quote.
use Rattle.std.specs.Prelude.{ℕ, suc, not, nat_eq, nat_lt, length, Option, None}
use Rattle.agxx_base.specs.declared.place.Place.{Place}
use Rattle.cxx_distinct.specs.Sights.{name_past}
use Rattle.cxx_types.specs.declared.limits.Counts.{Counts}
use Rattle.cxx_types.specs.Counts.{most_params, most_ancestors, most_bytes}
use Rattle.cxx_rules.specs.Forms as form
use Rattle.cxx_rules.specs.Forms.{Form, Kind}
use Rattle.cxx_rules.specs.Unless.{unless}

abbrev pub limit : Counts → Kind → ℕ
limit m form.classes = m.classes
limit m form.globals = m.globals
limit m form.functions = m.functions
limit m form.ancestors = suc most_ancestors
limit m form.members = m.members
limit m form.methods = m.methods
limit m form.params = most_params
limit m form.locals = m.locals
limit m form.returns = m.returns

abbrev pub too_many_at : Counts → Form → Option Place
too_many_at m (form.counted kind before at) = unless (not (nat_eq before (limit m kind))) at
too_many_at m (form.text q) = unless (not (nat_lt most_bytes (length q.bytes))) q.at
too_many_at m (form.names q) = name_past m.names q
too_many_at m _ = None
