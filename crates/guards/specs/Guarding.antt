-- Which class has which guard. A class that several guards name has the first of them.
use Rattle.std.specs.Prelude.{List, Option}
use Rattle.agxx_base.specs.declared.ids.NameId.{NameId}
use Rattle.guards.specs.declared.guard.Guard.{Guard}
use Rattle.guards.specs.declared.guard.GuardKind.{GuardKind}
use Rattle.std.specs.Prelude.{find, nat_eq, option_map}

abbrev pub guard_of : List Guard → NameId → Option Guard
guard_of guards class = find (λ (g : Guard). nat_eq g.class.0 class.0) guards

abbrev pub kind_of : List Guard → NameId → Option GuardKind
kind_of guards class = option_map (λ (g : Guard). g.kind) (guard_of guards class)
