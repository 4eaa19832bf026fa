-- What a line has to wait for.
use Rattle.std.specs.Prelude.{Some, None}
use Rattle.flip_plan.specs.declared.flip.PlannedFlip.{PlannedFlip}
use Rattle.step_machine.specs.Total.{Total}
use Rattle.fault_lines.specs.Wakes.{IsDead}
use Rattle.fault_lines.specs.Keeping.{IsNowFor}
use Rattle.plan_runs.specs.declared.place.Place.{Place}
use Rattle.plan_runs.specs.declared.place.Place.TheVariants as place

abbrev pub IsPlace : Total → PlannedFlip → Place → Type 0
IsPlace m f place.Nowhere = IsDead m f
IsPlace m f place.Object = IsNowFor m f None
IsPlace m f (place.Part class) = IsNowFor m f (Some class)
