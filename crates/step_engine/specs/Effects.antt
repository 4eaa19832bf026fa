-- Effects and turns of the code as those of the machine.
use Rattle.std.specs.Prelude.{option_map, Result, Ok, Err}
use Rattle.step_machine.specs.declared.outcome.Stop.{Stop}
use Rattle.step_machine.specs.Effects as on
use Rattle.step_frame.specs.Works.{number_of}
use Rattle.step_world.specs.declared.change.Lock as locks
use Rattle.step_world.specs.Changes.{lock_of, change_of}
use Rattle.step_engine.specs.declared.effect.Effect.{Effect}
use Rattle.step_engine.specs.declared.effect.Effect.TheVariants as effect
use Rattle.step_engine.specs.declared.effect.Turn.{Turn}
use Rattle.step_engine.specs.declared.effect.Turn.TheVariants as turn

abbrev pub effect_of : Effect → on.Effect
effect_of effect.Stay = on.does on.stay
effect_of (effect.Change c) = on.does (on.change (change_of c))
effect_of (effect.Enter f) = on.does (on.enter f)
effect_of (effect.CreateEntering class words f) = on.does (on.create_entering class words f)
effect_of (effect.Back v) = on.does (on.back v)
effect_of (effect.BackKilling o) = on.does (on.back_killing o.0)
effect_of (effect.Start f) = on.does (on.start f)
effect_of (effect.End z) = on.does (on.end z)
effect_of (effect.Halt o class) = on.does (on.halt (option_map number_of o) class)
effect_of (effect.Stop cause at) = on.stop cause at
effect_of effect.Wait = on.wait

abbrev pub turn_of : Turn → on.Turn
turn_of turn.Went = on.went
turn_of (turn.Changed c) = on.changed (change_of c)
turn_of (turn.Started f) = on.started f
turn_of turn.Blocked = on.blocked
turn_of turn.Idle = on.idle
turn_of (turn.Ended z) = on.ended z
turn_of (turn.Halted o class) = on.halted (option_map number_of o) class
turn_of (turn.Stopped cause at) = on.stopped cause at

abbrev pub lock_result : Result locks.Lock Stop → Result on.Lock Stop
lock_result (Ok l) = Ok (lock_of l)
lock_result (Err cause) = Err cause
