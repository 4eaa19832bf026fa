-- Which items work on the values of their frame, or go on there or leave it.
use Rattle.std.specs.Prelude.{Bool, true, false}
use Rattle.step_frame.specs.declared.work.Work.{Work}
use Rattle.step_frame.specs.declared.work.Work.TheVariants as work

abbrev pub goes_on : Work → Bool
goes_on work.Finish = true
goes_on (work.While e body) = true
goes_on (work.OpOne at o) = true
goes_on (work.OpTwo at o) = true
goes_on (work.OpLeft at o) = true
goes_on (work.Cast k) = true
goes_on (work.Short is_and e) = true
goes_on work.Truth = true
goes_on work.Drop = true
goes_on (work.Bind name t) = true
goes_on (work.Keep t) = true
goes_on (work.Branch a b) = true
goes_on (work.Loop e body) = true
goes_on (work.ForTest e step body) = true
goes_on (work.ForLoop e step body) = true
goes_on (work.Leave at) = true
goes_on (work.End at ending) = true
goes_on _ = false
